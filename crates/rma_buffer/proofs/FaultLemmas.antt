-- Why buffers have no layouts.
use Rattle.std.proofs.Common.{◌≡◌, ◌≢◌, ℕ, ◌≤◌, List, [], ◌∷◌, ◌++◌, Bool, true, false, not, ◌||◌, option_to_list, option_map, Option, Some, None, Result, Ok, Err, if◌then◌else◌, refl, sym, ap, ◌∙◌}
use Rattle.std.specs.Option.{option_and_then}
use Rattle.std.proofs.lemmas.Bool.{le-ltb}
use Rattle.std.proofs.lemmas.List.Folds.{list_any-append}
use Rattle.rma_base.specs.Limits.{element_limit}
use Rattle.rma_base.specs.declared.form_reason.FormReason.TheVariants as reason
use Rattle.rma_bytes.specs.Layout.{Layout}
use Rattle.rma_call.specs.declared.rma.RmaKind.{RmaKind}
use Rattle.rma_layout.specs.Refusal.{first_fault, is_all_in, refusal}
use Rattle.rma_layout.specs.declared.fault.LayoutFault.{LayoutFault}
use Rattle.rma_layout.specs.declared.fault.LayoutFault.TheVariants.{TooManyElements, TooManyBlocks, OutOfSpace}
use Rattle.rma_layout.specs.declared.space.Space.{Space}
use Rattle.rma_layout.specs.declared.space.Space.TheVariants.{Local, Target}
use Rattle.rma_typemap.specs.Typemap.{Typemap}
use Rattle.rma_buffer.specs.Calls.{layout_in}
use Rattle.rma_buffer.specs.Rules.{callers, first_that_holds, has_many_blocks, have_many_blocks, layout_reason, leave_space, touched_in, uses_origin}
use Rattle.rma_buffer.specs.declared.layouts.Layouts.{Layouts}
use Rattle.rma_buffer.specs.declared.operand.Operand.{Operand}
use Rattle.rma_buffer.specs.declared.operand.Operands.{Operands}
use Rattle.rma_buffer.specs.inside.Layouts.{fault_of, layout_of, layouts_in, space_reason, touched_origin, worse}
use Rattle.rma_buffer.specs.inside.Placed.{ArePlaced, IsPlaced, fault_in}
use Rattle.rma_buffer.proofs.Words.{list_any}

-- ---- the first of two faults that holds

abbrev fault : Bool → Bool → Option LayoutFault
fault many out = first_fault false many out

worse_fault : (a b c d : Bool) → worse (fault a b) (fault c d) ≡ fault (a || c) (b || d)
worse_fault true b c d = refl
worse_fault false false c d = refl
worse_fault false true true d = refl
worse_fault false true false true = refl
worse_fault false true false false = refl

reason_fault : (a b : Bool) → first_that_holds ((reason.TooManyBlocks, a) ∷ (reason.OutOfSpace, b) ∷ []) ≡ option_map layout_reason (fault a b)
reason_fault true b = refl
reason_fault false true = refl
reason_fault false false = refl

fault_once : (a b : Bool) → fault a b ≡ fault (a || false) (b || false)
fault_once true true = refl
fault_once true false = refl
fault_once false true = refl
fault_once false false = refl

-- the worst of four faults, each compared with the worst of those after it
pub worst_of_all : {worst target others origin rest result compare a b d e : Option LayoutFault} →
    worst ≡ worse target others → target ≡ a → others ≡ worse origin rest → origin ≡ b → rest ≡ worse result compare → result ≡ d → compare ≡ e →
    worst ≡ worse a (worse b (worse d e))
worst_of_all w t others o rest r c = rw (w, t, others, o, rest, r, c)

-- the refusal of the first of two is never passed over
pub none_worse : (first : LayoutFault) (second : Option LayoutFault) → worse (Some first) second ≢ None
none_worse TooManyBlocks second h = cc
none_worse TooManyElements None h = cc
none_worse TooManyElements (Some TooManyBlocks) h = cc
none_worse TooManyElements (Some TooManyElements) h = cc
none_worse TooManyElements (Some OutOfSpace) h = cc
none_worse OutOfSpace None h = cc
none_worse OutOfSpace (Some TooManyBlocks) h = cc
none_worse OutOfSpace (Some TooManyElements) h = cc
none_worse OutOfSpace (Some OutOfSpace) h = cc

both_none : (first second : Option LayoutFault) → worse first second ≡ None → (first ≡ None) × (second ≡ None)
both_none None second h = (refl, h)
both_none (Some fault) second h = absurd (none_worse fault second h)

-- ---- the buffers of the caller

-- the fault of buffers
abbrev faults : (Operand → Bool) → (Operand → Bool) → List Operand → Option LayoutFault
faults many out its = fault (list_any many its) (list_any out its)

fault_if : (many out : Operand → Bool) (it : Option Operand) → option_and_then (λ one. fault (many one) (out one)) it ≡ faults many out (option_to_list it)
fault_if many out None = refl
fault_if many out (Some it) = fault_once (many it) (out it)

faults_append : (many out : Operand → Bool) (xs ys : List Operand) → worse (faults many out xs) (faults many out ys) ≡ faults many out (xs ++ ys)
faults_append many out xs ys =
    worse_fault (list_any many xs) (list_any out xs) (list_any many ys) (list_any out ys)
    ∙ rw (list_any-append many xs ys, list_any-append out xs ys)

as_list : (t : Bool) (it : Operand) → option_to_list (if t then Some it else None) ≡ (if t then it ∷ [] else [])
as_list true it = refl
as_list false it = refl

and_then_same : (f g : Operand → Option LayoutFault) (o : Option Operand) → ((it : Operand) → f it ≡ g it) → option_and_then f o ≡ option_and_then g o
and_then_same f g None h = refl
and_then_same f g (Some it) h = h it

-- ---- the buffers that were laid out

fault_placed : (maps : List Typemap) (m : ℕ) (space : Space) (it : Operand) (placed : Result Layout LayoutFault) → IsPlaced maps m space it placed → fault_of placed ≡ fault_in maps m space it
fault_placed maps m space it (Ok layout) h = sym h.1
fault_placed maps m space it (Err fault) h = sym h

faults_placed : (maps : List Typemap) (m : ℕ) (it : Option Operand) (placed : Option (Result Layout LayoutFault)) → ArePlaced maps m it placed →
    option_and_then fault_of placed ≡ option_and_then (fault_in maps m Local) it
faults_placed maps m None None h = refl
faults_placed maps m None (Some placed) h = absurd h
faults_placed maps m (Some it) None h = absurd h
faults_placed maps m (Some it) (Some placed) h = fault_placed maps m Local it placed h

-- ---- the first of the reasons

module _ (maps : List Typemap) (kind : RmaKind) (m : ℕ) (it : Operands) (few : m ≤ element_limit) where
  many : Operand → Bool
  many one = has_many_blocks (touched_in maps m one)

  out : Operand → Bool
  out one = not (is_all_in Local (touched_in maps m one))

  refused : (space : Space) (one : Operand) → fault_in maps m space one ≡ fault (has_many_blocks (touched_in maps m one)) (not (is_all_in space (touched_in maps m one)))
  unfolding refusal
  refused space one = rw (le-ltb element_limit m few)

  refused_if : (o : Option Operand) (placed : Option (Result Layout LayoutFault)) → ArePlaced maps m o placed → option_and_then fault_of placed ≡ faults many out (option_to_list o)
  unfolding many out
  refused_if o placed h =
      faults_placed maps m o placed h
      ∙ and_then_same (fault_in maps m Local) (λ one. fault (many one) (out one)) o (refused Local)
      ∙ fault_if many out o

  pub first_reason : (target : Result Layout LayoutFault) (origin result compare : Option (Result Layout LayoutFault)) →
      IsPlaced maps m Target it.target target → ArePlaced maps m (touched_origin kind it) origin → ArePlaced maps m it.result result → ArePlaced maps m it.compare compare →
      space_reason maps kind m it ≡ option_map layout_reason (worse (fault_of target) (worse (option_and_then fault_of origin) (worse (option_and_then fault_of result) (option_and_then fault_of compare))))
  unfolding many out
  first_reason target origin result compare t o r c =
      let origins = option_to_list (touched_origin kind it) in
      let results = option_to_list it.result in
      let compares = option_to_list it.compare in
      let last : worse (option_and_then fault_of result) (option_and_then fault_of compare) ≡ faults many out (results ++ compares) =
      rw (refused_if it.result result r, refused_if it.compare compare c) (faults_append many out results compares) in
      let others : worse (option_and_then fault_of origin) (worse (option_and_then fault_of result) (option_and_then fault_of compare)) ≡ faults many out (callers kind it) =
      rw (last, refused_if (touched_origin kind it) origin o) (faults_append many out origins (results ++ compares))
      ∙ ap (λ xs. faults many out (xs ++ (results ++ compares))) (as_list (uses_origin kind) it.origin) in
      let first : fault_of target ≡ fault (has_many_blocks (touched_in maps m it.target)) (not (is_all_in Target (touched_in maps m it.target))) =
      fault_placed maps m Target it.target target t ∙ refused Target it.target in
      reason_fault (have_many_blocks maps kind m it) (leave_space maps kind m it)
      ∙ ap (option_map layout_reason) (sym (rw (others, first) (worse_fault _ _ _ _)))

-- ---- the layouts, where none is refused

layout_placed : (maps : List Typemap) (m : ℕ) (it : Option Operand) (placed : Option (Result Layout LayoutFault)) → ArePlaced maps m it placed →
    option_and_then fault_of placed ≡ None → option_and_then layout_of placed ≡ option_map (layout_in maps m) it
layout_placed maps m None None h none = refl
layout_placed maps m None (Some placed) h none = absurd h
layout_placed maps m (Some it) None h none = absurd h
layout_placed maps m (Some it) (Some (Ok layout)) h none = ap Some h.0
layout_placed maps m (Some it) (Some (Err fault)) h none = absurd (cc)

layout_if_used : (f : Operand → Layout) (t : Bool) (it : Operand) → option_map f (if t then Some it else None) ≡ (if t then Some (f it) else None)
layout_if_used f true it = refl
layout_if_used f false it = refl

its_layout : (maps : List Typemap) (m : ℕ) (space : Space) (it : Operand) (placed : Result Layout LayoutFault) (layout : Layout) → placed ≡ Ok layout → IsPlaced maps m space it placed → layout ≡ layout_in maps m it
its_layout maps m space it placed layout is h = let found = rw is at h in found.0

module _ (maps : List Typemap) (kind : RmaKind) (m : ℕ) (it : Operands) where
  pub layouts_are : (placed : Result Layout LayoutFault) (origin result compare : Option (Result Layout LayoutFault)) (target : Layout) → placed ≡ Ok target →
      IsPlaced maps m Target it.target placed → ArePlaced maps m (touched_origin kind it) origin → ArePlaced maps m it.result result → ArePlaced maps m it.compare compare →
      worse (fault_of placed) (worse (option_and_then fault_of origin) (worse (option_and_then fault_of result) (option_and_then fault_of compare))) ≡ None →
      (let laid : Layouts = record {
        target = target;
        origin = option_and_then layout_of origin;
        result = option_and_then layout_of result;
        compare = option_and_then layout_of compare;
      } in laid) ≡ layouts_in maps kind m it
  layouts_are placed origin result compare target is t o r c none =
      let others = (both_none (fault_of placed) (worse (option_and_then fault_of origin) (worse (option_and_then fault_of result) (option_and_then fault_of compare))) none).1 in
      let origins = both_none (option_and_then fault_of origin) (worse (option_and_then fault_of result) (option_and_then fault_of compare)) others in
      let rest = both_none (option_and_then fault_of result) (option_and_then fault_of compare) origins.1 in
      let first : target ≡ layout_in maps m it.target = its_layout maps m Target it.target placed target is t in
      let second : option_and_then layout_of origin ≡ (if uses_origin kind then Some (layout_in maps m it.origin) else None) =
      layout_placed maps m (touched_origin kind it) origin o origins.0 ∙ layout_if_used (layout_in maps m) (uses_origin kind) it.origin in
      rw (first, second, layout_placed maps m it.result result r rest.0, layout_placed maps m it.compare compare c rest.1)
