-- What good accesses touch.
use Rattle.std.proofs.Common.{◌≡◌, ◌≢◌, ℕ, zero, suc, ℤ, pos, Bool, true, false, not, List, [], ◌∷◌, ◌++◌, All, take, slice_get, Option, Some, None, option_map, option_to_list, cond, inl, inr, ⊎_elim, ◌⊎◌, refl, sym, ap, subst, ◌∙◌}
use Rattle.std.specs.Prelude.{map, nat_lt, neg_ℤ}
use Rattle.std.specs.List.{list_all, list_any}
use Rattle.std.proofs.lemmas.Bool.{and_parts, not-false, or_parts}
use Rattle.std.proofs.lemmas.List.{map-append}
use Rattle.std.proofs.lemmas.List.Elements.{All-append, All-cons, All-head, All-nil, All-tail, All-take}
use Rattle.rma_base.specs.Limits.{address_limit, element_limit}
use Rattle.rma_base.specs.declared.form_reason.FormReason.{FormReason}
use Rattle.rma_base.specs.declared.form_reason.FormReason.TheVariants as reason
use Rattle.rma_base.specs.declared.rank.Rank.{Rank}
use Rattle.rma_buffer.proofs.ElementLemmas.{all_first, all_same}
use Rattle.rma_buffer.specs.Calls.{layout_in, moved_count, rma_call_of}
use Rattle.rma_buffer.specs.Layouts.{is_same, layout_of, shares_byte}
use Rattle.rma_buffer.specs.Operands.{kind_of}
use Rattle.rma_buffer.specs.Rules.{are_committed, basic_in, basics_in, buffers_reason, callers, combined, differs, first_that_holds, have_many_blocks, is_allowed, is_basic_that, is_no_op, is_refused, leave_space, overlap, reason_at_target, touched_count, touched_in, uses_origin, written}
use Rattle.rma_buffer.specs.declared.operand.Operand.{Operand}
use Rattle.rma_buffer.specs.declared.operand.Operands.{Operands}
use Rattle.rma_bytes.specs.Layout.{Layout}
use Rattle.rma_call.specs.declared.rma.RmaCall.{RmaCall}
use Rattle.rma_call.specs.declared.rma.RmaKind.{RmaKind}
use Rattle.rma_call.specs.declared.rma.RmaKind.TheVariants.{Put, Get, Accumulate, GetAccumulate, FetchAndOp, CompareAndSwap}
use Rattle.rma_datatype.specs.Basic.{basic_class}
use Rattle.rma_datatype.specs.Operation.{is_comparable, op_allows}
use Rattle.rma_datatype.specs.declared.basic.Basic.{Basic}
use Rattle.rma_datatype.specs.declared.operation.Op.{Op}
use Rattle.rma_form.specs.declared.event.rma_line.RmaLine.{RmaLine}
use Rattle.rma_layout.proofs.SignatureLemmas.{basics_touched, none_touched}
use Rattle.rma_layout.proofs.TableLemmas.{typemap_at}
use Rattle.rma_layout.specs.Refusal.{is_all_in}
use Rattle.rma_layout.specs.declared.space.Space.TheVariants.{Local, Target}
use Rattle.rma_type.specs.Table.{typemap_in, typemaps}
use Rattle.rma_type.specs.declared.origin.Origin.{Origin}
use Rattle.rma_type.specs.declared.origin.Origin.TheVariants as origin
use Rattle.rma_typemap.proofs.SignatureLemmas.{copies_suc, copies_zero}
use Rattle.rma_typemap.specs.Bounds.{signature}
use Rattle.rma_typemap.specs.Signature.{copies}
use Rattle.rma_typemap.specs.Typemap.{Typemap, element}
use Rattle.rma_kept.specs.Touched.{HasCanonicalRuns, IsFilledBy, IsInSpace, IsNearStart, LiesIn, is_accumulate, own_layouts, writes_target}
use Rattle.rma_kept.proofs.LayoutLemmas.{canonical, filled_by, in_space, near_start, no_runs, overlaps_are}

-- ---- the reasons that do not hold

none_of_six : (a b c d e f : Bool)
    → first_that_holds ((reason.OperationNotAllowed, a) ∷ (reason.TooManyElements, b) ∷ (reason.SignatureDiffers, c) ∷ (reason.TooManyBlocks, d) ∷ (reason.OutOfSpace, e) ∷ (reason.OverlappingType, f) ∷ []) ≡ None
    → (a ≡ false) × (e ≡ false) × (f ≡ false)
none_of_six true b c d e f h = cc
none_of_six false true c d e f h = cc
none_of_six false false true d e f h = cc
none_of_six false false false true e f h = cc
none_of_six false false false false true f h = cc
none_of_six false false false false false true h = cc
none_of_six false false false false false false h = (refl, refl, refl)

committed_none : (committed : Bool) (rest : Option FormReason) → cond (not committed) (Some reason.NotCommitted) rest ≡ None → rest ≡ None
committed_none true rest h = h
committed_none false rest h = cc

at_target_none : (origins : List Origin) (committed : List Bool) (kind : RmaKind) (target : Rank) (it : Operands) → buffers_reason origins committed kind (Some target) it ≡ None
    → reason_at_target origins kind it ≡ None
unfolding buffers_reason
at_target_none origins committed kind target it none = committed_none (are_committed committed it) (reason_at_target origins kind it) none

-- ---- one basic datatype

allowed : (op : Op) (xs ys : List Basic) → is_allowed op (xs ++ ys) ≡ true → (xs ≡ []) ⊎ ((basic : Basic) × All (λ b. b ≡ basic) xs)
allowed op [] ys h = inl refl
allowed op (x ∷ xs) ys h = inr (x, All-cons (λ b. b ≡ x) x xs refl (all_first (λ b. b ≡ x) xs ys (all_same x (xs ++ ys) (and_parts (op_allows op (basic_class x)) (list_all (is_same x) (xs ++ ys)) h).1)))

basic_from : (holds : Basic → Bool) (found : Option Origin) → list_any holds (option_to_list (basic_in found)) ≡ true → (basic : Basic) × (found ≡ Some (origin.Basic basic))
basic_from holds None h = cc
basic_from holds (Some (origin.Basic basic)) h = (basic, refl)
basic_from holds (Some (origin.Derived constructor olds)) h = cc

signature_one : (m : Typemap) (basic : Basic) (at : ℤ) → m ≡ element basic at ∷ [] → signature m ≡ basic ∷ []
unfolding signature
signature_one m basic at e = rw e

module _ (origins : List Origin) where
  abbrev maps : List Typemap
  maps = typemaps origins

  of_basic : (holds : Basic → Bool) (it : Operand) → is_basic_that holds origins it ≡ true → (basic : Basic) × All (λ b. b ≡ basic) (basics_in maps it)
  of_basic holds it h =
      let found = basic_from holds (slice_get origins it.datatype.0) h in
      let one = signature_one (typemap_in maps it.datatype) found.0 (pos 0) (typemap_at origins it.datatype (origin.Basic found.0) found.1 tt) in
      (found.0, subst (All (λ b. b ≡ found.0)) (sym one) (All-cons (λ b. b ≡ found.0) found.0 [] refl (All-nil (λ b. b ≡ found.0))))

  one_basic : (kind : RmaKind) (it : Operands) → is_accumulate kind ≡ true → is_refused origins kind it ≡ false
      → (basics_in maps it.target ≡ []) ⊎ ((basic : Basic) × All (λ b. b ≡ basic) (basics_in maps it.target))
  one_basic Put it is good = cc
  one_basic Get it is good = cc
  one_basic (Accumulate op) it is good =
      allowed op (basics_in maps it.target) _ (not-false (is_allowed op (combined origins op it)) (or_parts (is_no_op op) (not (is_allowed op (combined origins op it))) good).1)
  one_basic (GetAccumulate op) it is good = allowed op (basics_in maps it.target) _ (not-false (is_allowed op (combined origins op it)) good)
  one_basic (FetchAndOp op) it is good =
      let holds = λ (basic : Basic). op_allows op (basic_class basic) in inr (of_basic holds it.target (not-false (is_basic_that holds origins it.target) good))
  one_basic CompareAndSwap it is good =
      let holds = λ (basic : Basic). is_comparable (basic_class basic) in inr (of_basic holds it.target (not-false (is_basic_that holds origins it.target) good))

-- ---- the elements that are touched

all_copies : (P : Basic → Type 0) (n : ℕ) (bs : List Basic) → All P bs → All P (copies n bs)
all_copies P zero bs h = subst (All P) (sym (copies_zero bs)) (All-nil P)
all_copies P (suc n) bs h = subst (All P) (sym (copies_suc n bs)) (All-append P bs (copies n bs) h (all_copies P n bs h))

all_firsts : (basic : Basic) (es : List (Basic × ℤ)) → All (λ b. b ≡ basic) (map (λ (e : Basic × ℤ). e.0) es) → All (λ e. e.0 ≡ basic) es
all_firsts basic [] h = All-nil (λ e. e.0 ≡ basic)
all_firsts basic (e ∷ es) h =
    All-cons (λ e. e.0 ≡ basic) e es (All-head (λ b. b ≡ basic) e.0 (map (λ (e : Basic × ℤ). e.0) es) h) (all_firsts basic es (All-tail (λ b. b ≡ basic) e.0 (map (λ (e : Basic × ℤ). e.0) es) h))

no_firsts : (es : List (Basic × ℤ)) → map (λ (e : Basic × ℤ). e.0) es ≡ [] → es ≡ []
no_firsts [] h = refl
no_firsts (e ∷ es) h = cc

module _ (maps : List Typemap) (m : ℕ) (it : Operand) where
  firsts : map (λ (e : Basic × ℤ). e.0) (touched_in maps m it) ≡ take m (copies it.count (basics_in maps it))
  firsts = basics_touched (typemap_in maps it.datatype) it.count (pos it.address) m

  all_touched : (basic : Basic) → All (λ b. b ≡ basic) (basics_in maps it) → All (λ e. e.0 ≡ basic) (touched_in maps m it)
  all_touched basic h = all_firsts basic (touched_in maps m it) (subst (All (λ b. b ≡ basic)) (sym firsts) (All-take (λ b. b ≡ basic) m (copies it.count (basics_in maps it)) (all_copies (λ b. b ≡ basic) it.count (basics_in maps it) h)))

  none_at_all : basics_in maps it ≡ [] → touched_in maps m it ≡ []
  none_at_all none = no_firsts (touched_in maps m it) (firsts ∙ ap (λ bs. take m (copies it.count bs)) none ∙ ap (take m) (nothing it.count) ∙ nil m)
    where
      nothing : (n : ℕ) → copies n [] ≡ []
      nothing zero = copies_zero []
      nothing (suc n) = copies_suc n [] ∙ nothing n

      nil : (n : ℕ) → take n (let none : List Basic = [] in none) ≡ []
      nil zero = refl
      nil (suc n) = refl

  nothing_touched : m ≡ 0 → touched_in maps m it ≡ []
  nothing_touched none = none_touched (typemap_in maps it.datatype) it.count (pos it.address) m none

-- ---- the layouts of a call

-- the access of a good line touches what it may
pub record IsGoodAccess (access : RmaCall) : Type 0 where
  pub near : IsNearStart access.at_target
  pub own : All IsInSpace (own_layouts access)
  pub target_canonical : HasCanonicalRuns access.at_target
  pub own_canonical : All HasCanonicalRuns (own_layouts access)
  pub nothing : access.target ≡ None → All (λ (layout : Layout). layout.runs ≡ []) (access.at_target ∷ own_layouts access)
  pub once : writes_target access.kind ≡ true → access.at_target.overlaps ≡ false
  pub element : is_accumulate access.kind ≡ true → access.at_target.runs ≢ [] → (basic : Basic) × IsFilledBy basic access.at_target

if_used : {A B : Type 0} → (f : A → B) (used : Bool) (x : A) → option_to_list (cond used (Some (f x)) None) ≡ map f (cond used (x ∷ []) [])
if_used f true x = refl
if_used f false x = refl

if_there : {A B : Type 0} → (f : A → B) (o : Option A) → option_to_list (option_map f o) ≡ map f (option_to_list o)
if_there f None = refl
if_there f (Some x) = refl

module _ (origins : List Origin) (line : RmaLine) (it : Operands) where
  abbrev kind : RmaKind
  kind = kind_of line.access

  abbrev many : ℕ
  many = moved_count (typemaps origins) kind line.target it

  abbrev laid : Operand → Layout
  laid one = layout_in (typemaps origins) many one

  own_are : own_layouts (rma_call_of origins line it) ≡ map laid (callers kind it)
  unfolding rma_call_of
  own_are =
      let used = cond (uses_origin kind) (it.origin ∷ []) [] in
      sym (map-append laid used (option_to_list it.result ++ option_to_list it.compare)
      ∙ ap (λ ls. map laid used ++ ls) (map-append laid (option_to_list it.result) (option_to_list it.compare))
      ∙ ap (λ ls. ls ++ (map laid (option_to_list it.result) ++ map laid (option_to_list it.compare))) (sym (if_used laid (uses_origin kind) it.origin))
      ∙ ap (λ ls. option_to_list (cond (uses_origin kind) (Some (laid it.origin)) None) ++ (ls ++ map laid (option_to_list it.compare))) (sym (if_there laid it.result))
      ∙ ap (λ ls. option_to_list (cond (uses_origin kind) (Some (laid it.origin)) None) ++ (option_to_list (option_map laid it.result) ++ ls)) (sym (if_there laid it.compare)))

  target_is : (rma_call_of origins line it).at_target ≡ laid it.target
  unfolding rma_call_of
  target_is = refl

  kind_is : (rma_call_of origins line it).kind ≡ kind
  unfolding rma_call_of
  kind_is = refl

  goes_to : (rma_call_of origins line it).target ≡ line.target
  unfolding rma_call_of
  goes_to = refl

  -- ---- without a target

  module _ (none : many ≡ 0) where
    no_bytes : (one : Operand) → (laid one).runs ≡ []
    no_bytes one = no_runs (touched_in (typemaps origins) many one) (nothing_touched (typemaps origins) many one none)

    -- what holds of each layout without bytes holds of all
    all_of : (P : Layout → Type 0) → ((layout : Layout) → layout.runs ≡ [] → P layout) → (them : List Operand) → All P (map laid them)
    all_of P holds [] = All-nil P
    all_of P holds (one ∷ them) = All-cons P (laid one) (map laid them) (holds (laid one) (no_bytes one)) (all_of P holds them)

    target_empty : (rma_call_of origins line it).at_target.runs ≡ []
    target_empty = ap (λ (layout : Layout). layout.runs) target_is ∙ no_bytes it.target

    none_good : IsGoodAccess (rma_call_of origins line it)
    none_good = record {
      near = rw target_empty (All-nil (LiesIn (neg_ℤ (pos address_limit)) (pos address_limit)));
      own = rw own_are (all_of IsInSpace (λ layout none. rw none (All-nil (LiesIn (pos 0) (pos address_limit)))) (callers kind it));
      target_canonical = rw target_empty tt;
      own_canonical = rw own_are (all_of HasCanonicalRuns (λ layout none. rw none tt) (callers kind it));
      nothing = λ untargeted. rw (target_is, own_are) (all_of (λ layout. layout.runs ≡ []) (λ layout none. none) (it.target ∷ callers kind it));
      once = λ writes. ap (λ (layout : Layout). layout.overlaps) target_is ∙ overlaps_are (touched_in (typemaps origins) many it.target)
          ∙ ap shares_byte (nothing_touched (typemaps origins) many it.target none);
      element = λ accumulates some. absurd (some target_empty);
    }

  -- ---- with a target

  module _ (same : many ≡ touched_count (typemaps origins) kind it) (good : reason_at_target origins kind it ≡ None) (targeted : line.target ≡ None → ⊥) where
    parts : (is_refused origins kind it ≡ false) × (leave_space (typemaps origins) kind many it ≡ false) × (overlap (typemaps origins) kind many it ≡ false)
    parts =
        let all = none_of_six (is_refused origins kind it) (nat_lt element_limit (touched_count (typemaps origins) kind it)) (differs (typemaps origins) kind it)
        (have_many_blocks (typemaps origins) kind (touched_count (typemaps origins) kind it) it) (leave_space (typemaps origins) kind (touched_count (typemaps origins) kind it) it)
        (overlap (typemaps origins) kind (touched_count (typemaps origins) kind it) it) good in
        (all.0, ap (λ m. leave_space (typemaps origins) kind m it) same ∙ all.1, ap (λ m. overlap (typemaps origins) kind m it) same ∙ all.2)

    abbrev at_target : List (Basic × ℤ)
    at_target = touched_in (typemaps origins) many it.target

    abbrev leaves : Operand → Bool
    leaves one = not (is_all_in Local (touched_in (typemaps origins) many one))

    in_place : (is_all_in Target at_target ≡ true) × (list_any leaves (callers kind it) ≡ false)
    in_place =
        let both = or_parts (not (is_all_in Target at_target)) (list_any leaves (callers kind it)) parts.1 in
        (not-false (is_all_in Target at_target) both.0, both.1)

    -- what holds of the layout of all elements in the space holds of each
    each_in : (P : Layout → Type 0) → ((es : List (Basic × ℤ)) → is_all_in Local es ≡ true → P (layout_of es)) → (them : List Operand) → list_any leaves them ≡ false → All P (map laid them)
    each_in P holds [] none = All-nil P
    each_in P holds (one ∷ them) none =
        let both = or_parts (leaves one) (list_any leaves them) none in
        All-cons P (laid one) (map laid them)
        (holds (touched_in (typemaps origins) many one) (not-false (is_all_in Local (touched_in (typemaps origins) many one)) both.0)) (each_in P holds them both.1)

    written_is : (k : RmaKind) → writes_target k ≡ true → written k it ≡ it.target
    written_is Put writes = refl
    written_is Get writes = cc
    written_is (Accumulate op) writes = refl
    written_is (GetAccumulate op) writes = refl
    written_is (FetchAndOp op) writes = refl
    written_is CompareAndSwap writes = refl

    writes_too : (k : RmaKind) → is_accumulate k ≡ true → writes_target k ≡ true
    writes_too Put accumulates = cc
    writes_too Get accumulates = cc
    writes_too (Accumulate op) accumulates = refl
    writes_too (GetAccumulate op) accumulates = refl
    writes_too (FetchAndOp op) accumulates = refl
    writes_too CompareAndSwap accumulates = refl

    once_of : writes_target kind ≡ true → shares_byte at_target ≡ false
    once_of writes =
        ap (λ one. shares_byte (touched_in (typemaps origins) many one)) (sym (written_is kind writes))
        ∙ (or_parts (shares_byte (touched_in (typemaps origins) many (written kind it)))
        (list_any (λ result. shares_byte (touched_in (typemaps origins) many result)) (option_to_list it.result)) parts.2).0

    filled_of : is_accumulate kind ≡ true → (laid it.target).runs ≢ [] → (basic : Basic) × IsFilledBy basic (laid it.target)
    filled_of accumulates some = ⊎_elim
        (λ (none : basics_in (typemaps origins) it.target ≡ []). absurd (some (no_runs at_target (none_at_all (typemaps origins) many it.target none))))
        (λ (one : (basic : Basic) × All (λ b. b ≡ basic) (basics_in (typemaps origins) it.target)).
        (one.0, filled_by one.0 at_target (λ none. some (no_runs at_target none)) (all_touched (typemaps origins) many it.target one.0 one.1) (once_of (writes_too kind accumulates))))
        (one_basic origins kind it accumulates parts.0)

    target_good : IsGoodAccess (rma_call_of origins line it)
    target_good = record {
      near = rw target_is (near_start at_target in_place.0);
      own = rw own_are (each_in IsInSpace in_space (callers kind it) in_place.1);
      target_canonical = rw target_is (canonical Target at_target in_place.0);
      own_canonical = rw own_are (each_in HasCanonicalRuns (canonical Local) (callers kind it) in_place.1);
      nothing = λ untargeted. absurd (targeted (sym goes_to ∙ untargeted));
      once = λ writes. ap (λ (layout : Layout). layout.overlaps) target_is ∙ overlaps_are at_target ∙ once_of (ap writes_target (sym kind_is) ∙ writes);
      element = λ accumulates some. rw target_is (filled_of (ap is_accumulate (sym kind_is) ∙ accumulates) (λ none. some (ap (λ (layout : Layout). layout.runs) target_is ∙ none)));
    }

-- a line whose buffers are good
pub access_good : (origins : List Origin) (committed : List Bool) (line : RmaLine) (it : Operands) → buffers_reason origins committed (kind_of line.access) line.target it ≡ None
    → IsGoodAccess (rma_call_of origins line it)
access_good origins committed line it none = by line.target refl none
  where
    by : (target : Option Rank) → line.target ≡ target → buffers_reason origins committed (kind_of line.access) target it ≡ None → IsGoodAccess (rma_call_of origins line it)
    by None is good = none_good origins line it (ap (λ target. moved_count (typemaps origins) (kind_of line.access) target it) is)
    by (Some rank) is good =
        target_good origins line it (ap (λ target. moved_count (typemaps origins) (kind_of line.access) target it) is)
        (at_target_none origins committed (kind_of line.access) rank it good) (λ untargeted. let wrong : Some rank ≡ None = sym is ∙ untargeted in cc wrong)
