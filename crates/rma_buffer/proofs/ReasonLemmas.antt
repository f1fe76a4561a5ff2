-- Which reason for bad buffers comes first.
use Rattle.std.proofs.Common.{◌≡◌, ℕ, List, [], ◌∷◌, ◌++◌, Bool, true, false, not, ◌||◌, nat_lt, option_to_list, Option, Some, None, is_none, if◌then◌else◌, refl, sym, ap, ◌∙◌}
use Rattle.rma_base.specs.Limits.{element_limit}
use Rattle.rma_base.specs.declared.form_reason.FormReason.{FormReason}
use Rattle.rma_base.specs.declared.form_reason.FormReason.TheVariants as reason
use Rattle.rma_base.specs.declared.rank.Rank.{Rank}
use Rattle.rma_call.specs.declared.rma.RmaKind.{RmaKind}
use Rattle.rma_layout.specs.Refusal.{is_all_in}
use Rattle.rma_layout.specs.Touched.{touched}
use Rattle.rma_layout.specs.declared.space.Space.TheVariants.{Local, Target}
use Rattle.rma_type.specs.Table.{typemaps}
use Rattle.rma_type.specs.declared.origin.Origin.{Origin}
use Rattle.rma_typemap.specs.Typemap.{Typemap}
use Rattle.rma_buffer.specs.Layouts.{shares_byte}
use Rattle.rma_buffer.specs.Rules.{are_committed, buffers_reason, callers, differs, first_that_holds, has_many_blocks, have_many_blocks, is_refused, leave_space, overlap, reason_at_target, touched_count, touched_in, written}
use Rattle.rma_buffer.specs.declared.operand.Operand.{Operand}
use Rattle.rma_buffer.specs.declared.operand.Operands.{Operands}
use Rattle.rma_buffer.specs.inside.Layouts.{bytes_reason}
use Rattle.rma_buffer.proofs.Words.{list_any}

-- ---- lists of reasons

pub first_now : (xs ys : List (FormReason × Bool)) (r : FormReason) → first_that_holds xs ≡ Some r → first_that_holds (xs ++ ys) ≡ Some r
first_now [] ys r h = absurd (cc)
first_now ((x, true) ∷ xs) ys r h = h
first_now ((x, false) ∷ xs) ys r h = first_now xs ys r h

pub first_later : (xs ys : List (FormReason × Bool)) → first_that_holds xs ≡ None → first_that_holds (xs ++ ys) ≡ first_that_holds ys
first_later [] ys h = refl
first_later ((x, true) ∷ xs) ys h = absurd (cc)
first_later ((x, false) ∷ xs) ys h = first_later xs ys h

none_holds : (p q r : FormReason) (a b c : Bool) → first_that_holds ((p, a) ∷ (q, b) ∷ (r, c) ∷ []) ≡ None → (a ≡ false) × (b ≡ false) × (c ≡ false)
none_holds p q r true b c h = absurd (cc)
none_holds p q r false true c h = absurd (cc)
none_holds p q r false false true h = absurd (cc)
none_holds p q r false false false h = (refl, refl, refl)

none_of_three : (p q r : FormReason) (a b c : Bool) → a ≡ false → b ≡ false → c ≡ false → first_that_holds ((p, a) ∷ (q, b) ∷ (r, c) ∷ []) ≡ None
none_of_three p q r a b c h k l = rw (h, k, l)

-- ---- a call

module _ (origins : List Origin) (committed : List Bool) (kind : RmaKind) (target : Option Rank) (it : Operands) where
  pub uncommitted : are_committed committed it ≡ false → buffers_reason origins committed kind target it ≡ Some reason.NotCommitted
  unfolding buffers_reason
  uncommitted h = ap (λ t. if not t then Some reason.NotCommitted else (if is_none target then None else reason_at_target origins kind it)) h

  pub untargeted : are_committed committed it ≡ true → is_none target ≡ true → buffers_reason origins committed kind target it ≡ None
  unfolding buffers_reason
  untargeted h k =
      ap (λ t. if not t then Some reason.NotCommitted else (if is_none target then None else reason_at_target origins kind it)) h
      ∙ ap (λ t. if t then None else reason_at_target origins kind it) k

  pub targeted : are_committed committed it ≡ true → is_none target ≡ false → buffers_reason origins committed kind target it ≡ reason_at_target origins kind it
  unfolding buffers_reason
  targeted h k =
      ap (λ t. if not t then Some reason.NotCommitted else (if is_none target then None else reason_at_target origins kind it)) h
      ∙ ap (λ t. if t then None else reason_at_target origins kind it) k

-- the reasons that come before those of bytes, where so many elements are touched
abbrev pub early_reasons : List Origin → RmaKind → Operands → ℕ → List (FormReason × Bool)
early_reasons origins kind it m =
    (reason.OperationNotAllowed, is_refused origins kind it)
    ∷ (reason.TooManyElements, nat_lt element_limit m)
    ∷ (reason.SignatureDiffers, differs (typemaps origins) kind it)
    ∷ []

abbrev pub late_reasons : List Typemap → RmaKind → ℕ → Operands → List (FormReason × Bool)
late_reasons maps kind m it =
    (reason.TooManyBlocks, have_many_blocks maps kind m it)
    ∷ (reason.OutOfSpace, leave_space maps kind m it)
    ∷ (reason.OverlappingType, overlap maps kind m it)
    ∷ []

module _ (origins : List Origin) (kind : RmaKind) (it : Operands) (m : ℕ) (is : m ≡ touched_count (typemaps origins) kind it) where
  all_reasons : first_that_holds (early_reasons origins kind it m ++ late_reasons (typemaps origins) kind m it) ≡ reason_at_target origins kind it
  all_reasons = ap (λ n. first_that_holds (early_reasons origins kind it n ++ late_reasons (typemaps origins) kind n it)) is

  pub early : (r : FormReason) → first_that_holds (early_reasons origins kind it m) ≡ Some r → reason_at_target origins kind it ≡ Some r
  early r h = sym all_reasons ∙ first_now (early_reasons origins kind it m) (late_reasons (typemaps origins) kind m it) r h

  pub late : first_that_holds (early_reasons origins kind it m) ≡ None → reason_at_target origins kind it ≡ bytes_reason (typemaps origins) kind m it
  late h = sym all_reasons ∙ first_later (early_reasons origins kind it m) (late_reasons (typemaps origins) kind m it) h

  pub alike : first_that_holds (early_reasons origins kind it m) ≡ None → differs (typemaps origins) kind it ≡ false
  alike h = (none_holds reason.OperationNotAllowed reason.TooManyElements reason.SignatureDiffers (is_refused origins kind it) (nat_lt element_limit m) (differs (typemaps origins) kind it) h).2

-- ---- nothing is touched

any_of_none : (f : Operand → Bool) (its : List Operand) → ((it : Operand) → f it ≡ false) → list_any f its ≡ false
any_of_none f [] h = refl
any_of_none f (it ∷ its) h = rw (h it, any_of_none f its h)

neither : (a b : Bool) → a ≡ false → b ≡ false → (a || b) ≡ false
neither a b h k = rw (h, k)

none_touched : (maps : List Typemap) (it : Operand) → touched_in maps 0 it ≡ []
unfolding touched
none_touched maps it = refl

all_of_none : not (is_all_in Local []) ≡ false
unfolding is_all_in
all_of_none = refl

all_of_none_at_target : not (is_all_in Target []) ≡ false
unfolding is_all_in
all_of_none_at_target = refl

pub no_bytes : (maps : List Typemap) (kind : RmaKind) (it : Operands) → bytes_reason maps kind 0 it ≡ None
no_bytes maps kind it =
    none_of_three reason.TooManyBlocks reason.OutOfSpace reason.OverlappingType (have_many_blocks maps kind 0 it) (leave_space maps kind 0 it) (overlap maps kind 0 it)
    (neither _ _ (ap has_many_blocks (none_touched maps it.target)) (any_of_none (λ one. has_many_blocks (touched_in maps 0 one)) (callers kind it) (λ one. ap has_many_blocks (none_touched maps one))))
    (neither _ _ (ap (λ es. not (is_all_in Target es)) (none_touched maps it.target) ∙ all_of_none_at_target)
    (any_of_none (λ one. not (is_all_in Local (touched_in maps 0 one))) (callers kind it) (λ one. ap (λ es. not (is_all_in Local es)) (none_touched maps one) ∙ all_of_none)))
    (neither _ _ (ap shares_byte (none_touched maps (written kind it))) (any_of_none (λ one. shares_byte (touched_in maps 0 one)) (option_to_list it.result) (λ one. ap shares_byte (none_touched maps one))))
