-- Why a table refuses a constructor, step by step.
use Rattle.std.proofs.Common.{◌≡◌, ℕ, List, map, Some, None, is_some, Bool, true, false, nat_lt, ◌⊎◌, inl, inr, sym, ap, ◌∙◌}
use Rattle.rma_type.proofs.Words.{element_limit, Make, TypeId, UnknownType, NameInUse, NegativeCount, BadSubarray, OutOfSpace, TypeError, Fault, Memory, Summary, Typemap, entry_count, constructed, is_all_in_space, summary, summary_is_in_space, Table, typemaps, typemap_in, id_of, old_names, old_types_of, all_live, has_negative, breaks_array, has_large_array, new_typemap, refusal, IsErrorOf, IsChecked, IsMeasured, typemap_of_new, refusal_of_new}
use Rattle.rma_type.proofs.CheckLemmas.{not_above}
use Rattle.rma_typemap.proofs.SpaceLemmas.{is_all_in_space_is}

new_typemap_is : (t : Table) (constructor : Make) (old_types : List TypeId) → old_types ≡ old_types_of t.live (old_names constructor) → new_typemap t constructor ≡ typemap_of_new t.origins constructor old_types
unfolding new_typemap
new_typemap_is t constructor old_types is = ap (λ ids. constructed constructor (map (typemap_in (typemaps t.origins)) ids)) (sym is)

-- ---- what is asked first

pub error_unknown : (t : Table) (name : List ℕ) (constructor : Make) (e : TypeError) →
    (e ≡ Memory) ⊎ ((e ≡ Fault UnknownType) × (all_live t.live (old_names constructor) ≡ false)) → IsErrorOf (refusal t name constructor) e
unfolding refusal
error_unknown t name constructor e (inl p) = rw p tt
error_unknown t name constructor e (inr q) = rw (q.0, q.1)

pub refusal_in_use : (t : Table) (name : List ℕ) (constructor : Make) → all_live t.live (old_names constructor) ≡ true → is_some (id_of t.live name) ≡ true →
    refusal t name constructor ≡ Some NameInUse
unfolding refusal
refusal_in_use t name constructor k u = rw (k, u)

pub refusal_negative : (t : Table) (name : List ℕ) (constructor : Make) → all_live t.live (old_names constructor) ≡ true → is_some (id_of t.live name) ≡ false →
    has_negative constructor ≡ true → refusal t name constructor ≡ Some NegativeCount
unfolding refusal
refusal_negative t name constructor k u n = rw (k, u, n)

pub refusal_broken : (t : Table) (name : List ℕ) (constructor : Make) → all_live t.live (old_names constructor) ≡ true → is_some (id_of t.live name) ≡ false →
    has_negative constructor ≡ false → breaks_array constructor ≡ true → refusal t name constructor ≡ Some BadSubarray
unfolding refusal
refusal_broken t name constructor k u n b = rw (k, u, n, b)

-- ---- what is asked of the typemap

pub refusal_checked : (t : Table) (name : List ℕ) (constructor : Make) (old_types : List TypeId) → IsChecked t name constructor old_types →
    refusal t name constructor ≡ refusal_of_new (typemap_of_new t.origins constructor old_types) constructor
unfolding refusal
refusal_checked t name constructor old_types c = rw (c.known, ap is_some c.fresh, c.counts, c.parts, new_typemap_is t constructor old_types c.old_types_are)

taken : (parts : Typemap) (constructor : Make) → nat_lt element_limit (entry_count parts) ≡ false → is_all_in_space parts ≡ true → has_large_array constructor ≡ false → refusal_of_new parts constructor ≡ None
taken parts constructor few within small = rw (few, within, small)

in_space_by : (parts : Typemap) (o : Summary) (test : Bool) → o ≡ summary parts → summary_is_in_space o ≡ test → is_all_in_space parts ≡ test
in_space_by parts o test is t = is_all_in_space_is parts ∙ ap summary_is_in_space (sym is) ∙ t

pub IsMeasured_by : (parts : Typemap) (constructor : Make) (o : Summary) → o ≡ summary parts → nat_lt element_limit (entry_count parts) ≡ false → has_large_array constructor ≡ false →
    summary_is_in_space o ≡ true → IsMeasured parts constructor o
IsMeasured_by parts constructor o is few small test =
    let within = in_space_by parts o true is test in
    record { summary_is = is; taken = taken parts constructor few within small; in_space = within; few = not_above element_limit (entry_count parts) few }

pub refusal_out : (parts : Typemap) (constructor : Make) (o : Summary) → o ≡ summary parts → nat_lt element_limit (entry_count parts) ≡ false →
    summary_is_in_space o ≡ false → refusal_of_new parts constructor ≡ Some OutOfSpace
refusal_out parts constructor o is few test = rw (few, in_space_by parts o false is test)
