-- What the elements of two lists have in common.
use Rattle.std.proofs.Common.{◌≡◌, ◌≢◌, List, [], ◌∷◌, ◌++◌, Bool, true, false, refl, sym, ◌∙◌, subst}
use Rattle.std.specs.List.{All}
use Rattle.std.proofs.lemmas.Bool.{and_parts}
use Rattle.std.proofs.Math.Bool.{and-true, and-false}
use Rattle.rma_type.specs.declared.component.Component.TheVariants.{One, Mixed}
use Rattle.rma_datatype.specs.declared.basic.Basic.TheVariants.{SignedChar}
use Rattle.rma_datatype.specs.declared.operation.Op.{Op}
use Rattle.rma_datatype.specs.Basic.{basic_class}
use Rattle.rma_datatype.specs.Operation.{op_allows}
use Rattle.rma_buffer.specs.Rules.{is_allowed}
use Rattle.rma_buffer.proofs.Words.{Basic, Component, IsComponentOf, is_same, list_all, All-cons, All-nil, All-append, All-head, All-tail}
use Rattle.rma_buffer.proofs.BasicLemmas.{same_is_equal, same_itself}

pub never_true : (t : Bool) → (t ≡ true → ⊥) → t ≡ false
never_true true h = absurd (h refl)
never_true false h = refl

-- ---- lists of one basic datatype

pub all_first : (P : Basic → Type 0) (xs ys : List Basic) → All P (xs ++ ys) → All P xs
all_first P [] ys h = All-nil P
all_first P (x ∷ xs) ys h = All-cons P x xs (All-head P x (xs ++ ys) h) (all_first P xs ys (All-tail P x (xs ++ ys) h))

pub all_last : (P : Basic → Type 0) (xs ys : List Basic) → All P (xs ++ ys) → All P ys
all_last P [] ys h = h
all_last P (x ∷ xs) ys h = all_last P xs ys (All-tail P x (xs ++ ys) h)

pub some_first : (xs ys : List Basic) → xs ≢ [] → xs ++ ys ≢ []
some_first [] ys some e = some refl
some_first (x ∷ xs) ys some e = cc

-- all elements of lists that are not empty are one, so their basic datatypes are
pub one_of_all : (xs : List Basic) (a b : Basic) → xs ≢ [] → All (λ x. x ≡ a) xs → All (λ x. x ≡ b) xs → a ≡ b
one_of_all [] a b some h k = absurd (some refl)
one_of_all (x ∷ xs) a b some h k = sym (All-head (λ y. y ≡ a) x xs h) ∙ All-head (λ y. y ≡ b) x xs k

pub all_both : (a b : Basic) (xs ys : List Basic) → a ≡ b → All (λ x. x ≡ a) xs → All (λ x. x ≡ b) ys → All (λ x. x ≡ a) (xs ++ ys)
all_both a b xs ys same h k = All-append (λ x. x ≡ a) xs ys h (subst (λ c. All (λ x. x ≡ c) ys) (sym same) k)

pub none_both : (a b : Basic) (xs ys : List Basic) → a ≢ b → xs ≢ [] → ys ≢ [] → All (λ x. x ≡ a) xs → All (λ x. x ≡ b) ys → (basic : Basic) → All (λ x. x ≡ basic) (xs ++ ys) → ⊥
none_both a b xs ys other first last h k basic all =
    other (one_of_all xs a basic first h (all_first (λ x. x ≡ basic) xs ys all) ∙ sym (one_of_all ys b basic last k (all_last (λ x. x ≡ basic) xs ys all)))

-- ---- operations

pub same_all : (basic : Basic) (basics : List Basic) → All (λ b. b ≡ basic) basics → list_all (is_same basic) basics ≡ true
same_all basic [] h = refl
same_all basic (b ∷ basics) h =
    let first : is_same basic b ≡ true = rw (All-head (λ x. x ≡ basic) b basics h) (same_itself basic) in
    rw (first, same_all basic basics (All-tail (λ x. x ≡ basic) b basics h))

pub all_same : (basic : Basic) (basics : List Basic) → list_all (is_same basic) basics ≡ true → All (λ b. b ≡ basic) basics
all_same basic [] h = All-nil (λ b. b ≡ basic)
all_same basic (b ∷ basics) h =
    let parts = and_parts (is_same basic b) (list_all (is_same basic) basics) h in
    All-cons (λ x. x ≡ basic) b basics (sym (same_is_equal basic b parts.0)) (all_same basic basics parts.1)

-- ---- what is known of the elements of two lists

pub mixed_first : (first : Component) (basics others : List Basic) → first ≡ Mixed → IsComponentOf basics first → IsComponentOf (basics ++ others) Mixed
mixed_first first basics others is h = let all = rw is at h in λ basic k. all basic (all_first (λ b. b ≡ basic) basics others k)

pub mixed_last : (last : Component) (basics others : List Basic) → last ≡ Mixed → IsComponentOf others last → IsComponentOf (basics ++ others) Mixed
mixed_last last basics others is h = let all = rw is at h in λ basic k. all basic (all_last (λ b. b ≡ basic) basics others k)

pub one_of_both : (first last : Component) (a b : Basic) (basics others : List Basic) → first ≡ One a → last ≡ One b → a ≡ b →
    IsComponentOf basics first → IsComponentOf others last → IsComponentOf (basics ++ others) (One a)
one_of_both first last a b basics others is_a is_b same h k =
    let all_a = rw is_a at h in
    let all_b = rw is_b at k in
    (some_first basics others all_a.0, all_both a b basics others same all_a.1 all_b.1)

pub mixed_of_both : (first last : Component) (a b : Basic) (basics others : List Basic) → first ≡ One a → last ≡ One b → a ≢ b →
    IsComponentOf basics first → IsComponentOf others last → IsComponentOf (basics ++ others) Mixed
mixed_of_both first last a b basics others is_a is_b other h k =
    let all_a = rw is_a at h in
    let all_b = rw is_b at k in
    none_both a b basics others other all_a.0 all_b.0 all_a.1 all_b.1

-- an operation is allowed for elements that have one basic datatype where it is allowed for that, and for no others
pub allowed_one : (op : Op) (component : Component) (basic : Basic) (basics : List Basic) → component ≡ One basic → IsComponentOf basics component → op_allows op (basic_class basic) ≡ is_allowed op basics
allowed_one op component basic [] is h = let all = rw is at h in absurd (all.0 refl)
allowed_one op component basic (b ∷ basics) is h =
    let all = rw is at h in
    let first = All-head (λ x. x ≡ basic) b basics all.1 in
    rw (first, same_all basic basics (All-tail (λ x. x ≡ basic) b basics all.1)) (sym (and-true (op_allows op (basic_class basic))))

pub refused_mixed : (op : Op) (component : Component) (basics : List Basic) → component ≡ Mixed → IsComponentOf basics component → false ≡ is_allowed op basics
refused_mixed op component [] is h = let all = rw is at h in absurd (all SignedChar (All-nil (λ b. b ≡ SignedChar)))
refused_mixed op component (b ∷ basics) is h =
    let all = rw is at h in
    let apart : list_all (is_same b) basics ≡ false = never_true (list_all (is_same b) basics) (λ e. all b (All-cons (λ x. x ≡ b) b basics refl (all_same b basics e))) in
    rw apart (sym (and-false (op_allows op (basic_class b))))
