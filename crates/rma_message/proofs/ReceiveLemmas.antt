-- The receives of a rank, as they are posted and completed.
use Rattle.std.proofs.Common.{◌≡◌, ℕ, zero, suc, ◌<◌, Bool, true, false, cond, ◌&&◌, ◌||◌, not, List, [], ◌∷◌, ◌++◌, length, get_or, set, Option, Some, None, is_some, nat_eq, eqb, ◌⊎◌, inl, inr, ⊎_elim, refl, sym, ap, subst, ◌∙◌, arith}
use Rattle.std.specs.Prelude.{option_map}
use Rattle.std.specs.List.{list_any}
use Rattle.std.specs.Option.{option_map_or}
use Rattle.std.specs.Map.{lookup}
use Rattle.std.proofs.lemmas.Option.{same_Some}
use Rattle.std.proofs.lemmas.Bool.{false≢true, eqb-true}
use Rattle.rma_message.specs.declared.receive.Receive.{Receive}
use Rattle.rma_message.specs.declared.receive.Completion.{Completion}
use Rattle.rma_message.specs.Receive.{makes, is_open, open_at, complete_at}
use Rattle.rma_message.specs.inside.Open.{AreOpen}
use Rattle.rma_message.proofs.ListLemmas.{both}

-- ---- one more receive

list_any_push : (request : ℕ) (rs : List Receive) (r : Receive) → list_any (makes request) (rs ++ r ∷ []) ≡ (list_any (makes request) rs || makes request r)
list_any_push request [] r = by (makes request r)
  where
    by : (b : Bool) → (b || false) ≡ b
    by true = refl
    by false = refl
list_any_push request (x ∷ rs) r = ap (λ b. makes request x || b) (list_any_push request rs r) ∙ by (makes request x)
  where
    by : (b : Bool) → (b || (list_any (makes request) rs || makes request r)) ≡ ((b || list_any (makes request) rs) || makes request r)
    by true = refl
    by false = refl

-- a receive of another request, or of none, changes nothing
pub open_at_other : (request : ℕ) (rs : List Receive) (r : Receive) → makes request r ≡ false → open_at request (rs ++ r ∷ []) ≡ open_at request rs
open_at_other request [] r other = rw other refl
open_at_other request (x ∷ rs) r other =
    let same : list_any (makes request) (rs ++ r ∷ []) ≡ list_any (makes request) rs = list_any_push request rs r ∙ rw other (by (list_any (makes request) rs)) in
    rw (same, open_at_other request rs r other) refl
  where
    by : (b : Bool) → (b || false) ≡ b
    by true = refl
    by false = refl

-- a receive of the request that is open is the one that is pending
pub open_at_own : (request : ℕ) (rs : List Receive) (r : Receive) → makes request r ≡ true → is_open r ≡ true → open_at request (rs ++ r ∷ []) ≡ Some (length rs)
open_at_own request [] r own open_now = rw (own, open_now) refl
open_at_own request (x ∷ rs) r own open_now =
    let some : list_any (makes request) (rs ++ r ∷ []) ≡ true = list_any_push request rs r ∙ rw own (by (list_any (makes request) rs)) in
    rw (some, open_at_own request rs r own open_now) refl
  where
    by : (b : Bool) → (b || true) ≡ true
    by true = refl
    by false = refl

-- ---- a receive that is complete

list_any_complete : (request index : ℕ) (completion : Completion) (rs : List Receive) → list_any (makes request) (complete_at index completion rs) ≡ list_any (makes request) rs
list_any_complete request index completion [] = refl
list_any_complete request zero completion (r ∷ rs) = refl
list_any_complete request (suc index) completion (r ∷ rs) = ap (λ b. makes request r || b) (list_any_complete request index completion rs)

-- the index of a pending receive is past the first one, or the first one is pending
pub record IsLater (some : Bool) (found : Option ℕ) (index : ℕ) : Type 0 where
  pub there : some ≡ true
  pub before : ℕ
  pub is : found ≡ Some before
  pub next : index ≡ suc before

pub record IsFirst (some own : Bool) (index : ℕ) : Type 0 where
  pub absent : some ≡ false
  pub here : own ≡ true
  pub first : index ≡ 0

pub where_open : (some own : Bool) (found : Option ℕ) (index : ℕ) → cond some (option_map suc found) (cond own (Some 0) None) ≡ Some index → IsLater some found index ⊎ IsFirst some own index
where_open true own None index at = cc
where_open true own (Some before) index at = inl (record { there = refl; before = before; is = refl; next = sym (same_Some (suc before) index at) })
where_open false true found index at = inr (record { absent = refl; here = refl; first = sym (same_Some 0 index at) })
where_open false false found index at = cc

abbrev is_pending : ℕ → Receive → Bool
is_pending request r = makes request r && is_open r

-- a pending receive is one of those that are posted
pub open_at_within : (request index : ℕ) (rs : List Receive) → open_at request rs ≡ Some index → index < length rs
open_at_within request index [] at = cc
open_at_within request index (r ∷ rs) at =
    ⊎_elim
    (λ (later : IsLater (list_any (makes request) rs) (open_at request rs) index).
    let lt : later.before < length rs = open_at_within request later.before rs later.is in
    omega (arith, later.next))
    (λ (here : IsFirst (list_any (makes request) rs) (is_pending request r) index). omega (arith, here.first))
    (where_open (list_any (makes request) rs) (is_pending request r) (open_at request rs) index at)

and_false : (b : Bool) → (b && false) ≡ false
and_false true = refl
and_false false = refl

-- then no receive of its request is pending
pub open_at_completed : (request index : ℕ) (completion : Completion) (rs : List Receive) → open_at request rs ≡ Some index → open_at request (complete_at index completion rs) ≡ None
open_at_completed request index completion [] at = cc
open_at_completed request index completion (r ∷ rs) at =
    ⊎_elim
    (λ (later : IsLater (list_any (makes request) rs) (open_at request rs) index).
    let rest : open_at request (complete_at later.before completion rs) ≡ None = open_at_completed request later.before completion rs later.is in
    let some : list_any (makes request) (complete_at later.before completion rs) ≡ true = list_any_complete request later.before completion rs ∙ later.there in
    rw later.next (rw (some, rest) refl))
    (λ (here : IsFirst (list_any (makes request) rs) (is_pending request r) index).
    rw here.first (rw (here.absent, and_false (makes request r)) refl))
    (where_open (list_any (makes request) rs) (is_pending request r) (open_at request rs) index at)

-- a receive makes one request
makes_one : (request other : ℕ) (r : Receive) → makes request r ≡ true → makes other r ≡ eqb request other
makes_one request other r own = by r.request own
  where
    by : (made : Option ℕ) → option_map_or (λ n. eqb n request) made false ≡ true → option_map_or (λ n. eqb n other) made false ≡ eqb request other
    by None own = absurd (false≢true own)
    by (Some n) own = ap (λ m. eqb m other) (eqb-true n request own)

-- and those of other requests are as they were
pub open_at_kept : (request other index : ℕ) (completion : Completion) (rs : List Receive) → open_at request rs ≡ Some index → eqb request other ≡ false →
    open_at other (complete_at index completion rs) ≡ open_at other rs
open_at_kept request other index completion [] at differ = refl
open_at_kept request other index completion (r ∷ rs) at differ =
    ⊎_elim
    (λ (later : IsLater (list_any (makes request) rs) (open_at request rs) index).
    rw later.next (rw (list_any_complete other later.before completion rs, open_at_kept request other later.before completion rs later.is differ) refl))
    (λ (here : IsFirst (list_any (makes request) rs) (is_pending request r) index).
    let own : makes request r ≡ true = (both (makes request r) (is_open r) here.here).0 in
    let not_other : makes other r ≡ false = makes_one request other r own ∙ differ in
    rw here.first (rw not_other refl))
    (where_open (list_any (makes request) rs) (is_pending request r) (open_at request rs) index at)

-- completing a receive sets it
pub complete_is_set : (index : ℕ) (completion : Completion) (rs : List Receive) (r : Receive) → index < length rs → r ≡ get_or rs index r →
    set rs index (record r { completion = Some completion }) ≡ complete_at index completion rs
complete_is_set index completion [] r lt is = absurd (omega arith)
complete_is_set zero completion (x ∷ rs) r lt is = ap (λ (y : Receive). record y { completion = Some completion } ∷ rs) is
complete_is_set (suc index) completion (x ∷ rs) r lt is = ap (λ l. x ∷ l) (complete_is_set index completion rs r (omega arith) is)

-- ---- the indexes of pending receives, by request

-- with a receive that is complete or makes no request
pub open_other : (rs : List Receive) (r : Receive) (old : ℕ → Option ℕ) → ((q : ℕ) → old q ≡ open_at q rs) → r.request ≡ None → (q : ℕ) → old q ≡ open_at q (rs ++ r ∷ [])
open_other rs r old are none = λ request.
    let other : makes request r ≡ false = ap (λ (made : Option ℕ). option_map_or (λ n. eqb n request) made false) none in
    are request ∙ sym (open_at_other request rs r other)

-- with a receive that makes a request
pub open_own : (request : ℕ) (rs : List Receive) (r : Receive) (old new : ℕ → Option ℕ) → ((q : ℕ) → old q ≡ open_at q rs) → r.request ≡ Some request → r.completion ≡ None
    → ((q : ℕ) → new q ≡ cond (nat_eq request q) (Some (length rs)) (old q)) → (q : ℕ) → new q ≡ open_at q (rs ++ r ∷ [])
open_own request rs r old new are made none step = λ q. step q ∙ by q (eqb request q) refl
  where
    by : (q : ℕ) (b : Bool) → eqb request q ≡ b → cond (eqb request q) (Some (length rs)) (old q) ≡ open_at q (rs ++ r ∷ [])
    by q true h =
        let own : makes q r ≡ true = ap (λ (m : Option ℕ). option_map_or (λ n. eqb n q) m false) made ∙ h in
        let open_now : is_open r ≡ true = ap (λ (c : Option Completion). not (is_some c)) none in
        ap (λ b. cond b (Some (length rs)) (old q)) h ∙ sym (open_at_own q rs r own open_now)
    by q false h =
        let other : makes q r ≡ false = ap (λ (m : Option ℕ). option_map_or (λ n. eqb n q) m false) made ∙ h in
        ap (λ b. cond b (Some (length rs)) (old q)) h ∙ are q ∙ sym (open_at_other q rs r other)

-- where a pending receive is complete
pub open_completed : (request index : ℕ) (completion : Completion) (rs : List Receive) (old new : ℕ → Option ℕ) → ((q : ℕ) → old q ≡ open_at q rs) → old request ≡ Some index
    → ((q : ℕ) → new q ≡ cond (nat_eq request q) None (old q)) → (q : ℕ) → new q ≡ open_at q (complete_at index completion rs)
open_completed request index completion rs old new are found step = λ q. step q ∙ by q (eqb request q) refl
  where
    by : (q : ℕ) (b : Bool) → eqb request q ≡ b → cond (eqb request q) None (old q) ≡ open_at q (complete_at index completion rs)
    by q true h =
        let same : request ≡ q = eqb-true request q h in
        ap (λ b. cond b None (old q)) h
        ∙ sym (subst (λ k. open_at k (complete_at index completion rs) ≡ None) same (open_at_completed request index completion rs (sym (are request) ∙ found)))
    by q false h =
        ap (λ b. cond b None (old q)) h ∙ are q ∙ sym (open_at_kept request q index completion rs (sym (are request) ∙ found) h)

-- the same of a map
abbrev in_map : List (ℕ × ℕ) → ℕ → Option ℕ
in_map indexes q = lookup (nat_eq q) indexes

pub pending_other : (rs : List Receive) (r : Receive) (indexes : List (ℕ × ℕ)) → AreOpen rs indexes → r.request ≡ None → AreOpen (rs ++ r ∷ []) indexes
pending_other rs r indexes = open_other rs r (in_map indexes)

pub pending_own : (request : ℕ) (rs : List Receive) (r : Receive) (old new : List (ℕ × ℕ)) → AreOpen rs old → r.request ≡ Some request → r.completion ≡ None
    → ((q : ℕ) → lookup (nat_eq q) new ≡ cond (nat_eq request q) (Some (length rs)) (lookup (nat_eq q) old)) → AreOpen (rs ++ r ∷ []) new
pending_own request rs r old new = open_own request rs r (in_map old) (in_map new)

pub pending_completed : (request index : ℕ) (completion : Completion) (rs : List Receive) (old new : List (ℕ × ℕ)) → AreOpen rs old → lookup (nat_eq request) old ≡ Some index
    → ((q : ℕ) → lookup (nat_eq q) new ≡ cond (nat_eq request q) None (lookup (nat_eq q) old)) → AreOpen (complete_at index completion rs) new
pending_completed request index completion rs old new = open_completed request index completion rs (in_map old) (in_map new)
