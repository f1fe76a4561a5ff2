-- Where the receives of a rank stand on their communicators, as they are posted and completed.
use Rattle.std.proofs.Common.{◌≡◌, ℕ, zero, suc, ◌+◌, ◌<◌, Bool, true, false, cond, ◌&&◌, not, List, [], ◌∷◌, ◌++◌, length, take, set, Option, Some, None, is_some, eqb, slice_get, ⊎_elim, refl, sym, ap, ◌∙◌, arith}
use Rattle.std.specs.Prelude.{map, filter, count_by, option_map, IfSome}
use Rattle.std.specs.List.{list_any}
use Rattle.std.specs.Option.{option_map_or, option_and_then}
use Rattle.std.specs.Cmp.Lexicographic.{nat_list_eq_equiv}
use Rattle.std.proofs.lemmas.Bool.{false≢true, eqb-true, eq-eqb}
use Rattle.std.proofs.lemmas.List.{take-append-le, take_at, map-append, length-map}
use Rattle.std.proofs.lemmas.List.Elements.{filter-append, All-head, All-tail}
use Rattle.std.proofs.lemmas.List.Sums.{length-filter, sum_by-cons}
use Rattle.std.proofs.lemmas.Option.{same_Some}
use Rattle.rma_message.specs.declared.key.Key.{Key}
use Rattle.rma_message.specs.declared.receive.Receive.{Receive}
use Rattle.rma_message.specs.declared.receive.Completion.{Completion}
use Rattle.rma_message.specs.declared.rank_receives.Place.{Place}
use Rattle.rma_message.specs.Receive.{makes, is_open, open_at, complete_at}
use Rattle.rma_message.specs.Source.{completed_at, completes, is_on}
use Rattle.rma_message.specs.inside.Live.{key_of, keys_on, place_of, AreBefore}
use Rattle.rma_message.proofs.ReceiveLemmas.{IsFirst, IsLater, where_open}
use Rattle.rma_message.proofs.ListLemmas.{both, get_before, get_last, count_cons}

-- ---- one more receive

-- on a communicator
pub keys_posted : (rank : ℕ) (comm : List ℕ) (rs : List Receive) (r : Receive) → keys_on rank comm (rs ++ r ∷ []) ≡ keys_on rank comm rs ++ cond (is_on comm r) (key_of rank r ∷ []) []
keys_posted rank comm rs r =
    ap (map (key_of rank)) (filter-append (is_on comm) rs (r ∷ []))
    ∙ map-append (key_of rank) (filter (is_on comm) rs) (filter (is_on comm) (r ∷ []))
    ∙ ap (λ l. keys_on rank comm rs ++ l) (by (is_on comm r))
  where
    by : (b : Bool) → map (key_of rank) (cond b (r ∷ []) []) ≡ cond b (key_of rank r ∷ []) []
    by true = refl
    by false = refl

pub keys_length : (rank : ℕ) (comm : List ℕ) (rs : List Receive) → length (keys_on rank comm rs) ≡ count_by (is_on comm) rs
keys_length rank comm rs = length-map (filter (is_on comm) rs) (key_of rank) ∙ length-filter (is_on comm) rs

-- where a receive stands, by what stands at its index
abbrev pub place_in : List Receive → ℕ → Option Receive → Option Place
place_in rs i at = option_map (λ (x : Receive). record { comm = x.comm; index = count_by (is_on x.comm) (take i rs) }) at

-- the receives before stand where they stood
pub place_before : (rs : List Receive) (r : Receive) (i : ℕ) → i < length rs → place_of (rs ++ r ∷ []) i ≡ place_of rs i
place_before rs r i lt = ap (place_in (rs ++ r ∷ []) i) (get_before rs (r ∷ []) i lt) ∙ by (slice_get rs i)
  where
    by : (at : Option Receive) → place_in (rs ++ r ∷ []) i at ≡ place_in rs i at
    by None = refl
    by (Some x) = ap (λ l. Some (record { comm = x.comm; index = count_by (is_on x.comm) l })) (take-append-le i rs (r ∷ []) (omega arith))

-- the same of one that may be found
pub places_before : (rs : List Receive) (r : Receive) (found : Option ℕ) → ((i : ℕ) → found ≡ Some i → i < length rs) →
    option_and_then (place_of (rs ++ r ∷ [])) found ≡ option_and_then (place_of rs) found
places_before rs r None within = refl
places_before rs r (Some i) within = place_before rs r i (within i refl)

-- the new one stands last
pub place_last : (rank : ℕ) (rs : List Receive) (r : Receive) → place_of (rs ++ r ∷ []) (length rs) ≡ Some (record { comm = r.comm; index = length (keys_on rank r.comm rs) })
place_last rank rs r =
    ap (place_in (rs ++ r ∷ []) (length rs)) (get_last rs r)
    ∙ ap (λ n. Some (record { comm = r.comm; index = n }))
    (ap (count_by (is_on r.comm)) (take_at rs (r ∷ []) (length rs) refl) ∙ sym (keys_length rank r.comm rs))

-- ---- what a call completes

pub completed_within : (number i : ℕ) (rs : List Receive) → completed_at number rs ≡ Some i → i < length rs
completed_within number i [] at = cc
completed_within number i (r ∷ rs) at = by (completes number r) (completed_at number rs) (λ j is. completed_within number j rs is) at
  where
    by : (b : Bool) (found : Option ℕ) → ((j : ℕ) → found ≡ Some j → j < length rs) → cond b (Some 0) (option_map suc found) ≡ Some i → i < suc (length rs)
    by true found within at = let same = same_Some 0 i at in omega arith
    by false None within at = cc
    by false (Some j) within at = let lt = within j refl in let same = same_Some (suc j) i at in omega arith

-- no receive is complete by a call that is not taken yet
pub not_completed : (number : ℕ) (rs : List Receive) → AreBefore number rs → completed_at number rs ≡ None
not_completed number [] before = refl
not_completed number (r ∷ rs) before =
    rw (
      completes_none r.completion (All-head (λ (x : Receive). IfSome x.completion (λ c. c.call < number)) r rs before),
      not_completed number rs (All-tail (λ (x : Receive). IfSome x.completion (λ c. c.call < number)) r rs before),
    ) refl
  where
    completes_none : (done : Option Completion) → IfSome done (λ c. c.call < number) → option_map_or (λ (c : Completion). eqb c.call number) done false ≡ false
    completes_none None lt = refl
    completes_none (Some c) lt = by (eqb c.call number) refl
      where
        by : (b : Bool) → eqb c.call number ≡ b → b ≡ false
        by true is = let same = eqb-true c.call number is in absurd (omega arith)
        by false is = refl

-- one more receive that the call does not complete
pub completed_other : (number : ℕ) (rs : List Receive) (r : Receive) → completes number r ≡ false → completed_at number (rs ++ r ∷ []) ≡ completed_at number rs
completed_other number [] r other = rw other refl
completed_other number (x ∷ rs) r other = ap (λ found. cond (completes number x) (Some 0) (option_map suc found)) (completed_other number rs r other)

-- one more that it completes
pub completed_own : (number : ℕ) (rs : List Receive) (r : Receive) → completed_at number rs ≡ None → completes number r ≡ true → completed_at number (rs ++ r ∷ []) ≡ Some (length rs)
completed_own number [] r none own = rw own refl
completed_own number (x ∷ rs) r none own = by (completes number x) (completed_at number rs) (λ is. completed_own number rs r is own) none
  where
    by : (b : Bool) (found : Option ℕ) → (found ≡ None → completed_at number (rs ++ r ∷ []) ≡ Some (length rs)) → cond b (Some 0) (option_map suc found) ≡ None
        → cond b (Some 0) (option_map suc (completed_at number (rs ++ r ∷ []))) ≡ Some (suc (length rs))
    by true found rest at = cc
    by false None rest at = ap (option_map suc) (rest refl)
    by false (Some j) rest at = cc

-- ---- a receive that is complete now

complete_on : (comm : List ℕ) (index : ℕ) (done : Completion) (rs : List Receive) (i : ℕ) → count_by (is_on comm) (take i (complete_at index done rs)) ≡ count_by (is_on comm) (take i rs)
complete_on comm index done rs zero = refl
complete_on comm index done [] (suc i) = refl
complete_on comm zero done (r ∷ rs) (suc i) =
    sum_by-cons (λ y. cond (is_on comm y) 1 0) (record r { completion = Some done }) (take i rs) ∙ sym (sum_by-cons (λ y. cond (is_on comm y) 1 0) r (take i rs))
complete_on comm (suc index) done (r ∷ rs) (suc i) =
    sum_by-cons (λ y. cond (is_on comm y) 1 0) r (take i (complete_at index done rs))
    ∙ ap (λ n. cond (is_on comm r) 1 0 + n) (complete_on comm index done rs i)
    ∙ sym (sum_by-cons (λ y. cond (is_on comm y) 1 0) r (take i rs))

-- the communicator of the receive at an index
abbrev comm_at : List Receive → ℕ → Option (List ℕ)
comm_at rs i = option_map (λ (r : Receive). r.comm) (slice_get rs i)

complete_comm : (index : ℕ) (done : Completion) (rs : List Receive) (i : ℕ) → comm_at (complete_at index done rs) i ≡ comm_at rs i
complete_comm index done [] i = refl
complete_comm zero done (r ∷ rs) zero = refl
complete_comm zero done (r ∷ rs) (suc i) = refl
complete_comm (suc index) done (r ∷ rs) zero = refl
complete_comm (suc index) done (r ∷ rs) (suc i) = complete_comm index done rs i

-- the place after these receives of one on a communicator
abbrev place_on : List Receive → List ℕ → Place
place_on before comm = record { comm = comm; index = count_by (is_on comm) before }

place_by_comm : (rs : List Receive) (i : ℕ) → place_of rs i ≡ option_map (place_on (take i rs)) (comm_at rs i)
place_by_comm rs i = by (slice_get rs i)
  where
    by : (at : Option Receive) → place_in rs i at ≡ option_map (place_on (take i rs)) (option_map (λ (r : Receive). r.comm) at)
    by None = refl
    by (Some r) = refl

-- each receive stands where it stood
pub place_complete : (index : ℕ) (done : Completion) (rs : List Receive) (i : ℕ) → place_of (complete_at index done rs) i ≡ place_of rs i
place_complete index done rs i =
    place_by_comm (complete_at index done rs) i
    ∙ ap (option_map (place_on (take i (complete_at index done rs)))) (complete_comm index done rs i)
    ∙ by (comm_at rs i)
    ∙ sym (place_by_comm rs i)
  where
    by : (at : Option (List ℕ)) → option_map (place_on (take i (complete_at index done rs))) at ≡ option_map (place_on (take i rs)) at
    by None = refl
    by (Some comm) = ap (λ n. Some (record { comm = comm; index = n })) (complete_on comm index done rs i)

pub places_complete : (index : ℕ) (done : Completion) (rs : List Receive) (found : Option ℕ) → option_and_then (place_of (complete_at index done rs)) found ≡ option_and_then (place_of rs) found
places_complete index done rs None = refl
places_complete index done rs (Some i) = place_complete index done rs i

-- what a receive of a rank matches by, where this completed it
abbrev pub done_key : ℕ → List ℕ → Completion → Key
done_key rank comm done = record { from = done.from; to = record { 0 = rank }; comm = comm; tag = done.tag }

-- on its communicator its key is there
pub keys_complete : (rank index : ℕ) (done : Completion) (rs : List Receive) (r : Receive) → slice_get rs index ≡ Some r →
    keys_on rank r.comm (complete_at index done rs) ≡ set (keys_on rank r.comm rs) (count_by (is_on r.comm) (take index rs)) (Some (done_key rank r.comm done))
keys_complete rank index done [] r at = cc
keys_complete rank zero done (x ∷ rs) r at =
    let same : x ≡ r = same_Some x r at in
    let own : is_on r.comm x ≡ true = ap (λ (y : Receive). is_on r.comm y) same ∙ nat_list_eq_equiv.refl r.comm in
    rw own (ap (λ (y : Receive). Some (done_key rank y.comm done) ∷ keys_on rank r.comm rs) same)
keys_complete rank (suc index) done (x ∷ rs) r at =
    by (is_on r.comm x) (keys_complete rank index done rs r at) ∙ ap (λ n. set (keys_on rank r.comm (x ∷ rs)) n (Some (done_key rank r.comm done))) (sym (count_cons (is_on r.comm) x (take index rs)))
  where
    by : (b : Bool) → keys_on rank r.comm (complete_at index done rs) ≡ set (keys_on rank r.comm rs) (count_by (is_on r.comm) (take index rs)) (Some (done_key rank r.comm done))
        → map (key_of rank) (cond b (x ∷ filter (is_on r.comm) (complete_at index done rs)) (filter (is_on r.comm) (complete_at index done rs)))
        ≡ set (map (key_of rank) (cond b (x ∷ filter (is_on r.comm) rs) (filter (is_on r.comm) rs))) (cond b (suc (count_by (is_on r.comm) (take index rs))) (count_by (is_on r.comm) (take index rs)))
        (Some (done_key rank r.comm done))
    by true rest = ap (λ l. key_of rank x ∷ l) rest
    by false rest = rest

-- on the others nothing changes
pub keys_elsewhere : (rank index : ℕ) (done : Completion) (rs : List Receive) (r : Receive) (comm : List ℕ) → slice_get rs index ≡ Some r → is_on comm r ≡ false →
    keys_on rank comm (complete_at index done rs) ≡ keys_on rank comm rs
keys_elsewhere rank index done [] r comm at other = refl
keys_elsewhere rank zero done (x ∷ rs) r comm at other =
    let not_on : is_on comm x ≡ false = ap (is_on comm) (same_Some x r at) ∙ other in
    rw not_on refl
keys_elsewhere rank (suc index) done (x ∷ rs) r comm at other = by (is_on comm x) (keys_elsewhere rank index done rs r comm at other)
  where
    by : (b : Bool) → keys_on rank comm (complete_at index done rs) ≡ keys_on rank comm rs
        → map (key_of rank) (cond b (x ∷ filter (is_on comm) (complete_at index done rs)) (filter (is_on comm) (complete_at index done rs))) ≡ map (key_of rank) (cond b (x ∷ filter (is_on comm) rs) (filter (is_on comm) rs))
    by true rest = ap (λ l. key_of rank x ∷ l) rest
    by false rest = rest

-- ---- what stands at the place of a receive

-- the receives before it on its communicator
pub keys_before : (rank i : ℕ) (comm : List ℕ) (rs : List Receive) → take (count_by (is_on comm) (take i rs)) (keys_on rank comm rs) ≡ keys_on rank comm (take i rs)
keys_before rank zero comm rs = refl
keys_before rank (suc i) comm [] = refl
keys_before rank (suc i) comm (x ∷ rs) =
    ap (λ n. take n (keys_on rank comm (x ∷ rs))) (count_cons (is_on comm) x (take i rs)) ∙ by (is_on comm x) (keys_before rank i comm rs)
  where
    by : (b : Bool) → take (count_by (is_on comm) (take i rs)) (keys_on rank comm rs) ≡ keys_on rank comm (take i rs)
        → take (cond b (suc (count_by (is_on comm) (take i rs))) (count_by (is_on comm) (take i rs))) (map (key_of rank) (cond b (x ∷ filter (is_on comm) rs) (filter (is_on comm) rs)))
        ≡ map (key_of rank) (cond b (x ∷ filter (is_on comm) (take i rs)) (filter (is_on comm) (take i rs)))
    by true rest = ap (λ l. key_of rank x ∷ l) rest
    by false rest = rest

-- the receive itself
pub key_there : (rank i : ℕ) (rs : List Receive) (r : Receive) → slice_get rs i ≡ Some r → slice_get (keys_on rank r.comm rs) (count_by (is_on r.comm) (take i rs)) ≡ Some (key_of rank r)
key_there rank i [] r at = cc
key_there rank zero (x ∷ rs) r at =
    let same : x ≡ r = same_Some x r at in
    let own : is_on r.comm x ≡ true = ap (λ (y : Receive). is_on r.comm y) same ∙ nat_list_eq_equiv.refl r.comm in
    rw own (ap (λ (y : Receive). Some (key_of rank y)) same)
key_there rank (suc i) (x ∷ rs) r at =
    ap (slice_get (keys_on rank r.comm (x ∷ rs))) (count_cons (is_on r.comm) x (take i rs)) ∙ by (is_on r.comm x) (key_there rank i rs r at)
  where
    by : (b : Bool) → slice_get (keys_on rank r.comm rs) (count_by (is_on r.comm) (take i rs)) ≡ Some (key_of rank r)
        → slice_get (map (key_of rank) (cond b (x ∷ filter (is_on r.comm) rs) (filter (is_on r.comm) rs))) (cond b (suc (count_by (is_on r.comm) (take i rs))) (count_by (is_on r.comm) (take i rs))) ≡ Some (key_of rank r)
    by true rest = rest
    by false rest = rest

-- ---- a receive that is pending

-- a receive that is there, and not complete
pub record IsPending (rs : List Receive) (index : ℕ) : Type 0 where
  pub receive : Receive
  pub there : slice_get rs index ≡ Some receive
  pub not_complete : receive.completion ≡ None

pub pending_there : (request index : ℕ) (rs : List Receive) → open_at request rs ≡ Some index → IsPending rs index
pending_there request index [] at = cc
pending_there request index (r ∷ rs) at =
    ⊎_elim
    (λ (later : IsLater (list_any (makes request) rs) (open_at request rs) index).
    let rest = pending_there request later.before rs later.is in
    record { receive = rest.receive; there = ap (slice_get (r ∷ rs)) later.next ∙ rest.there; not_complete = rest.not_complete })
    (λ (here : IsFirst (list_any (makes request) rs) (makes request r && is_open r) index).
    record { receive = r; there = ap (slice_get (r ∷ rs)) here.first; not_complete = none r.completion (both (makes request r) (is_open r) here.here).1 })
    (where_open (list_any (makes request) rs) (makes request r && is_open r) (open_at request rs) index at)
  where
    none : (done : Option Completion) → not (is_some done) ≡ true → done ≡ None
    none None is = refl
    none (Some c) is = absurd (false≢true is)

-- another call than the one that completes it completes what it completed
pub completed_elsewhere : (number index : ℕ) (done : Completion) (rs : List Receive) (r : Receive) → slice_get rs index ≡ Some r → r.completion ≡ None → eqb done.call number ≡ false →
    completed_at number (complete_at index done rs) ≡ completed_at number rs
completed_elsewhere number index done [] r at none other = refl
completed_elsewhere number zero done (x ∷ rs) r at none other =
    let was : completes number x ≡ false = ap (λ (y : Receive). completes number y) (same_Some x r at) ∙ ap (λ (d : Option Completion). option_map_or (λ (c : Completion). eqb c.call number) d false) none in
    rw (was, other) refl
completed_elsewhere number (suc index) done (x ∷ rs) r at none other =
    ap (λ found. cond (completes number x) (Some 0) (option_map suc found)) (completed_elsewhere number index done rs r at none other)

-- and that call completes it
pub completed_now : (index : ℕ) (done : Completion) (rs : List Receive) (r : Receive) → slice_get rs index ≡ Some r → completed_at done.call rs ≡ None →
    completed_at done.call (complete_at index done rs) ≡ Some index
completed_now index done [] r at none = cc
completed_now zero done (x ∷ rs) r at none = rw (eq-eqb done.call done.call refl) refl
completed_now (suc index) done (x ∷ rs) r at none = by (completes done.call x) (completed_at done.call rs) (λ is. completed_now index done rs r at is) none
  where
    by : (b : Bool) (found : Option ℕ) → (found ≡ None → completed_at done.call (complete_at index done rs) ≡ Some index) → cond b (Some 0) (option_map suc found) ≡ None
        → cond b (Some 0) (option_map suc (completed_at done.call (complete_at index done rs))) ≡ Some (suc index)
    by true found rest at_none = cc
    by false None rest at_none = ap (option_map suc) (rest refl)
    by false (Some j) rest at_none = cc
