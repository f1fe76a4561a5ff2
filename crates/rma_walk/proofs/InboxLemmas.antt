-- The sources of calls that share one list.
use Rattle.std.proofs.Common.{◌≡◌, ℕ, zero, suc, ◌<◌, ◌≤◌, List, [], ◌∷◌, ◌++◌, length, get_or, map, set, replicate, refl, sym, ap, subst, ◌∙◌, arith}
use Rattle.std.specs.Prelude.{All, slice_index_or}
use Rattle.std.proofs.lemmas.List.{get_or_append_left, get_or_push, map-set}
use Rattle.std.proofs.lemmas.List.Elements.{All-head, All-tail}
use Rattle.rma_walk.specs.declared.source.Source.{Source}
use Rattle.rma_walk.specs.declared.waits.Waits.{Waits}
use Rattle.rma_walk.specs.declared.waits.Waits.TheVariants.{Nothing, Meet, Arrivals}
use Rattle.rma_walk.specs.declared.waits.Arrival.{Arrival}
use Rattle.rma_walk.specs.inside.Inbox.{no_arrival, source_of, reach, chain_of, chain, AreEarlier, AreChained}

pub map_replicate : {A B : Type 0} (f : A → B) (n : ℕ) (x : A) → map f (replicate n x) ≡ replicate n (f x)
map_replicate f zero x = refl
map_replicate f (suc n) x = ap (λ xs. f x ∷ xs) (map_replicate f n x)

map_agree : {A B : Type 0} (f g : A → B) (P : A → Type 0) → ((x : A) → P x → f x ≡ g x) → (xs : List A) → All P xs → map f xs ≡ map g xs
map_agree f g P same [] all = refl
map_agree f g P same (x ∷ xs) all =
    let tail = map_agree f g P same xs (All-tail P x xs all) in
    ap (λ y. y ∷ map f xs) (same x (All-head P x xs all)) ∙ ap (λ ys. g x ∷ ys) tail

pub get_or-map_in : {A B : Type 0} (f : A → B) (xs : List A) (i : ℕ) (d : A) (e : B) → i < length xs → get_or (map f xs) i e ≡ f (get_or xs i d)
get_or-map_in f [] i d e lt = absurd (omega arith)
get_or-map_in f (x ∷ xs) zero d e lt = refl
get_or-map_in f (x ∷ xs) (suc i) d e lt = get_or-map_in f xs i d e (omega arith)

-- a chain needs no more than its reach
chain_most : (arrivals : List Arrival) → AreEarlier arrivals → (m n : ℕ) (w : Waits) → reach w ≤ m → reach w ≤ n → reach w ≤ length arrivals → chain_of m arrivals w ≡ chain_of n arrivals w
chain_most arrivals earlier m n Nothing hm hn len = refl
chain_most arrivals earlier m n (Meet index) hm hn len = refl
chain_most arrivals earlier zero n (Arrivals k) hm hn len = absurd (omega arith)
chain_most arrivals earlier (suc m) zero (Arrivals k) hm hn len = absurd (omega arith)
chain_most arrivals earlier (suc m) (suc n) (Arrivals k) hm hn len =
    let before : Waits = (slice_index_or arrivals k no_arrival).before in
    let le : reach before ≤ k = earlier k (omega arith) in
    ap (λ rest. source_of (slice_index_or arrivals k no_arrival).source ∷ rest) (chain_most arrivals earlier m n before (omega arith) (omega arith) (omega arith))

-- a later arrival changes no chain
chain_push : (arrivals : List Arrival) (a : Arrival) → AreEarlier arrivals → (m : ℕ) (w : Waits) → reach w ≤ length arrivals → chain_of m (arrivals ++ a ∷ []) w ≡ chain_of m arrivals w
chain_push arrivals a earlier m Nothing len = refl
chain_push arrivals a earlier m (Meet index) len = refl
chain_push arrivals a earlier zero (Arrivals k) len = refl
chain_push arrivals a earlier (suc m) (Arrivals k) len =
    let P : Arrival → List Source = λ b. source_of b.source ∷ chain_of m (arrivals ++ a ∷ []) b.before in
    let same : get_or (arrivals ++ a ∷ []) k no_arrival ≡ get_or arrivals k no_arrival = get_or_append_left arrivals (a ∷ []) no_arrival k (omega arith) in
    let before : Waits = (slice_index_or arrivals k no_arrival).before in
    let le : reach before ≤ k = earlier k (omega arith) in
    ap P same ∙ ap (λ rest. source_of (slice_index_or arrivals k no_arrival).source ∷ rest) (chain_push arrivals a earlier m before (omega arith))

-- the chain of an arrival is its source, and the chain that it was added to
pub chain_from : (arrivals : List Arrival) → AreEarlier arrivals → (k : ℕ) → k < length arrivals
    → chain arrivals (Arrivals k) ≡ source_of (slice_index_or arrivals k no_arrival).source ∷ chain arrivals (slice_index_or arrivals k no_arrival).before
chain_from arrivals earlier k lt =
    let before : Waits = (slice_index_or arrivals k no_arrival).before in
    let le : reach before ≤ k = earlier k lt in
    ap (λ rest. source_of (slice_index_or arrivals k no_arrival).source ∷ rest) (chain_most arrivals earlier k (reach before) before le (omega arith) (omega arith))

-- one call waits otherwise
pub waits_set : (arrivals : List Arrival) (waits : List Waits) (call : ℕ) (w : Waits) (sources : List Source) → chain arrivals w ≡ sources
    → map (chain arrivals) (set waits call w) ≡ set (map (chain arrivals) waits) call sources
waits_set arrivals waits call w sources is = map-set (chain arrivals) waits call w ∙ ap (λ v. set (map (chain arrivals) waits) call v) is

pub arrived : (arrivals : List Arrival) (waits : List Waits) (a : Arrival) (call n : ℕ) → AreChained arrivals waits → call < length waits → a.before ≡ get_or waits call Nothing → n ≡ length arrivals
    → map (chain (arrivals ++ a ∷ [])) (set waits call (Arrivals n)) ≡ set (map (chain arrivals) waits) call (source_of a.source ∷ get_or (map (chain arrivals) waits) call [])
arrived arrivals waits a call n ok lt is number =
    let more = arrivals ++ a ∷ [] in
    let le : reach (get_or waits call Nothing) ≤ length arrivals = ok.within call Nothing lt in
    let le_before : reach a.before ≤ length arrivals = subst (λ w. reach w ≤ length arrivals) (sym is) le in
    let P : Arrival → List Source = λ b. source_of b.source ∷ chain_of (length arrivals) more b.before in
    let at : get_or more (length arrivals) no_arrival ≡ a = get_or_push arrivals a no_arrival (length arrivals) refl in
    let rest : chain_of (length arrivals) more a.before ≡ chain arrivals (get_or waits call Nothing) =
    chain_push arrivals a ok.earlier (length arrivals) a.before le_before
    ∙ chain_most arrivals ok.earlier (length arrivals) (reach a.before) a.before le_before (omega arith) le_before
    ∙ ap (chain arrivals) is in
    let W : ℕ → Waits = λ k. Arrivals k in
    let value : chain more (Arrivals n) ≡ source_of a.source ∷ get_or (map (chain arrivals) waits) call [] =
    ap (λ k. chain more (W k)) number ∙ ap P at ∙ ap (λ xs. source_of a.source ∷ xs) (rest ∙ sym (get_or-map_in (chain arrivals) waits call Nothing [] lt)) in
    let old : map (chain more) waits ≡ map (chain arrivals) waits =
    map_agree (chain more) (chain arrivals) (λ w. reach w ≤ length arrivals) (λ w small. chain_push arrivals a ok.earlier (reach w) w small) waits ok.within in
    waits_set more waits call (Arrivals n) _ value ∙ ap (λ xs. set xs call (source_of a.source ∷ get_or (map (chain arrivals) waits) call [])) old
