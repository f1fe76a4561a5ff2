-- The parts of the windows of a run are of creations of the run.
use Rattle.std.proofs.Common.{◌≡◌, ℕ, zero, suc, ◌+◌, ◌<◌, Bool, true, false, cond, List, [], ◌∷◌, ◌++◌, length, Option, Some, None, slice_get, refl, sym, ap, ◌∙◌, ◌⊎◌, inl, inr, arith}
use Rattle.std.specs.Prelude.{Contains, fold}
use Rattle.std.specs.List.{cons_option}
use Rattle.std.specs.Map.{lookup}
use Rattle.std.specs.Option.{option_and_then}
use Rattle.std.proofs.lemmas.Bool.{eqb-true}
use Rattle.std.proofs.lemmas.Option.{none-some, same_Some}
use Rattle.rma_base.specs.declared.rank.Rank.{Rank}
use Rattle.rma_call.specs.Call.{Call, RankCalls}
use Rattle.rma_call.specs.declared.what.What.{What}
use Rattle.rma_call.specs.declared.what.What.TheVariants.{Local, Rma, Sync}
use Rattle.rma_call.specs.declared.what.SyncCall.TheVariants as sync
use Rattle.rma_call.specs.declared.window.WindowCall.TheVariants.{Attach, Create, Detach, Free}
use Rattle.rma_run.proofs.ContainLemmas.{first_or_later, has_first, has_later, has_none, in_flat_map}
use Rattle.rma_window.specs.Creation.{Creation, creation_of, creations, creations_from, part_of_call}
use Rattle.rma_window.specs.Windows.{Window, is_named, is_rank, part_in, part_of, windows_by, with_creation, with_part}
use Rattle.rma_window.specs.declared.part.Part.{Part}
use Rattle.rma_window.specs.declared.window_id.WindowId.{WindowId}

-- ---- one creation more

-- the creation gives the rank the part
abbrev Gives : Creation → Rank → Part → Type 0
Gives c rank part = (c.rank.0 ≡ rank.0) × (c.part ≡ part)

in_parts : (rank : Rank) (c : Creation) (parts : List (Rank × Part)) (part : Part) → lookup (is_rank rank) (parts ++ (c.rank, c.part) ∷ []) ≡ Some part
    → (lookup (is_rank rank) parts ≡ Some part) ⊎ Gives c rank part
in_parts rank c [] part is = by (is_rank rank c.rank) refl is
  where
    by : (b : Bool) → is_rank rank c.rank ≡ b → cond b (Some c.part) None ≡ Some part → (None ≡ Some part) ⊎ Gives c rank part
    by true own at = inr (sym (eqb-true rank.0 c.rank.0 own), same_Some c.part part at)
    by false other at = inl at
in_parts rank c (p ∷ ps) part is = by (is_rank rank p.0) is (in_parts rank c ps part)
  where
    by : (b : Bool) → cond b (Some p.1) (lookup (is_rank rank) (ps ++ (c.rank, c.part) ∷ [])) ≡ Some part
        → (lookup (is_rank rank) (ps ++ (c.rank, c.part) ∷ []) ≡ Some part → (lookup (is_rank rank) ps ≡ Some part) ⊎ Gives c rank part)
        → (cond b (Some p.1) (lookup (is_rank rank) ps) ≡ Some part) ⊎ Gives c rank part
    by true at rest = inl at
    by false at rest = rest at

-- a part of a window was there before a creation, or the creation gives it
in_windows : (rank : Rank) (c : Creation) (windows : List Window) (i : ℕ) (part : Part) → option_and_then (part_in rank) (slice_get (with_creation windows c) i) ≡ Some part
    → (option_and_then (part_in rank) (slice_get windows i) ≡ Some part) ⊎ Gives c rank part
in_windows rank c [] zero part is = in_parts rank c [] part is
in_windows rank c [] (suc i) part is = inl is
in_windows rank c (w ∷ ws) i part is = by (is_named c.name w) i is (λ k at. in_windows rank c ws k part at)
  where
    by : (b : Bool) (k : ℕ) → option_and_then (part_in rank) (slice_get (cond b (with_part w c ∷ ws) (w ∷ with_creation ws c)) k) ≡ Some part
        → ((j : ℕ) → option_and_then (part_in rank) (slice_get (with_creation ws c) j) ≡ Some part → (option_and_then (part_in rank) (slice_get ws j) ≡ Some part) ⊎ Gives c rank part)
        → (option_and_then (part_in rank) (slice_get (w ∷ ws) k) ≡ Some part) ⊎ Gives c rank part
    by true zero at rest = in_parts rank c w.parts part at
    by true (suc k) at rest = inl at
    by false zero at rest = inl at
    by false (suc k) at rest = rest k at

-- ---- all creations

-- one of the creations gives the rank the part
abbrev IsGiven : List Creation → Rank → Part → Type 0
IsGiven list rank part = (c : Creation) × Contains list c × Gives c rank part

in_all : (rank : Rank) (list : List Creation) (windows : List Window) (i : ℕ) (part : Part) → option_and_then (part_in rank) (slice_get (fold with_creation windows list) i) ≡ Some part
    → (option_and_then (part_in rank) (slice_get windows i) ≡ Some part) ⊎ IsGiven list rank part
in_all rank [] windows i part is = inl is
in_all rank (c ∷ cs) windows i part is = by (in_all rank cs (with_creation windows c) i part is)
  where
    before : (option_and_then (part_in rank) (slice_get windows i) ≡ Some part) ⊎ Gives c rank part → (option_and_then (part_in rank) (slice_get windows i) ≡ Some part) ⊎ IsGiven (c ∷ cs) rank part
    before (inl at) = inl at
    before (inr gives) = inr (c, has_first c cs, gives)

    by : (option_and_then (part_in rank) (slice_get (with_creation windows c) i) ≡ Some part) ⊎ IsGiven cs rank part
        → (option_and_then (part_in rank) (slice_get windows i) ≡ Some part) ⊎ IsGiven (c ∷ cs) rank part
    by (inl at) = before (in_windows rank c windows i part at)
    by (inr (one, has, gives)) = inr (one, has_later c one cs has, gives)

-- a part of the windows of these creations is given by one of them
is_given : (list : List Creation) (id : WindowId) (rank : Rank) (part : Part) → part_of (windows_by list) id rank ≡ Some part → IsGiven list rank part
is_given list id rank part is = by (in_all rank list [] id.0 part is)
  where
    by : (None ≡ Some part) ⊎ IsGiven list rank part → IsGiven list rank part
    by (inl at) = absurd (none-some part at)
    by (inr given) = given

-- ---- creations of a run

created_at : (base size unit number : ℕ) (dynamic : Bool) → (part_of_call base size unit dynamic number).created ≡ number
created_at base size unit number true = refl
created_at base size unit number false = refl

-- a creation is by its rank, and its part has the number of its call
by_call : (rank : Rank) (number : ℕ) (what : What) (c : Creation) → creation_of rank number what ≡ Some c → (c.rank ≡ rank) × (c.part.created ≡ number)
by_call rank number (Sync (sync.Window (Create window comm base size unit model ops dynamic))) c is =
    let own : Creation = record { rank = rank; name = window; model = model; ops = ops; dynamic = dynamic; part = part_of_call base size unit dynamic number } in
    let same : own ≡ c = same_Some own c is in
    (ap (λ (it : Creation). it.rank) (sym same), ap (λ (it : Creation). it.part.created) (sym same) ∙ created_at base size unit number dynamic)
by_call rank number (Sync (sync.Window (Free window))) c is = absurd (none-some c is)
by_call rank number (Sync (sync.Window (Attach window base size))) c is = absurd (none-some c is)
by_call rank number (Sync (sync.Window (Detach window base))) c is = absurd (none-some c is)
by_call rank number (Sync (sync.Frame call)) c is = absurd (none-some c is)
by_call rank number (Sync (sync.Message call)) c is = absurd (none-some c is)
by_call rank number (Sync (sync.Epoch call)) c is = absurd (none-some c is)
by_call rank number (Sync (sync.Moving call)) c is = absurd (none-some c is)
by_call rank number (Rma access) c is = absurd (none-some c is)
by_call rank number (Local access) c is = absurd (none-some c is)

-- the creations of a rank are by it, and by its calls
of_rank : (rank : Rank) (n : ℕ) (calls : List Call) (c : Creation) → Contains (creations_from rank n calls) c → (c.rank ≡ rank) × (c.part.created < n + length calls)
of_rank rank n [] c has = has_none c has
of_rank rank n (call ∷ calls) c has = by (creation_of rank n call.what) refl has (of_rank rank (n + 1) calls c)
  where
    later : (c.rank ≡ rank) × (c.part.created < n + 1 + length calls) → (c.rank ≡ rank) × (c.part.created < n + length (call ∷ calls))
    later (own, less) = (own, omega arith)

    here : (one : Creation) → creation_of rank n call.what ≡ Some one → one ≡ c → (c.rank ≡ rank) × (c.part.created < n + length (call ∷ calls))
    here one is same =
        let parts = by_call rank n call.what c (is ∙ ap Some same) in
        let at = parts.1 in
        (parts.0, omega arith)

    by : (o : Option Creation) → creation_of rank n call.what ≡ o → Contains (cons_option o (creations_from rank (n + 1) calls)) c
        → (Contains (creations_from rank (n + 1) calls) c → (c.rank ≡ rank) × (c.part.created < n + 1 + length calls)) → (c.rank ≡ rank) × (c.part.created < n + length (call ∷ calls))
    by None is among rest = later (rest among)
    by (Some one) is among rest = first_or_later one c (creations_from rank (n + 1) calls) (here one is) (λ behind. later (rest behind)) among

-- a part is that of a rank of the run, and was created by one of its calls
pub record IsCreated (ranks : List RankCalls) (rank : Rank) (part : Part) : Type 0 where
  pub own : RankCalls
  pub of_run : Contains ranks own
  pub rank_is : own.rank.0 ≡ rank.0
  pub created : part.created < length own.calls

pub is_created : (ranks : List RankCalls) (id : WindowId) (rank : Rank) (part : Part) → part_of (windows_by (creations ranks)) id rank ≡ Some part → IsCreated ranks rank part
is_created ranks id rank part is =
    let given = is_given (creations ranks) id rank part is in
    let c = given.0 in
    let one = in_flat_map (λ (r : RankCalls). creations_from r.rank 0 r.calls) ranks c given.1 in
    let own = of_rank one.0.rank 0 one.0.calls c one.2 in
    let less = own.1 in
    let same : c.part.created ≡ part.created = ap (λ (p : Part). p.created) given.2.1 in
    record {
      own = one.0;
      of_run = one.1;
      rank_is = ap (λ (r : Rank). r.0) (sym own.0) ∙ given.2.0;
      created = omega arith;
    }
