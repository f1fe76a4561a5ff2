-- The attaches and detaches of a run.
use Rattle.std.proofs.Common.{◌≡◌, ◌<◌, ◌^◌, ℕ, List, [], length, Option, Some, None, option_map, slice_get, refl, sym, ap, subst, ◌∙◌, arith}
use Rattle.std.specs.Prelude.{All, Contains, option_to_list}
use Rattle.std.specs.Option.{option_map_or}
use Rattle.std.specs.List.Sorted.{IsPermutation}
use Rattle.std.proofs.lemmas.Option.{none-some, same_Some, slice_get_within}
use Rattle.std.proofs.lemmas.List.Sorted.{Contains-permutation, IsPermutation-sym}
use Rattle.rma_base.specs.declared.line.LineNo.{LineNo}
use Rattle.rma_base.specs.declared.rank.Rank.{Rank}
use Rattle.rma_call.specs.Call.{Call, RankCalls}
use Rattle.rma_call.specs.declared.what.What.{What}
use Rattle.rma_call.specs.declared.what.What.TheVariants as what
use Rattle.rma_call.specs.declared.what.SyncCall.TheVariants as sync
use Rattle.rma_call.specs.declared.window.WindowCall.TheVariants as window_call
use Rattle.rma_kept.specs.Naming.{GivesMemory}
use Rattle.rma_run.specs.Run.{IsRun, calls_of}
use Rattle.rma_run.proofs.ContainLemmas.{IsCallIn, all_from_contains, first_or_later, has_none, in_by_rank}
use Rattle.rma_points.proofs.AccessLemmas.{at_rank}
use Rattle.rma_window.specs.Windows.{Window, number_of}
use Rattle.rma_window.specs.declared.window_id.WindowId.{WindowId}
use Rattle.rma_accesses.specs.Run.{AreGood}
use Rattle.rma_dyn.specs.declared.change.Change.{Change}
use Rattle.rma_dyn.specs.Change.{change_at, changes, changes_by, changes_of}
use Rattle.rma_dyn.specs.inside.Sorted.{AreOnce, IsInSpace}

-- ---- what one call is

-- an attach or detach is that of a call, at an address and of a size, if there is a window of the name
record IsMade (rank : Rank) (number : ℕ) (line : LineNo) (address : ℕ) (size : Option ℕ) (id : Option WindowId) (c : Change) : Type 0 where
  window : WindowId
  named : id ≡ Some window
  is : c ≡ change_at rank number line address size window

made : (rank : Rank) (number : ℕ) (line : LineNo) (address : ℕ) (size : Option ℕ) (id : Option WindowId) (c : Change)
    → Contains (option_to_list (option_map (change_at rank number line address size) id)) c → IsMade rank number line address size id c
made rank number line address size None c has = has_none c has
made rank number line address size (Some window) c has =
    first_or_later (change_at rank number line address size window) c [] (λ same. record { window = window; named = refl; is = sym same }) (λ later. has_none c later) has

-- what is made of the same is the same
one : {rank : Rank} {number : ℕ} {line : LineNo} {address : ℕ} {size : Option ℕ} {id : Option WindowId} (a b : Change) → IsMade rank number line address size id a → IsMade rank number line address size id b → a ≡ b
one {rank} {number} {line} {address} {size} {id} a b first second =
    first.is ∙ ap (change_at rank number line address size) (same_Some first.window second.window (sym first.named ∙ second.named)) ∙ sym second.is

-- a call is an attach or a detach
record IsBy (windows : List Window) (rank : Rank) (number : ℕ) (line : LineNo) (does : What) (c : Change) : Type 0 where
  own_rank : c.rank ≡ rank
  own_call : c.call ≡ number
  only : (other : Change) → Contains (changes_by windows rank number line does) other → c ≡ other
  gives : (size : ℕ) → c.size ≡ Some size → (call : Call) → call.what ≡ does → GivesMemory c.address size call

module _ (windows : List Window) (rank : Rank) (number : ℕ) (line : LineNo) where
  by_call : (does : What) (c : Change) → Contains (changes_by windows rank number line does) c → IsBy windows rank number line does c
  by_call (what.Sync (sync.Window (window_call.Attach window address size))) c has =
      let it = made rank number line address (Some size) (number_of windows window) c has in
      record {
        own_rank = ap (λ (x : Change). x.rank) it.is;
        own_call = ap (λ (x : Change). x.call) it.is;
        only = λ other also. one c other it (made rank number line address (Some size) (number_of windows window) other also);
        gives = λ bytes is call same.
            let sizes : size ≡ bytes = same_Some size bytes (sym (ap (λ (x : Change). x.size) it.is) ∙ is) in
            let addresses : c.address ≡ address = ap (λ (x : Change). x.address) it.is in
            subst (λ n. GivesMemory c.address n call) sizes (subst (λ n. GivesMemory n size call) (sym addresses) (subst (λ (w : What). GivesMemory address size (record call { what = w })) (sym same) refl));
      }
  by_call (what.Sync (sync.Window (window_call.Detach window address))) c has =
      let it = made rank number line address None (number_of windows window) c has in
      record {
        own_rank = ap (λ (x : Change). x.rank) it.is;
        own_call = ap (λ (x : Change). x.call) it.is;
        only = λ other also. one c other it (made rank number line address None (number_of windows window) other also);
        gives = λ bytes is call same. absurd (none-some bytes (sym (ap (λ (x : Change). x.size) it.is) ∙ is));
      }
  by_call (what.Sync (sync.Window (window_call.Create window comm base size unit model ops dynamic))) c has = has_none c has
  by_call (what.Sync (sync.Window (window_call.Free window))) c has = has_none c has
  by_call (what.Sync (sync.Frame call)) c has = has_none c has
  by_call (what.Sync (sync.Message call)) c has = has_none c has
  by_call (what.Sync (sync.Epoch call)) c has = has_none c has
  by_call (what.Sync (sync.Moving call)) c has = has_none c has
  by_call (what.Rma call) c has = has_none c has
  by_call (what.Local call) c has = has_none c has

-- ---- those of a run

module _ (windows : List Window) (ranks : List RankCalls) (run : IsRun ranks) where
  record IsOfRun (c : Change) : Type 0 where
    own : RankCalls
    number : ℕ
    call : Call
    is_in : IsCallIn ranks own number call
    is_by : IsBy windows own.rank number call.line call.what c

  of_run : (c : Change) → Contains (changes windows ranks) c → IsOfRun c
  of_run c has =
      let it = in_by_rank (changes_of windows) ranks c has in
      record { own = it.0; number = it.1; call = it.2; is_in = it.3; is_by = by_call windows it.0.rank it.1 it.2.line it.2.what c it.4 }

  pub within_run : (c : Change) → Contains (changes windows ranks) c → c.call < length (calls_of ranks c.rank.0)
  within_run c has =
      let it = of_run c has in
      let own = it.own in
      let at = at_rank ranks run own it.is_in.of_run in
      let calls : calls_of ranks own.rank.0 ≡ own.calls = ap (λ o. option_map_or (λ (r : RankCalls). r.calls) o []) at in
      let lt = slice_get_within own.calls it.number it.call it.is_in.there in
      let same : calls_of ranks c.rank.0 ≡ own.calls = ap (λ (r : Rank). calls_of ranks r.0) it.is_by.own_rank ∙ calls in
      subst (λ n. n < length (calls_of ranks c.rank.0)) (sym it.is_by.own_call) (subst (λ (cs : List Call). it.number < length cs) (sym same) lt)

  pub small_in_run : (c : Change) → Contains (changes windows ranks) c → c.call < 2 ^ 31
  small_in_run c has =
      let it = of_run c has in
      let own = it.own in
      let few = run.few own.rank.0 own (at_rank ranks run own it.is_in.of_run) in
      let lt = slice_get_within own.calls it.number it.call it.is_in.there in
      let same = it.is_by.own_call in
      omega arith

  pub once_in_run : AreOnce (changes windows ranks)
  once_in_run a b has also rank call =
      let it = in_by_rank (changes_of windows) ranks a has in
      let is = in_by_rank (changes_of windows) ranks b also in
      let first = of_run a has in
      let one_by = by_call windows it.0.rank it.1 it.2.line it.2.what a it.4 in
      let other_by = by_call windows is.0.rank is.1 is.2.line is.2.what b is.4 in
      let ranks_same : is.0.rank ≡ it.0.rank = sym other_by.own_rank ∙ sym rank ∙ one_by.own_rank in
      let own_same : is.0 ≡ it.0 = same_Some is.0 it.0 (sym (at_rank ranks run is.0 is.3.of_run) ∙ ap (λ (r : Rank). slice_get ranks r.0) ranks_same ∙ at_rank ranks run it.0 it.3.of_run) in
      let number_same : is.1 ≡ it.1 = sym other_by.own_call ∙ sym call ∙ one_by.own_call in
      let call_same : is.2 ≡ it.2 = same_Some is.2 it.2 (sym is.3.there ∙ ap (λ (r : RankCalls). slice_get r.calls is.1) own_same ∙ ap (slice_get it.0.calls) number_same ∙ it.3.there) in
      one_by.only b
      (subst (λ (x : Call). Contains (changes_of windows it.0.rank it.1 x) b) call_same
      (subst (λ n. Contains (changes_of windows it.0.rank n is.2) b) number_same (subst (λ (r : Rank). Contains (changes_of windows r is.1 is.2) b) ranks_same is.4)))

  pub in_space_of_run : AreGood ranks → (c : Change) → Contains (changes windows ranks) c → IsInSpace c
  in_space_of_run good c has =
      let it = of_run c has in
      let kept = good.kept it.own it.is_in.of_run it.number it.call it.is_in.there in
      λ size is. kept.memory_in_space c.address size (it.is_by.gives size is it.call refl)

-- ---- the same in another order

module _ (all list : List Change) (same : IsPermutation all list) where
  pub back : (c : Change) → Contains list c → Contains all c
  back c has = Contains-permutation list all c (IsPermutation-sym all list same) has

  pub forth : (c : Change) → Contains all c → Contains list c
  forth c has = Contains-permutation all list c same has

  pub once_back : AreOnce all → AreOnce list
  once_back once a b has also = once a b (back a has) (back b also)

  pub all_back : (P : Change → Type 0) → ((c : Change) → Contains all c → P c) → All P list
  all_back P each = all_from_contains P list (λ c has. each c (back c has))
