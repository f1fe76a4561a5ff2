use Rattle.std.proofs.Common.{◌≡◌, ℕ, List, ◌++◌, [], Some, None, slice_get, append-nil, append_assoc, refl, sym, ap, subst, ◌∙◌}
use Rattle.std.specs.Prelude.{option_map}
use Rattle.std.specs.List.{flat_map}
use Rattle.std.specs.Option.{option_map_or}
use Rattle.std.specs.Map.Iter.{deref_pair}
use Rattle.std.proofs.lemmas.Cmp.{nat_eq_equiv}
use Rattle.std.proofs.lemmas.Map.Iter.{rest_more, rest_all, hash_map_turn}
use Rattle.rma_base.specs.declared.rank.Rank.{Rank}
use Rattle.rma_call.specs.Call.{Call, call_of}
use Rattle.rma_call.specs.declared.match_fault.MatchFault.{MatchFault}
use Rattle.rma_exposure.specs.declared.opened.Opened.{Opened}
use Rattle.rma_exposure.specs.declared.side.Side.{Side}
use Rattle.rma_exposure.specs.Opening.{opened}
use Rattle.rma_exposure.specs.Fault.{faults_at}
use Rattle.rma_exposure.specs.inside.Epochs.{stated, kept_of, AreEpochs, HavePartners}
use Rattle.rma_exposure.proofs.EpochLemmas.{none_kept, some_kept, own_are}
use Rattle.rma_exposure.proofs.CountLemmas.{no_faults, nothing_had}
use Rattle.rma_exposure.proofs.WalkLemmas.{had_at, openers_walked, opening_within}
use Rattle.rma_exposure.proofs.exposures.Exposures.push_rank_faults.Goals as goal

faults_none : (side : Side) (calls : ℕ → List Call) (rank : Rank) (number : ℕ) (call : Call) → opened side call.what ≡ None → faults_at side calls rank number call ≡ []
faults_none side calls rank number call none = rw none refl

pub returns-in_default : goal.returns-in_default
returns-in_default c = λ calls are same.
    let rank = c.args.rank.now in
    let found = kept_of c.args.self.now.ranks.entries c.rank.result.0 in
    let have = none_kept rank.calls found c.in_default.ensures.value (own_are c.args.self.now.ranks.entries rank.calls c.rank.result rank.rank c.rank.ensures c.requires) c.args.side in
    sym (append-nil c.args.faults.now)
    ∙ ap (λ l. c.args.faults.now ++ l) (openers_walked c.args.side (faults_at c.args.side calls rank.rank) rank.calls (faults_none c.args.side calls rank.rank) {V = Opened} [] (sym have.none_opens))

pub returns-then-have_partners : goal.returns-then-have_partners
returns-then-have_partners c = λ calls rep same.
    let rank = c.args.rank.now in
    let side = c.args.side in
    let epochs = c.of-epochs.result.now in
    let here : calls c.rank-2.result.0 ≡ rank.calls = ap (λ (r : Rank). calls r.0) c.rank-2.ensures ∙ same in
    let kept = c.of-epochs.ensures rank.calls (some_kept rank.calls c.in-Some.epochs.now (kept_of c.args.self.now.ranks.entries c.rank.result.0) c.in-Some.ensures.value (own_are c.args.self.now.ranks.entries rank.calls c.rank.result rank.rank c.rank.ensures c.requires)) in
    let are : AreEpochs side (calls c.rank-2.result.0) epochs = subst (λ l. AreEpochs side l epochs) (sym here) kept in
    let have = subst (λ (r : Rank). (window : List ℕ) → HavePartners side window calls r.0) c.rank-2.ensures (c.have_partners.ensures c.if-have_partners.true calls rep are) in
    let none = nothing_had (faults_at side calls rank.rank) rank.calls (λ i call at. no_faults side calls rank.rank i call have (ap (λ l. slice_get l i) same ∙ at)) in
    sym (append-nil c.args.faults.now) ∙ ap (λ l. c.args.faults.now ++ l) (sym none)

pub loop-number-init : goal.loop-number-init
loop-number-init c = λ calls rep.
    let rank = c.args.rank.now in
    let start = c.into_iter-number-iterator.ensures.into_iter_gives ∙ c.iter-number-items.ensures.rest in
    let are = c.of-epochs.ensures rank.calls (some_kept rank.calls c.in-Some.epochs.now (kept_of c.args.self.now.ranks.entries c.rank.result.0) c.in-Some.ensures.value (own_are c.args.self.now.ranks.entries rank.calls c.rank.result rank.rank c.rank.ensures c.requires)) in
    let f = faults_at c.args.side calls rank.rank in
    ap (λ l. c.args.faults.now ++ flat_map (λ e. had_at f rank.calls e.0) l) start
    ∙ ap (λ l. c.args.faults.now ++ l) (openers_walked c.args.side f rank.calls (faults_none c.args.side calls rank.rank) c.of-epochs.result.now.openers.entries are.openers_come)

pub get-call-requires : goal.get-call-requires
get-call-requires c =
    let own = c.args.rank.now.calls in
    let number = c.in-Some-2.number in
    let value = c.in-Some-2.field-0-1 in
    let start = c.into_iter-number-iterator.ensures.into_iter_gives ∙ c.iter-number-items.ensures.rest in
    let found = hash_map_turn deref_pair c.loop-number.yielded c.into_iter-number-iterator.result c.loop-number.number-iterator c.next.new.self c.next.result (number, value) c.loop-number.yielded_by c.in-Some-2.is c.next.ensures.steps nat_eq_equiv c.of-epochs.result.now.openers start c.iter-number-items.ensures.unique in
    let are = c.of-epochs.ensures own (some_kept own c.in-Some.epochs.now (kept_of c.args.self.now.ranks.entries c.rank.result.0) c.in-Some.ensures.value (own_are c.args.self.now.ranks.entries own c.rank.result c.args.rank.now.rank c.rank.ensures c.requires)) in
    rw c.calls.ensures (opening_within c.args.side own number.now (stated value.now) (ap (option_map stated) (sym found.1) ∙ are.openers_are number.now))

pub loop-number-preserved : goal.loop-number-preserved
loop-number-preserved c = λ calls rep.
    let own = c.args.rank.now.calls in
    let number = c.in-Some-2.number in
    let left = c.loop-number.number-iterator in
    let rest = c.next.new.self in
    let call = call_of c.get-call.result in
    let f = faults_at c.args.side calls c.args.rank.now.rank in
    let g : List (ℕ × Opened) → List MatchFault = flat_map (λ e. had_at f own e.0) in
    let there : slice_get own number.now ≡ Some call = rw (← c.calls.ensures) c.get-call.ensures in
    let step = rest_more deref_pair left rest c.next.result (number, c.in-Some-2.field-0-1) c.in-Some-2.is c.next.ensures.steps in
    ap (λ l. l ++ g rest)
    (c.in_ok-judge.ensures calls rep
    ∙ ap (λ (r : Rank). c.loop-number.faults ++ faults_at c.args.side calls r number.now call) c.rank-in-loop-number.ensures
    ∙ ap (λ o. c.loop-number.faults ++ option_map_or (f number.now) o []) (sym there))
    ∙ append_assoc c.loop-number.faults (had_at f own number.now) (g rest)
    ∙ ap (λ l. c.loop-number.faults ++ g l) (sym step)
    ∙ c.loop-number.invariant calls rep

pub returns : goal.returns
returns c = λ calls rep same.
    let own = c.args.rank.now.calls in
    let f = faults_at c.args.side calls c.args.rank.now.rank in
    let end = rest_all deref_pair c.loop-number.number-iterator c.next.new.self c.next.result c.in-None.is c.next.ensures.steps in
    sym (append-nil c.loop-number.faults)
    ∙ ap (λ l. c.loop-number.faults ++ flat_map (λ e. had_at f own e.0) l) (sym end)
    ∙ c.loop-number.invariant calls rep
