use Rattle.std.proofs.Common.{◌≡◌, ℕ, List, Option, Some, ap, sym, ◌∙◌}
use Rattle.std.specs.Option.{option_copied, option_map_or}
use Rattle.rma_call.specs.Call.{what_of}
use Rattle.rma_round.specs.declared.kind.Kind.TheVariants as kind
use Rattle.rma_round.specs.Kind.{moved_on, count_of}
use Rattle.rma_agreement.specs.Collective.{made_on, so_far}
use Rattle.rma_difference.specs.inside.Round.{rounds_of}
use Rattle.rma_difference.proofs.CallCountLemmas.{number_in_is}
use Rattle.rma_difference.proofs.SoFarLemmas.{made_now}
use Rattle.rma_difference.proofs.all_rounds.AllRounds.place.Goals as goal

pub returns-in-Some : goal.returns-in-Some
returns-in-Some c = λ done own before at are.
    let comm = c.in-Some.comm.now in
    let index = c.args.index in
    let on : moved_on (what_of c.args.what) ≡ Some comm = sym c.moved_on.ensures ∙ ap option_copied c.in-Some.is in
    c.number.ensures
    ∙ number_in_is (made_on kind.Collective (so_far done own before) comm) index (rounds_of c.args.self.now.collectives.names.entries comm).call_counts
    (are.rounds_are comm).call_counts_are
    ∙ made_now kind.Collective comm done own before index at
    ∙ ap (λ (o : Option (List ℕ)). option_map_or (λ name. count_of kind.Collective name before) o 0) (sym on)
