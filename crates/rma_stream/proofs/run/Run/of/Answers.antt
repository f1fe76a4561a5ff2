use Rattle.std.proofs.Common.{List, sym, subst, ◌∙◌}
use Rattle.rma_call.specs.Call.{RankCalls}
use Rattle.rma_match.specs.Matches.{AreMatches}
use Rattle.rma_stream.proofs.OutcomeLemmas.{is_empty}
use Rattle.rma_stream.proofs.run.Run.of.Goals as goal

pub returns-clause-matched : goal.returns-clause-matched
returns-clause-matched c = record {
  good = c.requires (is_empty c.args.outcomes.bad (sym c.is_empty.ensures ∙ c.if-not-is_empty.false));
  matches_are = subst (λ (calls : List RankCalls). AreMatches calls c.in_ok-matches.matches) c.deref.ensures.value c.in_ok-matches.ensures;
}
