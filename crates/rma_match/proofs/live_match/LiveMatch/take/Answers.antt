use Rattle.std.proofs.Common.{arith}
use Rattle.rma_call.specs.Call.{call_of}
use Rattle.rma_match.proofs.BelowLemmas.{few_more}
use Rattle.rma_match.proofs.live_match.LiveMatch.take.Goals as goal

pub returns : goal.returns
returns c = λ ranks calls len are. record {
  few = few_more calls c.args.rank.0 (call_of c.args.call) c.args.number len (omega arith) are.few;
  groups_are = c.in_ok-take.ensures ranks calls are.groups_are;
  messages_are = c.in_ok-take-2.ensures calls len are.messages_are;
  rounds_are = c.in_ok-take-3.ensures calls len are.rounds_are;
  exposures_are = c.in_ok-take-4.ensures calls len are.exposures_are;
}
