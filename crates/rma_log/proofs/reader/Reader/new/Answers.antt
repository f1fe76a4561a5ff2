use Rattle.std.proofs.Common.{refl}
use Rattle.rma_log.proofs.OutcomeLemmas.{good_none}
use Rattle.rma_log.proofs.reader.Reader.new.Goals as goal

pub returns : goal.returns
returns c = record {
  good = good_none c.args.rank.0 c.args.logs;
  represents = c.in_ok-new-2.ensures.empty;
  of_rank = c.in_ok-new-2.ensures.rank;
  among = c.in_ok-new-2.ensures.logs;
  version = c.in_ok-new.ensures.version;
  calls = rw c.in_ok-new.ensures.calls refl;
  end = refl;
  known = λ known at. absurd (c.in_ok-new.ensures.known known at);
}
