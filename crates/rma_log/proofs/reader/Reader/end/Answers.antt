use Rattle.std.proofs.Common.{◌≡◌, Some, refl, sym, subst, ap, ◌∙◌}
use Rattle.std.specs.Prelude.{IsSome}
use Rattle.rma_call.specs.Call.{CallTable}
use Rattle.rma_log.specs.Calls.{end_line}
use Rattle.rma_log.specs.Logs.{entries}
use Rattle.rma_log.proofs.ReadingLemmas.{HasTaken_read}
use Rattle.rma_log.proofs.reader.Reader.end.Goals as goal

pub returns-in-None-Some : goal.returns-in-None-Some
returns-in-None-Some c = λ rank logs lines place h.
    let taken = HasTaken_read rank logs lines c.args.self h c.in-None-Some.is-0 in
    let ended : end_line (entries lines) ≡ Some c.in-None-Some.end = sym taken.end ∙ c.in-None-Some.is-1 in
    rw c.new.ensures
    (record {
      good = (taken.good, subst IsSome (sym ended) refl);
      of_rank = c.rank-rank.ensures ∙ taken.of_rank;
      calls_are = ap (λ (table : CallTable). table.calls) c.into_calls.ensures ∙ taken.calls;
      end_is = ended;
    })
