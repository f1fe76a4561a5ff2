use Rattle.rma_report.proofs.BufferLemmas.{passed_text, passed_then, passed_end}
use Rattle.rma_report.proofs.TextLemmas.{race_whole}
use Rattle.rma_report.proofs.pair.write_race.Goals as goal

pub returns-in_err-write_all : goal.returns-in_err-write_all
returns-in_err-write_all g c =
    passed_text _ _ _ _ _ _ _ (race_whole c.args.race.now c.word.result.now c.format-memory.result.now c.word.ensures c.format-memory.ensures.text)
    (passed_end _ _ _ _ _ _ _ _ _ c.from_residual.result c.from_residual.ensures.1 c.in_err-write_all.ensures)

pub returns-in_err-write_access : goal.returns-in_err-write_access
returns-in_err-write_access g c =
    passed_text _ _ _ _ _ _ _ (race_whole c.args.race.now c.word.result.now c.format-memory.result.now c.word.ensures c.format-memory.ensures.text)
    (passed_then _ _ _ _ _ _ _ _ _ c.in_ok-write_all.ensures
    (passed_end _ _ _ _ _ _ _ _ _ c.from_residual-in_err-write_access.result c.from_residual-in_err-write_access.ensures.1 c.in_err-write_access.ensures))

pub returns-in_err-write_access-2 : goal.returns-in_err-write_access-2
returns-in_err-write_access-2 g c =
    passed_text _ _ _ _ _ _ _ (race_whole c.args.race.now c.word.result.now c.format-memory.result.now c.word.ensures c.format-memory.ensures.text)
    (passed_then _ _ _ _ _ _ _ _ _ c.in_ok-write_all.ensures
    (passed_then _ _ _ _ _ _ _ _ _ c.in_ok-write_access.ensures
    (passed_end _ _ _ _ _ _ _ _ _ c.from_residual-in_err-write_access-2.result c.from_residual-in_err-write_access-2.ensures.1 c.in_err-write_access-2.ensures)))

pub returns : goal.returns
returns g c =
    passed_text _ _ _ _ _ _ _ (race_whole c.args.race.now c.word.result.now c.format-memory.result.now c.word.ensures c.format-memory.ensures.text)
    (passed_then _ _ _ _ _ _ _ _ _ c.in_ok-write_all.ensures
    (passed_then _ _ _ _ _ _ _ _ _ c.in_ok-write_access.ensures
    (passed_then _ _ _ _ _ _ _ _ _ c.in_ok-write_access-2.ensures
    c.write_bytes.ensures)))
