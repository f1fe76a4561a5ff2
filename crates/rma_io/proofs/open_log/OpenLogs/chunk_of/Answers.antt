use Rattle.std.proofs.Common.{◌<◌, List, ℕ, All, get_or, length, take, refl, sym, subst}
use Rattle.std.proofs.lemmas.Option.{slice_get_read}
use Rattle.rma_io.specs.Schedule.{IsZero}
use Rattle.rma_io.specs.inside.OpenLogs.{OpenLogs, lefts}
use Rattle.rma_io.proofs.OpenLogLemmas.{none_below_set, lefts_set, within_some}
use Rattle.rma_io.proofs.open_log.OpenLogs.chunk_of.Goals as goal

pub invariant_of-self : goal.invariant_of-self
invariant_of-self c =
    let opened = c.self.inside.opened.items in
    let rank = c.args.rank in
    let after = c.next_chunk.new.self in
    let some = subst (λ (m : OpenLogs). 0 < get_or (lefts m.logs) c.args.rank 0) (sym c.self.view_is) c.requires in
    let zeros = none_below_set (lefts opened) c.self.inside.finished rank after.left c.self.invariant.none_below some in
    record {
      used_within = c.self.invariant.used_within;
      finished_within = c.self.invariant.finished_within;
      ranks_fit = c.self.invariant.ranks_fit;
      none_below = subst (λ (xs : List ℕ). All IsZero (take c.self.inside.finished xs)) (sym (lefts_set opened rank after)) zeros;
    }

pub returns : goal.returns
returns c =
    let opened = c.self.inside.opened.items in
    let some = subst (λ (m : OpenLogs). 0 < get_or (lefts m.logs) c.args.rank 0) (sym c.self.view_is) c.requires in
    let within = within_some opened c.args.rank some in
    let log = c.index_mut-log.result.now in
    let at = slice_get_read opened (length opened) c.args.rank log refl within c.index_mut-log.ensures.value in
    rw (← c.self.view_is) (log, at, c.next_chunk.ensures.rank, c.next_chunk.ensures.len, c.next_chunk.ensures.file, c.next_chunk.ensures.at, cc)
