use Rattle.std.proofs.Common.{◌≡◌, ◌<◌, ◌-◌, length, get_or, sym, arith}
use Rattle.std.proofs.lemmas.Option.{get_or_from_slice_get}
use Rattle.rma_bytes.proofs.RunLemmas.{canonical_at, no_run}
use Rattle.rma_layout.proofs.ends.ends_of.Goals as goal

pub end_of-requires : goal.end_of-requires
end_of-requires c =
    let runs = c.args.layout.now.runs in
    let some : 0 < length runs = omega (arith, c.len-runs.ensures, c.if-runs-eq0.false) in
    let last : c.get-2.result ≡ get_or runs (length runs - 1) no_run = sym (get_or_from_slice_get runs (length runs - 1) c.get-2.result no_run (rw c.len-runs.ensures at c.get-2.ensures)) in
    rw last (canonical_at runs (length runs - 1) no_run c.requires.canonical (omega (arith, some))).0
