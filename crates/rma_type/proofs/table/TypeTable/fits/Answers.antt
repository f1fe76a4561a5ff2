use Rattle.std.proofs.Common.{◌≡◌, length, arith}
use Rattle.rma_type.proofs.Words.{nat_tests, signature_in}
use Rattle.rma_type.proofs.ComponentLemmas.{no_runs, no_basics, fewer_begin, nothing_begins_all, more_begin_only_where_empty}
use Rattle.rma_type.proofs.table.TypeTable.fits.Goals as goal

pub returns-then-na-nb : goal.returns-then-na-nb
returns-then-na-nb c =
    let os = c.args.self.now.origins in (
      λ h. fewer_begin c.args.na c.args.nb (signature_in os c.args.a) (signature_in os c.args.b) (c.share.ensures c.if-share.true) c.if-na-nb.true,
      λ h. grind (arith, nat_tests, c.if-na-nb.true),
    )

pub returns-else-na-nb : goal.returns-else-na-nb
returns-else-na-nb c =
    let os = c.args.self.now.origins in
    let a = signature_in os c.args.a in
    let b = signature_in os c.args.b in
    let runs = c.signature-prefix.result.now in (
      λ h.
          let none : length runs ≡ 0 = grind (arith, nat_tests, c.is_empty.ensures, h) in
          nothing_begins_all c.args.na c.args.nb a b (no_runs a runs c.signature-prefix.ensures.runs none),
      λ h.
          let empty = more_begin_only_where_empty c.args.na c.args.nb a b (c.share.ensures c.if-share.true) c.if-na-nb.false h in
          let none : length runs ≡ 0 = no_basics a runs c.signature-prefix.ensures.runs empty in
          grind (arith, nat_tests, c.is_empty.ensures, none),
    )
