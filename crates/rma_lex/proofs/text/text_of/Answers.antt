use Rattle.std.proofs.Common.{cond, length, Ok, Err, ap, ◌∙◌, arith}
use Rattle.std.proofs.lemmas.Bool.{le-ltb}
use Rattle.rma_base.specs.Limits.{line_limit}
use Rattle.rma_base.specs.declared.form_reason.FormReason.TheVariants.{LineTooLong}
use Rattle.rma_lex.proofs.TextLemmas.{text_of_clean}
use Rattle.rma_lex.proofs.text.text_of.Goals as goal

pub returns-then-clean : goal.returns-then-clean
returns-then-clean c =
    text_of_clean c.args.ended c.args.line.now (c.requires c.if-clean.true) ∙ ap (λ long. cond long (Err LineTooLong) (Ok c.args.line.now)) (le-ltb line_limit (length c.args.line.now) (omega (arith, c.if-line-gt-LINE.false)))
