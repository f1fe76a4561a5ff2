use Rattle.std.proofs.Common.{sym, ap, ◌∙◌}
use Rattle.rma_lex.proofs.CutterLemmas.{lines_left_are}
use Rattle.rma_lex.specs.Checked.{checked_lines}
use Rattle.std.proofs.Common.{◌++◌, drop}
use Rattle.rma_lex.proofs.laws.text_determines_what_is_left.Goals as goal

pub returns-clause-left : goal.returns-clause-left
returns-clause-left c one other text more first second same ended ends =
    lines_left_are one text first more ends ∙ ap (λ n. drop n (checked_lines (text ++ more))) same ∙ sym (lines_left_are other text second more (λ closed. ends (ended ∙ closed)))
