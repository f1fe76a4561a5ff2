-- What the text behind an `@` stands for (docs/FORMAT.md).
use Rattle.std.specs.Prelude.{ℕ, List, Result, Ok, Err, if◌then◌else◌}
use Rattle.rma_base.specs.declared.form_reason.FormReason.{FormReason}
use Rattle.rma_base.specs.declared.form_reason.FormReason.TheVariants.{BadName}
use Rattle.rma_base.specs.Site.{is_site}

-- a site, or why it is none
abbrev pub site : List ℕ → Result (List ℕ) FormReason
site text = if is_site text then Ok text else Err BadName
