use Rattle.std.proofs.Common.{◌≡◌, true}
use Rattle.rma_base.specs.Name.{is_name}
use Rattle.rma_base.proofs.NameLemmas.{IsUtf8_name}
use Rattle.rma_base.proofs.name.Name.new.Goals as goal

pub returns-in_default-clause-bad : goal.returns-in_default-clause-bad
returns-in_default-clause-bad c =
    let form : is_name c.args.text.now ≡ true = Prim.search c.if-not-has_form.ensures in
    absurd (c.in_default.ensures.cases.0 (IsUtf8_name _ form))
