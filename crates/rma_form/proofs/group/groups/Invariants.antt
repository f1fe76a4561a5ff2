use Rattle.std.proofs.Common.{◌≡◌, ◌/◌, ◌++◌, Ok, length}
use Rattle.rma_base.specs.declared.version.Version.{Version}
use Rattle.rma_field.specs.Steps.{◌>>=◌}
use Rattle.rma_field.specs.Texts.{texts_at}
use Rattle.rma_form.specs.Groups.{items_read}
use Rattle.rma_form.proofs.group.groups.Given as goal

abbrev pub invariant-groups : goal.invariant-groups
invariant-groups g l = (version : Version) →
    items_read l.size (g.G.Group.reading version) (length (texts_at l.fn.words) / l.size) (texts_at l.fn.words)
    ≡ (items_read l.size (g.G.Group.reading version) (length (texts_at l.rest) / l.size) (texts_at l.rest) >>= λ more. Ok (l.items ++ more))

abbrev pub decreases-groups : goal.decreases-groups
decreases-groups g l = length l.rest
