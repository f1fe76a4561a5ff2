-- The kinds of what may stand behind the fields of a line.
use Rattle.std.specs.Prelude.{◌<◌}
use Rattle.rma_form.specs.declared.form.TailKind.{TailKind}
use Rattle.rma_form.specs.declared.form.TailKind.TheVariants.{Closed, Received, Asserted, Groups}
use Rattle.rma_form.specs.Groups.{item_size}
use Rattle.rma_form.specs.Tails.{Tail, closed, received, asserted, groups}

-- the kind of a tail
abbrev pub tail_kind : Tail → TailKind
tail_kind closed = Closed
tail_kind received = Received
tail_kind (asserted one two) = Asserted
tail_kind (groups group least most) = Groups (item_size group) least most

-- groups have a word
abbrev pub HasWords : TailKind → Type 0
HasWords (Groups size least most) = 0 < size
HasWords _ = Unit {0}
