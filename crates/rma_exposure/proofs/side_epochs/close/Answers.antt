use Rattle.std.proofs.Common.{◌≡◌, None, sym, refl, ap, subst, ◌∙◌}
use Rattle.rma_exposure.specs.inside.Epochs.{kept, pending_in}
use Rattle.rma_exposure.specs.inside.Places.{IsPlace}
use Rattle.indexmap.proofs.CallerLemmas.{keys-with_value_at}
use Rattle.rma_exposure.proofs.PlaceLemmas.{closed_numbers, closed_opener, closed_pending, no_value, none_pending, there}
use Rattle.rma_exposure.proofs.side_epochs.close.Goals as goal

none : (c : goal.In_default) → kept c.args.windows.now.entries c.args.window.now ≡ None
none c = subst (IsPlace c.args.windows.now.entries c.args.window.now) c.in_default.is c.requires

pub returns-in_default-clause-opener : goal.returns-in_default-clause-opener
returns-in_default-clause-opener c = sym (ap pending_in (none c))

pub returns-in_default-clause-pending : goal.returns-in_default-clause-pending
returns-in_default-clause-pending c = none_pending c.args.windows.now.entries c.args.window.now (none c)

pub returns-in-Some-get_index_mut-clause-opener : goal.returns-in-Some-get_index_mut-clause-opener
returns-in-Some-get_index_mut-clause-opener c = c.take.ensures.value ∙ sym (closed_opener c.args.windows.now c.in-Some.place c.args.window.now c.in-Some-get_index_mut.openings.now (record { numbers = c.in-Some-get_index_mut.openings.now.numbers; pending = c.take.new.self }) c.in-Some-get_index_mut.ensures.unique (there c.args.windows.now.entries c.args.window.now c.args.place c.in-Some.place c.in-Some.is c.requires) (sym c.in-Some-get_index_mut.ensures.value))

pub returns-in-Some-get_index_mut-clause-numbers : goal.returns-in-Some-get_index_mut-clause-numbers
returns-in-Some-get_index_mut-clause-numbers c = closed_numbers c.args.windows.now c.in-Some.place c.args.window.now c.in-Some-get_index_mut.openings.now (record { numbers = c.in-Some-get_index_mut.openings.now.numbers; pending = c.take.new.self }) c.in-Some-get_index_mut.ensures.unique (there c.args.windows.now.entries c.args.window.now c.args.place c.in-Some.place c.in-Some.is c.requires) (sym c.in-Some-get_index_mut.ensures.value) refl

pub returns-in-Some-get_index_mut-clause-pending : goal.returns-in-Some-get_index_mut-clause-pending
returns-in-Some-get_index_mut-clause-pending c = closed_pending c.args.windows.now c.in-Some.place c.args.window.now c.in-Some-get_index_mut.openings.now (record { numbers = c.in-Some-get_index_mut.openings.now.numbers; pending = c.take.new.self }) c.in-Some-get_index_mut.ensures.unique (there c.args.windows.now.entries c.args.window.now c.args.place c.in-Some.place c.in-Some.is c.requires) (sym c.in-Some-get_index_mut.ensures.value) c.take.ensures.after

pub returns-in-Some-get_index_mut-clause-names : goal.returns-in-Some-get_index_mut-clause-names
returns-in-Some-get_index_mut-clause-names c = keys-with_value_at c.args.windows.now c.in-Some.place (record { numbers = c.in-Some-get_index_mut.openings.now.numbers; pending = c.take.new.self })

pub returns-in-None-clause-opener : goal.returns-in-None-clause-opener
returns-in-None-clause-opener c =
    no_value c.args.windows.now.entries c.in-Some.place c.args.window.now (there c.args.windows.now.entries c.args.window.now c.args.place c.in-Some.place c.in-Some.is c.requires) c.in-None.ensures.value

pub returns-in-None-clause-pending : goal.returns-in-None-clause-pending
returns-in-None-clause-pending c =
    no_value c.args.windows.now.entries c.in-Some.place c.args.window.now (there c.args.windows.now.entries c.args.window.now c.args.place c.in-Some.place c.in-Some.is c.requires) c.in-None.ensures.value
