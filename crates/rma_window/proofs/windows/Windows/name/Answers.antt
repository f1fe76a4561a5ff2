use Rattle.std.proofs.Common.{◌≡◌, ◌<◌, length, get_or, sym, ap, subst, ◌∙◌, arith}
use Rattle.std.specs.Prelude.{slice_get, option_map, Some}
use Rattle.std.specs.Map.{keys_of}
use Rattle.std.proofs.lemmas.Option.{slice_get-get_or}
use Rattle.rma_window.specs.declared.window_id.WindowId.{WindowId}
use Rattle.rma_window.proofs.WindowsLemmas.{kept_name, length_windows, number_of_is, own_position}
use Rattle.rma_window.proofs.windows.Windows.name.Goals as goal

pub bounds-as_slice-window : goal.bounds-as_slice-window
bounds-as_slice-window c =
    let own = c.self.inside in
    omega (arith, rw (← c.self.view_is) at c.requires, length_windows 0 own.names.entries own.parts.entries, ap length c.as_slice.ensures, c.keys.ensures.len)

-- the name stands at the number
within : (c : goal.After-index-as_slice-window) → c.args.window.0 < length c.as_slice.result.now
within c =
    let own = c.self.inside in
    omega (arith, rw (← c.self.view_is) at c.requires, length_windows 0 own.names.entries own.parts.entries, ap length c.as_slice.ensures, c.keys.ensures.len)

shown : (c : goal.After-index-as_slice-window) → c.as_slice.result.now ≡ keys_of c.self.inside.names.entries
shown c = c.as_slice.ensures ∙ c.keys.ensures.rest

pub returns-clause-name : goal.returns-clause-name
returns-clause-name c =
    let own = c.self.inside in
    rw (← c.self.view_is)
    (kept_name 0 c.args.window.0 own.names.entries own.parts.entries
    ∙ ap (λ names. slice_get names c.args.window.0) (sym (shown c))
    ∙ slice_get-get_or c.as_slice.result.now c.args.window.0 c.index-as_slice-window.result (within c)
    ∙ ap Some (sym c.index-as_slice-window.is))

pub returns-clause-found : goal.returns-clause-found
returns-clause-found c =
    let own = c.self.inside in
    let name = c.index-as_slice-window.result in
    rw (← c.self.view_is)
    (ap (option_map (λ n. let id : WindowId = record { 0 = n } in id))
    (sym (number_of_is name own.names.entries own.parts.entries)
    ∙ own_position (keys_of own.names.entries) c.args.window.0 name c.keys.ensures.unique (subst (λ names. c.args.window.0 < length names) (shown c) (within c))
    (c.index-as_slice-window.is ∙ ap (λ names. get_or names c.args.window.0 name) (shown c))))
