use Rattle.std.proofs.Common.{◌≡◌, ◌<◌, ◌++◌, ◌∷◌, [], length, None, sym, ap, ◌∙◌, arith}
use Rattle.std.specs.Map.{lookup}
use Rattle.indexmap.proofs.CallerLemmas.{insert_entry-new}
use Rattle.rma_base.specs.Limits.{fed_limit}
use Rattle.rma_window.specs.inside.Windows.{index_of}
use Rattle.rma_window.proofs.WindowsLemmas.{created, is_key, key, length_windows, part_named_is, parts_with_one}
use Rattle.rma_window.proofs.windows.Windows.add.Goals as goal

-- the rank has no part of the window, so its part comes last
put : (c : goal.In_ok-insert) → c.insert.new.self.entries
    ≡ c.self.inside.parts.entries ++ (key (index_of c.self.inside.names.entries c.args.name.now) c.args.rank, c.args.part) ∷ []
put c =
    let parts = c.self.inside.parts.entries in
    let names = c.self.inside.names.entries in
    let own = key c.in_ok-window.window.0 c.args.rank in
    let absent : lookup (is_key own) c.reserve.new.self.entries ≡ None =
    ap (lookup (is_key own)) c.in_ok-reserve.ensures.entries
    ∙ ap (λ number. lookup (is_key (key number c.args.rank)) parts) c.in_ok-window.ensures.number
    ∙ sym (part_named_is c.args.rank parts c.args.name.now names c.self.invariant.of_windows)
    ∙ (rw (← c.self.view_is) at c.requires.has_none) in
    c.in_ok-insert.ensures.entries
    ∙ insert_entry-new is_key c.reserve.new.self own c.args.part absent
    ∙ ap (λ ps. ps ++ (own, c.args.part) ∷ []) c.in_ok-reserve.ensures.entries
    ∙ ap (λ number. parts ++ (key number c.args.rank, c.args.part) ∷ []) c.in_ok-window.ensures.number

pub numbered-requires : goal.numbered-requires
numbered-requires c = omega (arith, rw (← c.self.view_is) at c.requires.has_room, length_windows 0 c.self.inside.names.entries c.self.inside.parts.entries)

pub invariant_of-self-2 : goal.invariant_of-self-2
invariant_of-self-2 c =
    let own = c.self.inside in
    let room : length own.names.entries < fed_limit = omega (arith, rw (← c.self.view_is) at c.requires.has_room, length_windows 0 own.names.entries own.parts.entries) in
    rw (c.in_ok-window.ensures.ok, put c)
    (parts_with_one c.args.name.now c.args.attributes c.args.rank c.args.part own.parts.entries own.names.entries c.self.invariant room c.requires.in_space)

pub returns-clause-ok : goal.returns-clause-ok
returns-clause-ok c =
    let own = c.self.inside in
    rw (c.in_ok-window.ensures.ok, put c, ← c.self.view_is)
    (created c.args.name.now c.args.attributes c.args.rank c.args.part own.parts.entries own.names.entries c.self.invariant.of_windows)
