use Rattle.std.proofs.Common.{◌≡◌, Some, slice_get, sym, ap, subst, ◌∙◌}
use Rattle.indexmap.proofs.CallerLemmas.{insert_entry-new}
use Rattle.rma_window.specs.declared.part.Part.{Part}
use Rattle.rma_window.specs.Windows.{part_of}
use Rattle.rma_epoch.specs.declared.parts.FoundPart.{FoundPart}
use Rattle.rma_epoch.specs.declared.parts.PartKey.{PartKey}
use Rattle.rma_epoch.specs.inside.Parts.{AreRemembered, IsPart, StayIn}
use Rattle.rma_epoch.proofs.LiveLemmas.{IfOk_map, OnOk_always}
use Rattle.rma_epoch.proofs.PartLemmas.{key_there, remembered_more}
use Rattle.rma_epoch.proofs.PlaceLemmas.{at_push, before_push}
use Rattle.rma_epoch.proofs.parts.part_at.Goals as goal

pub returns-in-Some-clause-part : goal.returns-in-Some-clause-part
returns-in-Some-clause-part c =
    let entries = c.args.parts.now.entries in
    let e : PartKey × Part = (c.in-Some.field-0-1.now, c.in-Some.part.now) in
    let same = key_there entries c.args.key c.in-Some.index e c.in-Some.ensures.index c.in-Some.ensures.entry in
    IfOk_map c.found_at.result
    (λ found is. ap (λ (f : FoundPart). f.part) is ∙ sym (c.requires.parts_are c.in-Some.index e c.in-Some.ensures.entry) ∙ ap (λ (k : PartKey). part_of c.args.windows.now k.window k.rank) same)
    c.found_at.ensures

pub returns-in-Some-clause-index : goal.returns-in-Some-clause-index
returns-in-Some-clause-index c =
    let entries = c.args.parts.now.entries in
    let windows = c.args.windows.now in
    let e : PartKey × Part = (c.in-Some.field-0-1.now, c.in-Some.part.now) in
    let same = key_there entries c.args.key c.in-Some.index e c.in-Some.ensures.index c.in-Some.ensures.entry in
    let part : part_of windows c.args.key.window c.args.key.rank ≡ Some e.1 = sym (ap (λ (k : PartKey). part_of windows k.window k.rank) same) ∙ c.requires.parts_are c.in-Some.index e c.in-Some.ensures.entry in
    IfOk_map c.found_at.result
    (λ found is. subst (λ (f : FoundPart). IsPart entries f.index (part_of windows c.args.key.window c.args.key.rank)) (sym is) (e, c.in-Some.ensures.entry, part))
    c.found_at.ensures

pub returns-clause-index : goal.returns-clause-index
returns-clause-index c =
    let m = c.args.parts.now in
    let windows = c.args.windows.now in
    let key = c.args.key in
    let part = c.in-Some-part.part in
    let new = c.in_ok-insert.ensures.entries ∙ insert_entry-new _ m key part (sym c.in_default.ensures.value) in
    let there = ap (λ es. slice_get es c.len-index.result) new ∙ at_push m.entries (key, part) c.len-index.result c.len-index.ensures.len in
    IfOk_map c.found_at-2.result
    (λ found is. subst (λ (f : FoundPart). IsPart c.insert.new.self.entries f.index (part_of windows key.window key.rank)) (sym is) ((key, part), there, sym c.in-Some-part.ensures.part))
    c.found_at-2.ensures

pub returns-clause-stay : goal.returns-clause-stay
returns-clause-stay c =
    let m = c.args.parts.now in
    let key = c.args.key in
    let part = c.in-Some-part.part in
    let new = c.in_ok-insert.ensures.entries ∙ insert_entry-new _ m key part (sym c.in_default.ensures.value) in
    let stay : StayIn m.entries c.insert.new.self.entries = λ i e there. ap (λ es. slice_get es i) new ∙ before_push m.entries (key, part) e i there in
    OnOk_always c.found_at-2.result stay

pub returns-clause-remembered : goal.returns-clause-remembered
returns-clause-remembered c =
    let m = c.args.parts.now in
    let windows = c.args.windows.now in
    let key = c.args.key in
    let part = c.in-Some-part.part in
    let new = c.in_ok-insert.ensures.entries ∙ insert_entry-new _ m key part (sym c.in_default.ensures.value) in
    OnOk_always c.found_at-2.result (subst (AreRemembered windows) (sym new) (remembered_more windows m.entries key part c.requires (sym c.in-Some-part.ensures.part) c.in-Some-part.ensures.in_space))
