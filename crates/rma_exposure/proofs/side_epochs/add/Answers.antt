use Rattle.std.proofs.Common.{◌≡◌, ℕ, cond, List, [], ◌∷◌, ◌++◌, Some, None, nat_eq, slice_get, subst, ap, ◌∙◌}
use Rattle.std.specs.Map.{keys_of}
use Rattle.std.specs.Cmp.Lexicographic.{pointwise}
use Rattle.rma_exposure.specs.inside.Epochs.{kept}
use Rattle.rma_exposure.specs.inside.Places.{IsPlace, IsPlaceIn, IsAddedAt}
use Rattle.rma_exposure.proofs.PlaceLemmas.{at_end, first_opened, others_stay, same_stay, window_added}
use Rattle.rma_exposure.proofs.side_epochs.add.Goals as goal

-- the opening is added at the place that was found
at : (c : goal.In_ok-add_at) → IsPlaceIn c.args.windows.now.entries c.args.window.now c.in-Some.place
at c = subst (IsPlace c.args.windows.now.entries c.args.window.now) c.in-Some.is c.place_of.ensures

added : (c : goal.In_ok-add_at) → IsAddedAt c.args.window.now c.args.number c.args.group.now c.args.windows.now.entries c.add_at.new.windows.entries
added c = c.in_ok-add_at.ensures c.args.window.now (at c)

pub returns-in-Some-clause-own : goal.returns-in-Some-clause-own
returns-in-Some-clause-own c = (added c).own

pub returns-in-Some-clause-others : goal.returns-in-Some-clause-others
returns-in-Some-clause-others c = (added c).others

pub returns-in-Some-clause-place : goal.returns-in-Some-clause-place
returns-in-Some-clause-place c = ap (λ l. slice_get l c.in-Some.place) (added c).names ∙ at c

pub returns-in-Some-clause-stay : goal.returns-in-Some-clause-stay
returns-in-Some-clause-stay c = same_stay c.args.windows.now.entries c.add_at.new.windows.entries (added c).names

-- or the window is new
none : (c : goal.Joined-branch-5) → kept c.args.windows.now.entries c.args.window.now ≡ None
none c = subst (IsPlace c.args.windows.now.entries c.args.window.now) c.in_default.is c.place_of.ensures

put : (c : goal.Joined-branch-5) (name : List ℕ) → kept c.insert.new.self.entries name ≡ cond (pointwise nat_eq c.args.window.now name) (Some c.add.new.self) (kept c.args.windows.now.entries name)
put c name = c.in_ok-insert.ensures.updates.0 name ∙ ap (λ n. cond (pointwise nat_eq n name) (Some c.add.new.self) (kept c.args.windows.now.entries name)) c.in_ok-window.ensures

names : (c : goal.Joined-branch-5) → keys_of c.insert.new.self.entries ≡ keys_of c.args.windows.now.entries ++ c.args.window.now ∷ []
names c = window_added c.args.windows.now c.args.window.now c.in_ok-window.window c.add.new.self c.insert.new.self.entries (none c) c.in_ok-window.ensures c.in_ok-insert.ensures.entries

pub returns-clause-own : goal.returns-clause-own
returns-clause-own c = λ name same.
    first_opened c.args.number c.args.group.now c.args.window.now name c.new-openings.result c.add.new.self c.args.windows.now.entries c.insert.new.self.entries same (none c)
    (put c name ∙ ap (λ b. cond b (Some c.add.new.self) (kept c.args.windows.now.entries name)) same) c.new-openings.ensures.numbers c.in_ok-add.ensures

pub returns-clause-others : goal.returns-clause-others
returns-clause-others c = λ name differ. put c name ∙ ap (λ b. cond b (Some c.add.new.self) (kept c.args.windows.now.entries name)) differ

pub returns-clause-place : goal.returns-clause-place
returns-clause-place c = at_end c.args.windows.now.entries c.insert.new.self.entries c.args.window.now c.len-place.result (names c) c.len-place.ensures.len

pub returns-clause-stay : goal.returns-clause-stay
returns-clause-stay c = others_stay c.args.windows.now.entries c.insert.new.self.entries c.args.window.now (names c)
