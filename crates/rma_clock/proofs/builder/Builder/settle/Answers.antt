use Rattle.std.proofs.Common.{◌≡◌, ◌<◌, ◌≤◌, ◌++◌, List, [], ◌∷◌, length, set, refl, sym, ap, subst, ◌∙◌, arith}
use Rattle.std.specs.Prelude.{All}
use Rattle.std.proofs.lemmas.List.{get_or_read}
use Rattle.rma_clock.specs.declared.step.Step.{Step}
use Rattle.rma_clock.specs.inside.Table.{IsSettled, steps_of}
use Rattle.rma_clock.proofs.BuilderLemmas.{settled_with_step, table_with_step}
use Rattle.rma_clock.proofs.builder.Builder.settle.Goals as goal

pub returns-clause-builder : goal.returns-clause-builder
returns-clause-builder c =
    let old = c.args.self.now in
    let links = old.links.now in
    let mid = c.received_row.new.self in
    let rank = c.args.point.rank.0 in
    let s : Step = record { pos = c.args.point.pos; row = c.in_ok-row.row } in
    let steps : mid.table.steps.items ≡ old.table.steps.items = ap (λ v. v.items) c.received_row.ensures.steps in
    let size : length mid.table.steps.items ≡ length old.table.steps.items = ap length steps in
    let there : rank < length mid.table.steps.items = omega (arith, c.requires.rank) in
    let read : c.index_mut-steps.result.now ≡ steps_of mid.table.steps.items rank = get_or_read mid.table.steps.items rank c.index_mut-steps.result.now there c.index_mut-steps.ensures.value [] in
    let is : set mid.table.steps.items rank c.push.new.self ≡ set mid.table.steps.items rank (steps_of mid.table.steps.items rank ++ s ∷ []) =
    ap (set mid.table.steps.items rank) (c.in_ok-push.ensures.ok ∙ ap (λ (xs : List Step). xs ++ s ∷ []) read) in
    let A : List (List Step) → Type 0 = λ all. All (λ (t : Step). t.pos ≤ c.args.point.pos) (steps_of all rank) in
    record {
      links_are = c.in_ok-row.ensures.builder.links_are;
      rows = table_with_step (length old.table.steps.items) links mid.table.steps.items _ rank s there is mid.table _ c.in_ok-row.ensures.builder.rows refl refl refl
          (subst A (sym steps) c.requires.last) c.in_ok-row.ensures.row;
      shared = c.in_ok-row.ensures.builder.shared;
    }

pub returns-clause-steps : goal.returns-clause-steps
returns-clause-steps c =
    let old = c.args.self.now in
    let links = old.links.now in
    let mid = c.received_row.new.self in
    let rank = c.args.point.rank.0 in
    let s : Step = record { pos = c.args.point.pos; row = c.in_ok-row.row } in
    let steps : mid.table.steps.items ≡ old.table.steps.items = ap (λ v. v.items) c.received_row.ensures.steps in
    let size : length mid.table.steps.items ≡ length old.table.steps.items = ap length steps in
    let there : rank < length mid.table.steps.items = omega (arith, c.requires.rank) in
    let read : c.index_mut-steps.result.now ≡ steps_of mid.table.steps.items rank = get_or_read mid.table.steps.items rank c.index_mut-steps.result.now there c.index_mut-steps.ensures.value [] in
    let is : set mid.table.steps.items rank c.push.new.self ≡ set mid.table.steps.items rank (steps_of mid.table.steps.items rank ++ s ∷ []) =
    ap (set mid.table.steps.items rank) (c.in_ok-push.ensures.ok ∙ ap (λ (xs : List Step). xs ++ s ∷ []) read) in
    let I : List (List Step) → Type 0 = λ all. IsSettled c.args.point c.args.sources.now all (set mid.table.steps.items rank c.push.new.self) in
    subst I steps (settled_with_step 0 links mid.table.steps.items _ rank s there is c.args.point c.args.sources.now refl refl)
