use Rattle.std.proofs.Common.{◌<◌, List, length, sym, subst, ◌∙◌, arith}
use Rattle.std.specs.Prelude.{All}
use Rattle.std.proofs.lemmas.List.{get_or-set_same}
use Rattle.std.proofs.lemmas.List.Elements.{All-drop}
use Rattle.rma_walk.specs.declared.source.Source.{Source}
use Rattle.rma_walk.specs.Source.{sources_of}
use Rattle.rma_walk.specs.inside.Pending.{IsSource, IsSourcePassed, IsReduced}
use Rattle.rma_walk.proofs.ListLemmas.{none_first}
use Rattle.rma_walk.proofs.PendingLemmas.{none_then, reduced_drop}
use Rattle.rma_walk.proofs.pending.blocker.Goals as goal

pub loop-source-preserved : goal.loop-source-preserved
loop-source-preserved c =
    let links = c.args.links.now in
    let next = c.args.next.now in
    let call = c.args.call in
    let inbox = c.loop-source.inbox in
    let source = c.in-Some.source in
    let lt : call < length inbox = omega (arith, c.requires.call, c.loop-source.invariant.reduced.size) in
    let passed : IsSourcePassed links next source =
    none_then c.missing-missing.result (IsSourcePassed links next source) c.missing-missing.ensures.none (sym c.is_some.ensures ∙ c.if-is_some.false) in
    let new = c.drop_first.ensures in
    let P : List Source → Type 0 = λ xs. All (IsSource (length next) links) xs in
    let Q : List (List Source) → Type 0 = λ v. All (IsSource (length next) links) (sources_of v call) in
    let R : List (List Source) → Type 0 = λ v. IsReduced links next c.args.inbox.now v in
    record {
      known = c.missing-missing.ensures.known;
      sources = subst Q (sym new) (subst P (sym (get_or-set_same inbox call _ _ lt)) (All-drop (IsSource (length next) links) 1 (sources_of inbox call) c.loop-source.invariant.sources));
      reduced = subst R (sym new) (reduced_drop links next c.args.inbox.now inbox call source c.loop-source.invariant.reduced lt (sym c.in-Some.ensures) passed);
    }

pub returns-clause-none : goal.returns-clause-none
returns-clause-none c = none_first (sources_of c.loop-source.inbox c.args.call) (sym c.in_default.ensures)
