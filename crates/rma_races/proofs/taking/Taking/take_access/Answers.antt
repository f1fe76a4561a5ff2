use Rattle.std.proofs.Common.{◌≡◌, ◌<◌, OnOk, Result, Ok, Err, length, slice_get, slice_set, Some, refl, sym, ap, subst, ◌∙◌, ◌⊎◌, arith}
use Rattle.std.specs.Prelude.{Contains}
use Rattle.std.proofs.lemmas.Option.{slice_get_within}
use Rattle.rma_base.specs.declared.memory.Memory.{Memory}
use Rattle.rma_clock.specs.Reached.{points_of}
use Rattle.rma_run.specs.Run.{lens_of}
use Rattle.rma_rules.specs.Access.{Access}
use Rattle.rma_accesses.proofs.RankLemmas.{item_is}
use Rattle.rma_points.proofs.AccessLemmas.{memory_of_run}
use Rattle.rma_history.specs.History.{AreKnown, IsPassed}
use Rattle.rma_races.proofs.AskLemmas.{are_known, may_ask, on_window}
use Rattle.rma_races.proofs.CallLemmas.{of_call}
use Rattle.rma_races.proofs.StepLemmas.{stepped}
use Rattle.rma_races.proofs.taking.Taking.take_access.Goals as goal

-- two things that hold where an answer is good
on_both : {X A B C : Type 0} (answer : Result X Memory) → OnOk answer A → OnOk answer B → (A → B → C) → OnOk answer C
on_both (Ok x) a b f = f a b
on_both (Err e) a b f = tt

pub index_mut-memory-requires : goal.index_mut-memory-requires
index_mut-memory-requires g c =
    let (ranks, links, seen, known, clocks, taken, has, comes) = c.requires in
    let memory = memory_of_run ranks known.run c.args.access has in
    let within = slice_get_within ranks c.args.access.memory.0 memory.0 memory.1 in
    let same = ap (λ (a : Access). a.memory.0) c.access.view_is in
    let long = taken.begun.memories in
    let len = c.args.self.now.memories.ok.0 in
    omega (arith, within, same, long, len)

pub retire-requires : goal.retire-requires
retire-requires g c =
    let (ranks, links, seen, known, clocks, taken, has, comes) = c.requires in
    let memory = memory_of_run ranks known.run c.args.access has in
    let within = slice_get_within ranks c.args.access.memory.0 memory.0 memory.1 in
    let same = ap (λ (a : Access). a.memory.0) c.access.view_is in
    let long = taken.begun.memories in
    let less : c.access.inside.memory.0 < length c.args.self.now.memories.items = omega (arith, within, same, long) in
    let at = item_is c.args.self.now.memories.items c.args.self.now.memories.items c.access.inside.memory.0 c.index_mut-memory.result.now refl less c.index_mut-memory.ensures.value in (
      points_of (lens_of ranks),
      links,
      clocks,
      λ a among.
          subst (λ ws. AreKnown (points_of (lens_of ranks)) ws c.args.lists.now c.deref.result.now a) (sym c.windows.ensures)
          (subst (λ them. AreKnown (points_of (lens_of ranks)) c.args.windows.now c.args.lists.now them a) (sym c.deref.ensures.value)
          (are_known ranks c.args.windows.now c.args.lists.now known c.args.self.now taken.begun a (taken.of_run a (taken.kept c.access.inside.memory.0 c.index_mut-memory.result.now a at among)))),
    )

pub take-requires : goal.take-requires
take-requires g c =
    let (ranks, links, seen, known, clocks, taken, has, comes) = c.requires in
    let memory = memory_of_run ranks known.run c.args.access has in
    let within = slice_get_within ranks c.args.access.memory.0 memory.0 memory.1 in
    let same = ap (λ (a : Access). a.memory.0) c.access.view_is in
    let long = taken.begun.memories in
    let less : c.access.inside.memory.0 < length c.args.self.now.memories.items = omega (arith, within, same, long) in
    let at = item_is c.args.self.now.memories.items c.args.self.now.memories.items c.access.inside.memory.0 c.index_mut-memory.result.now refl less c.index_mut-memory.ensures.value in (
      points_of (lens_of ranks),
      links,
      clocks,
      λ a among.
          may_ask ranks c.args.windows.now c.args.lists.now known a c.args.access (taken.of_run a (taken.kept c.access.inside.memory.0 c.index_mut-memory.result.now a at (c.in_ok-retire.ensures.kept a among))) has,
    )

pub returns-clause-taken : goal.returns-clause-taken
returns-clause-taken g c =
    on_both c.take.result c.take.ensures.kept c.take.ensures.found
    (λ kept found ranks links seen known clocks taken has comes.
    let windows = c.args.windows.now in
    let spans = c.args.lists.now in
    let b = c.args.access in
    let old = c.args.self.now in
    let points = points_of (lens_of ranks) in
    let memory = memory_of_run ranks known.run b has in
    let within = slice_get_within ranks b.memory.0 memory.0 memory.1 in
    let same = ap (λ (a : Access). a.memory.0) c.access.view_is in
    let long = taken.begun.memories in
    let less : c.access.inside.memory.0 < length old.memories.items = omega (arith, within, same, long) in
    let here = item_is old.memories.items old.memories.items c.access.inside.memory.0 c.index_mut-memory.result.now refl less c.index_mut-memory.ensures.value in
    let at : slice_get old.memories.items b.memory.0 ≡ Some c.index_mut-memory.result.now = ap (slice_get old.memories.items) (sym same) ∙ here in
    let of_run = λ (a : Access) (among : Contains c.index_mut-memory.result.now a). taken.of_run a (taken.kept b.memory.0 c.index_mut-memory.result.now a at among) in
    let knows = λ (a : Access) (among : Contains c.index_mut-memory.result.now a).
    subst (λ ws. AreKnown points ws spans c.deref.result.now a) (sym c.windows.ensures)
    (subst (λ them. AreKnown points windows spans them a) (sym c.deref.ensures.value) (are_known ranks windows spans known old taken.begun a (of_run a among))) in
    let asks = λ (a : Access) (among : Contains c.retire.new.self a). may_ask ranks windows spans known a b (of_run a (c.in_ok-retire.ensures.kept a among)) has in
    stepped links windows spans ranks seen old _ b c.index_mut-memory.result.now c.retire.new.self c.take.new.self taken at
    (ap (λ i. slice_set old.memories.items i c.take.new.self) same)
    refl refl c.in_ok-retire.ensures.kept
    (λ a among.
    subst (λ them. Contains c.retire.new.self a ⊎ IsPassed links windows spans them a) c.deref.ensures.value
    (subst (λ ws. Contains c.retire.new.self a ⊎ IsPassed links ws spans c.deref.result.now a) c.windows.ensures (c.in_ok-retire.ensures.gone points links clocks knows a among)))
    kept
    (found points links clocks asks)
    has comes (of_call ranks b has) (on_window ranks windows spans known b has))
