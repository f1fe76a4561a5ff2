use Rattle.std.proofs.lemmas.List.Elements.{All-contains}
use Rattle.rma_clock.specs.Reached.{IsReached}
use Rattle.rma_rules.proofs.BeforeLemmas.{has_entry}
use Rattle.rma_cut.proofs.check.has_starts.Goals as goal

pub returns-then-not-has_entry : goal.returns-then-not-has_entry
returns-then-not-has_entry c = (
  λ test. absurd (cc),
  λ all.
      let own = c.b.inside in
      let starts = rw (← c.b.view_is) at all in
      let yes = c.has_entry.ensures.1 (All-contains (IsReached c.args.cut.now) _ _ starts (has_entry own.name.rank own.call own.opening)) in
      let no = c.if-not-has_entry.true in
      absurd (cc),
)
