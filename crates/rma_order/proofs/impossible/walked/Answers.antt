use Rattle.std.specs.Prelude.{MatchOption}
use Rattle.std.proofs.Common.{None, List, ℕ, Option, length, replicate, subst, sym, ◌∙◌}
use Rattle.std.proofs.lemmas.Result.{IfOk-weaker}
use Rattle.rma_link.specs.declared.links.Links.{Links}
use Rattle.rma_run.specs.Run.{lens_of}
use Rattle.rma_link.specs.Order.{IsPossible}
use Rattle.rma_walk.specs.Outcome.{IsStuck}
use Rattle.rma_order.specs.RunLinks.{links_of}
use Rattle.rma_order.proofs.SameLinks.{none_impossible}
use Rattle.rma_order.proofs.ToldLemmas.{first_at_none, told_none}
use Rattle.rma_order.proofs.impossible.walked.Goals as goal

pub returns-in-None : goal.returns-in-None
returns-in-None c =
    let ranks = c.args.ranks.now in
    let lens = lens_of ranks in
    let links = c.in_ok-links.links in
    let possible : IsPossible links = subst (λ (o : Option (List (Option ℕ))). MatchOption o (IsPossible links) (IsStuck c.deref.result.now links)) c.in-None.is c.in_ok-first_impossible_calls.ensures in (
      replicate (length lens) None,
      none_impossible lens c.in_ok-links.links (links_of ranks) c.in_ok-links.ensures.same possible,
      c.new.ensures ∙ sym (told_none ranks (replicate (length lens) None) (first_at_none (length lens))),
    )

pub returns : goal.returns
returns c =
    let links : Links = c.in_ok-links.links in
    let counted = c.deref.ensures.value ∙ c.in_ok-counts.ensures.counts in
    let walked : IsStuck c.deref.result.now links c.in-Some.firsts = subst (λ (o : Option (List (Option ℕ))). MatchOption o (IsPossible links) (IsStuck c.deref.result.now links)) c.in-Some.is c.in_ok-first_impossible_calls.ensures in
    let stuck = subst (λ (ls : List ℕ). IsStuck ls links c.in-Some.firsts) counted walked in
    IfOk-weaker c.stuck_calls.result _ _ (λ found are. are links c.in_ok-links.ensures.same (subst (IsStuck (lens_of c.args.ranks.now) links) (sym c.as_slice.ensures) stuck)) c.stuck_calls.ensures.calls
