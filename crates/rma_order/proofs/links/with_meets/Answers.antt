use Rattle.std.proofs.Common.{◌≡◌, List, [], subst, ◌∙◌}
use Rattle.rma_link.specs.declared.meet.Meet.{Meet}
use Rattle.rma_round.specs.Meet.{HasMeets, round_meets}
use Rattle.rma_order.specs.RunLinks.{links_of}
use Rattle.rma_order.proofs.LinkLemmas.{links_are_same, links_are_within, same_within}
use Rattle.rma_order.proofs.links.with_meets.Goals as goal

-- the links, once the meets are appended
module _ (c : goal.In_ok-push_meets) where
  edges : c.push_meets.new.links.edges ≡ (links_of c.args.ranks.now).edges
  edges = c.in_ok-push_meets.ensures.edges ∙ c.requires.edges

  meets : HasMeets c.push_meets.new.links.meets [] (round_meets c.args.ranks.now)
  meets = subst (λ (ms : List Meet). HasMeets c.push_meets.new.links.meets ms (round_meets c.args.ranks.now)) c.requires.meets c.in_ok-push_meets.ensures.meets

pub returns-clause-same : goal.returns-clause-same
returns-clause-same c = links_are_same c.args.ranks.now c.push_meets.new.links (edges c) (meets c)

pub returns-clause-within : goal.returns-clause-within
returns-clause-within c =
    let ranks = c.args.ranks.now in
    same_within ranks c.push_meets.new.links (edges c) (meets c) (links_are_within ranks c.requires.run.in_order)
