use Rattle.std.proofs.Common.{◌≡◌, ◌++◌, List, [], ap, ◌∙◌}
use Rattle.rma_call.specs.Call.{RankCalls}
use Rattle.rma_link.specs.declared.edge.Edge.{Edge}
use Rattle.rma_link.specs.declared.links.Links.{Links}
use Rattle.rma_message.specs.Messages.{message_edges, message_faults}
use Rattle.rma_message.specs.RunMessages.{RunMessages}
use Rattle.rma_exposure.specs.Edge.{exposure_edges}
use Rattle.rma_round.specs.Edge.{round_edges}
use Rattle.rma_order.specs.RunLinks.{links_of}
use Rattle.rma_order.proofs.links.run_edges.Goals as goal

-- edges that are appended kind by kind
all_edges : (ranks : List RankCalls) (messages : RunMessages) (none first second third : List Edge) → messages ≡ record { faults = message_faults ranks; edges = message_edges ranks } → none ≡ [] → first ≡ none ++ messages.edges
    → second ≡ first ++ exposure_edges ranks → third ≡ second ++ round_edges ranks → third ≡ (links_of ranks).edges
all_edges ranks messages none first second third are start one two three =
    three ∙ ap (λ (es : List Edge). es ++ round_edges ranks) (two ∙ ap (λ (es : List Edge). es ++ exposure_edges ranks) (one ∙ ap (λ (es : List Edge). es ++ messages.edges) start ∙ ap (λ (m : RunMessages). m.edges) are))

pub returns-clause-edges : goal.returns-clause-edges
returns-clause-edges c =
    all_edges c.args.ranks.now c.args.matches.now.messages c.new-links.result.edges c.push_edges.new.links.edges c.push_edges-2.new.links.edges c.push_edges-3.new.links.edges
    c.requires.matches.messages c.new-links.ensures.edges (ap (λ (l : Links). l.edges) c.in_ok-push_edges.ensures) c.in_ok-push_edges-2.ensures.edges c.in_ok-push_edges-3.ensures.edges

pub returns-clause-meets : goal.returns-clause-meets
returns-clause-meets c =
    c.in_ok-push_edges-3.ensures.meets ∙ c.in_ok-push_edges-2.ensures.meets ∙ ap (λ (l : Links). l.meets) c.in_ok-push_edges.ensures ∙ c.new-links.ensures.meets
