use Rattle.std.proofs.Common.{◌≡◌, ◌++◌, ◌∷◌, [], Some, None, rules, sym, subst}
use Rattle.rma_match.specs.inside.Groups.{AreOfRank, kept_of}
use Rattle.rma_match.proofs.GroupLemmas.{AreOfRank_new}
use Rattle.rma_match.proofs.groups.take.Goals as goal

pub returns-clause-own : goal.returns-clause-own
returns-clause-own c = λ calls call what are.
    let rank = c.args.rank in
    let old = c.args.ranks.now.entries in
    let none : None ≡ kept_of old rank = search rules in
    let before : AreOfRank calls (Some c.new-groups.result) = AreOfRank_new calls (kept_of old rank) c.new-groups.result none c.new-groups.ensures.comms c.new-groups.ensures.windows are in
    let kept : kept_of c.insert.new.self.entries rank ≡ Some c.take-2.new.self = search rules in
    subst (AreOfRank (calls ++ call ∷ [])) (sym kept) (c.in_ok-take.ensures calls call what before)
