use Rattle.std.proofs.Common.{◌≡◌, Some, None, rules, ap, ◌∙◌}
use Rattle.rma_call.specs.Call.{what_of}
use Rattle.rma_match.specs.Membership.{declared, created_on}
use Rattle.rma_round.proofs.KeptLemmas.{OnOk_both}
use Rattle.rma_match.proofs.GroupLemmas.{AreOfRank_same, AreOfRank_declared, AreOfRank_created}
use Rattle.rma_match.proofs.groups.RankGroups.take.Goals as goal

pub returns-in-Frame-Comm : goal.returns-in-Frame-Comm
returns-in-Frame-Comm c =
    let comm : declared (what_of c.args.what) ≡ Some (c.in-Frame-Comm.comm, c.in-Frame-Comm.ranks) = search rules in
    let window : created_on (what_of c.args.what) ≡ None = search rules in
    OnOk_both c.declare.result
    (λ stay noted calls call what are.
    AreOfRank_declared calls call c.args.self.now c.declare.new.self c.in-Frame-Comm.comm c.in-Frame-Comm.ranks (ap declared what ∙ comm) (ap created_on what ∙ window) stay noted are)
    c.declare.ensures.windows c.declare.ensures.comms

pub returns-in-Window-Create : goal.returns-in-Window-Create
returns-in-Window-Create c =
    let comm : declared (what_of c.args.what) ≡ None = search rules in
    let window : created_on (what_of c.args.what) ≡ Some (c.in-Window-Create.window, c.in-Window-Create.comm) = search rules in
    OnOk_both c.create.result
    (λ stay noted calls call what are.
    AreOfRank_created calls call c.args.self.now c.create.new.self c.in-Window-Create.window c.in-Window-Create.comm (ap created_on what ∙ window) (ap declared what ∙ comm) stay noted are)
    c.create.ensures.comms c.create.ensures.windows

pub returns-in_default : goal.returns-in_default
returns-in_default c = λ calls call what are.
    let comm : declared call.what ≡ None = ap declared what ∙ search rules in
    let window : created_on call.what ≡ None = ap created_on what ∙ search rules in
    AreOfRank_same calls call (Some c.args.self.now) comm window are

pub returns-in_default-2 : goal.returns-in_default-2
returns-in_default-2 c = λ calls call what are.
    let comm : declared call.what ≡ None = ap declared what ∙ search rules in
    let window : created_on call.what ≡ None = ap created_on what ∙ search rules in
    AreOfRank_same calls call (Some c.args.self.now) comm window are

pub returns-in_default-3 : goal.returns-in_default-3
returns-in_default-3 c = λ calls call what are.
    let comm : declared call.what ≡ None = ap declared what ∙ search rules in
    let window : created_on call.what ≡ None = ap created_on what ∙ search rules in
    AreOfRank_same calls call (Some c.args.self.now) comm window are
