use Rattle.std.proofs.Common.{◌≡◌, ◌+◌, ℕ, Option, map, take, sym, ap, ◌∙◌}
use Rattle.std.proofs.lemmas.List.{take_all}
use Rattle.rma_base.specs.declared.point.Point.{Point}
use Rattle.rma_match.specs.Source.{others, round_entry}
use Rattle.rma_match.specs.inside.Awaited.{with_more}
use Rattle.rma_match.proofs.AwaitedLemmas.{other_more, lacking_others}
use Rattle.rma_match.proofs.live_match.LiveMatch.add_others.Goals as goal

pub loop-member-preserved : goal.loop-member-preserved
loop-member-preserved c = λ ranks calls are there.
    let f : ℕ → Option Point = round_entry calls c.args.rank.0 c.args.number in
    other_more f c.args.awaited.now c.members-member-items.result.now c.loop-member.member-index c.loop-member-test.true c.args.rank.0 c.loop-member.awaited c.add_other.new.awaited
    (c.in_ok-add_other.ensures ranks calls are there) (c.loop-member.invariant ranks calls are there)

pub returns-then-is_lacking : goal.returns-then-is_lacking
returns-then-is_lacking c = λ ranks calls are there.
    let members = c.members-member-items.result.now in
    let i = c.loop-member.member-index in
    let start = c.args.awaited.now in
    let rank = c.args.rank.0 in
    let f : ℕ → Option Point = round_entry calls rank c.args.number in
    let taken : c.add_other.new.awaited ≡ with_more start (map f (others rank (take (i + 1) members))) =
    other_more f start members i c.loop-member-test.true rank c.loop-member.awaited c.add_other.new.awaited
    (c.in_ok-add_other.ensures ranks calls are there) (c.loop-member.invariant ranks calls are there) in
    lacking_others f start members (i + 1) c.add_other.new.awaited (sym c.is_lacking.ensures ∙ c.if-is_lacking.true) rank taken
    ∙ ap (λ l. with_more start (map f (others rank l))) (c.members-member-items.ensures ranks calls are.groups_are)

pub returns : goal.returns
returns c = λ ranks calls are there.
    let rank = c.args.rank.0 in
    let f : ℕ → Option Point = round_entry calls rank c.args.number in
    let whole = take_all c.loop-member.member-index c.members-member-items.result.now c.loop-member-test.false ∙ c.members-member-items.ensures ranks calls are.groups_are in
    c.loop-member.invariant ranks calls are there
    ∙ ap (λ l. with_more c.args.awaited.now (map f (others rank l))) whole
