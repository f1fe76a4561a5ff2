use Rattle.std.proofs.Common.{List, [], ◌++◌, Option, Some, ap, sym, ◌∙◌}
use Rattle.std.specs.Option.{option_and_then}
use Rattle.std.proofs.lemmas.List.Sums.{fold-append}
use Rattle.rma_base.specs.declared.point.Point.{Point}
use Rattle.rma_call.specs.Call.{Call, what_of}
use Rattle.rma_message.specs.Source.{source_of}
use Rattle.rma_match.specs.Source.{round_entries, expwait_entries, message_entries, awaited, all_of}
use Rattle.rma_match.specs.inside.Awaited.{with_one, with_more}
use Rattle.rma_match.proofs.AwaitedLemmas.{all_is}
use Rattle.rma_match.proofs.live_match.LiveMatch.sources.Goals as goal

pub returns : goal.returns
returns c = λ ranks calls are there.
    let rank = c.args.rank.0 in
    let number = c.args.number in
    let round : List (Option Point) = round_entries ranks calls rank number (what_of c.args.call.what) in
    let completes : List (Option Point) = expwait_entries calls rank number in
    let message : List (Option Point) = message_entries (source_of calls rank number) in
    let begun : Option (List Point) = Some [] in
    let what = what_of c.args.call.what in
    c.finish.ensures
    ∙ c.in_ok-add_send.ensures ranks calls are
    ∙ ap (λ a. with_more a message) (c.in_ok-add_completes.ensures ranks calls are there)
    ∙ ap (λ a. with_more (with_more a completes) message) (c.in_ok-add_round.ensures ranks calls are there ∙ ap (λ a. with_more a round) c.new-awaited.ensures)
    ∙ sym (fold-append with_one (with_more begun round) completes message)
    ∙ sym (fold-append with_one begun round (completes ++ message))
    ∙ all_is (awaited ranks calls rank number what)
    ∙ sym (ap (option_and_then (λ (call : Call). all_of (awaited ranks calls rank number call.what))) there)
