use Rattle.std.proofs.Common.{◌≡◌, Some, slice_get, sym, ap, ◌∙◌, arith, option_map}
use Rattle.std.proofs.lemmas.Option.{same_Some, slice_get_within}
use Rattle.rma_call.specs.Call.{Call, call_of}
use Rattle.rma_epoch.specs.Table.{OnWindow}
use Rattle.rma_span.specs.Span.{access_of}
use Rattle.rma_span.proofs.AccessLemmas.{call_in, number_here, spans_here}
use Rattle.rma_span.proofs.rank_spans.RankSpans.access.Goals as goal

pub get-call-requires : goal.get-call-requires
get-call-requires c =
    let (own, are, lt, ask) = c.requires in
    let spans = c.at-spans.result in
    let here = spans_here own c.args.self.now c.args.index spans are c.at-spans.ensures in
    slice_get_within c.args.calls.now.calls spans.call here.call (call_in own c.args.calls.now c.args.parts.now spans.call here.call ask here.there)

pub what_number-what-requires : goal.what_number-what-requires
what_number-what-requires c = slice_get_within c.args.calls.now.calls c.at-spans.result.call (call_of c.get-call.result) c.get-call.ensures

pub access_of-requires-clause-space : goal.access_of-requires-clause-space
access_of-requires-clause-space c = c.part.ensures.in_space

pub access_of-requires-clause-small : goal.access_of-requires-clause-small
access_of-requires-clause-small c =
    let (own, are, lt, ask) = c.requires in
    let within = slice_get_within c.args.calls.now.calls c.at-spans.result.call (call_of c.get-call.result) c.get-call.ensures in
    let few = ask.few in
    omega arith

pub access_of-requires-clause-listed : goal.access_of-requires-clause-listed
access_of-requires-clause-listed c =
    let (own, are, lt, ask) = c.requires in
    (own, spans_here own c.args.self.now c.args.index c.at-spans.result are c.at-spans.ensures)

pub returns : goal.returns
returns c = λ own number call are ask rank at there.
    let spans = c.at-spans.result in
    let mine = call_of c.get-call.result in
    let here = spans_here own c.args.self.now c.args.index spans are c.at-spans.ensures in
    let inside = call_in own c.args.calls.now c.args.parts.now spans.call here.call ask here.there in
    let found : slice_get own.sound spans.call ≡ Some mine = here.there ∙ sym inside ∙ c.get-call.ensures in
    let same_number : spans.call ≡ number = same_Some spans.call number (sym (number_here own c.args.self.now c.args.index spans are c.at-spans.ensures) ∙ at) in
    let same_call : mine ≡ call = same_Some mine call (sym found ∙ ap (slice_get own.sound) same_number ∙ there) in
    let same = c.what_number-what.ensures.what ∙ ap (option_map (λ (other : Call). other.what)) c.get-call.ensures in
    let on = ask.parts spans.call c.what_number-what.result mine c.get-call.ensures same in
    c.access_of.ensures own here found rank (c.window.ensures ∙ ap (λ (o : OnWindow). o.window) on) (c.part.ensures.part ∙ ap (λ (o : OnWindow). o.part) on)
    ∙ (λ t. access_of own (same_number t) (same_call t) c.args.role)
