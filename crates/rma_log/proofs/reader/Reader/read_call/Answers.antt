use Rattle.std.proofs.Common.{◌≡◌, List, Some, sym, ap, refl, ◌∙◌}
use Rattle.std.specs.Option.{option_copied}
use Rattle.rma_call.specs.Call.{what_of}
use Rattle.rma_form.specs.declared.event.Event.{Event}
use Rattle.rma_log.specs.declared.reader.Reader.{Reader}
use Rattle.rma_judge.specs.inside.BookState.{Represents, reason_in}
use Rattle.rma_judge.proofs.CallLemmas.{OnOk_then}
use Rattle.rma_log.proofs.ReadingLemmas.{Reads_taken, Takes_call}
use Rattle.rma_log.proofs.reader.Reader.read_call.Goals as goal

some_is : {A : Type 0} → (x y : A) → Some x ≡ Some y → x ≡ y
some_is x y is = cc

pub returns-in-Good : goal.returns-in-Good
returns-in-Good c =
    OnOk_then c.push.result c.push.ensures.ok
    (λ pushed does event text is call site.
    let old = c.args.self.now in
    let same = some_is (what_of c.what.result) does (sym c.what.ensures ∙ is) in
    let told = rw (← same) at call in
    let judged = rw c.in-Good.is at (c.in_ok-judged.ensures.judged event told) in
    let numbered = λ (events : List Event) (h : Represents old.book events).
    rw c.in-Good.is at (c.in_ok-judged.ensures.number event told (ap reason_in c.in-Good.is) events h) in
    let after : Reader = record old { lines = c.push.new.self; book = c.call.new.self } in
    Reads_taken old after c.args.no (record { event = event; site = text })
    (Takes_call old after c.call.new.self c.args.no event text c.args.site c.args.what c.in-Good.request does (option_copied c.args.request) (pushed does is) refl refl refl call judged site numbered)
    c.requires.fault)
