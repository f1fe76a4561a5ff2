use Rattle.std.proofs.Common.{◌≡◌, None, true, cond, nat_eq, refl, sym, ap, ◌∙◌, ◌++◌, []}
use Rattle.std.proofs.lemmas.Result.{on_ok_weaker}
use Rattle.rma_call.specs.Call.{call_of, what_of}
use Rattle.rma_completion.specs.Completing.{completed_by}
use Rattle.rma_completion.specs.Done.{is_wait}
use Rattle.rma_completion.specs.inside.Kept.{listed_on, with_number}
use Rattle.rma_completion.proofs.KeptLemmas.{completing_here, completing_nothing, from_both, on_no_window, same_wait, wait_after, waits_complete_nothing}
use Rattle.rma_completion.proofs.completions.Completions.take.Goals as goal

pub returns-then-is_wait : goal.returns-then-is_wait
returns-then-is_wait c =
    let waits : is_wait (what_of c.args.call.what) ≡ true = sym c.is_wait.ensures ∙ c.if-is_wait.true in
    from_both
    c.take_wait.result
    (λ windows_same waits_are windows calls on at represents. record {
      numbers_are = λ id target completion.
          ap (λ own. listed_on own.entries id target completion) windows_same
          ∙ represents.numbers_are id target completion
          ∙ sym (completing_nothing calls (call_of c.args.call) windows id target completion (waits_complete_nothing (what_of c.args.call.what) waits));
      waits_are = λ other.
          waits_are other ∙ wait_after calls (call_of c.args.call) c.args.number c.args.call.request waits refl at c.args.self.now.waits.items represents.waits_are other;
    })
    c.take_wait.ensures.windows
    c.take_wait.ensures.waits

pub returns-in-Some-Some : goal.returns-in-Some-Some
returns-in-Some-Some c =
    on_ok_weaker
    c.add.result
    (λ listed windows calls on at represents. record {
      numbers_are = λ id target completion.
          listed id target completion
          ∙ ap (λ before. before ++ cond (nat_eq c.in-Some-Some.window.0 id) (with_number c.in-Some-Some.by c.args.number target completion) []) (represents.numbers_are id target completion)
          ∙ sym
          (completing_here
          calls
          (call_of c.args.call)
          windows
          id
          target
          completion
          c.in-Some-Some.window
          c.in-Some-Some.by
          c.args.number
          (sym on ∙ c.in-Some-Some.is-0)
          (sym c.completed_by.ensures ∙ c.in-Some-Some.is-1)
          at);
      waits_are = λ request. represents.waits_are request ∙ sym (same_wait calls (call_of c.args.call) (sym c.is_wait.ensures ∙ c.if-is_wait.false) request);
    })
    c.add.ensures

pub returns-in_default : goal.returns-in_default
returns-in_default c = λ windows calls on at represents.
    let none : completed_by (what_of c.args.call.what) ≡ None = sym c.completed_by.ensures ∙ c.in_default.is-1 in record {
      numbers_are = λ id target completion. represents.numbers_are id target completion ∙ sym (completing_nothing calls (call_of c.args.call) windows id target completion none);
      waits_are = λ request. represents.waits_are request ∙ sym (same_wait calls (call_of c.args.call) (sym c.is_wait.ensures ∙ c.if-is_wait.false) request);
    }

pub returns-in_default-2 : goal.returns-in_default-2
returns-in_default-2 c = λ windows calls on at represents. record {
  numbers_are = λ id target completion. represents.numbers_are id target completion ∙ sym (on_no_window calls (call_of c.args.call) windows id target completion (sym on ∙ c.in_default.is-0));
  waits_are = λ request. represents.waits_are request ∙ sym (same_wait calls (call_of c.args.call) (sym c.is_wait.ensures ∙ c.if-is_wait.false) request);
}
