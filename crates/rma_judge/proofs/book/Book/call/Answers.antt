use Rattle.std.proofs.Common.{Result, Ok, Err, IfOk}
use Rattle.rma_judge.specs.inside.BookState.{reason_in}
use Rattle.rma_judge.proofs.JudgingLemmas.{IsJudged_nothing, IsJudged_on_comm, IsJudged_on_window, IsJudged_with_peer, IsJudged_with_root, IsJudged_with_target, call_is}
use Rattle.rma_judge.proofs.book.Book.call.Goals as goal

IfOk_then : {X E : Type 0} {A B : X → Type 0} → (r : Result X E) → IfOk r A → ((x : X) → A x → B x) → IfOk r B
IfOk_then (Ok x) h f = f x h
IfOk_then (Err e) h f = tt

pub returns-in-Nothing-clause-judged : goal.returns-in-Nothing-clause-judged
returns-in-Nothing-clause-judged c = λ event is.
    let book = c.args.self.now in
    IsJudged_nothing book event (call_is book.types _ _ event is) (reason_in c.judged.result) (c.in-Nothing.ensures book.types event is.does is.request) c.judged.ensures.reason

pub returns-in-OnComm-clause-judged : goal.returns-in-OnComm-clause-judged
returns-in-OnComm-clause-judged c = λ event is.
    let book = c.args.self.now in
    IsJudged_on_comm book event (call_is book.types _ _ event is) (reason_in c.judged-in-OnComm.result) c.in-OnComm.comm.now (c.in-OnComm.ensures book.types event is.does is.request)
    (rw c.has_comm-lacks.ensures at c.judged-in-OnComm.ensures.reason)

pub returns-in-OnWindow-clause-judged : goal.returns-in-OnWindow-clause-judged
returns-in-OnWindow-clause-judged c = λ event is.
    let book = c.args.self.now in
    IsJudged_on_window book event (call_is book.types _ _ event is) (reason_in c.judged-in-OnWindow.result) c.in-OnWindow.window.now (c.in-OnWindow.ensures book.types event is.does is.request)
    (rw c.has_window-lacks.ensures at c.judged-in-OnWindow.ensures.reason)

pub returns-in-WithPeer-clause-judged : goal.returns-in-WithPeer-clause-judged
returns-in-WithPeer-clause-judged c = λ event is.
    let book = c.args.self.now in
    IsJudged_with_peer book event (call_is book.types _ _ event is) (reason_in c.judged_with.result) c.in-WithPeer.comm.now c.in-WithPeer.rank.0
    (c.in-WithPeer.ensures book.types event is.does is.request) (rw c.has_comm-lacks-in-WithPeer.ensures at c.judged_with.ensures.reason)

pub returns-in-WithTarget-clause-judged : goal.returns-in-WithTarget-clause-judged
returns-in-WithTarget-clause-judged c = λ event is.
    let book = c.args.self.now in
    IsJudged_with_target book event (call_is book.types _ _ event is) (reason_in c.judged_with-in-WithTarget.result) c.in-WithTarget.window.now c.in-WithTarget.rank.0
    (c.in-WithTarget.ensures book.types event is.does is.request) (rw c.has_window-lacks-in-WithTarget.ensures at c.judged_with-in-WithTarget.ensures.reason)

pub returns-in-WithRoot-clause-judged : goal.returns-in-WithRoot-clause-judged
returns-in-WithRoot-clause-judged c = λ event is.
    let book = c.args.self.now in
    IsJudged_with_root book event (call_is book.types _ _ event is) (reason_in c.judged_for.result) c.in-WithRoot.comm.now c.in-WithRoot.root.0
    (c.in-WithRoot.ensures book.types event is.does is.request) (rw c.root_reason.ensures at c.judged_for.ensures.reason)

pub returns-in-Making-clause-judged : goal.returns-in-Making-clause-judged
returns-in-Making-clause-judged c =
    IfOk_then c.judge_making.result c.judge_making.ensures.judged
    (λ judged told event is. let types = c.args.self.now.types in told event (c.in-Making.ensures types event is.does is.request) (call_is types _ _ event is))

pub returns-in-Waiting-clause-judged : goal.returns-in-Waiting-clause-judged
returns-in-Waiting-clause-judged c =
    IfOk_then c.judge_waiting.result c.judge_waiting.ensures.judged
    (λ judged told event is. let types = c.args.self.now.types in told event (c.in-Waiting.ensures types event is.does is.request) (call_is types _ _ event is))

pub returns-in-More-clause-judged : goal.returns-in-More-clause-judged
returns-in-More-clause-judged c =
    IfOk_then c.judge_more.result c.judge_more.ensures.judged
    (λ judged told event is. let types = c.args.self.now.types in told event (c.in-More.ensures types event is.does is.request) (call_is types _ _ event is))
