use Rattle.std.proofs.Common.{◌≡◌, ◌<◌, ◌++◌, ◌∷◌, [], None, Some, refl, sym, ap, subst, ◌∙◌, arith}
use Rattle.std.specs.Prelude.{option_map}
use Rattle.std.specs.Map.{keys_of}
use Rattle.std.proofs.lemmas.Option.{same_Some}
use Rattle.std.proofs.lemmas.Result.{IfOk-weaker}
use Rattle.rma_base.specs.Limits.{fed_limit}
use Rattle.rma_call.specs.Call.{Call, call_of}
use Rattle.rma_message.specs.Receive.{posted}
use Rattle.rma_message.specs.declared.posted.PostedReceives.{PostedReceives}
use Rattle.rma_message.specs.inside.Matched.{AreKept, IsStep}
use Rattle.rma_message.proofs.PostedLemmas.{kept_received, receives_posted}
use Rattle.rma_message.proofs.posted.PostedReceives.take.Goals as goal

pub returns-in_ok-push-in-Receive : goal.returns-in_ok-push-in-Receive
returns-in_ok-push-in-Receive c = λ sent sends receives call there are.
    let old = c.args.self.now in
    let new : PostedReceives = record { receives = c.push.new.self; pending = old.pending; known = old.known } in
    let rank = c.args.rank in
    let keys = keys_of c.args.queues.now.entries in
    let whats = c.args.calls.now.whats in
    let (key, at, source, effect) = subst (IsStep rank keys call.what) c.in-Receive.is (c.requires.step call there) in
    let (receive, is, received) = effect sends receives c.args.i call.line call.request in
    let below : c.args.i < fed_limit = omega (arith, c.requires.index, c.requires.few) in
    subst (λ rs. AreKept rank keys whats rs new) (sym is)
    (kept_received rank keys whats receives old new are receive key c.in-Receive.place c.args.i c.in-Receive.from call.line at source below received c.in_ok-push-in-Receive.ensures.items refl refl)

pub returns-in-Post : goal.returns-in-Post
returns-in-Post c =
    IfOk-weaker c.post.result _ _
    (λ few given sent sends receives call there are.
    let rank = c.args.rank in
    let keys = keys_of c.args.queues.now.entries in
    let whats = c.args.calls.now.whats in
    let (comm, is) = subst (IsStep rank keys call.what) c.in-Post.is (c.requires.step call there) in
    let own : call ≡ call_of c.get.result = same_Some call (call_of c.get.result) (sym there ∙ c.get.ensures) in
    subst (λ rs. AreKept rank keys whats rs c.post.new.self)
    (sym (receives_posted rank keys whats sends receives c.args.i call comm is ∙ ap (λ (x : Call). receives ++ posted comm call.line x.request None ∷ []) own))
    (given sent rank keys whats receives comm call.line (c.what_number.ensures.what ∙ ap (option_map (λ (x : Call). x.what)) there ∙ ap Some is) are))
    c.post.ensures
