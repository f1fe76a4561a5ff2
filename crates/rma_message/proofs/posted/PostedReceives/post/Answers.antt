use Rattle.std.proofs.Common.{◌++◌, ◌∷◌, [], cond, Some, None, nat_eq, refl, sym, ap, subst, ◌∙◌}
use Rattle.rma_message.specs.Receive.{posted}
use Rattle.rma_message.specs.declared.posted.PostedReceives.{PostedReceives}
use Rattle.rma_message.specs.inside.Matched.{AreKept}
use Rattle.rma_message.proofs.PostedLemmas.{kept_posted, kept_requested}
use Rattle.rma_message.proofs.posted.PostedReceives.post.Goals as goal

pub returns : goal.returns
returns c = λ few rank keys whats receives comm line at are.
    let old = c.args.self.now in
    let request = c.in-Some.request in
    let index = c.len-index.result in
    let new : PostedReceives = record { receives = c.push.new.self; pending = c.put_index.new.indexes; known = old.known } in
    subst (λ q. AreKept rank keys whats (receives ++ posted comm line q None ∷ []) new) (sym c.in-Some.is)
    (kept_requested rank keys whats receives old new are comm line c.args.what request index at (c.len-index.ensures ∙ old.receives.ok.0) c.in_ok-push.ensures.items
    (λ q. c.put_index.ensures q ∙ ap (cond (nat_eq request q) (Some index)) (c.in_ok-reach.ensures.same q)) refl)

pub returns-in_default : goal.returns-in_default
returns-in_default c = λ few rank keys whats receives comm line at are.
    let old = c.args.self.now in
    let new : PostedReceives = record { receives = c.push.new.self; pending = old.pending; known = old.known } in
    subst (λ q. AreKept rank keys whats (receives ++ posted comm line q None ∷ []) new) (sym c.in_default.is)
    (kept_posted rank keys whats receives old new are comm line c.args.what at c.in_ok-push.ensures.items refl refl)
