use Rattle.std.proofs.Common.{ℕ, Option, sym, subst, ◌∙◌}
use Rattle.std.proofs.lemmas.Option.{none-some}
use Rattle.rma_run.specs.Run.{calls_of}
use Rattle.rma_assert.specs.inside.Started.{IsOfPost}
use Rattle.rma_assert.proofs.starts.post_of.Goals as goal

pub returns-in-Some : goal.returns-in-Some
returns-in-Some c = subst (λ (n : Option ℕ). IsOfPost (calls_of c.args.ranks.now) n c.args.target c.call_of.result) (sym c.in-Some.is ∙ c.partner.ensures (calls_of c.args.ranks.now) c.requires) c.call_of.ensures

pub returns-in-None : goal.returns-in-None
returns-in-None c = λ post call is there. none-some post (sym c.in-None.is ∙ c.partner.ensures (calls_of c.args.ranks.now) c.requires ∙ is)
