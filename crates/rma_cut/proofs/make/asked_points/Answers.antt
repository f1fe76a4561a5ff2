use Rattle.std.proofs.Common.{◌≡◌, ◌⊎◌, ◌↔◌, inl, inr, ℕ, Option, None, Some, subst}
use Rattle.rma_base.specs.declared.point.Point.{Point}
use Rattle.rma_link.specs.Point.{return_of}
use Rattle.rma_rules.specs.Access.{Access}
use Rattle.rma_cut.specs.Show.{IsLastVisible}
use Rattle.rma_cut.proofs.AskedLemmas.{asked_return, asked_starts, start_or_opening}
use Rattle.rma_cut.proofs.make.asked_points.Goals as goal

the_one : (one : Option Point) (p : Point) → (one ≡ Some p) ⊎ (None ≡ Some p) → one ≡ Some p
the_one one p (inl is) = is
the_one one p (inr other) = absurd (cc)

pub returns-in-Some : goal.returns-in-Some
returns-in-Some c = λ p.
    let a = c.args.a.now in
    let b = c.args.b.now in
    let spans = c.args.spans.now in
    let window = c.in-Some.window in
    let row : (c.last_return.result ≡ Some p) ↔ ((v : ℕ) × IsLastVisible spans a.memory window b.call v × (p ≡ return_of a.memory v)) =
    subst (λ (r : Access). (c.last_return.result ≡ Some p) ↔ ((v : ℕ) × IsLastVisible spans a.memory window r.call v × (p ≡ return_of a.memory v))) c.b.view_is
    (subst (λ (r : Access). (c.last_return.result ≡ Some p) ↔ ((v : ℕ) × IsLastVisible spans r.memory window c.b.inside.call v × (p ≡ return_of r.memory v))) c.a.view_is (c.last_return.ensures p)) in
    let case = asked_return c.args.windows.now spans a b window ((c.held_back.ensures window).0 c.in-Some.is) p in
    (λ asked. case.0 (row.0 (the_one c.last_return.result p asked)), λ asks. inl (row.1 (case.1 asks)))

pub returns-in-None : goal.returns-in-None
returns-in-None c = λ p.
    let own = c.b.inside in
    let none = asked_starts c.args.windows.now c.args.spans.now c.args.a.now c.args.b.now (λ window held. let found = (c.held_back.ensures window).1 held in let nothing = c.in-None.is in cc) p in
    let starts = start_or_opening own.name.rank own.call own.opening p in
    rw c.entry_of.ensures (λ asked. none.0 (rw (← c.b.view_is) (starts.0 asked)), λ asks. starts.1 (rw (← c.b.view_is) at (none.1 asks)))
