use Rattle.std.proofs.Common.{◌<◌, ◌+◌, ◌∷◌, List, ℕ, drop, length, slice_index_or, sym, subst, ◌∙◌, arith}
use Rattle.std.proofs.lemmas.Slice.Eq.{bytes_eq-Decides}
use Rattle.rma_known.specs.declared.call_form.Part.TheVariants.{Number}
use Rattle.rma_known.specs.declared.part_at.PartAt.{PartAt}
use Rattle.rma_known.specs.inside.Templates.{Fit}
use Rattle.rma_known.proofs.AlikeLemmas.{alike_all, alike_more, next_item}
use Rattle.rma_known.proofs.call_template.are_alike.Goals as goal

abbrev no_part : PartAt
no_part = record { before = 0; len = 0; part = Number 0 }

fit_here : (parts : List PartAt) (i : ℕ) (known : List ℕ) → i < length parts → Fit (drop i parts) known → Fit (slice_index_or parts i no_part ∷ drop (i + 1) parts) known
fit_here parts i known within fit = subst (λ them. Fit them known) (next_item parts i no_part within) fit

pub part_end-requires : goal.part_end-requires
part_end-requires c =
    let fit = fit_here c.args.parts.now c.loop-i.i c.loop-i.known.now c.loop-i-test.true c.loop-i.invariant.fit in
    record { before = omega (arith, fit.0); low = fit.1 }

pub behind_part-known-requires : goal.behind_part-known-requires
behind_part-known-requires c = (fit_here c.args.parts.now c.loop-i.i c.loop-i.known.now c.loop-i-test.true c.loop-i.invariant.fit).0

pub loop-i-preserved : goal.loop-i-preserved
loop-i-preserved c =
    let parts = c.args.parts.now in
    let i = c.loop-i.i in
    let part = slice_index_or parts i no_part in
    let known = c.loop-i.known.now in
    let rest = c.loop-i.rest.now in
    let taken = rw c.in-Some.is at c.in_ok-next.ensures.taken in
    let fit = fit_here parts i known c.loop-i-test.true c.loop-i.invariant.fit in
    record {
      fit = rw c.behind_part-known.ensures fit.2;
      alike = λ more alike.
          rw taken.2
          (alike_more parts i part c.args.own.now c.args.words.now known rest c.loop-i.found taken.0 (drop c.in-Some.next rest) (next_item parts i no_part c.loop-i-test.true)
          c.loop-i.invariant.alike taken.1 more (rw (c.behind_part-known.ensures, c.behind-rest.ensures) at alike));
    }

pub returns : goal.returns
returns c same =
    alike_all c.args.parts.now c.loop-i.i c.args.own.now c.args.words.now c.loop-i.known.now c.loop-i.rest.now c.loop-i.found c.loop-i-test.false
    (sym ((bytes_eq-Decides c.loop-i.known.now c.loop-i.rest.now).0 (sym c.is_same.ensures ∙ same)))
    c.loop-i.invariant.alike
