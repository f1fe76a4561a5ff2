use Rattle.std.proofs.Common.{rules, ◌≡◌, get_or, sym, ap, ◌∙◌, refl, arith, ⊎_elim, ext_get_or}
use Rattle.std.proofs.lemmas.Bool.{cases_lt}
use Rattle.std.proofs.lemmas.Option.{get_or_from_slice_get}
use Rattle.rma_bytes.proofs.RunLemmas.{no_run}
use Rattle.rma_chain.proofs.deed.are_same_runs.Goals as goal

pub runs-preserved : goal.runs-preserved
runs-preserved c = λ k less d.
    let i = c.runs.i in
    ⊎_elim (λ earlier. c.runs.invariant k earlier d)
    (λ later.
    let last : k ≡ i = omega arith in
    let first = get_or_from_slice_get c.args.a.now i c.get.result d c.get.ensures in
    let second = get_or_from_slice_get c.args.b.now i c.get-in-runs.result d c.get-in-runs.ensures in
    let one : c.get.result ≡ c.get-in-runs.result = search rules in
    ap (λ n. get_or c.args.a.now n d) last ∙ first ∙ one ∙ sym second ∙ sym (ap (λ n. get_or c.args.b.now n d) last))
    (cases_lt k i)

pub returns : goal.returns
returns c =
    let long = c.len.ensures.value in
    let other_long = c.len-2.ensures.value in
    let end = c.len-i-end.ensures.value in
    let same = ext_get_or no_run c.args.a.now c.args.b.now (sym long ∙ c.if-len.false ∙ other_long) (λ k less. c.runs.invariant k (omega arith) no_run) in
    (λ _. same, λ _. refl)
