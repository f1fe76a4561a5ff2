use Rattle.std.proofs.Common.{◌≡◌, ◌<◌, ◌≤◌, ◌+◌, ◌*◌, ◌/◌, ◌%◌, length, take, sum_by, sym, ap, subst, ◌∙◌, arith}
use Rattle.rma_layout.proofs.Words.{basic_size, bytes_in}
use Rattle.rma_layout.proofs.ElementLemmas.{bytes_in_nil}
use Rattle.rma_layout.proofs.SignatureLemmas.{none_touched, length_touched}
use Rattle.rma_typemap.proofs.Words.{entry_count, size}
use Rattle.rma_typemap.specs.declared.made.Made.{Made}
use Rattle.rma_type.proofs.Words.{typemaps, typemap_in}
use Rattle.rma_layout.proofs.prefix.touched_bytes.Goals as goal

pub returns-then-made-eq0-clause-ok : goal.returns-then-made-eq0-clause-ok
returns-then-made-eq0-clause-ok c = λ count address le.
    let m = typemap_in (typemaps c.args.types.now.origins) c.args.id in
    let none : entry_count m ≡ 0 = sym (ap (λ (x : Made). x.entries) c.made-made.ensures) ∙ c.if-made-eq0.true in
    let all = subst (λ k. c.args.entries ≤ count * k) none le in
    sym (ap (λ es. length (bytes_in es)) (none_touched m count address c.args.entries (omega arith)) ∙ ap length bytes_in_nil)

pub returns-in-Some-clause-ok : goal.returns-in-Some-clause-ok
returns-in-Some-clause-ok c = λ count address le.
    let m = typemap_in (typemaps c.args.types.now.origins) c.args.id in
    let k : c.made-made.result.entries ≡ entry_count m = ap (λ (x : Made). x.entries) c.made-made.ensures in
    let s : c.made-made.result.size ≡ size m = ap (λ (x : Made). x.size) c.made-made.ensures in
    let e = c.made-made.result.entries in
    let n = c.args.entries in
    let some : 0 < e = omega arith in
    let split : n ≡ n / e * e + n % e = omega arith in
    let split_m : n ≡ n / e * entry_count m + n % e = split ∙ ap (λ x. n / e * x + n % e) k in
    let below : n % e < entry_count m = omega arith in
    let runs = ap (λ xs. sum_by basic_size (take (n % e) xs)) c.signature.ensures.runs.same in
    let whole = c.in_ok-whole.ensures.ok ∙ ap (λ x. n / e * x) s in
    let all = length_touched m count address n (n / e) (n % e) split_m below le in
    c.in-Some.ensures.1 ∙ omega (arith, whole, c.prefix_bytes.ensures.value, runs, all)
