use Rattle.std.proofs.Common.{◌≡◌, ◌++◌, length, ap, sym, ◌∙◌, arith}
use Rattle.rma_type.proofs.Words.{length-append, append-nil, copies, spread}
use Rattle.rma_typemap.proofs.SignatureLemmas.{copies_zero, length_copies}
use Rattle.rma_type.proofs.RunLemmas.{one_copy_more, copies_more}
use Rattle.rma_type.proofs.signature.append_all.Goals as goal

pub loop-copy-init : goal.loop-copy-init
loop-copy-init c = record {
  same = rw copies_zero (sym (append-nil (spread c.args.done.now.items)));
  apart = c.requires.done_apart;
}

pub append-requires-clause-few : goal.append-requires-clause-few
append-requires-clause-few c =
    let one = spread c.args.runs.now in
    let k = c.loop-copy._copy in
    let long = ap length c.loop-copy.invariant.same ∙ length-append (spread c.args.done.now.items) (copies k one) in
    let fits = one_copy_more k c.args.count (length one) c.loop-copy-test.true in
    omega (arith, long, length_copies k one, fits, c.requires.few)

pub loop-copy-preserved : goal.loop-copy-preserved
loop-copy-preserved c =
    let one = spread c.args.runs.now in
    let k = c.loop-copy._copy in
    record {
      same = rw (c.in_ok-append.ensures.same, c.loop-copy.invariant.same) (copies_more k (spread c.args.done.now.items) one);
      apart = c.in_ok-append.ensures.apart;
    }

pub returns-clause-same : goal.returns-clause-same
returns-clause-same c =
    let all : c.loop-copy._copy ≡ c.args.count = omega arith in
    c.loop-copy.invariant.same ∙ ap (λ n. spread c.args.done.now.items ++ copies n (spread c.args.runs.now)) all
