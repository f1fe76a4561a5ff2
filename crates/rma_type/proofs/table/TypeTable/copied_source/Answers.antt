use Rattle.std.proofs.Common.{◌≡◌, ◌*◌, ⊎_elim, inl, inr, sym, ap, ◌∙◌}
use Rattle.rma_type.proofs.Words.{Summary, entry_count, typemaps, typemap_in}
use Rattle.rma_typemap.proofs.BoundLemmas.{entry_count_is}
use Rattle.rma_type.proofs.SourceLemmas.{copies_unchanged, quotient}
use Rattle.rma_type.proofs.table.TypeTable.copied_source.Goals as goal

pub returns-then-one-eq0 : goal.returns-then-one-eq0
returns-then-one-eq0 c n e =
    let parts = typemap_in (typemaps c.args.self.now.origins) c.args.old in
    let one : c.summary.result.now.entries ≡ entry_count parts = ap (λ (o : Summary). o.entries) c.summary.ensures.value ∙ sym (entry_count_is parts) in
    (c.requires.within, copies_unchanged n c.args.entries parts e (⊎_elim (λ p. inl (sym one ∙ p)) (λ q. inr (q.1 ∙ one)) c.then-one-eq0.either))

pub returns : goal.returns
returns c n e =
    let parts = typemap_in (typemaps c.args.self.now.origins) c.args.old in
    let one : c.summary.result.now.entries ≡ entry_count parts = ap (λ (o : Summary). o.entries) c.summary.ensures.value ∙ sym (entry_count_is parts) in
    let many = quotient n c.args.entries c.summary.result.now.entries c.if-one-eq0.false (e ∙ ap (λ k. n * k) (sym one)) in
    record {
      same = rw (c.in_ok-append_copies.ensures.same, c.new-runs.ensures.items, many, c.signature.ensures.runs.same);
      apart = c.in_ok-append_copies.ensures.apart;
    }
