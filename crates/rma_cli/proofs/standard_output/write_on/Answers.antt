use Rattle.std.proofs.Common.{rules, ◌≡◌, ◌++◌, ◌∙◌, ap, sym, append_assoc, List, ℕ, subst, take, drop, length, ◌-◌, arith}
use Rattle.std.proofs.lemmas.List.{take_all, length-drop}
use Rattle.std.specs.Prelude.{Option, None, Some}
use Rattle.std.specs.Io.KnownBytes.{Appends}
use Rattle.rma_io.proofs.ScheduleLemmas.{take_twice}
use Rattle.rma_cli.proofs.standard_output.write_on.Goals as goal

Appends_more : (a b c : Option (List ℕ)) (xs ys : List ℕ) → Appends a b xs → Appends b c ys → Appends a c (xs ++ ys)
Appends_more None b c xs ys first then = tt
Appends_more (Some ws) None c xs ys first then = absurd first
Appends_more (Some ws) (Some bs) None xs ys first then = absurd then
Appends_more (Some ws) (Some bs) (Some cs) xs ys first then = then ∙ ap (λ z. z ++ ys) first ∙ append_assoc ws xs ys

pub loop-written-preserved-in-Ok : goal.loop-written-preserved-in-Ok
loop-written-preserved-in-Ok g c =
    let piece = c.args.piece.now in
    let n = c.loop-written.written in
    let rest : take (length piece - n) (drop n piece) ≡ drop n piece = take_all (length piece - n) (drop n piece) (omega (arith, length-drop n piece)) in
    record {
      within = search rules;
      bytes =
          subst (λ (bytes : List ℕ). Appends (g.W.Write.contents c.args.output.now) (g.W.Write.contents c.write.new.self) bytes) (sym (take_twice n c.in-Ok.len piece))
          (Appends_more _ _ _ (take n piece) (take c.in-Ok.len (drop n piece)) c.loop-written.invariant.bytes
          (subst (λ (bytes : List ℕ). Appends (g.W.Write.contents c.loop-written.output) (g.W.Write.contents c.write.new.self) (take c.in-Ok.len bytes)) rest
          c.in-Ok.ensures.bytes));
    }
