use Rattle.std.proofs.Common.{◌<◌, ◌≤◌, Some, ap, arith, subst, ⊎_elim}
use Rattle.std.proofs.lemmas.Bool.{cases_lt}
use Rattle.std.proofs.lemmas.Option.{none-some, same_Some, slice_get_within}
use Rattle.rma_span.specs.Span.{origin_of, spanned_calls}
use Rattle.rma_accesses.specs.inside.Kept.{rank_of}
use Rattle.rma_explain.specs.inside.Line.{IsLineAt}
use Rattle.rma_explain.proofs.LineLemmas.{lines_never_fall, one_index}
use Rattle.rma_explain.proofs.named.index_at.Goals as goal
use Rattle.rma_explain.proofs.named.index_at.Goals.{else-index-len-via-else-index-len, else-index-len-via-then-index-len+else-line_at-line}

pub returns-then-line_at-line : goal.returns-then-line_at-line
returns-then-line_at-line c = λ ranks index of.
    let own = rank_of c.args.own.now in
    let count = c.count_before-index.result in
    let here : IsLineAt ranks own count c.args.line.0 = subst (IsLineAt ranks own count) c.if-line_at-line.true (c.line_at.ensures ranks of) in (
      λ same. subst (λ k. IsLineAt ranks own k c.args.line.0) (same_Some count index same) here,
      λ there. ap Some (one_index ranks c.args.calls.now c.args.own.now of count index c.args.line.0 here there),
    )

pub returns-else-index-len : goal.returns-else-index-len
returns-else-index-len c = λ ranks index of.
    let own = rank_of c.args.own.now in
    let count = c.count_before-index.result in
    let line = c.args.line.0 in (
      λ none. absurd (none-some index none),
      λ there.
          let from : count ≤ index =
          ⊎_elim (λ (less : index < count). absurd (let before = c.count_before-index.ensures.before ranks index line of there less in omega (arith, before))) (λ (le : count ≤ index). le) (cases_lt index count) in
          elim c.else-index-len.branch [
            | else-index-len-via-then-index-len+else-line_at-line w ↦
                let after = c.count_before-index.ensures.after ranks count w.line_at.result.0 of (w.line_at.ensures ranks of) (omega arith) in
                let up = lines_never_fall ranks c.args.calls.now c.args.own.now of count index w.line_at.result.0 line (w.line_at.ensures ranks of) there from in
                let other = w.if-line_at-line.false in
                absurd (omega (arith, after, up, other))
            | else-index-len-via-else-index-len w ↦
                let less = slice_get_within (spanned_calls (origin_of ranks own)) index there.number there.spanned in
                let long = c.len.ensures ranks of.accesses in
                let past = w.if-index-len.false in
                absurd (omega (arith, less, long, past, from))
          ],
    )
