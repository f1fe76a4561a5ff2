use Rattle.std.proofs.Common.{◌≡◌, ℕ, slice_get, refl, sym, ap, ◌∙◌, arith}
use Rattle.std.specs.Prelude.{Contains}
use Rattle.std.proofs.lemmas.Option.{none-some, same_Some, slice_get_within}
use Rattle.rma_call.specs.Call.{RankCalls}
use Rattle.rma_rules.specs.declared.access_name.AccessName.{AccessName}
use Rattle.rma_run.proofs.ContainLemmas.{flat_map_has}
use Rattle.rma_span.specs.Span.{access_of, accesses_of, origin_of, spanned_calls}
use Rattle.rma_points.proofs.OptionLemmas.{some_is}
use Rattle.rma_accesses.specs.inside.Kept.{rank_of}
use Rattle.rma_explain.specs.inside.Line.{IsLineAt}
use Rattle.rma_explain.proofs.NameLemmas.{at_line, has_name, log_at, made_at, of_log}
use Rattle.rma_explain.proofs.named.access_named.Goals as goal

pub returns-then-rank-ranks : goal.returns-then-rank-ranks
returns-then-rank-ranks c = λ access. (
  λ none. absurd (none-some access none),
  λ both.
      let ranks = c.args.ranks.now in
      let (own, of_run, at) = at_line ranks c.requires.good.run.in_order access both.0 in
      let less = slice_get_within ranks access.name.rank.0 own at.at_rank_is in
      let same = ap (λ (n : AccessName). n.rank.0) both.1 in
      let past = c.if-rank-ranks.true in
      absurd (omega (arith, less, same, past)),
)

pub returns-in_err-index : goal.returns-in_err-index
returns-in_err-index c = λ access.
    let ranks = c.args.ranks.now in
    let given = c.args.run.now in
    let name = c.args.name in
    let own = c.index-own.result.now in
    let there = log_at ranks c.requires.good given c.requires.accesses name.rank.0 c.if-rank-ranks.false own c.index-own.ensures in
    let of = of_log ranks c.requires.good given c.requires.accesses name.rank.0 c.if-rank-ranks.false own c.index-own.ensures c.calls.result.now c.index-ranks-rank.result c.index-ranks-rank.is c.calls.ensures in (
      λ some. absurd (none-some access (sym c.from_residual.ensures ∙ some)),
      λ both.
          let made = made_at ranks c.requires.good.run.in_order name (rank_of own) there access both.0 both.1 in
          absurd (none-some made.0 ((c.in_err-index.ensures ranks made.0 of).1 made.1)),
    )

pub access-requires : goal.access-requires
access-requires c =
    let ranks = c.args.ranks.now in
    let given = c.args.run.now in
    let name = c.args.name in
    let own = c.index-own.result.now in
    let of = of_log ranks c.requires.good given c.requires.accesses name.rank.0 c.if-rank-ranks.false own c.index-own.ensures c.calls.result.now c.index-ranks-rank.result c.index-ranks-rank.is c.calls.ensures in
    let line = (c.in_ok-index.ensures ranks c.in_ok-index.index of).0 refl in
    (ranks, of.accesses, slice_get_within (spanned_calls (origin_of ranks (rank_of own))) c.in_ok-index.index line.number line.spanned)

pub returns : goal.returns
returns c = λ access.
    let ranks = c.args.ranks.now in
    let given = c.args.run.now in
    let name = c.args.name in
    let own = c.index-own.result.now in
    let index = c.in_ok-index.index in
    let there = log_at ranks c.requires.good given c.requires.accesses name.rank.0 c.if-rank-ranks.false own c.index-own.ensures in
    let of = of_log ranks c.requires.good given c.requires.accesses name.rank.0 c.if-rank-ranks.false own c.index-own.ensures c.calls.result.now c.index-ranks-rank.result c.index-ranks-rank.is c.calls.ensures in
    let line = (c.in_ok-index.ensures ranks index of).0 refl in
    let made_by : (k : ℕ) → (at : IsLineAt ranks (rank_of own) k name.line.0) → index ≡ k → c.access.result ≡ access_of (origin_of ranks (rank_of own)) at.number at.call name.role =
    λ k at same. c.access.ensures.is ranks at.number at.call of.accesses (ap (slice_get (spanned_calls (origin_of ranks (rank_of own)))) same ∙ at.spanned) at.there in (
      λ some. (
        flat_map_has (λ (o : RankCalls). accesses_of (origin_of ranks o)) ranks (rank_of own) access of.of_run
            (some_is (Contains (accesses_of (origin_of ranks (rank_of own)))) c.access.result (c.access.ensures.of_rank ranks of.accesses) access some),
        has_name ranks c.requires.good.run.in_order name (rank_of own) there index line access (sym (made_by index line refl) ∙ some),
      ),
      λ both.
          let made = made_at ranks c.requires.good.run.in_order name (rank_of own) there access both.0 both.1 in
          let same : index ≡ made.0 = same_Some index made.0 ((c.in_ok-index.ensures ranks made.0 of).1 made.1) in
          made_by made.0 made.1 same ∙ made.2,
    )
