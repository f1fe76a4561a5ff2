use Rattle.std.proofs.Common.{refl, sym, subst}
use Rattle.rma_base.specs.declared.rank.Rank.{Rank}
use Rattle.rma_epoch.specs.Table.{AreParts}
use Rattle.rma_span.specs.Span.{origin_of, origin_with}
use Rattle.rma_span.specs.inside.Stored.{Represents}
use Rattle.rma_accesses.specs.Run.{own_of}
use Rattle.rma_accesses.proofs.RankLemmas.{askable, freed}
use Rattle.rma_accesses.proofs.rank.RankAccesses.of.Goals as goal

pub of-requires-clause-later : goal.of-requires-clause-later
of-requires-clause-later c =
    freed c.args.ranks.now (own_of c.args.epochs.now) c.args.windows.now c.rank.result c.args.epochs.now.calls.now.calls c.requires.good c.requires.there c.requires.epochs.calls

pub returns-clause-accesses : goal.returns-clause-accesses
returns-clause-accesses c =
    let ranks = c.args.ranks.now in
    let own = own_of c.args.epochs.now in
    let calls = c.args.epochs.now.calls.now.calls in
    let kept = c.in_ok-spans.spans in
    let by_rank = subst (λ (r : Rank). Represents (origin_with c.args.windows.now ranks r calls) kept) c.rank.ensures c.in_ok-spans.ensures in
    let by_calls = subst (λ cs. Represents (origin_with c.args.windows.now ranks own.rank cs) kept) c.requires.epochs.calls by_rank in
    record {
      spans = subst (λ ws. Represents (origin_with ws ranks own.rank own.calls) kept) c.requires.windows by_calls;
      askable = askable ranks own (origin_of ranks own) c.args.epochs.now.calls.now c.parts.result.now c.requires.good c.requires.there c.requires.epochs.calls refl
          (subst (λ ws. AreParts ws c.args.epochs.now.calls.now c.parts.result.now) c.requires.windows (subst (AreParts c.args.windows.now c.args.epochs.now.calls.now) (sym c.parts.ensures) c.requires.epochs.table.parts));
    }
