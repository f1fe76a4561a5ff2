-- Accesses of a run by their names.
use Rattle.std.proofs.Common.{◌≡◌, ◌<◌, ℕ, List, length, Some, slice_get, slice_index_or, refl, sym, ap, subst, ◌∙◌, arith}
use Rattle.std.specs.Prelude.{Contains}
use Rattle.std.proofs.lemmas.List.{length-map}
use Rattle.std.proofs.lemmas.Option.{same_Some}
use Rattle.rma_call.specs.Call.{CallTable, RankCalls}
use Rattle.rma_kept.specs.Kept.{AreKept}
use Rattle.rma_run.specs.Run.{AreInOrder}
use Rattle.rma_rules.specs.Access.{Access}
use Rattle.rma_rules.specs.declared.access_name.AccessName.{AccessName}
use Rattle.rma_rules.specs.declared.access_name.Role.{Role}
use Rattle.rma_span.specs.Span.{access_of, accesses, origin_of, spanned_calls}
use Rattle.rma_points.proofs.AccessLemmas.{is_of_run}
use Rattle.rma_accesses.specs.Run.{AreGood}
use Rattle.rma_accesses.specs.declared.accesses.RunAccesses.{RunAccesses}
use Rattle.rma_accesses.specs.declared.rank.RankAccesses.{RankAccesses}
use Rattle.rma_accesses.specs.inside.Kept.{AreAccessesOf, IsAccessesOf, rank_of}
use Rattle.rma_accesses.proofs.RankLemmas.{all_at, contained, item_is, mapped, place_of}
use Rattle.rma_pairs.specs.Races.{HaveNames}
use Rattle.rma_explain.specs.inside.Line.{IsLineAt, IsOfLog}
use Rattle.rma_explain.proofs.LineLemmas.{same_index}
use Rattle.rma_explain.proofs.MadeLemmas.{is_made, name_with, named}

module _ (ranks : List RankCalls) (in_order : AreInOrder ranks) where
  -- the log of a rank stands at its number
  at_rank : (own : RankCalls) → Contains ranks own → slice_get ranks own.rank.0 ≡ Some own
  at_rank own of_run =
      let place = place_of ranks own of_run in
      ap (slice_get ranks) (in_order place.0 own place.1) ∙ place.1

  -- an access is made by the rank of its name, by the call of its line
  pub record IsAtLine (a : Access) (own : RankCalls) : Type 0 where
    pub index : ℕ
    pub line : IsLineAt ranks own index a.name.line.0
    pub rank_is : own.rank ≡ a.name.rank
    pub at_rank_is : slice_get ranks a.name.rank.0 ≡ Some own
    pub is : access_of (origin_of ranks own) line.number line.call a.name.role ≡ Some a

  pub at_line : (a : Access) → Contains (accesses ranks) a → (own : RankCalls) × Contains ranks own × IsAtLine a own
  at_line a has =
      let one = is_of_run ranks a has in
      let own = one.own in
      let origin = origin_of ranks own in
      let made = is_made origin a one.made in
      let name = named origin made.number made.call made.role a made.is in
      let place = place_of (spanned_calls origin) made.number made.spanned in (
        own,
        one.of_run,
        record {
          index = place.0;
          line = record { number = made.number; call = made.call; spanned = place.1; there = made.there; line_is = ap (λ (n : AccessName). n.line.0) (sym name) };
          rank_is = ap (λ (n : AccessName). n.rank) (sym name);
          at_rank_is = ap (λ (n : AccessName). slice_get ranks n.rank.0) name ∙ at_rank own one.of_run;
          is = subst (λ (does : Role). access_of origin made.number made.call does ≡ Some a) (ap (λ (n : AccessName). n.role) (sym name)) made.is;
        },
      )

  module _ (kept : (own : RankCalls) → Contains ranks own → AreKept own.rank.0 (length ranks) own.calls) where
    -- each access has a name of its own
    pub have_names : HaveNames (accesses ranks)
    have_names a b has_a has_b same =
        let (own, of_run, first) = at_line a has_a in
        let (other, also, there) = at_line b has_b in
        let owns : own ≡ other = same_Some own other (sym first.at_rank_is ∙ ap (λ (n : AccessName). slice_get ranks n.rank.0) same ∙ there.at_rank_is) in
        let second = subst (IsAtLine b) (sym owns) there in
        let index : first.index ≡ second.index =
        same_index ranks own (kept own of_run) first.index second.index a.name.line.0 first.line (subst (λ (n : AccessName). IsLineAt ranks own second.index n.line.0) (sym same) second.line) in
        let number : first.line.number ≡ second.line.number =
        same_Some first.line.number second.line.number (sym first.line.spanned ∙ ap (slice_get (spanned_calls (origin_of ranks own))) index ∙ second.line.spanned) in
        let call : first.line.call ≡ second.line.call =
        same_Some first.line.call second.line.call (sym first.line.there ∙ ap (slice_get (origin_of ranks own).sound) number ∙ second.line.there) in
        same_Some a b (sym first.is ∙ (λ k. access_of (origin_of ranks own) (number k) (call k) ((same k).role)) ∙ second.is)

-- ---- the access of a name

module _ (ranks : List RankCalls) (in_order : AreInOrder ranks) (name : AccessName) (own : RankCalls) (there : slice_get ranks name.rank.0 ≡ Some own) where
  -- an access of the name is made by the call of its line
  pub made_at : (a : Access) → Contains (accesses ranks) a → a.name ≡ name
      → (index : ℕ) × (line : IsLineAt ranks own index name.line.0) × (access_of (origin_of ranks own) line.number line.call name.role ≡ Some a)
  made_at a has same =
      let (other, of_run, at) = at_line ranks in_order a has in
      let owns : other ≡ own = same_Some other own (sym at.at_rank_is ∙ ap (λ (n : AccessName). slice_get ranks n.rank.0) same ∙ there) in
      subst (λ (n : AccessName). (index : ℕ) × (line : IsLineAt ranks own index n.line.0) × (access_of (origin_of ranks own) line.number line.call n.role ≡ Some a)) same
      (subst (λ (o : RankCalls). (index : ℕ) × (line : IsLineAt ranks o index a.name.line.0) × (access_of (origin_of ranks o) line.number line.call a.name.role ≡ Some a)) owns
      (at.index, at.line, at.is))

  -- and what that call makes in its role has the name
  pub has_name : (index : ℕ) (line : IsLineAt ranks own index name.line.0) (a : Access) → access_of (origin_of ranks own) line.number line.call name.role ≡ Some a → a.name ≡ name
  has_name index line a is =
      let rank = in_order name.rank.0 own there in
      let by : name_with (origin_of ranks own) line.call name.role ≡ name = λ k. record { rank = record { 0 = rank k }; line = record { 0 = line.line_is k }; role = name.role } in
      named (origin_of ranks own) line.number line.call name.role a is ∙ by

-- ---- where the accesses of a rank are kept

module _ (ranks : List RankCalls) (good : AreGood ranks) (given : RunAccesses) (are : AreAccessesOf ranks given) (rank : ℕ) (within : rank < length ranks) where
  pub rank_within : rank < length given.ranks.items
  rank_within =
      let long = ap length are.owns in
      let same = length-map given.ranks.items rank_of in
      omega (arith, long, same, within)

  module _ (own : RankAccesses) (is : own ≡ slice_index_or given.ranks.items rank own) where
    own_at : slice_get given.ranks.items rank ≡ Some own
    own_at = item_is given.ranks.items given.ranks.items rank own refl rank_within is

    pub log_at : slice_get ranks rank ≡ Some (rank_of own)
    log_at = ap (λ (l : List RankCalls). slice_get l rank) (sym are.owns) ∙ mapped rank_of given.ranks.items rank own own_at

    pub of_log : (table : CallTable) (log : RankCalls) → log ≡ slice_index_or ranks rank log → table.calls ≡ log.calls → IsOfLog ranks table own
    of_log table log here calls =
        let same : log ≡ rank_of own = same_Some log (rank_of own) (sym (item_is ranks ranks rank log refl within here) ∙ log_at) in
        record {
          good = good;
          of_run = contained ranks rank (rank_of own) log_at;
          accesses = all_at (IsAccessesOf ranks) given.ranks.items rank own are.each own_at;
          calls = calls ∙ ap (λ (l : RankCalls). l.calls) same;
        }
