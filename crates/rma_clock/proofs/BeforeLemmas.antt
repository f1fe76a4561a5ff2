-- What is before a point.
use Rattle.std.proofs.Common.{◌≡◌, ℕ, ◌+◌, ◌*◌, ◌<◌, ◌≤◌, ◌⊎◌, inl, inr, List, [], ◌∷◌, length, Some, None, refl, sym, ap, subst, ◌∙◌, arith, ⊎_elim}
use Rattle.std.specs.Prelude.{slice_index_or, Contains}
use Rattle.std.proofs.lemmas.Bool.{cases_eq, cases_lt}
use Rattle.std.proofs.lemmas.List.Elements.{All-contains}
use Rattle.std.proofs.lemmas.Option.{same_Some}
use Rattle.rma_base.specs.declared.rank.Rank.{Rank}
use Rattle.rma_base.specs.declared.point.Point.{Point}
use Rattle.rma_link.specs.declared.links.Links.{Links}
use Rattle.rma_link.specs.declared.meet.Member.{Member}
use Rattle.rma_link.specs.declared.meet.Meet as meet
use Rattle.rma_link.specs.Point.{entry, return_of}
use Rattle.rma_link.specs.Link.{IsMet, IsLinked}
use Rattle.rma_link.specs.Order.{IsDirectlyBefore, IsAtOrBefore, IsPossible}
use Rattle.rma_link.specs.Order.IsAtOrBefore.{at, before}
use Rattle.rma_link.proofs.OrderLemmas.{same_point, at_or_before_trans, later_position, step_cases}
use Rattle.rma_walk.specs.declared.source.Source.{Source}
use Rattle.rma_walk.specs.declared.source.Source.TheVariants.{Entry, Meet}
use Rattle.rma_walk.specs.Source.{sources_of, AreSources}
use Rattle.rma_walk.proofs.ListLemmas.{at_contains, contains_none, contains_cons_cases}
use Rattle.rma_walk.proofs.PendingLemmas.{edge_source, meet_source}
use Rattle.rma_walk.proofs.BlockerLemmas.{member_of, met_by}
use Rattle.rma_clock.specs.declared.step.Step.{Step}
use Rattle.rma_clock.specs.inside.Before.{point_at, Covers, IsBefore, IsBeforeSource, IsBeforeSome, IsRow, IsRaised}
use Rattle.rma_clock.specs.inside.Table.{IsLastStep, IsCaught, IsReceived, entry_before, steps_of}
use Rattle.rma_clock.proofs.RowLemmas.{IsAmong, raised_then, raised_as, row_as}

-- the points of one rank are ordered by their positions alone
pub positions_in_order : (links : Links) → IsPossible links → (p q : Point) → p.rank ≡ q.rank → IsAtOrBefore links p q → p.pos ≤ q.pos
positions_in_order links possible p q ranks le =
    ⊎_elim
    (λ (later : q.pos < p.pos).
    let back : IsAtOrBefore links q p = later_position links q p (sym ranks) (omega arith) in
    absurd (possible p (q, (λ same. let alike : p.pos ≡ q.pos = ap (λ t. t.pos) same in absurd (omega arith)), le, back)))
    (λ upto. upto)
    (cases_lt q.pos p.pos)

same_rank : (p : Point) (r : ℕ) → p.rank.0 ≡ r → p.rank ≡ record { 0 = r }
same_rank p r same = let R : ℕ → Rank = λ k. record { 0 = k } in ap R same

module _ (links : Links) (steps : List (List Step)) (r pos : ℕ) (caught : IsCaught links steps (point_at r pos)) where
  step_at : (d t : Point) → IsLinked links d t → t.rank.0 ≡ r → t.pos ≤ pos → (s : Step) × Contains (steps_of steps r) s × (s.pos ≡ t.pos)
  step_at d t linked rank le =
      let here : t ≡ point_at r t.pos = same_point t (point_at r t.pos) (same_rank t r rank) refl in
      caught t.pos le d (subst (IsLinked links d) here linked)

  -- points of other ranks are before the last step
  pub before_step : (s : Step) → IsLastStep (steps_of steps r) pos (Some s) → {p t : Point} → IsAtOrBefore links p t → t.rank.0 ≡ r → t.pos ≤ pos → s.pos ≤ t.pos → (p.rank.0 ≡ r → ⊥)
      → IsBefore links (point_at r s.pos) p
  before_step s last at rank le upto differs = absurd (differs rank)
  before_step s last {p = p} {t = t} (before {q = d} first step) rank le upto differs =
      let here : t.pos ≡ s.pos → IsBefore links (point_at r s.pos) p =
      λ same. (d, subst (IsDirectlyBefore links d) (same_point t (point_at r s.pos) (same_rank t r rank) same) step, first) in
      ⊎_elim
      here
      (λ (past : t.pos ≡ s.pos → ⊥). ⊎_elim
      (λ (own : (d.rank ≡ t.rank) × (t.pos ≡ d.pos + 1)).
      let next = own.1 in
      before_step s last first (ap (λ (k : Rank). k.0) own.0 ∙ rank) (omega arith) (omega arith) differs)
      (λ (linked : IsLinked links d t).
      let found = step_at d t linked rank le in
      let same = found.2 in
      let greatest : found.0.pos ≤ pos → found.0.pos ≤ s.pos = All-contains (λ (o : Step). o.pos ≤ pos → o.pos ≤ s.pos) (steps_of steps r) found.0 last.2 found.1 in
      let upto_last : found.0.pos ≤ s.pos = greatest (omega arith) in
      here (omega arith))
      (step_cases links d t step))
      (cases_eq t.pos s.pos)

  -- where there is none, no point of another rank is
  pub before_none : IsLastStep (steps_of steps r) pos None → {p t : Point} → IsAtOrBefore links p t → t.rank.0 ≡ r → t.pos ≤ pos → (p.rank.0 ≡ r → ⊥) → ⊥
  before_none last at rank le differs = differs rank
  before_none last {p = p} {t = t} (before {q = d} first step) rank le differs =
      ⊎_elim
      (λ (own : (d.rank ≡ t.rank) × (t.pos ≡ d.pos + 1)).
      let next = own.1 in
      before_none last first (ap (λ (k : Rank). k.0) own.0 ∙ rank) (omega arith) differs)
      (λ (linked : IsLinked links d t).
      let found = step_at d t linked rank le in
      let same = found.2 in
      let past : pos < found.0.pos = All-contains (λ (o : Step). pos < o.pos) (steps_of steps r) found.0 last found.1 in
      absurd (omega arith))
      (step_cases links d t step)

  -- and what is before the step is before the point
  pub before_point : (s : Step) → s.pos ≤ pos → (p : Point) → IsBefore links (point_at r s.pos) p → IsAtOrBefore links p (point_at r pos)
  before_point s le p (d, step, first) = at_or_before_trans links (before first step) (later_position links (point_at r s.pos) (point_at r pos) refl le)

module _ (links : Links) (steps : List (List Step)) (possible : IsPossible links) (q : Point) (caught : IsCaught links steps q) where
  own_upto : (p : Point) → IsAmong q.rank.0 (q.pos + 1) p → IsAtOrBefore links p q
  own_upto p among = let lt = among.1 in later_position links p q (same_rank p q.rank.0 among.0) (omega arith)

  upto_own : (p : Point) → p.rank.0 ≡ q.rank.0 → IsAtOrBefore links p q → IsAmong q.rank.0 (q.pos + 1) p
  upto_own p same le = let upto = positions_in_order links possible p q (same_rank p q.rank.0 same) le in (same, omega arith)

  -- a row is raised to a point by the row of the last step, and the point itself
  pub raised_by_step : (s : Step) (row old mid new : List ℕ) → IsLastStep (steps_of steps q.rank.0) q.pos (Some s) → IsRow (IsBefore links (point_at q.rank.0 s.pos)) row
      → IsRaised (Covers row) old mid → IsRaised (IsAmong q.rank.0 (q.pos + 1)) mid new → IsRaised (λ p. IsAtOrBefore links p q) old new
  raised_by_step s row old mid new last is one two =
      raised_then (Covers row) (IsAmong q.rank.0 (q.pos + 1)) (λ p. IsAtOrBefore links p q) old mid new one two
      (λ p le. ⊎_elim
      (λ (same : p.rank.0 ≡ q.rank.0). inr (upto_own p same le))
      (λ (differs : p.rank.0 ≡ q.rank.0 → ⊥). inl (is.all p (before_step links steps q.rank.0 q.pos caught s last le refl (omega arith) last.1 differs)))
      (cases_eq p.rank.0 q.rank.0))
      (λ p either. ⊎_elim
      (λ (covered : Covers row p). before_point links steps q.rank.0 q.pos caught s last.1 p (is.only p covered))
      (λ (among : IsAmong q.rank.0 (q.pos + 1) p). own_upto p among)
      either)

  pub raised_by_none : (old new : List ℕ) → IsLastStep (steps_of steps q.rank.0) q.pos None → IsRaised (IsAmong q.rank.0 (q.pos + 1)) old new → IsRaised (λ p. IsAtOrBefore links p q) old new
  raised_by_none old new last one =
      raised_as (IsAmong q.rank.0 (q.pos + 1)) (λ p. IsAtOrBefore links p q) old new one
      (λ p le. ⊎_elim
      (λ (same : p.rank.0 ≡ q.rank.0). upto_own p same le)
      (λ (differs : p.rank.0 ≡ q.rank.0 → ⊥). absurd (before_none links steps q.rank.0 q.pos caught last le refl (omega arith) differs))
      (cases_eq p.rank.0 q.rank.0))
      own_upto

-- what is before a return: what is at or before the entry of its call, or an entry of a source
module _ (lens : List ℕ) (links : Links) (inboxes : List (List (List Source))) (sources : AreSources lens links inboxes) (r call : ℕ) where
  abbrev me : Member
  me = record { rank = record { 0 = r }; call = call }

  abbrev own_entry : Point
  own_entry = entry (record { 0 = r }) call

  abbrev own_return : Point
  own_return = return_of (record { 0 = r }) call

  abbrev own_sources : List Source
  own_sources = sources_of (slice_index_or inboxes r []) call

  pub before_return_to : (p : Point) → IsBefore links own_return p → IsAtOrBefore links p own_entry ⊎ IsBeforeSome links own_sources p
  before_return_to p (d, step, first) =
      ⊎_elim
      (λ (own : (d.rank ≡ own_return.rank) × (2 * call + 1 ≡ d.pos + 1)).
      let pos = own.1 in
      let same : d ≡ own_entry = same_point d own_entry own.0 (omega arith) in
      inl (subst (IsAtOrBefore links p) same first))
      (λ linked. inr (⊎_elim
      (λ (edge : Contains links.edges (record { from = d; to = own_return })). (Entry d, sources.all r call (Entry d) (inl (d, refl, edge)), (d, refl, first)))
      (λ (met : IsMet links d own_return).
      let found = at_contains links.meets met.meet met.is_meet in
      let has : Contains met.meet.calls me = subst (Contains met.meet.calls) (member_of r call met.second met.to_return) met.has_second in
      (Meet found.0, sources.all r call (Meet found.0) (inr (found.0, met.meet, found.1, (refl, has))), (d, (met.meet, found.1, (met.first, met.has_first, met.from_entry)), first)))
      linked))
      (step_cases links d own_return step)

  pub before_return_own : (p : Point) → IsAtOrBefore links p own_entry → IsBefore links own_return p
  before_return_own p le = (own_entry, inl (record { 0 = r }, call, refl, refl), le)

  same_member : (m : Member) → (m ≡ me) ⊎ (m ≡ me → ⊥)
  same_member m =
      let M : ℕ → Member = λ k. record { rank = record { 0 = k }; call = m.call } in
      let N : ℕ → Member = λ n. record { rank = record { 0 = r }; call = n } in
      ⊎_elim
      (λ (ranks : m.rank.0 ≡ r). ⊎_elim
      (λ (calls : m.call ≡ call). inl (ap M ranks ∙ ap N calls))
      (λ (differ : m.call ≡ call → ⊥). inr (λ same. differ (ap (λ t. t.call) same)))
      (cases_eq m.call call))
      (λ (differ : m.rank.0 ≡ r → ⊥). inr (λ same. differ (ap (λ t. t.rank.0) same)))
      (cases_eq m.rank.0 r)

  before_return_source : (p : Point) (source : Source) → Contains own_sources source → IsBeforeSource links source p → IsBefore links own_return p
  before_return_source p (Entry from) has (e, is, le) =
      let edge = edge_source links r call from (sources.only r call (Entry from) has) in
      (from, inr (inr (inl edge)), subst (IsAtOrBefore links p) (sym is) le)
  before_return_source p (Meet index) has (e, (m, there, (member, has_member, from)), le) =
      let found = meet_source links r call index (sources.only r call (Meet index) has) in
      let same : found.0 ≡ m = same_Some found.0 m (sym found.1 ∙ there) in
      let has_me : Contains m.calls me = subst (λ (t : meet.Meet). Contains t.calls me) same found.2 in
      ⊎_elim
      (λ (own : member ≡ me). before_return_own p (subst (IsAtOrBefore links p) (from ∙ ap (λ (t : Member). entry t.rank t.call) own) le))
      (λ (differ : member ≡ me → ⊥).
      (e, inr (inr (inr (met_by links index m member me e own_return there has_member has_me differ from refl))), le))
      (same_member member)

  pub before_return_from : (p : Point) → IsAtOrBefore links p own_entry ⊎ IsBeforeSome links own_sources p → IsBefore links own_return p
  before_return_from p either =
      ⊎_elim
      (λ le. before_return_own p le)
      (λ (some : IsBeforeSome links own_sources p). before_return_source p some.0 some.1 some.2)
      either

  pub received : IsReceived links own_return own_sources
  received =
      let before : own_entry ≡ entry_before own_return = same_point own_entry (entry_before own_return) refl (omega arith) in
      record {
        into = λ p is. ⊎_elim (λ le. inl (subst (IsAtOrBefore links p) before le)) (λ some. inr some) (before_return_to p is);
        from = λ p either. before_return_from p (⊎_elim (λ le. inl (subst (IsAtOrBefore links p) (sym before) le)) (λ some. inr some) either);
        meet = λ index one p le.
            let has : Contains own_sources (Meet index) = subst (λ xs. Contains xs (Meet index)) (sym one) (0, omega arith, refl) in
            let found = meet_source links r call index (sources.only r call (Meet index) has) in
            (own_entry, (found.0, found.1, (me, found.2, refl)), subst (IsAtOrBefore links p) (sym before) le);
      }

  -- a return that something leads to has a source
  pub some_source : (d : Point) → IsLinked links d own_return → 0 < length own_sources
  some_source d linked =
      let some : IsBeforeSome links own_sources d = ⊎_elim
      (λ (edge : Contains links.edges (record { from = d; to = own_return })). (Entry d, sources.all r call (Entry d) (inl (d, refl, edge)), (d, refl, at)))
      (λ (met : IsMet links d own_return).
      let found = at_contains links.meets met.meet met.is_meet in
      let has : Contains met.meet.calls me = subst (Contains met.meet.calls) (member_of r call met.second met.to_return) met.has_second in
      (Meet found.0, sources.all r call (Meet found.0) (inr (found.0, met.meet, found.1, (refl, has))), (d, (met.meet, found.1, (met.first, met.has_first, met.from_entry)), at)))
      linked in
      let lt = some.1.1 in
      omega arith

-- rows of returns
pub row_of_meet : (links : Links) (point : Point) (sources : List Source) (index : ℕ) (row : List ℕ) → IsReceived links point sources → sources ≡ Meet index ∷ [] → IsRow (IsBeforeSource links (Meet index)) row → IsRow (IsBefore links point) row
row_of_meet links point sources index row received one is =
    row_as (IsBeforeSource links (Meet index)) (IsBefore links point) row is
    (λ p before. ⊎_elim
    (λ (le : IsAtOrBefore links p (entry_before point)). received.meet index one p le)
    (λ (some : IsBeforeSome links sources p). ⊎_elim
    (λ (same : Meet index ≡ some.0). subst (λ s. IsBeforeSource links s p) (sym same) some.2)
    (λ none. absurd (contains_none some.0 none))
    (contains_cons_cases (Meet index) [] some.0 (subst (λ xs. Contains xs some.0) one some.1)))
    (received.into p before))
    (λ p before. received.from p (inr (Meet index, subst (λ xs. Contains xs (Meet index)) (sym one) (0, omega arith, refl), before)))

pub row_of_sources : (links : Links) (point : Point) (sources : List Source) (row : List ℕ) → IsReceived links point sources → IsRow (λ p. IsAtOrBefore links p (entry_before point) ⊎ IsBeforeSome links sources p) row → IsRow (IsBefore links point) row
row_of_sources links point sources row received is =
    row_as (λ p. IsAtOrBefore links p (entry_before point) ⊎ IsBeforeSome links sources p) (IsBefore links point) row is received.into received.from
