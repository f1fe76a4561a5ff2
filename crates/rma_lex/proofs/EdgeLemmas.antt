-- The edges of a line, from the mask of its blanks to the fields.
use Rattle.std.proofs.Common.{◌≡◌, ℕ, ◌+◌, ◌-◌, ◌*◌, ◌%◌, ◌^◌, ◌<◌, ◌≤◌, true, cond, List, length, sym, ap, ◌∙◌, arith, inl, ⊎_elim, bit_or, bit_and, bit_xor}
use Rattle.std.specs.Int.{bit_at}
use Rattle.std.proofs.lemmas.Bool.{cases_lt, cases_eq}
use Rattle.std.proofs.lemmas.List.{get_or_past}
use Rattle.std.proofs.lemmas.Nat.Bits.{bit_at_or, bit_at_and, bit_at_xor, bit_at_lowest, bit_at-zero, bit_at_above, bit_at-lt, shr_and_one}
use Rattle.rma_lex.specs.inside.Blank.{blank_at}
use Rattle.rma_lex.specs.declared.edge.Edges.{Edges}
use Rattle.rma_lex.specs.inside.Edge.{is_edge, IsNextEdge}
use Rattle.rma_lex.specs.inside.Mask.{IsLowestBit, DropsBit, Marks}
use Rattle.rma_lex.specs.inside.Reached.{Reaches}
use Rattle.rma_lex.proofs.MarkLemmas.{bit_at_shl_high, bit_at_shl_low, ones_from}

-- ---- the mask of edges
pub first_bit : (blanks : ℕ) → bit_and blanks 1 ≡ bit_at blanks 0
first_bit blanks = ap (λ m. bit_and m 1) (omega arith) ∙ shr_and_one blanks 0

module _ (blanks before : ℕ) (small : before < 2) where
  pub edges_lowest : bit_at (bit_xor blanks (bit_or (blanks * 2 ^ 1 % 2 ^ 64) before)) 0 ≡ (bit_at blanks 0 + before) % 2
  edges_lowest =
      let same : bit_at before 0 ≡ before = bit_at_lowest before ∙ omega arith in
      bit_at_xor blanks (bit_or (blanks * 2 ^ 1 % 2 ^ 64) before) 0
      ∙ ap (λ b. (bit_at blanks 0 + b) % 2)
      (bit_at_or (blanks * 2 ^ 1 % 2 ^ 64) before 0 ∙ omega (arith, same, bit_at_shl_low blanks 1 0 (omega arith) (omega arith)))

  pub edges_others : (k : ℕ) → k < 63 → bit_at (bit_xor blanks (bit_or (blanks * 2 ^ 1 % 2 ^ 64) before)) (k + 1) ≡ (bit_at blanks (k + 1) + bit_at blanks k) % 2
  edges_others k below =
      let shifted : bit_at (blanks * 2 ^ 1 % 2 ^ 64) (k + 1) ≡ bit_at blanks k =
      bit_at_shl_high blanks 1 (k + 1) (omega arith) (omega arith) ∙ ap (bit_at blanks) (omega arith) in
      bit_at_xor blanks (bit_or (blanks * 2 ^ 1 % 2 ^ 64) before) (k + 1)
      ∙ ap (λ b. (bit_at blanks (k + 1) + b) % 2)
      (bit_at_or (blanks * 2 ^ 1 % 2 ^ 64) before (k + 1) ∙ omega (arith, shifted, bit_at_above before 1 (k + 1) small (omega arith)))

-- no edge is after the end of the line
pub edge_within : (line : List ℕ) (at : ℕ) → is_edge line at ≡ true → at ≤ length line
edge_within line at edge = grind (arith, get_or_past line (at - 1) 32, get_or_past line at 32)

-- the bits that differ from the one below them are the edges
module _ (line : List ℕ) (from blanks before edges : ℕ) (marks : Marks (blank_at line) from blanks from (from + 64)) (first : before ≡ cond (blank_at line (from - 1)) 1 0)
    (fits : edges < 2 ^ 64) (lowest : bit_at edges 0 ≡ (bit_at blanks 0 + before) % 2)
    (others : (k : ℕ) → k < 63 → bit_at edges (k + 1) ≡ (bit_at blanks (k + 1) + bit_at blanks k) % 2) where
  pub Marks_edges : Marks (is_edge line) from edges from (from + 64)
  Marks_edges k = ⊎_elim
      (λ (e : k ≡ 0). let here = ap (bit_at edges) e ∙ lowest in let was = ap (λ i. blank_at line (from + i - 1)) e in let now = ap (λ i. blank_at line (from + i)) e in grind (arith, here, was, now, first, marks 0, bit_at-lt blanks 0))
      (λ ne. ⊎_elim
      (λ (below : k < 64).
      let e : k - 1 + 1 ≡ k = omega arith in
      let here = sym (ap (bit_at edges) e) ∙ others (k - 1) (omega arith) ∙ ap (λ i. (bit_at blanks i + bit_at blanks (k - 1)) % 2) e in
      let was : blank_at line (from + k - 1) ≡ blank_at line (from + (k - 1)) = ap (blank_at line) (omega arith) in
      grind (arith, here, was, marks k, marks (k - 1), bit_at-lt blanks k, bit_at-lt blanks (k - 1)))
      (λ (past : 64 ≤ k). grind (arith, bit_at_above edges 64 k fits past)) (cases_lt k 64)) (cases_eq k 0)

  pub Marks_skipped : (skipped : ℕ) → skipped < 64 → Marks (is_edge line) from (bit_and edges ((2 ^ 64 - 1) * 2 ^ skipped % 2 ^ 64)) (from + skipped) (from + 64)
  Marks_skipped skipped some k =
      let ones = (2 ^ 64 - 1) * 2 ^ skipped % 2 ^ 64 in
      grind (arith, bit_at_and edges ones k, ones_from skipped k (omega arith), Marks_edges k, bit_at-lt edges k, bit_at-lt ones k)

-- ---- what was found
-- at the front of the line, once its first bytes are searched
pub Reaches_front : (line : List ℕ) (edges : Edges) → edges.line.now ≡ line → edges.place ≡ 0 → edges.base ≡ 0 → Marks (is_edge line) 0 edges.mask 0 64 → Reaches edges
Reaches_front line edges is place base marks = record {
  placed = omega arith;
  within = omega arith;
  near = inl (omega arith);
  all = λ at low high edge.
      let there : 0 + at ≡ at = omega arith in
      (omega arith, ap (bit_at edges.mask) (omega arith) ∙ (marks at).1 (omega arith, omega arith, ap (is_edge line) there ∙ ap (λ l. is_edge l at) (sym is) ∙ edge));
  only = λ k below set.
      let there = (marks k).0 set in (
        ⊎_elim (λ (e : k ≡ 0). let first = ap (λ i. is_edge line (0 + i)) e in grind (arith, there.2, first)) (λ ne. omega arith) (cases_eq k 0),
        ap (λ l. is_edge l (edges.base + k)) is ∙ ap (is_edge line) (omega arith) ∙ there.2,
      );
}

module _ (edges : Edges) (reaches : Reaches edges) where
  -- with nothing marked, the edges of the next bytes are all
  pub Reaches_search : (base mask : ℕ) → edges.mask ≡ 0 → edges.base + 64 < length edges.line.now → edges.base < base → base ≤ edges.base + 64
      → base ≤ length edges.line.now → Marks (is_edge edges.line.now) base mask (base + (edges.base + 64 - base)) (base + 64) → Reaches (record edges { base = base; mask = mask })
  Reaches_search base mask empty more low high within marks = record {
    placed = reaches.placed;
    within = within;
    near = inl (grind (arith, reaches.near));
    all = λ at from to edge.
        let after : edges.base + 64 ≤ at = grind (arith, reaches.all at from, edge, ap (λ m. bit_at m (at - edges.base)) empty, bit_at-zero (at - edges.base)) in
        let there : base + (at - base) ≡ at = omega arith in
        (omega arith, (marks (at - base)).1 (omega arith, omega arith, ap (is_edge edges.line.now) there ∙ edge));
    only = λ k below set. let there = (marks k).0 set in (grind (arith, there.0, reaches.near), there.2);
  }

  -- the lowest mark is the next edge, and the other marks are those after it
  module _ (low left : ℕ) (bound : low < 64) (lowest : IsLowestBit edges.mask low) (drops : DropsBit edges.mask low left) where
    pub IsNextEdge_lowest : IsNextEdge edges.line.now edges.place (edges.base + low)
    IsNextEdge_lowest =
        let here = reaches.only low bound lowest.set in record {
          low = omega (arith, here.0);
          high = edge_within edges.line.now (edges.base + low) here.1;
          none = λ at from to edge.
              let mark = reaches.all at from (omega arith) edge in
              omega (arith, mark.1, mark.0, lowest.below (at - edges.base) (omega (arith, mark.0)));
          edge = λ _. here;
        }

    pub Reaches_next : Reaches (record edges { place = edges.base + low; mask = left })
    Reaches_next =
        let here = reaches.only low bound lowest.set in record {
          placed = edge_within edges.line.now (edges.base + low) here.1;
          within = reaches.within;
          near = inl (omega arith);
          all = λ at from to edge.
              let mark = reaches.all at (omega (arith, here.0)) to edge in
              (mark.0, drops.kept (at - edges.base) (omega (arith, mark.0)) ∙ mark.1);
          only = λ k below set. ⊎_elim (λ (e : k ≡ low). absurd (omega (arith, drops.dropped, ap (bit_at left) e, set)))
              (λ ne. let was = sym (drops.kept k ne) ∙ set in (grind (arith, lowest.below k, was), (reaches.only k below was).1)) (cases_eq k low);
        }
