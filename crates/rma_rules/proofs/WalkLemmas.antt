-- A walk over two lists of runs, which looks for runs that clash.
use Rattle.std.proofs.Common.{◌≡◌, ℕ, zero, suc, ◌+◌, ◌<◌, ◌≤◌, ◌⊎◌, ◌↔◌, List, [], ◌∷◌, length, get_or, Contains, Some, None, Option, slice_get, inl, inr, sym, ◌∙◌, subst, arith}
use Rattle.std.specs.Prelude.{ℤ, ◌≤ℤ◌, ◌<ℤ◌}
use Rattle.std.proofs.lemmas.Int.{ints}
use Rattle.std.proofs.lemmas.Bool.{cases_lt}
use Rattle.std.proofs.lemmas.List.{get_or_default}
use Rattle.std.proofs.lemmas.Option.{get_or_from_slice_get, slice_get_within}
use Rattle.std.proofs.lemmas.List.Elements.{Contains-get_or}
use Rattle.rma_bytes.specs.declared.run.Run.{Run}
use Rattle.rma_bytes.specs.Runs.{end_of, IsByteOf, IsCanonical, IsInBounds}
use Rattle.rma_bytes.proofs.RunLemmas.{byte_after, canonical_at, has_at, index_of, no_run, start_is_byte}
use Rattle.rma_rules.specs.Share.{ShareByte}
use Rattle.rma_rules.specs.inside.Step.{Clash, RunsClash, RunsMeet}

-- a run ends before a later one starts
pub apart : (xs : List Run) (i k : ℕ) (d : Run) → IsCanonical xs → i < k → k < length xs → end_of (get_or xs i d) <ℤ (get_or xs k d).start
apart [] i k d good lt in_list = absurd (omega arith)
apart (x ∷ xs) zero zero d good lt in_list = absurd (omega arith)
apart (x ∷ xs) zero (suc k) d good lt in_list =
    let start = (get_or xs k d).start in
    byte_after (end_of x) xs start good.2 good.3 (has_at xs k d start (omega arith) (start_is_byte (get_or xs k d) (canonical_at xs k d good.3 (omega arith)).1))
apart (x ∷ xs) (suc i) zero d good lt in_list = absurd (omega arith)
apart (x ∷ xs) (suc i) (suc k) d good lt in_list = apart xs i k d good.3 (omega arith) (omega arith)

-- a byte is one of one run alone
pub one_run : (xs : List Run) (i k : ℕ) (b : ℤ) → IsCanonical xs → i < length xs → k < length xs → IsByteOf (get_or xs i no_run) b → IsByteOf (get_or xs k no_run) b → i ≡ k
one_run xs i k b good i_in k_in here there = grind (arith, ints, apart xs i k no_run good, apart xs k i no_run good)

-- runs that clash share a byte
pub clash_meets : (size : Option ℕ) (x y : Run) → RunsClash size x y → RunsMeet x y
unfolding RunsClash
clash_meets size x y clash = clash.0

-- no run before these two clashes with one of the other list
abbrev pub NoClash : Option ℕ → List Run → List Run → ℕ → ℕ → Type 0
NoClash size xs ys i j = (p q : ℕ) → p < length xs → q < length ys → (p < i) ⊎ (q < j) → RunsClash size (get_or xs p no_run) (get_or ys q no_run) → ⊥

-- a run that ends no later than another shares no byte with one that starts after that
far : (x y z : Run) → end_of x ≤ℤ end_of y → end_of y <ℤ z.start → RunsMeet x z → ⊥
far x y z ends starts shared = absurd (omega (arith, ints, shared.1, shared.2))

far_back : (x y z : Run) → end_of x ≤ℤ end_of y → end_of y <ℤ z.start → RunsMeet z x → ⊥
far_back x y z ends starts shared = absurd (omega (arith, ints, shared.1, shared.2))

module _ (size : Option ℕ) (xs ys : List Run) (i j : ℕ) (before : NoClash size xs ys i j) (not_here : RunsClash size (get_or xs i no_run) (get_or ys j no_run) → ⊥) where
  left_at : IsCanonical ys → end_of (get_or xs i no_run) ≤ℤ end_of (get_or ys j no_run) → (p q : ℕ) → p < length xs → q < length ys → (p < i) ⊎ (i ≤ p) → (q < j) ⊎ (j ≤ q)
      → (j < q) ⊎ (q ≤ j) → p < i + 1 → RunsClash size (get_or xs p no_run) (get_or ys q no_run) → ⊥
  left_at good ends p q p_in q_in (inl earlier) second third next clash = before p q p_in q_in (inl earlier) clash
  left_at good ends p q p_in q_in (inr here) (inl earlier) third next clash = before p q p_in q_in (inr earlier) clash
  left_at good ends p q p_in q_in (inr here) (inr later) (inl beyond) next clash =
      let same : p ≡ i = omega arith in
      far (get_or xs i no_run) (get_or ys j no_run) (get_or ys q no_run) ends (apart ys j q no_run good beyond q_in)
      (clash_meets size _ _ (subst (λ k. RunsClash size (get_or xs k no_run) (get_or ys q no_run)) same clash))
  left_at good ends p q p_in q_in (inr here) (inr later) (inr no_later) next clash =
      let same : p ≡ i = omega arith in
      let there : q ≡ j = omega arith in
      not_here (subst (λ k. RunsClash size (get_or xs i no_run) (get_or ys k no_run)) there (subst (λ k. RunsClash size (get_or xs k no_run) (get_or ys q no_run)) same clash))

  pub no_clash_left : IsCanonical ys → end_of (get_or xs i no_run) ≤ℤ end_of (get_or ys j no_run) → NoClash size xs ys (i + 1) j
  no_clash_left good ends p q p_in q_in (inl next) clash = left_at good ends p q p_in q_in (cases_lt p i) (cases_lt q j) (cases_lt j q) next clash
  no_clash_left good ends p q p_in q_in (inr earlier) clash = before p q p_in q_in (inr earlier) clash

  right_at : IsCanonical xs → end_of (get_or ys j no_run) ≤ℤ end_of (get_or xs i no_run) → (p q : ℕ) → p < length xs → q < length ys → (q < j) ⊎ (j ≤ q) → (p < i) ⊎ (i ≤ p)
      → (i < p) ⊎ (p ≤ i) → q < j + 1 → RunsClash size (get_or xs p no_run) (get_or ys q no_run) → ⊥
  right_at good ends p q p_in q_in (inl earlier) second third next clash = before p q p_in q_in (inr earlier) clash
  right_at good ends p q p_in q_in (inr here) (inl earlier) third next clash = before p q p_in q_in (inl earlier) clash
  right_at good ends p q p_in q_in (inr here) (inr later) (inl beyond) next clash =
      let same : q ≡ j = omega arith in
      far_back (get_or ys j no_run) (get_or xs i no_run) (get_or xs p no_run) ends (apart xs i p no_run good beyond p_in)
      (clash_meets size _ _ (subst (λ k. RunsClash size (get_or xs p no_run) (get_or ys k no_run)) same clash))
  right_at good ends p q p_in q_in (inr here) (inr later) (inr no_later) next clash =
      let same : q ≡ j = omega arith in
      let there : p ≡ i = omega arith in
      not_here (subst (λ k. RunsClash size (get_or xs k no_run) (get_or ys j no_run)) there (subst (λ k. RunsClash size (get_or xs p no_run) (get_or ys k no_run)) same clash))

  pub no_clash_right : IsCanonical xs → end_of (get_or ys j no_run) ≤ℤ end_of (get_or xs i no_run) → NoClash size xs ys i (j + 1)
  no_clash_right good ends p q p_in q_in (inr next) clash = right_at good ends p q p_in q_in (cases_lt q j) (cases_lt p i) (cases_lt i p) next clash
  no_clash_right good ends p q p_in q_in (inl earlier) clash = before p q p_in q_in (inl earlier) clash

-- a run of a list lies in the bounds and is not empty
pub is_good : (xs : List Run) (i : ℕ) (x : Run) → IsCanonical xs → slice_get xs i ≡ Some x → IsInBounds x × (0 < x.len)
is_good xs i x good at = rw (sym (get_or_from_slice_get xs i x no_run at)) (canonical_at xs i no_run good (slice_get_within xs i x at))

-- a run of a list, by its index
pub at_index : (xs : List Run) (x : Run) → Contains xs x → (k : ℕ) × (k < length xs) × (get_or xs k no_run ≡ x)
at_index xs x there = (there.0, there.1, get_or_default xs there.0 no_run x there.1 ∙ there.2)

-- none clash up to the ends of both lists
ended : (size : Option ℕ) (xs ys : List Run) (i j p q : ℕ) → NoClash size xs ys i j → (length xs ≤ i) ⊎ (length ys ≤ j) → p < length xs → q < length ys
    → RunsClash size (get_or xs p no_run) (get_or ys q no_run) → ⊥
ended size xs ys i j p q none (inl end) p_in q_in clash = none p q p_in q_in (inl (omega arith)) clash
ended size xs ys i j p q none (inr end) p_in q_in clash = none p q p_in q_in (inr (omega arith)) clash

-- where one list ends, no runs clash
pub no_clash_at_end : (size : Option ℕ) (xs ys : List Run) (i j : ℕ) → NoClash size xs ys i j → (length xs ≤ i) ⊎ (length ys ≤ j) → Clash size xs ys → ⊥
unfolding Clash
no_clash_at_end size xs ys i j none ends clash =
    let x : Run = clash.0 in
    let y : Run = clash.1 in
    let p = at_index xs x clash.2 in
    let q = at_index ys y clash.3 in
    ended size xs ys i j p.0 q.0 none ends p.1 q.1
    (subst (λ r. RunsClash size r (get_or ys q.0 no_run)) (sym p.2) (subst (λ r. RunsClash size x r) (sym q.2) clash.4))

-- runs that clash at some indices are runs of the lists that do
pub clash_at : (size : Option ℕ) (xs ys : List Run) (i j : ℕ) → i < length xs → j < length ys → RunsClash size (get_or xs i no_run) (get_or ys j no_run) → Clash size xs ys
unfolding Clash
clash_at size xs ys i j i_in j_in clash =
    (get_or xs i no_run, get_or ys j no_run, Contains-get_or xs i no_run i_in, Contains-get_or ys j no_run j_in, clash)

-- lists share a byte where some of their runs clash, whatever their starts
pub shared_is_clash : (xs ys : List Run) → Clash None xs ys ↔ ShareByte xs ys
unfolding Clash RunsClash ShareByte
shared_is_clash xs ys = (
  λ clash.
      let p = at_index xs clash.0 clash.2 in
      let q = at_index ys clash.1 clash.3 in
      let b : ℤ = clash.4.0.0 in
      (b, has_at xs p.0 no_run b p.1 (subst (λ r. IsByteOf r b) (sym p.2) clash.4.0.1), has_at ys q.0 no_run b q.1 (subst (λ r. IsByteOf r b) (sym q.2) clash.4.0.2)),
  λ shared.
      let p = index_of xs shared.0 shared.1 in
      let q = index_of ys shared.0 shared.2 in
      (get_or xs p.0 no_run, get_or ys q.0 no_run, Contains-get_or xs p.0 no_run p.1, Contains-get_or ys q.0 no_run q.1, ((shared.0, p.2, q.2), tt)),
)
