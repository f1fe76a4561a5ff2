-- The ranks that wait for one another.
use Rattle.std.proofs.Common.{◌≡◌, ℕ, ◌+◌, ◌*◌, ◌<◌, ◌≤◌, ◌⊎◌, inl, inr, Bool, true, false, List, [], ◌∷◌, length, set, refl, sym, ap, subst, ◌∙◌, arith, ⊎_elim}
use Rattle.std.specs.Prelude.{Contains, slice_index, slice_index_or}
use Rattle.std.proofs.lemmas.Bool.{cases_eq, cases_lt, false≢true}
use Rattle.std.proofs.lemmas.List.{get_or-set_same, get_or-set_other, length-set, get_or_append_left, get_or_push, get_or_default, length_push}
use Rattle.std.proofs.lemmas.List.Elements.{Contains-push, Contains-push_cases, Contains-append_left}
use Rattle.rma_base.specs.declared.point.Point.{Point}
use Rattle.rma_link.specs.declared.links.Links.{Links}
use Rattle.rma_link.specs.Point.{IsReturn}
use Rattle.rma_link.specs.Order.{IsAtOrBefore, IsAfterCycle}
use Rattle.rma_link.specs.Order.IsAtOrBefore.{at}
use Rattle.rma_link.specs.Within.{AreWithin}
use Rattle.rma_link.proofs.OrderLemmas.{at_or_before_trans, after_cycle_later}
use Rattle.rma_walk.specs.inside.Run.{IsBlocked, next_point}
use Rattle.rma_walk.specs.inside.Search.{line, IsLine, IsStopped, IsDone, IsStack}
use Rattle.rma_walk.proofs.ListLemmas.{contains_none}
use Rattle.rma_walk.proofs.FollowLemmas.{other_within, other_first, other_has_next, cycle_back}

pub line_front : (waiting : List ℕ) (current j : ℕ) → j < length waiting → slice_index (line waiting current) j ≡ slice_index waiting j
line_front waiting current j lt = get_or_append_left waiting (current ∷ []) 0 j lt

pub line_last : (waiting : List ℕ) (current j : ℕ) → j ≡ length waiting → slice_index (line waiting current) j ≡ current
line_last waiting current j last = get_or_push waiting current 0 j (sym last)

moved : (links : Links) (next : List ℕ) (a b c d : ℕ) → a ≡ c → b ≡ d → IsAtOrBefore links (next_point next a) (next_point next b) → IsAtOrBefore links (next_point next c) (next_point next d)
moved links next a b c d ac bd is =
    let P : ℕ → Type 0 = λ x. IsAtOrBefore links (next_point next x) (next_point next b) in
    let Q : ℕ → Type 0 = λ y. IsAtOrBefore links (next_point next c) (next_point next y) in
    subst Q bd (subst P ac is)

-- a line of one rank
pub line_of_one : (links : Links) (next : List ℕ) (current : ℕ) → IsLine links next (line [] current)
line_of_one links next current j k le lt =
    let last : k ≡ 0 = omega arith in
    let first : j ≡ 0 = omega arith in
    moved links next current current (slice_index (line [] current) k) (slice_index (line [] current) j)
    (sym (line_last [] current k last)) (sym (line_last [] current j first)) at

module _ (lens : List ℕ) (links : Links) (next : List ℕ) (free : List Bool) (waiting : List ℕ) (rank current : ℕ)
    (st : IsStack lens links next free waiting rank current) (is_free : slice_index_or free current true ≡ true) where
  in_free : current < length free
  in_free = let lt = st.within in let size = st.size in omega arith

  apart : (r : ℕ) → slice_index_or free r true ≡ false → r ≡ current → ⊥
  apart r taken same = false≢true (sym taken ∙ ap (λ i. slice_index_or free i true) same ∙ is_free)

  waiting_taken : (r : ℕ) → Contains waiting r → slice_index_or free r true ≡ false
  waiting_taken r (k, lt, is) =
      let same : slice_index waiting k ≡ r = get_or_default waiting k 0 r lt ∙ is in
      ap (λ i. slice_index_or free i true) (sym same) ∙ (st.waits k lt).0

  taken_this : slice_index_or (set free current false) current true ≡ false
  taken_this = get_or-set_same free current false true in_free

  taken_other : (r : ℕ) → (r ≡ current → ⊥) → slice_index_or (set free current false) r true ≡ slice_index_or free r true
  taken_other r differs = get_or-set_other free current r false true differs

  taken_still : (r : ℕ) → slice_index_or free r true ≡ false → slice_index_or (set free current false) r true ≡ false
  taken_still r taken = taken_other r (apart r taken) ∙ taken

  -- the one that is followed comes at or before all that wait
  current_first : (j : ℕ) → j < length (line waiting current) → IsAtOrBefore links (next_point next current) (next_point next (slice_index (line waiting current) j))
  current_first j lt =
      let len : length (line waiting current) ≡ length waiting + 1 = length_push waiting current in
      moved links next (slice_index (line waiting current) (length waiting)) (slice_index (line waiting current) j) current (slice_index (line waiting current) j)
      (line_last waiting current (length waiting) refl) refl (st.in_line j (length waiting) (omega arith) (omega arith))

  root_within : rank < length lens
  root_within =
      ⊎_elim
      (λ (some : 0 < length waiting).
      let first : slice_index waiting 0 ≡ rank = sym (line_front waiting current 0 some) ∙ st.root in
      let lt = (st.waits 0 some).1 in
      omega arith)
      (λ (none : length waiting ≤ 0).
      let zeros : 0 ≡ length waiting = omega arith in
      let same : current ≡ rank = sym (line_last waiting current 0 zeros) ∙ st.root in
      let lt = st.within in
      omega arith)
      (cases_lt 0 (length waiting))

  module _ (within : AreWithin lens links) (other : ℕ) (blocked : IsBlocked lens links next current other) where
    -- another rank is followed
    follow_line : IsLine links next (line (line waiting current) other)
    follow_line j k le lt =
        let all = line waiting current in
        let len : length (line all other) ≡ length all + 1 = length_push all other in
        ⊎_elim
        (λ (front : k < length all).
        moved links next (slice_index all k) (slice_index all j) (slice_index (line all other) k) (slice_index (line all other) j)
        (sym (line_front all other k front)) (sym (line_front all other j (omega arith))) (st.in_line j k le front))
        (λ (end : length all ≤ k).
        let last : k ≡ length all = omega arith in
        ⊎_elim
        (λ (front : j < length all).
        moved links next other (slice_index all j) (slice_index (line all other) k) (slice_index (line all other) j)
        (sym (line_last all other k last)) (sym (line_front all other j front)) (at_or_before_trans links (other_first lens links next current within other blocked) (current_first j front)))
        (λ (both : length all ≤ j).
        moved links next other other (slice_index (line all other) k) (slice_index (line all other) j)
        (sym (line_last all other k last)) (sym (line_last all other j (omega arith))) at)
        (cases_lt j (length all)))
        (cases_lt k (length all))

    follow_once : (j k : ℕ) → j < k → k < length (line waiting current) → slice_index (line waiting current) j ≡ slice_index (line waiting current) k → ⊥
    follow_once j k less lt same =
        let len : length (line waiting current) ≡ length waiting + 1 = length_push waiting current in
        ⊎_elim
        (λ (front : k < length waiting).
        st.once j k less front (sym (line_front waiting current j (omega arith)) ∙ same ∙ line_front waiting current k front))
        (λ (end : length waiting ≤ k).
        let here : slice_index waiting j ≡ current = sym (line_front waiting current j (omega arith)) ∙ same ∙ line_last waiting current k (omega arith) in
        apart (slice_index waiting j) (st.waits j (omega arith)).0 here)
        (cases_lt k (length waiting))

    follow_waits : (j : ℕ) → j < length (line waiting current) → (slice_index_or (set free current false) (slice_index (line waiting current) j) true ≡ false)
        × (slice_index (line waiting current) j < length lens) × IsReturn lens (next_point next (slice_index (line waiting current) j))
    follow_waits j lt =
        let len : length (line waiting current) ≡ length waiting + 1 = length_push waiting current in
        let P : ℕ → Type 0 = λ w. (slice_index_or (set free current false) w true ≡ false) × (w < length lens) × IsReturn lens (next_point next w) in
        ⊎_elim
        (λ (front : j < length waiting).
        let old = st.waits j front in
        subst P (sym (line_front waiting current j front)) (taken_still (slice_index waiting j) old.0, old.1, old.2))
        (λ (end : length waiting ≤ j). subst P (sym (line_last waiting current j (omega arith))) (taken_this, st.within, blocked.0))
        (cases_lt j (length waiting))

    follow_held : (r : ℕ) → slice_index_or (set free current false) r true ≡ false → Contains (line waiting current) r ⊎ IsStopped lens links next r
    follow_held r taken =
        ⊎_elim
        (λ (here : r ≡ current). inl (subst (Contains (line waiting current)) (sym here) (Contains-push waiting current)))
        (λ (there : r ≡ current → ⊥). ⊎_elim
        (λ has. inl (Contains-append_left waiting (current ∷ []) r has))
        (λ stopped. inr stopped)
        (st.held r (sym (taken_other r there) ∙ taken)))
        (cases_eq r current)

    follow_done : (r : ℕ) → r < rank → IsDone lens next (set free current false) (line waiting current) r
    follow_done r lt =
        ⊎_elim
        (λ end. inl end)
        (λ (old : (slice_index_or free r true ≡ false) × (Contains waiting r → ⊥)).
        inr (taken_still r old.0, λ has. ⊎_elim (λ before. old.1 before) (λ (same : current ≡ r). apart r old.0 (sym same)) (Contains-push_cases waiting current r has)))
        (st.done r lt)

    pub followed_other : slice_index_or (set free current false) other true ≡ true → IsStack lens links next (set free current false) (line waiting current) rank other
    followed_other other_free =
        let len : length (line waiting current) ≡ length waiting + 1 = length_push waiting current in
        record {
          size = length-set free current false ∙ st.size;
          within = other_within lens links next current within other blocked;
          root = line_front (line waiting current) other 0 (omega arith) ∙ st.root;
          followed = λ some. (other_free, other_has_next lens links next current within other blocked);
          in_line = follow_line;
          once = follow_once;
          waits = follow_waits;
          held = follow_held;
          done = follow_done;
        }

    -- the line comes back to itself, or to a stopped rank
    back_to_line : Contains (line waiting current) other → IsAfterCycle links (next_point next current)
    back_to_line (k, lt, is) =
        let same : slice_index (line waiting current) k ≡ other = get_or_default (line waiting current) k 0 other lt ∙ is in
        let back : IsAtOrBefore links (next_point next current) (next_point next other) =
        moved links next current (slice_index (line waiting current) k) current other refl same (current_first k lt) in
        cycle_back lens links next current within other blocked back

    current_stopped : slice_index_or (set free current false) other true ≡ false → IsAfterCycle links (next_point next current)
    current_stopped taken =
        ⊎_elim
        back_to_line
        (λ (stopped : IsStopped lens links next other). after_cycle_later links stopped.1 (other_first lens links next current within other blocked))
        (follow_held other taken)

    stop_held : slice_index_or (set free current false) other true ≡ false → (r : ℕ) → slice_index_or (set free current false) r true ≡ false → IsStopped lens links next r
    stop_held stop r taken =
        ⊎_elim
        (λ (has : Contains (line waiting current) r).
        let k = has.0 in
        let lt = has.1 in
        let same : slice_index (line waiting current) k ≡ r = get_or_default (line waiting current) k 0 r lt ∙ has.2 in
        subst (IsStopped lens links next) same ((follow_waits k lt).2, after_cycle_later links (current_stopped stop) (current_first k lt)))
        (λ stopped. stopped)
        (follow_held r taken)

    stop_done : (r : ℕ) → r < rank → IsDone lens next (set free current false) [] r
    stop_done r lt =
        ⊎_elim
        (λ end. inl end)
        (λ (old : (slice_index_or free r true ≡ false) × (Contains waiting r → ⊥)). inr (taken_still r old.0, contains_none r))
        (st.done r lt)

    pub stopped_all : slice_index_or (set free current false) other true ≡ false → IsStack lens links next (set free current false) [] rank rank
    stopped_all stop = record {
      size = length-set free current false ∙ st.size;
      within = root_within;
      root = refl;
      followed = λ some. absurd (omega arith);
      in_line = line_of_one links next rank;
      once = λ j k less lt same. absurd (omega arith);
      waits = λ j lt. absurd (omega arith);
      held = λ r taken. inr (stop_held stop r taken);
      done = stop_done;
    }

  -- the one that is followed passes points
  module _ (pos : ℕ) (more : slice_index next current < 2 * slice_index lens current) where
    same_next : (r : ℕ) → (r ≡ current → ⊥) → next_point (set next current pos) r ≡ next_point next r
    same_next r differs = ap (λ k. record { rank = record { 0 = r }; pos = k }) (get_or-set_other next current r pos 0 differs)

    stopped_later : (r : ℕ) → slice_index_or free r true ≡ false → IsStopped lens links next r → IsStopped lens links (set next current pos) r
    stopped_later r taken stopped =
        let P : Point → Type 0 = λ p. IsReturn lens p × IsAfterCycle links p in
        subst P (sym (same_next r (apart r taken))) stopped

    end_later : (r : ℕ) → slice_index next r ≡ 2 * slice_index lens r → slice_index (set next current pos) r ≡ 2 * slice_index lens r
    end_later r end =
        let differs : r ≡ current → ⊥ = λ same.
        let here : slice_index next r ≡ slice_index next current = ap (slice_index next) same in
        let bound : slice_index lens r ≡ slice_index lens current = ap (slice_index lens) same in
        absurd (omega arith) in
        get_or-set_other next current r pos 0 differs ∙ end

    alone_held : waiting ≡ [] → (r : ℕ) → slice_index_or free r true ≡ false → Contains [] r ⊎ IsStopped lens links (set next current pos) r
    alone_held none r taken =
        ⊎_elim
        (λ has. inl (subst (λ ws. Contains ws r) none has))
        (λ stopped. inr (stopped_later r taken stopped))
        (st.held r taken)

    alone_done : (r : ℕ) → r < rank → IsDone lens (set next current pos) free [] r
    alone_done r lt =
        ⊎_elim
        (λ end. inl (end_later r end))
        (λ (old : (slice_index_or free r true ≡ false) × (Contains waiting r → ⊥)). inr (old.0, contains_none r))
        (st.done r lt)

    pub passed_alone : waiting ≡ [] → IsStack lens links (set next current pos) free [] rank current
    passed_alone none = record {
      size = st.size;
      within = st.within;
      root = ap (λ ws. slice_index (line ws current) 0) (sym none) ∙ st.root;
      followed = λ some. absurd (omega arith);
      in_line = line_of_one links (set next current pos) current;
      once = λ j k less lt same. absurd (omega arith);
      waits = λ j lt. absurd (omega arith);
      held = alone_held none;
      done = alone_done;
    }

    module _ (rest : List ℕ) (below : ℕ) (is : waiting ≡ line rest below) where
      len : length waiting ≡ length rest + 1
      len = ap length is ∙ length_push rest below

      last_is : slice_index waiting (length rest) ≡ below
      last_is = ap (λ ws. slice_index ws (length rest)) is ∙ line_last rest below (length rest) refl

      front_is : (j : ℕ) → j < length rest → slice_index waiting j ≡ slice_index rest j
      front_is j lt = ap (λ ws. slice_index ws j) is ∙ line_front rest below j lt

      below_waits : (slice_index_or free below true ≡ false) × (below < length lens) × IsReturn lens (next_point next below)
      below_waits =
          let P : ℕ → Type 0 = λ w. (slice_index_or free w true ≡ false) × (w < length lens) × IsReturn lens (next_point next w) in
          let size = len in
          subst P last_is (st.waits (length rest) (omega arith))

      below_free : slice_index_or (set free below true) below true ≡ true
      below_free = let lt = below_waits.1 in let size = st.size in get_or-set_same free below true true (omega arith)

      free_other : (r : ℕ) → (r ≡ below → ⊥) → slice_index_or (set free below true) r true ≡ slice_index_or free r true
      free_other r differs = get_or-set_other free below r true true differs

      has_below : Contains waiting below
      has_below = subst (λ ws. Contains ws below) (sym is) (Contains-push rest below)

      below_line : IsLine links (set next current pos) (line rest below)
      below_line j k le lt =
          let all : List ℕ = line waiting current in
          let size = len in
          let short : length (line rest below) ≡ length rest + 1 = length_push rest below in
          let long : length all ≡ length waiting + 1 = length_push waiting current in
          let A : (i : ℕ) → i < length waiting → slice_index all i ≡ slice_index (line rest below) i = λ i small. line_front waiting current i small ∙ ap (λ ws. slice_index ws i) is in
          let D : (i : ℕ) → i < length waiting → slice_index (line rest below) i ≡ current → ⊥ = λ i small same.
          apart (slice_index waiting i) (st.waits i small).0 (ap (λ ws. slice_index ws i) is ∙ same) in
          let old : IsAtOrBefore links (next_point next (slice_index (line rest below) k)) (next_point next (slice_index (line rest below) j)) =
          moved links next (slice_index all k) (slice_index all j) (slice_index (line rest below) k) (slice_index (line rest below) j)
          (A k (omega arith)) (A j (omega arith)) (st.in_line j k le (omega arith)) in
          let P : Point → Type 0 = λ p. IsAtOrBefore links p (next_point next (slice_index (line rest below) j)) in
          let Q : Point → Type 0 = λ q. IsAtOrBefore links (next_point (set next current pos) (slice_index (line rest below) k)) q in
          subst Q (sym (same_next (slice_index (line rest below) j) (D j (omega arith)))) (subst P (sym (same_next (slice_index (line rest below) k) (D k (omega arith)))) old)

      below_once : (j k : ℕ) → j < k → k < length rest → slice_index rest j ≡ slice_index rest k → ⊥
      below_once j k less lt same =
          let size = len in
          st.once j k less (omega arith) (front_is j (omega arith) ∙ same ∙ sym (front_is k lt))

      rest_waits : (j : ℕ) → j < length rest → (slice_index_or (set free below true) (slice_index rest j) true ≡ false)
          × (slice_index rest j < length lens) × IsReturn lens (next_point (set next current pos) (slice_index rest j))
      rest_waits j lt =
          let size = len in
          let P : ℕ → Type 0 = λ w. (slice_index_or free w true ≡ false) × (w < length lens) × IsReturn lens (next_point next w) in
          let old : P (slice_index rest j) = subst P (front_is j lt) (st.waits j (omega arith)) in
          let differs : slice_index rest j ≡ below → ⊥ = λ same. st.once j (length rest) lt (omega arith) (front_is j lt ∙ same ∙ sym last_is) in
          (free_other (slice_index rest j) differs ∙ old.0, old.1, subst (IsReturn lens) (sym (same_next (slice_index rest j) (apart (slice_index rest j) old.0))) old.2)

      rest_held : (r : ℕ) → slice_index_or (set free below true) r true ≡ false → Contains rest r ⊎ IsStopped lens links (set next current pos) r
      rest_held r taken =
          let differs : r ≡ below → ⊥ = λ same. false≢true (sym taken ∙ ap (λ i. slice_index_or (set free below true) i true) same ∙ below_free) in
          let old : slice_index_or free r true ≡ false = sym (free_other r differs) ∙ taken in
          ⊎_elim
          (λ has. ⊎_elim (λ still. inl still) (λ (same : below ≡ r). absurd (differs (sym same))) (Contains-push_cases rest below r (subst (λ ws. Contains ws r) is has)))
          (λ stopped. inr (stopped_later r old stopped))
          (st.held r old)

      rest_done : (r : ℕ) → r < rank → IsDone lens (set next current pos) (set free below true) rest r
      rest_done r lt =
          ⊎_elim
          (λ end. inl (end_later r end))
          (λ (old : (slice_index_or free r true ≡ false) × (Contains waiting r → ⊥)).
          let differs : r ≡ below → ⊥ = λ same. old.1 (subst (Contains waiting) (sym same) has_below) in
          inr (free_other r differs ∙ old.0, λ has. old.1 (subst (λ ws. Contains ws r) (sym is) (Contains-append_left rest (below ∷ []) r has))))
          (st.done r lt)

      below_has_next : slice_index (set next current pos) below < 2 * slice_index lens below
      below_has_next =
          let old = below_waits in
          let same = get_or-set_other next current below pos 0 (apart below old.0) in
          let lt = old.2.1 in
          let odd = old.2.2 in
          omega arith

      pub passed_for : IsStack lens links (set next current pos) (set free below true) rest rank below
      passed_for =
          let size = len in
          record {
            size = length-set free below true ∙ st.size;
            within = below_waits.1;
            root = ap (λ ws. slice_index ws 0) (sym is) ∙ sym (line_front waiting current 0 (omega arith)) ∙ st.root;
            followed = λ some. (below_free, below_has_next);
            in_line = below_line;
            once = below_once;
            waits = rest_waits;
            held = rest_held;
            done = rest_done;
          }
