-- Places in copies of runs, and what begins with what.
use Rattle.std.proofs.Common.{◌≡◌, ◌≢◌, ℕ, zero, suc, ◌+◌, ◌-◌, ◌*◌, ◌<◌, ◌≤◌, ◌↔◌, List, [], ◌∷◌, ◌++◌, length, get_or, drop, replicate, Option, Some, None, refl, sym, ap, ◌∙◌, arith}
use Rattle.rma_type.proofs.Words.{append-nil, append_assoc, replicate-append-replicate, Basic, copies, SigRun, Cursor, basics_of, spread, BeginsWith, rest_from, rest_at, IsCursor, append_cancel_left}
use Rattle.rma_typemap.proofs.SignatureLemmas.{copies_zero, copies_suc, copies_nil, copies_replicate}
use Rattle.rma_type.proofs.RunLemmas.{no_run}

-- ---- what follows from a cursor on

pub rest_past : (runs : List SigRun) (next more : ℕ) → length runs ≤ next → rest_from runs next more ≡ copies more (spread runs)
rest_past runs next more h = past runs next h
  where
    past : (rest : List SigRun) (k : ℕ) → length rest ≤ k → spread (drop k rest) ++ copies more (spread runs) ≡ copies more (spread runs)
    past [] zero h = refl
    past [] (suc k) h = refl
    past (run ∷ rest) zero h = absurd (omega arith)
    past (run ∷ rest) (suc k) h = past rest k (omega arith)

pub rest_none : (runs : List SigRun) (next more : ℕ) → length runs ≤ next → more ≡ 0 → [] ≡ rest_from runs next more
rest_none runs next more h none = sym (rest_past runs next more h ∙ ap (λ n. copies n (spread runs)) none ∙ copies_zero (spread runs))

pub rest_empty : (runs : List SigRun) (next more : ℕ) → length runs ≡ 0 → [] ≡ rest_from runs next more
rest_empty [] next more h = sym (rest_past [] next more (omega arith) ∙ copies_nil more)
rest_empty (run ∷ runs) next more h = absurd (omega arith)

pub rest_again : (runs : List SigRun) (next more : ℕ) → length runs ≤ next → 0 < more → 0 < length runs →
    basics_of (get_or runs 0 no_run) ++ rest_from runs 1 (more - 1) ≡ rest_from runs next more
rest_again [] next more past some there = absurd (omega arith)
rest_again (run ∷ runs) next zero past some there = absurd (omega arith)
rest_again (run ∷ runs) next (suc more) past some there =
    let one_less : suc more - 1 ≡ more = omega arith in
    rw (rest_past (run ∷ runs) next (suc more) past, copies_suc more (spread (run ∷ runs)), one_less) (sym (append_assoc (basics_of run) (spread runs) (copies more (spread (run ∷ runs)))))

pub rest_of_one : (runs : List SigRun) (count : ℕ) → length runs ≡ 1 →
    replicate (count * (get_or runs 0 no_run).count) (get_or runs 0 no_run).basic ++ rest_from runs 1 0 ≡ copies count (spread runs)
rest_of_one [] count h = absurd (omega arith)
rest_of_one (run ∷ []) count h =
    rw (copies_zero (spread (run ∷ [])), append-nil (replicate (count * run.count) run.basic), append-nil (basics_of run)) (sym (copies_replicate count run.count run.basic))
rest_of_one (run ∷ other ∷ runs) count h = absurd (omega arith)

pub part_left : (shared left : ℕ) (basic : Basic) (rest : List Basic) → shared ≤ left →
    replicate left basic ++ rest ≡ replicate shared basic ++ (replicate (left - shared) basic ++ rest)
part_left shared left basic rest h =
    let all : left ≡ shared + (left - shared) = omega arith in
    ap (λ n. replicate n basic ++ rest) all ∙ rw (← replicate-append-replicate shared (left - shared) basic) (append_assoc (replicate shared basic) (replicate (left - shared) basic) rest)

-- ---- what begins with what

pub begins_after : (n : ℕ) (basic : Basic) (whole prefix : List Basic) →
    BeginsWith (replicate n basic ++ whole) (replicate n basic ++ prefix) ↔ BeginsWith whole prefix
begins_after n basic whole prefix = (
  λ h. (h.0, append_cancel_left (replicate n basic) whole (prefix ++ h.0) (h.1 ∙ append_assoc (replicate n basic) prefix h.0)),
  λ h. (h.0, ap (λ xs. replicate n basic ++ xs) h.1 ∙ sym (append_assoc (replicate n basic) prefix h.0)),
)

pub begins_with_nothing : (whole : List Basic) → BeginsWith whole []
begins_with_nothing whole = (whole, refl)

pub nothing_begins : (n : ℕ) (basic : Basic) (prefix : List Basic) → 0 < n → BeginsWith [] (replicate n basic ++ prefix) → ⊥
nothing_begins zero basic prefix some h = omega arith
nothing_begins (suc n) basic prefix some h = let e = h.1 in cc

pub begins_other : (m n : ℕ) (a b : Basic) (whole prefix : List Basic) → 0 < m → 0 < n → a ≢ b → BeginsWith (replicate m a ++ whole) (replicate n b ++ prefix) → ⊥
begins_other zero n a b whole prefix p q other h = omega arith
begins_other (suc m) zero a b whole prefix p q other h = omega arith
begins_other (suc m) (suc n) a b whole prefix p q other h = let e = h.1 in other cc

-- ---- a step of the walk

module _ (whole prefix : List SigRun) where
  -- the rest of the whole begins with the rest of the prefix
  abbrev pub RestBegins : Option Cursor → Option Cursor → Type 0
  RestBegins there sought = BeginsWith (rest_at whole there) (rest_at prefix sought)

  pub ends_early : (there sought : Option Cursor) (wanted : Cursor) → there ≡ None → sought ≡ Some wanted → IsCursor sought → RestBegins there sought → ⊥
  ends_early there sought wanted none some cursor h =
      nothing_begins wanted.left wanted.basic (rest_from prefix wanted.next wanted.more) (rw some at cursor) (rw (none, some) at h)

  pub goes_other : (there sought : Option Cursor) (found wanted : Cursor) → there ≡ Some found → sought ≡ Some wanted → IsCursor there → IsCursor sought → found.basic ≢ wanted.basic →
      RestBegins there sought → ⊥
  goes_other there sought found wanted is some p q other h =
      begins_other found.left wanted.left found.basic wanted.basic (rest_from whole found.next found.more) (rest_from prefix wanted.next wanted.more)
      (rw is at p) (rw some at q) other (rw (is, some) at h)

  pub goes_on : (there sought later_there later_sought : Option Cursor) (found wanted : Cursor) (shared : ℕ) → there ≡ Some found → sought ≡ Some wanted → found.basic ≡ wanted.basic →
      rest_at whole (Some found) ≡ replicate shared found.basic ++ rest_at whole later_there →
      rest_at prefix (Some wanted) ≡ replicate shared wanted.basic ++ rest_at prefix later_sought →
      RestBegins there sought ↔ RestBegins later_there later_sought
  goes_on there sought later_there later_sought found wanted shared is some same e f =
      let left = ap (rest_at whole) is ∙ e in
      let right = ap (rest_at prefix) some ∙ f ∙ ap (λ b. replicate shared b ++ rest_at prefix later_sought) (sym same) in
      let steps = begins_after shared found.basic (rest_at whole later_there) (rest_at prefix later_sought) in
      (λ h. steps.0 (rw (left, right) at h), λ h. rw (left, right) (steps.1 h))

  pub is_through : (there sought : Option Cursor) → sought ≡ None → RestBegins there sought
  is_through there sought none = rw none (begins_with_nothing (rest_at whole there))
