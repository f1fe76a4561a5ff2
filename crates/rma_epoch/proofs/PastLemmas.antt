-- The calls on a window, and what the latest of them left open.
use Rattle.std.proofs.Common.{◌≡◌, ℕ, zero, suc, ◌+◌, ◌<◌, Bool, true, false, cond, List, [], ◌∷◌, length, eqb, eqb-true, Option, Some, None, slice_get, refl, sym, ap, subst, ◌∙◌, arith}
use Rattle.std.specs.Prelude.{unwrap_or}
use Rattle.std.proofs.lemmas.Bool.{true≢false}
use Rattle.std.proofs.lemmas.Bool.Decides.{nat_tests}
use Rattle.std.proofs.lemmas.Option.{none-some}
use Rattle.rma_call.specs.Call.{Call}
use Rattle.rma_call.specs.declared.what.What.{What}
use Rattle.rma_open.specs.Calls.{is_on, past_from, past_on}
use Rattle.rma_open.specs.Open.{left_by}

-- ---- the calls on a window

-- these are the calls on a window among some calls, the latest first; all of them come before a number
pub record ArePast (window : List ℕ) (calls : List Call) (number : ℕ) (past : List (ℕ × What)) : Type 0 where
  pub numbered : (k : ℕ) (c : ℕ × What) → slice_get past k ≡ Some c → (call : Call) × (slice_get calls c.0 ≡ Some call) × (call.what ≡ c.1) × (is_on window c.1 ≡ true)
  pub before : (k : ℕ) (c : ℕ × What) → slice_get past k ≡ Some c → c.0 < number
  pub descend : (j k : ℕ) (a b : ℕ × What) → j < k → slice_get past j ≡ Some a → slice_get past k ≡ Some b → b.0 < a.0
  pub complete : (n : ℕ) (call : Call) → n < number → slice_get calls n ≡ Some call → is_on window call.what ≡ true → (k : ℕ) × (slice_get past k ≡ Some (n, call.what))

-- a number below the next that is not this one is below this one
lower : (m n : ℕ) → m < n + 1 → eqb m n ≡ false → m < n
lower m n lt unlike = grind (arith, nat_tests)

module _ (window : List ℕ) (all : List Call) where
  past_one : (n : ℕ) (past : List (ℕ × What)) (call : Call) → slice_get all n ≡ Some call → ArePast window all n past → (b : Bool) → is_on window call.what ≡ b → ArePast window all (n + 1) (cond b ((n, call.what) ∷ past) past)
  past_one n past call there are false off = record {
    numbered = are.numbered;
    before = λ k c at. let lt = are.before k c at in omega arith;
    descend = are.descend;
    complete = λ m other lt at on. by m other lt at on (eqb m n) refl;
  }
    where
      by : (m : ℕ) (other : Call) → m < n + 1 → slice_get all m ≡ Some other → is_on window other.what ≡ true → (b : Bool) → eqb m n ≡ b → (k : ℕ) × (slice_get past k ≡ Some (m, other.what))
      by m other lt at on true same =
          let one : m ≡ n = eqb-true m n same in
          let two : Some other ≡ Some call = sym at ∙ ap (slice_get all) one ∙ there in
          let three : other ≡ call = cc in
          absurd (true≢false (sym on ∙ ap (λ (c : Call). is_on window c.what) three ∙ off))
      by m other lt at on false unlike = are.complete m other (lower m n lt unlike) at on
  past_one n past call there are true on = record {
    numbered = numbered;
    before = before;
    descend = descend;
    complete = λ m other lt at is. by m other lt at is (eqb m n) refl;
  }
    where
      numbered : (k : ℕ) (c : ℕ × What) → slice_get ((n, call.what) ∷ past) k ≡ Some c → (own : Call) × (slice_get all c.0 ≡ Some own) × (own.what ≡ c.1) × (is_on window c.1 ≡ true)
      numbered zero c at = let same : (n, call.what) ≡ c = cc in subst (λ (c : ℕ × What). (own : Call) × (slice_get all c.0 ≡ Some own) × (own.what ≡ c.1) × (is_on window c.1 ≡ true)) same (call, there, refl, on)
      numbered (suc k) c at = are.numbered k c at

      before : (k : ℕ) (c : ℕ × What) → slice_get ((n, call.what) ∷ past) k ≡ Some c → c.0 < n + 1
      before zero c at = let same : (n, call.what) ≡ c = cc in let number : n ≡ c.0 = ap (λ (c : ℕ × What). c.0) same in omega arith
      before (suc k) c at = let lt = are.before k c at in omega arith

      descend : (j k : ℕ) (a b : ℕ × What) → j < k → slice_get ((n, call.what) ∷ past) j ≡ Some a → slice_get ((n, call.what) ∷ past) k ≡ Some b → b.0 < a.0
      descend j zero a b lt one two = absurd (omega arith)
      descend zero (suc k) a b lt one two = let same : (n, call.what) ≡ a = cc in let number : n ≡ a.0 = ap (λ (c : ℕ × What). c.0) same in let less = are.before k b two in omega arith
      descend (suc j) (suc k) a b lt one two = are.descend j k a b (omega arith) one two

      by : (m : ℕ) (other : Call) → m < n + 1 → slice_get all m ≡ Some other → is_on window other.what ≡ true → (b : Bool) → eqb m n ≡ b → (k : ℕ) × (slice_get ((n, call.what) ∷ past) k ≡ Some (m, other.what))
      by m other lt at is true same =
          let one : m ≡ n = eqb-true m n same in
          let two : Some other ≡ Some call = sym at ∙ ap (slice_get all) one ∙ there in
          let three : other ≡ call = cc in
          (0, λ j. Some (sym one j, (sym three j).what))
      by m other lt at is false unlike = let found = are.complete m other (lower m n lt unlike) at is in (suc found.0, found.1)

  past_all : (n : ℕ) (past : List (ℕ × What)) (calls : List Call) → ((i : ℕ) (call : Call) → slice_get calls i ≡ Some call → slice_get all (n + i) ≡ Some call) → ArePast window all n past → ArePast window all (n + length calls) (past_from window n past calls)
  past_all n past [] at are = subst (λ k. ArePast window all k past) (let e : n ≡ n + 0 = omega arith in e) are
  past_all n past (call ∷ calls) at are =
      let first = past_one n past call (ap (slice_get all) (let e : n ≡ n + 0 = omega arith in e) ∙ at 0 call refl) are (is_on window call.what) refl in
      subst (λ k. ArePast window all k (past_from window n past (call ∷ calls))) (let e : n + 1 + length calls ≡ n + suc (length calls) = omega arith in e)
      (past_all (n + 1) (cond (is_on window call.what) ((n, call.what) ∷ past) past) calls (λ i c there. ap (slice_get all) (let e : n + 1 + i ≡ n + suc i = omega arith in e) ∙ at (suc i) c there) first)

-- the calls on a window are these
pub are_past : (window : List ℕ) (calls : List Call) → ArePast window calls (length calls) (past_on window calls)
are_past window calls =
    subst (λ k. ArePast window calls k (past_on window calls)) (let e : 0 + length calls ≡ length calls = omega arith in e)
    (past_all window calls 0 [] calls (λ i call at. ap (slice_get calls) (let e : 0 + i ≡ i = omega arith in e) ∙ at) (record {
      numbered = λ k c at. absurd (let no : ⊥ = cc in no);
      before = λ k c at. absurd (let no : ⊥ = cc in no);
      descend = λ j k a b lt one two. absurd (let no : ⊥ = cc in no);
      complete = λ n call lt at on. absurd (omega arith);
    }))

-- ---- the latest call

-- what is left was said by one of the calls, and none after it says anything
pub record IsLatest {X : Type 0} (says : ℕ → What → Option (Option X)) (past : List (ℕ × What)) (x : X) : Type 0 where
  pub place : ℕ
  pub call : ℕ × What
  pub there : slice_get past place ≡ Some call
  pub said : says call.0 call.1 ≡ Some (Some x)
  pub silent : (j : ℕ) (other : ℕ × What) → j < place → slice_get past j ≡ Some other → says other.0 other.1 ≡ None

pub latest : {X : Type 0} (says : ℕ → What → Option (Option X)) (past : List (ℕ × What)) (x : X) → left_by says past ≡ Some x → IsLatest says past x
latest {X = X} says [] x left = absurd (none-some x left)
latest {X = X} says (c ∷ past) x left = by (says c.0 c.1) refl left (latest says past x)
  where
    by : (o : Option (Option X)) → says c.0 c.1 ≡ o → unwrap_or o (left_by says past) ≡ Some x → (left_by says past ≡ Some x → IsLatest says past x) → IsLatest says (c ∷ past) x
    by (Some y) said is rest = record { place = 0; call = c; there = refl; said = said ∙ ap Some is; silent = λ j other lt at. absurd (omega arith) }
    by None said is rest =
        let found = rest is in
        record { place = suc found.place; call = found.call; there = found.there; said = found.said; silent = silent found }
      where
        silent : (found : IsLatest says past x) → (j : ℕ) (other : ℕ × What) → j < suc found.place → slice_get (c ∷ past) j ≡ Some other → says other.0 other.1 ≡ None
        silent found zero other lt at = let same : c ≡ other = cc in subst (λ (d : ℕ × What). says d.0 d.1 ≡ None) same said
        silent found (suc j) other lt at = found.silent j other (omega arith) at
