-- Runs that represent the same basic datatypes are the same.
use Rattle.std.proofs.Common.{◌≡◌, ◌≢◌, ℕ, zero, suc, ◌<◌, List, [], ◌∷◌, ◌++◌, replicate, refl, sym, ap, ◌∙◌, arith}
use Rattle.rma_type.proofs.Words.{Basic, SigRun, spread, BeginsOther, AreRuns, IsRunsOf}

-- runs of which the first has another basic datatype do not begin with it
begins_not : (basic : Basic) (runs : List SigRun) (rest : List Basic) → BeginsOther basic runs → AreRuns runs → spread runs ≡ basic ∷ rest → ⊥
begins_not basic [] rest other apart e = cc
begins_not basic (run ∷ runs) rest other apart e = first run.count apart.0 e
  where
    first : (n : ℕ) → 0 < n → replicate n run.basic ++ spread runs ≡ basic ∷ rest → ⊥
    first zero some e = omega arith
    first (suc n) some e = other cc

-- the first runs are as long as one another
record AreAlike (m n : ℕ) (a b : Basic) (xs ys : List SigRun) : Type 0 where
  counts : m ≡ n
  basics : a ≡ b
  rest : spread xs ≡ spread ys

alike : (m n : ℕ) (a b : Basic) (xs ys : List SigRun) → BeginsOther a xs → AreRuns xs → BeginsOther b ys → AreRuns ys →
    replicate (suc m) a ++ spread xs ≡ replicate (suc n) b ++ spread ys → AreAlike (suc m) (suc n) a b xs ys
alike zero zero a b xs ys p h q k e = record { counts = refl; basics = cc; rest = cc }
alike zero (suc n) a b xs ys p h q k e =
    let same : a ≡ b = cc in
    let after : spread xs ≡ b ∷ (replicate n b ++ spread ys) = cc in
    absurd (begins_not a xs (replicate n b ++ spread ys) p h (after ∙ ap (λ x. x ∷ (replicate n b ++ spread ys)) (sym same)))
alike (suc m) zero a b xs ys p h q k e =
    let same : a ≡ b = cc in
    let after : a ∷ (replicate m a ++ spread xs) ≡ spread ys = cc in
    absurd (begins_not b ys (replicate m a ++ spread xs) q k (sym after ∙ ap (λ x. x ∷ (replicate m a ++ spread xs)) same))
alike (suc m) (suc n) a b xs ys p h q k e =
    let inner = alike m n a b xs ys p h q k cc in
    record { counts = ap suc inner.counts; basics = inner.basics; rest = inner.rest }

some_first : (run : SigRun) (runs : List SigRun) → 0 < run.count → spread (run ∷ runs) ≢ []
some_first run runs some e = first run.count some e
  where
    first : (n : ℕ) → 0 < n → replicate n run.basic ++ spread runs ≡ [] → ⊥
    first zero some e = omega arith
    first (suc n) some e = cc

abbrev run_of : Basic → ℕ → SigRun
run_of b n = record { basic = b; count = n }

same_runs : (xs ys : List SigRun) → AreRuns xs → AreRuns ys → spread xs ≡ spread ys → xs ≡ ys
same_runs [] [] h k e = refl
same_runs [] (y ∷ ys) h k e = absurd (some_first y ys k.0 (sym e))
same_runs (x ∷ xs) [] h k e = absurd (some_first x xs h.0 e)
same_runs (x ∷ xs) (y ∷ ys) h k e = both x.count y.count h.0 k.0 e refl refl (same_runs xs ys h.2 k.2)
  where
    both : (m n : ℕ) → 0 < m → 0 < n → replicate m x.basic ++ spread xs ≡ replicate n y.basic ++ spread ys → x.count ≡ m → y.count ≡ n → (spread xs ≡ spread ys → xs ≡ ys) → (x ∷ xs) ≡ (y ∷ ys)
    both zero n some other e c d later = absurd (omega arith)
    both (suc m) zero some other e c d later = absurd (omega arith)
    both (suc m) (suc n) some other e c d later =
        let a = alike m n x.basic y.basic xs ys h.1 h.2 k.1 k.2 e in
        let rest = later a.rest in
        let first : x ≡ y =
        ap (λ b. run_of b x.count) a.basics ∙ ap (run_of y.basic) (c ∙ a.counts ∙ sym d) in
        ap (λ r. r ∷ xs) first ∙ ap (λ rs. y ∷ rs) rest

-- the runs of a signature are the only ones
pub IsRunsOf_unique : (basics : List Basic) (xs ys : List SigRun) → IsRunsOf basics xs → IsRunsOf basics ys → xs ≡ ys
IsRunsOf_unique basics xs ys h k = same_runs xs ys h.apart k.apart (h.same ∙ sym k.same)
