-- What the touched elements have in common.
use Rattle.std.proofs.Common.{◌≡◌, ◌≢◌, ℕ, zero, suc, ◌*◌, ◌<◌, ◌≤◌, ℤ, List, [], ◌∷◌, ◌++◌, map, replicate, length, get_or, take, All, refl, sym, ap, subst, ◌∙◌, arith}
use Rattle.rma_layout.proofs.Words.{append-nil, append_assoc, length-take, length-map, Basic, Typemap}
use Rattle.rma_layout.specs.Touched.{touched}
use Rattle.rma_layout.proofs.SignatureLemmas.{basics_touched}
use Rattle.rma_type.specs.Signature.{spread, basics_of, IsRunsOf}
use Rattle.rma_type.specs.declared.sig_run.SigRun.{SigRun}
use Rattle.rma_type.proofs.RunLemmas.{no_run}
use Rattle.rma_typemap.proofs.Words.{copies, signature, entry_count}
use Rattle.rma_typemap.proofs.SignatureLemmas.{copies_suc, copies_replicate, length_copies, length_signature}
use Rattle.std.proofs.lemmas.List.{take-append-le, take-replicate, get_or-take, get_or_at, length-replicate}
use Rattle.std.proofs.lemmas.List.Elements.{All-nil, All-cons, All-map}

-- ---- runs

pub one_run : (basics : List Basic) (runs : List SigRun) → IsRunsOf basics runs → length runs ≡ 1 → basics ≡ replicate (get_or runs 0 no_run).count (get_or runs 0 no_run).basic
one_run basics [] h e = absurd (omega arith)
one_run basics (run ∷ []) h e = sym h.same ∙ append-nil (basics_of run)
one_run basics (run ∷ other ∷ runs) h e = absurd (omega arith)

pub first_run : (basics : List Basic) (runs : List SigRun) → IsRunsOf basics runs → 1 ≤ length runs → (rest : List Basic) × (basics ≡ replicate (get_or runs 0 no_run).count (get_or runs 0 no_run).basic ++ rest)
first_run basics [] h e = absurd (omega arith)
first_run basics (run ∷ runs) h e = (spread runs, sym h.same)

pub no_run_at_all : (basics : List Basic) (runs : List SigRun) → IsRunsOf basics runs → length runs < 1 → basics ≡ []
no_run_at_all basics [] h e = sym h.same
no_run_at_all basics (run ∷ runs) h e = absurd (omega arith)

-- ---- one basic datatype

all_equal : (es : List (Basic × ℤ)) (n : ℕ) (b : Basic) → map (λ (e : Basic × ℤ). e.0) es ≡ replicate n b → All (λ (e : Basic × ℤ). e.0 ≡ b) es
all_equal [] n b h = All-nil (λ (e : Basic × ℤ). e.0 ≡ b)
all_equal (e ∷ es) zero b h = absurd (cc)
all_equal (e ∷ es) (suc n) b h =
    let first : e.0 ≡ b = cc in
    let rest : map (λ (x : Basic × ℤ). x.0) es ≡ replicate n b = cc in
    All-cons (λ (x : Basic × ℤ). x.0 ≡ b) e es first (all_equal es n b rest)

some_equal : (es : List (Basic × ℤ)) (n : ℕ) (b : Basic) → 0 < n → map (λ (e : Basic × ℤ). e.0) es ≡ replicate n b → (es ≢ []) × All (λ (e : Basic × ℤ). e.0 ≡ b) es
some_equal es n b some h =
    let long = sym (length-map es (λ (e : Basic × ℤ). e.0)) ∙ ap length h ∙ length-replicate n b in
    (λ none. let zero_long = ap length none in omega arith, all_equal es n b h)

-- a list that begins with two runs does not have one basic datatype
two_differ : (n1 n2 : ℕ) (b1 b2 basic : Basic) (rest all : List Basic) (n : ℕ) → 0 < n1 → 0 < n2 → n1 < n → n ≤ length all → all ≡ replicate n1 b1 ++ (replicate n2 b2 ++ rest) → b1 ≢ b2 → All (λ b. b ≡ basic) (take n all) → ⊥
two_differ zero n2 b1 b2 basic rest all n some more lt long is differ every = omega arith
two_differ (suc a) zero b1 b2 basic rest all n some more lt long is differ every = omega arith
two_differ (suc a) (suc b) b1 b2 basic rest all n some more lt long is differ every =
    let len = length-take n all in
    let first : get_or all 0 b1 ≡ b1 = ap (λ l. get_or l 0 b1) is in
    let second : get_or all (suc a) b1 ≡ b2 = ap (λ l. get_or l (suc a) b1) is ∙ get_or_at (replicate (suc a) b1) b2 (replicate b b2 ++ rest) b1 (suc a) (length-replicate (suc a) b1) in
    let one : get_or (take n all) 0 b1 ≡ basic = every 0 b1 (omega arith) in
    let two : get_or (take n all) (suc a) b1 ≡ basic = every (suc a) b1 (omega arith) in
    differ (sym first ∙ sym (get_or-take n all 0 b1 (omega arith)) ∙ one ∙ sym two ∙ get_or-take n all (suc a) b1 lt ∙ second)

module _ (m : Typemap) (runs : List SigRun) (h : IsRunsOf (signature m) runs) (count : ℕ) (address : ℤ) (n : ℕ) (some : 0 < n) (le : n ≤ count * entry_count m) where
  abbrev first : SigRun
  first = get_or runs 0 no_run

  pub never_empty : length runs < 1 → ⊥
  never_empty none =
      let nothing = ap length (no_run_at_all (signature m) runs h none) in
      let long = length_signature m in
      let zero_entries : entry_count m ≡ 0 = omega arith in
      let all = subst (λ k. n ≤ count * k) zero_entries le in
      omega arith

  pub all_of_one : length runs ≡ 1 → (touched m count address n ≢ []) × All (λ (e : Basic × ℤ). e.0 ≡ first.basic) (touched m count address n)
  all_of_one one =
      let is = one_run (signature m) runs h one in
      let long : entry_count m ≡ first.count = sym (length_signature m) ∙ ap length is ∙ length-replicate first.count first.basic in
      some_equal (touched m count address n) n first.basic some
      (basics_touched m count address n ∙ ap (λ s. take n (copies count s)) is ∙ ap (take n) (copies_replicate count first.count first.basic)
      ∙ take-replicate n (count * first.count) first.basic (subst (λ k. n ≤ count * k) long le))

  -- the copies begin with one
  begins_with_one : (c : ℕ) → count ≡ suc c → copies count (signature m) ≡ signature m ++ copies c (signature m)
  begins_with_one c is = ap (λ k. copies k (signature m)) is ∙ copies_suc c (signature m)

  one_copy : (c : ℕ) × (count ≡ suc c)
  one_copy = cases count refl
    where
      cases : (k : ℕ) → count ≡ k → (c : ℕ) × (count ≡ suc c)
      cases zero e = let none = subst (λ x. n ≤ x * entry_count m) e le in absurd (omega arith)
      cases (suc k) e = (k, e)

  pub all_of_first : 1 ≤ length runs → n ≤ first.count → (touched m count address n ≢ []) × All (λ (e : Basic × ℤ). e.0 ≡ first.basic) (touched m count address n)
  all_of_first there within =
      let begins = first_run (signature m) runs h there in
      let c = one_copy in
      let one = replicate first.count first.basic in
      let long = length-replicate first.count first.basic in
      some_equal (touched m count address n) n first.basic some
      (basics_touched m count address n ∙ ap (take n) (begins_with_one c.0 c.1 ∙ ap (λ s. s ++ copies c.0 (signature m)) begins.1 ∙ append_assoc one begins.0 (copies c.0 (signature m)))
      ∙ take-append-le n one (begins.0 ++ copies c.0 (signature m)) (omega arith) ∙ take-replicate n first.count first.basic within)

  -- two elements differ
  pub never_all : 2 ≤ length runs → first.count < n → (basic : Basic) → All (λ (e : Basic × ℤ). e.0 ≡ basic) (touched m count address n) → ⊥
  never_all two beyond basic all =
      let c = one_copy in
      differ runs h two beyond (begins_with_one c.0 c.1)
      (subst (λ bs. All (λ b. b ≡ basic) bs) (basics_touched m count address n) (All-map (λ (b : Basic). b ≡ basic) (λ (e : Basic × ℤ). e.0) (touched m count address n) all))
    where
      long : n ≤ length (copies count (signature m))
      long = subst (λ k. n ≤ k) (ap (λ k. count * k) (sym (length_signature m)) ∙ sym (length_copies count (signature m))) le

      differ : (rs : List SigRun) → IsRunsOf (signature m) rs → 2 ≤ length rs → (get_or rs 0 no_run).count < n → copies count (signature m) ≡ signature m ++ copies (one_copy).0 (signature m)
          → All (λ b. b ≡ basic) (take n (copies count (signature m))) → ⊥
      differ [] k at_least later is every = omega arith
      differ (x ∷ []) k at_least later is every = omega arith
      differ (x ∷ y ∷ rs) k at_least later is every =
          let more = copies (one_copy).0 (signature m) in
          two_differ x.count y.count x.basic y.basic basic (spread rs ++ more) (copies count (signature m)) n k.apart.0 k.apart.2.0 later long
          (is ∙ ap (λ s. s ++ more) (sym k.same) ∙ append_assoc (basics_of x) (basics_of y ++ spread rs) more ∙ ap (λ s. basics_of x ++ s) (append_assoc (basics_of y) (spread rs) more))
          k.apart.1 every
