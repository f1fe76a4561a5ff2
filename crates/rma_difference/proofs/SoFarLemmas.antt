-- The calls of the ranks so far, with one more call or one more rank.
use Rattle.std.proofs.Common.{◌≡◌, ℕ, zero, suc, ◌+◌, ◌≢◌, Bool, true, false, cond, List, [], ◌∷◌, ◌++◌, length, Option, nat_eq, eqb, refl, sym, ap, subst, ◌∙◌, append_assoc, arith}
use Rattle.std.specs.List.{cons_option}
use Rattle.std.specs.Cmp.Lexicographic.{pointwise, same_text}
use Rattle.std.proofs.lemmas.Bool.{eqb-true}
use Rattle.std.proofs.lemmas.Bool.Decides.{nat_tests}
use Rattle.std.proofs.lemmas.List.{flat_map_more}
use Rattle.std.proofs.lemmas.List.Elements.{filter_map-append}
use Rattle.rma_base.specs.declared.rank.Rank.{Rank}
use Rattle.rma_call.specs.Call.{Call, RankCalls}
use Rattle.rma_call.specs.declared.what.What.{What}
use Rattle.rma_round.specs.declared.kind.Kind.{Kind}
use Rattle.rma_difference.specs.declared.call_count.CallCounts.{CallCounts}
use Rattle.rma_round.specs.Kind.{is_on, count_of}
use Rattle.rma_agreement.specs.Collective.{made, made_on, so_far, walked, walked_all, round_call_at, round_calls}
use Rattle.rma_member.specs.Declaration.{declaration_of, declarations_of, declarations}
use Rattle.rma_difference.specs.inside.CallCount.{counted, AreCallCounts}
use Rattle.rma_agreement.proofs.CountLemmas.{count_of_push}
use Rattle.rma_agreement.proofs.WalkLemmas.{walked_push}
use Rattle.rma_difference.proofs.CallCountLemmas.{AreCallCounts_same, AreCallCounts_counted}

-- ---- what is listed of the calls

pub walked_all_push : {Y : Type 0} (f : Rank → List Call → Call → Option Y) (done : List RankCalls) (own : RankCalls) →
    walked_all f (done ++ own ∷ []) ≡ walked_all f done ++ walked f own.rank [] own.calls
walked_all_push f done own = sym (flat_map_more (λ (r : RankCalls). walked f r.rank [] r.calls) [] done own)

pub round_calls_more : (kind : Kind) (done : List RankCalls) (own : RankCalls) (before : List Call) (call : Call) →
    round_calls kind (so_far done own (before ++ call ∷ [])) ≡ round_calls kind (so_far done own before) ++ cons_option (round_call_at kind own.rank before call) []
round_calls_more kind done own before call =
    let f = round_call_at kind in
    let last = cons_option (f own.rank before call) [] in
    walked_all_push f done (record own { calls = before ++ call ∷ [] })
    ∙ ap (λ l. round_calls kind done ++ l) (walked_push f own.rank [] before call)
    ∙ sym (append_assoc (round_calls kind done) (walked f own.rank [] before) last)
    ∙ ap (λ l. l ++ last) (sym (walked_all_push f done (record own { calls = before })))

module _ {T : Type 0} (stated : What → Option (List ℕ × T)) where
  pub declarations_push : (done : List RankCalls) (own : RankCalls) → declarations stated (done ++ own ∷ []) ≡ declarations stated done ++ declarations_of stated own.rank own.calls
  declarations_push done own = sym (flat_map_more (λ (r : RankCalls). declarations_of stated r.rank r.calls) [] done own)

  pub declarations_more : (done : List RankCalls) (own : RankCalls) (before : List Call) (call : Call) →
      declarations stated (so_far done own (before ++ call ∷ [])) ≡ declarations stated (so_far done own before) ++ cons_option (declaration_of stated own.rank call) []
  declarations_more done own before call =
      let last = cons_option (declaration_of stated own.rank call) [] in
      declarations_push done (record own { calls = before ++ call ∷ [] })
      ∙ ap (λ l. declarations stated done ++ l) (filter_map-append (declaration_of stated own.rank) before (call ∷ []))
      ∙ sym (append_assoc (declarations stated done) (declarations_of stated own.rank before) last)
      ∙ ap (λ l. l ++ last) (sym (declarations_push done (record own { calls = before })))

-- ---- how many calls a rank makes

made_here : (kind : Kind) (done : List RankCalls) (own : RankCalls) (name : List ℕ) → made kind (done ++ own ∷ []) (length done) name ≡ count_of kind name own.calls
made_here kind [] own name = refl
made_here kind (d ∷ done) own name = made_here kind done own name

made_elsewhere : (kind : Kind) (done : List RankCalls) (a b : RankCalls) (name : List ℕ) (m : ℕ) → m ≢ length done →
    made kind (done ++ a ∷ []) m name ≡ made kind (done ++ b ∷ []) m name
made_elsewhere kind [] a b name zero ne = absurd (ne refl)
made_elsewhere kind [] a b name (suc m) ne = refl
made_elsewhere kind (d ∷ done) a b name zero ne = refl
made_elsewhere kind (d ∷ done) a b name (suc m) ne = made_elsewhere kind done a b name m (λ e. ne (ap (λ n. suc n) e))

-- a rank that has not begun makes none
pub made_begun : (kind : Kind) (done : List RankCalls) (own : RankCalls) (name : List ℕ) (m : ℕ) → made kind (so_far done own []) m name ≡ made kind done m name
made_begun kind [] own name zero = refl
made_begun kind [] own name (suc m) = refl
made_begun kind (d ∷ done) own name zero = refl
made_begun kind (d ∷ done) own name (suc m) = made_begun kind done own name m

module _ (kind : Kind) (name : List ℕ) (done : List RankCalls) (own : RankCalls) (before : List Call) (index : ℕ) (at : length done ≡ index) where
  pub made_now : made kind (so_far done own before) index name ≡ count_of kind name before
  made_now = ap (λ n. made kind (so_far done own before) n name) (sym at) ∙ made_here kind done (record own { calls = before }) name

module _ (kind : Kind) (name : List ℕ) (done : List RankCalls) (own : RankCalls) (before : List Call) (call : Call) (index : ℕ) (at : length done ≡ index) where
  abbrev R : List RankCalls
  R = so_far done own before

  abbrev R' : List RankCalls
  R' = so_far done own (before ++ call ∷ [])

  made_next : made kind R' index name ≡ made kind R index name + cond (is_on kind name call) 1 0
  made_next =
      made_now kind name done own (before ++ call ∷ []) index at
      ∙ count_of_push kind name before call
      ∙ ap (λ n. n + cond (is_on kind name call) 1 0) (sym (made_now kind name done own before index at))

  made_others : (m : ℕ) → m ≢ index → made kind R' m name ≡ made kind R m name
  made_others m ne = made_elsewhere kind done (record own { calls = before ++ call ∷ [] }) (record own { calls = before }) name m (λ e. ne (e ∙ at))

  made_same : is_on kind name call ≡ false → (m : ℕ) → made kind R' m name ≡ made kind R m name
  made_same off m = by (eqb m index) refl
    where
      by : (b : Bool) → eqb m index ≡ b → made kind R' m name ≡ made kind R m name
      by true e =
          let here = eqb-true m index e in
          ap (λ n. made kind R' n name) here ∙ made_next ∙ ap (λ b. made kind R index name + cond b 1 0) off ∙ add0 (made kind R index name) ∙ ap (λ n. made kind R n name) (sym here)
        where
          add0 : (n : ℕ) → n + 0 ≡ n
          add0 n = omega arith
      by false e = made_others m (λ same. grind (arith, nat_tests))

  -- what is kept of the name after the call
  pub AreCallCounts_scanned : (t u : CallCounts) → AreCallCounts (made_on kind R name) index t → u ≡ cond (is_on kind name call) (counted t index) t →
      AreCallCounts (made_on kind R' name) index u
  AreCallCounts_scanned t u is kept = by (is_on kind name call) refl
    where
      by : (b : Bool) → is_on kind name call ≡ b → AreCallCounts (made_on kind R' name) index u
      by true e =
          let same : u ≡ counted t index = kept ∙ ap (λ b. cond b (counted t index) t) e in
          let more : made kind R' index name ≡ made kind R index name + 1 = made_next ∙ ap (λ b. made kind R index name + cond b 1 0) e in
          subst (λ v. AreCallCounts (made_on kind R' name) index v) (sym same)
          (AreCallCounts_counted (made_on kind R name) (made_on kind R' name) index t is more made_others)
      by false e =
          let same : u ≡ t = kept ∙ ap (λ b. cond b (counted t index) t) e in
          subst (λ v. AreCallCounts (made_on kind R' name) index v) (sym same)
          (AreCallCounts_same (made_on kind R name) (made_on kind R' name) index index t (made_same e) (omega arith) is)

-- what changes of a name alone changes of the name that is looked for
pub changed_alone : {X : Type 0} (F : List ℕ → X) (G : X → X) (own name : List ℕ) →
    cond (pointwise nat_eq own name) (G (F own)) (F name) ≡ cond (pointwise nat_eq own name) (G (F name)) (F name)
changed_alone F G own name = by (pointwise nat_eq own name) refl
  where
    by : (b : Bool) → pointwise nat_eq own name ≡ b → cond b (G (F own)) (F name) ≡ cond b (G (F name)) (F name)
    by true e = ap (λ n. G (F n)) (same_text own name (sym e))
    by false e = refl
