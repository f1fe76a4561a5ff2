-- What follows for each call where no call is at fault.
use Rattle.std.proofs.Common.{◌≡◌, ℕ, zero, suc, Bool, true, false, List, [], ◌∷◌, ◌++◌, take, Option, Some, None, slice_get, cond, refl, sym, ap, subst, ◌∙◌, append_assoc}
use Rattle.std.specs.Prelude.{Contains, find}
use Rattle.std.specs.List.{cons_option, filter_map, flat_map}
use Rattle.std.specs.Option.{option_or}
use Rattle.std.proofs.lemmas.List.{append-nil}
use Rattle.rma_agreement.specs.Collective.{walked, walked_all}
use Rattle.rma_base.specs.declared.match_reason.MatchReason.{MatchReason}
use Rattle.rma_base.specs.declared.match_reason.MatchReason.TheVariants.{SendUnreceived, ReceiveUnsent, CollectiveDiffers, CollectiveMissing, AssertDiffers, PostUnmatched, StartUnmatched, WindowDiffers, CommDiffers, DataDiffers, DataMissing}
use Rattle.rma_base.specs.declared.rank.Rank.{Rank}
use Rattle.rma_call.specs.Call.{Call, RankCalls}
use Rattle.rma_run.proofs.ContainLemmas.{filter_map_has, first_or_later, flat_map_has, has_first, has_later, has_none}
use Rattle.rma_sync.specs.Matching.{faults_of, match_faults}

-- ---- lists that have nothing

module _ {X Y : Type 0} where
  pub none_in_flat : (f : X → List Y) (xs : List X) (x : X) → flat_map f xs ≡ [] → Contains xs x → f x ≡ []
  none_in_flat f xs x none among = by (f x) refl
    where
      by : (ys : List Y) → f x ≡ ys → f x ≡ []
      by [] is = is
      by (y ∷ ys) is =
          has_none y (subst (λ them. Contains them y) none (flat_map_has f xs x y among (subst (λ them. Contains them y) (sym is) (has_first y ys))))

  pub none_in_filter : (f : X → Option Y) (xs : List X) (x : X) → filter_map f xs ≡ [] → Contains xs x → f x ≡ None
  none_in_filter f xs x none among = by (f x) refl
    where
      by : (o : Option Y) → f x ≡ o → f x ≡ None
      by None is = is
      by (Some y) is = has_none y (subst (λ them. Contains them y) none (filter_map_has f xs x y among is))

-- ---- the first element that passes

module _ {X : Type 0} (p : X → Bool) where
  pub found : (xs : List X) (y : X) → find p xs ≡ Some y → Contains xs y × (p y ≡ true)
  found [] y is = cc
  found (x ∷ xs) y is = by (p x) refl is (found xs y)
    where
      by : (b : Bool) → p x ≡ b → cond b (Some x) (find p xs) ≡ Some y → (find p xs ≡ Some y → Contains xs y × (p y ≡ true)) → Contains (x ∷ xs) y × (p y ≡ true)
      by true passes is rest = let same : x ≡ y = cc in (subst (Contains (x ∷ xs)) same (has_first x xs), ap p (sym same) ∙ passes)
      by false fails is rest = let one = rest is in (has_later x y xs one.0, one.1)

  pub finds : (xs : List X) (x : X) → Contains xs x → p x ≡ true → (y : X) × (find p xs ≡ Some y)
  finds [] x among passes = has_none x among
  finds (z ∷ xs) x among passes = by (p z) refl (λ later. finds xs x later passes)
    where
      by : (b : Bool) → p z ≡ b → (Contains xs x → (y : X) × (find p xs ≡ Some y)) → (y : X) × (cond b (Some z) (find p xs) ≡ Some y)
      by true is rest = (z, refl)
      by false is rest = first_or_later z x xs (λ same. let wrong : false ≡ true = sym is ∙ ap p same ∙ passes in cc wrong) rest among

-- ---- the reasons

module _ (ranks : List RankCalls) (none : match_faults ranks ≡ []) where
  abbrev reasons : List MatchReason
  reasons = SendUnreceived ∷ ReceiveUnsent ∷ CollectiveDiffers ∷ CollectiveMissing ∷ AssertDiffers ∷ PostUnmatched ∷ StartUnmatched ∷ WindowDiffers ∷ CommDiffers ∷ DataDiffers ∷ DataMissing ∷ []

  pub no_faults : (place : ℕ) (reason : MatchReason) → slice_get reasons place ≡ Some reason → faults_of ranks reason ≡ []
  no_faults place reason there = none_in_flat (faults_of ranks) reasons reason none (contained reasons place there)
    where
      contained : (them : List MatchReason) (k : ℕ) → slice_get them k ≡ Some reason → Contains them reason
      contained [] k is = cc
      contained (first ∷ rest) zero is = let same : first ≡ reason = cc in subst (Contains (first ∷ rest)) same (has_first first rest)
      contained (first ∷ rest) (suc k) is = has_later first reason rest (contained rest k is)

-- ---- calls that are walked

module _ {Y : Type 0} (f : Rank → List Call → Call → Option Y) where
  cons_later : (o : Option Y) (ys : List Y) (y : Y) → Contains ys y → Contains (cons_option o ys) y
  cons_later None ys y has = has
  cons_later (Some x) ys y has = has_later x y ys has

  pub walked_has : (rank : Rank) (before calls : List Call) (k : ℕ) (call : Call) (y : Y) → slice_get calls k ≡ Some call → f rank (before ++ take k calls) call ≡ Some y → Contains (walked f rank before calls) y
  walked_has rank before [] k call y there is = cc
  walked_has rank before (c ∷ cs) zero call y there is =
      let same : c ≡ call = cc in
      let now : f rank before c ≡ Some y = ap (λ them. f rank them c) (sym (append-nil before)) ∙ ap (f rank (before ++ [])) same ∙ is in
      rw now (has_first y (walked f rank (before ++ c ∷ []) cs))
  walked_has rank before (c ∷ cs) (suc k) call y there is =
      cons_later (f rank before c) (walked f rank (before ++ c ∷ []) cs) y
      (walked_has rank (before ++ c ∷ []) cs k call y there (ap (λ them. f rank them call) (append_assoc before (c ∷ []) (take k cs)) ∙ is))

  pub walked_all_has : (ranks : List RankCalls) (own : RankCalls) (k : ℕ) (call : Call) (y : Y) → Contains ranks own → slice_get own.calls k ≡ Some call → f own.rank (take k own.calls) call ≡ Some y
      → Contains (walked_all f ranks) y
  walked_all_has ranks own k call y among there is = flat_map_has (λ (r : RankCalls). walked f r.rank [] r.calls) ranks own y among (walked_has own.rank [] own.calls k call y there is)

  pub none_walked : (ranks : List RankCalls) (own : RankCalls) (k : ℕ) (call : Call) → walked_all f ranks ≡ [] → Contains ranks own → slice_get own.calls k ≡ Some call → f own.rank (take k own.calls) call ≡ None
  none_walked ranks own k call none among there = by (f own.rank (take k own.calls) call) refl
    where
      by : (o : Option Y) → f own.rank (take k own.calls) call ≡ o → f own.rank (take k own.calls) call ≡ None
      by None is = is
      by (Some y) is = has_none y (subst (λ them. Contains them y) none (walked_all_has ranks own k call y among there is))

-- ---- the first of several reasons

pub or_none : {Y : Type 0} → (a b : Option Y) → option_or a b ≡ None → (a ≡ None) × (b ≡ None)
or_none (Some x) b h = cc
or_none None b h = (refl, h)
