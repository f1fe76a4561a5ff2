-- The calls that match are calls that are taken, so their numbers are small.
use Rattle.std.proofs.Common.{◌≡◌, ◌<◌, ◌≤◌, ◌^◌, ◌∙◌, ◌∷◌, [], ap, Bool, true, false, nat_eq, length, length-append, ℕ, List, Option, Some, None, slice_get, refl, sym, subst, arith}
use Rattle.std.specs.Prelude.{IfSome}
use Rattle.std.specs.Option.{option_and_then, option_or}
use Rattle.std.proofs.lemmas.Bool.{eqb-true}
use Rattle.std.proofs.lemmas.Option.{slice_get_within}
use Rattle.rma_base.specs.Limits.{fed_limit}
use Rattle.rma_call.specs.Call.{Call}
use Rattle.rma_call.specs.declared.what.What.{What}
use Rattle.rma_round.specs.declared.kind.Kind.{Kind}
use Rattle.rma_round.specs.declared.kind.Kind.TheVariants.{Collective, Free, Fence, Moving}
use Rattle.rma_round.specs.Kind.{named}
use Rattle.rma_round.specs.Round.{match_of, matched_at, matched, partner_of}
use Rattle.rma_round.proofs.NumberLemmas.{match_is}
use Rattle.rma_exposure.specs.declared.side.Side.TheVariants.{Exposure, Access}
use Rattle.rma_exposure.specs.Closing.{closing_of}
use Rattle.rma_exposure.specs.Matching as exposure
use Rattle.rma_exposure.specs.Edge.{complete_for}
use Rattle.rma_exposure.proofs.RunLemmas.{closing_below}
use Rattle.rma_run.specs.Run.{with_calls}
use Rattle.rma_match.specs.Source.{AreFew}

-- a number of which the position of a point is no larger than it may be
abbrev pub IsSmall : Option ℕ → Type 0
IsSmall found = IfSome found (λ j. j < 2 ^ 31)

or_small : (a b : Option ℕ) → IsSmall a → IsSmall b → IsSmall (option_or a b)
or_small None b is_a is_b = is_b
or_small (Some x) b is_a is_b = is_a

module _ (calls : ℕ → List Call) (few : AreFew calls) (rank number other : ℕ) where
  match_small : (kind : Kind) (name : List ℕ) → IsSmall (match_of kind name calls rank number other)
  match_small kind name = by (match_of kind name calls rank number other) refl
    where
      by : (o : Option ℕ) → match_of kind name calls rank number other ≡ o → IsSmall o
      by None is = tt
      by (Some j) is =
          let one = match_is kind name calls rank number other j is in
          let below = slice_get_within (calls other) j one.0 one.1 in
          let most = few other in
          omega arith

  matched_small : (kind : Kind) (what : What) → IsSmall (matched_at kind calls rank number other what)
  matched_small kind what = by (named kind what)
    where
      by : (o : Option (List ℕ)) → IsSmall (option_and_then (λ name. match_of kind name calls rank number other) o)
      by None = tt
      by (Some name) = match_small kind name

  any_small : (what : What) → IsSmall (matched calls rank number other what)
  any_small what =
      or_small (matched_at Collective calls rank number other what) (option_or (matched_at Free calls rank number other what) (option_or (matched_at Fence calls rank number other what) (matched_at Moving calls rank number other what)))
      (matched_small Collective what)
      (or_small (matched_at Free calls rank number other what) (option_or (matched_at Fence calls rank number other what) (matched_at Moving calls rank number other what))
      (matched_small Free what)
      (or_small (matched_at Fence calls rank number other what) (matched_at Moving calls rank number other what) (matched_small Fence what) (matched_small Moving what)))

  -- the number of a call of a round
  pub partner_small : (found : Option ℕ) → found ≡ partner_of calls rank number other → IsSmall found
  partner_small found is = subst IsSmall (sym is) (by (slice_get (calls rank) number))
    where
      by : (o : Option Call) → IsSmall (option_and_then (λ (call : Call). matched calls rank number other call.what) o)
      by None = tt
      by (Some call) = any_small call.what

-- the number of a complete
pub complete_small : (calls : ℕ → List Call) → AreFew calls → (rank post : ℕ) (window : List ℕ) (origin : ℕ) (found : Option ℕ) → found ≡ complete_for calls rank post window origin → IsSmall found
complete_small calls few rank post window origin found is = subst IsSmall (sym is) (by (exposure.match_of Exposure window calls rank post origin))
  where
    by : (o : Option ℕ) → IsSmall (option_and_then (closing_of Access (calls origin)) o)
    by None = tt
    by (Some start) = closing_below Access (calls origin) start (closing_of Access (calls origin) start) refl (few origin)

-- with one more call of a rank there are still no more than there may be
pub few_more : (calls : ℕ → List Call) (rank : ℕ) (call : Call) (number : ℕ) → length (calls rank) ≡ number → number < fed_limit → AreFew calls → AreFew (with_calls calls rank (call ∷ []))
few_more calls rank call number len below few other = by (nat_eq rank other) refl
  where
    by : (b : Bool) → nat_eq rank other ≡ b → length (with_calls calls rank (call ∷ []) other) ≤ fed_limit
    by true same =
        let e : length (calls other) ≡ number = ap (λ r. length (calls r)) (sym (eqb-true rank other same)) ∙ len in
        rw same (simp length-append (omega arith))
    by false differ = rw differ (few other)
