-- Starts and the posts that they match.
use Rattle.std.proofs.Common.{◌≡◌, ℕ, List, length, ◌≤◌, Option, Some, None, slice_get, refl, sym, ap, subst, ◌∙◌, arith}
use Rattle.std.specs.Prelude.{Contains}
use Rattle.std.specs.Option.{option_and_then, option_or}
use Rattle.std.proofs.lemmas.Option.{none-some, same_Some, slice_get_within}
use Rattle.rma_base.specs.declared.rank.Rank.{Rank}
use Rattle.rma_call.specs.Call.{Call, RankCalls}
use Rattle.rma_call.specs.declared.assertion.Assertions.{Assertions}
use Rattle.rma_call.specs.declared.epoch.EpochCall.TheVariants.{Start}
use Rattle.rma_call.specs.declared.what.SyncCall.TheVariants.{Epoch}
use Rattle.rma_call.specs.declared.what.What.TheVariants.{Sync}
use Rattle.rma_exposure.specs.Matching.{match_of, matched_at, partner_of}
use Rattle.rma_exposure.specs.Opening.{Opening, opened, started}
use Rattle.rma_exposure.specs.declared.side.Side.TheVariants.{Access, Exposure}
use Rattle.rma_link.specs.declared.links.Links.{Links}
use Rattle.rma_run.specs.Run.{IsRun, calls_of}
use Rattle.rma_concurrent.specs.inside.Places.{HasMore}
use Rattle.rma_concurrent.proofs.ListLemmas.{contained, more_none, more_same}
use Rattle.rma_assert.specs.declared.asserting.Asserting.{Asserting}
use Rattle.rma_assert.specs.declared.assertion.BrokenAssertion.{BrokenAssertion}
use Rattle.rma_assert.specs.Asserted.{assertions_of}
use Rattle.rma_assert.specs.Starts.{IsAtStart, IsStartBroken, IsStartReason}
use Rattle.rma_assert.specs.inside.Gathered.{IsAsserting, IsUpTo}
use Rattle.rma_assert.specs.inside.Started.{IsOfPair, IsOfPost, IsOfRank, IsOfStart, IsOfTarget}
use Rattle.rma_assert.proofs.GatherLemmas.{up_to_all}
use Rattle.rma_assert.proofs.RunLemmas.{caller_there, calls_there, own_rank}

module _ (calls : ℕ → List Call) where
  -- one call of a number
  one_call : (rank number : ℕ) (a b : Call) → slice_get (calls rank) number ≡ Some a → slice_get (calls rank) number ≡ Some b → a ≡ b
  one_call rank number a b here there = same_Some a b (sym here ∙ there)

  pub one_asserting : (a b : Asserting) → IsAsserting calls a → IsAsserting calls b → a.rank.0 ≡ b.rank.0 → a.number ≡ b.number → a ≡ b
  one_asserting a b one two rank number =
      let here : slice_get (calls b.rank.0) b.number ≡ Some one.call = subst (λ n. slice_get (calls b.rank.0) n ≡ Some one.call) number (subst (λ r. slice_get (calls r) a.number ≡ Some one.call) rank one.there) in
      let call = one_call b.rank.0 b.number one.call two.call here two.there in
      let line = one.line ∙ ap (λ (c : Call). c.line) call ∙ sym two.line in
      let nocheck = one.nocheck ∙ ap (λ (c : Call). (assertions_of c.what).nocheck) call ∙ sym two.nocheck in
      λ k. record { rank = record { 0 = rank k }; number = number k; line = line k; nocheck = nocheck k }

  -- the partner of a start is its match
  pub partner_at_start : (rank number other : ℕ) (call : Call) (window group : List ℕ) (assertions : Assertions) → slice_get (calls rank) number ≡ Some call → call.what ≡ Sync (Epoch (Start window group assertions))
      → partner_of calls rank number other ≡ match_of Access window calls rank number other
  partner_at_start rank number other call window group assertions there is =
      let posted = ap (option_and_then (λ (c : Call). opened Exposure c.what)) there ∙ ap (opened Exposure) is in
      let started = ap (option_and_then (λ (c : Call). opened Access c.what)) there ∙ ap (opened Access) is in
      let none = ap (option_and_then (λ (opening : Opening). match_of Exposure opening.window calls rank number other)) posted in
      let some = ap (option_and_then (λ (opening : Opening). match_of Access opening.window calls rank number other)) started in
      ap (λ o. option_or o (matched_at Access calls rank number other)) none ∙ some

  module _ (links : Links) (start : Asserting) where
    -- ---- a target

    of_post : (target : Rank) (number : Option ℕ) (post : Asserting) → IsOfPost calls number target (Some post) → (x : BrokenAssertion) → number ≡ partner_of calls start.rank.0 start.number target.0 → IsOfPair links start post x
        → IsOfTarget links calls start target.0 x
    of_post target number post of x partner pair =
        record { post = post; post_is = of.2; target_is = ap (λ (r : Rank). r.0) of.0; matched = sym partner ∙ of.1; pair = pair }

    pub more_of_target : (target : Rank) (post : Asserting) (a b : List BrokenAssertion) → IsOfPost calls (partner_of calls start.rank.0 start.number target.0) target (Some post) → HasMore (IsOfPair links start post) a b
        → HasMore (IsOfTarget links calls start target.0) a b
    more_of_target target post a b of more =
        more_same a b more
        (λ x pair. of_post target (partner_of calls start.rank.0 start.number target.0) post of x refl pair)
        (λ x found.
        let number : found.post.number ≡ post.number = same_Some found.post.number post.number (sym found.matched ∙ of.1) in
        let same = one_asserting found.post post found.post_is of.2 (found.target_is ∙ ap (λ (r : Rank). r.0) (sym of.0)) number in
        subst (λ p. IsOfPair links start p x) same found.pair)

    pub none_of_target : (target : Rank) (a : List BrokenAssertion) → IsOfPost calls (partner_of calls start.rank.0 start.number target.0) target None → HasMore (IsOfTarget links calls start target.0) a a
    none_of_target target a none =
        more_none a (λ x found. none found.post.number found.post_is.call found.matched (subst (λ r. slice_get (calls r) found.post.number ≡ Some found.post_is.call) found.target_is found.post_is.there))

    -- ---- a start

    module _ (is : IsAsserting calls start) (window group : List ℕ) (assertions : Assertions) (what : is.call.what ≡ Sync (Epoch (Start window group assertions))) where
      opening : Opening
      opening = record { window = window; group = group }

      says : started is.call.what ≡ Some (record { window = window; group = group })
      says = ap started what

      to_start : (x : BrokenAssertion) (target : ℕ) → Contains group target → IsOfTarget links calls start target x → IsOfStart links calls start.rank start.number x
      to_start x target has found = (subst (IsAtStart links calls start.number) same at, found.pair.rank)
        where
          post : Asserting
          post = found.post

          given : BrokenAssertion
          given = record { reason = x.reason; rank = start.rank; line = start.line; other = (post.rank, post.line) }

          same : record { reason = x.reason; rank = start.rank; line = start.line; other = (found.post.rank, found.post.line) } ≡ x
          same =
              let rank = sym found.pair.rank in
              let line = sym found.pair.line in
              let other = sym found.pair.other in
              let other_line = sym found.pair.other_line in
              λ k. record { reason = x.reason; rank = rank k; line = line k; other = (other k, other_line k) }

          matched : match_of Access window calls start.rank.0 start.number found.post.rank.0 ≡ Some found.post.number
          matched =
              sym (partner_at_start start.rank.0 start.number found.post.rank.0 is.call window group assertions is.there what) ∙ ap (partner_of calls start.rank.0 start.number) found.target_is ∙ found.matched

          at : IsAtStart links calls start.number (record { reason = x.reason; rank = start.rank; line = start.line; other = (found.post.rank, found.post.line) })
          at = record {
            starting = is.call;
            start_is = is.there;
            opening = record { window = window; group = group };
            starts = ap started what;
            has_target = subst (Contains group) (sym found.target_is) has;
            post = found.post.number;
            matched = matched;
            posting = found.post_is.call;
            post_is = found.post_is.there;
            reason = subst (λ b. IsStartReason links x.reason start.rank start.number (assertions_of is.call.what).nocheck found.post.rank found.post.number b) found.post_is.nocheck
                (subst (λ b. IsStartReason links x.reason start.rank start.number b found.post.rank found.post.number found.post.nocheck) is.nocheck found.pair.reason);
            line = is.line;
            other_line = found.post_is.line;
          }

      of_start : (x : BrokenAssertion) → IsOfStart links calls start.rank start.number x → (target : ℕ) × Contains group target × IsOfTarget links calls start target x
      of_start x (at, rank) = (x.other.0.0, has, record { post = post; post_is = post_is; target_is = refl; matched = partner; pair = pair })
        where
          starting : slice_get (calls start.rank.0) start.number ≡ Some at.starting
          starting = subst (λ (r : Rank). slice_get (calls r.0) start.number ≡ Some at.starting) rank at.start_is

          call : at.starting ≡ is.call
          call = one_call start.rank.0 start.number at.starting is.call starting is.there

          opens : at.opening ≡ record { window = window; group = group }
          opens = same_Some at.opening (record { window = window; group = group }) (sym at.starts ∙ ap (λ (c : Call). started c.what) call ∙ ap started what)

          has : Contains group x.other.0.0
          has = subst (λ (o : Opening). Contains o.group x.other.0.0) opens at.has_target

          post : Asserting
          post = record { rank = x.other.0; number = at.post; line = x.other.1; nocheck = (assertions_of at.posting.what).nocheck }

          post_is : IsAsserting calls (record { rank = x.other.0; number = at.post; line = x.other.1; nocheck = (assertions_of at.posting.what).nocheck })
          post_is = record { call = at.posting; there = at.post_is; line = at.other_line; nocheck = refl }

          partner : partner_of calls start.rank.0 start.number x.other.0.0 ≡ Some at.post
          partner =
              partner_at_start start.rank.0 start.number x.other.0.0 is.call window group assertions is.there what
              ∙ subst (λ (o : Opening). match_of Access o.window calls start.rank.0 start.number x.other.0.0 ≡ Some at.post) opens
              (subst (λ (r : Rank). match_of Access at.opening.window calls r.0 start.number x.other.0.0 ≡ Some at.post) rank at.matched)

          pair : IsOfPair links start (record { rank = x.other.0; number = at.post; line = x.other.1; nocheck = (assertions_of at.posting.what).nocheck }) x
          pair = record {
            rank = rank;
            line = at.line ∙ ap (λ (c : Call). c.line) call ∙ sym is.line;
            other = refl;
            other_line = refl;
            reason = subst (λ b. IsStartReason links x.reason start.rank start.number b x.other.0 at.post (assertions_of at.posting.what).nocheck) (ap (λ (c : Call). (assertions_of c.what).nocheck) call ∙ sym is.nocheck)
                (subst (λ (r : Rank). IsStartReason links x.reason r start.number (assertions_of at.starting.what).nocheck x.other.0 at.post (assertions_of at.posting.what).nocheck) rank at.reason);
          }

      pub more_of_start : (a b : List BrokenAssertion) → HasMore (λ x. (target : ℕ) × Contains group target × IsOfTarget links calls start target x) a b → HasMore (IsOfStart links calls start.rank start.number) a b
      more_of_start a b more = more_same a b more (λ x found. to_start x found.0 found.1 found.2) of_start

  -- a call that is no start
  pub none_of_call : (links : Links) (rank : Rank) (number : ℕ) (call : Call) (a : List BrokenAssertion) → slice_get (calls rank.0) number ≡ Some call → started call.what ≡ None → HasMore (IsOfStart links calls rank number) a a
  none_of_call links rank number call a there none =
      more_none a
      (λ x (at, is).
      let same = one_call rank.0 number at.starting call (subst (λ (r : Rank). slice_get (calls r.0) number ≡ Some at.starting) is at.start_is) there in
      none-some at.opening (sym none ∙ ap (λ (c : Call). started c.what) (sym same) ∙ at.starts))

-- ---- a rank, and a run

module _ (ranks : List RankCalls) (links : Links) where
  pub more_of_rank : (own : RankCalls) (count : ℕ) (a b : List BrokenAssertion) → slice_get ranks own.rank.0 ≡ Some own → length own.calls ≤ count → HasMore (IsUpTo (IsOfStart links (calls_of ranks) own.rank) count) a b
      → HasMore (IsOfRank links (calls_of ranks) own.rank) a b
  more_of_rank own count a b there all more =
      up_to_all (IsOfStart links (calls_of ranks) own.rank) count a b
      (λ x n below is. (n, is))
      (λ x (n, (at, rank)).
      let called : slice_get (calls_of ranks own.rank.0) n ≡ Some at.starting = subst (λ (r : Rank). slice_get (calls_of ranks r.0) n ≡ Some at.starting) rank at.start_is in
      let own_call : slice_get own.calls n ≡ Some at.starting = subst (λ (calls : List Call). slice_get calls n ≡ Some at.starting) (calls_there ranks own.rank.0 own there) called in
      let within = slice_get_within own.calls n at.starting own_call in
      (n, omega arith, (at, rank)))
      more

  pub more_of_run : IsRun ranks → (a b : List BrokenAssertion) → HasMore (λ x. (own : RankCalls) × Contains ranks own × IsOfRank links (calls_of ranks) own.rank x) a b → HasMore (IsStartBroken links (calls_of ranks)) a b
  more_of_run run a b more =
      more_same a b more
      (λ x (own, has, (start, (at, rank))). (start, at))
      (λ x (start, at).
      let caller = caller_there ranks x.rank.0 start at.starting at.start_is in
      (caller.0, contained ranks x.rank.0 caller.0 caller.1, (start, (at, own_rank ranks x.rank caller.0 run caller.1))))
