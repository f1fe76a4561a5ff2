-- Ends of messages by the numbers that they have among those of their keys.
use Rattle.std.proofs.Common.{◌≡◌, ℕ, zero, suc, ◌+◌, Bool, true, false, cond, List, [], ◌∷◌, ◌++◌, take, Option, Some, None, slice_get, refl, sym, ap, ◌∙◌, arith, append_assoc, append-nil}
use Rattle.std.specs.Prelude.{filter, count_by, option_map, Contains}
use Rattle.std.specs.List.{cons_option}
use Rattle.std.specs.Option.{option_map_or}
use Rattle.std.proofs.lemmas.List.Sums.{sum_by-cons}
use Rattle.std.proofs.lemmas.Option.{same_Some}
use Rattle.rma_base.specs.declared.match_reason.MatchReason.{MatchReason}
use Rattle.rma_call.specs.declared.match_fault.MatchFault.{MatchFault}
use Rattle.rma_link.specs.declared.edge.Edge.{Edge}
use Rattle.rma_message.specs.declared.end.End.{End}
use Rattle.rma_message.specs.Key.{has_key}
use Rattle.rma_message.specs.Matching.{IsUnmatched, edge_between, edge_of, fault_of, partner, unmatched, walked}
use Rattle.rma_message.specs.Messages.{IsMessageEdge, Messages, edges_in}
use Rattle.rma_message.proofs.MatchLemmas.{same_key_refl, same_key_true}

-- ---- what a walk has

-- an end of which a walk has this
record IsHadAt {Y : Type 0} (f : List End → End → Option Y) (before es : List End) (y : Y) : Type 0 where
  index : ℕ
  end : End
  there : slice_get es index ≡ Some end
  gives : f (before ++ take index es) end ≡ Some y

module _ {Y : Type 0} (f : List End → End → Option Y) where
  later : (before es : List End) (e : End) (y : Y) → IsHadAt f (before ++ e ∷ []) es y → IsHadAt f before (e ∷ es) y
  later before es e y had = record {
    index = suc had.index;
    end = had.end;
    there = had.there;
    gives = ap (λ l. f l had.end) (sym (append_assoc before (e ∷ []) (take had.index es))) ∙ had.gives;
  }

  had_at : (before es : List End) (y : Y) → Contains (walked f before es) y → IsHadAt f before es y
  had_at before [] y (k, lt, is) = absurd (omega arith)
  had_at before (e ∷ es) y has = by (f before e) refl has (λ h. later before es e y (had_at (before ++ e ∷ []) es y h))
    where
      by : (o : Option Y) → f before e ≡ o → Contains (cons_option o (walked f (before ++ e ∷ []) es)) y → (Contains (walked f (before ++ e ∷ []) es) y → IsHadAt f before (e ∷ es) y)
          → IsHadAt f before (e ∷ es) y
      by None h has rest = rest has
      by (Some z) h (zero, lt, is) rest = record { index = 0; end = e; there = refl; gives = ap (λ l. f l e) (append-nil before) ∙ h ∙ ap Some is }
      by (Some z) h (suc k, lt, is) rest = rest (k, omega arith, is)

  has_more : (o : Option Y) (ys : List Y) (y : Y) → Contains ys y → Contains (cons_option o ys) y
  has_more None ys y has = has
  has_more (Some z) ys y (k, lt, is) = (suc k, omega arith, is)

  has_at : (before es : List End) (y : Y) (index : ℕ) (end : End) → slice_get es index ≡ Some end → f (before ++ take index es) end ≡ Some y → Contains (walked f before es) y
  has_at before [] y index end there gives = cc
  has_at before (e ∷ es) y zero end there gives =
      let own : f before e ≡ Some y = ap (f before) (same_Some e end there) ∙ ap (λ l. f l end) (sym (append-nil before)) ∙ gives in
      rw own (0, omega arith, refl)
  has_at before (e ∷ es) y (suc index) end there gives =
      has_more (f before e) (walked f (before ++ e ∷ []) es) y
      (has_at (before ++ e ∷ []) es y index end there (ap (λ l. f l end) (append_assoc before (e ∷ []) (take index es)) ∙ gives))

-- ---- the number of an element among those that pass a test

module _ (p : End → Bool) where
  count_cons : (e : End) (es : List End) → count_by p (e ∷ es) ≡ cond (p e) 1 0 + count_by p es
  count_cons e es = sum_by-cons (λ x. cond (p x) 1 0) e es

  -- an element that passes has as its number how many before it do
  pub numbered : (es : List End) (i : ℕ) (e : End) → p e ≡ true → slice_get es i ≡ Some e → slice_get (filter p es) (count_by p (take i es)) ≡ Some e
  numbered [] i e pass there = cc
  numbered (x ∷ es) zero e pass there =
      let own : p x ≡ true = ap p (same_Some x e there) ∙ pass in
      rw own there
  numbered (x ∷ es) (suc i) e pass there = by (p x) refl (numbered es i e pass there)
    where
      by : (b : Bool) → p x ≡ b → slice_get (filter p es) (count_by p (take i es)) ≡ Some e → slice_get (filter p (x ∷ es)) (count_by p (x ∷ take i es)) ≡ Some e
      by true h rest =
          let next : count_by p (x ∷ take i es) ≡ suc (count_by p (take i es)) = count_cons x (take i es) ∙ ap (λ b. cond b 1 0 + count_by p (take i es)) h ∙ omega arith in
          ap (slice_get (filter p (x ∷ es))) next ∙ ap (λ b. slice_get (cond b (x ∷ filter p es) (filter p es)) (suc (count_by p (take i es)))) h ∙ rest
      by false h rest =
          let same : count_by p (x ∷ take i es) ≡ count_by p (take i es) = count_cons x (take i es) ∙ ap (λ b. cond b 1 0 + count_by p (take i es)) h ∙ omega arith in
          ap (slice_get (filter p (x ∷ es))) same ∙ ap (λ b. slice_get (cond b (x ∷ filter p es) (filter p es)) (count_by p (take i es))) h ∙ rest

  -- the element of a number stands somewhere, and as many before it pass
  pub record IsNumber (es : List End) (number : ℕ) (e : End) : Type 0 where
    pub index : ℕ
    pub there : slice_get es index ≡ Some e
    pub passes : p e ≡ true
    pub count : count_by p (take index es) ≡ number

  pub of_number : (es : List End) (number : ℕ) (e : End) → slice_get (filter p es) number ≡ Some e → IsNumber es number e
  of_number [] number e there = cc
  of_number (x ∷ es) number e there = by (p x) refl number there (of_number es)
    where
      by : (b : Bool) → p x ≡ b → (n : ℕ) → slice_get (cond b (x ∷ filter p es) (filter p es)) n ≡ Some e → ((m : ℕ) (y : End) → slice_get (filter p es) m ≡ Some y → IsNumber es m y) → IsNumber (x ∷ es) n e
      by true h zero at rest = record { index = 0; there = at; passes = ap p (sym (same_Some x e at)) ∙ h; count = refl }
      by true h (suc n) at rest =
          let found : IsNumber es n e = rest n e at in
          record {
            index = suc found.index;
            there = found.there;
            passes = found.passes;
            count = count_cons x (take found.index es) ∙ ap (λ b. cond b 1 0 + count_by p (take found.index es)) h ∙ (let c : count_by p (take found.index es) ≡ n = found.count in omega arith);
          }
      by false h n at rest =
          let found : IsNumber es n e = rest n e at in
          record {
            index = suc found.index;
            there = found.there;
            passes = found.passes;
            count = count_cons x (take found.index es) ∙ ap (λ b. cond b 1 0 + count_by p (take found.index es)) h ∙ (let c : count_by p (take found.index es) ≡ n = found.count in omega arith);
          }

-- ---- edges

-- each edge is that of a message
pub edge_by_number : (m : Messages) (edge : Edge) → Contains (edges_in m) edge → IsMessageEdge m edge
edge_by_number m edge has = by (partner m.sends before own) refl had.gives
  where
    had : IsHadAt (edge_of m.sends) [] m.receives edge
    had = had_at (edge_of m.sends) [] m.receives edge has

    own : End
    own = had.end

    before : List End
    before = take had.index m.receives

    by : (p : Option End) → partner m.sends before own ≡ p → option_map (λ (send : End). edge_between send.call own) p ≡ Some edge → IsMessageEdge m edge
    by None at is = cc
    by (Some send) at is = record {
      key = own.key;
      number = count_by (has_key own.key) before;
      send = send;
      receive = own;
      is_send = at;
      is_receive = numbered (has_key own.key) m.receives had.index own (same_key_refl own.key) had.there;
      is_edge = sym (same_Some (edge_between send.call own) edge is);
    }

-- each message has its edge
pub edge_of_number : (m : Messages) (edge : Edge) → IsMessageEdge m edge → Contains (edges_in m) edge
edge_of_number m edge is =
    let found : IsNumber (has_key is.key) m.receives is.number is.receive = of_number (has_key is.key) m.receives is.number is.receive is.is_receive in
    let same : is.receive.key ≡ is.key = same_key_true is.receive.key is.key found.passes in
    let before = take found.index m.receives in
    let matched : partner m.sends before is.receive ≡ Some is.send =
    ap (λ k. slice_get (filter (has_key k) m.sends) (count_by (has_key k) before)) same ∙ ap (slice_get (filter (has_key is.key) m.sends)) found.count ∙ is.is_send in
    has_at (edge_of m.sends) [] m.receives edge found.index is.receive found.there
    (ap (option_map (λ (send : End). edge_between send.call is.receive)) matched ∙ ap Some (sym is.is_edge))

-- ---- faults

-- each fault is that of an end without a match
pub fault_by_number : (reason : MatchReason) (others own : List End) (fault : MatchFault) → Contains (unmatched reason others own) fault → IsUnmatched reason others own fault
fault_by_number reason others own fault has = by (partner others before end) refl had.gives
  where
    had : IsHadAt (fault_of reason others) [] own fault
    had = had_at (fault_of reason others) [] own fault has

    end : End
    end = had.end

    before : List End
    before = take had.index own

    alone : MatchFault
    alone = record { reason = reason; rank = end.rank; line = end.line; other = None }

    by : (p : Option End) → partner others before end ≡ p → option_map_or (λ _. None) p (Some alone) ≡ Some fault → IsUnmatched reason others own fault
    by (Some match) at is = cc
    by None at is = record {
      key = end.key;
      number = count_by (has_key end.key) before;
      end = end;
      is_own = numbered (has_key end.key) own had.index end (same_key_refl end.key) had.there;
      is_alone = at;
      is_fault = sym (same_Some alone fault is);
    }

-- each end without a match has its fault
pub fault_of_number : (reason : MatchReason) (others own : List End) (fault : MatchFault) → IsUnmatched reason others own fault → Contains (unmatched reason others own) fault
fault_of_number reason others own fault is =
    let found : IsNumber (has_key is.key) own is.number is.end = of_number (has_key is.key) own is.number is.end is.is_own in
    let same : is.end.key ≡ is.key = same_key_true is.end.key is.key found.passes in
    let before = take found.index own in
    let alone : MatchFault = record { reason = reason; rank = is.end.rank; line = is.end.line; other = None } in
    let none : partner others before is.end ≡ None =
    ap (λ k. slice_get (filter (has_key k) others) (count_by (has_key k) before)) same ∙ ap (slice_get (filter (has_key is.key) others)) found.count ∙ is.is_alone in
    has_at (fault_of reason others) [] own fault found.index is.end found.there (ap (λ (p : Option End). option_map_or (λ _. None) p (Some alone)) none ∙ ap Some (sym is.is_fault))
