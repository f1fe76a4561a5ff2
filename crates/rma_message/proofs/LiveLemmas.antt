-- What is kept of the messages of a run, with one more call of a rank.
use Rattle.std.proofs.Common.{◌≡◌, ℕ, ◌+◌, ◌*◌, Bool, true, false, cond, List, [], ◌∷◌, ◌++◌, length, Option, Some, Result, Ok, Err, Bor, nat_eq, append-nil, refl, sym, ap, subst, ◌∙◌, arith}
use Rattle.std.specs.Prelude.{OnOk, map, filter, unwrap_or}
use Rattle.std.specs.Map.{lookup}
use Rattle.std.proofs.lemmas.Bool.{eqb-true}
use Rattle.std.proofs.lemmas.List.{map-append}
use Rattle.std.proofs.lemmas.List.Elements.{filter-append}
use Rattle.rma_base.specs.declared.rank.Rank.{Rank}
use Rattle.rma_base.specs.declared.line.LineNo.{LineNo}
use Rattle.rma_call.specs.Call.{Call, what_of}
use Rattle.rma_call.specs.declared.what.What.TheVariants.{Sync}
use Rattle.rma_call.specs.declared.what.SyncCall.TheVariants.{Message}
use Rattle.rma_call.specs.declared.what.WhatRef.{WhatRef}
use Rattle.rma_call.specs.declared.what.WhatRef.TheVariants as ref
use Rattle.rma_call.specs.declared.message.MessageCall.{MessageCall}
use Rattle.rma_call.specs.declared.message.MessageCall.TheVariants.{Send, Isend, Recv, Irecv, Wait}
use Rattle.rma_run.specs.Run.{with_calls}
use Rattle.rma_message.specs.declared.key.Key.{Key}
use Rattle.rma_message.specs.declared.end.End.{End}
use Rattle.rma_message.specs.declared.live.LiveMessages.{LiveMessages}
use Rattle.rma_message.specs.Key.{same_key, has_key}
use Rattle.rma_message.specs.RankMessages.{RankMessages, no_messages, with_call, with_what}
use Rattle.rma_message.specs.Source.{messages_at}
use Rattle.rma_message.specs.inside.Live.{AreBefore, IsOfRank, Represents, entries_of, kept_of, kept_sends}
use Rattle.rma_message.proofs.MatchLemmas.{same_key_true}
use Rattle.rma_message.proofs.NumberLemmas.{calls_before}
use Rattle.rma_message.proofs.RunLemmas.{with_calls_push}

-- the messages of a rank with one more call
pub messages_more : (calls : ℕ → List Call) (rank : ℕ) (call : Call) → messages_at (λ _. calls rank ++ call ∷ []) rank ≡ with_call (messages_at calls rank) (length (calls rank)) call
messages_more calls rank call =
    with_calls_push (no_messages (record { 0 = rank })) 0 (calls rank) call
    ∙ ap (λ n. with_call (messages_at calls rank) n call) (let e : 0 + length (calls rank) ≡ length (calls rank) = omega arith in e)

-- the calls of a rank complete its receives
pub receives_before : (calls : ℕ → List Call) (rank number : ℕ) → length (calls rank) ≡ number → AreBefore number (messages_at calls rank).receives
receives_before calls rank number is = subst (λ n. AreBefore n (messages_at calls rank).receives) is (calls_before (record { 0 = rank }) (calls rank))

-- the entries of one more send
pub entries_push : (key : Key) (sends : List End) (e : End) → entries_of key (sends ++ e ∷ []) ≡ entries_of key sends ++ cond (has_key key e) (2 * e.call ∷ []) []
entries_push key sends e =
    ap (map (λ (x : End). 2 * x.call)) (filter-append (has_key key) sends (e ∷ []))
    ∙ map-append (λ (x : End). 2 * x.call) (filter (has_key key) sends) (filter (has_key key) (e ∷ []))
    ∙ ap (λ l. entries_of key sends ++ l) (by (has_key key e))
  where
    by : (b : Bool) → map (λ (x : End). 2 * x.call) (cond b (e ∷ []) []) ≡ cond b (2 * e.call ∷ []) []
    by true = refl
    by false = refl

-- what is put under a key
pub sends_put : (old new : List (Key × List ℕ)) (own : Key) (entries : List ℕ) → ((key : Key) → lookup (same_key key) new ≡ cond (same_key own key) (Some entries) (lookup (same_key key) old)) → (key : Key) →
    kept_sends new key ≡ cond (same_key own key) entries (kept_sends old key)
sends_put old new own entries step key = ap (λ o. unwrap_or o []) (step key) ∙ by (same_key own key)
  where
    by : (b : Bool) → unwrap_or (cond b (Some entries) (lookup (same_key key) old)) [] ≡ cond b entries (kept_sends old key)
    by true = refl
    by false = refl

module _ (calls : ℕ → List Call) (rank : ℕ) (call : Call) (old new : LiveMessages) (are : Represents calls old) where
  -- the messages of the rank with the call
  abbrev pub own : RankMessages
  own = with_call (messages_at calls rank) (length (calls rank)) call

  -- the calls with it
  abbrev pub later : ℕ → List Call
  later = with_calls calls rank (call ∷ [])

  at_rank : (other : ℕ) → nat_eq rank other ≡ true → messages_at later other ≡ own
  at_rank other h =
      let same : rank ≡ other = eqb-true rank other h in
      ap (λ b. messages_at (λ _. cond b (calls other ++ call ∷ []) (calls other)) other) h ∙ subst (λ r. messages_at (λ _. calls r ++ call ∷ []) r ≡ own) same (messages_more calls rank call)

  elsewhere : (other : ℕ) → nat_eq rank other ≡ false → messages_at later other ≡ messages_at calls other
  elsewhere other h = ap (λ b. messages_at (λ _. cond b (calls other ++ call ∷ []) (calls other)) other) h

  -- what is kept, where the sends and the receives of the rank alone change
  pub represents_more : ((key : Key) → nat_eq rank key.from.0 ≡ true → kept_sends new.sends.entries key ≡ entries_of key own.sends)
      → ((key : Key) → nat_eq rank key.from.0 ≡ false → kept_sends new.sends.entries key ≡ kept_sends old.sends.entries key)
      → IsOfRank rank own.receives (kept_of new.receives.entries rank)
      → ((other : ℕ) → nat_eq rank other ≡ false → kept_of new.receives.entries other ≡ kept_of old.receives.entries other)
      → Represents later new
  represents_more sends other_sends receives other_receives = record {
    sends_are = λ key. sends_by key (nat_eq rank key.from.0) refl;
    receives_are = λ other. receives_by other (nat_eq rank other) refl;
  }
    where
      sends_by : (key : Key) (b : Bool) → nat_eq rank key.from.0 ≡ b → kept_sends new.sends.entries key ≡ entries_of key (messages_at later key.from.0).sends
      sends_by key true h = sends key h ∙ ap (λ (m : RankMessages). entries_of key m.sends) (sym (at_rank key.from.0 h))
      sends_by key false h = other_sends key h ∙ are.sends_are key ∙ ap (λ (m : RankMessages). entries_of key m.sends) (sym (elsewhere key.from.0 h))

      receives_by : (other : ℕ) (b : Bool) → nat_eq rank other ≡ b → IsOfRank other (messages_at later other).receives (kept_of new.receives.entries other)
      receives_by other true h =
          subst (λ (m : RankMessages). IsOfRank other m.receives (kept_of new.receives.entries other)) (sym (at_rank other h))
          (subst (λ r. IsOfRank r own.receives (kept_of new.receives.entries r)) (eqb-true rank other h) receives)
      receives_by other false h =
          subst (λ (m : RankMessages). IsOfRank other m.receives (kept_of new.receives.entries other)) (sym (elsewhere other h))
          (subst (IsOfRank other (messages_at calls other).receives) (sym (other_receives other h)) (are.receives_are other))

  -- a call that changes no message
  pub represents_same : own ≡ messages_at calls rank → Represents later old
  represents_same same = record {
    sends_are = λ key. are.sends_are key ∙ ap (λ (m : RankMessages). entries_of key m.sends) (sym (kept key.from.0 (nat_eq rank key.from.0) refl));
    receives_are = λ other. subst (λ (m : RankMessages). IsOfRank other m.receives (kept_of old.receives.entries other)) (sym (kept other (nat_eq rank other) refl)) (are.receives_are other);
  }
    where
      kept : (other : ℕ) (b : Bool) → nat_eq rank other ≡ b → messages_at later other ≡ messages_at calls other
      kept other true h = at_rank other h ∙ same ∙ ap (messages_at calls) (eqb-true rank other h)
      kept other false h = elsewhere other h

  -- a send
  pub represents_sent : (e : End) → own ≡ record (messages_at calls rank) { sends = (messages_at calls rank).sends ++ e ∷ [] } → e.key.from.0 ≡ rank
      → ((other : Key) → kept_sends new.sends.entries other ≡ cond (same_key e.key other) (kept_sends old.sends.entries e.key ++ 2 * e.call ∷ []) (kept_sends old.sends.entries other))
      → new.receives.entries ≡ old.receives.entries
      → Represents later new
  represents_sent e is from step same = represents_more sends other_sends receives (λ other h. ap (λ es. kept_of es other) same)
    where
      sends : (key : Key) → nat_eq rank key.from.0 ≡ true → kept_sends new.sends.entries key ≡ entries_of key own.sends
      sends key h =
          step key
          ∙ by (same_key e.key key) refl
          ∙ sym (entries_push key (messages_at calls rank).sends e)
          ∙ ap (λ (m : RankMessages). entries_of key m.sends) (sym is)
        where
          there : rank ≡ key.from.0
          there = eqb-true rank key.from.0 h

          before : kept_sends old.sends.entries key ≡ entries_of key (messages_at calls rank).sends
          before = are.sends_are key ∙ ap (λ r. entries_of key (messages_at calls r).sends) (sym there)

          by : (b : Bool) → same_key e.key key ≡ b → cond b (kept_sends old.sends.entries e.key ++ 2 * e.call ∷ []) (kept_sends old.sends.entries key)
              ≡ entries_of key (messages_at calls rank).sends ++ cond (has_key key e) (2 * e.call ∷ []) []
          by true has =
              ap (λ k. kept_sends old.sends.entries k ++ 2 * e.call ∷ []) (same_key_true e.key key has)
              ∙ ap (λ l. l ++ 2 * e.call ∷ []) before
              ∙ ap (λ b. entries_of key (messages_at calls rank).sends ++ cond b (2 * e.call ∷ []) []) (sym has)
          by false has =
              before
              ∙ sym (append-nil (entries_of key (messages_at calls rank).sends))
              ∙ ap (λ b. entries_of key (messages_at calls rank).sends ++ cond b (2 * e.call ∷ []) []) (sym has)

      other_sends : (key : Key) → nat_eq rank key.from.0 ≡ false → kept_sends new.sends.entries key ≡ kept_sends old.sends.entries key
      other_sends key h =
          let apart : same_key e.key key ≡ false = rw (from, h) refl in
          step key ∙ rw apart refl

      receives : IsOfRank rank own.receives (kept_of new.receives.entries rank)
      receives =
          subst (λ (m : RankMessages). IsOfRank rank m.receives (kept_of new.receives.entries rank)) (sym is)
          (subst (λ es. IsOfRank rank (messages_at calls rank).receives (kept_of es rank)) (sym same) (are.receives_are rank))

  -- a call of the receives
  pub represents_received : own.sends ≡ (messages_at calls rank).sends → new.sends.entries ≡ old.sends.entries → IsOfRank rank own.receives (kept_of new.receives.entries rank)
      → ((other : ℕ) → nat_eq rank other ≡ false → kept_of new.receives.entries other ≡ kept_of old.receives.entries other) → Represents later new
  represents_received same_sends same receives others =
      represents_more
      (λ key h.
      ap (λ es. kept_sends es key) same
      ∙ are.sends_are key
      ∙ ap (λ r. entries_of key (messages_at calls r).sends) (sym (eqb-true rank key.from.0 h))
      ∙ ap (entries_of key) (sym same_sends))
      (λ key h. ap (λ es. kept_sends es key) same)
      receives others

-- ---- what calls do

-- a call that does something else changes no message
pub no_message : (m : RankMessages) (number : ℕ) (line : LineNo) (request : Option ℕ) (what : WhatRef) → ((call : Bor MessageCall) → what ≡ ref.Message call → ⊥) → with_what m number line request (what_of what) ≡ m
no_message m number line request (ref.Frame call) other = refl
no_message m number line request (ref.Message call) other = absurd (other call refl)
no_message m number line request (ref.Window call) other = refl
no_message m number line request (ref.Epoch call) other = refl
no_message m number line request (ref.Moving call) other = refl
no_message m number line request (ref.Rma call) other = refl
no_message m number line request (ref.Local call) other = refl

-- a call that sends nothing changes no send
pub no_send : (m : RankMessages) (number : ℕ) (line : LineNo) (request : Option ℕ) (message : MessageCall) → ((to : Rank) (tag : ℕ) (comm : List ℕ) → message ≡ Send to tag comm → ⊥)
    → ((to : Rank) (tag : ℕ) (comm : List ℕ) → message ≡ Isend to tag comm → ⊥) → (with_what m number line request (Sync (Message message))).sends ≡ m.sends
no_send m number line request (Send to tag comm) send isend = absurd (send to tag comm refl)
no_send m number line request (Isend to tag comm) send isend = absurd (isend to tag comm refl)
no_send m number line request (Recv from tag comm) send isend = refl
no_send m number line request (Irecv comm) send isend = refl
no_send m number line request (Wait received) send isend = refl

-- what follows from what two clauses say of a call that ends well
pub OnOk_both : {T E P Q R : Type 0} (r : Result T E) → (P → Q → R) → OnOk r P → OnOk r Q → OnOk r R
OnOk_both (Ok x) step one two = step one two
OnOk_both (Err e) step one two = tt
