-- The receives of a rank in the order in which they are posted.
use Rattle.std.proofs.Common.{◌≡◌, ◌<◌, ℕ, zero, suc, ◌+◌, Bool, true, false, cond, List, [], ◌∷◌, ◌++◌, length, length-set, take, set, slice_get, nat_eq, eqb, Option, Some, None, refl, sym, ap, subst, ◌∙◌, arith}
use Rattle.std.specs.Prelude.{IfSome}
use Rattle.std.specs.Option.{option_map_or, option_and_then}
use Rattle.std.proofs.lemmas.Bool.{false≢true, eqb-true, eq-eqb}
use Rattle.std.proofs.lemmas.List.{length_push}
use Rattle.std.proofs.lemmas.Option.{same_Some, slice_get_within, get_or_from_slice_get}
use Rattle.rma_base.specs.Limits.{fed_limit}
use Rattle.rma_base.specs.declared.line.LineNo.{LineNo}
use Rattle.rma_base.specs.declared.rank.Rank.{Rank}
use Rattle.rma_call.specs.Call.{Call}
use Rattle.rma_call.specs.declared.what.What.{What}
use Rattle.rma_call.specs.declared.what.What.TheVariants.{Sync}
use Rattle.rma_call.specs.declared.what.SyncCall.TheVariants.{Message}
use Rattle.rma_call.specs.declared.message.Received.{Received}
use Rattle.rma_call.specs.declared.message.MessageCall.TheVariants.{Recv, Irecv, Wait}
use Rattle.rma_message.specs.declared.key.Key.{Key}
use Rattle.rma_message.specs.declared.end.End.{End}
use Rattle.rma_message.specs.declared.receive.Receive.{Receive}
use Rattle.rma_message.specs.declared.receive.Completion.{Completion}
use Rattle.rma_message.specs.declared.posted.Posted.{Posted}
use Rattle.rma_message.specs.declared.posted.Posted.TheVariants.{Open, Done}
use Rattle.rma_message.specs.declared.posted.Known.{Known}
use Rattle.rma_message.specs.declared.posted.Step.{Step}
use Rattle.rma_message.specs.declared.posted.Step.TheVariants as step
use Rattle.rma_message.specs.declared.posted.PostedReceives.{PostedReceives}
use Rattle.rma_message.specs.Receive.{complete_at, open_at, posted, waited}
use Rattle.rma_message.specs.RankMessages.{RankMessages, no_messages, with_call, with_calls, with_what}
use Rattle.rma_message.specs.inside.Matched.{AreKept, AreKnown, ArePosted, AreSteps, IsDone, IsOpen, IsPlaceFor, IsPosted, IsReceived, IsStep, index_at, own_end}
use Rattle.rma_message.proofs.ListLemmas.{at_push, get_before, in_push, in_set, set_other, set_own, some_at}
use Rattle.rma_message.proofs.NumberLemmas.{calls_whole}
use Rattle.rma_message.proofs.ReceiveLemmas.{complete_is_set, open_at_within, open_completed, open_other, open_own}
use Rattle.rma_message.proofs.RunLemmas.{with_next_call}

-- what holds of a value that is there
pub if_some : {X : Type 0} (P : X → Type 0) (o : Option X) (x : X) → o ≡ Some x → IfSome o P → P x
if_some P o x is holds = subst (λ v. IfSome v P) is holds

-- an index stands at one of the places
pub index_within : (xs : List (Option ℕ)) (place index : ℕ) → index_at xs place ≡ Some index → place < length xs
index_within [] place index at = absurd (cc)
index_within (x ∷ xs) zero index at = omega arith
index_within (x ∷ xs) (suc place) index at = let within = index_within xs place index at in omega arith

-- a place without an index more
pub index_push : (xs : List (Option ℕ)) (place : ℕ) → index_at (xs ++ None ∷ []) place ≡ index_at xs place
index_push [] zero = refl
index_push [] (suc place) = refl
index_push (x ∷ xs) zero = refl
index_push (x ∷ xs) (suc place) = index_push xs place

-- an index that is put at a place
pub index_put : (xs : List (Option ℕ)) (place : ℕ) (index : Option ℕ) (other : ℕ) → place < length xs → index_at (set xs place index) other ≡ cond (nat_eq place other) index (index_at xs other)
index_put xs place index other lt = by (eqb place other) refl
  where
    by : (b : Bool) → eqb place other ≡ b → index_at (set xs place index) other ≡ cond b index (index_at xs other)
    by true same =
        let one = some_at xs place lt in
        subst (λ n. index_at (set xs place index) n ≡ index) (eqb-true place other same) (ap (option_and_then (λ (i : Option ℕ). i)) (set_own xs place index one.0 one.1))
    by false differ = ap (option_and_then (λ (i : Option ℕ). i)) (set_other xs place index other (λ same. absurd (false≢true (sym differ ∙ eq-eqb place other (sym same)))))

module _ (rank : Rank) (keys : List Key) (whats : List What) where
  -- one more receive
  posted_more : (rs : List Receive) (ps : List Posted) (r : Receive) (p : Posted) → ArePosted rank keys whats rs ps → IsPosted rank keys whats p r → ArePosted rank keys whats (rs ++ r ∷ []) (ps ++ p ∷ [])
  posted_more rs ps r p are is = record {
    len = (let own = length_push ps p in let longer = length_push rs r in let same = are.len in omega arith);
    each = λ index own receive at there.
        in_push (IsPosted rank keys whats own receive) ps p own index at
        (λ before.
        let lt : index < length rs = (let within = slice_get_within ps index own before in let same = are.len in omega arith) in
        are.each index own receive before (sym (get_before rs (r ∷ []) index lt) ∙ there))
        (λ last same.
        let other : r ≡ receive = same_Some r receive (sym (at_push rs r index (last ∙ are.len)) ∙ there) in
        subst (λ x. IsPosted rank keys whats own x) other (subst (λ x. IsPosted rank keys whats x r) same is));
  }

  -- a receive that is complete now
  posted_done : (rs : List Receive) (ps : List Posted) (index : ℕ) (r : Receive) (completion : Completion) (p : Posted) → ArePosted rank keys whats rs ps → slice_get rs index ≡ Some r
      → IsPosted rank keys whats p (record r { completion = Some completion }) → ArePosted rank keys whats (complete_at index completion rs) (set ps index p)
  posted_done rs ps index r completion p are at_r is =
      let done : Receive = record r { completion = Some completion } in
      subst (λ xs. ArePosted rank keys whats xs (set ps index p))
      (complete_is_set index completion rs r (slice_get_within rs index r at_r) (sym (get_or_from_slice_get rs index r r at_r)))
      (record {
        len = length-set ps index p ∙ are.len ∙ sym (length-set rs index done);
        each = λ i own receive at there.
            in_set (IsPosted rank keys whats own receive) ps index p own i at
            (λ differ before. are.each i own receive before (sym (set_other rs index done i differ) ∙ there))
            (λ here same.
            let other : done ≡ receive = same_Some done receive (sym (set_own rs index done r at_r) ∙ ap (slice_get (set rs index done)) (sym here) ∙ there) in
            subst (λ x. IsPosted rank keys whats own x) other (subst (λ x. IsPosted rank keys whats x done) same is));
      })

  -- ---- what is kept

  module _ (rs : List Receive) (old new : PostedReceives) (are : AreKept rank keys whats rs old) where
    kept_more : (r : Receive) (p : Posted) → IsPosted rank keys whats p r → new.receives.items ≡ old.receives.items ++ p ∷ [] → ((q : ℕ) → index_at new.pending.items q ≡ open_at q (rs ++ r ∷ []))
        → new.known.items ≡ old.known.items → AreKept rank keys whats (rs ++ r ∷ []) new
    kept_more r p is items open_are known = record {
      posted = subst (ArePosted rank keys whats (rs ++ r ∷ [])) (sym items) (posted_more rs old.receives.items r p are.posted is);
      open_are = open_are;
      known_are = subst (AreKnown rank keys whats) (sym known) are.known_are;
    }

    -- a receive that is complete at once
    pub kept_received : (r : Receive) (key : Key) (place number : ℕ) (from : Rank) (line : LineNo) → slice_get keys place ≡ Some key → key.from ≡ from → number < fed_limit → IsReceived rank key number line r
        → new.receives.items ≡ old.receives.items ++ Done place from number ∷ [] → new.pending.items ≡ old.pending.items → new.known.items ≡ old.known.items
        → AreKept rank keys whats (rs ++ r ∷ []) new
    kept_received r key place number from line at source below received items pending known =
        kept_more r (Done place from number)
        (record { end = own_end rank key number line; is_end = received.is_end; is_place = at; is_from = source; is_rank = refl; is_call = refl; below = below })
        items (λ q. ap (λ xs. index_at xs q) pending ∙ open_other rs r (index_at old.pending.items) are.open_are received.no_request q) known

    -- a receive that is posted
    pub kept_posted : (comm : List ℕ) (line : LineNo) (what : ℕ) → slice_get whats what ≡ Some (Sync (Message (Irecv comm)))
        → new.receives.items ≡ old.receives.items ++ Open what ∷ [] → new.pending.items ≡ old.pending.items → new.known.items ≡ old.known.items
        → AreKept rank keys whats (rs ++ posted comm line None None ∷ []) new
    kept_posted comm line what at items pending known =
        kept_more (posted comm line None None) (Open what) (record { is_incomplete = refl; is_posted = at }) items
        (λ q. ap (λ xs. index_at xs q) pending ∙ open_other rs (posted comm line None None) (index_at old.pending.items) are.open_are refl q) known

    pub kept_requested : (comm : List ℕ) (line : LineNo) (what request index : ℕ) → slice_get whats what ≡ Some (Sync (Message (Irecv comm)))
        → index ≡ length old.receives.items → new.receives.items ≡ old.receives.items ++ Open what ∷ []
        → ((q : ℕ) → index_at new.pending.items q ≡ cond (nat_eq request q) (Some index) (index_at old.pending.items q)) → new.known.items ≡ old.known.items
        → AreKept rank keys whats (rs ++ posted comm line (Some request) None ∷ []) new
    kept_requested comm line what request index at last items pending known =
        kept_more (posted comm line (Some request) None) (Open what) (record { is_incomplete = refl; is_posted = at }) items
        (open_own request rs (posted comm line (Some request) None) (index_at old.pending.items) (index_at new.pending.items) are.open_are refl refl
        (λ q. pending q ∙ ap (λ n. cond (nat_eq request q) (Some n) (index_at old.pending.items q)) (last ∙ are.posted.len)))
        known

    module _ (request : ℕ) (received : Received) (number : ℕ) where
      abbrev completion : Completion
      completion = record { from = received.from; tag = received.tag; call = number }

      -- the receive that waits
      module _ (index post : ℕ) (found : index_at old.pending.items request ≡ Some index) (at : slice_get old.receives.items index ≡ Some (Open post)) where
        opened : open_at request rs ≡ Some index
        opened = sym (are.open_are request) ∙ found

        abbrev one : (r : Receive) × (slice_get rs index ≡ Some r)
        one = some_at rs index (open_at_within request index rs opened)

        is_open : IsOpen whats post one.0
        is_open = are.posted.each index (Open post) one.0 at one.1

        -- its call does what has a number
        pub post_within : post < length whats
        post_within = slice_get_within whats post (Sync (Message (Irecv one.0.comm))) is_open.is_posted

        pub kept_waited : (place : ℕ) → IsPlaceFor rank keys whats post received place → number < fed_limit → new.receives.items ≡ set old.receives.items index (Done place received.from number)
            → ((q : ℕ) → index_at new.pending.items q ≡ cond (nat_eq request q) None (index_at old.pending.items q)) → AreKnown rank keys whats new.known.items
            → AreKept rank keys whats (waited (Some request) (Some received) number rs) new
        kept_waited place is_place below items pending known =
            let r = one.0 in
            let own : End = own_end rank (record { from = received.from; to = rank; comm = r.comm; tag = received.tag }) number r.line in
            let done : IsDone rank keys place received.from number (record r { completion = Some completion }) =
            record { end = own; is_end = refl; is_place = is_place r.comm is_open.is_posted; is_from = refl; is_rank = refl; is_call = refl; below = below } in
            let same : waited (Some request) (Some received) number rs ≡ complete_at index completion rs = ap (λ o. option_map_or (λ i. complete_at i completion rs) o rs) opened in
            subst (λ xs. AreKept rank keys whats xs new) (sym same)
            (record {
              posted = subst (ArePosted rank keys whats (complete_at index completion rs)) (sym items) (posted_done rs old.receives.items index r completion (Done place received.from number) are.posted one.1 done);
              open_are = open_completed request index completion rs (index_at old.pending.items) (index_at new.pending.items) are.open_are found pending;
              known_are = known;
            })

  -- what is known of one more
  pub known_more : (known : List (Option Known)) (wait : ℕ) (own : Known) (received : Received) → AreKnown rank keys whats known → slice_get whats wait ≡ Some (Sync (Message (Wait (Some received))))
      → IsPlaceFor rank keys whats own.post received own.place → AreKnown rank keys whats (set known wait (Some own))
  known_more known wait own received are at is w other got there what =
      in_set (IsPlaceFor rank keys whats other.post got other.place) known wait (Some own) (Some other) w there
      (λ differ before. are w other got before what)
      (λ here same.
      let one : own ≡ other = same_Some own other same in
      let two : received ≡ got = (let wrong = sym at ∙ ap (slice_get whats) (sym here) ∙ what in cc) in
      subst (λ (k : Known). IsPlaceFor rank keys whats k.post got k.place) one (subst (λ x. IsPlaceFor rank keys whats own.post x own.place) two is))

  -- the steps with one more
  pub AreSteps_more : (steps : List Step) (what : What) (step : Step) → slice_get whats (length steps) ≡ Some what → IsStep rank keys what step → AreSteps rank keys whats steps → AreSteps rank keys whats (steps ++ step ∷ [])
  AreSteps_more steps what step there is are number other found at in_steps =
      in_push (IsStep rank keys other found) steps step found number in_steps
      (λ before. are number other found at before)
      (λ last same. let one : what ≡ other = (let here = ap (slice_get whats) last in cc) in subst (λ s. IsStep rank keys other s) same (subst (λ w. IsStep rank keys w step) one is))

module _ (rank : Rank) (keys : List Key) (whats : List What) (sends : List End) (rs : List Receive) (i : ℕ) (call : Call) where
  abbrev before : RankMessages
  before = record { rank = rank; sends = sends; receives = rs }

  -- the call posts a receive
  pub receives_posted : (comm : List ℕ) → call.what ≡ Sync (Message (Irecv comm)) → (with_call before i call).receives ≡ rs ++ posted comm call.line call.request None ∷ []
  receives_posted comm is = ap (λ w. (with_what before i call.line call.request w).receives) is

  -- the call completes a receive
  pub receives_waited : (received : Received) → call.what ≡ Sync (Message (Wait (Some received))) → (with_call before i call).receives ≡ waited call.request (Some received) i rs
  receives_waited received is = ap (λ w. (with_what before i call.line call.request w).receives) is

-- one more call
pub receives_more : (rank : Rank) (calls : List Call) (i : ℕ) (call : Call) → slice_get calls i ≡ Some call →
    (with_call (record { rank = rank; sends = (with_calls (no_messages rank) 0 (take i calls)).sends; receives = (with_calls (no_messages rank) 0 (take i calls)).receives }) i call).receives
    ≡ (with_calls (no_messages rank) 0 (take (i + 1) calls)).receives
receives_more rank calls i call there =
    ap (λ (m : RankMessages). (with_call m i call).receives) (sym (calls_whole rank (take i calls))) ∙ ap (λ (m : RankMessages). m.receives) (with_next_call (no_messages rank) calls i call there)

module _ (rank : Rank) (keys : List Key) where
  -- no receives
  pub none_posted : ArePosted rank keys [] [] []
  none_posted = record { len = refl; each = λ index own receive at there. absurd (cc) }

  -- the step of receives that are complete at once
  pub received_at : (what : What) (from : Rank) (tag : ℕ) (comm : List ℕ) (place : ℕ) → what ≡ Sync (Message (Recv from tag comm))
      → slice_get keys place ≡ Some (record { from = from; to = rank; comm = comm; tag = tag }) → IsStep rank keys what (step.Receive place from)
  received_at what from tag comm place is at =
      subst (λ w. IsStep rank keys w (step.Receive place from)) (sym is) (
        record { from = from; to = rank; comm = comm; tag = tag },
        at,
        refl,
        λ sends receives number line request. (posted comm line None (Some (record { from = from; tag = tag; call = number })), refl, record { no_request = refl; is_end = refl }),
      )
