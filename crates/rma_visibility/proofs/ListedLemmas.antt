-- One more call in the lists.
use Rattle.std.proofs.Common.{◌≡◌, ◌≢◌, ◌<◌, ℕ, ◌+◌, ◌==◌, List, [], ◌∷◌, ◌++◌, length, All, Bool, true, false, Option, Some, None, refl, sym, ap, subst, ◌∙◌, arith, append-nil, if◌then◌else◌}
use Rattle.std.proofs.lemmas.Bool.Decides.{nat_tests}
use Rattle.std.proofs.lemmas.List.Elements.{All-nil, All-cons, All-append, All-weaker}
use Rattle.rma_base.specs.declared.rank.Rank.{Rank}
use Rattle.rma_call.specs.Call.{Call}
use Rattle.rma_run.specs.Run.{by_number}
use Rattle.rma_run.proofs.WalkLemmas.{by_number_push}
use Rattle.rma_window.specs.declared.window_id.WindowId.{WindowId}
use Rattle.rma_window.specs.Windows.{Window}
use Rattle.rma_rules.specs.declared.span.Owner.{Owner}
use Rattle.rma_rules.specs.Spans.{Spans, calls_under, with_call}
use Rattle.rma_rules.proofs.ListLemmas.{added_elsewhere, added_there}
use Rattle.rma_visibility.specs.Visibility.{AreListed, AreOthersSame, is_window, listed, makes_visible, number_at, publishes, publishing_calls, visible_calls, where_so}
use Rattle.rma_visibility.specs.inside.Listed.{with_both, with_some}

-- ---- the numbers of calls

-- numbers that are listed of calls are below that of the next call
module _ (window : WindowId) (own : Call → Option WindowId) where
  one_below : (n m : ℕ) → n < m → (b : Bool) → All (λ k. k < m) (if b then n ∷ [] else [])
  one_below n m lt true = All-cons (λ k. k < m) n [] lt (All-nil (λ k. k < m))
  one_below n m lt false = All-nil (λ k. k < m)

  below : (n : ℕ) (calls : List Call) → All (λ k. k < n + length calls) (by_number (λ number call. listed window (own call) number) n calls)
  below n [] = All-nil (λ k. k < n + 0)
  below n (call ∷ calls) =
      let m = n + length (call ∷ calls) in
      All-append (λ k. k < m) (listed window (own call) n) (by_number (λ number c. listed window (own c) number) (n + 1) calls)
      (one_below n m (omega arith) (is_window window (own call)))
      (All-weaker (λ k. k < n + 1 + length calls) (λ k. k < m) (λ k lt. omega arith) (by_number (λ number c. listed window (own c) number) (n + 1) calls) (below (n + 1) calls))

-- those that are listed of one call more
pub publishing_more : (windows : List Window) (calls : List Call) (call : Call) (number : ℕ) (window : WindowId) → number ≡ length calls
    → publishing_calls windows calls window ++ listed window (where_so (publishes call.what) (number_at windows call.what)) number ≡ publishing_calls windows (calls ++ call ∷ []) window
publishing_more windows calls call number window e =
    let own : ℕ → Call → List ℕ = λ n c. listed window (where_so (publishes c.what) (number_at windows c.what)) n in
    ap (λ k. by_number own 0 calls ++ own k call) (let f : number ≡ 0 + length calls = omega arith in f) ∙ sym (by_number_push own 0 calls call)

pub visible_more : (windows : List Window) (calls : List Call) (call : Call) (number : ℕ) (window : WindowId) → number ≡ length calls
    → visible_calls windows calls window ++ listed window (where_so (makes_visible call.what) (number_at windows call.what)) number ≡ visible_calls windows (calls ++ call ∷ []) window
visible_more windows calls call number window e =
    let own : ℕ → Call → List ℕ = λ n c. listed window (where_so (makes_visible c.what) (number_at windows c.what)) n in
    ap (λ k. by_number own 0 calls ++ own k call) (let f : number ≡ 0 + length calls = omega arith in f) ∙ sym (by_number_push own 0 calls call)

pub publishing_below : (windows : List Window) (calls : List Call) (window : WindowId) → All (λ k. k < length calls) (publishing_calls windows calls window)
publishing_below windows calls window =
    All-weaker (λ k. k < 0 + length calls) (λ k. k < length calls) (λ k lt. omega arith) (publishing_calls windows calls window) (below window (λ call. where_so (publishes call.what) (number_at windows call.what)) 0 calls)

pub visible_below : (windows : List Window) (calls : List Call) (window : WindowId) → All (λ k. k < length calls) (visible_calls windows calls window)
visible_below windows calls window =
    All-weaker (λ k. k < 0 + length calls) (λ k. k < length calls) (λ k lt. omega arith) (visible_calls windows calls window) (below window (λ call. where_so (makes_visible call.what) (number_at windows call.what)) 0 calls)

-- ---- the lists

-- under its own rank a call stands last, where it concerns the window
pub more_there : (rank : Rank) (window : WindowId) (own : Option WindowId) (call : ℕ) (lists : List (Owner × List ℕ))
    → calls_under (with_some lists rank own call) rank window ≡ calls_under lists rank window ++ listed window own call
more_there rank window None call lists = sym (append-nil (calls_under lists rank window))
more_there rank window (Some own) call lists = by (own.0 == window.0) refl
  where
    by : (b : Bool) → (own.0 == window.0) ≡ b → calls_under (with_call lists rank own call) rank window ≡ calls_under lists rank window ++ (if own.0 == window.0 then call ∷ [] else [])
    by true h =
        let same : own.0 ≡ window.0 = grind (arith, nat_tests) in
        let one : own ≡ window = ap (λ n. let w : WindowId = record { 0 = n } in w) same in
        rw h (subst (λ w. calls_under (with_call lists rank w call) rank window ≡ calls_under lists rank window ++ call ∷ []) (sym one) (added_there rank window call lists))
    by false h =
        let apart : (rank ≡ rank) × (own ≡ window) → ⊥ = λ both. (let same : own.0 ≡ window.0 = ap (λ (w : WindowId). w.0) both.1 in grind (arith, nat_tests)) in
        rw h (added_elsewhere rank rank own window apart call lists ∙ sym (append-nil (calls_under lists rank window)))

-- under another rank nothing changes
pub same_elsewhere : (rank other : Rank) (window : WindowId) (own : Option WindowId) (call : ℕ) (lists : List (Owner × List ℕ)) → other ≢ rank
    → calls_under (with_some lists rank own call) other window ≡ calls_under lists other window
same_elsewhere rank other window None call lists apart = refl
same_elsewhere rank other window (Some own) call lists apart = added_elsewhere rank other own window (λ both. apart (sym both.0)) call lists

pub listed_more : (windows : List Window) (rank : Rank) (calls : List Call) (call : Call) (number : ℕ) (spans : Spans) → number ≡ length calls → AreListed windows rank calls spans
    → AreListed windows rank (calls ++ call ∷ []) (with_both spans rank (where_so (publishes call.what) (number_at windows call.what)) (where_so (makes_visible call.what) (number_at windows call.what)) number)
listed_more windows rank calls call number spans e own =
    let window_of = number_at windows call.what in
    record {
      publishing = λ window. more_there rank window (where_so (publishes call.what) window_of) number spans.publishing
          ∙ ap (λ l. l ++ listed window (where_so (publishes call.what) window_of) number) (own.publishing window)
          ∙ publishing_more windows calls call number window e;
      visible = λ window. more_there rank window (where_so (makes_visible call.what) window_of) number spans.visible
          ∙ ap (λ l. l ++ listed window (where_so (makes_visible call.what) window_of) number) (own.visible window)
          ∙ visible_more windows calls call number window e;
    }

pub others_same : (rank : Rank) (published shown : Option WindowId) (number : ℕ) (spans : Spans) → AreOthersSame rank spans (with_both spans rank published shown number)
others_same rank published shown number spans =
    record {
      publishing = λ other window apart. same_elsewhere rank other window published number spans.publishing apart;
      visible = λ other window apart. same_elsewhere rank other window shown number spans.visible apart;
      exposures = refl;
      locks = refl;
      posts = refl;
    }

pub same_again : (rank : Rank) (first next last : Spans) → AreOthersSame rank first next → AreOthersSame rank next last → AreOthersSame rank first last
same_again rank first next last h k =
    record {
      publishing = λ other window apart. k.publishing other window apart ∙ h.publishing other window apart;
      visible = λ other window apart. k.visible other window apart ∙ h.visible other window apart;
      exposures = k.exposures ∙ h.exposures;
      locks = k.locks ∙ h.locks;
      posts = k.posts ∙ h.posts;
    }

pub same_at_first : (rank : Rank) (spans : Spans) → AreOthersSame rank spans spans
same_at_first rank spans =
    record { publishing = λ other window apart. refl; visible = λ other window apart. refl; exposures = refl; locks = refl; posts = refl }

pub ended : (rank : Rank) (first next last : Spans) (published shown : Option WindowId) (number : ℕ)
    → next ≡ record first { publishing = with_some first.publishing rank published number }
    → last ≡ record next { visible = with_some next.visible rank shown number }
    → last ≡ with_both first rank published shown number
ended rank first next last published shown number e f =
    f ∙ ap (λ (s : Spans). let t : Spans = record s { visible = with_some s.visible rank shown number } in t) e
