-- What is known of the places of windows.
use Rattle.std.proofs.Common.{◌≡◌, ℕ, zero, suc, List, [], ◌∷◌, set, Option, Some, None, Result, Ok, Err, slice_get, refl, ap, subst, ◌∙◌, sym, arith}
use Rattle.std.specs.Prelude.{All, IfOk, IfSome}
use Rattle.std.proofs.lemmas.Option.{same_Some}
use Rattle.rma_call.specs.declared.assertion.Assertions.{Assertions}
use Rattle.rma_call.specs.declared.what.What.{What}
use Rattle.rma_call.specs.declared.what.What.TheVariants.{Sync}
use Rattle.rma_call.specs.declared.what.SyncCall.TheVariants.{Epoch}
use Rattle.rma_call.specs.declared.epoch.EpochCall.TheVariants.{Post, Start, Complete, Expwait}
use Rattle.rma_exposure.specs.declared.side_epochs.SideEpochs.{SideEpochs}
use Rattle.rma_exposure.specs.declared.rank_epochs.RankEpochs.{RankEpochs}
use Rattle.rma_exposure.specs.Opening.{Opening}
use Rattle.rma_exposure.specs.inside.Places.{IsPlaceOf, IsWindowPlace, ArePlaces, WindowsStay, AllStay}

pub IfOk_map : {T E : Type 0} {P Q : T → Type 0} (r : Result T E) → ((x : T) → P x → Q x) → IfOk r P → IfOk r Q
IfOk_map (Ok x) f p = f x p
IfOk_map (Err e) f p = tt

-- ---- windows stay

pub all_stay : (epochs : RankEpochs) → AllStay epochs epochs
all_stay epochs = record { posts = λ window place at. at; starts = λ window place at. at }

pub posts_stay : (epochs : RankEpochs) (new : SideEpochs) → WindowsStay epochs.posts new → AllStay epochs (record epochs { posts = new })
posts_stay epochs new stay = record { posts = stay; starts = λ window place at. at }

pub starts_stay : (epochs : RankEpochs) (new : SideEpochs) → WindowsStay epochs.starts new → AllStay epochs (record epochs { starts = new })
starts_stay epochs new stay = record { posts = λ window place at. at; starts = stay }

place_stays : (old new : RankEpochs) (what : What) (place : ℕ) → AllStay old new → IsWindowPlace old what place → IsWindowPlace new what place
place_stays old new what place stay at = record {
  posts = λ opening is. stay.posts opening.window place (at.posts opening is);
  waits = λ window is. stay.posts window place (at.waits window is);
  starts = λ opening is. stay.starts opening.window place (at.starts opening is);
  completes = λ window is. stay.starts window place (at.completes window is);
}

-- ---- the window of what calls do

module _ (epochs : RankEpochs) where
  pub of_post : (window group : List ℕ) (assertions : Assertions) (place : ℕ) → IsPlaceOf epochs.posts window place → IsWindowPlace epochs (Sync (Epoch (Post window group assertions))) place
  of_post window group assertions place at = record {
    posts = λ opening is. subst (λ (o : Opening). IsPlaceOf epochs.posts o.window place) (same_Some (record { window = window; group = group }) opening is) at;
    waits = λ other is. absurd (cc);
    starts = λ opening is. absurd (cc);
    completes = λ other is. absurd (cc);
  }

  pub of_start : (window group : List ℕ) (assertions : Assertions) (place : ℕ) → IsPlaceOf epochs.starts window place → IsWindowPlace epochs (Sync (Epoch (Start window group assertions))) place
  of_start window group assertions place at = record {
    posts = λ opening is. absurd (cc);
    waits = λ other is. absurd (cc);
    starts = λ opening is. subst (λ (o : Opening). IsPlaceOf epochs.starts o.window place) (same_Some (record { window = window; group = group }) opening is) at;
    completes = λ other is. absurd (cc);
  }

  pub of_wait : (window : List ℕ) (place : Option ℕ) → IfSome place (IsPlaceOf epochs.posts window) → IfSome place (IsWindowPlace epochs (Sync (Epoch (Expwait window))))
  of_wait window None at = tt
  of_wait window (Some place) at = record {
    posts = λ opening is. absurd (cc);
    waits = λ other is. subst (λ w. IsPlaceOf epochs.posts w place) (same_Some window other is) at;
    starts = λ opening is. absurd (cc);
    completes = λ other is. absurd (cc);
  }

  pub of_complete : (window : List ℕ) (place : Option ℕ) → IfSome place (IsPlaceOf epochs.starts window) → IfSome place (IsWindowPlace epochs (Sync (Epoch (Complete window))))
  of_complete window None at = tt
  of_complete window (Some place) at = record {
    posts = λ opening is. absurd (cc);
    waits = λ other is. absurd (cc);
    starts = λ opening is. absurd (cc);
    completes = λ other is. subst (λ w. IsPlaceOf epochs.starts w place) (same_Some window other is) at;
  }

  pub known_Post : (window group : List ℕ) (assertions : Assertions) (known : Option ℕ) → IfSome known (IsWindowPlace epochs (Sync (Epoch (Post window group assertions)))) → IfSome known (IsPlaceOf epochs.posts window)
  known_Post window group assertions None at = tt
  known_Post window group assertions (Some place) at = at.posts (record { window = window; group = group }) refl

  pub known_Start : (window group : List ℕ) (assertions : Assertions) (known : Option ℕ) → IfSome known (IsWindowPlace epochs (Sync (Epoch (Start window group assertions)))) → IfSome known (IsPlaceOf epochs.starts window)
  known_Start window group assertions None at = tt
  known_Start window group assertions (Some place) at = at.starts (record { window = window; group = group }) refl

  pub known_Expwait : (window : List ℕ) (known : Option ℕ) → IfSome known (IsWindowPlace epochs (Sync (Epoch (Expwait window)))) → IfSome known (IsPlaceOf epochs.posts window)
  known_Expwait window None at = tt
  known_Expwait window (Some place) at = at.waits window refl

  pub known_Complete : (window : List ℕ) (known : Option ℕ) → IfSome known (IsWindowPlace epochs (Sync (Epoch (Complete window)))) → IfSome known (IsPlaceOf epochs.starts window)
  known_Complete window None at = tt
  known_Complete window (Some place) at = at.completes window refl

-- ---- the places by the numbers of what calls do

-- an element of a list in which one is set
set_at : {X : Type 0} (P : Type 0) (xs : List X) (n i : ℕ) (x y : X) → slice_get (set xs n x) i ≡ Some y → (n ≡ i → x ≡ y → P) → (slice_get xs i ≡ Some y → P) → P
set_at P [] n i x y at here there = there at
set_at P (z ∷ zs) zero zero x y at here there = here refl (same_Some x y at)
set_at P (z ∷ zs) zero (suc i) x y at here there = there at
set_at P (z ∷ zs) (suc n) zero x y at here there = there at
set_at P (z ∷ zs) (suc n) (suc i) x y at here there = set_at P zs n i x y at (λ is same. here (ap suc is) same) there

-- with what is known of one number
pub places_set : (old new : RankEpochs) (whats : List What) (places : List (Option ℕ)) (number : ℕ) (what : What) (found : Option ℕ) → AllStay old new → slice_get whats number ≡ Some what → IfSome found (IsWindowPlace new what)
    → ArePlaces old whats places → ArePlaces new whats (set places number found)
places_set old new whats places number what found stay there is are = λ other own place at in_places.
    set_at (IsWindowPlace new own place) places number other found (Some place) in_places
    (λ here same.
    let one : what ≡ own = same_Some what own (sym there ∙ ap (slice_get whats) here ∙ at) in
    subst (λ w. IsWindowPlace new w place) one (subst (λ f. IfSome f (IsWindowPlace new what)) same is))
    (λ before. place_stays old new own place stay (are other own place at before))

-- nothing is known first
pub none_known : (epochs : RankEpochs) (whats : List What) (places : List (Option ℕ)) → All (λ place. place ≡ None) places → ArePlaces epochs whats places
none_known epochs whats places none = λ number what place at in_places. by places number place in_places none
  where
    by : {P : Type 0} (list : List (Option ℕ)) (number place : ℕ) → slice_get list number ≡ Some (Some place) → All (λ place. place ≡ None) list → P
    by [] number place at all = absurd (cc)
    by (x ∷ xs) zero place at all = let is : x ≡ None = all 0 x (omega arith) in absurd (cc)
    by (x ∷ xs) (suc number) place at all = by xs number place at (λ k d lt. all (suc k) d (omega arith))
