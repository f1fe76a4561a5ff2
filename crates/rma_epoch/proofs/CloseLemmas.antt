-- How the epochs of a rank are closed.
use Rattle.std.proofs.Common.{◌≡◌, ℕ, suc, ◌+◌, ◌<◌, Bool, true, false, cond, ◌∷◌, ◌++◌, List, [], length, length-append, length-take, take, eqb-true, nat_lt, Option, Some, None, slice_get, refl, sym, ap, ◌∙◌, arith, append_assoc}
use Rattle.std.specs.Option.{option_or}
use Rattle.std.proofs.lemmas.Bool.{false≢true}
use Rattle.std.proofs.lemmas.Bool.Decides.{nat_tests}
use Rattle.std.proofs.lemmas.List.{append-nil}
use Rattle.std.proofs.lemmas.Option.{none-some}
use Rattle.rma_call.specs.Call.{Call}
use Rattle.rma_window.specs.Windows.{Window}
use Rattle.rma_epoch.specs.declared.epoch.Epoch.{Epoch}
use Rattle.rma_epoch.specs.Table.{close_from, close_of, closed_at, epoch_with, epochs_of, is_opener, opened_from}
use Rattle.rma_epoch.specs.Laws.{CloseComesLater, ClosesOne}
use Rattle.rma_epoch.proofs.TableLemmas.{closed_below, epochs_ascend, mapped}

-- the call that closes what a call opened
pub record IsClose (opener : ℕ) (before calls : List Call) (close : ℕ) : Type 0 where
  pub place : ℕ
  pub call : Call
  pub number : close ≡ length before + place
  pub there : slice_get calls place ≡ Some call
  pub closes : closed_at (before ++ take place calls) call ≡ Some opener

-- what a call is found to close
opener_is : (opener : ℕ) (o : Option ℕ) → is_opener opener o ≡ true → o ≡ Some opener
opener_is opener None is = absurd (false≢true is)
opener_is opener (Some n) is = ap Some (eqb-true n opener is)

pub closes_from : (opener : ℕ) (before calls : List Call) (close : ℕ) → close_from opener before calls ≡ Some close → IsClose opener before calls close
closes_from opener before [] close is = absurd (none-some close is)
closes_from opener before (x ∷ xs) close is = by (close_from opener (before ++ x ∷ []) xs) refl is (λ found. closes_from opener (before ++ x ∷ []) xs close found)
  where
    last : (b : Bool) → is_opener opener (closed_at before x) ≡ b → cond b (Some (length before)) None ≡ Some close → IsClose opener before (x ∷ xs) close
    last true same found = record {
      place = 0;
      call = x;
      number = let e : length before ≡ close = cc in omega arith;
      there = refl;
      closes = ap (λ b. closed_at b x) (append-nil before) ∙ opener_is opener (closed_at before x) same;
    }
    last false other found = absurd (none-some close found)

    by : (o : Option ℕ) → close_from opener (before ++ x ∷ []) xs ≡ o → option_or o (cond (is_opener opener (closed_at before x)) (Some (length before)) None) ≡ Some close
        → (close_from opener (before ++ x ∷ []) xs ≡ Some close → IsClose opener (before ++ x ∷ []) xs close) → IsClose opener before (x ∷ xs) close
    by None rest found next = last (is_opener opener (closed_at before x)) refl found
    by (Some c) rest found next =
        let later = next (rest ∙ found) in
        record {
          place = suc later.place;
          call = later.call;
          number = let long = length-append before (x ∷ []) in let number = later.number in omega (arith, long);
          there = later.there;
          closes = ap (λ b. closed_at b later.call) (sym (append_assoc before (x ∷ []) (take later.place xs))) ∙ later.closes;
        }

-- the same of the calls of a rank
pub closed_in : (calls : List Call) (opener close : ℕ) → close_of calls opener ≡ Some close → (call : Call) × (slice_get calls close ≡ Some call) × (closed_at (take close calls) call ≡ Some opener)
closed_in calls opener close is =
    let found = closes_from opener [] calls close is in
    let place : found.place ≡ close = let number = found.number in omega arith in
    (found.call, ap (slice_get calls) (sym place) ∙ found.there, ap (λ k. closed_at (take k calls) found.call) (sym place) ∙ found.closes)

-- how an epoch of the list is closed
pub closed_as : (windows : List Window) (calls : List Call) (index : ℕ) (epoch : Epoch) (close : ℕ) → slice_get (epochs_of windows calls) index ≡ Some epoch → epoch.close ≡ Some close → close_of calls epoch.opener ≡ Some close
closed_as windows calls index epoch close there is =
    let x = mapped (epoch_with (close_of calls)) (opened_from windows 0 calls) index epoch there in
    ap (close_of calls) (ap (λ (e : Epoch). e.opener) (sym x.2)) ∙ ap (λ (e : Epoch). e.close) x.2 ∙ is

pub close_comes_later : (windows : List Window) (calls : List Call) → CloseComesLater windows calls
close_comes_later windows calls index epoch close there is =
    let found = closed_in calls epoch.opener close (closed_as windows calls index epoch close there is) in
    let less = closed_below (take close calls) found.0 epoch.opener found.2 in
    omega (arith, length-take close calls, less)

pub closes_one : (windows : List Window) (calls : List Call) → ClosesOne windows calls
closes_one windows calls i j a b close at_i at_j is_a is_b = by (nat_lt i j) refl (nat_lt j i) refl
  where
    same : a.opener ≡ b.opener
    same =
        let one = closed_in calls a.opener close (closed_as windows calls i a close at_i is_a) in
        let two = closed_in calls b.opener close (closed_as windows calls j b close at_j is_b) in
        let call : one.0 ≡ two.0 = (let both : Some one.0 ≡ Some two.0 = sym one.1 ∙ two.1 in cc) in
        let opener : Some a.opener ≡ Some b.opener = sym one.2 ∙ ap (closed_at (take close calls)) call ∙ two.2 in
        cc

    by : (p : Bool) → nat_lt i j ≡ p → (q : Bool) → nat_lt j i ≡ q → i ≡ j
    by true lt q is = let less = epochs_ascend windows calls i j a b (let l : i < j = grind (arith, nat_tests) in l) at_i at_j in let e = same in absurd (omega (arith, e))
    by false le true lt = let less = epochs_ascend windows calls j i b a (let l : j < i = grind (arith, nat_tests) in l) at_j at_i in let e = same in absurd (omega (arith, e))
    by false le false ge = grind (arith, nat_tests)
