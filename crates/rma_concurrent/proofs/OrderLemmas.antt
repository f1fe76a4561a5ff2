-- The orders of reports are orders.
use Rattle.std.proofs.Common.{◌≡◌, ℕ, List, [], ◌∷◌, refl, sym}
use Rattle.std.specs.Cmp.{IsTotalOrder}
use Rattle.std.specs.Cmp.Lexicographic.{slice_cmp}
use Rattle.std.specs.Ordering.{nat_cmp, ordering_then}
use Rattle.std.specs.declared.cmp.Ordering.{Ordering}
use Rattle.std.specs.declared.cmp.Ordering.TheVariants.{Less, Equal, Greater}
use Rattle.std.proofs.lemmas.Cmp.{nat_cmp_total, nat_list_cmp_total, on_total, ranked, then_total}
use Rattle.rma_finding.specs.declared.finding.DoubledPost.{DoubledPost}
use Rattle.rma_finding.specs.declared.finding.ExposedLock.{ExposedLock}
use Rattle.rma_concurrent.specs.Concurrent.{lock_order, post_order}
use Rattle.rma_concurrent.specs.inside.Places.{IsOrder}

both_equal : (a b : Ordering) → ordering_then a b ≡ Equal → (a ≡ Equal) × (b ≡ Equal)
both_equal Less b e = absurd (cc)
both_equal Equal b e = (refl, e)
both_equal Greater b e = absurd (cc)

same_number : (x y : ℕ) → nat_cmp x y ≡ Equal → x ≡ y
same_number x y e = ranked x y Equal (sym e)

same_text : (xs ys : List ℕ) → slice_cmp nat_cmp xs ys ≡ Equal → xs ≡ ys
same_text [] [] e = refl
same_text [] (y ∷ ys) e = absurd (cc)
same_text (x ∷ xs) [] e = absurd (cc)
same_text (x ∷ xs) (y ∷ ys) e =
    let both = both_equal (nat_cmp x y) (slice_cmp nat_cmp xs ys) e in
    let first = same_number x y both.0 in
    let rest = same_text xs ys both.1 in
    λ k. first k ∷ rest k

lock_total : IsTotalOrder lock_order
lock_total =
    then_total
    (then_total (then_total (then_total (on_total (λ (f : ExposedLock). f.rank.0) nat_cmp_total) (on_total (λ (f : ExposedLock). f.lock.0) nat_cmp_total)) (on_total (λ (f : ExposedLock). f.target.0) nat_cmp_total))
    (on_total (λ (f : ExposedLock). f.opened.0) nat_cmp_total))
    (on_total (λ (f : ExposedLock). f.window) nat_list_cmp_total)

lock_ties : (f g : ExposedLock) → lock_order f g ≡ Equal → f ≡ g
lock_ties f g e =
    let five = both_equal _ _ e in
    let four = both_equal _ _ five.0 in
    let three = both_equal _ _ four.0 in
    let two = both_equal _ _ three.0 in
    let window = same_text f.window g.window five.1 in
    let rank = same_number f.rank.0 g.rank.0 two.0 in
    let lock = same_number f.lock.0 g.lock.0 two.1 in
    let target = same_number f.target.0 g.target.0 three.1 in
    let opened = same_number f.opened.0 g.opened.0 four.1 in
    λ k. record { window = window k; rank = record { 0 = rank k }; lock = record { 0 = lock k }; target = record { 0 = target k }; opened = record { 0 = opened k } }

pub lock_is_order : IsOrder lock_order
lock_is_order = record { total = lock_total; ties = lock_ties }

post_total : IsTotalOrder post_order
post_total =
    then_total
    (then_total (then_total (on_total (λ (f : DoubledPost). f.target.0) nat_cmp_total) (on_total (λ (f : DoubledPost). f.post.0) nat_cmp_total)) (on_total (λ (f : DoubledPost). f.opened.0) nat_cmp_total))
    (on_total (λ (f : DoubledPost). f.window) nat_list_cmp_total)

post_ties : (f g : DoubledPost) → post_order f g ≡ Equal → f ≡ g
post_ties f g e =
    let four = both_equal _ _ e in
    let three = both_equal _ _ four.0 in
    let two = both_equal _ _ three.0 in
    let window = same_text f.window g.window four.1 in
    let target = same_number f.target.0 g.target.0 two.0 in
    let post = same_number f.post.0 g.post.0 two.1 in
    let opened = same_number f.opened.0 g.opened.0 three.1 in
    λ k. record { window = window k; target = record { 0 = target k }; post = record { 0 = post k }; opened = record { 0 = opened k } }

pub post_is_order : IsOrder post_order
post_is_order = record { total = post_total; ties = post_ties }
