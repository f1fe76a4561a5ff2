-- One more block, or member, at a loop's step.
use Rattle.std.proofs.Common.{◌≡◌, ℕ, ◌+◌, ◌*◌, ◌<◌, ◌≤◌, ℤ, List, length, get_or, take, map, sum_by, ap, ◌∙◌, arith, sym}
use Rattle.rma_typemap.proofs.Words.{map_more, fold_push, sum_by_more, sum_by_more_le, mul-le-mul_right, Summary, with_block, indexed_of, empty_summary}

module _ {B : Type 0} (block : B → ℕ × ℤ) (old : Summary) where
  pub indexed_of_more : (bs : List B) (i : ℕ) (d : B) → i < length bs → (done more : Summary) (n : ℕ) (x : ℤ) → more ≡ with_block old done (n, x) →
      done ≡ indexed_of old (map block (take i bs)) → n ≡ (block (get_or bs i d)).0 → x ≡ (block (get_or bs i d)).1 → more ≡ indexed_of old (map block (take (i + 1) bs))
  indexed_of_more bs i d h done more n x step is count at =
      rw (step, is, count, at) (sym (ap (indexed_of old) (map_more block bs i d h) ∙ fold_push (with_block old) empty_summary (map block (take i bs)) (block (get_or bs i d))))

-- what the blocks so far and the next one have is no more than what all have
pub few_more : {B : Type 0} (n : B → ℕ) (e limit : ℕ) (bs : List B) (i : ℕ) (d : B) → i < length bs → sum_by n bs * e ≤ limit →
    sum_by n (take i bs) * e + n (get_or bs i d) * e ≤ limit
few_more n e limit bs i d h few =
    let le = mul-le-mul_right e (sum_by_more_le n bs i d h) in
    omega arith

pub entries_more : {B : Type 0} (n : B → ℕ) (e : ℕ) (bs : List B) (i : ℕ) (d : B) → i < length bs →
    sum_by n (take i bs) * e + n (get_or bs i d) * e ≡ sum_by n (take (i + 1) bs) * e
entries_more n e bs i d h = let more = sum_by_more n bs i d h in omega (arith, ap (λ k. k * e) more)
