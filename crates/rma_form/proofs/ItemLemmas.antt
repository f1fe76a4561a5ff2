-- Groups of words read one after another.
use Rattle.std.proofs.Common.{◌≡◌, ℕ, zero, suc, ◌+◌, ◌*◌, ◌/◌, ◌%◌, ◌-◌, ◌<◌, ◌≤◌, List, [], ◌∷◌, ◌++◌, length, take, drop, Result, Ok, Err, refl, sym, ap, ◌∙◌, arith, append_assoc, suc-mul, div-add-mod', length-drop}
use Rattle.std.proofs.lemmas.List.{append-nil, length-map}
use Rattle.std.proofs.lemmas.Nat.{div-mul-add, mod_below}
use Rattle.std.specs.Borrow.{Bor}
use Rattle.rma_base.specs.declared.form_reason.FormReason.{FormReason}
use Rattle.rma_field.specs.declared.parse_error.ParseError.{ParseError}
use Rattle.rma_field.specs.declared.parse_error.ParseError.TheVariants.{Fault, Memory}
use Rattle.rma_field.specs.Steps.{◌>>=◌, Fails}
use Rattle.rma_field.specs.Texts.{texts_at}
use Rattle.rma_form.specs.Groups.{items_read}
use Rattle.rma_form.specs.inside.Places.{first_texts, nowhere}
use Rattle.rma_form.proofs.TextLemmas.{texts_each}

-- a read that fails makes what follows fail
pub Fails_bind : {A B : Type 0} (error : ParseError) (read : Result A FormReason) (f : A → Result B FormReason) → Fails error read → Fails error (read >>= f)
Fails_bind Memory read f fails = tt
Fails_bind (Fault fault) read f fails = rw fails

-- one divisor more is one more
pub div_more : (m k : ℕ) → 0 < k → (m + k) / k ≡ suc (m / k)
div_more m k some =
    let whole : m / k * k + m % k ≡ m = div-add-mod' m k in
    let more : suc (m / k) * k + m % k ≡ m + k = omega (arith, whole, suc-mul (m / k) k) in
    ap (λ n. n / k) (sym more) ∙ div-mul-add (suc (m / k)) k (m % k) (mod_below m k some)

-- so many words have a group in front
group_more : (n k : ℕ) → 0 < k → k ≤ n → n / k ≡ suc ((n - k) / k)
group_more n k some enough = let same : n - k + k ≡ n = omega arith in ap (λ m. m / k) (sym same) ∙ div_more (n - k) k some

group_none : (n k : ℕ) → n < k → n / k ≡ 0
group_none n k few = let same : n ≡ 0 * k + n = omega arith in ap (λ m. m / k) same ∙ div-mul-add 0 k n few

pushed : {A : Type 0} (done : List A) (item : A) (rest : Result (List A) FormReason)
    → ((rest >>= λ more. Ok (item ∷ more)) >>= λ more. Ok (done ++ more)) ≡ (rest >>= λ more. Ok ((done ++ item ∷ []) ++ more))
pushed done item (Ok more) = ap Ok (sym (append_assoc done (item ∷ []) more))
pushed done item (Err reason) = refl

module _ {A : Type 0} (size : ℕ) (some : 0 < size) (read : List (List ℕ) → Result A FormReason) (words : List (List ℕ)) where
  abbrev rest : List (List ℕ)
  rest = drop size words

  -- what so many words and more are read as
  items_first : size ≤ length words
      → items_read size read (length words / size) words ≡ (read (take size words) >>= λ item. items_read size read (length rest / size) rest >>= λ more. Ok (item ∷ more))
  items_first enough =
      ap (λ n. items_read size read n words) (group_more (length words) size some enough ∙ ap (λ n. suc (n / size)) (sym (length-drop size words)))

  -- one group more
  pub items_step : (done : List A) (item : A) → size ≤ length words → read (take size words) ≡ Ok item
      → (items_read size read (length words / size) words >>= λ more. Ok (done ++ more))
      ≡ (items_read size read (length rest / size) rest >>= λ more. Ok ((done ++ item ∷ []) ++ more))
  items_step done item enough is =
      ap (λ them. them >>= λ more. Ok (done ++ more)) (items_first enough ∙ ap (λ first. first >>= λ it. items_read size read (length rest / size) rest >>= λ more. Ok (it ∷ more)) is)
      ∙ pushed done item (items_read size read (length rest / size) rest)

  -- a bad group
  pub items_fail : (done : List A) (error : ParseError) → size ≤ length words → Fails error (read (take size words))
      → Fails error (items_read size read (length words / size) words >>= λ more. Ok (done ++ more))
  items_fail done error enough fails =
      rw (items_first enough)
      (Fails_bind error _ (λ more. Ok (done ++ more)) (Fails_bind error (read (take size words)) (λ it. items_read size read (length rest / size) rest >>= λ more. Ok (it ∷ more)) fails))

  -- no group more
  pub items_last : (done : List A) → length words < size → (items_read size read (length words / size) words >>= λ more. Ok (done ++ more)) ≡ Ok done
  items_last done few = rw (group_none (length words) size few) (ap Ok (append-nil done))

-- at first nothing was read
pub items_whole : {A : Type 0} (them : Result (List A) FormReason) → them ≡ (them >>= λ more. Ok ([] ++ more))
items_whole (Ok more) = refl
items_whole (Err reason) = refl

drop_all : {A : Type 0} (n : ℕ) (xs : List A) → length xs ≡ n → drop n xs ≡ []
drop_all zero [] is = refl
drop_all zero (x ∷ xs) is = absurd (omega arith)
drop_all (suc n) [] is = refl
drop_all (suc n) (x ∷ xs) is = drop_all n xs (omega arith)

-- as many texts as there are are all
pub first_all : (n : ℕ) (items : List (Bor (List ℕ))) → length items ≡ n → first_texts items n ≡ texts_at items
first_all n items is =
    let long : length (texts_at items) ≡ n = length-map items (λ text. text.now) ∙ is in
    sym (append-nil (first_texts items n)) ∙ ap (λ them. first_texts items n ++ them) (sym (drop_all n (texts_at items) long)) ∙ sym (texts_each n items nowhere (omega arith))
