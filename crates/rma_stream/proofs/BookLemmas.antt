-- Books and texts, one beside the other.
use Rattle.std.proofs.Common.{◌≡◌, ℕ, ◌<◌, true, false, Result, Ok, Err, List, [], ◌∷◌, ◌++◌, length, get_or, set, refl, sym, ap, ◌∙◌, subst, inl, inr, arith, length-append}
use Rattle.std.specs.Prelude.{All, OnErr}
use Rattle.std.proofs.Math.ListN.{length-set}
use Rattle.std.proofs.lemmas.List.{get_or_push, get_or_append_left, get_or-set_other}
use Rattle.std.proofs.lemmas.Grind.{get_or-set_at}
use Rattle.std.proofs.lemmas.Bool.{cases_lt, cases_eq, false≢true}
use Rattle.std.proofs.lemmas.List.Elements.{All-set}
use Rattle.std.proofs.lemmas.List.Quantifiers.{any-set}
use Rattle.rma_book.specs.inside.RankState.{RankState, Represents}
use Rattle.rma_book.specs.inside.RankState as book
use Rattle.rma_stream.specs.inside.Feeding.{AreKept, HaveBooks, RanOut}

-- one book more, and one text
pub HaveBooks_push : (ranks : ℕ) (books : List RankState) (texts : List (List ℕ)) (book : RankState) (text : List ℕ) → HaveBooks ranks books texts
    → Represents (length books) ranks book text → HaveBooks ranks (books ++ book ∷ []) (texts ++ text ∷ [])
HaveBooks_push ranks books texts book text h one = record {
  one_a_text = omega (arith, length-append books (book ∷ []), length-append texts (text ∷ []), h.one_a_text);
  each = λ k d below. elim (cases_lt k (length books)) [
    | inl lt ↦
        subst (λ r. Represents k ranks r (get_or (texts ++ text ∷ []) k [])) (sym (get_or_append_left books (book ∷ []) d k lt))
        (subst (λ t. Represents k ranks (get_or books k d) t) (sym (get_or_append_left texts (text ∷ []) [] k (omega (arith, h.one_a_text)))) (h.each k d lt))
    | inr ge ↦
        let at_end : length books ≡ k = omega (arith, length-append books (book ∷ [])) in
        subst (λ r. Represents k ranks r (get_or (texts ++ text ∷ []) k [])) (sym (get_or_push books book d k at_end))
        (subst (λ t. Represents k ranks book t) (sym (get_or_push texts text [] k (sym h.one_a_text ∙ at_end))) (subst (λ n. Represents n ranks book text) at_end one))
  ];
}

-- another book at an index, and another text
pub HaveBooks_set : (ranks : ℕ) (books : List RankState) (texts : List (List ℕ)) (i : ℕ) (book : RankState) (text : List ℕ) → i < length books
    → HaveBooks ranks books texts → Represents i ranks book text → HaveBooks ranks (set books i book) (set texts i text)
HaveBooks_set ranks books texts i book text there h one = record {
  one_a_text = length-set books i book ∙ h.one_a_text ∙ sym (length-set texts i text);
  each = λ k d below. elim (cases_eq k i) [
    | inl same ↦
        subst (λ r. Represents k ranks r (get_or (set texts i text) k [])) (sym (get_or-set_at books i k book d same there))
        (subst (λ t. Represents k ranks book t) (sym (get_or-set_at texts i k text [] same (omega (arith, h.one_a_text)))) (subst (λ n. Represents n ranks book text) (sym same) one))
    | inr other ↦
        subst (λ r. Represents k ranks r (get_or (set texts i text) k [])) (sym (get_or-set_other books i k book d other))
        (subst (λ t. Represents k ranks (get_or books k d) t) (sym (get_or-set_other texts i k text [] other)) (h.each k d (omega (arith, length-set books i book))))
  ];
}

-- the book after those before it
pub book_at : (prefix : List RankState) (book : RankState) (back : List RankState) (d : RankState) → get_or (prefix ++ book ∷ back) (length prefix) d ≡ book
book_at [] book back d = refl
book_at (first ∷ prefix) book back d = book_at prefix book back d

-- ---- when memory runs out

-- one book ran out
pub RanOut_set : (books : List RankState) (i : ℕ) (state : RankState) → i < length books → book.RanOut state → RanOut (set books i state)
RanOut_set books i state there out = any-set book.RanOut books i state there out

-- and no log has ended
pub AreKept_out : (books : List RankState) (i : ℕ) (state : RankState) → i < length books → All (λ (s : RankState). s.text.closed ≡ false) books
    → state.text.closed ≡ false → book.RanOut state → AreKept true (set books i state)
AreKept_out books i state there go_on goes_on out = record {
  go_on = All-set (λ (s : RankState). s.text.closed ≡ false) books i state goes_on go_on;
  out = λ _. RanOut_set books i state there out;
  in_memory = λ in_memory. absurd (false≢true (sym in_memory));
  represent = λ in_memory. absurd (false≢true (sym in_memory));
}

-- one book was fed more, and none ran out
pub AreKept_fed : (books : List RankState) (texts : List (List ℕ)) (i : ℕ) (state : RankState) (text : List ℕ) → i < length books → All (λ (s : RankState). s.text.closed ≡ false) books
    → (false ≡ false → All (λ (s : RankState). s.ran_out ≡ false) books) → HaveBooks (length books) books texts → state.text.closed ≡ false → Represents i (length books) state text →
    AreKept false (set books i state)
AreKept_fed books texts i state text there go_on in_memory held goes_on own = record {
  go_on = All-set (λ (s : RankState). s.text.closed ≡ false) books i state goes_on go_on;
  out = λ ran. absurd (false≢true ran);
  in_memory = λ _. All-set (λ (s : RankState). s.ran_out ≡ false) books i state own.in_memory (in_memory refl);
  represent = λ _.
      (set texts i text, subst (λ n. HaveBooks n (set books i state) (set texts i text)) (sym (length-set books i state)) (HaveBooks_set (length books) books texts i state text there held own));
}

-- books of which one ran out represent no logs
pub none_after_memory : (ranks : ℕ) (books : List RankState) (texts : List (List ℕ)) → RanOut books → HaveBooks ranks books texts → ⊥
none_after_memory ranks books texts out h =
    false≢true (sym (h.each out.0 out.1 out.2).in_memory ∙ ap (λ (s : RankState). s.ran_out) out.3 ∙ out.4)

-- what holds in any case holds where there is an error
pub OnErr_any : {X E B : Type 0} → (r : Result X E) → B → OnErr r B
OnErr_any (Ok x) h = tt
OnErr_any (Err e) h = h
