-- Texts of a few parts.
use Rattle.std.proofs.Common.{◌≡◌, ◌<◌, ◌≤◌, ◌-◌, ℕ, List, [], ◌∷◌, ◌++◌, Option, Some, None, Bor, MatchOption, length, min, take, codes, decimal, ap, refl, sym, ◌∙◌, append_assoc}
use Rattle.std.specs.Prelude.{HoldsAt, IfSome, get_or, option_copied, slice_get}
use Rattle.std.specs.List.{flat_map}
use Rattle.std.proofs.lemmas.Option.{slice_get_past, slice_get_read}
use Rattle.std.proofs.lemmas.List.{append-nil, take_min}
use Rattle.rma_rules.specs.Words.{rule_word}
use Rattle.rma_finding.specs.declared.finding.FoundRace.{FoundRace}
use Rattle.rma_cut.specs.declared.cuts.Cuts.{Cuts}
use Rattle.rma_report.specs.declared.finding.Finding.{Finding}
use Rattle.rma_report.specs.ReportText.{access_text, ranges_text, race_line, header_line, verdict_line}
use Rattle.rma_report.specs.ExplainText.{chosen_text, cut_text, cuts_text, explain_text, later_number_text}

-- two numbers in a text
pub two_numbers : (p x q y r m n : List ℕ) → x ≡ m → y ≡ n → p ++ (x ++ (q ++ (y ++ (r ++ [])))) ≡ p ++ m ++ q ++ n ++ r
two_numbers p x q y r m n e f = rw (e, f) (simp (append_assoc, append-nil))

-- two numbers and a word in a text
pub word_after : (p x q y r z s m n w : List ℕ) → x ≡ m → y ≡ n → z ≡ w → p ++ (x ++ (q ++ (y ++ (r ++ (z ++ (s ++ [])))))) ≡ p ++ (m ++ q ++ n ++ r ++ w ++ s)
word_after p x q y r z s m n w e f g = rw (e, f, g) (simp (append_assoc, append-nil))

-- a word and two numbers in a text
pub word_before : (p z s q x r y w m n o l : List ℕ) → z ≡ w → x ≡ m → y ≡ n
    → (p ++ (z ++ ((s ++ q) ++ (x ++ (r ++ (y ++ [])))))) ++ (o ++ l) ≡ p ++ w ++ s ++ (q ++ m ++ r ++ n) ++ o ++ l
word_before p z s q x r y w m n o l e f g = rw (e, f, g) (simp (append_assoc, append-nil))

-- two numbers behind a text of two parts
pub place_alone : (p x q s y r m n : List ℕ) → x ≡ m → y ≡ n → (p ++ q) ++ (x ++ (s ++ (y ++ (r ++ [])))) ≡ p ++ (q ++ m ++ s ++ n) ++ r
place_alone p x q s y r m n e f = rw (e, f) (simp (append_assoc, append-nil))

-- a word and two numbers in a text that ends there
pub place_after : (p z s q x r y t w m n : List ℕ) → z ≡ w → x ≡ m → y ≡ n
    → p ++ (z ++ ((s ++ q) ++ (x ++ (r ++ (y ++ (t ++ [])))))) ≡ p ++ w ++ s ++ (q ++ m ++ r ++ n) ++ t
place_after p z s q x r y t w m n e f g = rw (e, f, g) (simp (append_assoc, append-nil))

-- the name of an access in a text, with its site behind it
pub access_parts : (x p y q z s m n w o t : List ℕ) → x ≡ m → y ≡ n → z ≡ w
    → (x ++ (p ++ (y ++ (q ++ (z ++ (s ++ [])))))) ++ (o ++ t) ≡ ((m ++ p ++ n) ++ q ++ w ++ s ++ o) ++ t
access_parts x p y q z s m n w o t e f g = rw (e, f, g) (simp (append_assoc, append-nil))

-- a word, a number, two accesses and their bytes in a text
race_parts : (p z q x s w m a b r k t : List ℕ) → z ≡ w → x ≡ m
    → (p ++ (z ++ (q ++ (x ++ (s ++ []))))) ++ ((a ++ s) ++ ((b ++ s) ++ (r ++ k ++ t))) ≡ p ++ w ++ q ++ m ++ s ++ a ++ s ++ b ++ (s ++ r) ++ k ++ t
race_parts p z q x s w m a b r k t e f = rw (e, f) (simp (append_assoc, append-nil))

-- the line of a race in its four parts
pub race_whole : (race : FoundRace) (word number : List ℕ) → word ≡ rule_word race.rule → number ≡ decimal race.memory.0
    → (codes "race " ++ (word ++ (codes " on " ++ (number ++ (codes " " ++ []))))) ++ ((access_text race.first race.first_site ++ codes " ") ++ ((access_text race.second race.second_site ++ codes " ") ++ (codes "bytes " ++ ranges_text race.bytes ++ codes "\n"))) ≡ race_line race
race_whole race word number e f =
    race_parts (codes "race ") word (codes " on ") number (codes " ") (rule_word race.rule) (decimal race.memory.0) (access_text race.first race.first_site) (access_text race.second race.second_site) (codes "bytes ") (ranges_text race.bytes) (codes "\n") e f

-- the texts of the first of a list
pub first_texts : {X : Type 0} (f : X → List ℕ) (xs : List X) (n limit : ℕ) → n ≡ min limit (length xs) → flat_map f (take n xs) ≡ flat_map f (take limit xs)
first_texts f xs n limit e = ap (λ k. flat_map f (take k xs)) e ∙ ap (flat_map f) (take_min limit xs)

-- the first number of a cut and those behind it
pub all_numbers : (before after ns : List ℕ) (n : ℕ) (rest : List ℕ) → ns ≡ n ∷ rest
    → (before ++ decimal n) ++ (flat_map later_number_text rest ++ after) ≡ before ++ cut_text ns ++ after
all_numbers before after ns n rest e = rw e (simp append_assoc)

-- two lines, each of a word, a text and an end
two_lines : (p a q b t : List ℕ) → (p ++ a ++ t) ++ (q ++ b ++ t) ≡ p ++ a ++ t ++ q ++ b ++ t
two_lines p a q b t = simp append_assoc

-- the lines of two cuts
pub two_cuts : (cuts : Cuts) (first second : List ℕ) → first ≡ cuts.first → second ≡ cuts.second
    → (codes "cut first " ++ cut_text first ++ codes "\n") ++ (codes "cut second " ++ cut_text second ++ codes "\n") ≡ cuts_text (Some cuts)
two_cuts cuts first second e f = rw (e, f) (two_lines (codes "cut first ") (cut_text cuts.first) (codes "cut second ") (cut_text cuts.second) (codes "\n"))

-- what `get` finds in a list
pub found_at : {X : Type 0} (xs : List X) (i : ℕ) (r : Option (Bor X)) → IfSome r (λ x. x.now ≡ get_or xs i x.now)
    → MatchOption r (length xs ≤ i) (λ x. (i < length xs) × HoldsAt (λ y. x.now ≡ y) xs i) → option_copied r ≡ slice_get xs i
found_at xs i None is within = sym (slice_get_past xs i within)
found_at xs i (Some x) is within = sym (slice_get_read xs (length xs) i x.now refl within.0 is)

-- four texts, one after the other
four_texts : (h f t v : List ℕ) → h ++ (f ++ (t ++ v)) ≡ h ++ f ++ t ++ v
four_texts h f t v = simp append_assoc

-- the text that explains a finding in its four parts
pub explained_whole : (ranks lines : ℕ) (found : List Finding) (number : ℕ) (cuts : Option Cuts) (own : List Finding) (chosen : Option Finding) → own ≡ found → chosen ≡ slice_get own (number - 1)
    → header_line ranks lines ++ (chosen_text chosen ++ (cuts_text cuts ++ verdict_line (length own))) ≡ explain_text ranks lines found number cuts
explained_whole ranks lines found number cuts own chosen e f =
    rw (f, e) (four_texts (header_line ranks lines) (chosen_text (slice_get found (number - 1))) (cuts_text cuts) (verdict_line (length found)))
