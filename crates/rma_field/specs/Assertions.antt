-- The words of assertions behind the fields of a line (docs/FORMAT.md; MPI 4.0, "One-Sided Communications").
use Rattle.std.specs.Prelude.{ℕ, Bool, false, not, ◌||◌, nat_lt, List, [], ◌∷◌, length, filter, map, Result, Ok, Err, if◌then◌else◌}
use Rattle.std.specs.List.{list_all, list_any}
use Rattle.rma_base.specs.declared.form_reason.FormReason.{FormReason}
use Rattle.rma_base.specs.declared.form_reason.FormReason.TheVariants.{UnknownAssertion, WrongCount, BadWord}
use Rattle.rma_base.specs.declared.version.Version.{Version}
use Rattle.rma_base.specs.declared.version.Version.TheVariants.{One, Two}
use Rattle.rma_call.specs.declared.assertion.Assertion.{Assertion}
use Rattle.rma_call.specs.declared.assertion.Assertion.TheVariants as assertion
use Rattle.rma_call.specs.declared.assertion.Assertions.{Assertions}
use Rattle.rma_call.specs.Assertion.{all_assertions, assertion_word, asserts}
use Rattle.rma_field.specs.Kinds.{is_word}

-- the word is that of one of these assertions
abbrev pub is_one_of : List Assertion → List ℕ → Bool
is_one_of them word = list_any (λ it. is_word (assertion_word it) word) them

-- the word of the assertion stands among these
abbrev pub stands : List (List ℕ) → Assertion → Bool
stands words it = list_any (is_word (assertion_word it)) words

-- a word stands twice
abbrev pub repeats_word : List (List ℕ) → Bool
repeats_word [] = false
repeats_word (word ∷ words) = list_any (λ other. is_word other word) words || repeats_word words

-- the assertions whose words stand among these
abbrev pub asserted : List (List ℕ) → Assertions
asserted words = record {
  nocheck = stands words assertion.Nocheck;
  noprecede = stands words assertion.Noprecede;
  nosucceed = stands words assertion.Nosucceed;
  nostore = stands words assertion.Nostore;
  noput = stands words assertion.Noput;
}

-- a log of the first version has at most two words
abbrev pub is_crowded : Version → List (List ℕ) → Bool
is_crowded One words = nat_lt 2 (length words)
is_crowded Two words = false

-- What words of assertions say, where a line may have these ones; or why they are bad: a word is none of them, there are
-- too many, or one stands twice.
abbrev pub assertions_of : Version → List Assertion → List (List ℕ) → Result Assertions FormReason
assertions_of v them words =
    if not (list_all (is_one_of them) words) then Err UnknownAssertion
    else (if is_crowded v words then Err WrongCount else (if repeats_word words then Err BadWord else Ok (asserted words)))

-- how assertions are written
abbrev pub assertion_words : Assertions → List (List ℕ)
assertion_words them = map assertion_word (filter (asserts them) all_assertions)
