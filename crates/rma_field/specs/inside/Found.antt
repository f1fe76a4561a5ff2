-- What was found of the words of assertions.
use Rattle.std.specs.Prelude.{◌≡◌, ℕ, true, List}
use Rattle.std.specs.List.{list_all}
use Rattle.rma_call.specs.declared.assertion.Assertion.{Assertion}
use Rattle.rma_field.specs.declared.assertion_field.Found.{Found}
use Rattle.rma_field.specs.Assertions.{asserted, is_one_of, repeats_word}

-- each word is one of these, and these are the assertions, one of which stands twice or not
pub record IsFound (allowed : List Assertion) (words : List (List ℕ)) (found : Found) : Type 0 where
  pub known : list_all (is_one_of allowed) words ≡ true
  pub assertions : found.assertions ≡ asserted words
  pub repeated : found.repeated ≡ repeats_word words
