-- Words behind a line.
use Rattle.std.specs.Prelude.{ℕ, List, [], ◌∷◌, if◌then◌else◌}
use Rattle.std.specs.List.{join_with_byte}
use Rattle.rma_call.specs.declared.assertion.Assertion.{Assertion}
use Rattle.rma_call.specs.declared.assertion.Assertions.{Assertions}
use Rattle.rma_call.specs.Assertion.{assertion_word, asserts}

-- a space and the word, where it is one of these
abbrev pub asserted_suffix : Assertions → Assertion → List ℕ
asserted_suffix them it = if asserts them it then 32 ∷ assertion_word it else []

-- the words with a space before each, where there is one
abbrev pub behind_space : List (List ℕ) → List ℕ
behind_space words = 32 ∷ join_with_byte 32 words
