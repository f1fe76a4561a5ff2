-- Assertions on synchronisation calls (MPI 4.0, "One-Sided Communications").
use Rattle.std.specs.Prelude.{ℕ, Bool, true, false, List, [], ◌∷◌, codes}
use Rattle.rma_call.specs.declared.assertion.Assertion.{Assertion}
use Rattle.rma_call.specs.declared.assertion.Assertion.TheVariants.{Nocheck, Noprecede, Nosucceed, Nostore, Noput}
use Rattle.rma_call.specs.declared.assertion.Assertions.{Assertions}

-- the word of an assertion
abbrev pub assertion_word : Assertion → List ℕ
assertion_word Nocheck = codes "nocheck"
assertion_word Noprecede = codes "noprecede"
assertion_word Nosucceed = codes "nosucceed"
assertion_word Nostore = codes "nostore"
assertion_word Noput = codes "noput"

-- each assertion once, in the order in which they are written
abbrev pub all_assertions : List Assertion
all_assertions = Nocheck ∷ Noprecede ∷ Nosucceed ∷ Nostore ∷ Noput ∷ []

-- this is one of the assertions of a call
abbrev pub asserts : Assertions → Assertion → Bool
asserts them Nocheck = them.nocheck
asserts them Noprecede = them.noprecede
asserts them Nosucceed = them.nosucceed
asserts them Nostore = them.nostore
asserts them Noput = them.noput

-- no assertion
abbrev pub no_assertions : Assertions
no_assertions = record { nocheck = false; noprecede = false; nosucceed = false; nostore = false; noput = false }

-- one assertion more
abbrev pub with_assertion : Assertions → Assertion → Assertions
with_assertion them Nocheck = record them { nocheck = true }
with_assertion them Noprecede = record them { noprecede = true }
with_assertion them Nosucceed = record them { nosucceed = true }
with_assertion them Nostore = record them { nostore = true }
with_assertion them Noput = record them { noput = true }
