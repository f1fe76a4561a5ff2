-- The numbers by which texts are looked up.
use Rattle.std.specs.Prelude.{ℕ, List}
use Rattle.std.specs.Hash as fed
use Rattle.std.specs.Hash.FoldHasher.{initial, write, finish}

-- a number that depends on the text alone
abbrev pub key_of : List ℕ → ℕ
key_of text = finish (write initial text)

-- what a hasher is fed of a text whose key is kept: the key
abbrev pub key_writes : List ℕ → fed.HashWrites
key_writes text = fed.u64 (key_of text)
