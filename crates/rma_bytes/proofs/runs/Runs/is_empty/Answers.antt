use Rattle.std.proofs.Common.{◌<◌, length, arith}
use Rattle.std.proofs.lemmas.Bool.Decides.{nat_tests}
use Rattle.std.proofs.lemmas.List.{nil_from_length}
use Rattle.rma_bytes.proofs.IndexLemmas.{first_byte}
use Rattle.rma_bytes.proofs.runs.Runs.is_empty.Goals as goal

pub returns-clause-bytes : goal.returns-clause-bytes
returns-clause-bytes c = rw (← c.self.view_is) (
  λ yes b has. rw (nil_from_length c.self.inside.runs.items (grind (arith, nat_tests))) at has,
  λ none.
      let no_byte : 0 < length c.self.inside.runs.items → ⊥ =
      λ some. (let byte = first_byte c.self.inside.runs.items c.self.invariant some in none byte.0 byte.1) in
      grind (arith, nat_tests),
)
