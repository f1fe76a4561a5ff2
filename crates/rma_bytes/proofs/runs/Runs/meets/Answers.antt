use Rattle.std.proofs.Common.{length, arith, inl, inr}
use Rattle.std.proofs.lemmas.Bool.{cases_lt}
use Rattle.std.proofs.lemmas.Bool.Decides.{nat_tests}
use Rattle.std.proofs.lemmas.List.{nil_from_length}
use Rattle.rma_bytes.proofs.IndexLemmas.{first_byte}
use Rattle.rma_bytes.proofs.runs.Runs.meets.Goals as goal

pub returns : goal.returns
returns c =
    let runs = c.in-Ok.runs.items in (
      λ some.
          let byte = first_byte runs c.in-Ok.ensures.canonical (grind (arith, nat_tests)) in
          let both = rw (c.as_slice.ensures, c.as_slice-2.ensures, c.self.view_is, c.other.view_is) at (c.in-Ok.ensures.within byte.0 byte.1) in
          (byte.0, both.0, both.1),
      λ both. elim (cases_lt 0 (length runs)) [
        | inl filled ↦ grind (arith, nat_tests)
        | inr none ↦ absurd (c.in-Ok.ensures.none (nil_from_length runs (omega arith)) both.0
            (rw (c.as_slice.ensures, c.self.view_is) both.1) (rw (c.as_slice-2.ensures, c.other.view_is) both.2))
      ],
    )
