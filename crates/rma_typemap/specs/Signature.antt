-- Signatures of copies (MPI 4.0, "Datatypes").
use Rattle.std.specs.Prelude.{ℕ, zero, suc, List, [], ◌++◌}
use Rattle.rma_datatype.specs.declared.basic.Basic.{Basic}

-- n copies of a signature, one after another
unfoldable pub copies : ℕ → List Basic → List Basic
copies zero basics = []
copies (suc n) basics = basics ++ copies n basics
