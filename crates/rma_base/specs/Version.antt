-- The versions of the format of logs (docs/FORMAT.md).
use Rattle.std.specs.Prelude.{ℕ, List, codes}
use Rattle.rma_base.specs.declared.version.Version.{Version}
use Rattle.rma_base.specs.declared.version.Version.TheVariants.{One, Two}

-- the word of a version
abbrev pub version_word : Version → List ℕ
version_word One = codes "1"
version_word Two = codes "2"

-- the most ranks of a run whose logs have this version
abbrev pub ranks_of : Version → ℕ
ranks_of One = 64
ranks_of Two = 1024
