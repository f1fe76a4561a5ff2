-- Signatures as runs of equal basic datatypes (MPI 4.0, "Datatypes").
use Rattle.std.specs.Prelude.{◌≡◌, ◌≢◌, ◌<◌, List, [], ◌∷◌, ◌++◌, flat_map, replicate, All}
use Rattle.rma_datatype.specs.declared.basic.Basic.{Basic}
use Rattle.rma_type.specs.declared.sig_run.SigRun.{SigRun}
use Rattle.rma_type.specs.declared.component.Component.{Component}
use Rattle.rma_type.specs.declared.component.Component.TheVariants.{Empty, One, Mixed}

-- the basic datatypes that a run represents
abbrev pub basics_of : SigRun → List Basic
basics_of run = replicate run.count run.basic

-- the basic datatypes that runs represent, in order
abbrev pub spread : List SigRun → List Basic
spread runs = flat_map basics_of runs

-- the first run, if there is one, has another basic datatype
abbrev pub BeginsOther : Basic → List SigRun → Type 0
BeginsOther basic [] = Unit {0}
BeginsOther basic (run ∷ runs) = basic ≢ run.basic

-- each run has a basic datatype at least, and another than its neighbours
abbrev pub AreRuns : List SigRun → Type 0
AreRuns [] = Unit {0}
AreRuns (run ∷ runs) = (0 < run.count) × BeginsOther run.basic runs × AreRuns runs

-- runs represent basic datatypes, and are as few as can be
pub record IsRunsOf (basics : List Basic) (runs : List SigRun) : Type 0 where
  pub same : spread runs ≡ basics
  pub apart : AreRuns runs

-- the basic datatype that all have
abbrev pub IsComponentOf : List Basic → Component → Type 0
IsComponentOf basics Empty = basics ≡ []
IsComponentOf basics (One basic) = (basics ≢ []) × All (λ b. b ≡ basic) basics
IsComponentOf basics Mixed = (basic : Basic) → ¬ All (λ b. b ≡ basic) basics

-- a list of basic datatypes begins with another
abbrev pub BeginsWith : List Basic → List Basic → Type 0
BeginsWith whole prefix = (rest : List Basic) × (whole ≡ prefix ++ rest)
