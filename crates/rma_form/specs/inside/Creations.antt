-- The words of a window's creation.
use Rattle.std.specs.Prelude.{ℕ, Bool, true, false, List, [], ◌∷◌, codes, decimal}
use Rattle.rma_base.specs.declared.window.WinModel.{WinModel}
use Rattle.rma_base.specs.declared.window.AccOps.{AccOps}
use Rattle.rma_base.specs.Window.{model_word, ops_word}

-- those of a dynamic window, or of another one
abbrev pub creation_words : List ℕ → List ℕ → ℕ → ℕ → ℕ → WinModel → AccOps → Bool → List (List ℕ)
creation_words window comm base bytes displacement model operations true = codes "win" ∷ codes "dynamic" ∷ window ∷ comm ∷ ops_word operations ∷ []
creation_words window comm base bytes displacement model operations false =
    codes "win" ∷ codes "create" ∷ window ∷ comm ∷ decimal base ∷ decimal bytes ∷ decimal displacement ∷ model_word model ∷ ops_word operations ∷ []
