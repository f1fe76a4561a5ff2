-- Values of fields, one behind the other.
use Rattle.std.specs.Prelude.{ℕ, List, [], ◌∷◌, Result, Ok, Err}
use Rattle.rma_base.specs.declared.form_reason.FormReason.{FormReason}
use Rattle.rma_base.specs.declared.form_reason.FormReason.TheVariants.{WrongCount}
use Rattle.rma_base.specs.declared.version.Version.{Version}
use Rattle.rma_field.specs.Kinds.{Kind, Value, meaning, written}
use Rattle.rma_field.specs.Steps.{◌>>=◌}

-- a value for each of these kinds
abbrev pub Values : List Kind → Type 0
Values [] = Unit {0}
Values (kind ∷ kinds) = Value kind × Values kinds

-- how the values are written, one by one
abbrev pub all_written : (kinds : List Kind) → Values kinds → List (List ℕ)
all_written [] values = []
all_written (kind ∷ kinds) values = written kind values.0 ∷ all_written kinds values.1

-- what is made of a value of each of these kinds
abbrev pub Made : List Kind → Type 0 → Type 0
Made [] A = A
Made (kind ∷ kinds) A = Value kind → Made kinds A

-- What is made of the fields from left to right: the first bad one decides. Fields behind them are not looked at.
abbrev pub made_of : {A : Type 0} → Version → (kinds : List Kind) → Made kinds A → List (List ℕ) → Result A FormReason
made_of v [] made texts = Ok made
made_of v (kind ∷ kinds) make [] = Err WrongCount
made_of v (kind ∷ kinds) make (text ∷ texts) = meaning v kind text >>= λ value. made_of v kinds (make value) texts

-- the values of the fields from left to right, as far as there are kinds: the first bad one decides
abbrev pub values_of : Version → (kinds : List Kind) → List (List ℕ) → Result (Values kinds) FormReason
values_of v [] texts = Ok tt
values_of v (kind ∷ kinds) [] = Err WrongCount
values_of v (kind ∷ kinds) (text ∷ texts) = meaning v kind text >>= λ value. values_of v kinds texts >>= λ more. Ok (value, more)
