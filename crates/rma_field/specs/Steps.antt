-- Steps of reading, each of which may find the line bad.
use Rattle.std.specs.Prelude.{◌≡◌, Result, Ok, Err}
use Rattle.rma_base.specs.declared.form_reason.FormReason.{FormReason}
use Rattle.rma_field.specs.declared.parse_error.ParseError.{ParseError}
use Rattle.rma_field.specs.declared.parse_error.ParseError.TheVariants.{Fault, Memory}

-- one step and then the next: the first fault is that of both
infixl 10 ◌>>=◌
abbrev pub ◌>>=◌ : {A B : Type 0} → Result A FormReason → (A → Result B FormReason) → Result B FormReason
(Ok x) >>= f = f x
(Err reason) >>= f = Err reason

abbrev pub Fails : {X : Type 0} → ParseError → Result X FormReason → Type 0
Fails Memory read = Unit {0}
Fails (Fault fault) read = read ≡ Err fault.reason

-- what was answered is what reading gives, unless memory ran out
abbrev pub Gives : {X : Type 0} → Result X ParseError → Result X FormReason → Type 0
Gives (Ok x) read = read ≡ Ok x
Gives (Err error) read = Fails error read

-- the step was passed where it finds nothing bad
abbrev pub Passes : {X : Type 0} → Result X ParseError → Result (Unit {0}) FormReason → Type 0
Passes (Ok x) step = step ≡ Ok tt
Passes (Err error) step = Fails error step
