-- What the words of the command line ask for.
use Rattle.std.specs.Prelude.{◌≡◌, ◌≢◌, ℕ, ◌≤◌, ◌^◌, ◌⊎◌, List, [], ◌∷◌, ◌++◌, length, codes, All, Bool, true, false, ◌&&◌, Option, Some, None, nat_le, nat_lt, if◌then◌else◌}
use Rattle.std.specs.List.{list_all}
use Rattle.std.specs.Char.{digit_value}
use Rattle.std.specs.Str.Parse.{digits_value}
use Rattle.rma_base.specs.Limits.{rank_limit}
use Rattle.rma_gen.specs.Trial.{CanRun}
use Rattle.rma_gen.specs.declared.trial.Trial.{Trial}

-- an audit: of which logs, how many findings are shown where the words say how many, and whether the report is JSON
pub record Audit : Type 0 where
  pub limit : Option ℕ
  pub json : Bool
  pub names : List (List ℕ)

-- a strict audit: of which logs, and how many findings are shown where the words say how many
pub record Strict : Type 0 where
  pub limit : Option ℕ
  pub names : List (List ℕ)

-- an explanation: of which finding, by its number from 1, and of which logs
pub record Explain : Type 0 where
  pub number : ℕ
  pub names : List (List ℕ)

-- whether a byte is a decimal digit
abbrev pub is_digit : ℕ → Bool
is_digit byte = nat_lt (digit_value byte) 10

-- the number of a word of 1 to 10 decimal digits, at most 4,294,967,295; any other word is no number
abbrev pub number_of : List ℕ → Option ℕ
number_of word =
    if nat_le 1 (length word) && nat_le (length word) 10 && list_all is_digit word && nat_lt (digits_value 10 word) (2 ^ 32) then Some (digits_value 10 word) else None

-- the words that say how many findings are shown: none, or `--limit` and the number
abbrev pub AreLimit : List (List ℕ) → Option ℕ → Type 0
AreLimit words None = words ≡ []
AreLimit words (Some limit) = (word : List ℕ) × (words ≡ codes "--limit" ∷ word ∷ []) × (number_of word ≡ Some limit)

-- the words that ask for JSON
abbrev pub json_words : Bool → List (List ℕ)
json_words true = codes "--json" ∷ []
json_words false = []

-- the options of an audit: each at most once, in either order
abbrev pub AreOptions : List (List ℕ) → Option ℕ → Bool → Type 0
AreOptions words limit json =
    (limits : List (List ℕ)) × AreLimit limits limit × ((words ≡ limits ++ json_words json) ⊎ (words ≡ json_words json ++ limits))

-- a name of a log where options may stand: not empty, and no option, which begins with a dash
abbrev pub IsName : List ℕ → Type 0
IsName [] = ⊥
IsName (first ∷ rest) = first ≢ 45

-- a name of a log behind `--`: not empty
abbrev pub IsSome : List ℕ → Type 0
IsSome [] = ⊥
IsSome (first ∷ rest) = Unit {0}

-- the names of the logs: 1 to as many as there may be logs, behind `--` or not
abbrev pub AreNames : List (List ℕ) → List (List ℕ) → Type 0
AreNames words names =
    (1 ≤ length names) × (length names ≤ rank_limit) × (((words ≡ names) × All IsName names) ⊎ ((words ≡ codes "--" ∷ names) × All IsSome names))

-- the words ask for this audit: the word `audit`, options, and names
pub record IsAudit (words : List (List ℕ)) (audit : Audit) : Type 0 where
  pub options : List (List ℕ)
  pub rest : List (List ℕ)
  pub words_are : words ≡ codes "audit" ∷ options ++ rest
  pub options_are : AreOptions options audit.limit audit.json
  pub names_are : AreNames rest audit.names

-- the words ask for this strict audit: the word `strict`, a limit or none, and names
pub record IsStrict (words : List (List ℕ)) (strict : Strict) : Type 0 where
  pub limits : List (List ℕ)
  pub rest : List (List ℕ)
  pub words_are : words ≡ codes "strict" ∷ limits ++ rest
  pub limit_is : AreLimit limits strict.limit
  pub names_are : AreNames rest strict.names

-- the words ask for this explanation: the word `explain`, the number of a finding, which is at least 1, and names
pub record IsExplain (words : List (List ℕ)) (explain : Explain) : Type 0 where
  pub word : List ℕ
  pub rest : List (List ℕ)
  pub words_are : words ≡ codes "explain" ∷ word ∷ rest
  pub number_is : number_of word ≡ Some explain.number
  pub from_one : 1 ≤ explain.number
  pub names_are : AreNames rest explain.names

-- the words ask for this trial: the word `trial`, and how many ranks, how many rounds and which seed
pub record IsTrial (words : List (List ℕ)) (trial : Trial) : Type 0 where
  pub ranks : List ℕ
  pub rounds : List ℕ
  pub seed : List ℕ
  pub words_are : words ≡ codes "trial" ∷ ranks ∷ rounds ∷ seed ∷ []
  pub ranks_are : number_of ranks ≡ Some trial.ranks
  pub rounds_are : number_of rounds ≡ Some trial.rounds
  pub seed_is : number_of seed ≡ Some trial.seed
  pub can_run : CanRun trial

-- a command
pub data Command : Type 0 where
  Audits : Audit → Command
  AuditsStrictly : Strict → Command
  Explains : Explain → Command
  Tries : Trial → Command

-- the names of the logs that a command is about: a trial makes its own
abbrev pub names_of : Command → List (List ℕ)
names_of (Audits audit) = audit.names
names_of (AuditsStrictly strict) = strict.names
names_of (Explains explain) = explain.names
names_of (Tries trial) = []

-- the words ask for this command
abbrev pub AskFor : List (List ℕ) → Command → Type 0
AskFor words (Audits audit) = IsAudit words audit
AskFor words (AuditsStrictly strict) = IsStrict words strict
AskFor words (Explains explain) = IsExplain words explain
AskFor words (Tries trial) = IsTrial words trial

-- the words are no command
abbrev pub AreFaulty : List (List ℕ) → Type 0
AreFaulty words = (command : Command) → ¬ AskFor words command
