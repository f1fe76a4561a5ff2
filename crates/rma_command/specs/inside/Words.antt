-- How the words of the command line are read, from left to right.
use Rattle.std.specs.Prelude.{ℕ, ◌*◌, List, [], ◌∷◌, length, codes, Bool, true, false, ◌&&◌, Option, Some, None, option_map, nat_eq, nat_le, not, ◌==◌, if◌then◌else◌}
use Rattle.std.specs.List.{list_all}
use Rattle.std.specs.Option.{option_and_then}
use Rattle.std.specs.Cmp.Lexicographic.{pointwise}
use Rattle.rma_base.specs.Limits.{rank_limit}
use Rattle.rma_gen.specs.declared.trial.Trial.{Trial}
use Rattle.rma_command.specs.Words.{Audit, Strict, Explain, Command, Audits, AuditsStrictly, Explains, Tries, number_of}

-- whether a word is this one
abbrev pub is : List ℕ → List ℕ → Bool
is word other = pointwise nat_eq word other

-- a limit that the first word gives, and the words behind it
abbrev pub limit_behind : List (List ℕ) → Option (Option ℕ × List (List ℕ))
limit_behind [] = None
limit_behind (word ∷ rest) = option_map (λ limit. (Some limit, rest)) (number_of word)

-- the limit, if the first words give one, and the words behind it; nothing where it is no number
abbrev pub limit_from : List (List ℕ) → Option (Option ℕ × List (List ℕ))
limit_from [] = Some (None, [])
limit_from (word ∷ rest) = if is word (codes "--limit") then limit_behind rest else Some (None, word ∷ rest)

-- whether the first word asks for JSON, and the words behind it
abbrev pub json_from : List (List ℕ) → Bool × List (List ℕ)
json_from [] = (false, [])
json_from (word ∷ rest) = if is word (codes "--json") then (true, rest) else (false, word ∷ rest)

-- whether a word is not empty, and no option
abbrev pub is_name : List ℕ → Bool
is_name [] = false
is_name (first ∷ rest) = not (first == 45)

-- whether a word is not empty
abbrev pub is_some : List ℕ → Bool
is_some [] = false
is_some (first ∷ rest) = true

-- the words as names, where all are of the right form, and there are as many as there may be
abbrev pub names_if : Bool → List (List ℕ) → Option (List (List ℕ))
names_if right words = if right && nat_le 1 (length words) && nat_le (length words) rank_limit then Some words else None

-- the names, where all words are names
abbrev pub names_from : List (List ℕ) → Option (List (List ℕ))
names_from [] = None
names_from (word ∷ rest) = if is word (codes "--") then names_if (list_all is_some rest) rest else names_if (list_all is_name (word ∷ rest)) (word ∷ rest)

-- the audit of a limit and a form, where all other words are names
abbrev pub with_names : Option ℕ → Bool → List (List ℕ) → Option Audit
with_names limit json words = option_map (λ names. record { limit = limit; json = json; names = names }) (names_from words)

-- the audit where the words before `--json`, if it is there, gave this limit
abbrev pub after_json : Option ℕ → Bool × List (List ℕ) → Option Audit
after_json (Some limit) words = with_names (Some limit) words.0 words.1
after_json None words = option_and_then (λ found. with_names found.0 words.0 found.1) (limit_from words.1)

-- the audit behind the verb
abbrev pub audit_behind : List (List ℕ) → Option Audit
audit_behind words = option_and_then (λ found. after_json found.0 (json_from found.1)) (limit_from words)

-- the strict audit behind the verb
abbrev pub strict_behind : List (List ℕ) → Option Strict
strict_behind words = option_and_then (λ found. option_map (λ names. record { limit = found.0; names = names }) (names_from found.1)) (limit_from words)

-- a number that is counted from 1
abbrev pub ordinal : Option ℕ → Option ℕ
ordinal None = None
ordinal (Some number) = if nat_le 1 number then Some number else None

-- the explanation behind the verb
abbrev pub explain_behind : List (List ℕ) → Option Explain
explain_behind [] = None
explain_behind (word ∷ rest) = option_and_then (λ number. option_map (λ names. record { number = number; names = names }) (names_from rest)) (ordinal (number_of word))

-- whether a trial may ask for this
abbrev pub can_run : Trial → Bool
can_run trial = nat_le 2 trial.ranks && nat_le trial.ranks 64 && nat_le 1 trial.rounds && nat_le (trial.ranks * trial.rounds) 1000000

-- the trial of three numbers
abbrev pub trial_of : Option ℕ → Option ℕ → Option ℕ → Option Trial
trial_of None rounds seed = None
trial_of (Some ranks) None seed = None
trial_of (Some ranks) (Some rounds) None = None
trial_of (Some ranks) (Some rounds) (Some seed) =
    if can_run (record { ranks = ranks; rounds = rounds; seed = seed }) then Some (record { ranks = ranks; rounds = rounds; seed = seed }) else None

-- the trial behind the verb
abbrev pub trial_behind : List (List ℕ) → Option Trial
trial_behind [] = None
trial_behind (ranks ∷ []) = None
trial_behind (ranks ∷ rounds ∷ []) = None
trial_behind (ranks ∷ rounds ∷ seed ∷ []) = trial_of (number_of ranks) (number_of rounds) (number_of seed)
trial_behind (ranks ∷ rounds ∷ seed ∷ word ∷ rest) = None

-- the command of a verb and the words behind it
abbrev pub command_behind : List ℕ → List (List ℕ) → Option Command
command_behind verb words =
    if is verb (codes "audit") then option_map Audits (audit_behind words)
    else if is verb (codes "strict") then option_map AuditsStrictly (strict_behind words)
    else if is verb (codes "explain") then option_map Explains (explain_behind words)
    else if is verb (codes "trial") then option_map Tries (trial_behind words)
    else None

-- the command of all words
abbrev pub command_of : List (List ℕ) → Option Command
command_of [] = None
command_of (verb ∷ words) = command_behind verb words
