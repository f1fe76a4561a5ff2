-- The command that words ask for, as they are read from left to right.
use Rattle.std.proofs.Common.{◌≡◌, ℕ, Bool, true, false, cond, List, [], ◌∷◌, codes, Some, None, Option, option_map, refl, sym, subst}
use Rattle.std.proofs.lemmas.Option.{none-some}
use Rattle.std.proofs.lemmas.Slice.Eq.{bytes_eq-Decides}
use Rattle.rma_command.specs.Words.{Command, Audits, AuditsStrictly, Explains, Tries, AskFor}
use Rattle.rma_command.specs.inside.Words.{is, audit_behind, strict_behind, explain_behind, trial_behind, command_behind, command_of}
use Rattle.rma_command.proofs.AuditLemmas.{audit_is_read, audit_read}
use Rattle.rma_command.proofs.StrictLemmas.{strict_is_read, strict_read}
use Rattle.rma_command.proofs.ExplainLemmas.{explain_is_read, explain_read}
use Rattle.rma_command.proofs.TrialLemmas.{trial_is_read, trial_read}

abbrev Words : Type 0
Words = List (List ℕ)

pub command_is_read : (words : Words) (command : Command) → AskFor words command → command_of words ≡ Some command
command_is_read words (Audits audit) h = audit_is_read words audit h
command_is_read words (AuditsStrictly strict) h = strict_is_read words strict h
command_is_read words (Explains explain) h = explain_is_read words explain h
command_is_read words (Tries trial) h = trial_is_read words trial h

-- what is read behind a verb, where it is made into this command
made_of : {X : Type 0} (of : X → Command) (found : Option X) (command : Command) → option_map of found ≡ Some command → (x : X) × (found ≡ Some x) × (of x ≡ command)
made_of of None command none = absurd (none-some command none)
made_of of (Some x) command some = (x, refl, cc)

-- a verb that is this word, where the words behind it ask for a command
by_verb : (verb known : List ℕ) (words : Words) (command : Command) → is verb known ≡ true → AskFor (known ∷ words) command → AskFor (verb ∷ words) command
by_verb verb known words command same asked = subst (λ first. AskFor (first ∷ words) command) (sym ((bytes_eq-Decides verb known).0 same)) asked

module _ (words : Words) (command : Command) where
  audits : option_map Audits (audit_behind words) ≡ Some command → AskFor (codes "audit" ∷ words) command
  audits some = let found = made_of Audits (audit_behind words) command some in subst (λ c. AskFor (codes "audit" ∷ words) c) found.2 (audit_read words found.0 found.1)

  stricts : option_map AuditsStrictly (strict_behind words) ≡ Some command → AskFor (codes "strict" ∷ words) command
  stricts some = let found = made_of AuditsStrictly (strict_behind words) command some in subst (λ c. AskFor (codes "strict" ∷ words) c) found.2 (strict_read words found.0 found.1)

  explains : option_map Explains (explain_behind words) ≡ Some command → AskFor (codes "explain" ∷ words) command
  explains some = let found = made_of Explains (explain_behind words) command some in subst (λ c. AskFor (codes "explain" ∷ words) c) found.2 (explain_read words found.0 found.1)

  tries : option_map Tries (trial_behind words) ≡ Some command → AskFor (codes "trial" ∷ words) command
  tries some = let found = made_of Tries (trial_behind words) command some in subst (λ c. AskFor (codes "trial" ∷ words) c) found.2 (trial_read words found.0 found.1)

behind_is_command : (verb : List ℕ) (words : Words) (command : Command) → command_behind verb words ≡ Some command → AskFor (verb ∷ words) command
behind_is_command verb words command h = by (is verb (codes "audit")) (is verb (codes "strict")) (is verb (codes "explain")) (is verb (codes "trial")) refl refl refl refl h
  where
    by : (a s e t : Bool) → is verb (codes "audit") ≡ a → is verb (codes "strict") ≡ s → is verb (codes "explain") ≡ e → is verb (codes "trial") ≡ t
        → cond a (option_map Audits (audit_behind words))
        (cond s (option_map AuditsStrictly (strict_behind words)) (cond e (option_map Explains (explain_behind words)) (cond t (option_map Tries (trial_behind words)) None)))
        ≡ Some command
        → AskFor (verb ∷ words) command
    by true s e t audit strict explain trial some = by_verb verb (codes "audit") words command audit (audits words command some)
    by false true e t audit strict explain trial some = by_verb verb (codes "strict") words command strict (stricts words command some)
    by false false true t audit strict explain trial some = by_verb verb (codes "explain") words command explain (explains words command some)
    by false false false true audit strict explain trial some = by_verb verb (codes "trial") words command trial (tries words command some)
    by false false false false audit strict explain trial none = absurd (none-some command none)

pub read_is_command : (words : Words) (command : Command) → command_of words ≡ Some command → AskFor words command
read_is_command [] command h = absurd (none-some command h)
read_is_command (verb ∷ words) command h = behind_is_command verb words command h
