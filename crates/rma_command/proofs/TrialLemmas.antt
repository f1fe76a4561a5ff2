-- The trial that words ask for.
use Rattle.std.proofs.Common.{◌*◌, ◌&&◌, nat_le, ◌≡◌, ℕ, Bool, true, false, cond, List, [], ◌∷◌, codes, Some, None, Option, refl, subst}
use Rattle.std.proofs.lemmas.Bool.{le-leb, leb-true}
use Rattle.std.proofs.lemmas.Option.{none-some}
use Rattle.rma_base.proofs.NameLemmas.{and_left, and_right}
use Rattle.rma_gen.specs.Trial.{CanRun}
use Rattle.rma_gen.specs.declared.trial.Trial.{Trial}
use Rattle.rma_command.specs.Words.{Tries, IsTrial, number_of}
use Rattle.rma_command.specs.inside.Words.{can_run, trial_of, trial_behind, command_of}

abbrev Words : Type 0
Words = List (List ℕ)

passes_run : (trial : Trial) → CanRun trial → can_run trial ≡ true
passes_run trial can = rw (le-leb 2 trial.ranks can.some_ranks, le-leb trial.ranks 64 can.few_ranks, le-leb 1 trial.rounds can.some_rounds, le-leb (trial.ranks * trial.rounds) 1000000 can.few_rounds) refl

run_passes : (trial : Trial) → can_run trial ≡ true → CanRun trial
run_passes trial can =
    let low = nat_le 2 trial.ranks in
    let high = nat_le trial.ranks 64 in
    let some = nat_le 1 trial.rounds in
    let few = nat_le (trial.ranks * trial.rounds) 1000000 in
    let three = and_left (low && high && some) few can in
    let two = and_left (low && high) some three in record {
      some_ranks = leb-true 2 trial.ranks (and_left low high two);
      few_ranks = leb-true trial.ranks 64 (and_right low high two);
      some_rounds = leb-true 1 trial.rounds (and_right (low && high) some three);
      few_rounds = leb-true (trial.ranks * trial.rounds) 1000000 (and_right (low && high && some) few can);
    }

pub trial_is_read : (words : Words) (trial : Trial) → IsTrial words trial → command_of words ≡ Some (Tries trial)
trial_is_read words trial h = rw (h.words_are, h.ranks_are, h.rounds_are, h.seed_is, passes_run trial h.can_run) refl

pub trial_read : (words : Words) (trial : Trial) → trial_behind words ≡ Some trial → IsTrial (codes "trial" ∷ words) trial
trial_read [] trial h = absurd (none-some trial h)
trial_read (ranks ∷ []) trial h = absurd (none-some trial h)
trial_read (ranks ∷ rounds ∷ []) trial h = absurd (none-some trial h)
trial_read (ranks ∷ rounds ∷ seed ∷ word ∷ rest) trial h = absurd (none-some trial h)
trial_read (ranks ∷ rounds ∷ seed ∷ []) trial h = at (number_of ranks) (number_of rounds) (number_of seed) refl refl refl h
  where
    at : (r o s : Option ℕ) → number_of ranks ≡ r → number_of rounds ≡ o → number_of seed ≡ s → trial_of r o s ≡ Some trial → IsTrial (codes "trial" ∷ ranks ∷ rounds ∷ seed ∷ []) trial
    at None o s r_is o_is s_is none = absurd (none-some trial none)
    at (Some r) None s r_is o_is s_is none = absurd (none-some trial none)
    at (Some r) (Some o) None r_is o_is s_is none = absurd (none-some trial none)
    at (Some r) (Some o) (Some s) r_is o_is s_is some = by (can_run (record { ranks = r; rounds = o; seed = s })) refl some
      where
        numbers : Trial
        numbers = record { ranks = r; rounds = o; seed = s }

        by : (b : Bool) → can_run numbers ≡ b → cond b (Some numbers) None ≡ Some trial → IsTrial (codes "trial" ∷ ranks ∷ rounds ∷ seed ∷ []) trial
        by false fails none = absurd (none-some trial none)
        by true holds found =
            let same : numbers ≡ trial = cc in
            subst (λ t. IsTrial (codes "trial" ∷ ranks ∷ rounds ∷ seed ∷ []) t) same
            (record { ranks = ranks; rounds = rounds; seed = seed; words_are = refl; ranks_are = r_is; rounds_are = o_is; seed_is = s_is; can_run = run_passes numbers holds })
