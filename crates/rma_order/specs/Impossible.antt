-- The calls of a run that are never left (MPI 4.0, "MPI Terms and Conventions").
use Rattle.std.specs.Prelude.{ℕ, ◌≡◌, List, [], ◌∷◌, Option, slice_get, option_map, drop}
use Rattle.std.specs.List.{cons_option}
use Rattle.std.specs.Option.{option_and_then}
use Rattle.rma_call.specs.Call.{RankCalls}
use Rattle.rma_run.specs.Run.{lens_of}
use Rattle.rma_walk.specs.Outcome.{AreFirstImpossible}
use Rattle.rma_order.specs.declared.impossible.ImpossibleCall.{ImpossibleCall}
use Rattle.rma_order.specs.RunLinks.{links_of}

-- the call of this number of a rank
abbrev pub told : RankCalls → ℕ → Option ImpossibleCall
told own number = option_map (λ call. record { rank = own.rank; line = call.line }) (slice_get own.calls number)

-- the number that stands at an index, if one does
abbrev pub first_at : List (Option ℕ) → ℕ → Option ℕ
first_at firsts rank = option_and_then (λ first. first) (slice_get firsts rank)

-- the calls that are told, where each rank has at most one, by its number
abbrev pub told_all : List RankCalls → List (Option ℕ) → List ImpossibleCall
told_all [] firsts = []
told_all (own ∷ ranks) firsts = cons_option (option_and_then (told own) (first_at firsts 0)) (told_all ranks (drop 1 firsts))

-- the first call of each rank that has a point at or after one of two points which are each before the other, by rank
abbrev pub AreImpossibleCalls : List RankCalls → List ImpossibleCall → Type 0
AreImpossibleCalls ranks found = (firsts : List (Option ℕ)) × AreFirstImpossible (lens_of ranks) (links_of ranks) firsts × (found ≡ told_all ranks firsts)
