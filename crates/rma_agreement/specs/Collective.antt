-- Which calls every member has to make, and the round that each has a part in (MPI 4.0, "Collective Communication" and
-- "One-Sided Communications").
use Rattle.std.specs.Prelude.{ℕ, List, [], ◌∷◌, ◌++◌, Option, option_map, slice_get}
use Rattle.std.specs.List.{cons_option, flat_map}
use Rattle.std.specs.Option.{option_map_or}
use Rattle.rma_base.specs.declared.rank.Rank.{Rank}
use Rattle.rma_base.specs.declared.line.LineNo.{LineNo}
use Rattle.rma_call.specs.Call.{Call, RankCalls}
use Rattle.rma_call.specs.declared.what.What.{What}
use Rattle.rma_round.specs.declared.kind.Kind.{Kind}
use Rattle.rma_round.specs.declared.kind.Kind.TheVariants as kind
use Rattle.rma_round.specs.Kind.{moved_on, named, count_of}
use Rattle.rma_agreement.specs.declared.argument.Arguments.{Arguments}
use Rattle.rma_agreement.specs.Argument.{arguments_of}

-- how many barriers and window creations stand before a call on the communicator on which it moves data
abbrev pub place_of : List Call → What → ℕ
place_of before what = option_map_or (λ comm. count_of kind.Collective comm before) (moved_on what) 0

-- what is had of the calls of a rank after some others, each with all those before it
abbrev pub walked : {Y : Type 0} → (Rank → List Call → Call → Option Y) → Rank → List Call → List Call → List Y
walked f rank before [] = []
walked f rank before (c ∷ cs) = cons_option (f rank before c) (walked f rank (before ++ c ∷ []) cs)

-- what is had of the calls of all ranks, by rank and then by line
abbrev pub walked_all : {Y : Type 0} → (Rank → List Call → Call → Option Y) → List RankCalls → List Y
walked_all f ranks = flat_map (λ r. walked f r.rank [] r.calls) ranks

-- a call of a kind: its rank and line, what it is on, the number of its round, which is its number among the calls of this
-- kind of the rank on that name, from 0, and what it has to agree on with the others of its round
pub record RoundCall : Type 0 where
  pub rank : Rank
  pub line : LineNo
  pub name : List ℕ
  pub number : ℕ
  pub arguments : Arguments

-- a call of a rank after others, where it is of the kind
abbrev pub round_call_at : Kind → Rank → List Call → Call → Option RoundCall
round_call_at kind rank before call =
    option_map
    (λ name. record { rank = rank; line = call.line; name = name; number = count_of kind name before; arguments = arguments_of (place_of before call.what) call.what })
    (named kind call.what)

-- the calls of the kind of a run
abbrev pub round_calls : Kind → List RankCalls → List RoundCall
round_calls kind ranks = walked_all (round_call_at kind) ranks

-- how many calls of this kind a rank makes on the name
abbrev pub made : Kind → List RankCalls → ℕ → List ℕ → ℕ
made kind ranks rank name = option_map_or (λ r. count_of kind name r.calls) (slice_get ranks rank) 0

-- the same of each rank, by its index
abbrev pub made_on : Kind → List RankCalls → List ℕ → ℕ → ℕ
made_on kind ranks name rank = made kind ranks rank name

-- the ranks before one, and that one with its first calls
abbrev pub so_far : List RankCalls → RankCalls → List Call → List RankCalls
so_far done rank calls = done ++ (record rank { calls = calls }) ∷ []
