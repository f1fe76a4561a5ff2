-- The calls that create windows (MPI 4.0, "One-Sided Communications").
use Rattle.std.specs.Prelude.{ℕ, ◌+◌, List, [], ◌∷◌, Bool, true, false, ◌&&◌, ◌==◌, Option, Some, None, option_map, find, filter, not, nat_eq}
use Rattle.std.specs.List.{cons_option, flat_map}
use Rattle.std.specs.Cmp.Lexicographic.{pointwise}
use Rattle.rma_base.specs.Limits.{address_limit}
use Rattle.rma_base.specs.declared.rank.Rank.{Rank}
use Rattle.rma_base.specs.declared.window.WinModel.{WinModel}
use Rattle.rma_base.specs.declared.window.AccOps.{AccOps}
use Rattle.rma_call.specs.Call.{Call, RankCalls}
use Rattle.rma_call.specs.declared.what.What.{What}
use Rattle.rma_call.specs.declared.what.What.TheVariants.{Sync}
use Rattle.rma_call.specs.declared.what.SyncCall.TheVariants.{Window}
use Rattle.rma_call.specs.declared.window.WindowCall.TheVariants.{Create}
use Rattle.rma_window.specs.declared.part.Part.{Part}

-- the creation of a window by a rank: the name of the window, what it is created with, and the part of the rank
pub record Creation : Type 0 where
  pub rank : Rank
  pub name : List ℕ
  pub model : WinModel
  pub ops : AccOps
  pub dynamic : Bool
  pub part : Part

-- the part that the call of this number states; that of a dynamic window is the whole space of addresses, byte by byte
abbrev pub part_of_call : ℕ → ℕ → ℕ → Bool → ℕ → Part
part_of_call base size unit true number = record { base = 0; size = address_limit; unit = 1; created = number }
part_of_call base size unit false number = record { base = base; size = size; unit = unit; created = number }

-- the creation that the call of this number of a rank is, if it is one
abbrev pub creation_of : Rank → ℕ → What → Option Creation
creation_of rank number (Sync (Window (Create window comm base size unit model ops dynamic))) =
    Some (record { rank = rank; name = window; model = model; ops = ops; dynamic = dynamic; part = part_of_call base size unit dynamic number })
creation_of rank number _ = None

-- the creations among some calls of a rank, the first of which has this number
abbrev pub creations_from : Rank → ℕ → List Call → List Creation
creations_from rank number [] = []
creations_from rank number (call ∷ calls) = cons_option (creation_of rank number call.what) (creations_from rank (number + 1) calls)

-- the creations among the calls of all ranks, rank by rank in the order of the logs
abbrev pub creations : List RankCalls → List Creation
creations ranks = flat_map (λ r. creations_from r.rank 0 r.calls) ranks

-- whether a creation is that of this window by this rank
abbrev pub is_by : List ℕ → Rank → Creation → Bool
is_by name rank c = pointwise nat_eq name c.name && rank.0 == c.rank.0

-- the part of a rank in the window of a name, as its first creation by the rank states it
abbrev pub part_by : List Creation → List ℕ → Rank → Option Part
part_by list name rank = option_map (λ c. c.part) (find (is_by name rank) list)

-- what the first creation of the window of a name creates it with
abbrev pub attributes_by : List Creation → List ℕ → Option (List ℕ × WinModel × AccOps × Bool)
attributes_by list name = option_map (λ c. (c.name, c.model, c.ops, c.dynamic)) (find (λ c. pointwise nat_eq name c.name) list)

-- the names of the windows that are created, each once, in the order of their first creations
abbrev pub names_by : List Creation → List (List ℕ)
names_by [] = []
names_by (c ∷ cs) = c.name ∷ filter (λ name. not (pointwise nat_eq c.name name)) (names_by cs)
