-- What the calls of a run declare (MPI 4.0, "Groups, Contexts, Communicators, and Caching").
use Rattle.std.specs.Prelude.{ℕ, List, Bool, Option, option_map, find, nat_eq}
use Rattle.std.specs.List.{filter_map, flat_map}
use Rattle.std.specs.Cmp.Lexicographic.{pointwise}
use Rattle.rma_base.specs.declared.rank.Rank.{Rank}
use Rattle.rma_call.specs.Call.{Call, RankCalls}
use Rattle.rma_call.specs.declared.what.What.{What}
use Rattle.rma_member.specs.declared.declaration.Declaration.{Declaration}

-- what a call of a rank declares, where it is of the kind
abbrev pub declaration_of : {T : Type 0} → (What → Option (List ℕ × T)) → Rank → Call → Option (Declaration T)
declaration_of stated rank call = option_map (λ s. record { rank = rank; line = call.line; name = s.0; attributes = s.1 }) (stated call.what)

-- what calls of one rank declare, by line
abbrev pub declarations_of : {T : Type 0} → (What → Option (List ℕ × T)) → Rank → List Call → List (Declaration T)
declarations_of stated rank calls = filter_map (declaration_of stated rank) calls

-- what the calls of all ranks declare, by rank and then by line
abbrev pub declarations : {T : Type 0} → (What → Option (List ℕ × T)) → List RankCalls → List (Declaration T)
declarations stated ranks = flat_map (λ r. declarations_of stated r.rank r.calls) ranks

-- whether a call declares this name
abbrev pub is_of : {T : Type 0} → List ℕ → Declaration T → Bool
is_of name declaration = pointwise nat_eq declaration.name name

-- the first declaration of a name: that of the lowest rank that declares it
abbrev pub first_of : {T : Type 0} → List (Declaration T) → List ℕ → Option (Declaration T)
first_of list name = find (is_of name) list
