-- The order of the names of accesses: by rank, then by line, then by role.
use Rattle.std.specs.Prelude.{◌≡◌, ◌<◌, ◌⊎◌, ℕ}
use Rattle.rma_rules.specs.declared.access_name.AccessName.{AccessName}
use Rattle.rma_rules.specs.declared.access_name.Role.{Role}
use Rattle.rma_rules.specs.declared.access_name.Role.TheVariants.{Local, Target, Origin, Result, Compare}

-- the place of a role among the roles
abbrev pub role_place : Role → ℕ
role_place Local = 0
role_place Target = 1
role_place Origin = 2
role_place Result = 3
role_place Compare = 4

-- of two names of one rank the first comes before the other
abbrev pub IsEarlier : AccessName → AccessName → Type 0
IsEarlier a b = (a.line.0 < b.line.0) ⊎ ((a.line.0 ≡ b.line.0) × (role_place a.role < role_place b.role))

-- one name comes before another
abbrev pub IsBefore : AccessName → AccessName → Type 0
IsBefore a b = (a.rank.0 < b.rank.0) ⊎ ((a.rank.0 ≡ b.rank.0) × IsEarlier a b)
