-- The words of roles and of rules (the report of this product).
use Rattle.std.specs.Prelude.{ℕ, List, codes}
use Rattle.rma_rules.specs.declared.access_name.Role.{Role}
use Rattle.rma_rules.specs.declared.access_name.Role.TheVariants.{Local, Target, Origin, Result, Compare}
use Rattle.rma_rules.specs.declared.rule.Rule.{Rule}
use Rattle.rma_rules.specs.declared.rule.Rule.TheVariants.{Overlap, StoreInWindow, OtherWindow, Accumulate, Buffer}

-- the word that the report has for a role
abbrev pub role_word : Role → List ℕ
role_word Local = codes "local"
role_word Target = codes "target"
role_word Origin = codes "origin"
role_word Result = codes "result"
role_word Compare = codes "compare"

-- the word that it has for a rule
abbrev pub rule_word : Rule → List ℕ
rule_word Overlap = codes "overlap"
rule_word StoreInWindow = codes "store_in_window"
rule_word OtherWindow = codes "other_window"
rule_word Accumulate = codes "accumulate"
rule_word Buffer = codes "buffer"
