-- Lists, one after another.
use Rattle.std.proofs.Common.{◌≡◌, List, [], ◌++◌}
use Rattle.std.proofs.lemmas.List.{append_assoc, append-nil}

-- one more list at the end of others
pub appended : {X : Type 0} {a b l more new : List X} → new ≡ l ++ more → l ≡ a → more ≡ b → new ≡ a ++ b
appended is same_list same_more = cc

-- the lists of all reasons
pub joined : {X : Type 0} (a b c d e f g h i j k : List X) →
    (((a ++ b) ++ ((c ++ d) ++ e)) ++ (f ++ g)) ++ (((h ++ i) ++ j) ++ k) ≡ a ++ (b ++ (c ++ (d ++ (e ++ (f ++ (g ++ (h ++ (i ++ (j ++ (k ++ []))))))))))
joined a b c d e f g h i j k = simp (append_assoc, append-nil)
