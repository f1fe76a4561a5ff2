-- Words of basic datatypes that differ.
use Rattle.std.specs.Prelude.{List, [], ◌∷◌, Bool, true, not, ◌&&◌, nat_eq}
use Rattle.std.specs.List.{list_all}
use Rattle.std.specs.Cmp.Lexicographic.{pointwise}
use Rattle.rma_datatype.specs.declared.basic.Basic.{Basic}
use Rattle.rma_datatype.specs.Basic.{basic_word}

-- whether no two of some basic datatypes have the same word
abbrev pub words_differ : List Basic → Bool
words_differ [] = true
words_differ (b ∷ bs) = list_all (λ later. not (pointwise nat_eq (basic_word later) (basic_word b))) bs && words_differ bs
