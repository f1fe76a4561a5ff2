-- What messages match by (MPI 4.0, "Point-to-Point Communication").
use Rattle.std.specs.Prelude.{Bool, ◌&&◌, ◌==◌, nat_eq}
use Rattle.std.specs.Cmp.Lexicographic.{pointwise}
use Rattle.rma_message.specs.declared.key.Key.{Key}
use Rattle.rma_message.specs.declared.end.End.{End}

-- whether two keys have the same sender, receiver, communicator and tag
abbrev pub same_key : Key → Key → Bool
same_key a b = a.from.0 == b.from.0 && (a.to.0 == b.to.0 && (pointwise nat_eq a.comm b.comm && a.tag == b.tag))

-- whether an end of a message has this key
abbrev pub has_key : Key → End → Bool
has_key key e = same_key e.key key
