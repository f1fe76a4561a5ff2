-- What holds of a value that may be there.
use Rattle.std.proofs.Common.{◌≡◌, Option, Some, None, IfSome, option_map, subst, refl}
use Rattle.std.specs.Option.{option_and_then, option_or}
use Rattle.std.proofs.lemmas.Option.{none-some, same_Some}

pub each_some : {X : Type 0} (P : X → Type 0) (o : Option X) → ((x : X) → o ≡ Some x → P x) → IfSome o P
each_some P None each = tt
each_some P (Some x) each = each x refl

pub some_is : {X : Type 0} (P : X → Type 0) (o : Option X) → IfSome o P → (x : X) → o ≡ Some x → P x
some_is P None if x is = absurd (none-some x is)
some_is P (Some y) if x is = subst P (same_Some y x is) if

pub and_then_some : {X Y : Type 0} (P : Y → Type 0) (f : X → Option Y) (o : Option X) → ((x : X) → IfSome (f x) P) → IfSome (option_and_then f o) P
and_then_some P f None each = tt
and_then_some P f (Some x) each = each x

pub or_some : {X : Type 0} (P : X → Type 0) (a b : Option X) → IfSome a P → IfSome b P → IfSome (option_or a b) P
or_some P None b first second = second
or_some P (Some x) b first second = first

pub map_some : {X Y : Type 0} (P : X → Type 0) (Q : Y → Type 0) (f : X → Y) → ((x : X) → P x → Q (f x)) → (o : Option X) → IfSome o P → IfSome (option_map f o) Q
map_some P Q f each None if = tt
map_some P Q f each (Some x) if = each x if

-- a value that is mapped comes of one
pub mapped : {X Y : Type 0} (f : X → Y) (o : Option X) (y : Y) → option_map f o ≡ Some y → (x : X) × (o ≡ Some x) × (f x ≡ y)
mapped f None y is = absurd (none-some y is)
mapped f (Some x) y is = (x, refl, same_Some (f x) y is)
