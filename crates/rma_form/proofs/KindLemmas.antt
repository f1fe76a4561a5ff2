-- How the value of a field is written, for each kind, and that it is read back.
use Rattle.std.proofs.Common.{◌≡◌, ℕ, ℤ, suc, ◌^◌, ◌<◌, ◌≤◌, ◌&&◌, Bool, true, false, List, [], ◌∷◌, ◌++◌, length, Option, Some, None, Result, Ok, Err, refl, ap, subst, ◌∙◌, arith, ⊎_elim, leb}
use Rattle.std.specs.Prelude.{pos, negsuc, nat_lt, codes}
use Rattle.std.specs.List.{list_all}
use Rattle.std.proofs.lemmas.Bool.{cases_Bool, leb-true, ltb-true}
use Rattle.rma_base.proofs.NameLemmas.{and_left, and_right}
use Rattle.rma_base.specs.declared.form_reason.FormReason.{FormReason}
use Rattle.rma_base.specs.declared.rank.Rank.{Rank}
use Rattle.rma_base.specs.declared.version.Version.{Version}
use Rattle.rma_base.specs.declared.version.Version.TheVariants.{One, Two}
use Rattle.rma_base.specs.declared.window.WinModel.TheVariants.{Separate, Unified}
use Rattle.rma_base.specs.declared.window.AccOps.TheVariants.{SameOp, SameOpNoOp}
use Rattle.rma_base.specs.Name.{is_name}
use Rattle.rma_base.specs.Version.{ranks_of}
use Rattle.rma_call.specs.declared.epoch.LockKind.TheVariants.{Exclusive, Shared}
use Rattle.rma_datatype.specs.declared.make.Order.TheVariants.{LastFastest, FirstFastest}
use Rattle.rma_datatype.specs.declared.operation.Op.TheVariants as op
use Rattle.rma_field.specs.Integers.{IsBetween}
use Rattle.rma_field.specs.Kinds.{Kind, version, name, rank, size, number, integer, ranks, target, model, operations, operation, lock, order, Value, meaning, name_of, rank_of, target_of, is_word, last_rank, written, target_text}
use Rattle.rma_field.specs.Numbers.{natural, natural_within, number_within}
use Rattle.rma_field.specs.Numbers as numbers
use Rattle.rma_field.specs.Steps.{◌>>=◌}
use Rattle.rma_field.proofs.DecimalLemmas.{is_decimal, some_decimal, decimal_decimal, natural_decimal}
use Rattle.rma_field.proofs.IntegerLemmas.{integer_between, integer_decimal}
use Rattle.rma_field.proofs.RankTextLemmas.{first_differs, rank_set_text, rank_set_rises}
use Rattle.rma_field.proofs.RisingLemmas.{Rises}
use Rattle.rma_form.specs.Fields.{Values, Made, made_of, all_written, values_of}
use Rattle.rma_form.proofs.PlainLemmas.{is_plain, plain_name, plain_decimal, plain_ranks, plain_signed}

-- the last rank of any version
few_ranks : (v : Version) → last_rank v ≤ 1023
few_ranks One = omega arith
few_ranks Two = omega arith

some_ranks : (v : Version) → ranks_of v < 2 ^ 64
some_ranks One = omega arith
some_ranks Two = omega arith

-- the target is a rank of the version, or none
abbrev pub IsGoodTarget : Version → Option Rank → Type 0
IsGoodTarget v None = Unit {0}
IsGoodTarget v (Some r) = r.0 ≤ last_rank v

-- a value that fields of that kind stand for in a version
abbrev pub IsGood : Version → (kind : Kind) → Value kind → Type 0
IsGood v version value = Unit {0}
IsGood v name text = is_name text ≡ true
IsGood v rank r = r.0 ≤ last_rank v
IsGood v size n = (1 ≤ n) × (n ≤ ranks_of v)
IsGood v (number low high) n = (low ≤ n) × (n ≤ high)
IsGood v (integer low high) z = IsBetween low high z
IsGood v ranks them = Rises (last_rank v) 0 them
IsGood v target t = IsGoodTarget v t
IsGood v model which = Unit {0}
IsGood v operations which = Unit {0}
IsGood v operation which = Unit {0}
IsGood v lock which = Unit {0}
IsGood v order which = Unit {0}

-- numbers of the kind have 64 bits
abbrev pub is_narrow : Kind → Bool
is_narrow (number low high) = nat_lt high (2 ^ 64)
is_narrow (integer low high) = nat_lt low (2 ^ 64) && nat_lt high (2 ^ 64)
is_narrow _ = true

natural_within_range : (low high n : ℕ) (z : ℤ) → natural_within low high z ≡ Ok n → (low ≤ n) × (n ≤ high)
natural_within_range low high n (pos m) is =
    ⊎_elim
    (λ (within : (leb low m && leb m high) ≡ true).
    let same : m ≡ n = let it = rw within at is in cc it in
    let from : low ≤ m = leb-true low m (and_left (leb low m) _ within) in
    let to : m ≤ high = leb-true m high (and_right (leb low m) _ within) in
    (omega arith, omega arith))
    (λ (outside : (leb low m && leb m high) ≡ false). absurd (let bad = rw outside at is in cc bad))
    (cases_Bool (leb low m && leb m high))
natural_within_range low high n (negsuc m) is = absurd (cc is)

number_within_range : (low high n : ℕ) (read : Option ℤ) → number_within low high read ≡ Ok n → (low ≤ n) × (n ≤ high)
number_within_range low high n None is = absurd (cc is)
number_within_range low high n (Some z) is = natural_within_range low high n z is

name_good : (text value : List ℕ) → name_of text ≡ Ok value → is_name value ≡ true
name_good text value is =
    ⊎_elim
    (λ (good : is_name text ≡ true). let same : text ≡ value = let it = rw good at is in cc it in subst (λ them. is_name them ≡ true) same good)
    (λ (bad : is_name text ≡ false). absurd (let wrong = rw bad at is in cc wrong))
    (cases_Bool (is_name text))

-- a step that went well
pub bind_ok : {A B : Type 0} (read : Result A FormReason) (next : A → Result B FormReason) (b : B) → (read >>= next) ≡ Ok b → (a : A) × (read ≡ Ok a) × (next a ≡ Ok b)
bind_ok (Ok a) next b is = (a, refl, is)
bind_ok (Err reason) next b is = absurd (cc is)

pub natural_range : (low high n : ℕ) (text : List ℕ) → natural low high text ≡ Ok n → (low ≤ n) × (n ≤ high)
natural_range low high n text is = number_within_range low high n (numbers.number text) is

pub rank_good : (v : Version) (text : List ℕ) (r : Rank) → rank_of v text ≡ Ok r → r.0 ≤ last_rank v
rank_good v text r is =
    let read = bind_ok (natural 0 (last_rank v) text) _ r is in
    let same : record { 0 = read.0 } ≡ r = cc read.2 in
    subst (λ (it : Rank). it.0 ≤ last_rank v) same (natural_range 0 (last_rank v) read.0 text read.1).1

target_good : (v : Version) (text : List ℕ) (t : Option Rank) → target_of v text ≡ Ok t → IsGoodTarget v t
target_good v text t is =
    ⊎_elim
    (λ (none : is_word (codes "null") text ≡ true). let same : None ≡ t = let it = rw none at is in cc it in subst (IsGoodTarget v) same tt)
    (λ (other : is_word (codes "null") text ≡ false).
    let read = bind_ok (rank_of v text) (λ r. Ok (Some r)) t (rw other at is) in
    let same : Some read.0 ≡ t = cc read.2 in
    subst (IsGoodTarget v) same (rank_good v text read.0 read.1))
    (cases_Bool (is_word (codes "null") text))

-- what a field stands for is a good value
meaning_good : (v : Version) (kind : Kind) (text : List ℕ) (value : Value kind) → meaning v kind text ≡ Ok value → IsGood v kind value
meaning_good v version text value is = tt
meaning_good v name text value is = name_good text value is
meaning_good v rank text value is = rank_good v text value is
meaning_good v size text value is = natural_range 1 (ranks_of v) value text is
meaning_good v (number low high) text value is = natural_range low high value text is
meaning_good v (integer low high) text value is = integer_between low high text value is
meaning_good v ranks text value is = rank_set_rises (last_rank v) text value is
meaning_good v target text value is = target_good v text value is
meaning_good v model text value is = tt
meaning_good v operations text value is = tt
meaning_good v operation text value is = tt
meaning_good v lock text value is = tt
meaning_good v order text value is = tt

narrow : (high n : ℕ) → nat_lt high (2 ^ 64) ≡ true → n ≤ high → n < 2 ^ 64
narrow high n low to = let less : high < 2 ^ 64 = ltb-true high (2 ^ 64) low in omega arith

narrow_low : (low high : ℕ) → (nat_lt low (2 ^ 64) && nat_lt high (2 ^ 64)) ≡ true → low < 2 ^ 64
narrow_low low high narrow = ltb-true low (2 ^ 64) (and_left (nat_lt low (2 ^ 64)) _ narrow)

narrow_high : (low high : ℕ) → (nat_lt low (2 ^ 64) && nat_lt high (2 ^ 64)) ≡ true → high < 2 ^ 64
narrow_high low high narrow = ltb-true high (2 ^ 64) (and_right (nat_lt low (2 ^ 64)) _ narrow)

pub narrow_rank : (v : Version) (n : ℕ) → n ≤ last_rank v → n < 2 ^ 64
narrow_rank v n to = let few = few_ranks v in omega arith

narrow_size : (v : Version) (n : ℕ) → n ≤ ranks_of v → n < 2 ^ 64
narrow_size v n to = let few = some_ranks v in omega arith

pub rank_spell : (v : Version) (r : Rank) → r.0 ≤ last_rank v → rank_of v (written rank r) ≡ Ok r
rank_spell v r good = rw (natural_decimal 0 (last_rank v) r.0 (narrow_rank v r.0 good) (omega arith) good) refl

no_word : (text : List ℕ) → 0 < length text → list_all is_decimal text ≡ true → is_word (codes "null") text ≡ false
no_word [] some all = absurd (omega arith)
no_word (byte ∷ rest) some all = rw (first_differs byte (and_left (is_decimal byte) _ all)) refl

not_null : (n : ℕ) (v : Version) → n ≤ last_rank v → is_word (codes "null") (written size n) ≡ false
not_null n v good = no_word (written size n) (some_decimal n (narrow_rank v n good)) (decimal_decimal n (narrow_rank v n good))

target_spell : (v : Version) (t : Option Rank) → IsGoodTarget v t → target_of v (target_text t) ≡ Ok t
target_spell v None good = refl
target_spell v (Some r) good = rw (not_null r.0 v good, rank_spell v r good) refl

-- the word of a good value stands for it
meaning_spell : (v : Version) (kind : Kind) → is_narrow kind ≡ true → (value : Value kind) → IsGood v kind value → meaning v kind (written kind value) ≡ Ok value
meaning_spell v version low One good = refl
meaning_spell v version low Two good = refl
meaning_spell v name low text good = rw good refl
meaning_spell v rank low r good = rank_spell v r good
meaning_spell v size low n good = natural_decimal 1 (ranks_of v) n (narrow_size v n good.1) good.0 good.1
meaning_spell v (number from to) low n good = natural_decimal from to n (narrow to n low good.1) good.0 good.1
meaning_spell v (integer from to) low z good = integer_decimal from to z (narrow_low from to low) (narrow_high from to low) good
meaning_spell v ranks low them good = rank_set_text (last_rank v) them (few_ranks v) good
meaning_spell v target low t good = target_spell v t good
meaning_spell v model low Separate good = refl
meaning_spell v model low Unified good = refl
meaning_spell v operations low SameOp good = refl
meaning_spell v operations low SameOpNoOp good = refl
meaning_spell v operation low op.Max good = refl
meaning_spell v operation low op.Min good = refl
meaning_spell v operation low op.Sum good = refl
meaning_spell v operation low op.Prod good = refl
meaning_spell v operation low op.Land good = refl
meaning_spell v operation low op.Lor good = refl
meaning_spell v operation low op.Lxor good = refl
meaning_spell v operation low op.Band good = refl
meaning_spell v operation low op.Bor good = refl
meaning_spell v operation low op.Bxor good = refl
meaning_spell v operation low op.Replace good = refl
meaning_spell v operation low op.NoOp good = refl
meaning_spell v lock low Exclusive good = refl
meaning_spell v lock low Shared good = refl
meaning_spell v order low LastFastest good = refl
meaning_spell v order low FirstFastest good = refl

plain_target : (v : Version) (t : Option Rank) → IsGoodTarget v t → is_plain (target_text t) ≡ true
plain_target v None good = refl
plain_target v (Some r) good = plain_decimal r.0 (narrow_rank v r.0 good)

-- the word of a good value is plain
plain_spell : (v : Version) (kind : Kind) → is_narrow kind ≡ true → (value : Value kind) → IsGood v kind value → is_plain (written kind value) ≡ true
plain_spell v version low One good = refl
plain_spell v version low Two good = refl
plain_spell v name low text good = plain_name text good
plain_spell v rank low r good = plain_decimal r.0 (narrow_rank v r.0 good)
plain_spell v size low n good = plain_decimal n (narrow_size v n good.1)
plain_spell v (number from to) low n good = plain_decimal n (narrow to n low good.1)
plain_spell v (integer from to) low z good = plain_signed from to z (narrow_low from to low) (narrow_high from to low) good
plain_spell v ranks low them good = plain_ranks (last_rank v) them (few_ranks v) good
plain_spell v target low t good = plain_target v t good
plain_spell v model low Separate good = refl
plain_spell v model low Unified good = refl
plain_spell v operations low SameOp good = refl
plain_spell v operations low SameOpNoOp good = refl
plain_spell v operation low op.Max good = refl
plain_spell v operation low op.Min good = refl
plain_spell v operation low op.Sum good = refl
plain_spell v operation low op.Prod good = refl
plain_spell v operation low op.Land good = refl
plain_spell v operation low op.Lor good = refl
plain_spell v operation low op.Lxor good = refl
plain_spell v operation low op.Band good = refl
plain_spell v operation low op.Bor good = refl
plain_spell v operation low op.Bxor good = refl
plain_spell v operation low op.Replace good = refl
plain_spell v operation low op.NoOp good = refl
plain_spell v lock low Exclusive good = refl
plain_spell v lock low Shared good = refl
plain_spell v order low LastFastest good = refl
plain_spell v order low FirstFastest good = refl

-- each value is a good one
abbrev pub AllGood : Version → (kinds : List Kind) → Values kinds → Type 0
AllGood v [] values = Unit {0}
AllGood v (kind ∷ kinds) values = IsGood v kind values.0 × AllGood v kinds values.1

-- what is made of the values
abbrev pub made_from : {A : Type 0} → (kinds : List Kind) → Made kinds A → Values kinds → A
made_from [] made values = made
made_from (kind ∷ kinds) make values = made_from kinds (make values.0) values.1

pub length_spells : (kinds : List Kind) (values : Values kinds) → length (all_written kinds values) ≡ length kinds
length_spells [] values = refl
length_spells (kind ∷ kinds) values = ap suc (length_spells kinds values.1)

pub plain_spells : (v : Version) (kinds : List Kind) → list_all is_narrow kinds ≡ true → (values : Values kinds) → AllGood v kinds values → list_all is_plain (all_written kinds values) ≡ true
plain_spells v [] low values good = refl
plain_spells v (kind ∷ kinds) low values good =
    rw (plain_spell v kind (and_left (is_narrow kind) _ low) values.0 good.0) (plain_spells v kinds (and_right (is_narrow kind) _ low) values.1 good.1)

-- the words of good values state what is made of the values, whatever stands behind them
pub made_of_spells : {A : Type 0} (v : Version) (kinds : List Kind) (make : Made kinds A) → list_all is_narrow kinds ≡ true → (values : Values kinds) → AllGood v kinds values → (behind : List (List ℕ))
    → made_of v kinds make (all_written kinds values ++ behind) ≡ Ok (made_from kinds make values)
made_of_spells v [] make low values good behind = refl
made_of_spells v (kind ∷ kinds) make low values good behind =
    ap (λ read. read >>= λ value. made_of v kinds (make value) (all_written kinds values.1 ++ behind)) (meaning_spell v kind (and_left (is_narrow kind) _ low) values.0 good.0)
    ∙ made_of_spells v kinds (make values.0) (and_right (is_narrow kind) _ low) values.1 good.1 behind

-- good values that make this
pub record Makes {A : Type 0} (v : Version) (kinds : List Kind) (make : Made kinds A) (made : A) : Type 0 where
  pub values : Values kinds
  pub good : AllGood v kinds values
  pub is : made_from kinds make values ≡ made

-- what is made of fields is made of good values
pub made_of_good : {A : Type 0} (v : Version) (kinds : List Kind) (make : Made kinds A) (texts : List (List ℕ)) (made : A) → made_of v kinds make texts ≡ Ok made → Makes v kinds make made
made_of_good v [] make texts made is = record { values = tt; good = tt; is = cc is }
made_of_good v (kind ∷ kinds) make [] made is = absurd (cc is)
made_of_good v (kind ∷ kinds) make (text ∷ texts) made is =
    let step = bind_ok (meaning v kind text) (λ value. made_of v kinds (make value) texts) made is in
    let rest = made_of_good v kinds (make step.0) texts made step.2 in
    record { values = (step.0, rest.values); good = (meaning_good v kind text step.0 step.1, rest.good); is = rest.is }

-- the first value is what the first field stands for
pub first_value : {A : Type 0} (v : Version) (kind : Kind) (kinds : List Kind) (make : Made (kind ∷ kinds) A) (text : List ℕ) (texts : List (List ℕ)) (made : A)
    → made_of v (kind ∷ kinds) make (text ∷ texts) ≡ Ok made → (makes : Makes v (kind ∷ kinds) make made) × (meaning v kind text ≡ Ok makes.values.0)
first_value v kind kinds make text texts made is =
    let step = bind_ok (meaning v kind text) (λ value. made_of v kinds (make value) texts) made is in
    let rest = made_of_good v kinds (make step.0) texts made step.2 in
    (record { values = (step.0, rest.values); good = (meaning_good v kind text step.0 step.1, rest.good); is = rest.is }, step.1)

-- the values of fields are good ones
pub values_of_good : (v : Version) (kinds : List Kind) (texts : List (List ℕ)) (values : Values kinds) → values_of v kinds texts ≡ Ok values → AllGood v kinds values
values_of_good v [] texts values is = tt
values_of_good v (kind ∷ kinds) [] values is = absurd (cc is)
values_of_good v (kind ∷ kinds) (text ∷ texts) values is =
    let first = bind_ok (meaning v kind text) (λ value. values_of v kinds texts >>= λ more. Ok (value, more)) values is in
    let rest = bind_ok (values_of v kinds texts) (λ more. Ok (first.0, more)) values first.2 in
    let same : (first.0, rest.0) ≡ values = cc rest.2 in
    subst (AllGood v (kind ∷ kinds)) same (meaning_good v kind text first.0 first.1, values_of_good v kinds texts rest.0 rest.1)

-- the words of good values have these values, whatever stands behind them
pub values_of_spells : (v : Version) (kinds : List Kind) → list_all is_narrow kinds ≡ true → (values : Values kinds) → AllGood v kinds values → (behind : List (List ℕ))
    → values_of v kinds (all_written kinds values ++ behind) ≡ Ok values
values_of_spells v [] low values good behind = refl
values_of_spells v (kind ∷ kinds) low values good behind =
    ap (λ read. read >>= λ value. values_of v kinds (all_written kinds values.1 ++ behind) >>= λ more. Ok (value, more)) (meaning_spell v kind (and_left (is_narrow kind) _ low) values.0 good.0)
    ∙ ap (λ read. read >>= λ more. Ok (values.0, more)) (values_of_spells v kinds (and_right (is_narrow kind) _ low) values.1 good.1 behind)
