-- The kinds of fields, what a field of each kind stands for, and how that is written (docs/FORMAT.md).
use Rattle.std.specs.Prelude.{ℕ, ℤ, Bool, ◌-◌, List, [], ◌∷◌, Option, Some, None, Result, Ok, Err, codes, decimal, find, nat_eq, if◌then◌else◌}
use Rattle.std.specs.Cmp.Lexicographic.{pointwise}
use Rattle.std.specs.Fmt.{signed_decimal}
use Rattle.rma_base.specs.declared.form_reason.FormReason.{FormReason}
use Rattle.rma_base.specs.declared.form_reason.FormReason.TheVariants.{BadName, BadWord}
use Rattle.rma_base.specs.declared.rank.Rank.{Rank}
use Rattle.rma_base.specs.declared.version.Version.{Version}
use Rattle.rma_base.specs.declared.version.Version.TheVariants.{One, Two}
use Rattle.rma_base.specs.declared.window.WinModel.{WinModel}
use Rattle.rma_base.specs.declared.window.WinModel.TheVariants.{Separate, Unified}
use Rattle.rma_base.specs.declared.window.AccOps.{AccOps}
use Rattle.rma_base.specs.declared.window.AccOps.TheVariants.{SameOp, SameOpNoOp}
use Rattle.rma_base.specs.Name.{is_name}
use Rattle.rma_base.specs.Version.{version_word, ranks_of}
use Rattle.rma_base.specs.Window.{model_word, ops_word}
use Rattle.rma_call.specs.declared.epoch.LockKind.{LockKind}
use Rattle.rma_call.specs.declared.epoch.LockKind.TheVariants.{Exclusive, Shared}
use Rattle.rma_datatype.specs.declared.make.Order.{Order}
use Rattle.rma_datatype.specs.declared.make.Order.TheVariants.{LastFastest, FirstFastest}
use Rattle.rma_datatype.specs.declared.operation.Op.{Op}
use Rattle.rma_datatype.specs.declared.operation.Op.TheVariants as op
use Rattle.rma_datatype.specs.Operation.{op_word}
use Rattle.rma_field.specs.Integers.{integer_of}
use Rattle.rma_field.specs.Numbers.{natural}
use Rattle.rma_field.specs.Ranks.{rank_set, ranks_text}
use Rattle.rma_field.specs.Steps.{◌>>=◌}

-- what a field should be
pub data Kind : Type 0 where
  -- a version of the format
  version : Kind
  -- a name
  name : Kind
  -- a rank of a run
  rank : Kind
  -- a number of ranks
  size : Kind
  -- a number from the first to the second
  number : ℕ → ℕ → Kind
  -- a number from minus the first to the second
  integer : ℕ → ℕ → Kind
  -- a set of ranks
  ranks : Kind
  -- the target of an RMA call: a rank, or the word `null`
  target : Kind
  -- a memory model
  model : Kind
  -- what accumulate operations may meet
  operations : Kind
  -- an operation of an accumulate call
  operation : Kind
  -- whether a lock is exclusive or shared
  lock : Kind
  -- which dimension of an array varies fastest
  order : Kind

-- what a good field of that kind stands for
abbrev pub Value : Kind → Type 0
Value version = Version
Value name = List ℕ
Value rank = Rank
Value size = ℕ
Value (number low high) = ℕ
Value (integer low high) = ℤ
Value ranks = List ℕ
Value target = Option Rank
Value model = WinModel
Value operations = AccOps
Value operation = Op
Value lock = LockKind
Value order = Order

-- the field is that word
abbrev pub is_word : List ℕ → List ℕ → Bool
is_word word text = pointwise nat_eq text word

-- the greatest rank of a run whose logs have this version
abbrev pub last_rank : Version → ℕ
last_rank v = ranks_of v - 1

-- what a field stands for that should be a rank
abbrev pub rank_of : Version → List ℕ → Result Rank FormReason
rank_of v text = natural 0 (last_rank v) text >>= λ n. Ok (record { 0 = n })

-- each operation once
abbrev pub all_operations : List Op
all_operations =
    op.Max ∷ op.Min ∷ op.Sum ∷ op.Prod ∷ op.Land ∷ op.Lor ∷ op.Lxor ∷ op.Band ∷ op.Bor ∷ op.Bxor ∷ op.Replace ∷ op.NoOp ∷ []

-- the word has to be a known one
abbrev pub known : {A : Type 0} → Option A → Result A FormReason
known None = Err BadWord
known (Some value) = Ok value

-- what a field stands for that should be a version of the format, and so on
abbrev pub version_of : List ℕ → Result Version FormReason
version_of text = if is_word (codes "1") text then Ok One else (if is_word (codes "2") text then Ok Two else Err BadWord)

abbrev pub name_of : List ℕ → Result (List ℕ) FormReason
name_of text = if is_name text then Ok text else Err BadName

abbrev pub target_of : Version → List ℕ → Result (Option Rank) FormReason
target_of v text = if is_word (codes "null") text then Ok None else (rank_of v text >>= λ r. Ok (Some r))

abbrev pub model_of : List ℕ → Result WinModel FormReason
model_of text = if is_word (codes "separate") text then Ok Separate else (if is_word (codes "unified") text then Ok Unified else Err BadWord)

abbrev pub operations_of : List ℕ → Result AccOps FormReason
operations_of text = if is_word (codes "same_op") text then Ok SameOp else (if is_word (codes "same_op_no_op") text then Ok SameOpNoOp else Err BadWord)

abbrev pub operation_of : List ℕ → Result Op FormReason
operation_of text = known (find (λ op. is_word (op_word op) text) all_operations)

abbrev pub lock_of : List ℕ → Result LockKind FormReason
lock_of text = if is_word (codes "excl") text then Ok Exclusive else (if is_word (codes "shared") text then Ok Shared else Err BadWord)

abbrev pub order_of : List ℕ → Result Order FormReason
order_of text = if is_word (codes "c") text then Ok LastFastest else (if is_word (codes "fortran") text then Ok FirstFastest else Err BadWord)

-- what a field stands for in a log of this version, or why it is bad
abbrev pub meaning : Version → (kind : Kind) → List ℕ → Result (Value kind) FormReason
meaning v version text = version_of text
meaning v name text = name_of text
meaning v rank text = rank_of v text
meaning v size text = natural 1 (ranks_of v) text
meaning v (number low high) text = natural low high text
meaning v (integer low high) text = integer_of low high text
meaning v ranks text = rank_set (last_rank v) text
meaning v target text = target_of v text
meaning v model text = model_of text
meaning v operations text = operations_of text
meaning v operation text = operation_of text
meaning v lock text = lock_of text
meaning v order text = order_of text

-- the word of a target
abbrev pub target_text : Option Rank → List ℕ
target_text None = codes "null"
target_text (Some r) = decimal r.0

-- the word of a kind of lock
abbrev pub lock_word : LockKind → List ℕ
lock_word Exclusive = codes "excl"
lock_word Shared = codes "shared"

-- the word of an order of dimensions
abbrev pub order_word : Order → List ℕ
order_word LastFastest = codes "c"
order_word FirstFastest = codes "fortran"

-- how a value is written, with each number in decimal digits
abbrev pub written : (kind : Kind) → Value kind → List ℕ
written version v = version_word v
written name text = text
written rank r = decimal r.0
written size n = decimal n
written (number low high) n = decimal n
written (integer low high) z = signed_decimal z
written ranks them = ranks_text them
written target t = target_text t
written model which = model_word which
written operations which = ops_word which
written operation which = op_word which
written lock which = lock_word which
written order which = order_word which
