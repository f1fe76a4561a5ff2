-- Which two accesses conflict, and by which rule, where nothing orders them (MPI 4.0, "One-Sided Communications", semantics and
-- correctness: a location is not accessed by a local store, a put or an accumulate and by any other access at once, with the
-- relaxations of accumulates and of the unified model; in the separate model neither is any other location of the window while an
-- update or a store is under way).
use Rattle.std.specs.Prelude.{◌≡◌, ◌⊎◌, List, true, false}
use Rattle.rma_window.specs.Windows.{Window}
use Rattle.rma_rules.specs.declared.rule.Rule.{Rule}
use Rattle.rma_rules.specs.declared.rule.Rule.TheVariants.{Overlap, StoreInWindow, OtherWindow, Accumulate, Buffer}
use Rattle.rma_rules.specs.Access.{Access}
use Rattle.rma_rules.specs.Kind.{is_local, is_target, is_own, is_load, is_poll, is_store, is_get, is_put, is_accumulate, has_no_op, is_update}
use Rattle.rma_rules.specs.Share.{ShareByte, MeetsPart, IsSeparateAt}
use Rattle.rma_rules.specs.Element.{Disagree}

-- ---- a local access or the use of a buffer, and an access of a target

-- what only reads at the target: a get, or an accumulate with no operation
abbrev pub OnlyReads : Access → Type 0
OnlyReads a = (is_get a.kind ≡ true) ⊎ (has_no_op a.kind ≡ true)

-- a load of what an update writes
abbrev pub LoadOfUpdate : Access → Access → Type 0
LoadOfUpdate a b = (is_load a.kind ≡ true) × (is_update b.kind ≡ true) × ShareByte a.runs b.runs

-- a poll of what an update writes, through a window of the separate model; in the unified model it sees the update in time
abbrev pub PollOfUpdate : List Window → Access → Access → Type 0
PollOfUpdate windows a b = (is_poll a.kind ≡ true) × (is_update b.kind ≡ true) × IsSeparateAt windows b × ShareByte a.runs b.runs

-- a store of what an access of a target reads
abbrev pub StoreOfGet : Access → Access → Type 0
StoreOfGet a b = (is_store a.kind ≡ true) × OnlyReads b × ShareByte a.runs b.runs

-- a store of what an update writes
abbrev pub StoreOfUpdate : Access → Access → Type 0
StoreOfUpdate a b = (is_store a.kind ≡ true) × (is_update b.kind ≡ true) × ShareByte a.runs b.runs

-- a store that shares no byte with an update, but lies in the rank's part of the window of the separate model through which that is made
abbrev pub StoreBesideUpdate : List Window → Access → Access → Type 0
StoreBesideUpdate windows a b =
    (is_store a.kind ≡ true) × (is_update b.kind ≡ true) × IsSeparateAt windows b × (¬ ShareByte a.runs b.runs) × MeetsPart windows a b.window

-- a local access or the use of a buffer conflicts with an access of a target
unfoldable pub ConflictsWithTarget : List Window → Access → Access → Rule → Type 0
ConflictsWithTarget windows a b Overlap = LoadOfUpdate a b ⊎ (PollOfUpdate windows a b ⊎ (StoreOfGet a b ⊎ StoreOfUpdate a b))
ConflictsWithTarget windows a b StoreInWindow = StoreBesideUpdate windows a b
ConflictsWithTarget windows a b OtherWindow = ⊥
ConflictsWithTarget windows a b Accumulate = ⊥
ConflictsWithTarget windows a b Buffer = ⊥

-- ---- two accesses of a target

-- both are made through one window
abbrev pub AreThroughOne : Access → Access → Type 0
AreThroughOne a b = a.window ≡ b.window

-- the first counts as a get beside the second: a get, or an accumulate with no operation, but for accumulates on its window
abbrev pub CountsAsGet : Access → Access → Type 0
CountsAsGet a b = (is_get a.kind ≡ true) ⊎ ((has_no_op a.kind ≡ true) × ((is_accumulate b.kind ≡ false) ⊎ (¬ AreThroughOne a b)))

-- a get of what an update writes, through any windows
abbrev pub GetOfUpdate : Access → Access → Type 0
GetOfUpdate a b = CountsAsGet a b × (is_update b.kind ≡ true) × ShareByte a.runs b.runs

-- a put where an update through its window writes
abbrev pub PutOfUpdate : Access → Access → Type 0
PutOfUpdate a b = (is_put a.kind ≡ true) × (is_update b.kind ≡ true) × AreThroughOne a b × ShareByte a.runs b.runs

-- two updates through two windows
abbrev pub AreUpdatesApart : Access → Access → Type 0
AreUpdatesApart a b = (is_update a.kind ≡ true) × (is_update b.kind ≡ true) × (¬ AreThroughOne a b)

-- they write the same byte
abbrev pub UpdateOfUpdate : Access → Access → Type 0
UpdateOfUpdate a b = AreUpdatesApart a b × ShareByte a.runs b.runs

-- they share no byte, but one writes in the rank's part of the other's window, and one of the windows has the separate model
abbrev pub UpdateBesideUpdate : List Window → Access → Access → Type 0
UpdateBesideUpdate windows a b =
    AreUpdatesApart a b × (IsSeparateAt windows a ⊎ IsSeparateAt windows b) × (¬ ShareByte a.runs b.runs) × (MeetsPart windows a b.window ⊎ MeetsPart windows b a.window)

-- two accumulates through one window that do not agree, unless neither has an operation
abbrev pub AccumulatesDisagree : List Window → Access → Access → Type 0
AccumulatesDisagree windows a b =
    (is_accumulate a.kind ≡ true) × (is_accumulate b.kind ≡ true) × (¬ ((has_no_op a.kind ≡ true) × (has_no_op b.kind ≡ true))) × AreThroughOne a b × Disagree windows a b

-- two accesses of a target conflict
unfoldable pub ConflictAtTarget : List Window → Access → Access → Rule → Type 0
ConflictAtTarget windows a b Overlap = GetOfUpdate a b ⊎ (GetOfUpdate b a ⊎ (PutOfUpdate a b ⊎ (PutOfUpdate b a ⊎ UpdateOfUpdate a b)))
ConflictAtTarget windows a b StoreInWindow = ⊥
ConflictAtTarget windows a b OtherWindow = UpdateBesideUpdate windows a b
ConflictAtTarget windows a b Accumulate = AccumulatesDisagree windows a b
ConflictAtTarget windows a b Buffer = ⊥

-- ---- two local accesses or uses of buffers

-- one of two accesses writes what the other touches, and not both are local: local accesses of a rank are ordered by its program
abbrev pub BufferInUse : Access → Access → Type 0
BufferInUse a b =
    ((is_store a.kind ≡ true) ⊎ (is_store b.kind ≡ true)) × (¬ ((is_local a.kind ≡ true) × (is_local b.kind ≡ true))) × ShareByte a.runs b.runs

-- two local accesses or uses of buffers conflict
unfoldable pub ConflictAtCaller : Access → Access → Rule → Type 0
ConflictAtCaller a b Overlap = ⊥
ConflictAtCaller a b StoreInWindow = ⊥
ConflictAtCaller a b OtherWindow = ⊥
ConflictAtCaller a b Accumulate = ⊥
ConflictAtCaller a b Buffer = BufferInUse a b

-- ---- any two accesses

-- the first is a local access or the use of a buffer, the second an access of a target, and they conflict
abbrev pub OfCallerAndTarget : List Window → Access → Access → Rule → Type 0
OfCallerAndTarget windows a b rule = (is_own a.kind ≡ true) × (is_target b.kind ≡ true) × ConflictsWithTarget windows a b rule

-- two accesses to the memory of one rank conflict by this rule
unfoldable pub Forbids : List Window → Access → Access → Rule → Type 0
Forbids windows a b rule =
    (a.memory ≡ b.memory)
    × (OfCallerAndTarget windows a b rule
    ⊎ (OfCallerAndTarget windows b a rule
    ⊎ (((is_target a.kind ≡ true) × (is_target b.kind ≡ true) × ConflictAtTarget windows a b rule)
    ⊎ ((is_own a.kind ≡ true) × (is_own b.kind ≡ true) × ConflictAtCaller a b rule))))
