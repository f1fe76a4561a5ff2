-- What the calls of a rank satisfy whenever its log is good (docs/FORMAT.md).
use Rattle.std.specs.Prelude.{◌≡◌, ◌≢◌, ℕ, ◌+◌, ◌<◌, ◌≤◌, true, false, List, [], ◌∷◌, take, slice_get, Some, None, is_some, All, Contains, IsTrue, ◌⊎◌}
use Rattle.rma_base.specs.Limits.{address_limit}
use Rattle.rma_base.specs.RankSet.{has_number}
use Rattle.rma_bytes.specs.Layout.{Layout}
use Rattle.rma_call.specs.Call.{Call}
use Rattle.rma_call.specs.declared.rma.RmaCall.{RmaCall}
use Rattle.rma_call.specs.declared.what.What.TheVariants as what
use Rattle.rma_datatype.specs.declared.basic.Basic.{Basic}
use Rattle.rma_judge.specs.Names.{world}
use Rattle.rma_kept.specs.Naming.{SomeCall, NoCall, NamesComm, NamesRoot, DeclaresWith, Declares, NamesWindow, CreatesAs, Creates, Frees, Attaches, GivesMemory, NamesRank, NamesGroup, AreRanks}
use Rattle.rma_kept.specs.Requests.{has_request, may_make, receives, received_by, Makes, Awaits, made_in}
use Rattle.rma_kept.specs.Touched.{own_layouts, buffers_of, HasCanonicalRuns, IsInSpace, IsNearStart, writes_target, is_accumulate, IsFilledBy}

-- A call of a rank, among so many logs, is as it may be after these earlier calls of the rank.
pub record IsKeptAfter (rank logs : ℕ) (earlier : List Call) (call : Call) : Type 0 where
  -- its line comes after the lines of the earlier calls
  pub line : (other : Call) → Contains earlier other → other.line.0 < call.line.0
  -- the window that it names was created by an earlier call, and freed by none
  pub window_is_there : (window : List ℕ) → NamesWindow window call → SomeCall (Creates window) earlier × NoCall (Frees window) earlier
  -- the window that it creates was created by no earlier call
  pub window_is_new : (window : List ℕ) → Creates window call → NoCall (Creates window) earlier
  -- the window to which it attaches memory, or from which it detaches some, was created as dynamic
  pub window_is_dynamic : (window : List ℕ) → Attaches window call → SomeCall (CreatesAs true window) earlier
  -- the memory that it gives to a window ends in the space of addresses
  pub memory_in_space : (address bytes : ℕ) → GivesMemory address bytes call → address + bytes ≤ address_limit
  -- the rank that it names has a log
  pub rank_has_log : (other : ℕ) → NamesRank other call → other < logs
  -- the ranks that it names as a group have logs
  pub group_has_logs : (ranks : List ℕ) → NamesGroup ranks call → AreRanks logs ranks
  -- the memory of the rank that it touches lies in the space of addresses
  pub buffers_in_space : All IsInSpace (buffers_of call.what)
  -- the runs of the memory of the rank that it touches are in canonical form
  pub buffers_are_canonical : All HasCanonicalRuns (buffers_of call.what)
  -- what it touches at a target lies near where the access starts
  pub target_near_start : (access : RmaCall) → call.what ≡ what.Rma access → IsNearStart access.at_target
  -- the runs of what it touches at a target are in canonical form
  pub target_is_canonical : (access : RmaCall) → call.what ≡ what.Rma access → HasCanonicalRuns access.at_target
  -- an access without a target touches no byte
  pub touches_nothing : (access : RmaCall) → call.what ≡ what.Rma access → access.target ≡ None → All (λ (layout : Layout). layout.runs ≡ []) (access.at_target ∷ own_layouts access)
  -- an access that writes at the target writes no byte there twice
  pub writes_once : (access : RmaCall) → call.what ≡ what.Rma access → writes_target access.kind ≡ true → access.at_target.overlaps ≡ false
  -- the elements at the target of an accumulate that touches some byte there have one basic datatype, and fill its runs
  pub has_element : (access : RmaCall) → call.what ≡ what.Rma access → is_accumulate access.kind ≡ true → access.at_target.runs ≢ [] → (basic : Basic) × IsFilledBy basic access.at_target
  -- a nonblocking message and a wait have a request
  pub request_is_some : has_request call.what ≡ true → (number : ℕ) × (call.request ≡ Some number)
  -- none makes a request but a nonblocking message or an access
  pub request_may_be : (number : ℕ) → Makes number call → may_make call.what ≡ true
  -- the request that it makes was made by no earlier call
  pub request_is_new : (number : ℕ) → Makes number call → NoCall (Makes number) earlier
  -- the number of the request that it makes is how many requests the earlier calls make
  pub request_is_next : (number : ℕ) → Makes number call → number ≡ made_in earlier
  -- the request for which it waits was made by an earlier call, and none waited for it
  pub request_is_there : (number : ℕ) → Awaits number call → SomeCall (Makes number) earlier × NoCall (Awaits number) earlier
  -- a message came where it waits for a receive, and none where it waits for another request
  pub message_came : (number : ℕ) (other : Call) → Awaits number call → Contains earlier other → Makes number other → is_some (received_by call.what) ≡ receives other.what
  -- the communicator that it names is that of all ranks, or was declared by an earlier call
  pub comm_is_there : (comm : List ℕ) → NamesComm comm call → (comm ≡ world) ⊎ SomeCall (Declares comm) earlier
  -- the communicator that it declares is not that of all ranks, and was declared by no earlier call
  pub comm_is_new : (comm : List ℕ) → Declares comm call → (comm ≢ world) × NoCall (Declares comm) earlier
  -- the rank is a member of the communicator that it declares
  pub comm_has_rank : (comm members : List ℕ) → DeclaresWith comm members call → IsTrue (has_number rank members)
  -- the root that it names is a member of its communicator: that of all ranks, or one that an earlier call declares with the root
  pub root_is_member : (comm : List ℕ) (root : ℕ) → NamesRoot comm root call → (comm ≡ world) ⊎ ((members : List ℕ) × SomeCall (DeclaresWith comm members) earlier × IsTrue (has_number root members))

-- The calls of a rank, among so many logs, are kept: each is as it may be after those before it.
abbrev pub AreKept : ℕ → ℕ → List Call → Type 0
AreKept rank logs calls = (place : ℕ) (call : Call) → slice_get calls place ≡ Some call → IsKeptAfter rank logs (take place calls) call

-- The calls of a rank, among so many logs, are whole: they are kept, and each request that is made has its wait.
pub record AreWhole (rank logs : ℕ) (calls : List Call) : Type 0 where
  -- each call is as it may be after those before it
  pub kept : AreKept rank logs calls
  -- each request that a call makes has a call that waits for it
  pub all_awaited : (number : ℕ) → SomeCall (Makes number) calls → SomeCall (Awaits number) calls
