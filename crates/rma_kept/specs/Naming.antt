-- What the calls of a rank say of names and ranks (docs/FORMAT.md).
use Rattle.std.specs.Prelude.{◌≡◌, ℕ, ◌<◌, Bool, List, Some, None, All, Contains}
use Rattle.rma_call.specs.Call.{Call}
use Rattle.rma_call.specs.declared.what.What.{What}
use Rattle.rma_call.specs.declared.what.What.TheVariants as what
use Rattle.rma_form.specs.declared.event.Event.TheVariants as event
use Rattle.rma_judge.specs.Naming.{Attributes, attributes_of, created_state, no_attributes, with_access}
use Rattle.rma_judge.specs.declared.names.WindowState.TheVariants.{Freed}

-- what a call says of names and ranks: what its line says, without the name of its request
abbrev pub names_of : What → Attributes
names_of (what.Sync call) = attributes_of (event.Call call None)
names_of (what.Rma call) = with_access call.window call.target None
names_of (what.Local call) = no_attributes

-- ---- among some calls

-- one of the calls does so
abbrev pub SomeCall : (Call → Type 0) → List Call → Type 0
SomeCall Does calls = (call : Call) × Contains calls call × Does call

-- none of the calls does so
abbrev pub NoCall : (Call → Type 0) → List Call → Type 0
NoCall Does calls = (call : Call) → Contains calls call → ¬ Does call

-- ---- communicators

-- the call names the communicator as one that is there
abbrev pub NamesComm : List ℕ → Call → Type 0
NamesComm comm call = (names_of call.what).needed_comm ≡ Some comm

-- the call declares the communicator with these members
abbrev pub DeclaresWith : List ℕ → List ℕ → Call → Type 0
DeclaresWith comm members call = (names_of call.what).declared ≡ Some (comm, members)

-- the call declares the communicator
abbrev pub Declares : List ℕ → Call → Type 0
Declares comm call = (members : List ℕ) × DeclaresWith comm members call

-- ---- windows

-- the call names the window as one that is there
abbrev pub NamesWindow : List ℕ → Call → Type 0
NamesWindow window call = (names_of call.what).needed_window ≡ Some window

-- the call creates the window, dynamic or not
abbrev pub CreatesAs : Bool → List ℕ → Call → Type 0
CreatesAs dynamic window call = (names_of call.what).window ≡ Some (window, created_state dynamic)

-- the call creates the window
abbrev pub Creates : List ℕ → Call → Type 0
Creates window call = (dynamic : Bool) × CreatesAs dynamic window call

-- the call frees the window
abbrev pub Frees : List ℕ → Call → Type 0
Frees window call = (names_of call.what).window ≡ Some (window, Freed)

-- the call attaches memory to the window, or detaches some from it
abbrev pub Attaches : List ℕ → Call → Type 0
Attaches window call = (names_of call.what).attached ≡ Some window

-- the call gives a window so many bytes at this address: a creation its memory, or an attach more
abbrev pub GivesMemory : ℕ → ℕ → Call → Type 0
GivesMemory address bytes call = (names_of call.what).memory ≡ Some (address, bytes)

-- ---- ranks

-- the call names the rank by itself: its target, its peer, its root, or where a message came from
abbrev pub NamesRank : ℕ → Call → Type 0
NamesRank rank call = (names_of call.what).rank ≡ Some rank

-- the call names the rank as its root, in this communicator
abbrev pub NamesRoot : List ℕ → ℕ → Call → Type 0
NamesRoot comm rank call = (names_of call.what).root ≡ Some (comm, rank)

-- the call names these ranks as a group: members, origins or targets
abbrev pub NamesGroup : List ℕ → Call → Type 0
NamesGroup ranks call = (names_of call.what).group ≡ Some ranks

-- all numbers are ranks among so many logs
abbrev pub AreRanks : ℕ → List ℕ → Type 0
AreRanks logs ranks = All (λ rank. rank < logs) ranks
