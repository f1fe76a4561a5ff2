-- Tables of what calls do, one for each group of calls.
use Rattle.std.specs.Prelude.{◌≡◌, ◌<◌, ℕ, pos, List, [], length, map, get_or, None, false}
use Rattle.rma_call.specs.declared.frame.FrameCall.TheVariants.{Barrier}
use Rattle.rma_call.specs.declared.message.MessageCall.TheVariants.{Wait}
use Rattle.rma_call.specs.declared.window.WindowCall.TheVariants.{Free}
use Rattle.rma_call.specs.declared.epoch.EpochCall.TheVariants.{Complete}
use Rattle.rma_call.specs.declared.moving.MovingCall.TheVariants.{Allreduce}
use Rattle.rma_call.specs.declared.what.What.{What}
use Rattle.rma_call.specs.declared.what.What.TheVariants.{Sync}
use Rattle.rma_call.specs.declared.what.What.TheVariants as what
use Rattle.rma_call.specs.declared.rma.RmaCall.{RmaCall}
use Rattle.rma_call.specs.declared.rma.RmaKind.TheVariants.{CompareAndSwap}
use Rattle.rma_call.specs.declared.local.LocalCall.{LocalCall}
use Rattle.rma_call.specs.declared.local.LocalAccess.TheVariants.{Load}
use Rattle.rma_bytes.specs.Layout.{Layout}
use Rattle.rma_call.specs.declared.what.SyncCall.TheVariants as sync
use Rattle.rma_call.specs.declared.group.Group.{Group}
use Rattle.rma_call.specs.declared.group.Group.TheVariants as group
use Rattle.rma_call.specs.Rma.{placed}
use Rattle.rma_call.specs.declared.rma.Placement.{Placement}
use Rattle.rma_call.specs.declared.groups.Groups.{Groups}
use Rattle.rma_call.specs.declared.groups.PlacedRma.{PlacedRma}
use Rattle.rma_call.specs.declared.groups.Place.{Place}
use Rattle.rma_call.specs.declared.groups.Place.TheVariants as place
use Rattle.rma_call.specs.declared.groups.Place.TheVariants.{Frame, Message, Window, Epoch, Moving, Rma, Local}

-- no bytes
abbrev pub no_bytes : Layout
no_bytes = record { runs = []; element = None; overlaps = false }

-- calls that are never asked for
abbrev pub no_rma : RmaCall
no_rma = record { window = []; target = None; kind = CompareAndSwap; displacement = 0; at_target = no_bytes; origin = None; result = None; compare = None }

abbrev pub no_place : Placement
no_place = record { target = record { 0 = 0 }; displacement = 0; origin = pos 0; result = pos 0; compare = pos 0 }

abbrev pub no_placed : PlacedRma
no_placed = record { call = 0; place = no_place }

abbrev pub no_local : LocalCall
no_local = record { access = Load; layout = no_bytes }

-- the access of an index
abbrev pub rma_at : Groups → ℕ → RmaCall
rma_at groups index = get_or groups.rmas.items index no_rma

-- the access of an index that another makes elsewhere
abbrev pub placed_at : Groups → ℕ → RmaCall
placed_at groups index = let own = get_or groups.placed.items index no_placed in placed (rma_at groups own.call) own.place

-- the other one is there
pub record IsPlacedThere (groups : Groups) (index : ℕ) : Type 0 where
  pub within : index < length groups.placed.items
  pub other : (get_or groups.placed.items index no_placed).call < length groups.rmas.items

-- what stands at a place; at one beyond the table, where nothing is, something that is never asked for
abbrev pub what_at : Groups → Place → What
what_at groups (Frame index) = Sync (sync.Frame (get_or groups.frames.items index (Barrier [])))
what_at groups (Message index) = Sync (sync.Message (get_or groups.messages.items index (Wait None)))
what_at groups (Window index) = Sync (sync.Window (get_or groups.windows.items index (Free [])))
what_at groups (Epoch index) = Sync (sync.Epoch (get_or groups.epochs.items index (Complete [])))
what_at groups (Moving index) = Sync (sync.Moving (get_or groups.movings.items index (Allreduce 0 [])))
what_at groups (Rma index) = what.Rma (rma_at groups index)
what_at groups (place.PlacedRma index) = what.Rma (placed_at groups index)
what_at groups (Local index) = what.Local (get_or groups.locals.items index no_local)

-- the place is in the table of its group
abbrev pub IsThere : Groups → Place → Type 0
IsThere groups (Frame index) = index < length groups.frames.items
IsThere groups (Message index) = index < length groups.messages.items
IsThere groups (Window index) = index < length groups.windows.items
IsThere groups (Epoch index) = index < length groups.epochs.items
IsThere groups (Moving index) = index < length groups.movings.items
IsThere groups (Rma index) = index < length groups.rmas.items
IsThere groups (place.PlacedRma index) = IsPlacedThere groups index
IsThere groups (Local index) = index < length groups.locals.items

-- what calls do, by their numbers
abbrev pub whats_at : Groups → List Place → List What
whats_at groups places = map (what_at groups) places

-- each place keeps what stands there
abbrev pub Grows : Groups → Groups → Type 0
Grows old new = (place : Place) → IsThere old place → IsThere new place × (what_at new place ≡ what_at old place)

-- how much stands in the table of a group
abbrev pub len_of : Groups → Group → ℕ
len_of groups group.Frame = length groups.frames.items
len_of groups group.Message = length groups.messages.items
len_of groups group.Window = length groups.windows.items
len_of groups group.Epoch = length groups.epochs.items
len_of groups group.Moving = length groups.movings.items
len_of groups group.Rma = length groups.rmas.items
len_of groups group.Local = length groups.locals.items
