-- The groups of calls (docs/FORMAT.md).
use Rattle.rma_call.specs.declared.what.What.{What}
use Rattle.rma_call.specs.declared.what.What.TheVariants.{Sync}
use Rattle.rma_call.specs.declared.what.What.TheVariants as what
use Rattle.rma_call.specs.declared.what.SyncCall.TheVariants as sync
use Rattle.rma_call.specs.declared.group.Group.{Group}
use Rattle.rma_call.specs.declared.group.Group.TheVariants.{Frame, Message, Window, Epoch, Moving, Rma, Local}

-- the group of what a call does
abbrev pub group_of : What → Group
group_of (Sync (sync.Frame call)) = Frame
group_of (Sync (sync.Message call)) = Message
group_of (Sync (sync.Window call)) = Window
group_of (Sync (sync.Epoch call)) = Epoch
group_of (Sync (sync.Moving call)) = Moving
group_of (what.Rma call) = Rma
group_of (what.Local call) = Local
