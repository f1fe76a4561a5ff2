-- What is taken from an event of the names and ranks in it.
use Rattle.std.specs.Prelude.{ℕ, List, Option, Some, None, is_some, option_map}
use Rattle.std.specs.Option.{option_copied}
use Rattle.std.specs.Borrow.{Bor}
use Rattle.rma_base.specs.declared.rank.Rank.{Rank}
use Rattle.rma_judge.specs.declared.naming.Naming.{Naming}
use Rattle.rma_call.specs.declared.what.SyncCall.TheVariants.{Window}
use Rattle.rma_form.specs.declared.event.Event.TheVariants.{Call}
use Rattle.rma_judge.specs.declared.naming.More.{More as Further}
use Rattle.rma_judge.specs.declared.naming.More.TheVariants.{Declaring, OfWindow, WithGroup, WithRequest, From}
use Rattle.rma_judge.specs.declared.naming.NewRequest.{NewRequest}
use Rattle.rma_judge.specs.declared.naming.Said.{Said}
use Rattle.rma_judge.specs.declared.naming.Said.TheVariants.{Nothing, OnComm, OnWindow, WithPeer, WithTarget, WithRoot, Making, Waiting, More}
use Rattle.rma_judge.specs.Naming.{Attributes, attributes_of, no_attributes, on_comm, on_window, with_access, with_group, with_peer, with_root, with_target}

-- something of a name that is referred to
abbrev pub named : {A : Type 0} → Option (Bor (List ℕ) × A) → Option (List ℕ × A)
named it = option_map (λ pair. (pair.0.now, pair.1)) it

-- what was taken
abbrev pub value_of : Naming → Attributes
value_of it = record {
  needed_comm = option_copied it.needed_comm;
  needed_window = option_copied it.needed_window;
  declared = option_map (λ pair. (pair.0.now, pair.1.now)) it.declared;
  created = option_copied it.created;
  window = named it.window;
  made = named it.made;
  awaited = None;
  group = option_copied it.group;
  rank = option_map (λ rank. rank.0) it.rank;
  memory = it.memory;
  root = None;
  attached = option_copied it.attached;
}

-- nothing was taken
abbrev pub nothing : Naming
nothing = record {
  needed_comm = None;
  needed_window = None;
  declared = None;
  created = None;
  window = None;
  made = None;
  group = None;
  rank = None;
  memory = None;
  attached = None;
}

-- a message that makes a request: its communicator, its peer where it is known, and the request, which is a receive or not
abbrev pub making : NewRequest → Attributes
making it = record (on_comm it.comm.now) { rank = option_map (λ (rank : Rank). rank.0) it.peer; made = Some (it.name.now, it.receives) }

-- the wait for a request, which is a receive where a message came from a rank
abbrev pub waiting : List ℕ → Option Rank → Attributes
waiting request from = record no_attributes { awaited = Some (request, is_some from); rank = option_map (λ (rank : Rank). rank.0) from }

-- what a call says that says more than most
abbrev pub more_value : Further → Attributes
more_value (Declaring comm ranks) = record no_attributes { declared = Some (comm.now, ranks.now); group = Some ranks.now }
more_value (OfWindow call) = attributes_of (Call (Window call.now) None)
more_value (WithGroup window ranks) = with_group window.now ranks.now
more_value (WithRequest window target request) = with_access window.now target (Some request.now)
more_value (From rank) = record no_attributes { rank = option_map (λ (rank : Rank). rank.0) rank }

-- what a call says
abbrev pub said_value : Said → Attributes
said_value Nothing = no_attributes
said_value (OnComm comm) = on_comm comm.now
said_value (OnWindow window) = on_window window.now
said_value (WithPeer comm rank) = with_peer comm.now rank.0
said_value (WithTarget window rank) = with_target window.now rank.0
said_value (WithRoot comm root) = with_root comm.now root.0
said_value (Making it) = making it
said_value (Waiting request from) = waiting request.now from
said_value (More more) = more_value more
