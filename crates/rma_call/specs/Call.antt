-- The calls of a rank, as its log records them (docs/FORMAT.md).
use Rattle.std.specs.Prelude.{ℕ, List, [], Option, option_copied}
use Rattle.rma_base.specs.declared.line.LineNo.{LineNo}
use Rattle.rma_base.specs.declared.rank.Rank.{Rank}
use Rattle.rma_call.specs.declared.what.What.{What}
use Rattle.rma_call.specs.declared.what.What.TheVariants.{Sync}
use Rattle.rma_call.specs.declared.what.What.TheVariants as what
use Rattle.rma_call.specs.declared.what.SyncCall.TheVariants as sync
use Rattle.rma_call.specs.declared.what.WhatRef.{WhatRef}
use Rattle.rma_call.specs.declared.what.WhatRef.TheVariants.{Frame, Message, Window, Epoch, Moving, Rma, Local}
use Rattle.rma_call.specs.declared.call_list.CallRef.{CallRef}
use Rattle.rma_call.specs.Rma.{access_of}

-- a call: the line that records it, its site in the source of the program, what it does, and the number of the request
-- that it makes or completes
pub record Call : Type 0 where
  pub line : LineNo
  pub site : Option (List ℕ)
  pub what : What
  pub request : Option ℕ

-- the calls of a rank in the order of its log, and the line that ends the log
pub record RankCalls : Type 0 where
  pub rank : Rank
  pub calls : List Call
  pub end : LineNo

-- calls, with the tables of what they do and of their sites
pub record CallTable : Type 0 where
  pub calls : List Call
  pub whats : List What
  pub sites : List (List ℕ)

-- no calls, and empty tables
abbrev pub no_calls : CallTable
no_calls = record { calls = []; whats = []; sites = [] }

-- what is referred to
abbrev pub what_of : WhatRef → What
what_of (Frame call) = Sync (sync.Frame call.now)
what_of (Message call) = Sync (sync.Message call.now)
what_of (Window call) = Sync (sync.Window call.now)
what_of (Epoch call) = Sync (sync.Epoch call.now)
what_of (Moving call) = Sync (sync.Moving call.now)
what_of (Rma call) = what.Rma (access_of call)
what_of (Local call) = what.Local call.now

-- the call that is referred to
abbrev pub call_of : CallRef → Call
call_of call = record { line = call.line; site = option_copied call.site; what = what_of call.what; request = call.request }
