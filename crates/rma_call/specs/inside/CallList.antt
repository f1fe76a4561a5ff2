-- How a list of calls keeps them.
use Rattle.std.specs.Prelude.{ℕ, zero, suc, ◌<◌, ◌≤◌, ◌^◌, List, [], length, map, get_or, Option, Some, None, option_map, All}
use Rattle.rma_call.specs.declared.what.What.{What}
use Rattle.rma_call.specs.declared.what.What.TheVariants.{Sync}
use Rattle.rma_call.specs.declared.what.SyncCall.TheVariants.{Frame}
use Rattle.rma_call.specs.declared.frame.FrameCall.TheVariants.{Barrier}
use Rattle.rma_call.specs.declared.entries.Entry.{Entry}
use Rattle.rma_call.specs.Call.{Call}

-- a number that is kept as one more, with 0 for none
abbrev pub number_of : ℕ → Option ℕ
number_of zero = None
number_of (suc number) = Some number

-- what stands for a number beyond the table: no entry has one
abbrev pub beyond : What
beyond = Sync (Frame (Barrier []))

-- the call of an entry
abbrev pub entry_call : List What → List (List ℕ) → Entry → Call
entry_call whats sites e =
    record { line = e.line; site = option_map (λ number. get_or sites number []) (number_of e.site); what = get_or whats e.what beyond; request = number_of e.request }

-- the calls of the entries
abbrev pub entry_calls : List What → List (List ℕ) → List Entry → List Call
entry_calls whats sites entries = map (entry_call whats sites) entries

-- the numbers of an entry are below the lengths of the tables
abbrev pub IsBelow : ℕ → ℕ → Entry → Type 0
IsBelow whats sites e = (e.what < whats) × (e.site ≤ sites)

-- the tables may be numbered, and the entries have numbers in them
pub record AreInTables (whats : List What) (sites : List (List ℕ)) (entries : List Entry) : Type 0 where
  pub whats_fit : length whats < 2 ^ 32
  pub sites_fit : length sites < 2 ^ 32
  pub below : All (IsBelow (length whats) (length sites)) entries
