-- The first call of a rank that stands in no epoch that allows it (MPI 4.0, "One-Sided Communications").
use Rattle.std.specs.Prelude.{List, [], ◌∷◌, ◌++◌, Bool, false, Option, Some, None, option_map, if◌then◌else◌}
use Rattle.std.specs.List.{list_any}
use Rattle.std.specs.Option.{option_map_or, option_or}
use Rattle.rma_base.specs.declared.line.LineNo.{LineNo}
use Rattle.rma_base.specs.declared.epoch_reason.EpochReason.TheVariants.{EpochLeftOpen}
use Rattle.rma_call.specs.Call.{Call, RankCalls}
use Rattle.rma_window.specs.Windows.{Window}
use Rattle.rma_epoch.specs.declared.fault.EpochFault.{EpochFault}
use Rattle.rma_open.specs.Calls.{window_on}
use Rattle.rma_open.specs.Open.{is_unclosed, open_on}
use Rattle.rma_open.specs.Reason.{reason_at}

-- whether an epoch has to be closed yet on the window of a call, which is not freed, after these calls of the rank
abbrev pub leaves_open : List Call → Call → Bool
leaves_open calls call = option_map_or (λ window. is_unclosed (open_on calls window)) (window_on call.what) false

-- the fault of the line that ends the log, after all calls of the rank
abbrev pub fault_at_end : List Call → LineNo → Option EpochFault
fault_at_end calls end = if list_any (leaves_open calls) calls then Some (record { line = end; reason = EpochLeftOpen }) else None

-- the first fault among some calls of a rank and the end of its log, after the calls before
abbrev pub fault_from : List Window → List Call → List Call → LineNo → Option EpochFault
fault_from windows before [] end = fault_at_end before end
fault_from windows before (call ∷ calls) end =
    option_or (option_map (λ reason. record { line = call.line; reason = reason }) (reason_at windows before call)) (fault_from windows (before ++ call ∷ []) calls end)

-- the first fault of a rank: that of its first call that has a reason, or else of the end of its log
abbrev pub fault_of : List Window → RankCalls → Option EpochFault
fault_of windows own = fault_from windows [] own.calls own.end
