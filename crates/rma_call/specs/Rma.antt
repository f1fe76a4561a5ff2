-- A call that accesses the part of a target, where another does so elsewhere (MPI 4.0, "One-Sided Communications").
use Rattle.std.specs.Prelude.{Some, option_map}
use Rattle.rma_bytes.specs.Layout.{layout_by}
use Rattle.rma_call.specs.declared.rma.Placement.{Placement}
use Rattle.rma_call.specs.declared.rma.RmaCall.{RmaCall}
use Rattle.rma_call.specs.declared.rma.RmaRef.{RmaRef}
use Rattle.rma_call.specs.declared.rma.RmaRef.TheVariants.{Stated, Placed}

-- what a call does that is made there, where another does it elsewhere
abbrev pub placed : RmaCall → Placement → RmaCall
placed call place = record call {
  target = Some place.target;
  displacement = place.displacement;
  origin = option_map (layout_by place.origin) call.origin;
  result = option_map (layout_by place.result) call.result;
  compare = option_map (layout_by place.compare) call.compare;
}

-- what is referred to
abbrev pub access_of : RmaRef → RmaCall
access_of (Stated call) = call.now
access_of (Placed call place) = placed call.now place.now
