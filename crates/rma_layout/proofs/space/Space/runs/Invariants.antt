use Rattle.std.proofs.Common.{◌↔◌, take, ℤ}
use Rattle.std.specs.List.{All}
use Rattle.rma_bytes.specs.Runs.{HasByte, IsInBounds}
use Rattle.rma_layout.proofs.Words.{bytes_of}
use Rattle.rma_layout.specs.inside.Bytes.{IsAmong}
use Rattle.rma_layout.proofs.space.Space.runs.Given as goal

abbrev pub invariant-each : goal.invariant-each
invariant-each l = record {
  bounds : All IsInBounds l.runs.items;
  bytes : (b : ℤ) → HasByte l.runs.items b ↔ IsAmong (bytes_of (take l.block-index l.blocks)) b;
}
