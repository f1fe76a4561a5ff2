use Rattle.std.proofs.Common.{◌<◌, ◌^◌, Err, subst, rules, arith}
use Rattle.std.proofs.lemmas.List.{take_min}
use Rattle.rma_io.specs.Buffer.{IsBuffer}
use Rattle.rma_io.specs.MemorySink.{MemoryOutput}
use Rattle.rma_io.proofs.BufferLemmas.{IsPut_memory}
use Rattle.rma_io.proofs.memory_sink.MemorySinkSink.put.Goals as goal

pub returns-clause-exactly : goal.returns-clause-exactly
returns-clause-exactly c =
    let t = take_min c.in-Some.most c.args.piece.now in
    rw (← c.self.view_is) (c.in-Some.most, search rules, cc)

pub returns-clause-put : goal.returns-clause-put
returns-clause-put c =
    let new : MemoryOutput = record {
      buffer = c.pass-2.new.self;
      fails = c.self.inside.fails.items;
      puts = c.saturating_add-self-inside.result;
      faults = c.saturating_add-self-inside-2.result;
    } in
    let is_buffer = subst (λ (m : MemoryOutput). IsBuffer m.buffer) c.self.view_is c.pass-2.ensures.buffer in
    let small = subst (λ (m : MemoryOutput). m.faults < 2 ^ 64) c.self.view_is (omega arith) in
    IsPut_memory c.args.self.now c.args.piece.now (Err (record {})) new is_buffer small (returns-clause-exactly c)
