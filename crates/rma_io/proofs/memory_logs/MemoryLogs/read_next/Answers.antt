use Rattle.std.proofs.Common.{◌≡◌, ℕ, ◌+◌, ◌≤◌, List, ◌++◌, length, take, drop, sym, subst}
use Rattle.rma_io.specs.MemoryLogs.{files_of, text_of}
use Rattle.rma_io.proofs.ScheduleLemmas.{chunk_taken, chunk_read, none_read}
use Rattle.rma_io.proofs.memory_logs.MemoryLogs.read_next.Goals as goal

pub returns-in_default-clause-read : goal.returns-in_default-clause-read
returns-in_default-clause-read c =
    rw (← c.self.view_is) (none_read (text_of (files_of c.self.inside.files.items)) c.self.inside.opened c.next_chunk.new.self c.args.room.now c.self.invariant c.in_default.ensures)

pub read-requires-clause-there : goal.read-requires-clause-there
read-requires-clause-there c =
    let text : c.text.result.now ≡ text_of (files_of c.self.inside.files.items) c.in-Some.chunk.file = cc in
    let taken = chunk_taken (text_of (files_of c.self.inside.files.items)) c.self.inside.opened c.next_chunk.new.self _ c.in-Some.chunk c.self.invariant c.in-Some.ensures in
    subst (λ (bytes : List ℕ). c.in-Some.chunk.at + c.in-Some.chunk.len ≤ length bytes) (sym text) taken.there

pub invariant_of-self-2 : goal.invariant_of-self-2
invariant_of-self-2 c =
    (chunk_taken (text_of (files_of c.self.inside.files.items)) c.self.inside.opened c.next_chunk.new.self _ c.in-Some.chunk c.self.invariant c.in-Some.ensures).logs

pub returns-clause-read : goal.returns-clause-read
returns-clause-read c =
    let text : c.text.result.now ≡ text_of (files_of c.self.inside.files.items) c.in-Some.chunk.file = cc in
    let fills = subst (λ (bytes : List ℕ). c.read.new.room ≡ take c.in-Some.chunk.len (drop c.in-Some.chunk.at bytes) ++ drop c.in-Some.chunk.len c.args.room.now) text c.read.ensures in
    rw (← c.self.view_is) (chunk_read (text_of (files_of c.self.inside.files.items)) c.self.inside.opened c.next_chunk.new.self c.args.room.now c.in-Some.chunk c.read.new.room c.self.invariant c.in-Some.ensures fills)
