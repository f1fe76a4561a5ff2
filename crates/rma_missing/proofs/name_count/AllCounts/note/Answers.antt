use Rattle.rma_call.specs.Call.{call_of}
use Rattle.rma_round.specs.declared.kind.Kind.TheVariants as kind
use Rattle.rma_missing.proofs.NameCountLemmas.{AreCounts_push}
use Rattle.rma_missing.proofs.name_count.AllCounts.note.Goals as goal

pub returns : goal.returns
returns c = λ before are.
    let call = call_of c.args.call in
    let old = c.args.self.now in
    record {
      collectives_are = AreCounts_push kind.Collective before call old.collectives.entries c.note.new.counts.entries are.collectives_are c.in_ok-note.ensures;
      frees_are = AreCounts_push kind.Free before call old.frees.entries c.note-2.new.counts.entries are.frees_are c.in_ok-note-2.ensures;
      fences_are = AreCounts_push kind.Fence before call old.fences.entries c.note-3.new.counts.entries are.fences_are c.in_ok-note-3.ensures;
      movings_are = AreCounts_push kind.Moving before call old.movings.entries c.note-4.new.counts.entries are.movings_are c.in_ok-note-4.ensures;
    }
