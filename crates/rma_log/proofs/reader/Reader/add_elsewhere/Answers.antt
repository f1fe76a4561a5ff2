use Rattle.rma_call.specs.Rma.{access_of}
use Rattle.rma_log.proofs.ElsewhereLemmas.{access_states, local_states}
use Rattle.rma_log.proofs.reader.Reader.add_elsewhere.Goals as goal

pub add_access-requires : goal.add_access-requires
add_access-requires c =
    let found = c.in-Some.found in
    let known = rw c.in-Some.is at c.in_ok-found.ensures.known in
    let within = rw c.in-Some.is at c.in_ok-found.ensures.within in
    let made = c.in-Some-place_elsewhere in
    access_states c.args.self.now.lines c.args.line.now.words found.what found.requests found.from.now c.elsewhere.new.to (access_of c.in-Rma.call) made.place made.ensures.none.0 known within c.in-Rma.ensures
    made.ensures.there

pub add_made-requires : goal.add_made-requires
add_made-requires c =
    let found = c.in-Some.found in
    let known = rw c.in-Some.is at c.in_ok-found.ensures.known in
    let none = rw c.in-Some-2.is at c.in_ok-call-in-Local.ensures.none in
    let there = rw c.in-Some-2.is at c.in_ok-call-in-Local.ensures.there in
    local_states c.args.self.now.lines c.args.line.now.words found.what found.requests found.from.now c.elsewhere.new.to c.in-Local.call.now c.in-Some-2.call none.0 known c.in-Local.ensures
    there
