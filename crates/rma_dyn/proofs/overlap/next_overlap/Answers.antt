use Rattle.std.proofs.Common.{◌≡◌, get_or, Some, slice_get, arith}
use Rattle.std.proofs.lemmas.Option.{slice_get-get_or}
use Rattle.rma_dyn.proofs.OverlapLemmas.{met_end}
use Rattle.rma_dyn.proofs.overlap.next_overlap.Goals as goal

pub returns-then-lasts-index-clause-none : goal.returns-then-lasts-index-clause-none
returns-then-lasts-index-clause-none c = λ k x from below there meets.
    let list = c.args.list.now in
    let lasts = c.args.lasts.now in
    let i = c.args.index in
    let many = c.requires.lasts.as_many in
    let index = c.requires.index in
    let own = get_or list i x in
    let at : slice_get list i ≡ Some own = slice_get-get_or list i x index in
    let held = slice_get-get_or lasts i 0 (omega arith) in
    let same = c.start_of.ensures.same k x own from (omega arith) there at in
    c.requires.lasts.each i k own x _ (omega arith) at there same held c.args.attach.now.call c.if-lasts-index.true c.requires.own_small meets.live

pub returns-else-lasts-index-clause-none : goal.returns-else-lasts-index-clause-none
returns-else-lasts-index-clause-none c = λ k x from below there meets.
    let it = met_end c.args.list.now c.args.attach.now c.args.owner c.requires.rank c.requires.window x meets in
    c.next_behind.ensures.none k x from below there it.0 it.1 it.2 it.3
