use Rattle.std.proofs.Common.{◌≡◌, Bool, true, false, not, refl}
use Rattle.std.proofs.lemmas.Bool.{false≢true}
use Rattle.rma_epoch.proofs.WindowlessLemmas.{on_none}
use Rattle.rma_epoch.proofs.whole.are_on_no_window.Goals as goal

has_none : (has : Bool) → not has ≡ true → has ≡ false
has_none true none = absurd (false≢true none)
has_none false none = refl

pub returns : goal.returns
returns c = λ none i call at.
    on_none call.what (c.has.ensures c.if-has.false i call at) (c.has-else-has.ensures c.if-has-2.false i call at) (c.has-2.ensures (has_none c.has-2.result none) i call at)
