use Rattle.rma_cut.proofs.check.is_unpublished.Goals as goal

pub returns-then-has_starts : goal.returns-then-has_starts
returns-then-has_starts c = (
  λ test. record { starts = c.has_starts.ensures.0 c.if-has_starts.true; lacks = c.lacks_first_publishing.ensures.0 test },
  λ un. c.lacks_first_publishing.ensures.1 un.lacks,
)
