use Rattle.rma_cut.proofs.check.is_unseen.Goals as goal

pub returns-then-not-has_point : goal.returns-then-not-has_point
returns-then-not-has_point c = (
  λ test. record {
    returned = c.has_last_visible.ensures.0 test;
    lacks = λ there. let yes = c.has_point.ensures.1 there in let no = c.if-not-has_point.true in cc;
  },
  λ un. c.has_last_visible.ensures.1 un.returned,
)
