use Rattle.std.proofs.Common.{rules, sym}
use denote.Enum.Bare.{same_true, same_false}
use Rattle.rma_datatype.specs.contracts.basic.Basic.{the_type}
use Rattle.rma_buffer.proofs.ElementLemmas.{mixed_first, mixed_last, one_of_both, mixed_of_both}
use Rattle.rma_buffer.proofs.element.joined.Goals as goal

pub returns-then-eq : goal.returns-then-eq
returns-then-eq c basics others h k =
    one_of_both c.args.first c.args.second c.in-One-One.basic c.in-One-One.other basics others c.in-One-One.is-0 c.in-One-One.is-1
    (same_true the_type (search rules) _ _ (sym c.if-eq.ensures)) h k

pub returns-else-eq : goal.returns-else-eq
returns-else-eq c basics others h k =
    mixed_of_both c.args.first c.args.second c.in-One-One.basic c.in-One-One.other basics others c.in-One-One.is-0 c.in-One-One.is-1
    (same_false the_type _ _ (sym c.if-eq.ensures)) h k

pub returns-in-Mixed-default : goal.returns-in-Mixed-default
returns-in-Mixed-default c basics others h k = mixed_first c.args.first basics others c.in-Mixed-default.is-0 h

pub returns-in-Mixed-default-2 : goal.returns-in-Mixed-default-2
returns-in-Mixed-default-2 c basics others h k = mixed_first c.args.first basics others c.in-Mixed-default.is-0 h

pub returns-in-Mixed-default-3 : goal.returns-in-Mixed-default-3
returns-in-Mixed-default-3 c basics others h k = mixed_last c.args.second basics others c.in-Mixed-default.is-1 k
