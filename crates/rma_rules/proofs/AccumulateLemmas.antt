-- Where the operations of accumulates agree.
use Rattle.std.proofs.Common.{◌≡◌, ◌⊎◌, ◌↔◌, true, List, inl, inr, sym, subst, ◌∙◌}
use Rattle.rma_window.specs.Windows.{Window}
use Rattle.rma_rules.specs.declared.kind.Operation.{Operation}
use Rattle.rma_rules.specs.declared.kind.Operation.TheVariants.{CompareAndSwap}
use Rattle.rma_rules.specs.declared.kind.Kind.TheVariants.{Accumulate}
use Rattle.rma_rules.specs.Access.{Access}
use Rattle.rma_rules.specs.Kind.{is_no_op}
use Rattle.rma_rules.specs.Element.{AllowsNoOp, MayMeet, OperationsAgree}

same_operation : (one two : Operation) → Accumulate one ≡ Accumulate two → one ≡ two
same_operation one two is = cc

-- the operations agree where they may meet
pub agree_is : (windows : List Window) (a b : Access) (one two : Operation) → a.kind ≡ Accumulate one → b.kind ≡ Accumulate two → MayMeet windows a one two ↔ OperationsAgree windows a b
unfolding OperationsAgree
agree_is windows a b one two a_is b_is = (
  λ may. (one, two, a_is, b_is, may),
  λ agree.
      let first : agree.0 ≡ one = same_operation agree.0 one (sym agree.2 ∙ a_is) in
      let second : agree.1 ≡ two = same_operation agree.1 two (sym agree.3 ∙ b_is) in
      subst (λ o. MayMeet windows a o two) first (subst (λ o. MayMeet windows a agree.0 o) second agree.4),
)

-- and else one of the two is no accumulate
pub first_agrees : (windows : List Window) (a b : Access) → OperationsAgree windows a b → (one : Operation) × (a.kind ≡ Accumulate one)
unfolding OperationsAgree
first_agrees windows a b agree = (agree.0, agree.2)

pub second_agrees : (windows : List Window) (a b : Access) → OperationsAgree windows a b → (two : Operation) × (b.kind ≡ Accumulate two)
unfolding OperationsAgree
second_agrees windows a b agree = (agree.1, agree.3)

-- operations that may meet in every window
abbrev pub MeetAnywhere : Operation → Operation → Type 0
MeetAnywhere one two = (one ≡ two) ⊎ ((one ≡ CompareAndSwap) ⊎ (two ≡ CompareAndSwap))

pub may_anywhere : (windows : List Window) (a : Access) (one two : Operation) → MeetAnywhere one two → MayMeet windows a one two
may_anywhere windows a one two (inl same) = inl same
may_anywhere windows a one two (inr (inl swap)) = inr (inl swap)
may_anywhere windows a one two (inr (inr swap)) = inr (inr (inl swap))

pub may_here : (windows : List Window) (a : Access) (one two : Operation) → (MeetAnywhere one two → ⊥) → MayMeet windows a one two → AllowsNoOp windows a × ((is_no_op one ≡ true) ⊎ (is_no_op two ≡ true))
may_here windows a one two never (inl same) = absurd (never (inl same))
may_here windows a one two never (inr (inl swap)) = absurd (never (inr (inl swap)))
may_here windows a one two never (inr (inr (inl swap))) = absurd (never (inr (inr swap)))
may_here windows a one two never (inr (inr (inr here))) = here
