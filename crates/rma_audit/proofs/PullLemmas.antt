-- What pulls keep.
use Rattle.std.proofs.Common.{◌≡◌, refl, ◌∙◌}
use Rattle.rma_audit.specs.inside.Progress.{AfterPulls, NoPull, OnePull}

-- what no pull changes, none of them changed
pub kept_by_pulls : {P X : Type 0} (stays : P → P → Type 0) (what : P → X) → ((a b : P) → stays a b → what b ≡ what a) → (first last : P) → AfterPulls stays first last → what last ≡ what first
kept_by_pulls stays what each first last NoPull = refl
kept_by_pulls stays what each first last (OnePull before after earlier one) = each before after one ∙ kept_by_pulls stays what each first before earlier
