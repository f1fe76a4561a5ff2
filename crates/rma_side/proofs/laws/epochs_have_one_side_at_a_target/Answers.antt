use Rattle.std.proofs.Common.{◌≡◌, Some, sym, ap, ◌∙◌}
use Rattle.std.proofs.lemmas.Option.{same_Some}
use Rattle.rma_base.specs.declared.rank.Rank.{Rank}
use Rattle.rma_side.specs.Sides.{Asked, side_at}
use Rattle.rma_side.proofs.SidesLemmas.{each_at}
use Rattle.rma_side.proofs.laws.epochs_have_one_side_at_a_target.Goals as goal

pub returns : goal.returns
returns c = λ calls windows rank epochs sides others are also i j a b here there same_epoch same_target.
    let at = side_at calls windows rank epochs in
    let first = each_at (λ (own : Asked). at own.epoch own.target ≡ Some own.side) sides are.each i a here in
    let second = each_at (λ (own : Asked). at own.epoch own.target ≡ Some own.side) others also.each j b there in
    same_Some a.side b.side (sym first ∙ ap (λ n. at n a.target) same_epoch ∙ ap (λ (r : Rank). at b.epoch r) same_target ∙ second)
