use Rattle.std.proofs.Common.{◌≡◌, map, ap, ◌∙◌, false, rules}
use Rattle.std.specs.Prelude.{codes, nat_eq}
use Rattle.std.specs.Cmp.Lexicographic.{pointwise}
use Rattle.rma_base.specs.RankSet.{number_of}
use Rattle.rma_field.proofs.RankFieldLemmas.{rank_set_ranks}
use Rattle.rma_field.proofs.rank_set.ranks_field.Goals as goal

pub returns-then-not-listed : goal.returns-then-not-listed
returns-then-not-listed c =
    let other : pointwise nat_eq c.args.text.now (codes "none") ≡ false = search rules in
    let near : c.in_ok-listed.listed.far ≡ false = search rules in
    let read = c.in_ok-listed.ensures.ok in
    let kept : map number_of c.as_slice.result.now ≡ _ = ap (map number_of) c.as_slice.ensures.value ∙ read.2.ranks in
    rw (← c.ranks.ensures.ranks, rank_set_ranks _ c.args.text.now read.0 _ c.in_ok-listed.listed.far other read.1 kept read.2.far near) c.set_of-then-not-listed.ensures
