use Rattle.std.proofs.Common.{◌≡◌, false, true, get_or, None, rules}
use Rattle.std.specs.List.Sorted.{IsPartitionPoint}
use Rattle.std.proofs.lemmas.Fn.{always_returns_same}
use Rattle.std.proofs.lemmas.Option.{slice_get-get_or}
use Rattle.rma_rules.specs.declared.span.Exposure.{Exposure}
use Rattle.rma_rules.specs.declared.span.ExposureKind.TheVariants.{Posted}
use Rattle.rma_concurrent.proofs.ExposureLemmas.{all_beside, goes_on, is_near, near_first}
use Rattle.rma_concurrent.proofs.exposures.end_of_group.Goals as goal

none : Exposure
none = record { window = record { 0 = 0 }; target = record { 0 = 0 }; kind = Posted; opener = 0; close = None; opened = record { 0 = 0 } }

parted : (c : goal.After-partition_point) → let of = get_or c.args.list.now c.args.first none in IsPartitionPoint (λ own. is_near of own ≡ true) (λ own. is_near of own ≡ false) c.args.list.now c.partition_point.result
unfolding none
parted c =
    let list = c.args.list.now in
    let of = get_or list c.args.first none in
    c.partition_point.ensures.partitioned (is_near of) (always_returns_same _ (λ a r. r ≡ is_near of a.0.now) _ (λ a r f called. search rules)) (near_first list c.requires.rise of)

pub returns-clause-progress : goal.returns-clause-progress
returns-clause-progress c =
    let list = c.args.list.now in
    let first = c.args.first in
    goes_on list c.requires.rise (get_or list first none) first c.partition_point.result (slice_get-get_or list first none c.requires.first) (parted c)

pub returns-clause-beside : goal.returns-clause-beside
returns-clause-beside c =
    let list = c.args.list.now in
    let first = c.args.first in
    all_beside list c.requires.rise (get_or list first none) first c.partition_point.result (slice_get-get_or list first none c.requires.first) (parted c)
