-- How lists of lock epochs are kept.
use Rattle.std.specs.Prelude.{◌≤◌, List, map, length, slice_range}
use Rattle.rma_rules.specs.declared.lock.LockKey.{LockKey}
use Rattle.rma_cover.specs.declared.key_lists.KeyRange.{KeyRange}

-- a range lies among the keys
pub record IsRangeIn (keys : List LockKey) (range : KeyRange) : Type 0 where
  pub begins : range.start ≤ range.end
  pub ends : range.end ≤ length keys

-- the lists of some ranges
abbrev pub lists_in : List LockKey → List KeyRange → List (List LockKey)
lists_in keys ranges = map (λ range. slice_range keys range.start range.end) ranges
