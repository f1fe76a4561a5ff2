-- One more member at a loop's step.
use Rattle.std.proofs.Common.{◌≡◌, ℕ, ◌+◌, ◌<◌, ◌≤◌, List, length, get_or, take, map, ap, ◌∙◌, arith}
use Rattle.rma_type.proofs.Words.{get_or-map, length-map, take_all, fold_more, sum_by_more, sum_by_more_le, Member, TypeId, Origin, with_member, struct_of, empty_summary, summary_in, with_summaries, member_entries, all_entries, zip}
use Rattle.std.proofs.lemmas.Slice.Zip.{get_or-zip, length-zip}

-- members, each beside something of its old datatype
module _ {X : Type 0} (f : TypeId → X) (members : List Member) (old_types : List TypeId) (fit : length old_types ≡ length members) where
  pub length_beside : length (zip members (map f old_types)) ≡ length members
  length_beside =
      let mapped = length-map old_types f in
      let both = length-zip members (map f old_types) in
      omega arith

  pub beside_at : (i : ℕ) (m : Member) (none : TypeId) → i < length members → get_or members i m ≡ m → get_or (zip members (map f old_types)) i (m, f none) ≡ (m, f (get_or old_types i none))
  beside_at i m none within is =
      let mapped = length-map old_types f in
      get_or-zip members (map f old_types) i (m, f none) within (omega arith) ∙ rw (is, get_or-map f old_types i none (f none) (omega arith))

  pub all_taken : (i : ℕ) → length members ≤ i → take i (zip members (map f old_types)) ≡ zip members (map f old_types)
  all_taken i h = let long = length_beside in take_all i (zip members (map f old_types)) (omega arith)

module _ (origins : List Origin) (members : List Member) (old_types : List TypeId) (fit : length old_types ≡ length members)
    (i : ℕ) (m : Member) (none : TypeId) (within : i < length members) (is : get_or members i m ≡ m) where
  inside : i < length (with_summaries origins members old_types)
  inside = let long = length_beside (summary_in origins) members old_types fit in omega arith

  pub member_more : struct_of (take (i + 1) (with_summaries origins members old_types)) ≡
      with_member (struct_of (take i (with_summaries origins members old_types))) (m, summary_in origins (get_or old_types i none))
  member_more =
      rw (fold_more with_member empty_summary (with_summaries origins members old_types) i (m, summary_in origins none) inside, beside_at (summary_in origins) members old_types fit i m none within is)

  pub entries_more : all_entries (take (i + 1) (with_summaries origins members old_types)) ≡
      all_entries (take i (with_summaries origins members old_types)) + member_entries (m, summary_in origins (get_or old_types i none))
  entries_more =
      rw (sum_by_more member_entries (with_summaries origins members old_types) i (m, summary_in origins none) inside, beside_at (summary_in origins) members old_types fit i m none within is)

  pub entries_more_le : all_entries (take i (with_summaries origins members old_types)) + member_entries (m, summary_in origins (get_or old_types i none)) ≤
      all_entries (with_summaries origins members old_types)
  entries_more_le =
      let le = sum_by_more_le member_entries (with_summaries origins members old_types) i (m, summary_in origins none) inside in
      omega (arith, le, ap member_entries (beside_at (summary_in origins) members old_types fit i m none within is))
