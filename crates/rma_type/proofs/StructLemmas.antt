-- The members of a struct, and how many elements they make.
use Rattle.std.proofs.Common.{◌≡◌, ◌+◌, List, [], ◌∷◌, map, fold, ap, ◌∙◌, arith}
use Rattle.rma_type.proofs.Words.{sum_by-cons, Member, TypeId, Summary, Origin, entry_count, times, members_of, summary, extent_of, with_member, struct_of, empty_summary, with_summaries, member_entries, all_entries, typemaps, typemap_in}
use Rattle.std.proofs.lemmas.Simd.{map-map}
use Rattle.rma_typemap.proofs.BoundLemmas.{entry_count_is}
use Rattle.rma_typemap.proofs.CopyLemmas.{summary_members}
use Rattle.rma_typemap.proofs.NearLemmas.{entries_repeated}

entries_members : (done : Summary) (ms : List (Member × Summary)) → (fold with_member done ms).entries ≡ done.entries + all_entries ms
entries_members done [] = omega arith
entries_members done (m ∷ ms) =
    rw (entries_members (with_member done m) ms, sum_by-cons member_entries m ms, entries_repeated (times m.0.length) (extent_of m.1) m.1) (omega arith)

pub summary_struct : (origins : List Origin) (members : List Member) (old_types : List TypeId) →
    summary (members_of members (map (typemap_in (typemaps origins)) old_types)) ≡ struct_of (with_summaries origins members old_types)
summary_struct origins members old_types =
    rw (summary_members members (map (typemap_in (typemaps origins)) old_types), map-map summary (typemap_in (typemaps origins)) old_types)

pub entry_count_struct : (origins : List Origin) (members : List Member) (old_types : List TypeId) →
    entry_count (members_of members (map (typemap_in (typemaps origins)) old_types)) ≡ all_entries (with_summaries origins members old_types)
entry_count_struct origins members old_types =
    entry_count_is (members_of members (map (typemap_in (typemaps origins)) old_types)) ∙ ap (λ (o : Summary). o.entries) (summary_struct origins members old_types)
    ∙ entries_members empty_summary (with_summaries origins members old_types) ∙ omega arith
