-- The members of a struct, beside the summaries of their old datatypes.
use Rattle.std.specs.Prelude.{ℕ, ◌*◌, List, map, sum_by}
use Rattle.std.specs.List.{zip}
use Rattle.rma_datatype.specs.declared.make.Member.{Member}
use Rattle.rma_type.specs.declared.id.TypeId.{TypeId}
use Rattle.rma_typemap.specs.declared.summary.Summary.{Summary}
use Rattle.rma_type.specs.declared.origin.Origin.{Origin}
use Rattle.rma_typemap.specs.Constructors.{times}
use Rattle.rma_typemap.specs.inside.Summary.{summary}
use Rattle.rma_type.specs.Table.{typemaps, typemap_in}

-- the summary of a datatype of a table
abbrev pub summary_in : List Origin → TypeId → Summary
summary_in origins id = summary (typemap_in (typemaps origins) id)

-- each member beside the summary of its old datatype
abbrev pub with_summaries : List Origin → List Member → List TypeId → List (Member × Summary)
with_summaries origins members old_types = zip members (map (summary_in origins) old_types)

-- the number of elements of a member
abbrev pub member_entries : Member × Summary → ℕ
member_entries m = times m.0.length * m.1.entries

-- the number of elements of all members
abbrev pub all_entries : List (Member × Summary) → ℕ
all_entries members = sum_by member_entries members
