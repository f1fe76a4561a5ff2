-- The words that the proofs of this crate speak with.
pub use Rattle.rma_base.specs.Limits.{address_limit, element_limit}
pub use Rattle.rma_datatype.specs.Basic.{basic_word}
pub use Rattle.rma_datatype.specs.contracts.basic.Basic.{the_type}
pub use Rattle.rma_datatype.specs.declared.basic.Basic.{Basic}
pub use Rattle.rma_datatype.specs.declared.basic.Basic.TheVariants.{SignedChar}
pub use Rattle.rma_datatype.specs.declared.make.Block.{Block}
pub use Rattle.rma_datatype.specs.declared.make.ByteBlock.{ByteBlock}
pub use Rattle.rma_datatype.specs.declared.make.Make.{Make}
pub use Rattle.rma_datatype.specs.declared.make.Make.TheVariants.{Contiguous, Hindexed, Hvector, Indexed, IndexedBlock, Resized, Struct, Subarray, Vector}
pub use Rattle.rma_datatype.specs.declared.make.Member.{Member}
pub use Rattle.rma_type.specs.FirstTable.{words_from}
unfoldable pub use Rattle.rma_type.specs.FirstTable.{basics, table_of_basics}
pub use Rattle.rma_type.specs.Names.{all_live, id_of, member_names, old_names, old_types_of}
pub use Rattle.rma_type.specs.Refusal.{IsErrorOf, breaks_array, has_large_array, has_negative, is_negative}
unfoldable pub use Rattle.rma_type.specs.Refusal.{new_typemap, refusal}
pub use Rattle.rma_type.specs.Signature.{AreRuns, BeginsOther, BeginsWith, IsRunsOf, basics_of, spread}
pub use Rattle.rma_type.specs.Table.{ComesAfter, Table, typemap_in, typemap_of, with_typemap}
unfoldable pub use Rattle.rma_type.specs.Table.{typemaps}
pub use Rattle.rma_type.specs.declared.fault.TypeError.{TypeError}
pub use Rattle.rma_type.specs.declared.fault.TypeError.TheVariants.{Fault, Memory}
pub use Rattle.rma_type.specs.declared.fault.TypeFault.TheVariants.{BadSubarray, NameInUse, NegativeCount, OutOfSpace, UnknownType}
pub use Rattle.rma_type.specs.declared.id.TypeId.{TypeId}
pub use Rattle.rma_type.specs.declared.origin.Origin.{Origin}
pub use Rattle.rma_type.specs.declared.origin.Origin.TheVariants.{Derived}
pub use Rattle.rma_type.specs.declared.prefix.Cursor.{Cursor}
pub use Rattle.rma_type.specs.declared.sig_run.SigRun.{SigRun}
pub use Rattle.rma_type.specs.declared.signature_source.SignatureSource.{SignatureSource}
pub use Rattle.rma_type.specs.declared.signature_source.SignatureSource.TheVariants.{Own, Shared}
pub use Rattle.rma_type.specs.declared.table.Kept.{Kept}
pub use Rattle.rma_type.specs.declared.table.TypeTable.TheInside.{Inside}
pub use Rattle.rma_type.specs.inside.Cursor.{IsCursor, rest_at, rest_from}
pub use Rattle.rma_type.specs.inside.Kept.{IsKept, IsTable, origins_of, table_of}
pub use Rattle.rma_type.specs.inside.Made.{IsChecked, IsMeasured, refusal_of_new, typemap_of_new}
pub use Rattle.rma_type.specs.inside.Members.{all_entries, member_entries, summary_in, with_summaries}
pub use Rattle.rma_type.specs.inside.Put.{IsWithBasic}
pub use Rattle.rma_type.specs.inside.SignatureSource.{HasSignature, IsSourceOf, signature_in, struct_signature, with_signatures}
pub use Rattle.rma_type.specs.inside.Words.{words_differ}
pub use Rattle.rma_typemap.specs.Array.{cuts_of, is_part, whole_of_cuts}
unfoldable pub use Rattle.rma_typemap.specs.Bounds.{entry_count, signature}
pub use Rattle.rma_typemap.specs.Constructors.{constructed, members_of, times}
unfoldable pub use Rattle.rma_typemap.specs.Signature.{copies}
unfoldable pub use Rattle.rma_typemap.specs.Space.{is_all_in_space}
pub use Rattle.rma_typemap.specs.Typemap.{Typemap, element}
pub use Rattle.rma_typemap.specs.declared.summary.Summary.{Summary}
pub use Rattle.rma_typemap.specs.inside.Counts.{IsCounted, IsSingle, copies_of}
pub use Rattle.rma_typemap.specs.inside.Near.{IsNearby, IsSound}
pub use Rattle.rma_typemap.specs.inside.Summary.{empty_summary, extent_of, made_of_summary, struct_of, summary_is_in_space, with_member}
unfoldable pub use Rattle.rma_typemap.specs.inside.Summary.{summary}
pub use Rattle.std.proofs.lemmas.Bool.{false≢true, not-false, not-true, or_parts}
pub use Rattle.std.proofs.lemmas.Bool.Decides.{nat_tests}
pub use Rattle.std.proofs.lemmas.List.{append-nil, append_assoc, append_cancel_left, get_or-map, get_or_append_left, get_or_at, get_or_default, length-append, length-map, length-replicate, length-set, length-take-le, length_push, map-append, map-set, map_more, nil_from_length, replicate-append-replicate, take_all, take_more}
pub use Rattle.std.proofs.lemmas.List.Folds.{length-flat_map-take, list_all-append, list_all_at}
pub use Rattle.std.proofs.lemmas.List.Sums.{fold_more, fold_push, sum_by-cons, sum_by_more, sum_by_more_le}
pub use Rattle.std.specs.List.{cons_option, list_all, list_any, zip}
pub use Rattle.std.proofs.lemmas.List.Elements.{All-cons, All-nil, All-replicate}
pub use Rattle.std.proofs.lemmas.Option.{slice_get_within, slice_get_read, get_or_from_slice_get}

-- what is read where there is no datatype
abbrev pub no_type : TypeId
no_type = record { 0 = 0 }
