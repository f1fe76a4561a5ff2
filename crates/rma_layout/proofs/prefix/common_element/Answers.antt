use Rattle.std.proofs.Common.{arith}
use Rattle.rma_layout.proofs.SignatureLemmas.{none_touched}
use Rattle.rma_layout.proofs.CommonLemmas.{never_empty, all_of_one, all_of_first, never_all}
use Rattle.rma_type.proofs.Words.{typemaps, typemap_in}
use Rattle.rma_layout.proofs.prefix.common_element.Goals as goal

pub returns-then-entries-eq0 : goal.returns-then-entries-eq0
returns-then-entries-eq0 c = λ count address le basic some all. some (none_touched _ count address c.args.entries c.if-entries-eq0.true)

pub returns-in-empty : goal.returns-in-empty
returns-in-empty c = λ count address le basic some all.
    never_empty (typemap_in (typemaps c.args.types.now.origins) c.args.id) c.signature.result.now c.signature.ensures.runs count address c.args.entries (omega arith) le c.in-empty.len_below

pub returns-in-len1 : goal.returns-in-len1
returns-in-len1 c = λ count address le.
    all_of_one (typemap_in (typemaps c.args.types.now.origins) c.args.id) c.signature.result.now c.signature.ensures.runs count address c.args.entries (omega arith) le (omega arith)

pub returns-in-len1-up : goal.returns-in-len1-up
returns-in-len1-up c = λ count address le.
    all_of_first (typemap_in (typemaps c.args.types.now.origins) c.args.id) c.signature.result.now c.signature.ensures.runs count address c.args.entries (omega arith) le (omega arith) c.if-entries-run.true

pub returns-in_default : goal.returns-in_default
returns-in_default c = λ count address le basic some all.
    never_all (typemap_in (typemaps c.args.types.now.origins) c.args.id) c.signature.result.now c.signature.ensures.runs count address c.args.entries (omega arith) le (omega arith) (omega arith) basic all
