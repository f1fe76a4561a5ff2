use Rattle.std.specs.Prelude.{Vec, String}
use Rattle.std.specs.declared.alloc.Global.{Global}
use Rattle.std.proofs.lemmas.Bool.{false≢true}
use Rattle.std.proofs.lemmas.Option.{slice_get_read}
use Rattle.std.proofs.lemmas.Slice.Eq.{bytes_eq-Decides}
use Rattle.std.proofs.Common.{◌≡◌, ◌≢◌, ℕ, ◌<◌, List, refl, length, take, get_or, subst, sym, ap, ◌∙◌, arith}
use Rattle.std.proofs.lemmas.List.{get_or-map, length-map, take_all}
use Rattle.std.proofs.lemmas.List.Elements.{All-more}
use Rattle.rma_io.specs.MemoryLogs.{File, file_of, files_of, NoneNamed}
use Rattle.rma_io.proofs.memory_logs.index_of.Goals as goal

-- the file at a index that was read
at : (files : List (String Global × Vec ℕ Global)) (index : ℕ) (file : String Global × Vec ℕ Global)
    → index < length files → file ≡ get_or files index file → get_or (files_of files) index (file_of file) ≡ file_of file
at files index file there read = get_or-map file_of files index file (file_of file) there ∙ ap file_of (sym read)

pub returns-then-eq : goal.returns-then-eq
returns-then-eq c =
    let files = c.args.files.now in
    let file = c.index-files-index.result in
    let is_file = at files c.loop-index.index file c.loop-index-test.true c.index-files-index.is in
    let n = length-map files file_of in
    let l = c.loop-index-test.true in
    let same = (bytes_eq-Decides c.as_str.result.now c.args.name.now).0 (sym c.if-eq.ensures) in (
      file_of file,
      record {
        none_before = c.loop-index.invariant;
        stands = slice_get_read (files_of files) (length (files_of files)) c.loop-index.index (file_of file) refl (omega arith) (sym is_file);
        named = sym c.as_str.ensures.value ∙ same;
      },
    )

pub loop-index-preserved : goal.loop-index-preserved
loop-index-preserved c =
    let files = c.args.files.now in
    let file = c.index-files-index.result in
    let is_file = at files c.loop-index.index file c.loop-index-test.true c.index-files-index.is in
    let n = length-map files file_of in
    let l = c.loop-index-test.true in
    let other : (file_of file).name ≢ c.args.name.now =
    λ e. false≢true (c.if-eq.ensures ∙ (bytes_eq-Decides c.as_str.result.now c.args.name.now).1 (c.as_str.ensures.value ∙ e)) in
    All-more (λ (f : File). f.name ≢ c.args.name.now) (files_of files) c.loop-index.index (file_of file) (omega arith) c.loop-index.invariant
    (subst (λ (f : File). f.name ≢ c.args.name.now) (sym is_file) other)

pub returns : goal.returns
returns c =
    let files = files_of c.args.files.now in
    let n = length-map c.args.files.now file_of in
    let same : take c.loop-index.index files ≡ files = take_all c.loop-index.index files (omega arith) in
    subst (λ (xs : List File). NoneNamed xs c.args.name.now) same c.loop-index.invariant
