use Rattle.std.proofs.Common.{◌≡◌, ◌++◌, ℕ, List, [], length, eqb-true, append_assoc, length-append, refl, ap, sym, ◌∙◌, subst, arith}
use Rattle.rma_lex.specs.Line.{line_feeds}
use Rattle.std.proofs.lemmas.List.{append-nil, nil_from_length}
use Rattle.rma_lex.specs.Cutting.{Cutting}
use Rattle.rma_log.specs.declared.reader.Reader.{Reader}
use Rattle.rma_book.specs.inside.RankState.{RankState, ReadsPart}
use Rattle.rma_log.specs.inside.Reading.{IsReading}
use Rattle.rma_book.proofs.rank_book.RankBook.feed.Goals as goal

-- one part was read, and then another
parts_read : (one two three : Cutting) (first second third : Reader) (part more : List ℕ) → ReadsPart one two first second part → ReadsPart two three second third more
    → ReadsPart one three first third (part ++ more)
parts_read one two three first second third part more before after = record {
  fed = after.fed ∙ omega (arith, before.fed, length-append part more);
  reads = λ rank logs bytes h.
      subst (λ (text : List ℕ). IsReading rank logs three text third × (three.handed ≡ line_feeds text)) (append_assoc bytes part more)
      (after.reads rank logs (bytes ++ part) (before.reads rank logs bytes h).0);
}

pub parts-init : goal.parts-init
parts-init c =
    let it = c.in_ok-rest.ensures.read in (
      it.0,
      it.1,
      subst (λ (state : RankState). ReadsPart state.text c.read_part.new.self.text state.reader c.read_part.new.self.reader it.0) c.self.view_is it.2,
      c.in_ok-rest.ensures.open,
      ap (λ (state : RankState). state.fault) c.in_ok-rest.ensures.same ∙ ap (λ (state : RankState). state.fault) c.self.view_is,
      ap (λ (state : RankState). state.ran_out) c.in_ok-rest.ensures.same,
      c.in_ok-rest.ensures.kept,
    )

pub parts-preserved : goal.parts-preserved
parts-preserved c =
    let before = c.parts.invariant in
    let it = c.in_ok-rest-2.ensures.read in (
      before.0 ++ it.0,
      before.1 ∙ ap (λ more. before.0 ++ more) it.1 ∙ sym (append_assoc before.0 it.0 c.in_ok-rest-2.rest.now),
      parts_read c.args.self.now.text c.parts.self.text c.read_part-in-parts.new.self.text c.args.self.now.reader c.parts.self.reader c.read_part-in-parts.new.self.reader before.0 it.0 before.2 it.2,
      c.in_ok-rest-2.ensures.open,
      ap (λ (state : RankState). state.fault) c.in_ok-rest-2.ensures.same ∙ before.4,
      ap (λ (state : RankState). state.ran_out) c.in_ok-rest-2.ensures.same ∙ before.5,
      c.in_ok-rest-2.ensures.kept,
    )

pub returns-clause-text : goal.returns-clause-text
returns-clause-text c = λ rank logs bytes h.
    let all = c.parts.invariant in
    let piece = c.args.piece.now in
    let none : c.parts.rest.now ≡ [] = nil_from_length c.parts.rest.now (eqb-true (length c.parts.rest.now) 0 (sym c.is_empty.ensures ∙ c.parts-test.false)) in
    let whole : all.0 ≡ piece = sym (all.1 ∙ ap (λ rest. all.0 ++ rest) none ∙ append-nil all.0) in
    let inside = c.self-2.inside in
    let read = subst (λ (part : List ℕ). IsReading rank logs inside.cutter (bytes ++ part) inside.reader × (inside.cutter.handed ≡ line_feeds (bytes ++ part))) whole
    (subst (λ (state : RankState). IsReading rank logs state.text (bytes ++ all.0) state.reader × (state.text.handed ≡ line_feeds (bytes ++ all.0))) (sym c.self-2.view_is)
    (all.2.reads rank logs bytes (record { represents = h.fed; read = h.read }))) in
    record {
      in_memory = refl;
      fed = read.0.represents;
      goes_on = ap (λ (state : RankState). state.text.closed) c.self-2.view_is ∙ all.3;
      whole = read.1;
      read = read.0.read;
      fault_read = refl;
    }
