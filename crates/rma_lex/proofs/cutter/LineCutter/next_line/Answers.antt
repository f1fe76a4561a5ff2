use Rattle.std.proofs.Common.{◌≡◌, ◌+◌, true, Some, refl, sym, ap, subst, ◌∙◌, length, ℕ, drop}
use Rattle.rma_lex.specs.Cutting.{Cutting, Represents}
use Rattle.rma_lex.proofs.CutterLemmas.{TakesLine_at, HasNoLine_from, Represents_taken, slice_get_next, handed_all, some_line}
use Rattle.rma_lex.proofs.CleanLemmas.{clean_line}
use Rattle.rma_lex.proofs.cutter.LineCutter.next_line.Goals as goal

pub checked-requires : goal.checked-requires
checked-requires c =
    let is = rw c.deref.ensures.value at c.in-Some.ensures.some in
    let knows = rw c.deref.ensures.value at c.in-Some.ensures.knows in
    rw c.deref-in-Some.ensures.value (clean_line c.next_end.new.self c.self.inside.text.items c.self.inside.feeds.start c.in-Some.end c.self.inside.closed knows is)

pub returns-in-Some : goal.returns-in-Some
returns-in-Some c =
    let before = c.args.self.now in
    let inside = c.self.inside in
    let start = inside.feeds.start in
    let end = c.in-Some.end in
    let next = c.next_end.new.self.start in
    let is = rw c.deref.ensures.value at c.in-Some.ensures.some in
    let takes = TakesLine_at before inside.text.items inside.fed inside.handed start inside.closed c.self.view_is c.deref-in-Some.result.now end next c.deref-in-Some.ensures.value is in (
      (refl, λ _. tt, record { line = record { line = _; ended = _; takes = takes; content_is = c.checked.ensures.content }; text = λ text represents. Represents_taken _ _ _ _ text takes represents }),
      record {
        none = (λ e. cc, λ none. absurd (some_line before _ _ _ takes.0 none));
        number = c.checked.ensures.number ∙ ap (λ cutting. cutting.handed + 1) c.self.view_is;
        text = λ text represents. slice_get_next before _ _ _ takes.0 text represents ∙ ap Some (sym c.checked.ensures.content);
        all = λ text represents e. cc;
        after = tt;
      },
    )

pub returns-in-None : goal.returns-in-None
returns-in-None c =
    let inside = c.self.inside in
    let start = inside.feeds.start in
    let none = rw c.deref.ensures.value at c.in-None.ensures.none.0 in
    let ended = λ (e : inside.closed ≡ true). c.in-None.ensures.none.1 e ∙ ap length c.deref.ensures.value in
    let empty = HasNoLine_from c.args.self.now inside.text.items inside.fed inside.handed start inside.closed c.self.view_is none ended in
    let with_start = λ (at : ℕ). let cutting : Cutting = record { fed = inside.fed; handed = inside.handed; rest = drop at inside.text.items; closed = inside.closed } in cutting in
    let same = ap with_start c.in-None.ensures.none.2 ∙ c.self.view_is in (
      (refl, λ _. tt, record { line = same; text = λ text represents. subst (λ cutting. Represents cutting text) (sym same) represents }),
      record {
        none = (λ _. empty, λ _. refl);
        number = tt;
        text = λ text represents. tt;
        all = λ text represents _ closed. handed_all _ text represents empty closed;
        after = tt;
      },
    )
