use Rattle.std.proofs.Common.{◌≡◌, ℕ, suc, List, [], take, drop, get_or, Bor, None, rules, sym, ◌∙◌, add-one}
use Rattle.rma_field.specs.Texts.{texts_at}
use Rattle.rma_field.proofs.AssertionLemmas.{IsFound_more, texts_more, texts_split, unknown_word}
use Rattle.rma_field.proofs.assertion_field.find_all.Goals as goal

pub returns-in_default : goal.returns-in_default
returns-in_default c =
    let none : c.assertion_of.result ≡ None = search rules in
    let words = c.args.words.now in
    let i = c.loop-word.word-index in
    let nowhere : Bor (List ℕ) = record { ref_ptr = (0, 0); now = [] } in
    rw (texts_split words i nowhere c.loop-word-test.true)
    (unknown_word c.args.allowed.now (texts_at (take i words)) (get_or words i nowhere).now (texts_at (drop (suc i) words)) (sym c.assertion_of.ensures ∙ none) c.loop-word.invariant.known)

pub loop-word-preserved : goal.loop-word-preserved
loop-word-preserved c =
    rw (add-one, texts_more c.args.words.now c.loop-word.word-index (record { ref_ptr = (0, 0); now = [] }) c.loop-word-test.true)
    (IsFound_more _ _ _ _ _ _ (sym c.assertion_of.ensures ∙ c.in-Some.is) c.loop-word.invariant c.add.ensures.assertions c.add.ensures.repeated)
