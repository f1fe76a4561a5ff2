use Rattle.std.proofs.Common.{◌≡◌, ℕ, Bool, false, not, ◌||◌, ◌∷◌, [], get_or, take, sym, ap, ◌∙◌}
use Rattle.std.specs.Prelude.{is_none}
use Rattle.std.specs.List.{list_any}
use Rattle.std.proofs.lemmas.List.{take_more, take_all}
use Rattle.std.proofs.lemmas.List.Folds.{list_any-append}
use Rattle.rma_exposure.specs.Matching.{match_of}
use Rattle.rma_exposure.proofs.exposures.Exposures.lacks_match.Goals as goal

pub loop-other-preserved : goal.loop-other-preserved
loop-other-preserved c = λ calls are.
    let members = c.numbers-other-items.result.now in
    let i = c.loop-other.other-index in
    let lacks : ℕ → Bool = λ other. is_none (match_of c.args.side c.args.window.now calls c.args.rank.0 c.args.number other) in
    let member = get_or members i 0 in
    let matched : lacks member ≡ false = sym (ap is_none (c.match_of-matched.ensures calls are)) ∙ ap not (c.is_none.ensures ∙ ap not c.if-is_none.false) in
    ap (list_any lacks) (take_more members i 0 c.loop-other-test.true)
    ∙ list_any-append lacks (take i members) (member ∷ [])
    ∙ ap (λ b. b || (lacks member || false)) (c.loop-other.invariant calls are)
    ∙ ap (λ b. b || false) matched

pub returns : goal.returns
returns c = λ calls are.
    let lacks : ℕ → Bool = λ other. is_none (match_of c.args.side c.args.window.now calls c.args.rank.0 c.args.number other) in
    let whole = take_all c.loop-other.other-index c.numbers-other-items.result.now c.loop-other-test.false ∙ c.numbers-other-items.ensures.numbers in
    sym (ap (list_any lacks) (sym whole) ∙ c.loop-other.invariant calls are)
