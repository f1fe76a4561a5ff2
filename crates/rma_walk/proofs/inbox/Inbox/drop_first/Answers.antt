use Rattle.std.proofs.Common.{◌≡◌, ◌<◌, List, [], ◌∷◌, length, get_or, map, set, drop, sym, subst, ap, ◌∙◌, arith}
use Rattle.std.proofs.lemmas.List.{length-map, get_or_read}
use Rattle.rma_walk.specs.declared.source.Source.{Source}
use Rattle.rma_walk.specs.declared.waits.Waits.TheVariants.{Nothing}
use Rattle.rma_walk.specs.inside.Inbox.{chain}
use Rattle.rma_walk.proofs.InboxLemmas.{get_or-map_in, waits_set}
use Rattle.rma_walk.proofs.inbox.Inbox.drop_first.Goals as goal

pub returns-in-Some : goal.returns-in-Some
returns-in-Some c =
    let arrivals = c.self.inside.arrivals.items in
    let waits = c.self.inside.waits.items in
    let all = map (chain arrivals) waits in
    let first : Source = c.in-Some.field-0-0 in
    let rest = c.in-Some.rest in
    let within : c.args.call < length waits = omega (arith, ap length c.self.view_is, length-map waits (chain arrivals), c.requires.call) in
    let read = get_or_read waits c.args.call c.index.result.now within c.index.ensures Nothing in
    let parts : chain arrivals c.index.result.now ≡ first ∷ chain arrivals rest = rw c.deref.ensures.value at c.in-Some.ensures.some in
    let here : get_or all c.args.call [] ≡ first ∷ chain arrivals rest = get_or-map_in (chain arrivals) waits c.args.call Nothing [] within ∙ ap (chain arrivals) (sym read) ∙ parts in
    let Q : List (List Source) → Type 0 = λ v. map (chain arrivals) (set waits c.args.call rest) ≡ set v c.args.call (drop 1 (get_or v c.args.call [])) in
    subst Q c.self.view_is (waits_set arrivals waits c.args.call rest (drop 1 (get_or all c.args.call [])) (sym (ap (drop 1) here)))
