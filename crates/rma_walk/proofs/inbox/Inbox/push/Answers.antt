use Rattle.std.proofs.Common.{◌≡◌, ◌<◌, List, [], ◌∷◌, length, get_or, map, set, sym, subst, ap, ◌∙◌, arith}
use Rattle.std.proofs.lemmas.List.{length-map, get_or_read}
use Rattle.rma_walk.specs.declared.source.Source.{Source}
use Rattle.rma_walk.specs.declared.waits.Waits.TheVariants.{Nothing, Meet, Arrivals}
use Rattle.rma_walk.specs.declared.waits.Arrival.{Arrival}
use Rattle.rma_walk.specs.inside.Inbox.{source_of, chain}
use Rattle.rma_walk.proofs.InboxLemmas.{get_or-map_in, waits_set, arrived}
use Rattle.rma_walk.proofs.inbox.Inbox.push.Goals as goal

pub returns-in-Nothing-Meet : goal.returns-in-Nothing-Meet
returns-in-Nothing-Meet c =
    let arrivals = c.self.inside.arrivals.items in
    let waits = c.self.inside.waits.items in
    let all = map (chain arrivals) waits in
    let call = c.args.call in
    let within : call < length waits = omega (arith, ap length c.self.view_is, length-map waits (chain arrivals), c.requires) in
    let read = get_or_read waits call c.index-before.result.now within c.index-before.ensures Nothing in
    let none : get_or all call [] ≡ [] = get_or-map_in (chain arrivals) waits call Nothing [] within ∙ ap (chain arrivals) (sym read ∙ c.in-Nothing-Meet.is-0) in
    let source : source_of c.in_ok-source.source ≡ c.args.source = c.in_ok-source.ensures in
    let met : chain arrivals (Meet c.in-Nothing-Meet.index) ≡ c.args.source ∷ get_or all call [] =
    ap (λ (s : Source). s ∷ []) (sym (ap source_of c.in-Nothing-Meet.is-1) ∙ source) ∙ ap (λ rest. c.args.source ∷ rest) (sym none) in
    let Q : List (List Source) → Type 0 = λ v. map (chain arrivals) (set waits call (Meet c.in-Nothing-Meet.index)) ≡ set v call (c.args.source ∷ get_or v call []) in
    subst Q c.self.view_is (waits_set arrivals waits call (Meet c.in-Nothing-Meet.index) _ met)

pub returns : goal.returns
returns c =
    let arrivals = c.self.inside.arrivals.items in
    let waits = c.self.inside.waits.items in
    let call = c.args.call in
    let index = c.in-Ok.index in
    let a : Arrival = record { source = c.in_ok-source.source; before = c.index-before.result.now } in
    let within : call < length waits = omega (arith, ap length c.self.view_is, length-map waits (chain arrivals), c.requires) in
    let read = get_or_read waits call c.index-before.result.now within c.index-before.ensures Nothing in
    let number : index ≡ length arrivals = omega (arith, c.in-Ok.ensures, c.len.ensures) in
    let source : source_of c.in_ok-source.source ≡ c.args.source = c.in_ok-source.ensures in
    let all = map (chain arrivals) waits in
    let P : Source → Type 0 = λ s. map (chain c.push.new.self.items) (set waits call (Arrivals index)) ≡ set all call (s ∷ get_or all call []) in
    let Q : List (List Source) → Type 0 = λ v. map (chain c.push.new.self.items) (set waits call (Arrivals index)) ≡ set v call (c.args.source ∷ get_or v call []) in
    let R : List Arrival → Type 0 = λ more. map (chain more) (set waits call (Arrivals index)) ≡ set all call (source_of a.source ∷ get_or all call []) in
    subst Q c.self.view_is (subst P source (subst R (sym c.in_ok-push.ensures.items) (arrived arrivals waits a call index c.self.invariant within read number)))
