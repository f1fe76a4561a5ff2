use Rattle.std.proofs.Common.{◌≡◌, ◌++◌, List, [], Option, get_or, slice_get, take, sym, ap, subst, ◌∙◌, arith}
use Rattle.std.specs.List.{cons_option, filter_map}
use Rattle.std.specs.Option.{option_map_or}
use Rattle.std.proofs.lemmas.Option.{slice_get-get_or}
use Rattle.rma_call.specs.Call.{Call}
use Rattle.rma_rules.specs.Access.{Access}
use Rattle.rma_accesses.specs.inside.Kept.{rank_of}
use Rattle.rma_run.proofs.WalkLemmas.{filter_map_taken}
use Rattle.rma_rules.specs.declared.access_name.Role.TheVariants.{Local}
use Rattle.rma_touch.specs.Touches.{roles}
use Rattle.rma_span.specs.Span.{access_of, accesses_at, call_accesses, origin_of}
use Rattle.rma_races.specs.inside.Taking.{AreTaken, numbers}
use Rattle.rma_races.proofs.AskLemmas.{some_at}
use Rattle.rma_races.proofs.CallLemmas.{is_number}
use Rattle.rma_races.proofs.RoleLemmas.{of_run, to_come}
use Rattle.rma_races.proofs.taking.Taking.take_call.Goals as goal

pub take_some-requires : goal.take_some-requires
take_some-requires g c =
    let (ranks, links, seen, known, of_rank, clocks, taken, of_ranks, at, within) = c.requires in
    let own = rank_of c.args.own.now in
    let there = some_at (numbers ranks own) c.args.index within in
    let call = is_number (origin_of ranks own) c.args.index there.0 there.1 in
    let now = c.loop-role.invariant.2 ranks links seen there.0 call.0 known of_rank clocks taken of_ranks at there.1 call.1 in (
      ranks,
      links,
      seen ++ filter_map (access_of (origin_of ranks own) there.0 call.0) _,
      known,
      clocks,
      now,
      of_run ranks own c.access.result of_ranks (c.access.ensures.of_rank ranks of_rank),
      to_come ranks known.run own of_ranks c.loop-role.self now.begun c.args.index there.0 call.0 _ (ap (λ them. slice_get them.items own.rank.0) c.loop-role.invariant.0 ∙ at) there.1 c.access.result (c.access.ensures.is ranks there.0 call.0 of_rank there.1 call.1),
    )

pub loop-role-preserved : goal.loop-role-preserved
loop-role-preserved g c = (
  c.take_some.ensures.same.0 ∙ c.loop-role.invariant.0,
  c.take_some.ensures.same.1 ∙ c.loop-role.invariant.1,
  λ ranks links seen number call known of_rank clocks taken of_ranks at is there.
      let own = rank_of c.args.own.now in
      let origin = origin_of ranks own in
      let now = c.loop-role.invariant.2 ranks links seen number call known of_rank clocks taken of_ranks at is there in
      let made = c.access.ensures.is ranks number call of_rank is there in
      let next = c.in_ok-take_some.ensures.taken ranks links _ known clocks now (of_run ranks own c.access.result of_ranks (c.access.ensures.of_rank ranks of_rank))
      (to_come ranks known.run own of_ranks c.loop-role.self now.begun c.args.index number call _ (ap (λ them. slice_get them.items own.rank.0) c.loop-role.invariant.0 ∙ at) is c.access.result made) in
      let f = access_of origin number call in
      let i = c.loop-role.role-index in
      let role = get_or roles i Local in
      let more = ap (λ (o : Option Access). (seen ++ filter_map f (take i roles)) ++ cons_option o []) made ∙ filter_map_taken f roles i role seen (slice_get-get_or roles i Local c.loop-role-test.true) in
      subst (λ (l : List Access). AreTaken links c.args.windows.now c.args.lists.now ranks l c.take_some.new.self) more next,
)

pub returns-clause-taken : goal.returns-clause-taken
returns-clause-taken g c = λ ranks links seen number known of_rank clocks taken of_ranks at is.
    let own = rank_of c.args.own.now in
    let call = is_number (origin_of ranks own) c.args.index number is in
    let now = c.loop-role.invariant.2 ranks links seen number call.0 known of_rank clocks taken of_ranks at is call.1 in
    let f = access_of (origin_of ranks own) number call.0 in
    let past = c.loop-role-test.false in
    let fits = c.loop-role.auto.role-index-end in
    let all : c.loop-role.role-index ≡ 5 = omega (arith, past, fits) in
    let these : accesses_at (origin_of ranks own) number ≡ filter_map f roles = ap (λ (o : Option Call). option_map_or (call_accesses (origin_of ranks own) number) o []) call.1 in
    subst (λ (l : List Access). AreTaken links c.args.windows.now c.args.lists.now ranks (seen ++ l) c.loop-role.self) (ap (λ i. filter_map f (take i roles)) all ∙ sym these) now
