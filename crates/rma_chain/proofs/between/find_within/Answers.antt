use Rattle.std.proofs.Common.{◌≡◌, ◌<◌, length, Some, Contains, slice_get, inl, arith}
use Rattle.rma_rules.specs.Access.{Access}
use Rattle.rma_pairs.specs.Races.{IsFoundBetween}
use Rattle.rma_chain.proofs.PlaceLemmas.{contained, read}
use Rattle.rma_chain.proofs.WithinLemmas.{found_at, found_up_to}
use Rattle.rma_chain.proofs.between.find_within.Goals as goal

pub find_between-requires : goal.find_between-requires
find_between-requires g c =
    let others = c.args.others.now in
    let asked = c.index-others-index.result in
    let within : c.others.index < length others = omega arith in
    let some = c.requires.clocks in
    (some.0, some.1, some.2, some.3 asked (contained others c.others.index asked (read others c.others.index asked within c.index-others-index.is)))

pub others-preserved : goal.others-preserved
others-preserved g c =
    let others = c.args.others.now in
    let asked = c.index-others-index.result in
    let within : c.others.index < length others = omega arith in
    let at : slice_get others c.others.index ≡ Some asked = read others c.others.index asked within c.index-others-index.is in
    record {
      end = inl (omega arith);
      told = λ points links are known race.
          found_at
          (λ (a : Access). IsFoundBetween links c.args.windows.now c.args.lists.now a c.args.access.now race)
          others
          c.args.from
          (Contains c.args.found.now.items race)
          (Contains c.others.found.items race)
          (Contains c.find_between.new.found.items race)
          c.others.index
          asked
          (omega arith)
          at
          (c.others.invariant.told points links are known race)
          (c.in_ok-find_between.ensures points links are (known asked (contained others c.others.index asked at)) race);
    }

pub returns : goal.returns
returns g c = λ points links are known race.
    found_up_to
    (λ (a : Access). IsFoundBetween links c.args.windows.now c.args.lists.now a c.args.access.now race)
    c.args.others.now
    c.args.from
    (Contains c.args.found.now.items race)
    (Contains c.others.found.items race)
    (Contains c.others.found.items race)
    c.others.index
    c.args.to
    (omega arith)
    c.others.invariant.end
    (c.others.invariant.told points links are known race)
