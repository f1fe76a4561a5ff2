-- What is scanned, at one more rank.
use Rattle.std.proofs.Common.{◌≡◌, ℕ, ◌+◌, ◌≤◌, List, [], refl, sym, subst, ◌∙◌, append-nil, arith}
use Rattle.rma_call.specs.Call.{RankCalls}
use Rattle.rma_round.specs.declared.kind.Kind.{Kind}
use Rattle.rma_round.specs.declared.kind.Kind.TheVariants as kind
use Rattle.rma_difference.specs.declared.round.Rounds.{Rounds}
use Rattle.rma_difference.specs.declared.scan.Scan.{Scan}
use Rattle.rma_member.specs.Declaration.{declarations}
use Rattle.rma_member.specs.Attribute.{declared, created}
use Rattle.rma_agreement.specs.Collective.{made, made_on, so_far, round_calls, round_call_at}
use Rattle.rma_difference.specs.inside.Round.{HaveJoined, rounds_of, AreRounds}
use Rattle.rma_difference.specs.inside.Scan.{HasScanned}
use Rattle.rma_difference.proofs.CallCountLemmas.{AreCallCounts_same}
use Rattle.rma_difference.proofs.SoFarLemmas.{walked_all_push, declarations_push, made_begun}

module _ (old new : List RankCalls) (index next : ℕ) (calls : (kind : Kind) → round_calls kind old ≡ round_calls kind new)
    (numbers : (kind : Kind) (name : List ℕ) (m : ℕ) → made kind new m name ≡ made kind old m name) (le : index ≤ next) where
  -- the rounds of ranks whose calls are the same, at a later index
  AreRounds_same : (kind : Kind) (m : Rounds) → AreRounds kind old index m → AreRounds kind new next m
  AreRounds_same kind m are = record {
    kind_is = are.kind_is;
    have_joined = subst (λ seen. HaveJoined kind seen m.names.entries m.faults) (calls kind) are.have_joined;
    rounds_are = λ name.
        let is = are.rounds_are name in
        record {
          call_counts_are = AreCallCounts_same (made_on kind old name) (made_on kind new name) index next (rounds_of m.names.entries name).call_counts
              (numbers kind name) le is.call_counts_are;
          firsts_are_as_many = is.firsts_are_as_many;
        };
  }

  -- all that is scanned of such ranks
  HasScanned_same : (r : Scan) → declarations declared old ≡ declarations declared new → declarations created old ≡ declarations created new →
      HasScanned old index r → HasScanned new next r
  HasScanned_same r comms creations has = record {
    comms_are = has.comms_are ∙ comms;
    creations_are = has.creations_are ∙ creations;
    rounds_are = record {
      collectives_are = AreRounds_same kind.Collective r.rounds.collectives has.rounds_are.collectives_are;
      frees_are = AreRounds_same kind.Free r.rounds.frees has.rounds_are.frees_are;
      fences_are = AreRounds_same kind.Fence r.rounds.fences has.rounds_are.fences_are;
      movings_are = AreRounds_same kind.Moving r.rounds.movings has.rounds_are.movings_are;
    };
  }

-- a rank that has not begun
pub HasScanned_begun : (done : List RankCalls) (own : RankCalls) (index : ℕ) (r : Scan) → HasScanned done index r → HasScanned (so_far done own []) index r
HasScanned_begun done own index r has =
    let begun : RankCalls = record own { calls = [] } in
    HasScanned_same done (so_far done own []) index index
    (λ kind. sym (walked_all_push (round_call_at kind) done begun ∙ append-nil (round_calls kind done)))
    (λ kind name m. made_begun kind done own name m) (omega arith) r
    (sym (declarations_push declared done begun ∙ append-nil (declarations declared done)))
    (sym (declarations_push created done begun ∙ append-nil (declarations created done))) has

-- the next rank is the current one
pub HasScanned_next : (ranks : List RankCalls) (index : ℕ) (r : Scan) → HasScanned ranks index r → HasScanned ranks (index + 1) r
HasScanned_next ranks index r has = HasScanned_same ranks ranks index (index + 1) (λ kind. refl) (λ kind name m. refl) (omega arith) r refl refl has
