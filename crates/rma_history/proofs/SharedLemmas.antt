-- Where all windows have the unified memory model, accesses that conflict share a byte.
use Rattle.std.proofs.Common.{List, inl, inr}
use Rattle.rma_bytes.specs.declared.run.Run.{Run}
use Rattle.rma_link.specs.declared.links.Links.{Links}
use Rattle.rma_window.specs.declared.window_id.WindowId.{WindowId}
use Rattle.rma_window.specs.Windows.{Window}
use Rattle.rma_rules.specs.declared.rule.Rule.{Rule}
use Rattle.rma_rules.specs.declared.rule.Rule.TheVariants.{Overlap, StoreInWindow, OtherWindow, Accumulate, Buffer}
use Rattle.rma_rules.specs.Access.{Access}
use Rattle.rma_rules.specs.Conflict.{ConflictAtCaller, ConflictAtTarget, ConflictsWithTarget, Forbids}
use Rattle.rma_rules.specs.Element.{Disagree}
use Rattle.rma_rules.specs.Share.{IsSeparate, IsSeparateAt, IsThroughSeparate, ShareByte}
use Rattle.rma_rules.specs.Spans.{Spans}
use Rattle.rma_finding.specs.declared.finding.FoundRace.{FoundRace}
use Rattle.rma_pairs.specs.Races.{IsFoundBetween}

turned : (xs ys : List Run) → ShareByte xs ys → ShareByte ys xs
unfolding ShareByte
turned xs ys (b, one, two) = (b, two, one)

module _ (windows : List Window) (unified : (id : WindowId) → IsSeparate windows id → ⊥) where
  none_separate : (a : Access) → IsSeparateAt windows a → ⊥
  unfolding IsSeparateAt IsThroughSeparate
  none_separate a (id, through) = unified id through.1

  with_target : (a b : Access) (rule : Rule) → ConflictsWithTarget windows a b rule → ShareByte a.runs b.runs
  unfolding ConflictsWithTarget
  with_target a b Overlap (inl loaded) = loaded.2
  with_target a b Overlap (inr (inl polled)) = polled.3
  with_target a b Overlap (inr (inr (inl stored))) = stored.2
  with_target a b Overlap (inr (inr (inr stored))) = stored.2
  with_target a b StoreInWindow beside = absurd (none_separate b beside.2)
  with_target a b OtherWindow none = absurd none
  with_target a b Accumulate none = absurd none
  with_target a b Buffer none = absurd none

  at_target : (a b : Access) (rule : Rule) → ConflictAtTarget windows a b rule → ShareByte a.runs b.runs
  unfolding ConflictAtTarget Disagree ShareByte
  at_target a b Overlap (inl got) = got.2
  at_target a b Overlap (inr (inl got)) = turned b.runs a.runs got.2
  at_target a b Overlap (inr (inr (inl put))) = put.3
  at_target a b Overlap (inr (inr (inr (inl put)))) = turned b.runs a.runs put.3
  at_target a b Overlap (inr (inr (inr (inr updates)))) = updates.1
  at_target a b StoreInWindow none = absurd none
  at_target a b OtherWindow (apart, inl separate, none, beside) = absurd (none_separate a separate)
  at_target a b OtherWindow (apart, inr separate, none, beside) = absurd (none_separate b separate)
  at_target a b Accumulate both = let at = both.4 in (at.0, at.1, at.2)
  at_target a b Buffer none = absurd none

  at_caller : (a b : Access) (rule : Rule) → ConflictAtCaller a b rule → ShareByte a.runs b.runs
  unfolding ConflictAtCaller
  at_caller a b Overlap none = absurd none
  at_caller a b StoreInWindow none = absurd none
  at_caller a b OtherWindow none = absurd none
  at_caller a b Accumulate none = absurd none
  at_caller a b Buffer used = used.2

  forbidden : (a b : Access) (rule : Rule) → Forbids windows a b rule → ShareByte a.runs b.runs
  unfolding Forbids
  forbidden a b rule (memory, inl own) = with_target a b rule own.2
  forbidden a b rule (memory, inr (inl own)) = turned b.runs a.runs (with_target b a rule own.2)
  forbidden a b rule (memory, inr (inr (inl targets))) = at_target a b rule targets.2
  forbidden a b rule (memory, inr (inr (inr callers))) = at_caller a b rule callers.2

  -- what races shares a byte
  pub found_shares : (links : Links) (spans : Spans) (a b : Access) (race : FoundRace) → IsFoundBetween links windows spans a b race → ShareByte a.runs b.runs
  found_shares links spans a b race (inl found) = forbidden a b race.rule found.race.conflict
  found_shares links spans a b race (inr found) = turned b.runs a.runs (forbidden b a race.rule found.race.conflict)
