use Rattle.std.proofs.Common.{take, sym, subst, ap, ◌∙◌, refl, arith}
use Rattle.std.specs.List.Sorted.{IsNonDecreasingBy}
use Rattle.std.proofs.lemmas.List.Elements.{All-nil}
use Rattle.rma_completion.specs.inside.Kept.{Represents}
use Rattle.rma_cover.specs.inside.Held.{Represents as Holds}
use Rattle.rma_epoch.specs.declared.epoch.Epoch.{Epoch}
use Rattle.rma_epoch.specs.Table.{AreParts, epochs_of, sound_calls}
use Rattle.rma_epoch.proofs.SoundLemmas.{sound_first, sound_within}
use Rattle.rma_run.specs.Run.{calls_of}
use Rattle.rma_span.specs.Span.{origin_with}
use Rattle.rma_span.specs.inside.Stored.{AreSpansOf}
use Rattle.rma_span.proofs.OriginLemmas.{openers_ascend}
use Rattle.rma_span.proofs.rank_spans.RankSpans.of.Goals as goal

pub completions_of-requires : goal.completions_of-requires
completions_of-requires c =
    let within = sound_within c.args.windows.now c.args.calls.now.calls in
    let sound = c.sound.ensures in
    let all = c.requires.table.sound in
    omega arith

pub all_spans-requires-clause-sound : goal.all_spans-requires-clause-sound
all_spans-requires-clause-sound c =
    let within = sound_within c.args.windows.now c.args.calls.now.calls in
    let sound = c.sound-2.ensures in
    let all = c.requires.table.sound in
    omega arith

pub of-requires : goal.of-requires
of-requires c =
    subst (IsNonDecreasingBy (λ (epoch : Epoch). epoch.opener)) (sym (c.epochs-2.ensures ∙ c.requires.table.epochs))
    (openers_ascend c.args.windows.now (sound_calls c.args.windows.now c.args.calls.now.calls))

pub returns : goal.returns
returns c =
    let windows = c.args.windows.now in
    let calls = c.args.calls.now.calls in
    let rank = c.args.rank in
    let own = origin_with windows c.args.ranks.now rank calls in
    let first = sound_first windows calls in
    c.in_ok-spans.ensures own
    (record {
      windows = refl;
      calls = refl;
      rank = refl;
      epochs = c.epochs.ensures ∙ c.requires.table.epochs;
      placed = c.requires.table.placed;
      completions = subst (λ l. Represents windows l c.in_ok-completions.completions) (ap (λ n. take n calls) (c.sound.ensures ∙ c.requires.table.sound) ∙ sym first)
          (c.in_ok-completions.ensures windows (subst (AreParts windows c.args.calls.now) (sym c.parts.ensures) c.requires.table.parts));
      later = c.requires.later;
    })
    (first ∙ ap (λ n. take n calls) (sym (c.sound-2.ensures ∙ c.requires.table.sound)))
    (record {
      held = subst (λ epochs. Holds windows rank epochs 0 c.in_ok-of.field-0) (c.epochs-2.ensures ∙ c.requires.table.epochs) c.in_ok-of.ensures;
      sides = c.new.ensures.sides (calls_of c.args.ranks.now) windows rank (epochs_of windows (sound_calls windows calls));
    })
    (record { numbers = refl; each = All-nil (AreSpansOf own c.new-2.result c.new-3.result) })
