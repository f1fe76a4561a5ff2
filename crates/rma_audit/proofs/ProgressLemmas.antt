-- The books follow the source.
use Rattle.std.proofs.Common.{◌≡◌, ℕ, ◌<◌, List, [], ◌++◌, Ok, length, take, get_or, set, sym, ◌∙◌, subst, ap, inl, inr, arith, length-append}
use Rattle.std.specs.Prelude.{Option, Some, None, IfSome}
use Rattle.std.proofs.Math.ListN.{length-set}
use Rattle.std.proofs.lemmas.Bool.{cases_eq}
use Rattle.std.proofs.lemmas.List.{length-take, get_or-set_same, get_or-set_other}
use Rattle.std.proofs.lemmas.List.Sums.{sum_by-set}
use Rattle.rma_io.specs.Known.{StillKnown}
use Rattle.rma_io.specs.LogBytes.{LogBytes, log_of, TakesFrom}
use Rattle.rma_io.specs.Source.{Source, IsPulled}
use Rattle.rma_io.specs.declared.source.Pull.TheVariants.{Bytes}
use Rattle.rma_book.specs.inside.RankState.{RankState}
use Rattle.rma_stream.specs.inside.Feeding.{HaveBooks, with_piece}
use Rattle.rma_audit.specs.Answers.{AreTaken}
use Rattle.rma_audit.specs.inside.Progress.{HasTaken}

-- what is known of the bytes taken, when these are taken as well
known_more : (before after : Option (List ℕ)) (text piece : List ℕ) → StillKnown (λ old new. new ≡ old ++ piece) before after
    → IfSome before (λ bytes. bytes ≡ text) → IfSome after (λ bytes. bytes ≡ text ++ piece)
known_more before None text piece more is = tt
known_more None (Some after) text piece more is = absurd more
known_more (Some before) (Some after) text piece more is = more ∙ ap (λ bytes. bytes ++ piece) is

known_same : (before after : Option (List ℕ)) (text : List ℕ) → StillKnown (λ old new. new ≡ old) before after
    → IfSome before (λ bytes. bytes ≡ text) → IfSome after (λ bytes. bytes ≡ text)
known_same before None text same is = tt
known_same None (Some after) text same is = absurd same
known_same (Some before) (Some after) text same is = same ∙ is

AreTaken_more : (before after : List LogBytes) (texts : List (List ℕ)) (rank : ℕ) (piece : List ℕ) → rank < length texts
    → TakesFrom rank piece before after → AreTaken before texts → AreTaken after (with_piece texts rank piece)
AreTaken_more before after texts rank piece there takes are other =
    let text = get_or texts rank [] ++ piece in
    elim (cases_eq other rank) [
      | inl same ↦
          subst (λ (r : ℕ). IfSome (log_of after r).taken (λ bytes. bytes ≡ get_or (set texts rank text) r [])) (sym same)
          (subst (λ (t : List ℕ). IfSome (log_of after rank).taken (λ bytes. bytes ≡ t)) (sym (get_or-set_same texts rank text [] there))
          (known_more (log_of before rank).taken (log_of after rank).taken (get_or texts rank []) piece takes.takes.taken (are rank)))
      | inr ne ↦
          subst (λ (t : List ℕ). IfSome (log_of after other).taken (λ bytes. bytes ≡ t)) (sym (get_or-set_other texts rank other text [] ne))
          (known_same (log_of before other).taken (log_of after other).taken (get_or texts other []) (takes.others other ne).taken (are other))
    ]

-- a piece was pulled, and the books were fed it
pub taken_more : (old new : Source) (room : List ℕ) (rank len : ℕ) (books after : List RankState) (texts : List (List ℕ)) → IsPulled old room (Ok (Bytes rank len)) new → HasTaken old books texts
    → HaveBooks (length old.logs) after (with_piece texts rank (take len room)) → HasTaken new after (with_piece texts rank (take len room))
taken_more old new room rank len books after texts pulled h read =
    let piece = take len room in
    let text = get_or texts rank [] in
    let there : rank < length texts = omega (arith, h.one_a_log, pulled.within.0) in
    let size : length piece ≡ len = simp length-take (omega (arith, pulled.within.2)) in
    record {
      one_a_log = length-set texts rank (text ++ piece) ∙ h.one_a_log ∙ sym pulled.same_logs;
      read = subst (λ n. HaveBooks n after (with_piece texts rank piece)) (sym pulled.same_logs) read;
      all_taken = omega (arith, sum_by-set length texts rank (text ++ piece) [] there, length-append text piece, size, h.all_taken, pulled.taken);
      bytes = AreTaken_more old.logs new.logs texts rank piece there pulled.moved h.bytes;
    }
