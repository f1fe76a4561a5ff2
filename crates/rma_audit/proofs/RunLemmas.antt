-- The two halves of a run.
use Rattle.std.proofs.Common.{◌≡◌, ℕ, List, [], ◌++◌, None, length, ap, sym, inl, inr, ◌∙◌, arith}
use Rattle.std.proofs.lemmas.List.{append-nil}
use Rattle.rma_io.specs.Count.{Rose}
use Rattle.rma_io.specs.Source.{Source, Opened}
use Rattle.rma_book.specs.inside.RankState.{RankState}
use Rattle.rma_report.specs.declared.finding.Finding.{Finding}
use Rattle.rma_report.specs.declared.finding.Findings.{Findings}
use Rattle.rma_stream.specs.Findings.{count_of_lines}
use Rattle.rma_stream.specs.inside.Feeding.{HaveBooks}
use Rattle.rma_audit.specs.Answers.{OpensSome}
use Rattle.rma_audit.specs.inside.Opening.{HasOpened}
use Rattle.rma_audit.specs.inside.Progress.{StopsAt}
use Rattle.rma_audit.specs.inside.Runs.{HasJudged, HasRead, HasStopped}
use Rattle.rma_audit.specs.declared.stop.Stop.{Stop}
use Rattle.rma_audit.specs.declared.stop.Stop.TheVariants as stops

-- where nothing was opened or refused
pub opens_none : (names : List (List ℕ)) (opened : Opened) → opened.names ≡ [] → opened.refused ≡ None → OpensSome names opened
opens_none names opened none unrefused = record { rest = names; first = ap (λ ns. ns ++ names) (sym none); refused = inl unrefused }

-- where all were opened
pub opens_all : (names : List (List ℕ)) (opened : Opened) → opened.names ≡ names → opened.refused ≡ None → OpensSome names opened
opens_all names opened all unrefused = record { rest = []; first = sym all ∙ sym (append-nil opened.names); refused = inl unrefused }

-- where all were opened and the reading stopped
pub stopped_reading : (stop : Stop) (names : List (List ℕ)) (before between after : Source) (opened now : Opened) → HasOpened before between opened names → now ≡ opened → StopsAt stop between after
    → HasStopped stop names before after now
stopped_reading stop names before between after opened now all same at =
    let names_are = ap (λ (o : Opened). o.names) same ∙ all.names in
    let unrefused = ap (λ (o : Opened). o.refused) same ∙ all.refused in
    by stop at names_are unrefused
  where
    later : Rose between.faults after.faults → Rose before.faults after.faults
    later rose = elim rose [ inl higher ↦ inl (omega (arith, higher, all.faults)) | inr last ↦ inr last ]

    by : (cause : Stop) → StopsAt cause between after → now.names ≡ names → now.refused ≡ None → HasStopped cause names before after now
    by stops.Fault (rose, few) names_are unrefused = (opens_all names now names_are unrefused, few, later rose)
    by (stops.TooLarge bytes) (more, few, is) names_are unrefused = (names_are, unrefused, more, few, is)
    by stops.Memory few names_are unrefused = (opens_all names now names_are unrefused, few)

-- where all were read, and memory ran out
pub read_stops : (names : List (List ℕ)) (before after : Source) (opened : Opened) (books : List RankState) → HasRead names after opened books → HasStopped stops.Memory names before after opened
read_stops names before after opened books h = (opens_all names opened h.all.in_order h.all.none_refused, h.all.taken)

-- where all were read, and such findings were made
pub judged : (AreSuch : List (List ℕ) → List Finding → Type 0) (names : List (List ℕ)) (source : Source) (opened : Opened) (books : List RankState) (findings : Findings) → HasRead names source opened books
    → ((texts : List (List ℕ)) → HaveBooks (length texts) books texts → (findings.ranks ≡ length texts) × (findings.lines ≡ count_of_lines texts) × AreSuch texts findings.list)
    → HasJudged AreSuch names source opened findings
judged AreSuch names source opened books findings h found =
    let of = found h.logs h.read in record { logs = h.logs; all = h.all; ranks = of.0; lines = of.1; found = of.2 }
