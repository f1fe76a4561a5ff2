-- The text that explains one of the findings (the report format of this product).
use Rattle.std.specs.Prelude.{ℕ, ◌-◌, List, [], ◌∷◌, ◌++◌, Option, Some, None, length, codes, decimal, slice_get}
use Rattle.std.specs.List.{flat_map}
use Rattle.rma_cut.specs.declared.cuts.Cuts.{Cuts}
use Rattle.rma_report.specs.declared.finding.Finding.{Finding}
use Rattle.rma_report.specs.ReportText.{finding_line, header_line, verdict_line}

-- the line of a finding, where there is one
abbrev pub chosen_text : Option Finding → List ℕ
chosen_text None = []
chosen_text (Some finding) = finding_line finding

-- a number that stands behind others
abbrev pub later_number_text : ℕ → List ℕ
later_number_text n = codes "," ++ decimal n

-- a cut: of each rank the number of its points, by rank
abbrev pub cut_text : List ℕ → List ℕ
cut_text [] = []
cut_text (n ∷ ns) = decimal n ++ flat_map later_number_text ns

-- the lines of two cuts, where there are any
abbrev pub cuts_text : Option Cuts → List ℕ
cuts_text None = []
cuts_text (Some cuts) = codes "cut first " ++ cut_text cuts.first ++ codes "\n" ++ codes "cut second " ++ cut_text cuts.second ++ codes "\n"

-- the text on `ranks` logs of `lines` lines together, with these findings, of which that with this number from 1 is explained, by
-- these cuts where it is a race
abbrev pub explain_text : ℕ → ℕ → List Finding → ℕ → Option Cuts → List ℕ
explain_text ranks lines found number cuts =
    header_line ranks lines ++ chosen_text (slice_get found (number - 1)) ++ cuts_text cuts ++ verdict_line (length found)
