-- The text of a report (the report format of this product).
use Rattle.std.specs.Prelude.{ℕ, ◌-◌, List, [], ◌∷◌, ◌++◌, Option, Some, None, length, take, codes, decimal, ◌==◌, if◌then◌else◌}
use Rattle.std.specs.Fmt.{signed_decimal}
use Rattle.std.specs.List.{flat_map}
use Rattle.rma_base.specs.declared.line.LineNo.{LineNo}
use Rattle.rma_base.specs.declared.rank.Rank.{Rank}
use Rattle.rma_base.specs.FormReason.{form_word}
use Rattle.rma_base.specs.MatchReason.{match_word}
use Rattle.rma_base.specs.EpochReason.{epoch_word}
use Rattle.rma_bytes.specs.declared.run.Run.{Run}
use Rattle.rma_rules.specs.declared.access_name.AccessName.{AccessName}
use Rattle.rma_rules.specs.Words.{role_word, rule_word}
use Rattle.rma_finding.specs.declared.finding.FoundRace.{FoundRace}
use Rattle.rma_finding.specs.declared.finding.ExposedLock.{ExposedLock}
use Rattle.rma_finding.specs.declared.finding.DoubledPost.{DoubledPost}
use Rattle.rma_finding.specs.declared.finding.PairFinding.{PairFinding}
use Rattle.rma_finding.specs.declared.finding.PairFinding.TheVariants.{Race, Exposed, Doubled}
use Rattle.rma_report.specs.declared.finding.Finding.{Finding}
use Rattle.rma_report.specs.declared.finding.Finding.TheVariants.{Malformed, Mismatch, Impossible, Epoch, Pair, Strict}
use Rattle.rma_report.specs.declared.strict.StrictFault.{StrictFault}
use Rattle.rma_report.specs.Strict.{strict_word}

-- where a call stands
abbrev pub place_text : Rank → LineNo → List ℕ
place_text rank line = codes "rank " ++ decimal rank.0 ++ codes " line " ++ decimal line.0

-- the call that another one differs from, where there is one
abbrev pub other_text : Option (Rank × LineNo) → List ℕ
other_text None = []
other_text (Some other) = codes " with " ++ place_text other.0 other.1

-- where a call stands, in short
abbrev pub spot_text : Rank → LineNo → List ℕ
spot_text rank line = decimal rank.0 ++ codes ":" ++ decimal line.0

-- the site of a call behind `@`, and `-` where the log has none
abbrev pub site_text : Option (List ℕ) → List ℕ
site_text None = codes "-"
site_text (Some site) = codes "@" ++ site

-- an access: its name, and the site of its call
abbrev pub access_text : AccessName → Option (List ℕ) → List ℕ
access_text name site = spot_text name.rank name.line ++ codes ":" ++ role_word name.role ++ codes " " ++ site_text site

-- bytes side by side: the address of the first, and how many they are
abbrev pub range_text : Run → List ℕ
range_text run = signed_decimal run.start ++ codes "+" ++ decimal run.len

-- such bytes that stand behind others
abbrev pub later_range_text : Run → List ℕ
later_range_text run = codes "," ++ range_text run

-- all runs of a set of bytes
abbrev pub ranges_text : List Run → List ℕ
ranges_text [] = codes "none"
ranges_text (run ∷ runs) = range_text run ++ flat_map later_range_text runs

-- the line of two accesses that race
abbrev pub race_line : FoundRace → List ℕ
race_line race =
    codes "race " ++ rule_word race.rule ++ codes " on " ++ decimal race.memory.0
    ++ codes " " ++ access_text race.first race.first_site ++ codes " " ++ access_text race.second race.second_site
    ++ codes " bytes " ++ ranges_text race.bytes ++ codes "\n"

-- the line of a lock at a target that is exposed
abbrev pub exposed_line : ExposedLock → List ℕ
exposed_line found =
    codes "exposed " ++ found.window ++ codes " lock " ++ spot_text found.rank found.lock
    ++ codes " target " ++ decimal found.target.0 ++ codes " opened " ++ decimal found.opened.0 ++ codes "\n"

-- the line of a target that is exposed twice
abbrev pub doubled_line : DoubledPost → List ℕ
doubled_line found =
    codes "doubled " ++ found.window ++ codes " target " ++ decimal found.target.0
    ++ codes " post " ++ decimal found.post.0 ++ codes " opened " ++ decimal found.opened.0 ++ codes "\n"

-- the line of a finding of a pair
abbrev pub pair_line : PairFinding → List ℕ
pair_line (Race race) = race_line race
pair_line (Exposed found) = exposed_line found
pair_line (Doubled found) = doubled_line found

-- the line of a fault that a strict audit finds
abbrev pub strict_line : StrictFault → List ℕ
strict_line fault = codes "strict " ++ strict_word fault.reason ++ codes " " ++ place_text fault.rank fault.line ++ other_text fault.other ++ codes "\n"

-- the line of a finding
abbrev pub finding_line : Finding → List ℕ
finding_line (Malformed rank line reason) = codes "malformed " ++ place_text rank line ++ codes " reason " ++ form_word reason ++ codes "\n"
finding_line (Mismatch fault) = codes "mismatch " ++ match_word fault.reason ++ codes " " ++ place_text fault.rank fault.line ++ other_text fault.other ++ codes "\n"
finding_line (Impossible rank line) = codes "impossible " ++ place_text rank line ++ codes "\n"
finding_line (Epoch rank line reason) = codes "epoch " ++ epoch_word reason ++ codes " " ++ place_text rank line ++ codes "\n"
finding_line (Pair pair) = pair_line pair
finding_line (Strict fault) = strict_line fault

-- the first line, on `ranks` logs of `lines` lines together
abbrev pub header_line : ℕ → ℕ → List ℕ
header_line ranks lines = codes "rmaudit 1 ranks " ++ decimal ranks ++ codes " lines " ++ decimal lines ++ codes "\n"

-- the line that says how many findings are left out
abbrev pub omitted_line : ℕ → List ℕ
omitted_line count = if count == 0 then [] else codes "omitted " ++ decimal count ++ codes "\n"

-- the last line, by the number of findings
abbrev pub verdict_line : ℕ → List ℕ
verdict_line count = if count == 0 then codes "clean\n" else codes "findings " ++ decimal count ++ codes "\n"

-- the lines after the first, on these findings, of which at most `limit` are shown
abbrev pub body_text : List Finding → ℕ → List ℕ
body_text found limit = flat_map finding_line (take limit found) ++ omitted_line (length found - limit) ++ verdict_line (length found)

-- the report on `ranks` logs of `lines` lines together, with these findings, of which at most `limit` are shown
abbrev pub report_text : ℕ → ℕ → List Finding → ℕ → List ℕ
report_text ranks lines found limit = header_line ranks lines ++ body_text found limit
