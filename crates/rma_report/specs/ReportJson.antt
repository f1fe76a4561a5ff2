-- The report as JSON (the report format of this product): one compact object, its members in the order of their names.
use Rattle.std.specs.Prelude.{ℕ, ◌-◌, List, ◌++◌, Option, Some, None, length, take, map, codes, ◌==◌, if◌then◌else◌}
use Rattle.rma_base.specs.declared.line.LineNo.{LineNo}
use Rattle.rma_base.specs.declared.rank.Rank.{Rank}
use Rattle.rma_base.specs.FormReason.{form_word}
use Rattle.rma_base.specs.MatchReason.{match_word}
use Rattle.rma_base.specs.EpochReason.{epoch_word}
use Rattle.serde_json.specs.Data.{Data, null, number, unsigned, string, array, object, item, no_items, member, no_members}
use Rattle.serde_json.specs.Find.{of_integer}
use Rattle.serde_json.specs.View.{items_of}
use Rattle.serde_json.specs.Written.{compact_text}
use Rattle.rma_bytes.specs.declared.run.Run.{Run}
use Rattle.rma_rules.specs.declared.access_name.AccessName.{AccessName}
use Rattle.rma_rules.specs.Words.{role_word, rule_word}
use Rattle.rma_finding.specs.declared.finding.FoundRace.{FoundRace}
use Rattle.rma_finding.specs.declared.finding.ExposedLock.{ExposedLock}
use Rattle.rma_finding.specs.declared.finding.DoubledPost.{DoubledPost}
use Rattle.rma_finding.specs.declared.finding.PairFinding.{PairFinding}
use Rattle.rma_finding.specs.declared.finding.PairFinding.TheVariants.{Race, Exposed, Doubled}
use Rattle.rma_report.specs.declared.finding.Finding.{Finding}
use Rattle.rma_report.specs.declared.finding.Finding.TheVariants.{Malformed, Mismatch, Impossible, Epoch, Pair, Strict}
use Rattle.rma_report.specs.declared.strict.StrictFault.{StrictFault}
use Rattle.rma_report.specs.Strict.{strict_word}

-- a number that counts
abbrev pub count : ℕ → Data
count n = number (unsigned n)

-- the call that another one differs from, and null where there is none
abbrev pub other_value : Option (Rank × LineNo) → Data
other_value None = null
other_value (Some other) = object (member (codes "line") (count other.1.0) (member (codes "rank") (count other.0.0) no_members))

-- the site of a call, and null where the log has none
abbrev pub site_value : Option (List ℕ) → Data
site_value None = null
site_value (Some site) = string site

-- an access: its name, and the site of its call
abbrev pub access_value : AccessName → Option (List ℕ) → Data
access_value name site =
    object (
    member (codes "line") (count name.line.0)
    (member (codes "rank") (count name.rank.0)
    (member (codes "role") (string (role_word name.role))
    (member (codes "site") (site_value site) no_members)))
    )

-- bytes side by side: the address of the first, and how many they are
abbrev pub run_value : Run → Data
run_value run = array (item (number (of_integer run.start)) (item (count run.len) no_items))

-- all runs of a set of bytes
abbrev pub bytes_value : List Run → Data
bytes_value runs = array (items_of (map run_value runs))

-- two accesses that race
abbrev pub race_value : FoundRace → Data
race_value race =
    object (
    member (codes "bytes") (bytes_value race.bytes)
    (member (codes "first") (access_value race.first race.first_site)
    (member (codes "kind") (string (codes "race"))
    (member (codes "on") (count race.memory.0)
    (member (codes "rule") (string (rule_word race.rule))
    (member (codes "second") (access_value race.second race.second_site) no_members)))))
    )

-- a lock at a target that is exposed
abbrev pub exposed_value : ExposedLock → Data
exposed_value found =
    object (
    member (codes "kind") (string (codes "exposed"))
    (member (codes "lock") (count found.lock.0)
    (member (codes "opened") (count found.opened.0)
    (member (codes "rank") (count found.rank.0)
    (member (codes "target") (count found.target.0)
    (member (codes "window") (string found.window) no_members)))))
    )

-- a target that is exposed twice
abbrev pub doubled_value : DoubledPost → Data
doubled_value found =
    object (
    member (codes "kind") (string (codes "doubled"))
    (member (codes "opened") (count found.opened.0)
    (member (codes "post") (count found.post.0)
    (member (codes "target") (count found.target.0)
    (member (codes "window") (string found.window) no_members))))
    )

-- a finding of a pair
abbrev pub pair_value : PairFinding → Data
pair_value (Race race) = race_value race
pair_value (Exposed found) = exposed_value found
pair_value (Doubled found) = doubled_value found

-- a fault that a strict audit finds
abbrev pub strict_value : StrictFault → Data
strict_value fault =
    object (
    member (codes "kind") (string (codes "strict"))
    (member (codes "line") (count fault.line.0)
    (member (codes "other") (other_value fault.other)
    (member (codes "rank") (count fault.rank.0)
    (member (codes "reason") (string (strict_word fault.reason)) no_members))))
    )

-- a finding
abbrev pub finding_value : Finding → Data
finding_value (Malformed rank line reason) =
    object (
    member (codes "kind") (string (codes "malformed"))
    (member (codes "line") (count line.0)
    (member (codes "rank") (count rank.0)
    (member (codes "reason") (string (form_word reason)) no_members)))
    )
finding_value (Mismatch fault) =
    object (
    member (codes "kind") (string (codes "mismatch"))
    (member (codes "line") (count fault.line.0)
    (member (codes "other") (other_value fault.other)
    (member (codes "rank") (count fault.rank.0)
    (member (codes "reason") (string (match_word fault.reason)) no_members))))
    )
finding_value (Impossible rank line) =
    object (
    member (codes "kind") (string (codes "impossible"))
    (member (codes "line") (count line.0)
    (member (codes "rank") (count rank.0) no_members))
    )
finding_value (Epoch rank line reason) =
    object (
    member (codes "kind") (string (codes "epoch"))
    (member (codes "line") (count line.0)
    (member (codes "rank") (count rank.0)
    (member (codes "reason") (string (epoch_word reason)) no_members)))
    )
finding_value (Pair pair) = pair_value pair
finding_value (Strict fault) = strict_value fault

-- the verdict, by the number of findings
abbrev pub verdict_word : ℕ → List ℕ
verdict_word found = if found == 0 then codes "clean" else codes "findings"

-- a report of these values of findings and these numbers
abbrev pub report_object : List Data → ℕ → ℕ → ℕ → ℕ → List ℕ → Data
report_object findings lines omitted ranks total verdict =
    object (
    member (codes "findings") (array (items_of findings))
    (member (codes "lines") (count lines)
    (member (codes "omitted") (count omitted)
    (member (codes "ranks") (count ranks)
    (member (codes "total") (count total)
    (member (codes "verdict") (string verdict) no_members)))))
    )

-- the report on `ranks` logs of `lines` lines together, with these findings, of which at most `limit` are shown
abbrev pub report_value : ℕ → ℕ → List Finding → ℕ → Data
report_value ranks lines found limit =
    report_object (map finding_value (take limit found)) lines (length found - limit) ranks (length found) (verdict_word (length found))

-- the text of that report, on one line
abbrev pub report_json : ℕ → ℕ → List Finding → ℕ → List ℕ
report_json ranks lines found limit = compact_text (report_value ranks lines found limit) ++ codes "\n"
