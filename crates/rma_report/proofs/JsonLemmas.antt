-- The report as JSON has no floating-point number; and the values of a list.
use Rattle.std.proofs.Common.{◌≡◌, ℕ, ◌+◌, ◌<◌, ℤ, pos, negsuc, List, [], ◌∷◌, ◌++◌, length, map, take, Some, None, false, refl}
use Rattle.serde_json.specs.Find.{of_integer, is_float}
use Rattle.serde_json.specs.View.{items_of}
use Rattle.serde_json.specs.Written.{has_float, items_have_float}
use Rattle.rma_base.specs.declared.line.LineNo.{LineNo}
use Rattle.rma_base.specs.declared.rank.Rank.{Rank}
use Rattle.std.specs.Prelude.{Option, slice_get}
use Rattle.std.proofs.lemmas.List.{map_push, map_more}
use Rattle.std.proofs.lemmas.Option.{get_or_from_slice_get}
use Rattle.rma_bytes.specs.declared.run.Run.{Run}
use Rattle.rma_finding.specs.declared.finding.PairFinding.{PairFinding}
use Rattle.rma_finding.specs.declared.finding.PairFinding.TheVariants.{Race, Exposed, Doubled}
use Rattle.rma_report.specs.ReportJson.{other_value, site_value, run_value, pair_value, finding_value, report_value}
use Rattle.rma_report.specs.declared.finding.Finding.{Finding}
use Rattle.rma_report.specs.declared.finding.Finding.TheVariants.{Malformed, Mismatch, Impossible, Epoch, Pair, Strict}

other_has_no_float : (other : Option (Rank × LineNo)) → has_float (other_value other) ≡ false
other_has_no_float None = refl
other_has_no_float (Some other) = refl

site_has_no_float : (site : Option (List ℕ)) → has_float (site_value site) ≡ false
site_has_no_float None = refl
site_has_no_float (Some site) = refl

integer_is_no_float : (z : ℤ) → is_float (of_integer z) ≡ false
integer_is_no_float (pos n) = refl
integer_is_no_float (negsuc n) = refl

runs_have_no_float : (runs : List Run) → items_have_float (items_of (map run_value runs)) ≡ false
runs_have_no_float [] = refl
runs_have_no_float (run ∷ runs) = rw (integer_is_no_float run.start, runs_have_no_float runs) refl

pair_has_no_float : (pair : PairFinding) → has_float (pair_value pair) ≡ false
pair_has_no_float (Race race) = rw (runs_have_no_float race.bytes, site_has_no_float race.first_site, site_has_no_float race.second_site) refl
pair_has_no_float (Exposed found) = refl
pair_has_no_float (Doubled found) = refl

finding_has_no_float : (finding : Finding) → has_float (finding_value finding) ≡ false
finding_has_no_float (Malformed rank line reason) = refl
finding_has_no_float (Mismatch fault) = rw (other_has_no_float fault.other) refl
finding_has_no_float (Impossible rank line) = refl
finding_has_no_float (Epoch rank line reason) = refl
finding_has_no_float (Pair pair) = pair_has_no_float pair
finding_has_no_float (Strict fault) = rw (other_has_no_float fault.other) refl

findings_have_no_float : (found : List Finding) → items_have_float (items_of (map finding_value found)) ≡ false
findings_have_no_float [] = refl
findings_have_no_float (finding ∷ found) = rw (finding_has_no_float finding, findings_have_no_float found) refl

pub report_has_no_float : (ranks lines : ℕ) (found : List Finding) (limit : ℕ) → has_float (report_value ranks lines found limit) ≡ false
report_has_no_float ranks lines found limit = rw (findings_have_no_float (take limit found)) refl

-- the values of one more of a list
pub values_more : {X Y Z : Type 0} (f : X → Z) (g : Y → Z) (xs all : List X) (x : X) (ys : List Y) (i : ℕ) (y : Y) → all ≡ xs ++ x ∷ [] → i < length ys → slice_get ys i ≡ Some y
    → map f xs ≡ map g (take i ys) → f x ≡ g y → map f all ≡ map g (take (i + 1) ys)
values_more f g xs all x ys i y e h s p q = rw (e, map_push f xs x, map_more g ys i y h, get_or_from_slice_get ys i y y s, p, q) refl
