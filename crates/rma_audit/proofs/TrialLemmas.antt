-- The logs of a trial, once they are read.
use Rattle.std.proofs.Common.{◌≡◌, ℕ, ◌<◌, ◌≤◌, List, [], ◌∷◌, ◌++◌, suc, zero, length, map, get_or, replicate, refl, ap, sym, ◌∙◌, subst, inl, inr, arith}
use Rattle.std.specs.Prelude.{IfSome, IfOk, Result, Ok, Err}
use Rattle.std.specs.List.{sum_by}
use Rattle.std.specs.Io.KnownBytes.{IsAtEnd}
use Rattle.std.proofs.lemmas.Bool.{cases_lt}
use Rattle.std.proofs.lemmas.List.{append-nil, ext_get_or, get_or-map, get_or-replicate, get_or_past, length-map, length-replicate}
use Rattle.std.proofs.lemmas.List.Sums.{sum_by-cons}
use Rattle.rma_base.specs.Limits.{rank_limit}
use Rattle.rma_io.specs.LogBytes.{LogBytes, unknown, log_of}
use Rattle.rma_io.specs.Source.{AreRead}
use Rattle.rma_book.specs.inside.RankState.{RankState}
use Rattle.rma_report.specs.declared.finding.Findings.{Findings}
use Rattle.rma_stream.specs.Findings.{AreFindings, count_of_lines}
use Rattle.rma_stream.specs.inside.Feeding.{HaveBooks}
use Rattle.rma_gen.specs.Trial.{CanRun, trial_logs}
use Rattle.rma_gen.specs.TrialLogs.{Tape, TrialSource, text_of, texts_of, untouched, unread, known_bytes, source_of, KeepsTexts}
use Rattle.rma_gen.specs.declared.trial.Trial.{Trial}
use Rattle.rma_gen.proofs.BoundLemmas.{taken_bound, unread_texts, as_many_as_ranks}
use Rattle.rma_audit.specs.Answers.{AreTaken}
use Rattle.rma_audit.specs.inside.Progress.{AfterPulls, FollowsSource, StopsAt}
use Rattle.rma_audit.specs.inside.Runs.{HasTried}
use Rattle.rma_audit.specs.declared.stop.Stop.{Stop}
use Rattle.rma_audit.specs.declared.stop.Stop.TheVariants as stops
use Rattle.rma_audit.proofs.PullLemmas.{kept_by_pulls}

-- what was taken of each log to its end is the log
pub read_texts : (source : TrialSource) (texts : List (List ℕ)) → length texts ≡ length (source_of source).logs → AreTaken (source_of source).logs texts → AreRead (source_of source).logs → texts ≡ texts_of source
read_texts source texts size taken read =
    let tapes = source.tapes in
    let many = length-map tapes known_bytes in
    let all = length-map tapes text_of in
    ext_get_or [] texts (texts_of source) (omega (arith, size, many, all)) (λ rank below.
    let tape : Tape = record { taken = []; left = [] } in
    let there : rank < length tapes = omega (arith, size, many, below) in
    let at : log_of (map known_bytes tapes) rank ≡ known_bytes (get_or tapes rank tape) = get_or-map known_bytes tapes rank tape unknown there in
    let whole : get_or (texts_of source) rank [] ≡ text_of (get_or tapes rank tape) = get_or-map text_of tapes rank tape [] there in
    let all_taken : (get_or tapes rank tape).taken ≡ get_or texts rank [] = subst (λ (log : LogBytes). IfSome log.taken (λ bytes. bytes ≡ get_or texts rank [])) at (taken rank) in
    let none : (get_or tapes rank tape).left ≡ [] =
    subst (λ (log : LogBytes). IsAtEnd log.left) (get_or-map known_bytes tapes rank tape unknown there) (read rank unknown (omega (arith, many, there))) in
    sym all_taken ∙ sym (append-nil (get_or tapes rank tape).taken) ∙ ap (λ t. (get_or tapes rank tape).taken ++ t) (sym none) ∙ sym whole)

-- ---- the beginning

empty_texts : (n : ℕ) → sum_by (λ (text : List ℕ). length text) (replicate n []) ≡ 0
empty_texts zero = refl
empty_texts (suc n) = omega (arith, sum_by-cons (λ (text : List ℕ). length text) [] (replicate n []), empty_texts n)

none_taken : (texts : List (List ℕ)) → sum_by (λ (tape : Tape). length tape.taken) (map untouched texts) ≡ 0
none_taken [] = refl
none_taken (text ∷ texts) = omega (arith, sum_by-cons (λ (tape : Tape). length tape.taken) (untouched text) (map untouched texts), none_taken texts)

pub nothing_taken : (trial : Trial) (source : TrialSource) → source ≡ unread trial → (source_of source).taken ≡ 0
nothing_taken trial source fresh = ap (λ (s : TrialSource). (source_of s).taken) fresh ∙ none_taken (trial_logs trial)

untouched_bytes : (texts : List (List ℕ)) → AreTaken (map known_bytes (map untouched texts)) (replicate (length texts) [])
untouched_bytes texts rank = elim (cases_lt rank (length texts)) [
  | inl below ↦
      let tapes = map untouched texts in
      let there : rank < length tapes = omega (arith, length-map texts untouched, below) in
      let at : log_of (map known_bytes tapes) rank ≡ known_bytes (untouched (get_or texts rank [])) =
      get_or-map known_bytes tapes rank (untouched []) unknown there ∙ ap known_bytes (get_or-map untouched texts rank [] (untouched []) below) in
      subst (λ (log : LogBytes). IfSome log.taken (λ bytes. bytes ≡ get_or (replicate (length texts) []) rank [])) (sym at) (sym (get_or-replicate (length texts) rank [] [] below))
  | inr past ↦
      let at : log_of (map known_bytes (map untouched texts)) rank ≡ unknown =
      get_or_past (map known_bytes (map untouched texts)) rank unknown (omega (arith, length-map (map untouched texts) known_bytes, length-map texts untouched, past)) in
      subst (λ (log : LogBytes). IfSome log.taken (λ bytes. bytes ≡ get_or (replicate (length texts) []) rank [])) (sym at) tt
]

start_follows : (trial : Trial) (books : List RankState) → HaveBooks trial.ranks books (replicate trial.ranks []) → FollowsSource (source_of (unread trial)) books
start_follows trial books books_are =
    let texts = trial_logs trial in
    let ranks : length texts ≡ trial.ranks = as_many_as_ranks trial trial.ranks in
    let size : length (map known_bytes (map untouched texts)) ≡ length texts = length-map (map untouched texts) known_bytes ∙ length-map texts untouched in (
      replicate (length texts) [],
      record {
        one_a_log = length-replicate (length texts) [] ∙ sym size;
        read = subst (λ n. HaveBooks n books (replicate (length texts) [])) (sym size) (subst (λ n. HaveBooks n books (replicate n [])) (sym ranks) books_are);
        all_taken = empty_texts (length texts) ∙ sym (none_taken texts);
        bytes = untouched_bytes texts;
      },
    )

pub follows_trial : (trial : Trial) (books : List RankState) (source : TrialSource) → source ≡ unread trial → HaveBooks trial.ranks books (replicate trial.ranks []) → FollowsSource (source_of source) books
follows_trial trial books source fresh books_are = subst (λ (s : TrialSource). FollowsSource (source_of s) books) (sym fresh) (start_follows trial books books_are)

-- ---- the end

-- the logs stay those of the trial
pub still_trial : (trial : Trial) (first last : TrialSource) → first ≡ unread trial → AfterPulls KeepsTexts first last → texts_of last ≡ trial_logs trial
still_trial trial first last fresh pulls = kept_by_pulls KeepsTexts texts_of (λ a b kept. kept) first last pulls ∙ ap texts_of fresh ∙ unread_texts trial

-- the reading of a trial stops for want of memory alone
pub only_memory : (trial : Trial) → CanRun trial → (stop : Stop) (first last : TrialSource) → first ≡ unread trial → AfterPulls KeepsTexts first last → StopsAt stop (source_of first) (source_of last) → stop ≡ stops.Memory
only_memory trial can stops.Fault first last fresh pulls (rose, few) = absurd (elim rose [ inl higher ↦ omega (arith, higher) | inr same ↦ omega (arith, same) ])
only_memory trial can (stops.TooLarge bytes) first last fresh pulls (more, few, is) = absurd (omega (arith, more, is, taken_bound trial can last (still_trial trial first last fresh pulls)))
only_memory trial can stops.Memory first last fresh pulls few = refl

-- there are as many books as ranks
pub few_books : (trial : Trial) → CanRun trial → (last : TrialSource) (books : List RankState) → texts_of last ≡ trial_logs trial → FollowsSource (source_of last) books → length books ≤ rank_limit
few_books trial can last books texts (them, follows) = omega (
  arith,
  follows.read.one_a_text,
  follows.one_a_log,
  length-map last.tapes known_bytes,
  length-map last.tapes text_of,
  ap (λ (ts : List (List ℕ)). length ts) texts,
  as_many_as_ranks trial trial.ranks,
  can.few_ranks,
)

-- what was found in what was read was found in the logs of the trial
pub tried : (trial : Trial) (last : TrialSource) (books : List RankState) → texts_of last ≡ trial_logs trial → FollowsSource (source_of last) books → AreRead (source_of last).logs → (findings : Findings)
    → ((texts : List (List ℕ)) → HaveBooks (length texts) books texts → (findings.ranks ≡ length texts) × (findings.lines ≡ count_of_lines texts) × AreFindings texts findings.list) → HasTried trial findings
tried trial last books texts_are (texts, follows) read findings found =
    let same : texts ≡ trial_logs trial = read_texts last texts follows.one_a_log follows.bytes read ∙ texts_are in
    let of = found texts (subst (λ n. HaveBooks n books texts) (sym follows.one_a_log) follows.read) in
    subst (λ ts. (findings.ranks ≡ length ts) × (findings.lines ≡ count_of_lines ts) × AreFindings ts findings.list → HasTried trial findings) (sym same)
    (λ them. record { ranks = them.0; lines = them.1; found = them.2 }) of

pub if_ok : {T E : Type 0} (r : Result T E) (P Q : T → Type 0) → ((x : T) → P x → Q x) → IfOk r P → IfOk r Q
if_ok (Ok x) P Q each h = each x h
if_ok (Err e) P Q each h = tt
