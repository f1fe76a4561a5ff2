-- The parts of a log, and what stands before and behind a place in it.
use Rattle.std.proofs.Common.{◌≡◌, ℕ, ◌+◌, ◌-◌, ◌<◌, ◌≤◌, Bool, true, false, cond, List, [], ◌++◌, ◌==◌, suc, zero, length, take, drop, refl, sym, ap, subst, inl, inr, ◌∙◌, arith, append_assoc, length-append}
use Rattle.std.proofs.lemmas.Bool.{lt-ltb, le-ltb, eqb-true, eqb-false}
use Rattle.std.proofs.lemmas.List.{append-nil, length-take-le, take_at, drop_at, drop-drop, drop-append-le, drop_all, take-append-drop, take-append-le, take-take, drop-take, length-drop}
use Rattle.rma_gen.specs.Trial.{log_of, first_lines, round_lines, rounds_text, last_lines}
use Rattle.rma_gen.specs.TrialLogs.{Tape, after_taking}
use Rattle.rma_gen.specs.inside.Parts.{parts_of, part_text, text_before, given, tape_at, advanced, IsPlace}
use Rattle.rma_gen.specs.declared.trial.Trial.{Trial}
use Rattle.rma_gen.specs.declared.rank_log.RankLog.{RankLog}

module _ (trial : Trial) (rank : ℕ) where
  -- the parts up to a round
  rounds_before : (round : ℕ) → round ≤ trial.rounds → text_before trial rank (suc round) ≡ first_lines trial rank ++ rounds_text trial rank round
  rounds_before zero low = sym (append-nil (first_lines trial rank))
  rounds_before (suc round) low =
      ap (λ t. t ++ part_text trial rank (suc round)) (rounds_before round (omega (arith, low)))
      ∙ ap (λ b. (first_lines trial rank ++ rounds_text trial rank round) ++ cond b (round_lines trial rank round) last_lines) (lt-ltb round trial.rounds (omega (arith, low)))
      ∙ append_assoc (first_lines trial rank) (rounds_text trial rank round) (round_lines trial rank round)

  -- all parts
  all_parts : text_before trial rank (parts_of trial) ≡ log_of trial rank
  unfolding log_of
  all_parts =
      let two : parts_of trial ≡ suc (suc trial.rounds) = omega arith in
      ap (text_before trial rank) two
      ∙ ap (λ t. t ++ part_text trial rank (suc trial.rounds)) (rounds_before trial.rounds (omega arith))
      ∙ ap (λ b. (first_lines trial rank ++ rounds_text trial rank trial.rounds) ++ cond b (round_lines trial rank trial.rounds) last_lines) (le-ltb trial.rounds trial.rounds (omega arith))

  -- what is behind a part
  behind : (n m part : ℕ) → m ≡ part + n → (rest : List ℕ) × (text_before trial rank m ≡ text_before trial rank part ++ rest)
  behind zero m part e =
      let same : m ≡ part = omega (arith, e) in
      ([], ap (text_before trial rank) same ∙ sym (append-nil (text_before trial rank part)))
  behind (suc n) m part e =
      let earlier = behind n (part + n) part refl in
      let next : m ≡ suc (part + n) = omega (arith, e) in (
        earlier.0 ++ part_text trial rank (part + n),
        ap (text_before trial rank) next ∙ ap (λ t. t ++ part_text trial rank (part + n)) earlier.1 ∙ append_assoc (text_before trial rank part) earlier.0 (part_text trial rank (part + n)),
      )

  -- the log at a part
  split : (part : ℕ) → part < parts_of trial → (rest : List ℕ) × (log_of trial rank ≡ text_before trial rank part ++ (part_text trial rank part ++ rest))
  split part below =
      let rest = behind (parts_of trial - suc part) (parts_of trial) (suc part) (omega (arith, below)) in
      (rest.0, sym all_parts ∙ rest.1 ∙ append_assoc (text_before trial rank part) (part_text trial rank part) rest.0)

-- what is left at a place in a part
pub left_at : (trial : Trial) (log : RankLog) → log.part < parts_of trial → log.offset ≤ length (part_text trial log.rank log.part)
    → (rest : List ℕ) × ((tape_at trial log).left ≡ drop log.offset (part_text trial log.rank log.part) ++ rest)
left_at trial log below within =
    let text = part_text trial log.rank log.part in
    let before = text_before trial log.rank log.part in
    let whole = split trial log.rank log.part below in (
      whole.0,
      ap (drop (given trial log)) whole.1
          ∙ sym (drop-drop log.offset (length before) (before ++ (text ++ whole.0)))
          ∙ ap (drop log.offset) (drop_at before (text ++ whole.0) (length before) refl)
          ∙ drop-append-le log.offset text whole.0 within,
    )

-- nothing is left behind the last part
pub left_behind : (trial : Trial) (log : RankLog) → log.part ≡ parts_of trial → (tape_at trial log).left ≡ []
left_behind trial log end =
    let before = ap (λ part. length (text_before trial log.rank part)) end ∙ ap (λ text. length text) (all_parts trial log.rank) in
    drop_all (given trial log) (log_of trial log.rank) (omega (arith, before))

-- the place after some bytes of a part
pub given_advanced : (trial : Trial) (log : RankLog) (len left : ℕ) → log.offset + left ≡ length (part_text trial log.rank log.part)
    → given trial (advanced len left log) ≡ given trial log + len
given_advanced trial log len left fits = by (len == left) refl
  where
    next : Bool → RankLog
    next b = cond b (record { rank = log.rank; part = log.part + 1; offset = 0 }) (record { rank = log.rank; part = log.part; offset = log.offset + len })

    by : (b : Bool) → (len == left) ≡ b → given trial (next b) ≡ given trial log + len
    by false differ = omega arith
    by true same =
        let all : len ≡ left = eqb-true len left same in
        let one : log.part + 1 ≡ suc log.part = omega arith in
        let text = ap (λ part. length (text_before trial log.rank part)) one ∙ length-append (text_before trial log.rank log.part) (part_text trial log.rank log.part) in
        omega (arith, text, all, fits)

take_further : (at len : ℕ) (text : List ℕ) → take (at + len) text ≡ take at text ++ take len (drop at text)
take_further at len text =
    sym (take-append-drop at (take (at + len) text))
    ∙ ap (λ t. t ++ drop at (take (at + len) text)) (take-take at (at + len) text (omega arith))
    ∙ ap (λ t. take at text ++ t) (drop-take at len text)

-- the log after some bytes
pub tape_advanced : (trial : Trial) (log after : RankLog) (len : ℕ) → after.rank ≡ log.rank → given trial after ≡ given trial log + len
    → tape_at trial after ≡ after_taking len (tape_at trial log)
tape_advanced trial log after len same further =
    let at = given trial log in
    let text = log_of trial log.rank in
    ap (λ rank. record { taken = take (given trial after) (log_of trial rank); left = drop (given trial after) (log_of trial rank) }) same
    ∙ ap (λ n. record { taken = take n text; left = drop n text }) further
    ∙ ap (λ t. record { taken = t; left = drop (at + len) text }) (take_further at len text)
    ∙ ap (λ t. record { taken = take at text ++ take len (drop at text); left = t }) (sym (drop-drop len at text))

-- the bytes of a part, as those of what is left
pub piece_of : (trial : Trial) (log : RankLog) (text : List ℕ) (len : ℕ) → text ≡ part_text trial log.rank log.part → log.part < parts_of trial → log.offset ≤ length text
    → len ≤ length (drop log.offset text) → (len ≤ length (tape_at trial log).left) × (take len (drop log.offset text) ≡ take len (tape_at trial log).left)
piece_of trial log text len is below within fits =
    let part = part_text trial log.rank log.part in
    let left = left_at trial log below (subst (λ t. log.offset ≤ length t) is within) in
    let whole : (tape_at trial log).left ≡ drop log.offset text ++ left.0 = left.1 ∙ ap (λ t. drop log.offset t ++ left.0) (sym is) in (
      omega (arith, ap (λ t. length t) whole, length-append (drop log.offset text) left.0, fits),
      sym (ap (take len) whole ∙ take-append-le len (drop log.offset text) left.0 fits),
    )

-- a room that was filled so far, and then further
pub filled_more : (left room before after : List ℕ) (len n : ℕ) → len ≤ length left → len ≤ length room → before ≡ take len left ++ drop len room
    → after ≡ take len before ++ (take n (drop len left) ++ drop (len + n) before) → after ≡ take (len + n) left ++ drop (len + n) room
filled_more left room before after len n there fits filled next =
    let size : length (take len left) ≡ len = length-take-le len left there in
    let start : take len before ≡ take len left = ap (take len) filled ∙ take_at (take len left) (drop len room) len size in
    let end : drop (len + n) before ≡ drop (len + n) room =
    sym (drop-drop n len before) ∙ ap (λ t. drop n (drop len t)) filled ∙ ap (drop n) (drop_at (take len left) (drop len room) len size) ∙ drop-drop n len room in
    next
    ∙ ap (λ t. t ++ (take n (drop len left) ++ drop (len + n) before)) start
    ∙ ap (λ t. take len left ++ (take n (drop len left) ++ t)) end
    ∙ sym (append_assoc (take len left) (take n (drop len left)) (drop (len + n) room))
    ∙ ap (λ t. t ++ drop (len + n) room) (sym (take_further len n left))

-- what was taken at once, and then more, was taken at once
pub taken_more : (tape : Tape) (len n : ℕ) → after_taking n (after_taking len tape) ≡ after_taking (len + n) tape
taken_more tape len n =
    ap (λ t. record { taken = t; left = drop n (drop len tape.left) }) (append_assoc tape.taken (take len tape.left) (take n (drop len tape.left)) ∙ ap (λ t. tape.taken ++ t) (sym (take_further len n tape.left)))
    ∙ ap (λ t. record { taken = tape.taken ++ take (len + n) tape.left; left = t }) (drop-drop n len tape.left)

-- a place in a part
pub offset_within : (trial : Trial) (log : RankLog) → IsPlace trial log → log.part < parts_of trial → log.offset < length (part_text trial log.rank log.part)
offset_within trial log place below = elim place.within [ inl in_part ↦ in_part.1 | inr at_end ↦ absurd (omega (arith, at_end.0, below)) ]

-- nothing is left exactly at the last place
pub some_left : (trial : Trial) (log : RankLog) → IsPlace trial log → (log.part == parts_of trial) ≡ false → 0 < length (tape_at trial log).left
some_left trial log place differ =
    elim place.within [
      | inl in_part ↦
          let left = left_at trial log in_part.0 (omega (arith, in_part.1)) in
          let text = part_text trial log.rank log.part in
          omega (arith, ap (λ t. length t) left.1, length-append (drop log.offset text) left.0, length-drop log.offset text, in_part.1)
      | inr at_end ↦ absurd (eqb-false log.part (parts_of trial) differ at_end.0)
    ]

pub none_left : (trial : Trial) (log : RankLog) → (log.part == parts_of trial) ≡ true → (tape_at trial log).left ≡ []
none_left trial log same = left_behind trial log (eqb-true log.part (parts_of trial) same)

pub rank_advanced : (len left : ℕ) (log : RankLog) → (advanced len left log).rank ≡ log.rank
rank_advanced len left log = by (len == left)
  where
    next : Bool → RankLog
    next b = cond b (record { rank = log.rank; part = log.part + 1; offset = 0 }) (record { rank = log.rank; part = log.part; offset = log.offset + len })

    by : (b : Bool) → (next b).rank ≡ log.rank
    by false = refl
    by true = refl
