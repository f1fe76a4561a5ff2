-- Each access of a run of good logs has a name of its own.
use Rattle.std.proofs.Common.{◌≡◌, ◌+◌, ℕ, List, length, Some, option_map, slice_get, refl, sym, ap, subst, ◌∙◌, arith}
use Rattle.std.specs.Prelude.{Contains}
use Rattle.std.proofs.lemmas.Option.{option_and_then_some, same_Some}
use Rattle.rma_base.specs.declared.line.LineNo.{LineNo}
use Rattle.rma_base.specs.declared.rank.Rank.{Rank}
use Rattle.rma_call.specs.Call.{Call, RankCalls}
use Rattle.rma_kept.specs.Kept.{AreKept}
use Rattle.rma_kept.proofs.ListLemmas.{kept_take, only_once}
use Rattle.rma_run.proofs.ContainLemmas.{in_by_number, in_filter_map}
use Rattle.rma_window.specs.Creation.{creations}
use Rattle.rma_window.specs.Windows.{windows_by}
use Rattle.rma_epoch.proofs.SoundLemmas.{sound_first}
use Rattle.rma_rules.specs.Access.{Access}
use Rattle.rma_rules.specs.declared.access_name.AccessName.{AccessName}
use Rattle.rma_rules.specs.declared.access_name.Role.{Role}
use Rattle.rma_touch.specs.Touch.{Touch}
use Rattle.rma_touch.specs.Touches.{access_with, roles, touch_at}
use Rattle.rma_span.specs.Span.{Origin, access_of, accesses, accesses_of, call_accesses, origin_of, span_of}
use Rattle.rma_points.proofs.AccessLemmas.{at_rank, is_of_run}
use Rattle.rma_points.proofs.OptionLemmas.{mapped}
use Rattle.rma_accesses.specs.Run.{AreGood}
use Rattle.rma_pairs.specs.Races.{HaveNames}
use Rattle.rma_pairs.proofs.RoleLemmas.{touch_has}

-- ---- the accesses of a rank

-- the name of the access of a call in a role
abbrev name_with : Origin → Call → Role → AccessName
name_with own call role = record { rank = own.rank; line = call.line; role = role }

-- an access is that of a call of the rank in a role, and has their name
record IsMade (own : Origin) (a : Access) : Type 0 where
  number : ℕ
  call : Call
  role : Role
  there : slice_get own.sound number ≡ Some call
  is : access_of own number call role ≡ Some a
  named : a.name ≡ name_with own call role

name_is : (own : Origin) (number : ℕ) (call : Call) (role : Role) (a : Access) → access_of own number call role ≡ Some a → a.name ≡ name_with own call role
name_is own number call role a is =
    option_and_then_some (λ (touch : Touch). option_map (access_with own.rank number call touch) (span_of own number call role)) (touch_at own.windows own.rank call.what role) a is
    (λ touch touches at.
    let span = mapped (access_with own.rank number call touch) (span_of own number call role) a at in
    ap (λ (it : Access). it.name) (sym span.2) ∙ ap (name_with own call) (touch_has own.windows own.rank touch call.what role touches))

is_made : (own : Origin) (a : Access) → Contains (accesses_of own) a → IsMade own a
is_made own a has =
    let one = in_by_number (call_accesses own) 0 own.sound a has in
    let number = 0 + one.0 in
    let among = in_filter_map (access_of own number one.1) roles a one.3 in
    record {
      number = number;
      call = one.1;
      role = among.0;
      there = subst (λ n. slice_get own.sound n ≡ Some one.1) (let e : one.0 ≡ 0 + one.0 = omega arith in e) one.2;
      is = among.2;
      named = name_is own number one.1 among.0 a among.2;
    }

-- the lines of kept calls ascend, so a line has one call
one_line : (rank logs : ℕ) (calls : List Call) (i j : ℕ) (one other : Call) → AreKept rank logs calls → slice_get calls i ≡ Some one → slice_get calls j ≡ Some other → one.line ≡ other.line → i ≡ j
one_line rank logs calls i j one other kept here there same =
    only_once (λ call. call.line.0 ≡ other.line.0) calls
    (λ place call at does earlier among also. let less = (kept place call at).line earlier among in omega arith)
    i j one other here there (ap (λ (line : LineNo). line.0) same) refl

module _ (own : Origin) (logs : ℕ) (kept : AreKept own.rank.0 logs own.sound) (a b : Access) (one : IsMade own a) (two : IsMade own b) (same : a.name ≡ b.name) where
  names : name_with own one.call one.role ≡ name_with own two.call two.role
  names = sym one.named ∙ same ∙ two.named

  numbers : one.number ≡ two.number
  numbers = one_line own.rank.0 logs own.sound one.number two.number one.call two.call kept one.there two.there (ap (λ (name : AccessName). name.line) names)

  calls : one.call ≡ two.call
  calls = same_Some one.call two.call (sym one.there ∙ ap (slice_get own.sound) numbers ∙ two.there)

  roles_are : one.role ≡ two.role
  roles_are = ap (λ (name : AccessName). name.role) names

  made : access_of own one.number one.call one.role ≡ access_of own two.number two.call two.role
  made = λ k. access_of own (numbers k) (calls k) (roles_are k)

  same_access : a ≡ b
  same_access = same_Some a b (sym one.is ∙ made ∙ two.is)

-- ---- the accesses of a run

-- the sound calls of a rank are kept
sound_kept : (ranks : List RankCalls) (own : RankCalls) → AreKept own.rank.0 (length ranks) own.calls → AreKept own.rank.0 (length ranks) (origin_of ranks own).sound
sound_kept ranks own kept =
    let sound = (origin_of ranks own).sound in
    subst (AreKept own.rank.0 (length ranks)) (sym (sound_first (windows_by (creations ranks)) own.calls)) (kept_take own.rank.0 (length ranks) (length sound) own.calls kept)

pub names_are_own : (ranks : List RankCalls) → AreGood ranks → HaveNames (accesses ranks)
names_are_own ranks good a b has_a has_b same =
    let one = is_of_run ranks a has_a in
    let two = is_of_run ranks b has_b in
    let origin = origin_of ranks one.own in
    let made_a = is_made origin a one.made in
    let other = is_made (origin_of ranks two.own) b two.made in
    let rank : one.own.rank ≡ two.own.rank = ap (λ (name : AccessName). name.rank) (sym made_a.named ∙ same ∙ other.named) in
    let owns : one.own ≡ two.own =
    same_Some one.own two.own (sym (at_rank ranks good.run one.own one.of_run) ∙ ap (λ (r : Rank). slice_get ranks r.0) rank ∙ at_rank ranks good.run two.own two.of_run) in
    let made_b = is_made origin b (subst (λ own. Contains (accesses_of (origin_of ranks own)) b) (sym owns) two.made) in
    same_access origin (length ranks) (sound_kept ranks one.own (good.kept one.own one.of_run)) a b made_a made_b same
