-- What makes the source of a message known.
use Rattle.std.proofs.Common.{◌≡◌, ℕ, Bool, true, false, cond, List, take, Option, Some, None, slice_get, refl, ap, ◌∙◌}
use Rattle.std.specs.Prelude.{filter}
use Rattle.std.specs.List.{filter_map, list_all}
use Rattle.std.specs.Option.{option_map_or}
use Rattle.rma_base.specs.declared.point.Point.{Point}
use Rattle.rma_call.specs.Call.{Call}
use Rattle.rma_link.specs.Point.{entry}
use Rattle.rma_message.specs.declared.end.End.{End}
use Rattle.rma_message.specs.declared.receive.Receive.{Receive}
use Rattle.rma_message.specs.declared.source.MessageSource.TheVariants.{NoReceive, Unknown, From}
use Rattle.rma_message.specs.Receive.{end_of}
use Rattle.rma_message.specs.Matching.{partner}
use Rattle.rma_message.specs.Source.{messages_at, completed_at, is_complete, is_on, source_of_end, source_after, source_at}
use Rattle.rma_message.proofs.SourceLemmas.{own_end}

-- what makes it known
pub record IsFrom (calls : ℕ → List Call) (rank number : ℕ) (rs : List Receive) (point : Point) : Type 0 where
  pub index : ℕ
  pub receive : Receive
  pub end : End
  pub send : End
  pub found : completed_at number rs ≡ Some index
  pub there : slice_get rs index ≡ Some receive
  pub complete : list_all is_complete (filter (is_on receive.comm) (take index rs)) ≡ true
  pub is_end : own_end rank receive ≡ Some end
  pub matched : partner (messages_at calls end.key.from.0).sends (filter_map (end_of (record { 0 = rank })) (take index rs)) end ≡ Some send
  pub is_point : entry end.key.from send.call ≡ point

module _ (calls : ℕ → List Call) (rank number : ℕ) (rs : List Receive) (point : Point) where
  pub known : option_map_or (source_at calls rank rs) (completed_at number rs) NoReceive ≡ From point → IsFrom calls rank number rs point
  known = by_found (completed_at number rs) refl
    where
      by_send : (i : ℕ) (r : Receive) (e : End) → completed_at number rs ≡ Some i → slice_get rs i ≡ Some r → list_all is_complete (filter (is_on r.comm) (take i rs)) ≡ true → own_end rank r ≡ Some e → (o : Option End)
          → partner (messages_at calls e.key.from.0).sends (filter_map (end_of (record { 0 = rank })) (take i rs)) e ≡ o
          → option_map_or (λ (send : End). From (entry e.key.from send.call)) o Unknown ≡ From point → IsFrom calls rank number rs point
      by_send i r e at there complete is_end None matched is = cc
      by_send i r e at there complete is_end (Some send) matched is =
          record { index = i; receive = r; end = e; send = send; found = at; there = there; complete = complete; is_end = is_end; matched = matched; is_point = cc }

      by_end : (i : ℕ) (r : Receive) → completed_at number rs ≡ Some i → slice_get rs i ≡ Some r → (b : Bool) (o : Option End) → list_all is_complete (filter (is_on r.comm) (take i rs)) ≡ b → own_end rank r ≡ o
          → cond b (option_map_or (source_of_end calls (filter_map (end_of (record { 0 = rank })) (take i rs))) o Unknown) Unknown ≡ From point → IsFrom calls rank number rs point
      by_end i r at there false o complete is_end is = cc
      by_end i r at there true None complete is_end is = cc
      by_end i r at there true (Some e) complete is_end is =
          by_send i r e at there complete is_end (partner (messages_at calls e.key.from.0).sends (filter_map (end_of (record { 0 = rank })) (take i rs)) e) refl is

      by_there : (i : ℕ) → completed_at number rs ≡ Some i → (o : Option Receive) → slice_get rs i ≡ o → option_map_or (source_after calls rank (take i rs)) o NoReceive ≡ From point → IsFrom calls rank number rs point
      by_there i at None there is = cc
      by_there i at (Some r) there is = by_end i r at there (list_all is_complete (filter (is_on r.comm) (take i rs))) (own_end rank r) refl refl is

      by_found : (o : Option ℕ) → completed_at number rs ≡ o → option_map_or (source_at calls rank rs) o NoReceive ≡ From point → IsFrom calls rank number rs point
      by_found None at is = cc
      by_found (Some i) at is = by_there i at (slice_get rs i) refl is

-- what the source of a message is, where its receives before are complete
pub source_is : (calls : ℕ → List Call) (rank number : ℕ) (rs : List Receive) (index : ℕ) (r : Receive) (e send : End) → completed_at number rs ≡ Some index → slice_get rs index ≡ Some r →
    list_all is_complete (filter (is_on r.comm) (take index rs)) ≡ true → own_end rank r ≡ Some e →
    partner (messages_at calls e.key.from.0).sends (filter_map (end_of (record { 0 = rank })) (take index rs)) e ≡ Some send →
    option_map_or (source_at calls rank rs) (completed_at number rs) NoReceive ≡ From (entry e.key.from send.call)
source_is calls rank number rs index r e send found there all is matched =
    ap (λ o. option_map_or (source_at calls rank rs) o NoReceive) found
    ∙ ap (λ o. option_map_or (source_after calls rank (take index rs)) o NoReceive) there
    ∙ ap (λ b. cond b (option_map_or (source_of_end calls (filter_map (end_of (record { 0 = rank })) (take index rs))) (own_end rank r) Unknown) Unknown) all
    ∙ ap (λ o. option_map_or (source_of_end calls (filter_map (end_of (record { 0 = rank })) (take index rs))) o Unknown) is
    ∙ ap (λ o. option_map_or (λ (s : End). From (entry e.key.from s.call)) o Unknown) matched
