-- A rank that is past more points.
use Rattle.std.proofs.Common.{◌≡◌, ℕ, ◌+◌, ◌*◌, ◌%◌, ◌<◌, List, [], ◌∷◌, ◌++◌, length, set, Option, Some, None, option_map, is_some, refl, sym, ap, subst, ◌∙◌, arith}
use Rattle.std.specs.Prelude.{slice_index}
use Rattle.std.specs.Vec.{with_item}
use Rattle.std.proofs.lemmas.List.{get_or-set_same, length-set, set-set}
use Rattle.rma_base.specs.declared.point.Point.{Point}
use Rattle.rma_link.specs.declared.links.Links.{Links}
use Rattle.rma_walk.specs.inside.Run.{IsRun, IsReady, next_point}
use Rattle.rma_walk.specs.inside.Front.{IsFront, IsKept, HasAdvanced}
use Rattle.rma_walk.specs.declared.front.Front.{Front}
use Rattle.rma_walk.proofs.FrontLemmas.{passed_on, front_more}
use Rattle.rma_walk.proofs.BlockerLemmas.{ready_at_entry}

kept_more : (kept : Option (List Point)) (order : List Point) (point : Point) → IsKept kept order → IsKept (option_map (λ list. list ++ point ∷ []) kept) (order ++ point ∷ [])
kept_more None order point is = is
kept_more (Some list) order point is = ap (λ (xs : List Point). xs ++ point ∷ []) is

keeps_more : (kept : Option (List Point)) (point : Point) → is_some (option_map (λ list. list ++ point ∷ []) kept) ≡ is_some kept
keeps_more None point = refl
keeps_more (Some list) point = refl

module _ (lens : List ℕ) (links : Links) (rank : ℕ) where
  -- it is past its next point
  pub advanced_one : (old new : Front) (pos : ℕ) → pos ≡ slice_index old.next.items rank → rank < length old.next.items → pos < 2 * slice_index lens rank → IsReady links old.next.items rank
      → new.next.items ≡ set old.next.items rank (pos + 1) → new.order ≡ option_map (λ list. list ++ record { rank = record { 0 = rank }; pos = pos } ∷ []) old.order → HasAdvanced lens links rank old new
  advanced_one old new pos read there more ready next_is order_is =
      let P : ℕ → Point = λ n. record { rank = record { 0 = rank }; pos = n } in
      let point = next_point old.next.items rank in
      let passed : new.next.items ≡ passed_on old.next.items rank = next_is ∙ ap (λ n. set old.next.items rank (n + 1)) read in
      let listed : new.order ≡ option_map (λ list. list ++ point ∷ []) old.order = order_is ∙ ap (λ n. option_map (λ list. list ++ P n ∷ []) old.order) read in
      record {
        pos = pos + 1;
        next = next_is;
        more = omega arith;
        front = λ order front kept.
            let later : List Point = order ++ point ∷ [] in (
              later,
              subst (λ next. IsFront lens links next later) (sym passed) (front_more lens links old.next.items order rank front there (omega arith) ready),
              subst (λ o. IsKept o later) (sym listed) (kept_more old.order order point kept),
            );
        keeps = ap is_some order_is ∙ keeps_more old.order (P pos);
      }

  -- and past more after that
  advanced_then : (old mid new : Front) → rank < length old.next.items → HasAdvanced lens links rank old mid → HasAdvanced lens links rank mid new → HasAdvanced lens links rank old new
  advanced_then old mid new there one two =
      let now : slice_index mid.next.items rank ≡ one.pos = ap (λ next. slice_index next rank) one.next ∙ get_or-set_same old.next.items rank one.pos 0 there in
      let first = one.more in
      let second = two.more in
      record {
        pos = two.pos;
        next = two.next ∙ ap (λ next. set next rank two.pos) one.next ∙ set-set old.next.items rank one.pos two.pos;
        more = omega arith;
        front = λ order front kept. let found = one.front order front kept in two.front found.0 found.1 found.2;
        keeps = two.keeps ∙ one.keeps;
      }

  -- that is a return, and it is past the next entry too
  pub advanced_two : (old new : Front) (pos : ℕ) (middle : Option (List Point)) → IsRun lens links → length old.next.items ≡ length lens → pos ≡ slice_index old.next.items rank → rank < length old.next.items
      → (pos + 1) % 2 ≡ 0 → pos + 1 < 2 * slice_index lens rank → IsReady links old.next.items rank → middle ≡ option_map (λ list. list ++ record { rank = record { 0 = rank }; pos = pos } ∷ []) old.order
      → new.next.items ≡ set old.next.items rank (pos + 2) → new.order ≡ option_map (λ list. list ++ record { rank = record { 0 = rank }; pos = pos + 1 } ∷ []) middle → HasAdvanced lens links rank old new
  advanced_two old new pos middle run size read there even more ready middle_is next_is order_is =
      let mid : Front = record { next = with_item old.next rank (pos + 1); order = middle } in
      let now : slice_index mid.next.items rank ≡ pos + 1 = get_or-set_same old.next.items rank (pos + 1) 0 there in
      let len : length mid.next.items ≡ length old.next.items = length-set old.next.items rank (pos + 1) in
      let two : pos + 2 ≡ pos + 1 + 1 = omega arith in
      let next_too : new.next.items ≡ set mid.next.items rank (pos + 1 + 1) = next_is ∙ ap (set old.next.items rank) two ∙ sym (set-set old.next.items rank (pos + 1) (pos + 1 + 1)) in
      let first = advanced_one old mid pos read there (omega arith) ready refl middle_is in
      advanced_then old mid new there first
      (advanced_one mid new (pos + 1) (sym now) (omega arith) more (ready_at_entry lens links mid.next.items run (len ∙ size) rank (ap (λ n. n % 2) now ∙ even)) next_too order_is)
