-- What a rank has declared, with one more call.
use Rattle.std.proofs.Common.{◌≡◌, ℕ, zero, suc, ◌+◌, arith, Bool, true, false, cond, ◌∷◌, ◌++◌, List, [], Option, Some, None, nat_eq, refl, sym, ap, subst, ◌∙◌}
use Rattle.std.specs.List.{range_with_len}
use Rattle.std.specs.Map.{lookup}
use Rattle.std.specs.Option.{option_or}
use Rattle.std.specs.Cmp.Lexicographic.{pointwise}
use Rattle.std.proofs.lemmas.Bool.{eqb-true}
use Rattle.rma_call.specs.Call.{Call}
use Rattle.rma_call.specs.declared.what.What.{What}
use Rattle.rma_run.specs.Run.{with_calls}
use Rattle.rma_match.specs.declared.groups.RankGroups.{RankGroups}
use Rattle.rma_match.specs.declared.groups.Groups.{Groups}
use Rattle.rma_match.specs.Membership.{declared, created_on, stated_of, first_stated}
use Rattle.rma_match.specs.inside.Groups.{AreOfRank, AreGroups, kept_of}

or_none : (a : Option (List ℕ)) → option_or a None ≡ a
or_none None = refl
or_none (Some x) = refl

or_assoc : (a b c : Option (List ℕ)) → option_or a (option_or b c) ≡ option_or (option_or a b) c
or_assoc None b c = refl
or_assoc (Some x) b c = refl

module _ (states : What → Option (List ℕ × List ℕ)) (name : List ℕ) where
  first_stated_push : (calls : List Call) (call : Call) → first_stated states name (calls ++ call ∷ []) ≡ option_or (first_stated states name calls) (stated_of name (states call.what))
  first_stated_push [] call = or_none (stated_of name (states call.what))
  first_stated_push (x ∷ xs) call =
      ap (option_or (stated_of name (states x.what))) (first_stated_push xs call)
      ∙ or_assoc (stated_of name (states x.what)) (first_stated states name xs) (stated_of name (states call.what))

  first_stated_same : (calls : List Call) (call : Call) → states call.what ≡ None → first_stated states name (calls ++ call ∷ []) ≡ first_stated states name calls
  first_stated_same calls call none =
      first_stated_push calls call
      ∙ ap (λ s. option_or (first_stated states name calls) (stated_of name s)) none
      ∙ or_none (first_stated states name calls)

  first_stated_more : (calls : List Call) (call : Call) (own value : List ℕ) → states call.what ≡ Some (own, value) →
      first_stated states name (calls ++ call ∷ []) ≡ option_or (first_stated states name calls) (cond (pointwise nat_eq own name) (Some value) None)
  first_stated_more calls call own value is =
      first_stated_push calls call
      ∙ ap (λ s. option_or (first_stated states name calls) (stated_of name s)) is

-- a call that declares nothing
pub AreOfRank_same : (calls : List Call) (call : Call) (groups : Option RankGroups) → declared call.what ≡ None → created_on call.what ≡ None → AreOfRank calls groups → AreOfRank (calls ++ call ∷ []) groups
AreOfRank_same calls call groups comm window are = record {
  comms_are = λ name. are.comms_are name ∙ sym (first_stated_same declared name calls call comm);
  windows_are = λ name. are.windows_are name ∙ sym (first_stated_same created_on name calls call window);
}

-- where nothing is kept of a rank
pub AreOfRank_new : (calls : List Call) (groups : Option RankGroups) (new : RankGroups) → None ≡ groups → new.comms.entries ≡ [] → new.windows.entries ≡ [] → AreOfRank calls groups → AreOfRank calls (Some new)
AreOfRank_new calls groups new none comms windows are =
    let empty : AreOfRank calls None = subst (AreOfRank calls) (sym none) are in
    record {
      comms_are = λ name. ap (lookup (pointwise nat_eq name)) comms ∙ empty.comms_are name;
      windows_are = λ name. ap (lookup (pointwise nat_eq name)) windows ∙ empty.windows_are name;
    }

-- the declaration of a communicator
pub AreOfRank_declared : (calls : List Call) (call : Call) (old new : RankGroups) (comm ranks : List ℕ) → declared call.what ≡ Some (comm, ranks) → created_on call.what ≡ None → new.windows ≡ old.windows →
    ((name : List ℕ) → lookup (pointwise nat_eq name) new.comms.entries ≡ option_or (lookup (pointwise nat_eq name) old.comms.entries) (cond (pointwise nat_eq comm name) (Some ranks) None)) →
    AreOfRank calls (Some old) → AreOfRank (calls ++ call ∷ []) (Some new)
AreOfRank_declared calls call old new comm ranks is not stay noted are = record {
  comms_are = λ name.
      noted name
      ∙ ap (λ o. option_or o (cond (pointwise nat_eq comm name) (Some ranks) None)) (are.comms_are name)
      ∙ sym (first_stated_more declared name calls call comm ranks is);
  windows_are = λ name.
      ap (λ w. lookup (pointwise nat_eq name) w.entries) stay
      ∙ are.windows_are name
      ∙ sym (first_stated_same created_on name calls call not);
}

-- the creation of a window
pub AreOfRank_created : (calls : List Call) (call : Call) (old new : RankGroups) (window comm : List ℕ) → created_on call.what ≡ Some (window, comm) → declared call.what ≡ None → new.comms ≡ old.comms →
    ((name : List ℕ) → lookup (pointwise nat_eq name) new.windows.entries ≡ option_or (lookup (pointwise nat_eq name) old.windows.entries) (cond (pointwise nat_eq window name) (Some comm) None)) →
    AreOfRank calls (Some old) → AreOfRank (calls ++ call ∷ []) (Some new)
AreOfRank_created calls call old new window comm is not stay noted are = record {
  comms_are = λ name.
      ap (λ c. lookup (pointwise nat_eq name) c.entries) stay
      ∙ are.comms_are name
      ∙ sym (first_stated_same declared name calls call not);
  windows_are = λ name.
      noted name
      ∙ ap (λ o. option_or o (cond (pointwise nat_eq window name) (Some comm) None)) (are.windows_are name)
      ∙ sym (first_stated_more created_on name calls call window comm is);
}

-- one more call of a rank, of which alone something changes
pub AreGroups_more : (ranks : ℕ) (calls : ℕ → List Call) (rank : ℕ) (call : Call) (old new : Groups) → new.everyone ≡ old.everyone →
    (AreOfRank (calls rank) (kept_of old.ranks.entries rank) → AreOfRank (calls rank ++ call ∷ []) (kept_of new.ranks.entries rank)) →
    ((other : ℕ) → nat_eq rank other ≡ false → kept_of new.ranks.entries other ≡ kept_of old.ranks.entries other) →
    AreGroups ranks calls old → AreGroups ranks (with_calls calls rank (call ∷ [])) new
AreGroups_more ranks calls rank call old new stay own others are = record {
  everyone_is = stay ∙ are.everyone_is;
  each = λ other. by other (nat_eq rank other) refl;
}
  where
    by : (other : ℕ) (b : Bool) → nat_eq rank other ≡ b → AreOfRank (with_calls calls rank (call ∷ []) other) (kept_of new.ranks.entries other)
    by other true same = rw same (subst (λ r. AreOfRank (calls r ++ call ∷ []) (kept_of new.ranks.entries r)) (eqb-true rank other same) (own (are.each rank)))
    by other false differ = rw differ (subst (AreOfRank (calls other)) (sym (others other differ)) (are.each other))

-- one that declares nothing
pub AreGroups_same : (ranks : ℕ) (calls : ℕ → List Call) (rank : ℕ) (call : Call) (groups : Groups) → declared call.what ≡ None → created_on call.what ≡ None →
    AreGroups ranks calls groups → AreGroups ranks (with_calls calls rank (call ∷ [])) groups
AreGroups_same ranks calls rank call groups comm window are =
    AreGroups_more ranks calls rank call groups groups refl (AreOfRank_same (calls rank) call (kept_of groups.ranks.entries rank) comm window) (λ other differ. refl) are

-- ---- all ranks

counting : (a n : ℕ) → range_with_len a (suc n) ≡ range_with_len a n ++ (a + n) ∷ []
counting a zero = ap (λ k. k ∷ []) (let e : a ≡ a + 0 = omega arith in e)
counting a (suc n) =
    ap (λ l. a ∷ l) (counting (a + 1) n)
    ∙ ap (λ k. range_with_len a (suc n) ++ k ∷ []) (let e : a + 1 + n ≡ a + suc n = omega arith in e)

-- one more rank
pub counting_more : (n : ℕ) → range_with_len 0 n ++ n ∷ [] ≡ range_with_len 0 (n + 1)
counting_more n =
    ap (λ k. range_with_len 0 n ++ k ∷ []) (let e : n ≡ 0 + n = omega arith in e)
    ∙ sym (counting 0 n)
    ∙ ap (range_with_len 0) (let e : suc n ≡ n + 1 = omega arith in e)
