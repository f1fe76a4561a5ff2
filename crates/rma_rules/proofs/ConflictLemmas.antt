-- Which rows of the table hold of two accesses.
use Rattle.std.proofs.Common.{◌≡◌, ◌⊎◌, ◌↔◌, ℕ, ℤ, ◌<◌, ◌≤◌, arith, Bool, true, false, List, Option, Some, None, inl, inr, refl, sym, ap, subst, ◌∙◌, ⊎_elim}
use Rattle.rma_bytes.specs.declared.run.Run.{Run}
use Rattle.rma_window.specs.Windows.{Window}
use Rattle.rma_window.specs.declared.window_id.WindowId.{WindowId}
use Rattle.std.proofs.lemmas.Bool.{cases_lt}
use Rattle.rma_rules.specs.declared.kind.Operation.{Operation}
use Rattle.rma_rules.specs.declared.kind.Kind.{Kind}
use Rattle.rma_rules.specs.declared.kind.Kind.TheVariants.{Load, Store, Poll, BufferRead, BufferWrite, Get, Put, Accumulate}
use Rattle.rma_rules.specs.declared.rule.Rule.{Rule}
use Rattle.rma_rules.specs.declared.rule.Rule.TheVariants.{Overlap, StoreInWindow, OtherWindow, Buffer}
use Rattle.rma_rules.specs.declared.rule.Rule.TheVariants as rule
use Rattle.rma_rules.specs.Access.{Access}
use Rattle.rma_rules.specs.Kind.{has_no_op, is_accumulate, is_get, is_load, is_no_op, is_own, is_poll, is_put, is_store, is_target, is_update}
use Rattle.rma_rules.specs.Share.{IsSeparateAt, MeetsPart, ShareByte}
use Rattle.rma_rules.specs.Element.{AllowsNoOp, Disagree, ElementsAgree, MayMeet, OperationsAgree}
use Rattle.rma_rules.specs.Lock.{Separated}
use Rattle.rma_rules.specs.Conflict.{AccumulatesDisagree, AreThroughOne, AreUpdatesApart, BufferInUse, CountsAsGet, UpdateBesideUpdate, ConflictAtCaller, ConflictAtTarget, ConflictsWithTarget}
use Rattle.rma_rules.proofs.PartLemmas.{same_some}

-- ---- bytes

pub share_turned : (xs ys : List Run) → ShareByte xs ys → ShareByte ys xs
unfolding ShareByte
share_turned xs ys share = (share.0, share.2, share.1)

-- ---- answers

-- a rule that holds, and no other
pub exactly : (P : Rule → Type 0) (is : Rule) → P is → ((other : Rule) → P other → other ≡ is) → (other : Rule) → (Some is ≡ Some other) ↔ P other
exactly P is holds unique other = (λ same. subst P (same_some is other same) holds, λ there. ap Some (sym (unique other there)))

-- no rule that holds
pub none_of : (P : Rule → Type 0) → ((other : Rule) → P other → ⊥) → (other : Rule) → (None ≡ Some other) ↔ P other
none_of P never other = (λ same. absurd (cc), λ there. absurd (never other there))

-- ---- kinds

pub own_not_target : (k : Kind) → is_own k ≡ true → is_target k ≡ true → ⊥
own_not_target k own target = let same : is_own k ≡ false = rw target refl in cc

pub own_cases : (k : Kind) → is_own k ≡ true → (is_store k ≡ true) ⊎ ((is_load k ≡ true) ⊎ (is_poll k ≡ true))
own_cases Load own = inr (inl refl)
own_cases Store own = inl refl
own_cases Poll own = inr (inr refl)
own_cases BufferRead own = inr (inl refl)
own_cases BufferWrite own = inl refl
own_cases Get own = absurd (cc)
own_cases Put own = absurd (cc)
own_cases (Accumulate o) own = absurd (cc)

by_no_op : (b : Bool) (o : Operation) → is_no_op o ≡ b → (has_no_op (Accumulate o) ≡ true) ⊎ (is_update (Accumulate o) ≡ true)
by_no_op true o is = inl is
by_no_op false o is = inr (rw is refl)

pub target_cases : (k : Kind) → is_target k ≡ true → (is_update k ≡ true) ⊎ ((is_get k ≡ true) ⊎ (has_no_op k ≡ true))
target_cases Load target = absurd (cc)
target_cases Store target = absurd (cc)
target_cases Poll target = absurd (cc)
target_cases BufferRead target = absurd (cc)
target_cases BufferWrite target = absurd (cc)
target_cases Get target = inr (inl refl)
target_cases Put target = inl refl
target_cases (Accumulate o) target = ⊎_elim (λ none. inr (inr none)) (λ some. inl some) (by_no_op (is_no_op o) o refl)

pub update_cases : (k : Kind) → is_update k ≡ true → (is_put k ≡ true) ⊎ (is_accumulate k ≡ true)
update_cases Load update = absurd (cc)
update_cases Store update = absurd (cc)
update_cases Poll update = absurd (cc)
update_cases BufferRead update = absurd (cc)
update_cases BufferWrite update = absurd (cc)
update_cases Get update = absurd (cc)
update_cases Put update = inl refl
update_cases (Accumulate o) update = inr refl

pub load_not_poll : (k : Kind) → is_load k ≡ true → is_poll k ≡ true → ⊥
load_not_poll Poll load poll = cc
load_not_poll Load load poll = cc
load_not_poll BufferRead load poll = cc
load_not_poll Store load poll = cc
load_not_poll BufferWrite load poll = cc
load_not_poll Get load poll = cc
load_not_poll Put load poll = cc
load_not_poll (Accumulate o) load poll = cc

pub get_not_accumulate : (k : Kind) → is_get k ≡ true → is_accumulate k ≡ true → ⊥
get_not_accumulate Get get accumulate = cc
get_not_accumulate Load get accumulate = cc
get_not_accumulate Store get accumulate = cc
get_not_accumulate Poll get accumulate = cc
get_not_accumulate BufferRead get accumulate = cc
get_not_accumulate BufferWrite get accumulate = cc
get_not_accumulate Put get accumulate = cc
get_not_accumulate (Accumulate o) get accumulate = cc

pub put_not_accumulate : (k : Kind) → is_put k ≡ true → is_accumulate k ≡ true → ⊥
put_not_accumulate Put put accumulate = cc
put_not_accumulate Load put accumulate = cc
put_not_accumulate Store put accumulate = cc
put_not_accumulate Poll put accumulate = cc
put_not_accumulate BufferRead put accumulate = cc
put_not_accumulate BufferWrite put accumulate = cc
put_not_accumulate Get put accumulate = cc
put_not_accumulate (Accumulate o) put accumulate = cc

pub no_op_accumulates : (k : Kind) → has_no_op k ≡ true → is_accumulate k ≡ true
no_op_accumulates (Accumulate o) none = refl
no_op_accumulates Load none = absurd (cc)
no_op_accumulates Store none = absurd (cc)
no_op_accumulates Poll none = absurd (cc)
no_op_accumulates BufferRead none = absurd (cc)
no_op_accumulates BufferWrite none = absurd (cc)
no_op_accumulates Get none = absurd (cc)
no_op_accumulates Put none = absurd (cc)

pub not_true : (b : Bool) → (b ≡ true → ⊥) → b ≡ false
not_true true never = absurd (never refl)
not_true false never = refl

-- ---- windows

same_number : (m n : ℕ) → (m ≡ n) ⊎ (¬ (m ≡ n))
same_number m n = by (cases_lt m n) (cases_lt n m)
  where
    by : (m < n) ⊎ (n ≤ m) → (n < m) ⊎ (m ≤ n) → (m ≡ n) ⊎ (¬ (m ≡ n))
    by (inl less) more = inr (λ same. omega (arith, same))
    by (inr least) (inl more) = inr (λ same. omega (arith, same))
    by (inr least) (inr most) = inl (omega arith)

same_window : (a b : Option WindowId) → (a ≡ b) ⊎ (¬ (a ≡ b))
same_window None None = inl refl
same_window None (Some w) = inr (λ same. cc)
same_window (Some v) None = inr (λ same. cc)
same_window (Some v) (Some w) =
    ⊎_elim (λ same. inl (ap (λ n. let id : WindowId = record { 0 = n } in Some id) same)) (λ differ. inr (λ same. differ (ap (λ (id : WindowId). id.0) (same_some v w same)))) (same_number v.0 w.0)

-- ---- a caller's own access and one of a target

-- the two may not touch the same byte
abbrev pub MayNotShare : List Window → Access → Access → Type 0
MayNotShare windows a b = (is_store a.kind ≡ true) ⊎ ((is_update b.kind ≡ true) × ((¬ (is_poll a.kind ≡ true)) ⊎ IsSeparateAt windows b))

module _ (windows : List Window) (a b : Access) where
  -- what each rule says
  pub tell_with : (r : Rule) → ConflictsWithTarget windows a b r
      → ((r ≡ Overlap) × MayNotShare windows a b × ShareByte a.runs b.runs)
      ⊎ ((r ≡ StoreInWindow) × (is_store a.kind ≡ true) × (is_update b.kind ≡ true) × IsSeparateAt windows b × (¬ ShareByte a.runs b.runs) × MeetsPart windows a b.window)
  unfolding ConflictsWithTarget
  tell_with Overlap (inl row) = inl (refl, inr (row.1, inl (λ poll. load_not_poll a.kind row.0 poll)), row.2)
  tell_with Overlap (inr (inl row)) = inl (refl, inr (row.1, inr row.2), row.3)
  tell_with Overlap (inr (inr (inl row))) = inl (refl, inl row.0, row.2)
  tell_with Overlap (inr (inr (inr row))) = inl (refl, inl row.0, row.2)
  tell_with StoreInWindow row = inr (refl, row.0, row.1, row.2, row.3, row.4)
  tell_with OtherWindow row = absurd row
  tell_with rule.Accumulate row = absurd row
  tell_with Buffer row = absurd row

  pub unique_with : (r s : Rule) → ConflictsWithTarget windows a b r → ConflictsWithTarget windows a b s → r ≡ s
  unique_with r s one two = by (tell_with r one) (tell_with s two)
    where
      by : ((r ≡ Overlap) × MayNotShare windows a b × ShareByte a.runs b.runs)
          ⊎ ((r ≡ StoreInWindow) × (is_store a.kind ≡ true) × (is_update b.kind ≡ true) × IsSeparateAt windows b × (¬ ShareByte a.runs b.runs) × MeetsPart windows a b.window)
          → ((s ≡ Overlap) × MayNotShare windows a b × ShareByte a.runs b.runs)
          ⊎ ((s ≡ StoreInWindow) × (is_store a.kind ≡ true) × (is_update b.kind ≡ true) × IsSeparateAt windows b × (¬ ShareByte a.runs b.runs) × MeetsPart windows a b.window)
          → r ≡ s
      by (inl p) (inl q) = p.0 ∙ sym q.0
      by (inl p) (inr q) = absurd (q.4 p.2)
      by (inr p) (inl q) = absurd (p.4 q.2)
      by (inr p) (inr q) = p.0 ∙ sym q.0

  -- they overlap where they may not share a byte and do
  pub overlap_with : is_own a.kind ≡ true → is_target b.kind ≡ true → MayNotShare windows a b → ShareByte a.runs b.runs → ConflictsWithTarget windows a b Overlap
  unfolding ConflictsWithTarget
  overlap_with own target (inl store) share =
      ⊎_elim (λ update. inr (inr (inr (store, update, share)))) (λ reads. inr (inr (inl (store, reads, share)))) (target_cases b.kind target)
  overlap_with own target (inr (update, inl no_poll)) share =
      ⊎_elim (λ store. inr (inr (inr (store, update, share)))) (⊎_elim (λ load. inl (load, update, share)) (λ poll. absurd (no_poll poll))) (own_cases a.kind own)
  overlap_with own target (inr (update, inr separate)) share =
      ⊎_elim (λ store. inr (inr (inr (store, update, share)))) (⊎_elim (λ load. inl (load, update, share)) (λ poll. inr (inl (poll, update, separate, share)))) (own_cases a.kind own)

  pub beside_with : is_store a.kind ≡ true → is_update b.kind ≡ true → IsSeparateAt windows b → (ShareByte a.runs b.runs → ⊥) → MeetsPart windows a b.window → ConflictsWithTarget windows a b StoreInWindow
  unfolding ConflictsWithTarget
  beside_with store update separate apart meets = (store, update, separate, apart, meets)

-- ---- two accesses of a target

-- both are accumulates through one window
abbrev pub AreOnOne : Access → Access → Type 0
AreOnOne a b = (is_accumulate a.kind ≡ true) × (is_accumulate b.kind ≡ true) × AreThroughOne a b

-- what the rule of two accumulates through one window says, and those of others
abbrev pub Told : List Window → Access → Access → Rule → Type 0
Told windows a b r =
    ((r ≡ Overlap) × (¬ AreOnOne a b) × ((is_update a.kind ≡ true) ⊎ (is_update b.kind ≡ true)) × ShareByte a.runs b.runs)
    ⊎ (((r ≡ OtherWindow) × (¬ AreOnOne a b) × ((is_update a.kind ≡ true) ⊎ (is_update b.kind ≡ true)) × (¬ ShareByte a.runs b.runs) × UpdateBesideUpdate windows a b)
    ⊎ ((r ≡ rule.Accumulate) × AccumulatesDisagree windows a b))

get_apart : (a b : Access) → CountsAsGet a b → AreOnOne a b → ⊥
get_apart a b (inl get) both = get_not_accumulate a.kind get both.0
get_apart a b (inr (none, inl other)) both = let is = both.1 in cc
get_apart a b (inr (none, inr two)) both = two both.2

on_one_turned : (a b : Access) → AreOnOne a b → AreOnOne b a
on_one_turned a b both = (both.1, both.0, sym both.2)

counts : (a b : Access) → (AreOnOne a b → ⊥) → (is_get a.kind ≡ true) ⊎ (has_no_op a.kind ≡ true) → is_update b.kind ≡ true → CountsAsGet a b
counts a b apart (inl get) update = inl get
counts a b apart (inr none) update =
    ⊎_elim (λ put. inr (none, inl (not_true (is_accumulate b.kind) (λ accumulate. put_not_accumulate b.kind put accumulate))))
    (λ accumulate. inr (none, inr (λ one. apart (no_op_accumulates a.kind none, accumulate, one)))) (update_cases b.kind update)

module _ (windows : List Window) (a b : Access) where
  pub tell_at : (r : Rule) → ConflictAtTarget windows a b r → Told windows a b r
  unfolding ConflictAtTarget
  tell_at Overlap (inl row) = inl (refl, get_apart a b row.0, inr row.1, row.2)
  tell_at Overlap (inr (inl row)) = inl (refl, (λ both. get_apart b a row.0 (on_one_turned a b both)), inl row.1, share_turned b.runs a.runs row.2)
  tell_at Overlap (inr (inr (inl row))) = inl (refl, (λ both. put_not_accumulate a.kind row.0 both.0), inr row.1, row.3)
  tell_at Overlap (inr (inr (inr (inl row)))) = inl (refl, (λ both. put_not_accumulate b.kind row.0 both.1), inl row.1, share_turned b.runs a.runs row.3)
  tell_at Overlap (inr (inr (inr (inr row)))) = inl (refl, (λ both. row.0.2 both.2), inl row.0.0, row.1)
  tell_at StoreInWindow row = absurd row
  tell_at OtherWindow row = inr (inl (refl, (λ both. row.0.2 both.2), inl row.0.0, row.2, row))
  tell_at rule.Accumulate row = inr (inr (refl, row))
  tell_at Buffer row = absurd row

  pub unique_at : (r s : Rule) → ConflictAtTarget windows a b r → ConflictAtTarget windows a b s → r ≡ s
  unique_at r s one two = by (tell_at r one) (tell_at s two)
    where
      by : Told windows a b r → Told windows a b s → r ≡ s
      by (inl p) (inl q) = p.0 ∙ sym q.0
      by (inl p) (inr (inl q)) = absurd (q.3 p.3)
      by (inl p) (inr (inr q)) = absurd (p.1 (q.1.0, q.1.1, q.1.3))
      by (inr (inl p)) (inl q) = absurd (p.3 q.3)
      by (inr (inl p)) (inr (inl q)) = p.0 ∙ sym q.0
      by (inr (inl p)) (inr (inr q)) = absurd (p.1 (q.1.0, q.1.1, q.1.3))
      by (inr (inr p)) (inl q) = absurd (q.1 (p.1.0, p.1.1, p.1.3))
      by (inr (inr p)) (inr (inl q)) = absurd (q.1 (p.1.0, p.1.1, p.1.3))
      by (inr (inr p)) (inr (inr q)) = p.0 ∙ sym q.0

  -- two updates that share a byte
  both_update : (AreOnOne a b → ⊥) → is_update a.kind ≡ true → is_update b.kind ≡ true → ShareByte a.runs b.runs → (AreThroughOne a b) ⊎ (¬ AreThroughOne a b) → ConflictAtTarget windows a b Overlap
  unfolding ConflictAtTarget
  both_update apart one two share (inl same) =
      ⊎_elim (λ put. inr (inr (inl (put, two, same, share))))
      (λ first. ⊎_elim (λ put. inr (inr (inr (inl (put, one, sym same, share_turned a.runs b.runs share))))) (λ second. absurd (apart (first, second, same))) (update_cases b.kind two))
      (update_cases a.kind one)
  both_update apart one two share (inr differ) = inr (inr (inr (inr ((one, two, differ), share))))

  -- an access and one that writes overlap where they share a byte
  pub overlap_at : is_target a.kind ≡ true → is_target b.kind ≡ true → (AreOnOne a b → ⊥) → (is_update a.kind ≡ true) ⊎ (is_update b.kind ≡ true) → ShareByte a.runs b.runs → ConflictAtTarget windows a b Overlap
  unfolding ConflictAtTarget
  overlap_at first second apart (inl update) share =
      ⊎_elim (λ other. both_update apart update other share (same_window a.window b.window))
      (λ reads. inr (inl (counts b a (λ both. apart (on_one_turned b a both)) reads update, update, share_turned a.runs b.runs share))) (target_cases b.kind second)
  overlap_at first second apart (inr update) share =
      ⊎_elim (λ other. both_update apart other update share (same_window a.window b.window)) (λ reads. inl (counts a b apart reads update, update, share)) (target_cases a.kind first)

  pub beside_at : UpdateBesideUpdate windows a b → ConflictAtTarget windows a b OtherWindow
  unfolding ConflictAtTarget
  beside_at row = row

  pub disagree_at : AccumulatesDisagree windows a b → ConflictAtTarget windows a b rule.Accumulate
  unfolding ConflictAtTarget
  disagree_at row = row

-- ---- two of the caller's own

module _ (a b : Access) where
  pub tell_caller : (r : Rule) → ConflictAtCaller a b r → (r ≡ Buffer) × BufferInUse a b
  unfolding ConflictAtCaller
  tell_caller Overlap row = absurd row
  tell_caller StoreInWindow row = absurd row
  tell_caller OtherWindow row = absurd row
  tell_caller rule.Accumulate row = absurd row
  tell_caller Buffer row = (refl, row)

  pub buffer_in_use : BufferInUse a b → ConflictAtCaller a b Buffer
  unfolding ConflictAtCaller
  buffer_in_use row = row

  pub caller_turned : (r : Rule) → ConflictAtCaller a b r → ConflictAtCaller b a r
  unfolding ConflictAtCaller
  caller_turned Overlap row = row
  caller_turned StoreInWindow row = row
  caller_turned OtherWindow row = row
  caller_turned rule.Accumulate row = row
  caller_turned Buffer row = (⊎_elim inr inl row.0, (λ local. row.1 (local.1, local.0)), share_turned a.runs b.runs row.2)

-- ---- rows of targets, turned

apart_turned : (a b : Access) → AreUpdatesApart a b → AreUpdatesApart b a
apart_turned a b row = (row.1, row.0, λ one. row.2 (sym one))

allows_turned : (windows : List Window) (a b : Access) → AreThroughOne a b → AllowsNoOp windows a → AllowsNoOp windows b
unfolding AllowsNoOp
allows_turned windows a b one all = (all.0, all.1, sym one ∙ all.2, all.3, all.4)

meet_turned : (windows : List Window) (a b : Access) (o p : Operation) → AreThroughOne a b → MayMeet windows a o p → MayMeet windows b p o
meet_turned windows a b o p one (inl same) = inl (sym same)
meet_turned windows a b o p one (inr (inl swap)) = inr (inr (inl swap))
meet_turned windows a b o p one (inr (inr (inl swap))) = inr (inl swap)
meet_turned windows a b o p one (inr (inr (inr here))) = inr (inr (inr (allows_turned windows a b one here.0, ⊎_elim inr inl here.1)))

agree_turned : (windows : List Window) (a b : Access) → AreThroughOne a b → OperationsAgree windows a b → OperationsAgree windows b a
unfolding OperationsAgree
agree_turned windows a b one agree = (agree.1, agree.0, agree.3, agree.2, meet_turned windows a b agree.0 agree.1 one agree.4)

elements_turned : (a b : Access) (byte : ℤ) → ElementsAgree a b byte → ElementsAgree b a byte
elements_turned a b byte agree = (agree.0, agree.1, agree.3, agree.2, agree.5, agree.4)

disagree_turned : (windows : List Window) (a b : Access) → AreThroughOne a b → Disagree windows a b → Disagree windows b a
unfolding Disagree
disagree_turned windows a b one all = (all.0, all.2, all.1, λ both. all.3 (elements_turned b a all.0 both.0, agree_turned windows b a (sym one) both.1))

pub at_target_turned : (windows : List Window) (a b : Access) (r : Rule) → ConflictAtTarget windows a b r → ConflictAtTarget windows b a r
unfolding ConflictAtTarget
at_target_turned windows a b Overlap (inl row) = inr (inl row)
at_target_turned windows a b Overlap (inr (inl row)) = inl row
at_target_turned windows a b Overlap (inr (inr (inl row))) = inr (inr (inr (inl row)))
at_target_turned windows a b Overlap (inr (inr (inr (inl row)))) = inr (inr (inl row))
at_target_turned windows a b Overlap (inr (inr (inr (inr row)))) = inr (inr (inr (inr (apart_turned a b row.0, share_turned a.runs b.runs row.1))))
at_target_turned windows a b StoreInWindow row = row
at_target_turned windows a b OtherWindow row = (apart_turned a b row.0, ⊎_elim inr inl row.1, (λ share. row.2 (share_turned b.runs a.runs share)), ⊎_elim inr inl row.3)
at_target_turned windows a b rule.Accumulate row = (row.1, row.0, (λ none. row.2 (none.1, none.0)), sym row.3, disagree_turned windows a b row.3 row.4)
at_target_turned windows a b Buffer row = row

pub separated_turned : (a b : Access) → Separated a b → Separated b a
unfolding Separated
separated_turned a b all = (
  all.1,
  all.0,
  all.3,
  all.2,
  (sym all.4.0, sym all.4.1, ⊎_elim (λ ranks. inl (λ same. ranks (sym same))) (λ calls. inr (λ same. calls (sym same))) all.4.2, ⊎_elim inr inl all.4.3),
)
