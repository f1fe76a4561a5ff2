-- The sources of returns.
use Rattle.std.proofs.Common.{◌≡◌, ℕ, zero, suc, ◌+◌, ◌*◌, ◌/◌, ◌<◌, ◌≤◌, ◌⊎◌, inl, inr, List, [], ◌∷◌, ◌++◌, length, get_or, drop, take, set, map, replicate, Option, is_some, false, IfNone, Some, None, refl, sym, ap, subst, ◌∙◌, arith, ⊎_elim}
use Rattle.std.specs.Prelude.{All, Contains, slice_get, slice_index, slice_index_or}
use Rattle.std.proofs.lemmas.Bool.{cases_eq, cases_lt, false≢true}
use Rattle.std.proofs.lemmas.List.{get_or-set_same, get_or-set_other, length-set, get_or_past, get_or_read, take_more, length-map, length-replicate}
use Rattle.std.proofs.lemmas.List.Elements.{Contains-push, Contains-push_cases, Contains-append_left}
use Rattle.rma_base.specs.declared.point.Point.{Point}
use Rattle.rma_link.specs.declared.edge.Edge.{Edge}
use Rattle.rma_link.specs.declared.meet.Member.{Member}
use Rattle.rma_link.specs.declared.meet.Meet as meet
use Rattle.rma_link.specs.declared.links.Links.{Links}
use Rattle.rma_link.specs.Point.{return_of, IsReturn}
use Rattle.rma_link.specs.Within.{IsMemberWithin, AreWithin}
use Rattle.rma_walk.specs.declared.source.Source.{Source}
use Rattle.rma_walk.specs.declared.source.Source.TheVariants.{Entry, Meet}
use Rattle.rma_walk.specs.declared.pending.Pending.{Pending}
use Rattle.rma_walk.specs.Source.{IsSourceOf, AreSources, IsEdgeSource, IsMemberSource, IsMeetSource, sources_of}
use Rattle.rma_walk.specs.inside.Pending.{no_meet, IsSourcePassed, AreAdded, IsReduced, IsInbox, IsKnown, IsPending}
use Rattle.rma_walk.proofs.ListLemmas.{replicate_at, contains_cons, contains_cons_cases, contains_none, slice_get_front, slice_get_last, slice_get_push, first_is}

-- one more source of one call
abbrev pub added_source : List (List (List Source)) → ℕ → ℕ → Source → List (List (List Source))
added_source old rank call source = set old rank (set (slice_index_or old rank []) call (source ∷ sources_of (slice_index_or old rank []) call))

abbrev pub IsThis : ℕ → ℕ → Source → ℕ → ℕ → Source → Type 0
IsThis rank call source r c s = (r ≡ rank) × (c ≡ call) × (source ≡ s)

module _ (old : List (List (List Source))) (rank call : ℕ) (source : Source) (in_ranks : rank < length old) (in_calls : call < length (slice_index_or old rank [])) where
  own_inbox : slice_index_or (added_source old rank call source) rank [] ≡ set (slice_index_or old rank []) call (source ∷ sources_of (slice_index_or old rank []) call)
  own_inbox = get_or-set_same old rank _ [] in_ranks

  other_inbox : (r : ℕ) → (r ≡ rank → ⊥) → slice_index_or (added_source old rank call source) r [] ≡ slice_index_or old r []
  other_inbox r differs = get_or-set_other old rank r _ [] differs

  sources_after : (r c : ℕ) → ((r ≡ rank) × (c ≡ call) × (sources_of (slice_index_or (added_source old rank call source) r []) c ≡ source ∷ sources_of (slice_index_or old r []) c))
      ⊎ (sources_of (slice_index_or (added_source old rank call source) r []) c ≡ sources_of (slice_index_or old r []) c)
  sources_after r c =
      ⊎_elim
      (λ (same : r ≡ rank). ⊎_elim
      (λ (here : c ≡ call).
      let whole : sources_of (slice_index_or (added_source old rank call source) rank []) call ≡ source ∷ sources_of (slice_index_or old rank []) call =
      ap (λ inbox. sources_of inbox call) own_inbox ∙ get_or-set_same (slice_index_or old rank []) call _ [] in_calls in
      let P : ℕ → ℕ → Type 0 = λ r c. sources_of (slice_index_or (added_source old rank call source) r []) c ≡ source ∷ sources_of (slice_index_or old r []) c in
      inl (same, here, subst (λ r. P r c) (sym same) (subst (P rank) (sym here) whole)))
      (λ (there : c ≡ call → ⊥).
      let P : ℕ → Type 0 = λ r. sources_of (slice_index_or (added_source old rank call source) r []) c ≡ sources_of (slice_index_or old r []) c in
      inr (subst P (sym same) (ap (λ inbox. sources_of inbox c) own_inbox ∙ get_or-set_other (slice_index_or old rank []) call c _ [] there)))
      (cases_eq c call))
      (λ (differs : r ≡ rank → ⊥). inr (ap (λ inbox. sources_of inbox c) (other_inbox r differs)))
      (cases_eq r rank)

  length_after : (r : ℕ) → length (slice_index_or (added_source old rank call source) r []) ≡ length (slice_index_or old r [])
  length_after r =
      ⊎_elim
      (λ (same : r ≡ rank).
      let P : ℕ → Type 0 = λ r. length (slice_index_or (added_source old rank call source) r []) ≡ length (slice_index_or old r []) in
      subst P (sym same) (ap length own_inbox ∙ length-set (slice_index_or old rank []) call _))
      (λ (differs : r ≡ rank → ⊥). ap length (other_inbox r differs))
      (cases_eq r rank)

  added_is : (s : Source) → Contains (sources_of (slice_index_or (added_source old rank call source) rank []) call) source
  added_is s =
      let whole : sources_of (slice_index_or (added_source old rank call source) rank []) call ≡ source ∷ sources_of (slice_index_or old rank []) call =
      ap (λ inbox. sources_of inbox call) own_inbox ∙ get_or-set_same (slice_index_or old rank []) call _ [] in_calls in
      subst (λ xs. Contains xs source) (sym whole) (0, omega arith, refl)

  pub added_one : AreAdded (IsThis rank call source) old (added_source old rank call source)
  added_one = record {
    size = length-set old rank _;
    sizes = length_after;
    kept = λ r c s has. ⊎_elim
        (λ (one : (r ≡ rank) × (c ≡ call) × (sources_of (slice_index_or (added_source old rank call source) r []) c ≡ source ∷ sources_of (slice_index_or old r []) c)).
        subst (λ xs. Contains xs s) (sym one.2) (contains_cons source (sources_of (slice_index_or old r []) c) s has))
        (λ same. subst (λ xs. Contains xs s) (sym same) has)
        (sources_after r c);
    added = λ r c s (this : IsThis rank call source r c s).
        let P : ℕ → ℕ → Source → Type 0 = λ r c s. Contains (sources_of (slice_index_or (added_source old rank call source) r []) c) s in
        subst (λ r. P r c s) (sym this.0) (subst (λ c. P rank c s) (sym this.1) (subst (P rank call) this.2 (added_is s)));
    only = λ r c s has. ⊎_elim
        (λ (one : (r ≡ rank) × (c ≡ call) × (sources_of (slice_index_or (added_source old rank call source) r []) c ≡ source ∷ sources_of (slice_index_or old r []) c)).
        ⊎_elim
        (λ (this : source ≡ s). inr (one.0, one.1, this))
        (λ before. inl before)
        (contains_cons_cases source (sources_of (slice_index_or old r []) c) s (subst (λ xs. Contains xs s) one.2 has)))
        (λ same. inl (subst (λ xs. Contains xs s) same has))
        (sources_after r c);
  }

pub added_none : (Q : ℕ → ℕ → Source → Type 0) (old : List (List (List Source))) → ((r c : ℕ) (s : Source) → Q r c s → ⊥) → AreAdded Q old old
added_none Q old none = record {
  size = refl;
  sizes = λ r. refl;
  kept = λ r c s has. has;
  added = λ r c s new. absurd (none r c s new);
  only = λ r c s has. inl has;
}

pub added_then : (Q R S : ℕ → ℕ → Source → Type 0) (a b c : List (List (List Source))) → AreAdded Q a b → AreAdded R b c
    → ((r n : ℕ) (s : Source) → S r n s → Q r n s ⊎ R r n s) → ((r n : ℕ) (s : Source) → Q r n s ⊎ R r n s → S r n s) → AreAdded S a c
added_then Q R S a b c one two from to = record {
  size = two.size ∙ one.size;
  sizes = λ r. two.sizes r ∙ one.sizes r;
  kept = λ r n s has. two.kept r n s (one.kept r n s has);
  added = λ r n s new. ⊎_elim (λ early. two.kept r n s (one.added r n s early)) (λ late. two.added r n s late) (from r n s new);
  only = λ r n s has. ⊎_elim (λ before. ⊎_elim (λ older. inl older) (λ early. inr (to r n s (inl early))) (one.only r n s before)) (λ late. inr (to r n s (inr late))) (two.only r n s has);
}

-- one more edge
edge_from : (lens : List ℕ) (edges : List Edge) (edge : Edge) → (r n : ℕ) (s : Source) → IsEdgeSource (edges ++ edge ∷ []) r n s
    → IsEdgeSource edges r n s ⊎ IsThis edge.to.rank.0 (edge.to.pos / 2) (Entry edge.from) r n s
edge_from lens edges edge r n s (from, is, has) =
    ⊎_elim
    (λ old. inl (from, is, old))
    (λ (same : ◌≡◌ {A = Edge} edge (record { from = from; to = return_of (record { 0 = r }) n })).
    let rank : r ≡ edge.to.rank.0 = sym (ap (λ e. e.to.rank.0) same) in
    let pos : edge.to.pos ≡ 2 * n + 1 = ap (λ e. e.to.pos) same in
    inr (rank, omega arith, ap (λ e. Entry e.from) same ∙ sym is))
    (Contains-push_cases edges edge _ has)

edge_to : (lens : List ℕ) (edges : List Edge) (edge : Edge) → IsReturn lens edge.to → (r n : ℕ) (s : Source)
    → IsEdgeSource edges r n s ⊎ IsThis edge.to.rank.0 (edge.to.pos / 2) (Entry edge.from) r n s → IsEdgeSource (edges ++ edge ∷ []) r n s
edge_to lens edges edge (call, lt, pos) r n s either =
    ⊎_elim
    (λ (old : IsEdgeSource edges r n s). (old.0, old.1, Contains-append_left edges (edge ∷ []) _ old.2))
    (λ (this : IsThis edge.to.rank.0 (edge.to.pos / 2) (Entry edge.from) r n s).
    let number : n ≡ edge.to.pos / 2 = this.1 in
    let place : edge.to.pos ≡ 2 * n + 1 = omega arith in
    let P : ℕ → ℕ → Edge = λ r k. record { from = edge.from; to = record { rank = record { 0 = r }; pos = k } } in
    let same : edge ≡ record { from = edge.from; to = return_of (record { 0 = r }) n } = ap (λ r. P r edge.to.pos) (sym this.0) ∙ ap (P r) place in
    (edge.from, sym this.2, subst (Contains (edges ++ edge ∷ [])) same (Contains-push edges edge)))
    either

pub added_edge : (lens : List ℕ) (edges : List Edge) (edge : Edge) (old mid : List (List (List Source))) → IsReturn lens edge.to → AreAdded (IsEdgeSource edges) old mid
    → edge.to.rank.0 < length mid → edge.to.pos / 2 < length (slice_index_or mid edge.to.rank.0 [])
    → AreAdded (IsEdgeSource (edges ++ edge ∷ [])) old (added_source mid edge.to.rank.0 (edge.to.pos / 2) (Entry edge.from))
added_edge lens edges edge old mid ok one in_ranks in_calls =
    added_then (IsEdgeSource edges) (IsThis edge.to.rank.0 (edge.to.pos / 2) (Entry edge.from)) (IsEdgeSource (edges ++ edge ∷ [])) old mid _ one
    (added_one mid edge.to.rank.0 (edge.to.pos / 2) (Entry edge.from) in_ranks in_calls)
    (edge_from lens edges edge)
    (edge_to lens edges edge ok)

-- one more member
member_from : (index : ℕ) (members : List Member) (m : Member) → (r n : ℕ) (s : Source) → IsMemberSource index (members ++ m ∷ []) r n s
    → IsMemberSource index members r n s ⊎ IsThis m.rank.0 m.call (Meet index) r n s
member_from index members m r n s (is, has) =
    ⊎_elim
    (λ old. inl (is, old))
    (λ (same : ◌≡◌ {A = Member} m (record { rank = record { 0 = r }; call = n })). inr (sym (ap (λ t. t.rank.0) same), sym (ap (λ t. t.call) same), sym is))
    (Contains-push_cases members m _ has)

member_to : (index : ℕ) (members : List Member) (m : Member) → (r n : ℕ) (s : Source)
    → IsMemberSource index members r n s ⊎ IsThis m.rank.0 m.call (Meet index) r n s → IsMemberSource index (members ++ m ∷ []) r n s
member_to index members m r n s either =
    ⊎_elim
    (λ (old : IsMemberSource index members r n s). (old.0, Contains-append_left members (m ∷ []) _ old.1))
    (λ (this : IsThis m.rank.0 m.call (Meet index) r n s).
    let P : ℕ → ℕ → Member = λ r n. record { rank = record { 0 = r }; call = n } in
    let same : m ≡ P r n = ap (λ r. P r m.call) (sym this.0) ∙ ap (P r) (sym this.1) in
    (sym this.2, subst (Contains (members ++ m ∷ [])) same (Contains-push members m)))
    either

pub added_member : (index : ℕ) (members : List Member) (m : Member) (old mid : List (List (List Source))) → AreAdded (IsMemberSource index members) old mid
    → m.rank.0 < length mid → m.call < length (slice_index_or mid m.rank.0 [])
    → AreAdded (IsMemberSource index (members ++ m ∷ [])) old (added_source mid m.rank.0 m.call (Meet index))
added_member index members m old mid one in_ranks in_calls =
    added_then (IsMemberSource index members) (IsThis m.rank.0 m.call (Meet index)) (IsMemberSource index (members ++ m ∷ [])) old mid _ one
    (added_one mid m.rank.0 m.call (Meet index) in_ranks in_calls)
    (member_from index members m)
    (member_to index members m)

-- one more meet
meet_from : (meets : List meet.Meet) (m : meet.Meet) → (r n : ℕ) (s : Source) → IsMeetSource (meets ++ m ∷ []) r n s
    → IsMeetSource meets r n s ⊎ IsMemberSource (length meets) m.calls r n s
meet_from meets m r n s (index, own, at, has) =
    ⊎_elim
    (λ old. inl (index, own, old, has))
    (λ (new : (index ≡ length meets) × (m ≡ own)).
    inr (subst (λ k. IsMemberSource k m.calls r n s) new.0 (subst (λ t. IsMemberSource index t.calls r n s) (sym new.1) has)))
    (slice_get_push meets m index own at)

meet_to : (meets : List meet.Meet) (m : meet.Meet) → (r n : ℕ) (s : Source)
    → IsMeetSource meets r n s ⊎ IsMemberSource (length meets) m.calls r n s → IsMeetSource (meets ++ m ∷ []) r n s
meet_to meets m r n s either =
    ⊎_elim
    (λ (old : IsMeetSource meets r n s). (old.0, old.1, slice_get_front meets (m ∷ []) old.0 old.1 old.2, old.3))
    (λ (new : IsMemberSource (length meets) m.calls r n s). (length meets, m, slice_get_last meets m, new))
    either

pub added_meet : (meets : List meet.Meet) (m : meet.Meet) (old mid new : List (List (List Source))) → AreAdded (IsMeetSource meets) old mid
    → AreAdded (IsMemberSource (length meets) m.calls) mid new → AreAdded (IsMeetSource (meets ++ m ∷ [])) old new
added_meet meets m old mid new one two =
    added_then (IsMeetSource meets) (IsMemberSource (length meets) m.calls) (IsMeetSource (meets ++ m ∷ [])) old mid new one two (meet_from meets m) (meet_to meets m)

-- a passed source goes
pub reduced_none : (links : Links) (next : List ℕ) (inbox : List (List Source)) → IsReduced links next inbox inbox
reduced_none links next inbox = record { size = refl; left = λ c s has. has; gone = λ c s has. inr has }

module _ (links : Links) (next : List ℕ) (old inbox : List (List Source)) (call : ℕ) (source : Source) (so_far : IsReduced links next old inbox)
    (in_calls : call < length inbox) (is_first : slice_get (sources_of inbox call) 0 ≡ Some source) (passed : IsSourcePassed links next source) where
  after_drop : List (List Source)
  after_drop = set inbox call (drop 1 (sources_of inbox call))

  drop_left : (c : ℕ) (s : Source) → Contains (sources_of (set inbox call (drop 1 (sources_of inbox call))) c) s → Contains (sources_of inbox c) s
  drop_left c s has =
      let parts = first_is (sources_of inbox call) source is_first in
      ⊎_elim
      (λ (here : c ≡ call).
      let now : sources_of (set inbox call (drop 1 (sources_of inbox call))) call ≡ parts.0 =
      get_or-set_same inbox call (drop 1 (sources_of inbox call)) [] in_calls ∙ ap (drop 1) parts.1 in
      let at : Contains (sources_of (set inbox call (drop 1 (sources_of inbox call))) call) s =
      subst (λ c. Contains (sources_of (set inbox call (drop 1 (sources_of inbox call))) c) s) here has in
      let rest : Contains parts.0 s = subst (λ xs. Contains xs s) now at in
      subst (λ c. Contains (sources_of inbox c) s) (sym here) (subst (λ xs. Contains xs s) (sym parts.1) (contains_cons source parts.0 s rest)))
      (λ (there : c ≡ call → ⊥). subst (λ xs. Contains xs s) (get_or-set_other inbox call c _ [] there) has)
      (cases_eq c call)

  drop_gone : (c : ℕ) (s : Source) → Contains (sources_of inbox c) s → IsSourcePassed links next s ⊎ Contains (sources_of (set inbox call (drop 1 (sources_of inbox call))) c) s
  drop_gone c s has =
      let parts = first_is (sources_of inbox call) source is_first in
      ⊎_elim
      (λ (here : c ≡ call).
      let now : sources_of (set inbox call (drop 1 (sources_of inbox call))) call ≡ parts.0 =
      get_or-set_same inbox call (drop 1 (sources_of inbox call)) [] in_calls ∙ ap (drop 1) parts.1 in
      let at : Contains (source ∷ parts.0) s = subst (λ xs. Contains xs s) parts.1 (subst (λ c. Contains (sources_of inbox c) s) here has) in
      ⊎_elim
      (λ (this : source ≡ s). inl (subst (IsSourcePassed links next) this passed))
      (λ (rest : Contains parts.0 s).
      inr (subst (λ c. Contains (sources_of (set inbox call (drop 1 (sources_of inbox call))) c) s) (sym here) (subst (λ xs. Contains xs s) (sym now) rest)))
      (contains_cons_cases source parts.0 s at))
      (λ (there : c ≡ call → ⊥). inr (subst (λ xs. Contains xs s) (sym (get_or-set_other inbox call c _ [] there)) has))
      (cases_eq c call)

  pub reduced_drop : IsReduced links next old (set inbox call (drop 1 (sources_of inbox call)))
  reduced_drop = record {
    size = length-set inbox call _ ∙ so_far.size;
    left = λ c s has. so_far.left c s (drop_left c s has);
    gone = λ c s has. ⊎_elim (λ done. inl done) (λ still. drop_gone c s still) (so_far.gone c s has);
  }

-- a number below that of a rank is of a rank that is there
pub in_ranks : (lens : List ℕ) (rank n : ℕ) → n < slice_index lens rank → rank < length lens
in_ranks lens rank n lt =
    ⊎_elim
    (λ (there : rank < length lens). there)
    (λ (past : length lens ≤ rank). let none : get_or lens rank 0 ≡ 0 = get_or_past lens rank 0 past in absurd (omega arith))
    (cases_lt rank (length lens))

abbrev pub no_edge : Edge
no_edge = record { from = record { rank = record { 0 = 0 }; pos = 0 }; to = record { rank = record { 0 = 0 }; pos = 0 } }

abbrev pub no_member : Member
no_member = record { rank = record { 0 = 0 }; call = 0 }

-- each member of a meet of the run is a call of it
pub member_within : (lens : List ℕ) (links : Links) (index : ℕ) (m : meet.Meet) (members : List Member) → AreWithin lens links → index < length links.meets
    → m ≡ slice_index_or links.meets index m → members ≡ m.calls → (i : ℕ) → i < length members → IsMemberWithin lens (slice_index_or members i no_member)
member_within lens links index m members ok lt read calls i less =
    let whole : m ≡ slice_index_or links.meets index no_meet = get_or_read links.meets index m lt read no_meet in
    let same : members ≡ (slice_index_or links.meets index no_meet).calls = calls ∙ ap (λ t. t.calls) whole in
    subst (All (IsMemberWithin lens)) (sym same) (ok.meets index no_meet lt).0 i no_member less

pub none_then : {A : Type 0} (o : Option A) (P : Type 0) → IfNone o P → is_some o ≡ false → P
none_then None P holds none = holds
none_then (Some x) P holds none = absurd (false≢true (sym none))

pub taken : {X : Type 0} (xs : List X) (i : ℕ) (x : X) → i < length xs → x ≡ get_or xs i x → take (i + 1) xs ≡ take i xs ++ x ∷ []
taken xs i x lt is = take_more xs i x lt ∙ ap (λ y. take i xs ++ y ∷ []) (sym is)

none_in_replicate : (n c : ℕ) → sources_of (replicate n []) c ≡ []
none_in_replicate zero c = refl
none_in_replicate (suc n) zero = refl
none_in_replicate (suc n) (suc c) = none_in_replicate n c

pub at_start : (lens : List ℕ) (r : ℕ) → slice_index_or (map (λ len. replicate len []) lens) r [] ≡ replicate {A = List Source} (slice_index lens r) []
at_start [] r = refl
at_start (len ∷ lens) zero = refl
at_start (len ∷ lens) (suc r) = at_start lens r

abbrev entry_of : Source → Point
entry_of (Entry from) = from
entry_of (Meet index) = no_edge.from

abbrev index_of : Source → ℕ
index_of (Entry from) = 0
index_of (Meet index) = index

module _ (lens : List ℕ) (links : Links) (empty mid last : List (List (List Source)))
    (start : empty ≡ map (λ len. replicate len []) lens) (one : AreAdded (IsEdgeSource links.edges) empty mid) (two : AreAdded (IsMeetSource links.meets) mid last) where
  nothing_yet : (r c : ℕ) (s : Source) → Contains (sources_of (slice_index_or empty r []) c) s → ⊥
  nothing_yet r c s has =
      let inbox : slice_index_or empty r [] ≡ replicate (slice_index lens r) [] = ap (λ xs. slice_index_or xs r []) start ∙ at_start lens r in
      let none : sources_of (slice_index_or empty r []) c ≡ [] = ap (λ xs. sources_of xs c) inbox ∙ none_in_replicate (slice_index lens r) c in
      contains_none s (subst (λ xs. Contains xs s) none has)

  pub sources_added : AreSources lens links last
  sources_added = record {
    size = two.size ∙ one.size ∙ ap length start ∙ length-map lens (λ len. replicate {A = List Source} len []);
    sizes = λ r. two.sizes r ∙ one.sizes r ∙ ap length (ap (λ xs. slice_index_or xs r []) start ∙ at_start lens r) ∙ length-replicate (slice_index lens r) [];
    all = λ r c s new. ⊎_elim (λ edge. two.kept r c s (one.added r c s edge)) (λ met. two.added r c s met) new;
    only = λ r c s has. ⊎_elim
        (λ before. ⊎_elim (λ earlier. absurd (nothing_yet r c s earlier)) (λ edge. inl edge) (one.only r c s before))
        (λ meets. inr meets)
        (two.only r c s has);
  }

-- an edge and a meet as sources
pub edge_source : (links : Links) (r c : ℕ) (from : Point) → IsSourceOf links r c (Entry from) → Contains links.edges (record { from = from; to = return_of (record { 0 = r }) c })
edge_source links r c from is =
    ⊎_elim
    (λ (edge : IsEdgeSource links.edges r c (Entry from)).
    let same : from ≡ edge.0 = ap entry_of edge.1 in
    subst (λ p. Contains links.edges (record { from = p; to = return_of (record { 0 = r }) c })) (sym same) edge.2)
    (λ (met : IsMeetSource links.meets r c (Entry from)). let clash : Entry from ≡ Meet met.0 = met.3.0 in absurd (cc))
    is

pub meet_source : (links : Links) (r c index : ℕ) → IsSourceOf links r c (Meet index)
    → (m : meet.Meet) × (slice_get links.meets index ≡ Some m) × Contains m.calls (record { rank = record { 0 = r }; call = c })
meet_source links r c index is =
    ⊎_elim
    (λ (edge : IsEdgeSource links.edges r c (Meet index)). let clash : Meet index ≡ Entry edge.0 = edge.1 in absurd (cc))
    (λ (met : IsMeetSource links.meets r c (Meet index)).
    let same : index ≡ met.0 = ap index_of met.3.0 in
    (met.1, subst (λ k. slice_get links.meets k ≡ Some met.1) (sym same) met.2, met.3.1))
    is

module _ (lens : List ℕ) (links : Links) (next : List ℕ) (pending : Pending) (sources : AreSources lens links pending.inboxes.items) (known : pending.known.items ≡ replicate (length links.meets) 0) where
  inbox_of : (r : ℕ) → IsInbox links next r (slice_index_or pending.inboxes.items r [])
  inbox_of r = record {
    edges = λ from call has. inr (sources.all r call (Entry from) (inl (from, refl, has)));
    meets = λ index m call at has. inr (sources.all r call (Meet index) (inr (index, m, at, (refl, has))));
    from_edge = λ call from has. edge_source links r call from (sources.only r call (Entry from) has);
    from_meet = λ call index has. meet_source links r call index (sources.only r call (Meet index) has);
  }

  known_of : IsKnown links next pending.known.items
  known_of = record {
    size = ap length known ∙ length-replicate (length links.meets) 0;
    entered = λ index m at.
        let none : slice_index pending.known.items index ≡ 0 = ap (λ xs. get_or xs index 0) known ∙ replicate_at (length links.meets) index 0 in
        (omega arith, λ k d low high. absurd (omega arith));
  }

  pub pending_at_start : IsPending lens links next pending
  pending_at_start = record {
    size = sources.size;
    sizes = sources.sizes;
    inboxes = λ r lt. inbox_of r;
    known = known_of;
  }
