-- Ends of messages by their keys, one after the other.
use Rattle.std.proofs.Common.{◌≡◌, ℕ, zero, suc, ◌+◌, ◌<◌, Bool, true, false, cond, ◌&&◌, List, [], ◌∷◌, ◌++◌, length, get_or, take, drop, Option, Some, None, is_some, slice_get, nat_eq, eqb, refl, sym, ap, subst, ◌∙◌, arith}
use Rattle.std.specs.Prelude.{map, filter, count_by, option_map, All}
use Rattle.std.specs.List.{cons_option}
use Rattle.std.specs.Map.{lookup, keys_of, values_of}
use Rattle.std.specs.Option.{option_map_or}
use Rattle.std.specs.Cmp.{IsEquivalence}
use Rattle.std.specs.Cmp.Lexicographic.{pointwise, nat_list_eq_equiv, same_text}
use Rattle.std.proofs.lemmas.Bool.{false≢true, eqb-true, eq-eqb}
use Rattle.std.proofs.lemmas.List.{take_more, append_assoc, append-nil, map-append}
use Rattle.std.proofs.lemmas.List.Elements.{filter-append, All-filter}
use Rattle.std.proofs.lemmas.List.Sums.{sum_by_push}
use Rattle.std.proofs.lemmas.Map.Entries.{lookup_from_place}
use Rattle.std.proofs.lemmas.Option.{slice_get-map, slice_get_within, get_or_from_slice_get, same_Some}
use Rattle.std.specs.declared.collections.VecDeque.{VecDeque}
use Rattle.indexmap.specs.IndexMap.{IndexMap, IsUnique, keys, values, with_value_at}
use Rattle.indexmap.proofs.CallerLemmas.{updates-with_value_at}
use Rattle.rma_base.specs.Limits.{fed_limit}
use Rattle.rma_base.specs.declared.match_reason.MatchReason.{MatchReason}
use Rattle.rma_call.specs.declared.match_fault.MatchFault.{MatchFault}
use Rattle.rma_link.specs.declared.edge.Edge.{Edge}
use Rattle.rma_link.specs.declared.links.Links.{Links}
use Rattle.rma_message.specs.declared.key.Key.{Key}
use Rattle.rma_message.specs.declared.end.End.{End}
use Rattle.rma_message.specs.Key.{same_key, has_key}
use Rattle.rma_message.specs.Matching.{partner, walked, fault_of, edge_of, edge_between, IsNumbered}
use Rattle.rma_message.specs.inside.Queue.{queue_of, calls_of, AreLeft}
use Rattle.rma_message.proofs.ListLemmas.{both}

-- ---- keys

abbrev key_of : ℕ → ℕ → List ℕ → ℕ → Key
key_of from to comm tag = record { from = record { 0 = from }; to = record { 0 = to }; comm = comm; tag = tag }

-- equal keys are the same
pub same_key_true : (a b : Key) → same_key a b ≡ true → a ≡ b
same_key_true a b h =
    let x = both (eqb a.from.0 b.from.0) (eqb a.to.0 b.to.0 && (pointwise nat_eq a.comm b.comm && eqb a.tag b.tag)) h in
    let y = both (eqb a.to.0 b.to.0) (pointwise nat_eq a.comm b.comm && eqb a.tag b.tag) x.1 in
    let z = both (pointwise nat_eq a.comm b.comm) (eqb a.tag b.tag) y.1 in
    ap (λ n. key_of n a.to.0 a.comm a.tag) (eqb-true a.from.0 b.from.0 x.0)
    ∙ ap (λ n. key_of b.from.0 n a.comm a.tag) (eqb-true a.to.0 b.to.0 y.0)
    ∙ ap (λ n. key_of b.from.0 b.to.0 n a.tag) (same_text a.comm b.comm (sym z.0))
    ∙ ap (λ n. key_of b.from.0 b.to.0 b.comm n) (eqb-true a.tag b.tag z.1)

pub same_key_refl : (key : Key) → same_key key key ≡ true
same_key_refl key = rw (eq-eqb key.from.0 key.from.0 refl, eq-eqb key.to.0 key.to.0 refl, nat_list_eq_equiv.refl key.comm, eq-eqb key.tag key.tag refl) refl

pub same_key_equiv : IsEquivalence same_key
same_key_equiv = record {
  refl = same_key_refl;
  symm = λ a b. by_symm a b (same_key a b) refl;
  congr = λ a b c same. ap (λ k. same_key k c) (same_key_true a b same);
}
  where
    by_symm : (a b : Key) (x : Bool) → same_key a b ≡ x → same_key a b ≡ same_key b a
    by_symm a b true same = let is = same_key_true a b same in ap (λ k. same_key k b) is ∙ ap (λ k. same_key b k) (sym is)
    by_symm a b false differ = differ ∙ sym (differs (same_key b a) refl)
      where
        differs : (y : Bool) → same_key b a ≡ y → same_key b a ≡ false
        differs false h = h
        differs true h =
            let is = same_key_true b a h in
            absurd (false≢true (sym differ ∙ ap (λ k. same_key k b) (sym is) ∙ same_key_refl b))

-- ---- lists that grow at their end

-- the prefix with the element after it
pub taken : {X : Type 0} (xs : List X) (i : ℕ) (x : X) → i < length xs → x ≡ get_or xs i x → take (i + 1) xs ≡ take i xs ++ x ∷ []
taken xs i x lt is = take_more xs i x lt ∙ ap (λ y. take i xs ++ y ∷ []) (sym is)

drop_suc : {X : Type 0} (n : ℕ) (xs : List X) → drop 1 (drop n xs) ≡ drop (suc n) xs
drop_suc zero xs = refl
drop_suc (suc n) [] = refl
drop_suc (suc n) (x ∷ xs) = drop_suc n xs

drop_one : {X : Type 0} (n : ℕ) (xs : List X) → drop 1 (drop n xs) ≡ drop (n + 1) xs
drop_one n xs = drop_suc n xs ∙ ap (λ k. drop k xs) (let e : suc n ≡ n + 1 = omega arith in e)

first_of_drop : {X : Type 0} (n : ℕ) (xs : List X) → slice_get (drop n xs) 0 ≡ slice_get xs n
first_of_drop zero xs = refl
first_of_drop (suc n) [] = refl
first_of_drop (suc n) (x ∷ xs) = first_of_drop n xs

cons_option_append : {Y : Type 0} (o : Option Y) (xs ys : List Y) → cons_option o (xs ++ ys) ≡ cons_option o xs ++ ys
cons_option_append None xs ys = refl
cons_option_append (Some x) xs ys = refl

pub walked_push : {Y : Type 0} (f : List End → End → Option Y) (before es : List End) (e : End) → walked f before (es ++ e ∷ []) ≡ walked f before es ++ cons_option (f (before ++ es) e) []
walked_push f before [] e = ap (λ l. cons_option (f l e) []) (sym (append-nil before))
walked_push f before (x ∷ es) e =
    ap (cons_option (f before x)) (walked_push f (before ++ x ∷ []) es e)
    ∙ cons_option_append (f before x) (walked f (before ++ x ∷ []) es) (cons_option (f ((before ++ x ∷ []) ++ es) e) [])
    ∙ ap (λ l. cons_option (f before x) (walked f (before ++ x ∷ []) es) ++ cons_option (f l e) []) (append_assoc before (x ∷ []) es)

-- what a walk has of one more end
pub walked_more : {Y : Type 0} (f : List End → End → Option Y) (es : List End) (i : ℕ) (e : End) (before : List Y) → i < length es → e ≡ get_or es i e →
    (before ++ walked f [] (take i es)) ++ cons_option (f (take i es) e) [] ≡ before ++ walked f [] (take (i + 1) es)
walked_more f es i e before lt is =
    append_assoc before (walked f [] (take i es)) (cons_option (f (take i es) e) [])
    ∙ ap (λ l. before ++ l) (sym (walked_push f [] (take i es) e) ∙ ap (walked f []) (sym (taken es i e lt is)))

-- ---- queues

calls_of_push : (key : Key) (es : List End) (e : End) → calls_of key (es ++ e ∷ []) ≡ calls_of key es ++ map (λ (x : End). x.call) (cond (has_key key e) (e ∷ []) [])
calls_of_push key es e =
    ap (map (λ (x : End). x.call)) (filter-append (has_key key) es (e ∷ [])) ∙ map-append (λ (x : End). x.call) (filter (has_key key) es) (filter (has_key key) (e ∷ []))

count_push : (key : Key) (es : List End) (e : End) → count_by (has_key key) (es ++ e ∷ []) ≡ count_by (has_key key) es + cond (has_key key e) 1 0
count_push key es e = sum_by_push (λ x. cond (has_key key x) 1 0) es e

module _ {A : Type 0} (old new : List (Key × VecDeque ℕ A)) where
  -- one more end of its key
  pub pushed_end : (ends : List End) (e : End) → AreLeft ends [] old
      → ((key : Key) → queue_of new key ≡ cond (same_key e.key key) (queue_of old e.key ++ e.call ∷ []) (queue_of old key)) → AreLeft (ends ++ e ∷ []) [] new
  pushed_end ends e left step = λ key. step key ∙ by key (same_key e.key key) refl
    where
      by : (key : Key) (b : Bool) → same_key e.key key ≡ b → cond (same_key e.key key) (queue_of old e.key ++ e.call ∷ []) (queue_of old key) ≡ calls_of key (ends ++ e ∷ [])
      by key true h =
          let same : e.key ≡ key = same_key_true e.key key h in
          ap (λ b. cond b (queue_of old e.key ++ e.call ∷ []) (queue_of old key)) h
          ∙ ap (λ l. l ++ e.call ∷ []) (left e.key ∙ ap (λ k. calls_of k ends) same)
          ∙ ap (λ b. calls_of key ends ++ map (λ (x : End). x.call) (cond b (e ∷ []) [])) (sym h)
          ∙ sym (calls_of_push key ends e)
      by key false h =
          ap (λ b. cond b (queue_of old e.key ++ e.call ∷ []) (queue_of old key)) h
          ∙ left key
          ∙ sym (append-nil (calls_of key ends))
          ∙ ap (λ b. calls_of key ends ++ map (λ (x : End). x.call) (cond b (e ∷ []) [])) (sym h)
          ∙ sym (calls_of_push key ends e)

  -- one more end that takes the first of its key
  pub popped_end : (others own : List End) (e : End) → AreLeft others own old
      → ((key : Key) → queue_of new key ≡ cond (same_key e.key key) (drop 1 (queue_of old e.key)) (queue_of old key)) → AreLeft others (own ++ e ∷ []) new
  popped_end others own e left step = λ key. step key ∙ by key (same_key e.key key) refl
    where
      by : (key : Key) (b : Bool) → same_key e.key key ≡ b
          → cond (same_key e.key key) (drop 1 (queue_of old e.key)) (queue_of old key) ≡ drop (count_by (has_key key) (own ++ e ∷ [])) (calls_of key others)
      by key true h =
          let same : e.key ≡ key = same_key_true e.key key h in
          ap (λ b. cond b (drop 1 (queue_of old e.key)) (queue_of old key)) h
          ∙ ap (drop 1) (left e.key ∙ ap (λ k. drop (count_by (has_key k) own) (calls_of k others)) same)
          ∙ drop_one (count_by (has_key key) own) (calls_of key others)
          ∙ ap (λ b. drop (count_by (has_key key) own + cond b 1 0) (calls_of key others)) (sym h)
          ∙ ap (λ n. drop n (calls_of key others)) (sym (count_push key own e))
      by key false h =
          let same : count_by (has_key key) own ≡ count_by (has_key key) own + 0 = omega arith in
          ap (λ b. cond b (drop 1 (queue_of old e.key)) (queue_of old key)) h
          ∙ left key
          ∙ ap (λ n. drop n (calls_of key others)) same
          ∙ ap (λ b. drop (count_by (has_key key) own + cond b 1 0) (calls_of key others)) (sym h)
          ∙ ap (λ n. drop n (calls_of key others)) (sym (count_push key own e))

  -- the same of the end at an index
  pub pushed : (ends : List End) (i : ℕ) (e : End) → i < length ends → e ≡ get_or ends i e → AreLeft (take i ends) [] old
      → ((key : Key) → queue_of new key ≡ cond (same_key e.key key) (queue_of old e.key ++ e.call ∷ []) (queue_of old key)) → AreLeft (take (i + 1) ends) [] new
  pushed ends i e lt is left step = subst (λ es. AreLeft es [] new) (sym (taken ends i e lt is)) (pushed_end (take i ends) e left step)

  pub popped : (others own : List End) (i : ℕ) (e : End) → i < length own → e ≡ get_or own i e → AreLeft others (take i own) old
      → ((key : Key) → queue_of new key ≡ cond (same_key e.key key) (drop 1 (queue_of old e.key)) (queue_of old key)) → AreLeft others (take (i + 1) own) new
  popped others own i e lt is left step = subst (λ es. AreLeft others es new) (sym (taken own i e lt is)) (popped_end others (take i own) e left step)

-- what is taken is the call of the end that matches
pub first_left : {A : Type 0} (queues : List (Key × VecDeque ℕ A)) (others before : List End) (e : End) → AreLeft others before queues →
    slice_get (queue_of queues e.key) 0 ≡ option_map (λ (x : End). x.call) (partner others before e)
first_left queues others before e left =
    ap (λ l. slice_get l 0) (left e.key)
    ∙ first_of_drop (count_by (has_key e.key) before) (calls_of e.key others)
    ∙ slice_get-map (λ (x : End). x.call) (filter (has_key e.key) others) (count_by (has_key e.key) before)

-- ---- what is kept under a key

module _ {A : Type 0} (old new : List (Key × VecDeque ℕ A)) (own : Key) (q : VecDeque ℕ A) where
  -- a queue that is put under its key
  pub queue_put : ((key : Key) → lookup (same_key key) new ≡ cond (same_key own key) (Some q) (lookup (same_key key) old)) → (key : Key) → queue_of new key ≡ cond (same_key own key) q.items (queue_of old key)
  queue_put step key = ap (λ (o : Option (VecDeque ℕ A)). option_map_or (λ x. x.items) o []) (step key) ∙ by (same_key own key)
    where
      by : (b : Bool) → option_map_or (λ (x : VecDeque ℕ A). x.items) (cond b (Some q) (lookup (same_key key) old)) [] ≡ cond b q.items (queue_of old key)
      by true = refl
      by false = refl

-- what is kept under no key is empty
pub queue_added : {A : Type 0} (old new : List (Key × VecDeque ℕ A)) (own : Key) (q : VecDeque ℕ A) → ((key : Key) → lookup (same_key key) new ≡ cond (same_key own key) (Some q) (lookup (same_key key) old))
    → q.items ≡ [] → lookup (same_key own) old ≡ None → (key : Key) → queue_of new key ≡ queue_of old key
queue_added {A} old new own q step none absent key = queue_put old new own q step key ∙ by (same_key own key) refl
  where
    by : (b : Bool) → same_key own key ≡ b → cond b q.items (queue_of old key) ≡ queue_of old key
    by true same =
        none ∙ ap (λ (o : Option (VecDeque ℕ A)). option_map_or (λ (x : VecDeque ℕ A). x.items) o []) (sym absent) ∙ ap (queue_of old) (same_key_true own key same)
    by false differ = refl

-- ---- what is kept at a place

entry_at : {K X : Type 0} (es : List (K × X)) (i : ℕ) (k : K) (v : X) → slice_get (keys_of es) i ≡ Some k → slice_get (values_of es) i ≡ Some v → slice_get es i ≡ Some (k, v)
entry_at [] i k v key value = absurd (cc)
entry_at (e ∷ es) zero k v key value = let one : e.0 ≡ k = cc in let two : e.1 ≡ v = cc in λ j. Some (one j, two j)
entry_at (e ∷ es) (suc i) k v key value = entry_at es i k v key value

module _ {A S : Type 0} (m : IndexMap Key (VecDeque ℕ A) S) (place : ℕ) (own : Key) (before after : VecDeque ℕ A) where
  pub queue_at : IsUnique same_key m → slice_get (keys m) place ≡ Some own → slice_get (values m) place ≡ Some before → queue_of m.entries own ≡ before.items
  queue_at unique key value =
      ap (λ (o : Option (VecDeque ℕ A)). option_map_or (λ (x : VecDeque ℕ A). x.items) o [])
      (lookup_from_place same_key_equiv m.entries place own before unique (entry_at m.entries place own before key value))

  pub queue_written : IsUnique same_key m → slice_get (keys m) place ≡ Some own → slice_get (values m) place ≡ Some before → (k : Key) →
      queue_of (with_value_at m place after).entries k ≡ cond (same_key own k) after.items (queue_of m.entries k)
  queue_written unique key value =
      queue_put m.entries (with_value_at m place after).entries own after
      (λ k. (updates-with_value_at m place after same_key_equiv unique own before (entry_at m.entries place own before key value)).0 k)

-- a place past the end
pub no_queue : {X P : Type 0} (es : List (Key × X)) (i : ℕ) (k : Key) → slice_get (keys_of es) i ≡ Some k → None ≡ slice_get (values_of es) i → P
no_queue [] i k key value = absurd (cc)
no_queue (e ∷ es) zero k key value = absurd (cc)
no_queue (e ∷ es) (suc i) k key value = no_queue es i k key value

-- ---- faults and edges

module _ (others before : List End) (e : End) (found : Option ℕ) (is : found ≡ option_map (λ (x : End). x.call) (partner others before e)) where
  abbrev fault : MatchReason → MatchFault
  fault reason = record { reason = reason; rank = e.rank; line = e.line; other = None }

  -- an end that nothing matches has a fault
  pub fault_there : (reason : MatchReason) → is_some found ≡ false → fault_of reason others before e ≡ Some (record { reason = reason; rank = e.rank; line = e.line; other = None })
  fault_there reason none = by (partner others before e) is
    where
      by : (p : Option End) → found ≡ option_map (λ (x : End). x.call) p → option_map_or (λ _. None) p (Some (fault reason)) ≡ Some (fault reason)
      by None h = refl
      by (Some x) h = absurd (false≢true (sym none ∙ ap is_some h))

  -- one that another end matches has none
  pub no_fault : (reason : MatchReason) → is_some found ≡ true → fault_of reason others before e ≡ None
  no_fault reason some = by (partner others before e) is
    where
      by : (p : Option End) → found ≡ option_map (λ (x : End). x.call) p → option_map_or (λ _. None) p (Some (fault reason)) ≡ None
      by None h = absurd (false≢true (sym (ap is_some h) ∙ some))
      by (Some x) h = refl

  -- the edge is that of the call that was found
  pub edge_is : edge_of others before e ≡ option_map (λ n. edge_between n e) found
  edge_is = by (partner others before e) ∙ ap (option_map (λ n. edge_between n e)) (sym is)
    where
      by : (p : Option End) → option_map (λ (x : End). edge_between x.call e) p ≡ option_map (λ n. edge_between n e) (option_map (λ (x : End). x.call) p)
      by None = refl
      by (Some x) = refl

  -- and its number is one that a call may have
  pub found_numbered : All IsNumbered others → (n : ℕ) → Some n ≡ found → n < fed_limit
  found_numbered all n there = by (partner others before e) refl is
    where
      by : (p : Option End) → partner others before e ≡ p → found ≡ option_map (λ (x : End). x.call) p → n < fed_limit
      by None at h = let wrong : Some n ≡ None = there ∙ h in cc
      by (Some x) at h =
          let same : n ≡ x.call = same_Some n x.call (there ∙ h) in
          let those = filter (has_key e.key) others in
          let k = count_by (has_key e.key) before in
          let fits : IsNumbered (get_or those k x) = All-filter (has_key e.key) IsNumbered others all k x (slice_get_within those k x at) in
          let one : IsNumbered x = subst IsNumbered (get_or_from_slice_get those k x x at) fits in
          subst (λ m. m < fed_limit) (sym same) one

-- the links with the edge of one more receive, where it has one
pub edges_more : (sends receives : List End) (i : ℕ) (e : End) (links old new : Links) (edge : Option Edge) → i < length receives → e ≡ get_or receives i e
    → old ≡ record links { edges = links.edges ++ walked (edge_of sends) [] (take i receives) } → edge ≡ edge_of sends (take i receives) e → new ≡ record old { edges = old.edges ++ cons_option edge [] }
    → new ≡ record links { edges = links.edges ++ walked (edge_of sends) [] (take (i + 1) receives) }
edges_more sends receives i e links old new edge lt is so_far is_edge push =
    push
    ∙ ap (λ (l : Links). record l { edges = l.edges ++ cons_option edge [] }) so_far
    ∙ ap (λ o. record links { edges = (links.edges ++ walked (edge_of sends) [] (take i receives)) ++ cons_option o [] }) is_edge
    ∙ ap (λ es. record links { edges = es }) (walked_more (edge_of sends) receives i e links.edges lt is)
