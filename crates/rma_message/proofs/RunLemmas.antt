-- The messages of ranks, call by call and rank by rank.
use Rattle.std.proofs.Common.{◌≡◌, ℕ, suc, ◌+◌, ◌<◌, List, [], ◌∷◌, ◌++◌, length, take, get_or, slice_get, Option, Some, append_assoc, sym, ap, ◌∙◌, arith}
use Rattle.std.specs.List.{cons_option, filter_map}
use Rattle.std.proofs.lemmas.List.{flat_map_more, length-take}
use Rattle.std.proofs.lemmas.List.Elements.{filter_map-append}
use Rattle.std.proofs.lemmas.Option.{slice_get_within, get_or_from_slice_get}
use Rattle.rma_base.specs.declared.rank.Rank.{Rank}
use Rattle.rma_call.specs.Call.{Call, RankCalls}
use Rattle.rma_message.specs.RankMessages.{RankMessages, no_messages, messages_by, with_call, with_calls}
use Rattle.rma_message.specs.Messages.{messages_of, receives_in, with_rank}
use Rattle.rma_message.proofs.MatchLemmas.{taken}

-- one more call
pub with_calls_push : (m : RankMessages) (number : ℕ) (calls : List Call) (call : Call) → with_calls m number (calls ++ call ∷ []) ≡ with_call (with_calls m number calls) (number + length calls) call
with_calls_push m number [] call = ap (λ n. with_call m n call) (let e : number ≡ number + 0 = omega arith in e)
with_calls_push m number (c ∷ calls) call =
    with_calls_push (with_call m number c) (number + 1) calls call
    ∙ ap (λ n. with_call (with_calls (with_call m number c) (number + 1) calls) n call) (let e : number + 1 + length calls ≡ number + suc (length calls) = omega arith in e)

-- the calls up to one, with that one
pub with_next_call : (m : RankMessages) (calls : List Call) (i : ℕ) (call : Call) → slice_get calls i ≡ Some call → with_call (with_calls m 0 (take i calls)) i call ≡ with_calls m 0 (take (i + 1) calls)
with_next_call m calls i call there =
    let lt : i < length calls = slice_get_within calls i call there in
    let is : call ≡ get_or calls i call = sym (get_or_from_slice_get calls i call call there) in
    let number : i ≡ 0 + length (take i calls) = simp length-take (omega arith) in
    ap (λ n. with_call (with_calls m 0 (take i calls)) n call) number
    ∙ sym (with_calls_push m 0 (take i calls) call)
    ∙ ap (with_calls m 0) (sym (taken calls i call lt is))

-- what a map that may skip makes of one more element
pub filter_map_more : {X Y : Type 0} (h : X → Option Y) (xs : List X) (i : ℕ) (x : X) (before : List Y) → i < length xs → x ≡ get_or xs i x →
    (before ++ filter_map h (take i xs)) ++ cons_option (h x) [] ≡ before ++ filter_map h (take (i + 1) xs)
filter_map_more h xs i x before lt is =
    append_assoc before (filter_map h (take i xs)) (cons_option (h x) [])
    ∙ ap (λ l. before ++ l) (sym (filter_map-append h (take i xs) (x ∷ [])) ∙ ap (filter_map h) (sym (taken xs i x lt is)))

-- the messages of one more rank
pub messages_more : (ranks : List RankCalls) (i : ℕ) (own : RankCalls) → i < length ranks → own ≡ get_or ranks i own →
    with_rank (messages_of (take i ranks)) (messages_by own) ≡ messages_of (take (i + 1) ranks)
messages_more ranks i own lt is =
    ap (λ es. record { sends = es; receives = (messages_of (take i ranks)).receives ++ receives_in (messages_by own) }) (flat_map_more (λ (r : RankCalls). (messages_by r).sends) [] (take i ranks) own)
    ∙ ap (λ es. record { sends = (messages_of (take i ranks ++ own ∷ [])).sends; receives = es }) (flat_map_more (λ (r : RankCalls). receives_in (messages_by r)) [] (take i ranks) own)
    ∙ ap messages_of (sym (taken ranks i own lt is))

-- all calls of a rank
pub all_taken : (own : RankCalls) (rank : Rank) (calls : List Call) → rank ≡ own.rank → calls ≡ own.calls → with_calls (no_messages rank) 0 calls ≡ messages_by own
all_taken own rank calls same are = ap (λ r. with_calls (no_messages r) 0 calls) same ∙ ap (with_calls (no_messages own.rank) 0) are
