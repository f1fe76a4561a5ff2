-- The words of an event that is known by its form.
use Rattle.std.proofs.Common.{◌≡◌, ℕ, Bool, true, false, List, ◌∷◌, ◌++◌, Option, Result, Ok, Err, sym, subst}
use Rattle.std.specs.Prelude.{IfOk, String, string_bytes}
use Rattle.std.specs.List.{join_with_byte}
use Rattle.std.proofs.Common.{Global}
use Rattle.rma_base.specs.declared.memory.Memory.{Memory}
use Rattle.rma_base.specs.declared.window.WinModel.{WinModel}
use Rattle.rma_base.specs.declared.window.AccOps.{AccOps}
use Rattle.rma_call.specs.declared.assertion.Assertions.{Assertions}
use Rattle.rma_field.specs.Assertions.{assertion_words}
use Rattle.rma_form.specs.Canonical.{spelled}
use Rattle.rma_form.specs.Forms.{filled, words_of}
use Rattle.rma_call.specs.declared.what.SyncCall.TheVariants.{Window}
use Rattle.rma_call.specs.declared.window.WindowCall.TheVariants.{Create}
use Rattle.rma_form.specs.declared.event.Event.{Event}
use Rattle.rma_form.specs.declared.event.Event.TheVariants.{Call}
use Rattle.rma_form.specs.inside.Creations.{creation_words}
use Rattle.std.proofs.Common.{[], None, Some, ap, refl, ◌∙◌, append_assoc}
use Rattle.std.specs.Prelude.{codes, decimal, flat_map}
use Rattle.rma_base.specs.declared.rank.Rank.{Rank}
use Rattle.rma_datatype.specs.Operation.{op_word}
use Rattle.rma_field.specs.Kinds.{target_text}
use Rattle.rma_form.specs.Forms.{access_filled, local_filled}
use Rattle.rma_form.specs.Groups.{Group, Item, item_words}
use Rattle.rma_form.specs.declared.event.Event.TheVariants.{Local, Rma}
use Rattle.rma_form.specs.declared.event.rma_line.Access.{Access}
use Rattle.rma_form.specs.declared.event.rma_line.Access.TheVariants.{Put, Get, Accumulate, GetAccumulate, FetchAndOp, CompareAndSwap}
use Rattle.rma_form.specs.declared.event.rma_line.RmaLine.{RmaLine}
use Rattle.rma_form.specs.declared.event.rma_line.Transfer.{Transfer}
use Rattle.rma_call.specs.declared.local.LocalAccess.{LocalAccess}
use Rattle.rma_call.specs.declared.local.LocalAccess.TheVariants.{Load, Store, Poll}
use Rattle.rma_form.specs.declared.event.local_line.LocalLine.{LocalLine}
use Rattle.rma_form.specs.declared.event.rma_line.Buffer.{Buffer}
use Rattle.rma_form.specs.inside.AccessWords.{access_head, access_suffix, access_verb, buffer_words, place_words, transfer_words}
use Rattle.rma_form.specs.inside.Suffix.{behind_space}
use Rattle.rma_form.proofs.LineTextLemmas.{join_spaced, spaced_items}

-- the words of an event are those of the row of its form
pub written_as : (result : Result (String Global) Memory) (event at : Event) → event ≡ at → IfOk result (λ line. string_bytes line ≡ join_with_byte 32 (words_of (filled at)))
    → IfOk result (λ line. string_bytes line ≡ join_with_byte 32 (spelled event))
unfolding spelled
written_as result event at is given = subst (λ it. IfOk result (λ line. string_bytes line ≡ join_with_byte 32 (words_of (filled it)))) (sym is) given

-- a line with words of assertions behind it
pub asserted_as : (result : Result (String Global) Memory) (line : String Global) (them : Assertions) (first : List ℕ) (words : List (List ℕ))
    → IfOk result (λ more. (first : List ℕ) (words : List (List ℕ)) → string_bytes line ≡ join_with_byte 32 (first ∷ words) → string_bytes more ≡ join_with_byte 32 (first ∷ (words ++ assertion_words them)))
    → string_bytes line ≡ join_with_byte 32 (first ∷ words) → IfOk result (λ more. string_bytes more ≡ join_with_byte 32 (first ∷ (words ++ assertion_words them)))
asserted_as (Ok more) line them first words given is = given first words is
asserted_as (Err memory) line them first words given is = tt

-- a window's creation is written by whether it is dynamic
pub written_creation : (result : Result (String Global) Memory) (window comm : List ℕ) (base bytes displacement : ℕ) (model : WinModel) (operations : AccOps) (dynamic : Bool) (request : Option (List ℕ))
    → IfOk result (λ line. string_bytes line ≡ join_with_byte 32 (creation_words window comm base bytes displacement model operations dynamic))
    → IfOk result (λ line. string_bytes line ≡ join_with_byte 32 (spelled (Call (Window (Create window comm base bytes displacement model operations dynamic)) request)))
unfolding spelled
written_creation result window comm base bytes displacement model operations true request given = given
written_creation result window comm base bytes displacement model operations false request given = given

-- a line with groups behind it
pub grouped_as : (result : Result (String Global) Memory) (line : String Global) (group : Group) (items : List (Item group)) (first : List ℕ) (words : List (List ℕ))
    → IfOk result (λ more. string_bytes more ≡ string_bytes line ++ flat_map (λ item. behind_space (item_words group item)) items)
    → string_bytes line ≡ join_with_byte 32 (first ∷ words) → IfOk result (λ more. string_bytes more ≡ join_with_byte 32 (first ∷ (words ++ flat_map (item_words group) items)))
grouped_as (Ok more) line group items first words given is =
    given ∙ ap (λ them. them ++ flat_map (λ item. behind_space (item_words group item)) items) is
    ∙ ap (λ them. join_with_byte 32 (first ∷ words) ++ them) (sym (spaced_items group items)) ∙ sym (join_spaced first words (flat_map (item_words group) items))
grouped_as (Err memory) line group items first words given is = tt

parted : (request op window target place behind : List ℕ) → ((request ++ 32 ∷ op) ++ 32 ∷ (window ++ 32 ∷ (target ++ 32 ∷ place))) ++ behind
    ≡ request ++ 32 ∷ (op ++ 32 ∷ (window ++ 32 ∷ (target ++ 32 ∷ (place ++ behind))))
parted request op window target place behind = simp append_assoc

placed : (op window target place behind : List ℕ) → (op ++ 32 ∷ (window ++ 32 ∷ (target ++ 32 ∷ place))) ++ behind
    ≡ op ++ 32 ∷ (window ++ 32 ∷ (target ++ 32 ∷ (place ++ behind)))
placed op window target place behind = simp append_assoc

fetching_spelled : (it : Transfer) (into : Buffer) → behind_space (transfer_words it) ++ behind_space (buffer_words into) ≡ behind_space (transfer_words it ++ buffer_words into)
fetching_spelled it into = simp append_assoc

-- the words of each access are its three parts
access_spelled : (window : List ℕ) (to : Option Rank) (place : ℕ) (access : Access) (request : Option (List ℕ))
    → (access_head access request ++ behind_space (place_words window to place)) ++ access_suffix access ≡ join_with_byte 32 (words_of (access_filled window to place access request))
access_spelled window to place (Put it) None = simp append_assoc
access_spelled window to place (Put it) (Some request) = simp append_assoc
access_spelled window to place (Get it) None = simp append_assoc
access_spelled window to place (Get it) (Some request) = simp append_assoc
access_spelled window to place (Accumulate op it) None = simp append_assoc
access_spelled window to place (Accumulate op it) (Some request) = ap (λ them. codes "racc " ++ them) (parted request (op_word op) window (target_text to) (decimal place) _)
access_spelled window to place (GetAccumulate op it into) None =
    ap (λ them. codes "getacc " ++ them)
    (placed (op_word op) window (target_text to) (decimal place) _
    ∙ ap (λ them. op_word op ++ 32 ∷ (window ++ 32 ∷ (target_text to ++ 32 ∷ (decimal place ++ them)))) (fetching_spelled it into))
access_spelled window to place (GetAccumulate op it into) (Some request) =
    ap (λ them. codes "rgetacc " ++ them)
    (parted request (op_word op) window (target_text to) (decimal place) _
    ∙ ap (λ them. request ++ 32 ∷ (op_word op ++ 32 ∷ (window ++ 32 ∷ (target_text to ++ 32 ∷ (decimal place ++ them))))) (fetching_spelled it into))
access_spelled window to place (FetchAndOp op datatype at into) request = simp append_assoc
access_spelled window to place (CompareAndSwap datatype at compared into) request = simp append_assoc

-- the text of a call on a window
pub written_access : (text : List ℕ) (line : RmaLine) (request : Option (List ℕ))
    → text ≡ (access_head line.access request ++ behind_space (place_words line.window line.target line.displacement)) ++ access_suffix line.access
    → text ≡ join_with_byte 32 (spelled (Rma line request))
unfolding spelled
written_access text line request is = is ∙ access_spelled line.window line.target line.displacement line.access request

local_spelled : (access : LocalAccess) (it : Buffer) → words_of (local_filled access it) ≡ access_verb access ∷ decimal it.address ∷ decimal it.count ∷ it.datatype ∷ []
local_spelled Load it = refl
local_spelled Store it = refl
local_spelled Poll it = refl

-- the words of a local access
pub written_local : (result : Result (String Global) Memory) (verb : List ℕ) (line : LocalLine) → verb ≡ access_verb line.access
    → IfOk result (λ text. string_bytes text ≡ join_with_byte 32 (verb ∷ decimal line.buffer.address ∷ decimal line.buffer.count ∷ line.buffer.datatype ∷ []))
    → IfOk result (λ text. string_bytes text ≡ join_with_byte 32 (spelled (Local line)))
unfolding spelled
written_local (Ok text) verb line is given =
    given
    ∙ ap (λ it. join_with_byte 32 (it ∷ decimal line.buffer.address ∷ decimal line.buffer.count ∷ line.buffer.datatype ∷ [])) is
    ∙ ap (join_with_byte 32) (sym (local_spelled line.access line.buffer))
written_local (Err memory) verb line is given = tt
