-- Lines that state the same call elsewhere: their words are those of a line before them, but for the ranks, the tags, the
-- addresses, displacements and numbers of bytes, and the names.
use Rattle.std.specs.Prelude.{◌≡◌, ℕ, ◌++◌, Bool, List, [], ◌∷◌, Option, None, Some, Ok, is_some}
use Rattle.std.specs.Option.{option_or}
use Rattle.rma_base.specs.Limits.{address_limit}
use Rattle.rma_base.specs.declared.version.Version.{Version}
use Rattle.rma_field.specs.Kinds.{last_rank, name_of}
use Rattle.rma_field.specs.Numbers.{natural}
use Rattle.rma_lex.specs.Field.{fields, texts}
use Rattle.rma_form.specs.Forms.{form_of}
use Rattle.rma_form.specs.declared.form.LineForm.{LineForm}
use Rattle.rma_form.specs.declared.form.LineForm.TheVariants as form
use Rattle.rma_known.specs.declared.call_form.CallForm.{CallForm}
use Rattle.rma_known.specs.declared.call_form.CallForm.TheVariants.{Put, Get, Accumulate, GetAccumulate, FetchAndOp, CompareAndSwap, Load, Store, Poll, Comm, Barrier, Send, Recv, Isend, Irecv, Wait, Received, Fence, Post, PostOne, Start, StartOne, Complete, Expwait, Lock, Unlock, LockAll, UnlockAll, Flush, FlushAll, FlushLocal, FlushLocalAll, Sync, Attach, Detach, Bcast, Scatter, Gather, Reduce, Allreduce, Allgather, Alltoall}
use Rattle.rma_known.specs.declared.call_form.Part.{Part}
use Rattle.rma_known.specs.declared.call_form.Part.TheVariants as part
use Rattle.rma_known.specs.declared.call_form.Place.{Place}
use Rattle.rma_known.specs.declared.call_form.Place.TheVariants.{Same, Rank, Address, Tag, Name, Request}
use Rattle.rma_known.specs.Known.{Known, IsAmong}

-- the form of the lines of a call
abbrev pub form_of_call : CallForm → LineForm
form_of_call Put = form.Put
form_of_call Get = form.Get
form_of_call Accumulate = form.Accumulate
form_of_call GetAccumulate = form.GetAccumulate
form_of_call FetchAndOp = form.FetchAndOp
form_of_call CompareAndSwap = form.CompareAndSwap
form_of_call Load = form.Load
form_of_call Store = form.Store
form_of_call Poll = form.Poll
form_of_call Comm = form.Comm
form_of_call Barrier = form.Barrier
form_of_call Send = form.Send
form_of_call Recv = form.Recv
form_of_call Isend = form.Isend
form_of_call Irecv = form.Irecv
form_of_call Wait = form.Wait
form_of_call Received = form.Wait
form_of_call Fence = form.Fence
form_of_call Post = form.Post
form_of_call PostOne = form.Post
form_of_call Start = form.Start
form_of_call StartOne = form.Start
form_of_call Complete = form.Complete
form_of_call Expwait = form.Expwait
form_of_call Lock = form.Lock
form_of_call Unlock = form.Unlock
form_of_call LockAll = form.LockAll
form_of_call UnlockAll = form.UnlockAll
form_of_call Flush = form.Flush
form_of_call FlushAll = form.FlushAll
form_of_call FlushLocal = form.FlushLocal
form_of_call FlushLocalAll = form.FlushLocalAll
form_of_call Sync = form.Sync
form_of_call Attach = form.Attach
form_of_call Detach = form.Detach
form_of_call Bcast = form.Bcast
form_of_call Scatter = form.Scatter
form_of_call Gather = form.Gather
form_of_call Reduce = form.Reduce
form_of_call Allreduce = form.Allreduce
form_of_call Allgather = form.Allgather
form_of_call Alltoall = form.Alltoall

-- what each of its fields says, as far as they are told one by one: those behind them are the same
abbrev pub places_of : CallForm → List Place
places_of Put = Same ∷ Rank ∷ Address ∷ Same ∷ Same ∷ Address ∷ Same ∷ Same ∷ []
places_of Get = Same ∷ Rank ∷ Address ∷ Same ∷ Same ∷ Address ∷ Same ∷ Same ∷ []
places_of Accumulate = Same ∷ Same ∷ Rank ∷ Address ∷ Same ∷ Same ∷ Address ∷ Same ∷ Same ∷ []
places_of GetAccumulate = Same ∷ Same ∷ Rank ∷ Address ∷ Same ∷ Same ∷ Address ∷ Same ∷ Same ∷ Address ∷ Same ∷ Same ∷ []
places_of FetchAndOp = Same ∷ Same ∷ Rank ∷ Address ∷ Same ∷ Address ∷ Address ∷ []
places_of CompareAndSwap = Same ∷ Rank ∷ Address ∷ Same ∷ Address ∷ Address ∷ Address ∷ []
places_of Load = Address ∷ Same ∷ Same ∷ []
places_of Store = Address ∷ Same ∷ Same ∷ []
places_of Poll = Address ∷ Same ∷ Same ∷ []
places_of Comm = Name ∷ Same ∷ []
places_of Barrier = Name ∷ []
places_of Send = Rank ∷ Tag ∷ Name ∷ []
places_of Recv = Rank ∷ Tag ∷ Name ∷ []
places_of Isend = Request ∷ Rank ∷ Tag ∷ Name ∷ []
places_of Irecv = Request ∷ Name ∷ []
places_of Wait = Request ∷ []
places_of Received = Request ∷ Rank ∷ Tag ∷ []
places_of Fence = Name ∷ []
places_of Post = Name ∷ Same ∷ []
places_of PostOne = Name ∷ Rank ∷ []
places_of Start = Name ∷ Same ∷ []
places_of StartOne = Name ∷ Rank ∷ []
places_of Complete = Name ∷ []
places_of Expwait = Name ∷ []
places_of Lock = Name ∷ Rank ∷ Same ∷ []
places_of Unlock = Name ∷ Rank ∷ []
places_of LockAll = Name ∷ []
places_of UnlockAll = Name ∷ []
places_of Flush = Name ∷ Rank ∷ []
places_of FlushAll = Name ∷ []
places_of FlushLocal = Name ∷ Rank ∷ []
places_of FlushLocalAll = Name ∷ []
places_of Sync = Name ∷ []
places_of Attach = Name ∷ Address ∷ Same ∷ []
places_of Detach = Name ∷ Address ∷ []
places_of Bcast = Rank ∷ Address ∷ Name ∷ []
places_of Scatter = Rank ∷ Address ∷ Name ∷ []
places_of Gather = Rank ∷ Address ∷ Name ∷ []
places_of Reduce = Rank ∷ Address ∷ Name ∷ []
places_of Allreduce = Address ∷ Name ∷ []
places_of Allgather = Address ∷ Name ∷ []
places_of Alltoall = Address ∷ Name ∷ []

-- the particulars of a call: its ranks, tags, addresses, displacements and numbers of bytes, in the order of its line, the name of
-- its communicator or of its window, and that of its request
pub record Details : Type 0 where
  pub numbers : List ℕ
  pub name : Option (List ℕ)
  pub request : Option (List ℕ)

abbrev pub no_details : Details
no_details = record { numbers = []; name = None; request = None }

-- these, and then those
abbrev pub joined : Details → Details → Details
joined one more = record { numbers = one.numbers ++ more.numbers; name = option_or one.name more.name; request = option_or one.request more.request }

abbrev pub number_alone : ℕ → Details
number_alone n = record { numbers = n ∷ []; name = None; request = None }

abbrev pub name_alone : List ℕ → Details
name_alone name = record { numbers = []; name = Some name; request = None }

abbrev pub request_alone : List ℕ → Details
request_alone name = record { numbers = []; name = None; request = Some name }

-- what a field may be that says this, if it is a particular
abbrev pub part_of : Version → Place → Option Part
part_of v Same = None
part_of v Rank = Some (part.Number (last_rank v))
part_of v Address = Some (part.Number address_limit)
part_of v Tag = Some (part.Number 2147483647)
part_of v Name = Some part.Name
part_of v Request = Some part.Request

-- a word says a particular
abbrev pub Says : Part → List ℕ → Details → Type 0
Says (part.Number limit) word said = (n : ℕ) × (natural 0 limit word ≡ Ok n) × (said ≡ number_alone n)
Says part.Name word said = (name_of word ≡ Ok word) × (said ≡ name_alone word)
Says part.Request word said = (name_of word ≡ Ok word) × (said ≡ request_alone word)

-- a word is another, or says this in its place
abbrev pub SaysAt : Option Part → List ℕ → List ℕ → Details → Type 0
SaysAt None word other said = (other ≡ word) × (said ≡ no_details)
SaysAt (Some part) word other said = Says part other said

-- The fields of a line are those of another, but for the particulars, which are these.
abbrev pub AreElsewhere : Version → List Place → List (List ℕ) → List (List ℕ) → Details → Type 0
AreElsewhere v [] own others said = (own ≡ others) × (said ≡ no_details)
AreElsewhere v (place ∷ places) own others said =
    (word other : List ℕ) × (own_rest others_rest : List (List ℕ)) × (one more : Details) × (own ≡ word ∷ own_rest) × (others ≡ other ∷ others_rest)
    × SaysAt (part_of v place) word other one × AreElsewhere v places own_rest others_rest more × (said ≡ joined one more)

-- The words of a line are those of another of this form, but for the particulars, which are these.
pub record IsElsewhere (v : Version) (form : CallForm) (words others : List ℕ) (said : Details) : Type 0 where
  pub verb : List ℕ
  pub own : List (List ℕ)
  pub other : List (List ℕ)
  pub words_are : texts (fields words) ≡ verb ∷ own
  pub others_are : texts (fields others) ≡ verb ∷ other
  pub has_form : form_of v verb own ≡ Ok (form_of_call form)
  pub elsewhere : AreElsewhere v (places_of form) own other said

-- A call is known among these whose words these are elsewhere: the number of what it does, whether it has a request, the numbers
-- among its particulars, and those of these words.
pub record IsKnownElsewhere (them : List (Option Known)) (v : Version) (words : List ℕ) (what : ℕ) (requests : Bool) (from : List ℕ) (to : Details) : Type 0 where
  pub known : Known
  pub form : CallForm
  pub name : Option (List ℕ)
  pub among : IsAmong them known
  pub version : known.version ≡ v
  pub request : is_some known.request ≡ requests
  pub does : known.what ≡ what
  pub here : IsElsewhere v form known.words known.words (record { numbers = from; name = name; request = known.request })
  pub there : IsElsewhere v form known.words words to
