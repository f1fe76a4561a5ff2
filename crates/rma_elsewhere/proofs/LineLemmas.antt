-- Lines that state the same call elsewhere.
use Rattle.std.proofs.Common.{◌≡◌, ℕ, ◌-◌, true, false, List, [], ◌∷◌, length, take, drop, Option, Some, None, Result, Ok, Err, refl, sym, ap, subst, ◌∙◌, ⊎_elim, suc, arith, eqb}
use Rattle.std.specs.Prelude.{codes, find, is_none, is_some, nat_lt, if◌then◌else◌}
use Rattle.std.specs.Option.{option_map_or}
use Rattle.std.proofs.lemmas.Bool.{cases_Bool, eqb-true, false≢true, le-ltb, ne_eqb}
use Rattle.std.proofs.lemmas.Slice.Eq.{bytes_eq-Decides}
use Rattle.rma_base.proofs.NameLemmas.{and_right}
use Rattle.rma_base.specs.declared.form_reason.FormReason.{FormReason}
use Rattle.rma_base.specs.declared.form_reason.FormReason.TheVariants.{BadNumber, WrongCount}
use Rattle.rma_base.specs.declared.version.Version.{Version}
use Rattle.rma_field.specs.Kinds.{Kind, Value, lock, name, operation, rank, ranks, target, meaning, name_of, rank_of, target_of, is_word, known, last_rank}
use Rattle.rma_field.specs.Numbers.{natural}
use Rattle.rma_field.specs.Sites as sites
use Rattle.rma_field.specs.Steps.{◌>>=◌}
use Rattle.rma_form.specs.Accesses.{address, count}
use Rattle.rma_form.specs.Fields.{Made, Values, made_of}
use Rattle.rma_form.specs.Forms.{some_bytes, tag, form_at, form_of, form_of_kind, form_of_verb, forms, event_of, has_verb, has_words, kind_words}
use Rattle.rma_form.specs.Lines.{begins_with, behind_at, counted, last_or, read_words, site_of, site_text, stated_by, stated_in}
use Rattle.rma_base.specs.declared.rank.Rank.{Rank as Rank_of_run}
use Rattle.rma_call.specs.declared.message.MessageCall.TheVariants as message
use Rattle.rma_call.specs.declared.message.Received.{Received as Came}
use Rattle.rma_call.specs.declared.what.SyncCall.TheVariants as sync
use Rattle.rma_form.specs.declared.event.Event.{Event}
use Rattle.rma_form.specs.declared.event.Event.TheVariants.{Call}
use Rattle.rma_form.specs.declared.event.Stated.{Stated}
use Rattle.rma_form.specs.declared.form.LineForm.{LineForm}
use Rattle.rma_form.specs.declared.form.LineForm.TheVariants as form
use Rattle.rma_form.proofs.KindLemmas.{bind_ok, made_from}
use Rattle.rma_form.specs.Tails.{Tail, TailValue, tail_counted, tail_of}
use Rattle.rma_known.specs.Elsewhere.{AreElsewhere, Details, IsElsewhere, Says, SaysAt, form_of_call, joined, name_alone, no_details, number_alone, part_of, places_of, request_alone}
use Rattle.rma_known.specs.declared.call_form.CallForm.{CallForm}
use Rattle.rma_known.specs.declared.call_form.CallForm.TheVariants.{Put, Get, Accumulate, GetAccumulate, FetchAndOp, CompareAndSwap, Load, Store, Poll, Comm, Barrier, Send, Recv, Isend, Irecv, Wait, Received, Fence, Post, PostOne, Start, StartOne, Complete, Expwait, Lock, Unlock, LockAll, UnlockAll, Flush, FlushAll, FlushLocal, FlushLocalAll, Sync, Attach, Detach, Bcast, Scatter, Gather, Reduce, Allreduce, Allgather, Alltoall}
use Rattle.rma_known.specs.declared.call_form.Part.{Part}
use Rattle.rma_known.specs.declared.call_form.Part.TheVariants as part
use Rattle.rma_known.specs.declared.call_form.Place.{Place}
use Rattle.rma_known.specs.declared.call_form.Place.TheVariants.{Same, Rank, Address, Tag, Name, Request}
use Rattle.rma_elsewhere.specs.Elsewhere.{IsStatedBy, event_at}
use Rattle.rma_elsewhere.proofs.AloneLemmas.{number_ranks}

-- what went well has one value
ok_one : {A : Type 0} (x y : A) → ◌≡◌ {A = Result A FormReason} (Ok x) (Ok y) → x ≡ y
ok_one x y same = cc same

-- ---- a word that is a number

-- it does not begin as a site
number_begins : (low high n : ℕ) (word : List ℕ) → natural low high word ≡ Ok n → begins_with 64 word ≡ false
number_begins low high n [] is = refl
number_begins low high n (byte ∷ word) is =
    ⊎_elim
    (λ (site : eqb byte 64 ≡ true).
    let some : eqb (length (64 ∷ word)) 0 ≡ false = ne_eqb (length (64 ∷ word)) 0 (λ same. omega arith) in
    let bad = rw some at (subst (λ first. natural low high (first ∷ word) ≡ Ok n) (eqb-true byte 64 site) is) in
    absurd (cc bad))
    (λ (other : eqb byte 64 ≡ false). other)
    (cases_Bool (eqb byte 64))

-- it is a rank
number_rank : (v : Version) (n : ℕ) (word : List ℕ) → natural 0 (last_rank v) word ≡ Ok n → rank_of v word ≡ Ok (record { 0 = n })
number_rank v n word is = rw is refl

-- it is a target
number_target : (v : Version) (n : ℕ) (word : List ℕ) → natural 0 (last_rank v) word ≡ Ok n → target_of v word ≡ Ok (Some (record { 0 = n }))
number_target v n word is =
    ⊎_elim
    (λ (null : is_word (codes "null") word ≡ true).
    let bad : Err BadNumber ≡ Ok n = subst (λ text. natural 0 (last_rank v) text ≡ Ok n) ((bytes_eq-Decides word (codes "null")).0 null) is in
    absurd (cc bad))
    (λ (other : is_word (codes "null") word ≡ false). rw (other, is) refl)
    (cases_Bool (is_word (codes "null") word))

-- ---- the last word of a line

-- a name does not begin as a site
name_begins : (word : List ℕ) → name_of word ≡ Ok word → begins_with 64 word ≡ false
name_begins [] is = refl
name_begins (byte ∷ word) is =
    ⊎_elim
    (λ (site : eqb byte 64 ≡ true).
    let bad = subst (λ first. name_of (first ∷ word) ≡ Ok (byte ∷ word)) (eqb-true byte 64 site) is in
    absurd (cc bad))
    (λ (other : eqb byte 64 ≡ false). other)
    (cases_Bool (eqb byte 64))

-- nor does a number
said_begins : (one : Part) (word : List ℕ) (said : Details) → Says one word said → begins_with 64 word ≡ false
said_begins (part.Number limit) word said is = number_begins 0 limit is.0 word is.1
said_begins part.Name word said is = name_begins word is.0
said_begins part.Request word said is = name_begins word is.0

-- where a word is no site, nor is that of the other line
said_behind : (one : Option Part) (word other : List ℕ) (said : Details) → SaysAt one word other said → behind_at (Some word) ≡ None → behind_at (Some other) ≡ None
said_behind None word other said is none = rw is.0 none
said_behind (Some one) word other said is none = rw (said_begins one other said is) refl

last_same : (own : List (List ℕ)) (one two : Option (List ℕ)) → (behind_at one ≡ None → behind_at two ≡ None) → behind_at (last_or one own) ≡ None → behind_at (last_or two own) ≡ None
last_same [] one two before none = before none
last_same (word ∷ own) one two before none = none

-- where the last word is no site, that of the other line is none
unsited_elsewhere : (v : Version) (places : List Place) (own others : List (List ℕ)) (to : Details) (one two : Option (List ℕ)) → (behind_at one ≡ None → behind_at two ≡ None)
    → AreElsewhere v places own others to → behind_at (last_or one own) ≡ None → behind_at (last_or two others) ≡ None
unsited_elsewhere v [] own others to one two before at none = subst (λ them. behind_at (last_or two them) ≡ None) at.0 (last_same own one two before none)
unsited_elsewhere v (place ∷ places) own others to one two before at none =
    rw at.7 (unsited_elsewhere v places at.2 at.3 at.5 (Some at.0) (Some at.1) (said_behind (part_of v place) at.0 at.1 at.4 at.8) at.9
    (subst (λ texts. behind_at (last_or one texts) ≡ None) at.6 none))

-- ---- the fields of a call

-- a field that is a number where the call is made, and what its number stands for
record Numbered : Type 0 where
  kind : Kind
  place : Place
  value : ℕ → Value kind
  reads : (v : Version) (word other : List ℕ) (said : Details) → SaysAt (part_of v place) word other said → (n : ℕ) × (meaning v kind other ≡ Ok (value n)) × (said ≡ number_alone n)

abbrev target_at : Numbered
target_at = record { kind = target; place = Rank; value = λ n. Some (record { 0 = n }); reads = λ v word other said is. (is.0, number_target v is.0 other is.1, is.2) }

abbrev rank_at : Numbered
rank_at = record { kind = rank; place = Rank; value = λ n. record { 0 = n }; reads = λ v word other said is. (is.0, number_rank v is.0 other is.1, is.2) }

abbrev alone_at : Numbered
alone_at = record { kind = ranks; place = Rank; value = λ n. n ∷ []; reads = λ v word other said is. (is.0, number_ranks v is.0 other is.1, is.2) }

abbrev address_at : Numbered
address_at = record { kind = address; place = Address; value = λ n. n; reads = λ v word other said is. (is.0, is.1, is.2) }

abbrev tag_at : Numbered
tag_at = record { kind = tag; place = Tag; value = λ n. n; reads = λ v word other said is. (is.0, is.1, is.2) }

-- a field: the same, of a kind; or a particular
data Field : Type 0 where
  kept : Kind → Field
  numbered : Numbered → Field
  named : Field
  requested : Field

-- their kinds, and what they say
abbrev kinds_of : List Field → List Kind
kinds_of [] = []
kinds_of (kept kind ∷ fields) = kind ∷ kinds_of fields
kinds_of (numbered it ∷ fields) = it.kind ∷ kinds_of fields
kinds_of (named ∷ fields) = name ∷ kinds_of fields
kinds_of (requested ∷ fields) = name ∷ kinds_of fields

abbrev places : List Field → List Place
places [] = []
places (kept kind ∷ fields) = Same ∷ places fields
places (numbered it ∷ fields) = it.place ∷ places fields
places (named ∷ fields) = Name ∷ places fields
places (requested ∷ fields) = Request ∷ places fields

-- the particulars, one by one
abbrev Particulars : List Field → Type 0
Particulars [] = Unit {0}
Particulars (kept kind ∷ fields) = Particulars fields
Particulars (numbered it ∷ fields) = ℕ × Particulars fields
Particulars (named ∷ fields) = List ℕ × Particulars fields
Particulars (requested ∷ fields) = List ℕ × Particulars fields

-- the same together
abbrev details_of : (fields : List Field) → Particulars fields → Details
details_of [] them = no_details
details_of (kept kind ∷ fields) them = details_of fields them
details_of (numbered it ∷ fields) them = joined (number_alone them.0) (details_of fields them.1)
details_of (named ∷ fields) them = joined (name_alone them.0) (details_of fields them.1)
details_of (requested ∷ fields) them = joined (request_alone them.0) (details_of fields them.1)

-- the values of the fields with these particulars
abbrev values_at : (fields : List Field) → Values (kinds_of fields) → Particulars fields → Values (kinds_of fields)
values_at [] values them = tt
values_at (kept kind ∷ fields) values them = (values.0, values_at fields values.1 them)
values_at (numbered it ∷ fields) values them = (it.value them.0, values_at fields values.1 them.1)
values_at (named ∷ fields) values them = (them.0, values_at fields values.1 them.1)
values_at (requested ∷ fields) values them = (them.0, values_at fields values.1 them.1)

-- This is made of the values of a line, and the other line has these values with these particulars.
record MakesElsewhere {A : Type 0} (v : Version) (fields : List Field) (make : Made (kinds_of fields) A) (others : List (List ℕ)) (to : Details) (made : A) : Type 0 where
  values : Values (kinds_of fields)
  them : Particulars fields
  own : made_from (kinds_of fields) make values ≡ made
  are : details_of fields them ≡ to
  other : (m : Made (kinds_of fields) A) → made_of v (kinds_of fields) m others ≡ Ok (made_from (kinds_of fields) m (values_at fields values them))

-- so it is, where the fields are those of the line, but for the particulars
made_elsewhere : {A : Type 0} (v : Version) (fields : List Field) (make : Made (kinds_of fields) A) (own others : List (List ℕ)) (to : Details) (made : A)
    → AreElsewhere v (places fields) own others to → made_of v (kinds_of fields) make own ≡ Ok made → MakesElsewhere v fields make others to made
made_elsewhere v [] make own others to made at is = record { values = tt; them = tt; own = cc is; are = sym at.1; other = λ m. refl }
made_elsewhere v (kept kind ∷ fields) make own others to made at is =
    let step = bind_ok (meaning v kind at.0) (λ value. made_of v (kinds_of fields) (make value) at.2) made (subst (λ them. made_of v (kind ∷ kinds_of fields) make them ≡ Ok made) at.6 is) in
    let rest = made_elsewhere v fields (make step.0) at.2 at.3 at.5 made at.9 step.2 in
    record {
      values = (step.0, rest.values);
      them = rest.them;
      own = rest.own;
      are = rest.are ∙ sym (at.10 ∙ ap (λ one. joined one at.5) at.8.1);
      other = λ m. rw at.7 (ap (λ read. read >>= λ value. made_of v (kinds_of fields) (m value) at.3) (ap (meaning v kind) at.8.0 ∙ step.1) ∙ rest.other (m step.0));
    }
made_elsewhere v (numbered it ∷ fields) make own others to made at is =
    let step = bind_ok (meaning v it.kind at.0) (λ value. made_of v (kinds_of fields) (make value) at.2) made (subst (λ them. made_of v (it.kind ∷ kinds_of fields) make them ≡ Ok made) at.6 is) in
    let rest = made_elsewhere v fields (make step.0) at.2 at.3 at.5 made at.9 step.2 in
    let reads = it.reads v at.0 at.1 at.4 at.8 in
    record {
      values = (step.0, rest.values);
      them = (reads.0, rest.them);
      own = rest.own;
      are = ap (λ more. joined (number_alone reads.0) more) rest.are ∙ sym (at.10 ∙ ap (λ one. joined one at.5) reads.2);
      other = λ m. rw at.7 (ap (λ read. read >>= λ value. made_of v (kinds_of fields) (m value) at.3) reads.1 ∙ rest.other (m (it.value reads.0)));
    }
made_elsewhere v (named ∷ fields) make own others to made at is =
    let step = bind_ok (name_of at.0) (λ value. made_of v (kinds_of fields) (make value) at.2) made (subst (λ them. made_of v (name ∷ kinds_of fields) make them ≡ Ok made) at.6 is) in
    let rest = made_elsewhere v fields (make step.0) at.2 at.3 at.5 made at.9 step.2 in
    record {
      values = (step.0, rest.values);
      them = (at.1, rest.them);
      own = rest.own;
      are = ap (λ more. joined (name_alone at.1) more) rest.are ∙ sym (at.10 ∙ ap (λ one. joined one at.5) at.8.1);
      other = λ m. rw at.7 (ap (λ read. read >>= λ value. made_of v (kinds_of fields) (m value) at.3) at.8.0 ∙ rest.other (m at.1));
    }
made_elsewhere v (requested ∷ fields) make own others to made at is =
    let step = bind_ok (name_of at.0) (λ value. made_of v (kinds_of fields) (make value) at.2) made (subst (λ them. made_of v (name ∷ kinds_of fields) make them ≡ Ok made) at.6 is) in
    let rest = made_elsewhere v fields (make step.0) at.2 at.3 at.5 made at.9 step.2 in
    record {
      values = (step.0, rest.values);
      them = (at.1, rest.them);
      own = rest.own;
      are = ap (λ more. joined (request_alone at.1) more) rest.are ∙ sym (at.10 ∙ ap (λ one. joined one at.5) at.8.1);
      other = λ m. rw at.7 (ap (λ read. read >>= λ value. made_of v (kinds_of fields) (m value) at.3) at.8.0 ∙ rest.other (m at.1));
    }

-- ---- what a line without a site states

-- the other line has as many fields, and the same behind those
tail_same : (v : Version) (fields : List Field) (own others : List (List ℕ)) (to : Details) → AreElsewhere v (places fields) own others to
    → (length others ≡ length own) × (drop (length (kinds_of fields)) others ≡ drop (length (kinds_of fields)) own)
tail_same v [] own others to at = (ap length (sym at.0), sym at.0)
tail_same v (kept kind ∷ fields) own others to at = let rest = tail_same v fields at.2 at.3 at.5 at.9 in (rw (at.6, at.7) (ap suc rest.0), rw (at.6, at.7) rest.1)
tail_same v (numbered it ∷ fields) own others to at = let rest = tail_same v fields at.2 at.3 at.5 at.9 in (rw (at.6, at.7) (ap suc rest.0), rw (at.6, at.7) rest.1)
tail_same v (named ∷ fields) own others to at = let rest = tail_same v fields at.2 at.3 at.5 at.9 in (rw (at.6, at.7) (ap suc rest.0), rw (at.6, at.7) rest.1)
tail_same v (requested ∷ fields) own others to at = let rest = tail_same v fields at.2 at.3 at.5 at.9 in (rw (at.6, at.7) (ap suc rest.0), rw (at.6, at.7) rest.1)

-- the number of fields of a row, its event, and what its line states without a site
abbrev row_counted : Version → ℕ → Tail → List (List ℕ) → Result (Unit {0}) FormReason
row_counted v n tail them = if nat_lt (length them) n then Err WrongCount else tail_counted v tail (drop n them)

abbrev row_event : (v : Version) (kinds : List Kind) (tail : Tail) → Made kinds (TailValue tail → Event) → List (List ℕ) → Result Event FormReason
row_event v kinds tail make them = made_of v kinds make them >>= λ made. tail_of v tail (drop (length kinds) them) >>= λ value. Ok (made value)

abbrev row_stated : (v : Version) (kinds : List Kind) (tail : Tail) → Made kinds (TailValue tail → Event) → List (List ℕ) → Result Stated FormReason
row_stated v kinds tail make them = row_counted v (length kinds) tail them >>= λ _. row_event v kinds tail make them >>= λ event. Ok (record { event = event; site = None })

module _ (v : Version) (fields : List Field) (tail : Tail) (make : Made (kinds_of fields) (TailValue tail → Event)) (own others : List (List ℕ)) (to : Details) (event : Event)
    (at : AreElsewhere v (places fields) own others to)
    (alike : (values : Values (kinds_of fields)) (them : Particulars fields) (value : TailValue tail)
    → event_at (made_from (kinds_of fields) make values value) (details_of fields them) ≡ made_from (kinds_of fields) make (values_at fields values them) value) where
  -- the event of the other line is that of the line, elsewhere
  event_elsewhere : row_event v (kinds_of fields) tail make own ≡ Ok event → row_event v (kinds_of fields) tail make others ≡ Ok (event_at event to)
  event_elsewhere is =
      let kinds = kinds_of fields in
      let step = bind_ok (made_of v kinds make own) (λ made. tail_of v tail (drop (length kinds) own) >>= λ value. Ok (made value)) event is in
      let behind = bind_ok (tail_of v tail (drop (length kinds) own)) (λ value. Ok (step.0 value)) event step.2 in
      let it = made_elsewhere v fields make own others to step.0 at step.1 in
      let same : made_from kinds make it.values behind.0 ≡ event = ap (λ made. made behind.0) it.own ∙ ok_one (step.0 behind.0) event behind.2 in
      let there : event_at event to ≡ made_from kinds make (values_at fields it.values it.them) behind.0 =
      ap (event_at event) (sym it.are) ∙ ap (λ e. event_at e (details_of fields it.them)) (sym same) ∙ alike it.values it.them behind.0 in
      let tail_is : tail_of v tail (drop (length kinds) others) ≡ Ok behind.0 = ap (tail_of v tail) (tail_same v fields own others to at).1 ∙ behind.1 in
      rw (it.other make, tail_is, there) refl

  row_elsewhere : row_stated v (kinds_of fields) tail make own ≡ Ok (record { event = event; site = None })
      → row_stated v (kinds_of fields) tail make others ≡ Ok (record { event = event_at event to; site = None })
  row_elsewhere is =
      let same_tail = tail_same v fields own others to at in
      let passed = bind_ok (row_counted v (length (kinds_of fields)) tail own) _ _ is in
      let read = bind_ok (row_event v (kinds_of fields) tail make own) (λ it. Ok (record { event = it; site = None })) _ passed.2 in
      let same : read.0 ≡ event = ap (λ (stated : Stated). stated.event) (ok_one _ _ read.2) in
      let counts : row_counted v (length (kinds_of fields)) tail others ≡ Ok passed.0 = rw (same_tail.0, same_tail.1) passed.1 in
      rw (counts, event_elsewhere (read.1 ∙ ap Ok same)) refl

-- the fields of each call, as far as they are told one by one
abbrev buffer_fields : List Field
buffer_fields = numbered address_at ∷ kept count ∷ kept name ∷ []

abbrev transfer_fields : List Field
transfer_fields = kept name ∷ numbered target_at ∷ numbered address_at ∷ kept count ∷ kept name ∷ buffer_fields

abbrev fetching_fields : List Field
fetching_fields = kept name ∷ numbered target_at ∷ numbered address_at ∷ kept count ∷ kept name ∷ numbered address_at ∷ kept count ∷ kept name ∷ buffer_fields

abbrev message_fields : List Field
message_fields = numbered rank_at ∷ numbered tag_at ∷ named ∷ []

abbrev rooted_fields : List Field
rooted_fields = numbered rank_at ∷ numbered address_at ∷ named ∷ []

abbrev rootless_fields : List Field
rootless_fields = numbered address_at ∷ named ∷ []

abbrev fields_of : CallForm → List Field
fields_of Put = transfer_fields
fields_of Get = transfer_fields
fields_of Accumulate = kept operation ∷ transfer_fields
fields_of GetAccumulate = kept operation ∷ fetching_fields
fields_of FetchAndOp = kept operation ∷ kept name ∷ numbered target_at ∷ numbered address_at ∷ kept name ∷ numbered address_at ∷ numbered address_at ∷ []
fields_of CompareAndSwap = kept name ∷ numbered target_at ∷ numbered address_at ∷ kept name ∷ numbered address_at ∷ numbered address_at ∷ numbered address_at ∷ []
fields_of Load = buffer_fields
fields_of Store = buffer_fields
fields_of Poll = buffer_fields
fields_of Comm = named ∷ kept ranks ∷ []
fields_of Barrier = named ∷ []
fields_of Send = message_fields
fields_of Recv = message_fields
fields_of Isend = requested ∷ message_fields
fields_of Irecv = requested ∷ named ∷ []
fields_of Wait = requested ∷ []
fields_of Received = requested ∷ []
fields_of Fence = named ∷ []
fields_of Post = named ∷ kept ranks ∷ []
fields_of PostOne = named ∷ numbered alone_at ∷ []
fields_of Start = named ∷ kept ranks ∷ []
fields_of StartOne = named ∷ numbered alone_at ∷ []
fields_of Complete = named ∷ []
fields_of Expwait = named ∷ []
fields_of Lock = named ∷ numbered rank_at ∷ kept lock ∷ []
fields_of Unlock = named ∷ numbered rank_at ∷ []
fields_of LockAll = named ∷ []
fields_of UnlockAll = named ∷ []
fields_of Flush = named ∷ numbered rank_at ∷ []
fields_of FlushAll = named ∷ []
fields_of FlushLocal = named ∷ numbered rank_at ∷ []
fields_of FlushLocalAll = named ∷ []
fields_of Sync = named ∷ []
fields_of Attach = named ∷ numbered address_at ∷ kept some_bytes ∷ []
fields_of Detach = named ∷ numbered address_at ∷ []
fields_of Bcast = rooted_fields
fields_of Scatter = rooted_fields
fields_of Gather = rooted_fields
fields_of Reduce = rooted_fields
fields_of Allreduce = rootless_fields
fields_of Allgather = rootless_fields
fields_of Alltoall = rootless_fields

-- ---- the completion of a request with what came, which stands behind the fields

-- what its line states, by the request, the source and the tag
abbrev completes : List ℕ → Option Came → Event
completes own came = Call (sync.Message (message.Wait came)) (Some own)

abbrev completion : Result (List ℕ) FormReason → Result Rank_of_run FormReason → Result ℕ FormReason → Result Stated FormReason
completion request source tagged =
    ((request >>= λ own. Ok (completes own))
    >>= λ make. (source >>= λ from. tagged >>= λ t. Ok (Some (record { from = from; tag = t }))) >>= λ value. Ok (make value))
    >>= λ event. Ok (record { event = event; site = None })

completed : (request : Result (List ℕ) FormReason) (source : Result Rank_of_run FormReason) (tagged : Result ℕ FormReason) (event : Event)
    → completion request source tagged ≡ Ok (record { event = event; site = None }) → (came : Option Came) × (own : List ℕ) × (event ≡ Call (sync.Message (message.Wait came)) (Some own))
completed (Ok own) (Ok from) (Ok t) event is = (Some (record { from = from; tag = t }), own, ap (λ (stated : Stated). stated.event) (ok_one _ _ (sym is)))
completed (Ok own) (Ok from) (Err reason) event is = absurd (cc is)
completed (Ok own) (Err reason) tagged event is = absurd (cc is)
completed (Err reason) source tagged event is = absurd (cc is)

module _ (v : Version) (own others : List (List ℕ)) (to : Details) (event : Event) (at : AreElsewhere v (places_of Received) own others to) where
  -- what stands behind the source and the tag
  received_with : (more : List (List ℕ)) → stated_in v form.Wait (at.0 ∷ at.9.0 ∷ at.9.9.0 ∷ more) None ≡ Ok (record { event = event; site = None })
      → stated_in v form.Wait (at.1 ∷ at.9.1 ∷ at.9.9.1 ∷ more) None ≡ Ok (record { event = event_at event to; site = None })
  received_with (word ∷ more) is =
      let words = at.9.0 ∷ at.9.9.0 ∷ word ∷ more in
      let some : eqb (length words) 0 ≡ false = ne_eqb (length words) 0 (λ same. omega (arith, same)) in
      let three : eqb (length words) 2 ≡ false = ne_eqb (length words) 2 (λ same. omega (arith, same)) in
      let enough : nat_lt (length (at.0 ∷ words)) 1 ≡ false = le-ltb (length (at.0 ∷ words)) 1 (omega arith) in
      let counts : counted v form.Wait (at.0 ∷ words) ≡ Err WrongCount = rw (enough, some, three) refl in
      let passed = bind_ok (counted v form.Wait (at.0 ∷ words)) _ _ is in
      let bad : Err WrongCount ≡ Ok passed.0 = sym counts ∙ passed.1 in
      absurd (cc bad)
  received_with [] is =
      let source = at.9.8 in
      let tagged = at.9.9.8 in
      let it = completed (name_of at.0) (rank_of v at.9.0) (natural 0 2147483647 at.9.9.0) event is in
      let whole : Details = joined (request_alone at.1) (joined (number_alone source.0) (joined (number_alone tagged.0) no_details)) in
      let said : to ≡ whole =
      at.10 ∙ ap (λ one. joined one at.5) at.8.1 ∙ ap (joined (request_alone at.1)) (at.9.10 ∙ ap (λ one. joined one at.9.5) source.2)
      ∙ ap (λ more. joined (request_alone at.1) (joined (number_alone source.0) more)) (at.9.9.10 ∙ ap (λ one. joined one at.9.9.5) tagged.2)
      ∙ ap (λ more. joined (request_alone at.1) (joined (number_alone source.0) (joined (number_alone tagged.0) more))) at.9.9.9.1 in
      let from : Rank_of_run = record { 0 = source.0 } in
      let there : event_at event to ≡ Call (sync.Message (message.Wait (Some (record { from = from; tag = tagged.0 })))) (Some at.1) = ap (λ e. event_at e to) it.2 ∙ ap (event_at (Call (sync.Message (message.Wait it.0)) (Some it.1))) said in
      ap (λ request. completion request (rank_of v at.9.1) (natural 0 2147483647 at.9.9.1)) at.8.0
      ∙ ap (λ rank. completion (Ok at.1) rank (natural 0 2147483647 at.9.9.1)) (number_rank v source.0 at.9.1 source.1)
      ∙ ap (λ tag. completion (Ok at.1) (Ok from) tag) tagged.1
      ∙ ap (λ e. Ok (record { event = e; site = None })) (sym there)

  received_elsewhere : stated_in v form.Wait own None ≡ Ok (record { event = event; site = None }) → stated_in v form.Wait others None ≡ Ok (record { event = event_at event to; site = None })
  received_elsewhere is =
      let more = at.9.9.2 in
      let own_is : own ≡ at.0 ∷ at.9.0 ∷ at.9.9.0 ∷ more = at.6 ∙ ap (λ them. at.0 ∷ them) (at.9.6 ∙ ap (λ them. at.9.0 ∷ them) at.9.9.6) in
      let others_are : others ≡ at.1 ∷ at.9.1 ∷ at.9.9.1 ∷ more =
      at.7 ∙ ap (λ them. at.1 ∷ them) (at.9.7 ∙ ap (λ them. at.9.1 ∷ them) (at.9.9.7 ∙ ap (λ them. at.9.9.1 ∷ them) (sym at.9.9.9.0))) in
      subst (λ them. stated_in v form.Wait them None ≡ Ok (record { event = event_at event to; site = None })) (sym others_are)
      (received_with more (subst (λ them. stated_in v form.Wait them None ≡ Ok (record { event = event; site = None })) own_is is))

-- what the other line states is that of the line, elsewhere
access_elsewhere : (v : Version) (access : CallForm) (own others : List (List ℕ)) (to : Details) (event : Event) → AreElsewhere v (places_of access) own others to
    → stated_in v (form_of_call access) own None ≡ Ok (record { event = event; site = None })
    → stated_in v (form_of_call access) others None ≡ Ok (record { event = event_at event to; site = None })
access_elsewhere v Received own others to event at is = received_elsewhere v own others to event at is
access_elsewhere v access own others to event at is =
    row_elsewhere v (fields_of access) (form_at (form_of_call access)).tail (form_at (form_of_call access)).event own others to event at (λ values them value. refl) is

-- ---- the form of a line

-- a form that has the word of a kind is not without one
has_kind : (word : Option (List ℕ)) (kind : List ℕ) → option_map_or (λ own. is_word own kind) word false ≡ true → is_none word ≡ true → ⊥
has_kind None kind has none = false≢true has
has_kind (Some word) kind has none = false≢true none

-- no form without such a word is found by it
kind_found : (v : Version) (verb kind : List ℕ) (them : List LineForm) (form : LineForm) → is_none (form_at form).kind_word ≡ true → known (find (has_words v verb kind) them) ≡ Ok form → ⊥
kind_found v verb kind [] form none is = cc is
kind_found v verb kind (first ∷ them) form none is =
    ⊎_elim
    (λ (here : has_words v verb kind first ≡ true).
    has_kind (form_at first).kind_word kind (and_right (has_verb v verb first) _ here)
    (subst (λ it. is_none (form_at it).kind_word ≡ true) (sym (ok_one first form (rw here at is))) none))
    (λ (other : has_words v verb kind first ≡ false). kind_found v verb kind them form none (rw other at is))
    (cases_Bool (has_words v verb kind first))

kind_none : (v : Version) (verb : List ℕ) (own : List (List ℕ)) (form : LineForm) → is_none (form_at form).kind_word ≡ true → form_of_kind v verb own ≡ Ok form → ⊥
kind_none v verb [] form none is = cc is
kind_none v verb (kind ∷ rest) form none is = kind_found v verb kind forms form none is

-- a form without such a word is that of each line with its verb
form_by_verb : (v : Version) (verb : List ℕ) (found : Option LineForm) (own others : List (List ℕ)) (form : LineForm) → is_none (form_at form).kind_word ≡ true
    → form_of_verb v verb found own ≡ Ok form → form_of_verb v verb found others ≡ Ok form
form_by_verb v verb None own others form none is = absurd (cc is)
form_by_verb v verb (Some first) own others form none is =
    ⊎_elim
    (λ (plain : is_none (form_at first).kind_word ≡ true). rw plain (rw plain at is))
    (λ (kinds : is_none (form_at first).kind_word ≡ false). absurd (kind_none v verb own form none (rw kinds at is)))
    (cases_Bool (is_none (form_at first).kind_word))

-- the forms of accesses have none
plain_access : (access : CallForm) → is_none (form_at (form_of_call access)).kind_word ≡ true
plain_access Put = refl
plain_access _ = refl

-- ---- a line

-- a line that states something without a site has none
unsited : (v : Version) (form : LineForm) (them : List (List ℕ)) (text : Option (List ℕ)) (event : Event) → stated_in v form them text ≡ Ok (record { event = event; site = None }) → text ≡ None
unsited v form them None event is = refl
unsited v form them (Some text) event is =
    let passed = bind_ok (counted v form them) _ _ is in
    let sited = bind_ok (site_of (Some text)) _ _ passed.2 in
    let site = bind_ok (sites.site text) _ _ sited.1 in
    let read = bind_ok (event_of v form (drop (kind_words form) them)) _ _ sited.2 in
    let none : Some site.0 ≡ None = ok_one (Some site.0) sited.0 site.2 ∙ ap (λ (stated : Stated). stated.site) (ok_one _ _ read.2) in
    absurd (cc none)

-- what a line without a site states
stated_unsited : (v : Version) (verb : List ℕ) (rest : List (List ℕ)) → site_text rest ≡ None → stated_by v verb rest ≡ (form_of v verb rest >>= λ form. stated_in v form rest None)
stated_unsited v verb rest none =
    ap (λ text. form_of v verb (if is_some text then take (length rest - 1) rest else rest) >>= λ form. stated_in v form (if is_some text then take (length rest - 1) rest else rest) text) none

-- a line that states something is no comment
read_stated : (v : Version) (verb : List ℕ) (rest : List (List ℕ)) (stated : Stated) → read_words v (verb ∷ rest) ≡ Ok (Some stated)
    → (begins_with 35 verb ≡ false) × (stated_by v verb rest ≡ Ok stated)
read_stated v verb rest stated is =
    ⊎_elim
    (λ (comment : begins_with 35 verb ≡ true). absurd (let bad = rw comment at is in cc bad))
    (λ (other : begins_with 35 verb ≡ false).
    let step = bind_ok (stated_by v verb rest) (λ it. Ok (Some it)) (Some stated) (rw other at is) in
    let same : step.0 ≡ stated = cc step.2 in
    (other, step.1 ∙ ap Ok same))
    (cases_Bool (begins_with 35 verb))

-- the words of the other line state the access elsewhere
read_elsewhere : (v : Version) (access : CallForm) (verb : List ℕ) (own others : List (List ℕ)) (to : Details) (event : Event)
    → form_of v verb own ≡ Ok (form_of_call access) → AreElsewhere v (places_of access) own others to
    → read_words v (verb ∷ own) ≡ Ok (Some (record { event = event; site = None })) → read_words v (verb ∷ others) ≡ Ok (Some (record { event = event_at event to; site = None }))
read_elsewhere v access verb own others to event form at is =
    let stated = read_stated v verb own _ is in
    let found = bind_ok (form_of v verb _) _ _ stated.1 in
    let none : site_text own ≡ None = unsited v found.0 _ (site_text own) event found.2 in
    let states : stated_in v (form_of_call access) own None ≡ Ok (record { event = event; site = None }) =
    ap (λ read. read >>= λ it. stated_in v it own None) (sym form) ∙ sym (stated_unsited v verb own none) ∙ stated.1 in
    let there : form_of v verb others ≡ Ok (form_of_call access) = form_by_verb v verb (find (has_verb v verb) forms) own others (form_of_call access) (plain_access access) form in
    let says : stated_by v verb others ≡ Ok (record { event = event_at event to; site = None }) =
    stated_unsited v verb others (unsited_elsewhere v (places_of access) own others to None None (λ same. same) at none)
    ∙ ap (λ read. read >>= λ it. stated_in v it others None) there
    ∙ access_elsewhere v access own others to event at states in
    rw (stated.0, says) refl

-- so does the other line
elsewhere_states : (v : Version) (access : CallForm) (words others : List ℕ) (to : Details) (event : Event) → IsStatedBy v words event → IsElsewhere v access words others to
    → IsStatedBy v others (event_at event to)
elsewhere_states v access words others to event is at =
    ap (read_words v) at.others_are
    ∙ read_elsewhere v access at.verb at.own at.other to event at.has_form at.elsewhere (ap (read_words v) (sym at.words_are) ∙ is)

-- Where a line states an access, each line of the same words but for where states it there, and it is itself where its own numbers say.
pub stated_elsewhere : (v : Version) (access : CallForm) (words others : List ℕ) (from to : Details) (event : Event)
    → IsStatedBy v words event → IsElsewhere v access words words from → IsElsewhere v access words others to
    → IsStatedBy v others (event_at event to) × (event_at event from ≡ event)
stated_elsewhere v access words others from to event is own at =
    let same = ok_one _ _ (sym (elsewhere_states v access words words from event is own) ∙ is) in
    (elsewhere_states v access words others to event is at, ap (λ (it : Option Stated). option_map_or (λ stated. stated.event) it event) same)
