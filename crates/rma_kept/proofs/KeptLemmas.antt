-- A call of a good event is as it may be after the calls of the events before.
use Rattle.std.proofs.Common.{◌≡◌, ◌≢◌, ℕ, ◌+◌, ◌<◌, ◌≤◌, Bool, true, false, not, ◌||◌, List, [], ◌∷◌, length, Option, Some, None, is_none, is_some, cond, refl, sym, ap, ◌∙◌, ◌⊎◌, inl, inr, ⊎_elim, arith}
use Rattle.std.specs.List.{Contains, list_any}
use Rattle.std.specs.Option.{option_map_or, option_and_then}
use Rattle.std.specs.Prelude.{IsTrue, nat_lt}
use Rattle.std.proofs.lemmas.Bool.{ltb-false, ltb-true, not-false, or_cases, or_parts}
use Rattle.std.proofs.lemmas.List.Elements.{All-cons, All-nil}
use Rattle.rma_base.specs.Limits.{address_limit}
use Rattle.rma_base.specs.RankSet.{has_number}
use Rattle.rma_buffer.proofs.BasicLemmas.{same_words}
use Rattle.rma_call.specs.Call.{Call}
use Rattle.rma_form.specs.declared.event.Event.{Event}
use Rattle.rma_judge.specs.Judging.{differ, is_far}
use Rattle.rma_judge.specs.Naming.{Attributes, attributes_of, is_end}
use Rattle.rma_judge.specs.Names.{had_window, has_comm, has_pending, is_fixed, is_same, is_there, members, pending, request_number, window_state, world, made_by, number_at, number_of, has_member}
use Rattle.rma_judge.specs.declared.names.Pending.{Pending}
use Rattle.rma_judge.specs.declared.names.WindowState.{WindowState}
use Rattle.rma_kept.specs.Kept.{AreKept, IsKeptAfter}
use Rattle.rma_kept.specs.Naming.{AreRanks, Attaches, Creates, CreatesAs, Declares, DeclaresWith, GivesMemory, NamesComm, NamesGroup, NamesRank, NamesWindow, NoCall, SomeCall, names_of, NamesRoot}
use Rattle.rma_kept.specs.Requests.{Awaits, Makes, received_by, receives, has_request}
use Rattle.rma_kept.proofs.AmongLemmas.{option_false, other_name}
use Rattle.rma_kept.proofs.CommLemmas.{CommIs, declared_is, undeclared_is}
use Rattle.rma_kept.proofs.GoodLemmas.{IsGood}
use Rattle.rma_kept.proofs.MemoryLemmas.{TouchesGood}
use Rattle.rma_kept.proofs.NamingLemmas.{attached_is, created_is, unnamed, root_is}
use Rattle.rma_kept.proofs.PendingLemmas.{RequestsAre, awaited_once, made_before, word_is}
use Rattle.rma_kept.proofs.RequestLemmas.{awaits_pending, makes_next, number_is}
use Rattle.rma_kept.proofs.RequestNameLemmas.{NamesRequest, SaysRequest, request_of}
use Rattle.rma_kept.proofs.WindowLemmas.{WindowIs, dynamic_is, there_is}

-- what holds after so many lines, which state these events and record these calls
pub record StateIs (rank logs lines : ℕ) (events : List Event) (calls : List Call) : Type 0 where
  pub kept : AreKept rank logs calls
  pub line : (call : Call) → Contains calls call → call.line.0 ≤ lines
  pub few : length calls + cond (list_any is_end events) 1 0 ≤ lines
  pub window : (name : List ℕ) → WindowIs (window_state events name) name calls
  pub comm : (name : List ℕ) → CommIs (members events name) name calls
  pub request : RequestsAre events calls
  pub completed : list_any is_end events ≡ true → has_pending events ≡ false

-- the call is that of the event
pub record IsOfEvent (events : List Event) (event : Event) (call : Call) : Type 0 where
  pub names : names_of call.what ≡ unnamed (attributes_of event)
  pub says : SaysRequest (attributes_of event) call.what
  pub number : call.request ≡ request_number events (attributes_of event)
  pub touches : TouchesGood call.what
  pub asks : has_request call.what ≡ true → NamesRequest (attributes_of event)

new_is : (state : Option WindowState) (window : List ℕ) (calls : List Call) → is_some state ≡ false → WindowIs state window calls → NoCall (Creates window) calls
new_is None window calls none h = h.0
new_is (Some state) window calls none h = cc

alike : (a b : Bool) → differ a b ≡ false → b ≡ a
alike true true h = refl
alike true false h = cc
alike false true h = cc
alike false false h = refl

none_far : (logs : ℕ) (ranks : List ℕ) → list_any (is_far logs) ranks ≡ false → AreRanks logs ranks
none_far logs [] none = All-nil (λ rank. rank < logs)
none_far logs (rank ∷ ranks) none =
    let parts = or_parts (is_far logs rank) (list_any (is_far logs) ranks) none in
    All-cons (λ rank. rank < logs) rank ranks (ltb-true rank logs (not-false (nat_lt rank logs) parts.0)) (none_far logs ranks parts.1)

module _ (rank logs lines : ℕ) (events : List Event) (event : Event) (calls : List Call) (call : Call) (h : StateIs rank logs lines events calls) (good : IsGood rank logs events event)
    (is : IsOfEvent events event call) where
  abbrev it : Attributes
  it = attributes_of event

  free : (option_map_or (λ (declared : List ℕ × List ℕ). has_comm events declared.0) it.declared false ≡ false) × (option_map_or (had_window events) it.created false ≡ false)
  free =
      let first = or_parts (option_map_or (λ (declared : List ℕ × List ℕ). has_comm events declared.0) it.declared false)
      (option_map_or (had_window events) it.created false || option_map_or (λ (made : List ℕ × Bool). is_some (pending events made.0)) it.made false) good.free in
      (first.0, (or_parts (option_map_or (had_window events) it.created false) (option_map_or (λ (made : List ℕ × Bool). is_some (pending events made.0)) it.made false) first.1).0)

  -- ---- windows

  is_live : (window : List ℕ) → NamesWindow window call → is_there (window_state events window) ≡ true
  is_live window names =
      not-false (is_there (window_state events window))
      (option_false (λ name. not (is_there (window_state events name))) it.needed_window window good.window (sym (ap (λ (a : Attributes). a.needed_window) is.names) ∙ names))

  pub not_had : (window : List ℕ) → Creates window call → had_window events window ≡ false
  not_had window creates =
      option_false (had_window events) it.created window free.1 (sym (ap (λ (a : Attributes). a.created) is.names) ∙ created_is call.what window creates.0 creates.1)

  dynamic : (window : List ℕ) → Attaches window call → SomeCall (CreatesAs true window) calls
  dynamic window attaches =
      dynamic_is (window_state events window) window calls (is_live window (attached_is call.what window attaches))
      (option_false (λ name. is_fixed (window_state events name)) it.attached window good.dynamic (sym (ap (λ (a : Attributes). a.attached) is.names) ∙ attaches))
      (h.window window)

  in_space : (address bytes : ℕ) → GivesMemory address bytes call → address + bytes ≤ address_limit
  in_space address bytes gives =
      ltb-false address_limit (address + bytes)
      (option_false (λ (memory : ℕ × ℕ). nat_lt address_limit (memory.0 + memory.1)) it.memory (address, bytes) good.space (sym (ap (λ (a : Attributes). a.memory) is.names) ∙ gives))

  -- ---- ranks

  near : (option_map_or (list_any (is_far logs)) it.group false ≡ false) × (option_map_or (is_far logs) it.rank false ≡ false)
  near = or_parts (option_map_or (list_any (is_far logs)) it.group false) (option_map_or (is_far logs) it.rank false) good.ranks

  of_log : (other : ℕ) → NamesRank other call → other < logs
  of_log other names =
      ltb-true other logs (not-false (nat_lt other logs) (option_false (is_far logs) it.rank other near.1 (sym (ap (λ (a : Attributes). a.rank) is.names) ∙ names)))

  of_logs : (ranks : List ℕ) → NamesGroup ranks call → AreRanks logs ranks
  of_logs ranks names = none_far logs ranks (option_false (list_any (is_far logs)) it.group ranks near.0 (sym (ap (λ (a : Attributes). a.group) is.names) ∙ names))

  -- ---- requests

  came : (number : ℕ) (other : Call) → Awaits number call → Contains calls other → Makes number other → is_some (received_by call.what) ≡ receives other.what
  came number other awaits among makes =
      let found = awaits_pending events it call is.says is.number number awaits in
      let word = is_some (received_by call.what) in
      let right = option_false (λ (wait : List ℕ × Bool). option_map_or (λ (request : Pending). differ request.receives wait.1) (pending events wait.0) false) it.awaited (found.name, word) good.wait found.awaited in
      let same = alike found.request.receives word (option_false (λ (request : Pending). differ request.receives word) (pending events found.name) found.request right found.is) in
      same ∙ sym (word_is events event calls call is.says is.number h.request good.request number found other among makes)

  some_request : has_request call.what ≡ true → (number : ℕ) × (call.request ≡ Some number)
  some_request has = by (is.asks has)
    where
      found : (name : List ℕ) (word : Bool) (request : Option Pending) → it.awaited ≡ request_of name word → pending events name ≡ request → is_none request ≡ false
          → (number : ℕ) × (call.request ≡ Some number)
      found name word None awaited state none = cc
      found name word (Some request) awaited state none =
          let p = h.request.is_pending name request state in
          (p.number, number_is events it call is.says is.number None (request_of name word) (is.says.awaited name word awaited).2 awaited ∙ ap (option_and_then number_of) state ∙ ap number_at p.ordinal)

      by : NamesRequest it → (number : ℕ) × (call.request ≡ Some number)
      by (name, word, inl made) = (made_by events, number_is events it call is.says is.number (request_of name word) it.awaited made refl)
      by (name, word, inr awaited) =
          found name word (pending events name) awaited refl (option_false (λ (wait : List ℕ × Bool). is_none (pending events wait.0)) it.awaited (name, word) good.request awaited)

  new_request : (number : ℕ) → Makes number call → NoCall (Makes number) calls
  new_request number makes other among does =
      let next = makes_next events it call is.says is.number number makes in
      let same = next.is in
      let below = h.request.made other number among does in
      absurd (omega arith)

  known_request : (number : ℕ) → Awaits number call → SomeCall (Makes number) calls × NoCall (Awaits number) calls
  known_request number awaits =
      let found = awaits_pending events it call is.says is.number number awaits in
      (made_before events event calls call is.says is.number h.request good.request number found, awaited_once events event calls call is.says is.number h.request good.request number found)

  -- ---- communicators

  comm_there : (comm : List ℕ) → NamesComm comm call → (comm ≡ world) ⊎ SomeCall (Declares comm) calls
  comm_there comm names = ⊎_elim
      (λ (all : is_same world comm ≡ true). inl (sym (same_words world comm all)))
      (λ (some : is_some (members events comm) ≡ true). inr (declared_is (members events comm) comm calls some (h.comm comm)))
      (or_cases (is_same world comm) (is_some (members events comm)) (not-false (has_comm events comm)
      (option_false (λ name. not (has_comm events name)) it.needed_comm comm good.comm (sym (ap (λ (a : Attributes). a.needed_comm) is.names) ∙ names))))

  comm_new : (comm : List ℕ) → Declares comm call → (comm ≢ world) × NoCall (Declares comm) calls
  comm_new comm declares =
      let parts = or_parts (is_same world comm) (is_some (members events comm))
      (option_false (λ (declared : List ℕ × List ℕ). has_comm events declared.0) it.declared (comm, declares.0) free.0 (sym (ap (λ (a : Attributes). a.declared) is.names) ∙ declares.1)) in
      (λ same. other_name world comm parts.0 (sym same), undeclared_is (members events comm) comm calls parts.1 (h.comm comm))

  has_itself : (comm members : List ℕ) → DeclaresWith comm members call → IsTrue (has_number rank members)
  has_itself comm members declares =
      not-false (has_number rank members)
      (option_false (λ (declared : List ℕ × List ℕ). not (has_number rank declared.1)) it.declared (comm, members) good.itself (sym (ap (λ (a : Attributes). a.declared) is.names) ∙ declares))

  has_root : (comm : List ℕ) (root : ℕ) → NamesRoot comm root call → (comm ≡ world) ⊎ ((members : List ℕ) × SomeCall (DeclaresWith comm members) calls × IsTrue (has_number root members))
  has_root comm root names =
      by (members events comm) refl
      (not-false (has_member logs events comm root)
      (option_false (λ (own : List ℕ × ℕ). not (has_member logs events own.0 own.1)) it.root (comm, root) good.root (sym (ap (λ (a : Attributes). a.root) is.names) ∙ names)))
      (h.comm comm)
      (not-false (has_comm events comm)
      (option_false (λ name. not (has_comm events name)) it.needed_comm comm good.comm (sym (ap (λ (a : Attributes). a.needed_comm) is.names) ∙ root_is call.what comm root names)))
    where
      by : (found : Option (List ℕ)) → members events comm ≡ found → option_map_or (has_number root) (members events comm) (nat_lt root logs) ≡ true → CommIs (members events comm) comm calls
          → (is_same world comm || is_some (members events comm)) ≡ true → (comm ≡ world) ⊎ ((members : List ℕ) × SomeCall (DeclaresWith comm members) calls × IsTrue (has_number root members))
      by None found is_member declared there = ⊎_elim
          (λ (all : is_same world comm ≡ true). inl (sym (same_words world comm all)))
          (λ (some : is_some (members events comm) ≡ true). let wrong : false ≡ true = ap is_some (sym found) ∙ some in cc wrong)
          (or_cases (is_same world comm) (is_some (members events comm)) there)
      by (Some numbers) found is_member declared there =
          inr (numbers, rw found at declared, ap (λ (o : Option (List ℕ)). option_map_or (has_number root) o (nat_lt root logs)) (sym found) ∙ is_member)

  -- ---- all of it

  pub kept_after : call.line.0 ≡ lines + 1 → IsKeptAfter rank logs calls call
  kept_after at = record {
    line = λ other among. let le = h.line other among in omega arith;
    window_is_there = λ window names. there_is (window_state events window) window calls (is_live window names) (h.window window);
    window_is_new = λ window creates. new_is (window_state events window) window calls (not_had window creates) (h.window window);
    window_is_dynamic = dynamic;
    memory_in_space = in_space;
    rank_has_log = of_log;
    group_has_logs = of_logs;
    buffers_in_space = is.touches.buffers;
    buffers_are_canonical = is.touches.canonical;
    target_near_start = λ access does. (is.touches.access access does).near;
    target_is_canonical = λ access does. (is.touches.access access does).target_canonical;
    touches_nothing = λ access does untargeted. (is.touches.access access does).nothing untargeted;
    writes_once = λ access does writes. (is.touches.access access does).once writes;
    has_element = λ access does accumulates some. (is.touches.access access does).element accumulates some;
    request_is_some = some_request;
    request_may_be = λ number makes. (makes_next events it call is.says is.number number makes).may;
    request_is_new = new_request;
    request_is_next = λ number makes. (makes_next events it call is.says is.number number makes).is ∙ h.request.counted;
    request_is_there = known_request;
    message_came = came;
    comm_is_there = comm_there;
    comm_is_new = comm_new;
    comm_has_rank = has_itself;
    root_is_member = has_root;
  }
