use Rattle.std.proofs.Common.{rules, inl, inr, ◌≡◌, ◌∷◌, ◌<◌, ◌≤◌, [], ℕ, List, All, get_or, set, sym, subst, refl, ap, ◌∙◌, arith, length, take}
use Rattle.std.specs.Prelude.{remove}
use Rattle.std.specs.Io.KnownBytes.{Keeps}
use Rattle.std.proofs.lemmas.Bool.{cases_lt}
use Rattle.std.proofs.lemmas.List.{length-map, length-set}
use Rattle.rma_cli.specs.Files.{Progress, LogFile, Ended, left_of, bytes_of}
use Rattle.rma_cli.specs.inside.Files.{OthersEnded, OneOpen}
use Rattle.rma_cli.proofs.FileLemmas.{OthersEnded_read, OthersEnded_end, AreRead_ended, NothingTaken_read, TakesFrom_read, Keeps_nothing, Keeps_ended, names_of_set, OneOpen_one, OneOpen_read, OneOpen_end, ranks_read, ranks_remove}
use Rattle.rma_cli.proofs.file_logs.FileLogsPulls.pull.Goals as goal

no_more : (unended : List ℕ) (next : ℕ) → (0 < next → next < length unended) → length unended ≤ next → unended ≡ []
no_more [] next within past = refl
no_more (rank ∷ unended) next within past = let there = within (omega (arith, past)) in absurd (omega arith)

first_rank : (unended : List ℕ) (next rank : ℕ) → next ≡ 0 → get_or unended next rank ≡ rank → get_or unended 0 rank ≡ rank
first_rank unended next rank first is = subst (λ (i : ℕ). get_or unended i rank ≡ rank) first is

wrapped_first : (index len result : ℕ) → index ≡ 0 → (index < len → result ≡ index) → (len ≤ index → result ≡ 0) → result ≡ 0
wrapped_first index len result first there after =
    elim (cases_lt index len) [ inl below ↦ there below ∙ first | inr past ↦ after past ]

pub invariant_of-self-in-Err : goal.invariant_of-self-in-Err
invariant_of-self-in-Err g c =
    let unended = c.loop-self.self-inside.unended.items in
    let files = c.loop-self.self-inside.files.items in
    let rank : c.index-rank.result.now ≡ get_or unended c.loop-self.self-inside.next c.index-rank.result.now = search rules in
    let there : c.loop-self.self-inside.next < length unended = omega arith in
    record {
      ranks = ranks_read unended files c.index-rank.result.now c.read.new.self c.loop-self.invariant.ranks;
      ended = OthersEnded_read unended files c.index-rank.result.now c.read.new.self (c.loop-self.self-inside.next, there, sym rank) c.loop-self.invariant.ended;
      next = c.loop-self.invariant.next;
      first = c.loop-self.invariant.first;
      one = λ seq.
          OneOpen_read unended files c.index-rank.result.now c.read.new.self (omega arith)
          (first_rank unended c.loop-self.self-inside.next c.index-rank.result.now (c.loop-self.invariant.first seq) (sym rank))
          (c.loop-self.invariant.one seq);
    }

pub invariant_of-self-in-Ok : goal.invariant_of-self-in-Ok
invariant_of-self-in-Ok g c =
    let unended = c.loop-self.self-inside.unended.items in
    let files = c.loop-self.self-inside.files.items in
    let rank : c.index-rank.result.now ≡ get_or unended c.loop-self.self-inside.next c.index-rank.result.now = search rules in
    let there : c.loop-self.self-inside.next < length unended = omega arith in
    record {
      ranks = ranks_read unended files c.index-rank.result.now c.read.new.self c.loop-self.invariant.ranks;
      ended = OthersEnded_read unended files c.index-rank.result.now c.read.new.self (c.loop-self.self-inside.next, there, sym rank) c.loop-self.invariant.ended;
      next = search rules;
      first = λ seq. c.index_after-self-inside.ensures.same seq ∙ c.loop-self.invariant.first seq;
      one = λ seq.
          OneOpen_read unended files c.index-rank.result.now c.read.new.self (omega arith)
          (first_rank unended c.loop-self.self-inside.next c.index-rank.result.now (c.loop-self.invariant.first seq) (sym rank))
          (c.loop-self.invariant.one seq);
    }

pub returns-in-Err-clause-pulled : goal.returns-in-Err-clause-pulled
returns-in-Err-clause-pulled g c =
    let files = c.loop-self.self-inside.files.items in
    let within : c.index-rank.result.now < length files = search rules in
    let nothing = NothingTaken_read c.self.inside.files.items files c.index-rank.result.now c.index_mut-file.result.now c.read.new.self
    within c.index_mut-file.ensures.value c.in-Err.ensures.name c.in-Err.ensures.bytes c.loop-self.invariant.files in
    let before = length-map c.self.inside.files.items bytes_of in
    let after = length-map (set files c.index-rank.result.now c.read.new.self) bytes_of in
    let same = nothing.same_files in
    rw (← c.self.view_is) (record {
      within = tt;
      same_logs = omega arith;
      taken = omega arith;
      moved = nothing.stay;
      never_falls = search rules;
      failed = search rules;
    })

pub returns-in-Err-clause-one : goal.returns-in-Err-clause-one
returns-in-Err-clause-one g c seq =
    let unended = c.loop-self.self-inside.unended.items in
    let files = c.loop-self.self-inside.files.items in
    let rank : c.index-rank.result.now ≡ get_or unended c.loop-self.self-inside.next c.index-rank.result.now = search rules in
    OneOpen_one unended (set files c.index-rank.result.now c.read.new.self)
    (OneOpen_read unended files c.index-rank.result.now c.read.new.self (omega arith)
    (first_rank unended c.loop-self.self-inside.next c.index-rank.result.now (c.loop-self.invariant.first seq) (sym rank))
    (c.loop-self.invariant.one seq))

pub returns-in-Err-clause-stays : goal.returns-in-Err-clause-stays
returns-in-Err-clause-stays g c =
    let files = c.loop-self.self-inside.files.items in
    let within : c.index-rank.result.now < length files = search rules in
    let nothing = NothingTaken_read c.self.inside.files.items files c.index-rank.result.now c.index_mut-file.result.now c.read.new.self
    within c.index_mut-file.ensures.value c.in-Err.ensures.name c.in-Err.ensures.bytes c.loop-self.invariant.files in
    let names = nothing.names in
    let refused = c.loop-self.invariant.refused in
    rw (← c.self.view_is) (cc)

pub returns-in-Ok-clause-pulled : goal.returns-in-Ok-clause-pulled
returns-in-Ok-clause-pulled g c =
    let files = c.loop-self.self-inside.files.items in
    let within : c.index-rank.result.now < length files = search rules in
    let before = length-map c.self.inside.files.items bytes_of in
    let after = length-map (set files c.index-rank.result.now c.read.new.self) bytes_of in
    let size = length-set files c.index-rank.result.now c.read.new.self in
    let same = c.loop-self.invariant.files.same_files in
    rw (← c.self.view_is) (record {
      within = (omega arith, search rules, search rules);
      same_logs = omega arith;
      taken = search rules;
      moved = TakesFrom_read c.self.inside.files.items files c.index-rank.result.now (take c.in-Ok.len c.read.new.room) c.index_mut-file.result.now
          c.read.new.self within c.index_mut-file.ensures.value c.in-Ok.ensures.bytes.0 c.loop-self.invariant.files;
      never_falls = search rules;
      failed = tt;
    })

pub returns-in-Ok-clause-one : goal.returns-in-Ok-clause-one
returns-in-Ok-clause-one g c seq =
    let unended = c.loop-self.self-inside.unended.items in
    let files = c.loop-self.self-inside.files.items in
    let rank : c.index-rank.result.now ≡ get_or unended c.loop-self.self-inside.next c.index-rank.result.now = search rules in
    OneOpen_one unended (set files c.index-rank.result.now c.read.new.self)
    (OneOpen_read unended files c.index-rank.result.now c.read.new.self (omega arith)
    (first_rank unended c.loop-self.self-inside.next c.index-rank.result.now (c.loop-self.invariant.first seq) (sym rank))
    (c.loop-self.invariant.one seq))

pub returns-in-Ok-clause-stays : goal.returns-in-Ok-clause-stays
returns-in-Ok-clause-stays g c =
    let files = c.loop-self.self-inside.files.items in
    let names = names_of_set files c.index-rank.result.now c.index_mut-file.result.now c.read.new.self c.index_mut-file.ensures.value c.in-Ok.ensures.name in
    let same = c.loop-self.invariant.files.names in
    let refused = c.loop-self.invariant.refused in
    rw (← c.self.view_is) (cc)

pub loop-self-preserved : goal.loop-self-preserved
loop-self-preserved g c =
    let unended = c.loop-self.self-inside.unended.items in
    let files = c.loop-self.self-inside.files.items in
    let rank : c.index-rank.result.now ≡ get_or unended c.loop-self.self-inside.next c.index-rank.result.now = search rules in
    let within : c.index-rank.result.now < length files = search rules in
    let there : c.loop-self.self-inside.next < length unended = omega arith in
    let removed : c.remove.new.self.items ≡ remove unended c.loop-self.self-inside.next = search rules in
    let some : 0 < length c.read.new.room = search rules in
    let zero : c.in-Ok-eq0.field-0 ≡ 0 = search rules in
    let read = c.read.new.self in
    let closed : c.close.new.self ≡ record read { progress = Ended } = c.close.ensures in
    let at_end : c.close.new.self.progress ≡ Ended = ap (λ (file : LogFile). file.progress) closed in
    let name : c.close.new.self.name ≡ read.name = ap (λ (file : LogFile). file.name) closed in
    let kept : Keeps (left_of c.index_mut-file.result.now.progress) (left_of c.close.new.self.progress) =
    subst (λ (progress : Progress). Keeps (left_of c.index_mut-file.result.now.progress) (left_of progress)) (sym at_end)
    (Keeps_ended (left_of c.index_mut-file.result.now.progress) read.progress
    (Keeps_nothing _ _ _ _ zero c.in-Ok-eq0.ensures.bytes.0) (c.in-Ok-eq0.ensures.end zero some)) in
    record {
      ranks =
          subst (λ (ranks : List ℕ). All (λ rank. rank < length (set files c.index-rank.result.now c.close.new.self)) ranks) (sym removed)
          (ranks_remove unended (length (set files c.index-rank.result.now c.close.new.self)) c.loop-self.self-inside.next there
          (ranks_read unended files c.index-rank.result.now c.close.new.self c.loop-self.invariant.ranks));
      ended =
          subst (λ (ranks : List ℕ). OthersEnded ranks (set files c.index-rank.result.now c.close.new.self)) (sym removed)
          (OthersEnded_end unended files c.loop-self.self-inside.next c.index-rank.result.now c.close.new.self there rank within
          at_end c.loop-self.invariant.ended);
      next = search rules;
      first = λ seq.
          wrapped_first c.loop-self.self-inside.next _ _ (c.loop-self.invariant.first seq) c.wrapped-self-inside.ensures.there c.wrapped-self-inside.ensures.after;
      one = λ seq.
          subst (λ (ranks : List ℕ). OneOpen ranks (set files c.index-rank.result.now c.close.new.self))
          (sym (removed ∙ ap (λ (i : ℕ). remove unended i) (c.loop-self.invariant.first seq)))
          (OneOpen_end unended files c.index-rank.result.now c.close.new.self (omega arith)
          (first_rank unended c.loop-self.self-inside.next c.index-rank.result.now (c.loop-self.invariant.first seq) (sym rank))
          within at_end (c.loop-self.invariant.one seq));
      files = NothingTaken_read c.self.inside.files.items files c.index-rank.result.now c.index_mut-file.result.now c.close.new.self
          within c.index_mut-file.ensures.value (name ∙ c.in-Ok-eq0.ensures.name) kept c.loop-self.invariant.files;
      refused = c.loop-self.invariant.refused;
      taken = c.loop-self.invariant.taken;
      in_turns = c.loop-self.invariant.in_turns;
      faults = search rules;
    }

pub returns-clause-pulled : goal.returns-clause-pulled
returns-clause-pulled g c =
    let unended = c.loop-self.self-inside.unended.items in
    let files = c.loop-self.self-inside.files.items in
    let none : unended ≡ [] = no_more unended c.loop-self.self-inside.next c.loop-self.invariant.next (omega (arith, c.loop-self-test.false, c.len.ensures)) in
    let before = length-map c.self.inside.files.items bytes_of in
    let after = length-map files bytes_of in
    let same = c.loop-self.invariant.files.same_files in
    rw (← c.self.view_is) (record {
      within = tt;
      same_logs = omega arith;
      taken = omega arith;
      moved = (c.loop-self.invariant.files.stay, AreRead_ended files (subst (λ (ranks : List ℕ). OthersEnded ranks files) none c.loop-self.invariant.ended));
      never_falls = omega arith;
      failed = tt;
    })
