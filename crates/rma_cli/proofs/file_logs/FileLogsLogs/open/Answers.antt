use Rattle.std.proofs.Common.{Bool, rules, ◌≡◌, ◌∷◌, [], ◌++◌, ◌<◌, ap, ◌∙◌, sym, subst, arith, length, length-append, All, ℕ, List}
use Rattle.std.specs.Prelude.{string_bytes}
use Rattle.std.proofs.lemmas.List.{map_push}
use Rattle.rma_cli.specs.Files.{IsJustOpened, AreOneByOne, LogFile, bytes_of, logs_of, names_of}
use Rattle.rma_cli.specs.inside.Files.{progress_of, OthersEnded, OneOpen}
use Rattle.rma_cli.proofs.FileLemmas.{OthersEnded_open, OneOpen_open, OneOpen_one, ranks_open}
use Rattle.rma_cli.proofs.file_logs.FileLogsLogs.open.Goals as goal

pub invariant_of-self-in-Ok-open : goal.invariant_of-self-in-Ok-open
invariant_of-self-in-Ok-open g c =
    let file : LogFile = record { name = string_bytes c.in-Ok.copy; progress = progress_of g.R.File.Read.remaining c.kept-file.result } in
    let files : c.push.new.self.items ≡ c.self.inside.files.items ++ file ∷ [] = search rules in
    let unended : c.push-in-Ok-open.new.self.items ≡ c.self.inside.unended.items ++ length c.self.inside.files.items ∷ [] = search rules in
    record {
      ranks =
          subst (λ (items : List LogFile). All (λ rank. rank < length items) c.push-in-Ok-open.new.self.items) (sym files)
          (subst (λ (ranks : List ℕ). All (λ rank. rank < length (c.self.inside.files.items ++ file ∷ [])) ranks) (sym unended)
          (ranks_open c.self.inside.unended.items c.self.inside.files.items file c.self.invariant.ranks));
      ended =
          subst (λ (items : List LogFile). OthersEnded c.push-in-Ok-open.new.self.items items) (sym files)
          (subst (λ (ranks : List ℕ). OthersEnded ranks (c.self.inside.files.items ++ file ∷ [])) (sym unended)
          (OthersEnded_open c.self.inside.unended.items c.self.inside.files.items file c.self.invariant.ended));
      first = c.self.invariant.first;
      one = λ seq.
          subst (λ (items : List LogFile). OneOpen c.push-in-Ok-open.new.self.items items) (sym files)
          (subst (λ (ranks : List ℕ). OneOpen ranks (c.self.inside.files.items ++ file ∷ [])) (sym unended)
          (OneOpen_open c.self.inside.unended.items c.self.inside.files.items file
          (subst (λ (b : Bool). IsJustOpened b file.progress) seq c.kept-file.ensures) (c.self.invariant.one seq)));
      next = λ some.
          let within = c.self.invariant.next some in
          omega (arith, ap length unended, length-append c.self.inside.unended.items (length c.self.inside.files.items ∷ []));
    }

pub returns-in-Ok-open-clause-opened : goal.returns-in-Ok-open-clause-opened
returns-in-Ok-open-clause-opened g c =
    let file : LogFile = record { name = string_bytes c.in-Ok.copy; progress = progress_of g.R.File.Read.remaining c.kept-file.result } in
    let files : c.push.new.self.items ≡ c.self.inside.files.items ++ file ∷ [] = search rules in
    let name : file.name ≡ c.args.name.now = search rules in
    rw (← c.self.view_is) (record {
      names =
          ap names_of files ∙ map_push (λ (f : LogFile). f.name) c.self.inside.files.items file
          ∙ ap (λ (n : List ℕ). names_of c.self.inside.files.items ++ n ∷ []) name;
      refused = search rules;
      taken = search rules;
      added = (bytes_of file, tt, ap logs_of files ∙ map_push bytes_of c.self.inside.files.items file);
      never_falls = search rules;
      failed = search rules;
    })

pub returns-in-Ok-open-clause-one : goal.returns-in-Ok-open-clause-one
returns-in-Ok-open-clause-one g c seq =
    let file : LogFile = record { name = string_bytes c.in-Ok.copy; progress = progress_of g.R.File.Read.remaining c.kept-file.result } in
    let files : c.push.new.self.items ≡ c.self.inside.files.items ++ file ∷ [] = search rules in
    subst (λ (items : List LogFile). AreOneByOne items) (sym files)
    (OneOpen_one (c.self.inside.unended.items ++ length c.self.inside.files.items ∷ []) (c.self.inside.files.items ++ file ∷ [])
    (OneOpen_open c.self.inside.unended.items c.self.inside.files.items file
    (subst (λ (b : Bool). IsJustOpened b file.progress) seq c.kept-file.ensures) (c.self.invariant.one seq)))
