use Rattle.std.proofs.Common.{ℕ, List, length, string_bytes, ap, sym, ◌∙◌, subst, arith}
use Rattle.std.proofs.lemmas.List.{length-map}
use Rattle.std.proofs.lemmas.Result.{err_from_is_err_and}
use Rattle.rma_io.specs.Source.{Opened}
use Rattle.rma_stream.specs.inside.Feeding.{HaveBooks}
use Rattle.rma_audit.proofs.PullLemmas.{kept_by_pulls}
use Rattle.rma_audit.proofs.RunLemmas.{opens_none, stopped_reading}
use Rattle.rma_audit.proofs.judging.read_logs.Goals as goal

pub returns-in_err-room-clause-stopped : goal.returns-in_err-room-clause-stopped
returns-in_err-room-clause-stopped g c =
    let p = err_from_is_err_and c.from_residual.result c.from_residual.ensures.1 in
    rw (p.1, p.2) (opens_none _ _ c.requires.fresh.names c.requires.fresh.refused, omega (arith, c.requires.fresh.taken))

pub returns-in_err-audit-clause-stopped : goal.returns-in_err-audit-clause-stopped
returns-in_err-audit-clause-stopped g c =
    let p = err_from_is_err_and c.from_residual-in_err-audit.result c.from_residual-in_err-audit.ensures.1 in
    rw (p.1, p.2) (opens_none _ _ c.requires.fresh.names c.requires.fresh.refused, omega (arith, c.requires.fresh.taken))

pub returns-in_err-read_all-clause-stopped : goal.returns-in_err-read_all-clause-stopped
returns-in_err-read_all-clause-stopped g c =
    let opened = kept_by_pulls g.L.Pulls.stays g.L.Logs.opened g.met.L.Logs.pulls_keep _ _ c.in_err-read_all.ensures.stays in
    let p = err_from_is_err_and c.from_residual-in_err-read_all.result c.from_residual-in_err-read_all.ensures.1 in
    rw (p.1, p.2) (stopped_reading c.in_err-read_all.field-0.0 _ _ _ _ _ _ c.in_ok-open_all.ensures.all opened c.in_err-read_all.ensures.stops)

pub returns-clause-few : goal.returns-clause-few
returns-clause-few g c =
    let opened = kept_by_pulls g.L.Pulls.stays g.L.Logs.opened g.met.L.Logs.pulls_keep _ _ c.in_ok-read_all.ensures.stays in
    let in_order = ap (λ (o : Opened). length o.names) opened ∙ ap (λ (names : List (List ℕ)). length names) c.in_ok-open_all.ensures.all.names in
    let follows = c.in_ok-read_all.ensures.follows.1 in
    omega (
      arith,
      follows.read.one_a_text,
      follows.one_a_log,
      g.met.L.Logs.one_log_a_name c.read_all.new.logs,
      in_order,
      length-map c.args.names.now string_bytes,
      c.requires.few,
    )

pub returns-clause-read : goal.returns-clause-read
returns-clause-read g c =
    let taken = c.in_ok-read_all.ensures.follows.1 in
    let opened = kept_by_pulls g.L.Pulls.stays g.L.Logs.opened g.met.L.Logs.pulls_keep _ _ c.in_ok-read_all.ensures.stays in
    let in_order = ap (λ (o : Opened). o.names) opened ∙ c.in_ok-open_all.ensures.all.names in record {
      logs = c.in_ok-read_all.ensures.follows.0;
      all = record {
        in_order = in_order;
        none_refused = ap (λ (o : Opened). o.refused) opened ∙ c.in_ok-open_all.ensures.all.refused;
        taken = c.in_ok-read_all.ensures.taken;
        one_log_a_name = taken.one_a_log ∙ g.met.L.Logs.one_log_a_name c.read_all.new.logs ∙ ap length in_order;
        all_taken = taken.all_taken;
        one_a_log = sym taken.one_a_log;
        read = c.in_ok-read_all.ensures.read;
        bytes = taken.bytes;
      };
      read = subst (λ n. HaveBooks n c.read_all.new.audit c.in_ok-read_all.ensures.follows.0) (sym taken.one_a_log) taken.read;
    }
