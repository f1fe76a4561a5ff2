use Rattle.std.proofs.Common.{◌≡◌, ◌++◌, ℕ, [], Some, slice_get, sym, ap, ◌∙◌, append-nil, arith}
use Rattle.std.specs.List.{cons_option}
use Rattle.rma_base.specs.declared.rank.Rank.{Rank}
use Rattle.rma_call.specs.Call.{Call}
use Rattle.rma_run.proofs.WalkLemmas.{filter_map_taken}
use Rattle.rma_member.specs.Attribute.{created, declared}
use Rattle.rma_member.specs.Declaration.{declaration_of}
use Rattle.rma_member.proofs.DeclarationLemmas.{none_declared, call_there}
use Rattle.rma_member.proofs.member.push_declared.Goals as goal

pub loop-i-preserved : goal.loop-i-preserved
loop-i-preserved c =
    let own = c.args.own.now in
    let i = c.loop-i.i in
    let at = call_there c.calls-calls.result.now.calls i (omega (arith, c.loop-i-test.true, c.len-i-end.ensures)) in
    let call = at.0 in
    let there : slice_get own.calls i ≡ Some call = rw (← c.calls-calls.ensures) at.1 in
    record {
      comms = c.in_ok-push_call.ensures.comms call at.1
          ∙ ap (λ (r : Rank). c.loop-i.comms ++ cons_option (declaration_of declared r call) []) c.rank.ensures
          ∙ ap (λ l. l ++ cons_option (declaration_of declared own.rank call) []) c.loop-i.invariant.comms
          ∙ filter_map_taken (declaration_of declared own.rank) own.calls i call c.args.comms.now there;
      creations = c.in_ok-push_call.ensures.creations call at.1
          ∙ ap (λ (r : Rank). c.loop-i.creations ++ cons_option (declaration_of created r call) []) c.rank.ensures
          ∙ ap (λ l. l ++ cons_option (declaration_of created own.rank call) []) c.loop-i.invariant.creations
          ∙ filter_map_taken (declaration_of created own.rank) own.calls i call c.args.creations.now there;
    }

pub returns-then-not-may_declare : goal.returns-then-not-may_declare
returns-then-not-may_declare c =
    let own = c.args.own.now in
    let nothing = λ (i : ℕ) (call : Call) (at : slice_get own.calls i ≡ Some call). c.may_declare.ensures c.if-not-may_declare.true i call (rw (← c.calls-calls.ensures) at at) in
    record {
      comms = sym (ap (λ l. c.args.comms.now ++ l) (none_declared declared own.rank own.calls (λ i call at. (nothing i call at).no_comm)) ∙ append-nil c.args.comms.now);
      creations = sym (ap (λ l. c.args.creations.now ++ l) (none_declared created own.rank own.calls (λ i call at. (nothing i call at).no_window)) ∙ append-nil c.args.creations.now);
    }
