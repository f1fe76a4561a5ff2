use Rattle.std.proofs.Common.{◌++◌, [], sym, ap, ◌∙◌}
use Rattle.std.specs.List.{cons_option}
use Rattle.rma_base.specs.declared.rank.Rank.{Rank}
use Rattle.rma_call.specs.Call.{call_of}
use Rattle.rma_agreement.specs.Collective.{so_far}
use Rattle.rma_member.specs.Declaration.{declaration_of, declarations}
use Rattle.rma_member.specs.Attribute.{declared, created}
use Rattle.rma_difference.proofs.SoFarLemmas.{declarations_more}
use Rattle.rma_difference.proofs.scan.Scan.scan.Goals as goal

pub returns : goal.returns
returns c = λ done own before at rank has.
    let call = call_of c.args.call in
    record {
      comms_are = c.in_ok-push_declaration.ensures
          ∙ ap (λ l. l ++ cons_option (declaration_of declared c.args.rank call) []) has.comms_are
          ∙ ap (λ (r : Rank). declarations declared (so_far done own before) ++ cons_option (declaration_of declared r call) []) (sym rank)
          ∙ sym (declarations_more declared done own before call);
      creations_are = c.in_ok-push_declaration-2.ensures
          ∙ ap (λ l. l ++ cons_option (declaration_of created c.args.rank call) []) has.creations_are
          ∙ ap (λ (r : Rank). declarations created (so_far done own before) ++ cons_option (declaration_of created r call) []) (sym rank)
          ∙ sym (declarations_more created done own before call);
      rounds_are = c.in_ok-scan.ensures done own before at rank has.rounds_are;
    }
