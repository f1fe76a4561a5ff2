use Rattle.std.proofs.Common.{◌<◌, length, sym, subst, ◌∙◌}
use Rattle.std.proofs.lemmas.Bool.{false≢true}
use Rattle.rma_agreement.specs.inside.Agreement.{AllAgree}
use Rattle.rma_agreement.proofs.RegularLemmas.{kept_agree, kept_balanced}
use Rattle.rma_agreement.proofs.agreement.is_regular_on.Goals as goal
use Rattle.rma_agreement.proofs.agreement.is_regular_on.Goals.{then-is_balanced, else-is_balanced}

pub returns : goal.returns
returns c = λ regular kind name on_name has_to share.
    let ranks = c.args.ranks.now in
    let rounds = c.args.rounds.now in
    let rows = c.in_ok-rows.rows in
    let are_rows = c.in_ok-rows.ensures in
    elim c.if-is_balanced.branch [
      | then-is_balanced w ↦
          let balanced = c.is_balanced.ensures w.if-is_balanced.true in
          let is = w.as_slice.ensures in (
            kept_balanced kind ranks name rounds on_name c.args.own.now has_to balanced.0 balanced.1 balanced.2,
            kept_agree kind ranks name rounds rows on_name are_rows
                (λ some. subst (AllAgree ranks) is (w.all_agree.ensures (sym w.result-is ∙ regular) (subst (λ rs. 0 < length rs) (sym is) some))) share,
          )
      | else-is_balanced w ↦ absurd (false≢true (sym w.if-is_balanced.false ∙ sym w.result-is ∙ regular))
    ]
