use Rattle.std.proofs.Common.{◌≡◌, sym, ◌∙◌, arith}
use Rattle.std.proofs.lemmas.Bool.Decides.{nat_tests}
use Rattle.rma_call.specs.inside.Groups.{whats_at}
use Rattle.rma_call.proofs.CallListLemmas.{each_is_named}
use Rattle.rma_call.proofs.GroupLemmas.{none_is_of}
use Rattle.rma_call.proofs.call_list.CallList.has.Goals as goal

pub returns : goal.returns
returns c = λ none i call at of.
    let own = c.self.inside in
    let named = each_is_named (whats_at own.groups own.places.items) own.sites.items own.entries c.self.invariant.0.below i call (rw (← c.self.view_is) at at) in
    let zero : c.len_of.result ≡ 0 = grind (arith, nat_tests) in
    none_is_of own.groups own.places.items c.args.group named.0 call.what c.self.invariant.1 (sym c.len_of.ensures ∙ zero) named.1 of
