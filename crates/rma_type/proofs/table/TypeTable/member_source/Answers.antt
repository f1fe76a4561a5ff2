use Rattle.std.proofs.Common.{◌≡◌, length, sym, ap, ◌∙◌, arith}
use Rattle.rma_type.proofs.Words.{no_type, times, struct_signature, signature_in}
use Rattle.rma_type.proofs.SourceLemmas.{signature_more, signature_more_fits, signature_of_one_member}
use Rattle.rma_type.proofs.MemberLemmas.{all_taken}
use Rattle.rma_type.proofs.table.TypeTable.member_source.Goals as goal

pub returns : goal.returns
returns c =
    let one_member : length c.args.members.now ≡ 1 = omega arith in
    let one_old : length c.args.old_types.now ≡ 1 = omega (arith, c.requires.fit) in
    let one_copy : times c.member-item.result.length ≡ 1 = sym c.member_copies.ensures ∙ c.if-member_copies-eq1.true in (
      c.requires.within 0 no_type (omega arith),
      signature_of_one_member c.args.self.now.origins c.args.members.now c.args.old_types.now c.member-item.result no_type one_member one_old c.member-item.is one_copy,
    )

pub append_copies-requires-clause-few : goal.append_copies-requires-clause-few
append_copies-requires-clause-few c =
    let os = c.args.self.now.origins in
    let i = c.loop-i.i in
    let member = c.index-members-i.result in
    let fits = signature_more_fits os c.args.members.now c.args.old_types.now c.requires.fit i member no_type c.loop-i-test.true (sym c.index-members-i.is) in
    rw (c.member_copies-in-loop-i.ensures, c.signature.ensures.runs.same, c.loop-i.invariant.same) (omega (arith, fits, c.requires.few))

pub loop-i-preserved : goal.loop-i-preserved
loop-i-preserved c =
    let os = c.args.self.now.origins in
    let i = c.loop-i.i in
    let member = c.index-members-i.result in
    record {
      same = rw (
        c.in_ok-append_copies.ensures.same,
        c.loop-i.invariant.same,
        c.member_copies-in-loop-i.ensures,
        c.signature.ensures.runs.same,
        signature_more os c.args.members.now c.args.old_types.now c.requires.fit i member no_type c.loop-i-test.true (sym c.index-members-i.is),
      );
      apart = c.in_ok-append_copies.ensures.apart;
    }

pub returns-2 : goal.returns-2
returns-2 c = record {
  same = c.loop-i.invariant.same
      ∙ ap struct_signature (all_taken (signature_in c.args.self.now.origins) c.args.members.now c.args.old_types.now c.requires.fit c.loop-i.i c.loop-i-test.false);
  apart = c.loop-i.invariant.apart;
}
