use Rattle.std.proofs.Common.{◌≡◌, ◌+◌, ◌<◌, ⊎_elim, inl, inr, List, [], ◌∷◌, ◌++◌, length, take, true, Option, Some, None, IfSome, is_some, sym, ap, ◌∙◌, arith}
use Rattle.rma_type.proofs.Words.{cons_option, false≢true, map_more, get_or-map, length-map, list_all-append, list_all_at, Member, TypeId, id_of, member_names}
use Rattle.std.proofs.lemmas.List.Elements.{filter_map-append}
use Rattle.rma_type.proofs.table.TypeTable.find_members.Goals as goal

-- a list with what was found at its end
pushed : (found : Option TypeId) (new old : List TypeId) → is_some found ≡ true → IfSome found (λ id. new ≡ old ++ id ∷ []) → new ≡ old ++ cons_option found []
pushed None new old some h = absurd (false≢true some)
pushed (Some id) new old some h = h

pub returns-in-Err-clause-unknown : goal.returns-in-Err-clause-unknown
returns-in-Err-clause-unknown c =
    let live = c.args.self.now.live in
    let ms = c.args.members.now in
    let i = c.loop-member.member-index in
    let item = c.member-item.result in
    let within : i < length (member_names ms) = omega (arith, length-map ms (λ (m : Member). m.old)) in
    let at = get_or-map (λ (m : Member). m.old) ms i item [] (omega arith) ∙ ap (λ (m : Member). m.old) (sym c.member-item.is) in
    ⊎_elim (λ p. inl p)
    (λ q. inr (q.0, list_all_at (λ name. is_some (id_of live name)) (member_names ms) i [] within (ap (λ name. is_some (id_of live name)) at ∙ q.1)))
    c.in-Err.ensures.unknown

pub loop-member-preserved : goal.loop-member-preserved
loop-member-preserved c =
    let live = c.args.self.now.live in
    let ms = c.args.members.now in
    let i = c.loop-member.member-index in
    let item = c.member-item.result in
    let names : member_names (take (i + 1) ms) ≡ member_names (take i ms) ++ item.old ∷ [] =
    map_more (λ (m : Member). m.old) ms i item (omega arith) ∙ ap (λ (m : Member). member_names (take i ms) ++ m.old ∷ []) (sym c.member-item.is) in
    record {
      found = rw (names, filter_map-append (id_of live) (member_names (take i ms)) (item.old ∷ []), ← c.loop-member.invariant.found)
          (pushed (id_of live item.old) c.push_old_type.new.old_types c.loop-member.old_types c.in_default.ensures.live c.in_default.ensures.ok);
      live = rw (names, list_all-append (λ name. is_some (id_of live name)) (member_names (take i ms)) (item.old ∷ []), c.loop-member.invariant.live, c.in_default.ensures.live);
    }
