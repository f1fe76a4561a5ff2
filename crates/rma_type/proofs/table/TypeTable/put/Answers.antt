use Rattle.std.proofs.Common.{◌+◌, ◌<◌, ◌^◌, length, ◌≡◌, ℕ, true, false, Bool, cond, Option, nat_eq, List, ◌∷◌, [], ◌++◌, Some, ◌⊎◌, inl, inr, refl, sym, ap, ◌∙◌, arith}
use Rattle.std.proofs.lemmas.Grind.{common_steps}
use Rattle.std.specs.Cmp.Lexicographic.{pointwise}
use Rattle.rma_type.proofs.Words.{length-map, signature, TypeId, Kept, Inside, HasSignature, origins_of, Table, typemaps, typemap_of, id_of}
use Rattle.rma_type.proofs.AddLemmas.{IsTable_same, IsTable_added, StayIn, stay_same, stay_push}
use Rattle.rma_type.proofs.SourceLemmas.{shared_signature, own_signature}
use Rattle.rma_type.proofs.table.TypeTable.put.Goals as goal
use Rattle.rma_type.proofs.table.TypeTable.put.Goals.{in-Shared, in-Own+in_ok-signature-in-Own}

-- what a table keeps stays, but for a signature more
abbrev OnlySigned : Inside → Inside → Type 0
OnlySigned old new = (new.types.items ≡ old.types.items) × (new.live.entries ≡ old.live.entries) × StayIn old.signatures.items new.signatures.items

only_signed : (old new : Inside) → new.types ≡ old.types → new.live ≡ old.live → StayIn old.signatures.items new.signatures.items → OnlySigned old new
only_signed old new types live stay = (ap (λ v. v.items) types, ap (λ m. m.entries) live, stay)

pub invariant_of-self : goal.invariant_of-self
invariant_of-self c =
    IsTable_same c.self.inside _ refl refl (stay_same c.self.inside.signatures.items c.keep.new.signatures.items c.in_err-signature-in-Own.ensures.err) c.self.invariant

pub invariant_of-self-then-is_err : goal.invariant_of-self-then-is_err
invariant_of-self-then-is_err c =
    let old = c.self.inside in
    let now = c.match-source.self-inside in
    let only : OnlySigned old now =
    elim c.match-source.branch [
      | in-Shared w ↦ only_signed old now (ap (λ (t : Inside). t.types) w.self-inside-is) (ap (λ (t : Inside). t.live) w.self-inside-is)
          (stay_same old.signatures.items now.signatures.items (ap (λ (t : Inside). t.signatures.items) w.self-inside-is))
      | in-Own+in_ok-signature-in-Own w ↦ only_signed old now (ap (λ (t : Inside). t.types) w.self-inside-is) (ap (λ (t : Inside). t.live) w.self-inside-is)
          (stay_push old.signatures.items now.signatures.items w.in-Own.runs (ap (λ (t : Inside). t.signatures.items) w.self-inside-is ∙ w.in_ok-signature-in-Own.ensures.ok))
    ] in
    let same : c.push.new.self.items ≡ now.types.items = grind (arith, common_steps, c.push.ensures.items, c.is_err.ensures.negation) in
    IsTable_same old _ (same ∙ only.0) only.1 only.2 c.self.invariant

pub invariant_of-self-then-is_err-2 : goal.invariant_of-self-then-is_err-2
invariant_of-self-then-is_err-2 c =
    let old = c.self.inside in
    let now = c.match-source.self-inside in
    let only : OnlySigned old now =
    elim c.match-source.branch [
      | in-Shared w ↦ only_signed old now (ap (λ (t : Inside). t.types) w.self-inside-is) (ap (λ (t : Inside). t.live) w.self-inside-is)
          (stay_same old.signatures.items now.signatures.items (ap (λ (t : Inside). t.signatures.items) w.self-inside-is))
      | in-Own+in_ok-signature-in-Own w ↦ only_signed old now (ap (λ (t : Inside). t.types) w.self-inside-is) (ap (λ (t : Inside). t.live) w.self-inside-is)
          (stay_push old.signatures.items now.signatures.items w.in-Own.runs (ap (λ (t : Inside). t.signatures.items) w.self-inside-is ∙ w.in_ok-signature-in-Own.ensures.ok))
    ] in
    let items : c.pop.new.self.items ≡ now.types.items = grind (arith, common_steps, c.push.ensures.items, c.is_err.ensures.negation, c.pop.ensures.rest) in
    let live : c.insert.new.self.entries ≡ now.live.entries = grind (arith, common_steps, c.insert.ensures.err, c.is_err-2.ensures.negation) in
    IsTable_same old _ (items ∙ only.0) (live ∙ only.1) only.2 c.self.invariant

-- what a look-up finds after an insertion was there, or is what was inserted
found : (test : Bool) (id other : TypeId) (now before : Option TypeId) → now ≡ cond test (Some id) before → now ≡ Some other → (other ≡ id) ⊎ (before ≡ Some other)
found true id other now before e h = inl cc
found false id other now before e h = inr (sym e ∙ h)

pub invariant_of-self-else-is_err-2 : goal.invariant_of-self-else-is_err-2
invariant_of-self-else-is_err-2 c =
    let old = c.self.inside in
    let now = c.match-source.self-inside in
    let table = c.args.self.now in
    let draft = c.args.draft in
    let basics = signature (typemap_of (typemaps table.origins) draft.origin) in
    let signed : OnlySigned old now × HasSignature now.signatures.items basics c.match-source.signature =
    elim c.match-source.branch [
      | in-Shared w ↦ (
        only_signed old now (ap (λ (t : Inside). t.types) w.self-inside-is) (ap (λ (t : Inside). t.live) w.self-inside-is)
            (stay_same old.signatures.items now.signatures.items (ap (λ (t : Inside). t.signatures.items) w.self-inside-is)),
        shared_signature old now table c.self.view_is c.self.invariant w.in-Shared.old w.index.result.now basics draft.source c.match-source.signature w.self-inside-is
            c.requires.signed w.in-Shared.is w.index.ensures w.signature-is,
      )
      | in-Own+in_ok-signature-in-Own w ↦
          let grown : now.signatures.items ≡ old.signatures.items ++ w.in-Own.runs ∷ [] = ap (λ (t : Inside). t.signatures.items) w.self-inside-is ∙ w.in_ok-signature-in-Own.ensures.ok in (
            only_signed old now (ap (λ (t : Inside). t.types) w.self-inside-is) (ap (λ (t : Inside). t.live) w.self-inside-is)
                (stay_push old.signatures.items now.signatures.items w.in-Own.runs grown),
            own_signature table.origins old.signatures.items now.signatures.items w.in-Own.runs basics draft.source c.match-source.signature c.requires.signed w.in-Own.is grown
                (w.signature-is ∙ w.in_ok-signature-in-Own.ensures.number),
          )
    ] in
    let only = signed.0 in
    let kept : Kept = record { origin = draft.origin; committed = draft.committed; summary = draft.summary; signature = c.match-source.signature } in
    let old_items = old.types.items in
    let items : c.push.new.self.items ≡ old_items ++ kept ∷ [] = rw (← only.0) (grind (arith, common_steps, c.push.ensures.items, c.is_err.ensures.negation)) in
    let id : TypeId = record { 0 = c.len.result } in
    let origins : origins_of old_items ≡ table.origins = ap (λ (t : Table). t.origins) c.self.view_is in
    let count : length table.origins ≡ length old_items = sym (ap length origins) ∙ length-map old_items (λ (k : Kept). k.origin) in
    let room : length old_items + 1 < 2 ^ 32 = omega (arith, count, c.requires.room) in
    let number : c.len.result ≡ length old_items = c.len.ensures ∙ old.types.ok.0 in
    let updated : (q : List ℕ) → id_of c.insert.new.self.entries q ≡ cond (pointwise nat_eq c.args.name q) (Some id) (id_of old.live.entries q) =
    λ q. rw (← only.1) (grind (arith, common_steps, c.insert.ensures.updates, c.is_err-2.ensures.negation)) in
    IsTable_added old (record { types = c.push.new.self; signatures = now.signatures; live = c.insert.new.self }) kept id c.self.invariant room
    items number (λ name other at. found (pointwise nat_eq c.args.name name) id other _ _ (updated name) at)
    (rw (origins, ← count) c.requires.kept) only.2 (rw origins signed.1)
