use Rattle.std.proofs.Common.{◌≡◌, ◌<◌, ◌*◌, ◌⊎◌, inl, ◌++◌, ℕ, Bool, true, false, List, [], ◌∷◌, Option, length, set, refl, sym, ap, subst, ◌∙◌, arith}
use Rattle.std.specs.Prelude.{slice_index, slice_index_or, IfSome}
use Rattle.std.proofs.lemmas.List.{get_or_default}
use Rattle.std.proofs.lemmas.Result.{IfOk-weaker}
use Rattle.rma_walk.specs.declared.front.Front.{Front}
use Rattle.rma_walk.specs.inside.Run.{IsBlocked}
use Rattle.rma_walk.specs.inside.Front.{HasAdvanced}
use Rattle.rma_walk.specs.inside.Search.{IsSearch, work}
use Rattle.rma_walk.proofs.ListLemmas.{ok_later, ok_both, on_ok_later, on_ok_both}
use Rattle.rma_walk.proofs.FollowLemmas.{other_within}
use Rattle.rma_walk.proofs.WorkLemmas.{less_by_waiting}
use Rattle.rma_walk.proofs.AheadLemmas.{search_ahead}
use Rattle.rma_walk.proofs.SearchLemmas.{search_waits, search_passes, passing_is_less}
use Rattle.rma_walk.proofs.search.Search.step.Goals as goal

pub wait-requires-clause-other : goal.wait-requires-clause-other
wait-requires-clause-other c =
    let lens = c.args.run.now.lens.now in
    let links = c.args.run.now.links.now in
    let old = c.args.self.now in
    let mid = c.blocker.new.self in
    let current = c.args.current in
    let ahead = c.in_ok-other.ensures.ahead in
    let is = search_ahead lens links old mid c.args.rank current c.requires.search ahead in
    let is_free : slice_index_or mid.free.items current true ≡ true = ap (λ free. slice_index_or free current true) ahead.free ∙ c.requires.free in
    let other = c.in-Some.other in
    let B : Option ℕ → Type 0 = λ o. IfSome o (IsBlocked lens links mid.front.next.items current) in
    let blocked : IsBlocked lens links mid.front.next.items current other = subst B c.in-Some.is c.in_ok-other.ensures.some in
    let lt = other_within lens links mid.front.next.items current is.walk.run.within other blocked in
    let size = is.walk.size in
    omega arith

pub pass-requires-clause-waiting : goal.pass-requires-clause-waiting
pass-requires-clause-waiting c k d lt =
    let lens = c.args.run.now.lens.now in
    let links = c.args.run.now.links.now in
    let old = c.args.self.now in
    let mid = c.blocker.new.self in
    let current = c.args.current in
    let ahead = c.in_ok-other.ensures.ahead in
    let is = search_ahead lens links old mid c.args.rank current c.requires.search ahead in
    let size = is.walk.size in
    let within = (is.stack.waits k lt).1 in
    let same = get_or_default mid.waiting.items k d 0 lt in
    omega arith

pub returns-in-Some-clause-search : goal.returns-in-Some-clause-search
returns-in-Some-clause-search c =
    let lens = c.args.run.now.lens.now in
    let links = c.args.run.now.links.now in
    let old = c.args.self.now in
    let mid = c.blocker.new.self in
    let current = c.args.current in
    let ahead = c.in_ok-other.ensures.ahead in
    let is = search_ahead lens links old mid c.args.rank current c.requires.search ahead in
    let is_free : slice_index_or mid.free.items current true ≡ true = ap (λ free. slice_index_or free current true) ahead.free ∙ c.requires.free in
    let other = c.in-Some.other in
    let B : Option ℕ → Type 0 = λ o. IfSome o (IsBlocked lens links mid.front.next.items current) in
    let blocked : IsBlocked lens links mid.front.next.items current other = subst B c.in-Some.is c.in_ok-other.ensures.some in
    let new = c.wait.new.self in
    let taken : List Bool = set mid.free.items current false in
    let Free : Type 0 = new.free.items ≡ taken in
    let Follows : ℕ → Type 0 = λ to. slice_index_or taken other true ≡ true → (new.waiting.items ≡ mid.waiting.items ++ current ∷ []) × (to ≡ other) in
    let Stops : ℕ → Type 0 = λ to. slice_index_or taken other true ≡ false → (new.waiting.items ≡ []) × (to ≡ c.args.rank) in
    ok_later c.wait.result (λ to. Free × Follows to) Stops (λ to. IsSearch lens links new c.args.rank to)
    (ok_both c.wait.result Free Follows c.wait.ensures.free c.wait.ensures.follows) c.wait.ensures.stops
    (λ to facts stops. search_waits lens links mid new c.args.rank current is is_free c.wait.ensures.pending other to blocked c.wait.ensures.front facts.0 facts.1 stops)

pub returns-in-Some-clause-less : goal.returns-in-Some-clause-less
returns-in-Some-clause-less c =
    let lens = c.args.run.now.lens.now in
    let links = c.args.run.now.links.now in
    let old = c.args.self.now in
    let mid = c.blocker.new.self in
    let current = c.args.current in
    let ahead = c.in_ok-other.ensures.ahead in
    let is = search_ahead lens links old mid c.args.rank current c.requires.search ahead in
    let is_free : slice_index_or mid.free.items current true ≡ true = ap (λ free. slice_index_or free current true) ahead.free ∙ c.requires.free in
    let new = c.wait.new.self in
    let there : current < length mid.free.items = (let size = is.walk.size in let lt = is.stack.within in omega arith) in
    let lt = less_by_waiting lens mid.front.next.items mid.free.items current there is_free in
    let le = ahead.less in
    let W : Front → List Bool → Type 0 = λ f free. work lens f.next.items free < work lens old.front.next.items old.free.items in
    let Free : Type 0 = new.free.items ≡ set mid.free.items current false in
    let all : W mid.front (set mid.free.items current false) = omega arith in
    on_ok_both c.wait.result Free Free (W new.front new.free.items) c.wait.ensures.free c.wait.ensures.free
    (λ free again. subst (λ f. W f new.free.items) (sym c.wait.ensures.front) (subst (W mid.front) (sym free) all))

pub returns-in-None-clause-search : goal.returns-in-None-clause-search
returns-in-None-clause-search c =
    let lens = c.args.run.now.lens.now in
    let links = c.args.run.now.links.now in
    let old = c.args.self.now in
    let mid = c.blocker.new.self in
    let current = c.args.current in
    let ahead = c.in_ok-other.ensures.ahead in
    let is = search_ahead lens links old mid c.args.rank current c.requires.search ahead in
    let is_free : slice_index_or mid.free.items current true ≡ true = ap (λ free. slice_index_or free current true) ahead.free ∙ c.requires.free in
    let has_next : slice_index mid.front.next.items current < 2 * slice_index lens current = (let same = ahead.still current (inl refl) in let lt = c.requires.next in omega arith) in
    let new = c.pass.new.self in
    let Advanced : Type 0 = HasAdvanced lens links current mid.front new.front in
    let Follows : ℕ → Type 0 = λ to. ((mid.waiting.items ≡ []) × (new.waiting.items ≡ []) × (to ≡ current) × (new.free.items ≡ mid.free.items))
    ⊎ ((mid.waiting.items ≡ new.waiting.items ++ to ∷ []) × (new.free.items ≡ set mid.free.items to true)) in
    IfOk-weaker c.pass.result (λ to. Advanced × Follows to) (λ to. IsSearch lens links new c.args.rank to)
    (λ to facts. search_passes lens links mid new c.args.rank current is is_free c.pass.ensures.pending to has_next facts.0 facts.1)
    (ok_both c.pass.result Advanced Follows c.pass.ensures.advanced c.pass.ensures.follows)

pub returns-in-None-clause-less : goal.returns-in-None-clause-less
returns-in-None-clause-less c =
    let lens = c.args.run.now.lens.now in
    let links = c.args.run.now.links.now in
    let old = c.args.self.now in
    let mid = c.blocker.new.self in
    let current = c.args.current in
    let ahead = c.in_ok-other.ensures.ahead in
    let is = search_ahead lens links old mid c.args.rank current c.requires.search ahead in
    let is_free : slice_index_or mid.free.items current true ≡ true = ap (λ free. slice_index_or free current true) ahead.free ∙ c.requires.free in
    let has_next : slice_index mid.front.next.items current < 2 * slice_index lens current = (let same = ahead.still current (inl refl) in let lt = c.requires.next in omega arith) in
    let new = c.pass.new.self in
    let Advanced : Type 0 = HasAdvanced lens links current mid.front new.front in
    let Follows : ℕ → Type 0 = λ to. ((mid.waiting.items ≡ []) × (new.waiting.items ≡ []) × (to ≡ current) × (new.free.items ≡ mid.free.items))
    ⊎ ((mid.waiting.items ≡ new.waiting.items ++ to ∷ []) × (new.free.items ≡ set mid.free.items to true)) in
    let le = ahead.less in
    let Less : Type 0 = work lens new.front.next.items new.free.items < work lens old.front.next.items old.free.items in
    on_ok_later c.pass.result (λ to. Advanced × Follows to) Less
    (ok_both c.pass.result Advanced Follows c.pass.ensures.advanced c.pass.ensures.follows)
    (λ to facts. let lt = passing_is_less lens links mid new c.args.rank current is is_free c.pass.ensures.pending to has_next facts.0 facts.1 in omega arith)
