use Rattle.std.proofs.Common.{◌≡◌, rules, sym, ap, subst, ◌∙◌}
use Rattle.rma_call.specs.Call.{what_of}
use Rattle.rma_call.specs.declared.what.What.TheVariants.{Sync}
use Rattle.rma_call.specs.declared.what.SyncCall.TheVariants.{Epoch}
use Rattle.rma_call.specs.declared.epoch.EpochCall.{EpochCall}
use Rattle.rma_call.specs.declared.epoch.EpochCall.TheVariants.{Post, Start, Complete, Expwait}
use Rattle.rma_exposure.specs.declared.side.Side.TheVariants.{Exposure, Access}
use Rattle.rma_exposure.specs.Opening.{posted, started, waited, completed}
use Rattle.rma_exposure.specs.inside.Epochs.{IsNeither}
use Rattle.rma_exposure.proofs.EpochLemmas.{OnOk_map, AreOfRank_same, AreOfRank_posts, AreOfRank_starts}
use Rattle.std.specs.Prelude.{IfOk, IfSome}
use Rattle.rma_exposure.specs.inside.Places.{IsWindowPlace}
use Rattle.rma_exposure.proofs.KnownLemmas.{IfOk_map, all_stay, posts_stay, starts_stay, of_post, of_start, of_wait, of_complete, known_Post, known_Start, known_Expwait, known_Complete}
use Rattle.rma_exposure.proofs.rank_epochs.RankEpochs.take.Goals as goal

pub returns-in_default-clause-epochs : goal.returns-in_default-clause-epochs
returns-in_default-clause-epochs c = λ calls call len does are. AreOfRank_same calls call c.args.self.now (subst IsNeither does (record { no_post = search rules; no_wait = search rules; no_start = search rules; no_complete = search rules })) are

pub returns-in_default-clause-stay : goal.returns-in_default-clause-stay
returns-in_default-clause-stay c = all_stay c.args.self.now

pub returns-in_default-epoch-clause-epochs : goal.returns-in_default-epoch-clause-epochs
returns-in_default-epoch-clause-epochs c = λ calls call len does are. AreOfRank_same calls call c.args.self.now (subst IsNeither does (record { no_post = search rules; no_wait = search rules; no_start = search rules; no_complete = search rules })) are

pub returns-in_default-epoch-clause-stay : goal.returns-in_default-epoch-clause-stay
returns-in_default-epoch-clause-stay c = all_stay c.args.self.now

pub add-requires : goal.add-requires
add-requires c =
    let does : what_of c.args.what ≡ Sync (Epoch (Post c.in-Post.window c.in-Post.origins c.in-Post.assertions)) = ap what_of c.in-Epoch.is ∙ ap (λ (e : EpochCall). Sync (Epoch e)) c.in-Post.is in
    known_Post c.args.self.now c.in-Post.window c.in-Post.origins c.in-Post.assertions c.args.known (subst (λ what. IfSome c.args.known (IsWindowPlace c.args.self.now what)) does c.requires)

pub returns-in_ok-add-in-Post-clause-epochs : goal.returns-in_ok-add-in-Post-clause-epochs
returns-in_ok-add-in-Post-clause-epochs c =
    let does : what_of c.args.what ≡ Sync (Epoch (Post c.in-Post.window c.in-Post.origins c.in-Post.assertions)) = ap what_of c.in-Epoch.is ∙ ap (λ (e : EpochCall). Sync (Epoch e)) c.in-Post.is in
    λ calls call len same are.
    let what = sym same ∙ does in
    AreOfRank_posts calls call c.args.self.now c.add.new.self (ap started what) (ap completed what) are
    (c.in_ok-add-in-Post.ensures.epochs Exposure calls call len (ap posted what) (ap waited what) are.posts_are)

pub returns-in_ok-add-in-Post-clause-place : goal.returns-in_ok-add-in-Post-clause-place
returns-in_ok-add-in-Post-clause-place c =
    let does : what_of c.args.what ≡ Sync (Epoch (Post c.in-Post.window c.in-Post.origins c.in-Post.assertions)) = ap what_of c.in-Epoch.is ∙ ap (λ (e : EpochCall). Sync (Epoch e)) c.in-Post.is in
    let place = c.in_ok-add-in-Post.field-0 in
    let new = record c.args.self.now { posts = c.add.new.self } in
    subst (λ what. IsWindowPlace new what place) (sym does) (of_post new c.in-Post.window c.in-Post.origins c.in-Post.assertions place c.in_ok-add-in-Post.ensures.place)

pub returns-in_ok-add-in-Post-clause-stay : goal.returns-in_ok-add-in-Post-clause-stay
returns-in_ok-add-in-Post-clause-stay c = posts_stay c.args.self.now c.add.new.self c.in_ok-add-in-Post.ensures.stay

pub add-requires-in-Start : goal.add-requires-in-Start
add-requires-in-Start c =
    let does : what_of c.args.what ≡ Sync (Epoch (Start c.in-Start.window c.in-Start.targets c.in-Start.assertions)) = ap what_of c.in-Epoch.is ∙ ap (λ (e : EpochCall). Sync (Epoch e)) c.in-Start.is in
    known_Start c.args.self.now c.in-Start.window c.in-Start.targets c.in-Start.assertions c.args.known (subst (λ what. IfSome c.args.known (IsWindowPlace c.args.self.now what)) does c.requires)

pub returns-in_ok-add-in-Start-clause-epochs : goal.returns-in_ok-add-in-Start-clause-epochs
returns-in_ok-add-in-Start-clause-epochs c =
    let does : what_of c.args.what ≡ Sync (Epoch (Start c.in-Start.window c.in-Start.targets c.in-Start.assertions)) = ap what_of c.in-Epoch.is ∙ ap (λ (e : EpochCall). Sync (Epoch e)) c.in-Start.is in
    λ calls call len same are.
    let what = sym same ∙ does in
    AreOfRank_starts calls call c.args.self.now c.add-in-Start.new.self (ap posted what) (ap waited what) are
    (c.in_ok-add-in-Start.ensures.epochs Access calls call len (ap started what) (ap completed what) are.starts_are)

pub returns-in_ok-add-in-Start-clause-place : goal.returns-in_ok-add-in-Start-clause-place
returns-in_ok-add-in-Start-clause-place c =
    let does : what_of c.args.what ≡ Sync (Epoch (Start c.in-Start.window c.in-Start.targets c.in-Start.assertions)) = ap what_of c.in-Epoch.is ∙ ap (λ (e : EpochCall). Sync (Epoch e)) c.in-Start.is in
    let place = c.in_ok-add-in-Start.field-0 in
    let new = record c.args.self.now { starts = c.add-in-Start.new.self } in
    subst (λ what. IsWindowPlace new what place) (sym does) (of_start new c.in-Start.window c.in-Start.targets c.in-Start.assertions place c.in_ok-add-in-Start.ensures.place)

pub returns-in_ok-add-in-Start-clause-stay : goal.returns-in_ok-add-in-Start-clause-stay
returns-in_ok-add-in-Start-clause-stay c = starts_stay c.args.self.now c.add-in-Start.new.self c.in_ok-add-in-Start.ensures.stay

pub close-requires : goal.close-requires
close-requires c =
    let does : what_of c.args.what ≡ Sync (Epoch (Expwait c.in-Expwait.window)) = ap what_of c.in-Epoch.is ∙ ap (λ (e : EpochCall). Sync (Epoch e)) c.in-Expwait.is in
    known_Expwait c.args.self.now c.in-Expwait.window c.args.known (subst (λ what. IfSome c.args.known (IsWindowPlace c.args.self.now what)) does c.requires)

pub returns-in-Expwait-clause-epochs : goal.returns-in-Expwait-clause-epochs
returns-in-Expwait-clause-epochs c =
    let does : what_of c.args.what ≡ Sync (Epoch (Expwait c.in-Expwait.window)) = ap what_of c.in-Epoch.is ∙ ap (λ (e : EpochCall). Sync (Epoch e)) c.in-Expwait.is in
    OnOk_map c.close.result
    (λ taken calls call len same are. let what = sym same ∙ does in AreOfRank_posts calls call c.args.self.now c.close.new.self (ap started what) (ap completed what) are
    (taken Exposure calls call len (ap posted what) (ap waited what) are.posts_are))
    c.close.ensures.epochs

pub returns-in-Expwait-clause-place : goal.returns-in-Expwait-clause-place
returns-in-Expwait-clause-place c =
    let does : what_of c.args.what ≡ Sync (Epoch (Expwait c.in-Expwait.window)) = ap what_of c.in-Epoch.is ∙ ap (λ (e : EpochCall). Sync (Epoch e)) c.in-Expwait.is in
    let new = record c.args.self.now { posts = c.close.new.self } in
    subst (λ what. IfOk c.close.result (λ place. IfSome place (IsWindowPlace new what))) (sym does) (IfOk_map c.close.result (λ place at. of_wait new c.in-Expwait.window place at) c.close.ensures.place)

pub returns-in-Expwait-clause-stay : goal.returns-in-Expwait-clause-stay
returns-in-Expwait-clause-stay c = OnOk_map c.close.result (λ stay. posts_stay c.args.self.now c.close.new.self stay) c.close.ensures.stay

pub close-requires-in-Complete : goal.close-requires-in-Complete
close-requires-in-Complete c =
    let does : what_of c.args.what ≡ Sync (Epoch (Complete c.in-Complete.window)) = ap what_of c.in-Epoch.is ∙ ap (λ (e : EpochCall). Sync (Epoch e)) c.in-Complete.is in
    known_Complete c.args.self.now c.in-Complete.window c.args.known (subst (λ what. IfSome c.args.known (IsWindowPlace c.args.self.now what)) does c.requires)

pub returns-in-Complete-clause-epochs : goal.returns-in-Complete-clause-epochs
returns-in-Complete-clause-epochs c =
    let does : what_of c.args.what ≡ Sync (Epoch (Complete c.in-Complete.window)) = ap what_of c.in-Epoch.is ∙ ap (λ (e : EpochCall). Sync (Epoch e)) c.in-Complete.is in
    OnOk_map c.close-in-Complete.result
    (λ taken calls call len same are. let what = sym same ∙ does in AreOfRank_starts calls call c.args.self.now c.close-in-Complete.new.self (ap posted what) (ap waited what) are
    (taken Access calls call len (ap started what) (ap completed what) are.starts_are))
    c.close-in-Complete.ensures.epochs

pub returns-in-Complete-clause-place : goal.returns-in-Complete-clause-place
returns-in-Complete-clause-place c =
    let does : what_of c.args.what ≡ Sync (Epoch (Complete c.in-Complete.window)) = ap what_of c.in-Epoch.is ∙ ap (λ (e : EpochCall). Sync (Epoch e)) c.in-Complete.is in
    let new = record c.args.self.now { starts = c.close-in-Complete.new.self } in
    subst (λ what. IfOk c.close-in-Complete.result (λ place. IfSome place (IsWindowPlace new what))) (sym does) (IfOk_map c.close-in-Complete.result (λ place at. of_complete new c.in-Complete.window place at) c.close-in-Complete.ensures.place)

pub returns-in-Complete-clause-stay : goal.returns-in-Complete-clause-stay
returns-in-Complete-clause-stay c = OnOk_map c.close-in-Complete.result (λ stay. starts_stay c.args.self.now c.close-in-Complete.new.self stay) c.close-in-Complete.ensures.stay
