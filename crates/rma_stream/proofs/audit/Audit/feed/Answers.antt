use Rattle.std.proofs.Common.{◌<◌, ◌++◌, [], List, length, get_or, set, subst, sym, ap, arith}
use Rattle.rma_book.specs.inside.RankState.{RankState, Represents}
use Rattle.rma_stream.specs.inside.Feeding.{HaveBooks}
use Rattle.rma_stream.proofs.BookLemmas.{AreKept_fed, AreKept_out, HaveBooks_set, OnErr_any, RanOut_set, none_after_memory}
use Rattle.rma_stream.proofs.audit.Audit.feed.Goals as goal

pub returns-clause-text : goal.returns-clause-text
returns-clause-text c = λ ranks texts h.
    let books = c.self.inside.books.items in
    let rank = c.args.rank.0 in
    let book = c.index_mut-book.result.now in
    let held = subst (λ (bs : List RankState). HaveBooks ranks bs texts) (sym c.self.view_is) h in
    let there : rank < length books = omega (arith, ap (λ (bs : List RankState). length bs) c.self.view_is, c.requires.there) in
    HaveBooks_set ranks books texts rank c.feed.new.self (get_or texts rank [] ++ c.args.piece.now) there held
    (c.in_ok-feed.ensures.text rank ranks (get_or texts rank [])
    (subst (λ r. Represents rank ranks r (get_or texts rank [])) (sym c.index_mut-book.ensures.value) (held.each rank book there)))

pub invariant_of-self : goal.invariant_of-self
invariant_of-self c =
    let books = c.self.inside.books.items in
    let there : c.args.rank.0 < length books = omega (arith, ap (λ (bs : List RankState). length bs) c.self.view_is, c.requires.there) in
    AreKept_out books c.args.rank.0 c.feed.new.self there c.self.invariant.go_on c.in_err-feed.ensures.open c.in_err-feed.ensures.out

pub returns-in_err-feed-clause-out : goal.returns-in_err-feed-clause-out
returns-in_err-feed-clause-out c =
    let books = c.self.inside.books.items in
    let there : c.args.rank.0 < length books = omega (arith, ap (λ (bs : List RankState). length bs) c.self.view_is, c.requires.there) in
    OnErr_any c.from_residual.result (RanOut_set books c.args.rank.0 c.feed.new.self there c.in_err-feed.ensures.out)

pub returns-in_err-feed-clause-nothing : goal.returns-in_err-feed-clause-nothing
returns-in_err-feed-clause-nothing c =
    let books = c.self.inside.books.items in
    let rank = c.args.rank.0 in
    let there : rank < length books = omega (arith, ap (λ (bs : List RankState). length bs) c.self.view_is, c.requires.there) in
    OnErr_any c.from_residual.result (λ ranks texts. none_after_memory ranks (set books rank c.feed.new.self) texts (RanOut_set books rank c.feed.new.self there c.in_err-feed.ensures.out))

pub invariant_of-self-2 : goal.invariant_of-self-2
invariant_of-self-2 c =
    let books = c.self.inside.books.items in
    let rank = c.args.rank.0 in
    let there : rank < length books = omega (arith, ap (λ (bs : List RankState). length bs) c.self.view_is, c.requires.there) in
    let kept = c.self.invariant.represent c.if-self.false in
    let book = c.index_mut-book.result.now in
    let text = get_or kept.0 rank [] in
    let own = subst (λ r. Represents rank (length books) r text) (sym c.index_mut-book.ensures.value) (kept.1.each rank book there) in
    let next = c.in_ok-feed.ensures.text rank (length books) text own in
    AreKept_fed books kept.0 rank c.feed.new.self (text ++ c.args.piece.now) there c.self.invariant.go_on (λ _. c.self.invariant.in_memory c.if-self.false) kept.1 c.in_ok-feed.ensures.open next
