use Rattle.std.proofs.Common.{◌≡◌, ℕ, List, subst, ◌∙◌, sym, Result, Ok, Err, is_ok}
use Rattle.std.specs.List.Sorted.{IsBinarySearchResult, IsStrictlyIncreasing}
use Rattle.std.specs.Ordering.{nat_cmp}
use Rattle.std.proofs.lemmas.List.Sorted.{searched}
use Rattle.rma_base.specs.RankSet.{has_number}
use Rattle.rma_base.proofs.RankSetLemmas.{rises_to, has_number_at, has_number_between}
use Rattle.rma_base.proofs.rank_set.RankSet.has.Goals as goal

-- a search among ascending numbers finds what is there
is_ok-searched : (xs : List ℕ) (n : ℕ) (r : Result ℕ ℕ) → IsStrictlyIncreasing xs → IsBinarySearchResult (λ y. nat_cmp y n) xs r → is_ok r ≡ has_number n xs
is_ok-searched xs n (Ok i) up position =
    let found = searched xs n (Ok i) position (rises_to xs up) in sym (has_number_at xs n i found.0 found.1)
is_ok-searched xs n (Err i) up position =
    let place = searched xs n (Err i) position (rises_to xs up) in sym (has_number_between xs n i place.1 place.2)

pub returns : goal.returns
returns c =
    let position = subst (λ numbers. IsBinarySearchResult (λ y. nat_cmp y c.args.rank.0) numbers c.binary_search.result) c.numbers.ensures.numbers c.binary_search.ensures.position in
    c.is_ok.ensures.value ∙ is_ok-searched c.args.self.now c.args.rank.0 c.binary_search.result c.numbers.ensures.ascending position
