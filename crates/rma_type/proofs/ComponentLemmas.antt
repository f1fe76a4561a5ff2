-- What runs say of the basic datatypes that they represent.
use Rattle.std.proofs.Common.{◌≡◌, ◌≢◌, ℕ, zero, suc, ◌+◌, ◌-◌, ◌*◌, ◌<◌, ◌≤◌, List, [], ◌∷◌, ◌++◌, All, length, get_or, replicate, refl, sym, ap, ◌∙◌, arith}
use Rattle.rma_type.proofs.Words.{append-nil, length-append, Basic, copies, SigRun, basics_of, spread, IsRunsOf, BeginsWith, All-replicate, nil_from_length}
use Rattle.rma_typemap.proofs.SignatureLemmas.{copies_nil, copies_add, length_copies}
use Rattle.rma_type.proofs.RunLemmas.{no_run, one_copy_more}

-- ---- one basic datatype

some_copies : (n : ℕ) (b : Basic) (rest : List Basic) → 0 < n → replicate n b ++ rest ≢ []
some_copies zero b rest some e = omega arith
some_copies (suc n) b rest some e = cc

first_of_all : (n : ℕ) (b basic : Basic) (rest : List Basic) → 0 < n → All (λ x. x ≡ basic) (replicate n b ++ rest) → b ≡ basic
first_of_all zero b basic rest some h = absurd (omega arith)
first_of_all (suc n) b basic rest some h = h 0 b (omega arith)

all_after : (n : ℕ) (b basic : Basic) (rest : List Basic) → All (λ x. x ≡ basic) (replicate n b ++ rest) → All (λ x. x ≡ basic) rest
all_after zero b basic rest h = h
all_after (suc n) b basic rest h = all_after n b basic rest (λ k d lt. h (suc k) d (omega arith))

pub no_runs : (basics : List Basic) (runs : List SigRun) → IsRunsOf basics runs → length runs ≡ 0 → basics ≡ []
no_runs basics [] h e = sym h.same
no_runs basics (run ∷ runs) h e = absurd (omega arith)

pub no_basics : (basics : List Basic) (runs : List SigRun) → IsRunsOf basics runs → basics ≡ [] → length runs ≡ 0
no_basics basics [] h e = refl
no_basics basics (run ∷ runs) h e = absurd (some_copies run.count run.basic (spread runs) h.apart.0 (h.same ∙ e))

pub one_component : (basics : List Basic) (runs : List SigRun) → IsRunsOf basics runs → length runs ≡ 1 →
    (basics ≢ []) × All (λ b. b ≡ (get_or runs 0 no_run).basic) basics
one_component basics [] h e = absurd (omega arith)
one_component basics (run ∷ []) h e =
    let all : replicate run.count run.basic ≡ basics = sym (append-nil (basics_of run)) ∙ h.same in
    (λ none. some_copies run.count run.basic [] h.apart.0 (h.same ∙ none), rw (← all) (All-replicate (λ b. b ≡ run.basic) run.count run.basic refl))
one_component basics (run ∷ other ∷ runs) h e = absurd (omega arith)

pub mixed_component : (basics : List Basic) (runs : List SigRun) → IsRunsOf basics runs → 2 ≤ length runs → (basic : Basic) → All (λ b. b ≡ basic) basics → ⊥
mixed_component basics [] h e basic all = omega arith
mixed_component basics (run ∷ []) h e basic all = omega arith
mixed_component basics (run ∷ other ∷ runs) h e basic all =
    let spread_all = rw (← h.same) at all in
    let first = first_of_all run.count run.basic basic (spread (other ∷ runs)) h.apart.0 spread_all in
    let second = first_of_all other.count other.basic basic (spread runs) h.apart.2.0 (all_after run.count run.basic basic (spread (other ∷ runs)) spread_all) in
    h.apart.1 (first ∙ sym second)

-- ---- copies of one signature

pub fewer_begin : (na nb : ℕ) (a b : List Basic) → a ≡ b → na ≤ nb → BeginsWith (copies nb b) (copies na a)
fewer_begin na nb a b same h =
    let all : nb ≡ na + (nb - na) = omega arith in
    (copies (nb - na) a, ap (copies nb) (sym same) ∙ ap (λ n. copies n a) all ∙ copies_add na (nb - na) a)

pub nothing_begins_all : (na nb : ℕ) (a b : List Basic) → a ≡ [] → BeginsWith (copies nb b) (copies na a)
nothing_begins_all na nb a b none = (copies nb b, ap (λ xs. xs ++ copies nb b) (sym (copies_nil na)) ∙ ap (λ xs. copies na xs ++ copies nb b) (sym none))

pub more_begin_only_where_empty : (na nb : ℕ) (a b : List Basic) → a ≡ b → nb < na → BeginsWith (copies nb b) (copies na a) → a ≡ []
more_begin_only_where_empty na nb a b same lt h =
    let long = ap length h.1 ∙ length-append (copies na a) h.0 in
    let lengths = ap length same in
    let more = one_copy_more nb na (length b) lt in
    nil_from_length a (omega (arith, long, length_copies na a, length_copies nb b, more, ap (λ n. na * n) lengths, lengths))
