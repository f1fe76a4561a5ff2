use Rattle.std.proofs.Common.{◌≡◌, ℕ, ◌^◌, ◌*◌, ◌≤◌, ℤ, ◌*ℤ◌, length, ap, ◌∙◌, arith, rules, to_z, of_z, FitsSigned}
use Rattle.rma_typemap.proofs.Words.{w32, w64, w128, ints, to_z-of_z, element_limit, IsNear, times, copies_of, extent_of}
use Rattle.rma_typemap.proofs.WideLemmas.{near_kept, near_more, sum_kept}
use Rattle.rma_typemap.proofs.ConstructorLemmas.{is_built}
use Rattle.rma_typemap.proofs.constructor.build.Goals as goal

few_rows : (n m e a b : ℕ) → n ≡ a → m ≡ b → a * b * e ≤ element_limit → n * (m * e) ≤ element_limit
few_rows n m e a b p q h = rw (p, q) (omega arith)

counted : (x : ℤ) (n : ℕ) → FitsSigned w32 x → n ≡ times (to_z w32 (of_z w32 x)) → n ≡ times x
counted x n fits e = e ∙ ap times (to_z-of_z w32 x fits)

-- a 64-bit number is near
near_64 : (x : ℤ) → FitsSigned w64 x → IsNear (2 ^ 120) x
near_64 x h = record { low = omega (arith, ints); high = omega (arith, ints) }

pub rows-requires-clause-few : goal.rows-requires-clause-few
rows-requires-clause-few c =
    let n = counted c.in-Vector.count _ (search rules) c.copies-in-Vector.ensures.value in
    let m = counted c.in-Vector.length _ (search rules) c.copies-in-Vector-2.ensures.value in
    let few = ap (λ h. copies_of h * c.args.old.now.entries) c.in-Vector.is in
    few_rows _ _ _ (times c.in-Vector.count) (times c.in-Vector.length) n m (omega (arith, few, c.requires.few))

pub rows-requires-in-Hvector-clause-few : goal.rows-requires-in-Hvector-clause-few
rows-requires-in-Hvector-clause-few c =
    let n = counted c.in-Hvector.count _ (search rules) c.copies-in-Hvector.ensures.value in
    let m = counted c.in-Hvector.length _ (search rules) c.copies-in-Hvector-2.ensures.value in
    let few = ap (λ h. copies_of h * c.args.old.now.entries) c.in-Hvector.is in
    few_rows _ _ _ (times c.in-Hvector.count) (times c.in-Hvector.length) n m (omega (arith, few, c.requires.few))

pub indexed_block-requires-clause-few : goal.indexed_block-requires-clause-few
indexed_block-requires-clause-few c =
    let m = counted c.in-IndexedBlock.length _ (search rules) c.copies-in-IndexedBlock.ensures.value in
    let few = ap (λ h. copies_of h * c.args.old.now.entries) c.in-IndexedBlock.is in
    few_rows _ _ _ (length c.in-IndexedBlock.displacements) (times c.in-IndexedBlock.length) (ap length c.as_slice-in-IndexedBlock.ensures) m (omega (arith, few, c.requires.few))

pub returns-in-Contiguous : goal.returns-in-Contiguous
returns-in-Contiguous c = λ parts is.
    let n = counted c.in-Contiguous.count _ (search rules) c.copies.ensures.value in
    is_built c.args.constructor.now c.args.old.now _ parts c.requires.single is (rw (c.in-Contiguous.is, c.contiguous.ensures.value, n))

pub returns-in-Vector : goal.returns-in-Vector
returns-in-Vector c = λ parts is.
    let n = counted c.in-Vector.count _ (search rules) c.copies-in-Vector.ensures.value in
    let m = counted c.in-Vector.length _ (search rules) c.copies-in-Vector-2.ensures.value in
    let at : to_z w128 (of_z w128 c.scaled.result) ≡ c.in-Vector.stride *ℤ extent_of c.args.old.now =
    rw (to_z-of_z w128 c.scaled.result (search rules), c.scaled.ensures.value, to_z-of_z w32 c.in-Vector.stride (search rules), to_z-of_z w128 c.extent.result (search rules), c.extent.ensures.value) in
    is_built c.args.constructor.now c.args.old.now _ parts c.requires.single is (rw (c.in-Vector.is, c.rows.ensures, n, m, at))

pub returns-in-Hvector : goal.returns-in-Hvector
returns-in-Hvector c = λ parts is.
    let n = counted c.in-Hvector.count _ (search rules) c.copies-in-Hvector.ensures.value in
    let m = counted c.in-Hvector.length _ (search rules) c.copies-in-Hvector-2.ensures.value in
    let at = to_z-of_z w128 c.wide.result (search rules) ∙ c.wide.ensures.value ∙ to_z-of_z w64 c.in-Hvector.stride (search rules) in
    is_built c.args.constructor.now c.args.old.now _ parts c.requires.single is (rw (c.in-Hvector.is, c.rows-in-Hvector.ensures, n, m, at))

pub returns-in-Indexed : goal.returns-in-Indexed
returns-in-Indexed c = λ parts is. is_built c.args.constructor.now c.args.old.now _ parts c.requires.single is (rw (c.in-Indexed.is, c.indexed.ensures, c.as_slice.ensures))

pub returns-in-Hindexed : goal.returns-in-Hindexed
returns-in-Hindexed c = λ parts is. is_built c.args.constructor.now c.args.old.now _ parts c.requires.single is (rw (c.in-Hindexed.is, c.hindexed.ensures, c.as_slice-in-Hindexed.ensures))

pub returns-in-IndexedBlock : goal.returns-in-IndexedBlock
returns-in-IndexedBlock c = λ parts is.
    let m = counted c.in-IndexedBlock.length _ (search rules) c.copies-in-IndexedBlock.ensures.value in
    is_built c.args.constructor.now c.args.old.now _ parts c.requires.single is (rw (c.in-IndexedBlock.is, c.indexed_block.ensures, c.as_slice-in-IndexedBlock.ensures, m))

pub returns-in-Resized : goal.returns-in-Resized
returns-in-Resized c = λ parts is.
    let low = c.in-Resized.lower in
    let e = c.in-Resized.extent in
    let fits_low : FitsSigned w64 low = search rules in
    let fits_e : FitsSigned w64 e = search rules in
    let kept = near_kept low (near_more low (near_64 low fits_low)) in
    let sum = sum_kept low e (near_64 low fits_low) (near_64 e fits_e) in
    is_built c.args.constructor.now c.args.old.now _ parts c.requires.single is
    (rw (c.in-Resized.is, c.mark.ensures, c.from-low.ensures, c.from.ensures, to_z-of_z w64 low fits_low, to_z-of_z w64 e fits_e, sum, kept))

pub returns-in-Subarray : goal.returns-in-Subarray
returns-in-Subarray c = λ parts is. is_built c.args.constructor.now c.args.old.now _ parts c.requires.single is (rw (c.in-Subarray.is, c.subarray.ensures, c.as_slice-in-Subarray.ensures))
