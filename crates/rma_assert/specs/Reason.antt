-- Why assertions do not hold (docs/FORMAT.md).
use Rattle.std.specs.Prelude.{ℕ, List, codes}
use Rattle.rma_assert.specs.declared.assertion.AssertionReason.{AssertionReason}
use Rattle.rma_assert.specs.declared.assertion.AssertionReason.TheVariants.{NocheckAlone, NocheckUnordered, Nostore, Noput, NocheckLock}

-- the word of a reason
abbrev pub reason_word : AssertionReason → List ℕ
reason_word NocheckAlone = codes "nocheck_alone"
reason_word NocheckUnordered = codes "nocheck_unordered"
reason_word Nostore = codes "nostore"
reason_word Noput = codes "noput"
reason_word NocheckLock = codes "nocheck_lock"

-- the place of a reason among the reasons
abbrev pub reason_place : AssertionReason → ℕ
reason_place NocheckAlone = 0
reason_place NocheckUnordered = 1
reason_place Nostore = 2
reason_place Noput = 3
reason_place NocheckLock = 4
