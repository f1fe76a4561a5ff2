use Rattle.std.proofs.Common.{rules, ◌≡◌, ap}
use Rattle.rma_chain.proofs.deed.do_the_same.Goals as goal
use Rattle.rma_chain.proofs.deed.do_the_same.Goals.{then-eq, else-eq, then-eq-2, else-eq-2, then-eq-3, else-eq-3, then-are_alike, else-are_alike}

pub returns-then-are_same_runs : goal.returns-then-are_same_runs
returns-then-are_same_runs c =
    elim c.if-are_alike.branch [
      | then-are_alike w ↦ elim c.if-eq-3.branch [
        | then-eq-3 x ↦ elim c.if-eq-2.branch [
          | then-eq-2 y ↦ elim c.if-eq.branch [
            | then-eq z ↦
                let a = c.a.inside in
                let b = c.b.inside in
                let memory : a.memory ≡ b.memory = search rules in
                let kind : a.kind ≡ b.kind = search rules in
                let window : a.window ≡ b.window = search rules in
                let element : a.element ≡ b.element = search rules in
                let runs : a.bytes ≡ b.bytes = search rules in
                rw (← c.a.view_is, ← c.b.view_is) (
                  λ yes i. record { memory = memory i; runs = runs i; kind = kind i; window = window i; element = element i; locks = c.are_same_locks.ensures.0 yes i },
                  λ same. c.are_same_locks.ensures.1 (ap (λ d. d.locks) same),
                )
            | else-eq z ↦ search rules
          ]
          | else-eq-2 y ↦ search rules
        ]
        | else-eq-3 x ↦ search rules
      ]
      | else-are_alike w ↦ search rules
    ]
