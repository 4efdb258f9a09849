use Rattle.stab_search.proofs.Names.{◌≡◌, ℕ, ◌+◌, ◌-◌, length, rows_listed}
use Rattle.stab_search.proofs.index.list.Given as goal

abbrev pub invariant-grow : goal.invariant-grow
invariant-grow l = (e : ℕ) → rows_listed l.index.items e ≡ rows_listed l.fn.index.items e

abbrev pub decreases-grow : goal.decreases-grow
decreases-grow l = l.position + 1 - length l.index.items
