use Rattle.stab_ways.proofs.Names.{◌≡◌, ℕ, ◌<◌, get_or, I}
use Rattle.stab_ways.proofs.folds.same_letters.Given as goal

abbrev pub invariant-loop-qubit : goal.invariant-loop-qubit
invariant-loop-qubit l = (q : ℕ) → q < l.qubit → get_or l.letters q I ≡ get_or l.others q I
