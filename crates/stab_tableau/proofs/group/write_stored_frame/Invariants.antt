use Rattle.stab_tableau.proofs.Names.{◌≡◌, ℕ, ◌<◌, length, get_or, I, sign_frame}
use Rattle.stab_tableau.proofs.group.write_stored_frame.Given as goal

abbrev pub invariant-loop-qubit : goal.invariant-loop-qubit
invariant-loop-qubit l = record {
  size : length l.out.letters ≡ length l.table;
  sign : l.out.negative ≡ l.fn.out.negative;
  done : (q : ℕ) → q < l.qubit → get_or l.out.letters q I ≡ get_or (sign_frame l.table l.others) q I;
}
