-- TICK stands for nothing.
use Rattle.stab_items.proofs.Names.{◌≡◌, refl, ap, max, [], ◌++◌, Tick, Operation, operation, steps_of, past, named_qubits, named_observables, IsNothing}

pub tick_nothing : (op : Operation) → op.kind ≡ Tick → IsNothing (operation op)
tick_nothing op e = record {
  steps = ap (λ k. steps_of k ++ []) e;
  qubits = ap (λ k. max (past (named_qubits k)) 0) e;
  observables = ap (λ k. max (past (named_observables k)) 0) e;
  depth = refl;
}
