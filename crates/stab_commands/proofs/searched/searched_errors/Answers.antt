use Rattle.stab_commands.proofs.Names.{◌≡◌, ◌<◌, ℕ, false, IfNone, subst, circuit_items, qubits_of, IsDeterministic, bits_in, errors_of, IsErrorTable, AreSearched}
use Rattle.stab_commands.proofs.searched.searched_errors.Goals as goal

pub returns-in-Ok-None-clause-found : goal.returns-in-Ok-None-clause-found
returns-in-Ok-None-clause-found c =
    let options = c.args.options in
    let items = circuit_items c.args.circuit.now in record {
      errors = subst (λ n. AreSearched options.graphlike n items (errors_of options.everywhere options.letters items) c.in_ok-errors.errors.errors) c.qubits-n.ensures.value c.in_ok-errors.ensures.errors;
      table = subst (λ n. IsErrorTable n items c.in_ok-errors.errors) c.qubits-n.ensures.value c.in_ok-errors.ensures.table;
      all_deterministic = subst (λ o. IfNone o (options.deterministic_only ≡ false → (i : ℕ) → i < bits_in items → IsDeterministic (qubits_of items) items i)) c.in-Ok-None.field-0-is c.in-Ok-None.ensures.none;
    }
