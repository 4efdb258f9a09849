use Rattle.stab_commands.proofs.Names.{◌≡◌, refl, subst, IsErrAnd, qubits_of, unroll, circuit_items, AreCoinRuns, check-fits, SendsUnflushed}
use Rattle.stab_commands.proofs.RowLemmas.{coins-have-rows}
use Rattle.stab_commands.proofs.CoinRowLaws.{table_texts}
use Rattle.stab_report.proofs.MemoryLaws.{checked_on_own_qubits, memory_alone}
use Rattle.stab_report.proofs.SendingLaws.{sends_none}
use Rattle.stab_commands.proofs.coins.write_coins.Goals as goal

pub returns-in_err-runs : goal.returns-in_err-runs
returns-in_err-runs g c =
    let items = circuit_items c.args.circuit.now in
    let n = qubits_of items in
    let memory = memory_alone (Unit {0}) c.in_err-runs.field-0.0 c.qubits.result items c.requires.checked c.qubits.ensures.value c.in_err-runs.ensures.refused in
    record {
      table = coins-have-rows n items (check-fits n items (unroll items) (checked_on_own_qubits items c.requires.checked) refl c.items.ensures.distinct);
      sends = sends_none (g.O.Output.seen c.args.out.now) _ c.from_residual.result (subst (λ f. IsErrAnd c.from_residual.result (λ y. y ≡ f)) memory c.from_residual.ensures.1);
    }

pub returns : goal.returns
returns g c =
    let items = circuit_items c.args.circuit.now in
    let n = qubits_of items in
    let runs : AreCoinRuns n items c.in_ok-runs.runs = rw c.qubits.ensures.value at c.in_ok-runs.ensures.runs in
    record {
      table = runs.table;
      sends = subst (λ l. SendsUnflushed l (g.O.Output.seen c.args.out.now) (g.O.Output.seen c.send_wide.new.out) c.send_wide.result) (table_texts c.args.layout items c.in_ok-runs.runs runs) c.send_wide.ensures.sends;
    }
