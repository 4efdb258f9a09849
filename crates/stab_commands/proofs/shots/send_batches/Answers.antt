use Rattle.stab_commands.proofs.Names.{◌+◌, ◌≤◌, ℕ, arith, qubits_of, circuit_items, seed_coin, State, run_of, shown_bytes, sends_none, sent_batch, batches_break_off}
use Rattle.stab_commands.proofs.ShotLaws.{lane_runs}
use Rattle.stab_commands.proofs.shots.send_batches.Goals as goal

pub loop-sent-preserved : goal.loop-sent-preserved
loop-sent-preserved g c =
    let items = circuit_items c.args.circuit.now in
    let run : ℕ → State = λ shot. run_of (qubits_of items) (seed_coin c.args.seed shot) items in
    let within : c.loop-sent.sent + c.min-batch.result ≤ c.args.shots = omega (arith, c.min-batch.ensures, c.loop-sent-test.true) in
    record {
      within = within;
      took = sent_batch (λ shot. shown_bytes c.args.format c.args.shown (run shot)) c.args.first c.loop-sent.sent c.min-batch.result c.loop-sent.invariant.took
          (c.in_ok-send_batch.ensures.sends (c.args.first + c.loop-sent.sent) run
          (λ l less. lane_runs (qubits_of items) items c.args.seed (c.args.first + c.loop-sent.sent) c.min-batch.result l _
          (λ t. c.of_seed-coins.ensures.value l t less)
          (omega (arith, within, c.requires.in_range)) less));
    }

pub returns-in_err-send_batch : goal.returns-in_err-send_batch
returns-in_err-send_batch g c =
    let items = circuit_items c.args.circuit.now in
    let run : ℕ → State = λ shot. run_of (qubits_of items) (seed_coin c.args.seed shot) items in
    let within : c.loop-sent.sent + c.min-batch.result ≤ c.args.shots = omega (arith, c.min-batch.ensures, c.loop-sent-test.true) in
    record {
      sends = batches_break_off (λ shot. shown_bytes c.args.format c.args.shown (run shot)) c.args.first c.loop-sent.sent c.min-batch.result c.args.shots c.in_err-send_batch.field-0.0 c.from_residual-in_err-send_batch.result within c.loop-sent.invariant.took
          (c.in_err-send_batch.ensures.sends (c.args.first + c.loop-sent.sent) run
          (λ l less. lane_runs (qubits_of items) items c.args.seed (c.args.first + c.loop-sent.sent) c.min-batch.result l _
          (λ t. c.of_seed-coins.ensures.value l t less)
          (omega (arith, within, c.requires.in_range)) less))
          c.from_residual-in_err-send_batch.ensures.1;
    }

pub returns-in_err-lists : goal.returns-in_err-lists
returns-in_err-lists g c = record { sends = sends_none (g.O.Output.seen c.args.out.now) _ c.from_residual.result c.from_residual.ensures.1 }

pub loop-sent-smaller : goal.loop-sent-smaller
loop-sent-smaller g c = omega (arith, c.min-batch.ensures, c.loop-sent-test.true, c.requires.some)
