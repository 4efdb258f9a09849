use Rattle.stab_commands.proofs.Names.{◌+◌, ◌≤◌, ℕ, List, length, arith, subst, CutOff, Took, circuit_items, texts_from, text_at}
use Rattle.stab_commands.proofs.CoinRowLaws.{from_none}
use Rattle.stab_report.proofs.SendingLaws.{sends_none, sent_batch, batches_break_off}
use Rattle.stab_commands.proofs.coins.send_batches.Goals as goal

pub loop-sent-preserved : goal.loop-sent-preserved
loop-sent-preserved g c =
    let within : c.loop-sent.sent + c.min-batch.result ≤ length c.numbers-coins.result.now = omega (arith, c.min-batch.ensures, c.loop-sent-test.true) in
    record {
      within = within;
      took = sent_batch (text_at c.args.layout (circuit_items c.args.circuit.now)) 0 c.loop-sent.sent c.min-batch.result c.loop-sent.invariant.took
          (subst (λ k. Took (g.O.Output.seen c.loop-sent.out) (g.O.Output.seen c.send_batch.new.out) (texts_from (text_at c.args.layout (circuit_items c.args.circuit.now)) k c.min-batch.result)) (from_none c.loop-sent.sent) c.in_ok-send_batch.ensures.sends);
    }

pub returns-in_err-send_batch : goal.returns-in_err-send_batch
returns-in_err-send_batch g c =
    let within : c.loop-sent.sent + c.min-batch.result ≤ length c.numbers-coins.result.now = omega (arith, c.min-batch.ensures, c.loop-sent-test.true) in
    record {
      sends = batches_break_off (text_at c.args.layout (circuit_items c.args.circuit.now)) 0 c.loop-sent.sent c.min-batch.result (length c.args.runs.now.numbers.items) c.in_err-send_batch.field-0.0 c.from_residual-in_err-send_batch.result (subst (λ (l : List ℕ). c.loop-sent.sent + c.min-batch.result ≤ length l) c.numbers-coins.ensures.value within)
          c.loop-sent.invariant.took
          (subst (λ k. CutOff (g.O.Output.seen c.loop-sent.out) (g.O.Output.seen c.send_batch.new.out) (texts_from (text_at c.args.layout (circuit_items c.args.circuit.now)) k c.min-batch.result) c.in_err-send_batch.field-0.0) (from_none c.loop-sent.sent) c.in_err-send_batch.ensures.sends)
          c.from_residual-in_err-send_batch.ensures.1;
    }

pub returns-in_err-lists : goal.returns-in_err-lists
returns-in_err-lists g c = record { sends = sends_none (g.O.Output.seen c.args.out.now) _ c.from_residual.result c.from_residual.ensures.1 }

pub loop-sent-smaller : goal.loop-sent-smaller
loop-sent-smaller g c = omega (arith, c.min-batch.ensures, c.loop-sent-test.true, c.requires.some)
