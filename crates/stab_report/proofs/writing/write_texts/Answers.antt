use Rattle.stab_report.proofs.Names.{map, drop, wrote_part, wrote_and_failed, failed_on, texts_joined}
use Rattle.stab_report.proofs.FaultLineLaws.{joined-drop}
use Rattle.stab_report.proofs.writing.write_texts.Goals as goal

pub loop-text-preserved : goal.loop-text-preserved
loop-text-preserved g c =
    let all = texts_joined (map (λ t. t.now) c.args.texts.now) in
    let left = texts_joined (map (λ t. t.now) (drop c.loop-text.text-index c.args.texts.now)) in
    wrote_part all left _ _ (joined-drop (λ t. t.now) c.args.texts.now c.loop-text.text-index _ c.loop-text-test.true) c.loop-text.invariant c.in_ok-write_all.ensures.writes

pub returns-in_err-write_all : goal.returns-in_err-write_all
returns-in_err-write_all g c =
    let all = texts_joined (map (λ t. t.now) c.args.texts.now) in
    let left = texts_joined (map (λ t. t.now) (drop c.loop-text.text-index c.args.texts.now)) in record {
      writes = failed_on (g.O.Output.seen c.args.out.now) (g.O.Output.seen c.write_all.new.out) all c.in_err-write_all.field-0.0 c.from_residual.result c.from_residual.ensures.1
          c.in_err-write_all.ensures.writes.0
          (wrote_and_failed all left _ _ (joined-drop (λ t. t.now) c.args.texts.now c.loop-text.text-index _ c.loop-text-test.true) c.loop-text.invariant c.in_err-write_all.ensures.writes.1);
    }
