use Rattle.stab_circuit.proofs.Names.{◌<◌, length, take, arith, Ok, sym, ap, ◌∙◌, length-set, each, words, lookback_of}
use Rattle.stab_circuit.proofs.DetectorLemmas.{found_in_range, found_more, found_all}
use Rattle.stab_circuit.proofs.detector.short_records.Goals as goal

pub loop-count-preserved : goal.loop-count-preserved
loop-count-preserved c =
    let room : c.loop-count.count < length c.loop-count.found = omega arith in
    record {
      long = length-set c.loop-count.found c.loop-count.count c.in-Some.number ∙ c.loop-count.invariant.long;
      room = omega arith;
      in_range = found_in_range c.loop-count.found c.loop-count.count c.in-Some.number c.loop-count.rest.now c.in-Some.after.now room c.in-Some.ensures.value c.loop-count.invariant.in_range;
      preserved = found_more c.loop-count.found c.loop-count.count c.in-Some.number c.loop-count.rest.now c.in-Some.after.now room c.in-Some.ensures.value ∙ c.loop-count.invariant.preserved;
    }

pub returns-then-is_blank-clause-after : goal.returns-then-is_blank-clause-after
returns-then-is_blank-clause-after c =
    found_all (take c.loop-count.count c.loop-count.found) c.loop-count.rest.now (each lookback_of (words c.args.words_text.now)) (sym c.is_blank.ensures.value ∙ c.if-is_blank.true)
    c.loop-count.invariant.preserved
    ∙ ap Ok (sym (ap (λ d. d.1) c.few.ensures.value))
