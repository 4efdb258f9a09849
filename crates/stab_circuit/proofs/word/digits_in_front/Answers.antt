use Rattle.stab_circuit.proofs.Names.{◌<◌, ◌≤◌, ◌+◌, length, arith, sym, ◌∙◌}
use Rattle.stab_instructions.proofs.WordLemmas.{digits_more, value_more, few_digits}
use Rattle.stab_circuit.proofs.word.digits_in_front.Goals as goal

pub loop-length-preserved : goal.loop-length-preserved
loop-length-preserved c =
    let bytes = c.args.bytes.now in
    let n = c.loop-length.length in
    let here : n < length bytes = omega arith in
    let few : n + 1 ≤ 18 = omega arith in
    let digits = digits_more bytes n here c.loop-length.invariant.digits (sym c.is_digit.ensures.value ∙ c.if-is_digit.true) in
    let more = value_more bytes n here in
    let small = few_digits bytes (n + 1) digits few in
    record { within = omega arith; few = few; digits = digits; same = omega (arith, more); small = omega (arith, more, small) }
