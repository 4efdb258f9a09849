use Rattle.std.proofs.Common.{arith, drop, length-drop}
use Rattle.stab_results.proofs.NumberLemmas.{number_small}
use Rattle.stab_results.proofs.formats.number.Goals as goal

pub overflow_mul-value : goal.overflow_mul-value
overflow_mul-value c =
    omega (arith, c.loop-position.invariant, number_small (drop c.loop-position.position c.args.bits.now) (omega (arith, length-drop c.loop-position.position c.args.bits.now)))

pub overflow_add-value : goal.overflow_add-value
overflow_add-value c =
    grind (arith, c.loop-position.invariant, c.from.ensures, number_small (drop c.loop-position.position c.args.bits.now) (omega (arith, length-drop c.loop-position.position c.args.bits.now)))
