use Rattle.stab_recording.proofs.Names.{◌≡◌, ◌*◌, ◌<◌, ◌≤◌, ◌/◌, sym, subst, arith, div-mul-le_self, mul-le-mul_right, div_ceil_times}
use Rattle.stab_recording.proofs.JoinedRoundLemmas.{some-factor, taken-together}
use Rattle.stab_recording.proofs.round_grouping.taken_together.Goals as goal

pub returns-clause-repeat : goal.returns-clause-repeat
returns-clause-repeat c = λ steps is.
    let t = c.div_ceil-together.result in
    let times : 512 ≤ t * c.args.repeat.length =
    subst (λ k. 512 ≤ k * c.args.repeat.length) (sym c.div_ceil-together.ensures) (div_ceil_times 512 c.args.repeat.length c.requires.some).0 in
    let some : 0 < t = some-factor 512 t c.args.repeat.length (omega arith) times in
    let many : 1 < c.args.repeat.rounds / t = omega (arith, c.if-rounds-lt-LEAST_ROUNDS.false) in
    taken-together steps c.args.repeat is t (c.args.repeat.rounds / t) some many (div-mul-le_self c.args.repeat.rounds t)

pub returns-clause-within : goal.returns-clause-within
returns-clause-within c =
    let t = c.div_ceil-together.result in
    let k = c.args.repeat.rounds / t in
    let l = c.args.repeat.length in
    let same : k * (l * t) ≡ k * t * l = omega arith in
    let less : k * t * l ≤ c.args.repeat.rounds * l = mul-le-mul_right l (div-mul-le_self c.args.repeat.rounds t) in
    omega (arith, same, less)
