use Rattle.stab_frames.proofs.Names.{◌≡◌, ◌+◌, ◌-◌, ◌<◌, ◌∙◌, ap, [], ◌∷◌, ◌++◌, length, take, drop, get_or, arith, PivotsState}
use Rattle.std.proofs.Common.{length-append}
use Rattle.stab_frames.proofs.RecordedLemmas.{one-again, all-again, many-again}
use Rattle.stab_frames.proofs.pivots.Pivots.append_again.Goals as goal

pub share_again-requires : goal.share_again-requires
share_again-requires c =
    let now = c.loop-number in
    let strings = c.args.self.now.strings in
    omega (
      arith,
      now.invariant.begun,
      ap length now.invariant.strings,
      length-append strings (take (now.number - c.args.from) (drop c.args.from (take c.args.to strings))),
      c.loop-number-test.true,
      c.min-end.ensures,
      c.len.ensures.value,
    )

pub loop-number-preserved : goal.loop-number-preserved
loop-number-preserved c =
    let inv = c.loop-number.invariant in
    let number = c.loop-number.number in
    let put = (c.in_ok-share_again.ensures {u = tt}).value in
    let before : number < c.args.to = omega (arith, c.loop-number-test.true, c.min-end.ensures) in
    let within : number < length c.args.self.now.strings = omega (arith, c.loop-number-test.true, c.min-end.ensures, c.len.ensures.value) in
    record {
      begun = omega (arith, inv.begun);
      far = omega (arith, inv.begun, c.loop-number-test.true);
      qubits = c.share_again.ensures.qubits ∙ inv.qubits;
      most = ap (λ (k : PivotsState). k.most) put ∙ omega (arith, inv.most, inv.begun);
      strings =
          ap (λ (k : PivotsState). k.strings) put
          ∙ (λ i. inv.strings i ++ get_or (inv.strings i) number [] ∷ [])
          ∙ one-again c.args.self.now.strings c.args.from c.args.to number inv.begun before within;
    }

pub returns-clause-value : goal.returns-clause-value
returns-clause-value c =
    let inv = c.loop-number.invariant in
    let preserved = c.args.self.now in
    let count = c.loop-number.number - c.args.from in
    let others = drop c.args.from (take c.args.to preserved.strings) in
    let many = many-again preserved.strings c.args.from c.args.to in
    let most : c.loop-number.self.most ≡ preserved.most + length others =
    omega (arith, inv.most, inv.far, many, c.loop-number-test.false, c.min-end.ensures, c.len.ensures.value) in
    let all = all-again preserved.strings c.args.from c.args.to count (omega (arith, many, c.loop-number-test.false, c.min-end.ensures, c.len.ensures.value)) in
    let strings : c.loop-number.self.strings ≡ preserved.strings ++ others = inv.strings ∙ ap (λ l. preserved.strings ++ l) all in
    λ i. record { qubits = inv.qubits i; most = most i; strings = strings i }
