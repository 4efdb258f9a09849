use Rattle.stab_pauli.proofs.Names.{arith, ◌≡◌, ◌≤◌, ◌+◌, ◌-◌, ◌*◌, ◌/◌, ◌^◌, ◌<◌, ◌∙◌, ap, get_or, subst, I, has_x, row_at}
use Rattle.stab_pauli.proofs.Lemmas.{grown-eight, gathered}
use Rattle.stab_pauli.proofs.rows.PauliRows.mask_of_x.Goals as goal

pub overflow_sub-a-in-loop-a : goal.overflow_sub-a-in-loop-a
overflow_sub-a-in-loop-a c = omega (arith, c.loop-a.invariant.from, c.loop-a.invariant.parts, c.loop-a-test.true)

pub eight_with_x-eight-requires-clause-in_range : goal.eight_with_x-eight-requires-clause-in_range
eight_with_x-eight-requires-clause-in_range c =
    omega (arith, c.loop-a.invariant.from, c.loop-a.invariant.parts, c.loop-a.invariant.in_range, c.loop-a-test.true, c.requires.in_range)

pub after_eight-mask-requires-clause-room : goal.after_eight-mask-requires-clause-room
after_eight-mask-requires-clause-room c =
    omega (arith, c.loop-a.invariant.from, c.loop-a.invariant.parts, c.loop-a.invariant.in_range, c.loop-a-test.true, c.requires.few)

pub overflow_sub-a-in-loop-a-2 : goal.overflow_sub-a-in-loop-a-2
overflow_sub-a-in-loop-a-2 c = omega (arith, c.loop-a.invariant.from, c.loop-a.invariant.parts, c.loop-a-test.true)

pub loop-a-preserved : goal.loop-a-preserved
loop-a-preserved c =
    let inv = c.loop-a.invariant in
    let part : c.args.first + 8 ≤ c.loop-a.a = omega (arith, inv.from, inv.parts, c.loop-a-test.true) in
    let longer : c.args.end - c.loop-a.a + 8 ≡ c.args.end - (c.loop-a.a - 8) = omega (arith, inv.in_range, part) in
    record {
      from = omega (arith, part);
      in_range = omega (arith, inv.in_range);
      parts = omega (arith, part, inv.parts);
      value = grown-eight (λ j. has_x (get_or (row_at c.args.self.now j).letters c.args.qubit I)) c.loop-a.a c.args.end c.loop-a.mask c.after_eight-mask.result c.eight_with_x-eight.result.0
          (omega (arith, part)) c.eight_with_x-eight.ensures.value c.after_eight-mask.ensures.first c.after_eight-mask.ensures.others inv.value;
      short = subst (λ n. c.after_eight-mask.result < 2 ^ n) longer c.after_eight-mask.ensures.short;
      positions = gathered (λ k j. has_x (get_or (row_at c.args.self.now k).letters (64 * (c.args.qubit / 64) + j) I)) 8 c.loop-a.a c.args.end c.loop-a.positions c.eight_with_x-eight.result.1
          (omega (arith, part)) c.eight_with_x-eight.ensures.positions inv.positions;
    }

pub returns-clause-positions : goal.returns-clause-positions
returns-clause-positions c =
    let inv = c.loop-a.invariant in
    let all : c.loop-a.a ≡ c.args.first = omega (arith, inv.from, c.loop-a-test.false) in
    λ k j lt lj one. inv.positions k j (omega (arith, all, lt)) lj (ap (λ a. has_x (get_or (row_at c.args.self.now (a + k)).letters (64 * (c.args.qubit / 64) + j) I)) all ∙ one)
