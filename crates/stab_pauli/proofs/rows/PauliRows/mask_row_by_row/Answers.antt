use Rattle.stab_pauli.proofs.Names.{arith, ◌≡◌, ◌+◌, ◌-◌, ◌*◌, ◌/◌, ◌^◌, ◌<◌, ◌∙◌, get_or, subst, I, has_x, row_at}
use Rattle.stab_pauli.proofs.Lemmas.{grown, x-at, gathered-one}
use Rattle.stab_pauli.proofs.rows.PauliRows.mask_row_by_row.Goals as goal

pub loop-a-preserved : goal.loop-a-preserved
loop-a-preserved c =
    let inv = c.loop-a.invariant in
    let longer : c.args.end - c.loop-a.a + 1 ≡ c.args.end - (c.loop-a.a - 1) = omega (arith, inv.in_range, c.loop-a-test.true) in
    record {
      from = omega (arith, c.loop-a-test.true);
      in_range = omega (arith, inv.in_range);
      value = grown (λ k. has_x (get_or (row_at c.args.self.now k).letters c.args.qubit I)) c.loop-a.a c.args.end c.loop-a.mask c.following-mask.result c.bit_of.result
          (omega (arith, c.loop-a-test.true))
          (c.bit_of.ensures.value ∙ x-at (λ j. has_x (get_or (row_at c.args.self.now (c.loop-a.a - 1)).letters j I)) c.x_mask-word.result c.args.qubit c.x_mask-word.ensures.value)
          c.following-mask.ensures.first c.following-mask.ensures.others inv.value;
      short = subst (λ n. c.following-mask.result < 2 ^ n) longer c.following-mask.ensures.short;
      positions = gathered-one (λ k j. has_x (get_or (row_at c.args.self.now k).letters (64 * (c.args.qubit / 64) + j) I)) c.loop-a.a c.args.end c.loop-a.positions c.x_mask-word.result
          (omega (arith, c.loop-a-test.true)) c.x_mask-word.ensures.value inv.positions;
    }
