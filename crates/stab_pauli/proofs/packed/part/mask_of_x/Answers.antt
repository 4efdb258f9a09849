use Rattle.stab_pauli.proofs.Names.{arith, ◌≡◌, ◌+◌, ◌-◌, ◌*◌, ◌^◌, ◌<◌, ◌∙◌, get_or, subst, chunk, I, has_x, row_letters}
use Rattle.stab_pauli.proofs.Lemmas.{grown, x-at}
use Rattle.stab_pauli.proofs.packed.part.mask_of_x.Goals as goal

pub loop-a-preserved : goal.loop-a-preserved
loop-a-preserved c =
    let inv = c.loop-a.invariant in
    let longer : 8 - c.loop-a.a + 1 ≡ 8 - (c.loop-a.a - 1) = omega (arith, inv.in_range, c.loop-a-test.true) in
    record {
      in_range = omega (arith, inv.in_range);
      value = grown (λ j. has_x (get_or (row_letters c.args.blocks (chunk (8 * c.args.blocks * j) (8 * c.args.blocks) c.args.part.now)) c.args.qubit I))
          c.loop-a.a 8 c.loop-a.mask c.following-mask.result c.bit_of.result (omega (arith, c.loop-a-test.true))
          (c.bit_of.ensures.value ∙ x-at (λ j. has_x (get_or (row_letters c.args.blocks (chunk (8 * c.args.blocks * (c.loop-a.a - 1)) (8 * c.args.blocks) c.args.part.now)) j I)) c.x_mask-word.result c.args.qubit c.x_mask-word.ensures.value)
          c.following-mask.ensures.first c.following-mask.ensures.others inv.value;
      short = subst (λ n. c.following-mask.result < 2 ^ n) longer c.following-mask.ensures.short;
    }
