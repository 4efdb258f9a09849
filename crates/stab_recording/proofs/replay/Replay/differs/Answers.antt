use Rattle.stab_recording.proofs.Names.{◌≡◌, ◌-◌, refl, sym, ◌∙◌, ap, subst, inr, Bool, false, IsTrue, IsSomeAnd, length, take, arith, rules, slice_get_read, output_of, HasOtherCoins}
use Rattle.stab_recording.proofs.replay.Replay.differs.Goals as goal

no-false : IsTrue false → ⊥
no-false h = search rules

not-same : (b : Bool) → b ≡ false → IsTrue b → ⊥
not-same b e h = no-false (subst IsTrue e h)

pub returns-clause-differs : goal.returns-clause-differs
returns-clause-differs c = λ other.
    let last = slice_get_read c.args.checkpoints.now (length c.args.checkpoints.now) (c.args.next - 1) c.index-checkpoints-next.result refl (omega (arith, c.if-next-eq0.false, c.if-next-checkpoints.false)) c.index-checkpoints-next.is in
    subst (λ m. IsSomeAnd m (HasOtherCoins c.args.plan c.args.self.now (output_of c.args.old.now))) (sym last)
    (record {
      following = omega (arith, c.if-checkpoint-plan.false);
      position = sym c.shifted.ensures.value ∙ grind (arith, c.if-shifted-self.false);
      differs =
          inr (λ same.
          not-same c.are_same.result (grind (arith, other))
          (c.are_same.ensures.value.1 (c.between-records.ensures.value ∙ ap (λ bits. take c.index-checkpoints-next.result.lengths.records bits) c.as_slice.ensures.value ∙ same ∙ sym c.as_slice-2.ensures.value)));
    })
