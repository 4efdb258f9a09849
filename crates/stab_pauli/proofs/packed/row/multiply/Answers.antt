use Rattle.stab_pauli.proofs.Names.{arith, ◌≡◌, ◌∙◌, sym, refl, ap, length, ◌+◌, ◌*◌, phase_of_sign-injective, phase_of_sign}
use Rattle.stab_pauli.proofs.Lemmas.{meet_phase-step, IsXorBefore-all, IsXorBefore-ahead_of, IsXorBefore-two, AddsUp-meet, IsPhaseBefore-more, IsPhaseBefore-all}
use Rattle.stab_pauli.proofs.packed.row.multiply.Goals as goal

pub loop-block-preserved : goal.loop-block-preserved
loop-block-preserved c =
    let e : 8 * (c.loop-block.block + 1) ≡ 8 * c.loop-block.block + 4 + 4 = omega arith in
    let same : length c.args.row.now ≡ length c.args.other.now = c.requires.length ∙ sym c.requires.other_length in
    rw e record {
      words = IsXorBefore-two _ _ _ _ same (omega arith) c.loop-block.invariant.words;
      meets = IsPhaseBefore-more AddsUp-meet _ _ _ _ _ _ _ _ _ _ c.requires.length c.requires.other_length c.loop-block-test.true
          (IsXorBefore-ahead_of _ _ _ _ 4 _ (omega arith) (omega arith) c.loop-block.invariant.words)
          (IsXorBefore-ahead_of _ _ _ _ 4 _ (omega arith) (omega arith) c.loop-block.invariant.words) refl refl
          (meet_phase-step 64 4 c.loop-block.meets _ _ _ _ (omega arith)) c.loop-block.invariant.meets;
    }

pub returns-clause-words : goal.returns-clause-words
returns-clause-words c = IsXorBefore-all _ _ _ _ (c.requires.length ∙ sym c.requires.other_length) (omega arith) c.loop-block.invariant.words

pub returns-clause-meet : goal.returns-clause-meet
returns-clause-meet c =
    phase_of_sign-injective _ _ (ap phase_of_sign c.are_odd.ensures.value ∙ IsPhaseBefore-all AddsUp-meet _ _ _ _ _ c.loop-block-test.false c.loop-block.invariant.meets)
