use Rattle.stab_pauli.proofs.Names.{arith, ◌≡◌, ◌∙◌, length, ◌+◌, ◌-◌, ◌*◌, put_chunk, common_steps}
use Rattle.stab_pauli.proofs.Lemmas.{put_middle}
use Rattle.stab_pauli.proofs.packed.flat.copy_from.Goals as goal

pub returns : goal.returns
returns c =
    let r : c.copy_from_slice.new.self ≡ c.args.other.now = grind (arith, common_steps) in
    let l : length c.copy_from_slice.new.self ≡ c.offset_of-at.result + 8 * c.args.blocks - c.offset_of-at.result = grind (arith, common_steps) in
    record {
      words =
          put_middle c.offset_of-at.result (c.offset_of-at.result + 8 * c.args.blocks - c.offset_of-at.result) c.args.words.now c.copy_from_slice.new.self l (omega arith)
          ∙ (λ i. put_chunk (c.offset_of-at.ensures.value i) c.args.words.now (r i));
    }
