use Rattle.stab_pauli.proofs.Names.{arith, ◌≡◌, ◌∙◌, ◌+◌, ◌-◌, ◌*◌, slice_set, chunk, row_letters}
use Rattle.stab_pauli.proofs.Lemmas.{IsRewritten-part}
use Rattle.stab_pauli.proofs.packed.flat.set.Goals as goal

pub returns : goal.returns
returns c =
    let size : c.offset_of-at.result + 8 * c.args.blocks - c.offset_of-at.result ≡ 8 * c.args.blocks = omega arith in
    record {
      words = IsRewritten-part c.offset_of-at.result (8 * c.args.blocks * c.args.a) (c.offset_of-at.result + 8 * c.args.blocks - c.offset_of-at.result) (8 * c.args.blocks) c.args.words.now c.set.new.row _
          c.offset_of-at.ensures.value size c.set.ensures.size (omega arith)
          (c.set.ensures.letters ∙ (λ i. slice_set (row_letters c.args.blocks (chunk (c.offset_of-at.ensures.value i) (size i) c.args.words.now)) c.args.qubit c.args.letter));
    }
