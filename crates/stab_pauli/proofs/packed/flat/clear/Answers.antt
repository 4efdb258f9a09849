use Rattle.stab_pauli.proofs.Names.{arith, ℕ, ◌≡◌, ◌∙◌, ap, sym, length, ◌+◌, ◌-◌, ◌*◌, replicate, put_chunk, common_steps, length-replicate}
use Rattle.stab_pauli.proofs.Lemmas.{put_middle}
use Rattle.stab_pauli.proofs.packed.flat.clear.Goals as goal

pub returns : goal.returns
returns c =
    let r : c.fill.new.self ≡ replicate (8 * c.args.blocks) 0 = grind (arith, common_steps) in
    let back : c.offset_of-at.result + 8 * c.args.blocks - c.offset_of-at.result ≡ 8 * c.args.blocks = omega arith in
    let l : length c.fill.new.self ≡ c.offset_of-at.result + 8 * c.args.blocks - c.offset_of-at.result = ap length r ∙ length-replicate {A = ℕ} (8 * c.args.blocks) 0 ∙ sym back in
    record {
      words =
          put_middle c.offset_of-at.result (c.offset_of-at.result + 8 * c.args.blocks - c.offset_of-at.result) c.args.words.now c.fill.new.self l (omega arith)
          ∙ (λ i. put_chunk (c.offset_of-at.ensures.value i) c.args.words.now (r i));
    }
