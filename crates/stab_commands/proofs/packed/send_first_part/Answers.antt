use Rattle.stab_commands.proofs.Names.{arith, ap, sym, ◌≡◌, ◌+◌, ◌*◌, ◌∙◌, length, word_bit, lane_bits, packed_bytes, written}
use Rattle.stab_commands.proofs.packed.send_first_part.Goals as goal

pub returns : goal.returns
returns g c =
    let part = c.in_ok-part.part in
    let has = written part.len c.write_part.new.part _ (part.ok.0 ∙ sym (c.write_part.ensures.size ∙ ap length c.as_mut_slice.ensures.value)) in
    record {
      sends = λ first bytes_of are.
          c.send_part.ensures.sends first bytes_of
          (λ l less.
          let here : 64 * 0 + l ≡ l = omega arith in
          ap (λ w. packed_bytes c.args.packing (lane_bits word_bit l w)) (c.as_slice.ensures.value ∙ has)
          ∙ ap (packed_bytes c.args.packing) (c.write_part.ensures.value l (omega (arith, less, c.requires.few)))
          ∙ ap (λ k. packed_bytes c.args.packing (lane_bits g.W.Word.at k c.args.words.now)) here
          ∙ are l less);
    }
