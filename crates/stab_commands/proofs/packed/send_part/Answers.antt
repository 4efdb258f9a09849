use Rattle.stab_commands.proofs.Names.{◌∙◌, ap, sym, word_bit, lane_bits, packed_bytes}
use Rattle.stab_commands.proofs.packed.send_part.Goals as goal

pub returns-in-Line : goal.returns-in-Line
returns-in-Line g c = record {
  sends = λ first bytes_of are. c.send_columns.ensures.sends first bytes_of (λ l less. sym (ap (λ p. packed_bytes p (lane_bits word_bit l c.args.words.now)) c.in-Line.is) ∙ are l less);
}

pub returns-in-Bytes : goal.returns-in-Bytes
returns-in-Bytes g c = record {
  sends = λ first bytes_of are. c.send_blocks.ensures.sends first bytes_of (λ l less. sym (ap (λ p. packed_bytes p (lane_bits word_bit l c.args.words.now)) c.in-Bytes.is) ∙ are l less);
}
