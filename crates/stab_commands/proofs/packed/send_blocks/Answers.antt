use Rattle.stab_commands.proofs.Names.{◌∙◌, ap, arith, take, row_bytes, sends_none}
use Rattle.stab_commands.proofs.packed.send_blocks.Goals as goal

pub returns : goal.returns
returns g c = record {
  sends = λ first bytes_of are.
      c.send_rows.ensures.sends first bytes_of
      (λ l less. ap (λ b. take c.div_ceil-count.result (row_bytes l b)) c.as_slice.ensures.value ∙ ap (λ n. take n (row_bytes l c.write_blocks.new.blocks.items)) c.div_ceil-count.ensures
      ∙ c.in_ok-write_blocks.ensures.value l (omega (arith, less, c.requires.in_range)) ∙ are l less);
}

pub returns-in_err-blocks : goal.returns-in_err-blocks
returns-in_err-blocks g c = record { sends = λ first bytes_of are. sends_none (g.O.Output.seen c.args.out.now) _ c.from_residual.result c.from_residual.ensures.1 }

pub returns-in_err-write_blocks : goal.returns-in_err-write_blocks
returns-in_err-write_blocks g c = record { sends = λ first bytes_of are. sends_none (g.O.Output.seen c.args.out.now) _ c.from_residual-in_err-write_blocks.result c.from_residual-in_err-write_blocks.ensures.1 }
