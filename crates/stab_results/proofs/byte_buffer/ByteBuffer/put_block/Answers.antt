use Rattle.std.proofs.Common.{ℕ, List, subst, sym}
use Rattle.stab_results.proofs.ZeroLemmas.{zero_bytes}
use Rattle.stab_results.specs.inner.ByteBuffer.{Puts}
use Rattle.stab_results.proofs.byte_buffer.ByteBuffer.put_block.Goals as goal

pub returns-then-are_zeros : goal.returns-then-are_zeros
returns-then-are_zeros g c =
    let put : List ℕ → Type 0 = λ l. Puts (g.O.Output.seen c.args.out.now) (g.O.Output.seen c.put.new.out) c.args.self.now c.put.new.self l c.put.result in record {
      puts = subst put (sym (zero_bytes c.args.bits.now c.if-bits-eq-BLOCK.true (c.are_zeros.ensures.zeros c.if-are_zeros.true))) c.put.ensures.puts;
    }
