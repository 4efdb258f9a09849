use Rattle.std.proofs.Common.{◌≡◌, List, ℕ, length, take, false, arith, ap, sym, subst, ◌∙◌}
use Rattle.std.proofs.lemmas.List.{length-set, take_all}
use Rattle.std.specs.List.{flat_map}
use Rattle.stab_results.specs.Formats.{digit}
use Rattle.stab_results.specs.inner.ByteBuffer.{Puts}
use Rattle.stab_results.proofs.PieceLemmas.{one_more}
use Rattle.stab_results.proofs.byte_buffer.ByteBuffer.put_digits.Goals as goal

pub loop-position-preserved : goal.loop-position-preserved
loop-position-preserved g c =
    let digits = c.loop-position.digits in
    let at = c.loop-position.position in record {
      room = length-set digits at c.digit.result ∙ c.loop-position.invariant.room;
      same = one_more digit digits c.args.bits.now at c.digit.result false (omega (arith, c.loop-position-test.true, c.requires.short, c.loop-position.invariant.room)) c.loop-position-test.true c.digit.ensures.value c.loop-position.invariant.same;
    }

pub returns : goal.returns
returns g c =
    let bits = c.args.bits.now in
    let at = c.loop-position.position in
    let end : at ≡ length bits = omega (arith, c.loop-position-test.false, c.loop-position.auto.position-end) in
    let all : c.split_at.result.0.now ≡ flat_map digit bits =
    c.split_at.ensures.front
    ∙ ap (λ n. take n c.loop-position.digits) (sym end)
    ∙ c.loop-position.invariant.same
    ∙ ap (flat_map digit) (ap (λ n. take n bits) end ∙ take_all (length bits) bits (omega arith)) in
    let put : List ℕ → Type 0 = λ l. Puts (g.O.Output.seen c.args.out.now) (g.O.Output.seen c.put_bytes.new.out) c.args.self.now c.put_bytes.new.self l c.put_bytes.result in record {
      puts = subst put all c.put_bytes.ensures.puts;
    }
