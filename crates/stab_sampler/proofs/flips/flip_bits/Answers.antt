use Rattle.stab_sampler.proofs.Names.{rules, arith, ◌≡◌, ◌<◌, ◌≤◌, sym, ◌∙◌, length, length-map, flipped, lane_bits}
use Rattle.stab_sampler.proofs.LaneLemmas.{flips-next, flips-all}
use Rattle.stab_sampler.proofs.flips.flip_bits.Goals as goal

pub loop-position-preserved : goal.loop-position-preserved
loop-position-preserved g c =
    let inv = c.loop-position.invariant in
    let position = c.loop-position.position in
    let within : position < length c.loop-position.flips.items = search rules in
    let inside : position < length c.args.bits.now = search rules in
    record {
      size = c.flip_where.ensures.size ∙ inv.size;
      made = λ j lt.
          let bits = lane_bits g.W.Word.at j c.loop-position.flips.items in
          flips-next c.args.bits.now bits (lane_bits g.W.Word.at j c.flip_where.new.flips.items) (flipped c.args.bits.now (lane_bits g.W.Word.at j c.args.flips.now.items)) position
          inside (omega (arith, length-map c.loop-position.flips.items (λ w. g.W.Word.at w j), within))
          (c.flip_where.ensures.value j lt) (inv.made j lt);
    }

pub returns : goal.returns
returns g c = record {
  value = λ l lt same.
      let as_long : length c.args.flips.now.items ≡ length c.args.bits.now = sym (length-map c.args.flips.now.items (λ w. g.W.Word.at w l)) ∙ same in
      let all : length c.args.bits.now ≤ c.loop-position.position = omega (arith, c.loop-position-test.false, c.min-position-end.ensures, c.len.ensures, c.args.flips.now.ok.0, as_long) in
      flips-all c.args.bits.now (lane_bits g.W.Word.at l c.loop-position.flips.items) (flipped c.args.bits.now (lane_bits g.W.Word.at l c.args.flips.now.items)) c.loop-position.position
      (length-map c.loop-position.flips.items (λ w. g.W.Word.at w l) ∙ c.loop-position.invariant.size ∙ sym (length-map c.args.flips.now.items (λ w. g.W.Word.at w l)) ∙ same)
      all (c.loop-position.invariant.made l lt);
}
