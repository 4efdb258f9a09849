use Rattle.stab_commands.proofs.Names.{rules, arith, ◌≡◌, ◌+◌, ◌/◌, ◌^◌, refl, ap, length, get_or, set, bit_and, bit_at, and_mask}
use Rattle.stab_commands.proofs.LaneLineLaws.{next-digit, line-end}
use Rattle.stab_commands.proofs.packed.write_line.Goals as goal

pub loop-k-preserved : goal.loop-k-preserved
loop-k-preserved c =
    let byte = get_or c.args.column.now c.loop-k.k 0 in
    let low : bit_and (byte / 2 ^ c.args.lane) 1 ≡ bit_at byte c.args.lane = and_mask (byte / 2 ^ c.args.lane) 1 in
    let character = 48 + bit_and (byte / 2 ^ c.args.lane) 1 in
    record {
      size = search rules;
      made = next-digit c.args.lane c.args.column.now c.loop-k.text (set c.loop-k.text c.loop-k.k character) c.loop-k.k character (search rules) c.loop-k.invariant.size c.loop-k.invariant.made refl (ap (λ b. 48 + b) low);
    }

pub returns : goal.returns
returns c =
    let end : c.loop-k.k ≡ length c.args.column.now = omega (arith, c.loop-k-test.false, c.loop-k.auto.k-end) in
    record { value = line-end c.args.lane c.args.column.now c.loop-k.text _ c.loop-k.k end c.loop-k.invariant.size c.loop-k.invariant.made refl }
