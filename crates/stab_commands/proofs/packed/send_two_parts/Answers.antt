use Rattle.stab_commands.proofs.Names.{rules, arith, ◌≡◌, ◌-◌, ◌+◌, [], ap, sym, ◌∙◌, Took}
use Rattle.stab_commands.proofs.ShotLaws.{front_breaks_off, rest_sent}
use Rattle.stab_commands.proofs.packed.send_two_parts.Goals as goal

pub returns-in_err-send_part : goal.returns-in_err-send_part
returns-in_err-send_part g c =
    let none : Took (g.O.Output.seen c.args.out.now) (g.O.Output.seen c.args.out.now) [] = search rules in
    record {
      sends = λ start bytes_of front back.
          front_breaks_off bytes_of start c.min-front.result c.args.lanes c.in_err-send_part.field-0.0 c.from_residual.result (omega (arith, c.min-front.ensures)) none
          (c.in_err-send_part.ensures.sends start bytes_of (λ l less. front l (omega (arith, less, c.min-front.ensures)) (omega (arith, less, c.min-front.ensures)))) c.from_residual.ensures.1;
    }

pub returns : goal.returns
returns g c = record {
  sends = λ start bytes_of front back.
      rest_sent _ _ _ bytes_of start c.min-front.result (c.args.lanes - c.min-front.result) c.args.lanes c.send_part-2.result (omega (arith, c.min-front.ensures))
      (c.in_ok-send_part.ensures.sends start bytes_of (λ l less. front l (omega (arith, less, c.min-front.ensures)) (omega (arith, less, c.min-front.ensures))))
      (c.send_part-2.ensures.sends (start + c.min-front.result) bytes_of
      (λ l less.
      let full : c.min-front.result ≡ 64 = omega (arith, less, c.min-front.ensures) in
      back l (omega (arith, less, full)) ∙ ap (λ n. bytes_of (start + n + l)) (sym full)));
}
