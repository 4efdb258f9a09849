use Rattle.stab_run.proofs.Names.{◌*◌, ◌/◌, ◌<◌, ◌≤◌, arith}
use Rattle.stab_run.proofs.PartLemmas.{more-rounds, front-repeat}
use Rattle.stab_run.proofs.SpanLemmas.{before-span}
use Rattle.stab_run.proofs.edited.front_of.Goals as goal

pub returns : goal.returns
returns c =
    let r = c.args.repeat in
    let k = c.min-rounds.result in
    let room = c.saturating_sub.result / r.length in
    let many : 1 < k = omega (arith, c.if-rounds-lt2.false) in
    let few : k ≤ r.rounds = omega (arith, c.min-rounds.ensures) in
    let most : room * r.length ≤ c.saturating_sub.result = omega arith in
    let less = more-rounds k room r.length (omega (arith, c.min-rounds.ensures)) in
    let some = more-rounds 1 k r.length (omega (arith, many)) in
    record {
      is = λ xs ys is span.
          before-span xs ys c.args.span (record r { rounds = k }) span (front-repeat xs r k is few many)
          (omega (arith, c.saturating_sub.ensures, most, less, some, c.requires.some));
    }
