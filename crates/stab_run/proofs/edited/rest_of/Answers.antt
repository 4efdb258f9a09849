use Rattle.stab_run.proofs.Names.{◌+◌, ◌*◌, ◌-◌, ◌/◌, ◌<◌, ◌≤◌, arith}
use Rattle.stab_run.proofs.PartLemmas.{more-rounds, part-repeat}
use Rattle.stab_run.proofs.SpanLemmas.{after-span}
use Rattle.stab_run.proofs.edited.rest_of.Goals as goal

pub overflow_add-begun : goal.overflow_add-begun
overflow_add-begun c =
    let r = c.args.repeat in
    omega (arith, c.saturating_sub.ensures, c.requires.few, c.requires.few_old, more-rounds 1 r.rounds r.length (omega (arith, c.requires.many)))

pub overflow_mul-first : goal.overflow_mul-first
overflow_mul-first c =
    let r = c.args.repeat in
    let begun = c.saturating_sub.result + (r.length - 1) in
    omega (arith, c.requires.few, more-rounds (begun / r.length) r.rounds r.length (omega (arith, c.if-passed-repeat.false, c.requires.many)))

pub overflow_add-first : goal.overflow_add-first
overflow_add-first c =
    let r = c.args.repeat in
    let begun = c.saturating_sub.result + (r.length - 1) in
    omega (arith, c.requires.few, more-rounds (begun / r.length) r.rounds r.length (omega (arith, c.if-passed-repeat.false, c.requires.many)))

pub returns : goal.returns
returns c =
    let r = c.args.repeat in
    let begun = c.saturating_sub.result + (r.length - 1) in
    let j = begun / r.length in
    let k = r.rounds - j in
    let two : j + 2 ≤ r.rounds = omega (arith, c.if-passed-repeat.false, c.requires.many) in
    let most : begun < j * r.length + r.length = omega (arith, c.requires.some) in
    let after : c.args.span.old_end ≤ r.first + j * r.length = omega (arith, c.saturating_sub.ensures, most, c.requires.some) in
    record {
      is = λ xs ys is span.
          after-span xs ys c.args.span (record r { first = r.first + j * r.length; rounds = k }) span
          (part-repeat xs r j k is (omega (arith, two)) (omega (arith, two))) after;
    }
