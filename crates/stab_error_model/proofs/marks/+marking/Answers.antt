use Rattle.stab_error_model.proofs.Names.{ℕ, ◌≡◌, ◌∙◌, ◌+◌, ◌*◌, ◌++◌, sym, ap, map, take, length, append_assoc, append-nil, arith, IfOk-weaker, listed, repeat, before, done, nested_in, part_of, depth_at, unroll, instruction_rounds, instructions, marks_from, marks_shown}
use Rattle.stab_error_model.proofs.MarkLemmas.{block-steps, long-rounds, long-unrolled, times-none, marks-more, marks-round, no-marks, steps-more, steps-within}
use Rattle.stab_error_model.proofs.marks.+marking.Goals as goal

pub mark_item-mark_rounds-requires : goal.mark_item-mark_rounds-requires
mark_item-mark_rounds-requires t c =
    let body = listed c.in-Block.body.now in
    let is : c.args.item.now ≡ repeat c.in-Block.count c.in-Block.tag.now body = c.part.ensures.value ∙ ap part_of c.in-Block.is in (
      omega (arith, c.decreases, ap nested_in is),
      omega (arith, c.requires.few, ap (λ x. length (unroll (before x done))) is, block-steps c.in-Block.count c.in-Block.tag.now body, ap (λ n. n * length (unroll body)) c.number.ensures.value),
    )

pub mark_item-returns-in-Block-clause-next : goal.mark_item-returns-in-Block-clause-next
mark_item-returns-in-Block-clause-next t c =
    let body = listed c.in-Block.body.now in
    let is : c.args.item.now ≡ repeat c.in-Block.count c.in-Block.tag.now body = c.part.ensures.value ∙ ap part_of c.in-Block.is in
    IfOk-weaker c.mark_rounds.result _ _
    (λ next e. omega (arith, e, ap (λ x. length (unroll (before x done))) is, block-steps c.in-Block.count c.in-Block.tag.now body, ap (λ n. n * length (unroll body)) c.number.ensures.value))
    c.mark_rounds.ensures.next

pub mark_items-mark_item-requires : goal.mark_items-mark_item-requires
mark_items-mark_item-requires t c =
    let xs = c.args.items.now in
    let k = c.items.item-index in
    let x = c.item-item.result in (
      omega (arith, c.decreases, depth_at xs k x c.items-test.true c.item-item.is),
      omega (arith, c.requires.few, c.items.invariant.site, steps-more xs k x c.items-test.true c.item-item.is, steps-within xs (k + 1)),
    )

pub mark_items-items-preserved : goal.mark_items-items-preserved
mark_items-items-preserved t c =
    let xs = c.args.items.now in
    let k = c.items.item-index in
    let x = c.item-item.result in
    let start = map marks_shown c.args.marks.now.items in
    record {
      site = omega (arith, c.in_ok-site.ensures.next, c.items.invariant.site, steps-more xs k x c.items-test.true c.item-item.is);
      marks = c.in_ok-site.ensures.marks
          ∙ ap (λ ms. ms ++ marks_from c.items.site (instructions (before x done))) c.items.invariant.marks
          ∙ append_assoc start (marks_from c.args.step (instructions (listed (take k xs)))) (marks_from c.items.site (instructions (before x done)))
          ∙ ap (λ p. start ++ (marks_from c.args.step (instructions (listed (take k xs))) ++ marks_from p (instructions (before x done)))) c.items.invariant.site
          ∙ ap (λ ms. start ++ ms) (sym (marks-more c.args.step xs k x c.items-test.true c.item-item.is));
    }

pub mark_rounds-rounds-preserved : goal.mark_rounds-rounds-preserved
mark_rounds-rounds-preserved t c =
    let body = listed c.args.body.now in
    let k = c.rounds.counter in
    let start = map marks_shown c.args.marks.now.items in
    record {
      site = omega (arith, c.in_ok-next.ensures.next, c.rounds.invariant.site);
      marks = c.in_ok-next.ensures.marks
          ∙ ap (λ ms. ms ++ marks_from c.rounds.site (instructions body)) c.rounds.invariant.marks
          ∙ append_assoc start (marks_from c.args.step (instruction_rounds k (instructions body))) (marks_from c.rounds.site (instructions body))
          ∙ ap (λ p. start ++ (marks_from c.args.step (instruction_rounds k (instructions body)) ++ marks_from p (instructions body))) c.rounds.invariant.site
          ∙ ap (λ ms. start ++ ms) (sym (marks-round c.args.step k body));
    }

pub mark_rounds-returns-then-next-site-clause-marks : goal.mark_rounds-returns-then-next-site-clause-marks
mark_rounds-returns-then-next-site-clause-marks t c =
    let body = listed c.args.body.now in
    let k = c.rounds.counter in
    let start = map marks_shown c.args.marks.now.items in
    let none : length (unroll body) ≡ 0 = omega (arith, c.if-next-site.true, c.in_ok-next.ensures.next) in
    let nothing = λ (n : ℕ). no-marks c.args.step (instruction_rounds n (instructions body)) (long-rounds n body ∙ ap (λ m. n * m) none ∙ times-none n) in
    c.in_ok-next.ensures.marks
    ∙ ap (λ ms. ms ++ marks_from c.rounds.site (instructions body)) (c.rounds.invariant.marks ∙ ap (λ ms. start ++ ms) (nothing k) ∙ append-nil start)
    ∙ ap (λ ms. start ++ ms) (no-marks c.rounds.site (instructions body) (long-unrolled body ∙ none))
    ∙ ap (λ ms. start ++ ms) (sym (nothing c.args.count))
