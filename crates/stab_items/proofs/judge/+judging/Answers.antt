use Rattle.stab_items.proofs.Names.{◌≡◌, ◌∙◌, ap, Ok, ◌+◌, min, length, drop, subst, arith, take-length, slice_get_within, repeat, listed, repeated, IsSumOf, IsCount, edit_path, steps_within}
use Rattle.stab_items.proofs.JudgementLemmas.{judged_err, judged_ok, judged_good, begins_at, begins_block, gone_block, put_block, edit_refused}
use Rattle.stab_items.proofs.EditResultLemmas.{on_ok, edit_result_is}
use Rattle.stab_items.proofs.judge.+judging.Goals as goal

pub judge-returns-in-None-clause-front : goal.judge-returns-in-None-clause-front
judge-returns-in-None-clause-front t c = on_ok c.judge_at.result (begins_at (edit_path c.args.edit.now).position c.args.blocks.now c.args.items.now c.in-None.ensures.cases)

pub judge-returns-in-Err-edit_result_in-clause-value : goal.judge-returns-in-Err-edit_result_in-clause-value
judge-returns-in-Err-edit_result_in-clause-value t c =
    let found = c.in-Ok.ensures.value in
    judged_err c.args.edit.now c.in-Some.block.now c.in-Ok.inner.count (min (length (steps_within c.args.blocks.now (edit_path c.args.edit.now).position c.args.items.now)) 1048577) c.in-Some.others.now c.args.blocks.now found.0 c.args.items.now
    c.in-Ok.inner.body.now c.in-Err-edit_result_in.refusal c.in-Some.ensures.cases.0 found.1 c.in-Err-edit_result_in.ensures.refused

pub judge-returns-in-Ok-edit_result_in-clause-value : goal.judge-returns-in-Ok-edit_result_in-clause-value
judge-returns-in-Ok-edit_result_in-clause-value t c =
    let found = c.in-Ok.ensures.value in
    let count : c.number.result ≡ c.in-Ok.inner.count = c.number.ensures.value in
    let b = c.in-Some.block.now in
    let round = c.in-Ok-edit_result_in.round in
    let is = c.in-Ok-edit_result_in.ensures.ok in
    ap (λ s. Ok (record { first = b; following = b + 1; put = s; within = round.first })) (c.repeated.ensures.value ∙ ap (λ n. repeated n round.total) count)
    ∙ judged_ok c.args.edit.now b c.in-Ok.inner.count round.first c.in-Some.others.now c.args.blocks.now found.0 c.args.items.now c.in-Ok.inner.body.now round.total c.in-Some.ensures.cases.0 found.1
    (rw count at c.number.ensures.some) is.total is.first

pub judge-returns-in-Ok-edit_result_in-clause-within : goal.judge-returns-in-Ok-edit_result_in-clause-within
judge-returns-in-Ok-edit_result_in-clause-within t c =
    let found = c.in-Ok.ensures.value in
    (omega arith, omega (arith, slice_get_within c.args.items.now c.in-Some.block.now (repeat c.in-Ok.inner.count found.0 (listed c.in-Ok.inner.body.now)) found.1), omega (arith, c.in-Ok-edit_result_in.ensures.ok.first))

pub judge-returns-in-Ok-edit_result_in-clause-front : goal.judge-returns-in-Ok-edit_result_in-clause-front
judge-returns-in-Ok-edit_result_in-clause-front t c =
    let found = c.in-Ok.ensures.value in
    let count : c.number.result ≡ c.in-Ok.inner.count = c.number.ensures.value in
    begins_block c.in-Some.block.now (edit_path c.args.edit.now).position c.in-Ok.inner.count c.in-Some.others.now c.args.blocks.now found.0 c.args.items.now c.in-Ok.inner.body.now c.in-Some.ensures.cases.0 found.1 (rw count at c.number.ensures.some)
    c.in-Ok-edit_result_in.ensures.ok.front

pub judge-returns-in-Ok-edit_result_in-clause-good : goal.judge-returns-in-Ok-edit_result_in-clause-good
judge-returns-in-Ok-edit_result_in-clause-good t c =
    let found = c.in-Ok.ensures.value in
    let count : c.number.result ≡ c.in-Ok.inner.count = c.number.ensures.value in
    judged_good c.args.edit.now c.in-Some.block.now c.in-Ok.inner.count c.in-Some.others.now c.args.blocks.now found.0 c.args.items.now c.in-Ok.inner.body.now c.in-Some.ensures.cases.0 found.1
    (subst IsCount count (c.number.ensures.some, c.number.ensures.few)) found.2 c.in-Ok-edit_result_in.ensures.ok.good

pub judge-returns-in-Ok-edit_result_in-clause-within_put : goal.judge-returns-in-Ok-edit_result_in-clause-within_put
judge-returns-in-Ok-edit_result_in-clause-within_put t c =
    let count : c.number.result ≡ c.in-Ok.inner.count = c.number.ensures.value in
    let round = c.in-Ok-edit_result_in.round in
    let is = c.in-Ok-edit_result_in.ensures.ok in
    let long = put_block c.number.result round.total.steps round.first c.number.ensures.some is.order (omega (arith, is.first)) in
    omega (arith, long, ap (λ s. s.steps) c.repeated.ensures.value)

pub judge-returns-in-Ok-edit_result_in-clause-within_gone : goal.judge-returns-in-Ok-edit_result_in-clause-within_gone
judge-returns-in-Ok-edit_result_in-clause-within_gone t c =
    let found = c.in-Ok.ensures.value in
    let count : c.number.result ≡ c.in-Ok.inner.count = c.number.ensures.value in
    gone_block c.in-Some.block.now (edit_path c.args.edit.now).position c.in-Ok.inner.count c.in-Ok-edit_result_in.round.first c.in-Some.others.now found.0 c.args.items.now c.in-Ok.inner.body.now found.1 (rw count at c.number.ensures.some)
    c.in-Ok-edit_result_in.ensures.ok.front c.in-Ok-edit_result_in.ensures.ok.first

pub edit_result_in-returns-in-Ok-clause-ok : goal.edit_result_in-returns-in-Ok-clause-ok
edit_result_in-returns-in-Ok-clause-ok t c =
    let j = c.in-Ok.ensures in
    let xs = c.args.items.now in
    let last = c.summary_between-in-Ok-2 in
    let back = subst (λ l. IsSumOf (listed (drop c.in-Ok.judgement.following l)) last.result) (take-length xs) last.ensures.sum in
    edit_result_is c.args.edit.now c.args.blocks.now xs c.in-Ok.judgement c.summary_between.result c.summary_between-in-Ok.result last.result c.edit_result_of.result j.value j.small j.front j.good
    c.summary_between.ensures.sum c.summary_between-in-Ok.ensures.sum back j.within_put j.within_gone c.edit_result_of.ensures.value c.edit_result_of.ensures.small

pub edit_result_in-returns-in-Err-clause-refused : goal.edit_result_in-returns-in-Err-clause-refused
edit_result_in-returns-in-Err-clause-refused t c =
    edit_refused c.args.edit.now c.args.blocks.now (min (length (steps_within c.args.blocks.now (edit_path c.args.edit.now).position c.args.items.now)) 1048577) c.args.items.now c.in-Err.refusal c.in-Err.ensures.value
