use Rattle.stab_items.proofs.Names.{◌++◌, ◌+◌, suc, codes, drop, ap, arith, err_from_is_err_and, listed, nested_in, margin_depth, line_text, printed_in, took_more, writes_failed, writes_then, writes_as, took_as}
use Rattle.stab_items.proofs.PrintLemmas.{block_lines, printed_position, printed_more}
use Rattle.stab_items.proofs.ItemLemmas.{depth_at}
use Rattle.stab_items.proofs.print.+printing.Goals as goal

pub write_item-returns-in_err-write_open_line-in-Block : goal.write_item-returns-in_err-write_open_line-in-Block
write_item-returns-in_err-write_open_line-in-Block g t c =
    let d = margin_depth c.args.margin.now in
    let p = err_from_is_err_and c.from_residual.result c.from_residual.ensures.1 in
    record {
      writes = writes_as _ _ _ (block_lines d c.args.item.now c.in-Block.count c.in-Block.tag.now (listed c.in-Block.body.now) c.in-Block.ensures.value)
          (writes_failed (printed_in (suc d) (listed c.in-Block.body.now) ++ line_text (record { depth = d; content = codes "}" })) p.1 p.2 c.in_err-write_open_line-in-Block.ensures.writes);
    }

pub write_item-returns-in_err-write_items-in-Block : goal.write_item-returns-in_err-write_items-in-Block
write_item-returns-in_err-write_items-in-Block g t c =
    let d = margin_depth c.args.margin.now in
    let p = err_from_is_err_and c.from_residual-in_err-write_items-in-Block.result c.from_residual-in_err-write_items-in-Block.ensures.1 in
    record {
      writes = writes_as _ _ _ (block_lines d c.args.item.now c.in-Block.count c.in-Block.tag.now (listed c.in-Block.body.now) c.in-Block.ensures.value)
          (writes_then _ _ _ c.in_ok-write_open_line-in-Block.ensures.writes
          (writes_failed (line_text (record { depth = d; content = codes "}" })) p.1 p.2 c.in_err-write_items-in-Block.ensures.writes));
    }

pub write_item-returns-in_ok-write_items-in-Block : goal.write_item-returns-in_ok-write_items-in-Block
write_item-returns-in_ok-write_items-in-Block g t c = record {
  writes = writes_as _ _ _ (block_lines (margin_depth c.args.margin.now) c.args.item.now c.in-Block.count c.in-Block.tag.now (listed c.in-Block.body.now) c.in-Block.ensures.value)
      (writes_then _ _ _ c.in_ok-write_open_line-in-Block.ensures.writes
      (writes_then _ _ _ c.in_ok-write_items-in-Block.ensures.writes c.write_close_line.ensures.writes));
}

pub write_item-write_items-requires : goal.write_item-write_items-requires
write_item-write_items-requires g t c = λ κs w. (omega (arith, c.decreases, ap nested_in c.in-Block.ensures.value), w)

pub write_items-write_item-requires : goal.write_items-write_item-requires
write_items-write_item-requires g t c =
    λ κs w. (omega (arith, c.decreases, depth_at c.args.items.now c.loop-item.item-index c.item-item.result c.loop-item-test.true c.item-item.is), w)

pub write_items-returns-in_err-write_item : goal.write_items-returns-in_err-write_item
write_items-returns-in_err-write_item g t c =
    let d = margin_depth c.args.margin.now in
    let p = err_from_is_err_and c.from_residual.result c.from_residual.ensures.1 in
    record {
      writes = writes_as _ _ _ (printed_position d c.args.items.now c.loop-item.item-index c.item-item.result c.loop-item-test.true c.item-item.is)
          (writes_then _ _ _ c.loop-item.invariant (writes_failed (printed_in d (listed (drop (c.loop-item.item-index + 1) c.args.items.now))) p.1 p.2 c.in_err-write_item.ensures.writes));
    }

pub write_items-loop-item-preserved : goal.write_items-loop-item-preserved
write_items-loop-item-preserved g t c =
    took_as (printed_more (margin_depth c.args.margin.now) c.args.items.now c.loop-item.item-index c.item-item.result c.loop-item-test.true c.item-item.is)
    (took_more _ _ c.loop-item.invariant c.in_ok-write_item.ensures.writes)
