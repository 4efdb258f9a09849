use Rattle.stab_items.proofs.Names.{[], ◌++◌, ◌∙◌, ◌+◌, drop, drop_all, ap, sym, decimal, err_from_is_err_and, took_none, path_text, writes_then, writes_as, written_more, written_failed}
use Rattle.stab_items.proofs.PathLemmas.{positions_text, path_text_is, next_block}
use Rattle.stab_items.proofs.path.write_path.Goals as goal

pub loop-block-init : goal.loop-block-init
loop-block-init g c = (
  [],
  took_none (g.O.Output.seen c.args.out.now),
  path_text_is c.args.path.now ∙ ap (λ l. positions_text l c.args.path.now.position) (sym c.blocks-blocks.ensures.value),
)

pub returns-in_err-write_block : goal.returns-in_err-write_block
returns-in_err-write_block g c =
    let p = err_from_is_err_and c.from_residual.result c.from_residual.ensures.1 in
    record {
      writes = written_failed (path_text c.args.path.now) _ _ (positions_text (drop (c.loop-block.block-index + 1) c.blocks-blocks.result.now) c.args.path.now.position) c.loop-block.invariant
          (next_block c.blocks-blocks.result.now c.loop-block.block-index c.args.path.now.position c.loop-block-test.true) p.1 p.2 c.in_err-write_block.ensures.writes;
    }

pub loop-block-preserved : goal.loop-block-preserved
loop-block-preserved g c =
    written_more (path_text c.args.path.now) _ _ (positions_text (drop (c.loop-block.block-index + 1) c.blocks-blocks.result.now) c.args.path.now.position) c.loop-block.invariant
    (next_block c.blocks-blocks.result.now c.loop-block.block-index c.args.path.now.position c.loop-block-test.true) c.in_ok-write_block.ensures.writes

pub returns : goal.returns
returns g c =
    let written = c.loop-block.invariant in
    let last = ap (λ l. positions_text l c.args.path.now.position) (drop_all c.loop-block.block-index c.blocks-blocks.result.now c.loop-block-test.false) in
    record {
      writes = writes_as _ _ _ (sym (written.2 ∙ ap (λ l. written.0 ++ l) last))
          (writes_then {front = written.0} _ _ _ written.1 (writes_as _ _ _ (ap decimal c.position.ensures.value) c.write_number.ensures.writes));
    }
