use Rattle.stab_items.proofs.Names.{drop, path_text, HasWritten}
use Rattle.stab_items.proofs.PathLemmas.{positions_text}
use Rattle.stab_items.proofs.path.write_path.Given as goal

abbrev pub invariant-loop-block : goal.invariant-loop-block
invariant-loop-block g l = HasWritten (g.O.Output.seen l.fn.out) (g.O.Output.seen l.out) (path_text l.path) (positions_text (drop l.block-index l.blocks) l.path.position)
