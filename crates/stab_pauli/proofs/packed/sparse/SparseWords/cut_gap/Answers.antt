use Rattle.stab_pauli.proofs.Names.{arith, ◌-◌}
use Rattle.stab_pauli.proofs.Lemmas.{sparse-cut}
use Rattle.stab_pauli.proofs.packed.sparse.SparseWords.cut_gap.Goals as goal

pub returns-clause-value : goal.returns-clause-value
returns-clause-value c =
    let mine = c.args.self.now in
    let new = c.keep.new.self in
    sparse-cut mine.gaps.items mine.stored.items new.gaps.items new.stored.items mine.following c.min-gap.result (new.following - c.min-gap.result - 1) c.requires.even c.in_ok-keep.ensures.gaps c.in_ok-keep.ensures.stored
    (omega (arith, c.min-gap.ensures, c.requires.many, c.keep.ensures.following))
