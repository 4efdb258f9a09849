use Rattle.stab_pauli.proofs.Lemmas.{rows_disjoint}
use Rattle.stab_pauli.proofs.packed.flat.swap.Goals as goal

pub swap_at-requires-clause-disjoint : goal.swap_at-requires-clause-disjoint
swap_at-requires-clause-disjoint c = rw (c.offset_of-first.ensures.value, c.offset_of-second.ensures.value) (rows_disjoint 1 c.args.a c.args.b c.requires.distinct)

pub swap_at-requires-2-clause-disjoint : goal.swap_at-requires-2-clause-disjoint
swap_at-requires-2-clause-disjoint c = rw (c.offset_of-first-2.ensures.value, c.offset_of-second-2.ensures.value) (rows_disjoint c.args.blocks c.args.a c.args.b c.requires.distinct)
