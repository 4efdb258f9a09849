use Rattle.stab_tableau.proofs.ConjugatedRowLemmas.{conjugated-twice}
use Rattle.stab_tableau.proofs.table.compact.CompactTable.conjugate.Goals as goal

pub returns : goal.returns
returns c = record {
  value = conjugated-twice c.args.letter c.args.qubit c.args.self.now c.negate_if.new.self c.negate_if-2.new.self c.anticommutes.result c.anticommutes-2.result
      c.requires.in_range c.anticommutes.ensures.value c.anticommutes-2.ensures.value c.negate_if.ensures.value c.negate_if-2.ensures.value;
}
