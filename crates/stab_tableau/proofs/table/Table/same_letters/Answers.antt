use Rattle.stab_tableau.proofs.Names.{sym}
use Rattle.stab_tableau.proofs.FrameLemmas.{pairs-letters, letters-pairs}
use Rattle.stab_tableau.proofs.table.Table.same_letters.Goals as goal

pub returns : goal.returns
returns c = rw (sym c.self.view_is, sym c.other.view_is)
    (record {
      value = (
        λ yes. pairs-letters c.self.inside.rows c.other.inside.rows c.self.invariant.0 c.other.invariant.0 (c.same_letters.ensures.value.0 yes).1,
        λ e. c.same_letters.ensures.value.1 (letters-pairs c.self.inside.rows c.other.inside.rows c.self.invariant.0 c.other.invariant.0 e),
      );
    })
