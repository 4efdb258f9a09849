use Rattle.stab_tableau.proofs.Names.{◌∙◌, ap, arith, Signed, letter_at}
use Rattle.stab_tableau.proofs.PairedRowsLemmas.{seen-few, seen-position, seen-length, seen-read}
use Rattle.stab_tableau.proofs.table.Table.letter.Goals as goal

pub position-requires : goal.position-requires
position-requires c = record { few = seen-few c.self.inside.rows c.self.invariant.0 c.args.self.now c.self.view_is c.args.qubit c.requires.in_range }

pub letter-requires-clause-in_range : goal.letter-requires-clause-in_range
letter-requires-clause-in_range c =
    seen-position c.self.inside.rows c.self.invariant.0 c.args.self.now c.self.view_is c.args.row c.args.qubit c.position.result c.requires.in_range c.position.ensures.value

pub letter-requires-clause-qubit_in_range : goal.letter-requires-clause-qubit_in_range
letter-requires-clause-qubit_in_range c = let e = seen-length c.self.inside.rows c.self.invariant.0 c.args.self.now c.self.view_is in let lt = c.requires.position_in_range in omega arith

pub returns : goal.returns
returns c =
    record {
      value = c.letter.ensures.value
          ∙ ap (λ (p : Signed). letter_at p.letters c.args.position) (seen-read c.self.inside.rows c.self.invariant.0 c.args.self.now c.self.view_is c.args.row c.args.qubit c.position.result c.requires.in_range c.position.ensures.value);
    }
