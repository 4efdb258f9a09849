use Rattle.stab_tableau.proofs.Names.{◌∙◌, ap, length, X, Z, single, OfX, OfZ, put}
use Rattle.stab_tableau.proofs.PairedRowsLemmas.{length-put, put-again}
use Rattle.stab_tableau.proofs.table.Table.reset.Goals as goal

pub returns : goal.returns
returns c =
    let size = ap length c.reset_row.ensures.row ∙ length-put OfX c.args.qubit (single (length c.args.self.now) c.args.qubit X) c.args.self.now in
    record {
      row = c.reset_row-2.ensures.row
          ∙ ap (λ n. put OfZ c.args.qubit (single n c.args.qubit Z) c.reset_row.new.self) size
          ∙ put-again OfZ c.args.qubit (single (length c.args.self.now) c.args.qubit Z) c.args.self.now c.reset_row.new.self _ c.requires.in_range c.reset_row.ensures.row;
    }
