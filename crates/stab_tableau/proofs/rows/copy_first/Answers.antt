use Rattle.stab_tableau.proofs.Names.{arith, ◌≤◌, ◌<◌, ◌∙◌, ap, length, identity, rows_at, letter_preimage}
use Rattle.stab_tableau.proofs.TableRowLemmas.{table-row}
use Rattle.stab_tableau.proofs.WalkLemmas.{walk-first, walk-none}
use Rattle.stab_tableau.proofs.rows.copy_first.Goals as goal

pub copy_into-requires-clause-row : goal.copy_into-requires-clause-row
copy_into-requires-clause-row c = table-row _ c.args.table.now c.requires.table c.args.first (omega arith)

pub returns-then-first-len : goal.returns-then-first-len
returns-then-first-len c =
    let below : c.args.first < length c.args.table.now = omega arith in
    record {
      value = walk-first _ c.args.table.now c.requires.table c.args.pauli.now.letters c.requires.pauli_length c.args.first c.copy_into.new.out below c.requires.blank
          (c.copy_into.ensures.value ∙ ap (letter_preimage (length c.args.table.now) (rows_at c.args.table.now c.args.first)) c.letter.ensures.value);
    }

pub returns-else-first-len : goal.returns-else-first-len
returns-else-first-len c =
    let past : length c.args.table.now ≤ c.args.first = omega arith in
    record {
      value = walk-none _ c.args.table.now c.requires.table c.args.pauli.now.letters c.requires.pauli_length c.args.first c.clear.new.self past c.requires.blank
          (c.clear.ensures.value ∙ ap identity c.requires.out_length);
    }
