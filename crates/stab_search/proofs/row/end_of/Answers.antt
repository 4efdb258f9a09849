use Rattle.stab_search.proofs.Names.{◌≢◌, ◌-◌, length, sym, arith, eqb-false}
use Rattle.stab_search.proofs.AscendingLemmas.{odd-beyond}
use Rattle.stab_search.proofs.row.end_of.Goals as goal

pub returns : goal.returns
returns c = record {
  end = λ i le.
      let some : length c.args.numbers.now ≢ 0 = eqb-false (length c.args.numbers.now) 0 (sym c.if-is_empty.ensures) in
      odd-beyond c.args.numbers.now (length c.args.numbers.now - 1) i c.requires.ascending (omega arith) le;
}
