use Rattle.stab_tableau.proofs.Names.{◌≡◌, arith, X, Y, Z, refl}
use Rattle.stab_tableau.proofs.GateRowLemmas.{exchanged, same-rows}
use Rattle.stab_tableau.proofs.inverse_rows.take_letters.Goals as goal

pub returns-then-eq-2 : goal.returns-then-eq-2
returns-then-eq-2 c =
    let z : c.args.z ≡ X = grind (arith, c.if-eq-2.true, c.eq-in-Y.ensures) in
    let y = c.take_y-then-eq-2.ensures.taken in
    record {
      taken = rw c.in-Y.is (rw z (exchanged c.args.table.now c.args.qubit c.requires.in_range Y X _ _ _ y.1 c.exchange.ensures.value y.2 refl));
    }

pub returns-then-eq-3 : goal.returns-then-eq-3
returns-then-eq-3 c =
    let z : c.args.z ≡ Y = grind (arith, c.if-eq-3.true, c.eq-in-Z.ensures) in
    let y = c.take_y-then-eq-3.ensures.taken in
    record {
      taken = rw c.in-Z.is (rw z (exchanged c.args.table.now c.args.qubit c.requires.in_range Z Y _ _ _ y.1 c.exchange-then-eq-3.ensures.value refl y.2));
    }

pub returns-else-eq-3 : goal.returns-else-eq-3
returns-else-eq-3 c =
    let z : c.args.z ≡ X = grind (arith, c.if-eq-3.false, c.eq-in-Z.ensures, c.in-Z.is, c.requires.opposed) in
    let old = c.args.table.now in
    record {
      taken = rw c.in-Z.is (rw z (exchanged old c.args.qubit c.requires.in_range Z X old _ _ (same-rows old c.args.qubit c.requires.in_range) c.exchange-else-eq-3.ensures.value refl refl));
    }
