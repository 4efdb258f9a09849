use Rattle.stab_tableau.proofs.Names.{◌*◌, arith, refl, with_sign}
use Rattle.stab_tableau.proofs.PairedRowsLemmas.{seen-length}
use Rattle.stab_tableau.proofs.PairsChosenLemmas.{seen-chosen-in, seen-chosen-paired, seen-chosen-written}
use Rattle.stab_tableau.proofs.SupportLemmas.{chosen-covered}
use Rattle.stab_tableau.proofs.table.Table.negate_rows.Goals as goal

pub overflow_mul-first : goal.overflow_mul-first
overflow_mul-first c =
    let e = seen-length c.self.inside.rows c.self.invariant.0 c.args.self.now c.self.view_is in
    omega (arith, e, c.requires.first_in_range, c.self.invariant.0.few)

pub negate_rows-requires : goal.negate_rows-requires
negate_rows-requires c = record { in_range = seen-chosen-in c.self.inside.rows c.self.invariant.0 c.args.self.now c.self.view_is c.args.first c.args.mask c.requires.in_range }

pub returns : goal.returns
returns c = record {
  value = seen-chosen-written c.self.inside.rows c.self.invariant.0 c.args.self.now c.self.view_is c.args.first c.args.mask c.requires.in_range
      with_sign (λ p. refl) c.negate_rows.new.self c.negate_rows.ensures.value;
}

pub invariant_of-self : goal.invariant_of-self
invariant_of-self c = (
  seen-chosen-paired c.self.inside.rows c.self.invariant.0 c.args.self.now c.self.view_is c.args.first c.args.mask c.requires.in_range with_sign (λ p. refl) c.negate_rows.new.self c.negate_rows.ensures.value,
  chosen-covered c.self.inside.supports (2 * c.args.first) c.args.mask with_sign c.self.inside.rows c.negate_rows.new.self (λ k p. refl) c.negate_rows.ensures.value c.self.invariant.1,
)
