use Rattle.stab_tableau.proofs.Names.{◌≡◌, ◌*◌, ◌/◌, Bool, arith, ◌∙◌, refl, subst, Signed, anticommute, AreChosen, product_times_i_if}
use Rattle.stab_tableau.proofs.PairedRowsLemmas.{seen-length}
use Rattle.stab_tableau.proofs.PairsChosenLemmas.{seen-chosen-in, seen-chosen-is, seen-chosen-paired, seen-chosen-written}
use Rattle.stab_tableau.proofs.SupportLemmas.{row-group}
use Rattle.stab_tableau.proofs.table.Table.multiply_rows_by_times_i.Goals as goal

pub overflow_mul-first : goal.overflow_mul-first
overflow_mul-first c =
    let e = seen-length c.self.inside.rows c.self.invariant.0 c.args.self.now c.self.view_is in
    omega (arith, e, c.requires.first_in_range, c.self.invariant.0.few)

pub multiply_rows_by_times_i-requires-clause-in_range : goal.multiply_rows_by_times_i-requires-clause-in_range
multiply_rows_by_times_i-requires-clause-in_range c = seen-chosen-in c.self.inside.rows c.self.invariant.0 c.args.self.now c.self.view_is c.args.first c.args.mask c.requires.in_range

pub multiply_rows_by_times_i-requires-clause-same_length : goal.multiply_rows_by_times_i-requires-clause-same_length
multiply_rows_by_times_i-requires-clause-same_length c = c.requires.same_length ∙ seen-length c.self.inside.rows c.self.invariant.0 c.args.self.now c.self.view_is

pub multiply_rows_by_times_i-requires-clause-anticommuting : goal.multiply_rows_by_times_i-requires-clause-anticommuting
multiply_rows_by_times_i-requires-clause-anticommuting c =
    seen-chosen-is c.self.inside.rows c.self.invariant.0 c.args.self.now c.self.view_is c.args.first c.args.mask c.requires.in_range
    (λ p. anticommute p c.args.other.now) c.requires.anticommuting

pub returns : goal.returns
returns c = record {
  value = seen-chosen-written c.self.inside.rows c.self.invariant.0 c.args.self.now c.self.view_is c.args.first c.args.mask c.requires.in_range
      (λ b p. product_times_i_if b p c.args.other.now) (λ p. refl) c.multiply_rows_by_times_i.new.self c.multiply_rows_by_times_i.ensures.value;
}

pub widen-requires-clause-in_range : goal.widen-requires-clause-in_range
widen-requires-clause-in_range c =
    let e = seen-length c.self.inside.rows c.self.invariant.0 c.args.self.now c.self.view_is in
    let lt = row-group c.self.inside.supports c.self.inside.rows (2 * c.args.first) c.self.invariant.1 (omega (arith, e, c.requires.first_in_range, c.self.invariant.0.size)) in
    omega arith

pub widen-requires-clause-few : goal.widen-requires-clause-few
widen-requires-clause-few c =
    let e = seen-length c.self.inside.rows c.self.invariant.0 c.args.self.now c.self.view_is in
    omega (arith, e, c.requires.same_length, c.self.invariant.0.few)

pub invariant_of-self : goal.invariant_of-self
invariant_of-self c =
    let change = λ (b : Bool) (p : Signed). product_times_i_if b p c.args.other.now in
    let position : 2 * c.args.first ≡ 64 * (c.args.first / 32) = let e = c.requires.group in omega arith in (
      seen-chosen-paired c.self.inside.rows c.self.invariant.0 c.args.self.now c.self.view_is c.args.first c.args.mask c.requires.in_range change (λ p. refl) c.multiply_rows_by_times_i.new.self c.multiply_rows_by_times_i.ensures.value,
      c.widen.ensures.covers c.self.inside.rows c.multiply_rows_by_times_i.new.self c.self.invariant.1
          (subst (λ n. AreChosen n c.args.mask change c.self.inside.rows c.multiply_rows_by_times_i.new.self) position c.multiply_rows_by_times_i.ensures.value),
    )
