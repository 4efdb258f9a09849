use Rattle.stab_tableau.proofs.Names.{◌∙◌, refl, sym, ap, subst, length, Z, Signed, IsPivot, stabilises, observed}
use Rattle.stab_tableau.proofs.ColumnLemmas.{length-column}
use Rattle.stab_tableau.proofs.ExchangedOutcomeLemmas.{position-exchanges}
use Rattle.stab_tableau.proofs.MeasureLemmas.{position-in, multiplier-length, determined-multiplier, measured-fixed, measured-random}
use Rattle.stab_tableau.proofs.collapse.measure_with_pivot.Goals as goal

pub write_multiplier-requires-clause-same_length : goal.write_multiplier-requires-clause-same_length
write_multiplier-requires-clause-same_length c = c.requires.tableau.size.z ∙ sym c.requires.tableau.size.x

pub collapse_rows_with_pivot-requires-clause-in_range : goal.collapse_rows_with_pivot-requires-clause-in_range
collapse_rows_with_pivot-requires-clause-in_range c =
    position-in (length c.args.table.now) c.args.preimage.now c.requires.tableau.size.x c.in-Some.position c.in-Some.ensures.in_range c.in-Some.ensures.has_x c.args.coin

pub collapse_rows_with_pivot-requires-clause-same_length : goal.collapse_rows_with_pivot-requires-clause-same_length
collapse_rows_with_pivot-requires-clause-same_length c =
    multiplier-length (length c.args.table.now) c.args.preimage.now c.requires.tableau.size.x c.in-Some.position c.in-Some.ensures.in_range c.in-Some.ensures.has_x
    c.args.coin _ c.write_multiplier.new.multiplier (length c.args.multiplier.now.letters) c.requires.tableau.size.z refl c.write_multiplier.ensures.multiplier

pub collapse_rows_with_pivot-requires-clause-determined : goal.collapse_rows_with_pivot-requires-clause-determined
collapse_rows_with_pivot-requires-clause-determined c =
    determined-multiplier (length c.args.table.now) c.args.table.now (record { x = c.args.preimage.now; z = c.args.multiplier.now }) c.requires.tableau
    (observed (length c.args.table.now) c.args.observable.now) c.requires.same_length c.requires.preimage
    c.in-Some.position c.in-Some.ensures.in_range c.in-Some.ensures.has_x c.args.coin
    _ c.write_multiplier.new.multiplier (length c.args.multiplier.now.letters) c.requires.tableau.size.z refl c.write_multiplier.ensures.multiplier

pub returns-in-None-clause-measured : goal.returns-in-None-clause-measured
returns-in-None-clause-measured c =
    rw (c.fixed.ensures.outcome, c.fixed.ensures.free)
    (measured-fixed (length c.args.table.now) c.args.table.now (record { x = c.args.preimage.now; z = c.args.multiplier.now }) c.requires.tableau
    (observed (length c.args.table.now) c.args.observable.now) c.requires.same_length c.requires.preimage c.in-None.ensures.none c.args.coin)

pub returns-in-Some-clause-measured : goal.returns-in-Some-clause-measured
returns-in-Some-clause-measured c =
    rw c.write_multiplier.ensures.preimage
    (measured-random (length c.args.table.now) c.args.table.now (record { x = c.args.preimage.now; z = c.args.multiplier.now }) c.requires.tableau
    (observed (length c.args.table.now) c.args.observable.now) c.requires.same_length c.requires.preimage
    c.in-Some.position c.in-Some.ensures.in_range c.in-Some.ensures.has_x c.args.coin
    _ c.write_multiplier.new.multiplier (length c.args.multiplier.now.letters) c.requires.tableau.size.z refl c.write_multiplier.ensures.multiplier
    c.collapse_rows_with_pivot.new.table c.collapse_rows_with_pivot.ensures.size c.collapse_rows_with_pivot.ensures.rows)

pub returns-in-Some-clause-length : goal.returns-in-Some-clause-length
returns-in-Some-clause-length c =
    ap (λ (s : Signed). length s.letters) c.collapse_rows_with_pivot.ensures.pivot
    ∙ length-column Z c.in-Some.position c.args.table.now ∙ sym c.requires.pivot_length

pub returns-in-Some-clause-pivot : goal.returns-in-Some-clause-pivot
returns-in-Some-clause-pivot c = λ _.
    let n = length c.args.table.now in
    let rows = c.args.table.now in
    subst (IsPivot n (stabilises (record { qubits = n; rows = rows })) (observed n c.args.observable.now))
    (sym (ap (λ (s : Signed). s.letters) c.collapse_rows_with_pivot.ensures.pivot))
    (position-exchanges n rows (record { x = c.args.preimage.now; z = c.args.multiplier.now }) c.requires.tableau
    (observed n c.args.observable.now) c.requires.same_length c.requires.preimage
    c.in-Some.position c.in-Some.ensures.in_range c.in-Some.ensures.has_x)
