use Rattle.stab_tableau.proofs.Names.{arith, ap, subst, ◌∙◌, ℕ, ◌≡◌, ◌*◌, ◌/◌, ◌+◌, ◌<◌, List, has_x, chooses, row_at, letter_at, InverseRow, InverseRows, rows_at, row_position, row_string}
use Rattle.stab_tableau.proofs.PairedRowsLemmas.{seen-length}
use Rattle.stab_tableau.proofs.PairsChosenLemmas.{pairs-with_x}
use Rattle.stab_tableau.proofs.table.Table.rows_with_x.Goals as goal

pub rows_with_x-requires-clause-first_in_range : goal.rows_with_x-requires-clause-first_in_range
rows_with_x-requires-clause-first_in_range c =
    let e = seen-length c.self.inside.rows c.self.invariant.0 c.args.self.now c.self.view_is in
    omega (arith, e, c.requires.first_in_range, c.requires.group, c.self.invariant.0.size)

pub rows_with_x-requires-clause-position_in_range : goal.rows_with_x-requires-clause-position_in_range
rows_with_x-requires-clause-position_in_range c =
    let e = seen-length c.self.inside.rows c.self.invariant.0 c.args.self.now c.self.view_is in
    omega (arith, e, c.requires.position_in_range)

pub returns-clause-value : goal.returns-clause-value
returns-clause-value c =
    let start : 64 * (c.args.first / 32) ≡ 2 * c.args.first = let e = c.requires.group in omega arith in
    subst (λ (t : List InverseRows). (w : InverseRow) (k : ℕ) → k < 32 → chooses c.rows_with_x.result (row_position w k) ≡ has_x (letter_at (row_string w (rows_at t (c.args.first + k))).letters c.args.position))
    c.self.view_is
    (pairs-with_x c.self.inside.rows c.self.invariant.0 c.args.first c.args.position c.rows_with_x.result
    (λ k lt. c.rows_with_x.ensures.value k lt ∙ ap (λ n. has_x (letter_at (row_at c.self.inside.rows (n + k)).letters c.args.position)) start))
