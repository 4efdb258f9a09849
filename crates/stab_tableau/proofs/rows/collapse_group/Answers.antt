use Rattle.stab_tableau.proofs.Names.{◌≡◌, ℕ, ◌*◌, ◌+◌, ◌<◌, Bool, true, sym, subst, List, length, bit_xor, letters_anticommute, chooses, Signed, anticommute, product_times_i_if, letter_at, InverseRow, InverseRows, rows_at, observed, row_position, row_letter, row_string, ArePairsChosen}
use Rattle.stab_tableau.proofs.CollapsedGroupLemmas.{multiplied-in, multiplied-distinct, group-collapsed}
use Rattle.stab_tableau.proofs.rows.collapse_group.Goals as goal
use Rattle.stab_tableau.proofs.rows.collapse_group.Goals.{After-anticommuting_rows-with_r}

-- the rows that anticommute with what is measured, by the number of the table's rows
distinct : (c : After-anticommuting_rows-with_r) → (w : InverseRow) (k : ℕ) → k < 32
    → chooses c.anticommuting_rows-with_r.result (row_position w k) ≡ letters_anticommute (row_letter w) (letter_at (observed (length c.args.table.now) c.args.observable.now).letters (32 * c.args.group + k))
distinct c =
    subst (λ n. (w : InverseRow) (k : ℕ) → k < 32
    → chooses c.anticommuting_rows-with_r.result (row_position w k) ≡ letters_anticommute (row_letter w) (letter_at (observed n c.args.observable.now).letters (32 * c.args.group + k)))
    c.len-qubits.ensures.value c.anticommuting_rows-with_r.ensures.rows

pub multiply_rows_by_times_i-requires-clause-in_range : goal.multiply_rows_by_times_i-requires-clause-in_range
multiply_rows_by_times_i-requires-clause-in_range c =
    subst (λ (t : List InverseRows). (w : InverseRow) (k : ℕ) → k < 32 → chooses (bit_xor c.rows_with_x-with_w.result c.anticommuting_rows-with_r.result) (row_position w k) ≡ true → 32 * c.args.group + k < length t)
    (sym c.rows_with_x-with_w.ensures.unchanged)
    (multiplied-in c.args.position c.args.multiplier.now (observed (length c.args.table.now) c.args.observable.now).letters (32 * c.args.group) c.rows_with_x-with_w.result c.anticommuting_rows-with_r.result c.args.table.now
    c.requires.observed_length c.requires.determined c.rows_with_x-with_w.ensures.value (distinct (goal.at.multiply_rows_by_times_i-requires-clause-in_range c).After-anticommuting_rows-with_r))

pub multiply_rows_by_times_i-requires-clause-anticommuting : goal.multiply_rows_by_times_i-requires-clause-anticommuting
multiply_rows_by_times_i-requires-clause-anticommuting c =
    subst (λ (t : List InverseRows). (w : InverseRow) (k : ℕ) → k < 32 → chooses (bit_xor c.rows_with_x-with_w.result c.anticommuting_rows-with_r.result) (row_position w k) ≡ true
    → anticommute (row_string w (rows_at t (32 * c.args.group + k))) c.args.multiplier.now ≡ true)
    (sym c.rows_with_x-with_w.ensures.unchanged)
    (multiplied-distinct c.args.position c.args.multiplier.now (observed (length c.args.table.now) c.args.observable.now).letters (32 * c.args.group) c.rows_with_x-with_w.result c.anticommuting_rows-with_r.result c.args.table.now
    c.requires.observed_length c.requires.determined c.rows_with_x-with_w.ensures.value (distinct (goal.at.multiply_rows_by_times_i-requires-clause-anticommuting c).After-anticommuting_rows-with_r))

pub returns-clause-rows : goal.returns-clause-rows
returns-clause-rows c =
    group-collapsed c.args.position c.args.multiplier.now (observed (length c.args.table.now) c.args.observable.now).letters (32 * c.args.group) c.rows_with_x-with_w.result c.anticommuting_rows-with_r.result c.args.table.now
    c.requires.observed_length c.requires.determined c.rows_with_x-with_w.ensures.value (distinct (goal.at.returns-clause-rows c).After-anticommuting_rows-with_r)
    c.multiply_rows_by_times_i.new.self c.negate_rows.new.self
    (subst (λ (t : List InverseRows). ArePairsChosen (32 * c.args.group) (bit_xor c.rows_with_x-with_w.result c.anticommuting_rows-with_r.result) (λ (b : Bool) (p : Signed). product_times_i_if b p c.args.multiplier.now) t c.multiply_rows_by_times_i.new.self)
    c.rows_with_x-with_w.ensures.unchanged c.multiply_rows_by_times_i.ensures.value)
    c.negate_rows.ensures.value
