use Rattle.stab_pauli.proofs.Names.{arith, ℕ, ◌≤◌, ◌+◌, ◌<◌, length}
use Rattle.stab_pauli.proofs.Lemmas.{mask-with_x, positions-with_x}
use Rattle.stab_pauli.proofs.rows.PauliRows.rows_and_positions_with_x.Goals as goal

pub returns : goal.returns
returns c =
    let last : (k : ℕ) → k < 64 → c.args.first + c.min.result ≤ c.args.first + k → length c.args.self.now.rows ≤ c.args.first + k =
    λ k lk le. omega (arith, c.min.ensures, c.len.ensures.value, c.requires.first_in_range) in
    record {
      value = mask-with_x c.args.self.now c.args.first (c.args.first + c.min.result) c.args.qubit last c.mask_of_x.result.0 c.mask_of_x.ensures.short c.mask_of_x.ensures.value;
      positions = positions-with_x c.args.self.now c.args.first (c.args.first + c.min.result) c.args.qubit last c.mask_of_x.result.1 c.mask_of_x.ensures.positions;
    }
