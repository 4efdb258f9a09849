use Rattle.stab_pauli.proofs.Names.{arith, ◌+◌}
use Rattle.stab_pauli.proofs.Lemmas.{mask-with_x}
use Rattle.stab_pauli.proofs.rows.PauliRows.rows_with_x.Goals as goal

pub returns : goal.returns
returns c = record {
  value = mask-with_x c.args.self.now c.args.first (c.args.first + c.min.result) c.args.qubit
      (λ k lk le. omega (arith, c.min.ensures, c.len.ensures.value, c.requires.first_in_range))
      c.mask_of_x.result.0 c.mask_of_x.ensures.short c.mask_of_x.ensures.value;
}
