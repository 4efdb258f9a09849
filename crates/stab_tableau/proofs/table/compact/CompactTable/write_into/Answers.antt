use Rattle.stab_tableau.proofs.Names.{◌≡◌, ◌∙◌, ◌*◌, sym, ap, subst, length, arith, Rows, IsPaired}
use Rattle.stab_tableau.proofs.PairedRowsLemmas.{seen-length}
use Rattle.stab_tableau.proofs.table.compact.CompactTable.write_into.Goals as goal

pub write_into-requires-clause-same_qubits : goal.write_into-requires-clause-same_qubits
write_into-requires-clause-same_qubits c =
    sym (seen-length c.table.inside.rows c.table.invariant.0 c.args.table.now c.table.view_is) ∙ c.requires.same_number ∙ seen-length c.self.inside.rows c.self.invariant c.args.self.now c.self.view_is

pub write_into-requires-clause-same_number : goal.write_into-requires-clause-same_number
write_into-requires-clause-same_number c =
    let same = sym (seen-length c.table.inside.rows c.table.invariant.0 c.args.table.now c.table.view_is) ∙ c.requires.same_number ∙ seen-length c.self.inside.rows c.self.invariant c.args.self.now c.self.view_is in
    c.table.invariant.0.size ∙ ap (λ n. 2 * n) same ∙ sym c.self.invariant.size

pub invariant_of-table : goal.invariant_of-table
invariant_of-table c =
    let P : Rows → Type 0 = IsPaired in
    let same = sym (seen-length c.table.inside.rows c.table.invariant.0 c.args.table.now c.table.view_is) ∙ c.requires.same_number ∙ seen-length c.self.inside.rows c.self.invariant c.args.self.now c.self.view_is in
    let size : length c.write_into.new.rows.rows ≡ length c.table.inside.rows.rows =
    ap (λ (r : Rows). length r.rows) c.write_into.ensures.value ∙ c.self.invariant.size ∙ ap (λ n. 2 * n) (sym same) ∙ sym c.table.invariant.0.size in
    let le = c.table.invariant.1.groups in (
      subst P (sym c.write_into.ensures.value) c.self.invariant,
      c.forget_all.ensures.covers c.write_into.new.rows (omega arith),
    )
