use Rattle.stab_pauli.proofs.Names.{rules, ◌≡◌, ◌*◌, replicate, Zero}
use Rattle.stab_pauli.proofs.Lemmas.{fits, IsTable-none, table-none}
use Rattle.stab_pauli.proofs.rows.PauliRows.new.Goals as goal

pub invariant_of-result : goal.invariant_of-result
invariant_of-result c =
    let w : c.in_ok-words.words.items ≡ replicate (8 * c.blocks_of-blocks.result * c.args.rows) 0 = search rules in
    let s : c.in_ok-powers.powers.items ≡ replicate c.args.rows Zero = search rules in
    IsTable-none c.args.qubits c.blocks_of-blocks.result c.args.rows c.in_ok-words.words.items c.in_ok-powers.powers.items c.blocks_of-blocks.ensures.value w s

pub returns-clause-ok : goal.returns-clause-ok
returns-clause-ok c =
    let w : c.in_ok-words.words.items ≡ replicate (8 * c.blocks_of-blocks.result * c.args.rows) 0 = search rules in
    let s : c.in_ok-powers.powers.items ≡ replicate c.args.rows Zero = search rules in
    table-none c.args.qubits c.blocks_of-blocks.result c.args.rows c.in_ok-words.words.items c.in_ok-powers.powers.items (fits c.args.qubits c.blocks_of-blocks.result c.blocks_of-blocks.ensures.value) w s
