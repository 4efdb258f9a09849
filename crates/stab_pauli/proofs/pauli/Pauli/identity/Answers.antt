use Rattle.stab_pauli.proofs.Names.{rules, ◌≡◌, ◌*◌, replicate}
use Rattle.stab_pauli.proofs.Lemmas.{lies_of, is_of, blank_view}
use Rattle.stab_pauli.proofs.pauli.Pauli.identity.Goals as goal

pub invariant_of-result : goal.invariant_of-result
invariant_of-result c =
    let w : c.in_ok-vec.field-0.items ≡ replicate (8 * c.blocks_of-blocks.result) 0 = search rules in
    lies_of (blank_view c.args.n c.blocks_of-blocks.result c.in_ok-vec.field-0.items c.blocks_of-blocks.ensures.value w)

pub returns-clause-ok : goal.returns-clause-ok
returns-clause-ok c =
    let w : c.in_ok-vec.field-0.items ≡ replicate (8 * c.blocks_of-blocks.result) 0 = search rules in
    is_of (blank_view c.args.n c.blocks_of-blocks.result c.in_ok-vec.field-0.items c.blocks_of-blocks.ensures.value w)
