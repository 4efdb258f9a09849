use Rattle.stab_regions.proofs.Names.{arith, length, ◌<◌}
use Rattle.stab_regions.proofs.GateLemmas.{gate-moves, images-mix, on_ok}
use Rattle.stab_regions.proofs.RowLemmas.{toggles-by}
use Rattle.stab_regions.proofs.gates.before_gate.Goals as goal

pub returns-clause-strings : goal.returns-clause-strings
returns-clause-strings c =
    let x = c.args.by_x.now in
    let z = c.args.by_z.now in
    let q = c.args.qubit in
    let inside : q < length z = omega (arith, c.requires.in_range, c.requires.same_length) in
    on_ok c.toggle_if-2.result _ _
    (λ t. gate-moves c.args.gate (length x) q x z _ _ c.requires.in_range
    (images-mix c.args.gate c.of-images.result.of_x c.of-images.result.of_z c.exchanges.result c.x_has_both.result c.z_has_both.result q x z c.exchange_if.new.by_x c.exchange_if.new.by_z _ _
    c.requires.in_range inside c.of-images.ensures.x c.of-images.ensures.z c.exchanges.ensures.value c.x_has_both.ensures.value c.z_has_both.ensures.value
    c.exchange_if.ensures.x c.exchange_if.ensures.z
    (toggles-by _ _ _ q c.exchange_if.new.by_z q _ (omega (arith, inside, c.exchange_if.ensures.same_z)) c.in_ok-toggle_if.ensures.value)
    (toggles-by _ _ _ q _ q _ (omega (arith, c.requires.in_range, c.exchange_if.ensures.same_x, c.in_ok-toggle_if.ensures.same_length)) t)))
    c.toggle_if-2.ensures.value
