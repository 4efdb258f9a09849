use Rattle.stab_commands.proofs.Names.{◌≡◌, ◌∙◌, [], ap, sym, subst, Took, took_none, item_coordinates, item_at, circuit_items, entries-listed, writes_as, coordinates_at, found_coordinates}
use Rattle.stab_commands.proofs.reasons.write_coordinates.Goals as goal

pub returns-in-Ok : goal.returns-in-Ok
returns-in-Ok g c =
    let path = c.args.path.now in
    let is : coordinates_at (circuit_items c.args.circuit.now) path ≡ item_coordinates c.in-Ok.item.now =
    ap (λ xs. found_coordinates (item_at path xs)) (entries-listed c.args.circuit.now) ∙ ap found_coordinates c.in-Ok.ensures.value in
    record { writes = writes_as _ _ _ (sym is) c.write_item_coordinates.ensures.writes }

pub returns-in-Err : goal.returns-in-Err
returns-in-Err g c =
    let seen = g.O.Output.seen c.args.out.now in
    let path = c.args.path.now in
    let is : coordinates_at (circuit_items c.args.circuit.now) path ≡ [] =
    ap (λ xs. found_coordinates (item_at path xs)) (entries-listed c.args.circuit.now) ∙ ap found_coordinates c.in-Err.ensures.value in
    record { writes = subst (Took seen seen) (sym is) (took_none seen) }
