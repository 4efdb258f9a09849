use Rattle.stab_circuit.proofs.Names.{◌≡◌, refl, length, arith, items_of}
use Rattle.stab_circuit.proofs.StretchLemmas.{more_keeps, keeps_all, one_more, copy_stretch, copy_put}
use Rattle.stab_circuit.proofs.reader.CircuitReader.push_copy.Goals as goal

pub returns-clause-same : goal.returns-clause-same
returns-clause-same c =
    let r = c.args.self.now in
    copy_put r.outer.items c.push_copies.new.items.items (items_of c.args.stretch r.outer.items) r.open_blocks.items r.items.items c.requires.outside c.requires.none c.in_ok-push_copies.ensures.ok

pub returns-clause-stretches : goal.returns-clause-stretches
returns-clause-stretches c =
    let r = c.args.self.now in
    let new = c.push_copies.new.items.items in
    let known = c.args.stretches.now.all.items in
    let first : c.len-first.result ≡ length r.outer.items = omega (arith, c.len-first.ensures, r.outer.ok.0) in
    let following : c.len-following.result ≡ length new = omega (arith, c.len-following.ensures, c.push_copies.new.items.ok.0) in
    one_more new known c.remember.new.self.all.items _ c.in_ok-remember.ensures.all
    (keeps_all r.outer.items new known known refl (more_keeps r.outer.items new (items_of c.args.stretch r.outer.items) c.in_ok-push_copies.ensures.ok) c.requires.stretches)
    (copy_stretch r.outer.items new c.args.stretch _ c.requires.known c.in_ok-push_copies.ensures.ok refl refl first following)
