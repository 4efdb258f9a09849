use Rattle.stab_circuit.proofs.Names.{◌≡◌, refl, ◌∙◌, length, arith}
use Rattle.stab_circuit.proofs.ReadLineLemmas.{settled}
use Rattle.stab_circuit.proofs.StretchLemmas.{run_ends, keeps_all, more_keeps}
use Rattle.stab_circuit.proofs.reader.CircuitReader.cut.Goals as goal

pub end_run-requires-clause-known : goal.end_run-requires-clause-known
end_run-requires-clause-known c =
    let r = c.args.self.now in
    let known = c.args.stretches.now.all.items in
    keeps_all r.outer.items c.as_slice.result.now known known refl (more_keeps r.outer.items c.as_slice.result.now r.items.items (c.as_slice.ensures.value ∙ c.in_ok-append.ensures.items)) c.requires.stretches

pub end_run-requires-clause-ended : goal.end_run-requires-clause-ended
end_run-requires-clause-ended c =
    let r = c.args.self.now in
    let following : c.len-first.result ≡ length r.outer.items = omega (arith, c.len-first.ensures, r.outer.ok.0) in
    run_ends r.outer.items c.as_slice.result.now r.open_blocks.items r.items.items c.len-first.result c.args.line c.args.rest.now c.args.stretches.now.run c.requires.outside following
    (c.as_slice.ensures.value ∙ c.in_ok-append.ensures.items) c.requires.run

pub returns-clause-same : goal.returns-clause-same
returns-clause-same c =
    let r = c.args.self.now in
    settled r.outer.items c.append.new.self.items r.open_blocks.items r.open_blocks.items r.items.items c.append.new.other.items c.requires.outside refl c.in_ok-append.ensures.other_items c.in_ok-append.ensures.items
