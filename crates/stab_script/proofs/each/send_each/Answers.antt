use Rattle.stab_script.proofs.Names.{◌∙◌, refl, ap, subst, inr, flat_map, map, unroll, circuit_items}
use Rattle.stab_io.specs.Refusals.{whole}
use Rattle.stab_items.specs.Steps.{qubits_of}
use Rattle.stab_run.proofs.FitLemmas.{check-fits}
use Rattle.stab_report.specs.Endings.{Sends}
use Rattle.stab_report.specs.PlacedSingleErrors.{single_error_placed}
use Rattle.stab_report.proofs.MemoryLaws.{checked_on_own_qubits}
use Rattle.stab_report.proofs.WritingLaws.{took_some_none}
use Rattle.stab_script.specs.EachTexts.{line_of_each, errors_text}
use Rattle.stab_script.proofs.EachLemmas.{are_lines, lines_placed}
use Rattle.stab_script.proofs.each.send_each.Goals as goal

pub returns-in-Ok : goal.returns-in-Ok
returns-in-Ok g c =
    let items = circuit_items c.args.circuit.now in
    let fits = check-fits (qubits_of items) items (unroll items) (checked_on_own_qubits items c.requires.checked) refl c.items.ensures.distinct in record {
      sends = (
        errors_text c.args.everywhere items,
        are_lines c.args.everywhere items c.strings_flip_runs.ensures.law fits,
        subst (λ bytes. Sends bytes (g.O.Output.seen c.args.out.now) (g.O.Output.seen c.send_all.new.out) c.send_all.result)
            (lines_placed items c.as_slice.result.now ∙ ap (flat_map (line_of_each items)) (ap (map single_error_placed) c.as_slice.ensures.value ∙ c.in-Ok.ensures.single_errors)) c.send_all.ensures.sends,
      );
    }

pub returns-in-Err : goal.returns-in-Err
returns-in-Err g c =
    let items = circuit_items c.args.circuit.now in
    let fits = check-fits (qubits_of items) items (unroll items) (checked_on_own_qubits items c.requires.checked) refl c.items.ensures.distinct in record {
      sends = (
        errors_text c.args.everywhere items,
        are_lines c.args.everywhere items c.strings_flip_runs.ensures.law fits,
        inr (c.whole.ensures.value ∙ ap whole c.in-Err.ensures.err, took_some_none (g.O.Output.seen c.args.out.now) (errors_text c.args.everywhere items)),
      );
    }
