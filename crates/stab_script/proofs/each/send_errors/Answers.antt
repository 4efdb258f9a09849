use Rattle.stab_script.proofs.Names.{◌∙◌, [], ap, length, drop, flat_map, wrote_part, flat-drop, circuit_items}
use Rattle.std.proofs.Common.{arith, get_or}
use Rattle.std.proofs.lemmas.List.{length-map}
use Rattle.stab_items.specs.Steps.{qubits_of}
use Rattle.stab_regions.specs.Effects.{effect_of_single_error}
use Rattle.stab_report.specs.PlacedSingleErrors.{single_error_placed}
use Rattle.stab_script.proofs.EachLemmas.{line_of, mapped-at, wrote_and_cut}
use Rattle.stab_script.proofs.each.send_errors.Goals as goal

pub row-requires : goal.row-requires
row-requires g c =
    let items = circuit_items c.args.circuit.now in
    record {
      in_range = omega (arith, c.single_errors-test.true, ap length c.requires.rows, length-map c.args.single_errors.now (λ f. effect_of_single_error (qubits_of items) items (single_error_placed f)));
    }

pub send_error-requires-clause-row : goal.send_error-requires-clause-row
send_error-requires-clause-row g c =
    let items = circuit_items c.args.circuit.now in
    c.row.ensures.value
    ∙ ap (λ rows. get_or rows c.single_errors.k []) c.requires.rows
    ∙ mapped-at (λ f. effect_of_single_error (qubits_of items) items (single_error_placed f)) c.args.single_errors.now c.single_errors.k _ c.single_errors-test.true

pub single_errors-preserved : goal.single_errors-preserved
single_errors-preserved g c =
    let line = line_of (circuit_items c.args.circuit.now) in
    let single_errors = c.args.single_errors.now in
    wrote_part (flat_map line single_errors) (flat_map line (drop c.single_errors.k single_errors)) _ _ (flat-drop line single_errors c.single_errors.k _ c.single_errors-test.true) c.single_errors.invariant
    c.in_ok-send_error.ensures.sends

pub returns-in_err-send_error : goal.returns-in_err-send_error
returns-in_err-send_error g c =
    let line = line_of (circuit_items c.args.circuit.now) in
    let single_errors = c.args.single_errors.now in record {
      sends = wrote_and_cut (flat_map line single_errors) (flat_map line (drop c.single_errors.k single_errors)) _ _ c.in_err-send_error.field-0.0 c.from_residual.result
          (flat-drop line single_errors c.single_errors.k _ c.single_errors-test.true) c.single_errors.invariant c.in_err-send_error.ensures.sends c.from_residual.ensures.1;
    }
