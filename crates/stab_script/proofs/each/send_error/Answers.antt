use Rattle.stab_script.proofs.Names.{sym, ap, ◌∙◌, ◌≡◌, subst, take, drop, refl, length, unroll, circuit_items}
use Rattle.std.proofs.Common.{arith}
use Rattle.stab_io.specs.Devices.{CutOff}
use Rattle.stab_items.specs.Steps.{qubits_of}
use Rattle.stab_items.proofs.CountLemmas.{records_counted, detectors_counted}
use Rattle.stab_run.proofs.FitLemmas.{check-fits}
use Rattle.stab_regions.proofs.EffectRowLemmas.{flipped_bits, flipped-size}
use Rattle.stab_report.specs.Endings.{SendsUnflushed}
use Rattle.stab_report.specs.PlacedSingleErrors.{single_error_placed}
use Rattle.stab_report.proofs.MemoryLaws.{checked_on_own_qubits}
use Rattle.stab_report.proofs.SendingLaws.{cut_off_here, sends_written}
use Rattle.stab_script.specs.EachTexts.{line_of_each}
use Rattle.stab_script.specs.inner.ErrorNumbers.{letters_numbered}
use Rattle.stab_script.proofs.EachLemmas.{line_whole}
use Rattle.stab_script.proofs.ErrorNumberLemmas.{count-within, flipped-is, left-is}
use Rattle.stab_script.proofs.each.send_error.Goals as goal

pub split_at-requires : goal.split_at-requires
split_at-requires g c =
    let items = circuit_items c.args.circuit.now in
    let f = single_error_placed c.args.single_error in
    let fits = check-fits (qubits_of items) items (unroll items) (checked_on_own_qubits items c.requires.checked) refl c.items.ensures.distinct in
    let records = c.records.ensures.value ∙ records_counted items c.requires.checked in
    let detectors = c.detectors.ensures.value ∙ detectors_counted items c.requires.checked in
    let few : c.in-Some.first ≡ length (flipped_bits (qubits_of items) items fits f) = omega (arith, c.in-Some.ensures, records, detectors, c.observables.ensures.value, flipped-size (qubits_of items) items fits f) in
    omega (arith, c.count_below.ensures.value, count-within items f c.args.row.now c.in-Some.first c.requires.row few)

pub returns-in-Ok : goal.returns-in-Ok
returns-in-Ok g c =
    let items = circuit_items c.args.circuit.now in
    let f = single_error_placed c.args.single_error in
    let row = c.args.row.now in
    let fits = check-fits (qubits_of items) items (unroll items) (checked_on_own_qubits items c.requires.checked) refl c.items.ensures.distinct in
    let records = c.records.ensures.value ∙ records_counted items c.requires.checked in
    let detectors = c.detectors.ensures.value ∙ detectors_counted items c.requires.checked in
    let few : c.in-Some.first ≡ length (flipped_bits (qubits_of items) items fits f) = omega (arith, c.in-Some.ensures, records, detectors, c.observables.ensures.value, flipped-size (qubits_of items) items fits f) in
    let flipped = c.split_at.ensures.front ∙ ap (λ k. take k row) c.count_below.ensures.value ∙ flipped-is items f row c.in-Some.first c.requires.row few in
    let left =
    c.as_slice.ensures.value
    ∙ c.in-Ok.ensures.value
    ∙ ap (letters_numbered c.in-Some.first) (c.split_at.ensures.back ∙ ap (λ k. drop k row) c.count_below.ensures.value)
    ∙ left-is items f row c.in-Some.first c.requires.row few in
    let seen = g.O.Output.seen c.args.out.now in
    let then_seen = g.O.Output.seen c.put_error.new.out in record {
      sends = subst (λ l. SendsUnflushed l seen then_seen c.put_error.result) (line_whole items f c.split_at.result.0.now c.as_slice.result.now flipped left)
          (sends_written _ seen then_seen c.put_error.result c.put_error.ensures.writes);
    }

pub returns-in-Err : goal.returns-in-Err
returns-in-Err g c =
    let seen = g.O.Output.seen c.args.out.now in record {
      sends = subst (CutOff seen seen (line_of_each (circuit_items c.args.circuit.now) (single_error_placed c.args.single_error))) (sym c.whole-in-Err.ensures.value) (cut_off_here seen _);
    }
