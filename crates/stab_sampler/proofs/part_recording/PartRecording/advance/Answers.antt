use Rattle.stab_sampler.proofs.Names.{rules, ◌≡◌, arith, sym, ◌∙◌, ap, subst, All, [], ◌++◌, length, min, take, drop, take-add, All-drop, unroll, circuit_items, Listed, list_coin, ones, StepFits, IsRun, program_state, output_of, stabilises, check-fits, check-steps, check-whole, most_strings, PivotsState, KeepsTrue, PartRecording, zero_coins, IsPartRecording}
use Rattle.std.proofs.Common.{length-drop}
use Rattle.stab_sampler.proofs.RecordingLemmas.{arrives, gives, determined-random, others-not, random-few, strings-numbered, strings-right}
use Rattle.stab_sampler.proofs.part_recording.PartRecording.advance.Goals as goal

pub run_recording_pivots-requires-clause-sized : goal.run_recording_pivots-requires-clause-sized
run_recording_pivots-requires-clause-sized c = record {
  string = c.requires.sized.string;
  scratch = c.requires.sized.written;
  strings = ap (λ (k : PivotsState). k.qubits) c.truncate.ensures.value ∙ c.requires.sized.strings;
}

pub run_recording_pivots-requires-clause-fits : goal.run_recording_pivots-requires-clause-fits
run_recording_pivots-requires-clause-fits c =
    let items = circuit_items c.args.circuit.now in
    let n = c.args.self.now.tableau.qubits in
    subst (All (StepFits n)) (sym c.in_ok-cursor.ensures.steps)
    (All-drop (StepFits n) c.args.from (unroll items)
    (subst (All (StepFits n)) c.in_ok-cursor.ensures.all
    (check-fits n items c.in_ok-cursor.cursor.all c.requires.checked c.in_ok-cursor.ensures.all c.in_ok-cursor.ensures.distinct)))

pub run_recording_pivots-requires-clause-few : goal.run_recording_pivots-requires-clause-few
run_recording_pivots-requires-clause-few c =
    let items = circuit_items c.args.circuit.now in
    omega (arith, ap length c.in_ok-cursor.ensures.steps, length-drop c.args.from (unroll items), check-steps items (check-whole c.args.self.now.tableau.qubits items c.requires.checked))

pub returns : goal.returns
returns c =
    let n = c.args.self.now.tableau.qubits in
    let steps = unroll (circuit_items c.args.circuit.now) in
    let xs = take c.args.from steps in
    let ys = take c.args.count (drop c.args.from steps) in
    let old = c.args.self.now in
    let after = c.run_recording_pivots.new in
    let sized = c.requires.sized in
    let zeros = c.clear_randomness.new.randomness.items in
    let new = program_state after.tableau (output_of after.outputs) in
    let preserved = c.truncate.new.self in
    let following = after.pivots.strings in
    let zero : list_coin c.new-coins.result.bits ≡ zero_coins = ap (λ (k : Listed). list_coin k.bits) c.new-coins.ensures.value in
    let ran =
    subst (λ s. IsRun n s ys (record { stabilised = stabilises old.tableau; output = record (output_of old.outputs) { free = zeros } }) new) zero
    (subst (λ zs. IsRun n (list_coin c.new-coins.result.bits) (take c.args.count zs) (record { stabilised = stabilises old.tableau; output = record (output_of old.outputs) { free = zeros } }) new)
    c.in_ok-cursor.ensures.steps (c.in_ok-run_recording_pivots.ensures {u = tt}).recorded.done.pivots.run) in
    let keeps =
    subst (λ s. KeepsTrue n s ys preserved following (record { stabilised = stabilises old.tableau; output = record (output_of old.outputs) { free = zeros } }) new) zero
    (subst (λ zs. KeepsTrue n (list_coin c.new-coins.result.bits) (take c.args.count zs) preserved following (record { stabilised = stabilises old.tableau; output = record (output_of old.outputs) { free = zeros } }) new)
    c.in_ok-cursor.ensures.steps (c.in_ok-run_recording_pivots.ensures {u = tt}).recorded.done.pivots.has_pivots) in
    let here = c.requires.recorded.arrived in
    let size = c.clear_randomness.ensures.size in
    let none = c.clear_randomness.ensures.none in
    let empty : preserved.strings ≡ [] = ap (λ (k : PivotsState). k.strings) c.truncate.ensures.value in
    let limit : preserved.most ≡ most_strings n =
    ap (λ (k : PivotsState). k.most) c.truncate.ensures.value ∙ omega (arith, sized.most, ap most_strings sized.strings) in
    let position : c.len-determined.result ≡ length zeros = search rules in
    let determined = c.in_ok-push_rest.ensures.value ∙ (λ i. old.free.items ++ drop (position i) (c.as_slice.ensures.value i)) in
    let there : PartRecording = record { tableau = after.tableau; string = after.string; outputs = after.outputs; pivots = after.pivots; free = c.push_rest.new.randomness } in
    record {
      sized = record {
        qubits = c.run_recording_pivots.ensures.qubits;
        string = c.run_recording_pivots.ensures.sized.string;
        written = c.run_recording_pivots.ensures.sized.scratch;
        strings = c.run_recording_pivots.ensures.sized.strings;
        most = c.run_recording_pivots.ensures.no_less.most ∙ limit;
      };
      recorded =
          subst (λ zs. IsPartRecording n zs there) (sym (take-add c.args.from c.args.count steps)) (record {
            arrived = arrives n xs ys (stabilises old.tableau) (output_of old.outputs) zeros old.free.items new here size none ran;
            gave = gives n xs ys (stabilises old.tableau) (output_of old.outputs) zeros old.free.items new here size none ran _ determined c.requires.recorded.gave;
          });
      recorded_pivots = record {
        determined = determined-random n xs ys (stabilises old.tableau) (output_of old.outputs) zeros old.free.items new here size none ran;
        others = others-not n xs ys (stabilises old.tableau) (output_of old.outputs) zeros old.free.items new here size none ran;
        number =
            strings-numbered n xs ys (stabilises old.tableau) (output_of old.outputs) zeros old.free.items new here size none ran preserved following empty keeps
            ∙ ap (min (ones after.outputs.free.items)) (c.run_recording_pivots.ensures.no_less.most ∙ limit);
        few = random-few n xs ys (stabilises old.tableau) (output_of old.outputs) zeros old.free.items new here size none ran;
        right = strings-right n xs ys (stabilises old.tableau) (output_of old.outputs) zeros old.free.items new here size none ran preserved following empty keeps;
      };
      err = tt;
    }
