use Rattle.stab_recording.proofs.Names.{◌≡◌, ◌-◌, ◌∙◌, ap, replicate, drop, take, length, arith, take_all, I, ones, nothing, output_of}
use Rattle.stab_recording.proofs.FrameStartLemmas.{frame-found}
use Rattle.stab_recording.proofs.frames_between.frame_between.Goals as goal

pub returns-clause-propagation : goal.returns-clause-propagation
returns-clause-propagation c =
    let records = c.args.outputs.now.records.items in
    let m = c.in-Some.compared in
    let size : c.len-2.result ≡ length records = grind (arith, c.len-2.ensures) in
    frame-found c.args.tableau.now (output_of c.args.outputs.now) (output_of c.args.old.now) c.args.base c.args.window c.len.result m c.args.checkpoint.now c.frame_to.new.frame
    c.last_of_first.result.now c.last_of_first-2.result.now c.in_ok-propagation.propagation c.multiply.new.self c.flip_records.new.self c.len.ensures.value c.requires.same_qubits
    (c.frame_to.ensures.length ∙ c.requires.string)
    (c.frame_to.ensures.conjugated (grind (arith, c.if-not-frame_to.false))) c.in-Some.ensures.compared
    (c.in_ok-propagation.ensures.value
    ∙ ap (λ bits. record { letters = replicate c.len.result I; flips = nothing; coin = c.args.checkpoint.now.lengths.free; number = ones (take c.args.checkpoint.now.lengths.free bits) }) c.as_slice.ensures.value)
    c.multiply.ensures.value
    (c.last_of_first.ensures.value ∙ ap (λ bits. drop (c.args.checkpoint.now.lengths.records - m) (take c.args.checkpoint.now.lengths.records bits)) c.as_slice-2.ensures.value)
    (c.last_of_first-2.ensures.value
    ∙ (λ i. drop (size i - m) (take (size i) (c.as_slice-3.ensures.value i)))
    ∙ ap (drop (length records - m)) (take_all (length records) records (omega arith)))
    c.in_ok-flip_records.ensures.value
