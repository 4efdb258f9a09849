use Rattle.stab_circuit.proofs.Names.{ap, ◌∙◌, option_copied, operation}
use Rattle.stab_circuit.proofs.KnownLineLemmas.{known_front}
use Rattle.stab_circuit.proofs.known_lines.KnownLines.at_front.Goals as goal

pub returns-in_ok-clone-in-Some : goal.returns-in_ok-clone-in-Some
returns-in_ok-clone-in-Some c =
    let known = c.known.inside in
    record {
      front = known_front c.args.text.now known.bytes.now known.instruction.value c.shared.result (option_copied c.in-Some.after) c.known.invariant c.in-Some.ensures.front
          (c.shared.ensures.value ∙ ap operation c.in_ok-clone-in-Some.ensures.cases);
    }
