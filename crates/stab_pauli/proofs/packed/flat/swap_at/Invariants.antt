use Rattle.stab_pauli.proofs.Names.{◌≡◌, ◌*◌, swapped_words}
use Rattle.stab_pauli.proofs.packed.flat.swap_at.Given as goal

abbrev pub invariant-loop-half : goal.invariant-loop-half
invariant-loop-half l = l.words ≡ swapped_words l.a l.b (4 * l.half) l.initial.words
