use Rattle.stab_commands.proofs.Names.{ℕ, Took, State, Shown, of_shots, IsShown, shown_bytes}
use Rattle.stab_commands.proofs.bits.write_copies.Given as goal

abbrev pub invariant-loop-written : goal.invariant-loop-written
invariant-loop-written g l =
    (first : ℕ) (shown : Shown) (run : State) → IsShown shown run l.bits.kinds l.bits.items.items →
    Took (g.O.Output.seen l.initial.out) (g.O.Output.seen l.out) (of_shots (λ shot. shown_bytes l.format shown run) first l.written)
