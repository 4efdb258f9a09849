-- Coin numbers: how many are used up by some of the steps of a circuit.
use Rattle.stab_recording.proofs.Names.{◌≡◌, ℕ, ◌+◌, ◌≤◌, sym, ◌∙◌, ap, List, take, drop, arith, take-add, take-append-drop, Step, all_coins_of, coins-append}

pub coins-on : (from count : ℕ) (steps : List Step)
    → all_coins_of (take (from + count) steps) ≡ all_coins_of (take from steps) + all_coins_of (take count (drop from steps))
coins-on from count steps = ap all_coins_of (take-add from count steps) ∙ coins-append (take from steps) (take count (drop from steps))

pub coins-all : (from : ℕ) (steps : List Step) → all_coins_of (take from steps) ≤ all_coins_of steps
coins-all from steps =
    omega (arith, sym (ap all_coins_of (take-append-drop from steps)) ∙ coins-append (take from steps) (drop from steps))
