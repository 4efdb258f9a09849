use Rattle.stab_args.proofs.Names.{◌≡◌, ◌++◌, length, coin_text}
use Rattle.stab_args.proofs.coins.coins_at_front.Given as goal

abbrev pub invariant-loop-coin : goal.invariant-loop-coin
invariant-loop-coin l = l.text ≡ coin_text l.coins.items ++ l.rest

abbrev pub decreases-loop-coin : goal.decreases-loop-coin
decreases-loop-coin l = length l.rest
