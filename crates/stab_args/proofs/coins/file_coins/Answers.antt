use Rattle.stab_args.proofs.Names.{refl}
use Rattle.stab_args.proofs.CoinLaws.{stands_for_none}
use Rattle.stab_args.proofs.coins.file_coins.Goals as goal

pub returns-else-is_file_end-clause-none : goal.returns-else-is_file_end-clause-none
returns-else-is_file_end-clause-none c =
    stands_for_none c.in_ok-coins.coins.items c.in_ok-coins.rest.now c.args.text.now c.in_ok-coins.ensures.split c.in_ok-coins.ensures.rest
    (λ end. c.if-is_file_end.ensures.other refl end)
