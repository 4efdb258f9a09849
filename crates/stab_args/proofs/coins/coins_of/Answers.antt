use Rattle.stab_args.proofs.Names.{◌≡◌, ◌==◌, ap, length, true, false}
use Rattle.stab_args.proofs.CoinLaws.{no_coins_alone}
use Rattle.stab_args.proofs.coins.coins_of.Goals as goal

pub returns-else-is_empty-clause-none : goal.returns-else-is_empty-clause-none
returns-else-is_empty-clause-none c =
    no_coins_alone c.in_ok-coins.coins.items c.in_ok-coins.rest.now c.args.text.now c.in_ok-coins.ensures.split c.in_ok-coins.ensures.rest (λ e.
    let yes : (length c.in_ok-coins.rest.now == 0) ≡ true = ap (λ t. length t == 0) e in
    let is : c.is_empty.result ≡ (length c.in_ok-coins.rest.now == 0) = c.is_empty.ensures in
    let off : c.is_empty.result ≡ false = c.if-is_empty.false in
    cc)
