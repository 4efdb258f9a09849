use Rattle.std.proofs.Common.{Bool, List, subst}
use Rattle.std.specs.Prelude.{IfNone}
use Rattle.stab_args.specs.Coins.{StandsForCoins}
use Rattle.stab_cli.proofs.coins.read_coins.Goals as goal

pub returns : goal.returns
returns g c =
    let none = subst (λ r. IfNone r ((coins : List Bool) → StandsForCoins c.as_slice.result.now coins → ⊥)) c.in-None.is c.in_ok-coins.ensures.none in
    record {
      reads = (
        c.in_ok-text.text.items,
        c.in_ok-text.ensures.reads,
        subst (λ text. (coins : List Bool) → StandsForCoins text coins → ⊥) c.as_slice.ensures.value none,
      );
    }
