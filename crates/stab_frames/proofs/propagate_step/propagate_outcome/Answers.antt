use Rattle.stab_frames.proofs.Names.{◌≡◌, ◌<◌, refl, true, false, sym, ◌∙◌, ap, get_or, length, [], arith, string_product, PropagationState}
use Rattle.stab_frames.proofs.RandomLemmas.{placed-next, missing-next, asks-none, asks-next}
use Rattle.stab_frames.proofs.MeasuredPropagatedLemmas.{equal-bits, other-bits, passed-alike, passed-times}
use Rattle.stab_frames.proofs.propagate_step.propagate_outcome.Goals as goal

pub returns-then-not-bit_at-clause-passed : goal.returns-then-not-bit_at-clause-passed
returns-then-not-bit_at-clause-passed g c =
    let old = c.args.propagation.now in
    let coin = ap (λ (w : PropagationState). w.coin) c.skip_coin.ensures.value in
    let flag : get_or c.args.known.free.now old.coin false ≡ false = grind (arith, c.coin-coin.ensures.value, c.bit_at.ensures.value) in
    passed-alike c.args.known.strings.now.strings c.args.known.free.now (g.D.Draw.changes c.args.known.draw.now (g.C.Coins.sequence c.args.coins.now))
    c.args.anticommuting c.args.anticommuting old c.skip_coin.new.self (λ is. cc) refl (ap (λ (w : PropagationState). w.letters) c.skip_coin.ensures.value)
    (ap (λ (w : PropagationState). w.flips) c.skip_coin.ensures.value) coin
    (placed-next c.args.known.free.now false old c.skip_coin.new.self c.requires.placed flag coin (ap (λ (w : PropagationState). w.number) c.skip_coin.ensures.value))

pub returns-then-change-anticommuting-clause-asks : goal.returns-then-change-anticommuting-clause-asks
returns-then-change-anticommuting-clause-asks g c =
    let flag : get_or c.args.known.free.now c.args.propagation.now.coin false ≡ true = grind (arith, c.coin-coin.ensures.value, c.bit_at.ensures.value) in
    asks-next c.args.known.free.now c.args.propagation.now.coin (g.C.Coins.asks c.args.coins.now) (g.C.Coins.asks c.change-change.new.coins) flag c.change-change.ensures.asks

pub returns-then-change-anticommuting-clause-passed : goal.returns-then-change-anticommuting-clause-passed
returns-then-change-anticommuting-clause-passed g c =
    let old = c.args.propagation.now in
    let new = c.skip_coin-then-change-anticommuting.ensures.value in
    let coin = ap (λ (w : PropagationState). w.coin) new in
    let draw = g.D.Draw.changes c.args.known.draw.now (g.C.Coins.sequence c.args.coins.now) in
    let flag : get_or c.args.known.free.now old.coin false ≡ true = grind (arith, c.coin-coin.ensures.value, c.bit_at.ensures.value) in
    let same = equal-bits c.change-change.result c.args.anticommuting c.if-change-anticommuting.true in
    passed-alike c.args.known.strings.now.strings c.args.known.free.now draw c.args.anticommuting c.change-change.result old c.skip_coin-then-change-anticommuting.new.self
    (λ is. ap draw (sym c.coin-coin.ensures.value) ∙ sym c.change-change.ensures.value ∙ same) same (ap (λ (w : PropagationState). w.letters) new)
    (ap (λ (w : PropagationState). w.flips) new) coin
    (placed-next c.args.known.free.now true old c.skip_coin-then-change-anticommuting.new.self c.requires.placed flag coin (ap (λ (w : PropagationState). w.number) new))

pub returns-then-number-len-clause-asks : goal.returns-then-number-len-clause-asks
returns-then-number-len-clause-asks g c =
    let flag : get_or c.args.known.free.now c.args.propagation.now.coin false ≡ true = grind (arith, c.coin-coin.ensures.value, c.bit_at.ensures.value) in
    asks-next c.args.known.free.now c.args.propagation.now.coin (g.C.Coins.asks c.args.coins.now) (g.C.Coins.asks c.change-change.new.coins) flag c.change-change.ensures.asks

pub returns-then-number-len-clause-missing : goal.returns-then-number-len-clause-missing
returns-then-number-len-clause-missing g c =
    let flag : get_or c.args.known.free.now c.args.propagation.now.coin false ≡ true = grind (arith, c.coin-coin.ensures.value, c.bit_at.ensures.value) in
    missing-next c.args.known.strings.now.strings c.args.known.free.now c.args.propagation.now.coin c.args.propagation.now.number flag c.requires.placed
    (omega (arith, c.number-number.ensures.value, c.len.ensures.value, c.if-number-len.true))

pub returns-clause-asks : goal.returns-clause-asks
returns-clause-asks g c =
    let flag : get_or c.args.known.free.now c.args.propagation.now.coin false ≡ true = grind (arith, c.coin-coin.ensures.value, c.bit_at.ensures.value) in
    asks-next c.args.known.free.now c.args.propagation.now.coin (g.C.Coins.asks c.args.coins.now) (g.C.Coins.asks c.change-change.new.coins) flag c.change-change.ensures.asks

pub returns-clause-passed : goal.returns-clause-passed
returns-clause-passed g c =
    let strings = c.args.known.strings.now.strings in
    let old = c.args.propagation.now in
    let mid = c.skip_coin-2.ensures.value in
    let new = c.multiply.ensures.value in
    let coin = ap (λ (w : PropagationState). w.coin) new ∙ ap (λ (w : PropagationState). w.coin) mid in
    let draw = g.D.Draw.changes c.args.known.draw.now (g.C.Coins.sequence c.args.coins.now) in
    let flag : get_or c.args.known.free.now old.coin false ≡ true = grind (arith, c.coin-coin.ensures.value, c.bit_at.ensures.value) in
    let lt : old.number < length strings = omega (arith, c.number-number.ensures.value, c.len.ensures.value, c.if-number-len.false) in
    let string = c.string.ensures.letters ∙ ap (λ k. get_or strings k []) c.number-number.ensures.value in
    passed-times strings c.args.known.free.now draw c.args.anticommuting c.change-change.result old c.multiply.new.self flag c.requires.placed lt
    (c.change-change.ensures.value ∙ ap draw c.coin-coin.ensures.value) (other-bits c.change-change.result c.args.anticommuting c.if-change-anticommuting.false)
    (ap (λ (w : PropagationState). w.letters) new ∙ (λ i. string_product (mid i).letters (string i)))
    (ap (λ (w : PropagationState). w.flips) new ∙ ap (λ (w : PropagationState). w.flips) mid) coin
    (placed-next c.args.known.free.now true old c.multiply.new.self c.requires.placed flag coin
    (ap (λ (w : PropagationState). w.number) new ∙ ap (λ (w : PropagationState). w.number) mid))

pub returns-then-not-bit_at-clause-asks : goal.returns-then-not-bit_at-clause-asks
returns-then-not-bit_at-clause-asks g c = asks-none c.args.known.free.now c.args.propagation.now.coin 1 (g.C.Coins.asks c.args.coins.now)
