use Rattle.stab_search.proofs.Names.{◌≡◌, ◌+◌, ◌<◌, ◌∙◌, [], ◌∷◌, refl, sym, subst, ap, arith, rules, length, length-append, set, All, Sum, IsSumAt, AreFrom, Adds}
use Rattle.std.proofs.lemmas.List.{get_or_default}
use Rattle.std.proofs.lemmas.List.Elements.{All-set}
use Rattle.stab_search.proofs.SumLemmas.{from-push}
use Rattle.stab_search.proofs.ParityLemmas.{adds-sum}
use Rattle.stab_search.proofs.sums.add_flip.Goals as goal

pub returns-clause-built : goal.returns-clause-built
returns-clause-built c =
    let first = c.args.built.now.first in
    let old = c.args.built.now.sums.items in
    let x = c.index-parity.result.now in
    let both = first + c.len-2.result in
    let new : Sum = record { left = x; right = c.args.variable; both = both } in
    let counted : c.len-2.result ≡ length old = search rules in
    let longer : length c.push.new.self.items ≡ length old + 1 = ap length c.in_ok-push.ensures.items ∙ length-append old (new ∷ []) in
    let below : All (λ v. v < first + length old) c.reach.new.parities.items = c.in_ok-reach.ensures.below (first + length old) (omega (arith, c.requires.error)) c.requires.built.parities in
    let left : x < first + length old = subst (λ v. v < first + length old) (sym c.index-parity.ensures) (below c.args.number x c.in_ok-reach.ensures.long) in
    let is : IsSumAt (first + length old) new = record { both = ap (λ n. first + n) counted; left = (omega (arith, c.if-parity-eq0.false), left); right = (c.requires.variable, omega (arith, c.requires.error)) } in
    let end = first + length c.push.new.self.items in record {
      first = c.requires.built.first;
      count = omega (arith, longer, counted, c.if-len-ge-MOST.false);
      sums = subst (λ l. AreFrom first l) (sym c.in_ok-push.ensures.items) (from-push first old new c.requires.built.sums is);
      parities = All-set (λ v. v < end) c.reach.new.parities.items c.args.number both (omega (arith, longer, counted))
          (c.in_ok-reach.ensures.below end (omega (arith, c.requires.error)) (λ k d less. omega (arith, longer, c.requires.built.parities k d less)));
    }

pub returns-clause-adds : goal.returns-clause-adds
returns-clause-adds c =
    let first = c.args.built.now.first in
    let old = c.args.built.now.sums.items in
    let both = first + c.len-2.result in
    let parities = c.reach.new.parities.items in
    let new : Sum = record { left = c.index-parity.result.now; right = c.args.variable; both = both } in
    subst (λ l. Adds c.args.variable (c.args.number ∷ []) old c.args.built.now.parities.items l (set parities c.args.number both)) (sym c.in_ok-push.ensures.items)
    (adds-sum c.args.variable c.args.number old c.args.built.now.parities.items parities new c.in_ok-reach.ensures.long c.in_ok-reach.ensures.same (omega (arith, c.if-parity-eq0.false))
    (omega (arith, c.requires.error)) (c.index-parity.ensures ∙ get_or_default parities c.args.number c.index-parity.result.now 0 c.in_ok-reach.ensures.long) refl)
