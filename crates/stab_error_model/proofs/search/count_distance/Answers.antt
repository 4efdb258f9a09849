use Rattle.stab_error_model.proofs.Names.{◌≡◌, subst, false, length, arith, IsDistance}
use Rattle.stab_error_model.proofs.CountLemmas.{count-none-at-all, count-none-within, counts-are, none-below}
use Rattle.stab_error_model.proofs.search.count_distance.Goals as goal

pub count_sets-requires : goal.count_sets-requires
count_sets-requires c =
    let (n, items, most, table, distance) = c.requires.answer in
    let numbers = c.in-Least.numbers in
    let size : c.len.result ≡ length numbers.items = omega (arith, c.len.ensures, numbers.ok.0) in
    let least = subst (λ a. IsDistance false c.args.observable n items c.args.errors.now.errors most a) c.in-Least.is distance in record {
      least = λ errors logical.
          let le = none-below n items c.args.observable c.args.errors.now table most numbers.items least errors logical in
          omega (arith, le, size);
    }

pub returns-in-Least-clause-count : goal.returns-in-Least-clause-count
returns-in-Least-clause-count c =
    let numbers = c.in-Least.numbers in
    counts-are c.args.errors.now c.args.observable c.args.answer.now numbers.items c.len.result c.count_sets.result
    (λ n items most distance. subst (λ a. IsDistance false c.args.observable n items c.args.errors.now.errors most a) c.in-Least.is distance)
    (omega (arith, c.len.ensures, numbers.ok.0)) c.count_sets.ensures.count

pub returns-in-NoneWithin-clause-count : goal.returns-in-NoneWithin-clause-count
returns-in-NoneWithin-clause-count c = λ n items most table distance.
    count-none-within n items c.args.observable c.args.errors.now table most
    (subst (λ a. IsDistance false c.args.observable n items c.args.errors.now.errors most a) c.in-NoneWithin.is distance)

pub returns-in-NoneAtAll-clause-count : goal.returns-in-NoneAtAll-clause-count
returns-in-NoneAtAll-clause-count c = λ n items most table distance.
    count-none-at-all n items c.args.observable c.args.errors.now table most
    (subst (λ a. IsDistance false c.args.observable n items c.args.errors.now.errors most a) c.in-NoneAtAll.is distance)
