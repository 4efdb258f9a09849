use Rattle.stab_error_model.proofs.Names.{◌≡◌, map, take, product_at, pairs_asked, single_error_of_letter, AddsErrors, Stands}
use Rattle.stab_error_model.proofs.error_lists.add_products.Given as goal

abbrev pub invariant-pairs : goal.invariant-pairs
invariant-pairs l = record {
  is : l.pair-items ≡ pairs_asked l.fn.letters;
  adds : AddsErrors (λ single_errors. Stands l.first single_errors × Stands l.second single_errors)
      (map (λ p. product_at (single_error_of_letter l.first) (single_error_of_letter l.second) p.0 p.1) (take l.pair-index l.pair-items)) l.initial.errors.items l.errors.items;
}
