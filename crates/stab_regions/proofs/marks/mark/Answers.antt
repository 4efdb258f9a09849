use Rattle.stab_regions.proofs.Names.{◌≡◌, ◌∙◌, ap, arith, Bool, false, ◌||◌, ℕ, List, length, take, ◌==◌, slice_index_or, list_any, take-length, named-ascending}
use Rattle.stab_regions.proofs.marks.mark.Goals as goal

pub returns-clause-value : goal.returns-clause-value
returns-clause-value c = λ i lt.
    let numbers : List ℕ = c.args.numbers.now in
    let ended : c.loop-number.number-index ≡ length numbers = omega (arith, c.loop-number-test.false, c.loop-number.auto.number-index-end) in
    c.loop-number.invariant.marked i lt
    ∙ ap (λ (b : Bool). b || slice_index_or c.args.bits.now i false)
    (ap (λ j. list_any (λ k. k == i) (take j numbers)) ended ∙ ap (list_any (λ k. k == i)) (take-length numbers) ∙ named-ascending numbers i c.requires.ascending)
