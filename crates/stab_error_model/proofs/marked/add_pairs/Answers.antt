use Rattle.stab_error_model.proofs.Names.{◌≡◌, ◌∙◌, ◌+◌, ◌*◌, ◌∷◌, [], refl, sym, ap, subst, append-nil, drop, arith, drop_more, drop_all, in_front, single_error_on, single_errors_on, each_letter, each_two_targets, letters_asked, single_error_of_letter, AddsErrors, HasFrom, IsUnderWay, Stands, target_single_errors}
use Rattle.stab_error_model.proofs.ErrorListLemmas.{letters-at, under-way-all, under-way-more}
use Rattle.stab_error_model.proofs.MarkedLemmas.{targets-more}
use Rattle.stab_error_model.proofs.marked.add_pairs.Goals as goal

pub pairs-preserved : goal.pairs-preserved
pairs-preserved c =
    let asked = c.args.letters in
    let xs = c.args.qubits.now in
    let t = c.args.step in
    let k = c.pairs.k in
    let a = c.index-qubits-k.result in
    let b = c.index-qubits-k-in-pairs.result in
    let Is = HasFrom c.args.row (target_single_errors t xs) in
    let all = each_two_targets asked t xs in
    let first : drop k xs ≡ a ∷ drop (k + 1) xs = drop_more xs k a c.pairs-test.true ∙ ap (λ y. y ∷ drop (k + 1) xs) (sym c.index-qubits-k.is) in
    let two : (k + 1) + 1 ≡ k + 2 = omega arith in
    let second : drop (k + 1) xs ≡ b ∷ drop (k + 2) xs =
    subst (λ n. drop (k + 1) xs ≡ b ∷ drop n xs) two
    (drop_more xs (k + 1) b (omega (arith, c.pairs-test.true, c.if-k-qubits.false)) ∙ ap (λ y. y ∷ drop ((k + 1) + 1) xs) (sym c.index-qubits-k-in-pairs.is)) in
    record {
      within = omega (arith, c.pairs-test.true, c.if-k-qubits.false);
      way = targets-more asked Is all (c.args.row + 2 * k) (c.args.row + 2 * (k + 2)) (t + k) (t + (k + 2)) a b (drop (k + 2) xs) c.in_front-first.result c.in_front-second.result
          c.args.errors.now.items c.pairs.errors.items c.add_products.new.errors.items
          c.in_front-first.ensures.row c.in_front-second.ensures.row
          (λ l. c.in_front-first.ensures.value l ∙ ap (λ n. single_error_on (t + k) (in_front n) l) c.number.ensures.value)
          (λ l. c.in_front-second.ensures.value l ∙ ap (λ n. single_error_on ((t + k) + 1) (in_front n) l) c.number-in-pairs.ensures.value)
          (omega arith) (omega arith)
          (subst (λ ys. IsUnderWay Is all (each_two_targets asked (t + k) ys) (c.args.row + 2 * k) (target_single_errors (t + k) ys) c.args.errors.now.items c.pairs.errors.items)
          (first ∙ ap (λ ys. a ∷ ys) second) c.pairs.invariant.way)
          c.in_ok-add_products.ensures.adds;
    }

pub returns-then-k-qubits : goal.returns-then-k-qubits
returns-then-k-qubits c =
    let asked = c.args.letters in
    let xs = c.args.qubits.now in
    let t = c.args.step + c.pairs.k in
    let k = c.pairs.k in
    let row = c.args.row + 2 * c.pairs.k in
    let a = c.index-qubits-k.result in
    let Is = HasFrom c.args.row (target_single_errors c.args.step xs) in
    let all = each_two_targets asked c.args.step xs in
    let old = c.args.errors.now.items in
    let now = c.pairs.errors.items in
    let new = c.add_letters.new.errors.items in
    let here = each_letter (letters_asked asked) (single_error_on t (in_front a)) in
    let first : drop k xs ≡ a ∷ drop (k + 1) xs = drop_more xs k a c.pairs-test.true ∙ ap (λ y. y ∷ drop (k + 1) xs) (sym c.index-qubits-k.is) in
    let last : drop (k + 1) xs ≡ [] = drop_all (k + 1) xs (omega (arith, c.if-k-qubits.true)) in
    let way = subst (λ es. IsUnderWay Is all es row (target_single_errors t (a ∷ [])) old now) (sym (append-nil here))
    (subst (λ ys. IsUnderWay Is all (each_two_targets asked t ys) row (target_single_errors t ys) old now) (first ∙ ap (λ ys. a ∷ ys) last) c.pairs.invariant.way) in
    record {
      adds = under-way-all Is all (row + 2) [] old new
          (under-way-more Is all here [] row (row + 2) (single_errors_on t (in_front a)) [] old now new refl way
          (letters-at (letters_asked asked) c.in_front-first.result row t (in_front a) now new c.in_front-first.ensures.row
          (λ l. c.in_front-first.ensures.value l ∙ ap (λ n. single_error_on t (in_front n) l) c.number.ensures.value)
          (subst (λ ls. AddsErrors (Stands c.in_front-first.result) (each_letter ls (single_error_of_letter c.in_front-first.result)) now new) c.letters_asked.ensures.value c.in_ok-add_letters.ensures.adds)));
    }
