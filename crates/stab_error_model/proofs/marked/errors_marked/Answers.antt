use Rattle.stab_error_model.proofs.Names.{◌≡◌, ◌∙◌, ◌+◌, ◌*◌, ◌<◌, ◌++◌, sym, ap, subst, append-nil, drop, length, map, [], false, arith, flat_map, drop_all, All-nil, listed, few_steps, unroll, circuit_items, single_errors_of, errors_marked, instructions, marks_from, ErrorStands, HasFrom, IsUnderWay, marks_shown, marked_single_errors}
use Rattle.stab_error_model.proofs.ErrorListLemmas.{under-way-all, under-way-more, under-way-none}
use Rattle.stab_error_model.proofs.MarkLemmas.{marked-all}
use Rattle.stab_error_model.proofs.MarkedLemmas.{long-targets, marks-few, marks-split, rows-split}
use Rattle.stab_error_model.proofs.marked.errors_marked.Goals as goal

pub mark_items-requires : goal.mark_items-requires
mark_items-requires c = record { few = omega (arith, few_steps (circuit_items c.args.circuit.now) c.requires.checked, ap (λ xs. length (unroll (listed xs))) c.items.ensures.value) }

pub marks-init : goal.marks-init
marks-init c =
    let items = circuit_items c.args.circuit.now in
    let F = single_errors_of false (unroll items) in
    let made = map marks_shown c.mark_items.new.marks.items in
    let all = flat_map (errors_marked c.args.letters) made in
    let shown : made ≡ marks_from 0 (instructions items) =
    c.in_ok-mark_items.ensures.marks ∙ ap (λ ms. map marks_shown ms ++ marks_from 0 (instructions (listed c.items.result.now))) c.new-all.ensures.items
    ∙ ap (λ xs. marks_from 0 (instructions (listed xs))) c.items.ensures.value in
    let are : F ≡ flat_map marked_single_errors made = marked-all items ∙ ap (flat_map marked_single_errors) (sym shown) in
    record {
      rows = omega (arith, c.requires.single_errors, ap length are);
      way = subst (λ fs. IsUnderWay (HasFrom 0 F) all all 0 fs [] c.new-errors.result.items) are
          (subst (λ es. IsUnderWay (HasFrom 0 F) all all 0 F [] es) (sym c.new-errors.ensures.items) (under-way-none 0 all F []));
    }

pub add_marked-requires-clause-few : goal.add_marked-requires-clause-few
add_marked-requires-clause-few c =
    let items = circuit_items c.args.circuit.now in
    let made = c.mark_items.new.marks.items in
    let shown : map marks_shown made ≡ marks_from 0 (instructions items) =
    c.in_ok-mark_items.ensures.marks ∙ ap (λ ms. map marks_shown ms ++ marks_from 0 (instructions (listed c.items.result.now))) c.new-all.ensures.items
    ∙ ap (λ xs. marks_from 0 (instructions (listed xs))) c.items.ensures.value in
    marks-few items made c.marks.k c.index.result.now c.requires.checked shown (omega (arith, c.marks-test.true, c.len-k-end.ensures)) c.index.ensures

pub add_marked-requires-clause-few_rows : goal.add_marked-requires-clause-few_rows
add_marked-requires-clause-few_rows c =
    let made = c.mark_items.new.marks.items in
    let within : c.marks.k < length made = omega (arith, c.marks-test.true, c.len-k-end.ensures) in
    omega (arith, c.ranges.single_errors.fits, c.marks.invariant.rows, rows-split made c.marks.k c.index.result.now within c.index.ensures)

pub overflow_add-row : goal.overflow_add-row
overflow_add-row c =
    let made = c.mark_items.new.marks.items in
    let within : c.marks.k < length made = omega (arith, c.marks-test.true, c.len-k-end.ensures) in
    record { fits = omega (arith, c.ranges.single_errors.fits, c.marks.invariant.rows, rows-split made c.marks.k c.index-in-marks.result.now within c.index-in-marks.ensures) }

pub marks-preserved : goal.marks-preserved
marks-preserved c =
    let made = c.mark_items.new.marks.items in
    let ls = c.args.letters in
    let k = c.marks.k in
    let row = c.marks.row in
    let m = c.index.result.now in
    let more = c.index-in-marks.result.now in
    let Is = HasFrom 0 (single_errors_of false (unroll (circuit_items c.args.circuit.now))) in
    let all = flat_map (errors_marked ls) (map marks_shown made) in
    let later = map marks_shown (drop (k + 1) made) in
    let now = c.marks.errors.items in
    let within : k < length made = omega (arith, c.marks-test.true, c.len-k-end.ensures) in
    let next = row + 2 * length more.qubits.now in
    let next_is : next ≡ row + length (marked_single_errors (marks_shown m)) =
    omega (arith, rows-split made k more within c.index-in-marks.ensures, rows-split made k m within c.index.ensures, long-targets m.step m.qubits.now) in
    record {
      rows = omega (arith, c.marks.invariant.rows, rows-split made k more within c.index-in-marks.ensures);
      way = under-way-more Is all (errors_marked ls (marks_shown m)) (flat_map (errors_marked ls) later) row next (marked_single_errors (marks_shown m)) (flat_map marked_single_errors later)
          [] now c.add_marked.new.errors.items next_is
          (subst (λ ms. IsUnderWay Is all (flat_map (errors_marked ls) ms) row (flat_map marked_single_errors ms) [] now) (marks-split made k m within c.index.ensures) c.marks.invariant.way)
          c.in_ok-add_marked.ensures.adds;
    }

pub returns-clause-stand : goal.returns-clause-stand
returns-clause-stand c =
    let made = c.mark_items.new.marks.items in
    let ls = c.args.letters in
    let F = single_errors_of false (unroll (circuit_items c.args.circuit.now)) in
    let Is = HasFrom 0 F in
    let all = flat_map (errors_marked ls) (map marks_shown made) in
    let none : drop c.marks.k made ≡ [] = drop_all c.marks.k made (omega (arith, c.marks-test.false, c.len-k-end.ensures)) in
    let way = subst (λ ms. IsUnderWay Is all (flat_map (errors_marked ls) (map marks_shown ms)) c.marks.row (flat_map marked_single_errors (map marks_shown ms)) [] c.marks.errors.items) none c.marks.invariant.way in
    (under-way-all Is all c.marks.row [] [] c.marks.errors.items way).stand F ([], sym (append-nil F)) (All-nil (ErrorStands F))
