use Rattle.stab_commands.proofs.Names.{◌≡◌, ◌<◌, ◌∙◌, ◌+◌, ◌++◌, sym, ap, length, subst, arith, qubits_of, circuit_items, bits_in, rows_listed, coin_at}
use Rattle.stab_commands.proofs.CoinRowLaws.{checked_words}
use Rattle.stab_commands.proofs.DeciderLaws.{batch_decides, lanes_are}
use Rattle.stab_commands.proofs.deciders.list_batch.Goals as goal

pub push_all-requires-clause-as_many : goal.push_all-requires-clause-as_many
push_all-requires-clause-as_many g c =
    let items = circuit_items c.args.circuit.now in
    let found = c.flips.new.lists in
    let words = c.as_slice-2.result.now in
    let are = c.as_slice-2.ensures.value ∙ c.in_ok-extend_from_slice.ensures.items ∙ ap (λ more. found.detectors.items ++ more) c.as_slice.ensures.value in
    let lanes = lanes_are g.W.Word.at g.W.Word.lanes items c.args.first c.qubits.result found words c.qubits.ensures.value are c.in_ok-flips.ensures.flips in
    let enough = ap length c.requires.runs.numbers in
    let first = lanes 0 (omega (arith, c.requires.some, c.requires.few)) (omega (arith, c.requires.some, c.requires.in_range, enough)) in
    let count : length words ≡ bits_in items = checked_words g.W.Word.at 0 (qubits_of items) items (coin_at items (c.args.first + 0)) words first in
    c.requires.as_many ∙ sym count

pub returns-clause-size : goal.returns-clause-size
returns-clause-size g c =
    let items = circuit_items c.args.circuit.now in
    let found = c.flips.new.lists in
    let words = c.as_slice-2.result.now in
    let are = c.as_slice-2.ensures.value ∙ c.in_ok-extend_from_slice.ensures.items ∙ ap (λ more. found.detectors.items ++ more) c.as_slice.ensures.value in
    let lanes = lanes_are g.W.Word.at g.W.Word.lanes items c.args.first c.qubits.result found words c.qubits.ensures.value are c.in_ok-flips.ensures.flips in
    let enough = ap length c.requires.runs.numbers in
    let first = lanes 0 (omega (arith, c.requires.some, c.requires.few)) (omega (arith, c.requires.some, c.requires.in_range, enough)) in
    let count : length words ≡ bits_in items = checked_words g.W.Word.at 0 (qubits_of items) items (coin_at items (c.args.first + 0)) words first in
    c.in_ok-push_all.ensures.size ∙ count

pub returns-clause-value : goal.returns-clause-value
returns-clause-value g c = λ i less.
    let items = circuit_items c.args.circuit.now in
    let found = c.flips.new.lists in
    let words = c.as_slice-2.result.now in
    let are = c.as_slice-2.ensures.value ∙ c.in_ok-extend_from_slice.ensures.items ∙ ap (λ more. found.detectors.items ++ more) c.as_slice.ensures.value in
    let lanes = lanes_are g.W.Word.at g.W.Word.lanes items c.args.first c.qubits.result found words c.qubits.ensures.value are c.in_ok-flips.ensures.flips in
    let enough = ap length c.requires.runs.numbers in
    let first = lanes 0 (omega (arith, c.requires.some, c.requires.few)) (omega (arith, c.requires.some, c.requires.in_range, enough)) in
    let count : length words ≡ bits_in items = checked_words g.W.Word.at 0 (qubits_of items) items (coin_at items (c.args.first + 0)) words first in
    c.in_ok-push_all.ensures.value i (subst (λ m. i < m) (sym count) less)
    ∙ ap (λ l. rows_listed c.args.lists.now.items i ++ l)
    (batch_decides g.W.Word.at items c.args.first c.args.end words i
    (λ l within. lanes l (omega (arith, within, c.requires.few)) (omega (arith, within, c.requires.in_range, enough))))
