use Rattle.stab_pauli.proofs.Names.{arith, ◌≡◌, ℕ, ◌≤◌, ◌+◌, ◌*◌, ◌/◌, ◌<◌, ◌∙◌, ap, length, get_or, chunk, I, has_x, row_at, row_letters}
use Rattle.stab_pauli.proofs.Lemmas.{rows_seen, seen_of, letter_seen, part-inside, part-row}
use Rattle.stab_pauli.proofs.rows.PauliRows.eight_with_x.Goals as goal

pub part_of-words-requires-clause-in_range : goal.part_of-words-requires-clause-in_range
part_of-words-requires-clause-in_range c =
    let e = rows_seen (seen_of c.self.invariant c.self.view_is) in
    omega (arith, e, c.requires.in_range, c.len.ensures)

pub returns : goal.returns
returns c =
    let mine = seen_of c.self.invariant c.self.view_is in
    let m = c.self.inside.blocks in
    let rows = rows_seen mine in
    let among : c.args.a + 8 ≤ length c.self.inside.powers.items = omega (arith, rows, c.requires.in_range) in
    let inside = part-inside m c.args.a (length c.self.inside.powers.items) among in
    let size = mine.lies.size in
    let slice = ap length c.as_slice.ensures.value in
    let fits : 8 * m * c.args.a + 8 * m * 8 ≤ length c.as_slice.result.now = omega (arith, inside, size, slice) in
    let letter_is : (k q : ℕ) → k < 8 → get_or (row_letters m (chunk (8 * m * k) (8 * m) c.part_of-words.result.now)) q I ≡ get_or (row_at c.args.self.now (c.args.a + k)).letters q I =
    λ k q lt. letter_seen mine (c.args.a + k) q (omega (arith, c.requires.in_range, lt))
    (part-row m c.args.a k c.as_slice.result.now c.part_of-words.result.now lt fits c.part_of-words.ensures.value) c.as_slice.ensures.value in
    record {
      value = λ k lt. c.rows_with_x.ensures.value k lt ∙ ap has_x (letter_is k c.args.qubit lt);
      short = c.rows_with_x.ensures.short;
      positions = λ k j lt lj one. c.rows_with_x.ensures.positions k j lt lj (ap has_x (letter_is k (64 * (c.args.qubit / 64) + j) lt) ∙ one);
    }
