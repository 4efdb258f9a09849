use Rattle.stab_tableau.proofs.Names.{◌≡◌, ℕ, ◌+◌, ◌*◌, ◌<◌, true, get_or, I, has_x, has_position}
use Rattle.stab_tableau.proofs.supports.XSupports.add_string.Given as goal

abbrev pub invariant-loop-word : goal.invariant-loop-word
invariant-loop-word l = record {
  known : l.self.known ≡ l.fn.self.known;
  preserved : (g w position : ℕ) → has_position l.fn.self g w position ≡ true → has_position l.self g w position ≡ true;
  added : (w position : ℕ) → w < l.word → position < 64 → has_x (get_or l.string.letters (64 * w + position) I) ≡ true → has_position l.self l.group w position ≡ true;
}
