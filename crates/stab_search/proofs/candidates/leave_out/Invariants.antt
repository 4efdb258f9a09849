use Rattle.stab_search.proofs.Names.{◌≡◌, ℕ, true, false, length, slice_index, has, rows_listed}
use Rattle.stab_search.proofs.candidates.leave_out.Given as goal

abbrev pub invariant-loop-a : goal.invariant-loop-a
invariant-loop-a l = record {
  others : (e : ℕ) → ((a : ℕ) → has a l.path ≡ true → has e (rows_listed l.errors.pairs a) ≡ false) → slice_index l.cover e ≡ slice_index l.initial.cover e;
  length : length l.cover ≡ length l.initial.cover;
}
