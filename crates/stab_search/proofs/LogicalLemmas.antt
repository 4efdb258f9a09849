-- Logical errors: what errors flip together, by the list that is made of their rows one by one.
use Rattle.stab_search.proofs.Names.{◌≡◌, ℕ, ◌≤◌, ◌<◌, sym, ◌∙◌, arith, List, [], ◌∷◌, length, get_or, IsAscending, ErrorTable, ForEach, odd, flipped_by_rows, IsLogicalError}
use Rattle.stab_search.proofs.ListLemmas.{has-here, all-each}
use Rattle.stab_parities.proofs.AscendingLemmas.{odd-below, named-ascending}

-- what is flipped ascends, and begins with an observable
pub flipped-logical : (t : ErrorTable) (errors flipped : List ℕ) → IsAscending flipped → ((i : ℕ) → odd i flipped ≡ flipped_by_rows t.rows errors i)
    → ForEach (λ r. r < length t.rows) errors → 0 < length flipped → t.detectors ≤ get_or flipped 0 0 → IsLogicalError t errors
flipped-logical t errors [] a sum inside some first = absurd (omega arith)
flipped-logical t errors (x ∷ xs) a sum inside some first = record {
  inside = all-each (λ r. r < length t.rows) errors inside;
  undetected = λ d lt. sym (sum d) ∙ odd-below x (x ∷ xs) d (omega arith, a.1) (omega arith);
  observed = (x, first, sym (sum x) ∙ sym (named-ascending (x ∷ xs) x a) ∙ has-here x xs);
}
