-- Certificates: an observable and detectors of which each row names an even number, so that errors that flip no detector do not flip it.
use Rattle.std.specs.Prelude.{◌≡◌, ℕ, ◌<◌, ◌≤◌, Bool, true, false, List, [], ◌∷◌, length, slice_index_or, All}
use Rattle.stab_gates.specs.Letters.{◌⊕◌}
use Rattle.stab_search.specs.Tables.{ErrorTable, flipped_by_rows}
use Rattle.stab_parities.specs.OddNumbers.{row}

-- whether an odd number of a list are members
abbrev pub odd_members : List Bool → List ℕ → Bool
odd_members members [] = false
odd_members members (i ∷ is) = slice_index_or members i false ⊕ odd_members members is

-- the members are the observable and detectors, and each row names an even number of them
pub record IsCertificate (t : ErrorTable) (o : ℕ) (members : List Bool) : Type 0 where
  pub observable : slice_index_or members o false ≡ true
  pub detectors : (i : ℕ) → t.detectors ≤ i → slice_index_or members i false ≡ true → i ≡ o
  pub even : (r : ℕ) → r < length t.rows → odd_members members (row t.rows r) ≡ false

-- errors that flip no detector do not flip the observable
abbrev pub FollowsDetectors : ErrorTable → ℕ → Type 0
FollowsDetectors t o =
    (errors : List ℕ) → All (λ r. r < length t.rows) errors → ((d : ℕ) → d < t.detectors → flipped_by_rows t.rows errors d ≡ false) → flipped_by_rows t.rows errors o ≡ false
