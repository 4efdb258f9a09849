-- Products: letters that are multiplied by those of a string, 64 at a time.
-- Source: this project's own.
use Rattle.std.specs.Prelude.{◌≡◌, ℕ, ◌+◌, ◌<◌, ◌≤◌, ◌⊎◌, List, length, slice_index_or}
use Rattle.stab_gates.specs.declared.letter.Letter.{Letter}
use Rattle.stab_gates.specs.declared.letter.Letter.TheVariants.{I}
use Rattle.stab_gates.specs.Letters.{letter_product}

-- the 64 letters from one on are multiplied by those of a string, and all others stay
pub record AreMultiplied (first : ℕ) (string old new : List Letter) : Type 0 where
  pub size : length new ≡ length old
  pub within : (k : ℕ) → k < 64 → slice_index_or new (first + k) I ≡ letter_product (slice_index_or old (first + k) I) (slice_index_or string (first + k) I)
  pub others : (q : ℕ) → (q < first) ⊎ (first + 64 ≤ q) → slice_index_or new q I ≡ slice_index_or old q I
