-- Pairs: two errors that need not be tried together, since one other error, or two later ones, flip the same.
use Rattle.std.specs.Prelude.{◌≡◌, ◌≢◌, ◌⊎◌, ℕ, ◌<◌, ◌≤◌, true, List, length}
use Rattle.std.specs.Global.{Vec}
use Rattle.stab_gates.specs.Letters.{◌⊕◌}
use Rattle.stab_parities.specs.OddNumbers.{odd, row}
use Rattle.stab_search.specs.inner.Lists.{has}
use Rattle.stab_search.specs.inner.Indexes.{rows_listed}

-- with c and d for a and b a set still has an error that can be first
abbrev pub KeepFirst : (firsts a b c d : ℕ) → Type 0
KeepFirst firsts a b c d = (c < firsts) ⊎ ((d < firsts) ⊎ ((firsts ≤ a) × (firsts ≤ b)))

-- errors a and b flip what one error flips, or what two errors flip that are both after a
pub data IsLeftOut (rows : List (List ℕ)) (firsts a b : ℕ) : Type 0 where
  by_one : (c : ℕ) → c < length rows → ((i : ℕ) → odd i (row rows a) ⊕ odd i (row rows b) ≡ odd i (row rows c)) → IsLeftOut rows firsts a b
  by_two : (c d : ℕ) → c < length rows → d < length rows → a < c → a < d → KeepFirst firsts a b c d
      → ((i : ℕ) → odd i (row rows a) ⊕ odd i (row rows b) ≡ odd i (row rows c) ⊕ odd i (row rows d)) → IsLeftOut rows firsts a b

-- errors listed with others are left out with them, if a logical error has one before `firsts`
pub record ArePairs (rows : List (List ℕ)) (firsts : ℕ) (pairs : List (Vec ℕ)) : Type 0 where
  pub differ : (a b : ℕ) → has b (rows_listed pairs a) ≡ true → a ≢ b
  pub left_out : (a b : ℕ) → has b (rows_listed pairs a) ≡ true → IsLeftOut rows firsts a b ⊎ IsLeftOut rows firsts b a
