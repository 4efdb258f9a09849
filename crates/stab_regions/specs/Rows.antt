-- Rows: the parities that X and Z flip on each qubit, as lists of their numbers, and what they say of the parities' regions.
-- Source: this project's own.
use Rattle.std.specs.Prelude.{◌≡◌, ◌≢◌, ℕ, ◌+◌, Bool, false, ◌&&◌, List, length}
use Rattle.stab_gates.specs.declared.letter.Letter.{Letter}
use Rattle.stab_gates.specs.declared.letter.Letter.TheVariants.{I, X, Y, Z}
use Rattle.stab_gates.specs.Letters.{◌⊕◌, letters_anticommute}
use Rattle.stab_pauli.specs.Paulis.{Signed, single}
use Rattle.stab_tableau.specs.Gates.{letter_at}
use Rattle.stab_items.specs.Steps.{Step}
use Rattle.stab_parities.specs.OddNumbers.{odd, row}
use Rattle.stab_regions.specs.Regions.{Region, product_where, region_before}

-- in one row these numbers are named once more, and the other rows stay
pub record Toggles (old new : List (List ℕ)) (site : ℕ) (numbers : List ℕ) : Type 0 where
  pub here : (i : ℕ) → odd i (row new site) ≡ odd i (row old site) ⊕ odd i numbers
  pub elsewhere : (k : ℕ) → k ≢ site → row new k ≡ row old k

-- the same, if the bit is 1; else all rows stay
pub record TogglesWhere (bit : Bool) (old new : List (List ℕ)) (site : ℕ) (numbers : List ℕ) : Type 0 where
  pub here : (i : ℕ) → odd i (row new site) ≡ odd i (row old site) ⊕ (bit && odd i numbers)
  pub elsewhere : (k : ℕ) → k ≢ site → row new k ≡ row old k

-- the same rows, of which empty ones may be after the others
abbrev pub SameRows : List (List ℕ) → List (List ℕ) → Type 0
SameRows old new = (k : ℕ) → row new k ≡ row old k

-- a number is named by what a letter flips, if X flips one list and Z another
abbrev pub bits_at : ℕ → Letter → List ℕ → List ℕ → Bool
bits_at i I by_x by_z = false
bits_at i X by_x by_z = odd i by_x
bits_at i Y by_x by_z = odd i by_x ⊕ odd i by_z
bits_at i Z by_x by_z = odd i by_z

-- the letters of parity i's string: X flips it if it anticommutes with the letter, and so does Z
pub record ShowsLetters (i : ℕ) (by_x by_z : List (List ℕ)) (letters : List Letter) : Type 0 where
  pub x : (q : ℕ) → odd i (row by_x q) ≡ letters_anticommute X (letter_at letters q)
  pub z : (q : ℕ) → odd i (row by_z q) ≡ letters_anticommute Z (letter_at letters q)

-- each parity's string that the old rows show becomes another, which the new rows show
abbrev pub MovesLetters : ℕ → (ℕ → Signed → Signed) → (old_x old_z new_x new_z : List (List ℕ)) → Type 0
MovesLetters n before old_x old_z new_x new_z =
    (i : ℕ) (s : Signed) → length s.letters ≡ n → ShowsLetters i old_x old_z s.letters → ShowsLetters i new_x new_z (before i s).letters

-- a string times a letter on a qubit, if the parity is among these
abbrev pub multiplied : ℕ → Letter → ℕ → List ℕ → ℕ → Signed → Signed
multiplied n l q parities i s = product_where (odd i parities) (single n q l) s

-- and its lookbacks: row k of the records names it if rec[-(k + 1)] is named an odd number of times
abbrev pub ShowsLooks : ℕ → List (List ℕ) → List ℕ → Type 0
ShowsLooks i records looks = (k : ℕ) → odd i (row records k) ≡ odd (k + 1) looks

-- what rows and records show of parity i's region, up to its sign
pub record ShowsRegion (i : ℕ) (by_x by_z records : List (List ℕ)) (r : Region) : Type 0 where
  pub letters : ShowsLetters i by_x by_z r.string.letters
  pub looks : ShowsLooks i records r.looks

-- each parity's region after a step, that the old rows show, becomes the one before it, which the new rows show
abbrev pub MovesRegion : ℕ → Step → (old_x old_z old_records new_x new_z new_records : List (List ℕ)) → Type 0
MovesRegion n x old_x old_z old_records new_x new_z new_records =
    (i : ℕ) (r : Region) → length r.string.letters ≡ n → ShowsRegion i old_x old_z old_records r → ShowsRegion i new_x new_z new_records (region_before n x r)
