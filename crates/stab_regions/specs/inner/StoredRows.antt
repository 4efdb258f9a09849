-- Stored rows: lists of numbers, one after another in one list, by the positions where they end.
use Rattle.std.specs.Prelude.{◌≡◌, ℕ, ◌+◌, ◌-◌, ◌≤◌, Bool, false, List, [], ◌∷◌, length, take, drop, slice_index_or}
use Rattle.std.specs.List.{filter}

-- the rows of the numbers from a position on, by where each ends
abbrev pub rows_cut : (begin : ℕ) → (ends : List ℕ) → (rest : List ℕ) → List (List ℕ)
rows_cut begin [] rest = []
rows_cut begin (e ∷ ends) rest = take (e - begin) rest ∷ rows_cut e ends (drop (e - begin) rest)

-- from a position on the ends never fall, and the last one is that of all numbers
abbrev pub Rises : (begin : ℕ) → (ends : List ℕ) → (total : ℕ) → Type 0
Rises begin [] total = begin ≡ total
Rises begin (e ∷ ends) total = (begin ≤ e) × Rises e ends total

-- a number whose bit is set, and those of a list
abbrev pub is_stored : List Bool → ℕ → Bool
is_stored retained number = slice_index_or retained number false

abbrev pub retained_of : List Bool → List ℕ → List ℕ
retained_of retained = filter (is_stored retained)

-- where rows end once only such numbers are left, with this many left of those before the position
abbrev pub ends_retained : List Bool → (count begin : ℕ) → (ends : List ℕ) → (rest : List ℕ) → List ℕ
ends_retained retained count begin [] rest = []
ends_retained retained count begin (e ∷ ends) rest =
    (count + length (retained_of retained (take (e - begin) rest))) ∷ ends_retained retained (count + length (retained_of retained (take (e - begin) rest))) e ends (drop (e - begin) rest)
