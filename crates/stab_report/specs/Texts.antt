-- Texts: what is written of several texts, and of what a line is about.
-- Source: this project's own.
use Rattle.std.specs.Prelude.{ℕ, zero, suc, ◌+◌, List, [], ◌∷◌, ◌++◌, codes, decimal}
use Rattle.stab_items.specs.Paths.{Path, path_text}

-- texts one after another
abbrev pub texts_joined : List (List ℕ) → List ℕ
texts_joined [] = []
texts_joined (t ∷ ts) = t ++ texts_joined ts

-- the texts of this many numbers, one after another from the first on
abbrev pub texts_from : (text_of : ℕ → List ℕ) → (first count : ℕ) → List ℕ
texts_from text_of first zero = []
texts_from text_of first (suc n) = texts_from text_of first n ++ text_of (first + n)

-- a coin, with the path of the item that takes it, as `c40@66/3`
abbrev pub placed_coin : (coin : ℕ) → Path → List ℕ
placed_coin coin path = codes "c" ++ (decimal coin ++ (codes "@" ++ path_text path))

-- the front of a row's line: how many steps are in front, the path of the item, and a symbol and a number
abbrev pub row_head : (before : ℕ) → Path → (symbol : List ℕ) → (number : ℕ) → List ℕ
row_head before path symbol number = decimal before ++ (codes " " ++ (path_text path ++ (codes " " ++ (symbol ++ decimal number))))
