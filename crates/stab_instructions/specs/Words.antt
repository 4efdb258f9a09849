-- Words: targets between spacing, arguments between commas, and decimal numbers.
-- Source: Stim's circuit file format.
use Rattle.std.specs.Prelude.{ℕ, ◌+◌, ◌*◌, ◌-◌, Bool, not, ◌&&◌, ◌==◌, List, [], ◌∷◌, length, filter, map, Option, Some, None, if◌then◌else◌}
use Rattle.std.specs.List.{list_all, slice_split}
use Rattle.stab_instructions.specs.Lines.{is_byte, is_digit, is_spacing, trimmed}

-- whether there is something
abbrev pub is_some_word : List ℕ → Bool
is_some_word word = not (length word == 0)

-- the longest runs of bytes other than spacing
abbrev pub words : List ℕ → List (List ℕ)
words bs = filter is_some_word (slice_split is_spacing bs)

-- whether there is nothing but spacing
abbrev pub is_blank : List ℕ → Bool
is_blank bs = list_all is_spacing bs

-- the parts between commas, without the spacing around each; none if there is only spacing
abbrev pub arguments_of : List ℕ → List (List ℕ)
arguments_of bs = if is_blank bs then [] else map trimmed (slice_split (is_byte 44) bs)

-- whether it is a decimal number
abbrev pub is_number : List ℕ → Bool
is_number word = is_some_word word && list_all is_digit word

-- the number whose first digits stand for n
abbrev pub value_from : ℕ → List ℕ → ℕ
value_from n [] = n
value_from n (d ∷ ds) = value_from (n * 10 + (d - 48)) ds

-- the number that decimal digits stand for
abbrev pub value : List ℕ → ℕ
value ds = value_from 0 ds

-- the parts between such bytes of what follows the first one, if there is one
abbrev pub pieces_after : ℕ → Option (List ℕ) → List (List ℕ)
pieces_after byte None = []
pieces_after byte (Some after) = slice_split (is_byte byte) after
