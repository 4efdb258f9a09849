-- Script words: the words and paths of a script's lines, and texts that are gathered up to a limit.
-- Source: this project's own.
use Rattle.std.specs.Prelude.{ℕ, ◌+◌, ◌-◌, Bool, false, ◌&&◌, ◌==◌, nat_le, List, [], ◌++◌, length, take, drop, slice_index_or, map, Option, Some, None, if◌then◌else◌}
use Rattle.std.specs.List.{before_first, position_or_len, slice_split, list_all}
use Rattle.stab_instructions.specs.Lines.{is_byte, is_spacing, trimmed_front}
use Rattle.stab_instructions.specs.Words.{is_number, value}
use Rattle.stab_items.specs.Paths.{Path}

-- the first word of a text that does not begin with spacing
abbrev pub first_word : List ℕ → List ℕ
first_word text = before_first is_spacing text

-- what follows the first word, without the spacing in front
abbrev pub after_word : List ℕ → List ℕ
after_word text = trimmed_front (drop (position_or_len is_spacing text) text)

-- whether the word is a number of a path: 1 to 18 digits
abbrev pub is_path_number : List ℕ → Bool
is_path_number word = is_number word && nat_le (length word) 18

-- the most numbers of a path
abbrev pub most_numbers : ℕ
most_numbers = 17

-- the numbers of a path whose first numbers are these, if the words are numbers and none is too many
abbrev pub numbers_after : List ℕ → List (List ℕ) → Option (List ℕ)
numbers_after numbers words = if list_all is_path_number words && nat_le (length numbers + length words) most_numbers then Some (numbers ++ map value words) else None

-- the path of numbers, of which the last is the position in the innermost list, if there are any
abbrev pub path_if_any : Option (List ℕ) → Option Path
path_if_any None = None
path_if_any (Some numbers) = Some (record { blocks = take (length numbers - 1) numbers; position = slice_index_or numbers (length numbers - 1) 0 })

-- a path: 1 to 17 numbers joined by /, the last in the body of the block that those before it come to
unfoldable pub path_of_word : List ℕ → Option Path
path_of_word word = path_if_any (numbers_after [] (slice_split (is_byte 47) word))

-- a text that is gathered: its bytes, or None if it went over its limit
abbrev pub Gathered : Type 0
Gathered = Option (List ℕ)

-- the text with these bytes after it, if there is room for them
abbrev pub more : (limit : ℕ) → Gathered → List ℕ → Gathered
more limit None bytes = None
more limit (Some text) bytes = if nat_le (length bytes) (limit - length text) then Some (text ++ bytes) else None

-- whether nothing was gathered
abbrev pub is_nothing : Gathered → Bool
is_nothing None = false
is_nothing (Some text) = length text == 0
