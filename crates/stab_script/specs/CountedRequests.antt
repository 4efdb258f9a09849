-- Counted requests: what only a counted script asks for, and the words that ask for it.
-- Source: this project's own.
use Rattle.std.specs.Prelude.{ℕ, ◌==◌, List, [], ◌∷◌, length, codes, bytes_eq, Option, Some, None, if◌then◌else◌}
use Rattle.stab_instructions.specs.Words.{value}
use Rattle.stab_items.specs.Paths.{Path}
use Rattle.stab_report.specs.declared.random.Bit.{Bit}
use Rattle.stab_report.specs.declared.random.Bit.TheVariants.{Detector, Observable}
use Rattle.stab_script.specs.ScriptWords.{first_word, after_word, is_path_number, path_of_word}

-- that changes are counted from now on; that a round, counted from 0, is split off the block at a place; or that this is shown: the numbers of
-- the circuit, what changed of detectors and observables, what changed of records, the sign of a Pauli string, the item at a path,
-- where it is in the unrolled circuit, the table of coins, the coins that decide a detector or an observable, the way of the string of a word
-- that is put in where another says
pub data CountedRequest : Type 0 where
  bookmark : CountedRequest
  split : (place : Path) → (round : ℕ) → CountedRequest
  numbers : CountedRequest
  changed : CountedRequest
  changed_records : CountedRequest
  sign : (text : List ℕ) → CountedRequest
  item : (path : Path) → CountedRequest
  counts : (path : Path) → CountedRequest
  coin_table : CountedRequest
  why : Bit → CountedRequest
  way : (at word : List ℕ) → CountedRequest

-- the request, if nothing is after its word
abbrev pub request_alone : (rest : List ℕ) → CountedRequest → Option CountedRequest
request_alone rest request = if length rest == 0 then Some request else None

-- the number of a round, if the word is a number as those of a path are
abbrev pub round_number_of : (word : List ℕ) → Option ℕ
round_number_of word = if is_path_number word then Some (value word) else None

-- the request for what a word stands for, if it stands for something and nothing is after it
abbrev pub alone_with : {A : Type 0} → (A → CountedRequest) → Option A → (rest : List ℕ) → Option CountedRequest
alone_with request None rest = None
alone_with request (Some x) rest = request_alone rest (request x)

-- that a round is split off the block at a place, if both are given
abbrev pub split_of : Option Path → Option ℕ → (rest : List ℕ) → Option CountedRequest
split_of None round rest = None
split_of (Some place) round rest = alone_with (split place) round rest

-- what the words after `split` ask for: a place and a round
abbrev pub counted_split : (words : List ℕ) → Option CountedRequest
counted_split words = split_of (path_of_word (first_word words)) (round_number_of (first_word (after_word words))) (after_word (after_word words))

-- what the word after `show changed` asks for
abbrev pub changed_of : (rest : List ℕ) → Option CountedRequest
changed_of rest = if bytes_eq rest (codes "records") then Some changed_records else request_alone rest changed

-- the sign of the string of a word
abbrev pub sign_of : (word rest : List ℕ) → Option CountedRequest
sign_of word rest = if length word == 0 then None else request_alone rest (sign word)

-- the way of the string of a word, put in where another says
abbrev pub way_asked : (at word rest : List ℕ) → Option CountedRequest
way_asked at word rest = if length word == 0 then None else request_alone rest (way at word)

-- the bit that a letter and a number name: D and a detector's, or L and an observable's
abbrev pub bit_by : (letter : ℕ) → Option ℕ → Option Bit
bit_by letter None = None
bit_by letter (Some number) = if letter == 68 then Some (Detector number) else if letter == 76 then Some (Observable number) else None

-- the detector or observable that a word names
abbrev pub bit_of_word : (word : List ℕ) → Option Bit
bit_of_word [] = None
bit_of_word (letter ∷ digits) = bit_by letter (round_number_of digits)

-- what the first word after `show`, and the rest after that, ask for
abbrev pub counted_show : (word rest : List ℕ) → Option CountedRequest
counted_show word rest =
    if bytes_eq word (codes "numbers") then request_alone rest numbers
    else if bytes_eq word (codes "changed") then changed_of rest
    else if bytes_eq word (codes "sign") then sign_of (first_word rest) (after_word rest)
    else if bytes_eq word (codes "item") then alone_with item (path_of_word (first_word rest)) (after_word rest)
    else if bytes_eq word (codes "place") then alone_with counts (path_of_word (first_word rest)) (after_word rest)
    else if bytes_eq word (codes "coins") then request_alone rest coin_table
    else if bytes_eq word (codes "why") then alone_with why (bit_of_word (first_word rest)) (after_word rest)
    else if bytes_eq word (codes "way") then way_asked (first_word rest) (first_word (after_word rest)) (after_word (after_word rest))
    else None
