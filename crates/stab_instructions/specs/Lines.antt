-- Lines: what is left of a line, and the shape of it: a name, perhaps a tag, arguments, targets and a last brace.
-- Source: Stim's circuit file format (.stim), except that a tag can't hold `#` here.
use Rattle.std.specs.Prelude.{ℕ, ◌-◌, Bool, false, ◌&&◌, ◌||◌, not, nat_le, nat_lt, ◌==◌, List, [], ◌∷◌, length, drop, take, reverse, if◌then◌else◌, Result, Ok, Err}
use Rattle.std.specs.List.{position_or_len, prefix_len, suffix_len, take_while, before_first, after_first, list_any}
use Rattle.stab_instructions.specs.Results.{◌>>=◌}
use Rattle.stab_io.specs.declared.refusal.Refusal.{Refusal}
use Rattle.stab_io.specs.declared.refusal.Refusal.TheVariants.{BadLine}

-- space, tab and carriage return
abbrev pub is_spacing : ℕ → Bool
is_spacing b = (b == 32) || (b == 9) || (b == 13)

abbrev pub is_byte : ℕ → ℕ → Bool
is_byte byte b = b == byte

abbrev pub is_between : ℕ → ℕ → ℕ → Bool
is_between low high b = nat_le low b && nat_le b high

abbrev pub is_digit : ℕ → Bool
is_digit b = is_between 48 57 b

abbrev pub is_letter : ℕ → Bool
is_letter b = is_between 65 90 b || is_between 97 122 b

abbrev pub is_name_byte : ℕ → Bool
is_name_byte b = is_letter b || is_digit b || (b == 95)

abbrev pub is_brace : ℕ → Bool
is_brace b = (b == 123) || (b == 125)

-- without the spacing in front
abbrev pub trimmed_front : List ℕ → List ℕ
trimmed_front bs = drop (prefix_len is_spacing bs) bs

-- without the spacing at the end
abbrev pub trimmed_end : List ℕ → List ℕ
trimmed_end bs = take (length bs - suffix_len is_spacing bs) bs

abbrev pub trimmed : List ℕ → List ℕ
trimmed bs = trimmed_end (trimmed_front bs)

-- what is left of a line without its comment and the spacing at both ends
unfoldable pub content_of : List ℕ → List ℕ
content_of line = trimmed (before_first (is_byte 35) line)

-- whether this byte comes first
abbrev pub starts_with_byte : List ℕ → ℕ → Bool
starts_with_byte [] byte = false
starts_with_byte (b ∷ bs) byte = b == byte

-- whether this byte comes last
abbrev pub ends_with_byte : List ℕ → ℕ → Bool
ends_with_byte bs byte = starts_with_byte (reverse bs) byte

-- whether this byte occurs anywhere
abbrev pub has_byte : ℕ → List ℕ → Bool
has_byte byte bs = nat_lt (position_or_len (is_byte byte) bs) (length bs)

-- what the brackets directly in front hold, and what follows them; without brackets nothing, and all
unfoldable pub bracketed : ℕ → ℕ → List ℕ → Result (List ℕ × List ℕ) Refusal
bracketed opening closing bs =
    if starts_with_byte bs opening then (if has_byte closing (drop 1 bs) then Ok (before_first (is_byte closing) (drop 1 bs), after_first (is_byte closing) (drop 1 bs)) else Err BadLine)
    else Ok ([], bs)

-- a name, its arguments and targets as they are, and whether a block opens
pub record Shape : Type 0 where
  pub name : List ℕ
  pub tag : List ℕ
  pub arguments : List ℕ
  pub targets : List ℕ
  pub opens : Bool

-- whether targets may follow the name, tag or arguments directly like this
unfoldable pub may_follow : List ℕ → Bool
may_follow bs = (length bs == 0) || list_any is_spacing (take 1 bs) || ((length bs == 1) && ends_with_byte bs 123)

-- the targets, without the brace at the end
abbrev pub without_brace : List ℕ → List ℕ
without_brace bs = if ends_with_byte bs 123 then take (length bs - 1) bs else bs

-- the shape, if the rest is as it must be
abbrev pub shaped : List ℕ → List ℕ → List ℕ × List ℕ → Result Shape Refusal
shaped content tag arguments =
    if list_any is_letter (take 1 content) && may_follow arguments.1 && not (list_any is_brace arguments.0) && not (list_any is_brace (without_brace arguments.1))
    then Ok (record { name = take_while is_name_byte content; tag = tag; arguments = arguments.0; targets = without_brace arguments.1; opens = ends_with_byte arguments.1 123 })
    else Err BadLine

abbrev pub after_tag : List ℕ → List ℕ × List ℕ → Result Shape Refusal
after_tag content tag = bracketed 40 41 tag.1 >>= shaped content tag.0

-- the shape of a content, or that it has none
unfoldable pub shape_of : List ℕ → Result Shape Refusal
shape_of content = bracketed 91 93 (drop (prefix_len is_name_byte content) content) >>= after_tag content
