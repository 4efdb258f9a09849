-- Result formats: the bytes of one shot, over the positions of its 1 bits or over groups of eight bits.
-- Source: Stim's documentation of result formats, for one shot at a time. `ptb64` is left out.
use Rattle.std.specs.Prelude.{ℕ, ◌+◌, ◌*◌, ◌-◌, ◌/◌, ◌%◌, nat_lt, if◌then◌else◌, Bool, true, false, List, [], ◌∷◌, ◌++◌, map, replicate, codes}
use Rattle.std.specs.List.{flat_map, join_with_byte}
use Rattle.std.specs.Fmt.{decimal}
use Rattle.stab_results.specs.declared.format.Format.{Format}
use Rattle.stab_results.specs.declared.format.Format.TheVariants.{F01, B8, R8, Hits, Dets}
use Rattle.stab_results.specs.declared.format.Kinds.{Kinds}
use Rattle.stab_results.specs.declared.format.Kinds.TheVariants.{Measurements, Detectors, Whole}

-- the positions of the 1 bits, ascending, if the first bit has the given position
abbrev pub one_positions_from : ℕ → List Bool → List ℕ
one_positions_from position [] = []
one_positions_from position (false ∷ bits) = one_positions_from (position + 1) bits
one_positions_from position (true ∷ bits) = position ∷ one_positions_from (position + 1) bits

-- the positions of the 1 bits, counted from 0
abbrev pub one_positions : List Bool → List ℕ
one_positions bits = one_positions_from 0 bits

-- the character of a bit
abbrev pub digit : Bool → List ℕ
digit false = codes "0"
digit true = codes "1"

-- 01: one character for each bit, then a line end
abbrev pub f01_bytes : List Bool → List ℕ
f01_bytes bits = flat_map digit bits ++ codes "\n"

-- the number with these binary digits, the least significant first
abbrev pub number : List Bool → ℕ
number [] = 0
number (false ∷ bits) = 2 * number bits
number (true ∷ bits) = 2 * number bits + 1

-- b8: one byte for each eight bits, and one for the rest, if there are any
abbrev pub b8_bytes : List Bool → List ℕ
b8_bytes [] = []
b8_bytes (a ∷ b ∷ c ∷ d ∷ e ∷ f ∷ g ∷ h ∷ bits) = number (a ∷ b ∷ c ∷ d ∷ e ∷ f ∷ g ∷ h ∷ []) ∷ b8_bytes bits
b8_bytes bits = number bits ∷ []

-- how many zeros are before each 1 bit, from a position on, if these are the positions of the 1 bits
abbrev pub gaps_from : ℕ → List ℕ → List ℕ
gaps_from position [] = []
gaps_from position (one ∷ more) = (one - position) ∷ gaps_from (one + 1) more

-- zeros and the 1 after them: FF for each full 255 zeros, then the number of the rest
abbrev pub run_bytes : ℕ → List ℕ
run_bytes zeros = replicate (zeros / 255) 0xff ++ (zeros % 255) ∷ []

-- r8: one 1 is appended, and each 1 has the bytes of its run
abbrev pub r8_bytes : List Bool → List ℕ
r8_bytes bits = flat_map run_bytes (gaps_from 0 (one_positions (bits ++ true ∷ [])))

-- the byte of a comma
abbrev pub comma : ℕ
comma = 44

-- hits: the positions of the 1 bits in decimal, joined by commas, then a line end
abbrev pub hits_bytes : List Bool → List ℕ
hits_bytes bits = join_with_byte comma (map decimal (one_positions bits)) ++ codes "\n"

-- the entry of a 1 bit among this many detectors and then observables
abbrev pub detected_entry : (count position : ℕ) → List ℕ
detected_entry count position = if nat_lt position count then codes " D" ++ decimal position else codes " L" ++ decimal (position - count)

-- the entry of a 1 bit: a space, the prefix of its kind, and its number within its kind
abbrev pub entry : Kinds → ℕ → List ℕ
entry Measurements position = codes " M" ++ decimal position
entry (Detectors count) position = detected_entry count position
entry (Whole records detectors) position = if nat_lt position records then codes " M" ++ decimal position else detected_entry detectors (position - records)

-- dets: `shot`, then the entry of each 1 bit, then a line end
abbrev pub dets_bytes : Kinds → List Bool → List ℕ
dets_bytes kinds bits = codes "shot" ++ flat_map (entry kinds) (one_positions bits) ++ codes "\n"

-- the bytes of a shot
abbrev pub shot_bytes : Format → Kinds → List Bool → List ℕ
shot_bytes F01 kinds bits = f01_bytes bits
shot_bytes B8 kinds bits = b8_bytes bits
shot_bytes R8 kinds bits = r8_bytes bits
shot_bytes Hits kinds bits = hits_bytes bits
shot_bytes Dets kinds bits = dets_bytes kinds bits

-- how many of a shot's bits are detectors
abbrev pub detector_bits_of : Kinds → ℕ
detector_bits_of Measurements = 0
detector_bits_of (Detectors count) = count
detector_bits_of (Whole records detectors) = detectors
