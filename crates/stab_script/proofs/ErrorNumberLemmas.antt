-- Error numbers: the numbers of what an error flips and leaves are the positions of its bits, and those of its letters' parts.
use Rattle.stab_script.proofs.Names.{◌≡◌, refl, sym, ap, ◌∙◌, ℕ, ◌<◌, Bool, List, [], ◌∷◌, ◌++◌, length, take, drop, one_positions, Items, unroll}
use Rattle.std.proofs.Common.{suc, ◌+◌, ◌-◌, ◌*◌, ◌≤◌, true, false, arith, append_assoc, append-nil, nat_lt, lt-ltb, le-ltb}
use Rattle.std.proofs.Math.Seq.{take-append_seam, drop-append_seam}
use Rattle.std.proofs.lemmas.Bool.{eq-eqb, ne_eqb}
use Rattle.std.proofs.lemmas.List.{length-append}
use Rattle.std.proofs.lemmas.List.Elements.{filter-append}
use Rattle.std.specs.List.{filter}
use Rattle.std.specs.Prelude.{◌/◌, ◌%◌, ◌==◌, slice_index_or, replicate, if◌then◌else◌}
use Rattle.stab_gates.specs.declared.letter.Letter.{Letter}
use Rattle.stab_gates.specs.declared.letter.Letter.TheVariants as letter
use Rattle.stab_items.specs.Steps.{qubits_of, observables_of}
use Rattle.stab_results.specs.Formats.{one_positions_from}
use Rattle.stab_run.specs.Points.{RunOutput, with_additions}
use Rattle.stab_regions.specs.Effects.{part_bits, bits_of_single_error, numbers_of_ones, effect_of_single_error}
use Rattle.stab_regions.specs.SingleErrors.{SingleError, numbers_where}
use Rattle.stab_ways.specs.PutIn.{string_after, string_flips}
use Rattle.stab_ways.specs.Ways.{placed}
use Rattle.stab_script.specs.EachTexts.{string_of_error}
use Rattle.stab_script.specs.WayTexts.{bits_flipped}
use Rattle.stab_script.specs.inner.ErrorNumbers.{part_letter, both_letter, letters_numbered}

-- positions of bits

one-more : (f : ℕ → Bool) (k : ℕ) (b : Bool) (bits : List Bool) → f k ≡ b → numbers_where f (k + 1) (length bits) ≡ one_positions_from (k + 1) bits
    → numbers_where f k (suc (length bits)) ≡ one_positions_from k (b ∷ bits)
one-more f k true bits e rest =
    ap (λ t. if t then k ∷ numbers_where f (k + 1) (length bits) else numbers_where f (k + 1) (length bits)) e ∙ ap (λ r. k ∷ r) rest
one-more f k false bits e rest =
    ap (λ t. if t then k ∷ numbers_where f (k + 1) (length bits) else numbers_where f (k + 1) (length bits)) e ∙ rest

ones-from : (f : ℕ → Bool) (k : ℕ) (bits : List Bool) → ((j : ℕ) → j < length bits → f (k + j) ≡ slice_index_or bits j false) → numbers_where f k (length bits) ≡ one_positions_from k bits
ones-from f k [] same = refl
ones-from f k (b ∷ bits) same =
    one-more f k b bits (ap f {x = k} {y = k + 0} (omega arith) ∙ same 0 (omega arith))
    (ones-from f (k + 1) bits (λ j lt. ap f {x = (k + 1) + j} {y = k + suc j} (omega arith) ∙ same (suc j) (omega (arith, lt))))

pub ones-are-positions : (bits : List Bool) → numbers_of_ones bits ≡ one_positions bits
ones-are-positions bits = ones-from (λ i. slice_index_or bits i false) 0 bits (λ j lt. ap (λ i. slice_index_or bits i false) {x = 0 + j} {y = j} (omega arith))

positions-append : (k : ℕ) (xs ys : List Bool) → one_positions_from k (xs ++ ys) ≡ one_positions_from k xs ++ one_positions_from (k + length xs) ys
positions-append k [] ys = ap (λ m. one_positions_from m ys) (omega arith)
positions-append k (true ∷ xs) ys = ap (λ r. k ∷ r) (positions-append (k + 1) xs ys ∙ ap (λ m. one_positions_from (k + 1) xs ++ one_positions_from m ys) (omega arith))
positions-append k (false ∷ xs) ys = positions-append (k + 1) xs ys ∙ ap (λ m. one_positions_from (k + 1) xs ++ one_positions_from m ys) (omega arith)

-- numbers below a position, and those from it on

abbrev below : ℕ → ℕ → Bool
below first p = nat_lt p first

below-retained : (first k : ℕ) (xs : List Bool) → k + length xs ≤ first → filter (below first) (one_positions_from k xs) ≡ one_positions_from k xs
below-retained first k [] le = refl
below-retained first k (true ∷ xs) le =
    ap (λ b. if b then k ∷ filter (below first) (one_positions_from (k + 1) xs) else filter (below first) (one_positions_from (k + 1) xs)) (lt-ltb k first (omega (arith, le)))
    ∙ ap (λ r. k ∷ r) (below-retained first (k + 1) xs (omega (arith, le)))
below-retained first k (false ∷ xs) le = below-retained first (k + 1) xs (omega (arith, le))

above-left : (first k : ℕ) (xs : List Bool) → first ≤ k → filter (below first) (one_positions_from k xs) ≡ []
above-left first k [] le = refl
above-left first k (true ∷ xs) le =
    ap (λ b. if b then k ∷ filter (below first) (one_positions_from (k + 1) xs) else filter (below first) (one_positions_from (k + 1) xs)) (le-ltb k first le)
    ∙ above-left first (k + 1) xs (omega (arith, le))
above-left first k (false ∷ xs) le = above-left first (k + 1) xs (omega (arith, le))

-- letters

abbrev AtLeast : ℕ → List ℕ → Type 0
AtLeast k [] = Unit {0}
AtLeast k (p ∷ ps) = k ≤ p

positions-above : (k m : ℕ) (xs : List Bool) → k ≤ m → AtLeast k (one_positions_from m xs)
positions-above k m [] le = tt
positions-above k m (true ∷ xs) le = le
positions-above k m (false ∷ xs) le = positions-above k (m + 1) xs (omega (arith, le))

z-part : (first a : ℕ) (rest : List ℕ) → ((a - first) % 2 == 1) ≡ true → letters_numbered first (a ∷ rest) ≡ part_letter (a - first) ∷ letters_numbered first rest
z-part first a [] odd = refl
z-part first a (b ∷ rest) odd =
    ap (λ t. if t then part_letter (a - first) ∷ letters_numbered first (b ∷ rest)
    else if b == a + 1 then both_letter (a - first) ∷ letters_numbered first rest
    else part_letter (a - first) ∷ letters_numbered first (b ∷ rest)) odd

x-part : (first a : ℕ) (rest : List ℕ) → ((a - first) % 2 == 1) ≡ false → AtLeast (a + 2) rest → letters_numbered first (a ∷ rest) ≡ part_letter (a - first) ∷ letters_numbered first rest
x-part first a [] even above = refl
x-part first a (b ∷ rest) even above =
    (λ i. if even i then part_letter (a - first) ∷ letters_numbered first (b ∷ rest)
    else if ne_eqb b (a + 1) (λ e. omega (arith, e, above)) i then both_letter (a - first) ∷ letters_numbered first rest
    else part_letter (a - first) ∷ letters_numbered first (b ∷ rest))

both-parts : (first a : ℕ) (rest : List ℕ) → ((a - first) % 2 == 1) ≡ false → letters_numbered first (a ∷ (a + 1) ∷ rest) ≡ both_letter (a - first) ∷ letters_numbered first rest
both-parts first a rest even =
    (λ i. if even i then part_letter (a - first) ∷ letters_numbered first ((a + 1) ∷ rest)
    else if eq-eqb (a + 1) (a + 1) refl i then both_letter (a - first) ∷ letters_numbered first rest
    else part_letter (a - first) ∷ letters_numbered first ((a + 1) ∷ rest))

even-number : (first q : ℕ) → (((first + 2 * q) - first) % 2 == 1) ≡ false
even-number first q = ne_eqb (((first + 2 * q) - first) % 2) 1 (λ e. omega (arith, e))

odd-number : (first q : ℕ) → ((((first + 2 * q) + 1) - first) % 2 == 1) ≡ true
odd-number first q = eq-eqb ((((first + 2 * q) + 1) - first) % 2) 1 (omega arith)

half-even : (first q : ℕ) → ((first + 2 * q) - first) / 2 ≡ q
half-even first q = omega arith

half-odd : (first q : ℕ) → (((first + 2 * q) + 1) - first) / 2 ≡ q
half-odd first q = omega arith

-- after both parts of a letter come those of the next
next-letters : (first q : ℕ) (letters : List Letter) → letters_numbered first (one_positions_from (first + 2 * (q + 1)) (part_bits letters)) ≡ placed (q + 1) letters
    → letters_numbered first (one_positions_from (((first + 2 * q) + 1) + 1) (part_bits letters)) ≡ placed (q + 1) letters
next-letters first q letters e =
    ap (λ m. letters_numbered first (one_positions_from m (part_bits letters))) {x = ((first + 2 * q) + 1) + 1} {y = first + 2 * (q + 1)} (omega arith) ∙ e

one-letter : (first q : ℕ) (l : Letter) (letters : List Letter)
    → letters_numbered first (one_positions_from (((first + 2 * q) + 1) + 1) (part_bits letters)) ≡ placed (q + 1) letters
    → letters_numbered first (one_positions_from (first + 2 * q) (part_bits (l ∷ letters))) ≡ placed q (l ∷ letters)
one-letter first q letter.I letters next = next
one-letter first q letter.X letters next =
    x-part first (first + 2 * q) _ (even-number first q) (positions-above ((first + 2 * q) + 2) (((first + 2 * q) + 1) + 1) (part_bits letters) (omega arith))
    ∙ (λ i. (record { letter = if even-number first q i then letter.Z else letter.X; qubit = half-even first q i }) ∷ next i)
one-letter first q letter.Y letters next =
    both-parts first (first + 2 * q) _ (even-number first q) ∙ (λ i. (record { letter = letter.Y; qubit = half-even first q i }) ∷ next i)
one-letter first q letter.Z letters next =
    z-part first ((first + 2 * q) + 1) _ (odd-number first q)
    ∙ (λ i. (record { letter = if odd-number first q i then letter.Z else letter.X; qubit = half-odd first q i }) ∷ next i)

pub letters-are : (first q : ℕ) (letters : List Letter) → letters_numbered first (one_positions_from (first + 2 * q) (part_bits letters)) ≡ placed q letters
letters-are first q [] = refl
letters-are first q (l ∷ letters) = one-letter first q l letters (next-letters first q letters (letters-are first (q + 1) letters))

-- the row of an error: the positions of the bits that it flips, and then the numbers of the parts of its string at the end

module _ (items : Items) (f : SingleError) where
  abbrev flipped : List Bool
  flipped = bits_flipped items (string_flips (qubits_of items) f.before (string_of_error items f) (unroll items))

  abbrev left : List Letter
  left = string_after (qubits_of items) f.before (string_of_error items f) (unroll items) (length (unroll items))

  abbrev parts : List ℕ
  parts = one_positions_from (length flipped) (part_bits left)

  row-split : effect_of_single_error (qubits_of items) items f ≡ one_positions flipped ++ parts
  row-split =
      ones-are-positions (bits_of_single_error (qubits_of items) items f)
      ∙ ap one_positions joins
      ∙ positions-append 0 flipped (part_bits left)
      ∙ ap (λ k. one_positions flipped ++ one_positions_from k (part_bits left)) {x = 0 + length flipped} {y = length flipped} (omega arith)
    where
      flips : RunOutput
      flips = string_flips (qubits_of items) f.before (string_of_error items f) (unroll items)

      observables : List Bool
      observables = with_additions flips.additions (replicate (observables_of items) false)

      joins : bits_of_single_error (qubits_of items) items f ≡ flipped ++ part_bits left
      joins =
          sym (append_assoc flips.records (flips.detectors ++ observables) (part_bits left)
          ∙ ap (λ bits. flips.records ++ bits) (append_assoc flips.detectors observables (part_bits left)))

  module _ (row : List ℕ) (first : ℕ) (is : row ≡ effect_of_single_error (qubits_of items) items f) (few : first ≡ length flipped) where
    here : row ≡ one_positions flipped ++ parts
    here = is ∙ row-split

    -- those below the first of the parts come first
    pub count-flipped : length (filter (below first) row) ≡ length (one_positions flipped)
    count-flipped =
        ap (λ ns. length (filter (below first) ns)) here
        ∙ ap length (filter-append (below first) (one_positions flipped) parts)
        ∙ ap length (λ i. below-retained first 0 flipped (omega (arith, few)) i ++ above-left first (length flipped) (part_bits left) (omega (arith, few)) i)
        ∙ ap length (append-nil (one_positions flipped))

    pub count-within : length (filter (below first) row) ≤ length row
    count-within = omega (arith, count-flipped, ap length here, length-append (one_positions flipped) parts)

    pub flipped-is : take (length (filter (below first) row)) row ≡ one_positions flipped
    flipped-is = (λ i. take (count-flipped i) (here i)) ∙ take-append_seam (one_positions flipped) parts

    pub left-is : letters_numbered first (drop (length (filter (below first) row)) row) ≡ placed 0 left
    left-is =
        ap (letters_numbered first) ((λ i. drop (count-flipped i) (here i)) ∙ drop-append_seam (one_positions flipped) parts)
        ∙ ap (λ k. letters_numbered first (one_positions_from k (part_bits left))) (sym few ∙ plus-none first)
        ∙ letters-are first 0 left
      where
        plus-none : (k : ℕ) → k ≡ k + 2 * 0
        plus-none k = omega arith
