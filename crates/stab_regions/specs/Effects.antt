-- Effects: what a letter that is put in between two steps flips, and what is left of it at the end, by numbers.
-- Source: this project's own.
use Rattle.std.specs.Prelude.{ℕ, Bool, false, List, [], ◌∷◌, ◌++◌, length, replicate, slice_index_or}
use Rattle.stab_gates.specs.declared.letter.Letter.{Letter}
use Rattle.stab_gates.specs.declared.letter.Letter.TheVariants as letter
use Rattle.stab_gates.specs.Letters.{letters_anticommute}
use Rattle.stab_pauli.specs.Paulis.{single}
use Rattle.stab_items.specs.Items.{Items}
use Rattle.stab_items.specs.Steps.{unroll, observables_of}
use Rattle.stab_run.specs.Points.{RunOutput, with_additions}
use Rattle.stab_ways.specs.PutIn.{string_after, string_flips}
use Rattle.stab_regions.specs.SingleErrors.{SingleError, numbers_where}

-- of each letter, whether it has an X part, and whether it has a Z part
abbrev pub part_bits : List Letter → List Bool
part_bits [] = []
part_bits (l ∷ letters) = letters_anticommute l letter.Z ∷ letters_anticommute l letter.X ∷ part_bits letters

-- a bit for each record, then each detector and each observable, and then for the parts of each letter at the end
abbrev pub effect_bits : (observables : ℕ) → RunOutput → (left : List Letter) → List Bool
effect_bits count flips left = flips.records ++ (flips.detectors ++ (with_additions flips.additions (replicate count false) ++ part_bits left))

-- the same of a single error
abbrev pub bits_of_single_error : (n : ℕ) → Items → SingleError → List Bool
bits_of_single_error n items f =
    effect_bits (observables_of items) (string_flips n f.before (single n f.qubit f.letter).letters (unroll items))
    (string_after n f.before (single n f.qubit f.letter).letters (unroll items) (length (unroll items)))

-- the numbers of the bits that are 1
abbrev pub numbers_of_ones : List Bool → List ℕ
numbers_of_ones bits = numbers_where (λ i. slice_index_or bits i false) 0 (length bits)

-- what a single error flips and leaves
abbrev pub effect_of_single_error : (n : ℕ) → Items → SingleError → List ℕ
effect_of_single_error n items f = numbers_of_ones (bits_of_single_error n items f)
