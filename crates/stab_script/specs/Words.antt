-- Words: where a string is put in, and the string, that a command line or a script asks about.
-- Source: this project's own; a product is written as the targets of Stim's MPP are.
use Rattle.std.specs.Prelude.{◌≡◌, ◌⊎◌, ℕ, Bool, nat_le, ◌&&◌, ◌==◌, List, length, drop, Option, Some, None, Result, Ok, Err, if◌then◌else◌}
use Rattle.stab_io.specs.declared.refusal.Refusal.{Refusal}
use Rattle.stab_io.specs.declared.refusal.Refusal.TheVariants.{BadArguments, PlaceOutOfRange, OutOfMemory}
use Rattle.stab_gates.specs.declared.letter.Letter.{Letter}
use Rattle.stab_pauli.specs.Paulis.{Signed}
use Rattle.stab_instructions.specs.Results.{◌>>=◌}
use Rattle.stab_instructions.specs.Lines.{starts_with_byte}
use Rattle.stab_items.specs.Items.{Items, entries}
use Rattle.stab_items.specs.Steps.{unroll}
use Rattle.stab_items.specs.Paths.{Path}
use Rattle.stab_items.specs.ItemsAt.{item_at}
use Rattle.stab_script.specs.CountedRequests.{round_number_of}
use Rattle.stab_script.specs.ItemCounts.{steps_up_to}
use Rattle.stab_script.specs.ScriptWords.{path_of_word}
use Rattle.stab_script.specs.Signs.{string_of_word}

-- this many steps, if a word writes a number and the circuit has as many
abbrev pub steps_written : (steps : ℕ) → Option ℕ → Result ℕ Refusal
steps_written steps None = Err BadArguments
steps_written steps (Some asked) = if nat_le asked steps then Ok asked else Err PlaceOutOfRange

-- the path of the end of a circuit
abbrev pub is_end : Path → Items → Bool
is_end path items = length path.blocks == 0 && path.position == length (entries items)

-- the steps before the item at a path, in the first round of each block around it, or all at the end of the circuit
abbrev pub steps_in_front : Items → Option Path → Result ℕ Refusal
steps_in_front items None = Err BadArguments
steps_in_front items (Some path) = if is_end path items then Ok (length (unroll items)) else (item_at path (entries items) >>= λ item. Ok (length (steps_up_to path items)))

-- how many steps are before where a string is put in: as many as the word writes after @, as in @1207, or those before the item that it goes to, as 3/0/2
abbrev pub steps_of_word : Items → (word : List ℕ) → Result ℕ Refusal
steps_of_word items word = if starts_with_byte word 64 then steps_written (length (unroll items)) (round_number_of (drop 1 word)) else steps_in_front items (path_of_word word)

-- a string, and how many steps are before where it is put in
pub record PutIn : Type 0 where
  pub steps : ℕ
  pub string : List Letter

-- what the words for where and for a string on n qubits ask about; the sign of the string is irrelevant
abbrev pub put_in_of : ℕ → Items → (at word : List ℕ) → Result PutIn Refusal
put_in_of n items at word = steps_of_word items at >>= λ steps. string_of_word n word >>= λ p. Ok (record { steps = steps; string = p.letters })

-- the call gave what the definition gives, or was refused as it is, or for lack of memory
abbrev pub GivesPutIn : Result (ℕ × Signed) Refusal → Result PutIn Refusal → Type 0
GivesPutIn (Ok r) given = given ≡ Ok (record { steps = r.0; string = r.1.letters })
GivesPutIn (Err r) given = (r ≡ OutOfMemory) ⊎ (given ≡ Err r)
