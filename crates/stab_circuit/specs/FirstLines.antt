-- First lines: what the first line of a text means, found before the line is cut.
-- Source: this project's own.
use Rattle.std.specs.Prelude.{◌≡◌, ℕ, List, [], ◌∷◌, Option, None, Some, Result, Ok, Err}
use Rattle.std.specs.Borrow.{Bor}
use Rattle.std.specs.Option.{option_copied}
use Rattle.std.specs.List.{slice_split}
use Rattle.stab_io.specs.declared.refusal.Refusal.{Refusal}
use Rattle.stab_io.specs.declared.refusal.Refusal.TheVariants.{OutOfMemory}
use Rattle.stab_instructions.specs.declared.operation.Kind.{Kind}
use Rattle.stab_instructions.specs.declared.operation.Line.TheVariants as line
use Rattle.stab_instructions.specs.Lines.{is_byte, content_of}
use Rattle.stab_instructions.specs.Words.{pieces_after}
use Rattle.stab_instructions.specs.Meanings.{meaning_of}

-- the first line means an instruction without a tag that does this, and these lines follow it
abbrev pub BeginsWithInstruction : List ℕ → Kind → Option (List ℕ) → Type 0
BeginsWithInstruction text k after =
    (first : List ℕ) × (slice_split (is_byte 10) text ≡ first ∷ pieces_after 10 after)
    × (meaning_of (content_of first) ≡ Ok (line.Operation (record { kind = k; tag = [] })))

-- the call gave the instruction that the first line means and the lines after it, or said nothing, or failed for lack of memory
abbrev pub ReadsInstruction : List ℕ → Result (Option (Kind × Option (Bor (List ℕ)))) Refusal → Type 0
ReadsInstruction text (Ok None) = Unit {0}
ReadsInstruction text (Ok (Some found)) = BeginsWithInstruction text found.0 (option_copied found.1)
ReadsInstruction text (Err r) = r ≡ OutOfMemory
