-- Changes: which bits of a run differ from those at the bookmark.
-- Source: this project's own; the notation is that of Stim's result format `dets`.
use Rattle.std.specs.Prelude.{ℕ, ◌==◌, Bool, List, [], ◌∷◌, ◌++◌, length, drop, codes, decimal, if◌then◌else◌}
use Rattle.std.specs.List.{flat_map}
use Rattle.stab_gates.specs.Letters.{◌⊕◌}
use Rattle.stab_run.specs.Runs.{State}
use Rattle.stab_report.specs.Coins.{ShotBits}
use Rattle.stab_results.specs.declared.format.Kinds.{Kinds}
use Rattle.stab_results.specs.declared.format.Kinds.TheVariants.{Measurements, Detectors}
use Rattle.stab_results.specs.Formats.{entry, one_positions}
use Rattle.stab_script.specs.declared.changes.BookmarkedBits.{BookmarkedBits}

-- a bookmark that nothing is compared with
abbrev pub no_bookmark : ShotBits
no_bookmark = record { records = []; detectors = []; observables = [] }

-- the bookmark that the code's bits are
abbrev pub bookmark_shown : BookmarkedBits → ShotBits
bookmark_shown m = record { records = m.records.items; detectors = m.detectors.items; observables = m.observables.items }

-- for each position that both lists have, whether their bits differ there
abbrev pub changes : (old new : List Bool) → List Bool
changes [] new = []
changes (a ∷ old) [] = []
changes (a ∷ old) (b ∷ new) = (a ⊕ b) ∷ changes old new

-- a line of the entries of 1 bits with spaces between them
abbrev pub entries_line : Kinds → List Bool → List ℕ
entries_line kinds bits = drop 1 (flat_map (entry kinds) (one_positions bits)) ++ codes "\n"

-- if there are more or fewer bits of a name than before, a line of both numbers
abbrev pub counted_line : (name : List ℕ) → (old new : List Bool) → List ℕ
counted_line name old new = if length old == length new then [] else name ++ (codes " " ++ (decimal (length old) ++ (codes " " ++ (decimal (length new) ++ codes "\n"))))

-- what changed of detectors and observables
abbrev pub changed_text : ShotBits → State → List ℕ
changed_text bookmark run =
    entries_line (Detectors (length (changes bookmark.detectors run.detectors))) (changes bookmark.detectors run.detectors ++ changes bookmark.observables run.observables)
    ++ (counted_line (codes "detectors") bookmark.detectors run.detectors ++ counted_line (codes "observables") bookmark.observables run.observables)

-- what changed of records
abbrev pub changed_records_text : ShotBits → State → List ℕ
changed_records_text bookmark run = entries_line Measurements (changes bookmark.records run.records) ++ counted_line (codes "records") bookmark.records run.records
