-- Lines of errors: one after another, cut off or whole, and what they mean for runs.
use Rattle.stab_script.proofs.Names.{◌≡◌, refl, sym, ap, subst, ◌∙◌, ℕ, ◌<◌, Bool, List, [], ◌∷◌, ◌++◌, length, Result, Ok, Err, flat_map, map, codes, entry, one_positions, Items, unroll, Path, path_at, WroteUpTo}
use Rattle.std.proofs.Common.{ap₂, arith, zero, suc, All, append_assoc, get_or, slice_index_or}
use Rattle.std.specs.Prelude.{IsErrAnd}
use Rattle.stab_io.specs.Devices.{OutputView, CutOff}
use Rattle.stab_io.specs.declared.refusal.Fault.{Fault}
use Rattle.stab_items.specs.Steps.{qubits_of}
use Rattle.stab_results.specs.declared.format.Kinds.{Kinds}
use Rattle.stab_regions.specs.SingleErrors.{SingleError}
use Rattle.stab_run.specs.ProgramStates.{StepFits}
use Rattle.stab_tableau.proofs.OneLetterLemmas.{length-one_letter}
use Rattle.stab_report.specs.CoinTables.{whole_kinds}
use Rattle.stab_report.specs.Endings.{SendsUnflushed}
use Rattle.stab_report.specs.SingleErrorTables.{single_error_text}
use Rattle.stab_report.specs.PlacedSingleErrors.{single_error_placed}
use Rattle.stab_report.specs.declared.single_error_list.PlacedSingleError.{PlacedSingleError}
use Rattle.stab_report.proofs.SendingLaws.{cut_off_after}
use Rattle.stab_ways.specs.declared.way.PlacedLetter.{PlacedLetter}
use Rattle.stab_ways.specs.PutIn.{string_after, string_flips}
use Rattle.stab_ways.specs.Ways.{placed}
use Rattle.stab_ways.specs.Laws.{StringsFlipRuns}
use Rattle.stab_script.specs.WayTexts.{bits_flipped, left_line}
use Rattle.stab_script.specs.EachTexts.{AreErrorLines, line_of_each, errors_text, string_of_error}
use Rattle.stab_script.specs.inner.ErrorNumbers.{numbered_text}

-- the parts of a line, as they are written
pub line_parts : (items : Items) (f : SingleError) (path : Path) (kinds : Kinds) (flipped : List ℕ) (left : List PlacedLetter) → path ≡ path_at items f.step → kinds ≡ whole_kinds items
    → single_error_text f.before path f.letter f.qubit ++ (flat_map (entry kinds) flipped ++ (codes " " ++ left_line left)) ≡ numbered_text items f flipped left
line_parts items f path kinds flipped left here are =
    ap₂ (λ p k. single_error_text f.before p f.letter f.qubit ++ (flat_map (entry k) flipped ++ (codes " " ++ left_line left))) here are

-- are the line of the error
pub line_whole : (items : Items) (f : SingleError) (flipped : List ℕ) (left : List PlacedLetter)
    → flipped ≡ one_positions (bits_flipped items (string_flips (qubits_of items) f.before (string_of_error items f) (unroll items)))
    → left ≡ placed 0 (string_after (qubits_of items) f.before (string_of_error items f) (unroll items) (length (unroll items)))
    → numbered_text items f flipped left ≡ line_of_each items f
line_whole items f flipped left b l = ap₂ (λ bs ls. numbered_text items f bs ls) b l

-- the line of a single error, and lines of some
abbrev pub line_of : Items → PlacedSingleError → List ℕ
line_of items f = line_of_each items (single_error_placed f)

pub lines_placed : (items : Items) (single_errors : List PlacedSingleError) → flat_map (line_of items) single_errors ≡ flat_map (line_of_each items) (map single_error_placed single_errors)
lines_placed items [] = refl
lines_placed items (f ∷ single_errors) = ap (λ rest. line_of items f ++ rest) (lines_placed items single_errors)

-- what is cut off after what was written of a text is sent in part
pub wrote_and_cut : {a b c : OutputView} (all left part rest : List ℕ) (f : Fault) (r : Result (Unit {0}) Fault) → left ≡ part ++ rest → WroteUpTo a b all left → CutOff b c part f
    → IsErrAnd r (λ y. y ≡ f) → SendsUnflushed all a c r
wrote_and_cut all left part rest f (Ok u) here wrote cut is = absurd is
wrote_and_cut {a} {b} {c} all left part rest f (Err y) here wrote cut is =
    subst (λ g. CutOff a c all g) (sym is)
    (subst (λ l. CutOff a c l f) (append_assoc wrote.0 part rest ∙ ap (λ l. wrote.0 ++ l) (sym here) ∙ sym wrote.1) (cut_off_after wrote.0 part rest f wrote.2 cut))

-- rows of single errors, by the values that stand for them
pub rows_placed : (row : SingleError → List ℕ) (single_errors : List PlacedSingleError) → map row (map single_error_placed single_errors) ≡ map (λ f. row (single_error_placed f)) single_errors
rows_placed row [] = refl
rows_placed row (f ∷ single_errors) = ap (λ rows. row (single_error_placed f) ∷ rows) (rows_placed row single_errors)

pub mapped-at : {A : Type 0} (row : A → List ℕ) (xs : List A) (k : ℕ) (d : A) → k < length xs → slice_index_or (map row xs) k [] ≡ row (get_or xs k d)
mapped-at row [] k d lt = absurd (omega (arith, lt))
mapped-at row (x ∷ xs) zero d lt = refl
mapped-at row (x ∷ xs) (suc k) d lt = mapped-at row xs k d (omega (arith, lt))

-- the lines of all errors, with what they mean for runs
pub are_lines : (everywhere : Bool) (items : Items) → StringsFlipRuns → All (StepFits (qubits_of items)) (unroll items) → AreErrorLines everywhere items (errors_text everywhere items)
are_lines everywhere items law fits = record {
  text = refl;
  runs = λ f coins. law (qubits_of items) f.before (string_of_error items f) (unroll items) coins fits (length-one_letter (qubits_of items) f.qubit f.letter);
}
