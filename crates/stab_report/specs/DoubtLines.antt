-- Doubt lines: what is written to the error output of marks that may be meant in another way.
-- Source: this project's own.
use Rattle.std.specs.Prelude.{◌≡◌, ℕ, Bool, true, false, List, [], ◌∷◌, ◌++◌, codes, Result, Ok, Err}
use Rattle.std.specs.List.{flat_map}
use Rattle.stab_io.specs.Devices.{InputView, OutputView}
use Rattle.stab_io.specs.declared.refusal.Fault.{Fault}
use Rattle.stab_items.specs.Items.{Items}
use Rattle.stab_items.specs.Paths.{path_text}
use Rattle.stab_error_model.specs.Doubts.{doubts_from}
use Rattle.stab_error_model.specs.declared.doubts.Doubt.{Doubt}
use Rattle.stab_error_model.specs.declared.doubts.Doubt.TheVariants.{Tag, LastTarget, SameQubit}
use Rattle.stab_error_model.specs.declared.doubts.DoubtfulMark.{DoubtfulMark}
use Rattle.stab_report.specs.Endings.{GaveCircuit}
use Rattle.stab_report.specs.FaultLines.{TookOrFailed}
use Rattle.stab_report.specs.ItemPaths.{path_at}

-- why a mark is doubtful
abbrev pub doubt_text : Doubt → List ℕ
doubt_text Tag = codes ": the tag is none of X, Y, Z, XZ and pairs, so all letters are marked\n"
doubt_text LastTarget = codes ": pairs of an odd number of targets, so the last is marked by itself\n"
doubt_text SameQubit = codes ": a pair of a qubit with itself\n"

-- the line of a doubtful mark, with the path of its item
abbrev pub doubt_line : Items → DoubtfulMark → List ℕ
doubt_line items m = codes "stabsim: item " ++ (path_text (path_at items m.step) ++ doubt_text m.doubt)

-- the lines of doubtful marks
abbrev pub doubt_lines : Items → List DoubtfulMark → List ℕ
doubt_lines items ms = flat_map (doubt_line items) ms

-- they are reported: their lines were written, or the output failed once after some first bytes of them; if there are none, it is untouched
abbrev pub ReportsDoubts : Items → List DoubtfulMark → OutputView → OutputView → Type 0
ReportsDoubts items [] old new = new ≡ old
ReportsDoubts items (m ∷ ms) old new = TookOrFailed old new (doubt_lines items (m ∷ ms))

-- the doubtful marks that a call looks at: none if it takes errors everywhere
abbrev pub doubts_of : (everywhere : Bool) → Items → List DoubtfulMark
doubts_of true items = []
doubts_of false items = doubts_from 0 items

-- a call with the items of a circuit reports these marks if it ends without a fault, and else leaves the error output untouched
abbrev pub ReportsIfOk : {T : Type 0} → Items → List DoubtfulMark → OutputView → OutputView → Result T Fault → Type 0
ReportsIfOk items ms old new (Ok x) = ReportsDoubts items ms old new
ReportsIfOk items ms old new (Err f) = new ≡ old

-- What a call that reads a circuit leaves of the error output: its doubtful marks are reported after a call without a fault, and else
-- it is untouched.
abbrev pub Warns : {T : Type 0} → (everywhere : Bool) → InputView → InputView → OutputView → OutputView → Result T Fault → Type 0
Warns everywhere i i' e e' (Ok x) = (items : Items) × GaveCircuit i i' items × ReportsDoubts items (doubts_of everywhere items) e e'
Warns everywhere i i' e e' (Err f) = e' ≡ e
