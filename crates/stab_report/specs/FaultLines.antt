-- Fault lines: the line that says a fault, what is written of a refusal, and the line that names a bit that is not deterministic.
-- Source: this project's own.
use Rattle.std.specs.Prelude.{ℕ, List, [], ◌++◌, codes, decimal, ◌==◌, ◌⊎◌, Option, Some, None, if◌then◌else◌}
use Rattle.stab_io.specs.Devices.{OutputView, Took, TookAndFailed}
use Rattle.stab_io.specs.declared.refusal.Refusal.{Refusal}
use Rattle.stab_io.specs.declared.refusal.Fault.{Fault}
use Rattle.stab_io.specs.Refusals.{refusal_number, refusal_name}
use Rattle.stab_items.specs.Paths.{path_text}
use Rattle.stab_report.specs.declared.random.Bit.{Bit}
use Rattle.stab_report.specs.declared.random.Bit.TheVariants.{Detector, Observable}
use Rattle.stab_report.specs.declared.random.Random.{Random}
use Rattle.stab_report.specs.Texts.{placed_coin}

-- which refusal it is, as its line says it
abbrev pub refused_text : Refusal → List ℕ
refused_text r = codes "refused " ++ (decimal (refusal_number r) ++ (codes " " ++ (refusal_name r ++ codes "\n")))

-- the line that says a fault
abbrev pub fault_line : Fault → List ℕ
fault_line f = codes "stabsim: " ++ ((if f.line == 0 then [] else codes "line " ++ (decimal f.line ++ codes ": ")) ++ refused_text f.refusal)

-- a detector or an observable, as a line names it
abbrev pub bit_text : Bit → List ℕ
bit_text (Detector d) = codes "detector " ++ decimal d
bit_text (Observable j) = codes "observable " ++ decimal j

-- a bit that is not the same whatever the coins, with the path of its first item
abbrev pub random_bit : Random → List ℕ
random_bit u = codes "stabsim: " ++ (bit_text u.bit ++ (codes ", item " ++ path_text u.path))

-- the line that names it, and the first coin that decides it
abbrev pub random_line : Random → List ℕ
random_line u = random_bit u ++ (codes ", is not the same for all coins: " ++ (placed_coin u.decider.coin u.decider.path ++ codes " decides it\n"))

-- what says a fault: its line, and after it that of the bit that it names, if any
abbrev pub reported_text : Fault → Option Random → List ℕ
reported_text f None = fault_line f
reported_text f (Some u) = fault_line f ++ random_line u

-- the output took these bytes, or failed once after some first bytes of them
abbrev pub TookOrFailed : OutputView → OutputView → List ℕ → Type 0
TookOrFailed old new bytes = Took old new bytes ⊎ TookAndFailed old new bytes

-- a fault is reported: its line was written, or the output failed once after some first bytes of it
abbrev pub ReportsFault : Fault → OutputView → OutputView → Type 0
ReportsFault f old new = TookOrFailed old new (fault_line f)
