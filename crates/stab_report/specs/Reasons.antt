-- Reasons: which coins decide a detector or an observable, what `deterministic --explain` writes of them, and how a call of it ends.
-- Source: this project's own.
use Rattle.std.specs.Prelude.{◌≡◌, ℕ, ◌+◌, ◌<◌, nat_lt, Bool, List, [], ◌∷◌, ◌++◌, codes, decimal, Result, Ok, Err, ◌↔◌}
use Rattle.std.specs.List.{flat_map}
use Rattle.stab_io.specs.Devices.{InputView, OutputView}
use Rattle.stab_io.specs.declared.refusal.Refusal.{Refusal}
use Rattle.stab_io.specs.declared.refusal.Fault.{Fault}
use Rattle.stab_items.specs.Prints.{item_coordinates}
use Rattle.stab_items.specs.Items.{Items, OneItem, entries}
use Rattle.stab_items.specs.Steps.{unroll, qubits_of, detectors_of, observables_of}
use Rattle.stab_items.specs.Paths.{Path, path_text}
use Rattle.stab_items.specs.ItemsAt.{item_at}
use Rattle.stab_regions.specs.SingleErrors.{bits_in, IsDeterministic}
use Rattle.stab_report.specs.Coins.{CoinRow, IsCoinTable}
use Rattle.stab_report.specs.declared.random.Bit.{Bit}
use Rattle.stab_report.specs.declared.random.Bit.TheVariants.{Detector, Observable}
use Rattle.stab_report.specs.Endings.{Ends}
use Rattle.stab_report.specs.ItemPaths.{bit_of, path_of_bit, path_of_coin}
use Rattle.stab_report.specs.CoinTables.{SendsTable}
use Rattle.stab_report.specs.Deciders.{deciders}
use Rattle.stab_report.specs.Texts.{placed_coin, texts_from}

-- a bit is the same for all random bits if and only if no coin flips it
abbrev pub DeterministicHasNoDecider : Type 0
DeterministicHasNoDecider =
    (items : Items) (rows : List CoinRow) (i : ℕ) → IsCoinTable (qubits_of items) items rows → i < bits_in items →
    IsDeterministic (qubits_of items) items i ↔ (deciders i rows ≡ [])

-- a coin, with the path of the item that takes it, as ` c40@66/3`
abbrev pub decider_text : Items → ℕ → List ℕ
decider_text items t = codes " " ++ placed_coin t (path_of_coin items t)

-- a bit, as `dets` names it
abbrev pub bit_name : Bit → List ℕ
bit_name (Detector d) = codes "D" ++ decimal d
bit_name (Observable j) = codes "L" ++ decimal j

-- there is such a detector or observable
abbrev pub has_bit : Items → Bit → Bool
has_bit items (Detector d) = nat_lt d (detectors_of (unroll items))
has_bit items (Observable j) = nat_lt j (observables_of items)

-- its number among all detectors and then all observables
abbrev pub number_of_bit : Items → Bit → ℕ
number_of_bit items (Detector d) = d
number_of_bit items (Observable j) = detectors_of (unroll items) + j

-- the coordinates of a detector that was found, as its line has them, after a space: shifts by SHIFT_COORDS are not added
abbrev pub found_coordinates : Result OneItem Refusal → List ℕ
found_coordinates (Ok item) = item_coordinates item
found_coordinates (Err r) = []

-- those of the item at a path; nothing for any item but a detector
abbrev pub coordinates_at : Items → Path → List ℕ
coordinates_at items path = found_coordinates (item_at path (entries items))

-- the line of a bit with the path and the coordinates of its first item, by the coins that flip it, as `D37 69 (1, 3, 2) c12@12 c40@66/3`;
-- none if no coin does
abbrev pub reason_line : Items → Bit → (coins : List ℕ) → List ℕ
reason_line items b [] = []
reason_line items b (t ∷ ts) =
    bit_name b ++ (codes " " ++ (path_text (path_of_bit items b) ++ (coordinates_at items (path_of_bit items b) ++ (flat_map (decider_text items) (t ∷ ts) ++ codes "\n"))))

-- the line of the bit of a number, by the table
abbrev pub reason_text : Items → List CoinRow → ℕ → List ℕ
reason_text items rows i = reason_line items (bit_of (detectors_of (unroll items)) i) (deciders i rows)

-- the lines of all detectors and then all observables
abbrev pub reasons_text : Items → List CoinRow → List ℕ
reasons_text items rows = texts_from (reason_text items rows) 0 (bits_in items)

-- How a call of `deterministic --explain` ends, over an input and an output.
abbrev pub EndsExplain : {T : Type 0} → InputView → InputView → OutputView → OutputView → Result T Fault → Type 0
EndsExplain i i' o o' r = Ends (λ _. o' ≡ o) (SendsTable reasons_text o o') i i' r
