-- Error tables: which bits of a run each of some errors of a circuit flips.
-- Source: this project's own.
use Rattle.std.specs.Prelude.{◌≡◌, ℕ, ◌<◌, Bool, false, ◌&&◌, List, [], ◌∷◌, All, Contains, length, map, slice_index_or}
use Rattle.std.specs.List.{flat_map}
use Rattle.stab_gates.specs.Letters.{◌⊕◌}
use Rattle.stab_items.specs.Items.{Items}
use Rattle.stab_items.specs.Steps.{unroll, observables_of, detectors_of}
use Rattle.stab_regions.specs.SingleErrors.{SingleError, with_gates, bit, bits_in, numbers_where, AreDeterministic, IsDeterministic}
use Rattle.stab_search.specs.Tables.{ErrorTable}
use Rattle.stab_error_model.specs.Errors.{Error, single_errors_in, first_single_error}

-- what contracts see of a table: which bits are deterministic, the errors, and for each error which bits it flips
pub record ErrorTableState : Type 0 where
  pub deterministic : List Bool
  pub errors : List Error
  pub table : ErrorTable

-- single errors flip a bit if the runs with these coins, with all of them and with none, differ in it
abbrev pub flip_together : (n : ℕ) → Items → (ℕ → Bool) → List SingleError → ℕ → Bool
flip_together n items coins single_errors i =
    bit n (observables_of items) coins (with_gates single_errors (unroll items)) i ⊕ bit n (observables_of items) coins (unroll items) i

-- the deterministic bits that an error flips, by their numbers, ascending
abbrev pub flipped_by_error : (n : ℕ) → Items → (deterministic : List Bool) → (ℕ → Bool) → Error → List ℕ
flipped_by_error n items deterministic coins e = numbers_where (λ i. slice_index_or deterministic i false && flip_together n items coins (single_errors_in e) i) 0 (bits_in items)

-- whether an odd number of errors each flip a bit alone
abbrev pub flip_each : (n : ℕ) → Items → (ℕ → Bool) → List Error → ℕ → Bool
flip_each n items coins [] i = false
flip_each n items coins (e ∷ es) i = flip_together n items coins (single_errors_in e) i ⊕ flip_each n items coins es i

-- some of these errors, in any order and each as often as it comes, flip a deterministic bit together exactly if an odd number of them do so alone
abbrev pub ErrorsAdd : (n : ℕ) → Items → (all : List Error) → Type 0
ErrorsAdd n items all =
    (errors : List Error) (i : ℕ) → All (λ e. Contains all e) errors → i < bits_in items → IsDeterministic n items i → (coins : ℕ → Bool) →
    flip_together n items coins (flat_map single_errors_in errors) i ≡ flip_each n items coins errors i

-- the step of each error is one of the circuit's
abbrev pub StepsInside : Items → List Error → Type 0
StepsInside items errors = All (λ e. (first_single_error e).step < length (unroll items)) errors

-- a table of errors of a circuit: which bits are deterministic, and for each error, in order, which of these it flips, whatever the coins
pub record IsErrorTable (n : ℕ) (items : Items) (t : ErrorTableState) : Type 0 where
  pub are_deterministic : AreDeterministic n items t.deterministic
  pub detectors : t.table.detectors ≡ detectors_of (unroll items)
  pub are_flipped : (coins : ℕ → Bool) → t.table.rows ≡ map (flipped_by_error n items t.deterministic coins) t.errors
  pub add : ErrorsAdd n items t.errors
