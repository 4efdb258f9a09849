-- Parities: detectors and observables under one numbering, and what one pass backwards finds of each. With D detectors in all and this
-- many observables, parity i below D is detector i, and parity D + j is observable j.
-- Source: this project's own.
use Rattle.std.specs.Prelude.{ℕ, ◌-◌, nat_lt, Bool, true, ◌&&◌, List, [], if◌then◌else◌}
use Rattle.stab_gates.specs.declared.letter.Letter.{Letter}
use Rattle.stab_pauli.specs.Paulis.{single, anticommute}
use Rattle.stab_tableau.specs.Traces.{diagonal}
use Rattle.stab_items.specs.Steps.{Step, detectors_of}
use Rattle.stab_regions.specs.Regions.{Region, region_of, region_through, keep_region, asks_nothing, asks_observable}
use Rattle.stab_regions.specs.Tables.{steps_before_detector, named_by, region_of_detector}

-- how many of D detectors are before these steps, which are the last ones
abbrev pub detectors_before : ℕ → List Step → ℕ
detectors_before D back = D - detectors_of back

-- the region of parity i before the last steps: that of a detector among them, or of an observable; a detector before them asks for
-- nothing there
abbrev pub parity_region : (n D i : ℕ) → (back : List Step) → Region
parity_region n D i back =
    if nat_lt i D then (if nat_lt i (detectors_before D back) then region_of n [] else region_of_detector n (i - detectors_before D back) back)
    else region_through n (asks_observable (i - D)) back (region_of n [])

-- whether the last steps keep it
abbrev pub parity_preserved : (n D i : ℕ) → (back : List Step) → Bool
parity_preserved n D i back =
    if nat_lt i D then
    (if nat_lt i (detectors_before D back) then true
    else keep_region n asks_nothing (steps_before_detector (i - detectors_before D back) back) (region_of n (named_by (i - detectors_before D back) back)))
    else keep_region n (asks_observable (i - D)) back (region_of n [])

-- whether the pass over all steps finds parity i deterministic: all keep it, and at the start its letters are I and Z alone
abbrev pub parity_deterministic : (n D i : ℕ) → (xs : List Step) → Bool
parity_deterministic n D i xs = parity_preserved n D i xs && diagonal (parity_region n D i xs).string.letters

-- the bit that it then is, for all random bits: the sign of its string at the start
abbrev pub parity_bit : (n D i : ℕ) → (xs : List Step) → Bool
parity_bit n D i xs = (parity_region n D i xs).string.negative

-- whether a letter that is put in before the last steps flips parity i
abbrev pub parity_flips : (n D i : ℕ) → Letter → (qubit : ℕ) → (back : List Step) → Bool
parity_flips n D i l q back = anticommute (single n q l) (parity_region n D i back).string
