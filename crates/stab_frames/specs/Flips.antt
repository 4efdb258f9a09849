-- Flips: bits, and what a run gives, inverted if other bits are 1.
-- Source: this project's own.
use Rattle.std.specs.Prelude.{◌≡◌, Bool, false, List, [], ◌∷◌, length, map, replicate}
use Rattle.stab_gates.specs.Letters.{◌⊕◌}
use Rattle.stab_run.specs.declared.records.Addition.{Addition}
use Rattle.stab_run.specs.Points.{RunOutput}

-- bits, inverted if the flips are 1
abbrev pub flipped : List Bool → List Bool → List Bool
flipped [] flips = []
flipped (bit ∷ bits) [] = bit ∷ bits
flipped (bit ∷ bits) (flip ∷ flips) = (flip ⊕ bit) ∷ flipped bits flips

-- additions to observables, whose bits are inverted if those of the flips are 1
abbrev pub flipped_additions : List Addition → List Addition → List Addition
flipped_additions [] flips = []
flipped_additions (a ∷ more) [] = a ∷ more
flipped_additions (a ∷ more) (f ∷ flips) = record { observable = a.observable; bit = f.bit ⊕ a.bit } ∷ flipped_additions more flips

-- an output, inverted if another is 1
abbrev pub flipped_output : RunOutput → RunOutput → RunOutput
flipped_output o flips = record {
  records = flipped o.records flips.records;
  free = flipped o.free flips.free;
  outcomes = flipped o.outcomes flips.outcomes;
  detectors = flipped o.detectors flips.detectors;
  additions = flipped_additions o.additions flips.additions;
}

-- flips for an output, all 0
abbrev pub unflipped : RunOutput → RunOutput
unflipped o = record {
  records = replicate (length o.records) false;
  free = replicate (length o.free) false;
  outcomes = replicate (length o.outcomes) false;
  detectors = replicate (length o.detectors) false;
  additions = map (λ a. record { observable = a.observable; bit = false }) o.additions;
}

-- there is a flip for each bit of an output, and for each addition one to the same observable
pub record Matches (o flips : RunOutput) : Type 0 where
  pub records : length flips.records ≡ length o.records
  pub free : length flips.free ≡ length o.free
  pub outcomes : length flips.outcomes ≡ length o.outcomes
  pub detectors : length flips.detectors ≡ length o.detectors
  pub observables : map (λ a. a.observable) flips.additions ≡ map (λ a. a.observable) o.additions
