-- Points: what decides the future of a run, and what its steps give. A state is a point with what was given so far.
-- Source: this project's own.
use Rattle.std.specs.Prelude.{ℕ, ◌+◌, Bool, List, [], ◌∷◌, ◌++◌}
use Rattle.stab_gates.specs.Letters.{◌⊕◌}
use Rattle.stab_pauli.specs.Paulis.{single}
use Rattle.stab_tableau.specs.Traces.{Event, applied, applied_pair, projected, is_random}
use Rattle.stab_items.specs.Steps.{Step, one, two, controlled, collapse, product, detector, observable}
use Rattle.stab_run.specs.declared.records.Addition.{Addition}
use Rattle.stab_run.specs.Records.{looked_up, parity}
use Rattle.stab_run.specs.Runs.{State, when, string_of, applied_where, outcome_at, collapsed, added}

-- what decides all that follows: what happened, the number of the next coin, and the records
pub record Point : Type 0 where
  pub trace : List Event
  pub coin : ℕ
  pub records : List Bool

-- the point before the first step
abbrev pub origin : Point
origin = record { trace = []; coin = 0; records = [] }

-- what steps give: records, randomness and outcomes of coin numbers, detectors, and what is added to observables
pub record RunOutput : Type 0 where
  pub records : List Bool
  pub free : List Bool
  pub outcomes : List Bool
  pub detectors : List Bool
  pub additions : List Addition

abbrev pub nothing : RunOutput
nothing = record { records = []; free = []; outcomes = []; detectors = []; additions = [] }

-- one output after another
abbrev pub joined : RunOutput → RunOutput → RunOutput
joined a b = record {
  records = a.records ++ b.records;
  free = a.free ++ b.free;
  outcomes = a.outcomes ++ b.outcomes;
  detectors = a.detectors ++ b.detectors;
  additions = a.additions ++ b.additions;
}

-- what a step gives
abbrev pub given : ℕ → (ℕ → Bool) → Step → Point → RunOutput
given n coins (one g q) p = nothing
given n coins (two g a b) p = nothing
given n coins (controlled l k q) p = nothing
given n coins (collapse l q recorded inverted resets) p = record nothing {
  records = when recorded (inverted ⊕ outcome_at coins (single n q l) p.trace p.coin);
  free = is_random p.trace (single n q l) ∷ [];
  outcomes = outcome_at coins (single n q l) p.trace p.coin ∷ [];
}
given n coins (product factors inverted) p = record nothing {
  records = (inverted ⊕ outcome_at coins (string_of n factors) p.trace p.coin) ∷ [];
  free = is_random p.trace (string_of n factors) ∷ [];
  outcomes = outcome_at coins (string_of n factors) p.trace p.coin ∷ [];
}
given n coins (detector ks) p = record nothing { detectors = parity p.records ks ∷ [] }
given n coins (observable j ks) p = record nothing { additions = record { observable = j; bit = parity p.records ks } ∷ [] }

-- what has happened after a step
abbrev pub trace_after : ℕ → (ℕ → Bool) → Step → Point → List Event
trace_after n coins (one g q) p = applied g q ∷ p.trace
trace_after n coins (two g a b) p = applied_pair g a b ∷ p.trace
trace_after n coins (controlled l k q) p = applied_where (looked_up p.records k) l q p.trace
trace_after n coins (collapse l q recorded inverted resets) p = collapsed n l q resets (outcome_at coins (single n q l) p.trace p.coin) p.trace
trace_after n coins (product factors inverted) p = projected (string_of n factors) (outcome_at coins (string_of n factors) p.trace p.coin) ∷ p.trace
trace_after n coins (detector ks) p = p.trace
trace_after n coins (observable j ks) p = p.trace

-- how many coin numbers a step uses up: each measurement one, whether or not the coin decides
abbrev pub coins_of : Step → ℕ
coins_of (one g q) = 0
coins_of (two g a b) = 0
coins_of (controlled l k q) = 0
coins_of (collapse l q recorded inverted resets) = 1
coins_of (product factors inverted) = 1
coins_of (detector ks) = 0
coins_of (observable j ks) = 0

-- how many coin numbers steps use up
abbrev pub all_coins_of : List Step → ℕ
all_coins_of [] = 0
all_coins_of (x ∷ xs) = coins_of x + all_coins_of xs

-- where a step ends
abbrev pub next_point : ℕ → (ℕ → Bool) → Step → Point → Point
next_point n coins x p = record { trace = trace_after n coins x p; coin = p.coin + coins_of x; records = p.records ++ (given n coins x p).records }

-- where steps end
abbrev pub point_after : ℕ → (ℕ → Bool) → List Step → Point → Point
point_after n coins [] p = p
point_after n coins (x ∷ xs) p = point_after n coins xs (next_point n coins x p)

-- what steps give
abbrev pub outputs : ℕ → (ℕ → Bool) → List Step → Point → RunOutput
outputs n coins [] p = nothing
outputs n coins (x ∷ xs) p = joined (given n coins x p) (outputs n coins xs (next_point n coins x p))

-- observables with additions made
abbrev pub with_additions : List Addition → List Bool → List Bool
with_additions [] bits = bits
with_additions (a ∷ more) bits = with_additions more (added a.observable a.bit bits)

-- the point of a state
abbrev pub point_of : State → Point
point_of s = record { trace = s.trace; coin = s.coin; records = s.records }

-- the state at a point, before which a state's lists were added to
abbrev pub state_at : Point → RunOutput → State → State
state_at p o s = record {
  trace = p.trace;
  coin = p.coin;
  records = p.records;
  free = s.free ++ o.free;
  detectors = s.detectors ++ o.detectors;
  observables = with_additions o.additions s.observables;
}
