-- Repeats one after the other, up to a step.
use Rattle.stab_run.proofs.Names.{ℕ, zero, suc, ◌+◌, ◌*◌, ◌<◌, ◌≤◌, List, [], ◌∷◌, ◌++◌, arith, Step, IsRepeat, AreRepeats, Repeat}

-- repeats one after the other, the first no earlier than at a step, and the last no further than up to another
abbrev pub AreRepeatsTo : (from end : ℕ) → List Step → List Repeat → Type 0
AreRepeatsTo from end steps [] = from ≤ end
AreRepeatsTo from end steps (r ∷ rs) = (from ≤ r.first) × IsRepeat steps r × AreRepeatsTo (r.first + r.rounds * r.length) end steps rs

pub are-repeats : (from end : ℕ) (steps : List Step) (rs : List Repeat) → AreRepeatsTo from end steps rs → AreRepeats from steps rs
are-repeats from end steps [] are = tt
are-repeats from end steps (r ∷ rs) are = (are.0, are.1, are-repeats (r.first + r.rounds * r.length) end steps rs are.2)

pub one-repeat-more : (from end : ℕ) (steps : List Step) (rs : List Repeat) (r : Repeat) → AreRepeatsTo from end steps rs → end ≤ r.first → IsRepeat steps r
    → AreRepeatsTo from (r.first + r.rounds * r.length) steps (rs ++ r ∷ [])
one-repeat-more from end steps [] r are order is = (omega (arith, are, order), is, omega arith)
one-repeat-more from end steps (s ∷ rs) r are order is = (are.0, are.1, one-repeat-more (s.first + s.rounds * s.length) end steps rs r are.2 order is)

-- a repeat has steps
pub is-further : (steps : List Step) (r : Repeat) → IsRepeat steps r → suc r.first ≤ r.first + r.rounds * r.length
is-further steps r is = further r.rounds r.length r.first is.some is.many
  where
    further : (m l f : ℕ) → 0 < l → 1 < m → suc f ≤ f + m * l
    further (suc m) l f some many = omega (arith, some)
    further zero l f some many = absurd (omega (arith, many))
