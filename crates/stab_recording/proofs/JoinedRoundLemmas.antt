-- Rounds taken together: this many rounds of a repeat, taken as one.
use Rattle.stab_recording.proofs.Names.{◌≡◌, ℕ, zero, suc, ◌+◌, ◌-◌, ◌*◌, ◌<◌, ◌≤◌, sym, ◌∙◌, ap, List, take, drop, arith, mul-le-mul_right, take_at, Step, rounds, looks_too_far, Repeat, round_of, IsRepeat, rounds-append, rounds-rounds, rounds-within, length-rounds}
use Rattle.std.proofs.Math.Seq.{take-take}
use Rattle.stab_recording.proofs.RoundPositionLemmas.{length-round}

-- a factor of a product that is not 0
pub some-factor : (a t b : ℕ) → 0 < a → a ≤ t * b → 0 < t
some-factor a zero b some le = absurd (omega (arith, some, le))
some-factor a (suc t) b some le = omega arith

-- k rounds, each of t rounds of a repeat
abbrev pub by_some : Repeat → (t k : ℕ) → Repeat
by_some r t k = record r { length = r.length * t; rounds = k }

module _ (steps : List Step) (r : Repeat) (is : IsRepeat steps r) where
  abbrev round : List Step
  round = round_of r steps

  abbrev following : List Step
  following = drop r.first steps

  -- the first rounds
  front : (m : ℕ) → m ≤ r.rounds → take (m * r.length) following ≡ rounds m round
  front m le =
      sym (take-take (m * r.length) (r.rounds * r.length) following (mul-le-mul_right r.length le))
      ∙ ap (take (m * r.length)) (is.again ∙ ap (λ n. rounds n round) {x = r.rounds} {y = m + (r.rounds - m)} (omega arith) ∙ rounds-append m (r.rounds - m) round)
      ∙ take_at (rounds m round) (rounds (r.rounds - m) round) (m * r.length) (length-rounds m round ∙ ap (λ n. m * n) (length-round steps r is))

  pub taken-together : (t k : ℕ) → 0 < t → 1 < k → k * t ≤ r.rounds → IsRepeat steps (by_some r t k)
  taken-together t k some many le = record {
    some = let more = mul-le-mul_right t is.some in omega arith;
    many = many;
    inside = omega (arith, is.inside, mul-le-mul_right r.length le, all);
    again =
        ap (λ n. take n following) all
        ∙ front (k * t) le
        ∙ sym (rounds-rounds k t round)
        ∙ ap (rounds k) (sym one);
    within = ap (looks_too_far r.window) one ∙ rounds-within r.window t round is.within;
  }
    where
      few : t ≤ r.rounds
      few = let once : 1 ≤ k = omega (arith, many) in let more = mul-le-mul_right t once in omega (arith, le, more)

      all : k * (r.length * t) ≡ k * t * r.length
      all = omega arith

      one : take (r.length * t) following ≡ rounds t round
      one =
          ap (λ n. take n following) {x = r.length * t} {y = t * r.length} (omega arith)
          ∙ front t few
