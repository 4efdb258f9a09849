-- Bits, inverted by others, and by what differs from them.
use Rattle.stab_commands.proofs.Names.{◌≡◌, refl, sym, ◌∙◌, ap, Bool, List, [], ◌∷◌, length, arith, ◌⊕◌, length-flipped, flipped-empty, ShotBits, inverted}
use Rattle.stab_frames.specs.Flips.{flipped}

-- two lists of bits, as long as one another

none : (a b : Bool) → a ⊕ a ≡ b ⊕ b
none a b = grind arith

round : (f a b : Bool) → a ⊕ (f ⊕ a) ≡ b ⊕ (f ⊕ b)
round f a b = grind arith

gone : (a b : Bool) → (b ⊕ b) ⊕ a ≡ a
gone a b = grind arith

preserved : (f a b : Bool) → (b ⊕ (f ⊕ b)) ⊕ a ≡ f ⊕ a
preserved f a b = grind arith

either : (a b : Bool) → a ⊕ b ≡ b ⊕ a
either a b = grind arith

flipped-self : (xs ys : List Bool) → length xs ≡ length ys → flipped xs xs ≡ flipped ys ys
flipped-self [] [] e = refl
flipped-self [] (y ∷ ys) e = absurd (omega (arith, e))
flipped-self (x ∷ xs) [] e = absurd (omega (arith, e))
flipped-self (x ∷ xs) (y ∷ ys) e = λ i. none x y i ∷ flipped-self xs ys (omega (arith, e)) i

-- where bits and the same bits inverted differ
flipped-round : (fs xs ys : List Bool) → length xs ≡ length ys → flipped (flipped xs fs) xs ≡ flipped (flipped ys fs) ys
flipped-round [] xs ys e = ap (λ l. flipped l xs) (flipped-empty xs) ∙ flipped-self xs ys e ∙ ap (λ l. flipped l ys) (sym (flipped-empty ys))
flipped-round (f ∷ fs) [] [] e = refl
flipped-round (f ∷ fs) [] (y ∷ ys) e = absurd (omega (arith, e))
flipped-round (f ∷ fs) (x ∷ xs) [] e = absurd (omega (arith, e))
flipped-round (f ∷ fs) (x ∷ xs) (y ∷ ys) e = λ i. round f x y i ∷ flipped-round fs xs ys (omega (arith, e)) i

flipped-none : (xs ys : List Bool) → length xs ≡ length ys → flipped xs (flipped ys ys) ≡ xs
flipped-none [] [] e = refl
flipped-none [] (y ∷ ys) e = absurd (omega (arith, e))
flipped-none (x ∷ xs) [] e = absurd (omega (arith, e))
flipped-none (x ∷ xs) (y ∷ ys) e = λ i. gone x y i ∷ flipped-none xs ys (omega (arith, e)) i

flipped-preserved : (fs xs ys : List Bool) → length xs ≡ length ys → flipped xs (flipped (flipped ys fs) ys) ≡ flipped xs fs
flipped-preserved [] xs ys e = ap (λ l. flipped xs (flipped l ys)) (flipped-empty ys) ∙ flipped-none xs ys e ∙ sym (flipped-empty xs)
flipped-preserved (f ∷ fs) [] [] e = refl
flipped-preserved (f ∷ fs) [] (y ∷ ys) e = absurd (omega (arith, e))
flipped-preserved (f ∷ fs) (x ∷ xs) [] e = absurd (omega (arith, e))
flipped-preserved (f ∷ fs) (x ∷ xs) (y ∷ ys) e = λ i. preserved f x y i ∷ flipped-preserved fs xs ys (omega (arith, e)) i

pub flipped-either : (xs ys : List Bool) → length xs ≡ length ys → flipped xs ys ≡ flipped ys xs
flipped-either [] [] e = refl
flipped-either [] (y ∷ ys) e = absurd (omega (arith, e))
flipped-either (x ∷ xs) [] e = absurd (omega (arith, e))
flipped-either (x ∷ xs) (y ∷ ys) e = λ i. either y x i ∷ flipped-either xs ys (omega (arith, e)) i

-- bits of runs that have as many of each kind
pub record AreAlike (a b : ShotBits) : Type 0 where
  pub records : length a.records ≡ length b.records
  pub detectors : length a.detectors ≡ length b.detectors
  pub observables : length a.observables ≡ length b.observables

pub inverted-alike : (a flips : ShotBits) → AreAlike (inverted a flips) a
inverted-alike a flips = record {
  records = length-flipped a.records flips.records;
  detectors = length-flipped a.detectors flips.detectors;
  observables = length-flipped a.observables flips.observables;
}

pub inverted-round : (a b flips : ShotBits) → AreAlike a b → inverted (inverted a flips) a ≡ inverted (inverted b flips) b
inverted-round a b flips alike = λ i. record {
  records = flipped-round flips.records a.records b.records alike.records i;
  detectors = flipped-round flips.detectors a.detectors b.detectors alike.detectors i;
  observables = flipped-round flips.observables a.observables b.observables alike.observables i;
}

pub inverted-preserved : (a b flips : ShotBits) → AreAlike a b → inverted a (inverted (inverted b flips) b) ≡ inverted a flips
inverted-preserved a b flips alike = λ i. record {
  records = flipped-preserved flips.records a.records b.records alike.records i;
  detectors = flipped-preserved flips.detectors a.detectors b.detectors alike.detectors i;
  observables = flipped-preserved flips.observables a.observables b.observables alike.observables i;
}
