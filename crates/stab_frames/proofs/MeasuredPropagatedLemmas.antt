-- Measured passes: what a frame's way over one step, as programs go it, comes to.
use Rattle.stab_frames.proofs.Names.{◌≡◌, ℕ, ◌+◌, ◌<◌, refl, sym, ◌∙◌, ap, subst, Bool, true, false, ◌&&◌, List, [], length, get_or, Option, Some, None, IfSome, beq, Letter, ◌⊕◌, Signed, single, string_product, strings_anticommute, Factor, Step, collapse, product, string_of, flip_of, measured_by, joined, coins_of, times_where, RunPivots, flipped_by, letters_by, pivot_at, PropagationState, IsPlaced, StepsWith, IsPropagated, IsPropagatedWith, IsStepDetermined, IsDeterminedBy, flip_by, letters_for, one_flipped}
use Rattle.stab_frames.proofs.RunPivotLemmas.{unmeasured}
use Rattle.stab_frames.proofs.RandomLemmas.{pivot-none, pivot-some, some-none}

-- measurements

-- an outcome that the frame has as it is drawn, or that was fixed: the letters stay

pub equal-bits : (a b : Bool) → beq a b ≡ true → a ≡ b
equal-bits false false e = refl
equal-bits false true e = cc
equal-bits true false e = cc
equal-bits true true e = refl

pub other-bits : (a b : Bool) → beq a b ≡ false → a ⊕ b ≡ true
other-bits false false e = cc
other-bits false true e = refl
other-bits true false e = refl
other-bits true true e = cc

same-bits : (a b : Bool) → a ≡ b → a ⊕ b ≡ false
same-bits false false e = refl
same-bits false true e = cc
same-bits true false e = cc
same-bits true true e = refl

flip-alike : (pivot : Option (List Letter)) (change anticommuting : Bool) → change ≡ anticommuting → anticommuting ≡ flip_by pivot change anticommuting
flip-alike None change anticommuting e = refl
flip-alike (Some s) change anticommuting e = sym e

letters-alike : (pivot : Option (List Letter)) (change anticommuting : Bool) (f : List Letter) → change ≡ anticommuting → f ≡ letters_for pivot change anticommuting f
letters-alike None change anticommuting f e = refl
letters-alike (Some s) change anticommuting f e = ap (λ b. times_where b s f) (sym (same-bits change anticommuting e))

module _ (strings : List (List Letter)) (free : List Bool) (changes : ℕ → Bool) (coin : ℕ) (anticommuting : Bool) where
  outcome-alike : (flag : Bool) → get_or free coin false ≡ flag → (flag ≡ true → changes coin ≡ anticommuting) → anticommuting ≡ flip_by (pivot_at strings free coin) (changes coin) anticommuting
  outcome-alike false e same = ap (λ o. flip_by o (changes coin) anticommuting) (sym (pivot-none strings free coin e))
  outcome-alike true e same = flip-alike (pivot_at strings free coin) (changes coin) anticommuting (same refl)

  frame-alike : (f : List Letter) (flag : Bool) → get_or free coin false ≡ flag → (flag ≡ true → changes coin ≡ anticommuting)
      → f ≡ letters_for (pivot_at strings free coin) (changes coin) anticommuting f
  frame-alike f false e same = ap (λ o. letters_for o (changes coin) anticommuting f) (sym (pivot-none strings free coin e))
  frame-alike f true e same = letters-alike (pivot_at strings free coin) (changes coin) anticommuting f (same refl)

  determined-alike : (flag : Bool) → get_or free coin false ≡ flag → (flag ≡ true → changes coin ≡ anticommuting) → IsDeterminedBy strings free coin (changes coin) anticommuting
  determined-alike false e same = λ differs none. e
  determined-alike true e same = λ differs none. absurd (true-false (sym differs ∙ same-bits (changes coin) anticommuting (same refl)))
    where
      true-false : true ≡ false → ⊥
      true-false e = cc

pub passed-alike : (strings : List (List Letter)) (free : List Bool) (draw : ℕ → Bool) (anticommuting flip : Bool) (old new : PropagationState)
    → (get_or free old.coin false ≡ true → draw old.coin ≡ anticommuting) → flip ≡ anticommuting
    → new.letters ≡ old.letters → new.flips ≡ old.flips → new.coin ≡ old.coin + 1 → IsPlaced free new
    → IsPropagated strings free draw anticommuting flip old new
passed-alike strings free draw anticommuting flip old new as_drawn is letters flips coin placed = record {
  over = λ changes drawn. record {
    outcome = is ∙ outcome-alike strings free changes old.coin anticommuting (get_or free old.coin false) refl (λ e. drawn e ∙ as_drawn e);
    letters = letters ∙ frame-alike strings free changes old.coin anticommuting old.letters (get_or free old.coin false) refl (λ e. drawn e ∙ as_drawn e);
    flips = flips;
    coin = coin;
  };
  determined = λ changes drawn. determined-alike strings free changes old.coin anticommuting (get_or free old.coin false) refl (λ e. drawn e ∙ as_drawn e);
  coin = coin;
  placed = placed;
}

-- one that the frame has otherwise: the string of it is multiplied on

pub passed-times : (strings : List (List Letter)) (free : List Bool) (draw : ℕ → Bool) (anticommuting flip : Bool) (old new : PropagationState)
    → get_or free old.coin false ≡ true → IsPlaced free old → old.number < length strings → flip ≡ draw old.coin → flip ⊕ anticommuting ≡ true
    → new.letters ≡ string_product old.letters (get_or strings old.number []) → new.flips ≡ old.flips → new.coin ≡ old.coin + 1 → IsPlaced free new
    → IsPropagated strings free draw anticommuting flip old new
passed-times strings free draw anticommuting flip old new e placed lt is differs letters flips coin placed_new = record {
  over = λ changes drawn. record {
    outcome = is ∙ sym (drawn e) ∙ ap (λ o. flip_by o (changes old.coin) anticommuting) (sym pivot);
    letters =
        letters
        ∙ ap (λ b. times_where b (get_or strings old.number []) old.letters) (sym differs)
        ∙ ap (λ b. times_where (b ⊕ anticommuting) (get_or strings old.number []) old.letters) (is ∙ sym (drawn e))
        ∙ ap (λ o. letters_for o (changes old.coin) anticommuting old.letters) (sym pivot);
    flips = flips;
    coin = coin;
  };
  determined = λ changes drawn is_so none. absurd (some-none (get_or strings old.number []) (sym pivot ∙ none));
  coin = coin;
  placed = placed_new;
}
  where
    pivot : pivot_at strings free old.coin ≡ Some (get_or strings old.number [])
    pivot = pivot-some strings free old.coin old.number e placed lt

-- at a step that measures nothing, and at one that measures something

pub determined-unmeasured : (n : ℕ) (strings : List (List Letter)) (free : List Bool) (changes : ℕ → Bool) (x : Step) (coin : ℕ) (f : List Letter) → coins_of x ≡ 0
    → IsStepDetermined n strings free changes x coin f
determined-unmeasured n strings free changes x coin f e = unmeasured n (λ m. IsDeterminedBy strings free coin (changes coin) (strings_anticommute f m.letters)) x e

pub determined-measured : (n : ℕ) (strings : List (List Letter)) (free : List Bool) (changes : ℕ → Bool) (x : Step) (m : Signed) (coin : ℕ) (anticommuting : Bool) (f : List Letter)
    → measured_by n x ≡ Some m → strings_anticommute f m.letters ≡ anticommuting → IsDeterminedBy strings free coin (changes coin) anticommuting → IsStepDetermined n strings free changes x coin f
determined-measured n strings free changes x m coin anticommuting f measured e determined =
    subst (λ o. IfSome o (λ q. IsDeterminedBy strings free coin (changes coin) (strings_anticommute f q.letters))) (sym measured)
    (subst (IsDeterminedBy strings free coin (changes coin)) (sym e) determined)

-- over a measured letter and a measured product

pub passes-collapse : (n : ℕ) (pivots : RunPivots) (l : Letter) (q : ℕ) (recorded inverted resets anticommuting flip : Bool) (old mid reset new : PropagationState)
    → strings_anticommute old.letters (single n q l).letters ≡ anticommuting
    → IsPropagatedWith pivots anticommuting flip old mid
    → length mid.letters ≡ n
    → reset ≡ record mid { letters = times_where (resets && flip) (single (length mid.letters) q (flip_of l)).letters mid.letters }
    → new ≡ record reset { flips = joined reset.flips (one_flipped recorded flip) }
    → StepsWith n pivots (collapse l q recorded inverted resets) old new
passes-collapse n pivots l q recorded inverted resets anticommuting flip old mid reset new ea p size er en = record {
  letters =
      ap (λ (w : PropagationState). w.letters) en
      ∙ ap (λ (w : PropagationState). w.letters) er
      ∙ ap (λ k. times_where (resets && flip) (single k q (flip_of l)).letters mid.letters) size
      ∙ (λ i. times_where (resets && flips i) (single n q (flip_of l)).letters (letters i));
  flips =
      ap (λ (w : PropagationState). w.flips) en
      ∙ ap (λ (w : PropagationState). joined w.flips (one_flipped recorded flip)) er
      ∙ (λ i. joined (p.flips i) (one_flipped recorded (flips i)));
  coin = ap (λ (w : PropagationState). w.coin) en ∙ ap (λ (w : PropagationState). w.coin) er ∙ p.coin;
}
  where
    flips : flip ≡ flipped_by (pivots.strings old.coin) (pivots.changes old.coin) (single n q l) old.letters
    flips = p.outcome ∙ ap (flip_by (pivots.strings old.coin) (pivots.changes old.coin)) (sym ea)

    letters : mid.letters ≡ letters_by (pivots.strings old.coin) (pivots.changes old.coin) (single n q l) old.letters
    letters =
        p.letters
        ∙ ap (λ b. letters_for (pivots.strings old.coin) (pivots.changes old.coin) b old.letters) (sym ea)

pub passes-product : (n : ℕ) (pivots : RunPivots) (factors : List Factor) (inverted anticommuting flip : Bool) (old mid new : PropagationState)
    → strings_anticommute old.letters (string_of n factors).letters ≡ anticommuting
    → IsPropagatedWith pivots anticommuting flip old mid
    → new ≡ record mid { flips = joined mid.flips (one_flipped true flip) }
    → StepsWith n pivots (product factors inverted) old new
passes-product n pivots factors inverted anticommuting flip old mid new ea p en = record {
  letters =
      ap (λ (w : PropagationState). w.letters) en
      ∙ p.letters
      ∙ ap (λ b. letters_for (pivots.strings old.coin) (pivots.changes old.coin) b old.letters) (sym ea);
  flips =
      ap (λ (w : PropagationState). w.flips) en
      ∙ ap (λ o. joined o (one_flipped true flip)) p.flips
      ∙ ap (λ b. joined old.flips (one_flipped true b))
      (p.outcome ∙ ap (flip_by (pivots.strings old.coin) (pivots.changes old.coin)) (sym ea));
  coin = ap (λ (w : PropagationState). w.coin) en ∙ p.coin;
}
