-- Letters that are multiplied by those of a string: from one that is not I to the next, and then 64 at a time.
use Rattle.stab_frames.proofs.Names.{◌≡◌, ◌≢◌, ℕ, ◌+◌, ◌-◌, ◌*◌, ◌<◌, ◌≤◌, true, false, refl, sym, ◌∙◌, ap, subst, List, length, get_or, set, arith, inl, inr, cases_order, cases_lt, length-set, get_or-set_same, get_or-set_other, ext_get_or, Letter, I, letter_product, string_product, chooses, clash, length-string_product, get_or-string_product, PropagationState, AreMultiplied}
use Rattle.std.specs.Prelude.{◌⊎◌}

-- letters multiplied by those of a string, except for those that are left in the rest of a mask
pub record IsWalked (first rest : ℕ) (string old now : List Letter) : Type 0 where
  pub size : length now ≡ length old
  pub inside : (k : ℕ) → k < 64 → chooses rest k ≡ true → first + k < length old
  pub done : (k : ℕ) → k < 64 → chooses rest k ≡ false → get_or now (first + k) I ≡ letter_product (get_or old (first + k) I) (get_or string (first + k) I)
  pub left : (k : ℕ) → k < 64 → chooses rest k ≡ true → get_or now (first + k) I ≡ get_or old (first + k) I
  pub others : (q : ℕ) → (q < first) ⊎ (first + 64 ≤ q) → get_or now q I ≡ get_or old q I

module _ (first : ℕ) (string old : List Letter) where
  -- one letter further
  module _ (now : List Letter) (rest b : ℕ) (propagated : IsWalked first rest string old now) (lb : b < 64) (one : chooses rest b ≡ true) (l r : Letter)
      (el : l ≡ get_or now (first + b) I) (er : r ≡ letter_product l (get_or string (first + b) I)) (new : List Letter) (put : new ≡ set now (first + b) r)
      (next : ℕ) (gone : chooses next b ≡ false) (preserved : (j : ℕ) → j ≢ b → j < 64 → chooses next j ≡ chooses rest j) where
    other : (q : ℕ) → q ≢ first + b → get_or new q I ≡ get_or now q I
    other q distinct = ap (λ p. get_or p q I) put ∙ get_or-set_other now (first + b) q r I distinct

    here : get_or new (first + b) I ≡ letter_product (get_or old (first + b) I) (get_or string (first + b) I)
    here =
        ap (λ p. get_or p (first + b) I) put ∙ get_or-set_same now (first + b) r I (omega (arith, propagated.size, propagated.inside b lb one))
        ∙ er ∙ ap (λ x. letter_product x (get_or string (first + b) I)) (el ∙ propagated.left b lb one)

    inside-next : (j : ℕ) → j < 64 → chooses next j ≡ true → first + j < length old
    inside-next j lj chosen = by_position (cases_order j b)
      where
        distinct : j ≢ b → first + j < length old
        distinct ne = propagated.inside j lj (sym (preserved j ne lj) ∙ chosen)

        by_position : (j ≡ b) ⊎ ((j < b) ⊎ (b < j)) → first + j < length old
        by_position (inl e) = clash (chooses next b) (ap (chooses next) (sym e) ∙ chosen) gone
        by_position (inr (inl lt)) = distinct (omega arith)
        by_position (inr (inr gt)) = distinct (omega arith)

    done-next : (j : ℕ) → j < 64 → chooses next j ≡ false → get_or new (first + j) I ≡ letter_product (get_or old (first + j) I) (get_or string (first + j) I)
    done-next j lj none = by_position (cases_order j b)
      where
        distinct : j ≢ b → get_or new (first + j) I ≡ letter_product (get_or old (first + j) I) (get_or string (first + j) I)
        distinct ne = other (first + j) (omega arith) ∙ propagated.done j lj (sym (preserved j ne lj) ∙ none)

        by_position : (j ≡ b) ⊎ ((j < b) ⊎ (b < j)) → get_or new (first + j) I ≡ letter_product (get_or old (first + j) I) (get_or string (first + j) I)
        by_position (inl e) = subst (λ i. get_or new (first + i) I ≡ letter_product (get_or old (first + i) I) (get_or string (first + i) I)) (sym e) here
        by_position (inr (inl lt)) = distinct (omega arith)
        by_position (inr (inr gt)) = distinct (omega arith)

    left-next : (j : ℕ) → j < 64 → chooses next j ≡ true → get_or new (first + j) I ≡ get_or old (first + j) I
    left-next j lj chosen = by_position (cases_order j b)
      where
        distinct : j ≢ b → get_or new (first + j) I ≡ get_or old (first + j) I
        distinct ne = other (first + j) (omega arith) ∙ propagated.left j lj (sym (preserved j ne lj) ∙ chosen)

        by_position : (j ≡ b) ⊎ ((j < b) ⊎ (b < j)) → get_or new (first + j) I ≡ get_or old (first + j) I
        by_position (inl e) = clash (chooses next b) (ap (chooses next) (sym e) ∙ chosen) gone
        by_position (inr (inl lt)) = distinct (omega arith)
        by_position (inr (inr gt)) = distinct (omega arith)

    others-next : (q : ℕ) → (q < first) ⊎ (first + 64 ≤ q) → get_or new q I ≡ get_or old q I
    others-next q (inl lt) = other q (omega arith) ∙ propagated.others q (inl lt)
    others-next q (inr le) = other q (omega arith) ∙ propagated.others q (inr le)

    pub propagation-step : IsWalked first next string old new
    propagation-step = record {
      size = ap length put ∙ length-set now (first + b) r ∙ propagated.size;
      inside = inside-next;
      done = done-next;
      left = left-next;
      others = others-next;
    }

-- all letters before a position are multiplied, and none from there on
pub record IsMultipliedTo (k : ℕ) (string old now : List Letter) : Type 0 where
  pub size : length now ≡ length old
  pub done : (q : ℕ) → q < k → get_or now q I ≡ letter_product (get_or old q I) (get_or string q I)
  pub left : (q : ℕ) → k ≤ q → get_or now q I ≡ get_or old q I

-- 64 letters further
pub multiplied-word : (w : ℕ) (string old now new : List Letter) → IsMultipliedTo (64 * w) string old now → AreMultiplied (64 * w) string now new
    → IsMultipliedTo (64 * (w + 1)) string old new
multiplied-word w string old now new so then = record {
  size = then.size ∙ so.size;
  done = λ q lt. by_position q lt (cases_lt q (64 * w));
  left = λ q le. then.others q (inr (omega arith)) ∙ so.left q (omega arith);
}
  where
    by_position : (q : ℕ) → q < 64 * (w + 1) → (q < 64 * w) ⊎ (64 * w ≤ q) → get_or new q I ≡ letter_product (get_or old q I) (get_or string q I)
    by_position q lt (inl early) = then.others q (inl early) ∙ so.done q early
    by_position q lt (inr late) =
        subst (λ i. get_or new i I ≡ letter_product (get_or old i I) (get_or string i I)) (let e : 64 * w + (q - 64 * w) ≡ q = omega arith in e)
        (then.within (q - 64 * w) (omega arith)
        ∙ ap (λ x. letter_product x (get_or string (64 * w + (q - 64 * w)) I)) (so.left (64 * w + (q - 64 * w)) (omega arith)))

pub all-multiplied : (k : ℕ) (string old now : List Letter) → length string ≡ length old → length old ≤ k → IsMultipliedTo k string old now
    → now ≡ string_product old string
all-multiplied k string old now e le so =
    ext_get_or I now (string_product old string) (so.size ∙ sym (length-string_product (length old) old string refl e))
    (λ q lt. so.done q (let s = so.size in omega arith) ∙ sym (get_or-string_product old string q))

-- a frame of which the letters alone have changed

pub put-letters : (now new : PropagationState) (letters : List Letter) → new ≡ record now { letters = letters } → new.letters ≡ letters
put-letters now new letters is = ap (λ (w : PropagationState). w.letters) is

pub letters-alone : (now new : PropagationState) (letters : List Letter) → new ≡ record now { letters = letters } → new ≡ record now { letters = new.letters }
letters-alone now new letters is = is ∙ (λ i. record now { letters = sym (put-letters now new letters is) i })

pub still-alone : (w now new : PropagationState) → now ≡ record w { letters = now.letters } → new ≡ record now { letters = new.letters }
    → new ≡ record w { letters = new.letters }
still-alone w now new is then = then ∙ (λ i. record (is i) { letters = new.letters })
