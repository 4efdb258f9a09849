-- Stored strings: cut, and with others or some of themselves put after them one after another.
use Rattle.stab_frames.proofs.Names.{◌≡◌, ℕ, ◌+◌, ◌-◌, ◌*◌, ◌/◌, ◌<◌, ◌≤◌, sym, ◌∙◌, ap, Bool, true, false, inl, inr, All, List, [], ◌∷◌, ◌++◌, append_assoc, length, map, take, drop, min, get_or, nat_le, arith, max, if◌then◌else◌, div-mul-le_self, leb_tells, take-map, take_more, take_all, length-take, length-drop, length-map, get_or-map, get_or_append_left, get_or-drop, get_or-take, Letter, bytes_of, most_strings, PivotsState, front_stored}

module _ {A : Type 0} (letters : A → List Letter) where
  pub letters_front : (count : ℕ) (strings : List A) → map letters (take count strings) ≡ take count (map letters strings)
  letters_front count strings = sym (take-map letters count strings)

  -- all have as many letters if others with these letters have
  pub all-alike : (n : ℕ) (stored strings : List A) → map letters stored ≡ map letters strings → All (λ p. length (letters p) ≡ n) strings → All (λ p. length (letters p) ≡ n) stored
  all-alike n stored strings same all k d lt =
      ap length
      (sym (get_or-map letters stored k d (letters d) lt) ∙ ap (λ l. get_or l k (letters d)) same ∙ get_or-map letters strings k d (letters d) within)
      ∙ all k d within
    where
      within : k < length strings
      within = omega (arith, lt, ap length same, length-map stored letters, length-map strings letters)

-- strings with those from one number up to another after them again, one after another
module _ (strings : List (List Letter)) (from to : ℕ) where
  abbrev others : List (List Letter)
  others = drop from (take to strings)

  pub one-again : (number : ℕ) → from ≤ number → number < to → number < length strings
      → (strings ++ take (number - from) others) ++ get_or (strings ++ take (number - from) others) number [] ∷ []
      ≡ strings ++ take ((number + 1) - from) others
  one-again number begun before within =
      append_assoc strings (take (number - from) others) (get_or (strings ++ take (number - from) others) number [] ∷ [])
      ∙ ap (λ s. strings ++ (take (number - from) others ++ s ∷ [])) same
      ∙ ap (λ l. strings ++ l) (sym (take_more others (number - from) [] few))
      ∙ ap (λ k. strings ++ take k others) {x = (number - from) + 1} {y = (number + 1) - from} (omega (arith, begun))
    where
      few : number - from < length others
      few = omega (arith, begun, before, within, length-drop from (take to strings), length-take to strings)

      same : get_or (strings ++ take (number - from) others) number [] ≡ get_or others (number - from) []
      same =
          get_or_append_left strings (take (number - from) others) [] number within
          ∙ sym
          (get_or-drop from (take to strings) (number - from) []
          ∙ ap (λ k. get_or (take to strings) k []) {x = from + (number - from)} {y = number} (omega (arith, begun))
          ∙ get_or-take to strings number [] before)

  pub all-again : (count : ℕ) → length others ≤ count → take count others ≡ others
  all-again count le = take_all count others le

  pub many-again : length others ≡ min to (length strings) - from
  many-again = omega (arith, length-drop from (take to strings), length-take to strings)

-- a copy of the first ones is within its limit, which is as far above that of all lists as the copy is long, at most
pub front-limit : (count : ℕ) (s : PivotsState) (size : ℕ) → size ≡ min count (length s.strings) → length s.strings ≤ s.most
    → s.most ≤ most_strings s.qubits + length s.strings → (size ≤ (front_stored count s).most) × ((front_stored count s).most ≤ most_strings s.qubits + size)
front-limit count s size is within raised =
    elim (leb_tells count (length s.strings)) [
      | inl h ↦
          let limit = of true h.0 in
          let le = h.1 in
          (omega (arith, is, le, limit), omega (arith, is, le, limit))
      | inr h ↦
          let limit = of false h.0 in
          let lt = h.1 in
          (omega (arith, is, lt, limit, within), omega (arith, is, lt, limit, raised))
    ]
  where
    of : (b : Bool) → nat_le count (length s.strings) ≡ b → (front_stored count s).most ≡ (if b then max (most_strings s.qubits) count else s.most)
    of b e = ap (λ c. if c then max (most_strings s.qubits) count else s.most) e
