-- Gates of a string: those of its letters, put after steps, multiply it onto the frame there.
use Rattle.stab_ways.proofs.Names.{◌≡◌, ℕ, zero, suc, ◌+◌, ◌<◌, ◌≤◌, refl, sym, ◌∙◌, ap, subst, Bool, List, [], ◌∷◌, ◌++◌, length, replicate, arith, append_assoc, append-nil, All-nil, All-cons, Letter, I, single, string_product, string_product-blank, string_product-blank_right, string_product-assoc, length-one_letter, length-string_product, letter_product-I, Step, one, gate_of, RunOutput, Frame, AreFronts, fronts-take-paulis, letter_gates}

-- the product of the letters, each at its qubit
abbrev pub product_from : ℕ → ℕ → List Letter → List Letter
product_from n q [] = replicate n I
product_from n q (l ∷ letters) = string_product (single n q l).letters (product_from n (suc q) letters)

shifted : (n q : ℕ) (letters : List Letter) → product_from (suc n) (suc q) letters ≡ I ∷ product_from n q letters
shifted n q [] = refl
shifted n q (l ∷ letters) = ap (string_product (I ∷ (single n q l).letters)) (shifted n (suc q) letters)

-- is the string
pub product-whole : (n : ℕ) (letters : List Letter) → length letters ≡ n → product_from n 0 letters ≡ letters
product-whole zero [] e = refl
product-whole zero (l ∷ letters) e = absurd (omega (arith, e))
product-whole (suc n) [] e = absurd (omega (arith, e))
product-whole (suc n) (l ∷ letters) e =
    ap (string_product (l ∷ replicate n I)) (shifted n 0 letters)
    ∙ (λ i. letter_product-I l i ∷ string_product (replicate n I) (product-whole n letters (omega (arith, e)) i))
    ∙ ap (λ s. l ∷ s) (string_product-blank n letters (omega (arith, e)))

module _ (n : ℕ) (coins others : ℕ → Bool) (us : List Step) (flips : RunOutput) where
  -- one letter
  pub letter-put : (vs : List Step) (f : Frame) (l : Letter) (q : ℕ) → q < n → AreFronts n coins others us vs f flips
      → AreFronts n coins others us (vs ++ one (gate_of l) q ∷ []) (record f { letters = string_product f.letters (single n q l).letters }) flips
  letter-put vs f l q lt fronts =
      let size = length-one_letter n q l in
      subst (λ ws. AreFronts n coins others ws (vs ++ one (gate_of l) q ∷ []) (record f { letters = string_product f.letters (single n q l).letters }) flips) (append-nil us)
      (subst (λ s. AreFronts n coins others (us ++ []) (vs ++ one (gate_of l) q ∷ []) (record f { letters = string_product f.letters s }) flips)
      (ap (string_product (replicate n I)) (string_product-blank_right n (single n q l).letters size) ∙ string_product-blank n (single n q l).letters size)
      (fronts-take-paulis n coins others us vs f flips I l [] (q ∷ []) (All-nil (λ q. q < n)) (All-cons (λ q. q < n) q [] lt (All-nil (λ q. q < n))) fronts))

  -- and one after another
  pub letters-put : (vs : List Step) (f : Frame) (q : ℕ) (letters : List Letter) → length f.letters ≡ n → q + length letters ≤ n → AreFronts n coins others us vs f flips
      → AreFronts n coins others us (vs ++ letter_gates q letters) (record f { letters = string_product f.letters (product_from n q letters) }) flips
  letters-put vs f q [] size le fronts =
      subst (λ ws. AreFronts n coins others us ws (record f { letters = string_product f.letters (replicate n I) }) flips) (sym (append-nil vs))
      (subst (λ s. AreFronts n coins others us vs (record f { letters = s }) flips) (sym (string_product-blank_right n f.letters size)) fronts)
  letters-put vs f q (l ∷ letters) size le fronts =
      let g : Step = one (gate_of l) q in
      let next : Frame = record f { letters = string_product f.letters (single n q l).letters } in
      subst (λ ws. AreFronts n coins others us ws (record f { letters = string_product f.letters (product_from n q (l ∷ letters)) }) flips)
      (append_assoc vs (g ∷ []) (letter_gates (suc q) letters))
      (subst (λ s. AreFronts n coins others us ((vs ++ g ∷ []) ++ letter_gates (suc q) letters) (record f { letters = s }) flips)
      (string_product-assoc f.letters (single n q l).letters (product_from n (suc q) letters))
      (letters-put (vs ++ g ∷ []) next (suc q) letters (length-string_product n f.letters (single n q l).letters size (length-one_letter n q l)) (omega (arith, le))
      (letter-put vs f l q (omega (arith, le)) fronts)))
