-- Pauli spans: what two lists of steps have in common that differ within a span by Pauli gates alone, before pieces that both share.
use Rattle.stab_session.proofs.Names.{◌≡◌, ℕ, ◌+◌, ◌-◌, ◌≤◌, refl, sym, ◌∙◌, ap, subst, Bool, List, [], ◌∷◌, ◌++◌, append_assoc, All, length, map, take, drop, Option, arith, take-append-drop, drop-drop, All-nil, All-cons, All-append, All-take, All-drop, Letter, Step, one, Span, gate_of, Point, RunOutput, origin, point_after, outputs, StepFits, rest-output, AreTrue, LooksWithin, true-append, true-front, true-rest, interleaved, DifferByPaulis}
use Rattle.stab_session.proofs.SamePivotsLemmas.{AreSamePivots, interleaved-same, all-front, all-rest}

-- Pauli gates look back to nothing

gates-look-within : (window : ℕ) (l : Letter) (qs : List ℕ) → All (LooksWithin window) (map (one (gate_of l)) qs)
gates-look-within window l [] = All-nil (LooksWithin window)
gates-look-within window l (q ∷ qs) = All-cons (LooksWithin window) (one (gate_of l) q) (map (one (gate_of l)) qs) refl (gates-look-within window l qs)

interleaved-look-within : (window : ℕ) (olds news : List Step) (pieces : List (List Step)) (back : List Step) → All (LooksWithin window) news
    → All (LooksWithin window) (interleaved olds pieces ++ back) → All (LooksWithin window) (interleaved news pieces ++ back)
interleaved-look-within window olds news [] back gates near = near
interleaved-look-within window olds news (p ∷ ps) back gates near =
    subst (All (LooksWithin window)) (sym (regrouped news (interleaved news ps)))
    (All-append (LooksWithin window) news (p ++ (interleaved news ps ++ back)) gates
    (All-append (LooksWithin window) p (interleaved news ps ++ back) (all-front (LooksWithin window) p (interleaved olds ps ++ back) later)
    (interleaved-look-within window olds news ps back gates (all-rest (LooksWithin window) p (interleaved olds ps ++ back) later))))
  where
    regrouped : (gates more : List Step) → gates ++ (p ++ more) ++ back ≡ gates ++ (p ++ (more ++ back))
    regrouped gates more = append_assoc gates (p ++ more) back ∙ ap (λ l. gates ++ l) (append_assoc p more back)

    later : All (LooksWithin window) (p ++ (interleaved olds ps ++ back))
    later =
        all-rest (LooksWithin window) olds (p ++ (interleaved olds ps ++ back))
        (subst (All (LooksWithin window)) (regrouped olds (interleaved olds ps)) near)

-- the steps from one step on, by those up to another
left-is : (first end : ℕ) (xs zs : List Step) → first ≤ end → take (end - first) (drop first xs) ≡ zs → drop first xs ≡ zs ++ drop end xs
left-is first end xs zs le is =
    sym (take-append-drop (end - first) (drop first xs))
    ∙ (λ i. is i ++ (drop-drop (end - first) first xs ∙ ap (λ k. drop k xs) {x = first + (end - first)} {y = end} (omega (arith, le))) i)

-- two lists of steps that differ by Pauli gates in a span

module _ {n : ℕ} {xs ys : List Step} {s : Span} {letters : List Letter} {i j : ℕ} {gaps : List ℕ} (old_order : s.first ≤ s.old_end) (new_order : s.first ≤ s.new_end)
    (d : DifferByPaulis n xs ys s letters i j gaps) where
  pub old-left : drop s.first xs ≡ interleaved d.old_gates d.pieces ++ drop s.old_end xs
  old-left = left-is s.first s.old_end xs (interleaved d.old_gates d.pieces) old_order d.old

  pub new-left : drop s.first ys ≡ interleaved d.new_gates d.pieces ++ drop s.new_end ys
  new-left = left-is s.first s.new_end ys (interleaved d.new_gates d.pieces) new_order d.new

  module _ (front : take s.first xs ≡ take s.first ys) (following : drop s.old_end xs ≡ drop s.new_end ys) where
    -- the one looks back no further than the other
    pub span-near : (window : ℕ) → All (LooksWithin window) xs → All (LooksWithin window) ys
    span-near window near =
        subst (All (LooksWithin window)) (take-append-drop s.first ys)
        (All-append (LooksWithin window) (take s.first ys) (drop s.first ys)
        (subst (All (LooksWithin window)) front (All-take (LooksWithin window) s.first xs near))
        (subst (All (LooksWithin window)) (sym new-left)
        (interleaved-look-within window d.old_gates d.new_gates d.pieces (drop s.new_end ys)
        (subst (All (LooksWithin window)) (sym d.new_are.steps) (gates-look-within window d.new_letter d.new_qubits))
        (subst (All (LooksWithin window)) (old-left ∙ ap (λ zs. interleaved d.old_gates d.pieces ++ zs) following) (All-drop (LooksWithin window) s.first xs near)))))

    module _ (coins : ℕ → Bool) (strings : ℕ → Option (List Letter)) (old_fit : All (StepFits n) xs) (new_fit : All (StepFits n) ys) where
      abbrev here : Point
      here = point_after n coins (take s.first xs) origin

      olds_are : drop s.first xs ≡ interleaved (map (one (gate_of d.old_letter)) d.old_qubits) d.pieces ++ drop s.new_end ys
      olds_are = old-left ∙ (λ t. interleaved (d.old_are.steps t) d.pieces ++ following t)

      news_are : drop s.first ys ≡ interleaved (map (one (gate_of d.new_letter)) d.new_qubits) d.pieces ++ drop s.new_end ys
      news_are = new-left ∙ (λ t. interleaved (d.new_are.steps t) d.pieces ++ drop s.new_end ys)

      same : AreSamePivots n coins strings (drop s.first xs) (drop s.first ys) here
      same =
          subst (λ x. x) (λ t. AreSamePivots n coins strings (sym olds_are t) (sym news_are t) here)
          (interleaved-same n coins strings d.old_letter d.new_letter d.old_qubits d.new_qubits d.old_are.fit d.new_are.fit d.pieces (drop s.new_end ys) here
          (subst (All (StepFits n)) news_are (All-drop (StepFits n) s.first ys new_fit))
          (record { steps = take s.first xs; fit = All-take (StepFits n) s.first xs old_fit; is = refl }))

      -- what was recorded of the one run is true of it with the steps of the other from the span on
      pub span-true : AreTrue n coins strings xs origin → AreTrue n coins strings (drop s.first ys) here
      span-true are =
          same.are_true
          (true-rest n coins strings (take s.first xs) (drop s.first xs) origin
          (subst (λ zs. AreTrue n coins strings zs origin) (sym (take-append-drop s.first xs)) are))

      -- and of the other run
      pub span-true-all : AreTrue n coins strings xs origin → AreTrue n coins strings ys origin
      span-true-all are =
          subst (λ zs. AreTrue n coins strings zs origin) (ap (λ zs. zs ++ drop s.first ys) front ∙ take-append-drop s.first ys)
          (true-append n coins strings (take s.first xs) (drop s.first ys) origin
          (true-front n coins strings (take s.first xs) (drop s.first xs) origin
          (subst (λ zs. AreTrue n coins strings zs origin) (sym (take-append-drop s.first xs)) are))
          (span-true are))

      pub span-randomness : (outputs n coins (drop s.first ys) here).free ≡ drop (length (outputs n coins (take s.first xs) origin).free) (outputs n coins xs origin).free
      span-randomness = same.randomness ∙ ap (λ (o : RunOutput). o.free) (sym (rest-output n coins xs s.first))
