-- Listed: what was listed of a string from a position on, listed again one by one.
use Rattle.std.specs.Prelude.{◌^◌}
use Rattle.stab_ways.proofs.Names.{◌≡◌, ℕ, ◌+◌, ◌-◌, ◌<◌, ◌≤◌, sym, ◌∙◌, ap, subst, List, [], ◌∷◌, ◌++◌, length, take, drop, map, All, get_or, arith, append_assoc, length-append, length-map, length-drop, map-append, take_more, Turn, turn_shown}
use Rattle.std.proofs.lemmas.List.{get_or-map, get_or-drop, get_or_append_left}
use Rattle.stab_ways.specs.declared.way.Turn.{Turn as TurnValue}
use Rattle.stab_ways.specs.inner.Folds.{later}

module _ (from position steps : ℕ) (xs now : List Turn) (values : List TurnValue) (value : TurnValue) (over : ℕ)
    (is : now ≡ xs ++ map (later steps) (take over (drop from xs))) (shown : now ≡ map turn_shown values) (lt : position < length xs) where
  pub in-range : position < length values
  in-range = omega (arith, lt, ap length is, length-append xs (map (later steps) (take over (drop from xs))), ap length shown, length-map values turn_shown)

  module _ (read : value ≡ get_or values position value) where
    pub listed-there : turn_shown value ≡ get_or xs position (turn_shown value)
    listed-there =
        ap turn_shown read
        ∙ sym (get_or-map turn_shown values position value (turn_shown value) in-range)
        ∙ ap (λ l. get_or l position (turn_shown value)) (sym shown ∙ is)
        ∙ get_or_append_left xs (map (later steps) (take over (drop from xs))) (turn_shown value) position lt

    module _ (le : from ≤ position) where
      rest : get_or (drop from xs) (position - from) (turn_shown value) ≡ turn_shown value
      rest =
          let there : from + (position - from) ≡ position = omega (arith, le) in
          get_or-drop from xs (position - from) (turn_shown value) ∙ ap (λ k. get_or xs k (turn_shown value)) there ∙ sym listed-there

      within : position - from < length (drop from xs)
      within = omega (arith, length-drop from xs, le, lt)

      pub few-there : All (λ (t : Turn). t.after + steps < 2 ^ 63) (drop from xs) → value.after + steps < 2 ^ 63
      few-there all = subst (λ (t : Turn). t.after + steps < 2 ^ 63) rest (all (position - from) (turn_shown value) within)

      pub listed-further : (new : List Turn) → over ≡ position - from → new ≡ now ++ later steps (turn_shown value) ∷ []
          → new ≡ xs ++ map (later steps) (take ((position + 1) - from) (drop from xs))
      listed-further new same put =
          let further : (position - from) + 1 ≡ (position + 1) - from = omega (arith, le) in
          put
          ∙ ap (λ l. l ++ later steps (turn_shown value) ∷ []) (is ∙ ap (λ k. xs ++ map (later steps) (take k (drop from xs))) same)
          ∙ append_assoc xs (map (later steps) (take (position - from) (drop from xs))) (later steps (turn_shown value) ∷ [])
          ∙ ap (λ l. xs ++ l)
          (sym (map-append (later steps) (take (position - from) (drop from xs)) (turn_shown value ∷ []))
          ∙ ap (map (later steps))
          (sym (take_more (drop from xs) (position - from) (turn_shown value) within ∙ ap (λ t. take (position - from) (drop from xs) ++ t ∷ []) rest)
          ∙ ap (λ k. take k (drop from xs)) further))
