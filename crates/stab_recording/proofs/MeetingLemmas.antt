-- Meetings: lists whose newest records are the same.
use Rattle.stab_recording.proofs.Names.{◌≡◌, ℕ, ◌-◌, ◌≤◌, sym, ◌∙◌, ap, subst, Bool, inl, inr, List, length, take, drop, arith, cases_lt, length-drop, take-append-drop, looked_up, looked_up-near}

-- records that end with the same ones are the same as far back as these
pub looked-last : (m k : ℕ) (xs ys : List Bool) → drop (length xs - m) xs ≡ drop (length ys - m) ys → k ≤ m → looked_up xs k ≡ looked_up ys k
looked-last m k xs ys last le =
    elim (cases_lt (length (drop (length xs - m) xs)) k) [
      | inl lt ↦
          ap (λ l. looked_up l k)
          (sym (ap (λ i. drop i xs) {y = 0} (omega (arith, lt, length-drop (length xs - m) xs)))
          ∙ last
          ∙ ap (λ i. drop i ys) {y = 0} (omega (arith, lt, ap length last, length-drop (length ys - m) ys)))
      | inr near ↦
          ap (λ l. looked_up l k) (sym (take-append-drop (length xs - m) xs))
          ∙ looked_up-near (take (length xs - m) xs) (drop (length xs - m) xs) k near
          ∙ ap (λ l. looked_up l k) last
          ∙ sym (looked_up-near (take (length ys - m) ys) (drop (length ys - m) ys) k (subst (λ l. k ≤ length l) last near))
          ∙ ap (λ l. looked_up l k) (take-append-drop (length ys - m) ys)
    ]
