-- Laws of packing: the bytes of a lane that is packed with others, of which some are sent.
use Rattle.stab_commands.proofs.Names.{◌≡◌, ◌∙◌, ℕ, ◌+◌, ◌*◌, ◌/◌, ◌%◌, ◌<◌, List, Bool, ap, arith, word_bit, lane_bits, lane_bytes, column-lane}

regroup : (first sent k : ℕ) → first + (sent + k) ≡ first + sent + k
regroup first sent k = omega arith

regroup_next : (first sent k : ℕ) → first + (sent + 64 + k) ≡ first + sent + 64 + k
regroup_next first sent k = omega arith

module _ (pack : List Bool → List ℕ) (sent lanes first k : ℕ) (bytes_of : ℕ → List ℕ) (within : sent + k < lanes) where
  -- lane k of eight is lane k after those sent
  pub packed_of_eight : (words column : List ℕ) → sent % 8 ≡ 0 → k < 8 → ((l : ℕ) → l < lanes → pack (lane_bits word_bit l words) ≡ bytes_of (first + l))
      → column ≡ lane_bytes (sent / 8) words → pack (lane_bits word_bit k column) ≡ bytes_of (first + sent + k)
  packed_of_eight words column eight few are is =
      let position : 8 * (sent / 8) + k ≡ sent + k = omega (arith, eight) in
      ap (λ c. pack (lane_bits word_bit k c)) is
      ∙ ap pack (column-lane (sent / 8) k words few)
      ∙ ap (λ l. pack (lane_bits word_bit l words)) position ∙ are (sent + k) within ∙ ap bytes_of (regroup first sent k)

  -- lane k of 64 is lane k after those sent
  pub packed_of_part : {W : Type 0} (at : W → ℕ → Bool) (words : List W) (part : List ℕ) → sent % 64 ≡ 0 → ((l : ℕ) → l < lanes → pack (lane_bits at l words) ≡ bytes_of (first + l))
      → lane_bits word_bit k part ≡ lane_bits at (64 * (sent / 64) + k) words → pack (lane_bits word_bit k part) ≡ bytes_of (first + sent + k)
  packed_of_part at words part whole are is =
      let position : 64 * (sent / 64) + k ≡ sent + k = omega (arith, whole) in
      ap pack is
      ∙ ap (λ l. pack (lane_bits at l words)) position ∙ are (sent + k) within ∙ ap bytes_of (regroup first sent k)

  -- lane k of the 64 after the next 64 is lane 64 + k after those sent
  pub packed_of_next : {W : Type 0} (at : W → ℕ → Bool) (words : List W) (part : List ℕ) (next : ℕ) → sent % 128 ≡ 0 → next ≡ sent / 64 + 1 → sent + 64 + k < lanes
      → ((l : ℕ) → l < lanes → pack (lane_bits at l words) ≡ bytes_of (first + l))
      → lane_bits word_bit k part ≡ lane_bits at (64 * next + k) words → pack (lane_bits word_bit k part) ≡ bytes_of (first + sent + 64 + k)
  packed_of_next at words part next whole following few are is =
      let position : 64 * next + k ≡ sent + 64 + k = omega (arith, whole, following) in
      ap pack is
      ∙ ap (λ l. pack (lane_bits at l words)) position ∙ are (sent + 64 + k) few ∙ ap bytes_of (regroup_next first sent k)
