-- Conjugated pivots: the strings of a run that goes on again over steps, from a point that differs by letters alone, with other coins.
use Rattle.stab_recording.proofs.Names.{◌≡◌, ℕ, ◌+◌, ◌<◌, ◌≤◌, sym, ◌∙◌, ap, Bool, inl, inr, List, ◌++◌, length, take, drop, All, arith, take_at, take_all, length-append, cases_lt, All-append, Letter, Step, ones, Point, origin, all_coins_of, point_after, outputs, PivotsState, AreTrue, pivot_at, stored_with, LooksWithin, ArePropagatedOver, KeepsPivotList, HasStringsAgain}
use Rattle.stab_recording.proofs.PivotLemmas.{numbered-again, true-again}

again-unchanged : (n : ℕ) (coins : ℕ → Bool) (xs part : List Step) (s u : PivotsState) (randomness : List Bool) (c d window : ℕ) (a : Point) → KeepsPivotList n coins xs s randomness window
    → randomness ≡ (outputs n coins xs origin).free → a.coin ≡ c → AreTrue n coins (pivot_at s.strings randomness) part a → ArePropagatedOver n coins part a (point_after n coins xs origin)
    → d ≡ c + all_coins_of part → ones (take d randomness) ≤ length s.strings → All (LooksWithin window) part
    → u ≡ record s { strings = stored_with s.most s.strings (drop (ones (take c randomness)) (take (ones (take d randomness)) s.strings)) }
    → KeepsPivotList n coins (xs ++ part) u (randomness ++ drop c (take d randomness)) window
again-unchanged n coins xs part s u randomness c d window a has_pivots is at true_then conjugated last preserved near new = record {
  size = ap (λ (t : PivotsState). t.qubits) new ∙ has_pivots.size;
  numbered = numbered-again n coins xs part s u randomness c d a has_pivots.numbered is at last preserved new;
  are_true = true-again n coins xs part s u randomness c d a has_pivots.numbered is at last preserved new has_pivots.are_true true_then conjugated;
  near = All-append (LooksWithin window) xs part has_pivots.near near;
}

-- if further ones are stored, all were, and there may be as many more

pub has_pivots-conjugated : (n : ℕ) (coins : ℕ → Bool) (xs part : List Step) (s u : PivotsState) (randomness : List Bool) (c d window : ℕ) (a : Point) → KeepsPivotList n coins xs s randomness window
    → randomness ≡ (outputs n coins xs origin).free → a.coin ≡ c → AreTrue n coins (pivot_at s.strings randomness) part a → ArePropagatedOver n coins part a (point_after n coins xs origin)
    → d ≡ c + all_coins_of part → ones (take d randomness) ≤ length s.strings → All (LooksWithin window) part
    → HasStringsAgain (ones (take c randomness)) (ones (take d randomness)) s u
    → KeepsPivotList n coins (xs ++ part) u (randomness ++ drop c (take d randomness)) window
has_pivots-conjugated n coins xs part s u randomness c d window a has_pivots is at true_then conjugated last preserved near (inl full) =
    again-unchanged n coins xs part s u randomness c d window a has_pivots is at true_then conjugated last preserved near
    (full.1 ∙ ap (λ l. record s { strings = l }) (sym (take_at s.strings (drop (ones (take c randomness)) (take (ones (take d randomness)) s.strings)) s.most full.0)))
has_pivots-conjugated n coins xs part s u randomness c d window a has_pivots is at true_then conjugated last preserved near (inr more) =
    again-unchanged n coins xs part (record s { most = s.most + length others }) u randomness c d window a
    (record {
      size = has_pivots.size;
      numbered = omega (arith, has_pivots.numbered, room);
      are_true = has_pivots.are_true;
      near = has_pivots.near;
    }) is at true_then conjugated last preserved near
    (more.1
    ∙ ap (λ l. record s { most = s.most + length others; strings = l })
    (sym (take_all (s.most + length others) (s.strings ++ others) (omega (arith, room, length-append s.strings others)))))
  where
    room : length s.strings < s.most
    room =
        elim (cases_lt (length s.strings) s.most) [
          | inl lt ↦ lt
          | inr le ↦ absurd (more.0 (omega (arith, has_pivots.numbered, le)))
        ]

    others : List (List Letter)
    others = drop (ones (take c randomness)) (take (ones (take d randomness)) s.strings)
