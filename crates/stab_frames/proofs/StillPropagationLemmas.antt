-- Still propagations: a frame after measurements with which it commutes, and what it has flipped, flipped again.
use Rattle.stab_frames.proofs.Names.{◌≡◌, ℕ, zero, suc, ◌+◌, ◌-◌, ◌<◌, ◌≤◌, refl, sym, ◌∙◌, ap, subst, Bool, true, false, ◌&&◌, List, [], ◌∷◌, ◌++◌, append-nil, length, take, drop, replicate, map, All, arith, list_any, take_all, length-replicate, length-take, All-tail, All-head, Letter, single, MeasureTarget, Measurement, letter_of, measured, Addition, joined-nothing, joined-assoc, ones, flip_of, joined, StepFits, or-left, or-right, times_where, PropagationState, IsPlaced, GoesOver, none_flipped, touches_target}
use Rattle.stab_run.specs.Cuts.{rest_of}
use Rattle.stab_run.specs.declared.records.Lengths.{Lengths}
use Rattle.stab_frames.proofs.FactorLemmas.{single-anticommute}
use Rattle.stab_frames.proofs.RandomLemmas.{ones-split}
use Rattle.stab_frames.proofs.MeasuredPropagatedLemmas.{passed-alike}
use Rattle.stab_frames.proofs.GoesOverLemmas.{goes-none, goes-append, goes-collapse, fits-mapped, all-mapped}
use Rattle.stab_frames.proofs.PropagationLemmas.{ones-few}

-- a propagation after this many coins and as many records, none of which it flips
abbrev pub still_after : ℕ → ℕ → PropagationState → PropagationState
still_after k number w = record w { flips = joined w.flips (none_flipped k); coin = w.coin + k; number = number }

-- its flips and its numbers, as a program has them

pub more-zeros : (bits more : List Bool) (n len k : ℕ) → len ≡ length bits → n ≡ len + k → more ≡ take n bits ++ replicate (n - len) false
    → more ≡ bits ++ replicate k false
more-zeros bits more n len k el en e = e ∙ (λ i. take_all n bits (omega (arith, el, en)) i ++ replicate (rest i) false)
  where
    rest : n - len ≡ k
    rest = omega (arith, en)

pub ones-within : (k : ℕ) (bits : List Bool) → ones (take k bits) ≤ k
ones-within k bits = omega (arith, ones-few (take k bits), length-take k bits)

-- a zero for each of some bits and of more
pub zeros-append : (bits more : List Bool) → replicate (length (bits ++ more)) false ≡ replicate (length bits) false ++ replicate (length more) false
zeros-append [] more = refl
zeros-append (bit ∷ bits) more = ap (λ zeros. false ∷ zeros) (zeros-append bits more)

pub still-view : (letters : List Letter) (records more outcomes others detectors free : List Bool) (additions : List Addition) (coin number found k : ℕ) (w : PropagationState)
    → ◌≡◌ {A = PropagationState}
    (record { letters = letters; flips = record { records = records; free = replicate (length outcomes) false; outcomes = outcomes; detectors = detectors; additions = additions }; coin = coin; number = number })
    w
    → more ≡ records ++ replicate k false → others ≡ outcomes ++ replicate k false → found ≡ ones (take k (drop coin free))
    → ◌≡◌ {A = PropagationState}
    (record { letters = letters; flips = record { records = more; free = replicate (length others) false; outcomes = others; detectors = detectors; additions = additions }; coin = coin + k; number = number + found })
    (still_after k (w.number + ones (take k (drop w.coin free))) w)
still-view letters records more outcomes others detectors free additions coin number found k w e em eo ef =
    (λ i. record {
      letters = letters;
      flips = record {
        records = em i;
        free = (ap (λ bits. replicate (length bits) false) eo ∙ zeros-append outcomes (replicate k false) ∙ ap (λ j. replicate (length outcomes) false ++ replicate j false) (length-replicate k false)) i;
        outcomes = eo i;
        detectors = sym (append-nil detectors) i;
        additions = sym (append-nil additions) i;
      };
      coin = coin + k;
      number = number + ef i;
    })
    ∙ ap (λ (v : PropagationState). still_after k (v.number + ones (take k (drop v.coin free))) v) e

-- and if what it has flipped since is flipped again

zeros-rest : (k : ℕ) (bits : List Bool) → replicate (length (drop k bits)) false ≡ drop k (replicate (length bits) false)
zeros-rest zero bits = refl
zeros-rest (suc k) [] = refl
zeros-rest (suc k) (bit ∷ bits) = zeros-rest k bits

pub again-view : (letters : List Letter) (records more outcomes others detectors tests : List Bool) (additions sums : List Addition) (coin number coins : ℕ) (from : Lengths) (w : PropagationState)
    → ◌≡◌ {A = PropagationState}
    (record { letters = letters; flips = record { records = records; free = replicate (length outcomes) false; outcomes = outcomes; detectors = detectors; additions = additions }; coin = coin; number = number })
    w
    → more ≡ records ++ drop from.records records → others ≡ outcomes ++ drop from.free outcomes
    → tests ≡ detectors ++ drop from.detectors detectors → sums ≡ additions ++ drop from.additions additions
    → ◌≡◌ {A = PropagationState}
    (record { letters = letters; flips = record { records = more; free = replicate (length others) false; outcomes = others; detectors = tests; additions = sums }; coin = coin + coins; number = number })
    (record w { flips = joined w.flips (rest_of from w.flips); coin = w.coin + coins })
again-view letters records more outcomes others detectors tests additions sums coin number coins from w e em eo et es =
    (λ i. record {
      letters = letters;
      flips = record {
        records = em i;
        free = (ap (λ bits. replicate (length bits) false) eo ∙ zeros-append outcomes (drop from.free outcomes) ∙ ap (λ bits. replicate (length outcomes) false ++ bits) (zeros-rest from.free outcomes)) i;
        outcomes = eo i;
        detectors = et i;
        additions = es i;
      };
      coin = coin + coins;
      number = number;
    })
    ∙ ap (λ (v : PropagationState). record v { flips = joined v.flips (rest_of from v.flips); coin = v.coin + coins }) e

-- over measurements with which it commutes, one of them and all

not-reset : (resets : Bool) (string letters : List Letter) → letters ≡ times_where (resets && false) string letters
not-reset true string letters = refl
not-reset false string letters = refl

module _ (n : ℕ) (strings : List (List Letter)) (free : List Bool) (draw : ℕ → Bool) (still : (coin : ℕ) → draw coin ≡ false) (how : Measurement) where
  step-still : (t : MeasureTarget) (old : PropagationState) → t.qubit < n → touches_target old.letters (letter_of how.axis) t ≡ false → length old.letters ≡ n
      → GoesOver n strings free draw (measured how t ∷ []) old (still_after 1 (ones (take (old.coin + 1) free)) old)
  step-still t old lt e size =
      goes-collapse n strings free draw (letter_of how.axis) t.qubit true t.inverted how.resets false false old mid mid (still_after 1 (ones (take (old.coin + 1) free)) old)
      (single-anticommute n t.qubit (letter_of how.axis) old.letters size lt ∙ e)
      (passed-alike strings free draw false false old mid (λ is. still old.coin) refl refl refl refl refl) size
      (ap (λ letters. record mid { letters = letters }) (not-reset how.resets (single (length mid.letters) t.qubit (flip_of (letter_of how.axis))).letters mid.letters))
      refl
      size
    where
      mid : PropagationState
      mid = record old { coin = old.coin + 1; number = ones (take (old.coin + 1) free) }

  steps-still : (targets : List MeasureTarget) (number : ℕ) (old : PropagationState)
      → All (λ t. t.qubit < n) targets → list_any (touches_target old.letters (letter_of how.axis)) targets ≡ false → length old.letters ≡ n
      → IsPlaced free old → number ≡ ones (take (old.coin + length targets) free)
      → GoesOver n strings free draw (map (measured how) targets) old (still_after (length targets) number old)
  steps-still [] number old fits e size placed after = subst (λ w. GoesOver n strings free draw [] old w) same (goes-none n strings free draw old placed size)
    where
      no_more : old.coin ≡ old.coin + 0
      no_more = omega arith

      same : old ≡ still_after 0 number old
      same = λ i. record {
        letters = old.letters;
        flips = sym (joined-nothing old.flips) i;
        coin = no_more i;
        number = (placed ∙ ap (λ k. ones (take k free)) no_more ∙ sym after) i;
      }
  steps-still (t ∷ targets) number old fits e size placed after =
      goes-append n strings free draw (measured how t ∷ []) (map (measured how) targets) old mid (still_after (suc (length targets)) number old)
      (step-still t old (All-head (λ x. x.qubit < n) t targets fits) (or-left (touches t) (list_any touches targets) e) size)
      (subst (λ w. GoesOver n strings free draw (map (measured how) targets) mid w) same
      (steps-still targets number mid (All-tail (λ x. x.qubit < n) t targets fits) (or-right (touches t) (list_any touches targets) e) size refl
      (after ∙ ap (λ k. ones (take k free)) (sym more))))
    where
      touches : MeasureTarget → Bool
      touches = touches_target old.letters (letter_of how.axis)

      mid : PropagationState
      mid = still_after 1 (ones (take (old.coin + 1) free)) old

      more : (old.coin + 1) + length targets ≡ old.coin + suc (length targets)
      more = omega arith

      same : still_after (length targets) number mid ≡ still_after (suc (length targets)) number old
      same = λ i. record {
        letters = old.letters;
        flips = joined-assoc old.flips (none_flipped 1) (none_flipped (length targets)) i;
        coin = more i;
        number = number;
      }

pub targets-fit : (n : ℕ) (how : Measurement) (targets : List MeasureTarget) → All (StepFits n) (map (measured how) targets) → All (λ t. t.qubit < n) targets
targets-fit n how targets fits = λ i d lt. fits-mapped n n (measured how) targets i d fits lt refl

pub goes-still : (n : ℕ) (strings : List (List Letter)) (free : List Bool) (draw : ℕ → Bool) (how : Measurement) (targets : List MeasureTarget) (l : Letter)
    (old new : PropagationState) → ((coin : ℕ) → draw coin ≡ false)
    → l ≡ letter_of how.axis → All (StepFits n) (map (measured how) targets) → list_any (touches_target old.letters l) targets ≡ false → length old.letters ≡ n
    → IsPlaced free old → new ≡ still_after (length targets) (old.number + ones (take (length targets) (drop old.coin free))) old
    → GoesOver n strings free draw (take (length targets) (map (measured how) targets)) old new
goes-still n strings free draw how targets l old new still el fits e size placed is =
    subst (λ w. GoesOver n strings free draw (take (length targets) (map (measured how) targets)) old w) (sym is)
    (subst (λ xs. GoesOver n strings free draw xs old (still_after (length targets) number old)) (all-mapped (measured how) targets (map (measured how) targets) refl)
    (steps-still n strings free draw still how targets number old (targets-fit n how targets fits) (ap (λ k. list_any (touches_target old.letters k) targets) (sym el) ∙ e) size
    placed (ap (λ j. j + ones (take (length targets) (drop old.coin free))) placed ∙ sym (ones-split old.coin (length targets) free))))
  where
    number : ℕ
    number = old.number + ones (take (length targets) (drop old.coin free))
