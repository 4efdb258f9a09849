-- Laws of the rows of coins: the steps that take coins, and the rows of lanes and of a whole table.
use Rattle.stab_commands.proofs.Names.{◌≡◌, refl, sym, ap, ap₂, ◌∙◌, subst, ℕ, zero, suc, ◌+◌, ◌*◌, ◌/◌, ◌%◌, ◌<◌, ◌≤◌, Bool, List, [], ◌∷◌, ◌++◌, append_assoc, append-nil, length, map, get_or, arith, flat_map, get_or-map, length-append, length-map, map-append, Items, qubits_of, unroll, detectors_of, observables_of, length-flipped, bits_in, run_of, kinds_detectors, lane_bits, ShotBits, flips_of, coin_flipped, zero_coins, step_of_coin, AreCoinRuns, deciding_coins, CoinRow, row_by, table_of, CoinRuns, FaultLayout, coin_entry, coins_text, whole_bits, whole_kinds, checked_bits, texts_from, HaveFlips, flips_at, text_at}
use Rattle.stab_commands.proofs.CoinPositionLemmas.{randomness-of-run, free-step-within}
use Rattle.stab_commands.proofs.CountLaws.{numbers_of_runs}

-- where coins decide

-- the step at a position is the one that takes the coin there
pub step_of_position : (n : ℕ) (items : Items) (r : CoinRuns) (k : ℕ) → AreCoinRuns n items r → k < length r.numbers.items
    → get_or r.steps.items k 0 ≡ step_of_coin (unroll items) (get_or r.numbers.items k 0)
step_of_position n items r k are within =
    ap (λ l. get_or l k 0) are.steps
    ∙ get_or-map (step_of_coin (unroll items)) (deciding_coins n items) k 0 0 (subst (λ l. k < length l) are.numbers within)
    ∙ ap (λ l. step_of_coin (unroll items) (get_or l k 0)) (sym are.numbers)

-- there is such a step
pub step_within : (n : ℕ) (items : Items) (r : CoinRuns) (k : ℕ) → AreCoinRuns n items r → k < length r.numbers.items → get_or r.steps.items k 0 < length (unroll items)
step_within n items r k are within =
    let inside = subst (λ l. k < length l) are.numbers within in
    subst (λ t. t < length (unroll items))
    (sym (ap (λ l. get_or l k 0) are.steps ∙ get_or-map (step_of_coin (unroll items)) (deciding_coins n items) k 0 0 inside))
    (free-step-within (run_of n zero_coins items).free (unroll items) k (randomness-of-run n zero_coins items) inside)

-- lanes

-- the lanes of all bits of a run
pub lanes_joined : {W : Type 0} (at : W → ℕ → Bool) (l : ℕ) (records detectors observables : List W) (bits : ShotBits)
    → lane_bits at l records ≡ bits.records → lane_bits at l detectors ≡ bits.detectors → lane_bits at l observables ≡ bits.observables
    → lane_bits at l ((records ++ detectors) ++ observables) ≡ whole_bits bits
lanes_joined at l records detectors observables bits r d o =
    ap (lane_bits at l) (append_assoc records detectors observables)
    ∙ map-append (λ w. at w l) records (detectors ++ observables)
    ∙ ap₂ (λ a b. a ++ b) r (map-append (λ w. at w l) detectors observables ∙ ap₂ (λ a b. a ++ b) d o)

-- the lanes of those that are no records
pub lanes_checked : {W : Type 0} (at : W → ℕ → Bool) (l : ℕ) (detectors observables : List W) (bits : ShotBits)
    → lane_bits at l detectors ≡ bits.detectors → lane_bits at l observables ≡ bits.observables → lane_bits at l (detectors ++ observables) ≡ checked_bits bits
lanes_checked at l detectors observables bits d o = map-append (λ w. at w l) detectors observables ∙ ap₂ (λ a b. a ++ b) d o

module _ {W : Type 0} (at : W → ℕ → Bool) (l n : ℕ) (items : Items) (t : ℕ) (words : List W) where
  abbrev flips : ShotBits
  flips = flips_of n items zero_coins t

  detectors_flipped : length (flips_of n items zero_coins t).detectors ≡ detectors_of (unroll items)
  detectors_flipped =
      length-flipped (run_of n (coin_flipped t zero_coins) items).detectors (run_of n zero_coins items).detectors ∙ (numbers_of_runs n (coin_flipped t zero_coins) items).detectors

  observables_flipped : length (flips_of n items zero_coins t).observables ≡ observables_of items
  observables_flipped =
      length-flipped (run_of n (coin_flipped t zero_coins) items).observables (run_of n zero_coins items).observables ∙ (numbers_of_runs n (coin_flipped t zero_coins) items).observables

  -- words of all bits that a coin flips are as many as the detectors, at least
  pub within_words : lane_bits at l words ≡ whole_bits (flips_of n items zero_coins t) → kinds_detectors (whole_kinds items) ≤ length words
  within_words e =
      let count = sym (length-map words (λ w. at w l)) ∙ ap length e ∙ length-append flips.records (flips.detectors ++ flips.observables) in
      omega (arith, count, length-append flips.detectors flips.observables, detectors_flipped)

  -- words of those that are no records are as many as the detectors and observables
  pub checked_words : lane_bits at l words ≡ checked_bits (flips_of n items zero_coins t) → length words ≡ bits_in items
  checked_words e =
      let count = sym (length-map words (λ w. at w l)) ∙ ap length e ∙ length-append flips.detectors flips.observables in
      omega (arith, count, detectors_flipped, observables_flipped)

-- the 64 lanes of a part have the bits of the coins after those sent
pub part_flips : {W : Type 0} (at : W → ℕ → Bool) (items : Items) (words : List W) (first sent some lanes : ℕ) → sent % 64 ≡ 0 → sent + some ≤ lanes
    → HaveFlips at items first lanes words → HaveFlips (λ w k. at w (64 * (sent / 64) + k)) items (first + sent) some words
part_flips at items words first sent some lanes whole within have k less =
    let position : 64 * (sent / 64) + k ≡ sent + k = omega (arith, whole) in
    let regroup : first + (sent + k) ≡ first + sent + k = omega arith in
    ap (λ l. lane_bits at l words) position ∙ have (sent + k) (omega (arith, less, within)) ∙ ap (flips_at items) regroup

-- this many from scratch
pub from_none : (k : ℕ) → k ≡ 0 + k
from_none k = omega arith

-- a table

-- the first of some texts, and the others
texts_front : (text_of : ℕ → List ℕ) (n : ℕ) → texts_from text_of 0 (suc n) ≡ text_of 0 ++ texts_from (λ k. text_of (suc k)) 0 n
texts_front text_of zero = ap text_of {x = 0 + 0} {y = 0} (omega arith) ∙ sym (append-nil (text_of 0))
texts_front text_of (suc n) =
    ap₂ (λ a b. a ++ b) (texts_front text_of n) (ap text_of {x = 0 + suc n} {y = suc (0 + n)} (omega arith))
    ∙ append_assoc (text_of 0) (texts_from (λ k. text_of (suc k)) 0 n) (text_of (suc (0 + n)))

-- the texts of a list's elements, by their positions
texts_of_list : (text : ℕ → List ℕ) (xs : List ℕ) → flat_map text xs ≡ texts_from (λ k. text (get_or xs k 0)) 0 (length xs)
texts_of_list text [] = refl
texts_of_list text (x ∷ xs) = ap (λ l. text x ++ l) (texts_of_list text xs) ∙ sym (texts_front (λ k. text (get_or (x ∷ xs) k 0)) (length xs))

flat-mapped : {A : Type 0} (f : A → List ℕ) (h : ℕ → A) (xs : List ℕ) → flat_map f (map h xs) ≡ flat_map (λ x. f (h x)) xs
flat-mapped f h [] = refl
flat-mapped f h (x ∷ xs) = ap (λ l. f (h x) ++ l) (flat-mapped f h xs)

-- what is written of a table, by the positions of its coins
pub table_texts : (layout : FaultLayout) (items : Items) (r : CoinRuns) → AreCoinRuns (qubits_of items) items r
    → texts_from (text_at layout items) 0 (length r.numbers.items) ≡ coins_text layout items (table_of (qubits_of items) items)
table_texts layout items r are =
    let n = qubits_of items in
    let text : ℕ → List ℕ = λ t. coin_entry layout items t (whole_bits (flips_of n items zero_coins t)) in
    ap (λ (l : List ℕ). texts_from (text_at layout items) 0 (length l)) are.numbers
    ∙ sym (texts_of_list text (deciding_coins n items))
    ∙ sym (flat-mapped (λ (row : CoinRow). coin_entry layout items row.coin (whole_bits row.flips)) (row_by n items zero_coins) (deciding_coins n items))
