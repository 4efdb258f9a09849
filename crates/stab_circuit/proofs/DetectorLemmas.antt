-- A detector: its records, which are read into a short array, and what it does.
use Rattle.stab_circuit.proofs.Names.{◌≡◌, ◌<◌, ℕ, ◌+◌, true, false, List, [], ◌∷◌, length, take, set, list_all, All, Result, Ok, Err, refl, sym, ap, ◌∙◌, subst, take_more_set, All-nil, All-cons, All-append, Refusal, BadArguments, ◌>>=◌, Shape, each, words, arguments_of, kind_of, is_coordinate, after_coordinates, is_blank, IsLookback, lookback_of, BeginsWithTarget}
use Rattle.stab_instructions.specs.declared.name.Instruction.TheVariants as instruction
use Rattle.stab_instructions.specs.declared.operation.Kind.TheVariants as kind
use Rattle.stab_circuit.proofs.CoordinateLemmas.{each_coordinate, no_coordinate}
use Rattle.stab_circuit.proofs.ResultLemmas.{following, after_none, after_next}
use Rattle.stab_instructions.proofs.PieceLemmas.{blank_words}
use Rattle.stab_instructions.proofs.TargetLemmas.{lookback_in_range}

-- a record more is in range
pub found_in_range : (found : List ℕ) (count k : ℕ) (bs rest : List ℕ) → count < length found → BeginsWithTarget lookback_of bs k rest → All IsLookback (take count found)
    → All IsLookback (take (count + 1) (set found count k))
found_in_range found count k bs rest room h before =
    subst (All IsLookback) (sym (take_more_set found count k room))
    (All-append IsLookback (take count found) (k ∷ []) before (All-cons IsLookback k [] (lookback_in_range h.0 k h.2) (All-nil IsLookback)))

-- a record more, and what is read after it
pub found_more : (found : List ℕ) (count k : ℕ) (bs rest : List ℕ) → count < length found → BeginsWithTarget lookback_of bs k rest
    → following (take (count + 1) (set found count k)) (each lookback_of (words rest)) ≡ following (take count found) (each lookback_of (words bs))
found_more found count k bs rest room h =
    ap (λ l. following l (each lookback_of (words rest))) (take_more_set found count k room)
    ∙ sym (after_next lookback_of (take count found) h.0 (words rest) k h.2)
    ∙ sym (ap (λ ws. following (take count found) (each lookback_of ws)) h.1)

-- no record more
pub found_all : (found bs : List ℕ) (given : Result (List ℕ) Refusal) → is_blank bs ≡ true → following found (each lookback_of (words bs)) ≡ given → given ≡ Ok found
found_all found bs given blank e = sym e ∙ ap (λ ws. following found (each lookback_of ws)) (blank_words bs blank) ∙ after_none found

-- what a detector does, if its coordinates are written as coordinates are
pub detector_kind : (s : Shape) → list_all is_coordinate (arguments_of s.arguments) ≡ true
    → kind_of instruction.Detector s ≡ (after_coordinates s.arguments (each lookback_of (words s.targets)) >>= λ d. Ok (kind.Detector d))
unfolding kind_of
detector_kind s written =
    ap (λ r. r >>= λ cs. each lookback_of (words s.targets) >>= λ ks. Ok (kind.Detector (cs, ks))) (each_coordinate (arguments_of s.arguments) written)
    ∙ joined (arguments_of s.arguments) (each lookback_of (words s.targets))
  where
    joined : (cs : List (List ℕ)) (given : Result (List ℕ) Refusal) → (given >>= λ ks. Ok (kind.Detector (cs, ks))) ≡ (given >>= (λ ks. Ok (cs, ks)) >>= λ d. Ok (kind.Detector d))
    joined cs (Ok ks) = refl
    joined cs (Err r) = refl

-- if they are not
pub detector_refused : (s : Shape) → list_all is_coordinate (arguments_of s.arguments) ≡ false → kind_of instruction.Detector s ≡ Err BadArguments
unfolding kind_of
detector_refused s h = ap (λ r. r >>= λ cs. each lookback_of (words s.targets) >>= λ ks. Ok (kind.Detector (cs, ks))) (no_coordinate (arguments_of s.arguments) h)
