-- Faults and ways: both say of a deterministic bit whether a letter flips it.
use Rattle.stab_script.proofs.Names.{◌≡◌, sym, ap, subst, ◌∙◌, ℕ, ◌+◌, ◌<◌, Bool, true, false, List, [], ◌∷◌, ◌++◌, length, arith}
use Rattle.std.proofs.Common.{refl, All, take, drop, replicate, length-append, take-append-drop, length-set, get_or, zero, suc}
use Rattle.std.proofs.lemmas.List.{length-replicate}
use Rattle.stab_gates.specs.declared.letter.Letter.{Letter}
use Rattle.stab_gates.specs.Letters.{◌⊕◌}
use Rattle.stab_pauli.specs.Paulis.{single}
use Rattle.stab_items.specs.Steps.{unroll, observables_of, Step, one, two, controlled, collapse, product, detector, observable, detectors_of, is_detector}
use Rattle.stab_items.proofs.StepLemmas.{detectors_of-append}
use Rattle.stab_run.specs.declared.records.Addition.{Addition}
use Rattle.stab_run.specs.Records.{parity}
use Rattle.stab_run.specs.Runs.{State, start, run, gate_of, added}
use Rattle.stab_run.specs.Points.{RunOutput, origin, outputs, with_additions}
use Rattle.stab_run.specs.Laws.{RunsArePointsWithOutputs}
use Rattle.stab_run.specs.ProgramStates.{StepFits}
use Rattle.stab_frames.specs.Flips.{flipped}
use Rattle.stab_frames.specs.Frames.{Frame, identity_frame}
use Rattle.stab_frames.specs.FirstSteps.{IsFlippedRun}
use Rattle.stab_frames.specs.FrameSteps.{flips_given}
use Rattle.stab_regions.specs.SingleErrorLaws.{DeterministicParities, SingleErrorsFlipParities}
use Rattle.stab_regions.specs.SingleErrors.{bit, flips}
use Rattle.stab_regions.specs.Parities.{parity_deterministic, parity_flips}
use Rattle.stab_regions.proofs.DetectorLemmas.{count-detectors}
use Rattle.stab_ways.specs.PutIn.{by_letters, frame_begun, string_flips, way_after, way_flips}
use Rattle.stab_ways.specs.Laws.{LettersFlipRuns, coins_with}
use Rattle.stab_script.specs.WayLaws.{SingleErrorsAreWays, parities_flipped}
use Rattle.std.specs.Prelude.{if◌then◌else◌}

-- bits and their flips

get-flipped : (bits flips : List Bool) → length flips ≡ length bits → (i : ℕ) → get_or (flipped bits flips) i false ≡ get_or flips i false ⊕ get_or bits i false
get-flipped [] [] e i = refl
get-flipped [] (flip ∷ flips) e i = absurd (omega (arith, e))
get-flipped (bit ∷ bits) [] e i = absurd (omega (arith, e))
get-flipped (bit ∷ bits) (flip ∷ flips) e zero = refl
get-flipped (bit ∷ bits) (flip ∷ flips) e (suc i) = get-flipped bits flips (omega (arith, e)) i

flipped-joined : (bits more flips others : List Bool) → length flips ≡ length bits → flipped (bits ++ more) (flips ++ others) ≡ flipped bits flips ++ flipped more others
flipped-joined [] more [] others e = refl
flipped-joined [] more (flip ∷ flips) others e = absurd (omega (arith, e))
flipped-joined (bit ∷ bits) more [] others e = absurd (omega (arith, e))
flipped-joined (bit ∷ bits) more (flip ∷ flips) others e = ap (λ l. (flip ⊕ bit) ∷ l) (flipped-joined bits more flips others (omega (arith, e)))

-- a flip for each detector

none-more : (m : ℕ) → 0 + m ≡ m
none-more m = omega arith

one-more : (m : ℕ) (b : Bool) → length (b ∷ []) + m ≡ 1 + m
one-more m b = omega arith

one-detector : (n m : ℕ) (x : Step) (f : Frame) → length (flips_given n by_letters x 0 f).detectors + m ≡ (if is_detector x then 1 + m else m)
one-detector n m (one g q) f = none-more m
one-detector n m (two g a b) f = none-more m
one-detector n m (controlled l k q) f = none-more m
one-detector n m (collapse l q recorded inverted resets) f = none-more m
one-detector n m (product factors inverted) f = none-more m
one-detector n m (detector ks) f = one-more m (parity f.flips ks)
one-detector n m (observable j ks) f = none-more m

way-detectors : (n : ℕ) (xs : List Step) (f : Frame) → length (way_flips n xs f).detectors ≡ detectors_of xs
way-detectors n [] f = refl
way-detectors n (x ∷ xs) f =
    length-append (flips_given n by_letters x 0 f).detectors (way_flips n xs (way_after n x f)).detectors
    ∙ ap (λ m. length (flips_given n by_letters x 0 f).detectors + m) (way-detectors n xs (way_after n x f))
    ∙ one-detector n (detectors_of xs) x f

string-detectors : (n k : ℕ) (string : List Letter) (xs : List Step) → length (string_flips n k string xs).detectors ≡ detectors_of xs
string-detectors n k string xs =
    let front = way-detectors n (take k xs) (identity_frame n 0) in
    let back = way-detectors n (drop k xs) (frame_begun k string xs) in
    length-append (way_flips n (take k xs) (identity_frame n 0)).detectors (way_flips n (drop k xs) (frame_begun k string xs)).detectors
    ∙ omega (arith, front, back)
    ∙ sym (detectors_of-append (take k xs) (drop k xs))
    ∙ ap detectors_of (take-append-drop k xs)

-- as many observables as before additions
length-additions : (adds : List Addition) (bits : List Bool) → length (with_additions adds bits) ≡ length bits
length-additions [] bits = refl
length-additions (a ∷ adds) bits = length-additions adds (added a.observable a.bit bits) ∙ length-set bits a.observable (a.bit ⊕ get_or bits a.observable false)

count-observables : RunsArePointsWithOutputs → (n : ℕ) (coins : ℕ → Bool) (xs : List Step) (count : ℕ) → length (run n coins xs (start count)).observables ≡ count
count-observables law n coins xs count =
    ap (λ (s : State). length s.observables) (law n coins xs (start count))
    ∙ length-additions (outputs n coins xs origin).additions (replicate count false)
    ∙ length-replicate count false

-- a bit of a flipped run is the bit of the run, flipped
bit-flipped : RunsArePointsWithOutputs → (n count : ℕ) (coins others : ℕ → Bool) (xs ys : List Step) (flips : RunOutput) (i : ℕ) → length flips.detectors ≡ detectors_of xs
    → IsFlippedRun n coins others xs ys flips
    → bit n count others ys i ≡ get_or (flips.detectors ++ with_additions flips.additions (replicate count false)) i false ⊕ bit n count coins xs i
bit-flipped law n count coins others xs ys flips i many is =
    let s : State = run n coins xs (start count) in
    let adds = with_additions flips.additions (replicate count false) in
    let detectors : length flips.detectors ≡ length s.detectors = many ∙ sym (count-detectors law n coins xs count) in
    let observables : length adds ≡ length s.observables =
    length-additions flips.additions (replicate count false) ∙ length-replicate count false ∙ sym (count-observables law n coins xs count) in
    let long : length (flips.detectors ++ adds) ≡ length (s.detectors ++ s.observables) =
    length-append flips.detectors adds ∙ (λ t. detectors t + observables t) ∙ sym (length-append s.detectors s.observables) in
    (λ t. get_or (is.detectors count t ++ is.observables count t) i false)
    ∙ ap (λ bits. get_or bits i false) (sym (flipped-joined s.detectors s.observables flips.detectors adds detectors))
    ∙ get-flipped (s.detectors ++ s.observables) (flips.detectors ++ adds) long i

-- with a letter put in a deterministic bit differs as the pass backwards says, whatever the coins of both runs
differs : SingleErrorsFlipParities → (n count k : ℕ) (l : Letter) (q : ℕ) (xs : List Step) (i : ℕ) → q < n → All (StepFits n) xs → i < detectors_of xs + count
    → parity_deterministic n (detectors_of xs) i xs ≡ true → (coins others : ℕ → Bool)
    → bit n count others (take k xs ++ one (gate_of l) q ∷ drop k xs) i ⊕ bit n count coins xs i ≡ parity_flips n (detectors_of xs) i l q (drop k xs)
differs law n count k l q xs i lt fits less found coins others =
    subst (λ ys. bit n count others (take k xs ++ one (gate_of l) q ∷ drop k xs) i ⊕ bit n count coins ys i ≡ parity_flips n (detectors_of ys) i l q (drop k xs)) same
    ((law n count (take k xs) l q (drop k xs) i lt (subst (All (StepFits n)) (sym same) fits) (subst (λ ys. i < detectors_of ys + count) (sym same) less)).deterministic
    (subst (λ ys. parity_deterministic n (detectors_of ys) i ys ≡ true) (sym same) found) coins others)
  where
    same : take k xs ++ drop k xs ≡ xs
    same = take-append-drop k xs

cancelled : (flip plain : Bool) → (flip ⊕ plain) ⊕ plain ≡ flip
cancelled flip plain = grind arith

pub single_errors-are-ways : RunsArePointsWithOutputs → DeterministicParities → SingleErrorsFlipParities → LettersFlipRuns → SingleErrorsAreWays
single_errors-are-ways runs parities single_errors letters n items f i fits lt less same coins =
    let xs = unroll items in
    let count = observables_of items in
    let string = (single n f.qubit f.letter).letters in
    let listed = string_flips n f.before string xs in
    let others = coins_with n f.before string xs coins in
    let found : parity_deterministic n (detectors_of xs) i xs ≡ true = (parities n count xs i fits less).1 same in
    let plain = bit n count coins xs i in
    differs single_errors n count f.before f.letter f.qubit xs i lt fits less found coins coins
    ∙ sym (differs single_errors n count f.before f.letter f.qubit xs i lt fits less found coins others)
    ∙ ap (λ b. b ⊕ plain) (bit-flipped runs n count coins others xs (take f.before xs ++ one (gate_of f.letter) f.qubit ∷ drop f.before xs) listed i (string-detectors n f.before string xs) (letters n f.before f.letter f.qubit xs coins fits lt))
    ∙ cancelled (get_or (parities_flipped items listed) i false) plain
