-- Laws of shots: bits that are shown, and shots that are sent by batches.
use Rattle.stab_commands.proofs.Names.{◌≡◌, refl, sym, ap, ap₂, subst, ◌∙◌, ℕ, ◌+◌, ◌*◌, ◌/◌, ◌%◌, ◌^◌, ◌<◌, ◌≤◌, Bool, List, [], ◌++◌, length, Result, Ok, Err, arith, length-map, map-append, IsErrAnd, OutputView, Took, CutOff, Fault, Format, Kinds, Detected, shot_bytes, Items, seed_coin, State, run_of, word_bit, lane_bits, Shown, Records, DetectorsAndObservables, of_shots, IsShown, SendsUnflushed, shown_bytes, shown_kinds, shown_items, sent_batch, batches_break_off}
use Rattle.stab_commands.specs.declared.bits.Shown.TheVariants.{Detectors}

-- bits that are what is shown of a run have its bytes
pub bytes_shown : (format : Format) (shown : Shown) (run : State) (kinds : Kinds) (bits : List Bool) → IsShown shown run kinds bits → shot_bytes format kinds bits ≡ shown_bytes format shown run
bytes_shown format Records run kinds bits is = ap₂ (shot_bytes format) is.0 is.1
bytes_shown format Detectors run kinds bits is = ap₂ (shot_bytes format) is.0 is.1
bytes_shown format DetectorsAndObservables run kinds bits is = ap₂ (shot_bytes format) is.0 is.1

-- what is shown of lists that are those of a run
pub is_shown : (shown : Shown) (run : State) (kinds : Kinds) (bits records detectors observables : List Bool) → kinds ≡ shown_kinds shown (length detectors)
    → bits ≡ shown_items shown records detectors observables → records ≡ run.records → detectors ≡ run.detectors → observables ≡ run.observables → IsShown shown run kinds bits
is_shown Records run kinds bits records detectors observables k b r d o = (k, b ∙ r)
is_shown Detectors run kinds bits records detectors observables k b r d o = (k ∙ ap (λ l. Detected (length l)) d, b ∙ d)
is_shown DetectorsAndObservables run kinds bits records detectors observables k b r d o = (k ∙ ap (λ l. Detected (length l)) d, b ∙ ap₂ (λ a b. a ++ b) d o)

-- a lane of what is shown
lane_shown : {W : Type 0} (at : W → ℕ → Bool) (l : ℕ) (shown : Shown) (records detectors observables : List W)
    → lane_bits at l (shown_items shown records detectors observables) ≡ shown_items shown (lane_bits at l records) (lane_bits at l detectors) (lane_bits at l observables)
lane_shown at l Records records detectors observables = refl
lane_shown at l Detectors records detectors observables = refl
lane_shown at l DetectorsAndObservables records detectors observables = map-append (λ w. at w l) detectors observables

-- what is shown of lists of words, of which a lane is that of a run
pub lane_is_shown : {W : Type 0} (at : W → ℕ → Bool) (l : ℕ) (shown : Shown) (run : State) (kinds : Kinds) (words records detectors observables : List W)
    → kinds ≡ shown_kinds shown (length detectors) → words ≡ shown_items shown records detectors observables
    → lane_bits at l records ≡ run.records → lane_bits at l detectors ≡ run.detectors → lane_bits at l observables ≡ run.observables → IsShown shown run kinds (lane_bits at l words)
lane_is_shown at l shown run kinds words records detectors observables k w =
    is_shown shown run kinds (lane_bits at l words) (lane_bits at l records) (lane_bits at l detectors) (lane_bits at l observables)
    (k ∙ ap (shown_kinds shown) (sym (length-map detectors (λ w. at w l))))
    (ap (lane_bits at l) w ∙ lane_shown at l shown records detectors observables)

add-zero : (n : ℕ) → n + 0 ≡ n
add-zero n = grind arith

-- the first shots fail, and so all do
pub front_breaks_off : {old new : OutputView} (bytes_of : ℕ → List ℕ) (first n shots : ℕ) (f : Fault) (r : Result (Unit {0}) Fault) → n ≤ shots
    → Took old old [] → CutOff old new (of_shots bytes_of first n) f → IsErrAnd r (λ y. y ≡ f) → SendsUnflushed (of_shots bytes_of first shots) old new r
front_breaks_off {old} {new} bytes_of first n shots f r within none cut is =
    batches_break_off bytes_of first 0 n shots f r (omega (arith, within)) none (subst (λ k. CutOff old new (of_shots bytes_of k n) f) (sym (add-zero first)) cut) is

-- the shots after those that were sent
pub rest_sent : (old mid new : OutputView) (bytes_of : ℕ → List ℕ) (first n m shots : ℕ) (r : Result (Unit {0}) Fault) → n + m ≡ shots
    → Took old mid (of_shots bytes_of first n) → SendsUnflushed (of_shots bytes_of (first + n) m) mid new r → SendsUnflushed (of_shots bytes_of first shots) old new r
rest_sent old mid new bytes_of first n m shots (Ok u) e before sent = subst (λ k. Took old new (of_shots bytes_of first k)) e (sent_batch bytes_of first n m before sent)
rest_sent old mid new bytes_of first n m shots (Err f) e before cut = batches_break_off bytes_of first n m shots f (Err f) (omega (arith, e)) before cut refl

-- a number of a shot that is below 2^64 stays what it is
pub no_wrap : (first shots l : ℕ) → first + shots ≤ 18446744073709551616 → l < shots → (first + l) % 2 ^ 64 ≡ first + l
no_wrap first shots l within less = small (first + l) (omega arith)
  where
    small : (n : ℕ) → n < 18446744073709551616 → n % 2 ^ 64 ≡ n
    small n h = grind arith

-- lane k of 64 that are copied out is lane k after those sent
pub shown_of_part : {W : Type 0} (at : W → ℕ → Bool) (words : List W) (part : List ℕ) (sent lanes first k : ℕ) (shown : Shown) (run : ℕ → State) (kinds : Kinds)
    → sent % 64 ≡ 0 → sent + k < lanes → ((l : ℕ) → l < lanes → IsShown shown (run (first + l)) kinds (lane_bits at l words))
    → lane_bits word_bit k part ≡ lane_bits at (64 * (sent / 64) + k) words → IsShown shown (run (first + sent + k)) kinds (lane_bits word_bit k part)
shown_of_part at words part sent lanes first k shown run kinds whole within are is =
    let position : 64 * (sent / 64) + k ≡ sent + k = omega (arith, whole) in
    let shot : first + (sent + k) ≡ first + sent + k = omega arith in
    subst (λ n. IsShown shown (run n) kinds (lane_bits word_bit k part)) shot
    (subst (IsShown shown (run (first + (sent + k))) kinds) (sym (is ∙ ap (λ l. lane_bits at l words) position)) (are (sent + k) within))

-- a lane whose coins are those of a seed's shot runs as that shot does
pub lane_runs : (n : ℕ) (items : Items) (seed first shots l : ℕ) (coins : ℕ → Bool) → ((t : ℕ) → coins t ≡ seed_coin seed ((first + l) % 2 ^ 64) t)
    → first + shots ≤ 18446744073709551616 → l < shots → run_of n (seed_coin seed (first + l)) items ≡ run_of n coins items
lane_runs n items seed first shots l coins are within less =
    ap (λ c. run_of n c items) (λ i t. sym (are t ∙ ap (λ s. seed_coin seed s t) (no_wrap first shots l within less)) i)
