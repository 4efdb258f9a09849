-- Two repeats as one, and lists of repeats of which the last changes.
use Rattle.stab_run.proofs.Names.{◌≡◌, ℕ, ◌+◌, ◌*◌, ◌-◌, ◌<◌, ◌≤◌, suc, zero, sym, ◌∙◌, ap, List, [], ◌∷◌, ◌++◌, length, take, drop, append-nil, arith, drop-drop, slice_index_or, Step, rounds, IsRepeat, AreRepeats, Repeat}
use Rattle.stab_run.proofs.AlikeLemmas.{come-again}
use Rattle.stab_run.proofs.PartLemmas.{rounds-within, rounds-joined, round-long}
use Rattle.stab_run.proofs.SearchLemmas.{AreRepeatsTo, are-repeats, one-repeat-more}

-- the last round of one repeat comes again over this many rounds, and over the first one of another, which begins there
pub one-of-two : (xs : List Step) (r s : Repeat) (gap : ℕ) → IsRepeat xs r → IsRepeat xs s → s.length ≡ r.length → s.first ≡ r.first + (r.rounds + gap) * r.length
    → take ((gap + 1) * r.length) (drop (r.first + (r.rounds - 1) * r.length) xs) ≡ take ((gap + 1) * r.length) (drop (r.first + r.rounds * r.length) xs)
    → IsRepeat xs (record r { rounds = (r.rounds + gap) + s.rounds })
one-of-two xs r s gap is other length-same position seam =
    let l = r.length in
    let n = r.rounds in
    let k = s.rounds in
    let ys = drop r.first xs in
    let ss = take l ys in
    let some : 1 < n = is.many in
    let len : length ss ≡ l = round-long l n r.first xs is.many is.inside in
    let last = drop (r.first + (n - 1) * l) xs in
    let from : last ≡ drop ((n - 1) * l) ys = sym (drop-drop ((n - 1) * l) r.first xs) in
    let parts : n ≡ (n - 1) + 1 = omega (arith, some) in
    let whole : n * l ≡ (n - 1) * l + l = ap (λ i. i * l) parts ∙ omega arith in
    let next : drop (r.first + n * l) xs ≡ drop l last =
    ap (λ i. drop i xs) {x = r.first + n * l} {y = (r.first + (n - 1) * l) + l} (omega (arith, whole)) ∙ sym (drop-drop l (r.first + (n - 1) * l) xs) in
    let round : take l last ≡ ss =
    ap (take l) from
    ∙ ap (λ i. take i (drop ((n - 1) * l) ys)) {x = l} {y = 1 * l} (omega arith)
    ∙ rounds-within (n - 1) 1 n l ss ys len is.again (omega (arith, some))
    ∙ append-nil ss in
    let on : take (suc (gap + 1) * l) last ≡ rounds (suc (gap + 1)) ss =
    come-again l ((gap + 1) * l) (gap + 1) last (seam ∙ ap (take ((gap + 1) * l)) next) (omega arith) ∙ ap (rounds (suc (gap + 1))) round in
    let following : (j : ℕ) → drop (j * l) last ≡ drop ((n - 1) * l + j * l) ys = (λ j. ap (drop (j * l)) from ∙ drop-drop (j * l) ((n - 1) * l) ys) in
    let between : take (gap * l) (drop (n * l) ys) ≡ rounds gap ss =
    ap (λ i. take (gap * l) (drop i ys)) {x = n * l} {y = (n - 1) * l + 1 * l} (omega (arith, whole))
    ∙ ap (take (gap * l)) (sym (following 1))
    ∙ rounds-within 1 gap (suc (gap + 1)) l ss last len on (omega arith) in
    let there : drop ((n + gap) * l) ys ≡ drop s.first xs = drop-drop ((n + gap) * l) r.first xs ∙ ap (λ i. drop i xs) (sym position) in
    let far : (n + gap) * l ≡ (n - 1) * l + (gap + 1) * l = ap (λ i. (i + gap) * l) parts ∙ omega arith in
    let first : take l (drop s.first xs) ≡ ss =
    ap (take l) (sym there ∙ ap (λ i. drop i ys) far ∙ sym (following (gap + 1)))
    ∙ ap (λ i. take i (drop ((gap + 1) * l) last)) {x = l} {y = 1 * l} (omega arith)
    ∙ rounds-within (gap + 1) 1 (suc (gap + 1)) l ss last len on (omega arith)
    ∙ append-nil ss in
    let more : take (k * l) (drop ((n + gap) * l) ys) ≡ rounds k ss =
    ap (take (k * l)) there
    ∙ ap (λ i. take (k * i) (drop s.first xs)) (sym length-same)
    ∙ other.again
    ∙ ap (λ i. rounds k (take i (drop s.first xs))) length-same
    ∙ ap (rounds k) first in
    record {
      some = is.some;
      many = omega (arith, some);
      inside = omega (arith, other.inside, position, ap (λ i. k * i) length-same);
      again = rounds-joined (n + gap) k l ss ys len (rounds-joined n gap l ss ys len is.again between) more;
      within = is.within;
    }

-- repeats up to the last of them
pub before-last : (from : ℕ) (xs : List Step) (rs : List Repeat) (r : Repeat) → AreRepeats from xs (rs ++ r ∷ []) → AreRepeatsTo from r.first xs rs × IsRepeat xs r
before-last from xs [] r are = (are.0, are.1)
before-last from xs (s ∷ rs) r are = (let more = before-last (s.first + s.rounds * s.length) xs rs r are.2 in ((are.0, are.1, more.0), more.1))

-- repeats, and one more after them
pub one-following : (from end : ℕ) (xs : List Step) (rs : List Repeat) (r : Repeat) → AreRepeatsTo from end xs rs → end ≤ r.first → IsRepeat xs r → AreRepeats from xs (rs ++ r ∷ [])
one-following from end xs rs r are order is = are-repeats from (r.first + r.rounds * r.length) xs (rs ++ r ∷ []) (one-repeat-more from end xs rs r are order is)

-- each of some repeats is one
pub repeat-at : (from : ℕ) (xs : List Step) (rs : List Repeat) (i : ℕ) (d : Repeat) → AreRepeats from xs rs → i < length rs → IsRepeat xs (slice_index_or rs i d)
repeat-at from xs [] i d are lt = absurd (omega (arith, lt))
repeat-at from xs (r ∷ rs) zero d are lt = are.1
repeat-at from xs (r ∷ rs) (suc i) d are lt = repeat-at (r.first + r.rounds * r.length) xs rs i d are.2 (omega (arith, lt))
