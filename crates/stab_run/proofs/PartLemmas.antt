-- Parts of repeats: some of their rounds, among the steps of an edited circuit.
use Rattle.stab_run.proofs.Names.{◌≡◌, ℕ, ◌+◌, ◌*◌, ◌-◌, ◌<◌, ◌≤◌, suc, zero, sym, ◌∙◌, ap, subst, List, ◌++◌, length, take, drop, append-nil, arith, drop-drop, drop-take, take-take, take_all, length-drop, length-take-le, take-add, take-append-add, drop-append-add, Step, rounds, length-rounds, looks_too_far, IsRepeat, Repeat}

-- more rounds have no fewer steps
pub more-rounds : (k m l : ℕ) → k ≤ m → k * l ≤ m * l
more-rounds k m l le = let parts : m ≡ k + (m - k) = omega (arith, le) in omega (arith, ap (λ i. i * l) parts)

-- there are no more rounds than steps
pub rounds-few : (n l : ℕ) → 0 < l → n ≤ n * l
rounds-few n l some = let parts : l ≡ 1 + (l - 1) = omega (arith, some) in omega (arith, ap (λ i. n * i) parts)

-- the first of the rounds of some steps
front-rounds : (k n : ℕ) (ss : List Step) → k ≤ n → take (k * length ss) (rounds n ss) ≡ rounds k ss
front-rounds zero n ss le = ap (λ m. take m (rounds n ss)) {x = zero * length ss} {y = zero} (omega arith)
front-rounds (suc k) zero ss le = absurd (omega (arith, le))
front-rounds (suc k) (suc n) ss le =
    ap (λ m. take m (ss ++ rounds n ss)) {x = suc k * length ss} {y = length ss + k * length ss} (omega arith)
    ∙ take-append-add ss (rounds n ss) (k * length ss)
    ∙ ap (λ l. ss ++ l) (front-rounds k n ss (omega (arith, le)))

-- some of them, from one on
some-rounds : (j k n : ℕ) (ss : List Step) → j + k ≤ n → take (k * length ss) (drop (j * length ss) (rounds n ss)) ≡ rounds k ss
some-rounds zero k n ss le =
    ap (λ m. take (k * length ss) (drop m (rounds n ss))) {x = zero * length ss} {y = zero} (omega arith)
    ∙ front-rounds k n ss (omega (arith, le))
some-rounds (suc j) k zero ss le = absurd (omega (arith, le))
some-rounds (suc j) k (suc n) ss le =
    ap (λ m. take (k * length ss) (drop m (ss ++ rounds n ss))) {x = suc j * length ss} {y = length ss + j * length ss} (omega arith)
    ∙ ap (take (k * length ss)) (drop-append-add ss (rounds n ss) (j * length ss))
    ∙ some-rounds j k n ss (omega (arith, le))

-- the same where they are among other steps
pub rounds-within : (j k n l : ℕ) (ss xs : List Step) → length ss ≡ l → take (n * l) xs ≡ rounds n ss → j + k ≤ n → take (k * l) (drop (j * l) xs) ≡ rounds k ss
rounds-within j k n l ss xs len is le =
    let d = n - (j + k) in
    let m = d * l in
    let parts : n ≡ j + (k + d) = omega (arith, le) in
    let all : n * l ≡ j * l + (k * l + m) = ap (λ i. i * l) parts ∙ omega arith in
    sym (take-take (k * l) (k * l + m) (drop (j * l) xs) (omega arith))
    ∙ ap (take (k * l)) (sym (drop-take (j * l) (k * l + m) xs) ∙ ap (λ i. drop (j * l) (take i xs)) (sym all) ∙ ap (drop (j * l)) is)
    ∙ ap (λ i. take (k * i) (drop (j * i) (rounds n ss))) (sym len)
    ∙ some-rounds j k n ss le

-- rounds, and more of them after these
pub rounds-joined : (m n l : ℕ) (ss xs : List Step) → length ss ≡ l → take (m * l) xs ≡ rounds m ss → take (n * l) (drop (m * l) xs) ≡ rounds n ss
    → take ((m + n) * l) xs ≡ rounds (m + n) ss
rounds-joined m n l ss xs len is more =
    let all = rounds (m + n) ss in
    let long : length all ≤ m * l + n * l = omega (arith, length-rounds (m + n) ss, ap (λ i. (m + n) * i) len) in
    ap (λ i. take i xs) {x = (m + n) * l} {y = m * l + n * l} (omega arith)
    ∙ take-add (m * l) (n * l) xs
    ∙ ap (λ ys. ys ++ take (n * l) (drop (m * l) xs)) (is ∙ sym (rounds-within 0 m (m + n) l ss all len (take_all _ all (omega (arith, long))) (omega arith)))
    ∙ ap (λ ys. take (m * l) (drop (0 * l) all) ++ ys) (more ∙ sym (rounds-within m n (m + n) l ss all len (take_all _ all (omega (arith, long))) (omega arith)))
    ∙ ap (λ i. take (m * l) (drop i all) ++ take (n * l) (drop (m * l) all)) {x = 0 * l} {y = zero} (omega arith)
    ∙ sym (take-add (m * l) (n * l) all)
    ∙ take_all (m * l + n * l) all long

-- a round has as many steps as it is said to have
pub round-long : (l n first : ℕ) (xs : List Step) → 1 < n → first + n * l ≤ length xs → length (take l (drop first xs)) ≡ l
round-long l zero first xs many within = absurd (omega (arith, many))
round-long l (suc n) first xs many within = length-take-le l (drop first xs) (omega (arith, within, length-drop first xs))

-- two or more rounds of a repeat are one
pub part-repeat : (xs : List Step) (r : Repeat) (j k : ℕ) → IsRepeat xs r → j + k ≤ r.rounds → 1 < k
    → IsRepeat xs (record r { first = r.first + j * r.length; rounds = k })
part-repeat xs r j k is le many =
    let l = r.length in
    let ys = drop r.first xs in
    let ss = take l ys in
    let len : length ss ≡ l = round-long l r.rounds r.first xs is.many is.inside in
    let following : drop (r.first + j * l) xs ≡ drop (j * l) ys = sym (drop-drop (j * l) r.first xs) in
    let again : take (k * l) (drop (r.first + j * l) xs) ≡ rounds k ss = ap (take (k * l)) following ∙ rounds-within j k r.rounds l ss ys len is.again le in
    let round : take l (drop (r.first + j * l) xs) ≡ ss =
    ap (take l) following
    ∙ ap (λ i. take i (drop (j * l) ys)) {x = l} {y = 1 * l} (omega arith)
    ∙ rounds-within j 1 r.rounds l ss ys len is.again (omega (arith, le, many))
    ∙ append-nil ss in
    record {
      some = is.some;
      many = many;
      inside =
          let parts : r.rounds ≡ j + (k + (r.rounds - (j + k))) = omega (arith, le) in
          omega (arith, is.inside, ap (λ i. i * l) parts);
      again = again ∙ ap (rounds k) (sym round);
      within = ap (looks_too_far r.window) round ∙ is.within;
    }

-- and the first ones are one
pub front-repeat : (xs : List Step) (r : Repeat) (k : ℕ) → IsRepeat xs r → k ≤ r.rounds → 1 < k → IsRepeat xs (record r { rounds = k })
front-repeat xs r k is le many =
    subst (λ i. IsRepeat xs (record r { first = i; rounds = k })) {x = r.first + 0 * r.length} {y = r.first} (omega arith) (part-repeat xs r 0 k is (omega (arith, le)) many)
