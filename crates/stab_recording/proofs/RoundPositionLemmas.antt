-- Rounds: where they are among the steps of a circuit, and which repeats come after some.
use Rattle.stab_recording.proofs.Names.{◌≡◌, ℕ, suc, ◌+◌, ◌-◌, ◌*◌, ◌<◌, ◌≤◌, sym, ◌∙◌, ap, subst, List, [], ◌∷◌, ◌++◌, append_assoc, length, take, drop, get_or, add-one, arith, take-add, add-mul, mul-le-mul_right, length-drop, take_at, drop_at, take-append-drop, Step, rounds, Repeat, round_of, IsRepeat, AreRepeats, after_rounds, rounds-append, length-rounds}
use Rattle.std.proofs.Common.{drop-cons}
use Rattle.std.proofs.Math.Seq.{drop-drop, length-take-le}

-- the step after one more round
pub following-more : (r : Repeat) (k : ℕ) → after_rounds r k + r.length ≡ after_rounds r (k + 1)
following-more r k = omega (arith, add-mul k 1 r.length)

-- it is no later than that after more rounds
pub following-later : (r : Repeat) (j k : ℕ) → j ≤ k → after_rounds r j ≤ after_rounds r k
following-later r j k le = let more = mul-le-mul_right r.length le in omega arith

-- the repeat at a position of a list
pub repeat-here : (from : ℕ) (steps : List Step) (rs : List Repeat) (i : ℕ) (d : Repeat) → i < length rs → AreRepeats from steps (drop i rs)
    → (from ≤ (get_or rs i d).first) × IsRepeat steps (get_or rs i d)
    × AreRepeats (after_rounds (get_or rs i d) (get_or rs i d).rounds) steps (drop (suc i) rs)
repeat-here from steps rs i d lt are = subst (AreRepeats from steps) (drop-cons rs i d lt) are

-- those that begin no earlier than at a step begin no earlier than at one before it
pub repeats-from : (a b : ℕ) (steps : List Step) (rs : List Repeat) → a ≤ b → AreRepeats b steps rs → AreRepeats a steps rs
repeats-from a b steps [] le are = tt
repeats-from a b steps (r ∷ rs) le are = (let later = are.0 in omega arith, are.1, are.2)

-- the repeats after one, up to the end of which steps were carried out at most
pub repeats-following : (from next : ℕ) (steps : List Step) (rs : List Repeat) (i : ℕ) (d : Repeat) → i < length rs → AreRepeats from steps (drop i rs)
    → next ≤ after_rounds (get_or rs i d) (get_or rs i d).rounds → AreRepeats next steps (drop (i + 1) rs)
repeats-following from next steps rs i d lt are le =
    subst (λ k. AreRepeats next steps (drop k rs)) (sym (add-one i))
    (repeats-from next (after_rounds (get_or rs i d) (get_or rs i d).rounds) steps (drop (suc i) rs) le (repeat-here from steps rs i d lt are).2)

-- the steps after this many rounds, and those of as many more

module _ (steps : List Step) (r : Repeat) (is : IsRepeat steps r) where
  abbrev following : List Step
  following = drop r.first steps

  one_round : r.length ≤ r.rounds * r.length
  one_round = let some : 1 ≤ r.rounds = omega (arith, is.many) in let le = mul-le-mul_right r.length some in omega arith

  pub length-round : length (round_of r steps) ≡ r.length
  length-round = length-take-le r.length (drop r.first steps) (omega (arith, length-drop r.first steps, is.inside, one_round))

  pub more-rounds : (j m : ℕ) → j + m ≤ r.rounds → take (after_rounds r (j + m)) steps ≡ take (after_rounds r j) steps ++ rounds m (round_of r steps)
  more-rounds j m le =
      ap (λ k. take k steps) {x = after_rounds r (j + m)} {y = after_rounds r j + m * L} (omega (arith, add-mul j m L))
      ∙ take-add (after_rounds r j) (m * L) steps
      ∙ ap (λ l. take (after_rounds r j) steps ++ l)
      (ap (take (m * L)) (sym (drop-drop (j * L) r.first steps) ∙ ap (drop (j * L)) whole ∙ drop_at (rounds j ys) (rounds m ys ++ rest) (j * L) (sized j))
      ∙ take_at (rounds m ys) rest (m * L) (sized m))
    where
      L : ℕ
      L = r.length

      ys : List Step
      ys = round_of r steps

      k : ℕ
      k = r.rounds - (j + m)

      rest : List Step
      rest = rounds k ys ++ drop (r.rounds * L) following

      sized : (i : ℕ) → length (rounds i ys) ≡ i * L
      sized i = length-rounds i ys ∙ ap (λ n. i * n) length-round

      parts : rounds r.rounds ys ≡ rounds j ys ++ (rounds m ys ++ rounds k ys)
      parts =
          ap (λ n. rounds n ys) {x = r.rounds} {y = j + (m + k)} (omega arith)
          ∙ rounds-append j (m + k) ys
          ∙ ap (λ l. rounds j ys ++ l) (rounds-append m k ys)

      whole : following ≡ rounds j ys ++ (rounds m ys ++ rest)
      whole =
          sym (take-append-drop (r.rounds * L) following)
          ∙ ap (λ l. l ++ drop (r.rounds * L) following) (is.again ∙ parts)
          ∙ append_assoc (rounds j ys) (rounds m ys ++ rounds k ys) (drop (r.rounds * L) following)
          ∙ ap (λ l. rounds j ys ++ l) (append_assoc (rounds m ys) (rounds k ys) (drop (r.rounds * L) following))
