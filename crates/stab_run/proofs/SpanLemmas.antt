-- Repeats before and after a span, where they are among the new steps.
use Rattle.stab_run.proofs.Names.{◌≡◌, ℕ, ◌+◌, ◌*◌, ◌-◌, ◌<◌, ◌≤◌, suc, zero, sym, ◌∙◌, ap, List, length, take, drop, arith, drop-drop, drop-take, take-take, length-drop, Step, rounds, looks_too_far, IsRepeat, Repeat, Span, IsSpan}

-- a repeat of some steps is one of others, elsewhere, if these are the same from there on, as far as it goes
moved-repeat : (xs ys : List Step) (r : Repeat) (first : ℕ) → IsRepeat xs r → take (r.rounds * r.length) (drop r.first xs) ≡ take (r.rounds * r.length) (drop first ys)
    → first + r.rounds * r.length ≤ length ys → IsRepeat ys (record r { first = first })
moved-repeat xs ys r first is same inside =
    let l = r.length in
    let n = r.rounds in
    let long : l ≤ n * l = at-least n l is.many in
    let round : take l (drop r.first xs) ≡ take l (drop first ys) =
    sym (take-take l (n * l) (drop r.first xs) long) ∙ ap (take l) same ∙ take-take l (n * l) (drop first ys) long in
    record {
      some = is.some;
      many = is.many;
      inside = inside;
      again = sym same ∙ is.again ∙ ap (rounds n) round;
      within = ap (looks_too_far r.window) (sym round) ∙ is.within;
    }
  where
    at-least : (n l : ℕ) → 1 < n → l ≤ n * l
    at-least zero l many = absurd (omega (arith, many))
    at-least (suc n) l many = omega arith

-- a repeat before a span
pub before-span : (xs ys : List Step) (s : Span) (r : Repeat) → IsSpan xs ys s → IsRepeat xs r → r.first + r.rounds * r.length ≤ s.first → IsRepeat ys r
before-span xs ys s r span is before =
    let n = r.rounds * r.length in
    let part : (zs : List Step) → take n (drop r.first zs) ≡ drop r.first (take (r.first + n) (take s.first zs)) =
    (λ zs. sym (drop-take r.first n zs) ∙ ap (drop r.first) (sym (take-take (r.first + n) s.first zs before))) in
    moved-repeat xs ys r r.first is (part xs ∙ ap (λ l. drop r.first (take (r.first + n) l)) span.before ∙ sym (part ys)) (omega (arith, before, span.new_order, span.new_within))

-- a repeat after it
pub after-span : (xs ys : List Step) (s : Span) (r : Repeat) → IsSpan xs ys s → IsRepeat xs r → s.old_end ≤ r.first
    → IsRepeat ys (record r { first = s.new_end + (r.first - s.old_end) })
after-span xs ys s r span is after =
    let far = r.first - s.old_end in
    let there : drop r.first xs ≡ drop far (drop s.old_end xs) = ap (λ i. drop i xs) {x = r.first} {y = s.old_end + far} (omega (arith, after)) ∙ sym (drop-drop far s.old_end xs) in
    let same : drop r.first xs ≡ drop (s.new_end + far) ys = there ∙ ap (drop far) span.following ∙ drop-drop far s.new_end ys in
    moved-repeat xs ys r (s.new_end + far) is (ap (take (r.rounds * r.length)) same)
    (omega (arith, after, is.inside, ap length span.following, length-drop s.old_end xs, length-drop s.new_end ys, span.old_within, span.new_within))
