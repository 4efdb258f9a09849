-- Recorded pivots: how many are recorded at once, and what holds for a reference if it is lent.
use Rattle.stab_sampler.proofs.Names.{◌≡◌, ℕ, ◌+◌, ◌-◌, ◌*◌, ◌/◌, ◌<◌, ◌≤◌, min, sym, subst, arith, Option, Some, None, IfSome, Bor, option_copied, div-mul-le_self, le-div, bytes_of, most_strings, most_pivots}

-- fewer than a run may keep
pub fewer-recorded_pivots : (n : ℕ) → n ≤ 1024 → most_pivots n < most_strings n
fewer-recorded_pivots n le =
    let b = bytes_of n in
    let positive : 0 < b = omega arith in
    let within : 4194304 / b * b ≤ 4194304 = div-mul-le_self 4194304 b in
    let one_more : (4194304 / b + 1) * b ≡ 4194304 / b * b + b = add-mul (4194304 / b) b in
    let small : b ≤ 384 = omega (arith, le) in
    let more = le-div (4194304 / b + 1) 16777216 b positive (omega (arith, within, one_more, small)) in
    omega (arith, more)
  where
    add-mul : (q b : ℕ) → (q + 1) * b ≡ q * b + b
    add-mul q b = grind arith

-- but some
pub some-recorded_pivots : (n : ℕ) → n ≤ 1024 → 0 < most_pivots n
some-recorded_pivots n le =
    let b = bytes_of n in
    let positive : 0 < b = omega arith in
    let small : 1 * b ≤ 4194304 = omega (arith, le) in
    let some = le-div 1 4194304 b positive small in
    omega (arith, some)

-- a list that may keep this many strings more than it has has few of its own
module _ (n count most free : ℕ) (is : count ≡ min free most) where
  -- if they are few, there is one for each random outcome
  pub all-unchanged : n ≤ 1024 → (count + most_strings n) - most ≤ most_pivots n → count ≡ free
  all-unchanged le few = let h = fewer-recorded_pivots n le in omega (arith, h, is, few)

  -- and they are few if no more outcomes are random
  pub are-few : most_strings n ≤ most → free ≤ most_pivots n → (count + most_strings n) - most ≤ most_pivots n
  are-few raised few = omega (arith, is, raised, few)

-- if fewer outcomes are random than strings may be stored, there is one for each
pub preserved-each : (count free most : ℕ) → count ≡ min free most → free < most → count ≡ free
preserved-each count free most is few = omega (arith, is, few)

-- what holds for a reference that was found holds for it if it is lent
pub if-copied : {X : Type 0} (P : X → Type 0) (lent : Option (Bor X)) (found : Option X) → option_copied lent ≡ found → IfSome found P → IfSome lent (λ x. P x.now)
if-copied P None found same is = tt
if-copied P (Some x) found same is = subst (λ o. IfSome o P) (sym same) is
