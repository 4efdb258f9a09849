-- Rounds of steps: how many and how far they look, and that those which no coin decides come again.
use Rattle.stab_run.proofs.Names.{◌≡◌, ℕ, zero, suc, ◌+◌, ◌*◌, refl, sym, ◌∙◌, ap, subst, Bool, false, List, ◌++◌, append_assoc, nat_lt, arith, window-rounds, looks_too_far_window, member, SameGroup, Step, rounds, records_of, looks_too_far, ones, Point, RunOutput, joined, all_coins_of, point_after, outputs, AgreeBack, with_coin, output_copies}
pub use Rattle.stab_items.proofs.StepLemmas.{length-rounds}
use Rattle.stab_run.proofs.RunLemmas.{after-append, outputs-append}
use Rattle.stab_run.proofs.FixedLemmas.{fixed-future}
use Rattle.stab_run.proofs.FutureBackLemmas.{same-future-back}

-- rounds as a list

pub rounds-append : (a b : ℕ) (ys : List Step) → rounds (a + b) ys ≡ rounds a ys ++ rounds b ys
rounds-append zero b ys = ap (λ n. rounds n ys) {x = zero + b} {y = b} (omega arith)
rounds-append (suc a) b ys =
    ap (λ n. rounds n ys) {x = suc a + b} {y = suc (a + b)} (omega arith) ∙ (ap (λ l. ys ++ l) (rounds-append a b ys) ∙ sym (append_assoc ys (rounds a ys) (rounds b ys)))

times_more : (k p : ℕ) → p + k * p ≡ suc k * p
times_more k p = omega arith

pub rounds-rounds : (k p : ℕ) (ys : List Step) → rounds k (rounds p ys) ≡ rounds (k * p) ys
rounds-rounds zero p ys = ap (λ n. rounds n ys) {x = zero} {y = zero * p} (omega arith)
rounds-rounds (suc k) p ys =
    ap (λ l. rounds p ys ++ l) (rounds-rounds k p ys)
    ∙ sym (rounds-append p (k * p) ys)
    ∙ ap (λ n. rounds n ys) {x = p + k * p} {y = suc k * p} (times_more k p)

-- a later round looks no further than the first
pub rounds-within : (m p : ℕ) (ys : List Step) → looks_too_far m ys ≡ false → looks_too_far m (rounds p ys) ≡ false
rounds-within m zero ys near = refl
rounds-within m (suc p) ys near =
    looks_too_far_window m (rounds (suc p) ys) ∙ ap (nat_lt m) (window-rounds (suc p) ys (omega arith)) ∙ sym (looks_too_far_window m ys) ∙ near

-- rounds that come again

-- what a round gives after one that no coin decided and that led to where it began, as far back as it looks; and where it ends
module _ (n : ℕ) (coins : ℕ → Bool) (m : ℕ) (xs : List Step) (a : Point) (near : looks_too_far m xs ≡ false)
    (none : ones (outputs n coins xs a).free ≡ 0) (agree : AgreeBack n m (with_coin (point_after n coins xs a).coin a) (point_after n coins xs a)) where
  abbrev next : Point
  next = point_after n coins xs a

  abbrev later : Point
  later = point_after n coins xs next

  at-coin : (outputs n coins xs (with_coin next.coin a) ≡ outputs n coins xs a)
      × (point_after n coins xs (with_coin next.coin a) ≡ with_coin (next.coin + all_coins_of xs) next)
  at-coin = fixed-future n coins next.coin xs a none

  following : (outputs n coins xs (with_coin next.coin a) ≡ outputs n coins xs next)
      × AgreeBack n (m + records_of xs) (point_after n coins xs (with_coin next.coin a)) later
  following = same-future-back n coins m xs (with_coin next.coin a) next near agree

  output-again : outputs n coins xs next ≡ outputs n coins xs a
  output-again = sym following.0 ∙ at-coin.0

  none-again : ones (outputs n coins xs next).free ≡ 0
  none-again = ap (λ (o : RunOutput). ones o.free) output-again ∙ none

  agree-again : AgreeBack n m (with_coin later.coin next) later
  agree-again =
      let there : AgreeBack n (m + records_of xs) (with_coin (next.coin + all_coins_of xs) next) later =
      subst (λ p. AgreeBack n (m + records_of xs) p later) at-coin.1 following.1 in
      record { group = there.group; coin = refl; records = λ k le. there.records k (omega (arith, le)) }

pub rounds-again : (n : ℕ) (coins : ℕ → Bool) (m k : ℕ) (xs : List Step) (a : Point) → looks_too_far m xs ≡ false →
    ones (outputs n coins xs a).free ≡ 0 → AgreeBack n m (with_coin (point_after n coins xs a).coin a) (point_after n coins xs a) →
    (outputs n coins (rounds k xs) (point_after n coins xs a) ≡ output_copies k (outputs n coins xs a))
    × SameGroup n (member (point_after n coins xs a).trace) (member (point_after n coins (rounds k xs) (point_after n coins xs a)).trace)
rounds-again n coins m zero xs a near none agree = (refl, λ p size. refl)
rounds-again n coins m (suc k) xs a near none agree =
    let r = point_after n coins xs a in
    let same = output-again n coins m xs a near none agree in
    let back = agree-again n coins m xs a near none agree in
    let more = rounds-again n coins m k xs r near (none-again n coins m xs a near none agree) back in (
      outputs-append n coins xs (rounds k xs) r
          ∙ ap (joined (outputs n coins xs r)) more.0
          ∙ ap (λ o. joined o (output_copies k o)) same,
      λ p size. back.group p size ∙ more.1 p size ∙ ap (λ (t : Point). member t.trace p) (sym (after-append n coins xs (rounds k xs) r)),
    )
