-- Futures: points from which runs give the same, and come to the same groups.
use Rattle.stab_session.proofs.Names.{◌≡◌, ℕ, sym, ◌∙◌, ap, subst, Bool, false, inl, inr, List, take, drop, replicate, take-append-drop, I, member, Step, looks_too_far, ones, Point, point_after, outputs, AgreeBack, with_coin, same-future-back, fixed-future, fixed-front, MayHaveCoin, HaveSameFuture, conjugated-blank, ArePropagatedOver, looks-front}

-- points that agree as far back as steps look have the same future by these
pub future-back : (n window : ℕ) (coins : ℕ → Bool) (back : List Step) (a b : Point) → looks_too_far window back ≡ false → AgreeBack n window a b → HaveSameFuture n coins back a b
future-back n window coins back a b near agree m =
    let both = same-future-back n coins window (take m back) a b (looks-front window m back near) agree in
    (both.0, both.1.group)

-- so have points at which the next coin has another number, if none decides after
pub future-moved : (n window : ℕ) (coins : ℕ → Bool) (back : List Step) (a b : Point) → looks_too_far window back ≡ false → MayHaveCoin n coins back a b.coin
    → AgreeBack n window (with_coin b.coin a) b → HaveSameFuture n coins back a b
future-moved n window coins back a b near (inl same) agree m =
    future-back n window coins back a b near (subst (λ c. AgreeBack n window (with_coin c a) b) (sym same) agree) m
future-moved n window coins back a b near (inr none) agree m =
    let first = fixed-front n coins (take m back) (drop m back) a (ap (λ xs. ones (outputs n coins xs a).free) (take-append-drop m back) ∙ none) in
    let fixed = fixed-future n coins b.coin (take m back) a first in
    let both = same-future-back n coins window (take m back) (with_coin b.coin a) b (looks-front window m back near) agree in (
      sym fixed.0 ∙ both.0,
      (λ p size. ap (λ (q : Point). member q.trace p) (sym fixed.1) ∙ both.1.group p size),
    )

-- and differ by no letter
pub future-conjugated : (n : ℕ) (coins : ℕ → Bool) (back : List Step) (a b : Point) → HaveSameFuture n coins back a b → ArePropagatedOver n coins back a b
future-conjugated n coins back a b future m = (
  replicate n I,
  (λ p size. sym ((future m).1 p size) ∙ conjugated-blank n (member (point_after n coins (take m back) a).trace) p size),
)
