-- Texts of coins: how they split, and what no coins are the text of.
use Rattle.stab_args.proofs.Names.{◌≡◌, ◌++◌, ◌∷◌, [], ◌∙◌, ℕ, Bool, true, false, List, refl, sym, ap, subst, arith, inl, inr, Text, IsFileEnd, StandsForCoins, coin_character, coin_text, BeginsWithNoCoin}

-- the coins at the front of a text are one list, with one rest
only_coins : (front list : List Bool) (rest end : Text) → BeginsWithNoCoin rest → BeginsWithNoCoin end → coin_text front ++ rest ≡ coin_text list ++ end → rest ≡ end
only_coins [] [] rest end none other e = e
only_coins [] (coin ∷ list) rest end none other e = absurd (none coin (coin_text list ++ end) e)
only_coins (coin ∷ front) [] rest end none other e = absurd (other coin (coin_text front ++ rest) (sym e))
only_coins (first ∷ front) (second ∷ list) rest end none other e = let same : coin_text front ++ rest ≡ coin_text list ++ end = cc in only_coins front list rest end none other same

-- the first of two texts that are one
first_is : (x y : ℕ) (xs ys : Text) → x ∷ xs ≡ y ∷ ys → x ≡ y
first_is x y xs ys e = cc

nothing_is_none : (y : ℕ) (ys : Text) → [] ≡ y ∷ ys → ⊥
nothing_is_none y ys e = cc

-- a line feed and a carriage return are no coins
feed_is_none : (coin : Bool) → 10 ≡ coin_character coin → ⊥
feed_is_none true e = omega (arith, e)
feed_is_none false e = omega (arith, e)

return_is_none : (coin : Bool) → 13 ≡ coin_character coin → ⊥
return_is_none true e = omega (arith, e)
return_is_none false e = omega (arith, e)

-- the end of a file begins with no coin
end_is_no_coin : (end : Text) → IsFileEnd end → BeginsWithNoCoin end
end_is_no_coin end (inl e) coin rest is = nothing_is_none (coin_character coin) rest (sym e ∙ is)
end_is_no_coin end (inr (inl e)) coin rest is = feed_is_none coin (first_is 10 (coin_character coin) [] rest (sym e ∙ is))
end_is_no_coin end (inr (inr e)) coin rest is = return_is_none coin (first_is 13 (coin_character coin) (10 ∷ []) rest (sym e ∙ is))

-- nothing after coins
bare : (list : List Bool) → coin_text list ++ [] ≡ coin_text list
bare [] = refl
bare (coin ∷ list) = ap (λ t. coin_character coin ∷ t) (bare list)

-- no coins alone, if something is left
pub no_coins_alone : (front : List Bool) (rest text : Text) → text ≡ coin_text front ++ rest → BeginsWithNoCoin rest → (rest ≡ [] → ⊥) → (list : List Bool) → text ≡ coin_text list → ⊥
no_coins_alone front rest text split none some list e =
    some (only_coins front list rest [] none (end_is_no_coin [] (inl refl)) (sym split ∙ (e ∙ sym (bare list))))

-- a text for no coins, if what is left is no end of a file
pub stands_for_none : (front : List Bool) (rest text : Text) → text ≡ coin_text front ++ rest → BeginsWithNoCoin rest → (IsFileEnd rest → ⊥) → (coins : List Bool) → StandsForCoins text coins → ⊥
stands_for_none front rest text split none no_end coins stands =
    let same = only_coins front coins rest stands.0 none (end_is_no_coin stands.0 stands.1) (sym split ∙ stands.2) in
    no_end (subst (λ t. IsFileEnd t) (sym same) stands.1)
