-- Splits of blocks leave the steps, the depth of blocks and the greatest numbers that are named.
use Rattle.stab_items.proofs.Names.{◌≡◌, ◌≤◌, ◌<◌, refl, ap, sym, ◌∙◌, subst, ℕ, ◌+◌, ◌-◌, suc, zero, max, Bool, true, false, List, [], ◌∷◌, ◌++◌, take, drop, arith, append_assoc, nat_lt, if◌then◌else◌, Option, Some, None, Ok, Err, slice_get, set_split, slice_get_within, PlaceOutOfRange, Kind, Items, OneItem, operation, repeat, listed, entries, depth, Step, unroll, rounds, past_named, rounds_as_block, parts_of_block, parts_of_item, with_parts, split_in, AreAlike}
use Rattle.stab_items.proofs.ItemLemmas.{listed-append, depth-join}
use Rattle.stab_items.proofs.SummaryLemmas.{past_named-join}
use Rattle.std.proofs.lemmas.List.{append-nil}
use Rattle.stab_items.proofs.EditLemmas.{steps-append, listed-entries, lt_holds, rebuilds, got_split}

-- rounds one after another
rounds-append : (a b : ℕ) (xs : List Step) → rounds (a + b) xs ≡ rounds a xs ++ rounds b xs
rounds-append zero b xs = ap (λ n. rounds n xs) {x = zero + b} {y = b} (omega arith)
rounds-append (suc a) b xs =
    ap (λ n. rounds n xs) {x = suc a + b} {y = suc (a + b)} (omega arith) ∙ (ap (λ l. xs ++ l) (rounds-append a b xs) ∙ sym (append_assoc xs (rounds a xs) (rounds b xs)))

-- rounds as a block
block_steps : (n : ℕ) (tag : List ℕ) (body : Items) → unroll (listed (rounds_as_block n tag body)) ≡ rounds n (unroll body)
block_steps zero tag body = refl
block_steps (suc n) tag body = append-nil (rounds (suc n) (unroll body))

block_depth : (n : ℕ) (tag : List ℕ) (body : Items) → depth (listed (rounds_as_block n tag body)) ≤ depth body + 1
block_depth zero tag body = omega arith
block_depth (suc n) tag body = omega arith

block_named : (f : Kind → List ℕ) (n : ℕ) (tag : List ℕ) (body : Items) → past_named f (listed (rounds_as_block n tag body)) ≤ past_named f body
block_named f zero tag body = omega arith
block_named f (suc n) tag body = omega arith

-- items one after another
pub depth-append : (xs ys : List OneItem) → depth (listed (xs ++ ys)) ≡ max (depth (listed xs)) (depth (listed ys))
depth-append xs ys = ap depth (listed-append xs ys) ∙ depth-join (listed xs) (listed ys)

named-append : (f : Kind → List ℕ) (xs ys : List OneItem) → past_named f (listed (xs ++ ys)) ≡ max (past_named f (listed xs)) (past_named f (listed ys))
named-append f xs ys = ap (past_named f) (listed-append xs ys) ∙ past_named-join f (listed xs) (listed ys)

-- so are parts that are alike among others
alike_around : (front back old new : List OneItem) → AreAlike (listed old) (listed new) → AreAlike (listed (front ++ (old ++ back))) (listed (front ++ (new ++ back)))
alike_around front back old new a = record {
  steps = around_steps new
      ∙ ap (λ l. unroll (listed front) ++ (l ++ unroll (listed back))) a.steps
      ∙ sym (around_steps old);
  depth = around_depth new
      ∙ ap (λ n. max (depth (listed front)) (max n (depth (listed back)))) a.depth
      ∙ sym (around_depth old);
  named = λ f. around_named f new
      ∙ ap (λ n. max (past_named f (listed front)) (max n (past_named f (listed back)))) (a.named f)
      ∙ sym (around_named f old);
}
  where
    around_steps : (xs : List OneItem) → unroll (listed (front ++ (xs ++ back))) ≡ unroll (listed front) ++ (unroll (listed xs) ++ unroll (listed back))
    around_steps xs = steps-append front (xs ++ back) ∙ ap (λ l. unroll (listed front) ++ l) (steps-append xs back)

    around_depth : (xs : List OneItem) → depth (listed (front ++ (xs ++ back))) ≡ max (depth (listed front)) (max (depth (listed xs)) (depth (listed back)))
    around_depth xs = depth-append front (xs ++ back) ∙ ap (λ n. max (depth (listed front)) n) (depth-append xs back)

    around_named : (f : Kind → List ℕ) (xs : List OneItem) → past_named f (listed (front ++ (xs ++ back))) ≡ max (past_named f (listed front)) (max (past_named f (listed xs)) (past_named f (listed back)))
    around_named f xs = named-append f front (xs ++ back) ∙ ap (λ n. max (past_named f (listed front)) n) (named-append f xs back)

-- the parts of a block are like it
parts_alike : (round count : ℕ) (tag : List ℕ) (body : Items) → round < count → AreAlike (listed (repeat count tag body ∷ [])) (listed (parts_of_block round count tag body))
parts_alike round count tag body lt =
    let rest = count - (round + 1) in
    let turns = unroll body in
    let first = rounds_as_block round tag body in
    let last = rounds_as_block rest tag body in
    let together : rounds count turns ≡ rounds round turns ++ (turns ++ rounds rest turns) =
    ap (λ n. rounds n turns) {x = count} {y = round + suc rest} (omega (arith, lt)) ∙ rounds-append round (suc rest) turns in
    record {
      steps = steps-append first (repeat 1 tag body ∷ last)
          ∙ ap (λ l. l ++ ((turns ++ []) ++ unroll (listed last))) (block_steps round tag body)
          ∙ ap (λ l. rounds round turns ++ ((turns ++ []) ++ l)) (block_steps rest tag body)
          ∙ ap (λ l. rounds round turns ++ (l ++ rounds rest turns)) (append-nil turns)
          ∙ sym together
          ∙ sym (append-nil (rounds count turns));
      depth = omega (arith, depth-append first (repeat 1 tag body ∷ last), block_depth round tag body, block_depth rest tag body);
      named = λ f. omega (arith, named-append f first (repeat 1 tag body ∷ last), block_named f round tag body, block_named f rest tag body);
    }

-- a block is like another whose items are like its items
block_alike : (count : ℕ) (tag : List ℕ) (old new : Items) → AreAlike old new → AreAlike (listed (repeat count tag old ∷ [])) (listed (repeat count tag new ∷ []))
block_alike count tag old new a = record {
  steps = ap (λ l. rounds count l ++ []) a.steps;
  depth = ap (λ n. max (n + 1) 0) a.depth;
  named = λ f. ap (λ n. max n 0) (a.named f);
}

-- a list with parts instead of an item
parts_there : (position : ℕ) (round : ℕ) (xs ys : List OneItem) (g : Option OneItem) → slice_get xs position ≡ g → with_parts position xs (parts_of_item round g) ≡ Ok ys → AreAlike (listed xs) (listed ys)
parts_there position round xs ys None found e = absurd (cc)
parts_there position round xs ys (Some (operation op)) found e = absurd (cc)
parts_there position round xs ys (Some (repeat count tag body)) found e = by_test (nat_lt round count) refl e
  where
    front : List OneItem
    front = take position xs

    back : List OneItem
    back = drop (suc position) xs

    old : xs ≡ front ++ ((repeat count tag body ∷ []) ++ back)
    old = got_split xs position (repeat count tag body) found

    by_test : (b : Bool) → nat_lt round count ≡ b → with_parts position xs (if b then Ok (parts_of_block round count tag body) else Err PlaceOutOfRange) ≡ Ok ys → AreAlike (listed xs) (listed ys)
    by_test false t e = absurd (cc)
    by_test true t e =
        let new : front ++ (parts_of_block round count tag body ++ back) ≡ ys =
        ap (λ n. front ++ (parts_of_block round count tag body ++ drop n xs)) {x = suc position} {y = position + 1} (omega arith) ∙ cc in
        subst (λ l. AreAlike (listed l) (listed ys)) (sym old)
        (subst (λ l. AreAlike (listed (front ++ ((repeat count tag body ∷ []) ++ back))) (listed l)) new
        (alike_around front back (repeat count tag body ∷ []) (parts_of_block round count tag body) (parts_alike round count tag body (lt_holds round count t))))

-- a split leaves items that are like those before
pub split_alike : (round : ℕ) (bs : List ℕ) (position : ℕ) (xs ys : List OneItem) → split_in round bs position xs ≡ Ok ys → AreAlike (listed xs) (listed ys)
split_alike round [] position xs ys e = parts_there position round xs ys (slice_get xs position) refl e
split_alike round (b ∷ bs) position xs ys e =
    let r = rebuilds (split_in round bs position) b xs ys (slice_get xs b) refl e in
    let front = take b xs in
    let back = drop (suc b) xs in
    let within : AreAlike r.body (listed r.within) = subst (λ (i : Items). AreAlike i (listed r.within)) (listed-entries r.body) (split_alike round bs position (entries r.body) r.within r.edited) in
    let old : xs ≡ front ++ ((repeat r.count r.tag r.body ∷ []) ++ back) = got_split xs b (repeat r.count r.tag r.body) r.found in
    let new : ys ≡ front ++ ((repeat r.count r.tag (listed r.within) ∷ []) ++ back) =
    r.same ∙ set_split xs b (repeat r.count r.tag (listed r.within)) (slice_get_within xs b (repeat r.count r.tag r.body) r.found) in
    subst (λ l. AreAlike (listed l) (listed ys)) (sym old)
    (subst (λ l. AreAlike (listed (front ++ ((repeat r.count r.tag r.body ∷ []) ++ back))) (listed l)) (sym new)
    (alike_around front back (repeat r.count r.tag r.body ∷ []) (repeat r.count r.tag (listed r.within) ∷ []) (block_alike r.count r.tag r.body (listed r.within) within)))
