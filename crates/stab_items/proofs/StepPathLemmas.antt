-- The item that each unrolled step is of.
use Rattle.stab_items.proofs.Names.{◌≡◌, ◌≤◌, ◌<◌, refl, ap, sym, ◌∙◌, subst, ℕ, ◌+◌, ◌*◌, ◌-◌, ◌/◌, ◌%◌, zero, suc, min, List, [], ◌∷◌, ◌++◌, length, take, drop, get_or, map, replicate, arith, append_assoc, append-nil, length-append, length-map, length-replicate, map-append, drop-map, drop-replicate, drop-append-le, length-take-le, take-append-drop, drop-append-add, div-lt_iff_lt-mul, div-add-mod, mod-lt, Operation, Items, OneItem, operation, repeat, done, next, block, before, listed, steps_of, rounds, unroll, Path, numbers, outside, within, path_rounds, paths_from, paths_of}
use Rattle.stab_items.proofs.StepLemmas.{length-rounds}
use Rattle.stab_items.proofs.WalkLemmas.{unroll_before, items_from}
use Rattle.stab_items.proofs.PathLemmas.{path_is}

-- as many paths as steps

length-path_rounds : (n : ℕ) (ps : List Path) → length (path_rounds n ps) ≡ n * length ps
length-path_rounds zero ps = omega arith
length-path_rounds (suc n) ps =
    let more : length ps + n * length ps ≡ suc n * length ps = omega arith in
    length-append ps (path_rounds n ps) ∙ ap (λ m. length ps + m) (length-path_rounds n ps) ∙ more

pub length-paths : (position : ℕ) (items : Items) → length (paths_from position items) ≡ length (unroll items)
length-paths position done = refl
length-paths position (next op rest) =
    let n = length (steps_of op.kind) in
    length-append (replicate n (outside position)) (paths_from (position + 1) rest)
    ∙ ap (λ m. m + length (paths_from (position + 1) rest)) (length-replicate n (outside position))
    ∙ ap (λ m. n + m) (length-paths (position + 1) rest)
    ∙ sym (length-append (steps_of op.kind) (unroll rest))
length-paths position (block count tag body rest) =
    let inside = paths_from 0 body in
    length-append (path_rounds count (map (within position) inside)) (paths_from (position + 1) rest)
    ∙ ap (λ m. m + length (paths_from (position + 1) rest)) (length-path_rounds count (map (within position) inside) ∙ ap (λ m. count * m) (length-map inside (within position) ∙ length-paths 0 body) ∙ sym (length-rounds count (unroll body)))
    ∙ ap (λ m. length (rounds count (unroll body)) + m) (length-paths (position + 1) rest)
    ∙ sym (length-append (rounds count (unroll body)) (unroll rest))

-- the items before a position, and those from it on

paths_before : (position : ℕ) (x : OneItem) (rest : Items) → paths_from position (before x rest) ≡ paths_from position (before x done) ++ paths_from (position + 1) rest
paths_before position (operation op) rest =
    let own = replicate (length (steps_of op.kind)) (outside position) in
    ap (λ l. l ++ paths_from (position + 1) rest) (sym (append-nil own))
paths_before position (repeat count tag body) rest =
    let own = path_rounds count (map (within position) (paths_from 0 body)) in
    ap (λ l. l ++ paths_from (position + 1) rest) (sym (append-nil own))

pub steps_split : (n : ℕ) (xs : List OneItem) → length (unroll (listed xs)) ≡ length (unroll (listed (take n xs))) + length (unroll (listed (drop n xs)))
steps_split zero xs = omega arith
steps_split (suc n) [] = omega arith
steps_split (suc n) (x ∷ xs) =
    omega (
      arith,
      ap length (unroll_before x (listed xs)),
      length-append (unroll (before x done)) (unroll (listed xs)),
      ap length (unroll_before x (listed (take n xs))),
      length-append (unroll (before x done)) (unroll (listed (take n xs))),
      steps_split n xs,
    )

paths-append : (position : ℕ) (xs ys : List OneItem) → paths_from position (listed (xs ++ ys)) ≡ paths_from position (listed xs) ++ paths_from (position + length xs) (listed ys)
paths-append position [] ys = let same : position ≡ position + 0 = omega arith in ap (λ p. paths_from p (listed ys)) same
paths-append position (x ∷ xs) ys =
    let following = paths_from (position + suc (length xs)) (listed ys) in
    let further : position + 1 + length xs ≡ position + suc (length xs) = omega arith in
    paths_before position x (listed (xs ++ ys))
    ∙ ap (λ l. paths_from position (before x done) ++ l) (paths-append (position + 1) xs ys ∙ ap (λ p. paths_from (position + 1) (listed xs) ++ paths_from p (listed ys)) further)
    ∙ sym (append_assoc (paths_from position (before x done)) (paths_from (position + 1) (listed xs)) following)
    ∙ ap (λ l. l ++ following) (sym (paths_before position x (listed xs)))

-- the paths from a step on, by the items from a position on
pub paths_from_position : (xs : List OneItem) (position rest step : ℕ) → position ≤ length xs → length (unroll (listed (take position xs))) + rest ≡ step
    → drop rest (paths_from position (listed (drop position xs))) ≡ drop step (paths_of (listed xs))
paths_from_position xs position rest step h e =
    let front = paths_from 0 (listed (take position xs)) in
    let at : step ≡ length front + rest = omega (arith, e, length-paths 0 (listed (take position xs))) in
    let begin : 0 + length (take position xs) ≡ position = omega (arith, length-take-le position xs h) in
    sym (ap (λ l. drop step (paths_from 0 (listed l))) (sym (take-append-drop position xs))
    ∙ ap (drop step) (paths-append 0 (take position xs) (drop position xs))
    ∙ ap (λ p. drop step (front ++ paths_from p (listed (drop position xs)))) begin
    ∙ ap (λ n. drop n (front ++ paths_from position (listed (drop position xs)))) at
    ∙ drop-append-add front (paths_from position (listed (drop position xs))) rest)

-- the item at a position

pub some_item : (xs : List OneItem) (p n : ℕ) → n < length (unroll (listed (drop p xs))) → p < length xs
some_item [] zero n h = absurd (omega (arith, h))
some_item [] (suc p) n h = absurd (omega (arith, h))
some_item (x ∷ xs) zero n h = omega arith
some_item (x ∷ xs) (suc p) n h = omega (arith, some_item xs p n h)

pub steps_at : (xs : List OneItem) (p : ℕ) (x : OneItem) → p < length xs → x ≡ get_or xs p x
    → length (unroll (listed (drop p xs))) ≡ length (unroll (before x done)) + length (unroll (listed (drop (p + 1) xs)))
steps_at xs p x h e =
    let rest = listed (drop (p + 1) xs) in
    ap (λ l. length (unroll l)) (items_from xs p x h e) ∙ ap length (unroll_before x rest) ∙ length-append (unroll (before x done)) (unroll rest)

pub item_few : (xs : List OneItem) (p : ℕ) (x : OneItem) → p < length xs → x ≡ get_or xs p x → length (unroll (before x done)) ≤ length (unroll (listed xs))
item_few xs p x h e = omega (arith, steps_at xs p x h e, steps_split p xs)

-- the steps of a block, by those of a round, which stop growing
times_exact : (n l : ℕ) → 0 < n → n * l ≤ 1048576 → n * min l 1048577 ≡ n * l
times_exact zero l some few = absurd (omega arith)
times_exact (suc n) l some few =
    let same : min l 1048577 ≡ l = grind (arith, few) in
    ap (λ m. suc n * m) same

pub block_steps : (x : OneItem) (n stored : ℕ) (tag : List ℕ) (body : Items) → x ≡ repeat n tag body → stored ≡ min (length (unroll body)) 1048577 → 0 < n → length (unroll (before x done)) ≤ 1048576
    → n * stored ≡ length (unroll (before x done))
block_steps x n stored tag body is small some few =
    let all : length (unroll (before x done)) ≡ n * length (unroll body) =
    ap (λ y. length (unroll (before y done))) is ∙ ap length (append-nil (rounds n (unroll body))) ∙ length-rounds n (unroll body) in
    ap (λ m. n * m) small ∙ times_exact n (length (unroll body)) some (omega (arith, few, all)) ∙ sym all

pub operation_steps : (x : OneItem) (op : Operation) → x ≡ operation op → length (unroll (before x done)) ≡ length (steps_of op.kind)
operation_steps x op is = ap (λ y. length (unroll (before y done))) is ∙ ap length (append-nil (steps_of op.kind))

-- the item at a position has the steps that are not after it
pub within_item : (xs : List OneItem) (p w : ℕ) (x : OneItem) → p < length xs → x ≡ get_or xs p x → w + length (unroll (listed (drop (p + 1) xs))) < length (unroll (listed (drop p xs))) → w < length (unroll (before x done))
within_item xs p w x h e k = omega (arith, k, steps_at xs p x h e)

-- the round of a block that a step is in, and how many steps of that round come before it
pub record InRound (n stored l w : ℕ) : Type 0 where
  pub some : 0 < stored
  pub exact : stored ≡ l
  pub below : w < n * l
  pub few : l ≤ 1048576
  pub round : w / stored < n
  pub at : w ≡ w / stored * l + w % stored
  pub short : w % stored < l

some_steps : (n l w : ℕ) → w < n * l → 0 < l
some_steps n zero w h = let none : n * 0 ≡ 0 = omega arith in absurd (omega (arith, h, none))
some_steps n (suc l) w h = omega arith

few_times : (n l w : ℕ) → w < n * l → n * l ≤ 1048576 → l ≤ 1048576
few_times zero l w h k = absurd (omega (arith, h))
few_times (suc n) l w h k = grind (arith, k)

in_round : (n l w : ℕ) → w < n * l → n * l ≤ 1048576 → InRound n l l w
in_round n l w h k =
    let some = some_steps n l w h in
    let swapped : w / l * l ≡ l * (w / l) = omega arith in record {
      some = some;
      exact = refl;
      below = h;
      few = few_times n l w h k;
      round = (div-lt_iff_lt-mul {k = l} {x = w} {y = n} some).1 h;
      at = sym (div-add-mod w l) ∙ ap (λ m. m + w % l) (sym swapped);
      short = mod-lt w some;
    }

pub round_of : (x : OneItem) (n stored w : ℕ) (tag : List ℕ) (body : Items) → x ≡ repeat n tag body → stored ≡ min (length (unroll body)) 1048577 → w < length (unroll (before x done)) → length (unroll (before x done)) ≤ 1048576
    → InRound n stored (length (unroll body)) w
round_of x n stored w tag body is small h few =
    let l = length (unroll body) in
    let all : length (unroll (before x done)) ≡ n * l =
    ap (λ y. length (unroll (before y done))) is ∙ ap length (append-nil (rounds n (unroll body))) ∙ length-rounds n (unroll body) in
    let within' : w < n * l = omega (arith, h, all) in
    let few' : n * l ≤ 1048576 = omega (arith, few, all) in
    let exact : stored ≡ l = small ∙ min_same l (few_times n l w within' few') in
    subst (λ m. InRound n m l w) (sym exact) (in_round n l w within' few')
  where
    min_same : (l : ℕ) → l ≤ 1048576 → min l 1048577 ≡ l
    min_same l h = omega arith

-- past an item
pub item_passed : (xs : List OneItem) (p w n : ℕ) (x : OneItem) → p < length xs → x ≡ get_or xs p x → n ≡ length (unroll (before x done)) → n ≤ w
    → drop (w - n) (paths_from (p + 1) (listed (drop (p + 1) xs))) ≡ drop w (paths_from p (listed (drop p xs)))
item_passed xs p w n x h e is enough =
    let rest = listed (drop (p + 1) xs) in
    let own = paths_from p (before x done) in
    let at : w ≡ length own + (w - n) = omega (arith, is, enough, length-paths p (before x done)) in
    sym (ap (λ l. drop w (paths_from p l)) (items_from xs p x h e)
    ∙ ap (drop w) (paths_before p x rest)
    ∙ ap (λ k. drop k (own ++ paths_from (p + 1) rest)) at
    ∙ drop-append-add own (paths_from (p + 1) rest) (w - n))

-- a path in some blocks
abbrev pub around : List ℕ → Path → Path
around bs path = record { blocks = bs ++ path.blocks; position = path.position }

around_none : (ps : List Path) → map (around []) ps ≡ ps
around_none [] = refl
around_none (p ∷ ps) = ap (λ l. p ∷ l) (around_none ps)

around_within : (bs : List ℕ) (b : ℕ) (ps : List Path) → map (around bs) (map (within b) ps) ≡ map (around (bs ++ b ∷ [])) ps
around_within bs b [] = refl
around_within bs b (p ∷ ps) =
    let first : around bs (within b p) ≡ around (bs ++ b ∷ []) p = ap (λ l. record { blocks = l; position = p.position }) (sym (append_assoc bs (b ∷ []) p.blocks)) in
    λ i. first i ∷ around_within bs b ps i

around_replicate : (bs : List ℕ) (n : ℕ) (path : Path) → map (around bs) (replicate n path) ≡ replicate n (around bs path)
around_replicate bs zero path = refl
around_replicate bs (suc n) path = ap (λ l. around bs path ∷ l) (around_replicate bs n path)

-- the paths are those of a list in some blocks, from a step within the item at a position on, and then others
pub record Reached (all : List Path) (bs : List ℕ) (xs : List OneItem) (p w : ℕ) : Type 0 where
  pub others : List Path
  pub same : all ≡ map (around bs) (drop w (paths_from p (listed (drop p xs)))) ++ others

-- the outermost list
pub reached_first : (xs : List OneItem) (p w : ℕ) → Reached (drop w (paths_from p (listed (drop p xs)))) [] xs p w
reached_first xs p w =
    let left = drop w (paths_from p (listed (drop p xs))) in
    record { others = []; same = sym (around_none left) ∙ sym (append-nil (map (around []) left)) }

-- into the round of a block
into_round : (n k r : ℕ) (ps others : List Path) → k < n → r ≤ length ps → drop (k * length ps + r) (path_rounds n ps ++ others) ≡ drop r ps ++ (path_rounds (n - k - 1) ps ++ others)
into_round zero k r ps others h few = absurd (omega arith)
into_round (suc n) zero r ps others h few =
    let rest : n ≡ suc n - 0 - 1 = omega arith in
    let at : 0 * length ps + r ≡ r = omega arith in
    ap (λ m. drop m ((ps ++ path_rounds n ps) ++ others)) at
    ∙ ap (drop r) (append_assoc ps (path_rounds n ps) others)
    ∙ drop-append-le r ps (path_rounds n ps ++ others) few
    ∙ ap (λ m. drop r ps ++ (path_rounds m ps ++ others)) rest
into_round (suc n) (suc k) r ps others h few =
    let rest : n - k - 1 ≡ suc n - suc k - 1 = omega arith in
    let at : suc k * length ps + r ≡ length ps + (k * length ps + r) = omega arith in
    ap (λ m. drop m ((ps ++ path_rounds n ps) ++ others)) at
    ∙ ap (drop (length ps + (k * length ps + r))) (append_assoc ps (path_rounds n ps) others)
    ∙ drop-append-add ps (path_rounds n ps ++ others) (k * length ps + r)
    ∙ into_round n k r ps others (omega arith) few
    ∙ ap (λ m. drop r ps ++ (path_rounds m ps ++ others)) rest

pub reached_block : (all : List Path) (bs : List ℕ) (xs ys : List OneItem) (p w n k r q v : ℕ) (tag : List ℕ) (x : OneItem) → Reached all bs xs p w → p < length xs → x ≡ get_or xs p x → x ≡ repeat n tag (listed ys)
    → w ≡ k * length (unroll (listed ys)) + r → k < n → r ≤ length (unroll (listed ys)) → drop v (paths_from q (listed (drop q ys))) ≡ drop r (paths_of (listed ys)) → Reached all (bs ++ p ∷ []) ys q v
reached_block all bs xs ys p w n k r q v tag x reached h e is at some few found =
    let b = p in
    let rest = paths_from (b + 1) (listed (drop (p + 1) xs)) in
    let inside = paths_from 0 (listed ys) in
    let round = map (within b) inside in
    let others = path_rounds (n - k - 1) round ++ rest in
    let as_many : length (unroll (listed ys)) ≡ length round = sym (length-map inside (within b) ∙ length-paths 0 (listed ys)) in
    let left : drop w (paths_from b (listed (drop p xs))) ≡ drop r round ++ others =
    ap (λ l. drop w (paths_from b l)) (items_from xs p x h e)
    ∙ ap (λ y. drop w (paths_from b (before y (listed (drop (p + 1) xs))))) is
    ∙ ap (λ m. drop m (path_rounds n round ++ rest)) (at ∙ ap (λ m. k * m + r) as_many)
    ∙ into_round n k r round rest some (omega (arith, few, as_many)) in
    let down : map (around bs) (drop r round) ≡ map (around (bs ++ b ∷ [])) (drop v (paths_from q (listed (drop q ys)))) =
    ap (map (around bs)) (drop-map (within b) r inside)
    ∙ around_within bs b (drop r inside)
    ∙ ap (map (around (bs ++ b ∷ []))) (sym found) in
    record {
      others = map (around bs) others ++ reached.others;
      same = reached.same
          ∙ ap (λ l. map (around bs) l ++ reached.others) left
          ∙ ap (λ l. l ++ reached.others) (map-append (around bs) (drop r round) others)
          ∙ append_assoc (map (around bs) (drop r round)) (map (around bs) others) reached.others
          ∙ ap (λ l. l ++ (map (around bs) others ++ reached.others)) down;
    }

take_same : (n : ℕ) (path : Path) (others : List Path) → take n (replicate n path ++ others) ≡ replicate n path
take_same zero path others = refl
take_same (suc n) path others = ap (λ l. path ∷ l) (take_same n path others)

-- the instruction that the step is of
pub reached_operation : (all : List Path) (bs : List ℕ) (xs : List OneItem) (p w steps : ℕ) (op : Operation) (x : OneItem) (path : Path) → Reached all bs xs p w → p < length xs → x ≡ get_or xs p x → x ≡ operation op
    → w ≤ length (steps_of op.kind) → steps ≡ length (steps_of op.kind) - w → numbers path ≡ bs ++ p ∷ [] → take steps all ≡ replicate steps path
reached_operation all bs xs p w steps op x path reached h e is few count named =
    let b = p in
    let n = length (steps_of op.kind) in
    let own = replicate n (outside b) in
    let rest = paths_from (b + 1) (listed (drop (p + 1) xs)) in
    let here = around bs (outside b) in
    let others = map (around bs) rest ++ reached.others in
    let path' : here ≡ path = ap (λ l. record { blocks = l; position = b }) (append-nil bs) ∙ sym (path_is path bs b named) in
    let left : drop w (paths_from b (listed (drop p xs))) ≡ replicate (n - w) (outside b) ++ rest =
    ap (λ l. drop w (paths_from b l)) (items_from xs p x h e)
    ∙ ap (λ y. drop w (paths_from b (before y (listed (drop (p + 1) xs))))) is
    ∙ drop-append-le w own rest (omega (arith, few, length-replicate n (outside b)))
    ∙ ap (λ l. l ++ rest) (drop-replicate w n (outside b)) in
    let all' : all ≡ replicate (n - w) here ++ others =
    reached.same
    ∙ ap (λ l. map (around bs) l ++ reached.others) left
    ∙ ap (λ l. l ++ reached.others) (map-append (around bs) (replicate (n - w) (outside b)) rest ∙ ap (λ l. l ++ map (around bs) rest) (around_replicate bs (n - w) (outside b)))
    ∙ append_assoc (replicate (n - w) here) (map (around bs) rest) reached.others in
    ap (take steps) all'
    ∙ ap (λ m. take steps (replicate m here ++ others)) (sym count)
    ∙ take_same steps here others
    ∙ ap (replicate steps) path'
