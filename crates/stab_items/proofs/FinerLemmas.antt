-- Finer rounds: a block whose steps are the rounds of one block in it comes to this many more rounds of that one's steps.
use Rattle.stab_items.proofs.Names.{◌≡◌, ◌<◌, refl, ap, sym, ◌∙◌, subst, ℕ, ◌+◌, ◌*◌, zero, suc, Bool, true, false, nat_lt, nat_eq, if◌then◌else◌, Option, Some, None, List, [], ◌∷◌, ◌++◌, length, arith, append_assoc, append-nil, length-append, Items, done, next, block, Step, rounds, unroll, steps_of, first_with_steps, finer_by, finer}
use Rattle.stab_items.proofs.StepLemmas.{length-rounds}

-- rounds of steps, said in another way
pub record IsFiner (n : ℕ) (ss : List Step) (f : ℕ × List Step) : Type 0 where
  pub same : rounds f.0 f.1 ≡ rounds n ss
  pub some : 0 < length f.1
  pub many : 1 < f.0

rounds-plus : (a b : ℕ) (ss : List Step) → rounds (a + b) ss ≡ rounds a ss ++ rounds b ss
rounds-plus zero b ss =
    let e : zero + b ≡ b = omega arith in
    ap (λ k. rounds k ss) e
rounds-plus (suc a) b ss =
    let e : suc a + b ≡ suc (a + b) = omega arith in
    let more : ss ++ rounds (a + b) ss ≡ ss ++ (rounds a ss ++ rounds b ss) = ap (λ zs. ss ++ zs) (rounds-plus a b ss) in
    ap (λ k. rounds k ss) e ∙ more ∙ sym (append_assoc ss (rounds a ss) (rounds b ss))

pub rounds-times : (n c : ℕ) (ss : List Step) → rounds n (rounds c ss) ≡ rounds (n * c) ss
rounds-times zero c ss =
    let e : zero ≡ zero * c = omega arith in
    ap (λ k. rounds k ss) e
rounds-times (suc n) c ss =
    let e : c + n * c ≡ suc n * c = omega arith in
    let more : rounds c ss ++ rounds n (rounds c ss) ≡ rounds c ss ++ rounds (n * c) ss = ap (λ zs. rounds c ss ++ zs) (rounds-times n c ss) in
    let sum : rounds c ss ++ rounds (n * c) ss ≡ rounds (c + n * c) ss = sym (rounds-plus c (n * c) ss) in
    more ∙ sum ∙ ap (λ k. rounds k ss) e

-- the steps of a list have those of its first block with steps among them
pub record HasAmong (ss mid : List Step) : Type 0 where
  pub front : List Step
  pub rest : List Step
  pub cut : ss ≡ front ++ (mid ++ rest)

among-more : (own ss mid : List Step) → HasAmong ss mid → HasAmong (own ++ ss) mid
among-more own ss mid h = record {
  front = own ++ h.front;
  rest = h.rest;
  cut = ap (λ zs. own ++ zs) h.cut ∙ sym (append_assoc own h.front (mid ++ h.rest));
}

first-among : (items : Items) (b : ℕ × Items) → first_with_steps items ≡ Some b → HasAmong (unroll items) (rounds b.0 (unroll b.1))
first-among done b e = absurd (cc)
first-among (next op rest) b e = among-more (steps_of op.kind) (unroll rest) (rounds b.0 (unroll b.1)) (first-among rest b e)
first-among (block count tag body rest) b e = chosen (nat_lt 0 (length (unroll body))) (λ more. first-among rest b more) e
  where
    chosen : (some : Bool) → (first_with_steps rest ≡ Some b → HasAmong (unroll rest) (rounds b.0 (unroll b.1)))
        → (if some then Some (count, body) else first_with_steps rest) ≡ Some b → HasAmong (rounds count (unroll body) ++ unroll rest) (rounds b.0 (unroll b.1))
    chosen true later e =
        let same : (count, body) ≡ b = cc in
        subst (λ (x : ℕ × Items). HasAmong (rounds count (unroll body) ++ unroll rest) (rounds x.0 (unroll x.1))) same (record { front = []; rest = unroll rest; cut = refl })
    chosen false later e = among-more (rounds count (unroll body)) (unroll rest) (rounds b.0 (unroll b.1)) (later e)

nothing : (xs : List Step) → length xs ≡ 0 → xs ≡ []
nothing [] e = refl
nothing (x ∷ xs) e = absurd (omega (arith, e))

-- and no others, if these are as many
no-others : (ss mid : List Step) → HasAmong ss mid → length mid ≡ length ss → mid ≡ ss
no-others ss mid h e =
    let all : length ss ≡ length h.front + (length mid + length h.rest) = ap length h.cut ∙ length-append h.front (mid ++ h.rest) ∙ ap (λ k. length h.front + k) (length-append mid h.rest) in
    let front = nothing h.front (omega (arith, all, e)) in
    let rest = nothing h.rest (omega (arith, all, e)) in
    sym (append-nil mid) ∙ ap (λ zs. mid ++ zs) (sym rest) ∙ ap (λ zs. zs ++ (mid ++ h.rest)) (sym front) ∙ sym h.cut

-- a product that is some number has no factor 0
factors : (a b k : ℕ) → a * b ≡ k → 0 < k → (0 < a) × (0 < b)
factors zero b k e some = absurd (omega (arith, e, some))
factors (suc a) zero k e some = absurd (omega (arith, e, some))
factors (suc a) (suc b) k e some = (omega arith, omega arith)

more-rounds : (n c : ℕ) → 1 < n → 0 < c → 1 < n * c
more-rounds n zero many some = absurd (omega (arith, some))
more-rounds n (suc c) many some = let e : n * suc c ≡ n + n * c = omega arith in omega (arith, e, many)

pub is-finer : (n : ℕ) (items : Items) → 0 < length (unroll items) → 1 < n → IsFiner n (unroll items) (finer n items)
is-finer n items some many = by (first_with_steps items) refl
  where
    by : (found : Option (ℕ × Items)) → first_with_steps items ≡ found → IsFiner n (unroll items) (finer_by n (unroll items) found)
    by None e = record { same = refl; some = some; many = many }
    by (Some b) e = chosen (nat_eq (b.0 * length (unroll b.1)) (length (unroll items))) refl
      where
        chosen : (all : Bool) → nat_eq (b.0 * length (unroll b.1)) (length (unroll items)) ≡ all
            → IsFiner n (unroll items) (if all then (n * b.0, unroll b.1) else (n, unroll items))
        chosen false none = record { same = refl; some = some; many = many }
        chosen true same =
            let counted : b.0 * length (unroll b.1) ≡ length (unroll items) = grind (arith, same) in
            let parts = factors b.0 (length (unroll b.1)) (length (unroll items)) counted some in
            let whole : rounds b.0 (unroll b.1) ≡ unroll items =
            no-others (unroll items) (rounds b.0 (unroll b.1)) (first-among items b e) (length-rounds b.0 (unroll b.1) ∙ counted) in
            record {
              same = sym (rounds-times n b.0 (unroll b.1)) ∙ ap (rounds n) whole;
              some = parts.1;
              many = more-rounds n b.0 many parts.0;
            }

-- all rounds of a block, and its steps
pub block-steps : (count : ℕ) (tag : List ℕ) (body : Items) → length (unroll (block count tag body done)) ≡ count * length (unroll body)
block-steps count tag body = ap length (append-nil (rounds count (unroll body))) ∙ length-rounds count (unroll body)
