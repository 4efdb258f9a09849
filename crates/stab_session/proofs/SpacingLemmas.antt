-- Spacing: what saving checkpoints keeps, how many checkpoints there are, and how near to a step the next of them is.
use Rattle.stab_session.proofs.Names.{◌≡◌, ℕ, zero, suc, ◌+◌, ◌-◌, ◌*◌, ◌/◌, ◌^◌, ◌<◌, ◌≤◌, refl, sym, ap, subst, arith, add-one, List, [], ◌∷◌, ◌++◌, length, take, drop, map, All, Option, Some, None, ◌⊎◌, inl, inr, IfSome, MatchOption, if◌then◌else◌, nat_le, le-div_iff_mul-le, cases_lt, leb_tells, All-nil, All-cons, All-head, All-tail, Checkpoint, Meeting, Plan, Near, Sparse, IsSpaced, last_of, checkpoint_steps, saved, all_saved, moved, moved_checkpoint, Ascending, step_among_new}
use Rattle.std.specs.Prelude.{slice_get}

-- parts of near and of sparse steps

pub near-tail : (K L a : ℕ) (xs : List ℕ) → Near K (a ∷ xs ++ L ∷ []) → Near K (xs ++ L ∷ [])
near-tail K L a [] h = tt
near-tail K L a (b ∷ xs) h = h.2

near-init : (K L : ℕ) (xs : List ℕ) → Near K (xs ++ L ∷ []) → Near K xs
near-init K L [] h = tt
near-init K L (a ∷ []) h = tt
near-init K L (a ∷ b ∷ xs) h = (h.0, h.1, near-init K L (b ∷ xs) h.2)

pub near-le : (K L a : ℕ) (xs : List ℕ) → Near K (a ∷ xs ++ L ∷ []) → a ≤ L
near-le K L a [] h = h.0
near-le K L a (b ∷ xs) h = let first = h.0 in let rest = near-le K L b xs h.2 in omega arith

sparse-tail : (K a : ℕ) (xs : List ℕ) → Sparse K (a ∷ xs) → Sparse K xs
sparse-tail K a [] s = tt
sparse-tail K a (b ∷ []) s = tt
sparse-tail K a (b ∷ c ∷ xs) s = s.1

-- how many there are

record FewSteps (K L a : ℕ) (xs : List ℕ) : Type 0 where
  strides : ℕ
  few : length xs ≤ 2 * strides + 1
  room : strides * K + a ≤ L

few-steps : (K L a : ℕ) (xs : List ℕ) → Sparse K (a ∷ xs) → Near K (a ∷ xs ++ L ∷ []) → FewSteps K L a xs
few-steps K L a [] s n = let l = n.0 in record { strides = 0; few = omega arith; room = omega arith }
few-steps K L a (b ∷ []) s n = let l = n.0 in let m = n.2.0 in record { strides = 0; few = omega arith; room = omega arith }
few-steps K L a (b ∷ c ∷ xs) s n =
    let rest = few-steps K L c xs (sparse-tail K b (c ∷ xs) s.1) n.2.2 in
    let distinct = s.0 in
    let few = rest.few in
    let room = rest.room in
    record { strides = rest.strides + 1; few = omega arith; room = omega arith }

-- at most two checkpoints for each stride
pub count-spaced : (K L : ℕ) (steps : List ℕ) → 0 < K → IsSpaced K L steps → length steps ≤ 2 * (L / K) + 2
count-spaced K L [] k s = omega arith
count-spaced K L (a ∷ xs) k s =
    let r = few-steps K L a xs s.sparse s.near in
    let few = r.few in
    let room = r.room in
    let within : r.strides * K ≤ L = omega arith in
    let strides : r.strides ≤ L / K = (le-div_iff_mul-le {k = K} {x = r.strides} {y = L} k).1 within in
    omega (arith, few, strides)

-- steps up to one of them

near-front : (K L b s : ℕ) (steps : List ℕ) → Near K (steps ++ L ∷ []) → slice_get steps b ≡ Some s → Near K (take (suc b) steps ++ s ∷ [])
near-front K L b s [] h e = tt
near-front K L zero s (x ∷ xs) h e = let same : x ≡ s = cc in (omega arith, omega arith, tt)
near-front K L (suc b) s (x ∷ []) h e = absurd (cc)
near-front K L (suc b) s (x ∷ y ∷ xs) h e = (h.0, h.1, near-front K L b s (y ∷ xs) h.2 e)

sparse-front : (K n : ℕ) (steps : List ℕ) → Sparse K steps → Sparse K (take n steps)
sparse-front K zero xs s = tt
sparse-front K (suc n) [] s = tt
sparse-front K (suc zero) (a ∷ xs) s = tt
sparse-front K (suc (suc n)) (a ∷ []) s = tt
sparse-front K (suc (suc zero)) (a ∷ b ∷ xs) s = tt
sparse-front K (suc (suc (suc n))) (a ∷ b ∷ []) s = tt
sparse-front K (suc (suc (suc n))) (a ∷ b ∷ c ∷ xs) s = (s.0, sparse-front K (suc (suc n)) (b ∷ c ∷ xs) s.1)

first-front : (b : ℕ) (steps : List ℕ) → slice_get steps 0 ≡ Some 0 → slice_get (take (suc b) steps) 0 ≡ Some 0
first-front b [] e = e
first-front b (x ∷ xs) e = e

last-front : (b s d : ℕ) (steps : List ℕ) → slice_get steps b ≡ Some s → last_of d (take (suc b) steps) ≡ s
last-front b s d [] e = absurd (cc)
last-front zero s d (x ∷ xs) e = cc
last-front (suc b) s d (x ∷ xs) e = last-front b s x xs e

pub spaced-front : (K L : ℕ) (steps : List ℕ) (b s : ℕ) → IsSpaced K L steps → slice_get steps b ≡ Some s
    → IsSpaced K s (take (b + 1) steps) × (last_of 0 (take (b + 1) steps) ≡ s)
spaced-front K L steps b s h e =
    subst (λ n. IsSpaced K s (take n steps) × (last_of 0 (take n steps) ≡ s)) (sym (add-one b)) (
      record { first = first-front b steps h.first; near = near-front K L b s steps h.near e; sparse = sparse-front K (suc b) steps h.sparse },
      last-front b s 0 steps e,
    )

-- one checkpoint saved after others

by-test : (P : List Checkpoint → Type 0) (m K : ℕ) (xs ys : List Checkpoint) → (m ≤ K → P xs) → (K < m → P ys) → P (if nat_le m K then xs else ys)
by-test P m K xs ys f g =
    elim (leb_tells m K) [
      | inl t ↦ subst (λ v. P (if v then xs else ys)) (sym t.0) (f t.1)
      | inr t ↦ subst (λ v. P (if v then xs else ys)) (sym t.0) (g t.1)
    ]

saved-head : (K : ℕ) (c a : Checkpoint) (xs : List Checkpoint) → saved K c (a ∷ xs) ≡ a ∷ drop 1 (saved K c (a ∷ xs))
saved-head K c a [] = refl
saved-head K c a (b ∷ []) = by-test (λ t. t ≡ a ∷ drop 1 t) (c.step - a.step) K (a ∷ c ∷ []) (a ∷ b ∷ c ∷ []) (λ _. refl) (λ _. refl)
saved-head K c a (b ∷ d ∷ xs) = refl

last-saved : (K d : ℕ) (c : Checkpoint) (xs : List Checkpoint) → last_of d (checkpoint_steps (saved K c xs)) ≡ c.step
last-saved K d c [] = refl
last-saved K d c (a ∷ []) = refl
last-saved K d c (a ∷ b ∷ []) =
    by-test (λ t. last_of d (checkpoint_steps t) ≡ c.step) (c.step - a.step) K (a ∷ c ∷ []) (a ∷ b ∷ c ∷ []) (λ _. refl) (λ _. refl)
last-saved K d c (a ∷ b ∷ e ∷ xs) = last-saved K a.step c (b ∷ e ∷ xs)

near-saved : (K p : ℕ) (c a : Checkpoint) (xs : List Checkpoint) → Near K (p ∷ checkpoint_steps (a ∷ xs)) → last_of a.step (checkpoint_steps xs) ≤ c.step
    → c.step ≤ last_of a.step (checkpoint_steps xs) + K → Near K (p ∷ checkpoint_steps (saved K c (a ∷ xs)) ++ c.step ∷ [])
near-saved K p c a [] h l u = (h.0, h.1, (l, u, (omega arith, omega arith, tt)))
near-saved K p c a (b ∷ []) h l u =
    let following = h.2.0 in
    by-test (λ t. Near K (p ∷ checkpoint_steps t ++ c.step ∷ [])) (c.step - a.step) K (a ∷ c ∷ []) (a ∷ b ∷ c ∷ [])
    (λ near. (h.0, h.1, (omega arith, omega arith, (omega arith, omega arith, tt))))
    (λ _. (h.0, h.1, (following, h.2.1, (l, u, (omega arith, omega arith, tt)))))
near-saved K p c a (b ∷ d ∷ xs) h l u = (h.0, h.1, near-saved K a.step c b (d ∷ xs) h.2 l u)

sparse-saved-following : (K p : ℕ) (c a b : Checkpoint) (xs : List Checkpoint) → Sparse K (p ∷ checkpoint_steps (a ∷ b ∷ xs)) → last_of b.step (checkpoint_steps xs) ≤ c.step
    → Sparse K (p ∷ checkpoint_steps (saved K c (a ∷ b ∷ xs)))
sparse-saved-following K p c a b [] s l =
    let distinct = s.0 in
    by-test (λ t. Sparse K (p ∷ checkpoint_steps t)) (c.step - a.step) K (a ∷ c ∷ []) (a ∷ b ∷ c ∷ [])
    (λ _. (omega arith, tt))
    (λ far. (distinct, (omega arith, tt)))
sparse-saved-following K p c a b (d ∷ xs) s l =
    subst (λ t. Sparse K (a.step ∷ checkpoint_steps t) → Sparse K (p ∷ a.step ∷ checkpoint_steps t)) (sym (saved-head K c b (d ∷ xs))) (λ r. (s.0, r))
    (sparse-saved-following K a.step c b d xs s.1 l)

sparse-saved : (K : ℕ) (c : Checkpoint) (xs : List Checkpoint) → Sparse K (checkpoint_steps xs) → last_of 0 (checkpoint_steps xs) ≤ c.step → Sparse K (checkpoint_steps (saved K c xs))
sparse-saved K c [] s l = tt
sparse-saved K c (a ∷ []) s l = tt
sparse-saved K c (a ∷ b ∷ []) s l =
    by-test (λ t. Sparse K (checkpoint_steps t)) (c.step - a.step) K (a ∷ c ∷ []) (a ∷ b ∷ c ∷ []) (λ _. tt) (λ far. (omega arith, tt))
sparse-saved K c (a ∷ b ∷ d ∷ xs) s l = sparse-saved-following K a.step c b d xs s l

spaced-saved : (K end : ℕ) (c : Checkpoint) (xs : List Checkpoint) → IsSpaced K end (checkpoint_steps xs) → last_of 0 (checkpoint_steps xs) ≡ end → end ≤ c.step
    → c.step ≤ end + K → IsSpaced K c.step (checkpoint_steps (saved K c xs))
spaced-saved K end c [] s e l u = let nothing = s.first in absurd (cc)
spaced-saved K end c (a ∷ xs) s e l u = record {
  first = subst (λ t. slice_get (checkpoint_steps t) 0 ≡ Some 0) (sym (saved-head K c a xs)) s.first;
  near = near-tail K c.step a.step (checkpoint_steps (saved K c (a ∷ xs)))
      (near-saved K a.step c a xs (omega arith, omega arith, near-init K end (checkpoint_steps (a ∷ xs)) s.near) (omega arith) (omega arith));
  sparse = sparse-saved K c (a ∷ xs) s.sparse (omega arith);
}

-- checkpoints saved after others

near-end : (K a L d : ℕ) (xs : List ℕ) → Near K (xs ++ a ∷ []) → last_of d xs ≡ a → a ≤ L → L ≤ a + K → Near K (xs ++ L ∷ [])
near-end K a L d [] h e l u = tt
near-end K a L d (x ∷ []) h e l u = (omega arith, omega arith, tt)
near-end K a L d (x ∷ y ∷ xs) h e l u = (h.0, h.1, near-end K a L x (y ∷ xs) h.2 e l u)

pub spaced-all : (K L end : ℕ) (cs xs : List Checkpoint) → Near K (end ∷ checkpoint_steps cs ++ L ∷ []) → IsSpaced K end (checkpoint_steps xs)
    → last_of 0 (checkpoint_steps xs) ≡ end → IsSpaced K L (checkpoint_steps (all_saved K cs xs))
spaced-all K L end [] xs n s e = record { first = s.first; near = near-end K end L 0 (checkpoint_steps xs) s.near e n.0 n.1; sparse = s.sparse }
spaced-all K L end (c ∷ cs) xs n s e = spaced-all K L c.step cs (saved K c xs) n.2 (spaced-saved K end c xs s e n.0 n.1) (last-saved K 0 c xs)

saved-all : (P : Checkpoint → Type 0) (K : ℕ) (c : Checkpoint) (xs : List Checkpoint) → P c → All P xs → All P (saved K c xs)
saved-all P K c [] p h = All-cons P c [] p h
saved-all P K c (a ∷ []) p h = All-cons P a (c ∷ []) (All-head P a [] h) (All-cons P c [] p (All-nil P))
saved-all P K c (a ∷ b ∷ []) p h =
    let here = All-head P a (b ∷ []) h in
    let next = All-head P b [] (All-tail P a (b ∷ []) h) in
    let alone = All-cons P c [] p (All-nil P) in
    by-test (All P) (c.step - a.step) K (a ∷ c ∷ []) (a ∷ b ∷ c ∷ [])
    (λ _. All-cons P a (c ∷ []) here alone)
    (λ _. All-cons P a (b ∷ c ∷ []) here (All-cons P b (c ∷ []) next alone))
saved-all P K c (a ∷ b ∷ d ∷ xs) p h =
    All-cons P a (saved K c (b ∷ d ∷ xs)) (All-head P a (b ∷ d ∷ xs) h) (saved-all P K c (b ∷ d ∷ xs) p (All-tail P a (b ∷ d ∷ xs) h))

pub all-saved-all : (P : Checkpoint → Type 0) (K : ℕ) (cs xs : List Checkpoint) → All P cs → All P xs → All P (all_saved K cs xs)
all-saved-all P K [] xs a b = b
all-saved-all P K (c ∷ cs) xs a b = all-saved-all P K cs (saved K c xs) (All-tail P c cs a) (saved-all P K c xs (All-head P c cs a) b)

pub all-saved-append : (K : ℕ) (cs ds xs : List Checkpoint) → all_saved K (cs ++ ds) xs ≡ all_saved K ds (all_saved K cs xs)
all-saved-append K [] ds xs = refl
all-saved-append K (c ∷ cs) ds xs = all-saved-append K cs ds (saved K c xs)

-- a checkpoint and what is after it

next-near : (K L n : ℕ) (c : Checkpoint) (cs : List Checkpoint) → Near K (checkpoint_steps cs ++ L ∷ []) → slice_get cs n ≡ Some c
    → MatchOption (slice_get cs (suc n)) (L ≤ c.step + K) (λ d. (c.step ≤ d.step) × (d.step ≤ c.step + K))
next-near K L n c [] h e = absurd (cc)
next-near K L zero c (a ∷ []) h e = let same : a ≡ c = cc in subst (λ (t : Checkpoint). L ≤ t.step + K) same h.1
next-near K L zero c (a ∷ b ∷ cs) h e = let same : a ≡ c = cc in subst (λ (t : Checkpoint). (t.step ≤ b.step) × (b.step ≤ t.step + K)) same (h.0, h.1)
next-near K L (suc n) c (a ∷ []) h e = absurd (cc)
next-near K L (suc n) c (a ∷ b ∷ cs) h e = next-near K L n c (b ∷ cs) h.2 e

-- the last of the first checkpoints, which are those at or before a step; the one after it is near too
pub record IsBefore (K L p n : ℕ) (cs : List Checkpoint) : Type 0 where
  pub some : 0 < n
  pub checkpoint : Checkpoint
  pub here : slice_get cs (n - 1) ≡ Some checkpoint
  pub within : checkpoint.step ≤ p
  pub near : p ≤ checkpoint.step + K
  pub next : MatchOption (slice_get cs n) (L ≤ checkpoint.step + K) (λ c. (checkpoint.step ≤ c.step) × (c.step ≤ checkpoint.step + K))

last-before : (e m : ℕ) (a : Checkpoint) (cs : List Checkpoint) → m < length cs → All (λ c. c.step < e) (take (suc m) cs)
    → (c : Checkpoint) × (slice_get cs m ≡ Some c) × (c.step < e)
last-before e m a [] w f = absurd (omega arith)
last-before e zero a (c ∷ cs) w f = (c, refl, f 0 c (omega arith))
last-before e (suc m) a (c ∷ cs) w f = last-before e m a cs (omega arith) (All-tail (λ x. x.step < e) c (take (suc m) cs) f)

near-before : (K L p a : ℕ) (o : Option Checkpoint) → p ≤ L → IfSome o (λ c. p + 1 ≤ c.step)
    → MatchOption o (L ≤ a + K) (λ c. (a ≤ c.step) × (c.step ≤ a + K)) → p ≤ a + K
near-before K L p a None l g m = omega arith
near-before K L p a (Some c) l g m = let within = m.1 in omega arith

pub before-near : (K L p n : ℕ) (cs : List Checkpoint) → IsSpaced K L (checkpoint_steps cs) → p ≤ L → n ≤ length cs
    → All (λ c. c.step < p + 1) (take n cs) → IfSome (slice_get cs n) (λ c. p + 1 ≤ c.step) → IsBefore K L p n cs
before-near K L p zero [] s l w f g = let nothing = s.first in absurd (cc)
before-near K L p zero (a ∷ cs) s l w f g = let first : a.step ≡ 0 = (let e = s.first in cc) in absurd (omega arith)
before-near K L p (suc m) [] s l w f g = absurd (omega arith)
before-near K L p (suc m) (a ∷ cs) s l w f g =
    let last = last-before (p + 1) m a (a ∷ cs) (omega arith) f in
    let next = next-near K L m last.0 (a ∷ cs) s.near last.1 in
    let before = last.2 in
    record {
      some = omega arith;
      checkpoint = last.0;
      here = subst (λ k. slice_get (a ∷ cs) k ≡ Some last.0) (omega arith) last.1;
      within = omega arith;
      near = near-before K L p last.0.step (slice_get (a ∷ cs) (suc m)) l g next;
      next = next;
    }

near-following : (K L e a : ℕ) (o : Option Checkpoint) → a < e → IfSome o (λ c. e ≤ c.step)
    → MatchOption o (L ≤ a + K) (λ c. (a ≤ c.step) × (c.step ≤ a + K)) → MatchOption o (L ≤ e + K) (λ c. (e ≤ c.step) × (c.step ≤ e + K))
near-following K L e a None l g m = omega arith
near-following K L e a (Some c) l g m = let within = m.1 in (g, omega arith)

-- the first checkpoint at or after a step, or the end if there is none
pub following-near : (K L e n : ℕ) (cs : List Checkpoint) → IsSpaced K L (checkpoint_steps cs) → n ≤ length cs
    → All (λ c. c.step < e) (take n cs) → IfSome (slice_get cs n) (λ c. e ≤ c.step)
    → MatchOption (slice_get cs n) (L ≤ e + K) (λ c. (e ≤ c.step) × (c.step ≤ e + K))
following-near K L e zero [] s w f g = let nothing = s.first in absurd (cc)
following-near K L e zero (a ∷ cs) s w f g = let first : a.step ≡ 0 = (let h = s.first in cc) in (g, omega arith)
following-near K L e (suc m) [] s w f g = absurd (omega arith)
following-near K L e (suc m) (a ∷ cs) s w f g =
    let last = last-before e m a (a ∷ cs) (omega arith) f in
    near-following K L e last.0.step (slice_get (a ∷ cs) (suc m)) last.2 g (next-near K L m last.0 (a ∷ cs) s.near last.1)

-- from one on a checkpoint is at or after a step, and at most K steps after it
pub record IsNearCheckpoint (K t n : ℕ) (cs : List Checkpoint) : Type 0 where
  pub number : ℕ
  pub checkpoint : Checkpoint
  pub from : n ≤ number
  pub here : slice_get cs number ≡ Some checkpoint
  pub following : t ≤ checkpoint.step
  pub near : checkpoint.step ≤ t + K

one-further : (K L t m n : ℕ) (c : Checkpoint) (cs : List Checkpoint) → m ≤ n + 1 → (L ≤ t + K) ⊎ IsNearCheckpoint K t n cs → (L ≤ t + K) ⊎ IsNearCheckpoint K t m (c ∷ cs)
one-further K L t m n c cs le h =
    elim h [
      | inl end ↦ inl end
      | inr found ↦ let from = found.from in
          inr (record { number = suc found.number; checkpoint = found.checkpoint; from = omega (arith, le, from); here = found.here; following = found.following; near = found.near })
    ]

-- or the end does, if the first of them, or else the end, is at most so far after it
pub near-checkpoint : (K L t n : ℕ) (cs : List Checkpoint) → Near K (checkpoint_steps cs ++ L ∷ []) → MatchOption (slice_get cs n) (L ≤ t + K) (λ c. c.step ≤ t + K)
    → (L ≤ t + K) ⊎ IsNearCheckpoint K t n cs
near-checkpoint K L t zero [] near h = inl h
near-checkpoint K L t (suc n) [] near h = inl h
near-checkpoint K L t (suc n) (c ∷ cs) near h = one-further K L t (suc n) n c cs (omega arith) (near-checkpoint K L t n cs (near-tail K L c.step (checkpoint_steps cs) near) h)
near-checkpoint K L t zero (c ∷ []) near h =
    elim (cases_lt c.step t) [
      | inl lt ↦ let end = near.1 in inl (omega (arith, lt, end))
      | inr le ↦ inr (record { number = 0; checkpoint = c; from = omega arith; here = refl; following = le; near = h })
    ]
near-checkpoint K L t zero (c ∷ d ∷ cs) near h =
    elim (cases_lt c.step t) [
      | inl lt ↦ let next = near.1 in one-further K L t zero zero c (d ∷ cs) (omega arith) (near-checkpoint K L t zero (d ∷ cs) near.2 (omega (arith, lt, next)))
      | inr le ↦ inr (record { number = 0; checkpoint = c; from = omega arith; here = refl; following = le; near = h })
    ]

-- checkpoints from one at or after a step on

all-between : (K L e a : ℕ) (cs : List Checkpoint) → e ≤ a → Near K (a ∷ checkpoint_steps cs ++ L ∷ []) → All (λ c. (e ≤ c.step) × (c.step ≤ L)) cs
all-between K L e a [] l h = All-nil (λ c. (e ≤ c.step) × (c.step ≤ L))
all-between K L e a (c ∷ cs) l h =
    let following = h.0 in
    let later : e ≤ c.step = omega arith in
    All-cons (λ x. (e ≤ x.step) × (x.step ≤ L)) c cs (later, near-le K L c.step (checkpoint_steps cs) h.2) (all-between K L e c.step cs later h.2)

pub all-following : (K L e n : ℕ) (cs : List Checkpoint) → Near K (checkpoint_steps cs ++ L ∷ []) → IfSome (slice_get cs n) (λ c. e ≤ c.step)
    → All (λ c. (e ≤ c.step) × (c.step ≤ L)) (drop n cs)
all-following K L e zero [] h g = All-nil (λ c. (e ≤ c.step) × (c.step ≤ L))
all-following K L e (suc n) [] h g = All-nil (λ c. (e ≤ c.step) × (c.step ≤ L))
all-following K L e zero (c ∷ cs) h g =
    All-cons (λ x. (e ≤ x.step) × (x.step ≤ L)) c cs (g, near-le K L c.step (checkpoint_steps cs) h) (all-between K L e c.step cs g h)
all-following K L e (suc n) (c ∷ cs) h g = all-following K L e n cs (near-tail K L c.step (checkpoint_steps cs) h) g

-- a step that moves, if 64 bits are enough
pub moved-within : (old new x L : ℕ) → x ≤ L → new + (L - old) < 2 ^ 64 → moved old new x ≡ new + (x - old)
moved-within old new x L l f = omega arith

ascending-from : (p : Plan) (K L a step : ℕ) (cs : List Checkpoint) → Near K (a ∷ checkpoint_steps cs ++ L ∷ []) → p.total ≡ p.new_end + (L - p.old_end)
    → p.total < 2 ^ 64 → step ≤ p.new_end + (a - p.old_end) → Ascending p step cs
ascending-from p K L a step [] h t f s = let within = h.0 in omega arith
ascending-from p K L a step (c ∷ cs) h t f s =
    let following = h.0 in
    let site = moved-within p.old_end p.new_end c.step L (near-le K L c.step (checkpoint_steps cs) h.2) (omega arith) in
    (omega arith, ascending-from p K L c.step (step_among_new p c) cs h.2 t f (omega arith))

-- and their positions among other steps
pub ascending-following : (p : Plan) (K L step n : ℕ) (cs : List Checkpoint) → Near K (checkpoint_steps cs ++ L ∷ [])
    → IfSome (slice_get cs n) (λ c. p.old_end ≤ c.step) → p.old_end ≤ L → p.total ≡ p.new_end + (L - p.old_end) → p.total < 2 ^ 64
    → step ≤ p.new_end → Ascending p step (drop n cs)
ascending-following p K L step zero [] h g l t f s = omega arith
ascending-following p K L step (suc n) [] h g l t f s = omega arith
ascending-following p K L step zero (c ∷ cs) h g l t f s =
    let site = moved-within p.old_end p.new_end c.step L (near-le K L c.step (checkpoint_steps cs) h) (omega arith) in
    (omega arith, ascending-from p K L c.step (step_among_new p c) cs h t f (omega arith))
ascending-following p K L step (suc n) (c ∷ cs) h g l t f s = ascending-following p K L step n cs (near-tail K L c.step (checkpoint_steps cs) h) g l t f s

pub near-moved : (K old new L a : ℕ) (steps : List ℕ) → old ≤ a → Near K (a ∷ steps ++ L ∷ []) → new + (L - old) < 2 ^ 64
    → Near K ((new + (a - old)) ∷ map (moved old new) steps ++ (new + (L - old)) ∷ [])
near-moved K old new L a [] l h f = let within = h.0 in let near = h.1 in (omega arith, omega arith, tt)
near-moved K old new L a (b ∷ steps) l h f =
    let following = h.0 in
    let near = h.1 in
    subst (λ t. Near K ((new + (a - old)) ∷ t ∷ map (moved old new) steps ++ (new + (L - old)) ∷ []))
    (sym (moved-within old new b L (near-le K L b steps h.2) f))
    (omega arith, omega arith, near-moved K old new L b steps (omega arith) h.2 f)

pub moved-near : (K old new L : ℕ) (steps : List ℕ) → Near K (old ∷ steps ++ L ∷ []) → new + (L - old) < 2 ^ 64
    → Near K (new ∷ map (moved old new) steps ++ (new + (L - old)) ∷ [])
moved-near K old new L steps h f =
    subst (λ t. Near K (t ∷ map (moved old new) steps ++ (new + (L - old)) ∷ [])) (omega arith) (near-moved K old new L old steps (omega arith) h f)

pub steps-moved : (s : Meeting) (cs : List Checkpoint) → checkpoint_steps (map (moved_checkpoint s) cs) ≡ map (moved s.old_step s.new_step) (checkpoint_steps cs)
steps-moved s [] = refl
steps-moved s (c ∷ cs) = ap (λ t. moved s.old_step s.new_step c.step ∷ t) (steps-moved s cs)

-- near steps cut at one of them, and put together again

near-following-one : (K L n s : ℕ) (steps : List ℕ) → Near K (steps ++ L ∷ []) → slice_get steps n ≡ Some s → Near K (s ∷ drop (suc n) steps ++ L ∷ [])
near-following-one K L n s [] h e = absurd (cc)
near-following-one K L zero s (x ∷ xs) h e = let same : x ≡ s = cc in subst (λ t. Near K (t ∷ xs ++ L ∷ [])) same h
near-following-one K L (suc n) s (x ∷ xs) h e = near-following-one K L n s xs (near-tail K L x xs h) e

pub near-drop : (K L n s : ℕ) (steps : List ℕ) → Near K (steps ++ L ∷ []) → slice_get steps n ≡ Some s → Near K (s ∷ drop (n + 1) steps ++ L ∷ [])
near-drop K L n s steps h e = subst (λ k. Near K (s ∷ drop k steps ++ L ∷ [])) (sym (add-one n)) (near-following-one K L n s steps h e)

pub near-join : (K m : ℕ) (xs ys : List ℕ) → Near K (xs ++ m ∷ []) → Near K (m ∷ ys) → Near K (xs ++ m ∷ ys)
near-join K m [] ys h g = g
near-join K m (a ∷ []) ys h g = (h.0, h.1, g)
near-join K m (a ∷ b ∷ xs) ys h g = (h.0, h.1, near-join K m (b ∷ xs) ys h.2 g)
