-- Deletions by way of an item that stands for nothing: it replaces the item to be deleted, and is then deleted itself.
use Rattle.stab_circuit.proofs.Names.{◌≡◌, refl, ap, sym, ◌∙◌, ℕ, ◌+◌, suc, max, Bool, true, false, List, [], ◌∷◌, ◌++◌, length, take, drop, set, arith, nat_lt, if◌then◌else◌, Option, Some, None, Result, Ok, Err, ◌⊎◌, inl, inr, length-take-le, remove, slice_get, Refusal, PlaceOutOfRange, NotABlock, QubitOutOfRange, LookbackTooFar, TooManySteps, TooDeep, Replace, Delete, Kind, OneItem, operation, repeat, done, before, listed, entries, depth, unroll, rounds, past_named, qubits_of, observables_of, named_qubits, named_observables, looks_too_far, most_steps, check_of, check_within, with_item, rebuilt, edited_inside, changed, edited_in, edited, taken_in, taken, list_verdict, verdict, Path, IsNothing, listed-append, depth-join, past_named-join, listed-entries, steps-append, if_ok, changed_split, got_split, rebuilds, around, old_parts, new_parts, old_inner, edited_new, edited_old, deleted, replace-retaken}

-- what is known of a list by its parts stays the same if an item is deleted that adds nothing to it
module _ {A : Type 0} (known : List OneItem → A) (plus : A → A → A) (parts : (xs ys : List OneItem) → known (xs ++ ys) ≡ plus (known xs) (known ys))
    (x : OneItem) (adds_nothing : (a : A) → plus (known (x ∷ [])) a ≡ a)
    (block : (count : ℕ) (tag : List ℕ) (us vs : List OneItem) → known us ≡ known vs → known (repeat count tag (listed us) ∷ []) ≡ known (repeat count tag (listed vs) ∷ [])) where
  same_around : (f us vs r : List OneItem) → known us ≡ known vs → known (f ++ (us ++ r)) ≡ known (f ++ (vs ++ r))
  same_around f us vs r e =
      parts f (us ++ r)
      ∙ ap (plus (known f)) (parts us r ∙ ap (λ a. plus a (known r)) e ∙ sym (parts vs r))
      ∙ sym (parts f (vs ++ r))

  known-cleared : (bs : List ℕ) (at : Path) (ys zs : List OneItem) → edited_in (Delete at) bs ys ≡ Ok zs → taken_in (Delete at) bs ys ≡ Some x → known ys ≡ known zs
  known-cleared [] at ys zs e h =
      let s = changed_split (Delete at) ys zs e in
      ap known (got_split ys at.position x h)
      ∙ parts (take at.position ys) (x ∷ drop (suc at.position) ys)
      ∙ ap (plus (known (take at.position ys))) (parts (x ∷ []) (drop (suc at.position) ys) ∙ adds_nothing (known (drop (suc at.position) ys)))
      ∙ sym (parts (take at.position ys) (drop (suc at.position) ys))
      ∙ ap (λ n. known (take at.position ys ++ drop n ys)) next
      ∙ sym (ap known s.1)
    where
      next : suc at.position ≡ at.position + 1
      next = omega arith
  known-cleared (b ∷ bs) at ys zs e h =
      let edit = edited_in (Delete at) bs in
      let is = rebuilds edit b ys zs (slice_get ys b) refl e in
      let inside : known (entries is.body) ≡ known is.within =
      known-cleared bs at (entries is.body) is.within is.edited (sym (ap (taken_in (Delete at) bs) (old_inner edit b ys zs is)) ∙ h) in
      ap known (old_parts edit b ys zs is)
      ∙ ap (λ i. known (take b ys ++ repeat is.count is.tag i ∷ drop (suc b) ys)) (sym (listed-entries is.body))
      ∙ same_around (take b ys) (repeat is.count is.tag (listed (entries is.body)) ∷ []) (repeat is.count is.tag (listed is.within) ∷ []) (drop (suc b) ys)
      (block is.count is.tag (entries is.body) is.within inside)
      ∙ sym (ap known (new_parts edit b ys zs is))

max_nothing : (m a : ℕ) → m ≡ 0 → max m a ≡ a
max_nothing m a e = omega (arith, e)

-- so the steps, the numbers of qubits and observables and the depth stay the same
module _ (x : OneItem) (is : IsNothing x) (at : Path) (ys zs : List OneItem) (e : edited (Delete at) ys ≡ Ok zs) (h : taken (Delete at) ys ≡ Some x) where
  pub steps-cleared : unroll (listed ys) ≡ unroll (listed zs)
  steps-cleared =
      known-cleared (λ xs. unroll (listed xs)) (λ a b. a ++ b) steps-append x (λ a. ap (λ l. l ++ a) is.steps)
      (λ count tag us vs same. ap (λ l. rounds count l ++ []) same) at.blocks at ys zs e h

  named-cleared : (named : Kind → List ℕ) → past_named named (before x done) ≡ 0 → past_named named (listed ys) ≡ past_named named (listed zs)
  named-cleared named none =
      known-cleared (λ xs. past_named named (listed xs)) max (λ us vs. ap (past_named named) (listed-append us vs) ∙ past_named-join named (listed us) (listed vs)) x
      (λ a. max_nothing _ a none)
      (λ count tag us vs same. ap (λ n. max n 0) same) at.blocks at ys zs e h

  pub qubits-cleared : qubits_of (listed ys) ≡ qubits_of (listed zs)
  qubits-cleared = named-cleared named_qubits is.qubits

  pub observables-cleared : observables_of (listed ys) ≡ observables_of (listed zs)
  observables-cleared = named-cleared named_observables is.observables

  pub depth-cleared : depth (listed ys) ≡ depth (listed zs)
  depth-cleared =
      known-cleared (λ xs. depth (listed xs)) max (λ us vs. ap depth (listed-append us vs) ∙ depth-join (listed us) (listed vs)) x
      (λ a. max_nothing _ a is.depth)
      (λ count tag us vs same. ap (λ n. max (n + 1) 0) same) at.blocks at ys zs e h

  same_check : check_of (listed ys) ≡ check_of (listed zs)
  unfolding check_of
  same_check =
      ap
      (λ ss. if looks_too_far 0 ss then Some LookbackTooFar else if nat_lt most_steps (length ss) then Some TooManySteps else None)
      steps-cleared

  pub check-cleared : (n : ℕ) → check_within n (listed ys) ≡ check_within n (listed zs)
  check-cleared n = λ i. if nat_lt n (qubits-cleared i) then Some QubitOutOfRange else same_check i

  pub verdict-cleared : (n : ℕ) → list_verdict n (Ok ys) ≡ list_verdict n (Ok zs)
  verdict-cleared n = λ i. if nat_lt 16 (depth-cleared i) then Some TooDeep else check-cleared n i

-- a replacement and a deletion at one place are both made, or refused alike

abbrev Alike : Result (List OneItem) Refusal → Result (List OneItem) Refusal → Type 0
Alike a b = ((ys : List OneItem) × (zs : List OneItem) × (a ≡ Ok ys) × (b ≡ Ok zs)) ⊎ ((r : Refusal) × (a ≡ Err r) × (b ≡ Err r))

alike_if : (c : Bool) (ys zs : List OneItem) → Alike (if c then Ok ys else Err PlaceOutOfRange) (if c then Ok zs else Err PlaceOutOfRange)
alike_if true ys zs = inl (ys, zs, refl, refl)
alike_if false ys zs = inr (PlaceOutOfRange, refl, refl)

alike_rebuilt : (b count : ℕ) (tag : List ℕ) (xs : List OneItem) (r s : Result (List OneItem) Refusal) → Alike r s → Alike (with_item b xs (rebuilt count tag r)) (with_item b xs (rebuilt count tag s))
alike_rebuilt b count tag xs r s (inl h) =
    inl (set xs b (repeat count tag (listed h.0)), set xs b (repeat count tag (listed h.1)), ap (λ q. with_item b xs (rebuilt count tag q)) h.2, ap (λ q. with_item b xs (rebuilt count tag q)) h.3)
alike_rebuilt b count tag xs r s (inr h) = inr (h.0, ap (λ q. with_item b xs (rebuilt count tag q)) h.1, ap (λ q. with_item b xs (rebuilt count tag q)) h.2)

alike_inside : (x : OneItem) (bs : List ℕ) (at : Path) (b : ℕ) (xs : List OneItem) (g : Option OneItem)
    → ((ys : List OneItem) → Alike (edited_in (Replace at x) bs ys) (edited_in (Delete at) bs ys))
    → Alike (with_item b xs (edited_inside (edited_in (Replace at x) bs) g)) (with_item b xs (edited_inside (edited_in (Delete at) bs) g))
alike_inside x bs at b xs None f = inr (PlaceOutOfRange, refl, refl)
alike_inside x bs at b xs (Some (operation op)) f = inr (NotABlock, refl, refl)
alike_inside x bs at b xs (Some (repeat count tag body)) f = alike_rebuilt b count tag xs _ _ (f (entries body))

alike : (x : OneItem) (bs : List ℕ) (at : Path) (xs : List OneItem) → Alike (edited_in (Replace at x) bs xs) (edited_in (Delete at) bs xs)
alike x [] at xs = alike_if (nat_lt at.position (length xs)) (set xs at.position x) (remove xs at.position)
alike x (b ∷ bs) at xs = alike_inside x bs at b xs (slice_get xs b) (alike x bs at)

-- an item that replaced another is deleted as the other would have been

if_true : {A : Type 0} (c : Bool) (a b : A) → c ≡ true → (if c then a else b) ≡ a
if_true true a b e = refl
if_true false a b e = absurd (cc)

deleted_instead : (x : OneItem) (at : Path) (xs ys : List OneItem) → changed (Replace at x) xs ≡ Ok ys → changed (Delete at) ys ≡ changed (Delete at) xs
deleted_instead x at xs ys e =
    let s = changed_split (Replace at x) xs ys e in
    let h = if_ok (nat_lt at.position (length xs)) (set xs at.position x) ys PlaceOutOfRange e in
    ap (changed (Delete at)) s.1
    ∙ deleted (take at.position xs) x (drop (at.position + 1) xs) at (length-take-le at.position xs s.0)
    ∙ ap (λ n. Ok (take at.position xs ++ drop n xs)) next
    ∙ sym (if_true (nat_lt at.position (length xs)) (Ok (remove xs at.position)) (Err PlaceOutOfRange) h.0)
  where
    next : at.position + 1 ≡ suc at.position
    next = omega arith

delete-instead_in : (x : OneItem) (bs : List ℕ) (at : Path) (xs ys : List OneItem) → edited_in (Replace at x) bs xs ≡ Ok ys → edited_in (Delete at) bs ys ≡ edited_in (Delete at) bs xs
delete-instead_in x [] at xs ys e = deleted_instead x at xs ys e
delete-instead_in x (b ∷ bs) at xs ys e =
    let edit = edited_in (Replace at x) bs in
    let is = rebuilds edit b xs ys (slice_get xs b) refl e in
    edited_new edit b xs ys is (Delete at) bs
    ∙ ap (around (take b xs) is.count is.tag (drop (suc b) xs)) (delete-instead_in x bs at (entries is.body) is.within is.edited)
    ∙ sym (edited_old edit b xs ys is (Delete at) bs)

pub delete-instead : (x : OneItem) (at : Path) (xs ys : List OneItem) → edited (Replace at x) xs ≡ Ok ys → edited (Delete at) ys ≡ edited (Delete at) xs
delete-instead x at xs ys e = delete-instead_in x at.blocks at xs ys e

-- so the verdict on a deletion is that on replacing the other by an item that stands for nothing

verdict_alike : (n : ℕ) (x : OneItem) → IsNothing x → (at : Path) (xs : List OneItem) (a b : Result (List OneItem) Refusal)
    → edited (Replace at x) xs ≡ a → edited (Delete at) xs ≡ b → Alike a b → list_verdict n a ≡ list_verdict n b
verdict_alike n x is at xs a b ea eb (inl h) =
    ap (list_verdict n) h.2
    ∙ verdict-cleared x is at h.0 h.1 (delete-instead x at xs h.0 (ea ∙ h.2) ∙ eb ∙ h.3) (replace-retaken at x x xs h.0 (ea ∙ h.2)) n
    ∙ sym (ap (list_verdict n) h.3)
verdict_alike n x is at xs a b ea eb (inr h) = ap (list_verdict n) h.1 ∙ sym (ap (list_verdict n) h.2)

pub verdict-instead : (n : ℕ) (x : OneItem) → IsNothing x → (at : Path) (xs : List OneItem) → verdict n (Replace at x) xs ≡ verdict n (Delete at) xs
verdict-instead n x is at xs = verdict_alike n x is at xs _ _ refl refl (alike x at.blocks at xs)

not_both : (zs : List OneItem) (r : Refusal) → ◌≡◌ {A = Result (List OneItem) Refusal} (Ok zs) (Err r) → ⊥
not_both zs r q = absurd (cc)

ok_alike : (ys : List OneItem) (a b : Result (List OneItem) Refusal) → a ≡ Ok ys → Alike a b → (zs : List OneItem) × (b ≡ Ok zs)
ok_alike ys a b e (inl h) = (h.1, h.3)
ok_alike ys a b e (inr h) = absurd (not_both ys h.0 (sym e ∙ h.1))

pub deleted-ok : (x : OneItem) (at : Path) (xs ys : List OneItem) → edited (Replace at x) xs ≡ Ok ys → (zs : List OneItem) × (edited (Delete at) xs ≡ Ok zs)
deleted-ok x at xs ys e = ok_alike ys _ _ e (alike x at.blocks at xs)
