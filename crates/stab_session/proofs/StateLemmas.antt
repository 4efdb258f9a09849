-- States that replace those of checkpoints, from the last on.
use Rattle.stab_session.proofs.Names.{◌≡◌, ℕ, zero, suc, ◌-◌, ◌<◌, ◌≤◌, refl, ◌∙◌, ap, arith, List, [], ◌∷◌, ◌++◌, length, take, drop, map, reverse, set, get_or, length-map, length-reverse, length-append, length-take, length-drop, reverse-reverse, take-take, TableauState, Checkpoint, Meeting, moved_checkpoint, all_saved, with_states, OldRest, checkpoints_moved}

-- the last state is put first: then the others are put before it
pub states-last : (ts : List TableauState) (t : TableauState) (cs : List Checkpoint) (d : Checkpoint) → length ts < length cs
    → with_states ts (set cs (length ts) (record (get_or cs (length ts) d) { tableau = t })) ≡ with_states (ts ++ t ∷ []) cs
states-last [] t [] d within = absurd (omega arith)
states-last [] t (c ∷ cs) d within = refl
states-last (s ∷ ts) t [] d within = absurd (omega arith)
states-last (s ∷ ts) t (c ∷ cs) d within = ap (λ rest. record c { tableau = s } ∷ rest) (states-last ts t cs d (omega arith))

same-length : (ts : List TableauState) (cs : List Checkpoint) → length (with_states ts cs) ≡ length cs
same-length [] cs = refl
same-length (t ∷ ts) [] = refl
same-length (t ∷ ts) (c ∷ cs) = ap suc (same-length ts cs)

-- a list of which the first ones stayed, and others came after
take-front : {X : Type 0} (k : ℕ) (xs ys : List X) → k ≤ length xs → take k (take k xs ++ ys) ≡ take k xs
take-front zero xs ys le = refl
take-front (suc k) [] ys le = absurd (omega arith)
take-front (suc k) (x ∷ xs) ys le = ap (λ zs. x ∷ zs) (take-front k xs ys (omega arith))

drop-front : {X : Type 0} (k : ℕ) (xs ys : List X) → k ≤ length xs → drop k (take k xs ++ ys) ≡ ys
drop-front zero xs ys le = refl
drop-front (suc k) [] ys le = absurd (omega arith)
drop-front (suc k) (x ∷ xs) ys le = drop-front k xs ys (omega arith)

module _ (k K : ℕ) (ts : List TableauState) (cs put : List Checkpoint) (within : k ≤ length cs) (is : put ≡ take k cs ++ with_states ts (drop k cs)) where
  pub put-length : length put ≡ length cs
  put-length =
      omega (
        arith,
        ap length is,
        length-append (take k cs) (with_states ts (drop k cs)),
        same-length ts (drop k cs),
        length-take k cs,
        length-drop k cs,
        within,
      )

  pub put-front : take k put ≡ take k cs
  put-front = ap (take k) is ∙ take-front k cs (with_states ts (drop k cs)) within

  -- moved, and saved after others, which were saved after those before
  pub put-saved : (m : ℕ) (s : Meeting) (room taken left others mid saved : List Checkpoint) → m ≤ k → room ≡ [] → taken ≡ room ++ reverse (map (moved_checkpoint s) (drop k put))
      → left ≡ take k put → mid ≡ all_saved K (reverse others) (take m left) → saved ≡ all_saved K (reverse taken) mid
      → saved ≡ all_saved K (map (moved_checkpoint s) (with_states ts (drop k cs))) (all_saved K (reverse others) (take m cs))
  put-saved m s room taken left others mid saved order empty took preserved between done =
      done ∙ (λ i. all_saved K (conjugated i) ((between ∙ ap (all_saved K (reverse others)) (ap (take m) (preserved ∙ put-front) ∙ take-take m k cs order)) i))
    where
      conjugated : reverse taken ≡ map (moved_checkpoint s) (with_states ts (drop k cs))
      conjugated =
          ap reverse (took ∙ ap (λ zs. zs ++ reverse (map (moved_checkpoint s) (drop k put))) empty)
          ∙ reverse-reverse (map (moved_checkpoint s) (drop k put))
          ∙ ap (map (moved_checkpoint s)) (ap (drop k) is ∙ drop-front k cs (with_states ts (drop k cs)) within)

pub checkpoints-long : (rest : OldRest) (cs : List Checkpoint) → length (checkpoints_moved rest cs) ≡ length cs - rest.number
checkpoints-long rest cs =
    omega (
      arith,
      length-map (with_states rest.conjugated.items (drop rest.number cs)) (moved_checkpoint rest.meeting),
      same-length rest.conjugated.items (drop rest.number cs),
      length-drop rest.number cs,
    )

pub taken-long : (s : Meeting) (k : ℕ) (put room taken : List Checkpoint) → taken ≡ room ++ reverse (map (moved_checkpoint s) (drop k put)) → room ≡ [] → length taken ≡ length put - k
taken-long s k put room taken is empty =
    omega (
      arith,
      ap length is,
      ap length empty,
      length-append room (reverse (map (moved_checkpoint s) (drop k put))),
      length-reverse (map (moved_checkpoint s) (drop k put)),
      length-map (drop k put) (moved_checkpoint s),
      length-drop k put,
    )
