-- Replays whose cursor or tableau is not up to date: where the cursor is set, and which state was saved last.
use Rattle.stab_recording.proofs.Names.{◌≡◌, suc, ◌-◌, ◌<◌, sym, ap, subst, List, [], ◌∷◌, get_or, length, drop, arith, TableauState, Step, CursorState, Checkpoint, Replay, last_state, with_cursor}

-- where the cursor is
pub cursor-set : (ys : List Step) (r : Replay) (cursor : CursorState) → cursor.all ≡ ys → cursor.left ≡ drop r.step ys → with_cursor ys r ≡ record r { cursor = cursor }
cursor-set ys r cursor all left = λ i. record r { cursor = record { all = sym all i; left = sym left i } }

-- the state of the last checkpoint
pub last-read : (t : TableauState) (cs : List Checkpoint) (c : Checkpoint) → 0 < length cs → c ≡ get_or cs (length cs - 1) c → last_state t cs ≡ c.tableau
last-read t [] c some is = absurd (omega (arith, some))
last-read t (b ∷ []) c some is = ap (λ (x : Checkpoint). x.tableau) (sym is)
last-read t (b ∷ d ∷ cs) c some is =
    last-read b.tableau (d ∷ cs) c (omega arith)
    (subst (λ k. c ≡ get_or (d ∷ cs) k c) {x = length cs} (omega arith) (subst (λ k. c ≡ get_or (b ∷ d ∷ cs) k c) {y = suc (length cs)} (omega arith) is))
