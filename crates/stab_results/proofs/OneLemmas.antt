-- The positions of 1 bits, one after another, and their runs in format r8.
use Rattle.std.proofs.Common.{◌≡◌, ◌<◌, ◌≤◌, ◌+◌, ◌-◌, ◌++◌, ℕ, suc, Bool, true, false, List, [], ◌∷◌, length, drop, arith, refl, ap, ◌∙◌}
use Rattle.std.proofs.lemmas.List.{drop-drop, length-drop, append-nil}
use Rattle.std.specs.List.{flat_map}
use Rattle.stab_results.specs.Formats.{one_positions_from, gaps_from, run_bytes}

-- how the next 1 bit divides the bits, of which the first has position `start`
pub record NextOne (start : ℕ) (bits : List Bool) (position : ℕ) (more : List ℕ) : Type 0 where
  pub zeros : ℕ
  pub position_is : position ≡ start + zeros
  pub within : zeros < length bits
  pub more_is : more ≡ one_positions_from (position + 1) (drop (suc zeros) bits)
  pub longer : (ending : List Bool) → one_positions_from start (bits ++ ending) ≡ position ∷ one_positions_from (position + 1) (drop (suc zeros) bits ++ ending)

-- if there is a next 1 bit
pub next_one : (start : ℕ) (bits : List Bool) (position : ℕ) (more : List ℕ) → one_positions_from start bits ≡ position ∷ more → NextOne start bits position more
next_one start [] position more e = absurd (cc)
next_one start (true ∷ bits) position more e =
    let here : position ≡ start = cc in record {
      zeros = 0;
      position_is = omega arith;
      within = omega arith;
      more_is = let rest : more ≡ one_positions_from (start + 1) bits = cc in rw here rest;
      longer = λ ending. rw here refl;
    }
next_one start (false ∷ bits) position more e =
    let next = next_one (start + 1) bits position more e in record {
      zeros = suc next.zeros;
      position_is = omega (arith, next.position_is);
      within = omega (arith, next.within);
      more_is = next.more_is;
      longer = next.longer;
    }

-- if there is none, the positions of what follows are left
pub no_one : (start : ℕ) (bits ending : List Bool) → one_positions_from start bits ≡ [] → one_positions_from start (bits ++ ending) ≡ one_positions_from (start + length bits) ending
no_one start [] ending e = let position : start ≡ start + 0 = omega arith in ap (λ n. one_positions_from n ending) position
no_one start (true ∷ bits) ending e = absurd (cc)
no_one start (false ∷ bits) ending e =
    let position : start + 1 + length bits ≡ start + suc (length bits) = omega arith in
    no_one (start + 1) bits ending e ∙ ap (λ n. one_positions_from n ending) position

-- the bytes of the runs from a position on, of which the last ends in the 1 that is appended
abbrev pub runs_from : ℕ → List Bool → List ℕ
runs_from start bits = flat_map run_bytes (gaps_from start (one_positions_from start (drop start bits ++ true ∷ [])))

-- the next 1 bit of a list from a position on
pub record NextRun (start : ℕ) (bits : List Bool) (position : ℕ) (more : List ℕ) : Type 0 where
  pub after : start ≤ position
  pub within : position < length bits
  pub more_is : more ≡ one_positions_from (position + 1) (drop (position + 1) bits)
  pub runs : runs_from start bits ≡ run_bytes (position - start) ++ runs_from (position + 1) bits

pub next_run : (start : ℕ) (bits : List Bool) (position : ℕ) (more : List ℕ) → one_positions_from start (drop start bits) ≡ position ∷ more → NextRun start bits position more
next_run start bits position more e =
    let next = next_one start (drop start bits) position more e in
    let short = length-drop start bits in
    let following : drop (suc next.zeros) (drop start bits) ≡ drop (position + 1) bits =
    drop-drop (suc next.zeros) start bits ∙ ap (λ n. drop n bits) (omega (arith, next.position_is)) in record {
      after = omega (arith, next.position_is);
      within = omega (arith, next.position_is, next.within, short);
      more_is = next.more_is ∙ ap (λ l. one_positions_from (position + 1) l) following;
      runs = ap (λ l. flat_map run_bytes (gaps_from start l)) (next.longer (true ∷ []) ∙ ap (λ l. position ∷ one_positions_from (position + 1) (l ++ true ∷ [])) following);
    }

-- with no 1 bit left, the run of the 1 that is appended is left
pub last_run : (start : ℕ) (bits : List Bool) → one_positions_from start (drop start bits) ≡ [] → runs_from start bits ≡ run_bytes (length bits - start)
last_run start bits e =
    let short = length-drop start bits in
    let gap : start + length (drop start bits) - start ≡ length bits - start = omega (arith, short) in
    ap (λ l. flat_map run_bytes (gaps_from start l)) (no_one start (drop start bits) (true ∷ []) e)
    ∙ append-nil (run_bytes (start + length (drop start bits) - start))
    ∙ ap run_bytes gap
