-- Doubtful marks: instructions `I` that may be meant to mark other errors than they do, and why.
-- Source: this project's own.
use Rattle.std.specs.Prelude.{ℕ, ◌+◌, ◌*◌, ◌==◌, ◌||◌, zero, suc, Bool, false, List, [], ◌∷◌, ◌++◌, length, map, codes, bytes_eq, if◌then◌else◌, Option, Some, None}
use Rattle.std.specs.List.{flat_map, list_all, list_any}
use Rattle.std.specs.Char.{to_ascii_lowercase}
use Rattle.stab_items.specs.Items.{Items, done, next, block}
use Rattle.stab_items.specs.Steps.{steps_of, unroll}
use Rattle.stab_error_model.specs.Errors.{Marks, marks_by}
use Rattle.stab_error_model.specs.declared.doubts.Doubt.{Doubt}
use Rattle.stab_error_model.specs.declared.doubts.Doubt.TheVariants.{Tag, LastTarget, SameQubit}
use Rattle.stab_error_model.specs.declared.doubts.DoubtfulMark.{DoubtfulMark}

-- the tags that say what is marked, and no tag; XYZ says what any other tag marks
abbrev pub plain_tags : List (List ℕ)
plain_tags = [] ∷ codes "X" ∷ codes "Y" ∷ codes "Z" ∷ codes "XZ" ∷ codes "XYZ" ∷ codes "pairs" ∷ []

-- a byte is X, Y or Z, in either case
abbrev pub is_axis_byte : ℕ → Bool
is_axis_byte b = list_any (λ c. to_ascii_lowercase b == c) (codes "xyz")

-- a tag is almost one of those, but none of them: it has such letters alone, or is `pairs` in another case
abbrev pub is_almost_plain : (tag : List ℕ) → Bool
is_almost_plain tag =
    if list_any (bytes_eq tag) plain_tags then false else (list_all is_axis_byte tag || bytes_eq (map to_ascii_lowercase tag) (codes "pairs"))

-- the first doubt about pairs of targets: both of a pair are one qubit, or the last target has no partner
abbrev pub doubt_about_pairs : (qubits : List ℕ) → Option Doubt
doubt_about_pairs [] = None
doubt_about_pairs (q ∷ []) = Some LastTarget
doubt_about_pairs (a ∷ b ∷ qs) = if a == b then Some SameQubit else doubt_about_pairs qs

-- the doubt about an instruction with this tag and these targets
abbrev pub doubt_about : (tag qubits : List ℕ) → Option Doubt
doubt_about tag qubits =
    if bytes_eq tag (codes "pairs") then doubt_about_pairs qubits else if is_almost_plain tag then Some Tag else None

-- a doubt at a step
abbrev pub doubts_at : ℕ → Option Doubt → List DoubtfulMark
doubts_at t None = []
doubts_at t (Some d) = record { doubt = d; step = t } ∷ []

-- marks that are doubtful
abbrev pub doubtful : List Marks → List DoubtfulMark
doubtful ms = flat_map (λ m. doubts_at m.step (doubt_about m.tag m.qubits)) ms

-- what the first of rounds has, if there are any
abbrev pub in_first_round : {A : Type 0} → (count : ℕ) → List A → List A
in_first_round zero xs = []
in_first_round (suc n) xs = xs

-- the doubtful marks among items, of which the first has step number t, each in the first round of its blocks
abbrev pub doubts_from : ℕ → Items → List DoubtfulMark
doubts_from t done = []
doubts_from t (next op rest) = doubtful (marks_by t op.tag op.kind) ++ doubts_from (t + length (steps_of op.kind)) rest
doubts_from t (block count tag body rest) = in_first_round count (doubts_from t body) ++ doubts_from (t + count * length (unroll body)) rest
