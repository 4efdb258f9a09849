-- Way texts: what is written of the way of a string that is put in.
-- Source: this project's own.
use Rattle.std.specs.Prelude.{◌≡◌, ℕ, ◌-◌, Bool, false, List, [], ◌∷◌, ◌++◌, length, replicate, codes, decimal}
use Rattle.std.specs.List.{flat_map}
use Rattle.stab_gates.specs.LetterTexts.{letter_text}
use Rattle.stab_items.specs.Items.{Items}
use Rattle.stab_items.specs.Steps.{unroll, observables_of}
use Rattle.stab_results.specs.declared.format.Kinds.{Kinds}
use Rattle.stab_results.specs.Formats.{entry, one_positions}
use Rattle.stab_run.specs.Points.{RunOutput, with_additions}
use Rattle.stab_ways.specs.declared.way.PlacedLetter.{PlacedLetter}
use Rattle.stab_ways.specs.PutIn.{string_after, string_flips}
use Rattle.stab_ways.specs.Ways.{Turn, placed, string_turns}
use Rattle.stab_ways.specs.Laws.{FlipsRun, coins_with}
use Rattle.stab_report.specs.CoinTables.{whole_kinds}
use Rattle.stab_report.specs.Distances.{where_text}
use Rattle.stab_report.specs.ItemPaths.{path_at}
use Rattle.stab_script.specs.Words.{PutIn}

-- a letter on a qubit, as X3
abbrev pub placed_text : PlacedLetter → List ℕ
placed_text l = letter_text l.letter ++ decimal l.qubit

-- a letter after others
abbrev pub factor_in_way : PlacedLetter → List ℕ
factor_in_way l = codes "*" ++ placed_text l

-- a string as a product of its letters, as X3*Z4, or 1 if it has none
abbrev pub string_text : List PlacedLetter → List ℕ
string_text [] = codes "1"
string_text (l ∷ letters) = placed_text l ++ flat_map factor_in_way letters

-- the line of a string: how many steps are before it, the path of the item of the last of them, and the string
abbrev pub turn_line : Items → Turn → List ℕ
turn_line items t = where_text t.after (path_at items (t.after - 1)) ++ (string_text t.string ++ codes "\n")

-- a bit for each record, then each detector, then each observable
abbrev pub bits_flipped : Items → RunOutput → List Bool
bits_flipped items flips = flips.records ++ (flips.detectors ++ with_additions flips.additions (replicate (observables_of items) false))

-- the line of the bits that are flipped, as `flips M3 D24 L0`
abbrev pub flips_line : Kinds → (bits : List Bool) → List ℕ
flips_line kinds bits = codes "flips" ++ (flat_map (entry kinds) (one_positions bits) ++ codes "\n")

-- the line of the string at the end
abbrev pub left_line : List PlacedLetter → List ℕ
left_line letters = codes "left " ++ (string_text letters ++ codes "\n")

-- a line for each item after which the string is another one, in each round, or for every tick from there on; then what is flipped, and the
-- string at the end
abbrev pub way_text : Items → (every : Bool) → PutIn → List ℕ
way_text items every put =
    flat_map (turn_line items) (string_turns every (length put.string) put.steps put.string items)
    ++ (flips_line (whole_kinds items) (bits_flipped items (string_flips (length put.string) put.steps put.string (unroll items)))
    ++ left_line (placed 0 (string_after (length put.string) put.steps put.string (unroll items) (length (unroll items)))))

-- The bytes are those of the way of a string; and the run with the string put in, and exactly the coins of the random outcomes that it flips
-- exchanged, is the run without it, flipped so, and its state after each step is that of the other with the string there applied.
pub record IsWayText (items : Items) (every : Bool) (put : PutIn) (bytes : List ℕ) : Type 0 where
  pub text : bytes ≡ way_text items every put
  pub runs : (coins : ℕ → Bool) → FlipsRun (length put.string) put.steps put.string (unroll items) coins (coins_with (length put.string) put.steps put.string (unroll items) coins)
