-- Laws of rows: the lines of strings, one after another.
use Rattle.stab_commands.proofs.Names.{◌≡◌, ap, ◌∙◌, ℕ, ◌+◌, ◌<◌, List, ◌++◌, length, drop, get_or, add-one, sym, drop-cons, Signed, line_of, lines_of}

-- the line at a position, and those after it
pub lines-drop : (rows : List Signed) (i : ℕ) (row : Signed) → i < length rows → row ≡ get_or rows i row → lines_of (drop i rows) ≡ line_of row ++ lines_of (drop (i + 1) rows)
lines-drop rows i row h is = rw (add-one) (ap lines_of (drop-cons rows i row h)) ∙ ap (λ r. line_of r ++ lines_of (drop (i + 1) rows)) (sym is)
