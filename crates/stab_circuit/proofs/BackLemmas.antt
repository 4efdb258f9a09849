-- Items that keep the rules of lines are those of some lines, and are read back.
use Rattle.stab_circuit.proofs.Names.{◌≡◌, ◌≤◌, ap, sym, ◌∙◌, ◌∷◌, Ok, Line, Close, Open, meaning_of, line_printed, Each, each-append, Items, done, next, block, depth, IsGoodLine, AreGood, IsReadBack}
use Rattle.stab_circuit.proofs.LineLaws.{good_said}
use Rattle.stab_instructions.specs.declared.operation.Line.TheVariants as line
use Rattle.stab_circuit.proofs.BlankLemmas.{lines_of}
use Rattle.stab_circuit.proofs.RoundLemmas.{IsOfLine, AreMeant, read_back}
use Rattle.stab_circuit.proofs.LineItemLemmas.{of_lines}

-- the printed line means it
good_meant : (m : Line) → IsGoodLine m → IsOfLine (Ok m)
good_meant m g = let said = good_said m g in (line_printed m, said.one_line, sym (ap meaning_of (said.left 0) ∙ said.means))

items_meant : (xs : Items) → AreGood xs → AreMeant (lines_of xs)
items_meant done g = tt
items_meant (next op rest) g = (good_meant (line.Operation op) g.0, items_meant rest g.1)
items_meant (block count tag body rest) g = (
  good_meant (Open count tag) g.0,
  each-append IsOfLine (lines_of body) (Ok Close ∷ lines_of rest) (items_meant body g.1) (good_meant Close tt, items_meant rest g.2),
)

pub good_back : (items : Items) → AreGood items → depth items ≤ 16 → IsReadBack items
good_back items g shallow = let s = of_lines items (items_meant items g) shallow in read_back s.0 items s.1
