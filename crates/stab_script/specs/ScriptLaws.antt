-- Laws of scripts: each has an answer; one that asks for no distance has no other, and each answer begins with one to its first requests.
-- Source: this project's own.
use Rattle.std.specs.Prelude.{◌≡◌, ◌≤◌, List, [], ◌∷◌, ℕ, Bool, true, false, ◌++◌, None}
use Rattle.stab_items.specs.Items.{Items}
use Rattle.stab_items.specs.Steps.{qubits_of, check_within}
use Rattle.stab_circuit.specs.Readings.{IsCircuit}
use Rattle.stab_circuit.specs.Laws.{AreOfLines}
use Rattle.stab_script.specs.Scripts.{Environment, Request, distance, Held, Answer, IsAnswerToAll, IsAnswerToScript, requests_of}
use Rattle.stab_script.specs.ScriptTurns.{AnswerGoesOn}

-- items that can be edited on n qubits: some lines stand for them, and nothing refuses them on that many
abbrev pub CanBeEdited : ℕ → Items → Type 0
CanBeEdited n items = AreOfLines items × (check_within n items ≡ None)

-- the items of each circuit's text can be, on at least as many qubits as they name
abbrev pub CircuitsCanBeEdited : Type 0
CircuitsCanBeEdited = (n : ℕ) (text : List ℕ) (items : Items) → IsCircuit text items → qubits_of items ≤ n → CanBeEdited n items

-- on such items a script, however long, has an answer, which leaves such items
abbrev pub ScriptsHaveAnAnswer : Type 0
ScriptsHaveAnAnswer =
    (s : Environment) (items : Items) (script : List ℕ) → CanBeEdited s.qubits items →
    (a : Answer) × IsAnswerToScript s items script a × CanBeEdited s.qubits a.held.items

-- whether a request asks for a distance: any of its least sets of errors may be the answer
abbrev pub asks_distance : Request → Bool
asks_distance (distance everywhere most) = true
asks_distance request = false

-- none of some requests does
abbrev pub NoneAsksDistance : List Request → Type 0
NoneAsksDistance [] = Unit {0}
NoneAsksDistance (r ∷ rs) = (asks_distance r ≡ false) × NoneAsksDistance rs

-- on such items a script without one has at most one answer
abbrev pub ScriptsHaveOneAnswer : Type 0
ScriptsHaveOneAnswer =
    (s : Environment) (items : Items) (script : List ℕ) (a b : Answer) → CanBeEdited s.qubits items → NoneAsksDistance (requests_of script) →
    IsAnswerToScript s items script a → IsAnswerToScript s items script b → b ≡ a

-- the answer to first requests begins the answer to all
abbrev pub FirstRepliesComeFirst : Type 0
FirstRepliesComeFirst =
    (s : Environment) (held : Held) (first rest : List Request) (a b : Answer) → CanBeEdited s.qubits held.items → NoneAsksDistance first → IsAnswerToAll s held first a → IsAnswerToAll s held (first ++ rest) b →
    (more : List ℕ) × (b.reply ≡ a.reply ++ more)

-- also if they ask for a distance, each answer to all begins with some answer to the first
abbrev pub AnswersBeginWithAnswers : Type 0
AnswersBeginWithAnswers =
    (s : Environment) (held : Held) (first rest : List Request) (b : Answer) → IsAnswerToAll s held (first ++ rest) b → (a : Answer) × AnswerGoesOn s held first rest a b
