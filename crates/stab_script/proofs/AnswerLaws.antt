-- Laws of answers: on items that can be edited a request has at most one, and so have requests one after another.
use Rattle.stab_script.proofs.Names.{◌≡◌, ℕ, Bool, true, false, List, [], ◌∷◌, ◌++◌, sym, ap, ◌∙◌, subst, append_assoc, Some, None, inl, inr, Result, Refusal, BadCommand, Fault, Items, OneItem, item_fault, StandsForOne, Path, ItemTextsAreLines, ItemTextsHaveOneMeaning, EditedItemsAreOfLines, SplitsLeaveTheSteps, SplitItemsAreOfLines, TracesHaveOneList, RunsAreSound, Environment, Request, begin, put, delete, show, ask, deterministic, distance, refuse, Held, run_held, Answer, IsPut, Shows, IsDeterministicAnswer, IsAnswer, IsAnswerToAll, both, decided, refusing, replying, edit_of, edited_items, counted_answer, reply_text, greeting, session_numbers, lines_of, CanBeEdited, asks_distance, NoneAsksDistance, ItemEdit, Show, Measurements, Free, Detectors, Observables, Stabilisers, Circuit}
use Rattle.stab_items.specs.declared.edit.Edit.TheVariants as circuit_edit
use Rattle.stab_script.proofs.AnswerExistLaws.{edit_keeps, puts_lines, puts_none, counted_keeps}
use Rattle.stab_script.proofs.DeterministicBitLaws.{one_deterministic_answer}

-- a text stands for one item
one_item : ItemTextsHaveOneMeaning → (text : List ℕ) (x y : OneItem) → StandsForOne text x → StandsForOne text y → y ≡ x
one_item law text x y sx sy = let only = law text sx.0 in only.1.1 y sy ∙ sym (only.1.1 x sx)

one_fault : (text : List ℕ) (f g : Fault) → item_fault text ≡ Some f → item_fault text ≡ Some g → g ≡ f
one_fault text f g ef eg = let both_are : Some g ≡ Some f = sym eg ∙ ef in cc

not_both : {A : Type 0} (text : List ℕ) (f : Fault) (x : OneItem) → item_fault text ≡ Some f → StandsForOne text x → A
not_both text f x e s = let both_are : Some f ≡ None = sym e ∙ s.0 in absurd (cc)

-- an edit that puts in an item has one answer
one_put : ItemTextsHaveOneMeaning → (preserved : Bool) (held : Held) (edited : OneItem → Result Items Refusal) (text : List ℕ) (a b : Answer) → IsPut preserved held edited text a → IsPut preserved held edited text b → b ≡ a
one_put law preserved held edited text a b (inl p) (inl q) = q.2 ∙ ap (λ (f : Fault). refusing held f.refusal) (one_fault text p.0 q.0 p.1 q.1) ∙ sym p.2
one_put law preserved held edited text a b (inl p) (inr q) = not_both text p.0 q.0 p.1 q.1
one_put law preserved held edited text a b (inr p) (inl q) = not_both text q.0 p.0 q.1 p.1
one_put law preserved held edited text a b (inr p) (inr q) = q.2 ∙ ap (λ x. decided preserved held (edited x)) (one_item law text p.0 q.0 p.1 q.1) ∙ sym p.2

module _ (meanings : ItemTextsHaveOneMeaning) (lines : ItemTextsAreLines) (edits : EditedItemsAreOfLines) (steps : SplitsLeaveTheSteps)
    (split_lines : SplitItemsAreOfLines) (sound : RunsAreSound) (one : TracesHaveOneList) (s : Environment) where
  -- what is shown is one text
  one_text : (held : Held) (what : Show) (x y : List ℕ) → CanBeEdited s.qubits held.items → Shows s.qubits (run_held s held) held.items what x
      → Shows s.qubits (run_held s held) held.items what y → y ≡ x
  one_text held Measurements x y can p q = q ∙ sym p
  one_text held Free x y can p q = q ∙ sym p
  one_text held Detectors x y can p q = q ∙ sym p
  one_text held Observables x y can p q = q ∙ sym p
  one_text held Stabilisers x y can p q =
      let is = sound s.qubits s.coins can.0.0 held.items can.0.1 can.1 in
      q.2 ∙ ap lines_of (one s.qubits (run_held s held).trace is.0 is.1 q.0 p.0 q.1 p.1) ∙ sym p.2
  one_text held Circuit x y can p q = q ∙ sym p

  -- a request has one answer
  one_answer : (held : Held) (r : Request) (a b : Answer) → CanBeEdited s.qubits held.items → asks_distance r ≡ false → IsAnswer s held r a → IsAnswer s held r b → b ≡ a
  one_answer held begin a b can no_distance p q = q ∙ sym p
  one_answer held (put edit place text) a b can no_distance p q = one_put meanings s.counted held (λ item. edited_items s.qubits (edit_of edit place item) held.items) text a b p q
  one_answer held (delete place) a b can no_distance p q = q ∙ sym p
  one_answer held (show what) a b can no_distance p q = q.2 ∙ ap (λ l. replying held (reply_text s.counted l)) (one_text held what p.0 q.0 can p.1 q.1) ∙ sym p.2
  one_answer held (ask request) a b can no_distance p q = q ∙ sym p
  one_answer held deterministic a b can no_distance p q = one_deterministic_answer s.counted held a b p q
  one_answer held (distance everywhere most) a b can no_distance p q = absurd (cc)
  one_answer held (refuse r) a b can no_distance p q = q ∙ sym p

  -- which leaves items that can be edited

  keeps : (held : Held) (a b : Answer) → a ≡ b → CanBeEdited s.qubits b.held.items → CanBeEdited s.qubits a.held.items
  keeps held a b same can = subst (λ (x : Answer). CanBeEdited s.qubits x.held.items) (sym same) can

  put_keeps : (held : Held) (how : ItemEdit) (place : Path) (text : List ℕ) (a : Answer) → CanBeEdited s.qubits held.items
      → IsPut s.counted held (λ item. edited_items s.qubits (edit_of how place item) held.items) text a → CanBeEdited s.qubits a.held.items
  put_keeps held how place text a can (inl p) = keeps held a (refusing held p.0.refusal) p.2 can
  put_keeps held how place text a can (inr p) =
      keeps held a (decided s.counted held (edited_items s.qubits (edit_of how place p.0) held.items)) p.2
      (edit_keeps edits s.qubits (edit_of how place p.0) s.counted held (puts_lines lines text p.0 p.1 place how) can)

  deterministic_keeps : (counted : Bool) (held : Held) (a : Answer) → CanBeEdited s.qubits held.items → IsDeterministicAnswer counted held a → CanBeEdited s.qubits a.held.items
  deterministic_keeps false held a can p = keeps held a (refusing held BadCommand) p can
  deterministic_keeps true held a can p = keeps held a (replying held (reply_text true p.0)) p.2 can

  answer_keeps : (held : Held) (r : Request) (a : Answer) → CanBeEdited s.qubits held.items → asks_distance r ≡ false → IsAnswer s held r a → CanBeEdited s.qubits a.held.items
  answer_keeps held begin a can no_distance p = keeps held a (replying held (greeting s.counted (session_numbers s.qubits (run_held s held) held.items))) p can
  answer_keeps held (put how place text) a can no_distance p = put_keeps held how place text a can p
  answer_keeps held (delete place) a can no_distance p =
      keeps held a (decided s.counted held (edited_items s.qubits (circuit_edit.Delete place) held.items)) p
      (edit_keeps edits s.qubits (circuit_edit.Delete place) s.counted held (puts_none place) can)
  answer_keeps held (show what) a can no_distance p = keeps held a (replying held (reply_text s.counted p.0)) p.2 can
  answer_keeps held (ask r) a can no_distance p =
      keeps held a (counted_answer s.counted s.qubits (run_held s held) held r) p (counted_keeps steps split_lines s.counted s.qubits (run_held s held) held r can)
  answer_keeps held deterministic a can no_distance p = deterministic_keeps s.counted held a can p
  answer_keeps held (distance everywhere most) a can no_distance p = absurd (cc)
  answer_keeps held (refuse r) a can no_distance p = keeps held a (refusing held r) p can

  -- requests, however many, have one answer
  pub one_answer_to_all : (held : Held) (rs : List Request) (a b : Answer) → CanBeEdited s.qubits held.items → NoneAsksDistance rs → IsAnswerToAll s held rs a → IsAnswerToAll s held rs b → b ≡ a
  one_answer_to_all held [] a b can none p q = q ∙ sym p
  one_answer_to_all held (r ∷ rs) a b can none p q =
      let same : q.0 ≡ p.0 = one_answer held r p.0 q.0 can none.0 p.2 q.2 in
      let more : q.1 ≡ p.1 = one_answer_to_all p.0.held rs p.1 q.1 (answer_keeps held r p.0 can none.0 p.2) none.1 p.3 (subst (λ (x : Answer). IsAnswerToAll s x.held rs q.1) same q.3) in
      q.4 ∙ ap (λ x. both x q.1) same ∙ ap (λ x. both p.0 x) more ∙ sym p.4

  -- the first replies come first
  pub first_replies : (held : Held) (first rest : List Request) (a b : Answer) → CanBeEdited s.qubits held.items → NoneAsksDistance first → IsAnswerToAll s held first a
      → IsAnswerToAll s held (first ++ rest) b → (more : List ℕ) × (b.reply ≡ a.reply ++ more)
  first_replies held [] rest a b can none p q = (b.reply, sym (ap (λ (x : Answer). x.reply ++ b.reply) p))
  first_replies held (r ∷ first) rest a b can none p q =
      let same : q.0 ≡ p.0 = one_answer held r p.0 q.0 can none.0 p.2 q.2 in
      let more = first_replies p.0.held first rest p.1 q.1 (answer_keeps held r p.0 can none.0 p.2) none.1 p.3 (subst (λ (x : Answer). IsAnswerToAll s x.held (first ++ rest) q.1) same q.3) in (
        more.0,
        ap (λ (x : Answer). x.reply) q.4
            ∙ ap (λ (x : Answer). x.reply ++ q.1.reply) same
            ∙ ap (λ l. p.0.reply ++ l) more.1
            ∙ sym (append_assoc p.0.reply p.1.reply more.0)
            ∙ sym (ap (λ (x : Answer). x.reply ++ more.0) p.4),
      )
