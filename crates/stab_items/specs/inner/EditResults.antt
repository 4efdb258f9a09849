-- Edit results: what a list of items comes to by an edit.
-- Source: this project's own.
use Rattle.std.specs.Prelude.{◌≡◌, ◌≤◌, ℕ, ◌+◌, min, List, [], ◌∷◌, length, take, slice_get, Ok, IfOk}
use Rattle.stab_items.specs.declared.edit.Edit.{Edit}
use Rattle.stab_items.specs.declared.summary.Summary.{Summary}
use Rattle.stab_items.specs.declared.judge.Judgement.{Judgement}
use Rattle.stab_items.specs.declared.judge.EditResult.{EditResult}
use Rattle.stab_items.specs.Items.{OneItem, listed, AreGood}
use Rattle.stab_items.specs.Steps.{Step, unroll, steps_cap}
use Rattle.stab_items.specs.Edits.{edited_in, edit_path, inner, steps_in, after_taken, after_put, outermost}
use Rattle.stab_items.specs.inner.Summaries.{followed_by, IsSummary}
use Rattle.stab_items.specs.inner.Splices.{Splice}
use Rattle.stab_items.specs.inner.Judgements.{summed, BeginsWith}

-- the steps before a position in the last of these blocks, without those before the outermost block
abbrev pub steps_within : List ℕ → ℕ → List OneItem → List Step
steps_within [] p xs = []
steps_within (b ∷ bs) p xs = steps_in bs p (inner (slice_get xs b))

-- what is put in keeps the rules of lines
abbrev pub PutsGood : Splice → Type 0
PutsGood s = AreGood (listed s.put)

-- the items keep the rules of lines
abbrev pub IsGoodList : List OneItem → Type 0
IsGoodList xs = AreGood (listed xs)

-- what a list comes to, by the summaries of the items before those that leave it, of these, and of those after them
abbrev pub edit_result_by : Judgement → Summary → Summary → Summary → EditResult
edit_result_by j front gone back = record {
  total = followed_by front (followed_by j.put back);
  first = min (front.steps + j.within) steps_cap;
  old_end = min (front.steps + gone.steps) steps_cap;
  new_end = min (front.steps + j.put.steps) steps_cap;
}

-- this is what a list comes to by an edit in the last of these blocks, which comes to a position
pub record IsEditResult (edit : Edit) (blocks : List ℕ) (xs : List OneItem) (o : EditResult) : Type 0 where
  pub total : Ok o.total ≡ summed (edited_in edit blocks xs)
  pub small : IsSummary o.total
  pub first : o.first ≡ min (length (steps_in blocks (edit_path edit).position xs)) steps_cap
  pub front : BeginsWith (steps_in blocks (edit_path edit).position xs) (unroll (listed xs))
  pub old_end : o.old_end ≡ min (length (unroll (listed (take (outermost (after_taken edit) blocks) xs)))) steps_cap
  pub new_end : IfOk (edited_in edit blocks xs) (λ new. o.new_end ≡ min (length (unroll (listed (take (outermost (after_put edit) blocks) new)))) steps_cap)
  pub good : IfOk (edited_in edit blocks xs) IsGoodList
  pub old_order : o.first ≤ o.old_end
  pub new_order : o.first ≤ o.new_end
  pub order : o.first ≤ o.total.steps
