-- Judgements: what an edit comes to, by the summaries that items keep.
-- Source: this project's own.
use Rattle.std.specs.Prelude.{◌≡◌, ◌≤◌, ℕ, List, ◌++◌, Option, Some, None, Result, Ok, Err}
use Rattle.std.specs.Borrow.{Bor}
use Rattle.stab_io.specs.declared.refusal.Refusal.{Refusal}
use Rattle.stab_io.specs.declared.refusal.Refusal.TheVariants.{PlaceOutOfRange, NotABlock}
use Rattle.stab_items.specs.declared.summary.Summary.{Summary}
use Rattle.stab_items.specs.declared.judge.Judgement.{Judgement}
use Rattle.stab_items.specs.declared.judge.Block.{Block}
use Rattle.stab_instructions.specs.Rules.{IsTag}
use Rattle.stab_items.specs.Items.{OneItem, operation, repeat, listed, depth, depth_of}
use Rattle.stab_items.specs.Steps.{Step}
use Rattle.stab_items.specs.inner.Summaries.{summary_of}
use Rattle.stab_items.specs.inner.Splices.{Splice}

-- the summary of the items that an edit leaves, unless it is refused
abbrev pub summed : Result (List OneItem) Refusal → Result Summary Refusal
summed (Ok ys) = Ok (summary_of (listed ys))
summed (Err r) = Err r

-- a splice with the summary of what is put in, and with this many steps before the position within the first item, unless it is refused
abbrev pub judgement_of : ℕ → Result Splice Refusal → Result Judgement Refusal
judgement_of within (Ok s) = Ok (record { first = s.first; following = s.following; put = summary_of (listed s.put); within = within })
judgement_of within (Err r) = Err r

-- the item that is lent, if there is one
abbrev pub shown_item : Option (Bor OneItem) → Option OneItem
shown_item None = None
shown_item (Some x) = Some x.now

-- why a number of a path goes into no block
abbrev pub block_refusal : Option OneItem → Option Refusal
block_refusal None = Some PlaceOutOfRange
block_refusal (Some (operation op)) = Some NotABlock
block_refusal (Some (repeat count tag body)) = None

-- the call gave the block's count and items, and its tag keeps the rules of one, or said why there is no block
abbrev pub IsBlockAt : Option OneItem → Result Block Refusal → Type 0
IsBlockAt x (Ok found) = (tag : List ℕ) × (x ≡ Some (repeat found.count tag (listed found.body.now))) × IsTag tag
IsBlockAt x (Err r) = block_refusal x ≡ Some r

-- the edit leaves items that are not nested too deep
abbrev pub IsShallow : Result (List OneItem) Refusal → Type 0
IsShallow (Ok ys) = depth (listed ys) ≤ 16
IsShallow (Err r) = ⊥

abbrev pub IsShallowItem : Result OneItem Refusal → Type 0
IsShallowItem (Ok y) = depth_of y ≤ 16
IsShallowItem (Err r) = ⊥

-- the first of the steps are these
abbrev pub BeginsWith : List Step → List Step → Type 0
BeginsWith front all = (rest : List Step) × (all ≡ front ++ rest)
