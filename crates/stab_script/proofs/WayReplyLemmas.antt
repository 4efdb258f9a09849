-- Replies of ways: the circuit of a session is the one whose ways are asked for.
use Rattle.stab_script.proofs.Names.{◌≡◌, subst, ◌∙◌, ℕ, false, List, Result, Refusal, Items}
use Rattle.std.proofs.Common.{ap₂}
use Rattle.std.specs.Prelude.{None}
use Rattle.stab_items.specs.Steps.{check_within}
use Rattle.stab_script.specs.CountedAnswers.{GivesText}
use Rattle.stab_script.specs.CountedReplies.{text_found}
use Rattle.stab_script.specs.Replies.{ReplyBytes}
use Rattle.stab_script.specs.Words.{put_in_of}
use Rattle.stab_script.specs.WayTexts.{way_text}

-- nothing refuses the circuit of a session on its qubits
pub session_fits : (n m : ℕ) (items others : Items) → m ≡ n → others ≡ items → check_within n items ≡ None → check_within m others ≡ None
session_fits n m items others size same checked = ap₂ check_within size same ∙ checked

-- the items and the qubits of a session are those of its circuit
pub way_of_session : (n m : ℕ) (items others : Items) (at word : List ℕ) (result : Result ReplyBytes Refusal) → m ≡ n → others ≡ items
    → GivesText result (text_found (way_text others false) (put_in_of m others at word)) → GivesText result (text_found (way_text items false) (put_in_of n items at word))
way_of_session n m items others at word result size same shown =
    subst (λ (x : Items). GivesText result (text_found (way_text x false) (put_in_of n x at word))) same
    (subst (λ k. GivesText result (text_found (way_text others false) (put_in_of k others at word))) size shown)
