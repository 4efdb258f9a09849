-- Laws of a distance that a script asks for: a counted one is shown it, or refused.
use Rattle.stab_script.proofs.Names.{◌≡◌, ◌≢◌, ◌⊎◌, ℕ, Bool, true, false, List, refl, sym, ap, ◌∙◌, subst, inl, inr, Option, Some, None, Result, Ok, Err, Refusal, OutOfMemory, BadCommand, NotDeterministic, Fault, Items, DistanceOptions, Random, IsFirstRandom, refused_text, Distance, IsDistanceOf, IsDistanceText, IsRefusedFor, answer_text, reply_text, Held, IsDistanceAnswer, Answered, answered}
use Rattle.std.proofs.Common.{IfOk}
use Rattle.stab_script.proofs.SessionAnswerLaws.{same_refusal}

-- what is written of an answer says a distance
pub distance_shown : (options : DistanceOptions) (items : Items) (d : Distance) (written : List ℕ) → IsDistanceOf options items d.errors d.answer → written ≡ answer_text options items d.errors d.answer → IsDistanceText options items written
distance_shown options items d written is e = (d.errors, d.answer, is, e)

-- a refusal is for a bit that is not deterministic, or for lack of memory
pub refusal_shown : (deterministic_only : Bool) (items : Items) (u : Option Random) (f : Fault) → IsRefusedFor deterministic_only items u f
    → (f.refusal ≡ OutOfMemory) ⊎ ((f.refusal ≡ NotDeterministic) × (v : Random) × IsFirstRandom items v)
refusal_shown deterministic_only items (Some u) f is = inr (ap (λ (x : Fault). x.refusal) is.2, u, is.1)
refusal_shown deterministic_only items None f is = inl (ap (λ (x : Fault). x.refusal) is)

-- a script that is not counted is refused
unframed_refused : (counted : Bool) (held : Held) (options : DistanceOptions) (reply : List ℕ) (refused : Bool) → counted ≡ false → reply ≡ refused_text BadCommand → refused ≡ true
    → IsDistanceAnswer counted held options (answered held reply refused)
unframed_refused counted held options reply refused is text flag =
    subst (λ b. IsDistanceAnswer b held options (answered held reply refused)) (sym is) (same_refusal BadCommand refl text flag)

pub distance_unframed : (counted : Bool) (held : Held) (options : DistanceOptions) (result : Result Answered Fault) → counted ≡ false → IfOk result (λ a. a.reply.written ≡ refused_text BadCommand) → IfOk result (λ a. a.refused ≡ true)
    → IfOk result (λ a. IsDistanceAnswer counted held options (answered held a.reply.written a.refused))
distance_unframed counted held options (Ok a) is text flag = unframed_refused counted held options a.reply.written a.refused is text flag
distance_unframed counted held options (Err f) is text flag = tt

-- a counted one is shown it
pub distance_reported : (counted : Bool) (held : Held) (options : DistanceOptions) (items : Items) (text reply : List ℕ) → counted ≡ true → items ≡ held.items → IsDistanceText options items text → reply ≡ reply_text true text
    → IsDistanceAnswer counted held options (answered held reply false)
distance_reported counted held options items text reply is same found reported =
    subst (λ b. IsDistanceAnswer b held options (answered held reply false)) (sym is)
    (inl (text, subst (λ (x : Items). IsDistanceText options x text) same found, ap (λ l. answered held l false) reported))

-- or refused for a bit that is not deterministic
pub distance_refused : (counted : Bool) (held : Held) (options : DistanceOptions) (items : Items) (r : Refusal) (reply : List ℕ) (refused : Bool) → counted ≡ true → items ≡ held.items
    → (r ≡ OutOfMemory) ⊎ ((r ≡ NotDeterministic) × (u : Random) × IsFirstRandom items u) → r ≢ OutOfMemory → reply ≡ refused_text r → refused ≡ true
    → IsDistanceAnswer counted held options (answered held reply refused)
distance_refused counted held options items r reply refused is same (inl memory) no_memory text flag = absurd (no_memory memory)
distance_refused counted held options items r reply refused is same (inr random) no_memory text flag =
    subst (λ b. IsDistanceAnswer b held options (answered held reply refused)) (sym is)
    (inr (random.1, subst (λ (x : Items). IsFirstRandom x random.1) same random.2, same_refusal NotDeterministic refl (text ∙ ap refused_text random.0) flag))
