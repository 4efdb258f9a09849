-- Laws of signs that scripts ask for: the sign that the session's call reports is the one of the group.
use Rattle.stab_script.proofs.Names.{◌≡◌, Bool, true, false, not, ◌&&◌, List, refl, ap, ◌∙◌, Option, Some, None, Letter, ◌⊕◌, Signed, with_sign, minus, IsSignIn, sign_in}
use Rattle.std.specs.Prelude.{if◌then◌else◌}

abbrev signed_with : Bool → List Letter → Signed
signed_with b letters = record { negative = b; letters = letters }

negated : (b : Bool) → (true ⊕ b) ≡ not b
negated false = refl
negated true = refl

-- a string with its own sign is itself
same_sign : (p : Signed) → with_sign false p ≡ p
same_sign p = refl

other_sign : (p : Signed) → with_sign true p ≡ minus p
other_sign p = ap (λ b. signed_with b p.letters) (negated p.negative)

-- the sign that a call reports is the one of the group
pub reported_sign : (group : Signed → Bool) (p : Signed) (sign : Option Bool) → IsSignIn group p sign → sign ≡ sign_in group p
reported_sign group p sign is = by_members (group p) (group (minus p)) refl refl
  where
    by_members : (a b : Bool) → group p ≡ a → group (minus p) ≡ b → sign ≡ (if a then Some false else if b then Some true else None)
    by_members true b e f = (is.0 false).1 (ap group (same_sign p) ∙ e)
    by_members false true e f = (is.0 true).1 (ap group (other_sign p) ∙ f)
    by_members false false e f = is.1.1 (ap (λ x. not x && not (group (minus p))) e ∙ ap (λ x. not x) f)
