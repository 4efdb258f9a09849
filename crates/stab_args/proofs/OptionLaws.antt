-- What the getters of the command line reader make of an option's text.
use Rattle.stab_args.proofs.Names.{◌≡◌, ℕ, Option, Some, None, refl, IfSome, IfNone, Result, Ok, Err, ParsesUnsigned, IsUnsignedIn, ReadsOne, Text, IsWritten, most_seed}

-- a number that `u64` reads is the written one
pub written_number : {E : Type 0} (G : Text → Result ℕ E → Type 0) (text : Option Text) (r : Option ℕ) → ((t : Text) (x : Result ℕ E) → G t x → ParsesUnsigned 64 10 t x)
    → ((t : Text) → text ≡ Some t → ReadsOne G t r) → IfSome r (λ n. IsWritten 0 most_seed text n)
written_number G text None parses reads = tt
written_number G None (Some n) parses reads = tt
written_number G (Some t) (Some n) parses reads = λ within. (parses t (Ok n) (reads t refl)).1

-- if `u64` reads none, the text is not that of a number
pub no_number : {E : Type 0} (G : Text → Result ℕ E → Type 0) (text : Option Text) (r : Option ℕ) → ((t : Text) (x : Result ℕ E) → G t x → ParsesUnsigned 64 10 t x)
    → ((t : Text) → text ≡ Some t → ReadsOne G t r) → IfNone r (IfSome text (λ t. IsUnsignedIn 0 most_seed t → ⊥))
no_number G text (Some n) parses reads = tt
no_number G None None parses reads = tt
no_number G (Some t) None parses reads = λ within. let err = reads t refl in parses t (Err err.0) err.1 (within.0, within.1)
