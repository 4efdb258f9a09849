-- Laws of memory: a run on the qubits of its own circuit is refused for lack of memory alone.
use Rattle.stab_report.proofs.Names.{◌≡◌, ap, subst, ◌∙◌, ℕ, false, Result, Ok, Err, None, nat_lt, arith, IfErr, IfOk, OutOfMemory, Fault, whole, Refuses, Items, check_of, check_within, qubits_of}
use Rattle.std.specs.Prelude.{IsErrAnd}

-- nothing refuses a circuit on as many qubits as it names
pub checked_on_own_qubits : (items : Items) → check_of items ≡ None → check_within (qubits_of items) items ≡ None
checked_on_own_qubits items checked = rw (not_below (qubits_of items)) checked
  where
    not_below : (n : ℕ) → nat_lt n n ≡ false
    not_below n = grind arith

-- what nothing else refuses is refused for lack of memory
pub memory_alone : (A : Type 0) (f : Fault) (n : ℕ) (items : Items) → check_of items ≡ None → n ≡ qubits_of items → Refuses {A = A} (Err f) (check_within n items) → f ≡ whole OutOfMemory
memory_alone A f n items checked e refuses = subst (λ given. Refuses {A = A} (Err f) given) (ap (λ m. check_within m items) e ∙ checked_on_own_qubits items checked) refuses

-- an error that is passed on is no value
pub passed_no_value : {T : Type 0} (P : T → Type 0) (f : Fault) (r : Result T Fault) → IsErrAnd r (λ y. y ≡ f) → IfOk r P
passed_no_value P f (Ok x) is = absurd is
passed_no_value P f (Err y) is = tt

-- one for want of memory stays so
pub passed_memory : {T : Type 0} (f : Fault) (r : Result T Fault) → IsErrAnd r (λ y. y ≡ f) → f ≡ whole OutOfMemory → IfErr r (λ y. y ≡ whole OutOfMemory)
passed_memory f (Ok x) is memory = absurd is
passed_memory f (Err y) is memory = is ∙ memory
