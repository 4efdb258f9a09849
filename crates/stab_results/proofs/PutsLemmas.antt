-- Bytes that are put in pieces, one call after another.
use Rattle.std.proofs.Common.{◌≡◌, ◌++◌, ℕ, refl, List, [], Result, Ok, Err, OnOk, ap, sym, subst, ◌∙◌, append_assoc}
use Rattle.std.proofs.lemmas.List.{append-nil}
use Rattle.std.specs.Result.{IsErrAnd}
use Rattle.stab_io.specs.Devices.{OutputView}
use Rattle.stab_io.specs.declared.refusal.Refusal.{Refusal}
use Rattle.stab_io.proofs.DeviceLemmas.{WroteUpTo, wrote_none, took_more, wrote_and_failed}
use Rattle.stab_results.specs.inner.ByteBuffer.{Puts}

-- of some bytes that are put after those held, a rest is left, no call has failed so far, and others are held now
pub record Underway (old mid : OutputView) (held now bytes left : List ℕ) : Type 0 where
  pub wrote : WroteUpTo old mid (held ++ bytes) (now ++ left)

-- what is held and left is what is held and a piece, and then the rest
with_piece : (held left piece more : List ℕ) → left ≡ piece ++ more → held ++ left ≡ (held ++ piece) ++ more
with_piece held left piece more cut = ap (λ l. held ++ l) cut ∙ sym (append_assoc held piece more)

-- two stretches of bytes that are written, one after another
written_on : (old mid new : OutputView) (total left part next more : List ℕ) → left ≡ part ++ more → WroteUpTo old mid total left → WroteUpTo mid new part next → WroteUpTo old new total (next ++ more)
written_on old mid new total left part next more cut before after = (
  before.0 ++ after.0,
  before.1
      ∙ ap (λ l. before.0 ++ l) (cut ∙ ap (λ l. l ++ more) after.1 ∙ append_assoc after.0 next more)
      ∙ sym (append_assoc before.0 after.0 (next ++ more)),
  took_more before.0 after.0 before.2 after.2,
)

-- before the first call all is left
pub begins : (old : OutputView) (held bytes : List ℕ) → Underway old old held held bytes bytes
begins old held bytes = record { wrote = wrote_none old (held ++ bytes) }

-- after a call that put a piece, what was left except that piece is left
pub goes_on : {old mid new : OutputView} {held now next bytes left piece more : List ℕ} → Underway old mid held now bytes left → Puts mid new now next piece (Ok tt) → left ≡ piece ++ more → Underway old new held next bytes more
goes_on {old} {mid} {new} {held} {now} {next} {bytes} {left} {piece} {more} before call cut = record {
  wrote = written_on old mid new (held ++ bytes) (now ++ left) (now ++ piece) next more (with_piece now left piece more cut) before.wrote call.whole;
}

-- a call that failed to put a piece ends it, and so does what returns its refusal
pub breaks_off : {old mid new : OutputView} {held now next last bytes left piece : List ℕ} {e : Refusal} (r : Result (Unit {0}) Refusal) (more : List ℕ) → Underway old mid held now bytes left → Puts mid new now next piece (Err e) → left ≡ piece ++ more → IsErrAnd r (λ y. y ≡ e) → Puts old new held last bytes r
breaks_off (Ok u) more before call cut is = absurd is
breaks_off {old} {mid} {new} {held} {now} {next} {last} {bytes} {left} {piece} {e} (Err y) more before call cut is = record {
  whole = tt;
  cut_off = (is ∙ call.cut_off.0, wrote_and_failed (held ++ bytes) (now ++ left) (now ++ piece) more (with_piece now left piece more cut) before.wrote call.cut_off.1);
}

-- a call that put all that was left ends it, and answers for all
pub ends : {old mid new : OutputView} {held now next bytes left piece : List ℕ} (r : Result (Unit {0}) Refusal) → Underway old mid held now bytes left → Puts mid new now next piece r → left ≡ piece → Puts old new held next bytes r
ends {old} {mid} {new} {held} {now} {next} {bytes} {left} {piece} (Ok u) before call all = record {
  whole = subst (λ l. WroteUpTo old new (held ++ bytes) l) (append-nil next) (goes_on before call (all ∙ sym (append-nil piece))).wrote;
  cut_off = tt;
}
ends {old} {mid} {new} {held} {now} {next} {bytes} {left} {piece} (Err e) before call all =
    breaks_off (Err e) [] before call (all ∙ sym (append-nil piece)) refl

-- with nothing left it has ended
pub ended : {old mid : OutputView} {held now bytes left : List ℕ} → Underway old mid held now bytes left → left ≡ [] → Puts old mid held now bytes (Ok tt)
ended {old} {mid} {held} {now} {bytes} {left} before none = record {
  whole = subst (λ l. WroteUpTo old mid (held ++ bytes) l) (ap (λ l. now ++ l) none ∙ append-nil now) before.wrote;
  cut_off = tt;
}

-- what is held after a success is known to be nothing
pub emptied : {old new : OutputView} {held next bytes : List ℕ} (r : Result (Unit {0}) Refusal) → Puts old new held next bytes r → OnOk r (next ≡ []) → Puts old new held [] bytes r
emptied {old} {new} {held} {next} {bytes} (Ok u) call none = record {
  whole = subst (λ l. WroteUpTo old new (held ++ bytes) l) none call.whole;
  cut_off = tt;
}
emptied (Err e) call none = record { whole = tt; cut_off = call.cut_off }
