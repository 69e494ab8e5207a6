-- A list of signals that gets one signal after another.
use Rattle.std.specs.Prelude.{◌≡◌, ℕ, ◌+◌, ◌*◌, ◌^◌, Bool, List, [], ◌∷◌, ◌++◌, Result, Ok, Err, IfOk}
use Rattle.std.proofs.Common.{refl, ap, ◌∙◌, arith}
use Rattle.std.proofs.lemmas.List.{length_push}
use Rattle.std.proofs.lemmas.List.Elements.{All-push, All-nil}
use Rattle.uc_circuit.specs.declared.signal.Signal.{Signal}
use Rattle.uc_circuit.specs.Signals.{Below, signal_value, bit}
use Rattle.uc_circuit.specs.Building.{Building, Grows, size, Obeys}
use Rattle.uc_circuit.specs.Meanings.{Means, Amounts}
use Rattle.uc_circuit.proofs.Growing.{amounts-grown}
use Rattle.uc_circuit.proofs.Numbers.{number-push}

pub amounts-none : (b : Building) (meaning : (ℕ → Bool) → ℕ) → ((v : ℕ → Bool) → 0 ≡ meaning v) → Amounts b 0 meaning []
amounts-none b meaning is = record { below = All-nil (Below (size b)); long = refl; value = λ v o. is v }

pub amounts-push :
    (old new : Building) (i : ℕ) (meaning : (ℕ → Bool) → ℕ) (ss : List Signal) (one : (ℕ → Bool) → Bool) (s : Signal) (more : (ℕ → Bool) → ℕ)
    → Grows old new → Amounts old i meaning ss → Means new one s
    → ((v : ℕ → Bool) → Obeys v new → meaning v + 2 ^ i * bit (one v) ≡ more v)
    → Amounts new (i + 1) more (ss ++ s ∷ [])
amounts-push old new i meaning ss one s more grown a m is =
    let b : Amounts new i meaning ss = amounts-grown old new grown i meaning ss a in record {
      below = All-push (Below (size new)) ss s b.below m.below;
      long = omega (arith, length_push ss s, b.long);
      value = λ v o.
          number-push v ss s i b.long ∙ ap (λ n. n + 2 ^ i * bit (signal_value v s)) (b.value v o)
          ∙ ap (λ t. meaning v + 2 ^ i * bit t) (m.value v o) ∙ is v o;
    }

-- signals that stand for one number stand for an equal one
pub amounts-same : (b : Building) (width : ℕ) (m n : (ℕ → Bool) → ℕ) (ss : List Signal) → ((v : ℕ → Bool) → Obeys v b → m v ≡ n v) → Amounts b width m ss → Amounts b width n ss
amounts-same b width m n ss is a = record { below = a.below; long = a.long; value = λ v o. a.value v o ∙ is v o }

pub means-same : (b : Building) (m n : (ℕ → Bool) → Bool) (s : Signal) → ((v : ℕ → Bool) → Obeys v b → m v ≡ n v) → Means b m s → Means b n s
means-same b m n s is a = record { below = a.below; value = λ v o. a.value v o ∙ is v o }

pub amounts-width : (b : Building) (width other : ℕ) (m : (ℕ → Bool) → ℕ) (ss : List Signal) → width ≡ other → Amounts b width m ss → Amounts b other m ss
amounts-width b width other m ss is a = record { below = a.below; long = a.long ∙ is; value = a.value }

-- what follows of the value of an Ok
pub if_ok-weaker : {T E : Type 0} (P Q : T → Type 0) (r : Result T E) → ((x : T) → P x → Q x) → IfOk r P → IfOk r Q
if_ok-weaker P Q (Ok x) f h = f x h
if_ok-weaker P Q (Err e) f h = tt
