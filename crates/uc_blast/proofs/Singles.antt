-- Operations from one bit-vector to another, and words that are not there.
use Rattle.std.specs.Prelude.{◌≡◌, ℕ, ◌+◌, ◌-◌, List, [], length, map, slice_get, Option, None, unwrap_or}
use Rattle.std.specs.Option.{option_map}
use Rattle.std.proofs.Common.{sym, ap, ◌∙◌, subst, get_or}
use Rattle.std.proofs.lemmas.Option.{slice_get-map, unwrap_or-slice_get}
use Rattle.uc_values.specs.Operators.{complemented, extracted, sign_extended}
use Rattle.uc_ops.specs.declared.op.Op.{Op}
use Rattle.uc_circuit.specs.declared.signal.Signal.{Signal}
use Rattle.uc_circuit.specs.Signals.{turned, number, AllBelow}
use Rattle.uc_circuit.specs.Building.{Building, size}
use Rattle.uc_circuit.specs.Meanings.{Amounts}
use Rattle.uc_circuit.proofs.BitByBit.{number-turned, turned-all, turned-long}
use Rattle.uc_blast.specs.Words.{words_at}
use Rattle.uc_blast.specs.Operations.{single_width, single_number}

pub turned-amounts : (b : Building) (a r : List Signal) → r ≡ map turned a → AllBelow (size b) a → Amounts b (length a) (λ v. complemented (length a) (number v a)) r
turned-amounts b a r is below = record {
  below = turned-all (size b) a r is below;
  long = turned-long a r is;
  value = λ v o. ap (number v) is ∙ number-turned v a;
}

-- the operation by its name
pub single-for : (op o : Op) → op ≡ o → (b : Building) (a r : List Signal) → Amounts b (single_width o (length a)) (λ v. single_number o (length a) (number v a)) r
    → Amounts b (single_width op (length a)) (λ v. single_number op (length a) (number v a)) r
single-for op o e b a r h = subst (λ (x : Op). Amounts b (single_width x (length a)) (λ v. single_number x (length a) (number v a)) r) (sym e) h

pub extract-for : (h high l low : ℕ) → h ≡ high → l ≡ low → (b : Building) (a r : List Signal) → Amounts b (h - l + 1) (λ v. extracted h l (number v a)) r
    → Amounts b (high - low + 1) (λ v. extracted high low (number v a)) r
extract-for h high l low eh el b a r x =
    subst (λ k. Amounts b (high - k + 1) (λ v. extracted high k (number v a)) r) el (subst (λ k. Amounts b (k - l + 1) (λ v. extracted k l (number v a)) r) eh x)

pub zeros-for : (m more : ℕ) → m ≡ more → (b : Building) (a r : List Signal) → Amounts b (length a + m) (λ v. number v a) r → Amounts b (length a + more) (λ v. number v a) r
zeros-for m more e b a r x = subst (λ k. Amounts b (length a + k) (λ v. number v a) r) e x

pub signs-for : (m more : ℕ) → m ≡ more → (b : Building) (a r : List Signal) → Amounts b (length a + m) (λ v. sign_extended (length a) m (number v a)) r
    → Amounts b (length a + more) (λ v. sign_extended (length a) more (number v a)) r
signs-for m more e b a r x = subst (λ k. Amounts b (length a + k) (λ v. sign_extended (length a) k (number v a)) r) e x

pub no-word : (words : List (List Signal)) (place : ℕ) → None ≡ slice_get words place → [] ≡ get_or words place []
no-word words place e = ap (λ (o : Option (List Signal)). unwrap_or o []) e ∙ unwrap_or-slice_get words place []

pub no-part : (words : List (List Signal)) (parts : List ℕ) (place : ℕ) → None ≡ slice_get parts place → [] ≡ get_or (words_at words parts) place []
no-part words parts place e =
    no-word (words_at words parts) place
    (ap (option_map (λ (p : ℕ). get_or words p [])) e ∙ sym (slice_get-map (λ (p : ℕ). get_or words p []) parts place))
