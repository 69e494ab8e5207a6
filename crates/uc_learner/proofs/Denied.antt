-- What the values are once each literal of a clause was made false.
use Rattle.std.proofs.Common.{◌≡◌, ◌≢◌, ℕ, ◌<◌, inl, inr, Bool, not, List, [], ◌∷◌, Option, None, Some, length, get_or, refl, sym, ◌∙◌, ap, subst, get_or-set_same, get_or-set_other}
use Rattle.std.specs.Prelude.{All}
use Rattle.std.proofs.Math.Bool.{not-not}
use Rattle.std.proofs.lemmas.Bool.{cases_eq}
use Rattle.std.proofs.lemmas.List.{length-set}
use Rattle.std.proofs.lemmas.List.Elements.{All-head, All-tail, All-cons, All-nil}
use Rattle.uc_circuit.specs.declared.literal.Lit.{Lit}
use Rattle.uc_circuit.specs.Literals.{negate}
use Rattle.uc_circuit.specs.Values.{assign, IsFalse, IsFalsified}
use Rattle.uc_log.specs.Refutes.{deny}

pub deny_elsewhere : (v : List (Option Bool)) (c : List Lit) (x : ℕ) → All (λ l. l.var ≢ x) c → get_or (deny v c) x None ≡ get_or v x None
deny_elsewhere v [] x away = refl
deny_elsewhere v (l ∷ c) x away =
    deny_elsewhere (assign v (negate l)) c x (All-tail (λ (k : Lit). k.var ≢ x) l c away)
    ∙ get_or-set_other v l.var x (Some (not (not l.neg))) None (λ same. All-head (λ (k : Lit). k.var ≢ x) l c away (sym same))

-- where the clause is false under w, a value of w stays
pub deny_keeps :
    (w v : List (Option Bool)) (c : List Lit) (x : ℕ) (b : Bool)
    → IsFalsified w c → x < length v → get_or w x None ≡ Some b → get_or v x None ≡ Some b → get_or (deny v c) x None ≡ Some b
deny_keeps w v [] x b false' inside w_is v_is = v_is
deny_keeps w v (l ∷ c) x b false' inside w_is v_is =
    let rest : IsFalsified w c = All-tail (IsFalse w) l c false' in
    let first : get_or w l.var None ≡ Some l.neg = All-head (IsFalse w) l c false' in
    let inside' : x < length (assign v (negate l)) = rw length-set inside in
    elim (cases_eq x l.var) [
      | inl same ↦
          let e : get_or (assign v (negate l)) x None ≡ Some (not (not l.neg)) =
          ap (λ k. get_or (assign v (negate l)) k None) same ∙ get_or-set_same v l.var (Some (not (not l.neg))) None (let P : ℕ → Type 0 = λ k. k < length v in subst P same inside) in
          let f : Some (not (not l.neg)) ≡ Some l.neg = ap (λ k. Some k) (not-not l.neg) in
          let g : Some b ≡ Some l.neg = sym w_is ∙ ap (λ k. get_or w k None) same ∙ first in
          deny_keeps w (assign v (negate l)) c x b rest inside' w_is (e ∙ f ∙ sym g)
      | inr ne ↦
          deny_keeps w (assign v (negate l)) c x b rest inside' w_is (get_or-set_other v l.var x (Some (not (not l.neg))) None ne ∙ v_is)
    ]

-- a clause that is false under some values is false once its literals were made false
pub deny_false : (w v : List (Option Bool)) (c : List Lit) → All (λ l. l.var < length v) c → IsFalsified w c → IsFalsified (deny v c) c
deny_false w v [] within false' = All-nil (IsFalse v)
deny_false w v (l ∷ c) within false' =
    let inside : l.var < length v = All-head (λ (k : Lit). k.var < length v) l c within in
    let inside' : l.var < length (assign v (negate l)) = rw length-set inside in
    let set' : get_or (assign v (negate l)) l.var None ≡ Some l.neg =
    get_or-set_same v l.var (Some (not (not l.neg))) None inside ∙ ap (λ k. Some k) (not-not l.neg) in
    let within' : All (λ (k : Lit). k.var < length (assign v (negate l))) c =
    subst (λ n. All (λ (k : Lit). k.var < n) c) (sym (length-set v l.var (Some (not (not l.neg))))) (All-tail (λ (k : Lit). k.var < length v) l c within) in
    let rest : IsFalsified w c = All-tail (IsFalse w) l c false' in
    All-cons (IsFalse (deny v (l ∷ c))) l c
    (deny_keeps w (assign v (negate l)) c l.var l.neg rest inside' (All-head (IsFalse w) l c false') set')
    (deny_false w (assign v (negate l)) c within' rest)
