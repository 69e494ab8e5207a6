-- Steps of the way to the module at the end of a path.
use Rattle.std.proofs.Common.{◌≡◌, ℕ, ◌+◌, ◌<◌, ◌≤◌, zero, suc, List, [], ◌∷◌, length, get_or, drop, take, add-one, drop-cons, refl, ap, sym, ◌∙◌, arith}
use Rattle.std.proofs.lemmas.List.{drop_all}
use Rattle.std.specs.Prelude.{Option, Some, None}
use Rattle.std.specs.Option.{option_and_then, option_map}
use Rattle.uc_syntax.specs.declared.expression.Expr.{Expr}
use Rattle.uc_syntax.specs.declared.declaration.Module.{Module}
use Rattle.uc_meaning.specs.Lookup.{System, module_named, instance_of, module_from, parent_of}
use Rattle.uc_meaning.specs.Expressions.{binding_of, binding_from}
use Rattle.uc_lookup.specs.Parts.{bound_below}

-- the module of an instance in a module
abbrev pub below : System → Module → ℕ → Option Module
below s m i = option_and_then (λ p. module_named s p.module_name) (instance_of m i)

-- one instance further on
pub module_from_step : (s : System) (m : Module) (path : List ℕ) (k : ℕ) → k < length path →
    module_from s m (drop k path) ≡ option_and_then (λ n. module_from s n (drop (k + 1) path)) (below s m (get_or path k 0))
unfolding module_from
module_from_step s m path k within = rw (add-one, drop-cons path k 0) refl

pub module_from_more : (s : System) (m n : Module) (path : List ℕ) (k : ℕ) → k < length path → Some n ≡ below s m (get_or path k 0) →
    module_from s n (drop (k + 1) path) ≡ module_from s m (drop k path)
module_from_more s m n path k within found =
    ap (option_and_then (λ n. module_from s n (drop (k + 1) path))) found ∙ sym (module_from_step s m path k within)

pub module_from_lost : (s : System) (m : Module) (path : List ℕ) (k : ℕ) → k < length path → None ≡ below s m (get_or path k 0) →
    None ≡ module_from s m (drop k path)
module_from_lost s m path k within found =
    ap (option_and_then (λ n. module_from s n (drop (k + 1) path))) found ∙ sym (module_from_step s m path k within)

pub module_from_end : (s : System) (m : Module) (path : List ℕ) (k : ℕ) → length path ≤ k → Some m ≡ module_from s m (drop k path)
unfolding module_from
module_from_end s m path k past = rw (drop_all k path past) refl

-- the parent of an instance has the path without its last name
pub parent_split : (path : List ℕ) (n d : ℕ) → length path ≡ suc n → parent_of path ≡ Some (take n path, get_or path n d)
unfolding parent_of
parent_split [] n d is = absurd (omega (arith, is))
parent_split (i ∷ []) zero d is = refl
parent_split (i ∷ []) (suc n) d is = absurd (omega (arith, is))
parent_split (i ∷ (j ∷ path)) zero d is = absurd (omega (arith, is))
parent_split (i ∷ (j ∷ path)) (suc n) d is = ap (option_map (λ p. (i ∷ p.0, p.1))) (parent_split (j ∷ path) n d (omega (arith, is)))

pub bound_at : (s : System) (path : List ℕ) (x n d : ℕ) → length path ≡ suc n →
    binding_of s path x ≡ option_map (λ e. (take n path, e)) (bound_below s (take n path) (get_or path n d) x)
bound_at s path x n d is = ap (binding_from s x) (parent_split path n d is)

pub no_parent : (s : System) (path : List ℕ) (x : ℕ) → length path ≡ 0 → None ≡ binding_of s path x
unfolding parent_of
no_parent s [] x is = refl
no_parent s (i ∷ path) x is = absurd (omega (arith, is))

pub parent_bound : (s : System) (path : List ℕ) (x n d : ℕ) (e : Expr) → length path ≡ suc n → Some e ≡ bound_below s (take n path) (get_or path n d) x →
    Some (take n path, e) ≡ binding_of s path x
parent_bound s path x n d e is bound = ap (option_map (λ y. (take n path, y))) bound ∙ sym (bound_at s path x n d is)

pub parent_free : (s : System) (path : List ℕ) (x n d : ℕ) → length path ≡ suc n → None ≡ bound_below s (take n path) (get_or path n d) x → None ≡ binding_of s path x
parent_free s path x n d is free = ap (option_map (λ y. (take n path, y))) free ∙ sym (bound_at s path x n d is)
