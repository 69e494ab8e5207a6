-- Steps of the way to the module at the end of a path.
use Rattle.std.proofs.Common.{◌≡◌, ℕ, ◌+◌, ◌<◌, ◌≤◌, List, length, get_or, drop, add-one, drop-cons, refl, ap, sym, ◌∙◌}
use Rattle.std.proofs.lemmas.List.{drop_all}
use Rattle.std.specs.Prelude.{Option, Some, None}
use Rattle.std.specs.Option.{option_and_then}
use Rattle.uc_syntax.specs.declared.declaration.Module.{Module}
use Rattle.uc_meaning.specs.Lookup.{System, module_named, instance_of, module_from}

-- the module of an instance in a module
abbrev pub below : System → Module → ℕ → Option Module
below s m i = option_and_then (λ p. module_named s p.module_name) (instance_of m i)

-- one instance further on
pub module_from_step : (s : System) (m : Module) (path : List ℕ) (k : ℕ) → k < length path →
    module_from s m (drop k path) ≡ option_and_then (λ n. module_from s n (drop (k + 1) path)) (below s m (get_or path k 0))
unfolding module_from
module_from_step s m path k within = rw (add-one, drop-cons path k 0) refl

pub module_from_more : (s : System) (m n : Module) (path : List ℕ) (k : ℕ) → k < length path → Some n ≡ below s m (get_or path k 0) →
    module_from s n (drop (k + 1) path) ≡ module_from s m (drop k path)
module_from_more s m n path k within found =
    ap (option_and_then (λ n. module_from s n (drop (k + 1) path))) found ∙ sym (module_from_step s m path k within)

pub module_from_lost : (s : System) (m : Module) (path : List ℕ) (k : ℕ) → k < length path → None ≡ below s m (get_or path k 0) →
    None ≡ module_from s m (drop k path)
module_from_lost s m path k within found =
    ap (option_and_then (λ n. module_from s n (drop (k + 1) path))) found ∙ sym (module_from_step s m path k within)

pub module_from_end : (s : System) (m : Module) (path : List ℕ) (k : ℕ) → length path ≤ k → Some m ≡ module_from s m (drop k path)
unfolding module_from
module_from_end s m path k past = rw (drop_all k path past) refl
