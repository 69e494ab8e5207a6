-- No chain of aliases is longer than the declarations of the design.
use Rattle.std.proofs.Common.{◌≡◌, ℕ, zero, suc, ◌+◌, ◌<◌, ◌≤◌, List, [], ◌∷◌, ◌++◌, length, Option, Some, None, refl, ap, sym, subst, ◌∙◌, arith, ◌⊎◌, inl, inr, ⊎_elim}
use Rattle.std.specs.List.{flat_map}
use Rattle.std.proofs.lemmas.List.{length-append}
use Rattle.uc_syntax.specs.declared.type_expression.TypeExpr.{TypeExpr}
use Rattle.uc_syntax.specs.declared.declaration.Decl.{Decl}
use Rattle.uc_syntax.specs.declared.declaration.Decl.TheVariants.{TypeAlias}
use Rattle.uc_syntax.specs.declared.declaration.Module.{Module}
use Rattle.uc_values.specs.declared.ty.Ty.{Ty}
use Rattle.uc_meaning.specs.Lookup.{System}
use Rattle.uc_rules.specs.Types.{Aliases, longest_alias, type_found, type_of, type_through}
use Rattle.uc_declared_types.specs.AliasLaw.{IsAmong, AliasesAreRead, alias_in, aliases_of, aliases_of_module}
use Rattle.uc_declared_types.proofs.Among.{among_back}
use Rattle.uc_declared_types.proofs.Growing.{Refines, refines_same, types_refine}

abbrev AliasParts : Type 0
AliasParts = Module × TypeExpr

-- how many aliases are known
one_if : Option Ty → ℕ
one_if None = 0
one_if (Some t) = 1

known : Aliases → List AliasParts → ℕ
known f [] = 0
known f (d ∷ ds) = one_if (f d.0 d.1) + known f ds

one_most : (o : Option Ty) → one_if o ≤ 1
unfolding one_if
one_most None = omega arith
one_most (Some t) = omega arith

known_most : (f : Aliases) (ds : List AliasParts) → known f ds ≤ length ds
unfolding known
known_most f [] = omega arith
known_most f (d ∷ ds) = omega (arith, one_most (f d.0 d.1), known_most f ds)

one_grows : (o p : Option Ty) → Refines o p → one_if o ≤ one_if p
unfolding one_if Refines
one_grows None p h = omega arith
one_grows (Some t) p h = let e : one_if p ≡ 1 = ap one_if h in omega (arith, e)

one_same : (o p : Option Ty) → Refines o p → one_if p ≤ one_if o → o ≡ p
unfolding one_if Refines
one_same None None h k = refl
one_same None (Some t) h k = absurd (omega (arith, k))
one_same (Some t) p h k = sym h

known_grows : (f g : Aliases) (ds : List AliasParts) → ((m : Module) (type : TypeExpr) → IsAmong (m, type) ds → Refines (f m type) (g m type)) → known f ds ≤ known g ds
unfolding known IsAmong
known_grows f g [] h = omega arith
known_grows f g (d ∷ ds) h = omega (arith, one_grows (f d.0 d.1) (g d.0 d.1) (h d.0 d.1 (inl refl)), known_grows f g ds (λ m t k. h m t (inr k)))

-- where no more are known, the same are known
known_same : (f g : Aliases) (ds : List AliasParts) → ((m : Module) (type : TypeExpr) → IsAmong (m, type) ds → Refines (f m type) (g m type)) → known g ds ≤ known f ds →
    (m : Module) (type : TypeExpr) → IsAmong (m, type) ds → f m type ≡ g m type
unfolding known IsAmong
known_same f g [] h le m t there = absurd there
known_same f g (d ∷ ds) h le m t there =
    let a = one_grows (f d.0 d.1) (g d.0 d.1) (h d.0 d.1 (inl refl)) in
    let b = known_grows f g ds (λ n u k. h n u (inr k)) in
    ⊎_elim
    (λ e. ap (λ (p : AliasParts). f p.0 p.1) e ∙ one_same (f d.0 d.1) (g d.0 d.1) (h d.0 d.1 (inl refl)) (omega (arith, le, a, b)) ∙ sym (ap (λ (p : AliasParts). g p.0 p.1) e))
    (λ k. known_same f g ds (λ n u l. h n u (inr l)) (omega (arith, le, a, b)) m t k) there

-- ---- there are no more aliases than declarations

longer : {A B : Type 0} (xs ys : List A) (us vs : List B) → length xs ≤ length us → length ys ≤ length vs → length (xs ++ ys) ≤ length (us ++ vs)
longer xs ys us vs h k = omega (arith, length-append xs ys, length-append us vs, h, k)

alias_most : (m : Module) (d : Decl) → length (alias_in m d) ≤ length (d ∷ [])
alias_most m (TypeAlias place i type) = omega arith
alias_most m other = omega arith

module_most : (m : Module) (ds : List Decl) → length (flat_map (alias_in m) ds) ≤ length ds
module_most m [] = omega arith
module_most m (d ∷ ds) = longer (alias_in m d) (flat_map (alias_in m) ds) (d ∷ []) ds (alias_most m d) (module_most m ds)

design_most : (ms : List Module) → length (flat_map aliases_of_module ms) ≤ length (flat_map (λ m. m.decls) ms)
design_most [] = omega arith
design_most (m ∷ ms) = longer (aliases_of_module m) (flat_map aliases_of_module ms) m.decls (flat_map (λ n. n.decls) ms) (module_most m m.decls) (design_most ms)

compared : (a b : ℕ) → (a ≤ b) ⊎ (b < a)
compared zero b = inl (omega arith)
compared (suc a) zero = inr (omega arith)
compared (suc a) (suc b) = ⊎_elim (λ x. inl (omega (arith, x))) (λ x. inr (omega (arith, x))) (compared a b)

none_known : (system : System) (ds : List AliasParts) → known (type_through 0 system) ds ≡ 0
unfolding known one_if type_through
none_known system [] = refl
none_known system (d ∷ ds) = ap (λ k. 0 + k) (none_known system ds)

module _ (system : System) where
  abbrev through : ℕ → Aliases
  through n = type_through n system

  home_of_alias : (m n : Module) (type : TypeExpr) (d : Decl) → IsAmong (m, type) (alias_in n d) → m ≡ n
  unfolding IsAmong
  home_of_alias m n type (TypeAlias place i t) h = ⊎_elim (λ e. ap (λ (p : AliasParts). p.0) e) (λ x. absurd x) h
  home_of_alias m n type other h = absurd h

  home_there : (m : Module) (type : TypeExpr) → IsAmong (m, type) (aliases_of system) → IsAmong m system.modules
  home_there m type h =
      let a = among_back aliases_of_module (m, type) system.modules h in
      let b = among_back (alias_in a.0) (m, type) a.0.decls a.2 in
      subst (λ x. IsAmong x system.modules) (sym (home_of_alias m a.0 type b.0 b.2)) a.1

  -- one alias more
  grows : (n : ℕ) (m : Module) (type : TypeExpr) → IsAmong (m, type) (aliases_of system) → Refines (through n m type) (through (suc n) m type)
  unfolding type_through Refines
  grows zero m type h = tt
  grows (suc n) m type h = types_refine system (through n) (through (suc n)) (grows n) type m (home_there m type h)

  abbrev IsStable : ℕ → Type 0
  IsStable n = (m : Module) (type : TypeExpr) → IsAmong (m, type) (aliases_of system) → through n m type ≡ through (suc n) m type

  both_ways : (o p : Option Ty) → Refines o p → Refines p o → o ≡ p
  unfolding Refines
  both_ways None None h k = refl
  both_ways None (Some t) h k = k
  both_ways (Some t) p h k = sym h

  stays : (n : ℕ) → IsStable n → IsStable (suc n)
  unfolding type_through
  stays n h m type there =
      both_ways (through (suc n) m type) (through (suc (suc n)) m type) (grows (suc n) m type there)
      (types_refine system (through (suc n)) (through n) (λ k t l. refines_same _ _ (h k t l)) type m (home_there m type there))

  abbrev known_by : ℕ → ℕ
  known_by n = known (through n) (aliases_of system)

  -- where no more aliases are known after one alias more, their types are stable
  no_more : (n : ℕ) → known_by (suc n) ≤ known_by n → IsStable n
  no_more n h = known_same (through n) (through (suc n)) (aliases_of system) (grows n) h

  first : (known_by 1 ≤ 0) ⊎ (0 < known_by 1) → IsStable 0 ⊎ (0 < known_by 1)
  first (inl x) = let none : known_by 0 ≡ 0 = none_known system (aliases_of system) in inl (no_more 0 (omega (arith, x, none)))
  first (inr x) = inr x

  next : (n : ℕ) → n < known_by (suc n) → (known_by (suc (suc n)) ≤ suc n) ⊎ (suc n < known_by (suc (suc n))) → IsStable (suc n) ⊎ (suc n < known_by (suc (suc n)))
  next n l (inl x) = inl (no_more (suc n) (omega (arith, l, x)))
  next n l (inr x) = inr x

  -- the types of aliases are stable, or more of them are known
  progress : (n : ℕ) → IsStable n ⊎ (n < known_by (suc n))
  progress zero = first (compared (known_by 1) 0)
  progress (suc n) = ⊎_elim (λ s. inl (stays n s)) (λ l. next n l (compared (known_by (suc (suc n))) (suc n))) (progress n)

  pub stable : IsStable (longest_alias system)
  stable = ⊎_elim (λ s. s) (λ l. absurd (omega (arith, l, known_most (through (suc (longest_alias system))) (aliases_of system), design_most system.modules))) (progress (longest_alias system))

  read_on : (m : Module) (type : TypeExpr) → type_of system m type ≡ through (suc (longest_alias system)) m type
  unfolding type_found type_through
  read_on m type = refl

  pub alias_read : (m : Module) (type : TypeExpr) → IsAmong (m, type) (aliases_of system) → through (longest_alias system) m type ≡ type_of system m type
  alias_read m type h = stable m type h ∙ sym (read_on m type)

pub aliases_are_read : AliasesAreRead
aliases_are_read system m type h = alias_read system m type h
