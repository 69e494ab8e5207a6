-- Ways of uses are followed to the end.
use Rattle.std.proofs.Common.{◌≡◌, ℕ, zero, suc, ◌≤◌, Bool, true, false, List, [], ◌∷◌, ◌++◌, map, length, Option, Some, None, refl, ap, sym, subst, ◌∙◌, inl, inr, ⊎_elim, arith}
use Rattle.std.specs.Prelude.{◌||◌, if◌then◌else◌}
use Rattle.std.specs.List.{flat_map}
use Rattle.std.specs.Option.{option_and_then}
use Rattle.uc_syntax.specs.declared.expression.Expr.{Expr}
use Rattle.uc_syntax.specs.declared.declaration.Procedure.{Procedure as ProcedureParts}
use Rattle.uc_meaning.specs.Lookup.{System, Defined, module_at, define_of, procedure_of}
use Rattle.uc_meaning.specs.Expressions.{binding_of}
use Rattle.uc_rules.specs.Cycles.{leads_to}
use Rattle.uc_declared_types.specs.AliasLaw.{IsAmong}
use Rattle.uc_declared_types.proofs.Along.{any_by, any_there, either, or_left, or_right}
use Rattle.uc_declared_types.proofs.Among.{among_back, among_split}
use Rattle.uc_declared_types.proofs.Following.{followed}
use Rattle.uc_order_rules.specs.Roots.{NameAt, name_at, led, rooted, is_bound_input}
use Rattle.uc_order_rules.specs.Mentions.{Mention, Reads, Applies, ReadsOld, mentions, expressions_in, calls_in}
use Rattle.uc_order_rules.specs.Uses.{Used, UsedDefine, UsedProcedure, UsedInput, name_uses, define_uses, mention_uses, expression_uses, clause_expressions, procedure_uses, body_uses, binding_uses, uses_of, same_use, all_uses}
use Rattle.uc_uses.specs.Ways.{Leads}
use Rattle.uc_uses.proofs.UseBoundsWays.{Way, leads_by}
use Rattle.uc_uses.proofs.UseBoundsNames.{goes, use_is, use_same}
use Rattle.uc_uses.specs.BoundLaw.{InstancesEnd, UsesAreFollowed, is_counted}
use Rattle.uc_uses.proofs.Listed.{nodes, define_listed, procedure_listed, input_listed}

nothing : {A : Type 0} → false ≡ true → A
nothing h = cc

pub map_back : {A B : Type 0} (f : A → B) (y : B) (xs : List A) → IsAmong y (map f xs) → (x : A) × IsAmong x xs × (y ≡ f x)
unfolding IsAmong
map_back f y [] h = absurd h
map_back f y (x ∷ xs) h = ⊎_elim (λ e. (x, inl refl, e)) (λ r. let b = map_back f y xs r in (b.0, inr b.1, b.2)) h

length_map : {A B : Type 0} (f : A → B) (xs : List A) → length (map f xs) ≤ length xs
length_map f [] = omega arith
length_map f (x ∷ xs) = let r = length_map f xs in omega (arith, r)

-- ---- what is used is a define, a procedure or a bound input

module _ (K : System) where
  name_counted : (n : NameAt) (y : Used) → IsAmong y (name_uses K n) → is_counted K y ≡ true
  unfolding IsAmong
  name_counted n y h = by (is_bound_input K n) refl h
    where
      by : (b : Bool) → is_bound_input K n ≡ b → IsAmong y (if b then UsedInput n ∷ [] else []) → is_counted K y ≡ true
      by true is h = ⊎_elim (λ e. ap (is_counted K) e ∙ is) (λ r. absurd r) h
      by false is h = absurd h

  define_counted : (q : List ℕ) (f : ℕ) (o : Option Defined) (y : Used) → IsAmong y (define_uses q f o) → is_counted K y ≡ true
  unfolding IsAmong
  define_counted q f None y h = absurd h
  define_counted q f (Some d) y h = ⊎_elim (λ e. ap (is_counted K) e) (λ r. absurd r) h

  mention_counted : (q : List ℕ) (m : Mention) (y : Used) → IsAmong y (mention_uses K q m) → is_counted K y ≡ true
  mention_counted q (Reads x primed ys) y h = name_counted (led K q x ys) y h
  mention_counted q (Applies f) y h = define_counted q f (option_and_then (λ m. define_of m f) (module_at K q)) y h
  mention_counted q (ReadsOld x) y h = name_counted (name_at q x) y h

  expression_counted : (q : List ℕ) (e : Expr) (y : Used) → IsAmong y (expression_uses K q e) → is_counted K y ≡ true
  expression_counted q e y h = let r = among_back (mention_uses K q) y (mentions e) h in mention_counted q r.0 y r.2

  body_counted : (q : List ℕ) (o : Option Defined) (y : Used) → IsAmong y (body_uses K q o) → is_counted K y ≡ true
  unfolding IsAmong
  body_counted q None y h = absurd h
  body_counted q (Some d) y h = expression_counted q d.body y h

  procedure_counted : (q : List ℕ) (o : Option ProcedureParts) (y : Used) → IsAmong y (procedure_uses K q o) → is_counted K y ≡ true
  unfolding IsAmong
  procedure_counted q None y h = absurd h
  procedure_counted q (Some p) y h =
      ⊎_elim
      (λ a. let r = map_back (λ g. UsedProcedure (name_at q g)) y (flat_map calls_in p.body) a in ap (is_counted K) r.2)
      (λ b. let r = among_back (expression_uses K q) y (flat_map clause_expressions p.clauses ++ flat_map expressions_in p.body) b in expression_counted q r.0 y r.2)
      (among_split y (map (λ g. UsedProcedure (name_at q g)) (flat_map calls_in p.body)) (flat_map (expression_uses K q) (flat_map clause_expressions p.clauses ++ flat_map expressions_in p.body)) h)

  binding_counted : (o : Option (List ℕ × Expr)) (y : Used) → IsAmong y (binding_uses K o) → is_counted K y ≡ true
  unfolding IsAmong
  binding_counted None y h = absurd h
  binding_counted (Some b) y h = expression_counted b.0 b.1 y h

  pub use_counted : (u y : Used) → IsAmong y (uses_of K u) → is_counted K y ≡ true
  use_counted (UsedDefine n) y h = body_counted n.path (option_and_then (λ m. define_of m n.name) (module_at K n.path)) y h
  use_counted (UsedProcedure n) y h = procedure_counted n.path (option_and_then (λ m. procedure_of m n.name) (module_at K n.path)) y h
  use_counted (UsedInput n) y h = binding_counted (binding_of K n.path n.name) y h

  -- ---- the steps of those that are counted

  pub counted_uses : Used → List Used
  counted_uses u = if is_counted K u then uses_of K u else []

  counted_by : (u y : Used) → IsAmong y (counted_uses u) → (is_counted K u ≡ true) × IsAmong y (uses_of K u)
  unfolding counted_uses IsAmong
  counted_by u y h = by (is_counted K u) refl h
    where
      by : (b : Bool) → is_counted K u ≡ b → IsAmong y (if b then uses_of K u else []) → (is_counted K u ≡ true) × IsAmong y (uses_of K u)
      by true is h = (is, h)
      by false is h = absurd h

  to_counted : (u y : Used) → is_counted K u ≡ true → IsAmong y (uses_of K u) → IsAmong y (counted_uses u)
  unfolding counted_uses
  to_counted u y is h = subst (λ b. IsAmong y (if b then uses_of K u else [])) (sym is) h

  way_counted : (n : ℕ) (u v : Used) → is_counted K u ≡ true → Way (uses_of K) n u v → Way counted_uses n u v
  unfolding Way
  way_counted zero u v is w = to_counted u v is w
  way_counted (suc n) u v is w = (w.0, to_counted u w.0 is w.1, way_counted n w.0 v (use_counted u w.0 w.1) w.2)

  leads_back : (n : ℕ) (u v : Used) → leads_to n counted_uses (same_use v) u ≡ true → leads_to n (uses_of K) (same_use v) u ≡ true
  unfolding leads_to
  leads_back zero u v h = nothing h
  leads_back (suc n) u v h =
      let y = any_by (λ a. same_use v a || leads_to n counted_uses (same_use v) a) (counted_uses u) h in
      any_there (λ a. same_use v a || leads_to n (uses_of K) (same_use v) a) (uses_of K u) y.0 (counted_by u y.0 y.1).1
      (⊎_elim (λ here. or_left (same_use v y.0) (leads_to n (uses_of K) (same_use v) y.0) here) (λ later. or_right (same_use v y.0) (leads_to n (uses_of K) (same_use v) y.0) (leads_back n y.0 v later))
      (either (same_use v y.0) (leads_to n counted_uses (same_use v) y.0) y.2))

module _ (s : System) (known : InstancesEnd s) (k : ℕ) where
  abbrev K : System
  K = rooted s k

  define_covered : (n : NameAt) (y : Used) (o : Option Defined) → option_and_then (λ m. define_of m n.name) (module_at K n.path) ≡ o → IsAmong y (body_uses K n.path o) → IsAmong (UsedDefine n) (nodes s known k)
  unfolding IsAmong
  define_covered n y None is h = absurd h
  define_covered n y (Some d) is h = define_listed s known k n d is

  procedure_covered : (n : NameAt) (y : Used) (o : Option ProcedureParts) → option_and_then (λ m. procedure_of m n.name) (module_at K n.path) ≡ o → IsAmong y (procedure_uses K n.path o) → IsAmong (UsedProcedure n) (nodes s known k)
  unfolding IsAmong
  procedure_covered n y None is h = absurd h
  procedure_covered n y (Some d) is h = procedure_listed s known k n d is

  pub covered : (u y : Used) → is_counted K u ≡ true → IsAmong y (uses_of K u) → IsAmong u (nodes s known k)
  covered (UsedDefine n) y is h = define_covered n y (option_and_then (λ m. define_of m n.name) (module_at K n.path)) refl h
  covered (UsedProcedure n) y is h = procedure_covered n y (option_and_then (λ m. procedure_of m n.name) (module_at K n.path)) refl h
  covered (UsedInput n) y is h = input_listed s known k n is

  covers : (u y : Used) → IsAmong y (counted_uses K u) → IsAmong u (nodes s known k)
  covers u y h = let c = counted_by K u y h in covered u y c.0 c.1

  pub uses_followed : (u v : Used) → is_counted K u ≡ true → Leads K u v → leads_to (length (all_uses K)) (uses_of K) (same_use v) u ≡ true
  uses_followed u v is h =
      let g = goes K u v h in
      leads_back K (length (all_uses K)) u v
      (followed (counted_uses K) (same_use v) (nodes s known k) covers (length (all_uses K)) (length_map (λ x. x.used) (all_uses K)) (suc g.0) u
      (leads_by (counted_uses K) same_use use_is use_same g.0 u v (way_counted K g.0 u v is g.1)))

pub uses_are_followed : UsesAreFollowed
uses_are_followed s known k u v is h = uses_followed s known k u v is h
