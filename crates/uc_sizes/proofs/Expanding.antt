-- Sums of sizes.
use Rattle.std.proofs.Common.{◌≡◌, ℕ, zero, suc, ◌+◌, Bool, true, false, List, [], ◌∷◌, ◌++◌, length, map, Option, Some, None, refl, ap, ◌∙◌, sym, subst, arith}
use Rattle.std.specs.Prelude.{nat_eq, is_some, cond, if◌then◌else◌, Result, Ok, Err}
use Rattle.std.specs.List.{cons_option, filter, filter_map, flat_map, list_any}
use Rattle.std.specs.Option.{option_copied}
use Rattle.uc_syntax.specs.declared.expression.Expr.{Expr}
use Rattle.uc_syntax.specs.declared.statement.Stmt.{Stmt}
use Rattle.uc_lexer.specs.declared.place.Place.{Place}
use Rattle.uc_syntax.specs.declared.declaration.Clause.{Clause}
use Rattle.uc_syntax.specs.declared.declaration.Procedure.{Procedure as ProcedureParts}
use Rattle.uc_syntax.specs.declared.declaration.Decl.{Decl}
use Rattle.uc_syntax.specs.declared.declaration.Decl.TheVariants.{Procedure}
use Rattle.uc_syntax.specs.declared.declaration.Module.{Module}
use Rattle.uc_syntax.proofs.Added.{append_nil}
use Rattle.uc_meaning.specs.Lookup.{System, InstanceParts, axiom_in, init_in, init_of, instance_in, main_module, module_named, next_of}
use Rattle.uc_meaning.specs.Cells.{InstanceAt, as_list, instances, instances_from, main_instance, modules_in_use}
use Rattle.uc_meaning.specs.Steps.{main_next}
use Rattle.uc_order_rules.specs.Roots.{instances_in}
use Rattle.uc_order_rules.specs.Sizes.{Size, axiom_nodes, code_size, expansion, formula_in, instance_size, nodes, plus, procedure_size, size, size_through, sum, total}
use Rattle.uc_order_rules.specs.Uses.{clause_expressions}
use Rattle.uc_sizes.specs.declared.spent.Halt.{Halt}
use Rattle.uc_sizes.specs.declared.spent.Halt.TheVariants.{TooLarge}
use Rattle.uc_sizes.specs.Spending.{Outcome, Spends, exceeds}
use Rattle.uc_uses.specs.Counting.{inside, instances_by, instances_of_main, instances_with}
use Rattle.uc_uses.proofs.Counting.{total_join}
use Rattle.uc_uses.proofs.InstanceCountsWalks.{instances_more}
use Rattle.uc_sizes.proofs.Spending.{none_plus, plus_assoc, plus_none, sizes_of, spends_stop, spends_two}
use Rattle.uc_sizes.proofs.Codes.{blocks_are, sizes_are, through_none}
use Rattle.uc_sizes.specs.Expanding.{IsHere, declared_procedures, expression_sizes, instances_size, sizes_inside, used_axioms}

sum_join : (as' bs : List Size) → sum (as' ++ bs) ≡ plus (sum as') (sum bs)
unfolding sum
sum_join [] bs = sym (none_plus (sum bs))
sum_join (a ∷ as') bs = ap (plus a) (sum_join as' bs) ∙ sym (plus_assoc a (sum as') (sum bs))

map_join : {X Y : Type 0} (f : X → Y) (xs ys : List X) → map f (xs ++ ys) ≡ map f xs ++ map f ys
map_join f [] ys = refl
map_join f (x ∷ xs) ys = ap (λ zs. f x ∷ zs) (map_join f xs ys)

sum_flat : {X Y : Type 0} (f : Y → Size) (g : X → List Y) (xs : List X) → sum (map f (flat_map g xs)) ≡ sum (map (λ x. sum (map f (g x))) xs)
unfolding sum
sum_flat f g [] = refl
sum_flat f g (x ∷ xs) = ap sum (map_join f (g x) (flat_map g xs)) ∙ sum_join (map f (g x)) (map f (flat_map g xs)) ∙ ap (plus (sum (map f (g x)))) (sum_flat f g xs)

pub no_instances : (n : ℕ) (s : System) (here : InstanceAt) → n ≡ 0 → instances_size s (instances_from n s here) ≡ size 0 0
unfolding instances_from sum
no_instances n s here is = ap (λ k. instances_size s (instances_from k s here)) is

pub sizes_more : (n m : ℕ) (s : System) (here : InstanceAt) (ds : List Decl) → n ≡ suc m → ds ≡ here.code.decls →
    instances_size s (instances_from n s here) ≡ plus (instance_size s here) (sum (map (sizes_inside m s here) ds))
unfolding sum
sizes_more n m s here ds is same =
    ap (λ k. instances_size s (instances_from k s here)) is ∙ ap (instances_size s) (instances_more m s here)
    ∙ ap (plus (instance_size s here)) (sum_flat (instance_size s) (λ d. instances_by m s here (instance_in d)) here.code.decls)
    ∙ ap (λ xs. plus (instance_size s here) (sum (map (sizes_inside m s here) xs))) (sym same)

pub code_same : (path : List ℕ) (m : Module) (here : InstanceAt) (ds : List Decl) → IsHere path m here → ds ≡ m.decls → ds ≡ here.code.decls
code_same path m here ds is same = same ∙ sym (ap (λ (k : Module). k.decls) is.code)

pub instance_is : (s : System) (path : List ℕ) (m : Module) (here : InstanceAt) (ds : List Decl) → IsHere path m here → ds ≡ m.decls →
    instance_size s here ≡ plus (code_size s path (init_of m)) (expression_sizes s path (flat_map formula_in ds))
instance_is s path m here ds is same =
    (λ k. plus (code_size s (is.path k) (init_of (is.code k))) (expression_sizes s (is.path k) (flat_map formula_in (is.code k).decls)))
    ∙ ap (λ xs. plus (code_size s path (init_of m)) (expression_sizes s path (flat_map formula_in xs))) (sym same)

pub inside_none : (n : ℕ) (s : System) (here : InstanceAt) (d : Decl) → None ≡ instance_in d → sizes_inside n s here d ≡ size 0 0
unfolding sum
inside_none n s here d is = ap (λ o. instances_size s (instances_by n s here o)) (sym is)

pub inside_lost : (n : ℕ) (s : System) (here : InstanceAt) (d : Decl) (i : InstanceParts) → Some i ≡ instance_in d → None ≡ module_named s i.module_name → sizes_inside n s here d ≡ size 0 0
unfolding sum
inside_lost n s here d i is none = ap (λ o. instances_size s (instances_by n s here o)) (sym is) ∙ ap (λ o. instances_size s (instances_with n s here i o)) (sym none)

pub inside_is : (n : ℕ) (s : System) (here : InstanceAt) (d : Decl) (i : InstanceParts) (m : Module) → Some i ≡ instance_in d → Some m ≡ module_named s i.module_name →
    sizes_inside n s here d ≡ instances_size s (instances_from n s (inside here i m))
inside_is n s here d i m is some = ap (λ o. instances_size s (instances_by n s here o)) (sym is) ∙ ap (λ o. instances_size s (instances_with n s here i o)) (sym some)

pub here_inside : (path shown : List ℕ) (m : Module) (here : InstanceAt) (i : InstanceParts) (name : ℕ) → here.path ≡ path → shown ≡ path ++ name ∷ [] → name ≡ i.name → IsHere shown m (inside here i m)
here_inside path shown m here i name is same named = record {
  path = (λ k. is k ++ sym named k ∷ []) ∙ sym same;
  code = refl;
}

-- Expressions one after another.

expressions_join : (s : System) (path : List ℕ) (es ds : List Expr) → expression_sizes s path (es ++ ds) ≡ plus (expression_sizes s path es) (expression_sizes s path ds)
expressions_join s path es ds = ap (size 0) (total_join (nodes s path) es ds)

pub expressions_are : {X : Type 0} (s : System) (path : List ℕ) (g : X → List Expr) (xs : List X) → sizes_of (λ x. expression_sizes s path (g x)) xs ≡ expression_sizes s path (flat_map g xs)
unfolding sizes_of
expressions_are s path g [] = refl
expressions_are s path g (x ∷ xs) = ap (plus (expression_sizes s path (g x))) (expressions_are s path g xs) ∙ sym (expressions_join s path (g x) (flat_map g xs))

as_turn : {Y : Type 0} (o : Option Y) (ys : List Y) → as_list o ++ ys ≡ cons_option o ys
as_turn None ys = refl
as_turn (Some y) ys = refl

as_flat : {X Y : Type 0} (g : X → Option Y) (xs : List X) → flat_map (λ x. as_list (g x)) xs ≡ filter_map g xs
as_flat g [] = refl
as_flat g (x ∷ xs) = as_turn (g x) (flat_map (λ y. as_list (g y)) xs) ∙ ap (cons_option (g x)) (as_flat g xs)

pub axioms_are : (s : System) (path : List ℕ) (ds : List Decl) → sizes_of (λ d. expression_sizes s path (as_list (axiom_in d))) ds ≡ expression_sizes s path (filter_map axiom_in ds)
axioms_are s path ds = expressions_are s path (λ d. as_list (axiom_in d)) ds ∙ ap (expression_sizes s path) (as_flat axiom_in ds)

pub one_expression : (s : System) (path : List ℕ) (o : Option Expr) (e : Expr) → Some e ≡ o → expression_sizes s path (as_list o) ≡ size 0 (nodes s path e)
one_expression s path o e is = ap (λ p. expression_sizes s path (as_list p)) (sym is) ∙ ap (size 0) (alone (nodes s path e))
  where
    alone : (n : ℕ) → n + 0 ≡ n
    alone n = omega arith

-- The parts of main.

pub next_is : (s : System) (m : Module) → Some m ≡ main_module s → code_size s [] (main_next s) ≡ code_size s [] (next_of m)
next_is s m some = ap (λ o. code_size s [] (flat_map next_of (as_list o))) (sym some) ∙ ap (code_size s []) (append_nil (next_of m))

pub no_next : (s : System) → None ≡ main_module s → code_size s [] (main_next s) ≡ size 0 0
no_next s none = ap (λ o. code_size s [] (flat_map next_of (as_list o))) (sym none) ∙ through_none 65 s []

pub below_main : (s : System) (n : ℕ) (m : Module) → Some m ≡ main_module s → n ≡ suc (length s.modules) → sum (map (instance_size s) (instances_in s)) ≡ instances_size s (instances_from n s (main_instance m))
unfolding instances_in
below_main s n m some is =
    ap (λ o. instances_size s (flat_map (λ k. instances_from (suc (length s.modules)) s (main_instance k)) (as_list o))) (sym some)
    ∙ ap (instances_size s) (append_nil (instances_from (suc (length s.modules)) s (main_instance m))) ∙ ap (λ k. instances_size s (instances_from k s (main_instance m))) (sym is)

pub none_below : (s : System) → None ≡ main_module s → sum (map (instance_size s) (instances_in s)) ≡ size 0 0
unfolding instances_in sum
none_below s none = ap (λ o. instances_size s (flat_map (λ k. instances_from (suc (length s.modules)) s (main_instance k)) (as_list o))) (sym none)

pub procedures_are : (s : System) (o : Option Module) (m : Module) (ds : List Decl) → Some m ≡ o → ds ≡ m.decls → declared_procedures s o ≡ sum (map (procedure_size s) ds)
procedures_are s o m ds some same = ap (declared_procedures s) (sym some) ∙ ap (λ xs. sum (map (procedure_size s) xs)) (append_nil m.decls ∙ sym same)

pub no_procedures : (s : System) (o : Option Module) → None ≡ o → declared_procedures s o ≡ size 0 0
unfolding sum
no_procedures s o none = ap (declared_procedures s) (sym none)

pub expansion_is : (s : System) →
    expansion s ≡ plus (code_size s [] (main_next s)) (plus (sum (map (instance_size s) (instances_in s))) (plus (size 0 (total (map (axiom_nodes s) (modules_in_use s)))) (declared_procedures s (main_module s))))
unfolding expansion
expansion_is s = refl

-- The axioms of the modules in use.

used : System → Module → Bool
used s m = list_any (λ i. nat_eq i.code.name m.name) (instances s)

used_turn : (s : System) (m : Module) (ms : List Module) (b : Bool) → sizes_of (used_axioms s) ms ≡ size 0 (total (map (axiom_nodes s) (filter (used s) ms))) →
    plus (cond b (size 0 (axiom_nodes s m)) (size 0 0)) (sizes_of (used_axioms s) ms) ≡ size 0 (total (map (axiom_nodes s) (cond b (m ∷ filter (used s) ms) (filter (used s) ms))))
used_turn s m ms true h = ap (plus (size 0 (axiom_nodes s m))) h
used_turn s m ms false h = none_plus (sizes_of (used_axioms s) ms) ∙ h

used_filtered : (s : System) (ms : List Module) → sizes_of (used_axioms s) ms ≡ size 0 (total (map (axiom_nodes s) (filter (used s) ms)))
unfolding sizes_of used
used_filtered s [] = refl
used_filtered s (m ∷ ms) = used_turn s m ms (used s m) (used_filtered s ms)

pub used_are : (s : System) (ms : List Module) → ms ≡ s.modules → sizes_of (used_axioms s) ms ≡ size 0 (total (map (axiom_nodes s) (modules_in_use s)))
unfolding modules_in_use used
used_are s ms same = ap (sizes_of (used_axioms s)) same ∙ used_filtered s s.modules

pub init_is : (s : System) (path : List ℕ) (m : Module) (ds : List Decl) → ds ≡ m.decls → code_size s path (init_of m) ≡ sizes_of (λ d. code_size s path (init_in d)) ds
init_is s path m ds same = ap (λ xs. code_size s path (flat_map init_in xs)) (sym same) ∙ sym (blocks_are 65 s path init_in ds)

pub procedure_is : (s : System) (d : Decl) (place : Place) (p : ProcedureParts) (cs : List Clause) (code : List Stmt) → d ≡ Procedure place p → cs ≡ p.clauses → code ≡ p.body →
    procedure_size s d ≡ plus (expression_sizes s [] (flat_map clause_expressions cs)) (code_size s [] code)
procedure_is s d place p cs code is same same' =
    ap (procedure_size s) is ∙ (λ k. plus (expression_sizes s [] (flat_map clause_expressions (sym same k))) (code_size s [] (sym same' k)))

pub no_procedure : (s : System) (d : Decl) → ((place : Place) (p : ProcedureParts) → d ≡ Procedure place p → ⊥) → procedure_size s d ≡ size 0 0
no_procedure s (Procedure place p) h = absurd (h place p refl)
no_procedure s other h = refl

-- Four parts one after another.

module _ (old one two three new : Size) (a b c d whole : Size) (u v w : Unit {0}) (r : Result (Unit {0}) Halt) where
  pub four_spent : Spends old one (Ok u) a → Spends one two (Ok v) b → Spends two three (Ok w) c → Spends three new r d → whole ≡ plus a (plus b (plus c d)) → Spends old new r whole
  four_spent first second third fourth is =
      spends_two old one new u r a (plus b (plus c d)) whole first
      (spends_two one two new v r b (plus c d) (plus b (plus c d)) second (spends_two two three new w r c d (plus c d) third fourth refl) refl) is

pub stop_first : (old new new' a b c d whole : Size) (h : Halt) → Spends old new (Err h) a → whole ≡ plus a (plus b (plus c d)) → Spends old new' (Err h) whole
stop_first old new new' a b c d whole h first is = spends_stop old new new' h a (plus b (plus c d)) whole first is

pub stop_second : (old one new new' a b c d whole : Size) (u : Unit {0}) (h : Halt) → Spends old one (Ok u) a → Spends one new (Err h) b → whole ≡ plus a (plus b (plus c d)) → Spends old new' (Err h) whole
stop_second old one new new' a b c d whole u h first second is =
    spends_two old one new' u (Err h) a (plus b (plus c d)) whole first (spends_stop one new new' h b (plus c d) (plus b (plus c d)) second refl) is

pub stop_third : (old one two new new' a b c d whole : Size) (u v : Unit {0}) (h : Halt) → Spends old one (Ok u) a → Spends one two (Ok v) b → Spends two new (Err h) c → whole ≡ plus a (plus b (plus c d)) → Spends old new' (Err h) whole
stop_third old one two new new' a b c d whole u v h first second third is =
    spends_two old one new' u (Err h) a (plus b (plus c d)) whole first
    (spends_two one two new' v (Err h) b (plus c d) (plus b (plus c d)) second (spends_stop two new new' h c d (plus c d) third refl) refl) is

-- What counting from nothing says.

pub is_within : (old new amount : Size) (u : Unit {0}) → old ≡ size 0 0 → Spends old new (Ok u) amount → false ≡ exceeds amount
unfolding Spends
is_within old new amount u none h =
    let x : Outcome old new (Ok u) amount = h (ap exceeds none) in sym (ap exceeds (sym (none_plus amount) ∙ ap (λ s. plus s amount) (sym none) ∙ sym x.0) ∙ x.1)

pub is_large : (old new amount : Size) (halt : Halt) → old ≡ size 0 0 → halt ≡ TooLarge → Spends old new (Err halt) amount → true ≡ exceeds amount
unfolding Spends
is_large old new amount halt none is h =
    let x : Outcome old new (Err TooLarge) amount = subst (λ e. Outcome old new (Err e) amount) is (h (ap exceeds none)) in
    sym (ap exceeds (sym (none_plus amount) ∙ ap (λ s. plus s amount) (sym none)) ∙ x)
