-- Code and clauses part by part.
use Rattle.std.proofs.Common.{◌≡◌, ℕ, zero, suc, ◌+◌, List, [], ◌∷◌, ◌++◌, map, Option, None, Some, refl, ap, ◌∙◌, sym}
use Rattle.std.specs.List.{filter_map, flat_map}
use Rattle.std.specs.Option.{option_and_then, option_copied}
use Rattle.std.specs.Borrow.{Bor}
use Rattle.uc_syntax.specs.declared.expression.Expr.{Expr}
use Rattle.uc_syntax.specs.declared.statement.Stmt.{Stmt}
use Rattle.uc_syntax.specs.declared.statement.Stmt.TheFolds.{fold-Stmt}
use Rattle.uc_syntax.specs.declared.declaration.Clause.{Clause}
use Rattle.uc_syntax.specs.declared.declaration.Clause.TheVariants.{Requires, Ensures, Modifies}
use Rattle.uc_syntax.specs.declared.declaration.Procedure.{Procedure}
use Rattle.uc_syntax.specs.declared.declaration.Decl.{Decl}
use Rattle.uc_syntax.specs.declared.declaration.Module.{Module}
use Rattle.uc_meaning.specs.Lookup.{System, next_in, next_of}
use Rattle.uc_meaning.specs.Code.{requires_in}
use Rattle.uc_order_rules.specs.Sizes.{Blocks, Size, callee, nodes, plus, size, size_by, size_form, size_through, stepped, sum, total}
use Rattle.uc_sizes.proofs.Spending.{none_plus, plus_assoc, plus_none, sizes_of}
use Rattle.uc_sizes.specs.Levels.{clause_size, procedure_size, requires_size}

pub sizes_are : {X : Type 0} (f : X → Size) (xs : List X) → sizes_of f xs ≡ sum (map f xs)
unfolding sizes_of sum
sizes_are f [] = refl
sizes_are f (x ∷ xs) = ap (plus (f x)) (sizes_are f xs)

sum_join : (as' bs : List Size) → sum (as' ++ bs) ≡ plus (sum as') (sum bs)
unfolding sum
sum_join [] bs = sym (none_plus (sum bs))
sum_join (a ∷ as') bs = ap (plus a) (sum_join as' bs) ∙ sym (plus_assoc a (sum as') (sum bs))

map_join : {X Y : Type 0} (f : X → Y) (xs ys : List X) → map f (xs ++ ys) ≡ map f xs ++ map f ys
map_join f [] ys = refl
map_join f (x ∷ xs) ys = ap (λ zs. f x ∷ zs) (map_join f xs ys)

by_join : (s : System) (blocks : Blocks) (path : List ℕ) (xs ys : List Stmt) → size_by s blocks path (xs ++ ys) ≡ plus (size_by s blocks path xs) (size_by s blocks path ys)
unfolding size_by
by_join s blocks path xs ys = ap sum (map_join (fold-Stmt Size (size_form s blocks path)) xs ys) ∙ sum_join (map (fold-Stmt Size (size_form s blocks path)) xs) (map (fold-Stmt Size (size_form s blocks path)) ys)

pub through_join : (n : ℕ) (s : System) (path : List ℕ) (xs ys : List Stmt) → size_through n s path (xs ++ ys) ≡ plus (size_through n s path xs) (size_through n s path ys)
unfolding size_through
through_join zero s path xs ys = refl
through_join (suc n) s path xs ys = by_join s (size_through n s) path xs ys

pub through_none : (n : ℕ) (s : System) (path : List ℕ) → size_through n s path [] ≡ size 0 0
unfolding size_through size_by sum
through_none zero s path = refl
through_none (suc n) s path = refl

pub no_levels : (n : ℕ) (s : System) (path : List ℕ) (code : List Stmt) → n ≡ 0 → size_through n s path code ≡ size 0 0
unfolding size_through
no_levels n s path code is = ap (λ k. size_through k s path code) is

-- blocks one after another
pub blocks_are : {X : Type 0} (n : ℕ) (s : System) (path : List ℕ) (f : X → List Stmt) (xs : List X) → sizes_of (λ x. size_through n s path (f x)) xs ≡ size_through n s path (flat_map f xs)
unfolding sizes_of
blocks_are n s path f [] = sym (through_none n s path)
blocks_are n s path f (x ∷ xs) = ap (plus (size_through n s path (f x))) (blocks_are n s path f xs) ∙ sym (through_join n s path (f x) (flat_map f xs))

pub clauses_are : (s : System) (path : List ℕ) (cs : List Clause) → sizes_of (clause_size s path) cs ≡ requires_size s path cs
unfolding sizes_of
clauses_are s path [] = refl
clauses_are s path (Requires place e ∷ cs) = ap (plus (size 0 (nodes s path e))) (clauses_are s path cs)
clauses_are s path (Ensures place e ∷ cs) = none_plus (sizes_of (clause_size s path) cs) ∙ clauses_are s path cs
clauses_are s path (Modifies place is ∷ cs) = none_plus (sizes_of (clause_size s path) cs) ∙ clauses_are s path cs

pub no_callee : (s : System) (blocks : Blocks) (path : List ℕ) (o : Option Procedure) → None ≡ o → callee s blocks path o ≡ size 0 0
no_callee s blocks path o is = ap (callee s blocks path) (sym is)

pub callee_is : (s : System) (n : ℕ) (path : List ℕ) (o : Option Procedure) (p : Procedure) → Some p ≡ o → callee s (size_through n s) path o ≡ procedure_size s n path p
callee_is s n path o p is = ap (callee s (size_through n s) path) (sym is)

pub not_stepped : (blocks : Blocks) (path : List ℕ) (o : Option Module) → None ≡ o → stepped blocks path o ≡ size 0 0
not_stepped blocks path o is = ap (stepped blocks path) (sym is)

pub stepped_is : (blocks : Blocks) (path shown : List ℕ) (find : List ℕ → Option Module) (m : Module) → shown ≡ path → Some m ≡ find shown → stepped blocks path (find path) ≡ blocks shown (next_of m)
stepped_is blocks path shown find m same is = sym (ap (λ p. stepped blocks p (find p)) same) ∙ ap (stepped blocks shown) (sym is)

pub not_stepped_there : (blocks : Blocks) (path shown : List ℕ) (find : List ℕ → Option Module) → shown ≡ path → None ≡ find shown → stepped blocks path (find path) ≡ size 0 0
not_stepped_there blocks path shown find same is = sym (ap (λ p. stepped blocks p (find p)) same) ∙ ap (stepped blocks shown) (sym is)

pub next_is : (n : ℕ) (s : System) (path : List ℕ) (m : Module) (ds : List Decl) → ds ≡ m.decls → size_through n s path (next_of m) ≡ sizes_of (λ d. size_through n s path (next_in d)) ds
next_is n s path m ds same = ap (λ xs. size_through n s path (flat_map next_in xs)) (sym same) ∙ sym (blocks_are n s path next_in ds)

pub procedure_is : (s : System) (n : ℕ) (path : List ℕ) (p : Procedure) (cs : List Clause) (code : List Stmt) → cs ≡ p.clauses → code ≡ p.body → procedure_size s n path p ≡ plus (requires_size s path cs) (size_through n s path code)
procedure_is s n path p cs code same same' = (λ k. plus (requires_size s path (sym same k)) (size_through n s path (sym same' k)))
