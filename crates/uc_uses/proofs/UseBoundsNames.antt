-- Names at paths, and uses, that a test calls the same.
use Rattle.std.proofs.Common.{◌≡◌, ℕ, suc, Bool, true, false, List, [], ◌∷◌, refl, ap, ◌∙◌, arith}
use Rattle.std.specs.Prelude.{nat_eq, ◌&&◌}
use Rattle.uc_meaning.specs.Lookup.{System}
use Rattle.uc_meaning.specs.Cells.{same_path}
use Rattle.uc_order_rules.specs.Roots.{NameAt, name_at}
use Rattle.uc_order_rules.specs.Uses.{Used, UsedDefine, UsedProcedure, UsedInput, same_name_at, same_use, uses_of}
use Rattle.uc_uses.specs.Ways.{Leads}
use Rattle.uc_uses.proofs.UseBoundsWays.{Goes, goes_by, leads_by}

nothing : {A : Type 0} → false ≡ true → A
nothing h = cc

both : (b c : Bool) → (b && c) ≡ true → (b ≡ true) × (c ≡ true)
both true c h = (refl, h)
both false c h = nothing h

and_true : (b c : Bool) → b ≡ true → c ≡ true → (b && c) ≡ true
and_true true c h k = k
and_true false c h k = nothing h

pub equal : (n m : ℕ) → nat_eq n m ≡ true → n ≡ m
equal n m h = grind (arith, h)

pub same : (n : ℕ) → nat_eq n n ≡ true
same n = grind arith

path_is : (p q : List ℕ) → same_path p q ≡ true → p ≡ q
unfolding same_path
path_is [] [] h = refl
path_is [] (j ∷ q) h = nothing h
path_is (i ∷ p) [] h = nothing h
path_is (i ∷ p) (j ∷ q) h = let b = both (nat_eq i j) (same_path p q) h in ap (λ x. x ∷ p) (equal i j b.0) ∙ ap (λ r. j ∷ r) (path_is p q b.1)

path_same : (p : List ℕ) → same_path p p ≡ true
unfolding same_path
path_same [] = refl
path_same (i ∷ p) = and_true (nat_eq i i) (same_path p p) (same i) (path_same p)

name_is : (a b : NameAt) → same_name_at a b ≡ true → a ≡ b
name_is a b h =
    let c = both (same_path a.path b.path) (nat_eq a.name b.name) h in
    ap (λ p. name_at p a.name) (path_is a.path b.path c.0) ∙ ap (λ x. name_at b.path x) (equal a.name b.name c.1)

name_same : (a : NameAt) → same_name_at a a ≡ true
name_same a = and_true (same_path a.path a.path) (nat_eq a.name a.name) (path_same a.path) (same a.name)

pub use_is : (a b : Used) → same_use a b ≡ true → a ≡ b
use_is (UsedDefine a) (UsedDefine b) h = ap UsedDefine (name_is a b h)
use_is (UsedProcedure a) (UsedProcedure b) h = ap UsedProcedure (name_is a b h)
use_is (UsedInput a) (UsedInput b) h = ap UsedInput (name_is a b h)
use_is (UsedDefine a) (UsedProcedure b) h = nothing h
use_is (UsedDefine a) (UsedInput b) h = nothing h
use_is (UsedProcedure a) (UsedDefine b) h = nothing h
use_is (UsedProcedure a) (UsedInput b) h = nothing h
use_is (UsedInput a) (UsedDefine b) h = nothing h
use_is (UsedInput a) (UsedProcedure b) h = nothing h

pub use_same : (a : Used) → same_use a a ≡ true
use_same (UsedDefine a) = name_same a
use_same (UsedProcedure a) = name_same a
use_same (UsedInput a) = name_same a

-- ways of uses
pub goes : (system : System) (u v : Used) → Leads system u v → Goes (uses_of system) u v
goes system u v h = goes_by (uses_of system) same_use use_is use_same h.0 u v h.1

pub leads : (system : System) (u v : Used) → Goes (uses_of system) u v → Leads system u v
leads system u v w = (suc w.0, leads_by (uses_of system) same_use use_is use_same w.0 u v w.1)
