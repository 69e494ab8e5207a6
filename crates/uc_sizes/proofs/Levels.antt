-- What an expression has at a level, by what it has in the text and what it uses.
use Rattle.std.proofs.Common.{◌≡◌, ℕ, zero, suc, ◌+◌, List, map, refl, ap, ◌∙◌, sym, arith}
use Rattle.uc_syntax.specs.declared.expression.Expr.{Expr}
use Rattle.uc_meaning.specs.Lookup.{System}
use Rattle.uc_order_rules.specs.Sizes.{nodes_through, plus, size}
use Rattle.uc_sizes.specs.declared.counted.Use.{Use}
use Rattle.uc_sizes.specs.declared.counted.Counted.{Counted}
use Rattle.uc_sizes.specs.Counting.{Adds, Setting, costs, nodes_in, weight}
use Rattle.uc_sizes.specs.Spending.{at_level}

pub no_level : (n : ℕ) (s : System) (path : List ℕ) (e : Expr) → n ≡ 0 → size 0 (nodes_through n s path e) ≡ size 0 0
unfolding nodes_through
no_level n s path e is = ap (λ m. size 0 (nodes_through m s path e)) is

pub level_is : (n m : ℕ) (s : System) (path : List ℕ) (e : Expr) (w : ℕ) → n ≡ suc m → w ≡ nodes_in (at_level s m path) e → size 0 (nodes_through n s path e) ≡ size 0 w
unfolding nodes_through nodes_in
level_is n m s path e w is same = ap (λ k. size 0 (nodes_through k s path e)) is ∙ ap (size 0) (sym same)

pub from_none : (c : Setting) (old new : Counted) (f : Setting → ℕ) → Adds old new f → weight c old ≡ 0 → weight c new ≡ f c
unfolding Adds
from_none c old new f adds none = let x = adds c in omega (arith, x, none)

pub counted_is : (c : Setting) (k : Counted) (n : ℕ) (shown : List Use) → n ≡ k.nodes → shown ≡ k.uses → size 0 (weight c k) ≡ plus (size 0 n) (size 0 (costs c shown))
counted_is c k n shown nodes uses = (λ i. size 0 (sym nodes i + costs c (sym uses i)))
