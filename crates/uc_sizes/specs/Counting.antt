-- The nodes of an expression: those of its text, and those of what it uses elsewhere.
use Rattle.std.specs.Prelude.{◌≡◌, ℕ, ◌+◌, List, [], ◌∷◌, map}
use Rattle.std.specs.Option.{option_and_then}
use Rattle.uc_syntax.specs.declared.expression.Expr.{Expr}
use Rattle.uc_syntax.specs.declared.expression.Expr.TheFolds.{fold-Expr}
use Rattle.uc_syntax.specs.declared.expression.Branch.{Branch}
use Rattle.uc_syntax.specs.declared.expression.Primary.{Primary}
use Rattle.uc_syntax.specs.declared.expression.Primary.TheVariants.{Name, Apply, OnBits, Old, Grouped}
use Rattle.uc_syntax.specs.declared.expression.Selection.{Selection}
use Rattle.uc_syntax.specs.declared.expression.Selection.TheVariants.{Element, Update}
use Rattle.uc_meaning.specs.Lookup.{System, module_at, define_of}
use Rattle.uc_order_rules.specs.Roots.{led, name_at}
use Rattle.uc_order_rules.specs.Mentions.{dotted}
use Rattle.uc_order_rules.specs.Sizes.{Elsewhere, total, name_nodes, body_nodes, on_bits_nodes, nodes_form}
use Rattle.uc_sizes.specs.declared.counted.Use.{Use}
use Rattle.uc_sizes.specs.declared.counted.Use.TheVariants.{Name as NameUsed, Applied}
use Rattle.uc_sizes.specs.declared.counted.Counted.{Counted}

-- Where an expression is counted: the path in a design, and how many nodes the expressions elsewhere have.
pub record Setting : Type 0 where
  pub system : System
  pub elsewhere : Elsewhere
  pub path : List ℕ

-- the nodes of an expression there
unfoldable pub nodes_in : Setting → Expr → ℕ
nodes_in c = fold-Expr ℕ (nodes_form c.system c.elsewhere c.path)

abbrev pub nodes_of_all : List Expr → Setting → ℕ
nodes_of_all es c = total (map (nodes_in c) es)

abbrev pub branch_nodes : Setting → Branch Expr → ℕ
branch_nodes c b = nodes_in c b.condition + nodes_in c b.value

abbrev pub selection_in : Setting → Selection Expr → ℕ
selection_in c (Element place i) = nodes_in c i
selection_in c (Update place i v) = nodes_in c i + nodes_in c v
selection_in c other = 0

-- what a primary with its selections has itself
abbrev pub primary_in : Setting → Primary Expr → List (Selection Expr) → ℕ
primary_in c (Name x primed) selections = name_nodes c.system c.elsewhere (led c.system c.path x (dotted selections))
primary_in c (Apply f arguments) selections =
    total (map (nodes_in c) arguments) + body_nodes c.elsewhere c.path (option_and_then (λ m. define_of m f) (module_at c.system c.path))
primary_in c (OnBits function arguments) selections = on_bits_nodes function (map (nodes_in c) arguments)
primary_in c (Old x) selections = name_nodes c.system c.elsewhere (name_at c.path x.name)
primary_in c (Grouped e) selections = nodes_in c e
primary_in c other selections = 0

-- all but the first
abbrev pub behind_first : List ℕ → ℕ
behind_first [] = 0
behind_first (n ∷ ns) = total ns

-- the nodes elsewhere that a use brings in
abbrev pub cost : Setting → Use → ℕ
cost c (NameUsed x selections) = name_nodes c.system c.elsewhere (led c.system c.path x (dotted selections.now))
cost c (Applied f) = body_nodes c.elsewhere c.path (option_and_then (λ m. define_of m f) (module_at c.system c.path))

abbrev pub costs : Setting → List Use → ℕ
costs c us = total (map (cost c) us)

-- the nodes that were counted with those that the uses bring in
abbrev pub weight : Setting → Counted → ℕ
weight c k = k.nodes + costs c k.uses

abbrev pub one_node : Setting → ℕ
one_node c = 1

-- the count grew by so many nodes, wherever they are counted
unfoldable pub Adds : Counted → Counted → (Setting → ℕ) → Type 0
Adds old new f = (c : Setting) → weight c new ≡ weight c old + f c
