-- What is found of expressions by their parts.
use Rattle.std.proofs.Common.{◌≡◌, ℕ, ◌+◌, ◌<◌, ◌≤◌, Bool, true, false, List, [], ◌∷◌, length, map, take, get_or, refl, ap, sym, ◌∙◌, subst}
use Rattle.std.specs.Prelude.{◌||◌}
use Rattle.std.specs.List.{list_any}
use Rattle.std.proofs.lemmas.List.{take_all}
use Rattle.uc_lexer.specs.declared.place.Place.{Place}
use Rattle.uc_syntax.specs.declared.expression.Expr.{Expr}
use Rattle.uc_syntax.specs.declared.expression.Branch.{Branch}
use Rattle.uc_syntax.specs.declared.expression.Comparison.{Comparison}
use Rattle.uc_syntax.specs.declared.expression.UnaryOperator.{UnaryOperator}
use Rattle.uc_syntax.specs.declared.expression.Primary.{Primary}
use Rattle.uc_syntax.specs.declared.expression.Selection.{Selection}
use Rattle.uc_syntax.specs.declared.expression.Expr.TheViews.{If, Compare, Unary, Selected}
use Rattle.uc_syntax.specs.declared.declaration.Module.{Module}
use Rattle.uc_meaning.specs.Lookup.{System}
use Rattle.uc_rules.specs.Reads.{reads_by}
use Rattle.uc_cycles.specs.declared.found.Found.{Found}
use Rattle.uc_cycles.specs.Found.{Adds, branch_by, primary_by, reads_found, selection_by}
use Rattle.uc_cycles.proofs.Tests.{any_more, or_assoc, or_none}
use Rattle.uc_cycles.proofs.DefineReadsForms.{reads_compare, reads_if, reads_selected, reads_unary}

abbrev Part : Type 0
Part = (ℕ → Bool) → Bool

-- the same part by another equation
pub adds_by : (a b : Found) (p q : Part) → ((by : ℕ → Bool) → q by ≡ p by) → Adds a b p → Adds a b q
adds_by a b p q e h by = h by ∙ ap (λ z. reads_found by a || z) (sym (e by))

pub adds_none : (a : Found) → Adds a a (λ by. false)
adds_none a by = sym (or_none (reads_found by a))

pub adds_two : (a b c : Found) (p q : Part) → Adds a b p → Adds b c q → Adds a c (λ by. p by || q by)
adds_two a b c p q h k by = k by ∙ ap (λ z. z || q by) (h by) ∙ or_assoc (reads_found by a) (p by) (q by)

-- one more of a list
pub adds_more : {A : Type 0} (f : (ℕ → Bool) → A → Bool) (xs : List A) (k : ℕ) (d : A) (a b c : Found) → k < length xs → Adds a b (λ by. list_any (f by) (take k xs)) → Adds b c (λ by. f by (get_or xs k d)) →
    Adds a c (λ by. list_any (f by) (take (k + 1) xs))
adds_more f xs k d a b c within h g =
    adds_by a c (λ by. list_any (f by) (take k xs) || f by (get_or xs k d)) (λ by. list_any (f by) (take (k + 1) xs)) (λ by. any_more (f by) xs k d within)
    (adds_two a b c (λ by. list_any (f by) (take k xs)) (λ by. f by (get_or xs k d)) h g)

pub adds_end : {A : Type 0} (f : (ℕ → Bool) → A → Bool) (xs : List A) (k : ℕ) (a b : Found) → length xs ≤ k → Adds a b (λ by. list_any (f by) (take k xs)) → Adds a b (λ by. list_any (f by) xs)
adds_end f xs k a b past h = adds_by a b (λ by. list_any (f by) (take k xs)) (λ by. list_any (f by) xs) (λ by. ap (list_any (f by)) (sym (take_all k xs past))) h

module _ (system : System) (m : Module) (bound : List ℕ) where
  abbrev reads : (ℕ → Bool) → Expr → Bool
  reads by = reads_by system m bound by

  -- a chain of operands
  pub chain_adds : (e given : Expr) (es : List Expr) (a b : Found) → e ≡ given → ((by : ℕ → Bool) → reads by given ≡ list_any (reads by) es) → Adds a b (λ by. list_any (reads by) es) → Adds a b (λ by. reads by e)
  chain_adds e given es a b is eq h = adds_by a b (λ by. list_any (reads by) es) (λ by. reads by e) (λ by. ap (reads by) is ∙ eq by) h

  pub if_adds : (e : Expr) (place : Place) (bs lent : List (Branch Expr)) (otherwise x : Expr) (a b c : Found) → e ≡ If place bs otherwise → lent ≡ bs → x ≡ otherwise →
      Adds a b (λ by. list_any (branch_by (reads by)) lent) → Adds b c (λ by. reads by x) → Adds a c (λ by. reads by e)
  if_adds e place bs lent otherwise x a b c is l o h k =
      adds_by a c (λ by. list_any (branch_by (reads by)) lent || reads by x) (λ by. reads by e)
      (λ by. ap (reads by) is ∙ reads_if system m bound by place bs otherwise ∙ ap (λ z. list_any (branch_by (reads by)) z || reads by otherwise) (sym l) ∙ ap (λ z. list_any (branch_by (reads by)) lent || reads by z) (sym o))
      (adds_two a b c (λ by. list_any (branch_by (reads by)) lent) (λ by. reads by x) h k)

  pub compare_adds : (e : Expr) (place : Place) (how : Comparison) (mark : Place) (left right x y : Expr) (a b c : Found) → e ≡ Compare place how mark left right → x ≡ left → y ≡ right →
      Adds a b (λ by. reads by x) → Adds b c (λ by. reads by y) → Adds a c (λ by. reads by e)
  compare_adds e place how mark left right x y a b c is l r h k =
      adds_by a c (λ by. reads by x || reads by y) (λ by. reads by e)
      (λ by. ap (reads by) is ∙ reads_compare system m bound by place how mark left right ∙ ap (λ z. reads by z || reads by right) (sym l) ∙ ap (λ z. reads by x || reads by z) (sym r))
      (adds_two a b c (λ by. reads by x) (λ by. reads by y) h k)

  pub unary_adds : (e : Expr) (place : Place) (operator : UnaryOperator) (inner x : Expr) (a b : Found) → e ≡ Unary place operator inner → x ≡ inner → Adds a b (λ by. reads by x) → Adds a b (λ by. reads by e)
  unary_adds e place operator inner x a b is i h =
      adds_by a b (λ by. reads by x) (λ by. reads by e) (λ by. ap (reads by) is ∙ reads_unary system m bound by place operator inner ∙ ap (reads by) (sym i)) h

  pub selected_adds : (e : Expr) (place : Place) (p q : Primary Expr) (ss : List (Selection Expr)) (a b c : Found) → e ≡ Selected place p ss → p ≡ q →
      Adds a b (λ by. primary_by system m bound by (reads by) q) → Adds b c (λ by. list_any (selection_by (reads by)) ss) → Adds a c (λ by. reads by e)
  selected_adds e place p q ss a b c is same h k =
      adds_by a c (λ by. primary_by system m bound by (reads by) q || list_any (selection_by (reads by)) ss) (λ by. reads by e)
      (λ by. ap (reads by) is ∙ reads_selected system m bound by place p ss ∙ ap (λ z. primary_by system m bound by (reads by) z || list_any (selection_by (reads by)) ss) same)
      (adds_two a b c (λ by. primary_by system m bound by (reads by) q) (λ by. list_any (selection_by (reads by)) ss) h k)

  -- two parts of one of a list
  pub branch_adds : (b lent : Branch Expr) (f g h : Found) → b ≡ lent → Adds f g (λ by. reads by lent.condition) → Adds g h (λ by. reads by lent.value) → Adds f h (λ by. branch_by (reads by) b)
  branch_adds b lent f g h is k l =
      adds_by f h (λ by. reads by lent.condition || reads by lent.value) (λ by. branch_by (reads by) b) (λ by. ap (branch_by (reads by)) is)
      (adds_two f g h (λ by. reads by lent.condition) (λ by. reads by lent.value) k l)

  pub selection_adds : (s given : Selection Expr) (a b : Found) → s ≡ given → Adds a b (λ by. selection_by (reads by) given) → Adds a b (λ by. selection_by (reads by) s)
  selection_adds s given a b is h = adds_by a b (λ by. selection_by (reads by) given) (λ by. selection_by (reads by) s) (λ by. ap (selection_by (reads by)) is) h
