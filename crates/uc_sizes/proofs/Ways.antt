-- Where names lead, step by step.
use Rattle.std.proofs.Common.{◌≡◌, ℕ, ◌+◌, ◌<◌, ◌≤◌, Bool, true, false, List, [], ◌∷◌, ◌++◌, length, drop, take, get_or, Option, Some, None, refl, ap, ◌∙◌, sym}
use Rattle.std.specs.Prelude.{cond, ◌&&◌, if◌then◌else◌}
use Rattle.std.specs.Option.{is_some, option_and_then, option_map, option_copied}
use Rattle.std.specs.Borrow.{Bor}
use Rattle.std.proofs.lemmas.List.{drop_all}
use Rattle.uc_syntax.specs.declared.expression.Expr.{Expr}
use Rattle.uc_syntax.specs.declared.expression.Selection.{Selection}
use Rattle.uc_syntax.specs.declared.expression.Selection.TheVariants.{Field, Copy, Element, Update, Extract}
use Rattle.uc_rules.proofs.Lists.{drop_turn}
use Rattle.uc_meaning.specs.Lookup.{Defined, System}
use Rattle.uc_meaning.specs.Expressions.{binding_of}
use Rattle.uc_order_rules.specs.Roots.{NameAt, instance_named_at, is_bound_input, led, name_at}
use Rattle.uc_order_rules.specs.Mentions.{dotted}
use Rattle.uc_order_rules.specs.Sizes.{Elsewhere, binding_nodes, body_nodes, name_nodes, size}
use Rattle.uc_sizes.specs.Spending.{field_of}

name_or : Option ℕ → ℕ → ℕ
name_or (Some y) d = y
name_or None d = d

on_field : (s : Selection Expr) (ss : List (Selection Expr)) (x : ℕ) → field_of s ≡ Some x → dotted (s ∷ ss) ≡ x ∷ dotted ss
unfolding dotted name_or
on_field (Field p i) ss x h = ap (λ o. name_or o i.name ∷ dotted ss) h
on_field (Copy p n) ss x h = absurd cc
on_field (Element p e) ss x h = absurd cc
on_field (Update p e v) ss x h = absurd cc
on_field (Extract p a b) ss x h = absurd cc

on_other : (s : Selection Expr) (ss : List (Selection Expr)) → field_of s ≡ None → dotted (s ∷ ss) ≡ []
unfolding dotted
on_other (Field p i) ss h = absurd cc
on_other (Copy p n) ss h = refl
on_other (Element p e) ss h = refl
on_other (Update p e v) ss h = refl
on_other (Extract p a b) ss h = refl

module _ (s : System) (ss : List (Selection Expr)) (k : ℕ) (there : List ℕ) (last : ℕ) (sel d : Selection Expr) (o : Option ℕ) (whole : NameAt)
    (held : led s there last (dotted (drop k ss)) ≡ whole) (within : k < length ss) (at : sel ≡ get_or ss k d) (o-is : o ≡ field_of sel) where
  pub led_more : (inner : ℕ) (b : Bool) (there' : List ℕ) → o ≡ Some inner → b ≡ is_some (instance_named_at s there last) → b ≡ true → there' ≡ there ++ last ∷ [] → led s there' inner (dotted (drop (k + 1) ss)) ≡ whole
  unfolding led
  led_more inner b there' some b-is hit is =
      ap (λ p. led s p inner (dotted (drop (k + 1) ss))) is
      ∙ sym (ap (λ c. cond c (led s (there ++ last ∷ []) inner (dotted (drop (k + 1) ss))) (name_at there last)) (sym b-is ∙ hit))
      ∙ sym (ap (led s there last) (ap dotted (drop_turn ss k sel d within at) ∙ on_field sel (drop (k + 1) ss) inner (sym o-is ∙ some)))
      ∙ held

  pub led_field : (inner : ℕ) (b : Bool) → o ≡ Some inner → b ≡ is_some (instance_named_at s there last) → b ≡ false → name_at there last ≡ whole
  unfolding led
  led_field inner b some b-is away =
      sym (ap (λ c. cond c (led s (there ++ last ∷ []) inner (dotted (drop (k + 1) ss))) (name_at there last)) (sym b-is ∙ away))
      ∙ sym (ap (led s there last) (ap dotted (drop_turn ss k sel d within at) ∙ on_field sel (drop (k + 1) ss) inner (sym o-is ∙ some)))
      ∙ held

  pub led_other : o ≡ None → name_at there last ≡ whole
  unfolding led
  led_other none = sym (ap (led s there last) (ap dotted (drop_turn ss k sel d within at) ∙ on_other sel (drop (k + 1) ss) (sym o-is ∙ none))) ∙ held

pub led_end : (s : System) (ss : List (Selection Expr)) (k : ℕ) (there : List ℕ) (last : ℕ) (whole : NameAt) → led s there last (dotted (drop k ss)) ≡ whole → length ss ≤ k → name_at there last ≡ whole
unfolding led dotted
led_end s ss k there last whole held past = sym (ap (λ xs. led s there last (dotted xs)) (drop_all k ss past)) ∙ held

-- what is bound to a name has its nodes
bound_nodes : (elsewhere : Elsewhere) (b : Bool) (o : Option (List ℕ × Expr)) →
    (if b && is_some o then binding_nodes elsewhere o else 0) ≡ binding_nodes elsewhere (if b && is_some o then o else None)
bound_nodes elsewhere true (Some x) = refl
bound_nodes elsewhere true None = refl
bound_nodes elsewhere false o = refl

pub unbound : (s : System) (elsewhere : Elsewhere) (n : NameAt) (path shown : List ℕ) (name : ℕ) → name_at path name ≡ n → shown ≡ path →
    None ≡ (if is_bound_input s (name_at shown name) then binding_of s shown name else None) → size 0 (name_nodes s elsewhere n) ≡ size 0 0
unbound s elsewhere n path shown name is same none =
    ap (λ m. size 0 (name_nodes s elsewhere m)) (sym is ∙ ap (λ p. name_at p name) (sym same))
    ∙ ap (size 0) (bound_nodes elsewhere _ (binding_of s shown name))
    ∙ ap (λ o. size 0 (binding_nodes elsewhere o)) (sym none)

pub no_body : (elsewhere : Elsewhere) (path : List ℕ) (o : Option Defined) → None ≡ option_map (λ d. d.body) o → size 0 (body_nodes elsewhere path o) ≡ size 0 0
no_body elsewhere path None h = refl
no_body elsewhere path (Some d) h = absurd cc
