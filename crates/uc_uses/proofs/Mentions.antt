-- What is mentioned, as lists grow.
use Rattle.std.proofs.Common.{◌≡◌, List, [], ◌++◌, ap, sym, ◌∙◌}
use Rattle.std.specs.List.{flat_map}
use Rattle.std.specs.Borrow.{Bor}
use Rattle.std.proofs.lemmas.Grind.{flat_map-append}
use Rattle.uc_syntax.specs.declared.expression.Expr.{Expr}
use Rattle.uc_syntax.specs.declared.declaration.Procedure.{Procedure as ProcedureParts}
use Rattle.uc_syntax.proofs.Labels.{flat_map_map}
use Rattle.uc_order_rules.specs.Mentions.{Mention, mentions, expressions_in}
use Rattle.uc_order_rules.specs.Uses.{clause_expressions}
use Rattle.uc_uses.specs.declared.mentioned_names.Mentioned.{Mentioned}
use Rattle.uc_uses.specs.Lent.{lent}
use Rattle.uc_uses.specs.Meant.{meant, mention_meant}
use Rattle.uc_uses.specs.Resolving.{mentions_in}

pub mentions_lent : (es : List (Bor Expr)) → flat_map (λ (e : Bor Expr). mentions e.now) es ≡ flat_map mentions (lent es)
unfolding lent
mentions_lent es = sym (flat_map_map mentions (λ (e : Bor Expr). e.now) es)

pub whole_procedure : (q : ProcedureParts) (clauses_found all : List Mention) (es : List Expr) → clauses_found ≡ flat_map mentions (flat_map clause_expressions q.clauses) → es ≡ flat_map expressions_in q.body →
    all ≡ clauses_found ++ flat_map mentions es → all ≡ mentions_in q
unfolding mentions_in
whole_procedure q clauses_found all es first is second =
    second
    ∙ ap (λ ms. ms ++ flat_map mentions es) first
    ∙ ap (λ xs. flat_map mentions (flat_map clause_expressions q.clauses) ++ flat_map mentions xs) is
    ∙ sym (flat_map-append mentions (flat_map clause_expressions q.clauses) (flat_map expressions_in q.body))

pub begun : (old : List Mentioned) (ms : List Mention) → old ≡ [] → meant old ++ ms ≡ ms
unfolding meant
begun old ms none = ap (λ os. meant os ++ ms) none

-- what mentions that are lent by their meaning give
pub meant_flat : {A : Type 0} (f : Mention → List A) (ms : List Mentioned) → flat_map (λ m. f (mention_meant m)) ms ≡ flat_map f (meant ms)
unfolding meant
meant_flat f ms = sym (flat_map_map f mention_meant ms)
