-- Names that are written, and names that are read primed.
use Rattle.std.proofs.Common.{◌≡◌, ℕ, ◌+◌, ◌<◌, ◌≤◌, true, false, List, [], ◌∷◌, ◌++◌, length, take, map, get_or, Option, Some, None, refl, ap, sym, ◌∙◌, append_assoc}
use Rattle.std.specs.Borrow.{Bor}
use Rattle.std.specs.List.{flat_map}
use Rattle.std.proofs.lemmas.List.{take_all, take_more}
use Rattle.std.proofs.lemmas.Grind.{flat_map-append}
use Rattle.uc_syntax.specs.declared.expression.Expr.{Expr}
use Rattle.uc_syntax.specs.declared.declaration.Decl.{Decl}
use Rattle.uc_syntax.specs.declared.declaration.Procedure.{Procedure as ProcedureParts}
use Rattle.uc_syntax.proofs.Added.{AddedUpTo, append_nil}
use Rattle.uc_syntax.proofs.Labels.{flat_flat, flat_map_map}
use Rattle.uc_meaning.specs.Lookup.{first_some, or_else, procedure_in}
use Rattle.uc_names.specs.declared.firsts.Firsts.{Firsts}
use Rattle.uc_order_rules.specs.Mentions.{Mention, Reads, Applies, ReadsOld, mentions}
use Rattle.uc_order_rules.specs.Roots.{name_at}
use Rattle.uc_order_rules.specs.Reads.{cells_primed, cells_read, name_reads, primed_reads}
use Rattle.uc_order_rules.specs.Dependence.{primed_in}
use Rattle.uc_uses.specs.declared.mentioned_names.Mentioned.{Mentioned}
use Rattle.uc_uses.specs.Lent.{lent}
use Rattle.uc_uses.specs.Meant.{meant, mention_meant}
use Rattle.uc_step_cycles.specs.Procedures.{KnowsProcedures, procedure_by}
use Rattle.uc_step_cycles.specs.Acts.{Setting, cells_of_primed, primed_name, primed_names}

-- a list of single things
pub singles : {A B : Type 0} (f : A → B) (xs : List A) → flat_map (λ x. f x ∷ []) xs ≡ map f xs
singles f [] = refl
singles f (x ∷ xs) = ap (λ ys. f x ∷ ys) (singles f xs)

-- an element that is read with a value that stands for what isn't there
pub read_more : {X A : Type 0} (f : X → List A) (xs : List X) (before now after : List A) (k : ℕ) (d : X) → AddedUpTo f xs before k now → k < length xs → after ≡ now ++ f (get_or xs k d) → AddedUpTo f xs before (k + 1) after
read_more f xs before now after k d so_far within e = record {
  is = e
      ∙ ap (λ ys. ys ++ f (get_or xs k d)) so_far.is
      ∙ append_assoc before (flat_map f (take k xs)) (f (get_or xs k d))
      ∙ ap (λ ys. before ++ ys) (sym (ap (flat_map f) (take_more xs k d within) ∙ flat_map-append f (take k xs) (get_or xs k d ∷ []) ∙ ap (λ ys. flat_map f (take k xs) ++ ys) (append_nil (f (get_or xs k d)))));
}

pub whole_is : {A : Type 0} (none now all : List A) → none ≡ [] → now ≡ none ++ all → now ≡ all
whole_is none now all is grown = grown ∙ ap (λ xs. xs ++ all) is

pub joined_names : (es : List Expr) → flat_map (λ e. primed_names (e ∷ [])) es ≡ primed_names es
unfolding primed_names
joined_names [] = refl
joined_names (e ∷ es) =
    (λ k. flat_map primed_name (append_nil (mentions e) k) ++ joined_names es k) ∙ sym (flat_map-append primed_name (mentions e) (flat_map mentions es))

pub lent_names : (es : List (Bor Expr)) → flat_map (λ (e : Bor Expr). primed_names (e.now ∷ [])) es ≡ primed_names (lent es)
unfolding lent
lent_names es = sym (flat_map_map (λ e. primed_names (e ∷ [])) (λ (e : Bor Expr). e.now) es) ∙ joined_names (map (λ (e : Bor Expr). e.now) es)

pub meant_names : (found : List Mentioned) → flat_map (λ m. primed_name (mention_meant m)) found ≡ flat_map primed_name (meant found)
unfolding meant
meant_names found = sym (flat_map_map primed_name mention_meant found)

pub expression_names : (e : Expr) (none found : List Mention) → none ≡ [] → found ≡ none ++ mentions e → flat_map primed_name found ≡ primed_names (e ∷ [])
unfolding primed_names
expression_names e none found is grown = ap (flat_map primed_name) (whole_is none found (mentions e) is grown ∙ sym (append_nil (mentions e)))

pub expression_found : (e : Expr) (none found shown : List Mentioned) → none ≡ [] → meant found ≡ meant none ++ mentions e → shown ≡ found → flat_map primed_name (meant shown) ≡ primed_names (e ∷ [])
unfolding meant
expression_found e none found shown is grown same = ap (λ ms. flat_map primed_name (meant ms)) same ∙ expression_names e (meant none) (meant found) (ap meant is) grown

pub all_lent : (none mid all shown : List (Bor Expr)) (a b : List Expr) → none ≡ [] → lent mid ≡ lent none ++ a → lent all ≡ lent mid ++ b → shown ≡ all → primed_names (lent shown) ≡ primed_names (a ++ b)
unfolding lent
all_lent none mid all shown a b is first second same = ap (λ es. primed_names (lent es)) same ∙ ap primed_names (second ∙ ap (λ es. es ++ b) (first ∙ ap (λ es. lent es ++ a) is))

-- ---- the cells that names read primed

module _ (s : Setting) where
  abbrev reads_of : ℕ → List ℕ
  reads_of x = name_reads s.system (cells_read s.system) (name_at s.path x)

  mention_cells : (m : Mention) → flat_map reads_of (primed_name m) ≡ primed_reads s.system s.path m
  mention_cells (Reads x true ys) = append_nil (reads_of x)
  mention_cells (Reads x false ys) = refl
  mention_cells (Applies f) = refl
  mention_cells (ReadsOld x) = refl

  mentions_cells : (ms : List Mention) → flat_map reads_of (flat_map primed_name ms) ≡ flat_map (primed_reads s.system s.path) ms
  mentions_cells [] = refl
  mentions_cells (m ∷ ms) = flat_map-append reads_of (primed_name m) (flat_map primed_name ms) ∙ (λ k. mention_cells m k ++ mentions_cells ms k)

  pub cells_are : (es : List Expr) → cells_of_primed s (primed_names es) ≡ primed_in s.system s.path es
  unfolding cells_of_primed primed_names
  cells_are es = mentions_cells (flat_map mentions es) ∙ flat_flat (primed_reads s.system s.path) mentions es

  pub condition_cells : (e : Expr) → cells_of_primed s (primed_names (e ∷ [])) ≡ cells_primed s.system s.path e
  condition_cells e = cells_are (e ∷ []) ∙ append_nil (cells_primed s.system s.path e)

-- ---- the procedures of a table

first_push : {A B : Type 0} (f : A → Option B) (xs : List A) (x : A) → first_some f (xs ++ x ∷ []) ≡ or_else (first_some f xs) (f x)
unfolding first_some
first_push {B = B} f [] x = last (f x)
  where
    last : (o : Option B) → or_else o None ≡ o
    last None = refl
    last (Some y) = refl
first_push {B = B} f (y ∷ xs) x = ap (or_else (f y)) (first_push f xs x) ∙ regroup (f y) (first_some f xs) (f x)
  where
    regroup : (o p q : Option B) → or_else o (or_else p q) ≡ or_else (or_else o p) q
    regroup None p q = refl
    regroup (Some z) p q = refl

pub procedures_begin : (ds : List Decl) (t : Firsts (Bor ProcedureParts)) → ((f : ℕ) → procedure_by t f ≡ None) → KnowsProcedures (take 0 ds) t
unfolding KnowsProcedures first_some
procedures_begin ds t none f = none f

pub procedures_more : (ds : List Decl) (t u : Firsts (Bor ProcedureParts)) (k : ℕ) (d e : Decl) → KnowsProcedures (take k ds) t → k < length ds → d ≡ get_or ds k e →
    ((f : ℕ) → procedure_by u f ≡ or_else (procedure_by t f) (procedure_in f d)) → KnowsProcedures (take (k + 1) ds) u
unfolding KnowsProcedures
procedures_more ds t u k d e held within at entered f =
    entered f ∙ ap (λ o. or_else o (procedure_in f d)) (held f) ∙ sym (first_push (procedure_in f) (take k ds) d)
    ∙ sym (ap (first_some (procedure_in f)) (take_more ds k e within ∙ ap (λ y. take k ds ++ y ∷ []) (sym at)))

pub procedures_end : (ds : List Decl) (t : Firsts (Bor ProcedureParts)) (k : ℕ) → KnowsProcedures (take k ds) t → length ds ≤ k → KnowsProcedures ds t
unfolding KnowsProcedures
procedures_end ds t k held past f = held f ∙ ap (first_some (procedure_in f)) (take_all k ds past)
