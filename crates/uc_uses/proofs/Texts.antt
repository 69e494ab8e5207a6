-- The texts of uses that have numbers.
use Rattle.std.proofs.Common.{◌≡◌, ℕ, zero, suc, ◌<◌, Bool, true, false, List, [], ◌∷◌, ◌++◌, Option, Some, None, refl, ap, sym, subst, ◌∙◌, ⊎_elim, arith}
use Rattle.std.specs.Prelude.{slice_get, is_some, ◌&&◌, if◌then◌else◌}
use Rattle.std.specs.Option.{option_and_then, option_map}
use Rattle.uc_syntax.specs.declared.expression.Expr.{Expr}
use Rattle.uc_syntax.specs.declared.declaration.Procedure.{Procedure as ProcedureParts}
use Rattle.uc_syntax.specs.declared.declaration.Module.{Module}
use Rattle.uc_meaning.specs.Lookup.{System, Defined, InstanceParts, bound_to, define_in, define_of, first_some, instance_of, is_named, main_module, module_at, parent_of, procedure_in, procedure_of, some_if, variable_of}
use Rattle.uc_meaning.specs.Expressions.{binding_of, binding_from}
use Rattle.uc_order_rules.specs.Roots.{NameAt, name_at, is_bound_input, is_input}
use Rattle.uc_order_rules.specs.Uses.{Used, UsedDefine, UsedProcedure, UsedInput, binding_uses, body_uses, expression_uses, procedure_uses, uses_of}
use Rattle.uc_uses.specs.declared.tree.Step.{Step}
use Rattle.uc_uses.specs.declared.tree.Node.{Node}
use Rattle.uc_uses.specs.declared.tree.InstanceTree.{InstanceTree}
use Rattle.uc_uses.specs.Trees.{IsBelow, IsFirst, IsInstanceIn, IsNodeOf, IsTree, code_at, instance_at, joined, node_at, node_from}
use Rattle.uc_uses.specs.PathLaw.{NodesHavePaths}
use Rattle.uc_uses.proofs.Lists.{none_some, some_same}
use Rattle.uc_uses.proofs.Paths.{trees_have_paths}
use Rattle.uc_uses.specs.declared.uses.UseKind.{UseKind}
use Rattle.uc_uses.specs.declared.uses.UseKind.TheVariants.{Define, Procedure, Input}
use Rattle.uc_uses.specs.declared.uses.UseName.{UseName}
use Rattle.uc_uses.specs.declared.uses.NumberedUse.{NumberedUse}
use Rattle.uc_uses.specs.declared.table.UseTable.{UseTable}
use Rattle.uc_uses.specs.Sources.{SourceMeant, OfExpression, OfProcedure, bound_below, declared_source, source_in, source_meant}
use Rattle.uc_uses.specs.Tables.{HasSource, KnowsUses, number, source_at, use_name}
use Rattle.uc_uses.proofs.Firsts.{first_map}
use Rattle.uc_uses.specs.Numbers.{number_of, numbered}

nothing : {A : Type 0} → false ≡ true → A
nothing h = cc

get_earlier : {A : Type 0} (xs : List A) (j k : ℕ) (x : A) → slice_get xs k ≡ Some x → j < k → (y : A) × (slice_get xs j ≡ Some y)
get_earlier [] j zero x h l = none_some x h
get_earlier [] j (suc k) x h l = none_some x h
get_earlier (z ∷ xs) j zero x h l = absurd (omega (arith, l))
get_earlier (z ∷ xs) zero (suc k) x h l = (z, refl)
get_earlier (z ∷ xs) (suc j) (suc k) x h l = get_earlier xs j k x h (omega (arith, l))

parent_push : (q : List ℕ) (i : ℕ) → parent_of (q ++ i ∷ []) ≡ Some (q, i)
unfolding parent_of
parent_push [] i = refl
parent_push (a ∷ []) i = refl
parent_push (a ∷ (b ∷ q)) i = ap (option_map (λ (p : List ℕ × ℕ). (a ∷ p.0, p.1))) (parent_push (b ∷ q) i)

no_parent : parent_of [] ≡ None
unfolding parent_of
no_parent = refl

has_some : (uses : List NumberedUse) (name : UseName) (o : Option ℕ) (s : Option SourceMeant) → HasSource uses name o s → is_some o ≡ is_some s
has_some uses name None None h = refl
has_some uses name None (Some s) h = absurd h
has_some uses name (Some i) None h = absurd h
has_some uses name (Some i) (Some s) h = refl

has_none : (uses : List NumberedUse) (name : UseName) (o : Option ℕ) (s : Option SourceMeant) → o ≡ None → HasSource uses name o s → s ≡ None
has_none uses name None None is h = refl
has_none uses name None (Some s) is h = absurd h
has_none uses name (Some i) s is h = cc

-- what stands under a number
pub record IsText (uses : List NumberedUse) (name : UseName) (i : ℕ) (s : Option SourceMeant) : Type 0 where
  pub numbered_use : NumberedUse
  pub at : slice_get uses i ≡ Some numbered_use
  pub owner : numbered_use.owner ≡ name
  pub source : s ≡ Some (source_meant numbered_use.source)

has_text : (uses : List NumberedUse) (name : UseName) (i : ℕ) (o : Option ℕ) (s : Option SourceMeant) → o ≡ Some i → HasSource uses name o s → IsText uses name i s
has_text uses name i None s is h = none_some i is
has_text uses name i (Some j) None is h = absurd h
has_text uses name i (Some j) (Some s) is h = record { numbered_use = h.0; at = ap (slice_get uses) (sym (some_same j i is)) ∙ h.1; owner = h.2; source = ap (λ q. Some q) (sym h.3) }

below_some : (system : System) (nodes : List Node) (j : ℕ) (o : Option (Option ℕ)) (i : Option InstanceParts) → o ≡ Some (Some j) → IsBelow system nodes o i → (p : InstanceParts) × (i ≡ Some p) × IsNodeOf system nodes j p
below_some system nodes j None i is h = none_some (Some j) is
below_some system nodes j (Some None) i is h = none_some j (some_same None (Some j) is)
below_some system nodes j (Some (Some k)) None is h = absurd h
below_some system nodes j (Some (Some k)) (Some p) is h = (p, refl, subst (λ n. IsNodeOf system nodes n p) (some_same k j (some_same (Some k) (Some j) is)) h)

define_is : (k x : ℕ) (m : Module) → declared_source Define k m.decls x ≡ option_map (λ d. OfExpression k d.body) (define_of m x)
unfolding declared_source
define_is k x m = first_map (λ (d : Defined). OfExpression k d.body) (define_in x) m.decls

procedure_is : (k x : ℕ) (m : Module) → declared_source Procedure k m.decls x ≡ option_map (OfProcedure k) (procedure_of m x)
unfolding declared_source
procedure_is k x m = first_map (OfProcedure k) (procedure_in x) m.decls

module _ (system : System) (m : Module) (t : InstanceTree) (main : main_module system ≡ Some m) (tree : IsTree system t) where
  pub paths : NodesHavePaths system t
  paths = trees_have_paths system t m main tree

  pub code_there : (path : List ℕ) (k : ℕ) (n : Node) → node_at t path ≡ Some k → slice_get t.nodes k ≡ Some n → module_at system path ≡ Some n.code.now
  code_there path k n to at = sym (paths.codes path) ∙ ap (option_and_then (code_at t)) to ∙ ap (option_map (λ (q : Node). q.code.now)) at

  no_code : (path : List ℕ) → node_at t path ≡ None → module_at system path ≡ None
  no_code path to = sym (paths.codes path) ∙ ap (option_and_then (code_at t)) to

  no_node : (path : List ℕ) (k : ℕ) → node_at t path ≡ Some k → slice_get t.nodes k ≡ None → module_at system path ≡ None
  no_node path k to at = sym (paths.codes path) ∙ ap (option_and_then (code_at t)) to ∙ ap (option_map (λ (q : Node). q.code.now)) at

  abbrev bound_in : Node → ℕ → Option Expr
  bound_in n x = first_some (λ b. some_if (is_named x b.identifier) b.expression) n.bindings.now

  -- the node above one, with what it binds
  record IsBound (path : List ℕ) (n : Node) (s : Step) : Type 0 where
    pub parent : List ℕ
    pub to : node_at t parent ≡ Some s.node
    pub upper : Node
    pub at : slice_get t.nodes s.node ≡ Some upper
    pub binds : (x : ℕ) → binding_of system path x ≡ option_map (λ e. (parent, e)) (bound_in n x)

  bound_at : (path : List ℕ) (k : ℕ) (n : Node) → node_at t path ≡ Some k → slice_get t.nodes k ≡ Some n → (i : IsInstanceIn t k n) → IsBound path n i.above
  bound_at path k n to at i =
      let less = i.before in
      let up = get_earlier t.nodes i.above.node k n at less in
      let q = paths.reached i.above.node up.0.code.now (ap (option_map (λ (r : Node). r.code.now)) up.1) in
      let further : node_at t (q.0 ++ i.above.name ∷ []) ≡ Some k = paths.last q.0 i.above.name ∙ ap (option_and_then (λ j. joined (instance_at t j i.above.name))) q.1 ∙ ap joined i.leads in
      let same_path : path ≡ q.0 ++ i.above.name ∷ [] = paths.alone path (q.0 ++ i.above.name ∷ []) k n.code.now (ap (option_map (λ (r : Node). r.code.now)) at) to further in
      let b = below_some system t.nodes k (instance_at t i.above.node i.above.name) (instance_of up.0.code.now i.above.name) i.leads (tree.below i.above.node i.above.name up.0.code.now (ap (option_map (λ (r : Node). r.code.now)) up.1)) in
      let same_node : b.2.0 ≡ n = some_same b.2.0 n (sym b.2.1 ∙ at) in
      record {
        parent = q.0;
        to = q.1;
        upper = up.0;
        at = up.1;
        binds = λ x.
            ap (λ p. binding_from system x (parent_of p)) same_path
            ∙ ap (binding_from system x) (parent_push q.0 i.above.name)
            ∙ ap (λ o. option_map (λ (e : Expr). (q.0, e)) (option_and_then (λ (p : InstanceParts). bound_to p x) (option_and_then (λ (c : Module). instance_of c i.above.name) o))) (code_there q.0 i.above.node up.0 q.1 up.1)
            ∙ ap (λ o. option_map (λ (e : Expr). (q.0, e)) (option_and_then (λ (p : InstanceParts). bound_to p x) o)) b.1
            ∙ ap (λ bs. option_map (λ (e : Expr). (q.0, e)) (first_some (λ c. some_if (is_named x c.identifier) c.expression) bs)) (sym b.2.3 ∙ ap (λ (r : Node). r.bindings.now) same_node);
      }

  first_path : (path : List ℕ) (k : ℕ) (n : Node) → node_at t path ≡ Some k → slice_get t.nodes k ≡ Some n → IsFirst k n → path ≡ []
  unfolding node_from
  first_path path k n to at f = paths.alone path [] k n.code.now (ap (option_map (λ (q : Node). q.code.now)) at) to (ap (λ j. Some j) (sym f.first))

  module _ (u : UseTable) (knows : KnowsUses t u) where
    at_node : (kind : UseKind) (k x : ℕ) (n : Node) → slice_get t.nodes k ≡ Some n → source_at t (use_name kind k x) ≡ source_in kind k n x
    at_node kind k x n at = ap (option_and_then (λ q. source_in kind k q x)) at

    some_source : (kind : UseKind) (k x : ℕ) (n : Node) → slice_get t.nodes k ≡ Some n → is_some (number u (use_name kind k x)) ≡ is_some (source_in kind k n x)
    some_source kind k x n at = has_some u.uses (use_name kind k x) (number u (use_name kind k x)) (source_at t (use_name kind k x)) (knows.sources (use_name kind k x)) ∙ ap is_some (at_node kind k x n at)

    pub no_source : (kind : UseKind) (k x : ℕ) (n : Node) → slice_get t.nodes k ≡ Some n → number u (use_name kind k x) ≡ None → source_in kind k n x ≡ None
    no_source kind k x n at none = sym (at_node kind k x n at) ∙ has_none u.uses (use_name kind k x) (number u (use_name kind k x)) (source_at t (use_name kind k x)) none (knows.sources (use_name kind k x))

    pub text : (kind : UseKind) (k x i : ℕ) → number u (use_name kind k x) ≡ Some i → IsText u.uses (use_name kind k x) i (source_at t (use_name kind k x))
    text kind k x i is = has_text u.uses (use_name kind k x) i (number u (use_name kind k x)) (source_at t (use_name kind k x)) is (knows.sources (use_name kind k x))

    -- a node of a use
    pub node_of : (kind : UseKind) (k x i : ℕ) → number u (use_name kind k x) ≡ Some i → (n : Node) × (slice_get t.nodes k ≡ Some n)
    node_of kind k x i is = by (slice_get t.nodes k) refl (text kind k x i is)
      where
        by : (o : Option Node) → slice_get t.nodes k ≡ o → IsText u.uses (use_name kind k x) i (source_at t (use_name kind k x)) → (n : Node) × (slice_get t.nodes k ≡ Some n)
        by None e h = none_some (source_meant h.numbered_use.source) (sym (ap (option_and_then (λ q. source_in kind k q x)) e) ∙ h.source)
        by (Some n) e h = (n, e)

    -- ---- inputs

    abbrev unbound : (path : List ℕ) (x : ℕ) (o : Option Module) → Bool
    unbound path x o = is_input (option_and_then (λ c. variable_of c x) o) && is_some (binding_of system path x)

    no_flag : (b : Bool) → (b && false) ≡ false
    no_flag true = refl
    no_flag false = refl

    same_flag : (b : Bool) (k : ℕ) (q : List ℕ) (o : Option Expr) → is_some (if b then option_map (OfExpression k) o else None) ≡ (b && is_some {T = List ℕ × Expr} (option_map (λ (e : Expr). (q, e)) o))
    same_flag false k q o = refl
    same_flag true k q None = refl
    same_flag true k q (Some e) = refl

    input_at : (path : List ℕ) (x k : ℕ) (n : Node) → node_at t path ≡ Some k → slice_get t.nodes k ≡ Some n → is_some (source_in Input k n x) ≡ is_bound_input system (name_at path x)
    input_at path x k n to at =
        ⊎_elim
        (λ f.
        ap (λ o. is_some (bound_below n x o)) f.above
        ∙ sym (ap (λ o. unbound path x o) (code_there path k n to at) ∙ ap (λ p. is_input (variable_of n.code.now x) && is_some (binding_of system p x)) (first_path path k n to at f) ∙ ap (λ p. is_input (variable_of n.code.now x) && is_some (binding_from system x p)) no_parent ∙ no_flag (is_input (variable_of n.code.now x))))
        (λ i.
        let b = bound_at path k n to at i in
        ap (λ o. is_some (bound_below n x o)) i.is
        ∙ same_flag (is_input (variable_of n.code.now x)) i.above.node b.parent (bound_in n x)
        ∙ ap (λ (o : Option (List ℕ × Expr)). is_input (variable_of n.code.now x) && is_some o) (sym (b.binds x))
        ∙ sym (ap (λ o. unbound path x o) (code_there path k n to at)))
        (tree.stands k n at)

    pub inputs : (n : NameAt) → is_some (number_of t u (UsedInput n)) ≡ is_bound_input system n
    inputs n = by (node_at t n.path) refl
      where
        deeper : (k : ℕ) → node_at t n.path ≡ Some k → (o : Option Node) → slice_get t.nodes k ≡ o → is_some (number u (use_name Input k n.name)) ≡ is_bound_input system n
        deeper k to None at =
            has_some u.uses (use_name Input k n.name) (number u (use_name Input k n.name)) (source_at t (use_name Input k n.name)) (knows.sources (use_name Input k n.name))
            ∙ ap (λ o. is_some (option_and_then (λ q. source_in Input k q n.name) o)) at
            ∙ sym (ap (unbound n.path n.name) (no_node n.path k to at))
        deeper k to (Some c) at = some_source Input k n.name c at ∙ input_at n.path n.name k c to at

        by : (o : Option ℕ) → node_at t n.path ≡ o → is_some (option_and_then (λ k. number u (use_name Input k n.name)) (node_at t n.path)) ≡ is_bound_input system n
        by None to = ap (λ o. is_some (option_and_then (λ k. number u (use_name Input k n.name)) o)) to ∙ sym (ap (unbound n.path n.name) (no_code n.path to))
        by (Some k) to = ap (λ o. is_some (option_and_then (λ k. number u (use_name Input k n.name)) o)) to ∙ deeper k to (slice_get t.nodes k) refl

    -- ---- texts

    abbrev pub TextOf : Used → SourceMeant → Type 0
    TextOf v (OfExpression k e) = (path : List ℕ) × (node_at t path ≡ Some k) × (n : Node) × (slice_get t.nodes k ≡ Some n) × (uses_of system v ≡ expression_uses system path e)
    TextOf v (OfProcedure k p) = (path : List ℕ) × (node_at t path ≡ Some k) × (n : Node) × (slice_get t.nodes k ≡ Some n) × (uses_of system v ≡ procedure_uses system path (Some p))

    define_text : (n : NameAt) (k : ℕ) (c : Node) (s : SourceMeant) → node_at t n.path ≡ Some k → slice_get t.nodes k ≡ Some c → source_in Define k c n.name ≡ Some s → TextOf (UsedDefine n) s
    define_text n k c s to at is = by (define_of c.code.now n.name) refl (sym (define_is k n.name c.code.now) ∙ is)
      where
        by : (o : Option Defined) → define_of c.code.now n.name ≡ o → option_map (λ d. OfExpression k d.body) o ≡ Some s → TextOf (UsedDefine n) s
        by None d h = none_some s h
        by (Some d) d_is h =
            subst (TextOf (UsedDefine n)) (some_same (OfExpression k d.body) s h)
            (n.path, to, c, at, ap (λ o. body_uses system n.path (option_and_then (λ q. define_of q n.name) o)) (code_there n.path k c to at) ∙ ap (body_uses system n.path) d_is)

    procedure_text : (n : NameAt) (k : ℕ) (c : Node) (s : SourceMeant) → node_at t n.path ≡ Some k → slice_get t.nodes k ≡ Some c → source_in Procedure k c n.name ≡ Some s → TextOf (UsedProcedure n) s
    procedure_text n k c s to at is = by (procedure_of c.code.now n.name) refl (sym (procedure_is k n.name c.code.now) ∙ is)
      where
        by : (o : Option ProcedureParts) → procedure_of c.code.now n.name ≡ o → option_map (OfProcedure k) o ≡ Some s → TextOf (UsedProcedure n) s
        by None d h = none_some s h
        by (Some p) p_is h =
            subst (TextOf (UsedProcedure n)) (some_same (OfProcedure k p) s h)
            (n.path, to, c, at, ap (λ o. procedure_uses system n.path (option_and_then (λ q. procedure_of q n.name) o)) (code_there n.path k c to at) ∙ ap (procedure_uses system n.path) p_is)

    input_text : (n : NameAt) (k : ℕ) (c : Node) (s : SourceMeant) → node_at t n.path ≡ Some k → slice_get t.nodes k ≡ Some c → source_in Input k c n.name ≡ Some s → TextOf (UsedInput n) s
    input_text n k c s to at is =
        ⊎_elim
        (λ f. none_some s (sym (ap (bound_below c n.name) f.above) ∙ is))
        (λ i.
        let b = bound_at n.path k c to at i in
        by i.above b (is_input (variable_of c.code.now n.name)) (bound_in c n.name) refl (sym (ap (bound_below c n.name) i.is) ∙ is))
        (tree.stands k c at)
      where
        by : (up : Step) (b : IsBound n.path c up) (flag : Bool) (o : Option Expr) → bound_in c n.name ≡ o → (if flag then option_map (OfExpression up.node) (bound_in c n.name) else None) ≡ Some s → TextOf (UsedInput n) s
        by up b false o o_is h = none_some s h
        by up b true None o_is h = none_some s (sym (ap (option_map (OfExpression up.node)) o_is) ∙ h)
        by up b true (Some e) o_is h =
            subst (TextOf (UsedInput n)) (some_same (OfExpression up.node e) s (sym (ap (option_map (OfExpression up.node)) o_is) ∙ h))
            (b.parent, b.to, b.upper, b.at, ap (binding_uses system) (b.binds n.name ∙ ap (option_map (λ (x : Expr). (b.parent, x))) o_is))

    pub at_path : (kind : UseKind) (n : NameAt) (i : ℕ) → numbered t u kind n ≡ Some i → (k : ℕ) × (node_at t n.path ≡ Some k) × (number u (use_name kind k n.name) ≡ Some i)
    at_path kind n i h = by (node_at t n.path) refl h
      where
        by : (o : Option ℕ) → node_at t n.path ≡ o → option_and_then (λ k. number u (use_name kind k n.name)) o ≡ Some i → (k : ℕ) × (node_at t n.path ≡ Some k) × (number u (use_name kind k n.name) ≡ Some i)
        by None to h = none_some i h
        by (Some k) to h = (k, to, h)

    pub record HasText (v : Used) (i : ℕ) : Type 0 where
      pub numbered_use : NumberedUse
      pub at : slice_get u.uses i ≡ Some numbered_use
      pub meant : TextOf v (source_meant numbered_use.source)

    has_by : (kind : UseKind) (n : NameAt) (i : ℕ) (v : Used) → numbered t u kind n ≡ Some i →
        ((k : ℕ) (c : Node) (s : SourceMeant) → node_at t n.path ≡ Some k → slice_get t.nodes k ≡ Some c → source_in kind k c n.name ≡ Some s → TextOf v s) → HasText v i
    has_by kind n i v h more =
        let p = at_path kind n i h in
        let x = text kind p.0 n.name i p.2 in
        let c = node_of kind p.0 n.name i p.2 in
        record { numbered_use = x.numbered_use; at = x.at; meant = more p.0 c.0 (source_meant x.numbered_use.source) p.1 c.1 (sym (at_node kind p.0 n.name c.0 c.1) ∙ x.source) }

    pub texts : (v : Used) (i : ℕ) → number_of t u v ≡ Some i → HasText v i
    texts (UsedDefine n) i h = has_by Define n i (UsedDefine n) h (λ k c s to at is. define_text n k c s to at is)
    texts (UsedProcedure n) i h = has_by Procedure n i (UsedProcedure n) h (λ k c s to at is. procedure_text n k c s to at is)
    texts (UsedInput n) i h = has_by Input n i (UsedInput n) h (λ k c s to at is. input_text n k c s to at is)

    -- ---- no text

    pub no_define : (n : NameAt) (k : ℕ) (c : Node) → node_at t n.path ≡ Some k → slice_get t.nodes k ≡ Some c → number u (use_name Define k n.name) ≡ None → define_of c.code.now n.name ≡ None
    no_define n k c to at none = by (define_of c.code.now n.name) (sym (define_is k n.name c.code.now) ∙ no_source Define k n.name c at none)
      where
        by : (o : Option Defined) → option_map (λ d. OfExpression k d.body) o ≡ None → o ≡ None
        by None h = refl
        by (Some d) h = cc

    pub defined_when : (n : NameAt) (k : ℕ) (c : Node) (i : ℕ) → node_at t n.path ≡ Some k → slice_get t.nodes k ≡ Some c → number u (use_name Define k n.name) ≡ Some i → define_of c.code.now n.name ≡ None → ⊥
    defined_when n k c i to at is none =
        let x = text Define k n.name i is in
        clash (source_meant x.numbered_use.source) (sym (ap (option_map (λ (d : Defined). OfExpression k d.body)) none) ∙ sym (define_is k n.name c.code.now) ∙ sym (at_node Define k n.name c at) ∙ x.source)
      where
        clash : (s : SourceMeant) → None ≡ Some s → ⊥
        clash s h = none_some s h

    pub no_procedure : (n : NameAt) (k : ℕ) (c : Node) → node_at t n.path ≡ Some k → slice_get t.nodes k ≡ Some c → number u (use_name Procedure k n.name) ≡ None → procedure_of c.code.now n.name ≡ None
    no_procedure n k c to at none = by (procedure_of c.code.now n.name) (sym (procedure_is k n.name c.code.now) ∙ no_source Procedure k n.name c at none)
      where
        by : (o : Option ProcedureParts) → option_map (OfProcedure k) o ≡ None → o ≡ None
        by None h = refl
        by (Some p) h = cc

    pub idle_define : (n : NameAt) → number_of t u (UsedDefine n) ≡ None → uses_of system (UsedDefine n) ≡ []
    idle_define n h = by (node_at t n.path) refl h
      where
        deeper : (k : ℕ) → node_at t n.path ≡ Some k → number u (use_name Define k n.name) ≡ None → (o : Option Node) → slice_get t.nodes k ≡ o → uses_of system (UsedDefine n) ≡ []
        deeper k to none None at = ap (λ o. body_uses system n.path (option_and_then (λ q. define_of q n.name) o)) (no_node n.path k to at)
        deeper k to none (Some c) at = ap (λ o. body_uses system n.path (option_and_then (λ q. define_of q n.name) o)) (code_there n.path k c to at) ∙ ap (body_uses system n.path) (no_define n k c to at none)

        by : (o : Option ℕ) → node_at t n.path ≡ o → option_and_then (λ k. number u (use_name Define k n.name)) o ≡ None → uses_of system (UsedDefine n) ≡ []
        by None to h = ap (λ o. body_uses system n.path (option_and_then (λ q. define_of q n.name) o)) (no_code n.path to)
        by (Some k) to h = deeper k to h (slice_get t.nodes k) refl

    pub idle_procedure : (n : NameAt) → number_of t u (UsedProcedure n) ≡ None → uses_of system (UsedProcedure n) ≡ []
    idle_procedure n h = by (node_at t n.path) refl h
      where
        deeper : (k : ℕ) → node_at t n.path ≡ Some k → number u (use_name Procedure k n.name) ≡ None → (o : Option Node) → slice_get t.nodes k ≡ o → uses_of system (UsedProcedure n) ≡ []
        deeper k to none None at = ap (λ o. procedure_uses system n.path (option_and_then (λ q. procedure_of q n.name) o)) (no_node n.path k to at)
        deeper k to none (Some c) at = ap (λ o. procedure_uses system n.path (option_and_then (λ q. procedure_of q n.name) o)) (code_there n.path k c to at) ∙ ap (procedure_uses system n.path) (no_procedure n k c to at none)

        by : (o : Option ℕ) → node_at t n.path ≡ o → option_and_then (λ k. number u (use_name Procedure k n.name)) o ≡ None → uses_of system (UsedProcedure n) ≡ []
        by None to h = ap (λ o. procedure_uses system n.path (option_and_then (λ q. procedure_of q n.name) o)) (no_code n.path to)
        by (Some k) to h = deeper k to h (slice_get t.nodes k) refl
