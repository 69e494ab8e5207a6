-- What the mentions in the text of a node lead to.
use Rattle.std.specs.Prelude.{◌≡◌, ℕ, List, [], ◌∷◌, ◌++◌, map, length, Option, Some, None, unwrap_or}
use Rattle.std.specs.List.{flat_map}
use Rattle.std.specs.Option.{option_map}
use Rattle.uc_syntax.specs.declared.declaration.Procedure.{Procedure as ProcedureParts}
use Rattle.uc_order_rules.specs.Mentions.{Mention, Reads, Applies, ReadsOld, mentions, expressions_in, calls_in}
use Rattle.uc_order_rules.specs.Uses.{clause_expressions}
use Rattle.uc_uses.specs.declared.tree.Step.{Step}
use Rattle.uc_uses.specs.declared.tree.InstanceTree.{InstanceTree}
use Rattle.uc_uses.specs.Trees.{led_node, step}
use Rattle.uc_uses.specs.declared.uses.UseKind.TheVariants.{Define, Procedure, Input}
use Rattle.uc_uses.specs.declared.table.UseTable.{UseTable}
use Rattle.uc_uses.specs.declared.resolving.Resolved.{Resolved}
use Rattle.uc_uses.specs.declared.resolving.Resolved.TheVariants.{Use, Name}
use Rattle.uc_uses.specs.declared.use_graph_graph.UseGraph.{UseGraph}
use Rattle.uc_uses.specs.Sources.{SourceMeant, OfExpression, OfProcedure, source_meant}
use Rattle.uc_uses.specs.Tables.{number, use_name}

-- a name that is read: a bound input is a use
abbrev pub read_as : Step → Option ℕ → Resolved
read_as s None = Name s
read_as s (Some n) = Use n

abbrev pub read_at : UseTable → Step → Resolved
read_at u s = read_as s (number u (use_name Input s.node s.name))

-- None: a function, or a name in an instance of a module that isn't there.
abbrev pub resolved : InstanceTree → UseTable → ℕ → Mention → Option Resolved
resolved t u k (Reads x primed ys) = option_map (read_at u) (led_node t k x ys)
resolved t u k (Applies f) = option_map Use (number u (use_name Define k f))
resolved t u k (ReadsOld x) = Some (read_at u (step k x))

abbrev pub uses_from : Option Resolved → List ℕ
uses_from None = []
uses_from (Some (Use n)) = n ∷ []
uses_from (Some (Name s)) = []

abbrev pub names_from : Option Resolved → List Step
names_from None = []
names_from (Some (Use n)) = []
names_from (Some (Name s)) = s ∷ []

abbrev pub mention_uses : InstanceTree → UseTable → ℕ → Mention → List ℕ
mention_uses t u k m = uses_from (resolved t u k m)

abbrev pub mention_names : InstanceTree → UseTable → ℕ → Mention → List Step
mention_names t u k m = names_from (resolved t u k m)

unfoldable pub uses_among : InstanceTree → UseTable → ℕ → List Mention → List ℕ
uses_among t u k ms = flat_map (mention_uses t u k) ms

unfoldable pub names_among : InstanceTree → UseTable → ℕ → List Mention → List Step
names_among t u k ms = flat_map (mention_names t u k) ms

-- the number of a procedure that is called; one that isn't declared has the number past all uses
abbrev pub call_number : UseTable → ℕ → ℕ → ℕ
call_number u k q = unwrap_or (number u (use_name Procedure k q)) (length u.uses)

unfoldable pub call_numbers : UseTable → ℕ → List ℕ → List ℕ
call_numbers u k qs = map (call_number u k) qs

-- what the clauses and the body of a procedure mention
unfoldable pub mentions_in : ProcedureParts → List Mention
mentions_in parts = flat_map mentions (flat_map clause_expressions parts.clauses ++ flat_map expressions_in parts.body)

-- what a text uses, by numbers
abbrev pub source_uses : InstanceTree → UseTable → SourceMeant → List ℕ
source_uses t u (OfExpression k e) = uses_among t u k (mentions e)
source_uses t u (OfProcedure k p) = call_numbers u k (flat_map calls_in p.body) ++ uses_among t u k (mentions_in p)

-- the names that a text reads that are no bound inputs
abbrev pub source_names : InstanceTree → UseTable → SourceMeant → List Step
source_names t u (OfExpression k e) = names_among t u k (mentions e)
source_names t u (OfProcedure k p) = names_among t u k (mentions_in p)

unfoldable pub all_source_uses : InstanceTree → UseTable → List (List ℕ)
all_source_uses t u = map (λ e. source_uses t u (source_meant e.source)) u.uses

unfoldable pub all_source_names : InstanceTree → UseTable → List (List Step)
all_source_names t u = map (λ e. source_names t u (source_meant e.source)) u.uses

-- For each use the numbers of what it uses, and the names that it reads.
pub record IsGraph (t : InstanceTree) (u : UseTable) (g : UseGraph) : Type 0 where
  pub uses : g.uses ≡ all_source_uses t u
  pub names : g.names ≡ all_source_names t u
