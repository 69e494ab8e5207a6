-- The parts of statements, which functions of their own read.
use Rattle.std.specs.Prelude.{List, Option, ◌⊎◌}
use Rattle.uc_forms.specs.Form.{quiet, both, either, chain, until, made, deep, word, after, before, ◌<|>◌}
use Rattle.uc_grammar.specs.declared.word.Word.{Word}
use Rattle.uc_grammar.specs.declared.word.Kind.TheVariants.{Prime, Semicolon, Colon, Assign, KwVar, KwSkip, KwAssert, KwAssume, KwHavoc, KwNext, KwIf, KwElse, KwDefault, KwEsac}
use Rattle.uc_grammar.specs.Syntax.{F, block, call_targets, typed_name, in_name, id, new_id, listed, optional, has, ty, expr, labelled, targets, place_of, statements, arm, default_block, loop_variable as variable_of, if_statement, case_statement, for_statement, call_statement}
use Rattle.uc_syntax.specs.declared.place.Identifier.{Identifier}
use Rattle.uc_syntax.specs.declared.statement.Arm.{Arm}
use Rattle.uc_syntax.specs.declared.statement.Stmt.{Stmt}
use Rattle.uc_syntax.specs.declared.statement.Stmt.TheVariants as stmts_
use Rattle.uc_syntax.specs.declared.statement.Stmt.TheViews as stmt_views
use Rattle.uc_syntax.specs.declared.statement.Target.{Target}
use Rattle.uc_syntax.specs.declared.type_expression.TypeExpr.{TypeExpr}

-- ---- statements without statements in them

unfoldable pub local : F Stmt
local = made (λ x. stmts_.Local x.0.place x.1.0 x.1.1) (both (word KwVar) (both (listed new_id) (after Colon (before ty Semicolon))))

unfoldable pub skip : F Stmt
skip = made (λ x. stmts_.Skip x.0.place) (both (word KwSkip) (word Semicolon))

unfoldable pub assertion : F Stmt
assertion = made (λ x. stmts_.Assert x.0.place x.1.0 x.1.1) (both (word KwAssert) (labelled quiet (before expr Semicolon)))

unfoldable pub assumption : F Stmt
assumption = made (λ x. stmts_.Assume x.0.place x.1) (both (word KwAssume) (before expr Semicolon))

unfoldable pub havoc : F Stmt
havoc = made (λ x. stmts_.Havoc x.0.place x.1.0 (has x.1.1)) (both (word KwHavoc) (both id (before (optional (word Prime)) Semicolon)))

unfoldable pub instance_step : F Stmt
instance_step = made (λ x. stmts_.Next x.0.place x.1) (both (word KwNext) (before (deep in_name) Semicolon))

unfoldable pub assignment : F Stmt
assignment = made (λ x. stmts_.Assign (place_of x.0) x.0 x.1) (both targets (after Assign (before (listed expr) Semicolon)))

-- ---- the last alternatives of a statement

unfoldable pub nested_block : F Stmt
nested_block = made (λ b. stmt_views.Block b.0 b.1) (deep block)

-- a call, a step of an instance or an assignment
abbrev pub changes : F Stmt
changes = call_statement <|> instance_step <|> assignment

-- what contains blocks, or a change
abbrev pub branching : F Stmt
branching = if_statement <|> case_statement <|> for_statement <|> changes

-- a condition or a havoc, or what follows those
abbrev pub conditions : F Stmt
conditions = assertion <|> assumption <|> havoc <|> branching

-- ---- branches

-- "else" and an arm behind "if", or the last block
abbrev pub else_branch : F (Arm Stmt ⊎ List Stmt)
else_branch = after KwElse (either (after KwIf arm) statements)

abbrev pub else_branches : F (List (Arm Stmt) × Option (List Stmt))
else_branches = chain else_branch

-- Expr ":" Block
abbrev pub case_arm : F (Arm Stmt)
case_arm = made (λ x. record { condition = x.0; body = x.1 }) (both expr (after Colon statements))

-- the end of `case`, with the block of `default` or without
abbrev pub case_end : F ((List Stmt × Word) ⊎ Word)
case_end = either (both (after KwDefault (after Colon statements)) (word KwEsac)) (word KwEsac)

abbrev pub default_arm : F (Option (List Stmt))
default_arm = made default_block case_end

-- the arms, and the block of `default`
abbrev pub case_arms : F (List (Arm Stmt) × Option (List Stmt))
case_arms = made (λ x. (x.0, default_block x.1)) (until case_arm case_end)

-- ---- parts of loops and calls

-- the variable of a loop, with its type if it is written
abbrev pub loop_variable : F (Identifier × Option TypeExpr)
loop_variable = made variable_of (either (deep typed_name) new_id)

-- the targets of a call, if any are written
abbrev pub written_targets : F (Option (List Target))
written_targets = optional (before (deep call_targets) Assign)
