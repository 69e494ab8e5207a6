-- The next word chooses the statement.
use Rattle.std.proofs.Common.{◌≡◌, ℕ, true, false, [], ◌∷◌, ◌∙◌}
use Rattle.uc_forms.specs.Form.{◌<|>◌}
use Rattle.uc_forms.specs.Reading.{is_at}
use Rattle.uc_forms.specs.Counted.{State}
use Rattle.uc_forms.proofs.Shapes.{first_given, second_given}
use Rattle.uc_grammar.specs.Code.{code_of}
use Rattle.uc_grammar.specs.declared.word.Word.{Word}
use Rattle.uc_grammar.specs.declared.word.Kind.{Kind}
use Rattle.uc_grammar.specs.declared.word.Kind.TheVariants.{LeftBrace, KwVar, KwSkip, KwAssert, KwAssume, KwHavoc, KwIf, KwCase, KwFor, KwCall, KwNext}
use Rattle.uc_grammar.specs.Syntax.{words, rule, opens, statement, if_statement, case_statement, for_statement, call_statement}
use Rattle.uc_parser.specs.ParseStatementsParts.{local, skip, assertion, assumption, havoc, instance_step, assignment, nested_block, changes, branching, conditions}
use Rattle.uc_parse_expressions.specs.Reading.{form}

-- the next word is of this kind
abbrev pub Starts : Kind → State Word → Type 0
Starts k s = is_at words (code_of k ∷ []) s.0 ≡ true

abbrev pub StartsNot : Kind → State Word → Type 0
StartsNot k s = is_at words (code_of k ∷ []) s.0 ≡ false

-- ---- the first alternatives

pub is_local : (levels : ℕ) (s : State Word) → Starts KwVar s → form levels statement s ≡ form levels local s
unfolding statement local skip nested_block assertion assumption havoc instance_step assignment
is_local levels s t = first_given rule opens levels local (skip <|> nested_block <|> conditions) s t

past_local : (levels : ℕ) (s : State Word) → StartsNot KwVar s → form levels statement s ≡ form levels (skip <|> nested_block <|> conditions) s
unfolding statement local skip nested_block assertion assumption havoc instance_step assignment
past_local levels s t = second_given rule opens levels local (skip <|> nested_block <|> conditions) s t

pub is_skip : (levels : ℕ) (s : State Word) → StartsNot KwVar s → Starts KwSkip s → form levels statement s ≡ form levels skip s
unfolding skip
is_skip levels s n t = past_local levels s n ∙ first_given rule opens levels skip (nested_block <|> conditions) s t

past_skip : (levels : ℕ) (s : State Word) → StartsNot KwVar s → StartsNot KwSkip s → form levels statement s ≡ form levels (nested_block <|> conditions) s
unfolding skip
past_skip levels s n t = past_local levels s n ∙ second_given rule opens levels skip (nested_block <|> conditions) s t

pub is_block : (levels : ℕ) (s : State Word) → StartsNot KwVar s → StartsNot KwSkip s → Starts LeftBrace s → form levels statement s ≡ form levels nested_block s
unfolding nested_block
is_block levels s n m t = past_skip levels s n m ∙ first_given rule opens levels nested_block conditions s t

pub is_condition : (levels : ℕ) (s : State Word) → StartsNot KwVar s → StartsNot KwSkip s → StartsNot LeftBrace s → form levels statement s ≡ form levels conditions s
unfolding nested_block
is_condition levels s n m t = past_skip levels s n m ∙ second_given rule opens levels nested_block conditions s t

-- ---- conditions

pub is_assertion : (levels : ℕ) (s : State Word) → Starts KwAssert s → form levels conditions s ≡ form levels assertion s
unfolding assertion
is_assertion levels s t = first_given rule opens levels assertion (assumption <|> havoc <|> branching) s t

past_assertion : (levels : ℕ) (s : State Word) → StartsNot KwAssert s → form levels conditions s ≡ form levels (assumption <|> havoc <|> branching) s
unfolding assertion
past_assertion levels s t = second_given rule opens levels assertion (assumption <|> havoc <|> branching) s t

pub is_assumption : (levels : ℕ) (s : State Word) → StartsNot KwAssert s → Starts KwAssume s → form levels conditions s ≡ form levels assumption s
unfolding assumption
is_assumption levels s n t = past_assertion levels s n ∙ first_given rule opens levels assumption (havoc <|> branching) s t

past_assumption : (levels : ℕ) (s : State Word) → StartsNot KwAssert s → StartsNot KwAssume s → form levels conditions s ≡ form levels (havoc <|> branching) s
unfolding assumption
past_assumption levels s n t = past_assertion levels s n ∙ second_given rule opens levels assumption (havoc <|> branching) s t

pub is_havoc : (levels : ℕ) (s : State Word) → StartsNot KwAssert s → StartsNot KwAssume s → Starts KwHavoc s → form levels conditions s ≡ form levels havoc s
unfolding havoc
is_havoc levels s n m t = past_assumption levels s n m ∙ first_given rule opens levels havoc branching s t

pub is_branching : (levels : ℕ) (s : State Word) → StartsNot KwAssert s → StartsNot KwAssume s → StartsNot KwHavoc s → form levels conditions s ≡ form levels branching s
unfolding havoc
is_branching levels s n m t = past_assumption levels s n m ∙ second_given rule opens levels havoc branching s t

-- ---- what contains blocks

pub is_if : (levels : ℕ) (s : State Word) → Starts KwIf s → form levels branching s ≡ form levels if_statement s
unfolding if_statement
is_if levels s t = first_given rule opens levels if_statement (case_statement <|> for_statement <|> changes) s t

past_if : (levels : ℕ) (s : State Word) → StartsNot KwIf s → form levels branching s ≡ form levels (case_statement <|> for_statement <|> changes) s
unfolding if_statement
past_if levels s t = second_given rule opens levels if_statement (case_statement <|> for_statement <|> changes) s t

pub is_case : (levels : ℕ) (s : State Word) → StartsNot KwIf s → Starts KwCase s → form levels branching s ≡ form levels case_statement s
unfolding case_statement
is_case levels s n t = past_if levels s n ∙ first_given rule opens levels case_statement (for_statement <|> changes) s t

past_case : (levels : ℕ) (s : State Word) → StartsNot KwIf s → StartsNot KwCase s → form levels branching s ≡ form levels (for_statement <|> changes) s
unfolding case_statement
past_case levels s n t = past_if levels s n ∙ second_given rule opens levels case_statement (for_statement <|> changes) s t

pub is_for : (levels : ℕ) (s : State Word) → StartsNot KwIf s → StartsNot KwCase s → Starts KwFor s → form levels branching s ≡ form levels for_statement s
unfolding for_statement
is_for levels s n m t = past_case levels s n m ∙ first_given rule opens levels for_statement changes s t

pub is_change : (levels : ℕ) (s : State Word) → StartsNot KwIf s → StartsNot KwCase s → StartsNot KwFor s → form levels branching s ≡ form levels changes s
unfolding for_statement
is_change levels s n m t = past_case levels s n m ∙ second_given rule opens levels for_statement changes s t

-- ---- changes

pub is_call : (levels : ℕ) (s : State Word) → Starts KwCall s → form levels changes s ≡ form levels call_statement s
unfolding call_statement
is_call levels s t = first_given rule opens levels call_statement (instance_step <|> assignment) s t

past_call : (levels : ℕ) (s : State Word) → StartsNot KwCall s → form levels changes s ≡ form levels (instance_step <|> assignment) s
unfolding call_statement
past_call levels s t = second_given rule opens levels call_statement (instance_step <|> assignment) s t

pub is_step : (levels : ℕ) (s : State Word) → StartsNot KwCall s → Starts KwNext s → form levels changes s ≡ form levels instance_step s
unfolding instance_step
is_step levels s n t = past_call levels s n ∙ first_given rule opens levels instance_step assignment s t

pub is_assignment : (levels : ℕ) (s : State Word) → StartsNot KwCall s → StartsNot KwNext s → form levels changes s ≡ form levels assignment s
unfolding instance_step
is_assignment levels s n t = past_call levels s n ∙ second_given rule opens levels instance_step assignment s t
