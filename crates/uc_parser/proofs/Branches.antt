-- How the branches of `if` and `case` are read.
use Rattle.std.proofs.Common.{◌≡◌, ℕ, true, false, List, [], ◌∷◌, Option, Ok, Err, refl, ap, ◌∙◌, ◌⊎◌, inl, inr}
use Rattle.uc_forms.specs.declared.stop.Stop.{Stop}
use Rattle.uc_forms.specs.Form.{either, after, until}
use Rattle.uc_forms.specs.Reading.{is_at}
use Rattle.uc_forms.specs.Counted.{State, Outcome, turned, count_word, with_head}
use Rattle.uc_forms.specs.CountedGives.{StopsAt}
use Rattle.uc_forms.proofs.Shapes.{after_is, after_fails, first_is, second_is}
use Rattle.uc_grammar.specs.Code.{code_of}
use Rattle.uc_grammar.specs.declared.word.Word.{Word}
use Rattle.uc_grammar.specs.declared.word.Kind.TheVariants.{KwIf, KwElse, KwCase}
use Rattle.uc_grammar.specs.Syntax.{words, rule, opens, arm, statements, default_block, if_statement, case_statement}
use Rattle.uc_parser.specs.ParseStatementsParts.{else_branch, else_branches, case_arm, case_end, case_arms}
use Rattle.uc_parser.proofs.Turned.{first_stops, second_stops}
use Rattle.uc_parse_expressions.specs.Reading.{form}
use Rattle.uc_syntax.specs.declared.statement.Arm.{Arm}
use Rattle.uc_syntax.specs.declared.statement.Stmt.{Stmt}
use Rattle.uc_syntax.specs.declared.statement.Stmt.TheViews as stmt_views

-- ---- else

pub else_if_is : (levels : ℕ) (s mid next rest : State Word) (w v : Word) (a : Arm Stmt) → count_word words KwElse s ≡ Ok (w, mid) → is_at words (code_of KwIf ∷ []) mid.0 ≡ true → count_word words KwIf mid ≡ Ok (v, next) → form levels arm next ≡ Ok (a, rest)
    → form levels else_branch s ≡ Ok (inl a, rest)
else_if_is levels s mid next rest w v a h t i g =
    let read : form levels (either (after KwIf arm) statements) mid ≡ Ok (inl a, rest) = first_is rule opens levels (after KwIf arm) statements mid t ∙ ap (λ (r : Outcome Word (Arm Stmt)). let x : Outcome Word (Arm Stmt ⊎ List Stmt) = turned inl r in x) (after_is rule opens levels KwIf arm v a mid next rest i g) in
    after_is rule opens levels KwElse (either (after KwIf arm) statements) w (inl a) s mid rest h read

pub else_if_stops : (e : Stop) (levels : ℕ) (s mid next rest : State Word) (w v : Word) → count_word words KwElse s ≡ Ok (w, mid) → is_at words (code_of KwIf ∷ []) mid.0 ≡ true → count_word words KwIf mid ≡ Ok (v, next) → StopsAt e rest (form levels arm next)
    → StopsAt e rest (form levels else_branch s)
else_if_stops e levels s mid next rest w v h t i g = after_fails rule opens e levels KwElse (either (after KwIf arm) statements) w s mid rest h (first_stops e levels (after KwIf arm) statements mid rest t (after_fails rule opens e levels KwIf arm v mid next rest i g))

pub else_is : (levels : ℕ) (s mid rest : State Word) (w : Word) (b : List Stmt) → count_word words KwElse s ≡ Ok (w, mid) → is_at words (code_of KwIf ∷ []) mid.0 ≡ false → form levels statements mid ≡ Ok (b, rest) → form levels else_branch s ≡ Ok (inr b, rest)
else_is levels s mid rest w b h t g =
    let read : form levels (either (after KwIf arm) statements) mid ≡ Ok (inr b, rest) = second_is rule opens levels (after KwIf arm) statements mid t ∙ ap (λ (r : Outcome Word (List Stmt)). let x : Outcome Word (Arm Stmt ⊎ List Stmt) = turned inr r in x) g in
    after_is rule opens levels KwElse (either (after KwIf arm) statements) w (inr b) s mid rest h read

pub else_stops : (e : Stop) (levels : ℕ) (s mid rest : State Word) (w : Word) → count_word words KwElse s ≡ Ok (w, mid) → is_at words (code_of KwIf ∷ []) mid.0 ≡ false → StopsAt e rest (form levels statements mid) → StopsAt e rest (form levels else_branch s)
else_stops e levels s mid rest w h t g = after_fails rule opens e levels KwElse (either (after KwIf arm) statements) w s mid rest h (second_stops e levels (after KwIf arm) statements mid rest t g)

-- ---- whole statements

-- behind the first arm
pub if_given : (levels : ℕ) (s mid next : State Word) (w : Word) (a : Arm Stmt) → count_word words KwIf s ≡ Ok (w, mid) → form levels arm mid ≡ Ok (a, next)
    → form levels if_statement s ≡ turned (λ (x : List (Arm Stmt) × Option (List Stmt)). stmt_views.If w.place x.0 x.1) (with_head (a ∷ []) (form levels else_branches next))
unfolding if_statement
if_given levels s mid next w a h g = rw (h, g) (regrouped (form levels else_branches next))
  where
    regrouped : (r : Outcome Word (List (Arm Stmt) × Option (List Stmt)))
        → turned (λ (x : Word × (Arm Stmt × (List (Arm Stmt) × Option (List Stmt)))). stmt_views.If x.0.place (x.1.0 ∷ x.1.1.0) x.1.1.1) (turned (λ (y : Arm Stmt × (List (Arm Stmt) × Option (List Stmt))). (w, y)) (turned (λ (z : List (Arm Stmt) × Option (List Stmt)). (a, z)) r))
        ≡ turned (λ (x : List (Arm Stmt) × Option (List Stmt)). stmt_views.If w.place x.0 x.1) (with_head (a ∷ []) r)
    regrouped (Ok x) = refl
    regrouped (Err f) = refl

-- behind "case"
pub case_given : (levels : ℕ) (s mid : State Word) (w : Word) → count_word words KwCase s ≡ Ok (w, mid)
    → form levels case_statement s ≡ turned (λ (x : List (Arm Stmt) × Option (List Stmt)). stmt_views.Case w.place x.0 x.1) (form levels case_arms mid)
unfolding case_statement
case_given levels s mid w h = rw h (regrouped (form levels (until case_arm case_end) mid))
  where
    regrouped : (r : Outcome Word (List (Arm Stmt) × ((List Stmt × Word) ⊎ Word)))
        → turned (λ (x : Word × (List (Arm Stmt) × ((List Stmt × Word) ⊎ Word))). stmt_views.Case x.0.place x.1.0 (default_block x.1.1)) (turned (λ (y : List (Arm Stmt) × ((List Stmt × Word) ⊎ Word)). (w, y)) r)
        ≡ turned (λ (x : List (Arm Stmt) × Option (List Stmt)). stmt_views.Case w.place x.0 x.1) (turned (λ (x : List (Arm Stmt) × ((List Stmt × Word) ⊎ Word)). (x.0, default_block x.1)) r)
    regrouped (Ok x) = refl
    regrouped (Err f) = refl
