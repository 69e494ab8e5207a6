-- Walks over commands, and over those of declarations.
use Rattle.std.proofs.Common.{◌≡◌, ℕ, ◌+◌, ◌<◌, ◌≤◌, Bool, true, false, not, ◌||◌, List, [], ◌∷◌, ◌++◌, take, drop, length, get_or, fold, Option, Some, None, refl, sym, ap, ◌∙◌}
use Rattle.std.specs.Prelude.{if◌then◌else◌}
use Rattle.std.specs.Option.{option_or, is_some}
use Rattle.std.specs.List.{list_any, flat_map}
use Rattle.std.proofs.lemmas.Grind.{flat_map-append}
use Rattle.std.proofs.lemmas.List.{take_more, take_all, drop_all, append-nil, append_assoc}
use Rattle.std.proofs.lemmas.List.Sums.{fold-append}
use Rattle.std.proofs.lemmas.List.Folds.{fold_stays, list_any-append}
use Rattle.uc_syntax.specs.declared.declaration.Command.{Command}
use Rattle.uc_syntax.specs.declared.declaration.Decl.{Decl}
use Rattle.uc_meaning.specs.Lookup.{System}
use Rattle.uc_meaning.specs.Lines.{commands_in, is_check}
use Rattle.uc_meaning.proofs.Lists.{drop_turn}
use Rattle.uc_report.specs.declared.control_rules.ControlRule.{ControlRule}
use Rattle.uc_report.specs.declared.control_rules.ControlRule.TheVariants.{UnknownCommand, NotChecked}
use Rattle.uc_report.specs.declared.control_rules.ControlFault.{ControlFault}
use Rattle.uc_report.specs.Prints.{is_run_named}
use Rattle.uc_report.specs.ControlRules.{broken_if, broken_by_print, broken_by_name, command_fault, first_fault}
use Rattle.uc_report.specs.ControlRulesParts.{broken_behind}

-- ---- lists

abbrev pub all_in : List Decl → List Command
all_in ds = flat_map commands_in ds

-- the commands before the next turn of a walk
take_turn : {A : Type 0} (xs : List A) (k : ℕ) (x : A) → k < length xs → x ≡ get_or xs k x → take (k + 1) xs ≡ take k xs ++ (x ∷ [])
take_turn xs k x within is = take_more xs k x within ∙ ap (λ y. take k xs ++ (y ∷ [])) (sym is)

all_turn : (ds : List Decl) (k : ℕ) (d : Decl) → k < length ds → d ≡ get_or ds k d → all_in (take (k + 1) ds) ≡ all_in (take k ds) ++ commands_in d
all_turn ds k d within is =
    ap all_in (take_turn ds k d within is)
    ∙ flat_map-append commands_in (take k ds) (d ∷ [])
    ∙ ap (λ cs. all_in (take k ds) ++ cs) (append-nil (commands_in d))

-- ---- a print by a name

behind_named : (x : ℕ) (cs : List Command) → fold (broken_behind x) (Some NotChecked) cs ≡ broken_by_print cs
behind_named x [] = refl
behind_named x (c ∷ cs) = by_test (is_check c) (behind_named x cs)
  where
    by_test : (b : Bool) → fold (broken_behind x) (Some NotChecked) cs ≡ broken_by_print cs → fold (broken_behind x) (broken_if (not b) NotChecked) cs ≡ broken_if (not (b || list_any is_check cs)) NotChecked
    by_test true more = fold_stays (broken_behind x) None (λ c. refl) cs
    by_test false more = more

behind_all : (x : ℕ) (cs : List Command) → fold (broken_behind x) (Some UnknownCommand) cs ≡ broken_by_name x cs
unfolding broken_by_name
behind_all x [] = refl
behind_all x (c ∷ cs) = by_test (is_run_named x c) (behind_all x cs)
  where
    by_test : (b : Bool) → fold (broken_behind x) (Some UnknownCommand) cs ≡ broken_by_name x cs →
        fold (broken_behind x) (if b then Some NotChecked else Some UnknownCommand) cs ≡ (if b then broken_by_print cs else broken_by_name x cs)
    by_test true more = behind_named x cs
    by_test false more = more

pub named_end : (x : ℕ) (ds : List Decl) (k : ℕ) (cs : List Command) (broken after : Option ControlRule) → length ds ≤ k →
    broken ≡ fold (broken_behind x) (Some UnknownCommand) (all_in (take k ds)) → after ≡ fold (broken_behind x) broken cs → after ≡ broken_by_name x (all_in ds ++ cs)
named_end x ds k cs broken after past so_far more =
    more
    ∙ ap (λ b. fold (broken_behind x) b cs) (so_far ∙ ap (λ xs. fold (broken_behind x) (Some UnknownCommand) (all_in xs)) (take_all k ds past))
    ∙ sym (fold-append (broken_behind x) (Some UnknownCommand) (all_in ds) cs)
    ∙ behind_all x (all_in ds ++ cs)

-- ---- a walk over commands behind others

abbrev pub IsWalked : System → List Command → List Command → ℕ → Type 0
IsWalked s before cs k = first_fault s (before ++ take k cs) (drop k cs) ≡ first_fault s before cs

pub walk_begins : (s : System) (before cs : List Command) → IsWalked s before cs 0
walk_begins s before cs = ap (λ b. first_fault s b cs) (append-nil before)

-- the fault of the next command, or of one behind it
pub walk_turn : (s : System) (before cs : List Command) (k : ℕ) (c : Command) → k < length cs → c ≡ get_or cs k c → IsWalked s before cs k →
    option_or (command_fault s (before ++ take k cs) c) (first_fault s (before ++ take (k + 1) cs) (drop (k + 1) cs)) ≡ first_fault s before cs
unfolding first_fault
walk_turn s before cs k c within is so_far =
    let grown : before ++ take (k + 1) cs ≡ (before ++ take k cs) ++ (c ∷ []) = ap (λ xs. before ++ xs) (take_turn cs k c within is) ∙ sym (append_assoc before (take k cs) (c ∷ [])) in
    ap (λ b. option_or (command_fault s (before ++ take k cs) c) (first_fault s b (drop (k + 1) cs))) grown
    ∙ ap (first_fault s (before ++ take k cs)) (sym (drop_turn cs k c within is))
    ∙ so_far

pub walk_goes_on : (s : System) (before cs : List Command) (k : ℕ) (c : Command) (found : Option ControlFault) → k < length cs → c ≡ get_or cs k c → IsWalked s before cs k →
    found ≡ command_fault s (before ++ take k cs) c → is_some found ≡ false → IsWalked s before cs (k + 1)
walk_goes_on s before cs k c found within is so_far fault none = by found fault none
  where
    by : (o : Option ControlFault) → o ≡ command_fault s (before ++ take k cs) c → is_some o ≡ false → IsWalked s before cs (k + 1)
    by None e h = ap (λ o. option_or o (first_fault s (before ++ take (k + 1) cs) (drop (k + 1) cs))) e ∙ walk_turn s before cs k c within is so_far
    by (Some f) e h = absurd cc

pub walk_finds : (s : System) (before cs : List Command) (k : ℕ) (c : Command) (found : Option ControlFault) → k < length cs → c ≡ get_or cs k c → IsWalked s before cs k →
    found ≡ command_fault s (before ++ take k cs) c → is_some found ≡ true → found ≡ first_fault s before cs
walk_finds s before cs k c found within is so_far fault there = by found fault there
  where
    by : (o : Option ControlFault) → o ≡ command_fault s (before ++ take k cs) c → is_some o ≡ true → o ≡ first_fault s before cs
    by None e h = absurd cc
    by (Some f) e h = ap (λ o. option_or o (first_fault s (before ++ take (k + 1) cs) (drop (k + 1) cs))) e ∙ walk_turn s before cs k c within is so_far

pub walk_ends : (s : System) (before cs : List Command) (k : ℕ) → length cs ≤ k → IsWalked s before cs k → None ≡ first_fault s before cs
unfolding first_fault
walk_ends s before cs k past so_far = sym (ap (first_fault s (before ++ take k cs)) (drop_all k cs past)) ∙ so_far

-- a `check` among the commands before the next turn
pub checked_turn : (before cs : List Command) (k : ℕ) (c : Command) (checked : Bool) → k < length cs → c ≡ get_or cs k c → checked ≡ list_any is_check (before ++ take k cs) →
    (checked || is_check c) ≡ list_any is_check (before ++ take (k + 1) cs)
checked_turn before cs k c checked within is so_far =
    let grown : before ++ take (k + 1) cs ≡ (before ++ take k cs) ++ (c ∷ []) = ap (λ xs. before ++ xs) (take_turn cs k c within is) ∙ sym (append_assoc before (take k cs) (c ∷ [])) in
    ap (λ b. b || is_check c) so_far
    ∙ ap (λ b. list_any is_check (before ++ take k cs) || b) (sym (or_false (is_check c)))
    ∙ sym (list_any-append is_check (before ++ take k cs) (c ∷ []))
    ∙ ap (list_any is_check) (sym grown)
  where
    or_false : (b : Bool) → (b || false) ≡ b
    or_false true = refl
    or_false false = refl

-- ---- a walk over declarations

-- a `check` among the commands of the declarations before the next turn
pub checked_decls : (ds : List Decl) (k : ℕ) (d : Decl) (cs : List Command) (checked : Bool) → k < length ds → d ≡ get_or ds k d → cs ≡ commands_in d →
    checked ≡ list_any is_check (all_in (take k ds)) → (checked || list_any is_check cs) ≡ list_any is_check (all_in (take (k + 1) ds))
checked_decls ds k d cs checked within is are so_far =
    ap (λ b. b || list_any is_check cs) so_far
    ∙ ap (λ xs. list_any is_check (all_in (take k ds)) || list_any is_check xs) are
    ∙ sym (list_any-append is_check (all_in (take k ds)) (commands_in d))
    ∙ ap (list_any is_check) (sym (all_turn ds k d within is))

or_or : (a b c : Option ControlFault) → option_or (option_or a b) c ≡ option_or a (option_or b c)
or_or None b c = refl
or_or (Some f) b c = refl

-- the first fault of commands and of those behind them
first_behind : (s : System) (before xs ys : List Command) → first_fault s before (xs ++ ys) ≡ option_or (first_fault s before xs) (first_fault s (before ++ xs) ys)
unfolding first_fault
first_behind s before [] ys = ap (λ b. first_fault s b ys) (sym (append-nil before))
first_behind s before (x ∷ xs) ys =
    ap (option_or (command_fault s before x)) (first_behind s (before ++ (x ∷ [])) xs ys)
    ∙ ap (λ b. option_or (command_fault s before x) (option_or (first_fault s (before ++ (x ∷ [])) xs) (first_fault s b ys))) (append_assoc before (x ∷ []) xs)
    ∙ sym (or_or (command_fault s before x) (first_fault s (before ++ (x ∷ [])) xs) (first_fault s (before ++ (x ∷ xs)) ys))

abbrev pub AreWalked : System → List Decl → ℕ → Type 0
AreWalked s ds k = first_fault s (all_in (take k ds)) (all_in (drop k ds)) ≡ first_fault s [] (all_in ds)

decls_turn : (s : System) (ds : List Decl) (k : ℕ) (d : Decl) (cs : List Command) → k < length ds → d ≡ get_or ds k d → cs ≡ commands_in d → AreWalked s ds k →
    option_or (first_fault s (all_in (take k ds)) cs) (first_fault s (all_in (take (k + 1) ds)) (all_in (drop (k + 1) ds))) ≡ first_fault s [] (all_in ds)
decls_turn s ds k d cs within is are so_far =
    ap (λ b. option_or (first_fault s (all_in (take k ds)) cs) (first_fault s b (all_in (drop (k + 1) ds)))) (all_turn ds k d within is ∙ ap (λ xs. all_in (take k ds) ++ xs) (sym are))
    ∙ sym (first_behind s (all_in (take k ds)) cs (all_in (drop (k + 1) ds)))
    ∙ ap (λ xs. first_fault s (all_in (take k ds)) (xs ++ all_in (drop (k + 1) ds))) are
    ∙ ap (λ xs. first_fault s (all_in (take k ds)) (all_in xs)) (sym (drop_turn ds k d within is))
    ∙ so_far

pub decls_go_on : (s : System) (ds : List Decl) (k : ℕ) (d : Decl) (cs : List Command) (found : Option ControlFault) → k < length ds → d ≡ get_or ds k d → cs ≡ commands_in d → AreWalked s ds k →
    found ≡ first_fault s (all_in (take k ds)) cs → is_some found ≡ false → AreWalked s ds (k + 1)
decls_go_on s ds k d cs found within is are so_far fault none = by found fault none
  where
    by : (o : Option ControlFault) → o ≡ first_fault s (all_in (take k ds)) cs → is_some o ≡ false → AreWalked s ds (k + 1)
    by None e h = ap (λ o. option_or o (first_fault s (all_in (take (k + 1) ds)) (all_in (drop (k + 1) ds)))) e ∙ decls_turn s ds k d cs within is are so_far
    by (Some f) e h = absurd cc

pub decls_find : (s : System) (ds : List Decl) (k : ℕ) (d : Decl) (cs : List Command) (found : Option ControlFault) → k < length ds → d ≡ get_or ds k d → cs ≡ commands_in d → AreWalked s ds k →
    found ≡ first_fault s (all_in (take k ds)) cs → is_some found ≡ true → found ≡ first_fault s [] (all_in ds)
decls_find s ds k d cs found within is are so_far fault there = by found fault there
  where
    by : (o : Option ControlFault) → o ≡ first_fault s (all_in (take k ds)) cs → is_some o ≡ true → o ≡ first_fault s [] (all_in ds)
    by None e h = absurd cc
    by (Some f) e h = ap (λ o. option_or o (first_fault s (all_in (take (k + 1) ds)) (all_in (drop (k + 1) ds)))) e ∙ decls_turn s ds k d cs within is are so_far

pub decls_end : (s : System) (ds : List Decl) (k : ℕ) → length ds ≤ k → AreWalked s ds k → None ≡ first_fault s [] (all_in ds)
unfolding first_fault
decls_end s ds k past so_far = sym (ap (λ xs. first_fault s (all_in (take k ds)) (all_in xs)) (drop_all k ds past)) ∙ so_far
