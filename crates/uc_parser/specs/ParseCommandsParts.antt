-- Parts of the forms of commands that have functions of their own.
use Rattle.std.specs.Prelude.{List, [], ◌∷◌, None}
use Rattle.uc_forms.specs.Form.{deep, either, both, made, word, one_of, after, before, joined_by, ◌<|>◌}
use Rattle.uc_grammar.specs.declared.word.Kind.{Kind}
use Rattle.uc_grammar.specs.declared.word.Word.{Word}
use Rattle.uc_grammar.specs.declared.word.Kind.TheVariants.{Name, OnBits, Range, Unroll, Induction, Verify, Check, PrintResults, PrintCex, Assign, Dot, Semicolon}
use Rattle.uc_grammar.specs.Syntax.{F, id, in_number, maybe_number, in_name, paths, optional, flat, run, counterexample, led, named_command}
use Rattle.uc_syntax.specs.declared.place.Identifier.{Identifier}
use Rattle.uc_syntax.specs.declared.declaration.Command.{Command}
use Rattle.uc_syntax.specs.declared.declaration.Command.TheVariants as commands
use Rattle.uc_syntax.specs.declared.declaration.WrittenRun.TheVariants as runs
use Rattle.uc_syntax.specs.declared.expression.BitFunction.TheVariants as bit_functions

-- names with dots between them
abbrev pub path : F (List Identifier)
path = joined_by Dot id

abbrev pub unroll_command : F Command
unroll_command = led (word (Unroll 0)) (made (λ n w. commands.Run w.place None (runs.Unroll n)) (before (deep in_number) Semicolon))

abbrev pub induction_command : F Command
induction_command = led (word (Induction 0)) (made (λ n w. commands.Run w.place None (runs.Induction (flat n))) (before (optional (deep maybe_number)) Semicolon))

abbrev pub verify_command : F Command
verify_command = led (word (Verify 0)) (made (λ i w. commands.Run w.place None (runs.Verify i)) (before (deep in_name) Semicolon))

abbrev pub check_command : F Command
check_command = led (word (Check 0)) (made (λ s w. commands.Check w.place) (word Semicolon))

abbrev pub results_command : F Command
results_command = led (word (PrintResults 0)) (made (λ s w. commands.PrintResults w.place) (word Semicolon))

abbrev pub counterexample_command : F Command
counterexample_command = led (word (PrintCex 0)) (made (λ ps w. commands.PrintCounterexamples w.place None ps) (before (optional (deep paths)) Semicolon))

-- the names that begin no command of their own, beside plain ones
abbrev pub plain : List Kind
plain = OnBits bit_functions.ZeroExtend 0 ∷ Range 0 ∷ []

abbrev pub plain_name : F Word
plain_name = one_of (Name 0) plain

abbrev pub plain_command : F Command
plain_command = made named_command (both plain_name (either (after Assign (before run Semicolon)) (after Dot counterexample)))

abbrev pub other_command : F Command
other_command = check_command <|> results_command <|> counterexample_command <|> plain_command
