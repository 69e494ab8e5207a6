-- The grammar with all that belongs to it.
use Rattle.std.specs.Prelude.{List}
use Rattle.uc_forms.specs.Grammar.{Grammar}
use Rattle.uc_syntax.specs.declared.declaration.Module.{Module}
use Rattle.uc_grammar.specs.Syntax.{words, Nested, Value, rule, text, opens, goes}
use Rattle.uc_grammar.specs.Plain.{rules_are_plain, text_is_plain}

abbrev pub grammar : Grammar
grammar = record {
  alphabet = words;
  Nested = Nested;
  Value = Value;
  rule = rule;
  Text = List Module;
  text = text;
  opens = opens;
  goes = goes;
  rules_are_plain = rules_are_plain;
  text_is_plain = text_is_plain;
}
