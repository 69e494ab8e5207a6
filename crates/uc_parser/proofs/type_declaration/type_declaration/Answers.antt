use Rattle.std.proofs.Common.{sym, ◌∙◌}
use Rattle.uc_parse_expressions.specs.Reading.{state}
use Rattle.uc_parser.proofs.Types.{own_type_given}
use Rattle.uc_parser.proofs.type_declaration.type_declaration.Goals as goal

pub returns-then-is_at_name : goal.returns-then-is_at_name
returns-then-is_at_name c = rw (own_type_given c.args.levels (state c.args.reader.now) (state c.take.new.self) c.in_ok-word.word c.in_ok-word.ensures (sym c.is_at_name.ensures ∙ c.if-is_at_name.true)) c.own_type.ensures
