use Rattle.std.proofs.Common.{refl, rules}
use Rattle.uc_grammar.specs.declared.word.Kind.TheVariants.{Comma}
use Rattle.uc_print_laws.specs.Declarations.{parameter_words}
use Rattle.uc_print_laws.proofs.Written.{behind_more, behind_end, joined_begin}
use Rattle.uc_print_laws.proofs.types.+print_types.Goals as goal

pub put_parameters-rest-init : goal.put_parameters-rest-init
put_parameters-rest-init t c = joined_begin c.args.names.now Comma parameter_words c.in-Some.first.now c.in-Some.rest.now c.args.parameters.now c.args.page.now c.put_type.new.page (search rules) (rw (c.in_ok-put_type.ensures, c.in_ok-put_sign.ensures, c.in_ok-put_name.ensures) refl)

pub put_parameters-rest-preserved : goal.put_parameters-rest-preserved
put_parameters-rest-preserved t c = behind_more c.args.names.now Comma parameter_words c.rest.one-index c.in-Some.rest.now c.one-item.result c.rest.page c.put_type-in-rest.new.page _ c.rest-test.true c.one-item.is c.rest.invariant
    (rw (c.in_ok-put_type-2.ensures, c.in_ok-put_sign-3.ensures, c.in_ok-put_name-2.ensures, c.in_ok-put_sign-2.ensures) refl)

pub put_parameters-returns : goal.put_parameters-returns
put_parameters-returns t c = behind_end c.args.names.now Comma parameter_words c.rest.one-index c.in-Some.rest.now c.rest.page _ c.rest-test.false c.rest.invariant
