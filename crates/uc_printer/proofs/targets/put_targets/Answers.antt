use Rattle.std.proofs.Common.{refl, rules}
use Rattle.uc_grammar.specs.declared.word.Kind.TheVariants.{Comma}
use Rattle.uc_print_laws.specs.Statements.{target_words}
use Rattle.uc_print_laws.proofs.Written.{behind_more, behind_end, joined_begin}
use Rattle.uc_printer.proofs.targets.put_targets.Goals as goal

pub rest-init : goal.rest-init
rest-init c = joined_begin c.args.names.now Comma target_words c.in-Some.first.now c.in-Some.rest.now c.args.targets.now c.args.page.now c.put_target.new.page (search rules) c.in_ok-put_target.ensures

pub rest-preserved : goal.rest-preserved
rest-preserved c = behind_more c.args.names.now Comma target_words c.rest.one-index c.in-Some.rest.now c.one-item.result c.rest.page c.put_target-in-rest.new.page _ c.rest-test.true c.one-item.is c.rest.invariant
    (rw (c.in_ok-put_target-2.ensures, c.in_ok-put_sign.ensures) refl)

pub returns : goal.returns
returns c = behind_end c.args.names.now Comma target_words c.rest.one-index c.in-Some.rest.now c.rest.page _ c.rest-test.false c.rest.invariant
