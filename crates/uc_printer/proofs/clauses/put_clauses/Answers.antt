use Rattle.uc_print_laws.specs.Declarations.{clause_words}
use Rattle.uc_print_laws.proofs.Written.{each_more, each_end}
use Rattle.uc_printer.proofs.clauses.put_clauses.Goals as goal

pub clauses-preserved : goal.clauses-preserved
clauses-preserved c = each_more c.args.names.now clause_words c.clauses.clause-index c.args.clauses.now c.clause-item.result c.clauses.page c.put_clause.new.page _ c.clauses-test.true c.clause-item.is c.clauses.invariant c.in_ok-put_clause.ensures

pub returns : goal.returns
returns c = each_end c.args.names.now clause_words c.clauses.clause-index c.args.clauses.now c.clauses.page _ c.clauses-test.false c.clauses.invariant
