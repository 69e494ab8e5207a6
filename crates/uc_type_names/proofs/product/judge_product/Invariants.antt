use Rattle.uc_type_names.proofs.Products.{ProductFrom}
use Rattle.uc_type_names.proofs.product.judge_product.Given as goal

abbrev pub invariant-loop-k : goal.invariant-loop-k
invariant-loop-k l = ProductFrom l.fn.found l.fn.start l.marks l.types l.plains l.fn.first l.k l.is_found l.t l.first
