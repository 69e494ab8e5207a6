use Rattle.uc_flat.specs.declared.expression.Expression.TheVariants.{Cell as ReadCell}
use Rattle.uc_flat_code.specs.Code.{fields_in}
use Rattle.uc_flat_code.specs.Walk.{behind}
use Rattle.uc_flat_code.proofs.FlatCodeAssigning.{fields_step}
use Rattle.uc_flat_code.proofs.parts.fields_in.Goals as goal

pub loop-k-preserved : goal.loop-k-preserved
loop-k-preserved c =
    fields_step (behind (ReadCell c.args.cell) c.args.places.now) c.in_ok-field.field c.args.fields.now c.loop-k.all c.push.new.self (fields_in (behind (ReadCell c.args.cell) c.args.places.now) 0 c.args.fields.now) c.loop-k.k
    c.loop-k-test.true c.in_ok-push.ensures.ok c.in_ok-field.ensures c.loop-k.invariant
