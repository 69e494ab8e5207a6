use Rattle.std.proofs.Common.{◌≡◌, suc, ◌-◌, length, arith}
use Rattle.uc_lookup.specs.Parts.{system_in}
use Rattle.uc_lookup.proofs.Paths.{no_parent, parent_bound, parent_free}
use Rattle.uc_lookup.proofs.system.SystemRef.binding_of.Goals as goal

pub returns-then-count-eq0 : goal.returns-then-count-eq0
returns-then-count-eq0 c = no_parent (system_in c.args.self.now) c.args.path.now c.args.name c.if-count-eq0.true

pub returns-in-Some : goal.returns-in-Some
returns-in-Some c =
    let some : length c.args.path.now ≡ suc (length c.args.path.now - 1) = omega (arith, c.if-count-eq0.false) in
    parent_bound (system_in c.args.self.now) c.args.path.now c.args.name (length c.args.path.now - 1) 0 c.in-Some.expression.now some c.in-Some.ensures

pub returns-in-None : goal.returns-in-None
returns-in-None c =
    let some : length c.args.path.now ≡ suc (length c.args.path.now - 1) = omega (arith, c.if-count-eq0.false) in
    parent_free (system_in c.args.self.now) c.args.path.now c.args.name (length c.args.path.now - 1) 0 some c.in-None.ensures
