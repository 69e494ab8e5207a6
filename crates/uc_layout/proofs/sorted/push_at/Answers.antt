use Rattle.std.proofs.Common.{◌≡◌, ◌<◌, ◌++◌, ◌∷◌, [], get_or, length, rules}
use Rattle.uc_layout.proofs.Sorting.{pushed}
use Rattle.uc_layout.proofs.sorted.push_at.Goals as goal

pub returns-in_ok-push-clause-pushed : goal.returns-in_ok-push-clause-pushed
returns-in_ok-push-clause-pushed c =
    let within : c.args.place < length c.args.cells.now.items = search rules in
    let grown : c.push.new.self.items ≡ (get_or c.args.cells.now.items c.args.place c.index_mut.result.now).items ++ c.args.fields ∷ [] = search rules in
    pushed c.args.cells.now.items c.args.place c.push.new.self c.index_mut.result.now c.args.fields within grown
