use Rattle.std.proofs.Common.{◌≡◌, ◌-◌, length, take, reverse}
use Rattle.std.specs.Prelude.{nat_eq}
use Rattle.std.specs.List.{find}
use Rattle.uc_read_names.proofs.locals.Locals.named.Given as goal

abbrev pub invariant-loop-behind : goal.invariant-loop-behind
invariant-loop-behind l = find (λ k. nat_eq k.name l.name) (reverse (take (l.count - l.behind) l.known)) ≡ find (λ k. nat_eq k.name l.name) (reverse l.known)
