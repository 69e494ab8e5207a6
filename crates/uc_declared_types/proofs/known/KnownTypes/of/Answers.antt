use Rattle.std.proofs.Common.{◌≡◌, ◌≤◌, length, ap, subst, sym, ◌∙◌, arith}
use Rattle.std.specs.Prelude.{IfOk}
use Rattle.std.specs.List.{flat_map}
use Rattle.uc_meaning.specs.Lookup.{System}
use Rattle.uc_declared_types.specs.Aliases.{KnowsAliases}
use Rattle.uc_declared_types.specs.Counts.{counts_in}
use Rattle.uc_declared_types.proofs.known.KnownTypes.of.Goals as goal

pub invariant_of-result : goal.invariant_of-result
invariant_of-result c =
    let held = c.in_ok-counts-2 in
    let same_homes : held.homes ≡ c.in_ok-homes.homes = ap (λ p. p.1) held.ensures.0 in
    let same : length c.in_ok-homes.homes.modules ≡ length c.args.system.modules.now = ap (λ (s : System). length s.modules) c.in_ok-homes.ensures in
    let known : length c.in_ok-homes.homes.modules ≤ length c.args.system.modules.now → KnowsAliases c.in_ok-homes.homes held.aliases =
    subst (λ r. IfOk r (λ t. length c.in_ok-homes.homes.modules ≤ length c.args.system.modules.now → KnowsAliases c.in_ok-homes.homes t)) held.ensures.1 c.read_aliases_of-aliases.ensures in record {
      aliases_known = subst (λ s. KnowsAliases s held.aliases) (sym same_homes) (known (omega (arith, same)));
      labels_counted = ap (λ p. p.0) held.ensures.0 ∙ c.in_ok-counts.ensures ∙ sym (ap (λ (s : System). flat_map counts_in s.modules) (same_homes ∙ c.in_ok-homes.ensures));
    }
