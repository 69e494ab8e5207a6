use Rattle.std.proofs.Common.{Some, refl, ap, ◌∙◌, sym}
use Rattle.std.specs.Prelude.{◌&&◌, not, nat_eq, if◌then◌else◌}
use Rattle.std.specs.Cmp.Lexicographic.{pointwise}
use Rattle.std.specs.Map.{lookup}
use Rattle.uc_written_once.specs.Places.{place_of}
use Rattle.uc_written_once.proofs.KnownPlaces.{found_after}
use Rattle.uc_written_once.proofs.places.PathPlaces.enter.Goals as goal

pub returns-clause-ok : goal.returns-clause-ok
returns-clause-ok c =
    λ q.
    ap (lookup (λ k. pointwise nat_eq q k.items)) c.in_ok-insert.ensures.entries
    ∙ found_after _ (λ k. k.items) (λ a b. refl) c.in_ok-key.key c.args.place q c.args.self.now.places.entries
    ∙ ap (λ p. if pointwise nat_eq p q then Some c.args.place else place_of c.args.self.now q) c.in_ok-key.ensures.items
    ∙ sym (ap (λ b. if not b && pointwise nat_eq c.args.path.now q then Some c.args.place else place_of c.args.self.now q) c.if-is_known.false)
