-- A site that is listed once.
use Rattle.std.proofs.Common.{◌≡◌, Bool, true, false, List, [], ◌∷◌, ◌++◌, ap, ◌∙◌, sym}
use Rattle.std.specs.Prelude.{if◌then◌else◌}
use Rattle.std.specs.List.{list_any}
use Rattle.uc_meaning.specs.declared.scope.Site.{Site}
use Rattle.uc_meaning.specs.Code.{same_site, list_site}

pub known : (sites : List Site) (site : Site) → list_any (same_site site) sites ≡ true → sites ≡ list_site sites site
known sites site listed = ap (λ b. if b then sites else sites ++ site ∷ []) (sym listed)

pub new : (sites : List Site) (site : Site) → list_any (same_site site) sites ≡ false → sites ++ site ∷ [] ≡ list_site sites site
new sites site listed = ap (λ b. if b then sites else sites ++ site ∷ []) (sym listed)
