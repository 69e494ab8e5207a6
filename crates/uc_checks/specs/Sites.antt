-- The site that a line judges.
use Rattle.std.specs.Prelude.{Option, Some, None}
use Rattle.uc_meaning.specs.declared.scope.Site.{Site}
use Rattle.uc_meaning.specs.declared.line.What.{What}
use Rattle.uc_meaning.specs.declared.line.What.TheVariants.{AtSite}

abbrev pub site_asked : What → Option Site
site_asked (AtSite site) = Some site
site_asked other = None
