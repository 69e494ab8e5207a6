-- Scopes of main.
use Rattle.std.specs.Prelude.{◌≡◌, []}
use Rattle.uc_meaning.specs.declared.scope.Scope.{Scope}

-- a scope of main outside all blocks with locals
pub record IsTop (s : Scope) : Type 0 where
  pub path : s.path ≡ []
  pub locals : s.locals ≡ []
