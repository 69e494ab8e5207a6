-- How far ways are followed.
use Rattle.std.specs.Prelude.{◌≡◌, ℕ}
use Rattle.uc_syntax.specs.declared.declaration.Decl.{Decl}
use Rattle.uc_syntax.specs.declared.declaration.Decl.TheVariants.{Function, Define}
use Rattle.std.specs.Prelude.{Option, None}
use Rattle.uc_syntax.specs.declared.declaration.Module.{Module}
use Rattle.uc_meaning.specs.Lookup.{System, first_some, is_named, some_if}
use Rattle.uc_rules.specs.Names.{Called, CalledFunction, CalledDefine, called_named}
use Rattle.uc_rules.specs.Reads.{body_reads, define_reads}

-- what a declaration says of a name where arguments follow
abbrev pub called_in : ℕ → Decl → Option Called
called_in x (Function place i parameters type) = some_if (is_named x i) (CalledFunction (record { parameters = parameters; type = type }))
called_in x (Define place i parameters type body) = some_if (is_named x i) (CalledDefine (record { parameters = parameters; type = type; body = body }))
called_in x other = None

-- What a name is where arguments follow is said by the first declaration that says it.
abbrev pub CallsAreDeclared : Type 0
CallsAreDeclared = (system : System) (m : Module) (x : ℕ) → called_named system m x ≡ first_some (called_in x) m.decls

-- A define reads state exactly where its body does.
abbrev pub DefinesAreFollowed : Type 0
DefinesAreFollowed = (system : System) (m : Module) (f : ℕ) → define_reads system m f ≡ body_reads system m (define_reads system m) (called_named system m f)
