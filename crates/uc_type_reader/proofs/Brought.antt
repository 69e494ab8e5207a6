-- The label of a name is the first one among the module's enums, then its imports, then the modules that its types name.
use Rattle.std.proofs.Common.{◌≡◌, ℕ, List, [], ◌∷◌, ◌++◌, map, Option, Some, None, refl, ap, ◌∙◌, sym}
use Rattle.std.specs.Option.{option_map}
use Rattle.std.specs.List.{flat_map}
use Rattle.uc_syntax.specs.declared.type_expression.TypeExpr.{TypeExpr}
use Rattle.uc_syntax.specs.declared.type_expression.TypeExpr.TheFolds.{fold-TypeExpr}
use Rattle.uc_syntax.specs.declared.declaration.Decl.{Decl}
use Rattle.uc_syntax.specs.declared.declaration.Decl.TheVariants.{TypeImport}
use Rattle.uc_syntax.specs.declared.declaration.Module.{Module}
use Rattle.uc_syntax.specs.WrittenTypes.{Written, enums_of_module, types_of_module}
use Rattle.uc_meaning.specs.Lookup.{System, first_some, or_else, module_named}
use Rattle.uc_meaning.specs.Types.{imported_by, modules_form, modules_brought, label_in, label_of}
use Rattle.uc_type_reader.specs.declared.mentioned.WrittenEnum.{WrittenEnum}
use Rattle.uc_type_reader.specs.Mentioned.{enum_written, modules_at}
use Rattle.uc_type_reader.specs.Reading.{label_at, enums_of_option, label_in_named, label_imported}
use Rattle.uc_type_reader.proofs.Imports.{or_else_none, first_append, first_flat, first_mapped, first_same}

-- labels of gathered enums
pub written_label : (s : System) (x : ℕ) (es : List Written) (found : List WrittenEnum) → found ≡ map enum_written es →
    first_some (label_at s x) found ≡ first_some (label_in s x) es
written_label s x es found is = ap (first_some (label_at s x)) is ∙ first_mapped (label_at s x) enum_written es

import_label : (s : System) (x : ℕ) (d : Decl) → first_some (label_in_named s x) (imported_by d) ≡ label_imported s x d
unfolding first_some
import_label s x (TypeImport place m) = or_else_none (label_in_named s x m.name)
import_label s x other = refl

module _ (s : System) (m : Module) (x : ℕ) where
  brought : first_some (label_in_named s x) (modules_brought m) ≡ or_else (first_some (label_imported s x) m.decls) (first_some (label_in_named s x) (flat_map modules_at (types_of_module m)))
  unfolding modules_brought modules_at
  brought =
      first_append (label_in_named s x) (flat_map imported_by m.decls) (flat_map (fold-TypeExpr (List ℕ) modules_form) (types_of_module m))
      ∙ ap (λ o. or_else o (first_some (label_in_named s x) (flat_map (fold-TypeExpr (List ℕ) modules_form) (types_of_module m))))
      (first_flat (label_in_named s x) imported_by m.decls ∙ first_same (λ d. first_some (label_in_named s x) (imported_by d)) (label_imported s x) m.decls (import_label s x))

  other_modules : (f : Option Module → List Written) (same : (o : Option Module) → f o ≡ enums_of_option o) →
      first_some (label_in s x) (flat_map (λ b. f (module_named s b)) (modules_brought m)) ≡ first_some (label_in_named s x) (modules_brought m)
  other_modules f same =
      first_flat (label_in s x) (λ b. f (module_named s b)) (modules_brought m)
      ∙ first_same (λ b. first_some (label_in s x) (f (module_named s b))) (label_in_named s x) (modules_brought m)
      (λ b. ap (first_some (label_in s x)) (same (module_named s b)))

  pub label_is : label_of s m x ≡
      or_else (first_some (label_in s x) (enums_of_module m))
      (or_else (first_some (label_imported s x) m.decls) (first_some (label_in_named s x) (flat_map modules_at (types_of_module m))))
  unfolding label_of
  label_is =
      first_append (label_in s x) (enums_of_module m) _
      ∙ ap (or_else (first_some (label_in s x) (enums_of_module m))) (other_modules _ (λ o. elim o [ None ↦ refl | Some n ↦ refl ]) ∙ brought)
