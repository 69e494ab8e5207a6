-- The constants of a design over cells are those that counterexamples show.
use Rattle.std.proofs.Common.{◌≡◌, ℕ, List, [], ◌∷◌, map, refl, sym, ap, ◌∙◌, subst, append-nil, Some}
use Rattle.std.specs.Prelude.{All}
use Rattle.std.specs.Option.{option_map}
use Rattle.std.specs.List.{flat_map}
use Rattle.std.proofs.lemmas.List.Elements.{All-nil, All-cons, All-append, All-weaker}
use Rattle.uc_syntax.specs.declared.place.Identifier.{Identifier}
use Rattle.uc_syntax.specs.declared.declaration.VariableKind.TheVariants.{Constant}
use Rattle.uc_syntax.specs.declared.declaration.Decl.{Decl}
use Rattle.uc_syntax.specs.declared.declaration.Decl.TheVariants.{Variables}
use Rattle.uc_syntax.specs.declared.declaration.Module.{Module}
use Rattle.uc_values.specs.declared.ty.Ty.{Ty}
use Rattle.uc_meaning.specs.Lookup.{System}
use Rattle.uc_meaning.specs.Types.{type_of_written}
use Rattle.uc_syntax.specs.WrittenTypes.{labels_of}
use Rattle.uc_meaning.specs.Cells.{ConstantParts, cells_of, constants_in, constants_of}
use Rattle.uc_flat.specs.declared.flat.Flat.{Flat}
use Rattle.uc_flat.specs.declared.flat.Cell.{Cell as FlatCell}
use Rattle.uc_flat.specs.declared.flat.Constant.{Constant as FlatConstant}
use Rattle.uc_flat_design.specs.Names.{StandsAlone}
use Rattle.uc_flat_design.specs.Design.{IsFlatOf}
use Rattle.uc_flat_design.proofs.Laws.{alone_of}
use Rattle.uc_runnable.specs.Runnable.{RunsOver}
use Rattle.uc_report.specs.TraceTables.{AreConstants, listed, name_of_main}

module _ (system : System) (code : Module) where
  -- a constant of the module
  abbrev IsOwn : ConstantParts → Type 0
  IsOwn c = c.symbol.module_name ≡ code.name

  abbrev own : Ty → Identifier → ConstantParts
  own ty i = record { symbol = record { module_name = code.name; name = i.name }; type = ty }

  named_own : (ty : Ty) (names : List Identifier) → All IsOwn (map (own ty) names)
  named_own ty [] = All-nil IsOwn
  named_own ty (i ∷ names) = All-cons IsOwn (own ty i) (map (own ty) names) refl (named_own ty names)

  declared_own : (d : Decl) → All IsOwn (constants_in system code d)
  declared_own (Variables place Constant names type) = named_own (type_of_written system code type) names
  declared_own other = All-nil IsOwn

  all_own : (decls : List Decl) → All IsOwn (flat_map (constants_in system code) decls)
  all_own [] = All-nil IsOwn
  all_own (d ∷ decls) = All-append IsOwn (constants_in system code d) (flat_map (constants_in system code) decls) (declared_own d) (all_own decls)

  are_own : StandsAlone system code → constants_of system ≡ flat_map (constants_in system code) code.decls
  unfolding constants_of
  are_own alone = ap (flat_map (λ m. flat_map (constants_in system m) m.decls)) alone.used ∙ append-nil (flat_map (constants_in system code) code.decls)

  abbrev IsMains : ConstantParts → Type 0
  IsMains c = name_of_main system ≡ Some c.symbol.module_name

  mains : StandsAlone system code → All IsMains (constants_of system)
  mains alone = subst (All IsMains) (sym (are_own alone))
      (All-weaker IsOwn IsMains (λ c e. ap (option_map (λ (m : Module). m.name)) alone.main ∙ ap Some (sym e)) (flat_map (constants_in system code) code.decls) (all_own code.decls))

pub constants_shown : (system : System) (code : Module) (f : Flat) → IsFlatOf system code f → AreConstants system f.constants
constants_shown system code f d = record {
  all = ap (λ (g : Flat). g.constants) d.is;
  mains = mains system code (alone_of system code f d);
}

-- a design as its report shows it, where it is that of a design that runs
pub design_shown : (d : System) (f : Flat) (view : System) (labels : List (List ℕ)) (constants : List FlatConstant) (cells : List FlatCell) → RunsOver d f → view ≡ d → labels ≡ labels_of d.modules → constants ≡ f.constants → cells ≡ f.cells
    → (labels ≡ labels_of view.modules) × AreConstants view constants × (cells ≡ map listed (cells_of view))
design_shown d f view labels constants cells r same has_labels has_constants has_cells = (
  has_labels ∙ ap (λ (s : System). labels_of s.modules) (sym same),
  subst (λ s. AreConstants s constants) (sym same) (subst (AreConstants d) (sym has_constants) (constants_shown d r.code f r.is_flat)),
  has_cells ∙ ap (λ (g : Flat). g.cells) r.is_flat.is ∙ ap (λ s. map listed (cells_of s)) (sym same),
)
