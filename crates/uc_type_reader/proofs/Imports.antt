-- The module that declares a type's name is the module itself, or the first import that declares it.
use Rattle.std.proofs.Common.{◌≡◌, ℕ, suc, ◌+◌, ◌<◌, Bool, true, false, List, [], ◌∷◌, ◌++◌, map, length, drop, get_or, add-one, drop-cons, Option, Some, None, refl, ap, ◌∙◌, sym, subst}
use Rattle.std.specs.Prelude.{is_some, Result, IfOk}
use Rattle.std.specs.Option.{option_map}
use Rattle.std.specs.List.{flat_map}
use Rattle.uc_syntax.specs.declared.declaration.Decl.{Decl}
use Rattle.uc_syntax.specs.declared.declaration.Decl.TheVariants.{TypeImport}
use Rattle.uc_syntax.specs.declared.declaration.Module.{Module}
use Rattle.uc_meaning.specs.Lookup.{System, first_some, or_else, module_named}
use Rattle.uc_meaning.specs.Types.{type_entry, home_of_type, imported_by}
use Rattle.uc_type_reader.specs.Reading.{if_declares, imported_home}

pub or_else_none : {A : Type 0} (o : Option A) → or_else o None ≡ o
or_else_none None = refl
or_else_none (Some x) = refl

pub or_else_or_else : {A : Type 0} (o p q : Option A) → or_else (or_else o p) q ≡ or_else o (or_else p q)
or_else_or_else None p q = refl
or_else_or_else (Some x) p q = refl

-- the first answer along two lists, along what a list gives, and along a list that is mapped
pub first_append : {A B : Type 0} (f : A → Option B) (xs ys : List A) → first_some f (xs ++ ys) ≡ or_else (first_some f xs) (first_some f ys)
unfolding first_some
first_append f [] ys = refl
first_append f (x ∷ xs) ys = ap (or_else (f x)) (first_append f xs ys) ∙ sym (or_else_or_else (f x) (first_some f xs) (first_some f ys))

pub first_flat : {A B C : Type 0} (f : B → Option C) (g : A → List B) (xs : List A) → first_some f (flat_map g xs) ≡ first_some (λ x. first_some f (g x)) xs
unfolding first_some
first_flat f g [] = refl
first_flat f g (x ∷ xs) = first_append f (g x) (flat_map g xs) ∙ ap (or_else (first_some f (g x))) (first_flat f g xs)

pub first_mapped : {A B C : Type 0} (f : B → Option C) (g : A → B) (xs : List A) → first_some f (map g xs) ≡ first_some (λ x. f (g x)) xs
unfolding first_some
first_mapped f g [] = refl
first_mapped f g (x ∷ xs) = ap (or_else (f (g x))) (first_mapped f g xs)

pub first_same : {A B : Type 0} (f g : A → Option B) (xs : List A) → ((x : A) → f x ≡ g x) → first_some f xs ≡ first_some g xs
first_same f g xs e = ap (λ h. first_some h xs) (λ k x. e x k)

module _ (s : System) (x : ℕ) (f : Option Module → Option Module) (same : (o : Option Module) → f o ≡ if_declares x o) where
  import_step : (d : Decl) → first_some (λ y. f (module_named s y)) (imported_by d) ≡ imported_home s x d
  unfolding first_some
  import_step (TypeImport place m) = or_else_none (f (module_named s m.name)) ∙ same (module_named s m.name)
  import_step other = refl

  imports : (ds : List Decl) → first_some f (map (module_named s) (flat_map imported_by ds)) ≡ first_some (imported_home s x) ds
  imports ds =
      first_mapped f (module_named s) (flat_map imported_by ds) ∙ first_flat (λ y. f (module_named s y)) imported_by ds
      ∙ first_same (λ d. first_some (λ y. f (module_named s y)) (imported_by d)) (imported_home s x) ds import_step

pub home_is : (s : System) (m : Module) (x : ℕ) →
    home_of_type s m x ≡ or_else (option_map (λ entry. m) (type_entry m x)) (first_some (imported_home s x) m.decls)
unfolding home_of_type first_some
home_is s m x = ap (or_else (option_map (λ entry. m) (type_entry m x))) (imports s x _ (λ o. elim o [ None ↦ refl | Some n ↦ refl ]) m.decls)

first_split : {A B : Type 0} (f : A → Option B) (xs : List A) (k : ℕ) (x d : A) → k < length xs → x ≡ get_or xs k d → first_some f (drop k xs) ≡ or_else (f x) (first_some f (drop (k + 1) xs))
unfolding first_some
first_split f xs k x d within is =
    ap (first_some f) (drop-cons xs k d within ∙ (ap (λ y. y ∷ drop (suc k) xs) (sym is) ∙ ap (λ n. x ∷ drop n xs) (sym (add-one k))))

-- an answer along a list, where it is given in another form
known : {B C : Type 0} (g : C → B) (l : Option C) (o : Option B) → option_map g l ≡ o → is_some l ≡ true → (r : Option B) → or_else o r ≡ option_map g l
known g (Some x) o e some r = ap (λ p. or_else p r) (sym e)
known g None o e none r = absurd cc

unknown : {B C : Type 0} (g : C → B) (l : Option C) (o : Option B) → option_map g l ≡ o → is_some l ≡ false → (r : Option B) → or_else o r ≡ r
unknown g None o e none r = ap (λ p. or_else p r) (sym e)
unknown g (Some x) o e some r = absurd cc

pub first_known : {A B C : Type 0} (f : A → Option B) (g : C → B) (xs : List A) (k : ℕ) (x d : A) (l : Option C) (r : Option B) → k < length xs → x ≡ get_or xs k d → option_map g l ≡ f x → is_some l ≡ true →
    first_some f (drop k xs) ≡ r → option_map g l ≡ r
first_known f g xs k x d l r within is e some before =
    sym (first_split f xs k x d within is ∙ known g l (f x) e some (first_some f (drop (k + 1) xs))) ∙ before

pub first_unknown : {A B C : Type 0} (f : A → Option B) (g : C → B) (xs : List A) (k : ℕ) (x d : A) (l : Option C) (r : Option B) → k < length xs → x ≡ get_or xs k d → option_map g l ≡ f x → is_some l ≡ false →
    first_some f (drop k xs) ≡ r → first_some f (drop (k + 1) xs) ≡ r
first_unknown f g xs k x d l r within is e none before =
    sym (first_split f xs k x d within is ∙ unknown g l (f x) e none (first_some f (drop (k + 1) xs))) ∙ before

pub or_known : {B C : Type 0} (g : C → B) (l : Option C) (o p r : Option B) → option_map g l ≡ o → is_some l ≡ true → r ≡ or_else o p → option_map g l ≡ r
or_known g l o p r e some is = sym (is ∙ known g l o e some p)

pub or_unknown : {B C : Type 0} (g : C → B) (l : Option C) (o p r : Option B) → option_map g l ≡ o → is_some l ≡ false → r ≡ or_else o p → p ≡ r
or_unknown g l o p r e none is = sym (is ∙ unknown g l o e none p)

pub as_answer : {B C E : Type 0} (g : C → B) (p q : Option B) (r : Result (Option C) E) → p ≡ q → IfOk r (λ l. option_map g l ≡ p) → IfOk r (λ l. option_map g l ≡ q)
as_answer g p q r e is = subst (λ o. IfOk r (λ l. option_map g l ≡ o)) e is
