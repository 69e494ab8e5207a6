-- The tables of a module's declarations.
use Rattle.std.proofs.Common.{◌≡◌, ℕ, ◌+◌, ◌<◌, ◌≤◌, Bool, true, false, cond, List, [], ◌∷◌, ◌++◌, length, take, get_or, Option, Some, None, refl, ap, ◌∙◌, sym, subst, suc, append_assoc}
use Rattle.std.specs.Prelude.{nat_eq}
use Rattle.std.specs.List.{cons_option, filter_map, find, flat_map}
use Rattle.std.proofs.lemmas.List.{take_all}
use Rattle.uc_syntax.proofs.Added.{append_nil}
use Rattle.uc_syntax.specs.declared.declaration.Procedure.{Procedure as ProcedureParts}
use Rattle.uc_syntax.specs.declared.declaration.Decl.{Decl}
use Rattle.uc_syntax.specs.declared.declaration.Decl.TheVariants.{Procedure}
use Rattle.uc_syntax.specs.declared.declaration.Module.{Module}
use Rattle.uc_meaning.specs.Lookup.{System, InstanceParts, first_some, instance_in, instances_of, instance_of, is_named, module_named, next_in, or_else, procedure_in, some_if}
use Rattle.uc_rules.specs.declared.fault.Fault.{Fault}
use Rattle.uc_rules.specs.Faults.{first_of}
use Rattle.uc_rules.specs.Names.{only_if}
use Rattle.uc_rules.proofs.Lists.{take_turn}
use Rattle.uc_lookup.specs.Parts.{if_named}
use Rattle.uc_declared_types.specs.AliasLaw.{IsAmong}
use Rattle.uc_declared_types.proofs.Among.{find_among}
use Rattle.uc_order_rules.specs.Writes.{Modules, Stepping, modified_in, modified_names, overlap, stepping_as, steps_in, written_by, written_through}
use Rattle.uc_order_rules.specs.Pairs.{any_pair}
use Rattle.uc_written_once.specs.declared.effects.Effects.{Effects}
use Rattle.uc_written_once.specs.declared.effects.Stepped.{Stepped}
use Rattle.uc_written_once.specs.Effects.{AreEffects, SameStep, modified_by, procedure_by, stepped_by, stepping_of}
use Rattle.uc_module_writes.specs.declared.steps.StepTable.{StepTable}
use Rattle.uc_module_writes.specs.declared.written.WrittenPairs.{WrittenPairs}
use Rattle.uc_module_writes.specs.Found.{FindsBlock, FindsStepAs, FindsSteps, Steps, entered_by}
use Rattle.uc_module_writes.specs.Stepped.{AreTables, MeetsAmong, EntersStep, IsReady, IsStepAs, declared_procedure}
use Rattle.uc_module_writes.proofs.Outside.{found_as, same_as}

or_none : {B : Type 0} (o : Option B) → or_else o None ≡ o
or_none None = refl
or_none (Some y) = refl

or_assoc : {B : Type 0} (a b c : Option B) → or_else (or_else a b) c ≡ or_else a (or_else b c)
or_assoc None b c = refl
or_assoc (Some y) b c = refl

first_push : {A B : Type 0} (f : A → Option B) (xs : List A) (e : A) → first_some f (xs ++ e ∷ []) ≡ or_else (first_some f xs) (f e)
unfolding first_some
first_push f [] e = or_none (f e)
first_push f (x ∷ xs) e = ap (or_else (f x)) (first_push f xs e) ∙ sym (or_assoc (f x) (first_some f xs) (f e))

-- the first instance of a name where one more is declared
named_push : (x : ℕ) (ds : List Decl) (d : Decl) → find (λ i. nat_eq i.name x) (filter_map instance_in (ds ++ d ∷ [])) ≡ or_else (find (λ i. nat_eq i.name x) (filter_map instance_in ds)) (if_named x (instance_in d))
named_push x [] d = one (instance_in d)
  where
    test : (b : Bool) (i : InstanceParts) → cond b (Some i) None ≡ some_if b i
    test true i = refl
    test false i = refl

    one : (o : Option InstanceParts) → find (λ i. nat_eq i.name x) (cons_option o []) ≡ if_named x o
    one None = refl
    one (Some i) = test (nat_eq i.name x) i
named_push x (e ∷ ds) d = by (instance_in e) (named_push x ds d)
  where
    step : (b : Bool) (i : InstanceParts) → find (λ j. nat_eq j.name x) (filter_map instance_in (ds ++ d ∷ [])) ≡ or_else (find (λ j. nat_eq j.name x) (filter_map instance_in ds)) (if_named x (instance_in d)) →
        cond b (Some i) (find (λ j. nat_eq j.name x) (filter_map instance_in (ds ++ d ∷ []))) ≡ or_else (cond b (Some i) (find (λ j. nat_eq j.name x) (filter_map instance_in ds))) (if_named x (instance_in d))
    step true i h = refl
    step false i h = h

    by : (o : Option InstanceParts) → find (λ i. nat_eq i.name x) (filter_map instance_in (ds ++ d ∷ [])) ≡ or_else (find (λ i. nat_eq i.name x) (filter_map instance_in ds)) (if_named x (instance_in d)) →
        find (λ i. nat_eq i.name x) (cons_option o (filter_map instance_in (ds ++ d ∷ []))) ≡ or_else (find (λ i. nat_eq i.name x) (cons_option o (filter_map instance_in ds))) (if_named x (instance_in d))
    by None h = h
    by (Some i) h = step (nat_eq i.name x) i h

pub tables_begin : (names : List ℕ) (known : ℕ → Option WrittenPairs) (e : Effects) (t : StepTable) → t.names.now ≡ names → ((f : ℕ) → procedure_by e f ≡ None) → ((x : ℕ) → stepped_by e x ≡ None) → ((x : ℕ) → entered_by t x ≡ None) → AreTables names known [] e t
unfolding first_some
tables_begin names known e t named procedures steps entered = record {
  named = named;
  procedures = procedures;
  instances = λ x. subst (λ o. EntersStep names known None o (entered_by t x)) (sym (steps x)) (subst (λ o. EntersStep names known None None o) (sym (entered x)) tt);
}

module _ (names : List ℕ) (known : ℕ → Option WrittenPairs) (ds : List Decl) (d : Decl) (e mid later : Effects) (t u : StepTable)
    (procedure : (f : ℕ) → procedure_by mid f ≡ or_else (procedure_by e f) (procedure_in f d)) (steps : (i : ℕ) → stepped_by mid i ≡ stepped_by e i)
    (named : u.names.now ≡ t.names.now) (kept : (f : ℕ) → procedure_by later f ≡ procedure_by mid f)
    (instance : (before : Option InstanceParts) (x : ℕ) → EntersStep names known before (stepped_by mid x) (entered_by t x) → EntersStep names known (or_else before (if_named x (instance_in d))) (stepped_by later x) (entered_by u x)) where
  pub tables_more : AreTables names known ds e t → AreTables names known (ds ++ d ∷ []) later u
  tables_more are = record {
    named = named ∙ are.named;
    procedures = λ f. kept f ∙ procedure f ∙ ap (λ o. or_else o (procedure_in f d)) (are.procedures f) ∙ sym (first_push (procedure_in f) ds d);
    instances = λ x.
        subst (λ o. EntersStep names known o (stepped_by later x) (entered_by u x)) (sym (named_push x ds d))
        (instance (find (λ i. nat_eq i.name x) (filter_map instance_in ds)) x
        (subst (λ o. EntersStep names known (find (λ i. nat_eq i.name x) (filter_map instance_in ds)) o (entered_by t x)) (sym (steps x)) (are.instances x)));
  }

-- a procedure by its form
abbrev by_name : ℕ → Option ProcedureParts → Option ProcedureParts
by_name f None = None
by_name f (Some p) = some_if (is_named f p.identifier) p

declared_as : (f : ℕ) (d : Decl) → procedure_in f d ≡ by_name f (declared_procedure d)
declared_as f (Procedure place p) = refl
declared_as f other = refl

pub none_declared : (d : Decl) → None ≡ declared_procedure d → (o : Option ProcedureParts) (f : ℕ) → o ≡ or_else o (procedure_in f d)
none_declared d none o f = sym (ap (or_else o) (declared_as f d ∙ ap (by_name f) (sym none)) ∙ or_none o)

pub some_declared : (d : Decl) (p : ProcedureParts) → Some p ≡ declared_procedure d → (o : Option ProcedureParts) (f : ℕ) → or_else o (only_if (nat_eq p.identifier.name f) (Some p)) ≡ or_else o (procedure_in f d)
some_declared d p some o f = ap (or_else o) (turned (nat_eq p.identifier.name f) ∙ sym (declared_as f d ∙ ap (by_name f) (sym some)))
  where
    turned : (b : Bool) → only_if b (Some p) ≡ some_if b p
    turned true = refl
    turned false = refl

-- a step is entered, unless one was
pub step_entered : (names : List ℕ) (known : ℕ → Option WrittenPairs) (i : InstanceParts) (before : Option InstanceParts) (x name : ℕ) (s : Stepped) (w : WrittenPairs) (ob nb : Option Stepped) (oc nc : Option WrittenPairs) → i.name ≡ name →
    IsStepAs names (known i.module_name) i w → s.parts ≡ w.parts → s.meet ≡ any_pair overlap w.pairs → nb ≡ or_else ob (only_if (nat_eq name x) (Some s)) → nc ≡ or_else oc (only_if (nat_eq name x) (Some w)) →
    EntersStep names known before ob oc → EntersStep names known (or_else before (if_named x (Some i))) nb nc
step_entered names known i before x name s w ob nb oc nc named step parts meet nb-is nc-is entered =
    subst (λ o. EntersStep names known (or_else before (some_if (nat_eq i.name x) i)) o nc) (sym (nb-is ∙ ap (λ y. or_else ob (only_if (nat_eq y x) (Some s))) (sym named)))
    (subst (λ o. EntersStep names known (or_else before (some_if (nat_eq i.name x) i)) (or_else ob (only_if (nat_eq i.name x) (Some s))) o) (sym (nc-is ∙ ap (λ y. or_else oc (only_if (nat_eq y x) (Some w))) (sym named)))
    (by (nat_eq i.name x) before ob oc entered))
  where
    by : (b : Bool) (a : Option InstanceParts) (u : Option Stepped) (v : Option WrittenPairs) → EntersStep names known a u v → EntersStep names known (or_else a (some_if b i)) (or_else u (only_if b (Some s))) (or_else v (only_if b (Some w)))
    by b (Some j) (Some u) (Some v) h = h
    by true None None None h = (step, parts, meet)
    by false None None None h = tt
    by b None (Some u) v h = absurd h
    by b None None (Some v) h = absurd h
    by b (Some j) None v h = absurd h
    by b (Some j) (Some u) None h = absurd h

pub none_entered : (names : List ℕ) (known : ℕ → Option WrittenPairs) (x : ℕ) (before o : Option InstanceParts) (b : Option Stepped) (c : Option WrittenPairs) → None ≡ o → EntersStep names known before b c → EntersStep names known (or_else before (if_named x o)) b c
none_entered names known x before o b c none = subst (λ a. EntersStep names known a b c) (sym (ap (λ p. or_else before (if_named x p)) (sym none) ∙ or_none before))

pub some_entered : (names : List ℕ) (known : ℕ → Option WrittenPairs) (x : ℕ) (before o : Option InstanceParts) (i : InstanceParts) (b : Option Stepped) (c : Option WrittenPairs) → Some i ≡ o → EntersStep names known (or_else before (if_named x (Some i))) b c →
    EntersStep names known (or_else before (if_named x o)) b c
some_entered names known x before o i b c some = subst (λ p. EntersStep names known (or_else before (if_named x p)) b c) some

-- Tables after the declarations before place k.
pub record TablesFrom (names : List ℕ) (known : ℕ → Option WrittenPairs) (ds : List Decl) (e : Effects) (t : StepTable) (k : ℕ) (now : Effects) (table : StepTable) : Type 0 where
  pub are : (before : List Decl) → AreTables names known before e t → AreTables names known (before ++ take k ds) now table

pub from_begin : (names : List ℕ) (known : ℕ → Option WrittenPairs) (ds : List Decl) (e : Effects) (t : StepTable) → TablesFrom names known ds e t 0 e t
from_begin names known ds e t = record { are = λ before are. subst (λ bs. AreTables names known bs e t) (sym (nothing before ds)) are }
  where
    nothing : (before ds : List Decl) → before ++ take 0 ds ≡ before
    nothing before [] = append_nil before
    nothing before (d ∷ ds) = append_nil before

pub from_more : (names : List ℕ) (known : ℕ → Option WrittenPairs) (ds : List Decl) (e : Effects) (t : StepTable) (k : ℕ) (now later : Effects) (table next : StepTable) (d x : Decl) → TablesFrom names known ds e t k now table → k < length ds → d ≡ get_or ds k x →
    ((before : List Decl) → AreTables names known before now table → AreTables names known (before ++ d ∷ []) later next) → TablesFrom names known ds e t (k + 1) later next
from_more names known ds e t k now later table next d x held within at more = record {
  are = λ before are.
      subst (λ bs. AreTables names known bs later next) (append_assoc before (take k ds) (d ∷ []) ∙ ap (λ bs. before ++ bs) (sym (take_turn ds k d x within at)))
      (more (before ++ take k ds) (held.are before are));
}

pub from_end : (names : List ℕ) (known : ℕ → Option WrittenPairs) (ds : List Decl) (e : Effects) (t : StepTable) (k : ℕ) (now : Effects) (table : StepTable) → TablesFrom names known ds e t k now table → length ds ≤ k →
    (before : List Decl) → AreTables names known before e t → AreTables names known (before ++ ds) now table
from_end names known ds e t k now table held past before are = subst (λ bs. AreTables names known (before ++ bs) now table) (take_all k ds past) (held.are before are)

-- What was entered is what stepping is.

module _ (names : List ℕ) (known : ℕ → Option WrittenPairs) (system : System) (n : ℕ) (m : Module) (binds : MeetsAmong names m) (ready : IsReady names known n system m) where
  abbrev modules : Modules
  modules = written_through n system

  step_same : (a : Option InstanceParts) (b : Option Stepped) (c : Option WrittenPairs) → ((i : InstanceParts) → a ≡ Some i → IsAmong i (instances_of m)) → EntersStep names known a b c → SameStep (stepping_of b) (stepping_as system modules overlap a)
  step_same None None None among entered = record { parts = λ p. refl; meet = refl }
  step_same (Some i) (Some s) (Some w) among entered =
      let there = among i refl in same_as names modules i (binds i there) w (known i.module_name) (module_named system i.module_name) s (ready i there) entered.0 entered.1 entered.2
  step_same None (Some s) c among entered = absurd entered
  step_same None None (Some w) among entered = absurd entered
  step_same (Some i) None c among entered = absurd entered
  step_same (Some i) (Some s) None among entered = absurd entered

  step_found : (a : Option InstanceParts) (b : Option Stepped) (c : Option WrittenPairs) → ((i : InstanceParts) → a ≡ Some i → IsAmong i (instances_of m)) → EntersStep names known a b c → FindsStepAs names (λ meets. stepping_as system modules meets a) c
  step_found None None None among entered = λ meets. refl
  step_found (Some i) (Some s) (Some w) among entered =
      let there = among i refl in found_as names modules i (binds i there) w (known i.module_name) (module_named system i.module_name) (ready i there) entered.0
  step_found None (Some s) c among entered = absurd entered
  step_found None None (Some w) among entered = absurd entered
  step_found (Some i) None c among entered = absurd entered
  step_found (Some i) (Some s) None among entered = absurd entered

  module _ (e : Effects) (t : StepTable) (are : AreTables names known m.decls e t) where
    there : (x : ℕ) (i : InstanceParts) → instance_of m x ≡ Some i → IsAmong i (instances_of m)
    there x i = find_among (λ j. nat_eq j.name x) (instances_of m) i

    pub effects_are : AreEffects e (modified_in m) (steps_in system modules overlap m)
    effects_are = record {
      procedures = λ f. ap modified_names (are.procedures f);
      instances = λ x. step_same (instance_of m x) (stepped_by e x) (entered_by t x) (there x) (are.instances x);
    }

    pub modified_are : (f : ℕ) → modified_by e f ≡ modified_in m f
    modified_are f = ap modified_names (are.procedures f)

    pub steps_found : FindsSteps t (λ meets. steps_in system modules meets m)
    steps_found x =
        subst (λ ns. FindsStepAs ns (λ meets. stepping_as system modules meets (instance_of m x)) (entered_by t x)) (sym are.named)
        (step_found (instance_of m x) (stepped_by e x) (entered_by t x) (there x) (are.instances x))

  -- the whole module
  pub module_noted : (ds : List Decl) → m.decls ≡ ds → (e : Effects) (t : StepTable) → AreTables names known ds e t → (old new : Option Fault) →
      ((modified : ℕ → List ℕ) (steps : ℕ → Stepping) → AreEffects e modified steps → new ≡ first_of old (written_by modified steps overlap (flat_map next_in ds) []).faults) → new ≡ first_of old (written_through (suc n) system overlap m).faults
  unfolding written_through
  module_noted ds same e t are old new noted =
      noted (modified_in m) (steps_in system modules overlap m) (effects_are e t (subst (λ b. AreTables names known b e t) (sym same) are))
      ∙ ap (λ b. first_of old (written_by (modified_in m) (steps_in system modules overlap m) overlap (flat_map next_in b) []).faults) (sym same)

  pub module_found : (ds : List Decl) → m.decls ≡ ds → (e : Effects) (t : StepTable) → AreTables names known ds e t → (w : WrittenPairs) →
      ((modified : ℕ → List ℕ) (steps : Steps) → ((f : ℕ) → modified_by e f ≡ modified f) → FindsSteps t steps → FindsBlock t.names.now (λ meets. written_by modified (steps meets) meets (flat_map next_in ds) []) w) →
      FindsBlock names (λ meets. written_through (suc n) system meets m) w
  unfolding written_through
  module_found ds same e t are w found =
      let own : AreTables names known m.decls e t = subst (λ b. AreTables names known b e t) (sym same) are in
      subst (λ ns. FindsBlock ns (λ meets. written_by (modified_in m) (steps_in system modules meets m) meets (flat_map next_in m.decls) []) w) are.named
      (subst (λ b. FindsBlock t.names.now (λ meets. written_by (modified_in m) (steps_in system modules meets m) meets (flat_map next_in b) []) w) (sym same)
      (found (modified_in m) (λ meets. steps_in system modules meets m) (modified_are e t own) (steps_found e t own)))
