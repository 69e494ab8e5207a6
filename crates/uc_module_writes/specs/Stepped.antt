-- What is found of the steps of instances and of modules.
use Rattle.std.specs.Prelude.{◌≡◌, ℕ, suc, Bool, true, false, nat_eq, if◌then◌else◌, List, [], Option, Some, None}
use Rattle.std.specs.List.{filter_map, find}
use Rattle.std.specs.Option.{option_and_then, option_map}
use Rattle.indexmap.specs.IndexMap.{get}
use Rattle.uc_syntax.specs.declared.declaration.Procedure.{Procedure as ProcedureParts}
use Rattle.uc_syntax.specs.declared.declaration.Decl.{Decl}
use Rattle.uc_syntax.specs.declared.declaration.Decl.TheVariants.{Procedure}
use Rattle.uc_syntax.specs.declared.declaration.Module.{Module}
use Rattle.uc_meaning.specs.Lookup.{System, InstanceParts, first_some, instance_in, instances_of, module_named, procedure_in}
use Rattle.uc_rules.specs.declared.fault.Fault.{Fault}
use Rattle.uc_rules.specs.Faults.{first_of}
use Rattle.uc_names.specs.Senses.{module_in}
use Rattle.uc_declared_types.specs.AliasLaw.{IsAmong}
use Rattle.uc_order_rules.specs.Writes.{Meets, Part, meets_outside, outer_part, overlap, stepped_parts, written_through}
use Rattle.uc_order_rules.specs.Pairs.{Only, SameThings, any_pair}
use Rattle.uc_module_writes.specs.declared.outer.OuterNames.{OuterNames}
use Rattle.uc_module_writes.specs.Outer.{outer_part_by}
use Rattle.uc_written_once.specs.declared.effects.Effects.{Effects}
use Rattle.uc_written_once.specs.declared.effects.Stepped.{Stepped}
use Rattle.uc_written_once.specs.Effects.{procedure_by, stepped_by}
use Rattle.uc_module_writes.specs.declared.steps.StepTable.{StepTable}
use Rattle.uc_module_writes.specs.declared.written.WrittenPairs.{WrittenPairs}
use Rattle.uc_module_writes.specs.Found.{FindsBlock, TellsKept, entered_by, is_kept}
use Rattle.uc_module_writes.specs.declared.places.ModulePlaces.{ModulePlaces}
use Rattle.uc_module_writes.specs.declared.summaries.Summaries.{Summaries}
use Rattle.uc_module_writes.specs.Places.{place_by}

abbrev pub joined : Option Part → Option Part → Option (Part × Part)
joined None o = None
joined (Some p) o = option_map (λ q. (p, q)) o

abbrev pub unless : {A : Type 0} → Bool → Option A → Option A
unless true o = None
unless false o = o

-- two parts of an instance's module that do not overlap there, as parts of the parent
abbrev pub outer_pair : InstanceParts → Part × Part → Option (Part × Part)
outer_pair i p = unless (overlap p.0 p.1) (joined (outer_part i p.0) (outer_part i p.1))

abbrev pub pair_by : OuterNames → Part × Part → Option (Part × Part)
pair_by t p = unless (overlap p.0 p.1) (joined (outer_part_by t p.0) (outer_part_by t p.1))

-- What the step of an instance writes, by what its module writes.
pub record IsStep (names : List ℕ) (inner : WrittenPairs) (i : InstanceParts) (w : WrittenPairs) : Type 0 where
  pub parts : SameThings w.parts (stepped_parts i inner.parts)
  pub pairs : SameThings w.pairs (filter_map (outer_pair i) inner.pairs)
  pub kept : TellsKept names w

-- Nothing is written where nothing is known of the instance's module.
pub record IsIdle (w : WrittenPairs) : Type 0 where
  pub parts : w.parts ≡ []
  pub pairs : w.pairs ≡ []
  pub kept : w.kept ≡ []

abbrev pub IsStepAs : List ℕ → Option WrittenPairs → InstanceParts → WrittenPairs → Type 0
IsStepAs names None i w = IsIdle w
IsStepAs names (Some inner) i w = IsStep names inner i w

-- what is known of a module at a place, and of one of a name
abbrev pub summary_at : Summaries → ℕ → Option WrittenPairs
summary_at s k = get nat_eq s.written k

abbrev pub summary_by : ModulePlaces → Summaries → ℕ → Option WrittenPairs
summary_by t s x = option_and_then (summary_at s) (place_by t x)

-- the procedure that a declaration is
abbrev pub declared_procedure : Decl → Option ProcedureParts
declared_procedure (Procedure place p) = Some p
declared_procedure other = None

-- what was entered for an instance, in both tables
abbrev pub EntersStep : List ℕ → (ℕ → Option WrittenPairs) → Option InstanceParts → Option Stepped → Option WrittenPairs → Type 0
EntersStep names known None None None = Unit {0}
EntersStep names known (Some i) (Some s) (Some w) = IsStepAs names (known i.module_name) i w × (s.parts ≡ w.parts) × (s.meet ≡ any_pair overlap w.pairs)
EntersStep names known a b c = ⊥

-- The tables of a module's declarations.
pub record AreTables (names : List ℕ) (known : ℕ → Option WrittenPairs) (ds : List Decl) (e : Effects) (t : StepTable) : Type 0 where
  pub named : t.names.now ≡ names
  pub procedures : (f : ℕ) → procedure_by e f ≡ first_some (procedure_in f) ds
  pub instances : (x : ℕ) → EntersStep names known (find (λ i. nat_eq i.name x) (filter_map instance_in ds)) (stepped_by e x) (entered_by t x)

-- what is known of a module is what its next block writes, so many modules deep
abbrev pub KnowsModule : List ℕ → ℕ → System → Option WrittenPairs → Option Module → Type 0
KnowsModule names n system None None = Unit {0}
KnowsModule names n system (Some w) (Some m) = FindsBlock names (λ meets. written_through n system meets m) w
KnowsModule names n system o p = ⊥

-- Where two parts meet outside an instance alone, both are of some names.
pub record MeetsOutside (names : List ℕ) (i : InstanceParts) : Type 0 where
  pub own : Only (is_kept names) (meets_outside i overlap)
  pub passed : (meets : Meets) → Only (is_kept names) meets → Only (is_kept names) (meets_outside i meets)

abbrev pub MeetsAmong : List ℕ → Module → Type 0
MeetsAmong names m = (i : InstanceParts) → IsAmong i (instances_of m) → MeetsOutside names i

-- the modules of a module's instances are known
abbrev pub IsReady : List ℕ → (ℕ → Option WrittenPairs) → ℕ → System → Module → Type 0
IsReady names known n system m = (i : InstanceParts) → IsAmong i (instances_of m) → KnowsModule names n system (known i.module_name) (module_named system i.module_name)

-- The faults of the module at a place were noted, and what it writes was entered, by what was known before.
pub record NotesModule (names : List ℕ) (places : ModulePlaces) (system : System) (p : ℕ) (old new : Summaries) (was now : Option Fault) : Type 0 where
  pub written : WrittenPairs
  pub entered : (k : ℕ) → summary_at new k ≡ (if nat_eq p k then Some written else summary_at old k)
  pub right : (n : ℕ) → MeetsAmong names (module_in system.modules p) → IsReady names (summary_by places old) n system (module_in system.modules p) →
      FindsBlock names (λ meets. written_through (suc n) system meets (module_in system.modules p)) written
  pub faults : (n : ℕ) → MeetsAmong names (module_in system.modules p) → IsReady names (summary_by places old) n system (module_in system.modules p) →
      now ≡ first_of was (written_through (suc n) system overlap (module_in system.modules p)).faults
