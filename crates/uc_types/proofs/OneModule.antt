-- The faults of a module of a design, and the modules one after another.
use Rattle.std.proofs.Common.{◌≡◌, ℕ, ◌<◌, List, ◌++◌, length, get_or, Option, Some, ap, ◌∙◌, sym}
use Rattle.std.specs.Prelude.{slice_get}
use Rattle.std.specs.List.{flat_map}
use Rattle.std.proofs.lemmas.Option.{slice_get-get_or}
use Rattle.uc_syntax.specs.declared.declaration.Module.{Module}
use Rattle.uc_meaning.specs.Lookup.{System}
use Rattle.uc_rules.specs.declared.fault.Fault.{Fault}
use Rattle.uc_rules.specs.Faults.{first_of}
use Rattle.uc_rules.specs.Cycles.{cycle_faults}
use Rattle.uc_rules.specs.Reads.{define_reads}
use Rattle.uc_rules.specs.Expressions.{Context}
use Rattle.uc_rules.specs.Declarations.{declaration_faults, in_module, module_faults, naming_faults}
use Rattle.uc_cycles.specs.Reading.{KnowsReads as ReadsFound}
use Rattle.uc_read_names.specs.Reading.{KnowsReads}
use Rattle.uc_rules.proofs.Chains.{first_of_append}

-- the module that a loop is at stands at its place
pub module_there : (ms items : List Module) (k : ℕ) (m d : Module) → items ≡ ms → k < length items → m ≡ get_or items k d → slice_get ms k ≡ Some m
module_there ms items k m d same within at = ap (λ xs. slice_get xs k) (sym same) ∙ slice_get-get_or items k d within ∙ ap (λ x. Some x) (sym at)

-- the defines that were found to read state are those that a scope knows
pub reads_known : (s t : System) (m n : Module) (reading : List ℕ) → t ≡ s → n ≡ m → ReadsFound t n reading → KnowsReads s m reading
unfolding ReadsFound KnowsReads
reads_known s t m n reading same there found x = found x ∙ ap (λ (u : System). define_reads u n x) same ∙ ap (λ y. define_reads s y x) there

-- a module's names, then its cycles, then its declarations
pub module_of_parts : (s : System) (m at : Module) (home : Context) (old named cyclic new : Option Fault) → at ≡ m → home ≡ in_module s at →
    named ≡ first_of old (naming_faults s at) → cyclic ≡ first_of named (cycle_faults s m) → new ≡ first_of cyclic (flat_map (declaration_faults home.system home.home) m.decls) →
    new ≡ first_of old (module_faults s m)
module_of_parts s m at home old named cyclic new is home-is by_names by_cycles by_declarations =
    by_declarations
    ∙ ap (λ (c : Context). first_of cyclic (flat_map (declaration_faults c.system c.home) m.decls)) home-is
    ∙ ap (λ x. first_of cyclic (flat_map (declaration_faults s x) m.decls)) is
    ∙ ap (λ o. first_of o (flat_map (declaration_faults s m) m.decls)) (by_cycles ∙ ap (λ o. first_of o (cycle_faults s m)) (by_names ∙ ap (λ x. first_of old (naming_faults s x)) is))
    ∙ ap (λ o. first_of o (flat_map (declaration_faults s m) m.decls)) (sym (first_of_append old (naming_faults s m) (cycle_faults s m)))
    ∙ sym (first_of_append old (naming_faults s m ++ cycle_faults s m) (flat_map (declaration_faults s m) m.decls))
