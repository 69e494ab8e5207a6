-- The faults of a module's names, part by part.
use Rattle.std.proofs.Common.{◌≡◌, ℕ, Bool, true, false, List, [], ◌++◌, Option, refl, ap, ◌∙◌, sym}
use Rattle.std.specs.Prelude.{◌||◌, slice_index_or}
use Rattle.std.specs.List.{list_any}
use Rattle.std.specs.Str.{bytes_eq}
use Rattle.uc_syntax.specs.declared.declaration.Module.{Module}
use Rattle.uc_meaning.specs.Lookup.{System}
use Rattle.uc_rules.specs.declared.fault.Fault.{Fault}
use Rattle.uc_rules.specs.Faults.{first_of}
use Rattle.uc_rules.specs.Names.{Entry as Meant, bit_functions, is_bit_function, names_in, repeated_names}
use Rattle.uc_rules.specs.Declarations.{control_place, init_place, naming_faults, next_place, repeated_block}
use Rattle.uc_rules.proofs.Chains.{first_of_append}
use Rattle.uc_names.specs.Senses.{no_module}

-- the text of a name by the names of a design
pub is_bit : (s t : System) (x : ℕ) (b : Bool) → t ≡ s → b ≡ list_any (bytes_eq (slice_index_or t.names x [])) bit_functions → b ≡ is_bit_function s x
unfolding is_bit_function
is_bit s t x b same is = is ∙ ap (λ (u : System). list_any (bytes_eq (slice_index_or u.names x [])) bit_functions) same

pub or_first : (b c d : Bool) → b ≡ c → b ≡ true → true ≡ (c || d)
or_first b c d is h = ap (λ z. z || d) (sym h ∙ is)

pub or_second : (b c d r : Bool) → b ≡ c → b ≡ false → r ≡ d → r ≡ (c || d)
or_second b c d r is h e = e ∙ ap (λ z. z || d) (sym h ∙ is)

-- the blocks of a module that it has again
abbrev pub blocks_of : Module → List Fault
blocks_of m = repeated_block init_place m ++ (repeated_block next_place m ++ repeated_block control_place m)

pub blocks_of_parts : (m there : Module) (old a b new : Option Fault) → there ≡ m → a ≡ first_of old (repeated_block init_place m) → b ≡ first_of a (repeated_block next_place m) → new ≡ first_of b (repeated_block control_place m) →
    new ≡ first_of old (blocks_of there)
blocks_of_parts m there old a b new is of_init of_next of_control =
    of_control
    ∙ ap (λ o. first_of o (repeated_block control_place m)) of_next
    ∙ sym (first_of_append a (repeated_block next_place m) (repeated_block control_place m))
    ∙ ap (λ o. first_of o (repeated_block next_place m ++ repeated_block control_place m)) of_init
    ∙ sym (first_of_append old (repeated_block init_place m) (repeated_block next_place m ++ repeated_block control_place m))
    ∙ sym (ap (λ x. first_of old (blocks_of x)) is)

none_again : (old : Option Fault) → old ≡ first_of old (blocks_of no_module)
unfolding first_of
none_again old = refl

pub no_blocks : (there : Module) (old : Option Fault) → there ≡ no_module → old ≡ first_of old (blocks_of there)
no_blocks there old is = none_again old ∙ sym (ap (λ x. first_of old (blocks_of x)) is)

-- names, and then blocks
pub naming_of_parts : (s : System) (m : Module) (es : List Meant) (old named new : Option Fault) → es ≡ names_in s m → named ≡ first_of old (repeated_names s [] es) → new ≡ first_of named (blocks_of m) → new ≡ first_of old (naming_faults s m)
naming_of_parts s m es old named new is by_names by_blocks =
    by_blocks
    ∙ ap (λ o. first_of o (blocks_of m)) (by_names ∙ ap (λ xs. first_of old (repeated_names s [] xs)) is)
    ∙ sym (first_of_append old (repeated_names s [] (names_in s m)) (blocks_of m))
