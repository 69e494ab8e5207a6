-- The table of the commands' texts has the text of each command at its number.
use Rattle.std.proofs.Common.{◌≡◌, ℕ, List, [], refl, ap, sym, ◌∙◌}
use Rattle.std.proofs.lemmas.Option.{slice_get-map}
use Rattle.std.specs.Prelude.{Option, Some, None, slice_get}
use Rattle.std.specs.Borrow.{Bor}
use Rattle.std.specs.Option.{option_map, option_map_or}
use Rattle.uc_meaning.specs.Lines.{commands_of}
use Rattle.uc_meaning.specs.Lookup.{System}
use Rattle.uc_report.specs.HeadsText.{command_text, command_at}
use Rattle.uc_report.specs.declared.heads_tables.HeadTables.{HeadTables}
use Rattle.uc_report.specs.HeadsTables.{AreHeadTables}

some_mapped : {A B : Type 0} (f : A → B) (o : Option A) (x y : B) → Some x ≡ option_map f o → x ≡ option_map_or f o y
some_mapped f None x y e = cc
some_mapped f (Some a) x y e = cc

none_mapped : {A B : Type 0} (f : A → B) (o : Option A) (y : B) → None ≡ option_map f o → y ≡ option_map_or f o y
none_mapped f None y e = refl
none_mapped f (Some a) y e = cc

-- what the table has at a number
get_word : (d : System) (t : HeadTables) → AreHeadTables d t → (n : ℕ) →
    option_map (λ w. w.now) (slice_get t.words.items n) ≡ option_map (command_text d) (slice_get (commands_of d) n)
get_word d t are n =
    sym (slice_get-map (λ w. w.now) t.words.items n) ∙ (ap (λ ws. slice_get ws n) are.words ∙ slice_get-map (command_text d) (commands_of d) n)

pub word_there : (d : System) (t : HeadTables) → AreHeadTables d t → (n : ℕ) (w : Bor (List ℕ)) →
    Some w ≡ slice_get t.words.items n → w.now ≡ command_at d n
unfolding command_at
word_there d t are n w there =
    some_mapped (command_text d) (slice_get (commands_of d) n) w.now [] (ap (option_map (λ w. w.now)) there ∙ get_word d t are n)

pub word_missing : (d : System) (t : HeadTables) → AreHeadTables d t → (n : ℕ) →
    None ≡ slice_get t.words.items n → [] ≡ command_at d n
unfolding command_at
word_missing d t are n missing =
    none_mapped (command_text d) (slice_get (commands_of d) n) [] (ap (option_map (λ w. w.now)) missing ∙ get_word d t are n)
