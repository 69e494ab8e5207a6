-- What a design asks of its modules: they mention names and files that are there.
use Rattle.std.proofs.Common.{◌≡◌, ℕ, ◌+◌, ◌≤◌, List, [], ◌∷◌, length, sym, subst, arith}
use Rattle.uc_syntax.specs.declared.declaration.Module.{Module}
use Rattle.uc_words.proofs.Below.{names_below, files_below}
use Rattle.uc_words.proofs.Places.{files_are}
use Rattle.uc_words.specs.Below.{ModulesBelow}
use Rattle.uc_words.proofs.Laws.{answer_names, answer_files, joined_modules, no_modules}
use Rattle.uc_front.specs.declared.lexing.Source.{Source}
use Rattle.uc_front.specs.Sources.{AreLexed}
use Rattle.uc_front.specs.Denotes.{AreSpelled}

below_from : (names : List (List ℕ)) (file n : ℕ) (sources : List Source) (modules : List Module) → file + length sources ≤ n → AreLexed file sources → AreSpelled names sources modules →
    ModulesBelow (length names) n modules
below_from names file n [] modules within lexed all = subst (ModulesBelow (length names) n) (sym all) (no_modules (length names) n)
below_from names file n (s ∷ ss) modules within lexed all =
    let h = all.2 in
    let in_names = names_below names s.text s.tokens h.words h.are_words in
    let in_files = files_below n names s.text s.tokens h.words h.are_words (files_are n file s.text s.tokens (omega arith) lexed.0) in
    let first : ModulesBelow (length names) n all.0 = (answer_names 200 65535 (length names) h.words all.0 h.right in_names, answer_files 200 65535 n h.words all.0 h.right in_files) in
    let others : ModulesBelow (length names) n all.1 = below_from names (file + 1) n ss all.1 (omega arith) lexed.1 all.3 in
    subst (ModulesBelow (length names) n) (sym all.4) (joined_modules (length names) n all.0 all.1 first others)

pub modules_below : (names : List (List ℕ)) (n : ℕ) (sources : List Source) (modules : List Module) → n ≡ length sources → AreLexed 0 sources → AreSpelled names sources modules →
    ModulesBelow (length names) n modules
modules_below names n sources modules count lexed all = below_from names 0 n sources modules (omega (arith, count)) lexed all
