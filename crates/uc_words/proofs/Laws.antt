-- The laws, with what a caller needs beside them: words and modules under greater bounds, and joined ones.
use Rattle.std.proofs.Common.{◌≡◌, ℕ, ◌≤◌, Bool, true, nat_lt, List, [], ◌∷◌, ◌++◌, refl, ap, ◌∙◌, arith}
use Rattle.std.specs.List.{list_all}
use Rattle.std.proofs.lemmas.Bool.{and_parts, and_from, ltb-true, lt-ltb}
use Rattle.std.proofs.lemmas.List.Concat.{flat_map-append}
use Rattle.uc_forms.specs.Answer.{IsAnswer, spelled}
use Rattle.uc_syntax.specs.declared.declaration.Module.{Module}
use Rattle.uc_syntax.specs.Mentions.{Mention, module_mentions, modules_mention, name_below, file_below, NamesBelow, FilesBelow}
use Rattle.uc_syntax.proofs.Mentions.{all_append, all_flat_map, all_weaker, names_below_more, files_below_more}
use Rattle.uc_grammar.specs.declared.word.Word.{Word}
use Rattle.uc_grammar.specs.declared.word.Kind.{Kind}
use Rattle.uc_grammar.specs.declared.word.Kind.TheVariants.{Name, OnBits, Range, Unroll, Induction, Verify, Check, PrintResults, PrintCex}
use Rattle.uc_grammar.specs.Language.{grammar}
use Rattle.uc_words.specs.Mentions.{kind_mentions, word_mentions, words_mention}
use Rattle.uc_words.specs.Below.{name_below_in, word_below, WordsBelow, ModulesBelow}
use Rattle.uc_words.specs.Law.{MentionsLaw, GreaterBounds, JoinedModules}
use Rattle.uc_words.proofs.Texts.{mentions_are_of_words}

-- A word below the bounds mentions only what is below them.

-- the kind of a word mentions no file
files_in : (n : ℕ) (k : Kind) → list_all (file_below n) (kind_mentions k) ≡ true
files_in n (Name x) = refl
files_in n (OnBits f x) = refl
files_in n (Range x) = refl
files_in n (Unroll x) = refl
files_in n (Induction x) = refl
files_in n (Verify x) = refl
files_in n (Check x) = refl
files_in n (PrintResults x) = refl
files_in n (PrintCex x) = refl
files_in n _ = refl

pub words_names : (names files : ℕ) (ws : List Word) → WordsBelow names files ws → NamesBelow names (words_mention ws)
words_names names files ws below = all_flat_map (name_below names) word_mentions ws (all_weaker (word_below names files) (λ w. list_all (name_below names) (word_mentions w)) here ws below)
  where
    here : (w : Word) → word_below names files w ≡ true → list_all (name_below names) (word_mentions w) ≡ true
    here w h = (and_parts (name_below_in names w.kind) (nat_lt w.place.file files) h).0

pub words_files : (names files : ℕ) (ws : List Word) → WordsBelow names files ws → FilesBelow files (words_mention ws)
words_files names files ws below = all_flat_map (file_below files) word_mentions ws (all_weaker (word_below names files) (λ w. list_all (file_below files) (word_mentions w)) here ws below)
  where
    here : (w : Word) → word_below names files w ≡ true → list_all (file_below files) (word_mentions w) ≡ true
    here w h = and_from (nat_lt w.place.file files) _ (and_parts (name_below_in names w.kind) (nat_lt w.place.file files) h).1 (files_in files w.kind)

pub mentions_law : MentionsLaw
mentions_law m names files ws modules s below =
    (mentions_are_of_words m (name_below names) ws modules s (words_names names files ws below), mentions_are_of_words m (file_below files) ws modules s (words_files names files ws below))

-- Modules.

pub greater_bounds : GreaterBounds
greater_bounds names files more_names more_files modules n f below =
    (names_below_more names more_names (modules_mention modules) n below.0, files_below_more files more_files (modules_mention modules) f below.1)

modules_mention_append : (front back : List Module) → modules_mention (front ++ back) ≡ modules_mention front ++ modules_mention back
unfolding modules_mention
modules_mention_append front back = flat_map-append module_mentions front back

pub joined_modules : JoinedModules
joined_modules names files front back f b =
    (there (name_below names) f.0 b.0, there (file_below files) f.1 b.1)
  where
    there : (test : Mention → Bool) → list_all test (modules_mention front) ≡ true → list_all test (modules_mention back) ≡ true → list_all test (modules_mention (front ++ back)) ≡ true
    there test p q = ap (λ ms. list_all test ms) (modules_mention_append front back) ∙ all_append test (modules_mention front) (modules_mention back) p q

-- no modules mention nothing
pub no_modules : (names files : ℕ) → ModulesBelow names files []
unfolding modules_mention
no_modules names files = (refl, refl)

-- What is to be answered for words mentions no more than they do.

pub answer_names : (levels limit n : ℕ) (ws : List Word) (modules : List Module) → IsAnswer grammar levels limit ws (spelled modules) → NamesBelow n (words_mention ws) → NamesBelow n (modules_mention modules)
answer_names levels limit n ws modules is below = mentions_are_of_words is.0 (name_below n) ws modules is.1 below

pub answer_files : (levels limit n : ℕ) (ws : List Word) (modules : List Module) → IsAnswer grammar levels limit ws (spelled modules) → FilesBelow n (words_mention ws) → FilesBelow n (modules_mention modules)
answer_files levels limit n ws modules is below = mentions_are_of_words is.0 (file_below n) ws modules is.1 below

pub answer_below : (levels limit names files : ℕ) (ws : List Word) (modules : List Module) → IsAnswer grammar levels limit ws (spelled modules) → WordsBelow names files ws → ModulesBelow names files modules
answer_below levels limit names files ws modules is below = mentions_law is.0 names files ws modules is.1 below

-- Words.

lt_more : (x n m : ℕ) → n ≤ m → nat_lt x n ≡ true → nat_lt x m ≡ true
lt_more x n m le h = lt-ltb x m (omega (arith, ltb-true x n h))

pub words_below_more : (names files more_names more_files : ℕ) (ws : List Word) → names ≤ more_names → files ≤ more_files → WordsBelow names files ws → WordsBelow more_names more_files ws
words_below_more names files more_names more_files ws n f below = all_weaker (word_below names files) (word_below more_names more_files) more ws below
  where
    more : (w : Word) → word_below names files w ≡ true → word_below more_names more_files w ≡ true
    more w h =
        let parts = and_parts (name_below_in names w.kind) (nat_lt w.place.file files) h in
        and_from _ _ (names_below_more names more_names (kind_mentions w.kind) n parts.0) (lt_more w.place.file files more_files f parts.1)

pub words_below_append : (names files : ℕ) (front back : List Word) → WordsBelow names files front → WordsBelow names files back → WordsBelow names files (front ++ back)
words_below_append names files front back p q = all_append (word_below names files) front back p q

-- one more word
pub words_below_push : (names files : ℕ) (ws : List Word) (w : Word) → WordsBelow names files ws → word_below names files w ≡ true → WordsBelow names files (ws ++ w ∷ [])
words_below_push names files ws w p q = all_append (word_below names files) ws (w ∷ []) p (and_from (word_below names files w) true q refl)
