-- Lines of a command among all lines.
use Rattle.std.proofs.Common.{◌≡◌, List, [], ◌∷◌, ◌++◌, Option, Some, None, ap, sym, subst, ◌⊎◌, inl, inr, ℕ, zero, suc, ◌+◌, length, Bool, true, false, arith}
use Rattle.std.specs.Prelude.{if◌then◌else◌}
use Rattle.std.specs.List.{list_any, filter_map}
use Rattle.uc_lexer.specs.declared.place.Place.{Place}
use Rattle.uc_syntax.specs.declared.place.Identifier.{Identifier}
use Rattle.uc_syntax.specs.declared.declaration.Command.{Command}
use Rattle.uc_syntax.specs.declared.declaration.Command.TheVariants.{Run as RunCommand}
use Rattle.uc_syntax.specs.declared.declaration.Procedure.{Procedure as ProcedureParts}
use Rattle.uc_syntax.specs.declared.declaration.WrittenRun.{WrittenRun}
use Rattle.uc_syntax.specs.declared.declaration.WrittenRun.TheVariants.{Unroll, Induction, Verify}
use Rattle.uc_meaning.specs.declared.line.At.{At}
use Rattle.uc_meaning.specs.declared.line.At.TheVariants.{Exactly, Base, Step, Body}
use Rattle.uc_meaning.specs.declared.line.Line.{Line}
use Rattle.uc_meaning.specs.Lookup.{System}
use Rattle.uc_meaning.specs.Lines.{Judged, all_judged, sites_after, step_sites, lines_at, lines_from, induction_lines, verify_lines, lines_of, command_lines, lines_checked, all_lines, is_check, first_of_list, procedure_named, numbered, main_declarations, IsValid}
use Rattle.uc_laws.specs.Laws.{CommandLaw}
use Rattle.uc_laws.proofs.Among.{Among, among_left, among_right, among_split}
use Rattle.uc_laws.proofs.Judges.{all_among, among_all}

numbered_at : (command : ℕ) (moment : At) (js : List Judged) (l : Line) → Among l (lines_at command moment js) → l.command ≡ command
numbered_at command moment [] l h = elim h [ ]
numbered_at command moment (j ∷ js) l (inl e) = ap (λ x. x.command) e
numbered_at command moment (j ∷ js) l (inr h) = numbered_at command moment js l h

either_way : {A B C : Type 0} → (A → C) → (B → C) → A ⊎ B → C
either_way f g (inl a) = f a
either_way f g (inr b) = g b

numbered_from : (system : System) (command : ℕ) (moment : ℕ → At) (k n : ℕ) (l : Line) → Among l (lines_from system command moment k n) → l.command ≡ command
unfolding lines_from
numbered_from system command moment k zero l h = elim h [ ]
numbered_from system command moment k (suc n) l h =
    either_way (numbered_at command (moment k) (all_judged system (sites_after system k)) l) (numbered_from system command moment (k + 1) n l)
    (among_split l (lines_at command (moment k) (all_judged system (sites_after system k))) (lines_from system command moment (k + 1) n) h)

numbered_induction : (system : System) (command depth : ℕ) (l : Line) → Among l (induction_lines system command depth) → l.command ≡ command
numbered_induction system command depth l h =
    either_way (numbered_from system command Base 0 depth l) (numbered_at command (Step depth) (all_judged system (step_sites system)) l)
    (among_split l (lines_from system command Base 0 depth) (lines_at command (Step depth) (all_judged system (step_sites system))) h)

numbered_verify : (system : System) (command : ℕ) (p : Option (ℕ × ProcedureParts)) (l : Line) → Among l (verify_lines system command p) → l.command ≡ command
numbered_verify system command None l h = elim h [ ]
numbered_verify system command (Some p) l h = numbered_at command (Body p.0) _ l h

numbered_run : (system : System) (command : ℕ) (run : WrittenRun) (l : Line) → Among l (lines_of system command run) → l.command ≡ command
numbered_run system command (Unroll n) l h = numbered_from system command Exactly 0 (n + 1) l h
numbered_run system command (Induction None) l h = numbered_induction system command 1 l h
numbered_run system command (Induction (Some k)) l h = numbered_induction system command k l h
numbered_run system command (Verify p) l h = numbered_verify system command (first_of_list (filter_map (procedure_named p.name) (numbered 0 (main_declarations system)))) l h

in_if : (b : Bool) (l : Line) (xs ys : List Line) → b ≡ true → Among l xs → Among l ((if b then xs else []) ++ ys)
in_if true l xs ys e h = among_left l xs ys h
in_if false l xs ys e h = absurd (cc)

checked : (system : System) (k : ℕ) (place : Place) (name : Option Identifier) (run : WrittenRun) (before after : List Command) (l : Line) → list_any is_check after ≡ true →
    Among l (lines_of system (k + length before) run) → Among l (lines_checked system k (before ++ (RunCommand place name run ∷ after)))
unfolding lines_checked
checked system k place name run [] after l is h =
    in_if (list_any is_check after) l (lines_of system k run) (lines_checked system (k + 1) after) is (subst (λ n. Among l (lines_of system n run)) (omega arith) h)
checked system k place name run (b ∷ before) after l is h =
    among_right l (if list_any is_check (before ++ (RunCommand place name run ∷ after)) then command_lines system k b else []) (lines_checked system (k + 1) (before ++ (RunCommand place name run ∷ after)))
    (checked system (k + 1) place name run before after l is (subst (λ n. Among l (lines_of system n run)) (omega arith) h))

pub command_holds : CommandLaw
command_holds system place name run before after are is valid =
    among_all (IsValid system) (lines_of system (length before) run) (λ l h.
    all_among (λ line. line.command ≡ length before → IsValid system line) (all_lines system) l valid
    (subst (λ cs. Among l (lines_checked system 0 cs)) (sym are) (checked system 0 place name run before after l is (subst (λ n. Among l (lines_of system n run)) (omega arith) h)))
    (numbered_run system (length before) run l h))
