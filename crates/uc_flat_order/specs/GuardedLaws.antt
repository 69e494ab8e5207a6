-- What slices ask.
use Rattle.std.specs.Prelude.{◌≡◌, ℕ, Bool, true, false, ◌&&◌, List}
use Rattle.std.specs.List.{list_all}
use Rattle.uc_syntax.specs.declared.statement.Stmt.{Stmt}
use Rattle.uc_syntax.specs.declared.statement.Stmt.TheOpen.{Stmt-F}
use Rattle.uc_syntax.specs.declared.statement.Stmt.TheOpen.Stmt-F.{Block, Assert, If, Case, For, Call, Next}
use Rattle.uc_syntax.specs.declared.statement.Stmt.TheFolds.{fold-Stmt}
use Rattle.uc_meaning.specs.Lookup.{System}
use Rattle.uc_meaning.specs.Code.{else_block}
use Rattle.uc_meaning.specs.Steps.{Watched, Check, Kept, Broken, Blocks, is_written, check_by}
use Rattle.uc_flat_order.specs.Slices.{all_slices}

abbrev pub all_true : List Bool → Bool
all_true bs = list_all (λ b. b) bs

abbrev pub plain_form : Stmt-F Bool → Bool
plain_form (Block place block) = all_true block
plain_form (If place arms z) = list_all (λ a. all_true a.body) arms && all_true (else_block z)
plain_form (Case place arms z) = list_all (λ a. all_true a.body) arms && all_true (else_block z)
plain_form (Assert place label e) = false
plain_form (For place x type from to block) = false
plain_form (Call place targets f arguments) = false
plain_form (Next place i) = false
plain_form other = true

-- a statement has no assert, loop, call or step of an instance inside
unfoldable pub is_plain : Stmt → Bool
is_plain = fold-Stmt Bool plain_form

-- the same is seen, but the parts that are written may be listed in another order
pub record AreAlike (v w : Watched) : Type 0 where
  pub scope : v.scope ≡ w.scope
  pub left : v.left ≡ w.left
  pub sites : v.sites ≡ w.sites
  pub written : (k : ℕ) (fields : List ℕ) → is_written v.written k fields ≡ is_written w.written k fields

abbrev pub AskAlike : Check → Check → Type 0
AskAlike (Kept v) (Kept w) = AreAlike v w
AskAlike Broken Broken = Unit {0}
AskAlike p q = ⊥

-- The slices of code have no assert, loop, call or step inside where the code has none, and then they ask what the code asks.
pub record SlicesLaw : Type 0 where
  pub plain : (code : List Stmt) → list_all is_plain (all_slices code) ≡ list_all is_plain code
  pub ask : (system : System) (blocks : Blocks) (code : List Stmt) → list_all is_plain code ≡ true → (w : Watched) → AskAlike (check_by system blocks (all_slices code) w) (check_by system blocks code w)
