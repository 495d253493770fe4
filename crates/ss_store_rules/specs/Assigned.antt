-- Locals that are assigned on every path before they are read, and exposes that enclose a loop.
use Rattle.std.specs.Prelude.{ℕ, List, [], ◌∷◌, map, Bool, true, false, not, ◌==◌, ◌&&◌, ◌||◌, Some}
use Rattle.std.specs.List.{list_all, list_any}
use Rattle.ss_core.specs.Tree.{ExprTree, ExposedTree, StmtTree, LoopStmt, UnpackStmt, PackStmt, BodyTree}
use Rattle.ss_store_rules.specs.Locals.{is_argument, is_bound, reads_only, evaluated, is_target}
use Rattle.ss_store_rules.specs.Paths.{Flow, Check, holds_along}

-- ---- assigned locals

-- what is known is which locals are assigned
abbrev pub assigned_flow : Flow (ℕ → Bool)
assigned_flow = record {
  after = λ s xs. λ x. is_target s x || xs x;
  tested = λ e b xs. xs;
  meet = λ xs ys. λ x. xs x && ys x;
  head = λ s xs. xs;
}

-- the locals that a statement names beside those that its expressions read
abbrev pub operands : StmtTree → List ℕ
operands (UnpackStmt p x t) = x ∷ []
operands (PackStmt p x t) = x ∷ []
operands (LoopStmt p invariants prelude e body exposes) = map (λ (x : ExposedTree). x.local) exposes
operands s = []

abbrev pub reads_assigned : BodyTree → (ℕ → Bool) → ExprTree → Bool
reads_assigned b xs e = reads_only (λ x. xs x || is_bound b x) e

abbrev pub assigned_check : BodyTree → Check (ℕ → Bool)
assigned_check b = record {
  statement = λ s xs. list_all (reads_assigned b xs) (evaluated s) && list_all xs (operands s);
  test = λ e xs. reads_assigned b xs e;
}

-- no local is read before it is assigned; at entry the arguments are
abbrev pub reads_what_is_assigned : BodyTree → Bool
reads_what_is_assigned b = holds_along assigned_flow (assigned_check b) b.code (Some (is_argument b))

-- ---- exposes

-- what is known is which locals hold an object that was unpacked from which class, and not packed since
abbrev pub Open : Type 0
Open = ℕ → ℕ → Bool

abbrev pub opened_by : StmtTree → Open → Open
opened_by (UnpackStmt p x t) open_at = λ y u. x == y && t == u || open_at y u
opened_by (PackStmt p x t) open_at = λ y u. not (x == y && t == u) && open_at y u
opened_by s open_at = λ y u. not (is_target s y) && open_at y u

abbrev pub is_exposed_in : List ExposedTree → Open
is_exposed_in xs y u = list_any (λ (x : ExposedTree). x.local == y && x.class == u) xs

-- a loop names some of the exposes around it, and each time at its head these are open
abbrev pub named_open : StmtTree → Open → Open
named_open (LoopStmt p invariants prelude e body exposes) open_at = is_exposed_in exposes
named_open s open_at = open_at

abbrev pub open_flow : Flow Open
open_flow = record {
  after = opened_by;
  tested = λ e b open_at. open_at;
  meet = λ one other. λ y u. one y u && other y u;
  head = named_open;
}

-- those that a loop names are open where it is reached, from the front and from the end of its body
abbrev pub names_open : StmtTree → Open → Bool
names_open (LoopStmt p invariants prelude e body exposes) open_at = list_all (λ (x : ExposedTree). open_at x.local x.class) exposes
names_open s open_at = true

abbrev pub open_check : Check Open
open_check = record { statement = names_open; test = λ e open_at. true }

-- each expose that a loop names encloses it
abbrev pub names_its_exposes : BodyTree → Bool
names_its_exposes b = holds_along open_flow open_check b.code (Some (λ x t. false))
