-- The text of a statement: a line of its own, or for a branch and a loop several.
use Rattle.std.specs.Prelude.{ℕ, List, [], ◌∷◌, ◌++◌, codes, Bool, ◌==◌, if◌then◌else◌, Option, Some, None, slice_get}
use Rattle.std.specs.List.{flat_map}
use Rattle.ss_core.specs.Tree.{ExprTree, CalleeTree, Dispatched, Static, Base, BaseConstructor, StmtTree, AssignStmt, WriteStmt, WriteElementStmt, NewStmt, NewArrayStmt, CallStmt, ReadyStmt, IfStmt, LoopStmt, UnpackStmt, PackStmt, AssertStmt, AssumeStmt, PrintStmt, PrintTextStmt, ReturnStmt, CodeTree, NoCode, Then, CoreTree}
use Rattle.ss_report_names.specs.Names.{class_name, element_name, field_name, method_name, title_of_body, name_of_body, local_text}
use Rattle.ss_report_core.specs.Exprs.{expr_text}

-- ---- literals

-- a byte of a string, where it is escaped by a backslash
abbrev pub escaped : ℕ → List ℕ
escaped b = if b == 34 then codes "\\\"" else if b == 92 then codes "\\\\" else if b == 10 then codes "\\n" else if b == 13 then codes "\\r" else if b == 9 then codes "\\t" else if b == 0 then codes "\\0" else b ∷ []

abbrev pub literal : List ℕ → List ℕ
literal bytes = codes "\"" ++ flat_map escaped bytes ++ codes "\""

-- ---- parts of statements

-- a line: what it is indented by, its text, and the line end
abbrev pub line : List ℕ → List ℕ → List ℕ
line indent text = indent ++ text ++ codes "\n"

-- one level deeper
abbrev pub deeper : List ℕ → List ℕ
deeper indent = indent ++ codes "  "

abbrev pub after_comma : CoreTree → List (List ℕ) → ExprTree → List ℕ
after_comma c names e = codes ", " ++ expr_text c.classes names e

-- expressions with commas between them
abbrev pub args_text : CoreTree → List (List ℕ) → List ExprTree → List ℕ
args_text c names [] = []
args_text c names (e ∷ es) = expr_text c.classes names e ++ flat_map (after_comma c names) es

-- the local that keeps a result
abbrev pub kept_text : List (List ℕ) → Option ℕ → List ℕ
kept_text names None = []
kept_text names (Some x) = local_text names x ++ codes " = "

-- what a call enters
abbrev pub callee_text : CoreTree → List (List ℕ) → CalleeTree → List ℕ
callee_text c names (Dispatched e t m) = expr_text c.classes names e ++ codes "." ++ method_name c.classes t m
callee_text c names (Static n) = title_of_body c.classes (slice_get c.bodies n)
callee_text c names (Base n) = codes "base." ++ name_of_body (slice_get c.bodies n)
callee_text c names (BaseConstructor n) = codes "base"

-- an expression after a blank, where there is one
abbrev pub after_blank : CoreTree → List (List ℕ) → Option ExprTree → List ℕ
after_blank c names None = []
after_blank c names (Some e) = codes " " ++ expr_text c.classes names e

-- `Write` or `WriteLine`
abbrev pub print_word : Bool → List ℕ
print_word newline = if newline then codes "printline" else codes "print"

abbrev pub invariant_text : CoreTree → List (List ℕ) → List ℕ → ExprTree → List ℕ
invariant_text c names indent e = line indent (codes "invariant " ++ expr_text c.classes names e)

-- ---- statements

-- A statement with this indentation, and statements one after the other. The mark of a written field, the class that declares it, and the exposes
-- around a loop aren't written.
abbrev mutual
  pub stmt_text : CoreTree → List (List ℕ) → List ℕ → StmtTree → List ℕ
  stmt_text c names indent (AssignStmt p x e) = line indent (local_text names x ++ codes " = " ++ expr_text c.classes names e)
  stmt_text c names indent (WriteStmt p o f m t e) = line indent (expr_text c.classes names o ++ codes "." ++ field_name c.classes f ++ codes " = " ++ expr_text c.classes names e)
  stmt_text c names indent (WriteElementStmt p a i e) = line indent (expr_text c.classes names a ++ codes "[" ++ expr_text c.classes names i ++ codes "] = " ++ expr_text c.classes names e)
  stmt_text c names indent (NewStmt p x t es) = line indent (kept_text names x ++ codes "new " ++ class_name c.classes t ++ codes "(" ++ args_text c names es ++ codes ")")
  stmt_text c names indent (NewArrayStmt p x t e) = line indent (kept_text names x ++ codes "new " ++ element_name c.classes t ++ codes "[" ++ expr_text c.classes names e ++ codes "]")
  stmt_text c names indent (CallStmt p x callee es) = line indent (kept_text names x ++ callee_text c names callee ++ codes "(" ++ args_text c names es ++ codes ")")
  stmt_text c names indent (ReadyStmt p) = line indent (codes "ready this")
  stmt_text c names indent (IfStmt p e a b) = line indent (codes "if " ++ expr_text c.classes names e) ++ line indent (codes "then") ++ code_text c names (deeper indent) a ++ line indent (codes "else") ++ code_text c names (deeper indent) b ++ line indent (codes "done")
  stmt_text c names indent (LoopStmt p invariants prelude e body exposes) = line indent (codes "loop") ++ flat_map (invariant_text c names indent) invariants ++ code_text c names (deeper indent) prelude ++ line indent (codes "test " ++ expr_text c.classes names e) ++ code_text c names (deeper indent) body ++ line indent (codes "done")
  stmt_text c names indent (UnpackStmt p x t) = line indent (codes "unpack " ++ local_text names x ++ codes " from " ++ class_name c.classes t)
  stmt_text c names indent (PackStmt p x t) = line indent (codes "pack " ++ local_text names x ++ codes " as " ++ class_name c.classes t)
  stmt_text c names indent (AssertStmt p e) = line indent (codes "assert " ++ expr_text c.classes names e)
  stmt_text c names indent (AssumeStmt p e) = line indent (codes "assume " ++ expr_text c.classes names e)
  stmt_text c names indent (PrintStmt p e newline) = line indent (print_word newline ++ after_blank c names e)
  stmt_text c names indent (PrintTextStmt p text newline) = line indent (print_word newline ++ codes " " ++ literal text)
  stmt_text c names indent (ReturnStmt p e) = line indent (codes "return" ++ after_blank c names e)

  pub code_text : CoreTree → List (List ℕ) → List ℕ → CodeTree → List ℕ
  code_text c names indent NoCode = []
  code_text c names indent (Then s code) = stmt_text c names indent s ++ code_text c names indent code
