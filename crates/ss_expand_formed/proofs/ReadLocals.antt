-- The locals that a resolved statement reads aren't `this`.
use Rattle.std.proofs.Common.{◌≡◌, ℕ, ◌+◌, ◌≤◌, List, [], ◌∷◌, ◌++◌, length, map, Bool, true, Option, Some, None, refl, ◌∙◌, arith}
use Rattle.std.specs.Prelude.{◌&&◌, is_some, option_map, nat_le, nat_lt}
use Rattle.std.specs.List.{list_all}
use Rattle.std.proofs.lemmas.Bool.{and_parts, and_from, leb-true, le-leb, lt-ltb}
use Rattle.std.proofs.lemmas.List.{length-map}
use Rattle.std.proofs.lemmas.List.Folds.{list_all-append}
use Rattle.ss_core.specs.declared.names.Place.{Place}
use Rattle.ss_core.specs.declared.names.Ty.{Ty}
use Rattle.ss_ast.specs.Expressions.{TypeTree}
use Rattle.ss_ast.specs.Expressions as text
use Rattle.ss_ast.specs.Statements as written
use Rattle.ss_tables.specs.Statics.{Receiver, TheConsole, TheOwner, TheBase, AClass, AValue, receiver, static}
use Rattle.ss_typed.specs.Tree.{ExprTree, LocalOf, IffOf, ImpliesOf, BinaryOf, IsOf, AsOf, NegateOf, NotOf, CastOf, FieldOf, ElementOf, LengthOf, OldOf, QuantifiedOf, StateOf, OwnersOf, NewOf, NewArrayOf, CallOf, StaticOf, BaseOf, Arguments, NoMore, Argument, SimpleTree, AssignOf, StepOf, AloneOf, PrintOf, PrintTextOf, BaseCallOf}
use Rattle.ss_resolver_rules.specs.Numbers.{type_id}
use Rattle.ss_resolver_rules.specs.Names.{Known_names, Env, enter, declare, declare_all}
use Rattle.ss_resolver_rules.specs.declared.known.Known.{Known}
use Rattle.ss_resolver_rules.specs.declared.known.Known.TheVariants.{Variable, BoundName}
use Rattle.ss_tables.specs.Named.{named_in, with_named}
use Rattle.ss_resolver_rules.specs.Expressions.{expr, args}
use Rattle.ss_resolver_rules.specs.Statements as rules
use Rattle.ss_resolver_rules.specs.Statements.{declared_by, declared_first, declared_in_block, declared_in, past, behind, declarators, printed, print, is_line, call_alone, alone, simple, first, behind_first, block, stmt, stmts}
use Rattle.ss_expand_formed.proofs.Choosing.{on_either, all_more, three_parts, all_three}
use Rattle.ss_expand_formed.proofs.Shape.{is_from, from_more}
use Rattle.ss_expand_formed.proofs.Resolving.{has_number, is_numbered, Numbered}
use Rattle.ss_expand_formed.proofs.Reading.{locals_pass, args_pass, reads_in_scope}
use Rattle.ss_expand_formed.proofs.Simple.{PrintsOnly, InDeclared}
use Rattle.ss_expand_formed.proofs.ConstructionStatements.{AllOf, AtFirst, AtStep, At, InAll, Along}
use Rattle.ss_expand_formed.proofs.Uses.{is_other, other}

-- ---- a larger set of locals

module _ (f g : ℕ → Bool) (more : (x : ℕ) → f x ≡ true → g x ≡ true) where
  mutual
    pub locals_more : (e : ExprTree) → locals_pass f e ≡ true → locals_pass g e ≡ true
    locals_more (LocalOf p x t) h = more x h
    locals_more (IffOf p a b) h = let l = and_parts (locals_pass f a) (locals_pass f b) h in and_from _ _ (locals_more a l.0) (locals_more b l.1)
    locals_more (ImpliesOf p a b) h = let l = and_parts (locals_pass f a) (locals_pass f b) h in and_from _ _ (locals_more a l.0) (locals_more b l.1)
    locals_more (BinaryOf p o a b) h = let l = and_parts (locals_pass f a) (locals_pass f b) h in and_from _ _ (locals_more a l.0) (locals_more b l.1)
    locals_more (ElementOf p a b) h = let l = and_parts (locals_pass f a) (locals_pass f b) h in and_from _ _ (locals_more a l.0) (locals_more b l.1)
    locals_more (OwnersOf p w a b) h = let l = and_parts (locals_pass f a) (locals_pass f b) h in and_from _ _ (locals_more a l.0) (locals_more b l.1)
    locals_more (IsOf p e t) h = locals_more e h
    locals_more (AsOf p e t) h = locals_more e h
    locals_more (NegateOf p e) h = locals_more e h
    locals_more (NotOf p e) h = locals_more e h
    locals_more (CastOf p t non_null e) h = locals_more e h
    locals_more (LengthOf p e) h = locals_more e h
    locals_more (OldOf p e) h = locals_more e h
    locals_more (StateOf p w e) h = locals_more e h
    locals_more (FieldOf p e k t) h = locals_more e h
    locals_more (NewArrayOf p t e) h = locals_more e h
    locals_more (QuantifiedOf p q name low high e) h = let l = three_parts (locals_pass f low) (locals_pass f high) (locals_pass f e) h in all_three _ _ _ (locals_more low l.0) (locals_more high l.1) (locals_more e l.2)
    locals_more (NewOf p t es) h = args_more es h
    locals_more (CallOf p e m t es) h = let l = and_parts (locals_pass f e) (args_pass f es) h in and_from _ _ (locals_more e l.0) (args_more es l.1)
    locals_more (StaticOf p n t es) h = args_more es h
    locals_more (BaseOf p m t es) h = args_more es h
    locals_more e h = refl

    pub args_more : (es : Arguments) → args_pass f es ≡ true → args_pass g es ≡ true
    args_more NoMore h = refl
    args_more (Argument e es) h = let l = and_parts (locals_pass f e) (args_pass f es) h in and_from _ _ (locals_more e l.0) (args_more es l.1)

-- ---- what is known at a place

abbrev have_numbers : ℕ → ℕ → Known_names → Bool
have_numbers low high ls = list_all (λ (l : List ℕ × Known). has_number low high l.1) ls

module _ (low : ℕ) where
  number_more : (n m : ℕ) → n ≤ m → (k : Known) → has_number low n k ≡ true → has_number low m k ≡ true
  number_more n m l (Variable x t) h = from_more low n m l x h
  number_more n m l (BoundName k) h = refl

  numbers_more : (n m : ℕ) → n ≤ m → (ls : Known_names) → have_numbers low n ls ≡ true → have_numbers low m ls ≡ true
  numbers_more n m l ls h = all_more (λ (x : List ℕ × Known). has_number low n x.1) (λ (x : List ℕ × Known). has_number low m x.1) (λ x i. number_more n m l x.1 i) ls h

  all_numbers_more : (n m : ℕ) → n ≤ m → (ls : List Known_names) → list_all (have_numbers low n) ls ≡ true → list_all (have_numbers low m) ls ≡ true
  all_numbers_more n m l ls h = all_more (have_numbers low n) (have_numbers low m) (numbers_more n m l) ls h

  with_known_numbered : (n : ℕ) (ls : Known_names) (x : List ℕ) (k : Known) → have_numbers low n ls ≡ true → has_number low n k ≡ true → have_numbers low n (with_named ls x k) ≡ true
  with_known_numbered n ls x k h g =
      on_either (λ (z : Known_names). have_numbers low n z ≡ true) (is_some (named_in ls x)) ls (ls ++ (x, k) ∷ []) h
      (list_all-append (λ (l : List ℕ × Known). has_number low n l.1) ls ((x, k) ∷ []) ∙ rw (h, g) refl)

  -- what is known after one more local
  one_more : (e : Env) → is_numbered low e ≡ true → low ≤ e.next → (x : List ℕ) (t : Ty) → (have_numbers low (e.next + 1) (with_named e.inner x (Variable e.next t)) && list_all (have_numbers low (e.next + 1)) e.outer) ≡ true
  one_more e h l x t =
      let both = and_parts (have_numbers low e.next e.inner) (list_all (have_numbers low e.next) e.outer) h in
      let new = and_from _ _ (le-leb low e.next l) (lt-ltb e.next (e.next + 1) (omega arith)) in
      and_from _ _ (with_known_numbered (e.next + 1) e.inner x (Variable e.next t) (numbers_more e.next (e.next + 1) (omega arith) e.inner both.0) new) (all_numbers_more e.next (e.next + 1) (omega arith) e.outer both.1)

  past_numbered : (e : Env) (ds : List rules.Declared) → is_numbered low e ≡ true → is_numbered low (past e ds) ≡ true
  past_numbered e ds h =
      let both = and_parts (have_numbers low e.next e.inner) (list_all (have_numbers low e.next) e.outer) h in
      and_from _ _ (numbers_more e.next (e.next + length ds) (omega arith) e.inner both.0) (all_numbers_more e.next (e.next + length ds) (omega arith) e.outer both.1)

  all_declared : (e : Env) (t : TypeTree) (ds : List written.DeclaratorTree) → is_numbered low e ≡ true → low ≤ e.next → Numbered low (declare_all e t ds) (e.next + length ds)
  all_declared e t [] h l = record { names = h; next = omega arith }
  all_declared e t (d ∷ ds) h l =
      let r = all_declared (declare e t d.name) t ds (one_more e h l d.name.text (type_id e.scope.classes t)) (omega arith) in
      let n = r.next in
      record { names = r.names; next = omega arith }

  declaration_length : (d : written.DeclarationTree) → length (declared_by d) ≡ length d.declarators
  declaration_length d = length-map d.declarators (λ (x : written.DeclaratorTree). record { name = x.name; ty = d.ty })

  first_numbered : (e : Env) (i : Option written.ForInitTree) → is_numbered low e ≡ true → low ≤ e.next → Numbered low (behind_first e i) (e.next + length (declared_first i))
  first_numbered e None h l = record { names = h; next = omega arith }
  first_numbered e (Some (written.DeclareFirst d)) h l = let r = all_declared e d.ty d.declarators h l in let n = declaration_length d in let m = r.next in record { names = r.names; next = omega arith }
  first_numbered e (Some (written.SimpleFirst x)) h l = record { names = h; next = omega arith }

  stays : (e : Env) → is_numbered low e ≡ true → Numbered low e (e.next + 0)
  stays e h = record { names = h; next = omega arith }

  after_numbered : (e : Env) (x : written.StmtTree) → is_numbered low e ≡ true → low ≤ e.next → Numbered low (behind e x) (e.next + length (declared_in x))
  after_numbered e (written.DeclareOf d) h l = let r = all_declared e d.ty d.declarators h l in let n = declaration_length d in let m = r.next in record { names = r.names; next = omega arith }
  after_numbered e (written.InBlock b) h l = record { names = past_numbered e (declared_in_block b) h; next = refl }
  after_numbered e (written.SimpleOf x) h l = stays e h
  after_numbered e (written.IfOf p c a) h l = record { names = past_numbered e (declared_in a) h; next = refl }
  after_numbered e (written.IfElseOf p c a b) h l = record { names = past_numbered e (declared_in a ++ declared_in b) h; next = refl }
  after_numbered e (written.WhileOf p c es a) h l = record { names = past_numbered e (declared_in a) h; next = refl }
  after_numbered e (written.ForOf p i c x es a) h l = record { names = past_numbered e (declared_first i ++ declared_in a) h; next = refl }
  after_numbered e (written.ReturnOf p c) h l = stays e h
  after_numbered e (written.AssertOf p c) h l = stays e h
  after_numbered e (written.AssumeOf p c) h l = stays e h
  after_numbered e (written.ExposeOf p c n b) h l = record { names = past_numbered e (declared_in_block b) h; next = refl }
  after_numbered e (written.EmptyOf p) h l = stays e h

-- ---- statements

abbrev pub Other : ExprTree → Type 0
Other e = locals_pass is_other e ≡ true

abbrev pub Others : Arguments → Type 0
Others es = args_pass is_other es ≡ true

-- each expression of a simple statement
abbrev pub OtherSimple : SimpleTree → Type 0
OtherSimple (AssignOf l o e) = Other l × Other e
OtherSimple (StepOf l o) = Other l
OtherSimple (AloneOf e) = Other e
OtherSimple (PrintOf p e line) = PrintsOnly Other e
OtherSimple (PrintTextOf p t line) = Unit {0}
OtherSimple (BaseCallOf p es) = Others es

from_one : (n x : ℕ) → is_from 1 n x ≡ true → is_other x ≡ true
from_one n x h = let l = leb-true 1 x (and_parts (nat_le 1 x) (nat_lt x n) h).0 in other x (omega arith)

-- a place after `this`
pub record IsInside (e : Env) : Type 0 where
  pub names : is_numbered 1 e ≡ true
  pub next : 1 ≤ e.next

inside : (e : Env) (n : ℕ) → 1 ≤ n → Numbered 1 e n → IsInside e
inside e n l h = let k = h.next in record { names = h.names; next = omega arith }

pub expr_other : (e : Env) → IsInside e → (a : text.ExprTree) → Other (expr e a)
expr_other e i a = locals_more (is_from 1 e.next) is_other (from_one e.next) (expr e a) (reads_in_scope 1 e i.names a)

args_inside : (e : Env) → IsInside e → (es : text.Arguments) → args_pass (is_from 1 e.next) (args e es) ≡ true
args_inside e i text.NoMore = refl
args_inside e i (text.Argument a es) = and_from _ _ (reads_in_scope 1 e i.names a) (args_inside e i es)

pub args_other : (e : Env) → IsInside e → (es : text.Arguments) → Others (args e es)
args_other e i es = args_more (is_from 1 e.next) is_other (from_one e.next) (args e es) (args_inside e i es)

pub if_other : (e : Env) → IsInside e → (a : Option text.ExprTree) → PrintsOnly Other (option_map (expr e) a)
if_other e i None = tt
if_other e i (Some a) = expr_other e i a

pub all_other : (e : Env) → IsInside e → (es : List text.ExprTree) → AllOf Other (map (expr e) es)
all_other e i [] = tt
all_other e i (a ∷ es) = (expr_other e i a, all_other e i es)

printed_other : (e : Env) → IsInside e → (p : Place) (line : Bool) (a : text.ExprTree) → OtherSimple (printed e p line a)
printed_other e i p line (text.ParenOf q a) = printed_other e i p line a
printed_other e i p line (text.TextOf q x) = tt
printed_other e i p line a = expr_other e i a

print_other : (e : Env) → IsInside e → (p : Place) (line : Bool) (es : text.Arguments) → OtherSimple (print e p line es)
print_other e i p line text.NoMore = tt
print_other e i p line (text.Argument a es) = printed_other e i p line a

behind_other : (e : Env) → IsInside e → (p : Place) (n : List ℕ) (es : text.Arguments) (r : Receiver) (whole : ExprTree) → Other whole → OtherSimple (call_alone e p n es r whole)
behind_other e i p n es TheConsole whole h = print_other e i p (is_line n) es
behind_other e i p n es TheOwner whole h = h
behind_other e i p n es TheBase whole h = h
behind_other e i p n es (AClass k) whole h = h
behind_other e i p n es (AValue t) whole h = h

alone_other : (e : Env) → IsInside e → (a : text.ExprTree) → OtherSimple (alone e a)
alone_other e i (text.CallOf p (text.BaseOf q) es) = args_other e i es
alone_other e i (text.CallOf p (text.MemberOf q c n) es) = behind_other e i p n.text es (receiver e.scope c (static e.scope c)) (expr e (text.CallOf p (text.MemberOf q c n) es)) (expr_other e i (text.CallOf p (text.MemberOf q c n) es))
alone_other e i a = expr_other e i a

simple_other : (e : Env) → IsInside e → (x : written.SimpleTree) → OtherSimple (simple e x)
simple_other e i (written.AssignOf a o b) = (expr_other e i a, expr_other e i b)
simple_other e i (written.StepOf a o) = expr_other e i a
simple_other e i (written.AloneOf a) = alone_other e i a

step_other : (e : Env) → IsInside e → (x : Option written.SimpleTree) → AtStep OtherSimple (option_map (simple e) x)
step_other e i None = tt
step_other e i (Some x) = simple_other e i x

declared_inside : (e : Env) → IsInside e → (t : TypeTree) (d : written.DeclaratorTree) → IsInside (declare e t d.name)
declared_inside e i t d = record { names = one_more 1 e i.names i.next d.name.text (type_id e.scope.classes t); next = omega arith }

declared_other : (e : Env) → IsInside e → (t : TypeTree) (ds : List written.DeclaratorTree) → InDeclared Other (declarators e t ds)
declared_other e i t [] = tt
declared_other e i t (d ∷ ds) = (if_other e i d.initial, declared_other (declare e t d.name) (declared_inside e i t d) t ds)

first_other : (e : Env) → IsInside e → (b : Option written.ForInitTree) → AtFirst OtherSimple Other (first e b)
first_other e i None = tt
first_other e i (Some (written.DeclareFirst d)) = declared_other e i d.ty d.declarators
first_other e i (Some (written.SimpleFirst x)) = simple_other e i x

enter_inside : (e : Env) → IsInside e → IsInside (enter e)
enter_inside e i = record { names = i.names; next = i.next }

first_inside : (e : Env) → IsInside e → (b : Option written.ForInitTree) → IsInside (behind_first e b)
first_inside e i b = let l = i.next in inside (behind_first e b) (e.next + length (declared_first b)) (omega arith) (first_numbered 1 e b i.names i.next)

past_inside : (e : Env) → IsInside e → (ds : List rules.Declared) → IsInside (past e ds)
past_inside e i ds = let l = i.next in record { names = past_numbered 1 e ds i.names; next = omega arith }

after_inside : (e : Env) → IsInside e → (x : written.StmtTree) → IsInside (behind e x)
after_inside e i x = let l = i.next in inside (behind e x) (e.next + length (declared_in x)) (omega arith) (after_numbered 1 e x i.names i.next)

mutual
  stmt_other : (e : Env) → IsInside e → (x : written.StmtTree) → At OtherSimple Other (stmt e x)
  stmt_other e i (written.InBlock b) = block_other e i b
  stmt_other e i (written.DeclareOf d) = declared_other e i d.ty d.declarators
  stmt_other e i (written.SimpleOf x) = simple_other e i x
  stmt_other e i (written.IfOf p c a) = (expr_other e i c, stmt_other (enter e) (enter_inside e i) a)
  stmt_other e i (written.IfElseOf p c a b) = (expr_other e i c, stmt_other (enter e) (enter_inside e i) a, stmt_other (enter (past e (declared_in a))) (enter_inside _ (past_inside e i (declared_in a))) b)
  stmt_other e i (written.WhileOf p c es a) = (expr_other e i c, all_other e i es, stmt_other (enter e) (enter_inside e i) a)
  stmt_other e i (written.ForOf p b c x es a) =
      let z = behind_first (enter e) b in
      let j = first_inside (enter e) (enter_inside e i) b in
      (first_other (enter e) (enter_inside e i) b, if_other z j c, step_other z j x, all_other z j es, stmt_other (enter z) (enter_inside z j) a)
  stmt_other e i (written.ReturnOf p c) = if_other e i c
  stmt_other e i (written.AssertOf p c) = expr_other e i c
  stmt_other e i (written.AssumeOf p c) = expr_other e i c
  stmt_other e i (written.ExposeOf p c n b) = (expr_other e i c, block_other e i b)
  stmt_other e i (written.EmptyOf p) = tt

  pub block_other : (e : Env) → IsInside e → (b : written.BlockTree) → InAll OtherSimple Other (block e b)
  block_other e i (written.BlockOf p ss q) = stmts_other (enter e) (enter_inside e i) ss

  stmts_other : (e : Env) → IsInside e → (ss : written.StmtTrees) → Along OtherSimple Other (stmts e ss)
  stmts_other e i written.NoMore = tt
  stmts_other e i (written.Before x xs) = (stmt_other e i x, stmts_other (behind e x) (after_inside e i x) xs)
