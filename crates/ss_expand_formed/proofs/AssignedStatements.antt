-- In the code of a static method nothing of `this` is read, where names and types have no fault.
use Rattle.std.proofs.Common.{◌≡◌, ℕ, List, [], ◌∷◌, ◌++◌, map, Bool, true, false, Option, Some, None, refl, sym, ◌∙◌, ap, subst}
use Rattle.std.specs.Prelude.{◌&&◌, ◌==◌, not, is_some, codes, option_map, if◌then◌else◌}
use Rattle.std.specs.Str.{bytes_eq}
use Rattle.std.specs.List.{list_all}
use Rattle.std.proofs.lemmas.Bool.{and_parts, and_from, false≢true}
use Rattle.std.specs.Option.{option_or}
use Rattle.ss_core.specs.declared.names.Place.{Place}
use Rattle.ss_core.specs.declared.names.Ty.{Ty}
use Rattle.ss_ast.specs.declared.stmt.AssignOperator.{AssignOperator}
use Rattle.ss_ast.specs.declared.stmt.AssignOperator.TheVariants as operator
use Rattle.ss_ast.specs.Expressions.{NameTree, TypeTree, Arguments}
use Rattle.ss_ast.specs.Expressions as text
use Rattle.ss_ast.specs.Statements as written
use Rattle.ss_ast.specs.Programs.{ParamTree}
use Rattle.ss_tables.specs.Types.{written_type}
use Rattle.ss_tables.specs.Scopes as scopes
use Rattle.ss_tables.specs.Scopes.{Local, Locals, Scope, declare_local, after_init}
use Rattle.ss_tables.specs.Named.{named_in, with_named}
use Rattle.ss_tables.specs.Statics.{Receiver, TheConsole, TheOwner, TheBase, AClass, AValue, receiver, static, count}
use Rattle.ss_typed.specs.Tree.{ExprTree, DeclaratorTree, StmtTree, DeclareOf, InitTree, DeclareFirst, SimpleFirst}
use Rattle.ss_resolver_rules.specs.Names.{Known_names, Env, enter, declare, declare_all, declare_param, declare_params}
use Rattle.ss_resolver_rules.specs.declared.known.Known.{Known as Name}
use Rattle.ss_resolver_rules.specs.declared.known.Known.TheVariants.{Variable}
use Rattle.ss_resolver_rules.specs.Numbers.{type_id}
use Rattle.ss_resolver_rules.specs.Expressions.{expr, args}
use Rattle.ss_resolver_rules.specs.Statements as rules
use Rattle.ss_resolver_rules.specs.Statements.{declared_first, declared_in_block, declared_in, past, behind, declarators, is_line, printed, print, call_alone, alone, simple, first, behind_first, block, stmt, stmts}
use Rattle.ss_resolver_names_rules.specs.Faults.{twice_in, type_faults}
use Rattle.ss_resolver_names_rules.specs.Expressions.{expr_faults}
use Rattle.ss_resolver_names_rules.specs.Statements as names
use Rattle.ss_resolver_names_rules.specs.Statements.{faults_of_any, faults_of_all, declarators_faults, faults_of_any_simple, heading_faults, named_class_faults}
use Rattle.ss_resolver_types_heads.specs.Faults.{bad_type, fault_where}
use Rattle.ss_resolver_types_heads.specs.Wants.{Want, ABool, AnInt, Printable, OfType, bare, wrong, place_of, Known, known}
use Rattle.ss_resolver_types_heads.specs.Calls.{Taking, Unknown, Refused, called_console, called_member, argument_wants, wants_of, is_wrong_call, whole_call}
use Rattle.ss_resolver_types_heads.specs.Expressions.{AsValue, is_text, argument, argument_faults, condition_faults, faults, faults_as, mark_faults}
use Rattle.ss_resolver_types_expressions.specs.Statements as types
use Rattle.ss_resolver_types_expressions.specs.Statements.{Outcome, Nothing, Gives, Body, in_code, initial_faults, declarator_faults, target_faults, assigned_faults, is_target, may_stand_alone, condition, conditions, test, test_faults, step_faults, exposed_want}
use Rattle.ss_expand_formed.proofs.Facts.{none_left}
use Rattle.ss_expand_formed.proofs.Choosing.{on_either}
use Rattle.ss_expand_formed.proofs.AssignedReading.{May, reads, read_all, may_read, with_declared, declared_read, simple_reads, begin_reads, with_begun, step_reads, stmt_reads, block_reads, all_read}
use Rattle.ss_expand_formed.proofs.AssignedReading as reading
use Rattle.ss_expand_formed.proofs.Words.{calls_words, callee_words, args_words, words_called}
use Rattle.ss_expand_formed.proofs.Scopes.{known_append}
use Rattle.ss_expand_formed.proofs.AssignedStatics.{quiet, refusing, Match, either_some, enter_match, expr_context, plainly, all_quiet, call_given}

-- ---- names in scope

local_append : (ls : Locals) (x : List ℕ) (l : Local) (n : List ℕ) → named_in (ls ++ (x, l) ∷ []) n ≡ option_or (named_in ls n) (if bytes_eq n x then Some l else None)
local_append [] x l n = refl
local_append (k ∷ ls) x l n = by (bytes_eq n k.0) (local_append ls x l n)
  where
    by : (b : Bool) → named_in (ls ++ (x, l) ∷ []) n ≡ option_or (named_in ls n) (if bytes_eq n x then Some l else None) →
        (if b then Some k.1 else named_in (ls ++ (x, l) ∷ []) n) ≡ option_or (if b then Some k.1 else named_in ls n) (if bytes_eq n x then Some l else None)
    by true h = refl
    by false h = h

module _ (ls : Known_names) (ks : Locals) (x : List ℕ) (k : Name) (l : Local) (h : (n : List ℕ) → is_some (named_in ls n) ≡ is_some (named_in ks n)) where
  new_some : (b : Bool) → is_some (if b then Some k else None) ≡ is_some (if b then Some l else None)
  new_some true = refl
  new_some false = refl

  one_inner : (n : List ℕ) → is_some (named_in (with_named ls x k) n) ≡ is_some (named_in (with_named ks x l) n)
  one_inner n = by (is_some (named_in ls x)) ∙ ap (λ b. is_some (named_in (if b then ks else ks ++ (x, l) ∷ []) n)) (h x)
    where
      by : (b : Bool) → is_some (named_in (if b then ls else ls ++ (x, k) ∷ []) n) ≡ is_some (named_in (if b then ks else ks ++ (x, l) ∷ []) n)
      by true = h n
      by false =
          ap is_some (known_append ls x k n)
          ∙ either_some (named_in ls n) (if bytes_eq n x then Some k else None) (named_in ks n) (if bytes_eq n x then Some l else None) (h n) (new_some (bytes_eq n x))
          ∙ sym (ap is_some (local_append ks x l n))

declare_match : (e : Env) (t : TypeTree) (x : NameTree) → Match e → Match (declare e t x)
declare_match e t x h = record {
  inner = one_inner e.inner e.scope.inner x.text (Variable e.next (type_id e.scope.classes t)) (record { ty = written_type e.scope.classes t; is_param = false }) h.inner;
  outer = h.outer;
}

pub params_match : (e : Env) (ps : List ParamTree) → Match e → Match (declare_params e ps)
params_match e [] h = h
params_match e (p ∷ ps) h =
    params_match (declare_param e p) ps
    (record {
      inner = one_inner e.inner e.scope.inner p.name.text (Variable e.next (type_id e.scope.classes p.ty)) (record { ty = written_type e.scope.classes p.ty; is_param = true }) h.inner;
      outer = h.outer;
    })

all_match : (e : Env) (t : TypeTree) (ds : List written.DeclaratorTree) → Match e → Match (declare_all e t ds)
all_match e t [] h = h
all_match e t (d ∷ ds) h = all_match (declare e t d.name) t ds (declare_match e t d.name h)

past_match : (e : Env) (ds : List rules.Declared) → Match e → Match (past e ds)
past_match e ds h = record { inner = h.inner; outer = h.outer }

after_match : (e : Env) (x : written.StmtTree) → Match e → Match (behind e x)
after_match e (written.DeclareOf d) h = all_match e d.ty d.declarators h
after_match e (written.InBlock b) h = past_match e (declared_in_block b) h
after_match e (written.SimpleOf x) h = h
after_match e (written.IfOf p c a) h = past_match e (declared_in a) h
after_match e (written.IfElseOf p c a b) h = past_match e (declared_in a ++ declared_in b) h
after_match e (written.WhileOf p c es a) h = past_match e (declared_in a) h
after_match e (written.ForOf p i c x es a) h = past_match e (declared_first i ++ declared_in a) h
after_match e (written.ReturnOf p c) h = h
after_match e (written.AssertOf p c) h = h
after_match e (written.AssumeOf p c) h = h
after_match e (written.ExposeOf p c n b) h = past_match e (declared_in_block b) h
after_match e (written.EmptyOf p) h = h

first_match : (e : Env) (i : Option written.ForInitTree) → Match e → Match (behind_first e i)
first_match e None h = h
first_match e (Some (written.DeclareFirst d)) h = all_match e d.ty d.declarators h
first_match e (Some (written.SimpleFirst x)) h = h

-- the scopes of the phases go along with that of the resolver
module _ (f : Scope → Scope) (keeps : (s : Scope) (t : TypeTree) (x : NameTree) → declare_local (f s) t x ≡ f (declare_local s t x)) where
  all_scope : (e : Env) (t : TypeTree) (ds : List written.DeclaratorTree) → scopes.declare_all (f e.scope) t ds ≡ f (declare_all e t ds).scope
  all_scope e t [] = refl
  all_scope e t (d ∷ ds) = ap (λ s. scopes.declare_all s t ds) (keeps e.scope t d.name) ∙ all_scope (declare e t d.name) t ds

  after_scope : (e : Env) (x : written.StmtTree) → scopes.behind (f e.scope) x ≡ f (behind e x).scope
  after_scope e (written.DeclareOf d) = all_scope e d.ty d.declarators
  after_scope e (written.InBlock b) = refl
  after_scope e (written.SimpleOf x) = refl
  after_scope e (written.IfOf p c a) = refl
  after_scope e (written.IfElseOf p c a b) = refl
  after_scope e (written.WhileOf p c es a) = refl
  after_scope e (written.ForOf p i c x es a) = refl
  after_scope e (written.ReturnOf p c) = refl
  after_scope e (written.AssertOf p c) = refl
  after_scope e (written.AssumeOf p c) = refl
  after_scope e (written.ExposeOf p c n b) = refl
  after_scope e (written.EmptyOf p) = refl

  first_scope : (e : Env) (i : Option written.ForInitTree) → after_init (f e.scope) i ≡ f (behind_first e i).scope
  first_scope e None = refl
  first_scope e (Some (written.DeclareFirst d)) = all_scope e d.ty d.declarators
  first_scope e (Some (written.SimpleFirst x)) = refl

-- ---- quiet statements

-- more locals are no more of `this`
declared_quiet : (ds : List DeclaratorTree) → with_declared quiet ds ≡ quiet
declared_quiet [] = refl
declared_quiet (d ∷ ds) = declared_quiet ds

after_quiet : (x : StmtTree) → reading.behind quiet x ≡ quiet
after_quiet (DeclareOf ds) = declared_quiet ds
after_quiet x = refl

begun_quiet : (i : Option InitTree) → with_begun quiet i ≡ quiet
begun_quiet None = refl
begun_quiet (Some (DeclareFirst ds)) = declared_quiet ds
begun_quiet (Some (SimpleFirst x)) = refl

abbrev any : ℕ → Bool
any x = true

-- the first want, where there is one, is what is printed
abbrev head_printed : List Want → Bool
head_printed [] = true
head_printed (Printable ∷ ws) = true
head_printed (w ∷ ws) = false

console_wants : (k : ℕ) (n : List ℕ) → head_printed (wants_of (called_console k n)) ≡ true
console_wants k n = by (bytes_eq n (codes "Write")) (bytes_eq n (codes "WriteLine")) (k == 0)
  where
    by : (a b c : Bool) → head_printed (wants_of (if a then Taking (Printable ∷ []) else if b then Taking (if c then [] else Printable ∷ []) else Unknown)) ≡ true
    by true b c = refl
    by false true true = refl
    by false true false = refl
    by false false c = refl

console_argument : (k : ℕ) (n : List ℕ) → head_printed (argument_wants k (called_console k n)) ≡ true
console_argument k n = on_either (λ (ws : List Want). head_printed ws ≡ true) (is_wrong_call k (called_console k n)) [] (wants_of (called_console k n)) refl (console_wants k n)

module _ (r : Option Ty) (outcome : Outcome) where
  abbrev body : Body
  body = record { is_static = true; outcome = outcome }

  -- ---- expressions

  one : (e : Env) → Match e → (c : Bool) (x : text.ExprTree) → faults (expr_context r false e.scope c) AsValue x ≡ [] → expr_faults (plainly r false e.scope) x ≡ [] → reads quiet (expr e x) ≡ true
  one e match c x h n = (all_quiet r false e match x c h (words_called (plainly r false e.scope) x n)).is_quiet

  as_one : (e : Env) → Match e → (c : Bool) (v : Want) (x : text.ExprTree) → faults_as (expr_context r false e.scope c) v x ≡ [] → expr_faults (plainly r false e.scope) x ≡ [] → reads quiet (expr e x) ≡ true
  as_one e match c v x h n = one e match c x (none_left (faults (expr_context r false e.scope c) AsValue x) (wrong (refusing e.scope) v x) h).0 n

  conditions_quiet : (e : Env) → Match e → (es : List text.ExprTree) → conditions body (refusing e.scope) es ≡ [] → faults_of_all (plainly r false e.scope) es ≡ [] → list_all (reads quiet) (map (expr e) es) ≡ true
  conditions_quiet e match [] h n = refl
  conditions_quiet e match (x ∷ es) h n =
      let both = none_left (condition body (refusing e.scope) x) (conditions body (refusing e.scope) es) h in
      let found = none_left (expr_faults (plainly r false e.scope) x) (faults_of_all (plainly r false e.scope) es) n in
      and_from _ _ (as_one e match true ABool x both.0 found.0) (conditions_quiet e match es both.1 found.1)

  test_quiet : (e : Env) → Match e → (x : Option text.ExprTree) → test_faults body (refusing e.scope) x ≡ [] → faults_of_any (plainly r false e.scope) x ≡ [] → may_read quiet (option_map (expr e) x) ≡ true
  test_quiet e match None h n = refl
  test_quiet e match (Some x) h n = as_one e match false ABool x h n

  -- ---- simple statements

  printed_quiet : (e : Env) → Match e → (p : Place) (line : Bool) (x : text.ExprTree) → (is_text (bare x) ≡ false → faults (expr_context r false e.scope false) AsValue x ≡ []) → calls_words (plainly r false e.scope) x ≡ true → simple_reads quiet (printed e p line x) ≡ true
  printed_quiet e match p line (text.ParenOf q x) h w = printed_quiet e match p line x h w
  printed_quiet e match p line (text.TextOf q x) h w = refl
  printed_quiet e match p line x h w = (all_quiet r false e match x false (h refl) w).is_quiet

  first_printed : (s : Scope) (ws : List Want) (x : text.ExprTree) (es : Arguments) → head_printed ws ≡ true → argument_faults (expr_context r false s false) ws (text.Argument x es) ≡ [] → is_text (bare x) ≡ false → faults (expr_context r false s false) AsValue x ≡ []
  first_printed s [] x es i h unlike = (none_left (faults (expr_context r false s false) AsValue x) (argument_faults (expr_context r false s false) [] es) h).0
  first_printed s (Printable ∷ ws) x es i h unlike =
      let a = expr_context r false s false in
      let it = (none_left (argument a Printable x (faults a AsValue x)) (argument_faults a ws es) h).0 in
      (none_left (faults a AsValue x) (wrong (refusing s) Printable x) (rw unlike at it)).0
  first_printed s (w ∷ ws) x es i h unlike = absurd (false≢true i)

  print_quiet : (e : Env) → Match e → (p : Place) (line : Bool) (ws : List Want) → head_printed ws ≡ true → (es : Arguments) → argument_faults (expr_context r false e.scope false) ws es ≡ [] → args_words (plainly r false e.scope) es ≡ true → simple_reads quiet (print e p line es) ≡ true
  print_quiet e match p line ws i text.NoMore h w = refl
  print_quiet e match p line ws i (text.Argument x es) h w =
      printed_quiet e match p line x (first_printed e.scope ws x es i h) (and_parts (calls_words (plainly r false e.scope) x) (args_words (plainly r false e.scope) es) w).0

  call_alone_quiet : (e : Env) → Match e → (p : Place) (n : List ℕ) (es : Arguments) (v : Known) (t : Receiver) (whole : ExprTree) → reads quiet whole ≡ true →
      argument_faults (expr_context r false e.scope false) (argument_wants (count es) (called_member (expr_context r false e.scope false) (count es) v n t)) es ≡ [] → args_words (plainly r false e.scope) es ≡ true → simple_reads quiet (call_alone e p n es t whole) ≡ true
  call_alone_quiet e match p n es v TheConsole whole q h w = print_quiet e match p (is_line n) (argument_wants (count es) (called_console (count es) n)) (console_argument (count es) n) es h w
  call_alone_quiet e match p n es v TheOwner whole q h w = q
  call_alone_quiet e match p n es v TheBase whole q h w = q
  call_alone_quiet e match p n es v (AClass k) whole q h w = q
  call_alone_quiet e match p n es v (AValue t) whole q h w = q

  alone_quiet : (e : Env) → Match e → (x : text.ExprTree) → faults (expr_context r false e.scope false) AsValue x ≡ [] → calls_words (plainly r false e.scope) x ≡ true → simple_reads quiet (alone e x) ≡ true
  alone_quiet e match (text.CallOf p (text.BaseOf q) es) h w =
      let a = expr_context r false e.scope false in
      let rest = none_left (condition_faults a p true ++ whole_call p (count es) Refused) (argument_faults a (argument_wants (count es) Refused) es) h in
      refused (none_left (condition_faults a p true) (whole_call p (count es) Refused) rest.0).1
    where
      refused : bad_type p ∷ [] ≡ [] → read_all quiet (args e es) ≡ true
      refused i = absurd (let x : ⊥ = cc in x)
  alone_quiet e match (text.CallOf p (text.MemberOf q x n) es) h w =
      let s = e.scope in
      let whole = text.CallOf p (text.MemberOf q x n) es in
      call_alone_quiet e match p n.text es (known (refusing s) x) (receiver s x (static s x)) (expr e whole) (all_quiet r false e match whole false h w).is_quiet
      (call_given r false e match p q x n es (all_quiet r false e match x) false h w) (and_parts (callee_words (plainly r false s) (text.MemberOf q x n)) (args_words (plainly r false s) es) w).1
  alone_quiet e match x h w = (all_quiet r false e match x false h w).is_quiet

  assigned_quiet : (e : Env) → Match e → (o : AssignOperator) (x y : text.ExprTree) → assigned_faults (expr_context r false e.scope false) o x y ≡ [] → expr_faults (plainly r false e.scope) y ≡ [] → reads quiet (expr e y) ≡ true
  assigned_quiet e match operator.Set x y h n = as_one e match false (OfType (static (refusing e.scope) x)) y h n
  assigned_quiet e match operator.Add x y h n = as_one e match false AnInt y (none_left (wrong (refusing e.scope) AnInt x) (faults_as (expr_context r false e.scope false) AnInt y) h).1 n
  assigned_quiet e match operator.Subtract x y h n = as_one e match false AnInt y (none_left (wrong (refusing e.scope) AnInt x) (faults_as (expr_context r false e.scope false) AnInt y) h).1 n
  assigned_quiet e match operator.Multiply x y h n = as_one e match false AnInt y (none_left (wrong (refusing e.scope) AnInt x) (faults_as (expr_context r false e.scope false) AnInt y) h).1 n

  target_quiet : (e : Env) → Match e → (x : text.ExprTree) → target_faults (expr_context r false e.scope false) x ≡ [] → expr_faults (plainly r false e.scope) x ≡ [] → reads quiet (expr e x) ≡ true
  target_quiet e match x h n = one e match false x (none_left (faults (expr_context r false e.scope false) AsValue x) (fault_where (not (is_target (refusing e.scope) x)) (bad_type (place_of x))) h).0 n

  simple_quiet : (e : Env) → Match e → (x : written.SimpleTree) → types.simple_faults (expr_context r false e.scope false) x ≡ [] → names.simple_faults (plainly r false e.scope) x ≡ [] → simple_reads quiet (simple e x) ≡ true
  simple_quiet e match (written.AssignOf x o y) h n =
      let a = expr_context r false e.scope false in
      let both = none_left (target_faults a x) (assigned_faults a o x y) h in
      let found = none_left (expr_faults (plainly r false e.scope) x) (expr_faults (plainly r false e.scope) y) n in
      and_from _ _ (target_quiet e match x both.0 found.0) (assigned_quiet e match o x y both.1 found.1)
  simple_quiet e match (written.StepOf x o) h n = let a = expr_context r false e.scope false in target_quiet e match x (none_left (target_faults a x) (wrong (refusing e.scope) AnInt x) h).0 n
  simple_quiet e match (written.AloneOf x) h n =
      let a = expr_context r false e.scope false in
      alone_quiet e match x (none_left (faults a AsValue x) (fault_where (not (may_stand_alone (refusing e.scope) x)) (bad_type (place_of x))) h).0 (words_called (plainly r false e.scope) x n)

  step_quiet : (e : Env) → Match e → (x : Option written.SimpleTree) → step_faults body (refusing e.scope) x ≡ [] → faults_of_any_simple (plainly r false e.scope) x ≡ [] → step_reads quiet (option_map (simple e) x) ≡ true
  step_quiet e match None h n = refl
  step_quiet e match (Some x) h n = simple_quiet e match x h n

  -- ---- declarations

  initial_quiet : (e : Env) → Match e → (t : TypeTree) (x : Option text.ExprTree) → initial_faults (expr_context r false e.scope false) t x ≡ [] → faults_of_any (plainly r false e.scope) x ≡ [] → may_read quiet (option_map (expr e) x) ≡ true
  initial_quiet e match t None h n = refl
  initial_quiet e match t (Some x) h n = as_one e match false (OfType (written_type e.scope.classes t)) x h n

  declarators_quiet : (e : Env) → Match e → (t : TypeTree) (ds : List written.DeclaratorTree) → declarator_faults body (refusing e.scope) t ds ≡ [] → declarators_faults (plainly r false e.scope) t ds ≡ [] → declared_read any quiet (declarators e t ds) ≡ true
  declarators_quiet e match t [] h n = refl
  declarators_quiet e match t (d ∷ ds) h n =
      let f = declare e t d.name in
      let both = none_left (initial_faults (expr_context r false e.scope false) t d.initial) (declarator_faults body (refusing f.scope) t ds) h in
      let found = none_left (faults_of_any (plainly r false e.scope) d.initial ++ twice_in e.scope.inner d.name) (declarators_faults (plainly r false f.scope) t ds) n in
      let front = none_left (faults_of_any (plainly r false e.scope) d.initial) (twice_in e.scope.inner d.name) found.0 in
      and_from _ _ (initial_quiet e match t d.initial both.0 front.0) (declarators_quiet f (declare_match e t d.name match) t ds both.1 found.1)

  declaration_quiet : (e : Env) → Match e → (d : written.DeclarationTree) → types.declaration_faults body (refusing e.scope) d ≡ [] → names.declaration_faults (plainly r false e.scope) d ≡ [] → declared_read any quiet (declarators e d.ty d.declarators) ≡ true
  declaration_quiet e match d h n =
      declarators_quiet e match d.ty d.declarators (none_left (mark_faults d.ty) (declarator_faults body (refusing e.scope) d.ty d.declarators) h).1
      (none_left (type_faults e.scope.classes d.ty) (declarators_faults (plainly r false e.scope) d.ty d.declarators) n).1

  first_quiet : (e : Env) → Match e → (i : Option written.ForInitTree) → types.init_faults body (refusing e.scope) i ≡ [] → names.init_faults (plainly r false e.scope) i ≡ [] → begin_reads any quiet (first e i) ≡ true
  first_quiet e match None h n = refl
  first_quiet e match (Some (written.DeclareFirst d)) h n = declaration_quiet e match d h n
  first_quiet e match (Some (written.SimpleFirst x)) h n = simple_quiet e match x h n

  -- ---- statements

  return_quiet : (e : Env) → Match e → (o : Outcome) (p : Place) (x : Option text.ExprTree) → types.return_faults (record { is_static = true; outcome = o }) (refusing e.scope) p x ≡ [] → faults_of_any (plainly r false e.scope) x ≡ [] → may_read quiet (option_map (expr e) x) ≡ true
  return_quiet e match o p None h n = refl
  return_quiet e match Nothing p (Some x) h n = one e match false x (none_left (faults (expr_context r false e.scope false) AsValue x) _ h).0 n
  return_quiet e match (Gives t) p (Some x) h n = as_one e match false (OfType t) x h n

  mutual
    stmt_quiet : (e : Env) → Match e → (x : written.StmtTree) → types.stmt_faults body (refusing e.scope) x ≡ [] → names.stmt_faults (plainly r false e.scope) x ≡ [] → stmt_reads any quiet (stmt e x) ≡ true
    stmt_quiet e match (written.InBlock b) h n = block_quiet e match b h n
    stmt_quiet e match (written.DeclareOf d) h n = declaration_quiet e match d h n
    stmt_quiet e match (written.SimpleOf x) h n = simple_quiet e match x h n
    stmt_quiet e match (written.IfOf p c x) h n =
        let i = enter e in
        let both = none_left (test body (refusing e.scope) c) (types.stmt_faults body (refusing i.scope) x) h in
        let found = none_left (expr_faults (plainly r false e.scope) c) (names.stmt_faults (plainly r false i.scope) x) n in
        and_from _ _ (as_one e match false ABool c both.0 found.0) (stmt_quiet i (enter_match e match) x both.1 found.1)
    stmt_quiet e match (written.IfElseOf p c x y) h n =
        let i = enter e in
        let f = past e (declared_in x) in
        let rest = none_left (test body (refusing e.scope) c ++ types.stmt_faults body (refusing i.scope) x) (types.stmt_faults body (refusing i.scope) y) h in
        let both = none_left (test body (refusing e.scope) c) (types.stmt_faults body (refusing i.scope) x) rest.0 in
        let found = none_left (expr_faults (plainly r false e.scope) c ++ names.stmt_faults (plainly r false i.scope) x) (names.stmt_faults (plainly r false i.scope) y) n in
        let front = none_left (expr_faults (plainly r false e.scope) c) (names.stmt_faults (plainly r false i.scope) x) found.0 in
        and_from _ _ (as_one e match false ABool c both.0 front.0) (and_from _ _ (stmt_quiet i (enter_match e match) x both.1 front.1) (stmt_quiet (enter f) (enter_match f (past_match e (declared_in x) match)) y rest.1 found.1))
    stmt_quiet e match (written.WhileOf p c es x) h n =
        let i = enter e in
        let rest = none_left (test body (refusing e.scope) c ++ conditions body (refusing e.scope) es) (types.stmt_faults body (refusing i.scope) x) h in
        let both = none_left (test body (refusing e.scope) c) (conditions body (refusing e.scope) es) rest.0 in
        let found = none_left (expr_faults (plainly r false e.scope) c ++ faults_of_all (plainly r false e.scope) es) (names.stmt_faults (plainly r false i.scope) x) n in
        let front = none_left (expr_faults (plainly r false e.scope) c) (faults_of_all (plainly r false e.scope) es) found.0 in
        and_from _ _ (as_one e match false ABool c both.0 front.0) (and_from _ _ (conditions_quiet e match es both.1 front.1) (stmt_quiet i (enter_match e match) x rest.1 found.1))
    stmt_quiet e match (written.ForOf p i c x es y) h n =
        let o = enter e in
        let in_o = enter_match e match in
        let z = behind_first o i in
        let in_z = first_match o i in_o in
        let refused = first_scope refusing (λ s t q. refl) o i in
        let plain = first_scope (plainly r false) (λ s t q. refl) o i in
        let a = types.init_faults body (refusing o.scope) i in
        let ts : a ++ test_faults body (refusing z.scope) c ++ step_faults body (refusing z.scope) x ++ conditions body (refusing z.scope) es ++ types.stmt_faults body (scopes.enter (refusing z.scope)) y ≡ [] =
        subst (λ s. a ++ test_faults body s c ++ step_faults body s x ++ conditions body s es ++ types.stmt_faults body (scopes.enter s) y ≡ []) refused h in
        let m = names.init_faults (plainly r false o.scope) i in
        let ns : m ++ heading_faults (plainly r false z.scope) c x es ++ names.stmt_faults (scopes.enter (plainly r false z.scope)) y ≡ [] =
        subst (λ s. m ++ heading_faults s c x es ++ names.stmt_faults (scopes.enter s) y ≡ []) plain n in
        let four = none_left (a ++ test_faults body (refusing z.scope) c ++ step_faults body (refusing z.scope) x ++ conditions body (refusing z.scope) es) (types.stmt_faults body (scopes.enter (refusing z.scope)) y) ts in
        let three = none_left (a ++ test_faults body (refusing z.scope) c ++ step_faults body (refusing z.scope) x) (conditions body (refusing z.scope) es) four.0 in
        let two = none_left (a ++ test_faults body (refusing z.scope) c) (step_faults body (refusing z.scope) x) three.0 in
        let front = none_left a (test_faults body (refusing z.scope) c) two.0 in
        let last = none_left (m ++ heading_faults (plainly r false z.scope) c x es) (names.stmt_faults (scopes.enter (plainly r false z.scope)) y) ns in
        let head = none_left m (heading_faults (plainly r false z.scope) c x es) last.0 in
        let more = none_left (faults_of_any (plainly r false z.scope) c ++ faults_of_any_simple (plainly r false z.scope) x) (faults_of_all (plainly r false z.scope) es) head.1 in
        let heads = none_left (faults_of_any (plainly r false z.scope) c) (faults_of_any_simple (plainly r false z.scope) x) more.0 in
        and_from _ _ (first_quiet o in_o i front.0 head.0)
        (subst (λ k. (may_read k (option_map (expr z) c) && (step_reads k (option_map (simple z) x) && (list_all (reads k) (map (expr z) es) && stmt_reads any k (stmt (enter z) y)))) ≡ true) (sym (begun_quiet (first o i)))
        (and_from _ _ (test_quiet z in_z c front.1 heads.0)
        (and_from _ _ (step_quiet z in_z x two.1 heads.1) (and_from _ _ (conditions_quiet z in_z es three.1 more.1) (stmt_quiet (enter z) (enter_match z in_z) y four.1 last.1)))))
    stmt_quiet e match (written.ReturnOf p c) h n = return_quiet e match outcome p c h n
    stmt_quiet e match (written.AssertOf p c) h n = as_one e match true ABool c h n
    stmt_quiet e match (written.AssumeOf p c) h n = as_one e match true ABool c h n
    stmt_quiet e match (written.ExposeOf p c k b) h n =
        let want = exposed_want e.scope.classes k in
        let both = none_left (faults_as (expr_context r false e.scope false) want c) (types.block_faults body (refusing e.scope) b) h in
        let found = none_left (expr_faults (plainly r false e.scope) c ++ named_class_faults e.scope.classes k) (names.block_faults (plainly r false e.scope) b) n in
        let front = none_left (expr_faults (plainly r false e.scope) c) (named_class_faults e.scope.classes k) found.0 in
        and_from _ _ (as_one e match false want c both.0 front.0) (block_quiet e match b both.1 found.1)
    stmt_quiet e match (written.EmptyOf p) h n = refl

    pub block_quiet : (e : Env) → Match e → (b : written.BlockTree) → types.block_faults body (refusing e.scope) b ≡ [] → names.block_faults (plainly r false e.scope) b ≡ [] → block_reads any quiet (block e b) ≡ true
    block_quiet e match (written.BlockOf p ss q) h n = stmts_quiet (enter e) (enter_match e match) ss h n

    stmts_quiet : (e : Env) → Match e → (ss : written.StmtTrees) → types.stmts_faults body (refusing e.scope) ss ≡ [] → names.stmts_faults (plainly r false e.scope) ss ≡ [] → all_read any quiet (stmts e ss) ≡ true
    stmts_quiet e match written.NoMore h n = refl
    stmts_quiet e match (written.Before x xs) h n =
        let f = behind e x in
        let both = none_left (types.stmt_faults body (refusing e.scope) x) (types.stmts_faults body (scopes.behind (refusing e.scope) x) xs) h in
        let found = none_left (names.stmt_faults (plainly r false e.scope) x) (names.stmts_faults (scopes.behind (plainly r false e.scope) x) xs) n in
        let later = subst (λ s. types.stmts_faults body s xs ≡ []) (after_scope refusing (λ s t q. refl) e x) both.1 in
        let later_names = subst (λ s. names.stmts_faults s xs ≡ []) (after_scope (plainly r false) (λ s t q. refl) e x) found.1 in
        and_from _ _ (stmt_quiet e match x both.0 found.0)
        (subst (λ k. all_read any k (stmts f xs) ≡ true) (sym (after_quiet (stmt e x))) (stmts_quiet f (after_match e x match) xs later later_names))
