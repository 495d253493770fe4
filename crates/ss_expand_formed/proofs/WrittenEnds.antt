-- Each body of an elaborated program ends in a return.
use Rattle.std.proofs.Common.{◌≡◌, ℕ, ◌+◌, List, [], ◌∷◌, ◌++◌, map, Bool, true, false, Option, Some, None, refl, ◌∙◌, ap, ⊎_elim}
use Rattle.std.specs.Prelude.{not, ◌&&◌, ◌||◌, slice_get, is_some, if◌then◌else◌, option_map}
use Rattle.std.proofs.lemmas.List.{map-append}
use Rattle.std.specs.List.{list_all}
use Rattle.std.proofs.lemmas.List.Folds.{list_all-append}
use Rattle.ss_core.specs.declared.names.Ty.{Ty}
use Rattle.ss_core.specs.Tree as core
use Rattle.ss_ast.specs.Expressions as text
use Rattle.ss_ast.specs.Statements as written
use Rattle.ss_ast.specs.Programs.{MemberKindTree, FieldsOf, InvariantOf, MethodOf, ConstructorOf, MemberTree, ClassTree, ProgramTree}
use Rattle.ss_tables.specs.Members.{MethodTree, ConstructorTree, methods_of_kind, methods_in, constructors_in}
use Rattle.ss_resolver_types_expressions.specs.Ends as ends
use Rattle.ss_resolver_types_expressions.specs.Members.{closing_brace, method_body, method_scope, result_faults, params_faults, clauses_faults, end_faults, surplus_words, implied_base, kind_faults, member_faults}
use Rattle.ss_resolver_types_expressions.specs.Statements.{block_faults}
use Rattle.ss_resolver_types_heads.specs.Faults.{no_return, fault_where}
use Rattle.ss_faults.specs.declared.Fault.{Fault}
use Rattle.ss_ast.specs.declared.class.Modifier.{Modifier}
use Rattle.ss_ast.specs.Expressions.{NameTree, TypeTree}
use Rattle.ss_resolver_types_expressions.specs.Programs.{members_faults, has_constructor, class_faults, classes_faults, type_faults}
use Rattle.ss_typed.specs.Tree.{BlockTree, BlockOf, StmtTrees, NoMore, Before, ReturnOf, BodyTree, TypedTree}
use Rattle.ss_resolver_rules.specs.Names.{Env, enter}
use Rattle.ss_resolver_rules.specs.Numbers.{type_id}
use Rattle.ss_resolver_rules.specs.Expressions.{expr}
use Rattle.ss_resolver_rules.specs.Statements.{behind_first, past, declared_in, behind, block, stmt, stmts}
use Rattle.ss_resolver_rules.specs.Programs as resolver
use Rattle.ss_resolver_rules.specs.Programs.{method_env, bodies_of, bodies_from, resolved}
use Rattle.ss_expand_rules.specs.Ends.{is_always, can_end, block_can_end, all_can_end}
use Rattle.ss_typed.specs.Shapes.{is_true, closing_brace as closing, in_block}
use Rattle.ss_expand_rules.specs.Program.{table, Origin}
use Rattle.ss_expand_rules.specs.Constructors.{implicit_constructor, before_all, constructor_stmts}
use Rattle.ss_expand_rules.specs.Bodies.{with_return, statements, elaboration_context, temporary_count, copying, code}
use Rattle.ss_store_rules.specs.Paths.{reaches_end}
use Rattle.ss_expand_formed.specs.Laws.{core_of, EndsInReturn}
use Rattle.ss_expand_formed.proofs.Bodies.{IsMade, WrittenConstructor, ImplicitConstructor, WrittenMethod, Wrapper, origin_of}
use Rattle.ss_expand_formed.proofs.Facts.{and_false, or_false, and_is_false, not_true, none_left, all_at}
use Rattle.ss_expand_formed.proofs.Resolved.{method_is}
use Rattle.ss_expand_formed.proofs.Ends.{reached, stops_last, stmts_stop}

-- ---- written bodies

all_can_end-append : (xs ys : StmtTrees) → all_can_end ys ≡ false → all_can_end (before_all xs ys) ≡ false
all_can_end-append NoMore ys h = h
all_can_end-append (Before x xs) ys h = and_false (can_end x) _ (all_can_end-append xs ys h)

-- a body without a result gets a return, and one with a result has one
abbrev pub has_return : BodyTree → Bool
has_return b = not (is_some b.result) || not b.flags.ctor && not (block_can_end b.block)

in_block_ends : (b : BlockTree) → all_can_end (in_block b) ≡ block_can_end b
in_block_ends (BlockOf p ss end) = refl

with_return_stops : (b : BodyTree) (r : Option Ty) (ctor : Bool) (special : StmtTrees) → (not (is_some r) || not ctor && not (block_can_end b.block)) ≡ true →
    all_can_end (with_return b r (if ctor then special else in_block b.block)) ≡ false
with_return_stops b None ctor special h = all_can_end-append (if ctor then special else in_block b.block) (Before (ReturnOf (closing b.block) None) NoMore) refl
with_return_stops b (Some t) true special h = absurd (let x : ⊥ = cc in x)
with_return_stops b (Some t) false special h = in_block_ends b.block ∙ not_true (block_can_end b.block) h

code_stops : (p : TypedTree) (b : BodyTree) → has_return b ≡ true → reached (code p b) ≡ false
code_stops p b h = stops_last (copying b) _ (stmts_stop (elaboration_context p b (temporary_count p b)) (statements p b) [] (with_return_stops b b.result b.flags.ctor (constructor_stmts p b) h))

-- ---- the bodies of a resolved program

always_stays : (e : Env) (c : text.ExprTree) → ends.is_always c ≡ true → is_true (expr e c) ≡ true
always_stays e (text.TruthOf p b) h = h
always_stays e (text.ParenOf p a) h = always_stays e a h
always_stays e c h = absurd (let x : ⊥ = cc in x)

endless_stays : (e : Env) (c : Option text.ExprTree) → ends.is_endless c ≡ true → is_always (option_map (expr e) c) ≡ true
endless_stays e None h = refl
endless_stays e (Some c) h = always_stays e c h

not_not : (a b : Bool) → (a ≡ true → b ≡ true) → not a ≡ false → not b ≡ false
not_not true b h e = rw (h refl) refl
not_not false b h e = absurd (let x : ⊥ = cc in x)

mutual
  stmt_stays : (e : Env) (x : written.StmtTree) → ends.reaches_end x ≡ false → can_end (stmt e x) ≡ false
  stmt_stays e (written.InBlock b) h = block_stays e b h
  stmt_stays e (written.IfElseOf p c a b) h =
      let both = or_false (ends.reaches_end a) (ends.reaches_end b) h in
      rw (stmt_stays (enter e) a both.0, stmt_stays (enter (past e (declared_in a))) b both.1) refl
  stmt_stays e (written.WhileOf p c es a) h = not_not (ends.is_always c) (is_true (expr e c)) (always_stays e c) h
  stmt_stays e (written.ForOf p i c x es a) h = not_not (ends.is_endless c) (is_always (option_map (expr (behind_first (enter e) i)) c)) (endless_stays (behind_first (enter e) i) c) h
  stmt_stays e (written.ReturnOf p c) h = refl
  stmt_stays e (written.ExposeOf p c n b) h = block_stays e b h
  stmt_stays e (written.DeclareOf d) h = absurd (let x : ⊥ = cc in x)
  stmt_stays e (written.SimpleOf x) h = absurd (let x : ⊥ = cc in x)
  stmt_stays e (written.IfOf p c a) h = absurd (let x : ⊥ = cc in x)
  stmt_stays e (written.AssertOf p c) h = absurd (let x : ⊥ = cc in x)
  stmt_stays e (written.AssumeOf p c) h = absurd (let x : ⊥ = cc in x)
  stmt_stays e (written.EmptyOf p) h = absurd (let x : ⊥ = cc in x)

  block_stays : (e : Env) (b : written.BlockTree) → ends.block_reaches_end b ≡ false → block_can_end (block e b) ≡ false
  block_stays e (written.BlockOf p ss q) h = stmts_stay (enter e) ss h

  stmts_stay : (e : Env) (ss : written.StmtTrees) → ends.all_reach_end ss ≡ false → all_can_end (stmts e ss) ≡ false
  stmts_stay e written.NoMore h = absurd (let x : ⊥ = cc in x)
  stmts_stay e (written.Before s ss) h =
      ⊎_elim
      (λ no. rw (stmt_stays e s no) refl)
      (λ yes. and_false (can_end (stmt e s)) (all_can_end (stmts (behind e s) ss)) (stmts_stay (behind e s) ss yes.1))
      (and_is_false (ends.reaches_end s) (ends.all_reach_end ss) h)

no_fault_where : (condition : Bool) (f : Fault) → fault_where condition f ≡ [] → condition ≡ false
no_fault_where true f h = absurd (let x : ⊥ = cc in x)
no_fault_where false f h = refl

no_result_or_no_end : (none ends : Bool) → ends ≡ false → (none || not ends) ≡ true
no_result_or_no_end true ends h = refl
no_result_or_no_end false ends h = rw h refl

-- a method with a result doesn't reach its end
method_returns : (cs : List ClassTree) (k : ℕ) (m : MethodTree) (r : Option TypeTree) → m.result ≡ r → (is_some r && ends.block_reaches_end m.body) ≡ false → has_return (resolver.method_body cs k m) ≡ true
method_returns cs k m None is h = rw is refl
method_returns cs k m (Some t) is h = no_result_or_no_end (not (is_some (option_map (type_id cs) m.result))) (block_can_end (block (method_env cs k m) m.body)) (block_stays (method_env cs k m) m.body h)

kind_returns : (cs : List ClassTree) (k : ℕ) (c : ClassTree) (attributes : List NameTree) (words : List Modifier) (kind : MemberKindTree) → kind_faults cs k c words kind ≡ [] →
    list_all has_return (map (resolver.method_body cs k) (methods_of_kind attributes words kind)) ≡ true
kind_returns cs k c attributes words (FieldsOf d) h = refl
kind_returns cs k c attributes words (InvariantOf e) h = refl
kind_returns cs k c attributes words (ConstructorOf n ps base clauses b) h = refl
kind_returns cs k c attributes words (MethodOf r n ps clauses b) h =
    let last = none_left (result_faults r ++ params_faults ps ++ clauses_faults (method_body cs words r) (method_scope cs k (method_body cs words r) ps) clauses ++ block_faults (method_body cs words r) (method_scope cs k (method_body cs words r) ps) b) (end_faults r b) h in
    let m : MethodTree = record { attributes = attributes; modifiers = words; result = r; name = n; params = ps; clauses = clauses; body = b } in
    rw (method_returns cs k m r refl (no_fault_where (is_some r && ends.block_reaches_end b) (no_return (closing_brace b)) last.1)) refl

members_return : (cs : List ClassTree) (k : ℕ) (c : ClassTree) (ms : List MemberTree) → members_faults cs k c ms ≡ [] → list_all has_return (map (resolver.method_body cs k) (methods_in ms)) ≡ true
members_return cs k c [] h = refl
members_return cs k c (m ∷ ms) h =
    let both = none_left (member_faults cs k c m) (members_faults cs k c ms) h in
    let kind = none_left (surplus_words m) (kind_faults cs k c m.modifiers m.kind) both.0 in
    ap (list_all has_return) (map-append (resolver.method_body cs k) (methods_of_kind m.attributes m.modifiers m.kind) (methods_in ms))
    ∙ list_all-append has_return (map (resolver.method_body cs k) (methods_of_kind m.attributes m.modifiers m.kind)) (map (resolver.method_body cs k) (methods_in ms))
    ∙ rw (kind_returns cs k c m.attributes m.modifiers m.kind kind.1, members_return cs k c ms both.1) refl

constructors_return : (cs : List ClassTree) (k : ℕ) (ds : List ConstructorTree) → list_all has_return (map (resolver.constructor_body cs k) ds) ≡ true
constructors_return cs k [] = refl
constructors_return cs k (d ∷ ds) = constructors_return cs k ds

classes_return : (all : List ClassTree) (k : ℕ) (cs : List ClassTree) → classes_faults all k cs ≡ [] → list_all has_return (bodies_from all k cs) ≡ true
classes_return all k [] h = refl
classes_return all k (c ∷ cs) h =
    let both = none_left (class_faults all k c) (classes_faults all (k + 1) cs) h in
    let members = none_left (members_faults all k c c.members) (implied_base all k (has_constructor (constructors_in c.members)) c.name.place) both.0 in
    list_all-append has_return (bodies_of all k c) (bodies_from all (k + 1) cs)
    ∙ rw (
      list_all-append has_return (map (resolver.constructor_body all k) (constructors_in c.members)) (map (resolver.method_body all k) (methods_in c.members)),
      constructors_return all k (constructors_in c.members),
      members_return all k c c.members members.0,
      classes_return all (k + 1) cs both.1,
    ) refl

-- ---- all bodies

made_returns : (p : TypedTree) → list_all has_return p.bodies ≡ true → (o : Origin) (y : core.BodyTree) → IsMade p o y → reaches_end y.code ≡ false
made_returns p all o y (WrittenConstructor {n = n} {b = b} is em en eb) = code_stops p b (all_at has_return p.bodies n b all eb)
made_returns p all o y (ImplicitConstructor {t = t} {c = c} {m = m} is ec em none) = code_stops p (implicit_constructor t c.name m.place) refl
made_returns p all o y (WrittenMethod {t = t} {m = m} {b = b} is eb own) = let at = method_is p (slice_get (table p t) m) b eb in code_stops p b (all_at has_return p.bodies at.0 b all at.1)
made_returns p all o y (Wrapper is eb own em) = refl

pub all_end_in_a_return : (p : ProgramTree) → type_faults p ≡ [] → EndsInReturn (core_of p)
all_end_in_a_return p none n b at =
    let from = origin_of (resolved p) n b at in
    made_returns (resolved p) (classes_return p.classes 0 p.classes none) from.origin b from.made
