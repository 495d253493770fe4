-- The types in what is resolved are of the table, or that of null where a source names no class.
use Rattle.std.proofs.Common.{◌≡◌, ℕ, ◌+◌, ◌*◌, ◌<◌, List, [], ◌∷◌, ◌++◌, length, Bool, true, false, Option, Some, None, refl, sym, ◌∙◌, subst, arith}
use Rattle.std.specs.Prelude.{◌&&◌, is_some, codes, unwrap_or, option_map, option_and_then, if◌then◌else◌}
use Rattle.std.specs.List.{list_all}
use Rattle.std.specs.Str.{bytes_eq}
use Rattle.std.proofs.lemmas.Bool.{and_parts, and_from, lt-ltb}
use Rattle.std.proofs.lemmas.List.Folds.{list_all-append}
use Rattle.std.specs.Option.{option_or}
use Rattle.ss_core.specs.declared.names.Place.{Place}
use Rattle.ss_core.specs.declared.names.Ty.{Ty}
use Rattle.ss_core.specs.declared.names.Ty.TheVariants as ty
use Rattle.ss_core.specs.Tree as core
use Rattle.ss_core.specs.Tree.{SameOwner, OwnedAt}
use Rattle.ss_core.specs.Chain.{is_class}
use Rattle.ss_ast.specs.Expressions.{NameTree, TypeTree, TypeNameTree, IntType, BoolType, ObjectType, ClassType}
use Rattle.ss_ast.specs.Expressions as text
use Rattle.ss_ast.specs.Statements as written
use Rattle.ss_ast.specs.Programs.{ParamTree, ClassTree, ProgramTree}
use Rattle.ss_tables.specs.Members.{FieldTree, MethodTree, is_static}
use Rattle.ss_tables.specs.Classes.{Declared, class_named, field_of, above, is_array_number, declared_place}
use Rattle.ss_tables.specs.Types.{class_of, named_type, array_type, written_type}
use Rattle.ss_tables.specs.Words.{is_state_read}
use Rattle.ss_tables.specs.Statics.{Receiver, TheConsole, TheOwner, TheBase, AClass, AValue, Callee, AMethod, APrint, AWord, ABase, NoCallee, receiver, static, result_type, name_callee, member_callee}
use Rattle.ss_typed.specs.Tree.{ExprTree, LengthOf, StateOf, OwnersOf, CallOf, StaticOf, Arguments, NoMore, Argument}
use Rattle.ss_resolver_rules.specs.Names.{Known_names, Env, known, enter, declare, declare_all, declare_param, declare_params, within}
use Rattle.ss_resolver_rules.specs.declared.known.Known.{Known}
use Rattle.ss_resolver_rules.specs.declared.known.Known.TheVariants.{Variable, BoundName}
use Rattle.ss_tables.specs.Named.{named_in, named_among, with_named}
use Rattle.ss_resolver_rules.specs.Numbers.{number_or_object, class_id, type_id, class_in, array_class, method_id, table_place}
use Rattle.ss_resolver_rules.specs.Expressions.{this, read_field, known_or_field, field_after, state_word, third_class, member, method_call, base_call, owner_question, place_or_own, call_of, question, called_after, called_bare, expr, call, args}
use Rattle.ss_resolver_rules.specs.Statements.{declared_in_block, declared_in, past, behind, declarators, is_line, printed, print, call_alone, alone, simple, first, behind_first, block, stmt, stmts}
use Rattle.ss_resolver_rules.specs.Statements as rules
use Rattle.ss_expand_formed.specs.Laws.{core_of}
use Rattle.ss_expand_formed.proofs.ChainLaw.{size}
use Rattle.ss_expand_formed.proofs.Cycles.{named_within}
use Rattle.ss_expand_formed.proofs.Choosing.{on_either}
use Rattle.ss_expand_formed.proofs.Typings.{may_be, may_have, has_types, have_types, may_type, declared_typed, simple_typed, begin_typed, advance_typed, stmt_typed, block_typed, all_typed, object_known}

module _ (p : ProgramTree) where
  abbrev C : List core.ClassTree
  C = (core_of p).classes

  -- ---- classes and types

  pub class_known : (k : ℕ) → k < length p.classes → is_class C (4 + 2 * k) ≡ true
  class_known k l = let s = size p in lt-ltb (4 + 2 * k) (4 + 2 * length C) (omega arith)

  number_by : (n : List ℕ) (o : Option ℕ) → class_named p.classes n ≡ o → is_class C (number_or_object o) ≡ true
  number_by n None e = object_known C
  number_by n (Some j) e = class_known j (named_within p.classes n j e)

  id_known : (cs : List ClassTree) → cs ≡ p.classes → (n : List ℕ) → is_class C (class_id cs n) ≡ true
  id_known cs same n = subst (λ zs. is_class C (class_id zs n) ≡ true) (sym same) (number_by n (class_named p.classes n) refl)

  named_may : (non_null : Bool) (n : List ℕ) (o : Option ℕ) → class_named p.classes n ≡ o → may_have C (option_map (λ (k : ℕ). ty.Ref (record { 0 = 4 + 2 * k }) non_null) o) ≡ true
  named_may non_null n None e = refl
  named_may non_null n (Some j) e = class_known j (named_within p.classes n j e)

  array_may : (non_null : Bool) (n : List ℕ) (o : Option ℕ) → class_named p.classes n ≡ o → may_have C (option_map (λ (k : ℕ). ty.Ref (record { 0 = 5 + 2 * k }) non_null) o) ≡ true
  array_may non_null n None e = refl
  array_may non_null n (Some j) e = let l = named_within p.classes n j e in let s = size p in lt-ltb (5 + 2 * j) (4 + 2 * length C) (omega arith)

  name_may : (non_null array : Bool) (n : TypeNameTree) → may_have C (if array then array_type p.classes non_null n else named_type p.classes non_null n) ≡ true
  name_may non_null true IntType = lt-ltb 1 (4 + 2 * length C) (omega arith)
  name_may non_null false IntType = refl
  name_may non_null true BoolType = lt-ltb 2 (4 + 2 * length C) (omega arith)
  name_may non_null false BoolType = refl
  name_may non_null true ObjectType = lt-ltb 3 (4 + 2 * length C) (omega arith)
  name_may non_null false ObjectType = object_known C
  name_may non_null true (ClassType n) = array_may non_null n (class_named p.classes n) refl
  name_may non_null false (ClassType n) = named_may non_null n (class_named p.classes n) refl

  written_may : (cs : List ClassTree) → cs ≡ p.classes → (t : TypeTree) → may_have C (written_type cs t) ≡ true
  written_may cs same t = subst (λ zs. may_have C (written_type zs t) ≡ true) (sym same) (name_may t.non_null t.is_array t.name)

  or_null : (o : Option Ty) → may_have C o ≡ true → may_be C (unwrap_or o ty.Null) ≡ true
  or_null None h = refl
  or_null (Some t) h = h

  pub type_fits : (cs : List ClassTree) → cs ≡ p.classes → (t : TypeTree) → may_be C (type_id cs t) ≡ true
  type_fits cs same t = or_null (written_type cs t) (written_may cs same t)

  class_fits : (o : Option Ty) → may_have C o ≡ true → is_class C (class_in o) ≡ true
  class_fits None h = object_known C
  class_fits (Some ty.Int) h = object_known C
  class_fits (Some ty.Bool) h = object_known C
  class_fits (Some ty.Null) h = object_known C
  class_fits (Some (ty.Ref t non_null)) h = h

  array_fits : (cs : List ClassTree) → cs ≡ p.classes → (n : TypeNameTree) → is_class C (array_class cs n) ≡ true
  array_fits cs same n = subst (λ zs. is_class C (array_class zs n) ≡ true) (sym same) (class_fits (array_type p.classes true n) (name_may true true n))

  result_fits : (cs : List ClassTree) → cs ≡ p.classes → (r : Option TypeTree) → may_have C (result_type cs r) ≡ true
  result_fits cs same None = refl
  result_fits cs same (Some t) = written_may cs same t

  -- ---- what is known at a place

  abbrev known_fits : Known → Bool
  known_fits (Variable x t) = may_be C t
  known_fits (BoundName k) = true

  abbrev names_fit : Known_names → Bool
  names_fit ls = list_all (λ (l : List ℕ × Known). known_fits l.1) ls

  abbrev may_fit : Option Known → Bool
  may_fit None = true
  may_fit (Some k) = known_fits k

  pub record Fits (e : Env) : Type 0 where
    pub classes : e.scope.classes ≡ p.classes
    pub class : e.scope.class < length p.classes
    pub outcome : may_have C e.scope.outcome ≡ true
    pub inner : names_fit e.inner ≡ true
    pub outer : list_all names_fit e.outer ≡ true

  in_scope : (ls : Known_names) (x : List ℕ) → names_fit ls ≡ true → may_fit (named_in ls x) ≡ true
  in_scope [] x h = refl
  in_scope (l ∷ ls) x h =
      let both = and_parts (known_fits l.1) (names_fit ls) h in
      on_either (λ (k : Option Known). may_fit k ≡ true) (bytes_eq x l.0) (Some l.1) (named_in ls x) both.0 (in_scope ls x both.1)

  in_either : (a b : Option Known) → may_fit a ≡ true → may_fit b ≡ true → may_fit (option_or a b) ≡ true
  in_either (Some k) b h g = h
  in_either None b h g = g

  in_scopes : (ls : List Known_names) (x : List ℕ) → list_all names_fit ls ≡ true → may_fit (named_among ls x) ≡ true
  in_scopes [] x h = refl
  in_scopes (l ∷ ls) x h =
      let both = and_parts (names_fit l) (list_all names_fit ls) h in
      in_either (named_in l x) (named_among ls x) (in_scope l x both.0) (in_scopes ls x both.1)

  known_name_fits : (e : Env) → Fits e → (x : List ℕ) → may_fit (known e x) ≡ true
  known_name_fits e h x = in_either (named_in e.inner x) (named_among e.outer x) (in_scope e.inner x h.inner) (in_scopes e.outer x h.outer)

  -- ---- names and members

  abbrev Ok : ExprTree → Type 0
  Ok e = has_types C e ≡ true

  this_ok : (e : Env) → Fits e → (q : Place) → Ok (this e q)
  this_ok e h q = class_known e.scope.class h.class

  field_ok : (e : Env) → Fits e → (q : Place) (o : ExprTree) (d : Option (Declared FieldTree)) → Ok o → Ok (read_field e q o d)
  field_ok e h q o None g = refl
  field_ok e h q o (Some d) g = and_from _ _ (type_fits e.scope.classes h.classes d.member.ty) g

  name_ok : (e : Env) → Fits e → (q : Place) (x : List ℕ) (k : Option Known) → may_fit k ≡ true → Ok (known_or_field e q x k)
  name_ok e h q x (Some (Variable y t)) g = g
  name_ok e h q x (Some (BoundName k)) g = refl
  name_ok e h q x None g = field_ok e h q (this e q) (field_of e.scope.classes e.scope.class x) (this_ok e h q)

  after_ok : (e : Env) → Fits e → (q : Place) (o : ExprTree) (x : List ℕ) (k : Option ℕ) → Ok o → Ok (field_after e q o x k)
  after_ok e h q o x None g = g
  after_ok e h q o x (Some k) g = field_ok e h q o (field_of e.scope.classes k x) g

  member_ok : (e : Env) → Fits e → (q : Place) (o : ExprTree) (x : List ℕ) (t : ℕ) → Ok o → Ok (member e q o x t)
  member_ok e h q o x t g =
      on_either Ok (is_state_read x) (StateOf q (state_word x) o) (if is_array_number t then LengthOf q o else field_after e q o x (declared_place t)) g
      (on_either Ok (is_array_number t) (LengthOf q o) (field_after e q o x (declared_place t)) g (after_ok e h q o x (declared_place t) g))

  -- ---- calls

  method_ok : (e : Env) → Fits e → (q : Place) (k : ℕ) (o : ExprTree) (given : Arguments) (m : Declared MethodTree) → Ok o → have_types C given ≡ true → Ok (method_call e q k o given m)
  method_ok e h q k o given m g i =
      let t = result_fits e.scope.classes h.classes m.member.result in
      on_either Ok (is_static m.member) (StaticOf q (method_id e.scope.classes m.class m.member.name.text) (result_type e.scope.classes m.member.result) given)
      (CallOf q o (table_place e.scope.classes k m.member.name.text) (result_type e.scope.classes m.member.result) given) (and_from _ _ t i) (and_from _ _ t (and_from _ _ g i))

  base_ok : (e : Env) → Fits e → (q : Place) (given : Arguments) (m : Declared MethodTree) (k : Option ℕ) → have_types C given ≡ true → Ok (base_call e q given m k)
  base_ok e h q given m None i = refl
  base_ok e h q given m (Some k) i = and_from _ _ (result_fits e.scope.classes h.classes m.member.result) i

  call_ok : (e : Env) → Fits e → (q : Place) (r : Receiver) (o : ExprTree) (given : Arguments) (m : Declared MethodTree) → Ok o → have_types C given ≡ true → Ok (call_of e q r o given m)
  call_ok e h q TheBase o given m g i = base_ok e h q given m (above e.scope.classes e.scope.class) i
  call_ok e h q (AClass k) o given m g i = method_ok e h q k o given m g i
  call_ok e h q (AValue t) o given m g i = method_ok e h q (place_or_own e (option_and_then declared_place (option_and_then class_of t))) o given m g i
  call_ok e h q TheConsole o given m g i = refl
  call_ok e h q TheOwner o given m g i = refl

  owner_ok : (e : Env) (q : Place) (x : List ℕ) (es : text.Arguments) (given : Arguments) → have_types C given ≡ true → Ok (owner_question e q x es given)
  owner_ok e q x es NoMore i = refl
  owner_ok e q x es (Argument a NoMore) i = (and_parts (has_types C a) true i).0
  owner_ok e q x es (Argument a (Argument b more)) i =
      let both = and_parts (has_types C a) (has_types C b && have_types C more) i in
      let two = and_from _ _ both.0 (and_parts (has_types C b) (have_types C more) both.1).0 in
      on_either Ok (bytes_eq x (codes "Same")) (OwnersOf q SameOwner a b) (OwnersOf q (OwnedAt (third_class e es)) a b) two two

  question_ok : (e : Env) (q : Place) (r : Receiver) (o : ExprTree) (x : List ℕ) (es : text.Arguments) (given : Arguments) → Ok o → have_types C given ≡ true → Ok (question e q r o x es given)
  question_ok e q TheOwner o x es given g i = owner_ok e q x es given i
  question_ok e q TheBase o x es given g i = g
  question_ok e q (AClass k) o x es given g i = g
  question_ok e q (AValue t) o x es given g i = g
  question_ok e q TheConsole o x es given g i = refl

  called_ok : (e : Env) → Fits e → (q : Place) (r : Receiver) (o : ExprTree) (x : List ℕ) (es : text.Arguments) (given : Arguments) (c : Callee) → Ok o → have_types C given ≡ true → Ok (called_after e q r o x es given c)
  called_ok e h q r o x es given (AMethod m) g i = call_ok e h q r o given m g i
  called_ok e h q r o x es given (AWord k) g i = question_ok e q r o x es given g i
  called_ok e h q r o x es given (APrint is_line) g i = refl
  called_ok e h q r o x es given ABase g i = refl
  called_ok e h q r o x es given NoCallee g i = and_from _ _ refl (and_from _ _ g i)

  bare_ok : (e : Env) → Fits e → (q r : Place) (given : Arguments) (c : Callee) → have_types C given ≡ true → Ok (called_bare e q r given c)
  bare_ok e h q r given (AMethod m) i = method_ok e h q e.scope.class (this e r) given m (this_ok e h r) i
  bare_ok e h q r given (AWord k) i = refl
  bare_ok e h q r given (APrint is_line) i = refl
  bare_ok e h q r given ABase i = refl
  bare_ok e h q r given NoCallee i = refl

  -- ---- expressions

  within_fits : (e : Env) → Fits e → (n : NameTree) → Fits (within e n)
  within_fits e h n = record { classes = h.classes; class = h.class; outcome = h.outcome; inner = refl; outer = and_from _ _ h.inner h.outer }

  mutual
    pub expr_ok : (e : Env) → Fits e → (a : text.ExprTree) → Ok (expr e a)
    expr_ok e h (text.ThisOf q) = this_ok e h q
    expr_ok e h (text.BaseOf q) = this_ok e h q
    expr_ok e h (text.ResultOf q) = h.outcome
    expr_ok e h (text.NameOf q x) = name_ok e h q x (known e x) (known_name_fits e h x)
    expr_ok e h (text.ParenOf q a) = expr_ok e h a
    expr_ok e h (text.OldOf q a) = expr_ok e h a
    expr_ok e h (text.NegateOf q a) = expr_ok e h a
    expr_ok e h (text.NotOf q a) = expr_ok e h a
    expr_ok e h (text.IffOf q a b) = and_from _ _ (expr_ok e h a) (expr_ok e h b)
    expr_ok e h (text.ImpliesOf q a b) = and_from _ _ (expr_ok e h a) (expr_ok e h b)
    expr_ok e h (text.BinaryOf q o a b) = and_from _ _ (expr_ok e h a) (expr_ok e h b)
    expr_ok e h (text.IsOf q a t) = expr_ok e h a
    expr_ok e h (text.AsOf q a t) = and_from _ _ (class_fits (written_type e.scope.classes t) (written_may e.scope.classes h.classes t)) (expr_ok e h a)
    expr_ok e h (text.CastOf q t a) = and_from _ _ (class_fits (written_type e.scope.classes t) (written_may e.scope.classes h.classes t)) (expr_ok e h a)
    expr_ok e h (text.MemberOf q a n) = member_ok e h q (expr e a) n.text (class_in (static e.scope a)) (expr_ok e h a)
    expr_ok e h (text.ElementOf q a i) = and_from _ _ (expr_ok e h a) (expr_ok e h i)
    expr_ok e h (text.CallOf q f es) = called_all_ok e h q es (args e es) (args_ok e h es) f
    expr_ok e h (text.NewOf q n es) = and_from _ _ (id_known e.scope.classes h.classes n.text) (args_ok e h es)
    expr_ok e h (text.NewArrayOf q r t n) = and_from _ _ (array_fits e.scope.classes h.classes t) (expr_ok e h n)
    expr_ok e h (text.QuantifiedOf q r n from to a) = and_from _ _ (expr_ok e h from) (and_from _ _ (expr_ok e h to) (expr_ok (within e n) (within_fits e h n) a))
    expr_ok e h a = refl

    called_all_ok : (e : Env) → Fits e → (q : Place) (es : text.Arguments) (given : Arguments) → have_types C given ≡ true → (f : text.ExprTree) → Ok (call e q es given f)
    called_all_ok e h q es given i (text.NameOf r n) = bare_ok e h q r given (name_callee e.scope n) i
    called_all_ok e h q es given i (text.MemberOf r a n) =
        called_ok e h q (receiver e.scope a (static e.scope a)) (expr e a) n.text es given (member_callee e.scope n.text (receiver e.scope a (static e.scope a))) (expr_ok e h a) i
    called_all_ok e h q es given i f = refl

    pub args_ok : (e : Env) → Fits e → (es : text.Arguments) → have_types C (args e es) ≡ true
    args_ok e h text.NoMore = refl
    args_ok e h (text.Argument a es) = and_from _ _ (expr_ok e h a) (args_ok e h es)

  pub maybe_ok : (e : Env) → Fits e → (a : Option text.ExprTree) → may_type C (option_map (expr e) a) ≡ true
  maybe_ok e h None = refl
  maybe_ok e h (Some a) = expr_ok e h a

  -- ---- simple statements

  printed_ok : (e : Env) → Fits e → (q : Place) (line : Bool) (a : text.ExprTree) → simple_typed C (printed e q line a) ≡ true
  printed_ok e h q line (text.ParenOf r a) = printed_ok e h q line a
  printed_ok e h q line (text.TextOf r x) = refl
  printed_ok e h q line a = expr_ok e h a

  print_ok : (e : Env) → Fits e → (q : Place) (line : Bool) (es : text.Arguments) → simple_typed C (print e q line es) ≡ true
  print_ok e h q line text.NoMore = refl
  print_ok e h q line (text.Argument a more) = printed_ok e h q line a

  call_alone_ok : (e : Env) → Fits e → (q : Place) (x : List ℕ) (es : text.Arguments) (r : Receiver) (whole : ExprTree) → Ok whole → simple_typed C (call_alone e q x es r whole) ≡ true
  call_alone_ok e h q x es TheConsole whole g = print_ok e h q (is_line x) es
  call_alone_ok e h q x es TheOwner whole g = g
  call_alone_ok e h q x es TheBase whole g = g
  call_alone_ok e h q x es (AClass k) whole g = g
  call_alone_ok e h q x es (AValue t) whole g = g

  alone_ok : (e : Env) → Fits e → (a : text.ExprTree) → simple_typed C (alone e a) ≡ true
  alone_ok e h (text.CallOf q (text.BaseOf r) es) = args_ok e h es
  alone_ok e h (text.CallOf q (text.MemberOf r a x) es) = call_alone_ok e h q x.text es (receiver e.scope a (static e.scope a)) (expr e (text.CallOf q (text.MemberOf r a x) es)) (expr_ok e h (text.CallOf q (text.MemberOf r a x) es))
  alone_ok e h a = expr_ok e h a

  simple_ok : (e : Env) → Fits e → (x : written.SimpleTree) → simple_typed C (simple e x) ≡ true
  simple_ok e h (written.AssignOf a o b) = and_from _ _ (expr_ok e h a) (expr_ok e h b)
  simple_ok e h (written.StepOf a o) = expr_ok e h a
  simple_ok e h (written.AloneOf a) = alone_ok e h a

  advance_ok : (e : Env) → Fits e → (x : Option written.SimpleTree) → advance_typed C (option_map (simple e) x) ≡ true
  advance_ok e h None = refl
  advance_ok e h (Some x) = simple_ok e h x

  -- ---- environments

  with_known_fits : (ls : Known_names) (x : List ℕ) (k : Known) → names_fit ls ≡ true → known_fits k ≡ true → names_fit (with_named ls x k) ≡ true
  with_known_fits ls x k h g =
      on_either (λ (z : Known_names). names_fit z ≡ true) (is_some (named_in ls x)) ls (ls ++ (x, k) ∷ []) h
      (list_all-append (λ (l : List ℕ × Known). known_fits l.1) ls ((x, k) ∷ []) ∙ rw (h, g) refl)

  enter_fits : (e : Env) → Fits e → Fits (enter e)
  enter_fits e h = record { classes = h.classes; class = h.class; outcome = h.outcome; inner = refl; outer = and_from _ _ h.inner h.outer }

  past_fits : (e : Env) (ds : List rules.Declared) → Fits e → Fits (past e ds)
  past_fits e ds h = record { classes = h.classes; class = h.class; outcome = h.outcome; inner = h.inner; outer = h.outer }

  declare_fits : (e : Env) → Fits e → (t : TypeTree) (n : NameTree) → Fits (declare e t n)
  declare_fits e h t n = record { classes = h.classes; class = h.class; outcome = h.outcome; inner = with_known_fits e.inner n.text (Variable e.next (type_id e.scope.classes t)) h.inner (type_fits e.scope.classes h.classes t); outer = h.outer }

  all_fit : (e : Env) → Fits e → (t : TypeTree) (ds : List written.DeclaratorTree) → Fits (declare_all e t ds)
  all_fit e h t [] = h
  all_fit e h t (d ∷ ds) = all_fit (declare e t d.name) (declare_fits e h t d.name) t ds

  pub params_fit : (e : Env) → Fits e → (ps : List ParamTree) → Fits (declare_params e ps)
  params_fit e h [] = h
  params_fit e h (q ∷ ps) =
      params_fit (declare_param e q)
      (record { classes = h.classes; class = h.class; outcome = h.outcome; inner = with_known_fits e.inner q.name.text (Variable e.next (type_id e.scope.classes q.ty)) h.inner (type_fits e.scope.classes h.classes q.ty); outer = h.outer }) ps

  first_fits : (e : Env) → Fits e → (i : Option written.ForInitTree) → Fits (behind_first e i)
  first_fits e h None = h
  first_fits e h (Some (written.DeclareFirst d)) = all_fit e h d.ty d.declarators
  first_fits e h (Some (written.SimpleFirst x)) = h

  after_fits : (e : Env) → Fits e → (x : written.StmtTree) → Fits (behind e x)
  after_fits e h (written.DeclareOf d) = all_fit e h d.ty d.declarators
  after_fits e h (written.InBlock b) = past_fits e _ h
  after_fits e h (written.SimpleOf x) = h
  after_fits e h (written.IfOf q c a) = past_fits e _ h
  after_fits e h (written.IfElseOf q c a b) = past_fits e _ h
  after_fits e h (written.WhileOf q c es a) = past_fits e _ h
  after_fits e h (written.ForOf q i c x es a) = past_fits e _ h
  after_fits e h (written.ReturnOf q c) = h
  after_fits e h (written.AssertOf q c) = h
  after_fits e h (written.AssumeOf q c) = h
  after_fits e h (written.ExposeOf q c n b) = past_fits e _ h
  after_fits e h (written.EmptyOf q) = h

  -- ---- statements

  declarators_ok : (e : Env) → Fits e → (t : TypeTree) (ds : List written.DeclaratorTree) → declared_typed C (declarators e t ds) ≡ true
  declarators_ok e h t [] = refl
  declarators_ok e h t (d ∷ ds) = and_from _ _ (maybe_ok e h d.initial) (declarators_ok (declare e t d.name) (declare_fits e h t d.name) t ds)

  first_ok : (e : Env) → Fits e → (i : Option written.ForInitTree) → begin_typed C (first e i) ≡ true
  first_ok e h None = refl
  first_ok e h (Some (written.DeclareFirst d)) = declarators_ok e h d.ty d.declarators
  first_ok e h (Some (written.SimpleFirst x)) = simple_ok e h x

  mutual
    stmt_ok : (e : Env) → Fits e → (x : written.StmtTree) → stmt_typed C (stmt e x) ≡ true
    stmt_ok e h (written.InBlock b) = block_ok e h b
    stmt_ok e h (written.DeclareOf d) = declarators_ok e h d.ty d.declarators
    stmt_ok e h (written.SimpleOf x) = simple_ok e h x
    stmt_ok e h (written.IfOf q c a) = and_from _ _ (expr_ok e h c) (stmt_ok (enter e) (enter_fits e h) a)
    stmt_ok e h (written.IfElseOf q c a b) = and_from _ _ (expr_ok e h c) (and_from _ _ (stmt_ok (enter e) (enter_fits e h) a) (stmt_ok (enter (past e (declared_in a))) (enter_fits (past e (declared_in a)) (past_fits e (declared_in a) h)) b))
    stmt_ok e h (written.WhileOf q c es a) = and_from _ _ (expr_ok e h c) (stmt_ok (enter e) (enter_fits e h) a)
    stmt_ok e h (written.ForOf q i c x es a) =
        let z = behind_first (enter e) i in
        let g = first_fits (enter e) (enter_fits e h) i in
        and_from _ _ (first_ok (enter e) (enter_fits e h) i) (and_from _ _ (maybe_ok z g c) (and_from _ _ (advance_ok z g x) (stmt_ok (enter z) (enter_fits z g) a)))
    stmt_ok e h (written.ReturnOf q c) = maybe_ok e h c
    stmt_ok e h (written.AssertOf q c) = refl
    stmt_ok e h (written.AssumeOf q c) = refl
    stmt_ok e h (written.ExposeOf q c n b) = and_from _ _ (expr_ok e h c) (block_ok e h b)
    stmt_ok e h (written.EmptyOf q) = refl

    pub block_ok : (e : Env) → Fits e → (b : written.BlockTree) → block_typed C (block e b) ≡ true
    block_ok e h (written.BlockOf q ss end) = stmts_ok (enter e) (enter_fits e h) ss

    stmts_ok : (e : Env) → Fits e → (ss : written.StmtTrees) → all_typed C (stmts e ss) ≡ true
    stmts_ok e h written.NoMore = refl
    stmts_ok e h (written.Before x xs) = and_from _ _ (stmt_ok e h x) (stmts_ok (behind e x) (after_fits e h x) xs)
