-- Resolved expressions and statements read locals that are in scope.
use Rattle.std.proofs.Common.{◌≡◌, ℕ, ◌≤◌, List, [], ◌∷◌, ◌++◌, map, Bool, true, false, Option, Some, None, refl, sym, subst, arith}
use Rattle.std.specs.Prelude.{◌&&◌, ◌==◌, is_some, nat_le, codes, option_map, if◌then◌else◌}
use Rattle.std.specs.Str.{bytes_eq}
use Rattle.std.specs.List.{list_all}
use Rattle.std.proofs.lemmas.Bool.{and_parts, and_from, or_left, or_right, eq-eqb, le-leb}
use Rattle.std.specs.Option.{option_or}
use Rattle.ss_core.specs.declared.names.Place.{Place}
use Rattle.ss_core.specs.declared.names.Ty.{Ty}
use Rattle.ss_core.specs.Tree.{SameOwner, OwnedAt}
use Rattle.ss_ast.specs.Expressions.{NameTree, TypeTree, Arguments}
use Rattle.ss_ast.specs.Expressions as text
use Rattle.ss_ast.specs.Statements as written
use Rattle.ss_tables.specs.Members.{FieldTree, MethodTree, is_static}
use Rattle.ss_tables.specs.Classes.{Declared, above, field_of, is_array_number, declared_place}
use Rattle.ss_tables.specs.Words.{is_state_read}
use Rattle.ss_tables.specs.Statics.{Receiver, TheConsole, TheOwner, TheBase, AClass, AValue, Callee, AMethod, APrint, AWord, ABase, NoCallee, receiver, static, name_callee, member_callee, result_type}
use Rattle.ss_typed.specs.Tree.{ExprTree, LengthOf, StateOf, OwnersOf, StaticOf, CallOf}
use Rattle.ss_typed.specs.Tree as typed
use Rattle.ss_resolver_rules.specs.Names.{Known_names, Env, known, enter, declare, declare_all, within}
use Rattle.ss_resolver_rules.specs.declared.known.Known.{Known}
use Rattle.ss_resolver_rules.specs.declared.known.Known.TheVariants.{Variable, BoundName}
use Rattle.ss_tables.specs.Named.{named_in, named_among, with_named}
use Rattle.ss_resolver_rules.specs.Numbers.{type_id, class_in, method_id, table_place}
use Rattle.ss_resolver_rules.specs.Expressions.{this, read_field, known_or_field, field_after, state_word, third_class, member, method_call, base_call, owner_question, call_of, question, called_after, called_bare, expr, call, args}
use Rattle.ss_resolver_rules.specs.Statements as rules
use Rattle.ss_resolver_rules.specs.Statements.{declared_first, declared_in_block, declared_in, past, behind, declarators, is_line, printed, print, call_alone, alone, simple, first, behind_first, block, stmt, stmts}
use Rattle.ss_expand_formed.proofs.Choosing.{on_either}
use Rattle.ss_expand_formed.proofs.AssignedReading.{May, reads, read_all, may_read, with_local, with_declared, declared_read, simple_reads, begin_reads, with_begun, step_reads, stmt_reads, block_reads, all_read}
use Rattle.ss_expand_formed.proofs.AssignedReading as reading

-- ---- calls, of parts that read no more

module _ (m : May) where
  field_reads : (e : Env) (p : Place) (o : ExprTree) → reads m o ≡ true → (f : Option (Declared FieldTree)) → reads m (read_field e p o f) ≡ true
  field_reads e p o h None = refl
  field_reads e p o h (Some f) = h

  after_reads : (e : Env) (p : Place) (o : ExprTree) (n : List ℕ) → reads m o ≡ true → (k : Option ℕ) → reads m (field_after e p o n k) ≡ true
  after_reads e p o n h None = h
  after_reads e p o n h (Some k) = field_reads e p o h (field_of e.scope.classes k n)

  pub member_reads : (e : Env) (p : Place) (o : ExprTree) (n : List ℕ) (t : ℕ) → reads m o ≡ true → reads m (member e p o n t) ≡ true
  member_reads e p o n t h =
      on_either (λ (z : ExprTree). reads m z ≡ true) (is_state_read n) (StateOf p (state_word n) o) (if is_array_number t then LengthOf p o else field_after e p o n (declared_place t)) h
      (on_either (λ (z : ExprTree). reads m z ≡ true) (is_array_number t) (LengthOf p o) (field_after e p o n (declared_place t)) h (after_reads e p o n h (declared_place t)))

  pub method_reads : (e : Env) (p : Place) (k : ℕ) (o : ExprTree) (given : typed.Arguments) (d : Declared MethodTree) → (is_static d.member ≡ false → reads m o ≡ true) → read_all m given ≡ true → reads m (method_call e p k o given d) ≡ true
  method_reads e p k o given d h g = by (is_static d.member) h
    where
      by : (b : Bool) → (b ≡ false → reads m o ≡ true) → reads m (if b then StaticOf p (method_id e.scope.classes d.class d.member.name.text) (result_type e.scope.classes d.member.result) given else CallOf p o (table_place e.scope.classes k d.member.name.text) (result_type e.scope.classes d.member.result) given) ≡ true
      by true i = g
      by false i = and_from _ _ (i refl) g

  base_reads : (e : Env) (p : Place) (given : typed.Arguments) (d : Declared MethodTree) → read_all m given ≡ true → (k : Option ℕ) → reads m (base_call e p given d k) ≡ true
  base_reads e p given d g None = refl
  base_reads e p given d g (Some k) = g

  owner_reads : (e : Env) (p : Place) (n : List ℕ) (es : Arguments) (given : typed.Arguments) → read_all m given ≡ true → reads m (owner_question e p n es given) ≡ true
  owner_reads e p n es typed.NoMore g = refl
  owner_reads e p n es (typed.Argument a typed.NoMore) g = (and_parts (reads m a) true g).0
  owner_reads e p n es (typed.Argument a (typed.Argument b more)) g =
      let both = and_parts (reads m a) (reads m b && read_all m more) g in
      let rest = and_parts (reads m b) (read_all m more) both.1 in
      let pair = and_from _ _ both.0 rest.0 in
      on_either (λ (z : ExprTree). reads m z ≡ true) (bytes_eq n (codes "Same")) (OwnersOf p SameOwner a b) (OwnersOf p (OwnedAt (third_class e es)) a b) pair pair

  call_of_reads : (e : Env) (p : Place) (r : Receiver) (o : ExprTree) (given : typed.Arguments) (d : Declared MethodTree) → reads m o ≡ true → read_all m given ≡ true → reads m (call_of e p r o given d) ≡ true
  call_of_reads e p TheBase o given d h g = base_reads e p given d g (above e.scope.classes e.scope.class)
  call_of_reads e p (AClass k) o given d h g = method_reads e p k o given d (λ i. h) g
  call_of_reads e p (AValue t) o given d h g = method_reads e p _ o given d (λ i. h) g
  call_of_reads e p TheConsole o given d h g = refl
  call_of_reads e p TheOwner o given d h g = refl

  question_reads : (e : Env) (p : Place) (r : Receiver) (o : ExprTree) (n : List ℕ) (es : Arguments) (given : typed.Arguments) → reads m o ≡ true → read_all m given ≡ true → reads m (question e p r o n es given) ≡ true
  question_reads e p TheOwner o n es given h g = owner_reads e p n es given g
  question_reads e p TheBase o n es given h g = h
  question_reads e p (AClass k) o n es given h g = h
  question_reads e p (AValue t) o n es given h g = h
  question_reads e p TheConsole o n es given h g = refl

  pub called_reads : (e : Env) (p : Place) (r : Receiver) (o : ExprTree) (n : List ℕ) (es : Arguments) (given : typed.Arguments) (c : Callee) → reads m o ≡ true → read_all m given ≡ true → reads m (called_after e p r o n es given c) ≡ true
  called_reads e p r o n es given (AMethod d) h g = call_of_reads e p r o given d h g
  called_reads e p r o n es given (AWord k) h g = question_reads e p r o n es given h g
  called_reads e p r o n es given (APrint is_line) h g = refl
  called_reads e p r o n es given ABase h g = refl
  called_reads e p r o n es given NoCallee h g = and_from _ _ h g

  bare_reads : (e : Env) (p q : Place) (given : typed.Arguments) (c : Callee) → m.this ≡ true → read_all m given ≡ true → reads m (called_bare e p q given c) ≡ true
  bare_reads e p q given (AMethod d) h g = method_reads e p e.scope.class (this e q) given d (λ i. h) g
  bare_reads e p q given (AWord k) h g = refl
  bare_reads e p q given (APrint is_line) h g = refl
  bare_reads e p q given ABase h g = refl
  bare_reads e p q given NoCallee h g = refl

-- ---- what is known at a place

-- a variable is one that may be read
abbrev pub has : May → Option Known → Bool
has m None = true
has m (Some (Variable x t)) = m.locals x
has m (Some (BoundName k)) = true

-- one more name of an innermost scope
pub known_append : (ls : Known_names) (x : List ℕ) (k : Known) (n : List ℕ) → named_in (ls ++ (x, k) ∷ []) n ≡ option_or (named_in ls n) (if bytes_eq n x then Some k else None)
known_append [] x k n = refl
known_append (l ∷ ls) x k n = by (bytes_eq n l.0) (known_append ls x k n)
  where
    by : (b : Bool) → named_in (ls ++ (x, k) ∷ []) n ≡ option_or (named_in ls n) (if bytes_eq n x then Some k else None) →
        (if b then Some l.1 else named_in (ls ++ (x, k) ∷ []) n) ≡ option_or (if b then Some l.1 else named_in ls n) (if bytes_eq n x then Some k else None)
    by true h = refl
    by false h = h

has_more : (m : May) (x : ℕ) (k : Option Known) → has m k ≡ true → has (with_local m x) k ≡ true
has_more m x None h = refl
has_more m x (Some (Variable y t)) h = or_left _ _ h
has_more m x (Some (BoundName k)) h = refl

module _ (m : May) (next : ℕ) (t : Ty) (outer : Option Known) where
  new_has : (b : Bool) → has m outer ≡ true → has (with_local m next) (option_or (if b then Some (Variable next t) else None) outer) ≡ true
  new_has true h = or_right (m.locals next) (next == next) (eq-eqb next next refl)
  new_has false h = has_more m next outer h

  either_has : (k new : Option Known) → has m (option_or k outer) ≡ true → (has m outer ≡ true → has (with_local m next) (option_or new outer) ≡ true) → has (with_local m next) (option_or (option_or k new) outer) ≡ true
  either_has (Some k) new h g = has_more m next (Some k) h
  either_has None new h g = g h

  one_has : (ls : Known_names) (x n : List ℕ) → has m (option_or (named_in ls n) outer) ≡ true → has (with_local m next) (option_or (named_in (with_named ls x (Variable next t)) n) outer) ≡ true
  one_has ls x n h =
      on_either (λ (z : Known_names). has (with_local m next) (option_or (named_in z n) outer) ≡ true) (is_some (named_in ls x)) ls (ls ++ (x, Variable next t) ∷ [])
      (has_more m next (option_or (named_in ls n) outer) h)
      (subst (λ k. has (with_local m next) (option_or k outer) ≡ true) (sym (known_append ls x (Variable next t) n))
      (either_has (named_in ls n) (if bytes_eq n x then Some (Variable next t) else None) h (new_has (bytes_eq n x))))

module _ (low : ℕ) where
  -- `this`, `result` and every variable in scope may be read, and more locals are after the arguments
  pub record Scoped (m : May) (e : Env) : Type 0 where
    pub this : m.this ≡ true
    pub result : m.result ≡ true
    pub names : (n : List ℕ) → has m (known e n) ≡ true
    pub above : low ≤ e.next

  abbrev own : ℕ → Bool
  own x = nat_le low x

  enter_scoped : (m : May) (e : Env) → Scoped m e → Scoped m (enter e)
  enter_scoped m e h = record { this = h.this; result = h.result; names = h.names; above = h.above }

  within_scoped : (m : May) (e : Env) (x : NameTree) → Scoped m e → Scoped m (within e x)
  within_scoped m e x h = record { this = h.this; result = h.result; names = λ n. by (bytes_eq n x.text) n; above = h.above }
    where
      by : (b : Bool) (n : List ℕ) → has m (option_or (if b then Some (BoundName e.bound) else None) (known e n)) ≡ true
      by true n = refl
      by false n = h.names n

  past_scoped : (m : May) (e : Env) (ds : List rules.Declared) → Scoped m e → Scoped m (past e ds)
  past_scoped m e ds h = let l = h.above in record { this = h.this; result = h.result; names = h.names; above = omega arith }

  pub one_scoped : (m : May) (e : Env) (t : TypeTree) (x : NameTree) → Scoped m e → Scoped (with_local m e.next) (declare e t x)
  one_scoped m e t x h =
      let l = h.above in
      record { this = h.this; result = h.result; names = λ n. one_has m e.next (type_id e.scope.classes t) (named_among e.outer n) e.inner x.text n (h.names n); above = omega arith }

  -- ---- expressions

  name_scoped : (m : May) (e : Env) → Scoped m e → (p : Place) (n : List ℕ) (k : Option Known) → has m k ≡ true → reads m (known_or_field e p n k) ≡ true
  name_scoped m e s p n (Some (Variable x t)) h = h
  name_scoped m e s p n (Some (BoundName k)) h = refl
  name_scoped m e s p n None h = field_reads m e p (this e p) s.this (field_of e.scope.classes e.scope.class n)

  mutual
    pub expr_scoped : (m : May) (e : Env) → Scoped m e → (a : text.ExprTree) → reads m (expr e a) ≡ true
    expr_scoped m e h (text.NumberOf p n) = refl
    expr_scoped m e h (text.TruthOf p b) = refl
    expr_scoped m e h (text.NullOf p) = refl
    expr_scoped m e h (text.TextOf p x) = refl
    expr_scoped m e h (text.ThisOf p) = h.this
    expr_scoped m e h (text.BaseOf p) = h.this
    expr_scoped m e h (text.ResultOf p) = h.result
    expr_scoped m e h (text.NameOf p n) = name_scoped m e h p n (known e n) (h.names n)
    expr_scoped m e h (text.ParenOf p a) = expr_scoped m e h a
    expr_scoped m e h (text.OldOf p a) = expr_scoped m e h a
    expr_scoped m e h (text.NegateOf p a) = expr_scoped m e h a
    expr_scoped m e h (text.NotOf p a) = expr_scoped m e h a
    expr_scoped m e h (text.IffOf p a b) = and_from _ _ (expr_scoped m e h a) (expr_scoped m e h b)
    expr_scoped m e h (text.ImpliesOf p a b) = and_from _ _ (expr_scoped m e h a) (expr_scoped m e h b)
    expr_scoped m e h (text.BinaryOf p o a b) = and_from _ _ (expr_scoped m e h a) (expr_scoped m e h b)
    expr_scoped m e h (text.IsOf p a t) = expr_scoped m e h a
    expr_scoped m e h (text.AsOf p a t) = expr_scoped m e h a
    expr_scoped m e h (text.CastOf p t a) = expr_scoped m e h a
    expr_scoped m e h (text.MemberOf p a n) = member_reads m e p (expr e a) n.text (class_in (static e.scope a)) (expr_scoped m e h a)
    expr_scoped m e h (text.ElementOf p a i) = and_from _ _ (expr_scoped m e h a) (expr_scoped m e h i)
    expr_scoped m e h (text.CallOf p f es) = call_scoped m e h p es (args e es) (args_scoped m e h es) f
    expr_scoped m e h (text.NewOf p n es) = args_scoped m e h es
    expr_scoped m e h (text.NewArrayOf p q t n) = expr_scoped m e h n
    expr_scoped m e h (text.QuantifiedOf p q n low high a) = and_from _ _ (expr_scoped m e h low) (and_from _ _ (expr_scoped m e h high) (expr_scoped m (within e n) (within_scoped m e n h) a))

    call_scoped : (m : May) (e : Env) → Scoped m e → (p : Place) (es : Arguments) (given : typed.Arguments) → read_all m given ≡ true → (f : text.ExprTree) → reads m (call e p es given f) ≡ true
    call_scoped m e h p es given g (text.NameOf q n) = bare_reads m e p q given (name_callee e.scope n) h.this g
    call_scoped m e h p es given g (text.MemberOf q a n) =
        called_reads m e p (receiver e.scope a (static e.scope a)) (expr e a) n.text es given (member_callee e.scope n.text (receiver e.scope a (static e.scope a))) (expr_scoped m e h a) g
    call_scoped m e h p es given g f = refl

    pub args_scoped : (m : May) (e : Env) → Scoped m e → (es : Arguments) → read_all m (args e es) ≡ true
    args_scoped m e h text.NoMore = refl
    args_scoped m e h (text.Argument a es) = and_from _ _ (expr_scoped m e h a) (args_scoped m e h es)

  pub maybe_scoped : (m : May) (e : Env) → Scoped m e → (a : Option text.ExprTree) → may_read m (option_map (expr e) a) ≡ true
  maybe_scoped m e h None = refl
  maybe_scoped m e h (Some a) = expr_scoped m e h a

  list_scoped : (m : May) (e : Env) → Scoped m e → (xs : List text.ExprTree) → list_all (reads m) (map (expr e) xs) ≡ true
  list_scoped m e h [] = refl
  list_scoped m e h (a ∷ more) = and_from _ _ (expr_scoped m e h a) (list_scoped m e h more)

  -- ---- simple statements

  printed_scoped : (m : May) (e : Env) → Scoped m e → (p : Place) (line : Bool) (a : text.ExprTree) → simple_reads m (printed e p line a) ≡ true
  printed_scoped m e h p line (text.ParenOf q a) = printed_scoped m e h p line a
  printed_scoped m e h p line (text.TextOf q x) = refl
  printed_scoped m e h p line a = expr_scoped m e h a

  print_scoped : (m : May) (e : Env) → Scoped m e → (p : Place) (line : Bool) (es : Arguments) → simple_reads m (print e p line es) ≡ true
  print_scoped m e h p line text.NoMore = refl
  print_scoped m e h p line (text.Argument a more) = printed_scoped m e h p line a

  call_alone_scoped : (m : May) (e : Env) → Scoped m e → (p : Place) (x : List ℕ) (es : Arguments) (r : Receiver) (whole : ExprTree) → reads m whole ≡ true → simple_reads m (call_alone e p x es r whole) ≡ true
  call_alone_scoped m e h p x es TheConsole whole g = print_scoped m e h p (is_line x) es
  call_alone_scoped m e h p x es TheOwner whole g = g
  call_alone_scoped m e h p x es TheBase whole g = g
  call_alone_scoped m e h p x es (AClass k) whole g = g
  call_alone_scoped m e h p x es (AValue t) whole g = g

  alone_scoped : (m : May) (e : Env) → Scoped m e → (a : text.ExprTree) → simple_reads m (alone e a) ≡ true
  alone_scoped m e h (text.CallOf p (text.BaseOf q) es) = args_scoped m e h es
  alone_scoped m e h (text.CallOf p (text.MemberOf q a x) es) =
      call_alone_scoped m e h p x.text es (receiver e.scope a (static e.scope a)) (expr e (text.CallOf p (text.MemberOf q a x) es)) (expr_scoped m e h (text.CallOf p (text.MemberOf q a x) es))
  alone_scoped m e h a = expr_scoped m e h a

  simple_scoped : (m : May) (e : Env) → Scoped m e → (x : written.SimpleTree) → simple_reads m (simple e x) ≡ true
  simple_scoped m e h (written.AssignOf a o b) = and_from _ _ (expr_scoped m e h a) (expr_scoped m e h b)
  simple_scoped m e h (written.StepOf a o) = expr_scoped m e h a
  simple_scoped m e h (written.AloneOf a) = alone_scoped m e h a

  step_scoped : (m : May) (e : Env) → Scoped m e → (x : Option written.SimpleTree) → step_reads m (option_map (simple e) x) ≡ true
  step_scoped m e h None = refl
  step_scoped m e h (Some x) = simple_scoped m e h x

  -- ---- declarations

  declarators_scoped : (m : May) (e : Env) → Scoped m e → (t : TypeTree) (ds : List written.DeclaratorTree) → (declared_read own m (declarators e t ds) ≡ true) × Scoped (with_declared m (declarators e t ds)) (declare_all e t ds)
  declarators_scoped m e h t [] = (refl, h)
  declarators_scoped m e h t (d ∷ ds) =
      let rest = declarators_scoped (with_local m e.next) (declare e t d.name) (one_scoped m e t d.name h) t ds in
      (and_from _ _ (le-leb low e.next h.above) (and_from _ _ (maybe_scoped m e h d.initial) rest.0), rest.1)

  first_scoped : (m : May) (e : Env) → Scoped m e → (i : Option written.ForInitTree) → (begin_reads own m (first e i) ≡ true) × Scoped (with_begun m (first e i)) (behind_first e i)
  first_scoped m e h None = (refl, h)
  first_scoped m e h (Some (written.DeclareFirst d)) = declarators_scoped m e h d.ty d.declarators
  first_scoped m e h (Some (written.SimpleFirst x)) = (simple_scoped m e h x, h)

  -- ---- statements

  after_scoped : (m : May) (e : Env) → Scoped m e → (x : written.StmtTree) → Scoped (reading.behind m (stmt e x)) (behind e x)
  after_scoped m e h (written.DeclareOf d) = (declarators_scoped m e h d.ty d.declarators).1
  after_scoped m e h (written.InBlock b) = past_scoped m e (declared_in_block b) h
  after_scoped m e h (written.SimpleOf x) = h
  after_scoped m e h (written.IfOf p c a) = past_scoped m e (declared_in a) h
  after_scoped m e h (written.IfElseOf p c a b) = past_scoped m e (declared_in a ++ declared_in b) h
  after_scoped m e h (written.WhileOf p c es a) = past_scoped m e (declared_in a) h
  after_scoped m e h (written.ForOf p i c x es a) = past_scoped m e (declared_first i ++ declared_in a) h
  after_scoped m e h (written.ReturnOf p c) = h
  after_scoped m e h (written.AssertOf p c) = h
  after_scoped m e h (written.AssumeOf p c) = h
  after_scoped m e h (written.ExposeOf p c n b) = past_scoped m e (declared_in_block b) h
  after_scoped m e h (written.EmptyOf p) = h

  mutual
    stmt_scoped : (m : May) (e : Env) → Scoped m e → (x : written.StmtTree) → stmt_reads own m (stmt e x) ≡ true
    stmt_scoped m e h (written.InBlock b) = block_scoped m e h b
    stmt_scoped m e h (written.DeclareOf d) = (declarators_scoped m e h d.ty d.declarators).0
    stmt_scoped m e h (written.SimpleOf x) = simple_scoped m e h x
    stmt_scoped m e h (written.IfOf p c a) = and_from _ _ (expr_scoped m e h c) (stmt_scoped m (enter e) (enter_scoped m e h) a)
    stmt_scoped m e h (written.IfElseOf p c a b) =
        let f = past e (declared_in a) in
        and_from _ _ (expr_scoped m e h c) (and_from _ _ (stmt_scoped m (enter e) (enter_scoped m e h) a) (stmt_scoped m (enter f) (enter_scoped m f (past_scoped m e (declared_in a) h)) b))
    stmt_scoped m e h (written.WhileOf p c es a) = and_from _ _ (expr_scoped m e h c) (and_from _ _ (list_scoped m e h es) (stmt_scoped m (enter e) (enter_scoped m e h) a))
    stmt_scoped m e h (written.ForOf p i c x es a) =
        let r = first_scoped m (enter e) (enter_scoped m e h) i in
        let k = with_begun m (first (enter e) i) in
        let z = behind_first (enter e) i in
        and_from _ _ r.0
        (and_from _ _ (maybe_scoped k z r.1 c) (and_from _ _ (step_scoped k z r.1 x) (and_from _ _ (list_scoped k z r.1 es) (stmt_scoped k (enter z) (enter_scoped k z r.1) a))))
    stmt_scoped m e h (written.ReturnOf p c) = maybe_scoped m e h c
    stmt_scoped m e h (written.AssertOf p c) = expr_scoped m e h c
    stmt_scoped m e h (written.AssumeOf p c) = expr_scoped m e h c
    stmt_scoped m e h (written.ExposeOf p c n b) = and_from _ _ (expr_scoped m e h c) (block_scoped m e h b)
    stmt_scoped m e h (written.EmptyOf p) = refl

    pub block_scoped : (m : May) (e : Env) → Scoped m e → (b : written.BlockTree) → block_reads own m (block e b) ≡ true
    block_scoped m e h (written.BlockOf p ss q) = stmts_scoped m (enter e) (enter_scoped m e h) ss

    stmts_scoped : (m : May) (e : Env) → Scoped m e → (ss : written.StmtTrees) → all_read own m (stmts e ss) ≡ true
    stmts_scoped m e h written.NoMore = refl
    stmts_scoped m e h (written.Before x xs) = and_from _ _ (stmt_scoped m e h x) (stmts_scoped (reading.behind m (stmt e x)) (behind e x) (after_scoped m e h x) xs)
