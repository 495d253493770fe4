-- The locals that a resolved statement assigns are in scope, and those that it declares are new.
use Rattle.std.proofs.Common.{◌≡◌, ℕ, ◌+◌, ◌≤◌, List, [], ◌∷◌, ◌++◌, length, Bool, true, Option, Some, None, refl, ◌∙◌, arith}
use Rattle.std.specs.Prelude.{◌&&◌, is_some, option_map, if◌then◌else◌}
use Rattle.std.specs.Str.{bytes_eq}
use Rattle.std.specs.List.{list_all}
use Rattle.std.proofs.lemmas.Bool.{and_parts, and_from, le-leb, lt-ltb, false≢true}
use Rattle.std.proofs.lemmas.List.{length-map, length-append}
use Rattle.std.proofs.lemmas.List.Folds.{list_all-append}
use Rattle.std.specs.Option.{option_or}
use Rattle.ss_core.specs.declared.names.Place.{Place}
use Rattle.ss_core.specs.declared.names.Ty.{Ty}
use Rattle.ss_ast.specs.Expressions.{NameTree, TypeTree, Arguments}
use Rattle.ss_ast.specs.Expressions as text
use Rattle.ss_ast.specs.Statements as written
use Rattle.ss_ast.specs.Programs.{ParamTree}
use Rattle.ss_tables.specs.Members.{FieldTree}
use Rattle.ss_tables.specs.Classes.{Declared, field_of, is_array_number, declared_place}
use Rattle.ss_tables.specs.Words.{is_state_read}
use Rattle.ss_tables.specs.Statics.{Receiver, TheConsole, TheOwner, TheBase, AClass, AValue, receiver, static}
use Rattle.ss_typed.specs.Tree.{ExprTree, LocalOf, LengthOf, StateOf}
use Rattle.ss_resolver_rules.specs.Names.{Known_names, Env, known, enter, declare, declare_all, declare_param, declare_params}
use Rattle.ss_resolver_rules.specs.declared.known.Known.{Known}
use Rattle.ss_resolver_rules.specs.declared.known.Known.TheVariants.{Variable, BoundName}
use Rattle.ss_tables.specs.Named.{named_in, named_among, with_named}
use Rattle.ss_resolver_rules.specs.Numbers.{type_id, class_in}
use Rattle.ss_resolver_rules.specs.Expressions.{this, read_field, known_or_field, field_after, state_word, member, expr, call, args}
use Rattle.ss_resolver_rules.specs.Statements as rules
use Rattle.ss_resolver_rules.specs.Statements.{declared_by, declared_first, declared_in_block, declared_in, declared_in_all, past, behind, declarators, is_line, printed, print, call_alone, alone, simple, first, behind_first, block, stmt, stmts}
use Rattle.ss_expand_formed.proofs.OwnReads.{is_asked, called_asked}
use Rattle.ss_expand_formed.proofs.Shape.{is_from, from_more}
use Rattle.ss_expand_formed.proofs.Targets.{target_passes, simple_passes, declared_pass, begin_passes, advance_passes, stmt_passes, block_passes, all_pass}
use Rattle.ss_expand_formed.proofs.Choosing.{on_either, all_more}

target_more : (f g : ℕ → Bool) → ((x : ℕ) → f x ≡ true → g x ≡ true) → (e : ExprTree) → target_passes f e ≡ true → target_passes g e ≡ true
target_more f g more (LocalOf p x t) h = more x h
target_more f g more e h = refl

asked_passes : (f : ℕ → Bool) (e : ExprTree) → is_asked e ≡ true → target_passes f e ≡ true
asked_passes f (LocalOf p x t) h = absurd (false≢true h)
asked_passes f e h = refl

-- ---- what is known at a place

-- a variable has one of these numbers
abbrev pub has_number : ℕ → ℕ → Known → Bool
has_number low high (Variable x t) = is_from low high x
has_number low high (BoundName k) = true

abbrev have_numbers : ℕ → ℕ → Known_names → Bool
have_numbers low high ls = list_all (λ (l : List ℕ × Known). has_number low high l.1) ls

abbrev pub is_numbered : ℕ → Env → Bool
is_numbered low e = have_numbers low e.next e.inner && list_all (have_numbers low e.next) e.outer

module _ (low : ℕ) where
  number_more : (n m : ℕ) → n ≤ m → (k : Known) → has_number low n k ≡ true → has_number low m k ≡ true
  number_more n m l (Variable x t) h = from_more low n m l x h
  number_more n m l (BoundName k) h = refl

  numbers_more : (n m : ℕ) → n ≤ m → (ls : Known_names) → have_numbers low n ls ≡ true → have_numbers low m ls ≡ true
  numbers_more n m l ls h = all_more (λ (x : List ℕ × Known). has_number low n x.1) (λ (x : List ℕ × Known). has_number low m x.1) (λ x i. number_more n m l x.1 i) ls h

  all_numbers_more : (n m : ℕ) → n ≤ m → (ls : List Known_names) → list_all (have_numbers low n) ls ≡ true → list_all (have_numbers low m) ls ≡ true
  all_numbers_more n m l ls h = all_more (have_numbers low n) (have_numbers low m) (numbers_more n m l) ls h

  -- ---- names

  abbrev pub may_have : ℕ → Option Known → Bool
  may_have n None = true
  may_have n (Some k) = has_number low n k

  in_scope : (n : ℕ) (ls : Known_names) (x : List ℕ) → have_numbers low n ls ≡ true → may_have n (named_in ls x) ≡ true
  in_scope n [] x h = refl
  in_scope n (l ∷ ls) x h =
      let both = and_parts (has_number low n l.1) (have_numbers low n ls) h in
      on_either (λ (k : Option Known). may_have n k ≡ true) (bytes_eq x l.0) (Some l.1) (named_in ls x) both.0 (in_scope n ls x both.1)

  in_either : (n : ℕ) (a b : Option Known) → may_have n a ≡ true → may_have n b ≡ true → may_have n (option_or a b) ≡ true
  in_either n (Some k) b h g = h
  in_either n None b h g = g

  in_scopes : (n : ℕ) (ls : List Known_names) (x : List ℕ) → list_all (have_numbers low n) ls ≡ true → may_have n (named_among ls x) ≡ true
  in_scopes n [] x h = refl
  in_scopes n (l ∷ ls) x h =
      let both = and_parts (have_numbers low n l) (list_all (have_numbers low n) ls) h in
      in_either n (named_in l x) (named_among ls x) (in_scope n l x both.0) (in_scopes n ls x both.1)

  -- what a name stands for
  pub known_numbered : (e : Env) → is_numbered low e ≡ true → (x : List ℕ) → may_have e.next (known e x) ≡ true
  known_numbered e h x =
      let both = and_parts (have_numbers low e.next e.inner) (list_all (have_numbers low e.next) e.outer) h in
      in_either e.next (named_in e.inner x) (named_among e.outer x) (in_scope e.next e.inner x both.0) (in_scopes e.next e.outer x both.1)

  field_passes : (f : ℕ → Bool) (e : Env) (p : Place) (o : ExprTree) (d : Option (Declared FieldTree)) → target_passes f (read_field e p o d) ≡ true
  field_passes f e p o None = refl
  field_passes f e p o (Some d) = refl

  name_passes : (e : Env) (p : Place) (x : List ℕ) (k : Option Known) → may_have e.next k ≡ true → target_passes (is_from low e.next) (known_or_field e p x k) ≡ true
  name_passes e p x (Some (Variable y t)) h = h
  name_passes e p x (Some (BoundName k)) h = refl
  name_passes e p x None h = field_passes (is_from low e.next) e p (this e p) (field_of e.scope.classes e.scope.class x)

  after_passes : (f : ℕ → Bool) (e : Env) (p : Place) (o : ExprTree) (x : List ℕ) (k : Option ℕ) → target_passes f o ≡ true → target_passes f (field_after e p o x k) ≡ true
  after_passes f e p o x None h = h
  after_passes f e p o x (Some k) h = field_passes f e p o (field_of e.scope.classes k x)

  member_passes : (f : ℕ → Bool) (e : Env) (p : Place) (o : ExprTree) (x : List ℕ) (t : ℕ) → target_passes f o ≡ true → target_passes f (member e p o x t) ≡ true
  member_passes f e p o x t h =
      on_either (λ (z : ExprTree). target_passes f z ≡ true) (is_state_read x) (StateOf p (state_word x) o) (if is_array_number t then LengthOf p o else field_after e p o x (declared_place t)) refl
      (on_either (λ (z : ExprTree). target_passes f z ≡ true) (is_array_number t) (LengthOf p o) (field_after e p o x (declared_place t)) refl (after_passes f e p o x (declared_place t) h))

  -- an expression that is a local is one in scope
  expr_passes : (e : Env) → is_numbered low e ≡ true → (a : text.ExprTree) → target_passes (is_from low e.next) (expr e a) ≡ true
  expr_passes e h (text.NameOf p x) = name_passes e p x (known e x) (known_numbered e h x)
  expr_passes e h (text.ParenOf p a) = expr_passes e h a
  expr_passes e h (text.MemberOf p a x) = member_passes (is_from low e.next) e p (expr e a) x.text (class_in (static e.scope a)) (expr_passes e h a)
  expr_passes e h (text.CallOf p f es) = asked_passes (is_from low e.next) (call e p es (args e es) f) (called_asked e p es (args e es) f)
  expr_passes e h a = refl

  -- ---- simple statements

  printed_passes : (f : ℕ → Bool) (e : Env) (p : Place) (line : Bool) (a : text.ExprTree) → simple_passes f (printed e p line a) ≡ true
  printed_passes f e p line (text.ParenOf q a) = printed_passes f e p line a
  printed_passes f e p line (text.TextOf q x) = refl
  printed_passes f e p line a = refl

  print_passes : (f : ℕ → Bool) (e : Env) (p : Place) (line : Bool) (es : Arguments) → simple_passes f (print e p line es) ≡ true
  print_passes f e p line text.NoMore = refl
  print_passes f e p line (text.Argument a more) = printed_passes f e p line a

  call_passes : (f : ℕ → Bool) (e : Env) (p : Place) (x : List ℕ) (es : Arguments) (r : Receiver) (whole : ExprTree) → simple_passes f (call_alone e p x es r whole) ≡ true
  call_passes f e p x es TheConsole whole = print_passes f e p (is_line x) es
  call_passes f e p x es TheOwner whole = refl
  call_passes f e p x es TheBase whole = refl
  call_passes f e p x es (AClass k) whole = refl
  call_passes f e p x es (AValue t) whole = refl

  alone_passes : (f : ℕ → Bool) (e : Env) (a : text.ExprTree) → simple_passes f (alone e a) ≡ true
  alone_passes f e (text.CallOf p (text.BaseOf q) es) = refl
  alone_passes f e (text.CallOf p (text.MemberOf q a x) es) = call_passes f e p x.text es (receiver e.scope a (static e.scope a)) (expr e (text.CallOf p (text.MemberOf q a x) es))
  alone_passes f e a = refl

  -- ---- more names

  with_known_numbered : (n : ℕ) (ls : Known_names) (x : List ℕ) (k : Known) → have_numbers low n ls ≡ true → has_number low n k ≡ true → have_numbers low n (with_named ls x k) ≡ true
  with_known_numbered n ls x k h g =
      on_either (λ (z : Known_names). have_numbers low n z ≡ true) (is_some (named_in ls x)) ls (ls ++ (x, k) ∷ []) h
      (list_all-append (λ (l : List ℕ × Known). has_number low n l.1) ls ((x, k) ∷ []) ∙ rw (h, g) refl)

  -- what is known after one more local
  one_more : (e : Env) → is_numbered low e ≡ true → low ≤ e.next → (x : List ℕ) (t : Ty) → (have_numbers low (e.next + 1) (with_named e.inner x (Variable e.next t)) && list_all (have_numbers low (e.next + 1)) e.outer) ≡ true
  one_more e h l x t =
      let both = and_parts (have_numbers low e.next e.inner) (list_all (have_numbers low e.next) e.outer) h in
      let new = and_from _ _ (le-leb low e.next l) (lt-ltb e.next (e.next + 1) (omega arith)) in
      and_from _ _ (with_known_numbered (e.next + 1) e.inner x (Variable e.next t) (numbers_more e.next (e.next + 1) (omega arith) e.inner both.0) new) (all_numbers_more e.next (e.next + 1) (omega arith) e.outer both.1)

  enter_numbered : (e : Env) → is_numbered low e ≡ true → is_numbered low (enter e) ≡ true
  enter_numbered e h = h

  past_numbered : (e : Env) (ds : List rules.Declared) → is_numbered low e ≡ true → is_numbered low (past e ds) ≡ true
  past_numbered e ds h =
      let both = and_parts (have_numbers low e.next e.inner) (list_all (have_numbers low e.next) e.outer) h in
      and_from _ _ (numbers_more e.next (e.next + length ds) (omega arith) e.inner both.0) (all_numbers_more e.next (e.next + length ds) (omega arith) e.outer both.1)

  -- the names of an environment have numbers, and the next local has this one
  pub record Numbered (e : Env) (n : ℕ) : Type 0 where
    pub names : is_numbered low e ≡ true
    pub next : e.next ≡ n

  all_declared : (e : Env) (t : TypeTree) (ds : List written.DeclaratorTree) → is_numbered low e ≡ true → low ≤ e.next → Numbered (declare_all e t ds) (e.next + length ds)
  all_declared e t [] h l = record { names = h; next = omega arith }
  all_declared e t (d ∷ ds) h l =
      let r = all_declared (declare e t d.name) t ds (one_more e h l d.name.text (type_id e.scope.classes t)) (omega arith) in
      let n = r.next in
      record { names = r.names; next = omega arith }

  declaration_length : (d : written.DeclarationTree) → length (declared_by d) ≡ length d.declarators
  declaration_length d = length-map d.declarators (λ (x : written.DeclaratorTree). record { name = x.name; ty = d.ty })

  pub params_numbered : (e : Env) (ps : List ParamTree) → is_numbered low e ≡ true → low ≤ e.next → Numbered (declare_params e ps) (e.next + length ps)
  params_numbered e [] h l = record { names = h; next = omega arith }
  params_numbered e (q ∷ ps) h l =
      let r = params_numbered (declare_param e q) ps (one_more e h l q.name.text (type_id e.scope.classes q.ty)) (omega arith) in
      let n = r.next in
      record { names = r.names; next = omega arith }

  first_numbered : (e : Env) (i : Option written.ForInitTree) → is_numbered low e ≡ true → low ≤ e.next → Numbered (behind_first e i) (e.next + length (declared_first i))
  first_numbered e None h l = record { names = h; next = omega arith }
  first_numbered e (Some (written.DeclareFirst d)) h l = let r = all_declared e d.ty d.declarators h l in let n = declaration_length d in let m = r.next in record { names = r.names; next = omega arith }
  first_numbered e (Some (written.SimpleFirst x)) h l = record { names = h; next = omega arith }

  stays : (e : Env) → is_numbered low e ≡ true → Numbered e (e.next + 0)
  stays e h = record { names = h; next = omega arith }

  after_numbered : (e : Env) (x : written.StmtTree) → is_numbered low e ≡ true → low ≤ e.next → Numbered (behind e x) (e.next + length (declared_in x))
  after_numbered e (written.DeclareOf d) h l = let r = all_declared e d.ty d.declarators h l in let n = declaration_length d in let m = r.next in record { names = r.names; next = omega arith }
  after_numbered e (written.InBlock b) h l = record { names = past_numbered e (declared_in_block b) h; next = refl }
  after_numbered e (written.SimpleOf x) h l = stays e h
  after_numbered e (written.IfOf p c a) h l = record { names = past_numbered e (declared_in a) h; next = refl }
  after_numbered e (written.IfElseOf p c a b) h l = record { names = past_numbered e (declared_in a ++ declared_in b) h; next = refl }
  after_numbered e (written.WhileOf p c es a) h l = record { names = past_numbered e (declared_in a) h; next = refl }
  after_numbered e (written.ForOf p i c x es a) h l = record { names = past_numbered e (declared_first i ++ declared_in a) h; next = refl }
  after_numbered e (written.ReturnOf p c) h l = stays e h
  after_numbered e (written.AssertOf p c) h l = stays e h
  after_numbered e (written.AssumeOf p c) h l = stays e h
  after_numbered e (written.ExposeOf p c n b) h l = record { names = past_numbered e (declared_in_block b) h; next = refl }
  after_numbered e (written.EmptyOf p) h l = stays e h

  -- ---- statements

  module _ (middle top : ℕ) (order : low ≤ middle) where
    abbrev f : ℕ → Bool
    f x = is_from low top x

    abbrev g : ℕ → Bool
    g x = is_from middle top x

    target_in : (e : Env) → is_numbered low e ≡ true → e.next ≤ top → (a : text.ExprTree) → target_passes f (expr e a) ≡ true
    target_in e h l a = target_more (is_from low e.next) f (from_more low e.next top l) (expr e a) (expr_passes e h a)

    simple_in : (e : Env) → is_numbered low e ≡ true → e.next ≤ top → (x : written.SimpleTree) → simple_passes f (simple e x) ≡ true
    simple_in e h l (written.AssignOf a o b) = target_in e h l a
    simple_in e h l (written.StepOf a o) = target_in e h l a
    simple_in e h l (written.AloneOf a) = alone_passes f e a

    advance_in : (e : Env) → is_numbered low e ≡ true → e.next ≤ top → (x : Option written.SimpleTree) → advance_passes f (option_map (simple e) x) ≡ true
    advance_in e h l None = refl
    advance_in e h l (Some x) = simple_in e h l x

    declarators_in : (e : Env) (t : TypeTree) (ds : List written.DeclaratorTree) → middle ≤ e.next → e.next + length ds ≤ top → declared_pass g (declarators e t ds) ≡ true
    declarators_in e t [] m l = refl
    declarators_in e t (d ∷ ds) m l = and_from _ _ (and_from _ _ (le-leb middle e.next m) (lt-ltb e.next top (omega arith))) (declarators_in (declare e t d.name) t ds (omega arith) (omega arith))

    first_in : (e : Env) → is_numbered low e ≡ true → middle ≤ e.next → (i : Option written.ForInitTree) → e.next + length (declared_first i) ≤ top → begin_passes f g (first e i) ≡ true
    first_in e h m None l = refl
    first_in e h m (Some (written.DeclareFirst d)) l = let n = declaration_length d in declarators_in e d.ty d.declarators m (omega arith)
    first_in e h m (Some (written.SimpleFirst x)) l = simple_in e h (omega arith) x

    mutual
      stmt_in : (e : Env) → is_numbered low e ≡ true → middle ≤ e.next → (x : written.StmtTree) → e.next + length (declared_in x) ≤ top → stmt_passes f g (stmt e x) ≡ true
      stmt_in e h m (written.InBlock b) l = block_in e h m b l
      stmt_in e h m (written.DeclareOf d) l = let n = declaration_length d in declarators_in e d.ty d.declarators m (omega arith)
      stmt_in e h m (written.SimpleOf x) l = simple_in e h (omega arith) x
      stmt_in e h m (written.IfOf p c a) l = stmt_in (enter e) h m a l
      stmt_in e h m (written.IfElseOf p c a b) l =
          let n = length-append (declared_in a) (declared_in b) in
          and_from _ _ (stmt_in (enter e) h m a (omega arith)) (stmt_in (enter (past e (declared_in a))) (past_numbered e (declared_in a) h) (omega arith) b (omega arith))
      stmt_in e h m (written.WhileOf p c es a) l = stmt_in (enter e) h m a l
      stmt_in e h m (written.ForOf p i c x es a) l =
          let n = length-append (declared_first i) (declared_in a) in
          let r = first_numbered (enter e) i h (omega arith) in
          let k = r.next in
          let z = behind_first (enter e) i in
          and_from _ _ (first_in (enter e) h m i (omega arith)) (and_from _ _ (advance_in z r.names (omega arith) x) (stmt_in (enter z) r.names (omega arith) a (omega arith)))
      stmt_in e h m (written.ReturnOf p c) l = refl
      stmt_in e h m (written.AssertOf p c) l = refl
      stmt_in e h m (written.AssumeOf p c) l = refl
      stmt_in e h m (written.ExposeOf p c n b) l = block_in e h m b l
      stmt_in e h m (written.EmptyOf p) l = refl

      pub block_in : (e : Env) → is_numbered low e ≡ true → middle ≤ e.next → (b : written.BlockTree) → e.next + length (declared_in_block b) ≤ top → block_passes f g (block e b) ≡ true
      block_in e h m (written.BlockOf p ss q) l = stmts_in (enter e) h m ss l

      stmts_in : (e : Env) → is_numbered low e ≡ true → middle ≤ e.next → (ss : written.StmtTrees) → e.next + length (declared_in_all ss) ≤ top → all_pass f g (stmts e ss) ≡ true
      stmts_in e h m written.NoMore l = refl
      stmts_in e h m (written.Before x xs) l =
          let n = length-append (declared_in x) (declared_in_all xs) in
          let r = after_numbered e x h (omega arith) in
          let k = r.next in
          and_from _ _ (stmt_in e h m x (omega arith)) (stmts_in (behind e x) r.names (omega arith) xs (omega arith))
