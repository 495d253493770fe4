-- The locals that a resolved expression reads are in scope.
use Rattle.std.proofs.Common.{◌≡◌, ℕ, List, Bool, true, Option, Some, None, refl}
use Rattle.std.specs.Prelude.{◌&&◌, codes, option_and_then, if◌then◌else◌}
use Rattle.std.specs.Str.{bytes_eq}
use Rattle.std.proofs.lemmas.Bool.{and_parts, and_from}
use Rattle.ss_core.specs.declared.names.Place.{Place}
use Rattle.ss_core.specs.Tree.{SameOwner, OwnedAt}
use Rattle.ss_ast.specs.Expressions as text
use Rattle.ss_tables.specs.Members.{FieldTree, MethodTree, is_static}
use Rattle.ss_tables.specs.Classes.{Declared, field_of, above, is_array_number, declared_place}
use Rattle.ss_tables.specs.Types.{class_of}
use Rattle.ss_tables.specs.Words.{is_state_read}
use Rattle.ss_tables.specs.Statics.{Receiver, TheConsole, TheOwner, TheBase, AClass, AValue, Callee, AMethod, APrint, AWord, ABase, NoCallee, receiver, static, result_type, name_callee, member_callee}
use Rattle.ss_typed.specs.Tree.{ExprTree, LocalOf, IffOf, ImpliesOf, BinaryOf, IsOf, AsOf, NegateOf, NotOf, CastOf, FieldOf, ElementOf, LengthOf, OldOf, QuantifiedOf, StateOf, OwnersOf, NewOf, NewArrayOf, CallOf, StaticOf, BaseOf, Arguments, NoMore, Argument}
use Rattle.ss_resolver_rules.specs.Names.{Env, known, within}
use Rattle.ss_resolver_rules.specs.declared.known.Known.{Known}
use Rattle.ss_resolver_rules.specs.declared.known.Known.TheVariants.{Variable, BoundName}
use Rattle.ss_resolver_rules.specs.Numbers.{class_in, method_id, table_place}
use Rattle.ss_resolver_rules.specs.Expressions.{this, read_field, known_or_field, field_after, state_word, third_class, member, method_call, base_call, owner_question, place_or_own, call_of, question, called_after, called_bare, expr, call, args}
use Rattle.ss_expand_formed.proofs.Choosing.{on_either, all_three}
use Rattle.ss_expand_formed.proofs.Shape.{is_from}
use Rattle.ss_expand_formed.proofs.Resolving.{is_numbered, may_have, known_numbered}

-- each local in the expression passes the test
abbrev mutual
  pub locals_pass : (ℕ → Bool) → ExprTree → Bool
  locals_pass f (LocalOf p x t) = f x
  locals_pass f (IffOf p a b) = locals_pass f a && locals_pass f b
  locals_pass f (ImpliesOf p a b) = locals_pass f a && locals_pass f b
  locals_pass f (BinaryOf p o a b) = locals_pass f a && locals_pass f b
  locals_pass f (IsOf p e t) = locals_pass f e
  locals_pass f (AsOf p e t) = locals_pass f e
  locals_pass f (NegateOf p e) = locals_pass f e
  locals_pass f (NotOf p e) = locals_pass f e
  locals_pass f (CastOf p t non_null e) = locals_pass f e
  locals_pass f (FieldOf p e g t) = locals_pass f e
  locals_pass f (ElementOf p a i) = locals_pass f a && locals_pass f i
  locals_pass f (LengthOf p e) = locals_pass f e
  locals_pass f (OldOf p e) = locals_pass f e
  locals_pass f (QuantifiedOf p q name low high e) = locals_pass f low && locals_pass f high && locals_pass f e
  locals_pass f (StateOf p w e) = locals_pass f e
  locals_pass f (OwnersOf p w a b) = locals_pass f a && locals_pass f b
  locals_pass f (NewOf p t es) = args_pass f es
  locals_pass f (NewArrayOf p t e) = locals_pass f e
  locals_pass f (CallOf p e m t es) = locals_pass f e && args_pass f es
  locals_pass f (StaticOf p n t es) = args_pass f es
  locals_pass f (BaseOf p m t es) = args_pass f es
  locals_pass f e = true

  pub args_pass : (ℕ → Bool) → Arguments → Bool
  args_pass f NoMore = true
  args_pass f (Argument e es) = locals_pass f e && args_pass f es

module _ (f : ℕ → Bool) where
  abbrev Passes : ExprTree → Type 0
  Passes e = locals_pass f e ≡ true

  -- ---- names and members

  field_passes : (e : Env) (p : Place) (o : ExprTree) (d : Option (Declared FieldTree)) → Passes o → Passes (read_field e p o d)
  field_passes e p o None h = refl
  field_passes e p o (Some d) h = h

  after_passes : (e : Env) (p : Place) (o : ExprTree) (x : List ℕ) (k : Option ℕ) → Passes o → Passes (field_after e p o x k)
  after_passes e p o x None h = h
  after_passes e p o x (Some k) h = field_passes e p o (field_of e.scope.classes k x) h

  member_passes : (e : Env) (p : Place) (o : ExprTree) (x : List ℕ) (t : ℕ) → Passes o → Passes (member e p o x t)
  member_passes e p o x t h =
      on_either Passes (is_state_read x) (StateOf p (state_word x) o) (if is_array_number t then LengthOf p o else field_after e p o x (declared_place t)) h
      (on_either Passes (is_array_number t) (LengthOf p o) (field_after e p o x (declared_place t)) h (after_passes e p o x (declared_place t) h))

  -- ---- calls

  method_passes : (e : Env) (p : Place) (k : ℕ) (o : ExprTree) (given : Arguments) (m : Declared MethodTree) → Passes o → args_pass f given ≡ true → Passes (method_call e p k o given m)
  method_passes e p k o given m h g =
      on_either Passes (is_static m.member) (StaticOf p (method_id e.scope.classes m.class m.member.name.text) (result_type e.scope.classes m.member.result) given)
      (CallOf p o (table_place e.scope.classes k m.member.name.text) (result_type e.scope.classes m.member.result) given) g (and_from _ _ h g)

  base_passes : (e : Env) (p : Place) (given : Arguments) (m : Declared MethodTree) (k : Option ℕ) → args_pass f given ≡ true → Passes (base_call e p given m k)
  base_passes e p given m None g = refl
  base_passes e p given m (Some k) g = g

  call_passes : (e : Env) (p : Place) (r : Receiver) (o : ExprTree) (given : Arguments) (m : Declared MethodTree) → Passes o → args_pass f given ≡ true → Passes (call_of e p r o given m)
  call_passes e p TheBase o given m h g = base_passes e p given m (above e.scope.classes e.scope.class) g
  call_passes e p (AClass k) o given m h g = method_passes e p k o given m h g
  call_passes e p (AValue t) o given m h g = method_passes e p (place_or_own e (option_and_then declared_place (option_and_then class_of t))) o given m h g
  call_passes e p TheConsole o given m h g = refl
  call_passes e p TheOwner o given m h g = refl

  owner_passes : (e : Env) (p : Place) (x : List ℕ) (es : text.Arguments) (given : Arguments) → args_pass f given ≡ true → Passes (owner_question e p x es given)
  owner_passes e p x es NoMore g = refl
  owner_passes e p x es (Argument a NoMore) g = (and_parts (locals_pass f a) true g).0
  owner_passes e p x es (Argument a (Argument b more)) g =
      let both = and_parts (locals_pass f a) (locals_pass f b && args_pass f more) g in
      let two = and_from _ _ both.0 (and_parts (locals_pass f b) (args_pass f more) both.1).0 in
      on_either Passes (bytes_eq x (codes "Same")) (OwnersOf p SameOwner a b) (OwnersOf p (OwnedAt (third_class e es)) a b) two two

  question_passes : (e : Env) (p : Place) (r : Receiver) (o : ExprTree) (x : List ℕ) (es : text.Arguments) (given : Arguments) → Passes o → args_pass f given ≡ true → Passes (question e p r o x es given)
  question_passes e p TheOwner o x es given h g = owner_passes e p x es given g
  question_passes e p TheBase o x es given h g = h
  question_passes e p (AClass k) o x es given h g = h
  question_passes e p (AValue t) o x es given h g = h
  question_passes e p TheConsole o x es given h g = refl

  called_passes : (e : Env) (p : Place) (r : Receiver) (o : ExprTree) (x : List ℕ) (es : text.Arguments) (given : Arguments) (c : Callee) → Passes o → args_pass f given ≡ true → Passes (called_after e p r o x es given c)
  called_passes e p r o x es given (AMethod m) h g = call_passes e p r o given m h g
  called_passes e p r o x es given (AWord k) h g = question_passes e p r o x es given h g
  called_passes e p r o x es given (APrint is_line) h g = refl
  called_passes e p r o x es given ABase h g = refl
  called_passes e p r o x es given NoCallee h g = and_from _ _ h g

  bare_passes : (e : Env) (p q : Place) (given : Arguments) (c : Callee) → args_pass f given ≡ true → Passes (called_bare e p q given c)
  bare_passes e p q given (AMethod m) g = method_passes e p e.scope.class (this e q) given m refl g
  bare_passes e p q given (AWord k) g = refl
  bare_passes e p q given (APrint is_line) g = refl
  bare_passes e p q given ABase g = refl
  bare_passes e p q given NoCallee g = refl

module _ (low : ℕ) where
  abbrev In : Env → ExprTree → Type 0
  In e x = locals_pass (is_from low e.next) x ≡ true

  name_passes : (e : Env) (p : Place) (x : List ℕ) (k : Option Known) → may_have low e.next k ≡ true → In e (known_or_field e p x k)
  name_passes e p x (Some (Variable y t)) h = h
  name_passes e p x (Some (BoundName k)) h = refl
  name_passes e p x None h = field_passes (is_from low e.next) e p (this e p) (field_of e.scope.classes e.scope.class x) refl

  mutual
    pub reads_in_scope : (e : Env) → is_numbered low e ≡ true → (a : text.ExprTree) → In e (expr e a)
    reads_in_scope e h (text.NameOf p x) = name_passes e p x (known e x) (known_numbered low e h x)
    reads_in_scope e h (text.ParenOf p a) = reads_in_scope e h a
    reads_in_scope e h (text.OldOf p a) = reads_in_scope e h a
    reads_in_scope e h (text.NegateOf p a) = reads_in_scope e h a
    reads_in_scope e h (text.NotOf p a) = reads_in_scope e h a
    reads_in_scope e h (text.IffOf p a b) = and_from _ _ (reads_in_scope e h a) (reads_in_scope e h b)
    reads_in_scope e h (text.ImpliesOf p a b) = and_from _ _ (reads_in_scope e h a) (reads_in_scope e h b)
    reads_in_scope e h (text.BinaryOf p o a b) = and_from _ _ (reads_in_scope e h a) (reads_in_scope e h b)
    reads_in_scope e h (text.IsOf p a t) = reads_in_scope e h a
    reads_in_scope e h (text.AsOf p a t) = reads_in_scope e h a
    reads_in_scope e h (text.CastOf p t a) = reads_in_scope e h a
    reads_in_scope e h (text.MemberOf p a n) = member_passes (is_from low e.next) e p (expr e a) n.text (class_in (static e.scope a)) (reads_in_scope e h a)
    reads_in_scope e h (text.ElementOf p a i) = and_from _ _ (reads_in_scope e h a) (reads_in_scope e h i)
    reads_in_scope e h (text.CallOf p x es) = call_in_scope e h p es (args e es) (args_in_scope e h es) x
    reads_in_scope e h (text.NewOf p n es) = args_in_scope e h es
    reads_in_scope e h (text.NewArrayOf p q t n) = reads_in_scope e h n
    reads_in_scope e h (text.QuantifiedOf p q n from to a) = all_three _ _ _ (reads_in_scope e h from) (reads_in_scope e h to) (reads_in_scope (within e n) h a)
    reads_in_scope e h a = refl

    call_in_scope : (e : Env) → is_numbered low e ≡ true → (p : Place) (es : text.Arguments) (given : Arguments) → args_pass (is_from low e.next) given ≡ true → (x : text.ExprTree) → In e (call e p es given x)
    call_in_scope e h p es given g (text.NameOf q n) = bare_passes (is_from low e.next) e p q given (name_callee e.scope n) g
    call_in_scope e h p es given g (text.MemberOf q a n) =
        called_passes (is_from low e.next) e p (receiver e.scope a (static e.scope a)) (expr e a) n.text es given (member_callee e.scope n.text (receiver e.scope a (static e.scope a))) (reads_in_scope e h a) g
    call_in_scope e h p es given g x = refl

    args_in_scope : (e : Env) → is_numbered low e ≡ true → (es : text.Arguments) → args_pass (is_from low e.next) (args e es) ≡ true
    args_in_scope e h text.NoMore = refl
    args_in_scope e h (text.Argument a es) = and_from _ _ (reads_in_scope e h a) (args_in_scope e h es)
