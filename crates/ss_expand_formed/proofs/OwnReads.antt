-- The reads of a resolved expression: what stands after `this` is a field that the class has.
use Rattle.std.proofs.Common.{◌≡◌, ℕ, ◌+◌, ◌-◌, ◌*◌, ◌/◌, ◌%◌, leb, arith, List, Bool, true, false, Option, Some, None, refl, sym, ◌∙◌, ap, inl, inr, ◌⊎◌, ⊎_elim}
use Rattle.std.specs.Prelude.{not, ◌&&◌, ◌||◌, is_some, option_and_then, unwrap_or, codes, if◌then◌else◌}
use Rattle.std.specs.Str.{bytes_eq}
use Rattle.std.proofs.lemmas.Option.{same_Some}
use Rattle.std.proofs.lemmas.Bool.{false≢true, le-leb, and_from}
use Rattle.ss_core.specs.declared.names.Place.{Place}
use Rattle.ss_core.specs.declared.names.Ty.{Ty}
use Rattle.ss_core.specs.Tree.{SameOwner, OwnedAt}
use Rattle.ss_ast.specs.Expressions.{Arguments}
use Rattle.ss_ast.specs.Expressions as text
use Rattle.ss_ast.specs.Programs.{ClassTree}
use Rattle.ss_tables.specs.Members.{FieldTree, MethodTree, is_static}
use Rattle.ss_tables.specs.Classes.{Declared, field_of, above, class_named, class_number, is_array_number, declared_place}
use Rattle.ss_tables.specs.Types.{class_of}
use Rattle.ss_tables.specs.Words.{is_console, is_owner, is_state_read, is_state_call}
use Rattle.ss_tables.specs.Scopes.{Scope, local_named}
use Rattle.ss_tables.specs.Statics.{Receiver, TheConsole, TheOwner, TheBase, AClass, AValue, Callee, AMethod, APrint, AWord, ABase, NoCallee, is_member, class_or_value, this_type, receiver, member_type, read_type, static, name_callee, member_callee}
use Rattle.ss_typed.specs.Tree.{ExprTree, IffOf, ImpliesOf, BinaryOf, IsOf, AsOf, NegateOf, NotOf, CastOf, FieldOf, ElementOf, LengthOf, QuantifiedOf, NullOf, StateOf, OwnersOf, CallOf, StaticOf, BaseOf}
use Rattle.ss_typed.specs.Tree as typed
use Rattle.ss_typed.specs.Shapes.{is_this}
use Rattle.ss_resolver_rules.specs.Numbers.{field_id, class_in}
use Rattle.ss_resolver_rules.specs.Names.{Env, known, within}
use Rattle.ss_resolver_rules.specs.declared.known.Known.{Known}
use Rattle.ss_resolver_rules.specs.declared.known.Known.TheVariants.{Variable, BoundName}
use Rattle.ss_resolver_rules.specs.Expressions.{this, read_field, known_or_field, field_after, state_word, third_class, member, method_call, base_call, owner_question, call_of, question, called_after, called_bare, expr, call, args}

-- Each field that is read of `this` passes the test. What a call or a word of conditions holds isn't looked at.
abbrev pub own_reads : (ℕ → Bool) → ExprTree → Bool
own_reads test (FieldOf p e f t) = (not (is_this e) || test f) && own_reads test e
own_reads test (ElementOf p a i) = own_reads test a && own_reads test i
own_reads test (LengthOf p e) = own_reads test e
own_reads test (NegateOf p e) = own_reads test e
own_reads test (NotOf p e) = own_reads test e
own_reads test (BinaryOf p o a b) = own_reads test a && own_reads test b
own_reads test (ImpliesOf p a b) = own_reads test a && own_reads test b
own_reads test (IffOf p a b) = own_reads test a && own_reads test b
own_reads test (IsOf p e t) = own_reads test e
own_reads test (AsOf p e t) = own_reads test e
own_reads test (CastOf p t non_null e) = own_reads test e
own_reads test (QuantifiedOf p q name low high e) = own_reads test low && (own_reads test high && own_reads test e)
own_reads test e = true

-- ---- calls and words

-- a call, a word of conditions, or the null that stands for nothing
abbrev pub is_asked : ExprTree → Bool
is_asked (NullOf p) = true
is_asked (StateOf p w e) = true
is_asked (OwnersOf p w a b) = true
is_asked (CallOf p e m t es) = true
is_asked (StaticOf p n t es) = true
is_asked (BaseOf p m t es) = true
is_asked e = false

asked_not_this : (x : ExprTree) → is_asked x ≡ true → is_this x ≡ false
asked_not_this (NullOf p) h = refl
asked_not_this (StateOf p w e) h = refl
asked_not_this (OwnersOf p w a b) h = refl
asked_not_this (CallOf p e m t es) h = refl
asked_not_this (StaticOf p n t es) h = refl
asked_not_this (BaseOf p m t es) h = refl
asked_not_this x h = absurd (false≢true h)

asked_reads : (test : ℕ → Bool) (x : ExprTree) → is_asked x ≡ true → own_reads test x ≡ true
asked_reads test (NullOf p) h = refl
asked_reads test (StateOf p w e) h = refl
asked_reads test (OwnersOf p w a b) h = refl
asked_reads test (CallOf p e m t es) h = refl
asked_reads test (StaticOf p n t es) h = refl
asked_reads test (BaseOf p m t es) h = refl
asked_reads test x h = absurd (false≢true h)

asked_if : (b : Bool) (x y : ExprTree) → is_asked x ≡ true → is_asked y ≡ true → is_asked (if b then x else y) ≡ true
asked_if true x y h g = h
asked_if false x y h g = g

method_asked : (e : Env) (p : Place) (k : ℕ) (o : ExprTree) (given : typed.Arguments) (m : Declared MethodTree) → is_asked (method_call e p k o given m) ≡ true
method_asked e p k o given m = asked_if (is_static m.member) _ _ refl refl

base_asked : (e : Env) (p : Place) (given : typed.Arguments) (m : Declared MethodTree) (k : Option ℕ) → is_asked (base_call e p given m k) ≡ true
base_asked e p given m None = refl
base_asked e p given m (Some k) = refl

owner_asked : (e : Env) (p : Place) (n : List ℕ) (es : Arguments) (given : typed.Arguments) → is_asked (owner_question e p n es given) ≡ true
owner_asked e p n es typed.NoMore = refl
owner_asked e p n es (typed.Argument a typed.NoMore) = refl
owner_asked e p n es (typed.Argument a (typed.Argument b more)) = asked_if (bytes_eq n (codes "Same")) (OwnersOf p SameOwner a b) (OwnersOf p (OwnedAt (third_class e es)) a b) refl refl

call_asked : (e : Env) (p : Place) (r : Receiver) (o : ExprTree) (given : typed.Arguments) (m : Declared MethodTree) → is_asked (call_of e p r o given m) ≡ true
call_asked e p TheBase o given m = base_asked e p given m (above e.scope.classes e.scope.class)
call_asked e p (AClass k) o given m = method_asked e p k o given m
call_asked e p (AValue t) o given m = method_asked e p _ o given m
call_asked e p TheConsole o given m = refl
call_asked e p TheOwner o given m = refl

question_asked : (e : Env) (p : Place) (r : Receiver) (o : ExprTree) (n : List ℕ) (es : Arguments) (given : typed.Arguments) → is_asked (question e p r o n es given) ≡ true
question_asked e p TheOwner o n es given = owner_asked e p n es given
question_asked e p TheBase o n es given = refl
question_asked e p (AClass k) o n es given = refl
question_asked e p (AValue t) o n es given = refl
question_asked e p TheConsole o n es given = refl

after_asked : (e : Env) (p : Place) (r : Receiver) (o : ExprTree) (n : List ℕ) (es : Arguments) (given : typed.Arguments) (c : Callee) → is_asked (called_after e p r o n es given c) ≡ true
after_asked e p r o n es given (AMethod m) = call_asked e p r o given m
after_asked e p r o n es given (AWord k) = question_asked e p r o n es given
after_asked e p r o n es given (APrint is_line) = refl
after_asked e p r o n es given ABase = refl
after_asked e p r o n es given NoCallee = refl

bare_asked : (e : Env) (p q : Place) (given : typed.Arguments) (c : Callee) → is_asked (called_bare e p q given c) ≡ true
bare_asked e p q given (AMethod m) = method_asked e p e.scope.class (this e q) given m
bare_asked e p q given (AWord k) = refl
bare_asked e p q given (APrint is_line) = refl
bare_asked e p q given ABase = refl
bare_asked e p q given NoCallee = refl

pub called_asked : (e : Env) (p : Place) (es : Arguments) (given : typed.Arguments) (f : text.ExprTree) → is_asked (call e p es given f) ≡ true
called_asked e p es given (text.NameOf q n) = bare_asked e p q given (name_callee e.scope n)
called_asked e p es given (text.MemberOf q a n) =
    after_asked e p (receiver e.scope a (static e.scope a)) (expr e a) n.text es given (member_callee e.scope n.text (receiver e.scope a (static e.scope a)))
called_asked e p es given f = refl

-- ---- what is `this`

field_not_this : (e : Env) (p : Place) (o : ExprTree) (f : Option (Declared FieldTree)) → is_this (read_field e p o f) ≡ false
field_not_this e p o None = refl
field_not_this e p o (Some f) = refl

name_not_this : (e : Env) (p : Place) (n : List ℕ) (k : Option Known) → is_this (known_or_field e p n k) ≡ false
name_not_this e p n (Some (Variable x t)) = refl
name_not_this e p n (Some (BoundName k)) = refl
name_not_this e p n None = field_not_this e p (this e p) (field_of e.scope.classes e.scope.class n)

-- the class of a value that isn't known, or that is `this`
abbrev IsOwn : Scope → Option Ty → Type 0
IsOwn s t = (class_in t ≡ class_number s.class) ⊎ (class_in t ≡ 0)

-- a read after a dot that gives no field and no length has no class
member_none : (cs : List ClassTree) (n : List ℕ) (t : Option ℕ) → is_array_number (unwrap_or t 0) ≡ false → declared_place (unwrap_or t 0) ≡ None → class_in (member_type cs n t) ≡ 0
member_none cs n None a d = refl
member_none cs n (Some t) a d = rw (a, d) refl

none_if : (b : Bool) (x y : Option Ty) → class_in x ≡ 0 → class_in y ≡ 0 → class_in (if b then x else y) ≡ 0
none_if true x y h g = h
none_if false x y h g = g

no_member : (s : Scope) (n : List ℕ) (t : Option Ty) → is_array_number (class_in t) ≡ false → declared_place (class_in t) ≡ None → class_in (read_type s.classes n (AValue t)) ≡ 0
no_member s n t a d = none_if (is_state_read n) _ _ refl (none_if (is_state_call n) None _ refl (member_none s.classes n (option_and_then class_of t) a d))

module _ (s : Scope) (n : List ℕ) where
  abbrev HasNone : Receiver → Type 0
  HasNone r = class_in (read_type s.classes n r) ≡ 0

  receiver_if : (b : Bool) (q r : Receiver) → HasNone q → HasNone r → HasNone (if b then q else r)
  receiver_if true q r h g = h
  receiver_if false q r h g = g

  class_none : (k : Option ℕ) (t : Option Ty) → HasNone (AValue t) → HasNone (class_or_value k t)
  class_none None t h = h
  class_none (Some k) t h = refl

  read_by : (a : text.ExprTree) (t : Option Ty) → HasNone (AValue t) → HasNone (receiver s a t)
  read_by (text.NameOf p x) t h =
      receiver_if (is_some (local_named s x)) _ _ h
      (receiver_if (is_console x) _ _ refl
      (receiver_if (is_owner x) _ _ refl
      (receiver_if (is_member s.classes s.class x) _ _ h (class_none (class_named s.classes x) t h))))
  read_by (text.BaseOf p) t h = refl
  read_by a t h = h

after_this : (e : Env) (p : Place) (o : ExprTree) (n : List ℕ) (k : Option ℕ) → is_this (field_after e p o n k) ≡ true → (is_this o ≡ true) × (k ≡ None)
after_this e p o n None h = (h, refl)
after_this e p o n (Some k) h = absurd (false≢true (sym (field_not_this e p o (field_of e.scope.classes k n)) ∙ h))

length_this : (e : Env) (p : Place) (o : ExprTree) (n : List ℕ) (b : Bool) (k : Option ℕ) → is_this (if b then LengthOf p o else field_after e p o n k) ≡ true → (is_this o ≡ true) × (b ≡ false) × (k ≡ None)
length_this e p o n true k h = absurd (false≢true h)
length_this e p o n false k h = let r = after_this e p o n k h in (r.0, refl, r.1)

member_this : (e : Env) (p : Place) (o : ExprTree) (n : List ℕ) (w : Bool) (t : ℕ) → is_this (if w then StateOf p (state_word n) o else if is_array_number t then LengthOf p o else field_after e p o n (declared_place t)) ≡ true →
    (is_this o ≡ true) × (is_array_number t ≡ false) × (declared_place t ≡ None)
member_this e p o n true t h = absurd (false≢true h)
member_this e p o n false t h = length_this e p o n (is_array_number t) (declared_place t) h

this_own : (s : Scope) (is_refused : Bool) → IsOwn s (this_type is_refused s.class)
this_own s true = inr refl
this_own s false = inl refl

-- what is resolved to `this` is of its class, or of none
this_is_own : (e : Env) (a : text.ExprTree) → is_this (expr e a) ≡ true → IsOwn e.scope (static e.scope a)
this_is_own e (text.ThisOf p) h = this_own e.scope e.scope.refuses_this
this_is_own e (text.BaseOf p) h = inr refl
this_is_own e (text.ParenOf p a) h = this_is_own e a h
this_is_own e (text.NameOf p n) h = absurd (false≢true (sym (name_not_this e p n (known e n)) ∙ h))
this_is_own e (text.CallOf p f es) h = absurd (false≢true (sym (asked_not_this (call e p es (args e es) f) (called_asked e p es (args e es) f)) ∙ h))
this_is_own e (text.MemberOf p a n) h =
    let r = member_this e p (expr e a) n.text (is_state_read n.text) (class_in (static e.scope a)) h in
    inr (read_by e.scope n.text a (static e.scope a) (no_member e.scope n.text (static e.scope a) r.1 r.2))
this_is_own e a h = absurd (false≢true h)

-- ---- the reads of an expression

implied : (a b : Bool) → (a ≡ true → b ≡ true) → (not a || b) ≡ true
implied true b h = h refl
implied false b h = refl

own_place : (k : ℕ) → declared_place (class_number k) ≡ Some k
own_place k =
    let high : leb 4 (4 + 2 * k) ≡ true = le-leb 4 (4 + 2 * k) (omega arith) in
    let even : (4 + 2 * k) % 2 ≡ 0 = omega arith in
    let place : (4 + 2 * k - 4) / 2 ≡ k = omega arith in
    rw (high, even, place) refl

module _ (test : ℕ → Bool) where
  -- the fields that the class of the place has pass
  abbrev pub PassOwn : Env → Type 0
  PassOwn e = (n : List ℕ) (f : Declared FieldTree) → field_of e.scope.classes e.scope.class n ≡ Some f → test (field_id e.scope.classes f.class f.member.name.text) ≡ true

  read_reads : (e : Env) (p : Place) (o : ExprTree) (f : Option (Declared FieldTree)) → own_reads test o ≡ true → (is_this o ≡ true → (g : Declared FieldTree) → f ≡ Some g → test (field_id e.scope.classes g.class g.member.name.text) ≡ true) → own_reads test (read_field e p o f) ≡ true
  read_reads e p o None h own = refl
  read_reads e p o (Some f) h own = and_from _ (own_reads test o) (implied (is_this o) _ (λ is. own is f refl)) h

  name_reads : (e : Env) (p : Place) (n : List ℕ) → PassOwn e → (k : Option Known) → own_reads test (known_or_field e p n k) ≡ true
  name_reads e p n own (Some (Variable x t)) = refl
  name_reads e p n own (Some (BoundName k)) = refl
  name_reads e p n own None = read_reads e p (this e p) (field_of e.scope.classes e.scope.class n) refl (λ is f g. own n f g)

  reads_if : (b : Bool) (x y : ExprTree) → own_reads test x ≡ true → own_reads test y ≡ true → own_reads test (if b then x else y) ≡ true
  reads_if true x y h g = h
  reads_if false x y h g = g

  after_reads : (e : Env) (p : Place) (o : ExprTree) (n : List ℕ) → PassOwn e → own_reads test o ≡ true → (k : Option ℕ) → (is_this o ≡ true → (k ≡ Some e.scope.class) ⊎ (k ≡ None)) → own_reads test (field_after e p o n k) ≡ true
  after_reads e p o n own h None is = h
  after_reads e p o n own h (Some k) is =
      read_reads e p o (field_of e.scope.classes k n) h
      (λ this f g.
      ⊎_elim
      (λ same. own n f (ap (λ i. field_of e.scope.classes i n) (sym (same_Some _ _ same)) ∙ g))
      (λ none. absurd (let x : ⊥ = cc in x))
      (is this))

  member_reads : (e : Env) (p : Place) (o : ExprTree) (n : List ℕ) (t : ℕ) → PassOwn e → own_reads test o ≡ true → (is_this o ≡ true → (t ≡ class_number e.scope.class) ⊎ (t ≡ 0)) → own_reads test (member e p o n t) ≡ true
  member_reads e p o n t own h is =
      reads_if (is_state_read n) _ _ refl
      (reads_if (is_array_number t) _ _ h
      (after_reads e p o n own h (declared_place t)
      (λ this. ⊎_elim (λ same. inl (ap declared_place same ∙ own_place e.scope.class)) (λ none. inr (ap declared_place none)) (is this))))

  pub expr_reads : (e : Env) (a : text.ExprTree) → PassOwn e → own_reads test (expr e a) ≡ true
  expr_reads e (text.NameOf p n) own = name_reads e p n own (known e n)
  expr_reads e (text.ParenOf p a) own = expr_reads e a own
  expr_reads e (text.NegateOf p a) own = expr_reads e a own
  expr_reads e (text.NotOf p a) own = expr_reads e a own
  expr_reads e (text.IffOf p a b) own = and_from _ _ (expr_reads e a own) (expr_reads e b own)
  expr_reads e (text.ImpliesOf p a b) own = and_from _ _ (expr_reads e a own) (expr_reads e b own)
  expr_reads e (text.BinaryOf p o a b) own = and_from _ _ (expr_reads e a own) (expr_reads e b own)
  expr_reads e (text.IsOf p a t) own = expr_reads e a own
  expr_reads e (text.AsOf p a t) own = expr_reads e a own
  expr_reads e (text.CastOf p t a) own = expr_reads e a own
  expr_reads e (text.MemberOf p a n) own = member_reads e p (expr e a) n.text (class_in (static e.scope a)) own (expr_reads e a own) (this_is_own e a)
  expr_reads e (text.ElementOf p a i) own = and_from _ _ (expr_reads e a own) (expr_reads e i own)
  expr_reads e (text.CallOf p f es) own = asked_reads test (call e p es (args e es) f) (called_asked e p es (args e es) f)
  expr_reads e (text.QuantifiedOf p q n low high a) own = and_from _ _ (expr_reads e low own) (and_from _ _ (expr_reads e high own) (expr_reads (within e n) a own))
  expr_reads e a own = refl
