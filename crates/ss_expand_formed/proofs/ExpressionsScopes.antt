-- Where an expression has no fault of types, its static type is the same whether a static method refuses members of `this` or not.
use Rattle.std.proofs.Common.{◌≡◌, ℕ, List, [], ◌++◌, Bool, true, false, Option, Some, None, refl, sym, ◌∙◌, ap}
use Rattle.std.specs.Prelude.{◌&&◌, ◌||◌, not, is_some, is_none, option_and_then, if◌then◌else◌}
use Rattle.std.proofs.lemmas.Bool.{false≢true}
use Rattle.ss_core.specs.declared.names.Place.{Place}
use Rattle.ss_core.specs.declared.names.Ty.{Ty}
use Rattle.ss_ast.specs.Expressions.{NameTree, ExprTree, MemberOf, ElementOf, CallOf, ThisOf, BaseOf, NameOf, ParenOf, OldOf}
use Rattle.ss_ast.specs.Programs.{ClassTree}
use Rattle.ss_tables.specs.Members.{FieldTree, MethodTree, is_static}
use Rattle.ss_tables.specs.Classes.{Declared, field_of, method_of, class_named}
use Rattle.ss_tables.specs.Words.{is_console, is_owner}
use Rattle.ss_tables.specs.Types.{class_of, element_type}
use Rattle.ss_tables.specs.Scopes.{Scope, local_named}
use Rattle.ss_tables.specs.Statics.{Receiver, TheConsole, TheOwner, AValue, is_member, class_or_value, name_receiver, receiver, type_of_field, type_of_local, unless_refused, name_type, read_type, AMethod, NoCallee, method_callee, name_callee, member_callee, count, called_with, call_type, callee, static}
use Rattle.ss_faults.specs.declared.Fault.{Fault}
use Rattle.ss_resolver_types_heads.specs.Faults.{fault_where, bad_type}
use Rattle.ss_resolver_types_heads.specs.Wants.{AnArray, AnInt, wrong}
use Rattle.ss_resolver_types_heads.specs.Calls.{ExprContext, Refused, Taking, param_wants, called_method, called_name, is_wrong_call, called}
use Rattle.ss_resolver_types_heads.specs.Expressions.{AsValue, BeforeDot, AsCallee, name_faults, is_misused, is_value_receiver, faults}
use Rattle.ss_expand_formed.proofs.Facts.{none_left, and_false}

abbrev pub refusing : Bool → Bool → Scope → Scope
refusing members this s = record s { refuses_members = members; refuses_this = this }

-- the context of an expression at a place of this scope
abbrev pub expr_context : Bool → Bool → Bool → Scope → ExprContext
expr_context static condition lacks s = record { scope = refusing static static s; is_static = static; in_condition = condition; lacks_result = lacks }

pub no_fault : (b : Bool) (f : Fault) → fault_where b f ≡ [] → b ≡ false
no_fault true f h = absurd (let x : ⊥ = cc in x)
no_fault false f h = refl

pub three_left : {A : Type 0} (xs ys zs : List A) → xs ++ ys ++ zs ≡ [] → (xs ≡ []) × (ys ≡ []) × (zs ≡ [])
three_left xs ys zs h = let one = none_left (xs ++ ys) zs h in let two = none_left xs ys one.0 in (two.0, two.1, one.1)

pub four_left : {A : Type 0} (xs ys zs us : List A) → xs ++ ys ++ zs ++ us ≡ [] → (xs ≡ []) × (ys ≡ []) × (zs ≡ []) × (us ≡ [])
four_left xs ys zs us h = let one = none_left (xs ++ ys ++ zs) us h in let two = three_left xs ys zs one.0 in (two.0, two.1, two.2, one.1)

refused_none : (b : Bool) → unless_refused b None ≡ None
refused_none true = refl
refused_none false = refl

same_if : {X : Type 0} (b : Bool) (x y z : X) → (b ≡ false → y ≡ z) → (if b then x else y) ≡ (if b then x else z)
same_if true x y z h = refl
same_if false x y z h = h refl

module _ (condition lacks : Bool) (members this : Bool) where
  -- the scope of a static method, as the phase of types has it, and one that refuses otherwise
  abbrev A : Scope → ExprContext
  A s = expr_context true condition lacks s

  abbrev V : Scope → Scope
  V s = refusing members this s

  abbrev S : Scope → Scope
  S s = refusing false false s

  field_refused : (cs : List ClassTree) (o : Option (Declared FieldTree)) → is_some o ≡ false → unless_refused members (type_of_field cs o) ≡ type_of_field cs o
  field_refused cs None h = refused_none members
  field_refused cs (Some f) h = absurd (let x : ⊥ = cc in x)

  no_field : (l : Bool) (f m : Bool) → (not l && (if f then true else m)) ≡ false → l ≡ false → f ≡ false
  no_field l true m h g = absurd (false≢true (sym h ∙ ap (λ z. not z && true) g))
  no_field l false m h g = refl

  -- none of a local that isn't there
  is_none_some : {X : Type 0} (o : Option X) → is_none o ≡ not (is_some o)
  is_none_some None = refl
  is_none_some (Some x) = refl

  name_same : (s : Scope) (p : Place) (n : List ℕ) → name_faults (A s) p n ≡ [] → name_type (V s) n ≡ name_type (S s) n
  name_same s p n h =
      let bad = no_fault (is_misused (A s) n) (bad_type p) h in
      let l = local_named s n in
      let f = field_of s.classes s.class n in
      same_if (is_some l) (type_of_local l) (unless_refused members (type_of_field s.classes f)) (type_of_field s.classes f)
      (λ none. field_refused s.classes f
      (no_field (is_some l) (is_some f) (is_some (method_of s.classes s.class n)) (ap (λ z. z && (if is_some f then true else is_some (method_of s.classes s.class n))) (sym (is_none_some l)) ∙ bad) none))

  -- ---- what is called

  kind_same : (cs : List ClassTree) (n : ℕ) (m : Option (Declared MethodTree)) → is_wrong_call n (called_method cs true m) ≡ false → method_callee members m ≡ method_callee false m
  kind_same cs n None h = refl
  kind_same cs n (Some m) h = by (is_static m.member) h
    where
      by : (b : Bool) → is_wrong_call n (if not b then Refused else Taking (param_wants cs m.member.params)) ≡ false → (if members && not b then NoCallee else AMethod m) ≡ AMethod m
      by true g = ap (λ (z : Bool). if z then NoCallee else AMethod m) (and_false members false refl)
      by false g = absurd (false≢true (sym g))

  called_same : (s : Scope) (k : ℕ) (n : List ℕ) → is_wrong_call k (called_name (A s) n) ≡ false → name_callee (V s) n ≡ name_callee (S s) n
  called_same s k n h =
      by (is_some (local_named s n) || is_some (field_of s.classes s.class n)) h
    where
      by : (b : Bool) → is_wrong_call k (if b then Refused else called_method s.classes true (method_of s.classes s.class n)) ≡ false → (if b then NoCallee else method_callee members (method_of s.classes s.class n)) ≡ (if b then NoCallee else method_callee false (method_of s.classes s.class n))
      by true g = refl
      by false g = kind_same s.classes k (method_of s.classes s.class n) g

  -- ---- what stands before a dot

  receiver_if : (b : Bool) (x y z : Receiver) → (b ≡ false → y ≡ z) → (if b then x else y) ≡ (if b then x else z)
  receiver_if b x y z h = same_if b x y z h

  abbrev any_receiver : Bool → Bool → Bool → Bool → Option ℕ → Option Ty → Receiver
  any_receiver l c o m k v = if l then AValue v else if c then TheConsole else if o then TheOwner else if m then AValue v else class_or_value k v

  -- a bare name before a dot, which is a value only where it may be read
  bare_receiver : (s : Scope) (n : List ℕ) (t u : Option Ty) → (is_value_receiver (name_receiver s n None) ≡ true → t ≡ u) → name_receiver s n t ≡ name_receiver s n u
  bare_receiver s n t u h = by (is_some (local_named s n)) (is_console n) (is_owner n) (is_member s.classes s.class n) (class_named s.classes n) h
    where
      by : (l c o m : Bool) (k : Option ℕ) → (is_value_receiver (any_receiver l c o m k None) ≡ true → t ≡ u) → any_receiver l c o m k t ≡ any_receiver l c o m k u
      by true c o m k g = ap AValue (g refl)
      by false true o m k g = refl
      by false false true m k g = refl
      by false false false true k g = ap AValue (g refl)
      by false false false false (Some k) g = refl
      by false false false false None g = ap AValue (g refl)

  named_receiver : (s : Scope) (p : Place) (n : List ℕ) → (if is_value_receiver (name_receiver (A s).scope n None) then name_faults (A s) p n else []) ≡ [] → name_receiver (V s) n (name_type (V s) n) ≡ name_receiver (S s) n (name_type (S s) n)
  named_receiver s p n h = bare_receiver (S s) n (name_type (V s) n) (name_type (S s) n) (λ is. name_same s p n (by (is_value_receiver (name_receiver (A s).scope n None)) is h))
    where
      by : (b : Bool) → b ≡ true → (if b then name_faults (A s) p n else []) ≡ [] → name_faults (A s) p n ≡ []
      by true is g = g
      by false is g = absurd (false≢true is)

  -- any other expression has its static type
  receiver_same : (s : Scope) (y : ExprTree) → faults (A s) BeforeDot y ≡ [] → (faults (A s) AsValue y ≡ [] → static (V s) y ≡ static (S s) y) → receiver (V s) y (static (V s) y) ≡ receiver (S s) y (static (S s) y)
  receiver_same s (NameOf p n) h g = named_receiver s p n h
  receiver_same s (BaseOf p) h g = refl
  receiver_same s y h g = ap AValue (g h)

  -- the callee after a dot, where it is none of the class above
  after_same : (s : Scope) (k : ℕ) (p : Place) (y : ExprTree) (n : NameTree) → is_wrong_call k (called (A s) k (MemberOf p y n)) ≡ false → (t : Option Ty) → member_callee (V s) n.text (receiver (S s) y t) ≡ member_callee (S s) n.text (receiver (S s) y t)
  after_same s k p (BaseOf q) n g t = absurd (false≢true (sym g))
  after_same s k p (NameOf q m) n g t = by (is_some (local_named s m)) (is_console m) (is_owner m) (is_member s.classes s.class m) (class_named s.classes m)
    where
      by : (l c o b : Bool) (j : Option ℕ) → member_callee (V s) n.text (any_receiver l c o b j t) ≡ member_callee (S s) n.text (any_receiver l c o b j t)
      by true c o b j = refl
      by false true o b j = refl
      by false false true b j = refl
      by false false false true j = refl
      by false false false false (Some j) = refl
      by false false false false None = refl
  after_same s k p y n g t = refl

  mutual
    pub static_same : (s : Scope) (y : ExprTree) → faults (A s) AsValue y ≡ [] → static (V s) y ≡ static (S s) y
    static_same s (NameOf p n) h = name_same s p n h
    static_same s (ThisOf p) h = absurd (let z : ⊥ = cc in z)
    static_same s (MemberOf p y n) h = ap (read_type s.classes n.text) (receiver_same s y (three_left (faults (A s) BeforeDot y) _ _ h).0 (static_same s y))
    static_same s (ElementOf p y i) h =
        let left = none_left (faults (A s) AsValue y ++ wrong (A s).scope AnArray y) (faults (A s) AsValue i ++ wrong (A s).scope AnInt i) h in
        ap (λ t. option_and_then element_type (option_and_then class_of t)) (static_same s y (none_left (faults (A s) AsValue y) _ left.0).0)
    static_same s (CallOf p f es) h =
        let left = four_left (faults (A s) AsCallee f) _ _ _ h in
        ap (λ c. call_type s.classes (called_with (count es) c)) (callee_same s (count es) f left.0 (no_fault (is_wrong_call (count es) (called (A s) (count es) f)) (bad_type p) left.2))
    static_same s (ParenOf p y) h = static_same s y h
    static_same s (OldOf p y) h = static_same s y (none_left (faults (A s) AsValue y) _ h).0
    static_same s y h = refl

    pub callee_same : (s : Scope) (k : ℕ) (f : ExprTree) → faults (A s) AsCallee f ≡ [] → is_wrong_call k (called (A s) k f) ≡ false → callee (V s) f ≡ callee (S s) f
    callee_same s k (NameOf p n) h g = called_same s k n g
    callee_same s k (MemberOf p y n) h g =
        let left = three_left (faults (A s) BeforeDot y) _ _ h in
        ap (member_callee (V s) n.text) (receiver_same s y left.0 (static_same s y)) ∙ after_same s k p y n g (static (S s) y)
    callee_same s k f h g = refl

  pub receiver_alike : (s : Scope) (y : ExprTree) → faults (A s) BeforeDot y ≡ [] → receiver (V s) y (static (V s) y) ≡ receiver (S s) y (static (S s) y)
  receiver_alike s y h = receiver_same s y h (static_same s y)
