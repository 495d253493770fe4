-- What is assigned in a source without faults has a type of the table: that of null is declared nowhere.
use Rattle.std.proofs.Common.{◌≡◌, ℕ, List, Bool, true, false, Option, Some, None, refl, sym, ◌∙◌, ap}
use Rattle.std.specs.Prelude.{◌-◌, ◌==◌, is_some, option_map, option_and_then, if◌then◌else◌}
use Rattle.std.proofs.lemmas.Bool.{false≢true}
use Rattle.std.proofs.lemmas.Option.{same_Some}
use Rattle.ss_core.specs.declared.names.Ty.{Ty}
use Rattle.ss_core.specs.declared.names.Ty.TheVariants as ty
use Rattle.ss_core.specs.Tree as core
use Rattle.ss_core.specs.Chain.{is_type, is_class}
use Rattle.ss_ast.specs.Expressions.{TypeNameTree, IntType, BoolType, ObjectType, ClassType, TypeTree, MemberOf, ElementOf, NameOf}
use Rattle.ss_ast.specs.Expressions as text
use Rattle.ss_ast.specs.Programs.{ClassTree, ProgramTree}
use Rattle.ss_tables.specs.Members.{FieldTree}
use Rattle.ss_tables.specs.Classes.{Declared, class_named, class_number, array_number, is_array_number, declared_place, field_of}
use Rattle.ss_tables.specs.Types.{reference, named_type, array_type, written_type, class_of, element_type}
use Rattle.ss_tables.specs.Words.{is_state_read, is_state_call, is_length}
use Rattle.ss_tables.specs.Scopes.{Scope, Local, local_named}
use Rattle.ss_tables.specs.Named.{named_in, named_among}
use Rattle.ss_tables.specs.Statics.{Receiver, TheConsole, TheOwner, TheBase, AClass, AValue, receiver, type_of_field, type_of_local, unless_refused, field_type, member_type, read_type}
use Rattle.ss_tables.specs.Statics as statics
use Rattle.ss_resolver_types_expressions.specs.Statements.{is_target}
use Rattle.ss_resolver_rules.specs.Names.{known}
use Rattle.ss_resolver_rules.specs.declared.known.Known.{Known}
use Rattle.ss_resolver_rules.specs.declared.known.Known.TheVariants.{Variable, BoundName}
use Rattle.ss_expand_formed.specs.Laws.{core_of}
use Rattle.ss_expand_formed.proofs.Fit.{Context}
use Rattle.ss_expand_formed.proofs.Names.{Meets, meets_in, meets_among, meets_else}
use Rattle.ss_expand_formed.proofs.ExpressionsPlaces.{At, scope_at, env_at, IsKnown, IsPlace}

-- ---- types that are written

referred : (m : Bool) (f : ℕ → ℕ) (o : Option ℕ) → option_map (λ (k : ℕ). reference m (f k)) o ≡ Some ty.Null → ⊥
referred m f None h = cc
referred m f (Some k) h = cc

named_not_null : (cs : List ClassTree) (m : Bool) (n : TypeNameTree) → named_type cs m n ≡ Some ty.Null → ⊥
named_not_null cs m IntType h = cc
named_not_null cs m BoolType h = cc
named_not_null cs m ObjectType h = cc
named_not_null cs m (ClassType n) h = referred m class_number (class_named cs n) h

array_not_null : (cs : List ClassTree) (m : Bool) (n : TypeNameTree) → array_type cs m n ≡ Some ty.Null → ⊥
array_not_null cs m IntType h = cc
array_not_null cs m BoolType h = cc
array_not_null cs m ObjectType h = cc
array_not_null cs m (ClassType n) h = referred m array_number (class_named cs n) h

written_not_null : (cs : List ClassTree) (t : TypeTree) → written_type cs t ≡ Some ty.Null → ⊥
written_not_null cs t h = by t.is_array h
  where
    by : (b : Bool) → (if b then array_type cs t.non_null t.name else named_type cs t.non_null t.name) ≡ Some ty.Null → ⊥
    by true g = array_not_null cs t.non_null t.name g
    by false g = named_not_null cs t.non_null t.name g

-- ---- members and elements

field_not_null : (cs : List ClassTree) (f : Option (Declared FieldTree)) → type_of_field cs f ≡ Some ty.Null → ⊥
field_not_null cs None h = cc
field_not_null cs (Some f) h = written_not_null cs f.member.ty h

field_at_not_null : (cs : List ClassTree) (n : List ℕ) (k : Option ℕ) → field_type cs n k ≡ Some ty.Null → ⊥
field_at_not_null cs n None h = cc
field_at_not_null cs n (Some k) h = field_not_null cs (field_of cs k n) h

member_not_null : (cs : List ClassTree) (n : List ℕ) (c : Option ℕ) → member_type cs n c ≡ Some ty.Null → ⊥
member_not_null cs n None h = cc
member_not_null cs n (Some c) h = by (is_array_number c) (is_length n) h
  where
    by : (b d : Bool) → (if b then (if d then Some ty.Int else None) else field_type cs n (declared_place c)) ≡ Some ty.Null → ⊥
    by true true g = cc
    by true false g = cc
    by false d g = field_at_not_null cs n (declared_place c) g

read_not_null : (cs : List ClassTree) (n : List ℕ) (r : Receiver) → read_type cs n r ≡ Some ty.Null → ⊥
read_not_null cs n TheConsole h = cc
read_not_null cs n TheOwner h = cc
read_not_null cs n TheBase h = cc
read_not_null cs n (AClass k) h = cc
read_not_null cs n (AValue t) h = by (is_state_read n) (is_state_call n) h
  where
    by : (b d : Bool) → (if b then Some ty.Bool else if d then None else member_type cs n (option_and_then class_of t)) ≡ Some ty.Null → ⊥
    by true d g = cc
    by false true g = cc
    by false false g = member_not_null cs n (option_and_then class_of t) g

element_not_null : (c : Option ℕ) → option_and_then element_type c ≡ Some ty.Null → ⊥
element_not_null None h = cc
element_not_null (Some t) h = by (is_array_number t) (t == 1) (t == 2) (t == 3) h
  where
    by : (b i d o : Bool) → (if b then Some (if i then ty.Int else if d then ty.Bool else if o then reference false 0 else reference false (t - 1)) else None) ≡ Some ty.Null → ⊥
    by false i d o g = cc
    by true true d o g = cc
    by true false true o g = cc
    by true false false true g = cc
    by true false false false g = cc

-- a type other than that of null, whose class is of the table
pub type_known : (C : List core.ClassTree) (u : Ty) → (u ≡ ty.Null → ⊥) → ((c : ℕ) (n : Bool) → u ≡ ty.Ref (record { 0 = c }) n → is_class C c ≡ true) → is_type C u ≡ true
type_known C ty.Int other class = refl
type_known C ty.Bool other class = refl
type_known C ty.Null other class = absurd (other refl)
type_known C (ty.Ref c n) other class = class c.0 n refl

-- ---- targets

module _ (p : ProgramTree) (x : Context) (is_known : IsKnown p x) (static lacks answer : Bool) (a : At) (place : IsPlace p x static lacks answer a) where
  met : (n : List ℕ) → Meets x.locals a.bound (local_named (scope_at p a) n) (known (env_at p a) n)
  met n = meets_else x.locals a.bound (named_in a.names n) (named_among a.more_names n) (named_in a.numbers n) (named_among a.more_numbers n) (meets_in x.locals a.bound a.names a.numbers n place.inner) (meets_among x.locals a.bound a.more_names a.more_numbers n place.outer)

  name_not_null : (f : Option Ty) → (f ≡ Some ty.Null → ⊥) → (l : Option Local) (m : Option Known) → Meets x.locals a.bound l m → (if is_some l then type_of_local l else f) ≡ Some ty.Null → ⊥
  name_not_null f other None m h e = other e
  name_not_null f other (Some l) None h e = absurd h
  name_not_null f other (Some l) (Some (Variable y t)) h e =
      let null : t ≡ ty.Null = same_Some _ _ (sym h.0 ∙ e) in
      false≢true (ap (is_type (core_of p).classes) (sym null) ∙ is_known.locals y t h.1)
  name_not_null f other (Some l) (Some (BoundName j)) h e = let same : Some ty.Int ≡ Some ty.Null = sym h.0 ∙ e in cc

  pub target_not_null : (s : Scope) (y : text.ExprTree) → is_target s y ≡ true → statics.static (scope_at p a) y ≡ Some ty.Null → ⊥
  target_not_null s (NameOf q n) t h = name_not_null (type_of_field p.classes (field_of p.classes a.class n)) (field_not_null p.classes (field_of p.classes a.class n)) (local_named (scope_at p a) n) (known (env_at p a) n) (met n) h
  target_not_null s (MemberOf q e n) t h = read_not_null p.classes n.text (receiver (scope_at p a) e (statics.static (scope_at p a) e)) h
  target_not_null s (ElementOf q e i) t h = element_not_null (option_and_then class_of (statics.static (scope_at p a) e)) h
  target_not_null s y t h = false≢true t
