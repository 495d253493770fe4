-- Names and reads of members without faults have the types that the tables say.
use Rattle.std.proofs.Common.{◌≡◌, ℕ, ◌+◌, ◌*◌, ◌<◌, List, [], length, Bool, true, false, Option, Some, None, refl, sym, ◌∙◌, ap, subst, arith}
use Rattle.std.specs.Prelude.{◌&&◌, ◌||◌, is_some, is_none, codes, if◌then◌else◌}
use Rattle.std.specs.Str.{bytes_eq}
use Rattle.std.proofs.lemmas.Bool.{ltb-true, false≢true}
use Rattle.ss_core.specs.declared.names.Place.{Place}
use Rattle.ss_core.specs.declared.names.Ty.{Ty}
use Rattle.ss_core.specs.declared.names.Ty.TheVariants as ty
use Rattle.ss_core.specs.Tree as core
use Rattle.ss_core.specs.Tree.{Consistent, Committed, New}
use Rattle.ss_core.specs.Chain.{is_class, below}
use Rattle.ss_ast.specs.Expressions.{NameTree}
use Rattle.ss_ast.specs.Expressions as text
use Rattle.ss_ast.specs.Programs.{ProgramTree}
use Rattle.ss_tables.specs.Members.{FieldTree}
use Rattle.ss_tables.specs.Classes.{Declared, field_of, method_of, is_array_number, declared_place}
use Rattle.ss_tables.specs.Types.{class_of}
use Rattle.ss_tables.specs.Words.{is_state_read, is_state_call, is_length}
use Rattle.ss_tables.specs.Scopes.{Local, local_named}
use Rattle.ss_tables.specs.Named.{named_in, named_among}
use Rattle.ss_tables.specs.Statics.{is_known, type_of_field, type_of_local, unless_refused, name_type, field_type, member_type}
use Rattle.ss_tables.specs.Statics as statics
use Rattle.ss_typed.specs.Tree.{ExprTree, StateOf, LengthOf}
use Rattle.ss_typed.specs.Types.{type_of}
use Rattle.ss_resolver_names_rules.specs.Faults.{unless, unknown}
use Rattle.ss_resolver_names_rules.specs.Expressions.{declares, has_member, expr_faults}
use Rattle.ss_resolver_names_rules.specs.Programs.{program_faults}
use Rattle.ss_resolver_types_heads.specs.Calls.{without_members}
use Rattle.ss_resolver_types_heads.specs.Expressions.{is_method_name, reads_method, name_faults}
use Rattle.ss_resolver_rules.specs.Names.{known}
use Rattle.ss_resolver_rules.specs.declared.known.Known.{Known}
use Rattle.ss_resolver_rules.specs.declared.known.Known.TheVariants.{Variable, BoundName}
use Rattle.ss_resolver_rules.specs.Numbers.{class_in}
use Rattle.ss_resolver_rules.specs.Expressions.{this, read_field, known_or_field, field_after, state_word, member, expr}
use Rattle.ss_resolver_rules.specs.Programs.{resolved}
use Rattle.ss_expand_rules.specs.Calls.{has_call}
use Rattle.ss_store_rules.specs.Changes.{is_array}
use Rattle.ss_store_rules.specs.Types.{is_reference, has_class, is_word}
use Rattle.ss_expand_formed.specs.Laws.{core_of}
use Rattle.ss_expand_formed.proofs.ChainLaw.{size}
use Rattle.ss_expand_formed.proofs.Fit.{Context, Fit}
use Rattle.ss_expand_formed.proofs.ExpressionsScopes.{refusing, expr_context, no_fault}
use Rattle.ss_expand_formed.proofs.Names.{Meets, meets_in, meets_among, meets_else}
use Rattle.ss_expand_formed.proofs.Classes.{array_known, place_is, type_there, field_has}
use Rattle.ss_expand_formed.proofs.ExpressionsPlaces.{At, scope_at, env_at, IsKnown, IsPlace, class_of_value, Sound}

pub not_unless : (b : Bool) (q : Place) → unless b (unknown q) ≡ [] → b ≡ true
not_unless true q h = refl
not_unless false q h = absurd (let z : ⊥ = cc in z)

-- a known field, or none
some_field : {X Y : Type 0} (f : Option X) (m : Option Y) → (is_none f && is_some m) ≡ false → (is_some f || is_some m) ≡ true → (x : X) × (f ≡ Some x)
some_field (Some x) m h g = (x, refl)
some_field None (Some y) h g = absurd (false≢true (sym h))
some_field None None h g = absurd (false≢true g)

word_known : (C : List core.ClassTree) (n : List ℕ) → is_word C (state_word n) ≡ true
word_known C n = by (bytes_eq n (codes "IsConsistent")) (bytes_eq n (codes "IsCommitted"))
  where
    by : (a b : Bool) → is_word C (if a then Consistent else if b then Committed else New) ≡ true
    by true b = refl
    by false true = refl
    by false false = refl

module _ (p : ProgramTree) (faultless : program_faults p ≡ []) (x : Context) (is_known : IsKnown p x) (static lacks answer : Bool) where
  abbrev C : List core.ClassTree
  C = (core_of p).classes

  abbrev FitAt : At → ExprTree → Type 0
  FitAt a e = Fit (resolved p) C x a.bound e

  -- what is read, where no call stands before it
  pub record ReadOf (a : At) (o e : ExprTree) (t : Option Ty) : Type 0 where
    pub fit : FitAt a e
    pub type : (u : Ty) → t ≡ Some u → type_of e ≡ Some u
    pub some : is_some t ≡ true
    pub calls : has_call e ≡ has_call o

  pub field_read : (a : At) (q : Place) (o : ExprTree) (k : ℕ) → k < length p.classes → FitAt a o → (m : Bool) → type_of o ≡ Some (ty.Ref (record { 0 = 4 + 2 * k }) m) → (n : List ℕ) (f : Declared FieldTree) → field_of p.classes k n ≡ Some f →
      ReadOf a o (read_field (env_at p a) q o (Some f)) (type_of_field p.classes (Some f))
  field_read a q o k l fit m is n f h =
      let w = field_has p faultless k l n f h in
      let t = type_there p faultless f.member.ty w.type in
      record {
        fit = (fit, record { field = _; there = w.there; has = ap (has_class (λ c. below C c (4 + 2 * f.class))) is ∙ w.has; type = refl });
        type = λ u e. sym t ∙ e;
        some = ap is_some t;
        calls = refl;
      }

  abbrev is_method_read : List ℕ → Option ℕ → Bool
  is_method_read n k = is_method_name p.classes n k

  -- ---- bare names

  met : (a : At) → IsPlace p x static lacks answer a → (n : List ℕ) → Meets x.locals a.bound (local_named (scope_at p a) n) (known (env_at p a) n)
  met a place n = meets_else x.locals a.bound (named_in a.names n) (named_among a.more_names n) (named_in a.numbers n) (named_among a.more_numbers n) (meets_in x.locals a.bound a.names a.numbers n place.inner) (meets_among x.locals a.bound a.more_names a.more_numbers n place.outer)

  abbrev NameRead : At → Place → List ℕ → Option Local → Option Known → Type 0
  NameRead a q n l m = ReadOf a (this (env_at p a) q) (known_or_field (env_at p a) q n m) (if is_some l then type_of_local l else unless_refused false (type_of_field p.classes (field_of p.classes a.class n)))

  not_misused : (f m : Bool) → (if f then static else m) ≡ false → (f || m) ≡ true → (f ≡ true) × (static ≡ false)
  not_misused true m h g = (refl, h)
  not_misused false true h g = absurd (false≢true (sym h))
  not_misused false false h g = absurd (false≢true g)

  own_field : (a : At) → IsPlace p x static lacks answer a → (q : Place) (n : List ℕ) → static ≡ false → (f : Option (Declared FieldTree)) → field_of p.classes a.class n ≡ f → is_some f ≡ true →
      ReadOf a (this (env_at p a) q) (read_field (env_at p a) q (this (env_at p a) q) f) (type_of_field p.classes f)
  own_field a place q n none None e some = absurd (false≢true some)
  own_field a place q n none (Some f) e some = field_read a q (this (env_at p a) q) a.class place.class (place.this none) true refl n f e

  name_by : (a : At) → IsPlace p x static lacks answer a → (q : Place) (n : List ℕ) (l : Option Local) (m : Option Known) → Meets x.locals a.bound l m →
      (is_some l || (is_some (field_of p.classes a.class n) || is_some (method_of p.classes a.class n))) ≡ true →
      (is_none l && (if is_some (field_of p.classes a.class n) then static else is_some (method_of p.classes a.class n))) ≡ false → NameRead a q n l m
  name_by a place q n None None h g i =
      let w = not_misused (is_some (field_of p.classes a.class n)) (is_some (method_of p.classes a.class n)) i g in
      own_field a place q n w.1 (field_of p.classes a.class n) refl w.0
  name_by a place q n None (Some m) h g i = absurd h
  name_by a place q n (Some l) None h g i = absurd h
  name_by a place q n (Some l) (Some (Variable y t)) h g i = record { fit = h.1; type = λ u e. sym h.0 ∙ e; some = ap is_some h.0; calls = refl }
  name_by a place q n (Some l) (Some (BoundName j)) h g i = record { fit = h.1; type = λ u e. sym h.0 ∙ e; some = ap is_some h.0; calls = refl }

  pub name_read : (condition : Bool) (a : At) → IsPlace p x static lacks answer a → (q : Place) (n : List ℕ) → expr_faults (refusing static false (scope_at p a)) (text.NameOf q n) ≡ [] → name_faults (expr_context static condition lacks (scope_at p a)) q n ≡ [] →
      Sound p x static lacks answer condition a (text.NameOf q n)
  name_read condition a place q n names types =
      let r = name_by a place q n (local_named (scope_at p a) n) (known (env_at p a) n) (met a place n) (not_unless _ q names) (no_fault _ _ types) in
      record { typed = r.type; valued = ap (λ b. b || false) r.some; fit = r.fit; calls = λ c. r.calls }

  -- ---- members

  read_of_place : (a : At) (q : Place) (o : ExprTree) (c : ℕ) (m : Bool) → FitAt a o → type_of o ≡ Some (ty.Ref (record { 0 = c }) m) → is_class C c ≡ true → (n : List ℕ) (k : Option ℕ) → declared_place c ≡ k →
      is_method_read n k ≡ false → declares p.classes n k ≡ true → ReadOf a o (field_after (env_at p a) q o n k) (field_type p.classes n k)
  read_of_place a q o c m fit is class n None e h g = absurd (false≢true g)
  read_of_place a q o c m fit is class n (Some k) e h g =
      let number = place_is c k e in
      let l = ltb-true c (4 + 2 * length C) class in
      let s = size p in
      let f = some_field (field_of p.classes k n) (method_of p.classes k n) h g in
      subst (λ (d : Option (Declared FieldTree)). ReadOf a o (read_field (env_at p a) q o d) (type_of_field p.classes d)) (sym f.1)
      (field_read a q o k (omega arith) fit m (is ∙ ap (λ (t : ℕ). Some (ty.Ref (record { 0 = t }) m)) number) n f.0 f.1)

  read_of_class : (a : At) (q : Place) (o : ExprTree) (c : ℕ) (m : Bool) → FitAt a o → type_of o ≡ Some (ty.Ref (record { 0 = c }) m) → is_class C c ≡ true → (n : List ℕ) → is_state_read n ≡ false →
      is_method_read n (declared_place c) ≡ false → has_member p.classes n (Some c) ≡ true → ReadOf a o (member (env_at p a) q o n c) (member_type p.classes n (Some c))
  read_of_class a q o c m fit is class n read methods members = by_word (is_state_read n) read
    where
      by_array : (b : Bool) → is_array_number c ≡ b → (if b then is_length n else declares p.classes n (declared_place c)) ≡ true →
          ReadOf a o (if b then LengthOf q o else field_after (env_at p a) q o n (declared_place c)) (if b then (if is_length n then Some ty.Int else None) else field_type p.classes n (declared_place c))
      by_array true e g = rw g (record { fit = (fit, ap (has_class (is_array C)) is ∙ array_known C c e class); type = λ u z. z; some = refl; calls = refl })
      by_array false e g = read_of_place a q o c m fit is class n (declared_place c) refl methods g

      by_word : (b : Bool) → b ≡ false → ReadOf a o (if b then StateOf q (state_word n) o else if is_array_number c then LengthOf q o else field_after (env_at p a) q o n (declared_place c)) (member_type p.classes n (Some c))
      by_word true e = absurd (false≢true (sym e))
      by_word false e = by_array (is_array_number c) refl members

  -- a read of a value that isn't a question about its state
  read_of_value : (a : At) (q : Place) (o : ExprTree) (t : Ty) → FitAt a o → type_of o ≡ Some t → ((c : ℕ) (m : Bool) → t ≡ ty.Ref (record { 0 = c }) m → is_class C c ≡ true) → (n : List ℕ) → is_state_read n ≡ false → without_members false (Some t) ≡ false →
      reads_method p.classes n (class_of t) ≡ false → has_member p.classes n (class_of t) ≡ true → ReadOf a o (member (env_at p a) q o n (class_in (Some t))) (member_type p.classes n (class_of t))
  read_of_value a q o ty.Int fit is class n read none methods members = absurd (false≢true (sym none))
  read_of_value a q o ty.Bool fit is class n read none methods members = absurd (false≢true (sym none))
  read_of_value a q o ty.Null fit is class n read none methods members = absurd (false≢true (sym none))
  read_of_value a q o (ty.Ref c m) fit is class n read none methods members = read_of_class a q o c.0 m fit is (class c.0 m refl) n read methods members

  pub member_read : (condition : Bool) (a : At) → IsPlace p x static lacks answer a → (q : Place) (y : text.ExprTree) (n : NameTree) → Sound p x static lacks answer condition a y → (t : Ty) → statics.static (scope_at p a) y ≡ Some t → is_state_read n.text ≡ false → is_state_call n.text ≡ false →
      without_members false (Some t) ≡ false → reads_method p.classes n.text (class_of t) ≡ false → has_member p.classes n.text (class_of t) ≡ true →
      statics.receiver (scope_at p a) y (statics.static (scope_at p a) y) ≡ statics.AValue (statics.static (scope_at p a) y) → Sound p x static lacks answer condition a (text.MemberOf q y n)
  member_read condition a place q y n s t is read call none methods members r =
      let w = read_of_value a q (expr (env_at p a) y) t s.fit (s.typed t is) (λ c m e. class_of_value p x is_known static lacks answer a place y c m (s.typed t is ∙ ap Some e)) n.text read none methods members in
      let static_is : statics.static (scope_at p a) (text.MemberOf q y n) ≡ member_type p.classes n.text (class_of t) = ap (statics.read_type p.classes n.text) r ∙ (rw (read, call, is) refl) in
      record {
        typed = λ u e. at_class (expr (env_at p a) y) (λ z. type_of z ≡ Some u) is (w.type u (sym static_is ∙ e));
        valued = ap (λ o. is_some o || false) static_is ∙ ap (λ b. b || false) w.some;
        fit = at_class (expr (env_at p a) y) (FitAt a) is w.fit;
        calls = λ c. at_class (expr (env_at p a) y) (λ z. has_call z ≡ false) is (w.calls ∙ s.calls c);
      }
    where
      at_class : (o : ExprTree) (Q : ExprTree → Type 0) → statics.static (scope_at p a) y ≡ Some t → Q (member (env_at p a) q o n.text (class_in (Some t))) → Q (member (env_at p a) q o n.text (class_in (statics.static (scope_at p a) y)))
      at_class o Q e h = subst (λ z. Q (member (env_at p a) q o n.text (class_in z))) (sym e) h

  -- a question about the state of a value
  pub state_read : (condition : Bool) (a : At) (q : Place) (y : text.ExprTree) (n : NameTree) → Sound p x static lacks answer condition a y → is_reference (type_of (expr (env_at p a) y)) ≡ true → is_state_read n.text ≡ true →
      statics.receiver (scope_at p a) y (statics.static (scope_at p a) y) ≡ statics.AValue (statics.static (scope_at p a) y) → Sound p x static lacks answer condition a (text.MemberOf q y n)
  state_read condition a q y n s ref read r =
      let static_is : statics.static (scope_at p a) (text.MemberOf q y n) ≡ Some ty.Bool = ap (statics.read_type p.classes n.text) r ∙ (rw read refl) in
      let tree_is : expr (env_at p a) (text.MemberOf q y n) ≡ StateOf q (state_word n.text) (expr (env_at p a) y) = rw read refl in
      record {
        typed = λ u e. ap type_of tree_is ∙ sym static_is ∙ e;
        valued = ap (λ o. is_some o || false) static_is;
        fit = subst (FitAt a) (sym tree_is) (s.fit, ref, word_known C n.text);
        calls = λ c. ap has_call tree_is ∙ s.calls c;
      }
