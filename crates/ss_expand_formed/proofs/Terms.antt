-- The terms of `modifies` of the contracts of a source without faults are sound.
use Rattle.std.proofs.Common.{◌≡◌, ℕ, zero, suc, List, [], ◌∷◌, ◌++◌, map, Bool, true, false, Option, Some, None, refl, sym, ◌∙◌, ap, subst, ⊎_elim}
use Rattle.std.specs.Prelude.{◌||◌, not, slice_get, is_some, is_none, option_map, option_and_then, codes, if◌then◌else◌}
use Rattle.std.specs.Str.{bytes_eq}
use Rattle.std.proofs.lemmas.Bool.{and_parts, cases_Bool, false≢true, true≢false}
use Rattle.std.proofs.lemmas.Option.{same_Some}
use Rattle.ss_core.specs.declared.names.Place.{Place}
use Rattle.ss_core.specs.declared.names.Ty.{Ty}
use Rattle.ss_core.specs.declared.names.Ty.TheVariants as ty
use Rattle.ss_core.specs.Tree.{SameOwner, OwnedAt}
use Rattle.ss_ast.specs.Expressions.{NameTree, Arguments, MemberOf, NameOf, ParenOf, BaseOf, ThisOf, CallOf, ElementOf}
use Rattle.ss_ast.specs.Expressions as text
use Rattle.ss_ast.specs.Programs as written
use Rattle.ss_ast.specs.Programs.{ClauseTree, RequiresOf, EnsuresOf, ModifiesOf, ClassTree, ProgramTree}
use Rattle.ss_tables.specs.Members.{FieldTree, MethodTree, is_static}
use Rattle.ss_tables.specs.Classes.{Declared, is_array_number, declared_place, field_of, above}
use Rattle.ss_tables.specs.Types.{class_of}
use Rattle.ss_tables.specs.Words.{is_length, is_state_read, is_state_call, is_state_word}
use Rattle.ss_tables.specs.Scopes.{Scope, Local, local_named}
use Rattle.ss_tables.specs.Named.{named_in, named_among}
use Rattle.ss_tables.specs.Statics.{Receiver, TheConsole, TheOwner, TheBase, AClass, AValue, Callee, AMethod, APrint, AWord, ABase, NoCallee, receiver, name_callee, member_callee, result_type}
use Rattle.ss_tables.specs.Statics as statics
use Rattle.ss_typed.specs.Tree.{ExprTree, LocalOf, ModifiedTree, OneOf, AllOf, ElementsOf, BodyTree}
use Rattle.ss_typed.specs.Tree as typed
use Rattle.ss_owners_rules.specs.Words.{NoWord, misplaced}
use Rattle.ss_owners_rules.specs.Program.{misplaced_term, misplaced_terms, misplaced_modified}
use Rattle.ss_resolver_names_rules.specs.Expressions.{expr_faults, declares, has_member, before_dot, read_faults}
use Rattle.ss_resolver_names_rules.specs.Members as names
use Rattle.ss_resolver_names_rules.specs.Members.{modified_expr}
use Rattle.ss_resolver_names_rules.specs.Programs.{program_faults}
use Rattle.ss_resolver_types_heads.specs.Faults.{bad_type, fault_where}
use Rattle.ss_resolver_types_heads.specs.Wants.{AnArray, OfClass, has_no_value, known, wrong, is_object_of, place_of}
use Rattle.ss_resolver_types_heads.specs.Calls.{without_members}
use Rattle.ss_resolver_types_heads.specs.Expressions.{AsValue, BeforeDot, faults, used_member, is_wrong_read}
use Rattle.ss_resolver_types_expressions.specs.Statements.{Body, is_target, is_length_of}
use Rattle.ss_resolver_types_expressions.specs.Members as types
use Rattle.ss_resolver_types_expressions.specs.Members.{is_field_term}
use Rattle.ss_resolver_rules.specs.Names.{Env}
use Rattle.ss_resolver_rules.specs.declared.known.Known.{Known}
use Rattle.ss_resolver_rules.specs.declared.known.Known.TheVariants.{Variable, BoundName}
use Rattle.ss_resolver_rules.specs.Names as env
use Rattle.ss_resolver_rules.specs.Numbers.{type_id, class_in, method_id, table_place}
use Rattle.ss_resolver_rules.specs.Expressions.{this, read_field, known_or_field, field_after, state_word, third_class, member, method_call, base_call, owner_question, place_or_own, called_after, called_bare, call, expr, args}
use Rattle.ss_resolver_rules.specs.Programs.{one_of, modified, with_terms, modifies_in, resolved}
use Rattle.ss_expand_rules.specs.Calls.{has_call}
use Rattle.ss_typed.specs.Shapes.{is_this}
use Rattle.ss_store_rules.specs.Types.{is_reference}
use Rattle.ss_expand_formed.specs.Laws.{core_of}
use Rattle.ss_expand_formed.proofs.Facts.{none_left, or_false, not_false, not_true}
use Rattle.ss_expand_formed.proofs.Choosing.{on_either}
use Rattle.ss_expand_formed.proofs.Fit.{Context, Fit}
use Rattle.ss_expand_formed.proofs.Names.{Meets, meets_in, meets_among, meets_else}
use Rattle.ss_expand_formed.proofs.ExpressionsScopes.{refusing, expr_context, no_fault, three_left}
use Rattle.ss_expand_formed.proofs.ExpressionsPlaces.{has_answer, all_answered, At, scope_at, env_at, IsKnown, IsPlace, Sound, static_at, wanted_array}
use Rattle.ss_expand_formed.proofs.Receivers.{receiver_of, value_faults, class_unknown}
use Rattle.ss_expand_formed.proofs.MemberReads.{not_unless}
use Rattle.ss_expand_formed.proofs.ExpressionsSources.{sound}
use Rattle.ss_expand_formed.proofs.Conditions.{wanted_sound}
use Rattle.ss_expand_formed.proofs.ContractsConditions.{contract_context, IsSoundTerm, SoundField, SoundObject, SoundElements}
use Rattle.ss_expand_formed.proofs.ContractsSources.{HasClauses, body_of, place_in}
use Rattle.ss_expand_formed.proofs.Scenes.{context_of}
use Rattle.ss_expand_formed.proofs.Soundness.{some_where, context_is, known_here, place_here, names_scope, types_scope}
use Rattle.ss_expand_formed.proofs.Answers.{answers}

-- ---- what isn't `this`

abbrev IsOther : ExprTree → Type 0
IsOther e = is_this e ≡ false

abbrev is_base : text.ExprTree → Bool
is_base (BaseOf p) = true
is_base y = false

read_other : (e : Env) (q : Place) (o : ExprTree) (d : Option (Declared FieldTree)) → IsOther (read_field e q o d)
read_other e q o None = refl
read_other e q o (Some f) = refl

name_other : (e : Env) (q : Place) (n : List ℕ) (k : Option Known) → IsOther (known_or_field e q n k)
name_other e q n (Some (Variable x t)) = refl
name_other e q n (Some (BoundName k)) = refl
name_other e q n None = read_other e q (this e q) (field_of e.scope.classes e.scope.class n)

member_other : (e : Env) (q : Place) (o : ExprTree) (n : List ℕ) (t : ℕ) → IsOther o → IsOther (member e q o n t)
member_other e q o n t h =
    on_either IsOther (is_state_read n) (typed.StateOf q (state_word n) o) (if is_array_number t then typed.LengthOf q o else field_after e q o n (declared_place t)) refl
    (on_either IsOther (is_array_number t) (typed.LengthOf q o) (field_after e q o n (declared_place t)) refl (behind (declared_place t)))
  where
    behind : (k : Option ℕ) → IsOther (field_after e q o n k)
    behind None = h
    behind (Some j) = read_other e q o (field_of e.scope.classes j n)

method_other : (e : Env) (q : Place) (k : ℕ) (o : ExprTree) (given : typed.Arguments) (m : Declared MethodTree) → IsOther (method_call e q k o given m)
method_other e q k o given m =
    on_either IsOther (is_static m.member) (typed.StaticOf q (method_id e.scope.classes m.class m.member.name.text) (result_type e.scope.classes m.member.result) given)
    (typed.CallOf q o (table_place e.scope.classes k m.member.name.text) (result_type e.scope.classes m.member.result) given) refl refl

base_other : (e : Env) (q : Place) (given : typed.Arguments) (m : Declared MethodTree) (k : Option ℕ) → IsOther (base_call e q given m k)
base_other e q given m None = refl
base_other e q given m (Some k) = refl

owner_other : (e : Env) (q : Place) (n : List ℕ) (es : Arguments) (given : typed.Arguments) → IsOther (owner_question e q n es given)
owner_other e q n es typed.NoMore = refl
owner_other e q n es (typed.Argument a typed.NoMore) = refl
owner_other e q n es (typed.Argument a (typed.Argument b more)) = on_either IsOther (bytes_eq n (codes "Same")) (typed.OwnersOf q SameOwner a b) (typed.OwnersOf q (OwnedAt (third_class e es)) a b) refl refl

behind_other : (e : Env) (q : Place) (r : Receiver) (o : ExprTree) (n : List ℕ) (es : Arguments) (given : typed.Arguments) (c : Callee) → IsOther (called_after e q r o n es given c)
behind_other e q TheBase o n es given (AMethod m) = base_other e q given m (above e.scope.classes e.scope.class)
behind_other e q (AClass k) o n es given (AMethod m) = method_other e q k o given m
behind_other e q (AValue t) o n es given (AMethod m) = method_other e q (place_or_own e (option_and_then declared_place (option_and_then class_of t))) o given m
behind_other e q TheConsole o n es given (AMethod m) = refl
behind_other e q TheOwner o n es given (AMethod m) = refl
behind_other e q TheOwner o n es given (AWord k) = owner_other e q n es given
behind_other e q TheBase o n es given (AWord k) = refl
behind_other e q (AClass j) o n es given (AWord k) = refl
behind_other e q (AValue t) o n es given (AWord k) = refl
behind_other e q TheConsole o n es given (AWord k) = refl
behind_other e q r o n es given (APrint d) = refl
behind_other e q r o n es given ABase = refl
behind_other e q r o n es given NoCallee = refl

bare_other : (e : Env) (q r : Place) (given : typed.Arguments) (c : Callee) → IsOther (called_bare e q r given c)
bare_other e q r given (AMethod m) = method_other e q e.scope.class (this e r) given m
bare_other e q r given (AWord k) = refl
bare_other e q r given (APrint d) = refl
bare_other e q r given ABase = refl
bare_other e q r given NoCallee = refl

call_other : (e : Env) (q : Place) (es : Arguments) (given : typed.Arguments) (f : text.ExprTree) → IsOther (call e q es given f)
call_other e q es given (NameOf r n) = bare_other e q r given (name_callee e.scope n)
call_other e q es given (MemberOf r y n) = behind_other e q (receiver e.scope y (statics.static e.scope y)) (expr e y) n.text es given (member_callee e.scope n.text (receiver e.scope y (statics.static e.scope y)))
call_other e q es given f = refl

-- in a static method nothing means `this`
module _ (p : ProgramTree) (lacks : Bool) (a : At) where
  abbrev StaticHere : Bool → text.ExprTree → Type 0
  StaticHere before y = faults (expr_context true true lacks (scope_at p a)) (if before then BeforeDot else AsValue) y ≡ []

  base_read : (before : Bool) (q : Place) (n : NameTree) (y : text.ExprTree) → is_base y ≡ true → StaticHere before (MemberOf q y n) → ⊥
  base_read true q n (BaseOf r) h g = let z : ⊥ = cc in z
  base_read false q n (BaseOf r) h g = let z : ⊥ = cc in z
  base_read before q n y h g = absurd (false≢true h)

  no_base : (before : Bool) (q : Place) (n : NameTree) (y : text.ExprTree) → StaticHere before (MemberOf q y n) → is_base y ≡ false
  no_base before q n y h = ⊎_elim (λ is. absurd (base_read before q n y is h)) (λ other. other) (cases_Bool (is_base y))

  no_this : (before : Bool) (y : text.ExprTree) → (before ≡ true → is_base y ≡ false) → StaticHere before y → IsOther (expr (env_at p a) y)
  no_this before (NameOf q n) b h = name_other (env_at p a) q n (env.known (env_at p a) n)
  no_this true (ThisOf q) b h = absurd (let z : ⊥ = cc in z)
  no_this false (ThisOf q) b h = absurd (let z : ⊥ = cc in z)
  no_this true (BaseOf q) b h = absurd (false≢true (sym (b refl)))
  no_this false (BaseOf q) b h = absurd (let z : ⊥ = cc in z)
  no_this true (ParenOf q y) b h = no_this false y (λ e. absurd (false≢true e)) h
  no_this false (ParenOf q y) b h = no_this false y (λ e. absurd (false≢true e)) h
  no_this true (MemberOf q y n) b h =
      let front = (three_left (faults (expr_context true true lacks (scope_at p a)) BeforeDot y) _ _ h).0 in
      member_other (env_at p a) q (expr (env_at p a) y) n.text (class_in (statics.static (scope_at p a) y)) (no_this true y (λ e. no_base true q n y h) front)
  no_this false (MemberOf q y n) b h =
      let front = (three_left (faults (expr_context true true lacks (scope_at p a)) BeforeDot y) _ _ h).0 in
      member_other (env_at p a) q (expr (env_at p a) y) n.text (class_in (statics.static (scope_at p a) y)) (no_this true y (λ e. no_base false q n y h) front)
  no_this before (CallOf q f es) b h = call_other (env_at p a) q es (args (env_at p a) es) f
  no_this before y b h = refl

-- ---- what is known of a term

object_is : (cs : List ClassTree) (t : Ty) → is_object_of cs 0 t ≡ true → is_reference (Some t) ≡ true
object_is cs ty.Int h = absurd (false≢true h)
object_is cs ty.Bool h = absurd (false≢true h)
object_is cs ty.Null h = absurd (false≢true h)
object_is cs (ty.Ref c n) h = refl

none_known : (types : List Ty) (bound : ℕ) (o : Option Local) (k : Option Known) → Meets types bound o k → is_none o ≡ true → k ≡ None
none_known types bound None None h g = refl
none_known types bound None (Some k) h g = absurd h
none_known types bound (Some l) k h g = absurd (false≢true g)

-- a field is read of an object that has members
module _ (p : ProgramTree) (a : At) (q : Place) (o : ExprTree) (n : List ℕ) (word : is_state_word n ≡ false) where
  abbrev IsRead : ExprTree → Type 0
  IsRead e = (d : Option (Declared FieldTree)) × (e ≡ read_field (env_at p a) q o d)

  member_read : (t : Option Ty) → is_some t ≡ true → without_members false t ≡ false → has_member p.classes n (option_and_then class_of t) ≡ true → is_length_of n (option_and_then class_of t) ≡ false → IsRead (member (env_at p a) q o n (class_in t))
  member_read None some full has long = absurd (false≢true some)
  member_read (Some ty.Int) some full has long = absurd (false≢true (sym full))
  member_read (Some ty.Bool) some full has long = absurd (false≢true (sym full))
  member_read (Some ty.Null) some full has long = absurd (false≢true (sym full))
  member_read (Some (ty.Ref c m)) some full has long =
      let unread = (or_false (is_state_read n) (is_state_call n) word).0 in
      let front : member (env_at p a) q o n c.0 ≡ (if is_array_number c.0 then typed.LengthOf q o else field_after (env_at p a) q o n (declared_place c.0)) = rw unread refl in
      ⊎_elim
      (λ array. absurd (let named : is_length n ≡ true = rw array at has in let long_too : is_length n ≡ false = rw array at long in false≢true (sym long_too ∙ named)))
      (λ object.
      let r = behind (declared_place c.0) (rw object at has) in
      (r.0, front ∙ ap (λ z. if z then typed.LengthOf q o else field_after (env_at p a) q o n (declared_place c.0)) object ∙ r.1))
      (cases_Bool (is_array_number c.0))
    where
      behind : (k : Option ℕ) → declares p.classes n k ≡ true → IsRead (field_after (env_at p a) q o n k)
      behind None h = absurd (false≢true h)
      behind (Some j) h = (field_of p.classes j n, refl)

module _ (p : ProgramTree) (faultless : program_faults p ≡ []) (x : Context) (is_known : IsKnown p x) (static answer : Bool) (a : At) (place : IsPlace p x static false answer a) where
  abbrev scope_here : Scope
  scope_here = scope_at p a

  abbrev names_scope_here : Scope
  names_scope_here = refusing static false scope_here

  abbrev types_scope_here : Scope
  types_scope_here = refusing static static scope_here

  sound_here : (y : text.ExprTree) → has_answer answer y ≡ true → expr_faults names_scope_here y ≡ [] → faults (expr_context static true false scope_here) AsValue y ≡ [] → Sound p x static false answer true a y
  sound_here y ans named typed = sound p faultless x is_known static false answer true (λ e. absurd (true≢false e)) a place y ans named typed

  -- the read of a field
  record IsFieldRead (e : ExprTree) : Type 0 where
    where_read : Place
    of : ExprTree
    field : Option (Declared FieldTree)
    is : e ≡ read_field (env_at p a) where_read of field

  name_field : (q : Place) (n : List ℕ) → is_none (local_named scope_here n) ≡ true → IsFieldRead (expr (env_at p a) (NameOf q n))
  name_field q n h =
      let met = meets_else x.locals a.bound (named_in a.names n) (named_among a.more_names n) (named_in a.numbers n) (named_among a.more_numbers n) (meets_in x.locals a.bound a.names a.numbers n place.inner) (meets_among x.locals a.bound a.more_names a.more_numbers n place.outer) in
      let none = none_known x.locals a.bound (local_named scope_here n) (env.known (env_at p a) n) met h in
      record { where_read = q; of = this (env_at p a) q; field = field_of p.classes a.class n; is = ap (known_or_field (env_at p a) q n) none }

  member_field : (q : Place) (y : text.ExprTree) (n : NameTree) → has_answer answer y ≡ true → expr_faults names_scope_here (MemberOf q y n) ≡ [] → faults (expr_context static true false scope_here) AsValue (MemberOf q y n) ≡ [] → is_target types_scope_here (MemberOf q y n) ≡ true → IsFieldRead (expr (env_at p a) (MemberOf q y n))
  member_field q y n ans named typed target =
      let three = three_left (faults (expr_context static true false scope_here) BeforeDot y) _ _ typed in
      let both = none_left (before_dot (receiver names_scope_here y (statics.static names_scope_here y)) (expr_faults names_scope_here y)) (read_faults names_scope_here n (receiver names_scope_here y (statics.static names_scope_here y))) named in
      let rt = receiver_of static true false scope_here refl static static (λ e. (e, e)) y three.0 in
      let ru = receiver_of static true false scope_here refl static false (λ e. (e, refl)) y three.0 in
      by (receiver scope_here y (statics.static scope_here y)) refl three.0
      (no_fault _ _ (subst (λ r. used_member p.classes AsValue q (known types_scope_here y) n.text r ≡ []) rt three.2))
      (subst (λ r. before_dot r (expr_faults names_scope_here y) ≡ []) ru both.0)
      (subst (λ r. read_faults names_scope_here n r ≡ []) ru both.1)
    where
      word : is_state_word n.text ≡ false
      word = not_true (is_state_word n.text) (and_parts (not (is_state_word n.text)) (not (is_length_of n.text (option_and_then class_of (statics.static types_scope_here y)))) target).0

      full_of : (b c d f : Bool) → (b || c) ≡ false → (if b then false else c || d || f) ≡ false → d ≡ false
      full_of true c d f h g = absurd (false≢true (sym h))
      full_of false c d f h g = (or_false c d (or_false (c || d) f g).0).1

      by : (r : Receiver) → receiver scope_here y (statics.static scope_here y) ≡ r → faults (expr_context static true false scope_here) BeforeDot y ≡ [] → is_wrong_read p.classes (known types_scope_here y) n.text r ≡ false → before_dot r (expr_faults names_scope_here y) ≡ [] → read_faults names_scope_here n r ≡ [] → IsFieldRead (expr (env_at p a) (MemberOf q y n))
      by TheConsole e f k m z = absurd (false≢true (sym k))
      by TheOwner e f k m z = absurd (false≢true (sym k))
      by TheBase e f k m z = absurd (false≢true (sym k))
      by (AClass j) e f k m z = absurd (class_unknown names_scope_here y j (receiver_of static true false scope_here refl static false (λ i. (i, refl)) y f ∙ e) m)
      by (AValue t) e f k m z =
          let v = value_faults static true false scope_here y t e f in
          let s = sound_here y ans m v.0 in
          let same = static_at p x static false answer true a y v.0 in
          let full : without_members (has_no_value types_scope_here y) (statics.static types_scope_here y) ≡ false = full_of (is_state_read n.text) (is_state_call n.text) _ _ word k in
          let some = valued (statics.static scope_here y) (has_no_value types_scope_here y) s.valued (ap (without_members (has_no_value types_scope_here y)) (sym same) ∙ full) in
          let has : has_member p.classes n.text (option_and_then class_of (statics.static scope_here y)) ≡ true = subst (λ o. has_member p.classes n.text (option_and_then class_of o) ≡ true) v.1 (word_else (is_state_word n.text) _ word (not_unless _ n.place z)) in
          let long : is_length_of n.text (option_and_then class_of (statics.static scope_here y)) ≡ false =
          ap (λ o. is_length_of n.text (option_and_then class_of o)) (sym same) ∙ not_true _ (and_parts (not (is_state_word n.text)) (not (is_length_of n.text (option_and_then class_of (statics.static types_scope_here y)))) target).1 in
          let r = member_read p a q (expr (env_at p a) y) n.text word (statics.static scope_here y) some.0 some.1 has long in
          record { where_read = q; of = expr (env_at p a) y; field = r.0; is = r.1 }
        where
          word_else : (b c : Bool) → b ≡ false → (b || c) ≡ true → c ≡ true
          word_else true c h g = absurd (false≢true (sym h))
          word_else false c h g = g

          valued : (o : Option Ty) (b : Bool) → (is_some o || b) ≡ true → without_members b o ≡ false → (is_some o ≡ true) × (without_members false o ≡ false)
          valued None true h g = absurd (false≢true (sym g))
          valued None false h g = absurd (false≢true h)
          valued (Some u) b h g = (refl, g)

-- ---- the terms of a contract

one_words : (e : ExprTree) → misplaced_term (one_of e) ≡ misplaced NoWord e
one_words (typed.FieldOf q o f t) = refl
one_words e = refl

abbrev pub AllTerms : ProgramTree → BodyTree → List ModifiedTree → Type 0
AllTerms p d ms = (n : ℕ) (m : ModifiedTree) → slice_get ms n ≡ Some m → IsSoundTerm (resolved p) (core_of p).classes d m

abbrev pub TermsIn : ProgramTree → BodyTree → Option (List ModifiedTree) → Type 0
TermsIn p d None = Unit {0}
TermsIn p d (Some ms) = AllTerms p d ms

more_terms : (p : ProgramTree) (d : BodyTree) (m : ModifiedTree) (ms : List ModifiedTree) → IsSoundTerm (resolved p) (core_of p).classes d m → AllTerms p d ms → AllTerms p d (m ∷ ms)
more_terms p d m ms h g zero y e = subst (IsSoundTerm (resolved p) (core_of p).classes d) (same_Some _ _ e) h
more_terms p d m ms h g (suc n) y e = g n y e

both_terms : (p : ProgramTree) (d : BodyTree) (xs ys : List ModifiedTree) → AllTerms p d xs → AllTerms p d ys → AllTerms p d (xs ++ ys)
both_terms p d [] ys h g = g
both_terms p d (x ∷ xs) ys h g = more_terms p d x (xs ++ ys) (h 0 x refl) (both_terms p d xs ys (λ n m e. h (suc n) m e) g)

misplaced_both : (xs ys : List ModifiedTree) → misplaced_terms (xs ++ ys) ≡ [] → (misplaced_terms xs ≡ []) × (misplaced_terms ys ≡ [])
misplaced_both [] ys h = (refl, h)
misplaced_both (x ∷ xs) ys h =
    let one = none_left (misplaced_term x) (misplaced_terms (xs ++ ys)) h in
    let rest = misplaced_both xs ys one.1 in
    (join (misplaced_term x) (misplaced_terms xs) one.0 rest.0, rest.1)
  where
    join : (a b : List Place) → a ≡ [] → b ≡ [] → a ++ b ≡ []
    join a b e f = rw (e, f) refl

module _ (p : ProgramTree) (faultless : program_faults p ≡ []) (d : BodyTree) (h : HasClauses p d) where
  abbrev outcome : Option Ty
  outcome = option_map (type_id p.classes) h.result

  abbrev here : At
  here = place_in p.classes h.class h.static h.result h.params

  abbrev context_here : Context
  context_here = context_of p faultless h.class h.static outcome h.params

  abbrev S : Scope
  S = scope_at p here

  abbrev U : Scope
  U = refusing h.static false S

  abbrev T : Scope
  T = refusing h.static h.static S

  abbrev e_here : Env
  e_here = env_at p here

  abbrev answer : Bool
  answer = is_some outcome

  there : IsPlace p context_here h.static false answer here
  there = place_here p faultless d h false answer (λ z i. some_where outcome z)

  known_all : IsKnown p context_here
  known_all = known_here p faultless d h

  answer_of : (o : Option Ty) (y : text.ExprTree) → expr_faults U y ≡ [] → faults (expr_context h.static true false S) AsValue y ≡ [] → misplaced NoWord (expr e_here y) ≡ [] → has_answer (is_some o) y ≡ true
  answer_of None y named typed words = answers p context_here h.static false NoWord refl here y named typed words
  answer_of (Some t) y named typed words = all_answered y

  fit_here : (e : ExprTree) → Fit (resolved p) (core_of p).classes context_here 0 e → Fit (resolved p) (core_of p).classes (contract_context d) 0 e
  fit_here e f = subst (λ (x : Context). Fit (resolved p) (core_of p).classes x 0 e) (sym (context_is p faultless d h)) f

  -- all of an object
  object_sound : (y : text.ExprTree) → expr_faults U y ≡ [] → faults (expr_context h.static true false S) AsValue y ++ wrong T (OfClass 0) y ≡ [] → misplaced NoWord (expr e_here y) ≡ [] → IsSoundTerm (resolved p) (core_of p).classes d (AllOf (expr e_here y))
  object_sound y named typed words =
      let value = (none_left (faults (expr_context h.static true false S) AsValue y) (wrong T (OfClass 0) y) typed).0 in
      let w = wanted_sound p faultless context_here known_all h.static false answer (OfClass 0) here there y (answer_of outcome y named value words) named typed in
      SoundObject (record { fit = fit_here (expr e_here y) w.sound.fit; callless = w.sound.calls refl; words = words }) (ap is_reference w.is ∙ object_is p.classes w.type w.suits) (λ this. h.is_static ∙ instance h.static value this)
    where
      instance : (b : Bool) → faults (expr_context b true false S) AsValue y ≡ [] → is_this (expr e_here y) ≡ true → b ≡ false
      instance false g this = refl
      instance true g this = absurd (false≢true (sym (no_this p false here false y (λ z. absurd (false≢true z)) g) ∙ this))

  elements_sound : (y : text.ExprTree) → expr_faults U y ≡ [] → faults (expr_context h.static true false S) AsValue y ++ wrong T AnArray y ≡ [] → misplaced NoWord (expr e_here y) ≡ [] → IsSoundTerm (resolved p) (core_of p).classes d (ElementsOf (expr e_here y))
  elements_sound y named typed words =
      let value = (none_left (faults (expr_context h.static true false S) AsValue y) (wrong T AnArray y) typed).0 in
      let w = wanted_sound p faultless context_here known_all h.static false answer AnArray here there y (answer_of outcome y named value words) named typed in
      SoundElements (record { fit = fit_here (expr e_here y) w.sound.fit; callless = w.sound.calls refl; words = words }) (wanted_array p context_here h.static false answer true here known_all there y w)

  field_of_read : (q : Place) (o : ExprTree) (f : Option (Declared FieldTree)) → Fit (resolved p) (core_of p).classes context_here 0 (read_field e_here q o f) → has_call (read_field e_here q o f) ≡ false → misplaced NoWord (read_field e_here q o f) ≡ [] → IsSoundTerm (resolved p) (core_of p).classes d (one_of (read_field e_here q o f))
  field_of_read q o None fit callless words = SoundObject (record { fit = tt; callless = refl; words = refl }) refl (λ this. absurd (false≢true this))
  field_of_read q o (Some f) fit callless words = SoundField (type_id p.classes f.member.ty) (record { fit = fit_here o fit.0; callless = callless; words = words }) fit.1

  field_sound : (y : text.ExprTree) → expr_faults U y ≡ [] → faults (expr_context h.static true false S) AsValue y ++ fault_where (not (is_field_term T y)) (bad_type (place_of y)) ≡ [] → misplaced NoWord (expr e_here y) ≡ [] → IsSoundTerm (resolved p) (core_of p).classes d (one_of (expr e_here y))
  field_sound y named typed words =
      let both = none_left (faults (expr_context h.static true false S) AsValue y) (fault_where (not (is_field_term T y)) (bad_type (place_of y))) typed in
      let ans = answer_of outcome y named both.0 words in
      let s = sound p faultless context_here known_all h.static false answer true (λ e. absurd (true≢false e)) here there y ans named both.0 in
      let r = read_of y ans named both.0 (not_false (is_field_term T y) (no_fault _ _ both.1)) in
      subst (λ e. IsSoundTerm (resolved p) (core_of p).classes d (one_of e)) (sym r.is)
      (field_of_read r.where_read r.of r.field (subst (Fit (resolved p) (core_of p).classes context_here 0) r.is s.fit) (ap has_call (sym r.is) ∙ s.calls refl) (ap (misplaced NoWord) (sym r.is) ∙ words))
    where
      read_of : (z : text.ExprTree) → has_answer answer z ≡ true → expr_faults U z ≡ [] → faults (expr_context h.static true false S) AsValue z ≡ [] → is_field_term T z ≡ true → IsFieldRead p faultless context_here known_all h.static answer here there (expr e_here z)
      read_of (NameOf q n) ans g k t = name_field p faultless context_here known_all h.static answer here there q n t
      read_of (MemberOf q z n) ans g k t = member_field p faultless context_here known_all h.static answer here there q z n ans g k t
      read_of z ans g k t = absurd (false≢true t)

  abbrev body_here : Body
  body_here = body_of p.classes h.static h.result

  terms_sound : (ms : List written.ModifiedTree) → names.modified_faults U ms ≡ [] → types.terms_faults (types.before body_here T) ms ≡ [] → misplaced_terms (map (modified e_here) ms) ≡ [] → AllTerms p d (map (modified e_here) ms)
  terms_sound [] named typed words = λ n m e. absurd (let z : ⊥ = cc in z)
  terms_sound (written.AllOf y ∷ ms) named typed words =
      let a = none_left (expr_faults U y) (names.modified_faults U ms) named in
      let b = none_left (types.term_faults (types.before body_here T) (written.AllOf y)) (types.terms_faults (types.before body_here T) ms) typed in
      let c = none_left (misplaced NoWord (expr e_here y)) (misplaced_terms (map (modified e_here) ms)) words in
      more_terms p d (AllOf (expr e_here y)) (map (modified e_here) ms) (object_sound y a.0 b.0 c.0) (terms_sound ms a.1 b.1 c.1)
  terms_sound (written.ElementsOf y ∷ ms) named typed words =
      let a = none_left (expr_faults U y) (names.modified_faults U ms) named in
      let b = none_left (types.term_faults (types.before body_here T) (written.ElementsOf y)) (types.terms_faults (types.before body_here T) ms) typed in
      let c = none_left (misplaced NoWord (expr e_here y)) (misplaced_terms (map (modified e_here) ms)) words in
      more_terms p d (ElementsOf (expr e_here y)) (map (modified e_here) ms) (elements_sound y a.0 b.0 c.0) (terms_sound ms a.1 b.1 c.1)
  terms_sound (written.OneOf y ∷ ms) named typed words =
      let a = none_left (expr_faults U y) (names.modified_faults U ms) named in
      let b = none_left (types.term_faults (types.before body_here T) (written.OneOf y)) (types.terms_faults (types.before body_here T) ms) typed in
      let c = none_left (misplaced_term (one_of (expr e_here y))) (misplaced_terms (map (modified e_here) ms)) words in
      more_terms p d (one_of (expr e_here y)) (map (modified e_here) ms) (field_sound y a.0 b.0 (sym (one_words (expr e_here y)) ∙ c.0)) (terms_sound ms a.1 b.1 c.1)

  with_sound : (ms : List ModifiedTree) (more : Option (List ModifiedTree)) → AllTerms p d ms → TermsIn p d more → TermsIn p d (with_terms ms more)
  with_sound ms None f g = f
  with_sound ms (Some more) f g = both_terms p d ms more f g

  with_words : (ms : List ModifiedTree) (more : Option (List ModifiedTree)) → misplaced_modified (with_terms ms more) ≡ [] → (misplaced_terms ms ≡ []) × (misplaced_modified more ≡ [])
  with_words ms None g = (g, refl)
  with_words ms (Some more) g = misplaced_both ms more g

  modifies_sound : (cs : List ClauseTree) → names.clauses_faults U cs ≡ [] → types.clauses_faults body_here T cs ≡ [] → misplaced_modified (modifies_in e_here cs) ≡ [] → TermsIn p d (modifies_in e_here cs)
  modifies_sound [] named typed words = tt
  modifies_sound (RequiresOf y ∷ cs) named typed words = modifies_sound cs (none_left (expr_faults U y) (names.clauses_faults U cs) named).1 (none_left (types.clause_faults body_here T (RequiresOf y)) (types.clauses_faults body_here T cs) typed).1 words
  modifies_sound (EnsuresOf y ∷ cs) named typed words = modifies_sound cs (none_left (expr_faults U y) (names.clauses_faults U cs) named).1 (none_left (types.clause_faults body_here T (EnsuresOf y)) (types.clauses_faults body_here T cs) typed).1 words
  modifies_sound (ModifiesOf ms ∷ cs) named typed words =
      let a = none_left (names.modified_faults U ms) (names.clauses_faults U cs) named in
      let b = none_left (types.terms_faults (types.before body_here T) ms) (types.clauses_faults body_here T cs) typed in
      let c = with_words (map (modified e_here) ms) (modifies_in e_here cs) words in
      with_sound (map (modified e_here) ms) (modifies_in e_here cs) (terms_sound ms a.0 b.0 c.0) (modifies_sound cs a.1 b.1 c.1)

  pub terms_of : misplaced_modified d.modifies ≡ [] → TermsIn p d d.modifies
  terms_of words =
      subst (TermsIn p d) (sym h.modifies)
      (modifies_sound h.clauses (subst (λ s. names.clauses_faults s h.clauses ≡ []) (names_scope p faultless d h) h.names) (subst (λ s. types.clauses_faults body_here s h.clauses ≡ []) (types_scope p faultless d h) h.types) (subst (λ o. misplaced_modified o ≡ []) h.modifies words))
