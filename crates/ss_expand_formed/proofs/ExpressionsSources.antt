-- An expression of a source without faults of names and types is resolved to one whose parts fit.
use Rattle.std.proofs.Common.{◌≡◌, ℕ, suc, ◌+◌, List, [], ◌∷◌, ◌++◌, Bool, true, false, Option, Some, None, refl, sym, ◌∙◌, ap, subst, arith, ⊎_elim}
use Rattle.std.specs.Prelude.{ℤ, pos, negsuc, nat_lt, ◌^◌, ◌&&◌, ◌||◌, not, is_some, option_and_then, option_map, if◌then◌else◌}
use Rattle.std.proofs.lemmas.Bool.{and_parts, false≢true, true≢false, cases_Bool, cases_lt, lt-ltb}
use Rattle.ss_core.specs.declared.names.Place.{Place}
use Rattle.ss_core.specs.declared.names.Ty.{Ty}
use Rattle.ss_core.specs.declared.names.Ty.TheVariants as ty
use Rattle.ss_core.specs.Tree as core
use Rattle.ss_core.specs.Chain.{is_class}
use Rattle.ss_core.specs.declared.expr.Operator.{Operator}
use Rattle.ss_core.specs.declared.expr.Operator.TheVariants as op
use Rattle.ss_core.specs.Types.{nullable}
use Rattle.ss_ast.specs.Expressions.{NameTree, TypeTree, Arguments, NoMore, Argument, IffOf, ImpliesOf, BinaryOf, IsOf, AsOf, NegateOf, NotOf, CastOf, MemberOf, ElementOf, CallOf, NumberOf, TextOf, TruthOf, NullOf, ThisOf, BaseOf, ResultOf, NameOf, ParenOf, OldOf, NewOf, NewArrayOf, QuantifiedOf}
use Rattle.ss_ast.specs.Expressions as text
use Rattle.ss_ast.specs.Programs.{ClassTree, ProgramTree}
use Rattle.ss_tables.specs.Members.{MethodTree}
use Rattle.ss_tables.specs.Classes.{Declared, field_of, method_of, inherited_method, declared_place}
use Rattle.ss_tables.specs.Types.{class_of, element_type, written_type}
use Rattle.ss_tables.specs.Words.{is_owner_word, is_state_read, is_state_call, is_state_word, is_print}
use Rattle.ss_tables.specs.Scopes.{Scope, local_named}
use Rattle.ss_tables.specs.Statics.{Receiver, TheConsole, TheOwner, TheBase, AClass, AValue, Callee, AMethod, APrint, AWord, ABase, NoCallee, receiver, count, callee, member_callee, cast_type}
use Rattle.ss_tables.specs.Statics as statics
use Rattle.ss_typed.specs.Types.{class_type, type_of, element_of}
use Rattle.ss_typed.specs.Types as typed
use Rattle.ss_resolver_names_rules.specs.Faults.{type_faults, type_name_faults}
use Rattle.ss_resolver_names_rules.specs.Expressions.{expr_faults, before_dot, read_faults, has_member, callee_faults, called_faults, arguments_faults, asked_class, class_argument}
use Rattle.ss_resolver_names_rules.specs.Programs.{program_faults}
use Rattle.ss_resolver_types_heads.specs.Faults.{bad_type}
use Rattle.ss_resolver_types_heads.specs.Wants.{Want, AnInt, ABool, AReference, AnArray, AnyValue, Known, known, has_no_value, are_alike, misfit, wrong}
use Rattle.ss_resolver_types_heads.specs.Wants as wants
use Rattle.ss_resolver_types_heads.specs.Calls.{ExprContext, without_members, has_no_members, called, called_member, is_wrong_call, argument_wants, whole_call}
use Rattle.ss_resolver_types_heads.specs.Expressions.{AsValue, BeforeDot, AsCallee, operand_faults, operand, comparison_faults, are_unlike, no_class, word_faults, used_member, is_wrong_read, is_no_read, reads_method, is_question, condition_faults, faults, argument_faults, is_number_type}
use Rattle.ss_resolver_rules.specs.declared.known.Known.TheVariants.{BoundName}
use Rattle.ss_resolver_rules.specs.Numbers.{class_in, written_class}
use Rattle.ss_resolver_rules.specs.Expressions.{as_int, expr, args}
use Rattle.ss_resolver_rules.specs.Programs.{resolved}
use Rattle.ss_store_rules.specs.Numbers.{fits}
use Rattle.ss_store_rules.specs.Types.{is_int, is_bool, is_reference, where_typed, are_comparable, operation_type}
use Rattle.ss_expand_formed.specs.Laws.{core_of}
use Rattle.ss_expand_formed.proofs.Facts.{none_left, or_false, not_false}
use Rattle.ss_expand_formed.proofs.Written.{expr_ok}
use Rattle.ss_expand_formed.proofs.Fit.{Context, Fit}
use Rattle.ss_expand_formed.proofs.ExpressionsScopes.{refusing, expr_context, no_fault, three_left, four_left}
use Rattle.ss_expand_formed.proofs.Names.{alike_more, all_alike_more, Alike, AllAlike}
use Rattle.ss_expand_formed.proofs.ExpressionsPlaces.{has_answer, have_answer, At, scope_at, env_at, IsKnown, IsPlace, fits_at, cast_there, Sound, IsWanted, static_at, is_wanted, wanted_int, wanted_bool, wanted_reference, wanted_array}
use Rattle.ss_expand_formed.proofs.Receivers.{receiver_of, value_faults, class_unknown}
use Rattle.ss_expand_formed.proofs.MemberReads.{not_unless, name_read, member_read, state_read}
use Rattle.ss_expand_formed.proofs.Questions.{Sounds, want, level_sound, owner_sound}

-- ---- numbers

within_bits : (n : ℕ) → nat_lt 2147483647 n ≡ false → nat_lt n (2 ^ 31) ≡ true
within_bits n h = ⊎_elim (λ less. absurd (true≢false (sym (lt-ltb 2147483647 n less) ∙ h))) (λ most. lt-ltb n (2 ^ 31) (omega arith)) (cases_lt 2147483647 n)

fits_number : (n : ℤ) → fits (as_int n) ≡ true
fits_number (pos n) = by (nat_lt 2147483647 n) refl
  where
    by : (b : Bool) → nat_lt 2147483647 n ≡ b → fits (if b then pos 2147483647 else pos n) ≡ true
    by true e = refl
    by false e = within_bits n e
fits_number (negsuc n) = by (nat_lt 2147483647 n) refl
  where
    by : (b : Bool) → nat_lt 2147483647 n ≡ b → fits (if b then pos 2147483647 else negsuc n) ≡ true
    by true e = refl
    by false e = within_bits n e

-- ---- operators

alike_comparable : (t u : Ty) → are_alike t u ≡ true → (is_int (Some t) && is_int (Some u) || is_bool (Some t) && is_bool (Some u) || is_reference (Some t) && is_reference (Some u)) ≡ true
alike_comparable ty.Int ty.Int h = refl
alike_comparable ty.Int ty.Bool h = absurd (false≢true h)
alike_comparable ty.Int ty.Null h = absurd (false≢true h)
alike_comparable ty.Int (ty.Ref c n) h = absurd (false≢true h)
alike_comparable ty.Bool ty.Int h = absurd (false≢true h)
alike_comparable ty.Bool ty.Bool h = refl
alike_comparable ty.Bool ty.Null h = absurd (false≢true h)
alike_comparable ty.Bool (ty.Ref c n) h = absurd (false≢true h)
alike_comparable ty.Null ty.Int h = absurd (false≢true h)
alike_comparable ty.Null ty.Bool h = absurd (false≢true h)
alike_comparable ty.Null ty.Null h = refl
alike_comparable ty.Null (ty.Ref c n) h = refl
alike_comparable (ty.Ref d m) ty.Int h = absurd (false≢true h)
alike_comparable (ty.Ref d m) ty.Bool h = absurd (false≢true h)
alike_comparable (ty.Ref d m) ty.Null h = refl
alike_comparable (ty.Ref d m) (ty.Ref c n) h = refl

-- ---- elements and arrays

element_is : (t : Ty) → wants.is_array t ≡ true → option_and_then element_type (class_of t) ≡ element_of (Some t)
element_is ty.Int h = absurd (false≢true h)
element_is ty.Bool h = absurd (false≢true h)
element_is ty.Null h = absurd (false≢true h)
element_is (ty.Ref c n) h = rw h refl

element_some : (t : Ty) → wants.is_array t ≡ true → (is_some (element_of (Some t)) || false) ≡ true
element_some ty.Int h = absurd (false≢true h)
element_some ty.Bool h = absurd (false≢true h)
element_some ty.Null h = absurd (false≢true h)
element_some (ty.Ref c n) h = refl

two_calls : {b d : Bool} → b ≡ false → d ≡ false → (b || d) ≡ false
two_calls {b = true} h g = h
two_calls {b = false} h g = g

module _ (p : ProgramTree) (faultless : program_faults p ≡ []) (x : Context) (is_known : IsKnown p x) (static lacks answer : Bool) where
  abbrev C : List core.ClassTree
  C = (core_of p).classes

  abbrev A : Bool → At → ExprContext
  A c a = expr_context static c lacks (scope_at p a)

  abbrev U : At → Scope
  U a = refusing static false (scope_at p a)

  abbrev T : At → Scope
  T a = refusing static static (scope_at p a)

  abbrev Here : At → Type 0
  Here a = IsPlace p x static lacks answer a

  abbrev Is : Bool → At → text.ExprTree → Type 0
  Is c a y = Sound p x static lacks answer c a y

  abbrev Wanted : Bool → At → Want → text.ExprTree → Type 0
  Wanted c a w y = IsWanted p x static lacks answer c a w y

  abbrev Args : Bool → At → Arguments → Type 0
  Args c a es = Sounds p x static lacks answer c a es

  -- what stands before the dot of what is called
  abbrev pub Before : Bool → At → text.ExprTree → Type 0
  Before c a (MemberOf m y n) = expr_faults (U a) y ≡ [] → faults (A c a) AsValue y ≡ [] → Is c a y
  Before c a f = Unit {0}

  -- calls that aren't questions, and new objects, which stand in no condition
  pub record Calls : Type 0 where
    pub call : (a : At) → Here a → (q : Place) (f : text.ExprTree) (es : Arguments) → expr_faults (U a) (CallOf q f es) ≡ [] → faults (A false a) AsValue (CallOf q f es) ≡ [] → is_question (callee (T a) f) ≡ false → Before false a f → Args false a es → Is false a (CallOf q f es)
    pub new : (a : At) → Here a → (q : Place) (n : NameTree) (es : Arguments) → expr_faults (U a) (NewOf q n es) ≡ [] → faults (A false a) AsValue (NewOf q n es) ≡ [] → Args false a es → Is false a (NewOf q n es)
    pub new_array : (a : At) → Here a → (q r : Place) (t : text.TypeNameTree) (y : text.ExprTree) → type_name_faults p.classes r t ≡ [] → Wanted false a AnInt y → Is false a (NewArrayOf q r t y)

  abbrev no_place : At
  no_place = record { class = 0; outcome = None; names = []; more_names = []; numbers = []; more_numbers = []; next = 0; bound = 0 }

  -- ---- receivers

  at_T : (c : Bool) (a : At) (y : text.ExprTree) → faults (A c a) BeforeDot y ≡ [] → receiver (T a) y (statics.static (T a) y) ≡ receiver (scope_at p a) y (statics.static (scope_at p a) y)
  at_T c a y h = receiver_of static c lacks (scope_at p a) refl static static (λ e. (e, e)) y h

  at_U : (c : Bool) (a : At) (y : text.ExprTree) → faults (A c a) BeforeDot y ≡ [] → receiver (U a) y (statics.static (U a) y) ≡ receiver (scope_at p a) y (statics.static (scope_at p a) y)
  at_U c a y h = receiver_of static c lacks (scope_at p a) refl static false (λ e. (e, refl)) y h

  -- ---- members

  memberless : (o : Option Ty) (is_nothing : Bool) → (is_some o || is_nothing) ≡ true → without_members is_nothing o ≡ false → (t : Ty) × (o ≡ Some t) × (without_members false (Some t) ≡ false)
  memberless None true h g = absurd (true≢false g)
  memberless None false h g = absurd (false≢true h)
  memberless (Some t) n h g = (t, refl, g)

  member_value : (c : Bool) (a : At) → Here a → (q : Place) (y : text.ExprTree) (n : NameTree) → Is c a y → faults (A c a) AsValue y ≡ [] →
      receiver (scope_at p a) y (statics.static (scope_at p a) y) ≡ AValue (statics.static (scope_at p a) y) →
      (if is_state_read n.text then misfit p.classes AReference (known (T a) y) else []) ≡ [] → is_no_read p.classes (known (T a) y) n.text ≡ false →
      (is_state_word n.text || has_member p.classes n.text (option_and_then class_of (statics.static (scope_at p a) y))) ≡ true → Is c a (MemberOf q y n)
  member_value c a here q y n s types r word read member =
      by (is_state_read n.text) (is_state_call n.text) refl refl word read member
    where
      same : statics.static (T a) y ≡ statics.static (scope_at p a) y
      same = static_at p x static lacks answer c a y types

      rest : (b d e : Bool) → (b || d || e) ≡ false → (b ≡ false) × (d ≡ false) × (e ≡ false)
      rest b d e h = let one = or_false (b || d) e h in let two = or_false b d one.0 in (two.0, two.1, one.1)

      by : (b d : Bool) → is_state_read n.text ≡ b → is_state_call n.text ≡ d → (if b then misfit p.classes AReference (known (T a) y) else []) ≡ [] →
          (if b then false else d || has_no_members (known (T a) y) || reads_method p.classes n.text (option_and_then class_of (statics.static (T a) y))) ≡ false →
          (b || d || has_member p.classes n.text (option_and_then class_of (statics.static (scope_at p a) y))) ≡ true → Is c a (MemberOf q y n)
      by true d eb ed w k m = state_read p faultless x is_known static lacks answer c a q y n s (wanted_reference p x static lacks answer c a y (is_wanted p x static lacks answer c a AReference y types s w)) eb r
      by false d eb ed w k m =
          let three = rest d (has_no_members (known (T a) y)) (reads_method p.classes n.text (option_and_then class_of (statics.static (T a) y))) k in
          let t = memberless (statics.static (scope_at p a) y) (has_no_value (T a) y) s.valued (ap (without_members (has_no_value (T a) y)) (sym same) ∙ three.1) in
          member_read p faultless x is_known static lacks answer c a here q y n s t.0 t.1 eb (ed ∙ three.0) t.2
          (ap (λ o. reads_method p.classes n.text (option_and_then class_of o)) (sym t.1) ∙ ap (λ o. reads_method p.classes n.text (option_and_then class_of o)) (sym same) ∙ three.2)
          (ap (λ o. has_member p.classes n.text (option_and_then class_of o)) (sym t.1) ∙ (rw three.0 at m)) r

  member_sound : (c : Bool) (a : At) → Here a → (q : Place) (y : text.ExprTree) (n : NameTree) → (expr_faults (U a) y ≡ [] → faults (A c a) AsValue y ≡ [] → Is c a y) → expr_faults (U a) (MemberOf q y n) ≡ [] → faults (A c a) AsValue (MemberOf q y n) ≡ [] → Is c a (MemberOf q y n)
  member_sound c a here q y n ih names types =
      let three = three_left (faults (A c a) BeforeDot y) _ _ types in
      let both = none_left (before_dot (receiver (U a) y (statics.static (U a) y)) (expr_faults (U a) y)) (read_faults (U a) n (receiver (U a) y (statics.static (U a) y))) names in
      let rt = at_T c a y three.0 in
      let ru = at_U c a y three.0 in
      by (receiver (scope_at p a) y (statics.static (scope_at p a) y)) refl three.0
      (subst (λ r. word_faults p.classes (known (T a) y) n.text r ≡ []) rt three.1)
      (no_fault _ _ (subst (λ r. used_member p.classes AsValue q (known (T a) y) n.text r ≡ []) rt three.2))
      (subst (λ r. before_dot r (expr_faults (U a) y) ≡ []) ru both.0)
      (subst (λ r. read_faults (U a) n r ≡ []) ru both.1)
    where
      by : (r : Receiver) → receiver (scope_at p a) y (statics.static (scope_at p a) y) ≡ r → faults (A c a) BeforeDot y ≡ [] → word_faults p.classes (known (T a) y) n.text r ≡ [] → is_wrong_read p.classes (known (T a) y) n.text r ≡ false →
          before_dot r (expr_faults (U a) y) ≡ [] → read_faults (U a) n r ≡ [] → Is c a (MemberOf q y n)
      by TheConsole e f w k m z = absurd (true≢false k)
      by TheOwner e f w k m z = absurd (true≢false k)
      by TheBase e f w k m z = absurd (true≢false k)
      by (AClass j) e f w k m z = absurd (class_unknown (U a) y j (at_U c a y f ∙ e) m)
      by (AValue t) e f w k m z =
          let v = value_faults static c lacks (scope_at p a) y t e f in
          let r = e ∙ ap AValue v.1 in
          member_value c a here q y n (ih m v.0) v.0 r w k (not_unless _ n.place (subst (λ o. read_faults (U a) n (AValue o) ≡ []) v.1 z))

  -- ---- questions

  never_kind : (b : Bool) (m : Option (Declared MethodTree)) → is_question (statics.kind_callee b m) ≡ false
  never_kind b None = refl
  never_kind b (Some m) = by (statics.is_of_kind b m.member)
    where
      by : (d : Bool) → is_question (if d then AMethod m else NoCallee) ≡ false
      by true = refl
      by false = refl

  never_console : (b d : Bool) → is_question (if b then APrint d else NoCallee) ≡ false
  never_console true d = refl
  never_console false d = refl

  never_if : (b : Bool) (m : Option (Declared MethodTree)) → is_question (if b then NoCallee else statics.kind_callee false m) ≡ false
  never_if true m = refl
  never_if false m = never_kind false m

  never_class : (b : Bool) (m : Option (Declared MethodTree)) → is_question (if b then NoCallee else statics.kind_callee true m) ≡ false
  never_class true m = refl
  never_class false m = never_kind true m

  never_bare : (b : Bool) (m : Option (Declared MethodTree)) → is_question (statics.method_callee b m) ≡ false
  never_bare b None = refl
  never_bare b (Some m) = by (b && not (statics.is_of_kind true m.member))
    where
      by : (d : Bool) → is_question (if d then NoCallee else AMethod m) ≡ false
      by true = refl
      by false = refl

  never_named : (a : At) (n : List ℕ) → is_question (statics.name_callee (T a) n) ≡ false
  never_named a n = by (is_some (local_named (T a) n) || is_some (field_of p.classes a.class n))
    where
      by : (d : Bool) → is_question (if d then NoCallee else statics.method_callee static (method_of p.classes a.class n)) ≡ false
      by true = refl
      by false = never_bare static (method_of p.classes a.class n)

  question_level : (o : Option Ty) (b d : Bool) (k : Callee) → is_question (if b then statics.level_callee o else if d then NoCallee else k) ≡ true → is_question k ≡ false → b ≡ true
  question_level o true d k h g = refl
  question_level o false true k h g = absurd (false≢true h)
  question_level o false false k h g = absurd (false≢true (sym g ∙ h))

  never_asked : (cs : List ClassTree) (n : List ℕ) (k : Option ℕ) → is_question (statics.method_at cs n k) ≡ false
  never_asked cs n None = refl
  never_asked cs n (Some k) = never_kind false (method_of cs k n)

  question_sound : (c : Bool) (a : At) → Here a → (q m : Place) (y : text.ExprTree) (n : NameTree) (es : Arguments) → (expr_faults (U a) y ≡ [] → faults (A c a) AsValue y ≡ [] → Is c a y) → Args c a es →
      expr_faults (U a) (CallOf q (MemberOf m y n) es) ≡ [] → faults (A c a) AsValue (CallOf q (MemberOf m y n) es) ≡ [] → is_question (callee (T a) (MemberOf m y n)) ≡ true → Is c a (CallOf q (MemberOf m y n) es)
  question_sound c a here q m y n es ih args names types asks =
      let four = four_left (faults (A c a) AsCallee (MemberOf m y n)) _ _ _ types in
      let three = three_left (faults (A c a) BeforeDot y) _ _ four.0 in
      let rt = at_T c a y three.0 in
      let ru = at_U c a y three.0 in
      let both = none_left (callee_faults (U a) (MemberOf m y n) (expr_faults (U a) (MemberOf m y n))) (arguments_faults (U a) (class_argument (U a) (MemberOf m y n)) es) names in
      by (receiver (scope_at p a) y (statics.static (scope_at p a) y)) refl three.0
      (subst (λ r. is_question (member_callee (T a) n.text r) ≡ true) rt asks)
      (no_fault _ _ (subst (λ r. whole_call q (count es) (called_member (A c a) (count es) (known (T a) y) n.text r) ≡ []) rt four.2))
      (subst (λ r. argument_faults (A c a) (argument_wants (count es) (called_member (A c a) (count es) (known (T a) y) n.text r)) es ≡ []) rt four.3)
      (subst (λ r. called_faults (U a) n r (before_dot r (expr_faults (U a) y) ++ read_faults (U a) n r) ≡ []) ru both.0)
      (subst (λ r. arguments_faults (U a) (asked_class n.text r) es ≡ []) ru both.1)
    where
      by : (r : Receiver) → receiver (scope_at p a) y (statics.static (scope_at p a) y) ≡ r → faults (A c a) BeforeDot y ≡ [] → is_question (member_callee (T a) n.text r) ≡ true →
          is_wrong_call (count es) (called_member (A c a) (count es) (known (T a) y) n.text r) ≡ false → argument_faults (A c a) (argument_wants (count es) (called_member (A c a) (count es) (known (T a) y) n.text r)) es ≡ [] →
          called_faults (U a) n r (before_dot r (expr_faults (U a) y) ++ read_faults (U a) n r) ≡ [] → arguments_faults (U a) (asked_class n.text r) es ≡ [] → Is c a (CallOf q (MemberOf m y n) es)
      by TheConsole e f ask wrong types called names = absurd (false≢true (sym (never_console (is_print n.text) _) ∙ ask))
      by TheOwner e f ask wrong types called names = owner_sound p x is_known static lacks answer c a here q m y n es e (not_unless (is_owner_word n.text) n.place called) args wrong types names
      by TheBase e f ask wrong types called names = absurd (false≢true (sym (never_if (static || is_state_word n.text) (inherited_method p.classes a.class n.text)) ∙ ask))
      by (AClass j) e f ask wrong types called names = absurd (false≢true (sym (never_class (is_state_word n.text) (method_of p.classes j n.text)) ∙ ask))
      by (AValue t) e f ask wrong types called names =
          let v = value_faults static c lacks (scope_at p a) y t e f in
          let left = none_left (expr_faults (U a) y) (read_faults (U a) n (AValue t)) called in
          level_sound p x is_known static lacks answer c a here q m y n es (ih left.0 v.0) (static_at p x static lacks answer c a y v.0) (e ∙ ap AValue v.1)
          (question_level t (is_state_call n.text) (is_state_read n.text) (statics.method_at p.classes n.text (option_and_then declared_place (option_and_then class_of t))) ask (never_asked p.classes n.text (option_and_then declared_place (option_and_then class_of t)))) wrong

  -- ---- calls

  in_code : (c : Bool) (q : Place) → condition_faults (A c no_place) q true ≡ [] → c ≡ false
  in_code false q h = refl
  in_code true q h = absurd (let z : ⊥ = cc in z)

  call_sound : (c : Bool) → (c ≡ false → Calls) → (a : At) → Here a → (q : Place) (f : text.ExprTree) (es : Arguments) → expr_faults (U a) (CallOf q f es) ≡ [] → faults (A c a) AsValue (CallOf q f es) ≡ [] → Before c a f → Args c a es → Is c a (CallOf q f es)
  call_sound c calls a here q f es names h before args =
      ⊎_elim
      (λ is_so. of_question f is_so names h before)
      (λ other. let e = in_code c q (subst (λ b. condition_faults (A c a) q (not b) ≡ []) other four.1) in
      subst (λ d. faults (A d a) AsValue (CallOf q f es) ≡ [] → Before d a f → Args d a es → Is d a (CallOf q f es)) (sym e) (λ k b g. (calls e).call a here q f es names k other b g) h before args)
      (cases_Bool (is_question (callee (T a) f)))
    where
      four : (faults (A c a) AsCallee f ≡ []) × (condition_faults (A c a) q (not (is_question (callee (T a) f))) ≡ []) × (whole_call q (count es) (called (A c a) (count es) f) ≡ []) × (argument_faults (A c a) (argument_wants (count es) (called (A c a) (count es) f)) es ≡ [])
      four = four_left (faults (A c a) AsCallee f) _ _ _ h

      of_question : (g : text.ExprTree) → is_question (callee (T a) g) ≡ true → expr_faults (U a) (CallOf q g es) ≡ [] → faults (A c a) AsValue (CallOf q g es) ≡ [] → Before c a g → Is c a (CallOf q g es)
      of_question (MemberOf m y n) is_so k i b = question_sound c a here q m y n es b args k i is_so
      of_question (NameOf m n) is_so k i b = absurd (false≢true (sym (never_named a n) ∙ is_so))
      of_question g is_so k i b = absurd (false≢true is_so)

  new_sound : (c : Bool) → (c ≡ false → Calls) → (a : At) → Here a → (q : Place) (n : NameTree) (es : Arguments) → expr_faults (U a) (NewOf q n es) ≡ [] → faults (A c a) AsValue (NewOf q n es) ≡ [] → Args c a es → Is c a (NewOf q n es)
  new_sound c calls a here q n es names h args =
      let e = in_code c q (three_left (condition_faults (A c a) q true) _ _ h).0 in
      subst (λ d. faults (A d a) AsValue (NewOf q n es) ≡ [] → Args d a es → Is d a (NewOf q n es)) (sym e) (λ k g. (calls e).new a here q n es names k g) h args

  new_array_sound : (c : Bool) → (c ≡ false → Calls) → (a : At) → Here a → (q r : Place) (t : text.TypeNameTree) (y : text.ExprTree) → condition_faults (A c a) q true ≡ [] → type_name_faults p.classes r t ≡ [] → Wanted c a AnInt y → Is c a (NewArrayOf q r t y)
  new_array_sound c calls a here q r t y h names w =
      let e = in_code c q h in
      subst (λ d. Wanted d a AnInt y → Is d a (NewArrayOf q r t y)) (sym e) (λ k. (calls e).new_array a here q r t y names k) w

  -- ---- operations

  binary_by : (c : Bool) (a : At) (q : Place) (o : Operator) (y z : text.ExprTree) → Is c a y → Is c a z → operation_type o (type_of (expr (env_at p a) y)) (type_of (expr (env_at p a) z)) ≡ Some (typed.operation_type o) → Is c a (BinaryOf q o y z)
  binary_by c a q o y z s r is = record {
    typed = λ u e. e;
    valued = refl;
    fit = (s.fit, r.fit, is);
    calls = λ e. two_calls (s.calls e) (r.calls e);
  }

  compared : (c : Bool) (a : At) (q : Place) (y z : text.ExprTree) → faults (A c a) AsValue y ≡ [] → faults (A c a) AsValue z ≡ [] → Is c a y → Is c a z → comparison_faults p.classes q (known (T a) y) (known (T a) z) ≡ [] →
      are_comparable (type_of (expr (env_at p a) y)) (type_of (expr (env_at p a) z)) ≡ true
  compared c a q y z hy hz s r h =
      let three = three_left (misfit p.classes AnyValue (known (T a) y)) (misfit p.classes AnyValue (known (T a) z)) _ h in
      let v = is_wanted p x static lacks answer c a AnyValue y hy s three.0 in
      let w = is_wanted p x static lacks answer c a AnyValue z hz r three.1 in
      let bad = no_fault (are_unlike (statics.static (T a) y) (statics.static (T a) z)) (bad_type q) three.2 in
      let one = static_at p x static lacks answer c a y hy ∙ v.static_is in
      let two = static_at p x static lacks answer c a z hz ∙ w.static_is in
      let alike : are_alike v.type w.type ≡ true = not_false _ (subst (λ k. are_unlike (Some v.type) k ≡ false) two (subst (λ k. are_unlike k (statics.static (T a) z) ≡ false) one bad)) in
      ap (λ k. are_comparable k (type_of (expr (env_at p a) z))) v.is ∙ ap (are_comparable (Some v.type)) w.is ∙ alike_comparable v.type w.type alike

  binary_sound : (c : Bool) (a : At) (q : Place) (o : Operator) (y z : text.ExprTree) → (faults (A c a) AsValue y ≡ [] → Is c a y) → (faults (A c a) AsValue z ≡ [] → Is c a z) → faults (A c a) AsValue (BinaryOf q o y z) ≡ [] → Is c a (BinaryOf q o y z)
  binary_sound c a q o y z ihy ihz h =
      let three = three_left (faults (A c a) AsValue y) (faults (A c a) AsValue z) _ h in
      binary_by c a q o y z (ihy three.0) (ihz three.1) (of_operator o three.0 three.1 three.2)
    where
      wanted_in : (w : Want) (u : text.ExprTree) → (faults (A c a) AsValue u ≡ [] → Is c a u) → faults (A c a) AsValue u ≡ [] → misfit p.classes w (known (T a) u) ≡ [] → Wanted c a w u
      wanted_in w u ih k g = is_wanted p x static lacks answer c a w u k (ih k) g

      bools : (k : Ty) → faults (A c a) AsValue y ≡ [] → faults (A c a) AsValue z ≡ [] → misfit p.classes ABool (known (T a) y) ++ misfit p.classes ABool (known (T a) z) ≡ [] → where_typed (is_bool (type_of (expr (env_at p a) y)) && is_bool (type_of (expr (env_at p a) z))) k ≡ Some k
      bools k hy hz g =
          let l = none_left (misfit p.classes ABool (known (T a) y)) _ g in
          rw (wanted_bool p x static lacks answer c a y (wanted_in ABool y ihy hy l.0), wanted_bool p x static lacks answer c a z (wanted_in ABool z ihz hz l.1)) refl

      ints : (k : Ty) → faults (A c a) AsValue y ≡ [] → faults (A c a) AsValue z ≡ [] → misfit p.classes AnInt (known (T a) y) ++ misfit p.classes AnInt (known (T a) z) ≡ [] → where_typed (is_int (type_of (expr (env_at p a) y)) && is_int (type_of (expr (env_at p a) z))) k ≡ Some k
      ints k hy hz g =
          let l = none_left (misfit p.classes AnInt (known (T a) y)) _ g in
          rw (wanted_int p x static lacks answer c a y (wanted_in AnInt y ihy hy l.0), wanted_int p x static lacks answer c a z (wanted_in AnInt z ihz hz l.1)) refl

      of_operator : (k : Operator) → faults (A c a) AsValue y ≡ [] → faults (A c a) AsValue z ≡ [] → operand_faults p.classes q (operand k) (known (T a) y) (known (T a) z) ≡ [] → operation_type k (type_of (expr (env_at p a) y)) (type_of (expr (env_at p a) z)) ≡ Some (typed.operation_type k)
      of_operator op.Or hy hz g = bools ty.Bool hy hz g
      of_operator op.And hy hz g = bools ty.Bool hy hz g
      of_operator op.Equal hy hz g = rw (compared c a q y z hy hz (ihy hy) (ihz hz) g) refl
      of_operator op.NotEqual hy hz g = rw (compared c a q y z hy hz (ihy hy) (ihz hz) g) refl
      of_operator op.Less hy hz g = ints ty.Bool hy hz g
      of_operator op.LessEqual hy hz g = ints ty.Bool hy hz g
      of_operator op.Greater hy hz g = ints ty.Bool hy hz g
      of_operator op.GreaterEqual hy hz g = ints ty.Bool hy hz g
      of_operator op.Add hy hz g = ints ty.Int hy hz g
      of_operator op.Subtract hy hz g = ints ty.Int hy hz g
      of_operator op.Multiply hy hz g = ints ty.Int hy hz g
      of_operator op.Divide hy hz g = ints ty.Int hy hz g
      of_operator op.Remainder hy hz g = ints ty.Int hy hz g

  -- ---- types

  class_there : (a : At) → Here a → (q : Place) (t : TypeTree) → is_class C (written_class p.classes t) ≡ true
  class_there a here q t = (and_parts _ _ (expr_ok p (env_at p a) (fits_at p x is_known static lacks answer a here) (AsOf q (NullOf q) t))).0

  -- ---- quantifiers

  abbrev inside : At → NameTree → At
  inside a n = record { class = a.class; outcome = a.outcome; names = (n.text, record { ty = Some ty.Int; is_param = false }) ∷ []; more_names = a.names ∷ a.more_names; numbers = (n.text, BoundName a.bound) ∷ []; more_numbers = a.numbers ∷ a.more_numbers; next = a.next; bound = a.bound + 1 }

  here_inside : (a : At) → Here a → (n : NameTree) → Here (inside a n)
  here_inside a here n =
      let one : suc a.bound ≡ a.bound + 1 = omega arith in
      record {
        class = here.class;
        this = here.this;
        in_static = here.in_static;
        in_class = here.in_class;
        outcome = here.outcome;
        answer_is = here.answer_is;
        inner = (refl, (refl, (omega arith)), tt);
        outer = (
          subst (λ k. Alike x.locals k a.names a.numbers) one (alike_more x.locals a.bound a.names a.numbers here.inner),
          subst (λ k. AllAlike x.locals k a.more_names a.more_numbers) one (all_alike_more x.locals a.bound a.more_names a.more_numbers here.outer),
        );
      }

  -- ---- expressions

  answered : (a : At) → Here a → (q : Place) (c : Bool) → answer ≡ true → lacks ≡ false → Is c a (ResultOf q)
  answered a here q c is_so has =
      let t = here.answer_is is_so has in
      record { typed = λ u e. e; valued = ap (λ o. is_some o || false) t.1; fit = (t.0, t.1, here.outcome t.0 t.1); calls = λ e. refl }

  mutual
    pub sound : (c : Bool) → (c ≡ false → Calls) → (a : At) → Here a → (y : text.ExprTree) → has_answer answer y ≡ true → expr_faults (U a) y ≡ [] → faults (A c a) AsValue y ≡ [] → Is c a y
    sound c calls a here (NumberOf q n) ans names h = record { typed = λ u e. e; valued = refl; fit = fits_number n; calls = λ e. refl }
    sound c calls a here (TextOf q t) ans names h = absurd (let z : ⊥ = cc in z)
    sound c calls a here (TruthOf q b) ans names h = record { typed = λ u e. e; valued = refl; fit = tt; calls = λ e. refl }
    sound c calls a here (NullOf q) ans names h = record { typed = λ u e. e; valued = refl; fit = tt; calls = λ e. refl }
    sound c calls a here (ThisOf q) ans names h = record { typed = λ u e. e; valued = refl; fit = here.this (no_fault static (bad_type q) h); calls = λ e. refl }
    sound c calls a here (BaseOf q) ans names h = absurd (let z : ⊥ = cc in z)
    sound c calls a here (ResultOf q) ans names h = answered a here q c ans (no_fault lacks (bad_type q) h)
    sound c calls a here (NameOf q n) ans names h = name_read p faultless x is_known static lacks answer c a here q n names h
    sound c calls a here (ParenOf q y) ans names h = let s = sound c calls a here y ans names h in record { typed = s.typed; valued = s.valued; fit = s.fit; calls = s.calls }
    sound c calls a here (OldOf q y) ans names h =
        let w = want p x is_known static lacks answer c a here AnyValue y (sound c calls a here y ans names) h in
        record { typed = w.sound.typed; valued = ap (λ o. is_some o || false) w.static_is; fit = w.sound.fit; calls = w.sound.calls }
    sound c calls a here (NegateOf q y) ans names h =
        let w = want p x is_known static lacks answer c a here AnInt y (sound c calls a here y ans names) h in
        record { typed = λ u e. e; valued = refl; fit = (w.sound.fit, wanted_int p x static lacks answer c a y w); calls = w.sound.calls }
    sound c calls a here (NotOf q y) ans names h =
        let w = want p x is_known static lacks answer c a here ABool y (sound c calls a here y ans names) h in
        record { typed = λ u e. e; valued = refl; fit = (w.sound.fit, wanted_bool p x static lacks answer c a y w); calls = w.sound.calls }
    sound c calls a here (IffOf q y z) ans names h =
        let two = and_parts (has_answer answer y) (has_answer answer z) ans in
        let left = none_left (expr_faults (U a) y) (expr_faults (U a) z) names in
        let hs = none_left (faults (A c a) AsValue y ++ wrong (T a) ABool y) _ h in
        let v = want p x is_known static lacks answer c a here ABool y (sound c calls a here y two.0 left.0) hs.0 in
        let w = want p x is_known static lacks answer c a here ABool z (sound c calls a here z two.1 left.1) hs.1 in
        record { typed = λ u e. e; valued = refl; fit = (v.sound.fit, w.sound.fit, wanted_bool p x static lacks answer c a y v, wanted_bool p x static lacks answer c a z w); calls = λ e. two_calls (v.sound.calls e) (w.sound.calls e) }
    sound c calls a here (ImpliesOf q y z) ans names h =
        let two = and_parts (has_answer answer y) (has_answer answer z) ans in
        let left = none_left (expr_faults (U a) y) (expr_faults (U a) z) names in
        let hs = none_left (faults (A c a) AsValue y ++ wrong (T a) ABool y) _ h in
        let v = want p x is_known static lacks answer c a here ABool y (sound c calls a here y two.0 left.0) hs.0 in
        let w = want p x is_known static lacks answer c a here ABool z (sound c calls a here z two.1 left.1) hs.1 in
        record { typed = λ u e. e; valued = refl; fit = (v.sound.fit, w.sound.fit, wanted_bool p x static lacks answer c a y v, wanted_bool p x static lacks answer c a z w); calls = λ e. two_calls (v.sound.calls e) (w.sound.calls e) }
    sound c calls a here (BinaryOf q o y z) ans names h =
        let two = and_parts (has_answer answer y) (has_answer answer z) ans in
        let left = none_left (expr_faults (U a) y) (expr_faults (U a) z) names in
        binary_sound c a q o y z (sound c calls a here y two.0 left.0) (sound c calls a here z two.1 left.1) h
    sound c calls a here (IsOf q y t) ans names h =
        let left = none_left (expr_faults (U a) y) (type_faults p.classes t) names in
        let hs = none_left (faults (A c a) AsValue y ++ wrong (T a) AReference y) (no_class t) h in
        let w = want p x is_known static lacks answer c a here AReference y (sound c calls a here y ans left.0) hs.0 in
        record { typed = λ u e. e; valued = refl; fit = (w.sound.fit, wanted_reference p x static lacks answer c a y w, class_there a here q t); calls = w.sound.calls }
    sound c calls a here (AsOf q y t) ans names h =
        let left = none_left (expr_faults (U a) y) (type_faults p.classes t) names in
        let hs = none_left (faults (A c a) AsValue y ++ wrong (T a) AReference y) (no_class t) h in
        let w = want p x is_known static lacks answer c a here AReference y (sound c calls a here y ans left.0) hs.0 in
        let r = cast_there p faultless t left.1 (no_fault (is_number_type t) (bad_type t.place) hs.1) in
        let static_is : option_map nullable (cast_type (written_type p.classes t)) ≡ Some (class_type r.0 false) = ap (λ o. option_map nullable (cast_type o)) r.1 in
        record {
          typed = λ u e. ap (λ o. Some (class_type (class_in o) false)) r.1 ∙ sym static_is ∙ e;
          valued = ap (λ o. is_some o || false) static_is;
          fit = (w.sound.fit, wanted_reference p x static lacks answer c a y w, class_there a here q t);
          calls = w.sound.calls;
        }
    sound c calls a here (CastOf q t y) ans names h =
        let left = none_left (type_faults p.classes t) (expr_faults (U a) y) names in
        let hs = none_left (no_class t) (faults (A c a) AsValue y ++ wrong (T a) AReference y) h in
        let w = want p x is_known static lacks answer c a here AReference y (sound c calls a here y ans left.1) hs.1 in
        let r = cast_there p faultless t left.0 (no_fault (is_number_type t) (bad_type t.place) hs.0) in
        let static_is : cast_type (written_type p.classes t) ≡ Some (class_type r.0 t.non_null) = ap cast_type r.1 in
        record {
          typed = λ u e. ap (λ o. Some (class_type (class_in o) t.non_null)) r.1 ∙ sym static_is ∙ e;
          valued = ap (λ o. is_some o || false) static_is;
          fit = (w.sound.fit, wanted_reference p x static lacks answer c a y w, class_there a here q t);
          calls = w.sound.calls;
        }
    sound c calls a here (MemberOf q y n) ans names h = member_sound c a here q y n (sound c calls a here y ans) names h
    sound c calls a here (ElementOf q y i) ans names h =
        let two = and_parts (has_answer answer y) (has_answer answer i) ans in
        let left = none_left (expr_faults (U a) y) (expr_faults (U a) i) names in
        let hs = none_left (faults (A c a) AsValue y ++ wrong (T a) AnArray y) _ h in
        let v = want p x is_known static lacks answer c a here AnArray y (sound c calls a here y two.0 left.0) hs.0 in
        let w = want p x is_known static lacks answer c a here AnInt i (sound c calls a here i two.1 left.1) hs.1 in
        let static_is : option_and_then element_type (option_and_then class_of (statics.static (scope_at p a) y)) ≡ element_of (type_of (expr (env_at p a) y)) = ap (λ o. option_and_then element_type (option_and_then class_of o)) v.static_is ∙ element_is v.type v.suits ∙ ap element_of (sym v.is) in
        record {
          typed = λ u e. sym static_is ∙ e;
          valued = ap (λ o. is_some o || false) (ap (λ o. option_and_then element_type (option_and_then class_of o)) v.static_is ∙ element_is v.type v.suits) ∙ element_some v.type v.suits;
          fit = (v.sound.fit, w.sound.fit, wanted_array p x static lacks answer c a is_known here y v, wanted_int p x static lacks answer c a i w);
          calls = λ e. two_calls (v.sound.calls e) (w.sound.calls e);
        }
    sound c calls a here (CallOf q f es) ans names h =
        let two = and_parts (has_answer answer f) (have_answer answer es) ans in
        call_sound c calls a here q f es names h (before_sound c calls a here f two.0) (args_sound c calls a here es two.1)
    sound c calls a here (NewOf q n es) ans names h = new_sound c calls a here q n es names h (args_sound c calls a here es ans)
    sound c calls a here (NewArrayOf q r t y) ans names h =
        let left = none_left (type_name_faults p.classes r t) (expr_faults (U a) y) names in
        let hs = none_left (condition_faults (A c a) q true) (faults (A c a) AsValue y ++ wrong (T a) AnInt y) h in
        let w = want p x is_known static lacks answer c a here AnInt y (sound c calls a here y ans left.1) hs.1 in
        new_array_sound c calls a here q r t y hs.0 left.0 w
    sound c calls a here (QuantifiedOf q r n low high y) ans names h =
        let three = and_parts (has_answer answer low && has_answer answer high) (has_answer answer y) ans in
        let two = and_parts (has_answer answer low) (has_answer answer high) three.0 in
        let left = three_left (expr_faults (U a) low) (expr_faults (U a) high) (expr_faults (U (inside a n)) y) names in
        let hs = three_left (faults (A true a) AsValue low ++ wrong (T a) AnInt low) (faults (A true a) AsValue high ++ wrong (T a) AnInt high) _ h in
        let v = want p x is_known static lacks answer true a here AnInt low (sound true (λ e. absurd (true≢false e)) a here low two.0 left.0) hs.0 in
        let w = want p x is_known static lacks answer true a here AnInt high (sound true (λ e. absurd (true≢false e)) a here high two.1 left.1) hs.1 in
        let m = want p x is_known static lacks answer true (inside a n) (here_inside a here n) ABool y (sound true (λ e. absurd (true≢false e)) (inside a n) (here_inside a here n) y three.1 left.2) hs.2 in
        let one : a.bound + 1 ≡ suc a.bound = omega arith in
        record {
          typed = λ u e. e;
          valued = refl;
          fit = (v.sound.fit, w.sound.fit, subst (λ k. Fit (resolved p) C x k (expr (env_at p (inside a n)) y)) one m.sound.fit, wanted_int p x static lacks answer true a low v, wanted_int p x static lacks answer true a high w, wanted_bool p x static lacks answer true (inside a n) y m);
          calls = λ e. two_calls (two_calls (v.sound.calls refl) (w.sound.calls refl)) (m.sound.calls refl);
        }

    before_sound : (c : Bool) → (c ≡ false → Calls) → (a : At) → Here a → (f : text.ExprTree) → has_answer answer f ≡ true → Before c a f
    before_sound c calls a here (MemberOf m y n) ans = sound c calls a here y ans
    before_sound c calls a here f ans = tt

    pub args_sound : (c : Bool) → (c ≡ false → Calls) → (a : At) → Here a → (es : Arguments) → have_answer answer es ≡ true → Args c a es
    args_sound c calls a here NoMore ans = tt
    args_sound c calls a here (Argument y es) ans = let two = and_parts (has_answer answer y) (have_answer answer es) ans in (sound c calls a here y two.0, args_sound c calls a here es two.1)
