-- Calls of the class above, and with them all calls and new objects of code without faults, fit.
use Rattle.std.proofs.Common.{◌≡◌, ℕ, zero, suc, List, [], ◌++◌, length, Bool, true, false, Option, Some, None, refl, sym, ◌∙◌, ap, subst}
use Rattle.std.specs.Prelude.{◌||◌, not, option_and_then, if◌then◌else◌}
use Rattle.std.proofs.lemmas.Bool.{true≢false}
use Rattle.ss_core.specs.declared.names.Place.{Place}
use Rattle.ss_core.specs.Chain as chain
use Rattle.ss_ast.specs.Expressions.{NameTree, Arguments, CallOf, MemberOf, NameOf, NewOf, NewArrayOf}
use Rattle.ss_ast.specs.Expressions as text
use Rattle.ss_ast.specs.Programs.{ClassTree, ProgramTree}
use Rattle.ss_tables.specs.Members.{MethodTree}
use Rattle.ss_tables.specs.Classes.{Declared, above, chain_from, first_method, method_of, inherited_field, inherited_method, class_number}
use Rattle.ss_tables.specs.Types.{class_of}
use Rattle.ss_tables.specs.Words.{is_owner_word, is_print, is_state_read, is_state_call, is_state_word}
use Rattle.ss_tables.specs.Scopes.{Scope}
use Rattle.ss_tables.specs.Statics.{Receiver, TheConsole, TheOwner, TheBase, AClass, AValue, AMethod, AWord, NoCallee, is_known, is_member, receiver, member_callee, callee, count, owner_count}
use Rattle.ss_tables.specs.Statics as statics
use Rattle.ss_resolver_names_rules.specs.Faults.{unless, unknown}
use Rattle.ss_resolver_names_rules.specs.Expressions.{expr_faults, before_dot, read_faults, has_member, is_inherited, called_faults, callee_faults, asked_class, class_argument, arguments_faults}
use Rattle.ss_resolver_names_rules.specs.Programs.{program_faults}
use Rattle.ss_resolver_types_heads.specs.Faults.{bad_type}
use Rattle.ss_resolver_types_heads.specs.Wants.{Want, known}
use Rattle.ss_resolver_types_heads.specs.Calls.{ExprContext, Called, Refused, Unknown, method_or_field, called_on_class, called_base, called_member, called_name, argument_wants, is_wrong_call, whole_call}
use Rattle.ss_resolver_types_heads.specs.Expressions.{AsValue, BeforeDot, AsCallee, is_question, condition_faults, faults, faults_as, argument_faults}
use Rattle.ss_resolver_rules.specs.Numbers.{number_or_object}
use Rattle.ss_resolver_rules.specs.Expressions.{base_call, called_after, expr, args}
use Rattle.ss_resolver_rules.specs.Programs.{resolved}
use Rattle.ss_expand_rules.specs.Program as program
use Rattle.ss_expand_formed.proofs.Facts.{none_left, or_false}
use Rattle.ss_expand_formed.proofs.Places.{class_at}
use Rattle.ss_expand_formed.proofs.Cycles.{above_within}
use Rattle.ss_expand_formed.proofs.Fit.{Context}
use Rattle.ss_expand_formed.proofs.ExpressionsScopes.{refusing, expr_context, no_fault, three_left, four_left}
use Rattle.ss_expand_formed.proofs.ExpressionsPlaces.{has_answer, have_answer, At, scope_at, env_at, IsKnown, IsPlace, Sound, IsWanted}
use Rattle.ss_expand_formed.proofs.Receivers.{receiver_of, value_faults, class_unknown}
use Rattle.ss_expand_formed.proofs.MemberReads.{not_unless}
use Rattle.ss_expand_formed.proofs.Questions.{Sounds, want}
use Rattle.ss_expand_formed.proofs.Methods.{method_has}
use Rattle.ss_expand_formed.proofs.CallsSound.{class_there, base_is, new_fits, new_array_fits}
use Rattle.ss_expand_formed.proofs.CallCases.{taken, bare_sound}
use Rattle.ss_expand_formed.proofs.CallsAfter.{meant, kind_called, not_static, console_sound, class_sound}
use Rattle.ss_expand_formed.proofs.CallsFit.{value_sound}
use Rattle.ss_expand_formed.proofs.ExpressionsSources.{Before, Calls, sound, args_sound}

-- where no class stands above, nothing is inherited
nothing_above : (cs : List ClassTree) (n : List ℕ) (k : ℕ) → first_method cs n (chain_from cs k None) ≡ None
nothing_above cs n zero = refl
nothing_above cs n (suc k) = refl

-- a method that a class inherits is one of the class above
pub inherited_from : (cs : List ClassTree) (k : ℕ) (n : List ℕ) (m : Declared MethodTree) → inherited_method cs k n ≡ Some m → (j : ℕ) × (above cs k ≡ Some j) × (method_of cs j n ≡ Some m)
inherited_from cs k n m h = by (above cs k) refl h
  where
    by : (o : Option ℕ) → above cs k ≡ o → first_method cs n (chain_from cs (length cs) o) ≡ Some m → (j : ℕ) × (above cs k ≡ Some j) × (method_of cs j n ≡ Some m)
    by None e g = absurd (let z : None ≡ Some m = sym (nothing_above cs n (length cs)) ∙ g in let w : ⊥ = cc in w)
    by (Some j) e g = (j, e, g)

-- a state word after a dot has arguments of its own
pub asks_none : (n : List ℕ) (r : Receiver) → is_state_call n ≡ false → (r ≡ TheOwner → ⊥) → asked_class n r ≡ None
asks_none n TheConsole h other = refl
asks_none n TheOwner h other = absurd (other refl)
asks_none n TheBase h other = rw h refl
asks_none n (AClass j) h other = rw h refl
asks_none n (AValue t) h other = rw h refl

module _ (p : ProgramTree) (faultless : program_faults p ≡ []) (x : Context) (is_known_there : IsKnown p x) (static lacks answer : Bool) where
  abbrev A : At → ExprContext
  A a = expr_context static false lacks (scope_at p a)

  abbrev U : At → Scope
  U a = refusing static false (scope_at p a)

  abbrev T : At → Scope
  T a = refusing static static (scope_at p a)

  abbrev Here : At → Type 0
  Here a = IsPlace p x static lacks answer a

  abbrev Is : At → text.ExprTree → Type 0
  Is a y = Sound p x static lacks answer false a y

  abbrev Args : At → Arguments → Type 0
  Args a es = Sounds p x static lacks answer false a es

  -- ---- `base`

  base_on : (a : At) → Here a → (q m : Place) (y : text.ExprTree) (n : NameTree) (es : Arguments) → receiver (scope_at p a) y (statics.static (scope_at p a) y) ≡ TheBase → receiver (T a) y (statics.static (T a) y) ≡ TheBase →
      is_inherited p.classes a.class n.text ≡ true → (static || is_state_word n.text) ≡ false → is_wrong_call (count es) (method_or_field p.classes false (inherited_method p.classes a.class n.text) (inherited_field p.classes a.class n.text)) ≡ false →
      argument_faults (A a) (argument_wants (count es) (method_or_field p.classes false (inherited_method p.classes a.class n.text) (inherited_field p.classes a.class n.text))) es ≡ [] → Args a es → arguments_faults (U a) None es ≡ [] → Is a (CallOf q (MemberOf m y n) es)
  base_on a here q m y n es r rt inherits free wrong types ih names =
      let f = inherited_field p.classes a.class n.text in
      let none = or_false static (is_state_word n.text) free in
      let w = meant p.classes false (inherited_method p.classes a.class n.text) f (count es) wrong inherits in
      let j = inherited_from p.classes a.class n.text w.method w.is in
      let here_class = class_there p.classes a.class here.class in
      let c = class_there p.classes j.0 (above_within p.classes a.class j.0 j.1) in
      let has = method_has p faultless j.0 c.0 c.1 n.text w.method j.2 in
      let t = taken p faultless x is_known_there static lacks answer a here es w.method j.0 has (method_or_field p.classes false (inherited_method p.classes a.class n.text) f) w.takes wrong types ih names in
      let callee_is : member_callee (scope_at p a) n.text TheBase ≡ AMethod w.method = rw none.1 (kind_called false (inherited_method p.classes a.class n.text) w.method w.is w.kind_is) in
      let callee_in : member_callee (T a) n.text TheBase ≡ AMethod w.method = rw free (kind_called false (inherited_method p.classes a.class n.text) w.method w.is w.kind_is) in
      let over : program.above_of (resolved p) x.class ≡ class_number j.0 = ap (program.above_of (resolved p)) here.in_class ∙ ap chain.above_of (class_at p a.class here_class.0 here_class.1) ∙ ap number_or_object j.1 in
      base_is p faultless x is_known_there static lacks answer a here q (MemberOf m y n) es j.0 w.method has (not_static w.method.member w.kind_is) (here.in_static none.0) over
      (ap (member_callee (scope_at p a) n.text) r ∙ callee_is) (ap (member_callee (T a) n.text) rt ∙ callee_in) t.0
      (ap (λ k. called_after (env_at p a) q k (expr (env_at p a) y) n.text es (args (env_at p a) es) (member_callee (scope_at p a) n.text k)) r
      ∙ ap (called_after (env_at p a) q TheBase (expr (env_at p a) y) n.text es (args (env_at p a) es)) callee_is
      ∙ ap (base_call (env_at p a) q (args (env_at p a) es) w.method) j.1)
      t.1

  base_sound : (a : At) → Here a → (q m : Place) (y : text.ExprTree) (n : NameTree) (es : Arguments) → receiver (scope_at p a) y (statics.static (scope_at p a) y) ≡ TheBase → receiver (T a) y (statics.static (T a) y) ≡ TheBase →
      (is_state_word n.text || is_inherited p.classes a.class n.text) ≡ true → is_wrong_call (count es) (called_base (A a) n.text) ≡ false → argument_faults (A a) (argument_wants (count es) (called_base (A a) n.text)) es ≡ [] →
      Args a es → arguments_faults (U a) None es ≡ [] → Is a (CallOf q (MemberOf m y n) es)
  base_sound a here q m y n es r rt known wrong types ih names = by (static || is_state_word n.text) refl wrong types
    where
      meaning : Called
      meaning = method_or_field p.classes false (inherited_method p.classes a.class n.text) (inherited_field p.classes a.class n.text)

      by : (b : Bool) → (static || is_state_word n.text) ≡ b → is_wrong_call (count es) (if b then Refused else meaning) ≡ false → argument_faults (A a) (argument_wants (count es) (if b then Refused else meaning)) es ≡ [] → Is a (CallOf q (MemberOf m y n) es)
      by true e w g = absurd (true≢false w)
      by false e w g = base_on a here q m y n es r rt (rw (or_false static (is_state_word n.text) e).1 at known) e w g ih names

  -- ---- what stands before a dot

  at_T : (a : At) (y : text.ExprTree) → faults (A a) BeforeDot y ≡ [] → receiver (T a) y (statics.static (T a) y) ≡ receiver (scope_at p a) y (statics.static (scope_at p a) y)
  at_T a y h = receiver_of static false lacks (scope_at p a) refl static static (λ e. (e, e)) y h

  at_U : (a : At) (y : text.ExprTree) → faults (A a) BeforeDot y ≡ [] → receiver (U a) y (statics.static (U a) y) ≡ receiver (scope_at p a) y (statics.static (scope_at p a) y)
  at_U a y h = receiver_of static false lacks (scope_at p a) refl static false (λ e. (e, refl)) y h

  class_on : (a : At) → Here a → (q m : Place) (y : text.ExprTree) (n : NameTree) (es : Arguments) (j : ℕ) → receiver (scope_at p a) y (statics.static (scope_at p a) y) ≡ AClass j → receiver (T a) y (statics.static (T a) y) ≡ AClass j → receiver (U a) y (statics.static (U a) y) ≡ AClass j →
      called_faults (U a) n (AClass j) (before_dot (AClass j) (expr_faults (U a) y) ++ read_faults (U a) n (AClass j)) ≡ [] → is_wrong_call (count es) (called_member (A a) (count es) (known (T a) y) n.text (AClass j)) ≡ false →
      argument_faults (A a) (argument_wants (count es) (called_member (A a) (count es) (known (T a) y) n.text (AClass j))) es ≡ [] → Args a es → arguments_faults (U a) (asked_class n.text (AClass j)) es ≡ [] → Is a (CallOf q (MemberOf m y n) es)
  class_on a here q m y n es j r rt ru called wrong types ih names = by (is_state_word n.text) refl called wrong types
    where
      by : (b : Bool) → is_state_word n.text ≡ b → (if b then expr_faults (U a) y ++ [] else unless (is_member p.classes j n.text) (unknown n.place)) ≡ [] → is_wrong_call (count es) (if b then Unknown else called_on_class p.classes true j n.text) ≡ false →
          argument_faults (A a) (argument_wants (count es) (if b then Unknown else called_on_class p.classes true j n.text)) es ≡ [] → Is a (CallOf q (MemberOf m y n) es)
      by true e c w g = absurd (class_unknown (U a) y j ru (none_left (expr_faults (U a) y) [] c).0)
      by false e c w g =
          let none : asked_class n.text (AClass j) ≡ None = asks_none n.text (AClass j) (or_false (is_state_read n.text) (is_state_call n.text) e).1 (λ z. let w : ⊥ = cc in w) in
          class_sound p faultless x is_known_there static lacks answer a here q m y n es j r rt e (not_unless (is_member p.classes j n.text) n.place c) w g ih (subst (λ o. arguments_faults (U a) o es ≡ []) none names)

  -- ---- calls

  member_call : (a : At) → Here a → (q m : Place) (y : text.ExprTree) (n : NameTree) (es : Arguments) → expr_faults (U a) (CallOf q (MemberOf m y n) es) ≡ [] → faults (A a) AsValue (CallOf q (MemberOf m y n) es) ≡ [] → is_question (callee (T a) (MemberOf m y n)) ≡ false →
      (expr_faults (U a) y ≡ [] → faults (A a) AsValue y ≡ [] → Is a y) → Args a es → Is a (CallOf q (MemberOf m y n) es)
  member_call a here q m y n es names types asks ih more =
      let four = four_left (faults (A a) AsCallee (MemberOf m y n)) _ _ _ types in
      let three = three_left (faults (A a) BeforeDot y) _ _ four.0 in
      let rt = at_T a y three.0 in
      let ru = at_U a y three.0 in
      let both = none_left (callee_faults (U a) (MemberOf m y n) (expr_faults (U a) (MemberOf m y n))) (arguments_faults (U a) (class_argument (U a) (MemberOf m y n)) es) names in
      by (receiver (scope_at p a) y (statics.static (scope_at p a) y)) refl three.0 rt ru
      (subst (λ r. is_question (member_callee (T a) n.text r) ≡ false) rt asks)
      (no_fault _ _ (subst (λ r. whole_call q (count es) (called_member (A a) (count es) (known (T a) y) n.text r) ≡ []) rt four.2))
      (subst (λ r. argument_faults (A a) (argument_wants (count es) (called_member (A a) (count es) (known (T a) y) n.text r)) es ≡ []) rt four.3)
      (subst (λ r. called_faults (U a) n r (before_dot r (expr_faults (U a) y) ++ read_faults (U a) n r) ≡ []) ru both.0)
      (subst (λ r. arguments_faults (U a) (asked_class n.text r) es ≡ []) ru both.1)
    where
      by : (r : Receiver) → receiver (scope_at p a) y (statics.static (scope_at p a) y) ≡ r → faults (A a) BeforeDot y ≡ [] → receiver (T a) y (statics.static (T a) y) ≡ receiver (scope_at p a) y (statics.static (scope_at p a) y) →
          receiver (U a) y (statics.static (U a) y) ≡ receiver (scope_at p a) y (statics.static (scope_at p a) y) → is_question (member_callee (T a) n.text r) ≡ false → is_wrong_call (count es) (called_member (A a) (count es) (known (T a) y) n.text r) ≡ false →
          argument_faults (A a) (argument_wants (count es) (called_member (A a) (count es) (known (T a) y) n.text r)) es ≡ [] → called_faults (U a) n r (before_dot r (expr_faults (U a) y) ++ read_faults (U a) n r) ≡ [] →
          arguments_faults (U a) (asked_class n.text r) es ≡ [] → Is a (CallOf q (MemberOf m y n) es)
      by TheConsole e f rt ru ask wrong types called names = console_sound p faultless x is_known_there static lacks answer a here q m y n es e (rt ∙ e) (not_unless (is_print n.text) n.place called) wrong
      by TheOwner e f rt ru ask wrong types called names =
          let word = not_unless (is_owner_word n.text) n.place called in
          absurd (true≢false (subst (λ b. is_question (if b then AWord (owner_count n.text) else NoCallee) ≡ false) word ask))
      by TheBase e f rt ru ask wrong types called names =
          base_sound a here q m y n es e (rt ∙ e) (not_unless (is_state_word n.text || is_inherited p.classes a.class n.text) n.place called) wrong types more (base_names (static || is_state_word n.text) refl wrong)
        where
          base_names : (b : Bool) → (static || is_state_word n.text) ≡ b → is_wrong_call (count es) (if b then Refused else method_or_field p.classes false (inherited_method p.classes a.class n.text) (inherited_field p.classes a.class n.text)) ≡ false → arguments_faults (U a) None es ≡ []
          base_names true i w = absurd (true≢false w)
          base_names false i w =
              let word = (or_false static (is_state_word n.text) i).1 in
              subst (λ o. arguments_faults (U a) o es ≡ []) (asks_none n.text TheBase (or_false (is_state_read n.text) (is_state_call n.text) word).1 (λ z. let w : ⊥ = cc in w)) names
      by (AClass j) e f rt ru ask wrong types called names = class_on a here q m y n es j e (rt ∙ e) (ru ∙ e) called wrong types more names
      by (AValue t) e f rt ru ask wrong types called names =
          let v = value_faults static false lacks (scope_at p a) y t e f in
          let left = none_left (expr_faults (U a) y) (read_faults (U a) n (AValue t)) called in
          let r = e ∙ ap AValue v.1 in
          value_sound p faultless x is_known_there static lacks answer a here q m y n es (ih left.0 v.0) v.0 r (rt ∙ r)
          (subst (λ o. is_question (member_callee (T a) n.text (AValue o)) ≡ false) v.1 ask)
          (subst (λ o. (is_state_word n.text || has_member p.classes n.text (option_and_then class_of o)) ≡ true) v.1 (not_unless _ n.place left.1))
          (subst (λ o. is_wrong_call (count es) (called_member (A a) (count es) (known (T a) y) n.text (AValue o)) ≡ false) v.1 wrong)
          (subst (λ o. argument_faults (A a) (argument_wants (count es) (called_member (A a) (count es) (known (T a) y) n.text (AValue o))) es ≡ []) v.1 types)
          more
          (λ none. subst (λ o. arguments_faults (U a) o es ≡ []) (asks_none n.text (AValue t) none (λ z. let w : ⊥ = cc in w)) names)

  bare_call : (a : At) → Here a → (q r : Place) (n : List ℕ) (es : Arguments) → expr_faults (U a) (CallOf q (NameOf r n) es) ≡ [] → faults (A a) AsValue (CallOf q (NameOf r n) es) ≡ [] → Args a es → Is a (CallOf q (NameOf r n) es)
  bare_call a here q r n es names types more =
      let meaning = called_name (A a) n in
      let four = four_left (faults (A a) AsCallee (NameOf r n)) (condition_faults (A a) q (not (is_question (callee (T a) (NameOf r n))))) (whole_call q (count es) meaning) (argument_faults (A a) (argument_wants (count es) meaning) es) types in
      let both = none_left (expr_faults (U a) (NameOf r n)) (arguments_faults (U a) None es) names in
      bare_sound p faultless x is_known_there static lacks answer a here q r n es (not_unless (is_known (U a) n) r both.0) (no_fault (is_wrong_call (count es) meaning) (bad_type q) four.2) four.3 more both.1

  call : (a : At) → Here a → (q : Place) (f : text.ExprTree) (es : Arguments) → expr_faults (U a) (CallOf q f es) ≡ [] → faults (A a) AsValue (CallOf q f es) ≡ [] → is_question (callee (T a) f) ≡ false → Before p faultless x is_known_there static lacks answer false a f → Args a es → Is a (CallOf q f es)
  call a here q (MemberOf m y n) es names types asks before more = member_call a here q m y n es names types asks before more
  call a here q (NameOf r n) es names types asks before more = bare_call a here q r n es names types more
  call a here q f es names types asks before more =
      absurd (true≢false (no_fault true (bad_type q) (four_left (faults (A a) AsCallee f) (condition_faults (A a) q (not (is_question (callee (T a) f)))) (whole_call q (count es) Refused) (argument_faults (A a) [] es) types).2))

  -- ---- all code

  -- the calls and new objects of code
  pub calls : Calls p faultless x is_known_there static lacks answer
  calls = record {
    call = call;
    new = λ a here q n es names types more. new_fits p faultless x is_known_there static lacks answer a here q n es names types more;
    new_array = λ a here q r t y names w. new_array_fits p faultless x is_known_there static lacks answer a here q r t y names w;
  }

  -- an expression of code without faults
  pub code_sound : (a : At) → Here a → (y : text.ExprTree) → has_answer answer y ≡ true → expr_faults (U a) y ≡ [] → faults (A a) AsValue y ≡ [] → Is a y
  code_sound a here y ans names types = sound p faultless x is_known_there static lacks answer false (λ e. calls) a here y ans names types

  pub code_args : (a : At) → Here a → (es : Arguments) → have_answer answer es ≡ true → Args a es
  code_args a here es ans = args_sound p faultless x is_known_there static lacks answer false (λ e. calls) a here es ans

  -- one that is what is wanted there
  pub code_wanted : (w : Want) (a : At) → Here a → (y : text.ExprTree) → has_answer answer y ≡ true → expr_faults (U a) y ≡ [] → faults_as (A a) w y ≡ [] → IsWanted p x static lacks answer false a w y
  code_wanted w a here y ans names types = want p x is_known_there static lacks answer false a here w y (code_sound a here y ans names) types
