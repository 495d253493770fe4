-- A simple statement without faults is resolved to one that fits where it stands.
use Rattle.std.proofs.Common.{◌≡◌, ◌≢◌, ℕ, ◌+◌, List, [], ◌∷◌, ◌++◌, Bool, true, false, Option, Some, None, refl, sym, ◌∙◌, ap, subst, arith}
use Rattle.std.specs.Prelude.{◌||◌, ◌==◌, not, is_some, codes, if◌then◌else◌}
use Rattle.std.specs.Str.{bytes_eq}
use Rattle.std.proofs.lemmas.Bool.{ne_eqb, false≢true}
use Rattle.ss_core.specs.declared.names.Place.{Place}
use Rattle.ss_core.specs.declared.names.Ty.{Ty}
use Rattle.ss_core.specs.declared.names.Ty.TheVariants as ty
use Rattle.ss_core.specs.Tree as core
use Rattle.ss_core.specs.Chain.{is_type}
use Rattle.ss_ast.specs.declared.stmt.AssignOperator.{AssignOperator}
use Rattle.ss_ast.specs.declared.stmt.AssignOperator.TheVariants as operator
use Rattle.ss_ast.specs.Expressions.{NameTree, Arguments, NoMore, Argument, MemberOf, ElementOf, CallOf, NameOf, BaseOf, ParenOf, TextOf}
use Rattle.ss_ast.specs.Expressions as text
use Rattle.ss_ast.specs.Statements as written
use Rattle.ss_ast.specs.Programs.{ProgramTree}
use Rattle.ss_tables.specs.Words.{is_print}
use Rattle.ss_tables.specs.Scopes.{Scope}
use Rattle.ss_tables.specs.Statics.{Receiver, TheConsole, TheOwner, TheBase, AClass, AValue, receiver, count}
use Rattle.ss_tables.specs.Statics as statics
use Rattle.ss_typed.specs.Tree.{SimpleTree, AssignOf}
use Rattle.ss_typed.specs.Types.{type_of}
use Rattle.ss_owners_rules.specs.Words.{misplaced_done, misplaced, NoWord}
use Rattle.ss_resolver_names_rules.specs.Expressions.{expr_faults, before_dot, read_faults, called_faults, callee_faults, arguments_faults, asked_class}
use Rattle.ss_resolver_names_rules.specs.Statements as naming
use Rattle.ss_resolver_names_rules.specs.Programs.{program_faults}
use Rattle.ss_resolver_types_heads.specs.Faults.{bad_type}
use Rattle.ss_resolver_types_heads.specs.Wants.{AnInt, OfType, Printable, has_no_value, place_of, suits, wrong}
use Rattle.ss_resolver_types_heads.specs.Wants as wants
use Rattle.ss_resolver_types_heads.specs.Calls.{ExprContext, Taking, Unknown, called, called_console, argument_wants, is_wrong_call, whole_call, called_member}
use Rattle.ss_resolver_types_heads.specs.Expressions.{AsValue, AsCallee, BeforeDot, argument, argument_faults, condition_faults, is_question, faults, faults_as}
use Rattle.ss_resolver_types_expressions.specs.Statements.{is_target, target_faults, assigned_faults}
use Rattle.ss_resolver_types_expressions.specs.Statements as typing
use Rattle.ss_resolver_rules.specs.Expressions.{expr}
use Rattle.ss_resolver_rules.specs.Statements.{is_line, printed, print, call_alone, alone, simple}
use Rattle.ss_resolver_rules.specs.Programs.{resolved}
use Rattle.ss_store_rules.specs.Types.{is_int, is_bool}
use Rattle.ss_store_rules.specs.Typed.{fits_declared}
use Rattle.ss_expand_formed.specs.Laws.{core_of}
use Rattle.ss_expand_formed.proofs.Facts.{none_left, not_false}
use Rattle.ss_expand_formed.proofs.Fit.{Context}
use Rattle.ss_expand_formed.proofs.ExpressionsScopes.{no_fault, three_left, four_left}
use Rattle.ss_expand_formed.proofs.ExpressionsPlaces.{At, scope_at, env_at, IsKnown, class_of_value, static_at, is_wanted, wanted_int}
use Rattle.ss_expand_formed.proofs.Receivers.{receiver_of}
use Rattle.ss_expand_formed.proofs.MemberReads.{not_unless}
use Rattle.ss_expand_formed.proofs.Fits.{FitCode, FitPrinted, FitSimple}
use Rattle.ss_expand_formed.proofs.SourceCode.{any_of}
use Rattle.ss_expand_formed.proofs.Given.{named_at, typed_at, code_at, Stands, code_fits, given, value_fits}
use Rattle.ss_expand_formed.proofs.FitsTargets.{type_known, target_not_null}

-- a number or a truth value is printed
print_suited : (t : Ty) → (wants.is_int t || wants.is_bool t) ≡ true → (is_int (Some t) || is_bool (Some t)) ≡ true
print_suited ty.Int h = refl
print_suited ty.Bool h = refl
print_suited ty.Null h = absurd (false≢true h)
print_suited (ty.Ref c n) h = absurd (false≢true h)

-- what is printed is one argument that can be
printable : (w l : Bool) (es : Arguments) → (w || l) ≡ true → is_wrong_call (count es + 1) (if w then Taking (Printable ∷ []) else if l then Taking (if count es + 1 == 0 then [] else Printable ∷ []) else Unknown) ≡ false →
    argument_wants (count es + 1) (if w then Taking (Printable ∷ []) else if l then Taking (if count es + 1 == 0 then [] else Printable ∷ []) else Unknown) ≡ Printable ∷ []
printable true l es some wrong = ap (λ (b : Bool). if b then [] else Printable ∷ []) wrong
printable false false es some wrong = absurd (false≢true some)
printable false true es some wrong =
    let other : count es + 1 ≢ 0 = λ e. omega arith in
    let none : (count es + 1 == 0) ≡ false = ne_eqb (count es + 1) 0 other in
    let right : is_wrong_call (count es + 1) (Taking (Printable ∷ [])) ≡ false = rw none at wrong in
    rw none (ap (λ (b : Bool). if b then [] else Printable ∷ []) right)

module _ (p : ProgramTree) (faultless : program_faults p ≡ []) (x : Context) (is_known : IsKnown p x) (static constructs : Bool) (first : ℕ) where
  abbrev C : List core.ClassTree
  C = (core_of p).classes

  abbrev Here : At → Type 0
  Here a = Stands p faultless x is_known static constructs first a

  abbrev A : At → ExprContext
  A a = code_at p x static a

  abbrev U : At → Scope
  U a = named_at p x static a

  abbrev T : At → Scope
  T a = typed_at p x static a

  abbrev Fits : SimpleTree → Type 0
  Fits s = FitSimple (resolved p) C x constructs first s

  -- ---- assignments

  -- what is assigned, with its type
  record IsTarget (a : At) (y : text.ExprTree) : Type 0 where
    fits : FitCode (resolved p) C x constructs first (expr (env_at p a) y)
    type : Ty
    static_is : statics.static (T a) y ≡ Some type
    is : type_of (expr (env_at p a) y) ≡ Some type
    known : is_type C type ≡ true

  target_valued : (s : Scope) (y : text.ExprTree) → is_target s y ≡ true → has_no_value s y ≡ false
  target_valued s (NameOf q n) h = refl
  target_valued s (MemberOf q e n) h = refl
  target_valued s (ElementOf q e i) h = refl
  target_valued s y h = absurd (false≢true h)

  some_type : (o : Option Ty) (b : Bool) → (is_some o || b) ≡ true → b ≡ false → (t : Ty) × (o ≡ Some t)
  some_type (Some t) b h g = (t, refl)
  some_type None b h g = absurd (false≢true (sym g ∙ h))

  target : (a : At) → Here a → (y : text.ExprTree) → expr_faults (U a) y ≡ [] → target_faults (A a) y ≡ [] → misplaced NoWord (expr (env_at p a) y) ≡ [] → IsTarget a y
  target a here y names types words =
      let both = none_left (faults (A a) AsValue y) _ types in
      let is = not_false (is_target (T a) y) (no_fault _ _ both.1) in
      let s = (any_of p faultless x is_known static a here.place y names both.0 words).sound in
      let t = some_type (statics.static (scope_at p a) y) (has_no_value (T a) y) s.valued (target_valued (T a) y is) in
      let type = s.typed t.0 t.1 in
      record {
        fits = code_fits p faultless x is_known static constructs first a here y names both.0 words;
        type = t.0;
        static_is = static_at p x static false false false a y both.0 ∙ t.1;
        is = type;
        known = type_known C t.0 (λ e. target_not_null p x is_known static false false a here.place (T a) y is (t.1 ∙ ap Some e)) (λ c n e. class_of_value p x is_known static false false a here.place y c n (type ∙ ap Some e));
      }

  -- a number is updated
  target_int : (a : At) → Here a → (y : text.ExprTree) → expr_faults (U a) y ≡ [] → target_faults (A a) y ≡ [] → misplaced NoWord (expr (env_at p a) y) ≡ [] → wrong (T a) AnInt y ≡ [] → is_int (type_of (expr (env_at p a) y)) ≡ true
  target_int a here y names types words want =
      let within = (none_left (faults (A a) AsValue y) _ types).0 in
      wanted_int p x static false false false a y (is_wanted p x static false false false a AnInt y within (any_of p faultless x is_known static a here.place y names within words).sound want)

  updates : (a : At) → Here a → (y z : text.ExprTree) → expr_faults (U a) y ≡ [] → expr_faults (U a) z ≡ [] → target_faults (A a) y ≡ [] → wrong (T a) AnInt y ++ faults_as (A a) AnInt z ≡ [] → misplaced NoWord (expr (env_at p a) y) ≡ [] → misplaced NoWord (expr (env_at p a) z) ≡ [] →
      FitCode (resolved p) C x constructs first (expr (env_at p a) y) × FitCode (resolved p) C x constructs first (expr (env_at p a) z) × ((is_int (type_of (expr (env_at p a) y)) ≡ true) × (is_int (type_of (expr (env_at p a) z)) ≡ true))
  updates a here y z ny nz types update wy wz =
      let both = none_left (wrong (T a) AnInt y) (faults_as (A a) AnInt z) update in
      let g = given p faultless x is_known static constructs first a here AnInt z nz both.1 wz in
      ((target a here y ny types wy).fits, g.fits, (target_int a here y ny types wy both.0, wanted_int p x static false false false a z g.wanted))

  assigns : (a : At) → Here a → (y z : text.ExprTree) (o : AssignOperator) → expr_faults (U a) y ≡ [] → expr_faults (U a) z ≡ [] → target_faults (A a) y ≡ [] → assigned_faults (A a) o y z ≡ [] → misplaced NoWord (expr (env_at p a) y) ≡ [] → misplaced NoWord (expr (env_at p a) z) ≡ [] →
      Fits (AssignOf (expr (env_at p a) y) o (expr (env_at p a) z))
  assigns a here y z operator.Set ny nz types set wy wz =
      let t = target a here y ny types wy in
      let v = value_fits p faultless x is_known static constructs first a here (statics.static (T a) y) t.type t.static_is t.known z nz set wz in
      (t.fits, v.0, ap (fits_declared C (type_of (expr (env_at p a) z))) t.is ∙ v.1)
  assigns a here y z operator.Add ny nz types update wy wz = updates a here y z ny nz types update wy wz
  assigns a here y z operator.Subtract ny nz types update wy wz = updates a here y z ny nz types update wy wz
  assigns a here y z operator.Multiply ny nz types update wy wz = updates a here y z ny nz types update wy wz

  -- ---- prints

  abbrev Printed : At → Place → Bool → text.ExprTree → Type 0
  Printed a q line y = Fits (printed (env_at p a) q line y)

  value_printed : (a : At) → Here a → (y : text.ExprTree) → expr_faults (U a) y ≡ [] → faults_as (A a) Printable y ≡ [] → misplaced NoWord (expr (env_at p a) y) ≡ [] → FitPrinted (resolved p) C x constructs first (expr (env_at p a) y)
  value_printed a here y names types words =
      let g = given p faultless x is_known static constructs first a here Printable y names types words in
      (g.fits, ap (λ o. is_int o || is_bool o) g.wanted.is ∙ print_suited g.wanted.type g.wanted.suits)

  text_printed : (a : At) → Here a → (q : Place) (line : Bool) (y : text.ExprTree) → expr_faults (U a) y ≡ [] → argument (A a) Printable y (faults (A a) AsValue y) ≡ [] → misplaced_done (printed (env_at p a) q line y) ≡ [] → Printed a q line y
  text_printed a here q line (ParenOf r y) names types words = text_printed a here q line y names types words
  text_printed a here q line (TextOf r z) names types words = tt
  text_printed a here q line y names types words = value_printed a here y names types words

  print_fits : (a : At) → Here a → (q : Place) (n : List ℕ) (es : Arguments) → is_print n ≡ true → is_wrong_call (count es) (called_console (count es) n) ≡ false → arguments_faults (U a) None es ≡ [] → argument_faults (A a) (argument_wants (count es) (called_console (count es) n)) es ≡ [] → misplaced_done (print (env_at p a) q (is_line n) es) ≡ [] →
      Fits (print (env_at p a) q (is_line n) es)
  print_fits a here q n NoMore is wrong names types words = tt
  print_fits a here q n (Argument z es) is wrong names types words =
      let want = printable (bytes_eq n (codes "Write")) (bytes_eq n (codes "WriteLine")) es is wrong in
      let all : argument_faults (A a) (Printable ∷ []) (Argument z es) ≡ [] = subst (λ ws. argument_faults (A a) ws (Argument z es) ≡ []) want types in
      text_printed a here q (is_line n) z (none_left (expr_faults (U a) z) _ names).0 (none_left (argument (A a) Printable z (faults (A a) AsValue z)) _ all).0 words

  -- ---- calls alone

  -- `base(..)` is no such call
  refused : (a : At) (q r : Place) (es : Arguments) → faults (A a) AsValue (CallOf q (BaseOf r) es) ≡ [] → ⊥
  refused a q r es h =
      let four = four_left (faults (A a) AsCallee (BaseOf r)) (condition_faults (A a) q true) (whole_call q (count es) (called (A a) (count es) (BaseOf r))) _ h in
      let whole : bad_type q ∷ [] ≡ [] = four.2 in
      cc

  abbrev Call : Place → Place → text.ExprTree → NameTree → Arguments → text.ExprTree
  Call q m z n es = CallOf q (MemberOf m z n) es

  member_alone : (a : At) → Here a → (q m : Place) (z : text.ExprTree) (n : NameTree) (es : Arguments) → expr_faults (U a) (Call q m z n es) ≡ [] → faults (A a) AsValue (Call q m z n es) ≡ [] →
      misplaced_done (call_alone (env_at p a) q n.text es (receiver (scope_at p a) z (statics.static (scope_at p a) z)) (expr (env_at p a) (Call q m z n es))) ≡ [] → Fits (call_alone (env_at p a) q n.text es (receiver (scope_at p a) z (statics.static (scope_at p a) z)) (expr (env_at p a) (Call q m z n es)))
  member_alone a here q m z n es names types words =
      by (receiver (scope_at p a) z (statics.static (scope_at p a) z)) refl words
    where
      by : (r : Receiver) → receiver (scope_at p a) z (statics.static (scope_at p a) z) ≡ r → misplaced_done (call_alone (env_at p a) q n.text es r (expr (env_at p a) (Call q m z n es))) ≡ [] → Fits (call_alone (env_at p a) q n.text es r (expr (env_at p a) (Call q m z n es)))
      by TheConsole e w =
          let four = four_left (faults (A a) AsCallee (MemberOf m z n)) (condition_faults (A a) q (not (is_question (statics.callee (T a) (MemberOf m z n))))) (whole_call q (count es) (called (A a) (count es) (MemberOf m z n))) _ types in
          let before = (three_left (faults (A a) BeforeDot z) _ _ four.0).0 in
          let rt : receiver (T a) z (statics.static (T a) z) ≡ TheConsole = receiver_of static false false (scope_at p a) refl static static (λ o. (o, o)) z before ∙ e in
          let ru : receiver (U a) z (statics.static (U a) z) ≡ TheConsole = receiver_of static false false (scope_at p a) refl static false (λ o. (o, refl)) z before ∙ e in
          let ns = none_left (callee_faults (U a) (MemberOf m z n) (expr_faults (U a) (MemberOf m z n))) _ names in
          let read : called_faults (U a) n TheConsole (before_dot TheConsole (expr_faults (U a) z) ++ read_faults (U a) n TheConsole) ≡ [] = subst (λ r. called_faults (U a) n r (before_dot r (expr_faults (U a) z) ++ read_faults (U a) n r) ≡ []) ru ns.0 in
          print_fits a here q n.text es (not_unless _ n.place read)
          (subst (λ r. is_wrong_call (count es) (called_member (A a) (count es) (wants.known (T a) z) n.text r) ≡ false) rt (no_fault _ _ four.2))
          (subst (λ r. arguments_faults (U a) (asked_class n.text r) es ≡ []) ru ns.1)
          (subst (λ r. argument_faults (A a) (argument_wants (count es) (called_member (A a) (count es) (wants.known (T a) z) n.text r)) es ≡ []) rt four.3) w
      by TheOwner e w = code_fits p faultless x is_known static constructs first a here (Call q m z n es) names types w
      by TheBase e w = code_fits p faultless x is_known static constructs first a here (Call q m z n es) names types w
      by (AClass k) e w = code_fits p faultless x is_known static constructs first a here (Call q m z n es) names types w
      by (AValue t) e w = code_fits p faultless x is_known static constructs first a here (Call q m z n es) names types w

  alone_fits : (a : At) → Here a → (y : text.ExprTree) → expr_faults (U a) y ≡ [] → faults (A a) AsValue y ≡ [] → misplaced_done (alone (env_at p a) y) ≡ [] → Fits (alone (env_at p a) y)
  alone_fits a here (CallOf q (BaseOf r) es) names types words = absurd (refused a q r es types)
  alone_fits a here (CallOf q (MemberOf m z n) es) names types words = member_alone a here q m z n es names types words
  alone_fits a here y names types words = code_fits p faultless x is_known static constructs first a here y names types words

  -- ---- simple statements

  pub simple_fits : (a : At) → Here a → (s : written.SimpleTree) → naming.simple_faults (U a) s ≡ [] → typing.simple_faults (A a) s ≡ [] → misplaced_done (simple (env_at p a) s) ≡ [] → Fits (simple (env_at p a) s)
  simple_fits a here (written.AssignOf y o z) names types words =
      let ns = none_left (expr_faults (U a) y) (expr_faults (U a) z) names in
      let ts = none_left (target_faults (A a) y) (assigned_faults (A a) o y z) types in
      let ws = none_left (misplaced NoWord (expr (env_at p a) y)) (misplaced NoWord (expr (env_at p a) z)) words in
      assigns a here y z o ns.0 ns.1 ts.0 ts.1 ws.0 ws.1
  simple_fits a here (written.StepOf y o) names types words =
      let ts = none_left (target_faults (A a) y) (wrong (T a) AnInt y) types in
      ((target a here y names ts.0 words).fits, target_int a here y names ts.0 words ts.1)
  simple_fits a here (written.AloneOf y) names types words = alone_fits a here y names (none_left (faults (A a) AsValue y) _ types).0 words
