-- Each expression of the code of a source without faults fits, has no word of conditions, and has no call in a quantifier.
use Rattle.std.proofs.Common.{◌≡◌, ℕ, List, [], ◌∷◌, ◌++◌, length, map, Bool, true, false, Option, Some, None, refl, sym, ◌∙◌, ap, subst, arith}
use Rattle.std.specs.Prelude.{◌&&◌, ◌||◌, not, is_some, is_none, option_and_then, codes, if◌then◌else◌}
use Rattle.std.specs.List.{list_all}
use Rattle.std.specs.Str.{bytes_eq}
use Rattle.std.proofs.lemmas.Bool.{and_from, false≢true, true≢false}
use Rattle.ss_core.specs.declared.names.Place.{Place}
use Rattle.ss_core.specs.declared.names.Ty.{Ty}
use Rattle.ss_core.specs.declared.names.Ty.TheVariants as ty
use Rattle.ss_core.specs.Tree as core
use Rattle.ss_core.specs.Tree.{SameOwner, OwnedAt}
use Rattle.ss_core.specs.Chain.{is_type}
use Rattle.ss_core.specs.Chain as chain
use Rattle.ss_core.specs.declared.expr.Operator.{Operator}
use Rattle.ss_core.specs.declared.expr.Quantifier.{Quantifier}
use Rattle.ss_ast.specs.Expressions.{NameTree, TypeTree, Arguments, NoMore, Argument, IffOf, ImpliesOf, BinaryOf, IsOf, AsOf, NegateOf, NotOf, CastOf, MemberOf, ElementOf, CallOf, ResultOf, NameOf, BaseOf, ParenOf, OldOf, NewOf, NewArrayOf, QuantifiedOf}
use Rattle.ss_ast.specs.Expressions as text
use Rattle.ss_ast.specs.Programs.{ParamTree, ClassTree, ProgramTree}
use Rattle.ss_tables.specs.Members.{FieldTree, MethodTree, is_static}
use Rattle.ss_tables.specs.Classes.{Declared, above, class_named, field_of, method_of, inherited_field, inherited_method, is_array_number, declared_place}
use Rattle.ss_tables.specs.Types.{class_of, written_type}
use Rattle.ss_tables.specs.Words.{is_owner_word, is_print, is_state_read, is_state_call, is_state_word}
use Rattle.ss_tables.specs.Scopes.{Scope, local_named}
use Rattle.ss_tables.specs.Statics.{Receiver, TheConsole, TheOwner, TheBase, AClass, AValue, Callee, AMethod, APrint, AWord, ABase, NoCallee, is_member, is_known, is_of_kind, receiver, name_callee, member_callee, callee, count, called_with, call_type, result_type}
use Rattle.ss_tables.specs.Statics as statics
use Rattle.ss_typed.specs.Tree.{ExprTree, StateOf, LengthOf, OwnersOf, CallOf as CallTree, StaticOf as StaticTree, BaseOf as BaseTree}
use Rattle.ss_typed.specs.Tree as typed
use Rattle.ss_owners_rules.specs.Words.{NoWord, misplaced, misplaced_each}
use Rattle.ss_resolver_names_rules.specs.Faults.{class_faults, type_name_faults, type_faults}
use Rattle.ss_resolver_names_rules.specs.Faults as names_faults
use Rattle.ss_resolver_names_rules.specs.Expressions.{declares, has_member, is_inherited, expr_faults, before_dot, read_faults, called_faults, callee_faults, asked_class, class_argument, arguments_faults}
use Rattle.ss_resolver_names_rules.specs.Programs.{program_faults}
use Rattle.ss_resolver_types_heads.specs.Faults.{bad_type}
use Rattle.ss_resolver_types_heads.specs.Wants.{Want, AnInt, ABool, AReference, AnArray, AnyValue, OfType, ClassName, Known, known, has_no_value, gives_nothing, is_unsuited, misfit, wrong}
use Rattle.ss_resolver_types_heads.specs.Calls.{ExprContext, Called, Taking, Refused, Unknown, param_wants, wants_above, base_wants, called_console, called_method, called_on_class, called_on_declared, called_on_object, called_name, called_member, called_value, constructed, method_or_field, without_members, has_no_members, class_of_known, asks_level, is_wrong_call, argument_wants, whole_call}
use Rattle.ss_resolver_types_heads.specs.Expressions.{AsValue, BeforeDot, AsCallee, no_class, operand, operand_faults, is_question, condition_faults, faults, faults_as, argument_faults}
use Rattle.ss_resolver_rules.specs.Names.{Env}
use Rattle.ss_resolver_rules.specs.declared.known.Known.{Known as KnownName}
use Rattle.ss_resolver_rules.specs.declared.known.Known.TheVariants.{Variable, BoundName}
use Rattle.ss_resolver_rules.specs.Names as names_of
use Rattle.ss_resolver_rules.specs.Numbers.{number_or_object, class_in, type_id, method_id, table_place}
use Rattle.ss_resolver_rules.specs.Expressions.{this, read_field, known_or_field, bare_name, field_after, state_word, member, third_class, method_call, base_call, place_or_own, state_question, first_class, owner_question, called_after, called_bare, expr, args}
use Rattle.ss_resolver_rules.specs.Programs.{resolved}
use Rattle.ss_expand_rules.specs.Program.{above_of}
use Rattle.ss_typed.specs.Lookups.{constructor_of, param_types_in}
use Rattle.ss_expand_formed.specs.Laws.{core_of}
use Rattle.ss_expand_formed.proofs.Facts.{none_left, or_false}
use Rattle.ss_expand_formed.proofs.Words.{level_word}
use Rattle.ss_expand_formed.proofs.Places.{class_at}
use Rattle.ss_expand_formed.proofs.Cycles.{above_within}
use Rattle.ss_expand_formed.proofs.Fit.{Context, Fit, Fits}
use Rattle.ss_expand_formed.proofs.ExpressionsScopes.{refusing, expr_context, no_fault, three_left, four_left}
use Rattle.ss_expand_formed.proofs.ExpressionsPlaces.{has_answer, have_answer, At, scope_at, env_at, IsKnown, IsPlace, Sound, IsWanted, static_at, is_wanted}
use Rattle.ss_expand_formed.proofs.Receivers.{receiver_of, value_faults, class_unknown}
use Rattle.ss_expand_formed.proofs.MemberReads.{not_unless}
use Rattle.ss_expand_formed.proofs.BeforeReads.{before_read}
use Rattle.ss_expand_formed.proofs.Answered.{answered}
use Rattle.ss_expand_formed.proofs.CallsSound.{class_there, takes_all, args_fit}
use Rattle.ss_expand_formed.proofs.Methods.{constructor_has}
use Rattle.ss_expand_formed.proofs.CallsAfter.{meant, kind_called, not_static, print_takes, object_called, console_sound}
use Rattle.ss_expand_formed.proofs.ExpressionsSources.{sound}
use Rattle.ss_expand_formed.proofs.Calls.{inherited_from, asks_none, code_sound, code_args}
use Rattle.ss_expand_formed.proofs.Fits.{can_lift, can_lift_all, FitCode}

-- ---- what prints

abbrev pub is_the_console : Receiver → Bool
is_the_console TheConsole = true
is_the_console TheOwner = false
is_the_console TheBase = false
is_the_console (AClass k) = false
is_the_console (AValue t) = false

-- a call of a word after `Console`, which leaves no trace in the resolved expression
abbrev pub prints : Scope → text.ExprTree → Bool
prints s (CallOf q (MemberOf m y n) es) = is_the_console (receiver s y (statics.static s y))
prints s (ParenOf q y) = prints s y
prints s y = false

-- ---- what has no value

valueless : (s : Scope) (y : text.ExprTree) → has_no_value s y ≡ true → statics.static s y ≡ None
valueless s (CallOf q f es) h = by (called_with (count es) (callee s f)) h
  where
    of_result : (r : Option TypeTree) → is_none r ≡ true → result_type s.classes r ≡ None
    of_result None g = refl
    of_result (Some t) g = absurd (false≢true g)

    by : (c : Callee) → gives_nothing c ≡ true → call_type s.classes c ≡ None
    by (AMethod m) g = of_result m.member.result g
    by (APrint b) g = refl
    by (AWord k) g = absurd (false≢true g)
    by ABase g = refl
    by NoCallee g = refl
valueless s (ParenOf q y) h = valueless s y h
valueless s y h = absurd (false≢true h)

-- what has members has a value
has_value : (s : Scope) (y : text.ExprTree) → without_members (has_no_value s y) (statics.static s y) ≡ false → has_no_value s y ≡ false
has_value s y h = by (has_no_value s y) refl
  where
    by : (b : Bool) → has_no_value s y ≡ b → has_no_value s y ≡ false
    by true e = sym (ap (without_members (has_no_value s y)) (valueless s y e)) ∙ h
    by false e = e

some_type : (o : Option Ty) (nothing : Bool) → (is_some o || nothing) ≡ true → without_members nothing o ≡ false → (t : Ty) × (o ≡ Some t) × (without_members false (Some t) ≡ false)
some_type None true h g = absurd (true≢false g)
some_type None false h g = absurd (false≢true h)
some_type (Some t) nothing h g = (t, refl, g)

-- the operands of an operation have values
operands : (cs : List ClassTree) (q : Place) (o : Option Want) (v w : Known) → operand_faults cs q o v w ≡ [] → (v.is_nothing ≡ false) × (w.is_nothing ≡ false)
operands cs q None v w h = let three = three_left (misfit cs AnyValue v) (misfit cs AnyValue w) _ h in ((or_false v.is_nothing _ (no_fault _ _ three.0)).0, (or_false w.is_nothing _ (no_fault _ _ three.1)).0)
operands cs q (Some k) v w h = let two = none_left (misfit cs k v) (misfit cs k w) h in ((or_false v.is_nothing _ (no_fault _ _ two.0)).0, (or_false w.is_nothing _ (no_fault _ _ two.1)).0)

-- ---- what is lifted

name_lifts : (e : Env) (q : Place) (n : List ℕ) → can_lift (bare_name e q n) ≡ true
name_lifts e q n = by (names_of.known e n)
  where
    of_field : (f : Option (Declared FieldTree)) → can_lift (read_field e q (this e q) f) ≡ true
    of_field None = refl
    of_field (Some f) = refl

    by : (k : Option KnownName) → can_lift (known_or_field e q n k) ≡ true
    by (Some (Variable y t)) = refl
    by (Some (BoundName k)) = refl
    by None = of_field (field_of e.scope.classes e.scope.class n)

member_lifts : (e : Env) (q : Place) (o : ExprTree) (n : List ℕ) (t : ℕ) → can_lift o ≡ true → can_lift (member e q o n t) ≡ true
member_lifts e q o n t h = by (is_state_read n) (is_array_number t)
  where
    of_field : (f : Option (Declared FieldTree)) → can_lift (read_field e q o f) ≡ true
    of_field None = refl
    of_field (Some f) = h

    behind : (k : Option ℕ) → can_lift (field_after e q o n k) ≡ true
    behind None = h
    behind (Some k) = of_field (field_of e.scope.classes k n)

    by : (b i : Bool) → can_lift (if b then StateOf q (state_word n) o else if i then LengthOf q o else field_after e q o n (declared_place t)) ≡ true
    by true i = refl
    by false true = h
    by false false = behind (declared_place t)

-- ---- calls of methods

module _ (e : Env) (q : Place) (k : ℕ) (o : ExprTree) (given : typed.Arguments) (m : Declared MethodTree) where
  static_tree : is_static m.member ≡ true → method_call e q k o given m ≡ StaticTree q (method_id e.scope.classes m.class m.member.name.text) (result_type e.scope.classes m.member.result) given
  static_tree h = rw h refl

  object_tree : is_static m.member ≡ false → method_call e q k o given m ≡ CallTree q o (table_place e.scope.classes k m.member.name.text) (result_type e.scope.classes m.member.result) given
  object_tree h = rw h refl

  given_words : misplaced NoWord (method_call e q k o given m) ≡ [] → misplaced_each NoWord given ≡ []
  given_words h = by (is_static m.member) h
    where
      by : (b : Bool) → misplaced NoWord (if b then StaticTree q (method_id e.scope.classes m.class m.member.name.text) (result_type e.scope.classes m.member.result) given else CallTree q o (table_place e.scope.classes k m.member.name.text) (result_type e.scope.classes m.member.result) given) ≡ [] → misplaced_each NoWord given ≡ []
      by true g = g
      by false g = (none_left (misplaced NoWord o) (misplaced_each NoWord given) g).1

  call_lifts : can_lift o ≡ true → can_lift_all given ≡ true → can_lift (method_call e q k o given m) ≡ true
  call_lifts h g = by (is_static m.member)
    where
      by : (b : Bool) → can_lift (if b then StaticTree q (method_id e.scope.classes m.class m.member.name.text) (result_type e.scope.classes m.member.result) given else CallTree q o (table_place e.scope.classes k m.member.name.text) (result_type e.scope.classes m.member.result) given) ≡ true
      by true = g
      by false = and_from (can_lift o) (can_lift_all given) h g

-- what is called on a value of a declared class, or can't be called, stays with its arguments
record IsKept (q : Place) (o : ExprTree) (given : typed.Arguments) (tree : ExprTree) : Type 0 where
  number : ℕ
  type : Option Ty
  is : tree ≡ CallTree q o number type given

value_tree : (e : Env) (q : Place) (o : ExprTree) (n : List ℕ) (es : Arguments) (given : typed.Arguments) (t : Option Ty) (k : Option ℕ) → IsKept q o given (called_after e q (AValue t) o n es given (statics.method_at e.scope.classes n k))
value_tree e q o n es given t None = record { number = 0; type = None; is = refl }
value_tree e q o n es given t (Some k) = of_method (method_of e.scope.classes k n)
  where
    of_kind : (m : Declared MethodTree) (b : Bool) → is_of_kind false m.member ≡ b → IsKept q o given (called_after e q (AValue t) o n es given (if b then AMethod m else NoCallee))
    of_kind m true i =
        let j = place_or_own e (option_and_then declared_place (option_and_then class_of t)) in
        record { number = table_place e.scope.classes j m.member.name.text; type = result_type e.scope.classes m.member.result; is = object_tree e q j o given m (not_static m.member i) }
    of_kind m false i = record { number = 0; type = None; is = refl }

    of_method : (m : Option (Declared MethodTree)) → IsKept q o given (called_after e q (AValue t) o n es given (statics.kind_callee false m))
    of_method None = record { number = 0; type = None; is = refl }
    of_method (Some m) = of_kind m (is_of_kind false m.member) refl

-- ---- questions

no_question : (q : Place) (n : List ℕ) (t : ℕ) (o : ExprTree) → misplaced NoWord (StateOf q (state_question n t) o) ≡ [] → ⊥
no_question q n t o h = by (bytes_eq n (codes "IsLevel")) h
  where
    by : (b : Bool) → misplaced NoWord (StateOf q (if b then core.Level t else core.Packed t) o) ≡ [] → ⊥
    by true g = cc
    by false g = cc

-- before the dot stands a name of no value
named_answer : (s : Scope) (y : text.ExprTree) (r : Receiver) → receiver s y (statics.static s y) ≡ r → ((t : Option Ty) → r ≡ AValue t → ⊥) → has_answer false y ≡ true
named_answer s (NameOf q n) r h other = refl
named_answer s (BaseOf q) r h other = refl
named_answer s y r h other = absurd (other (statics.static s y) (sym h))

owner_words : (e : Env) (q : Place) (n : List ℕ) (es : Arguments) → misplaced NoWord (owner_question e q n es (args e es)) ≡ [] → (have_answer false es ≡ true) × (can_lift (owner_question e q n es (args e es)) ≡ true)
owner_words e q n NoMore h = (refl, refl)
owner_words e q n (Argument z NoMore) h = absurd (let w : ⊥ = cc in w)
owner_words e q n (Argument z (Argument v es)) h = by (bytes_eq n (codes "Same")) h
  where
    by : (b : Bool) → misplaced NoWord (if b then OwnersOf q SameOwner (expr e z) (expr e v) else OwnersOf q (OwnedAt (third_class e (Argument z (Argument v es)))) (expr e z) (expr e v)) ≡ [] →
        ((has_answer false z && (has_answer false v && have_answer false es)) ≡ true) × (can_lift (if b then OwnersOf q SameOwner (expr e z) (expr e v) else OwnersOf q (OwnedAt (third_class e (Argument z (Argument v es)))) (expr e z) (expr e v)) ≡ true)
    by true g = absurd (let w : ⊥ = cc in w)
    by false g = absurd (let w : ⊥ = cc in w)

or_assoc : (a b c : Bool) → (a || (b || c)) ≡ true → (a || b || c) ≡ true
or_assoc true b c h = refl
or_assoc false b c h = h

module _ (p : ProgramTree) (faultless : program_faults p ≡ []) (x : Context) (is_known_there : IsKnown p x) (static : Bool) where
  abbrev C : List core.ClassTree
  C = (core_of p).classes

  -- a call of parameters
  abbrev Takes : Called → Type 0
  Takes c = (ps : List ParamTree) × (c ≡ Taking (param_wants p.classes ps))

  -- a bare name
  named : (b : Bool) (o : Option (Declared MethodTree)) → (b || is_some o) ≡ true → (k : ℕ) → is_wrong_call k (if b then Refused else called_method p.classes static o) ≡ false →
      (d : Declared MethodTree) × ((if b then NoCallee else statics.method_callee false o) ≡ AMethod d) × Takes (if b then Refused else called_method p.classes static o)
  named true o h k w = absurd (true≢false w)
  named false None h k w = absurd (false≢true h)
  named false (Some d) h k w = by (static && not (is_static d.member)) w
    where
      by : (c : Bool) → is_wrong_call k (if c then Refused else Taking (param_wants p.classes d.member.params)) ≡ false → (e : Declared MethodTree) × (AMethod d ≡ AMethod e) × Takes (if c then Refused else Taking (param_wants p.classes d.member.params))
      by true g = absurd (true≢false g)
      by false g = (d, refl, (d.member.params, refl))

  module _ (a : At) (here : IsPlace p x static false false a) where
    abbrev A : ExprContext
    A = expr_context static false false (scope_at p a)

    abbrev U : Scope
    U = refusing static false (scope_at p a)

    abbrev T : Scope
    T = refusing static static (scope_at p a)

    abbrev S : Scope
    S = scope_at p a

    abbrev E : Env
    E = env_at p a

    abbrev Clear : text.ExprTree → Type 0
    Clear y = (has_answer false y ≡ true) × (can_lift (expr E y) ≡ true)

    abbrev AllClear : Arguments → Type 0
    AllClear es = (have_answer false es ≡ true) × (can_lift_all (args E es) ≡ true)

    -- the expression is clear where it has no faults
    abbrev Code : text.ExprTree → Type 0
    Code y = expr_faults U y ≡ [] → faults A AsValue y ≡ [] → misplaced NoWord (expr E y) ≡ [] → prints S y ≡ false → Clear y

    abbrev Codes : Arguments → Type 0
    Codes NoMore = Unit {0}
    Codes (Argument z es) = Code z × Codes es

    -- ---- values

    at_T : (y : text.ExprTree) → faults A BeforeDot y ≡ [] → receiver T y (statics.static T y) ≡ receiver S y (statics.static S y)
    at_T y h = receiver_of static false false S refl static static (λ e. (e, e)) y h

    at_U : (y : text.ExprTree) → faults A BeforeDot y ≡ [] → receiver U y (statics.static U y) ≡ receiver S y (statics.static S y)
    at_U y h = receiver_of static false false S refl static false (λ e. (e, refl)) y h

    -- a call of a word after `Console`
    console_call : (q m : Place) (y : text.ExprTree) (n : NameTree) (es : Arguments) → receiver S y (statics.static S y) ≡ TheConsole → expr_faults U (CallOf q (MemberOf m y n) es) ≡ [] → faults A AsValue (CallOf q (MemberOf m y n) es) ≡ [] →
        (receiver T y (statics.static T y) ≡ TheConsole) × (is_print n.text ≡ true) × (is_wrong_call (count es) (called_console (count es) n.text) ≡ false)
    console_call q m y n es r names types =
        let four = four_left (faults A AsCallee (MemberOf m y n)) _ _ _ types in
        let before = (three_left (faults A BeforeDot y) _ _ four.0).0 in
        let rt = at_T y before ∙ r in
        let ru = at_U y before ∙ r in
        let both = none_left (callee_faults U (MemberOf m y n) (expr_faults U (MemberOf m y n))) (arguments_faults U (class_argument U (MemberOf m y n)) es) names in
        let print = not_unless (is_print n.text) n.place (subst (λ k. called_faults U n k (before_dot k (expr_faults U y) ++ read_faults U n k) ≡ []) ru both.0) in
        (rt, print, no_fault _ _ (subst (λ k. whole_call q (count es) (called_member A (count es) (known T y) n.text k) ≡ []) rt four.2))

    -- what prints has no value
    console_valueless : (q m : Place) (y : text.ExprTree) (n : NameTree) (es : Arguments) → receiver S y (statics.static S y) ≡ TheConsole → expr_faults U (CallOf q (MemberOf m y n) es) ≡ [] → faults A AsValue (CallOf q (MemberOf m y n) es) ≡ [] → has_no_value T (CallOf q (MemberOf m y n) es) ≡ true
    console_valueless q m y n es r names types =
        let c = console_call q m y n es r names types in
        let line = bytes_eq n.text (codes "WriteLine") in
        let takes = print_takes (count es) (bytes_eq n.text (codes "Write")) line c.1 c.2 in
        let callee_is : member_callee T n.text TheConsole ≡ APrint line = rw c.1 refl in
        ap (λ k. gives_nothing (called_with (count es) k)) (ap (member_callee T n.text) c.0 ∙ callee_is) ∙ (rw takes refl)

    silent : (y : text.ExprTree) → expr_faults U y ≡ [] → faults A AsValue y ≡ [] → has_no_value T y ≡ false → prints S y ≡ false
    silent (CallOf q (MemberOf m y n) es) names types h = by (receiver S y (statics.static S y)) refl
      where
        by : (r : Receiver) → receiver S y (statics.static S y) ≡ r → is_the_console r ≡ false
        by TheConsole e = absurd (true≢false (sym (console_valueless q m y n es e names types) ∙ h))
        by TheOwner e = refl
        by TheBase e = refl
        by (AClass k) e = refl
        by (AValue t) e = refl
    silent (ParenOf q y) names types h = silent y names types h
    silent y names types h = refl

    -- what is wanted
    part : (w : Want) (y : text.ExprTree) → Code y → expr_faults U y ≡ [] → faults_as A w y ≡ [] → misplaced NoWord (expr E y) ≡ [] → Clear y
    part w y ih names types words =
        let two = none_left (faults A AsValue y) (wrong T w y) types in
        ih names two.0 words (silent y names two.0 (or_false (has_no_value T y) (is_unsuited p.classes w (statics.static T y)) (no_fault _ _ two.1)).0)

    two_parts : (v w : Want) (y z : text.ExprTree) → Code y → Code z → expr_faults U y ++ expr_faults U z ≡ [] → faults_as A v y ++ faults_as A w z ≡ [] → misplaced NoWord (expr E y) ++ misplaced NoWord (expr E z) ≡ [] →
        ((has_answer false y && has_answer false z) ≡ true) × ((can_lift (expr E y) && can_lift (expr E z)) ≡ true)
    two_parts v w y z one other names types words =
        let ns = none_left (expr_faults U y) (expr_faults U z) names in
        let ts = none_left (faults_as A v y) (faults_as A w z) types in
        let ws = none_left (misplaced NoWord (expr E y)) (misplaced NoWord (expr E z)) words in
        let g = part v y one ns.0 ts.0 ws.0 in
        let h = part w z other ns.1 ts.1 ws.1 in
        (and_from _ _ g.0 h.0, and_from _ _ g.1 h.1)

    operation : (q : Place) (o : Operator) (y z : text.ExprTree) → Code y → Code z → expr_faults U y ++ expr_faults U z ≡ [] → faults A AsValue y ++ faults A AsValue z ++ operand_faults p.classes q (operand o) (known T y) (known T z) ≡ [] →
        misplaced NoWord (expr E y) ++ misplaced NoWord (expr E z) ≡ [] → ((has_answer false y && has_answer false z) ≡ true) × ((can_lift (expr E y) && can_lift (expr E z)) ≡ true)
    operation q o y z one other names types words =
        let ns = none_left (expr_faults U y) (expr_faults U z) names in
        let ts = three_left (faults A AsValue y) (faults A AsValue z) _ types in
        let ws = none_left (misplaced NoWord (expr E y)) (misplaced NoWord (expr E z)) words in
        let valued = operands p.classes q (operand o) (known T y) (known T z) ts.2 in
        let g = one ns.0 ts.0 ws.0 (silent y ns.0 ts.0 valued.0) in
        let h = other ns.1 ts.1 ws.1 (silent z ns.1 ts.1 valued.1) in
        (and_from _ _ g.0 h.0, and_from _ _ g.1 h.1)

    -- ---- arguments

    arguments_clear : (es : Arguments) (ps : List ParamTree) → Codes es → count es ≡ length ps → arguments_faults U None es ≡ [] → argument_faults A (param_wants p.classes ps) es ≡ [] → misplaced_each NoWord (args E es) ≡ [] → AllClear es
    arguments_clear NoMore ps ih size names types words = (refl, refl)
    arguments_clear (Argument z es) [] ih size names types words = absurd (omega arith)
    arguments_clear (Argument z es) (q ∷ ps) ih size names types words =
        let ns = none_left (expr_faults U z) (arguments_faults U None es) names in
        let ts = none_left (faults_as A (OfType (written_type p.classes q.ty)) z) (argument_faults A (param_wants p.classes ps) es) types in
        let ws = none_left (misplaced NoWord (expr E z)) (misplaced_each NoWord (args E es)) words in
        let one = part (OfType (written_type p.classes q.ty)) z ih.0 ns.0 ts.0 ws.0 in
        let more = arguments_clear es ps ih.1 (omega arith) ns.1 ts.1 ws.1 in
        (and_from _ _ one.0 more.0, and_from _ _ one.1 more.1)

    taken_clear : (es : Arguments) (c : Called) → Takes c → Codes es → is_wrong_call (count es) c ≡ false → argument_faults A (argument_wants (count es) c) es ≡ [] → arguments_faults U None es ≡ [] → misplaced_each NoWord (args E es) ≡ [] → AllClear es
    taken_clear es c takes ih wrong types names words =
        let ws = param_wants p.classes takes.0 in
        let right : is_wrong_call (count es) (Taking ws) ≡ false = subst (λ z. is_wrong_call (count es) z ≡ false) takes.1 wrong in
        let all : argument_faults A (argument_wants (count es) (Taking ws)) es ≡ [] = subst (λ z. argument_faults A (argument_wants (count es) z) es ≡ []) takes.1 types in
        let wanted : argument_faults A ws es ≡ [] = subst (λ b. argument_faults A (if b then [] else ws) es ≡ []) right all in
        arguments_clear es takes.0 ih (takes_all p.classes (count es) takes.0 right) names wanted words

    -- ---- calls by a bare name

    bare_clear : (q r : Place) (n : List ℕ) (es : Arguments) → Codes es → expr_faults U (CallOf q (NameOf r n) es) ≡ [] → faults A AsValue (CallOf q (NameOf r n) es) ≡ [] → misplaced NoWord (expr E (CallOf q (NameOf r n) es)) ≡ [] → Clear (CallOf q (NameOf r n) es)
    bare_clear q r n es ih names types words =
        let meaning = called_name A n in
        let four = four_left (faults A AsCallee (NameOf r n)) (condition_faults A q (not (is_question (callee T (NameOf r n))))) (whole_call q (count es) meaning) (argument_faults A (argument_wants (count es) meaning) es) types in
        let both = none_left (expr_faults U (NameOf r n)) (arguments_faults U None es) names in
        let wrong = no_fault (is_wrong_call (count es) meaning) (bad_type q) four.2 in
        let hidden = is_some (local_named S n) || is_some (field_of p.classes a.class n) in
        let d = named hidden (method_of p.classes a.class n) (or_assoc (is_some (local_named S n)) (is_some (field_of p.classes a.class n)) (is_some (method_of p.classes a.class n)) (not_unless (is_known U n) r both.0)) (count es) wrong in
        let tree : expr E (CallOf q (NameOf r n) es) ≡ method_call E q a.class (this E r) (args E es) d.0 = ap (called_bare E q r (args E es)) d.1 in
        let given = given_words E q a.class (this E r) (args E es) d.0 (subst (λ z. misplaced NoWord z ≡ []) tree words) in
        let all = taken_clear es meaning d.2 ih wrong four.3 both.1 given in
        (all.0, ap can_lift tree ∙ call_lifts E q a.class (this E r) (args E es) d.0 refl all.1)

    -- ---- calls after a dot

    abbrev Tree : Place → Receiver → text.ExprTree → List ℕ → Arguments → ExprTree
    Tree q r y n es = called_after E q r (expr E y) n es (args E es) (member_callee S n r)

    -- what a call after a dot is to be
    abbrev Behind : Place → Receiver → text.ExprTree → List ℕ → Arguments → Type 0
    Behind q r y n es = ((has_answer false y && have_answer false es) ≡ true) × (can_lift (Tree q r y n es) ≡ true)

    base_clear : (q : Place) (y : text.ExprTree) (n : NameTree) (es : Arguments) → has_answer false y ≡ true → Codes es → (static || is_state_word n.text) ≡ false → is_inherited p.classes a.class n.text ≡ true →
        is_wrong_call (count es) (method_or_field p.classes false (inherited_method p.classes a.class n.text) (inherited_field p.classes a.class n.text)) ≡ false →
        argument_faults A (argument_wants (count es) (method_or_field p.classes false (inherited_method p.classes a.class n.text) (inherited_field p.classes a.class n.text))) es ≡ [] → arguments_faults U None es ≡ [] → misplaced NoWord (Tree q TheBase y n.text es) ≡ [] → Behind q TheBase y n.text es
    base_clear q y n es ans ih free inherits wrong types names words =
        let f = inherited_field p.classes a.class n.text in
        let w = meant p.classes false (inherited_method p.classes a.class n.text) f (count es) wrong inherits in
        let j = inherited_from p.classes a.class n.text w.method w.is in
        let callee_is : member_callee S n.text TheBase ≡ AMethod w.method = rw (or_false static (is_state_word n.text) free).1 (kind_called false (inherited_method p.classes a.class n.text) w.method w.is w.kind_is) in
        let tree : Tree q TheBase y n.text es ≡ BaseTree q (table_place p.classes j.0 w.method.member.name.text) (result_type p.classes w.method.member.result) (args E es) =
        ap (called_after E q TheBase (expr E y) n.text es (args E es)) callee_is ∙ ap (base_call E q (args E es) w.method) j.1 in
        let all = taken_clear es (method_or_field p.classes false (inherited_method p.classes a.class n.text) f) (w.method.member.params, w.takes) ih wrong types names (subst (λ z. misplaced NoWord z ≡ []) tree words) in
        (and_from _ _ ans all.0, ap can_lift tree ∙ all.1)

    class_clear : (q : Place) (y : text.ExprTree) (n : NameTree) (es : Arguments) (j : ℕ) → has_answer false y ≡ true → Codes es → is_state_word n.text ≡ false → is_member p.classes j n.text ≡ true → is_wrong_call (count es) (called_on_class p.classes true j n.text) ≡ false →
        argument_faults A (argument_wants (count es) (called_on_class p.classes true j n.text)) es ≡ [] → arguments_faults U None es ≡ [] → misplaced NoWord (Tree q (AClass j) y n.text es) ≡ [] → Behind q (AClass j) y n.text es
    class_clear q y n es j ans ih word known wrong types names words =
        let w = meant p.classes true (method_of p.classes j n.text) (field_of p.classes j n.text) (count es) wrong known in
        let callee_is : member_callee S n.text (AClass j) ≡ AMethod w.method = rw word (kind_called true (method_of p.classes j n.text) w.method w.is w.kind_is) in
        let tree : Tree q (AClass j) y n.text es ≡ StaticTree q (method_id p.classes w.method.class w.method.member.name.text) (result_type p.classes w.method.member.result) (args E es) =
        ap (called_after E q (AClass j) (expr E y) n.text es (args E es)) callee_is ∙ static_tree E q j (expr E y) (args E es) w.method w.kind_is in
        let all = taken_clear es (called_on_class p.classes true j n.text) (w.method.member.params, w.takes) ih wrong types names (subst (λ z. misplaced NoWord z ≡ []) tree words) in
        (and_from _ _ ans all.0, ap can_lift tree ∙ all.1)

    -- what is called on an object
    object_takes : (n : List ℕ) (k : ℕ) (v : Called) (t : Ty) → v ≡ called_on_object p.classes n (class_of t) → without_members false (Some t) ≡ false → has_member p.classes n (class_of t) ≡ true → is_wrong_call k v ≡ false → Takes v
    object_takes n k v ty.Int is none known wrong = absurd (true≢false none)
    object_takes n k v ty.Bool is none known wrong = absurd (true≢false none)
    object_takes n k v ty.Null is none known wrong = absurd (true≢false none)
    object_takes n k v (ty.Ref c nn) is none known wrong =
        let o = object_called p faultless x is_known_there static false false a here n k v c.0 is wrong known in
        by (declared_place c.0) o.0 o.1
      where
        by : (i : Option ℕ) → v ≡ called_on_declared p.classes n i → declares p.classes n i ≡ true → Takes v
        by None e h = absurd (false≢true h)
        by (Some i) e h =
            let w = meant p.classes false (method_of p.classes i n) (field_of p.classes i n) k (subst (λ z. is_wrong_call k z ≡ false) e wrong) h in
            (w.method.member.params, e ∙ w.takes)

    value_clear : (q : Place) (y : text.ExprTree) (n : NameTree) (es : Arguments) → Code y → Codes es → expr_faults U y ≡ [] → faults A AsValue y ≡ [] → is_state_call n.text ≡ false → is_state_read n.text ≡ false → has_no_members (known T y) ≡ false →
        has_member p.classes n.text (option_and_then class_of (statics.static S y)) ≡ true → is_wrong_call (count es) (called_on_object p.classes n.text (class_of_known (known T y))) ≡ false →
        argument_faults A (argument_wants (count es) (called_on_object p.classes n.text (class_of_known (known T y)))) es ≡ [] → arguments_faults U None es ≡ [] →
        misplaced NoWord (Tree q (AValue (statics.static S y)) y n.text es) ≡ [] → Behind q (AValue (statics.static S y)) y n.text es
    value_clear q y n es ih more names_before types_before call read members declared wrong types names words =
        let v = statics.static S y in
        let same : statics.static T y ≡ v = static_at p x static false false false a y types_before in
        let k = value_tree E q (expr E y) n.text es (args E es) v (option_and_then declared_place (option_and_then class_of v)) in
        let tree : Tree q (AValue v) y n.text es ≡ CallTree q (expr E y) k.number k.type (args E es) = rw (call, read) k.is in
        let ws = none_left (misplaced NoWord (expr E y)) (misplaced_each NoWord (args E es)) (subst (λ z. misplaced NoWord z ≡ []) tree words) in
        let before = ih names_before types_before ws.0 (silent y names_before types_before (has_value T y members)) in
        let s = code_sound p faultless x is_known_there static false false a here y before.0 names_before types_before in
        let t = some_type v (has_no_value T y) s.valued (ap (without_members (has_no_value T y)) (sym same) ∙ members) in
        let takes = object_takes n.text (count es) (called_on_object p.classes n.text (class_of_known (known T y))) t.0 (ap (λ o. called_on_object p.classes n.text (option_and_then class_of o)) (same ∙ t.1)) t.2 (ap (λ o. has_member p.classes n.text (option_and_then class_of o)) (sym t.1) ∙ declared) wrong in
        let all = taken_clear es (called_on_object p.classes n.text (class_of_known (known T y))) takes more wrong types names ws.1 in
        (and_from _ _ before.0 all.0, ap can_lift tree ∙ and_from _ _ before.1 all.1)

    value_called : (q : Place) (y : text.ExprTree) (n : NameTree) (es : Arguments) → Code y → Codes es → expr_faults U y ≡ [] → faults A AsValue y ≡ [] → (is_state_word n.text || has_member p.classes n.text (option_and_then class_of (statics.static S y))) ≡ true →
        is_wrong_call (count es) (called_value p.classes (known T y) n.text) ≡ false → argument_faults A (argument_wants (count es) (called_value p.classes (known T y) n.text)) es ≡ [] → arguments_faults U (asked_class n.text (AValue (statics.static S y))) es ≡ [] →
        misplaced NoWord (Tree q (AValue (statics.static S y)) y n.text es) ≡ [] → Behind q (AValue (statics.static S y)) y n.text es
    value_called q y n es ih more names_before types_before known_member wrong types names words =
        by (is_state_read n.text) (is_state_call n.text) (has_no_members (known T y)) refl refl refl wrong types known_member
      where
        same : statics.static T y ≡ statics.static S y
        same = static_at p x static false false false a y types_before

        level : (nothing may : Bool) → is_wrong_call (count es) (if not nothing && may then Taking (ClassName ∷ []) else Refused) ≡ false → may ≡ true
        level true may h = absurd (true≢false h)
        level false true h = refl
        level false false h = absurd (true≢false h)

        asked : is_state_call n.text ≡ true → statics.may_have_levels (statics.static S y) ≡ true → ⊥
        asked d may =
            let word = level_word (statics.static S y) may in
            let callee_is : member_callee S n.text (AValue (statics.static S y)) ≡ AWord word.0 = rw d word.1 in
            let z = subst (λ c. misplaced NoWord (called_after E q (AValue (statics.static S y)) (expr E y) n.text es (args E es) c) ≡ []) callee_is words in
            no_question q n.text (first_class E es) (expr E y) z

        by : (b d e : Bool) → is_state_read n.text ≡ b → is_state_call n.text ≡ d → has_no_members (known T y) ≡ e →
            is_wrong_call (count es) (if b then Refused else if d then asks_level (known T y) else if e then Refused else called_on_object p.classes n.text (class_of_known (known T y))) ≡ false →
            argument_faults A (argument_wants (count es) (if b then Refused else if d then asks_level (known T y) else if e then Refused else called_on_object p.classes n.text (class_of_known (known T y)))) es ≡ [] →
            (b || d || has_member p.classes n.text (option_and_then class_of (statics.static S y))) ≡ true → Behind q (AValue (statics.static S y)) y n.text es
        by true d e eb ed ee w g k = absurd (true≢false w)
        by false true e eb ed ee w g k = absurd (asked ed (ap statics.may_have_levels (sym same) ∙ level (has_no_value T y) (statics.may_have_levels (statics.static T y)) w))
        by false false true eb ed ee w g k = absurd (true≢false w)
        by false false false eb ed ee w g k = value_clear q y n es ih more names_before types_before ed eb ee k w g (subst (λ o. arguments_faults U o es ≡ []) (asks_none n.text (AValue (statics.static S y)) ed (λ z. let w : ⊥ = cc in w)) names) words

    member_clear : (q m : Place) (y : text.ExprTree) (n : NameTree) (es : Arguments) → Code y → Codes es → expr_faults U (CallOf q (MemberOf m y n) es) ≡ [] → faults A AsValue (CallOf q (MemberOf m y n) es) ≡ [] → misplaced NoWord (expr E (CallOf q (MemberOf m y n) es)) ≡ [] →
        is_the_console (receiver S y (statics.static S y)) ≡ false → Clear (CallOf q (MemberOf m y n) es)
    member_clear q m y n es ih more names types words quiet =
        let four = four_left (faults A AsCallee (MemberOf m y n)) _ _ _ types in
        let three = three_left (faults A BeforeDot y) _ _ four.0 in
        let rt = at_T y three.0 in
        let ru = at_U y three.0 in
        let both = none_left (callee_faults U (MemberOf m y n) (expr_faults U (MemberOf m y n))) (arguments_faults U (class_argument U (MemberOf m y n)) es) names in
        by (receiver S y (statics.static S y)) refl ru three.0
        (no_fault _ _ (subst (λ r. whole_call q (count es) (called_member A (count es) (known T y) n.text r) ≡ []) rt four.2))
        (subst (λ r. argument_faults A (argument_wants (count es) (called_member A (count es) (known T y) n.text r)) es ≡ []) rt four.3)
        (subst (λ r. called_faults U n r (before_dot r (expr_faults U y) ++ read_faults U n r) ≡ []) ru both.0)
        (subst (λ r. arguments_faults U (asked_class n.text r) es ≡ []) ru both.1)
        words
        quiet
      where
        of_base : (b : Bool) → (static || is_state_word n.text) ≡ b → receiver S y (statics.static S y) ≡ TheBase → (is_state_word n.text || is_inherited p.classes a.class n.text) ≡ true →
            is_wrong_call (count es) (if b then Refused else method_or_field p.classes false (inherited_method p.classes a.class n.text) (inherited_field p.classes a.class n.text)) ≡ false →
            argument_faults A (argument_wants (count es) (if b then Refused else method_or_field p.classes false (inherited_method p.classes a.class n.text) (inherited_field p.classes a.class n.text))) es ≡ [] →
            arguments_faults U (asked_class n.text TheBase) es ≡ [] → misplaced NoWord (Tree q TheBase y n.text es) ≡ [] → Behind q TheBase y n.text es
        of_base true i e known w g k z = absurd (true≢false w)
        of_base false i e known w g k z =
            let word = (or_false static (is_state_word n.text) i).1 in
            let none : asked_class n.text TheBase ≡ None = asks_none n.text TheBase (or_false (is_state_read n.text) (is_state_call n.text) word).1 (λ z. let w : ⊥ = cc in w) in
            base_clear q y n es (named_answer S y TheBase e (λ t z. let w : ⊥ = cc in w)) more i (rw word at known) w g (subst (λ o. arguments_faults U o es ≡ []) none k) z

        of_class : (j : ℕ) (b : Bool) → is_state_word n.text ≡ b → receiver S y (statics.static S y) ≡ AClass j → receiver U y (statics.static U y) ≡ AClass j →
            (if b then expr_faults U y ++ [] else names_faults.unless (is_member p.classes j n.text) (names_faults.unknown n.place)) ≡ [] →
            is_wrong_call (count es) (if b then Unknown else called_on_class p.classes true j n.text) ≡ false → argument_faults A (argument_wants (count es) (if b then Unknown else called_on_class p.classes true j n.text)) es ≡ [] →
            arguments_faults U (asked_class n.text (AClass j)) es ≡ [] → misplaced NoWord (Tree q (AClass j) y n.text es) ≡ [] → Behind q (AClass j) y n.text es
        of_class j true i e u c w g k z = absurd (class_unknown U y j u (none_left (expr_faults U y) [] c).0)
        of_class j false i e u c w g k z =
            let none : asked_class n.text (AClass j) ≡ None = asks_none n.text (AClass j) (or_false (is_state_read n.text) (is_state_call n.text) i).1 (λ z. let w : ⊥ = cc in w) in
            class_clear q y n es j (named_answer S y (AClass j) e (λ t z. let w : ⊥ = cc in w)) more i (not_unless (is_member p.classes j n.text) n.place c) w g (subst (λ o. arguments_faults U o es ≡ []) none k) z

        of_owner : receiver S y (statics.static S y) ≡ TheOwner → (b : Bool) → is_owner_word n.text ≡ b → b ≡ true → misplaced NoWord (Tree q TheOwner y n.text es) ≡ [] → Behind q TheOwner y n.text es
        of_owner e b i known z =
            let callee_is : member_callee S n.text TheOwner ≡ AWord (statics.owner_count n.text) = rw (i ∙ known) refl in
            let tree : Tree q TheOwner y n.text es ≡ owner_question E q n.text es (args E es) = ap (called_after E q TheOwner (expr E y) n.text es (args E es)) callee_is in
            let o = owner_words E q n.text es (subst (λ w. misplaced NoWord w ≡ []) tree z) in
            (and_from _ _ (named_answer S y TheOwner e (λ t z. let w : ⊥ = cc in w)) o.0, ap can_lift tree ∙ o.1)

        by : (r : Receiver) → receiver S y (statics.static S y) ≡ r → receiver U y (statics.static U y) ≡ receiver S y (statics.static S y) → faults A BeforeDot y ≡ [] → is_wrong_call (count es) (called_member A (count es) (known T y) n.text r) ≡ false →
            argument_faults A (argument_wants (count es) (called_member A (count es) (known T y) n.text r)) es ≡ [] → called_faults U n r (before_dot r (expr_faults U y) ++ read_faults U n r) ≡ [] →
            arguments_faults U (asked_class n.text r) es ≡ [] → misplaced NoWord (Tree q r y n.text es) ≡ [] → is_the_console r ≡ false → Behind q r y n.text es
        by TheConsole e u f w g c k z h = absurd (true≢false h)
        by TheOwner e u f w g c k z h = of_owner e (is_owner_word n.text) refl (not_unless (is_owner_word n.text) n.place c) z
        by TheBase e u f w g c k z h = of_base (static || is_state_word n.text) refl e (not_unless (is_state_word n.text || is_inherited p.classes a.class n.text) n.place c) w g k z
        by (AClass j) e u f w g c k z h = of_class j (is_state_word n.text) refl e (u ∙ e) c w g k z
        by (AValue t) e u f w g c k z h =
            let v = value_faults static false false S y t e f in
            let left = none_left (expr_faults U y) (read_faults U n (AValue t)) c in
            subst (λ o. Behind q (AValue o) y n.text es) (sym v.1)
            (value_called q y n es ih more left.0 v.0
            (subst (λ o. (is_state_word n.text || has_member p.classes n.text (option_and_then class_of o)) ≡ true) v.1 (not_unless _ n.place left.1)) w g
            (subst (λ o. arguments_faults U (asked_class n.text (AValue o)) es ≡ []) v.1 k)
            (subst (λ o. misplaced NoWord (Tree q (AValue o) y n.text es) ≡ []) v.1 z))

    -- ---- new objects, reads and quantifiers

    new_clear : (q : Place) (n : NameTree) (es : Arguments) → Codes es → expr_faults U (NewOf q n es) ≡ [] → faults A AsValue (NewOf q n es) ≡ [] → misplaced_each NoWord (args E es) ≡ [] → AllClear es
    new_clear q n es ih names types words =
        let ns = none_left (class_faults p.classes n.text n.place) (arguments_faults U None es) names in
        let ts = none_left (whole_call q (count es) (constructed p.classes (class_named p.classes n.text))) _ types in
        taken_clear es (constructed p.classes (class_named p.classes n.text)) (made (class_named p.classes n.text) (not_unless _ n.place ns.0)) ih (no_fault _ _ ts.0) ts.1 ns.1 words
      where
        made : (o : Option ℕ) → is_some o ≡ true → Takes (constructed p.classes o)
        made None h = absurd (false≢true h)
        made (Some k) h = (statics.constructor_params p.classes k, refl)

    read_clear : (q : Place) (y : text.ExprTree) (n : NameTree) → Code y → expr_faults U (MemberOf q y n) ≡ [] → faults A AsValue (MemberOf q y n) ≡ [] → misplaced NoWord (expr E (MemberOf q y n)) ≡ [] → Clear (MemberOf q y n)
    read_clear q y n ih names types words =
        let r = before_read p x static false false NoWord a q y n names types words in
        let read : is_state_read n.text ≡ false = none_read (is_state_read n.text) words in
        let before = ih r.names r.types r.none (silent y r.names r.types (has_value T y (r.members read))) in
        (before.0, member_lifts E q (expr E y) n.text (class_in (statics.static S y)) before.1)
      where
        no_state : (w : core.WordTree) → misplaced NoWord (StateOf q w (expr E y)) ≡ [] → ⊥
        no_state core.Consistent h = cc
        no_state core.Committed h = cc
        no_state core.New h = cc
        no_state (core.Level t) h = cc
        no_state (core.Packed t) h = cc
        no_state core.Unowned h = cc

        none_read : (b : Bool) → misplaced NoWord (if b then StateOf q (state_word n.text) (expr E y) else if is_array_number (class_in (statics.static S y)) then LengthOf q (expr E y) else field_after E q (expr E y) n.text (declared_place (class_in (statics.static S y)))) ≡ [] → b ≡ false
        none_read true h = absurd (no_state (state_word n.text) h)
        none_read false h = refl

    quantified_clear : (q : Place) (r : Quantifier) (n : NameTree) (low high y : text.ExprTree) → expr_faults U (QuantifiedOf q r n low high y) ≡ [] → faults A AsValue (QuantifiedOf q r n low high y) ≡ [] → misplaced NoWord (expr E (QuantifiedOf q r n low high y)) ≡ [] → Clear (QuantifiedOf q r n low high y)
    quantified_clear q r n low high y names types words =
        let ans = answered p x static false NoWord refl a (QuantifiedOf q r n low high y) names types words in
        let s = sound p faultless x is_known_there static false false true (λ e. absurd (true≢false e)) a here (QuantifiedOf q r n low high y) ans names types in
        (ans, ap not (s.calls refl))

    -- ---- expressions

    mutual
      clear : (y : text.ExprTree) → Code y
      clear (ResultOf q) names types words quiet = absurd (let z : ⊥ = cc in z)
      clear (NameOf q n) names types words quiet = (refl, name_lifts E q n)
      clear (ParenOf q y) names types words quiet = clear y names types words quiet
      clear (OldOf q y) names types words quiet = absurd (let z : ⊥ = cc in z)
      clear (NegateOf q y) names types words quiet = part AnInt y (clear y) names types words
      clear (NotOf q y) names types words quiet = part ABool y (clear y) names types words
      clear (IffOf q y z) names types words quiet = two_parts ABool ABool y z (clear y) (clear z) names types words
      clear (ImpliesOf q y z) names types words quiet = two_parts ABool ABool y z (clear y) (clear z) names types words
      clear (ElementOf q y z) names types words quiet = two_parts AnArray AnInt y z (clear y) (clear z) names types words
      clear (BinaryOf q o y z) names types words quiet = operation q o y z (clear y) (clear z) names types words
      clear (IsOf q y t) names types words quiet = part AReference y (clear y) (none_left (expr_faults U y) (type_faults p.classes t) names).0 (none_left (faults_as A AReference y) (no_class t) types).0 words
      clear (AsOf q y t) names types words quiet = part AReference y (clear y) (none_left (expr_faults U y) (type_faults p.classes t) names).0 (none_left (faults_as A AReference y) (no_class t) types).0 words
      clear (CastOf q t y) names types words quiet = part AReference y (clear y) (none_left (type_faults p.classes t) (expr_faults U y) names).1 (none_left (no_class t) (faults_as A AReference y) types).1 words
      clear (MemberOf q y n) names types words quiet = read_clear q y n (clear y) names types words
      clear (CallOf q (NameOf m n) es) names types words quiet = bare_clear q m n es (all_clear es) names types words
      clear (CallOf q (MemberOf m y n) es) names types words quiet = member_clear q m y n es (clear y) (all_clear es) names types words quiet
      clear (CallOf q f es) names types words quiet = absurd (true≢false (no_fault true (bad_type q) (four_left (faults A AsCallee f) (condition_faults A q (not (is_question (callee T f)))) (whole_call q (count es) Refused) (argument_faults A [] es) types).2))
      clear (NewOf q n es) names types words quiet = new_clear q n es (all_clear es) names types words
      clear (NewArrayOf q r t y) names types words quiet = part AnInt y (clear y) (none_left (type_name_faults p.classes r t) (expr_faults U y) names).1 (none_left (condition_faults A q true) (faults_as A AnInt y) types).1 words
      clear (QuantifiedOf q r n low high y) names types words quiet = quantified_clear q r n low high y names types words
      clear y names types words quiet = (refl, refl)

      all_clear : (es : Arguments) → Codes es
      all_clear NoMore = tt
      all_clear (Argument z es) = (clear z, all_clear es)

    -- ---- the laws

    -- an expression of code
    pub record IsCode (y : text.ExprTree) : Type 0 where
      pub answer : has_answer false y ≡ true
      pub sound : Sound p x static false false false a y
      pub fit : Fit (resolved p) C x 0 (expr E y)
      pub words : misplaced NoWord (expr E y) ≡ []
      pub lifts : can_lift (expr E y) ≡ true

    -- one that is what is wanted
    pub record IsValue (w : Want) (y : text.ExprTree) : Type 0 where
      pub code : IsCode y
      pub wanted : IsWanted p x static false false false a w y

    pub code_of : a.bound ≡ 0 → (y : text.ExprTree) → expr_faults U y ≡ [] → faults A AsValue y ≡ [] → misplaced NoWord (expr E y) ≡ [] → prints S y ≡ false → IsCode y
    code_of outside y names types words quiet =
        let g = clear y names types words quiet in
        let s = code_sound p faultless x is_known_there static false false a here y g.0 names types in
        record { answer = g.0; sound = s; fit = subst (λ k. Fit (resolved p) C x k (expr E y)) outside s.fit; words = words; lifts = g.1 }

    pub fit_code : (constructs : Bool) (first : ℕ) (y : text.ExprTree) → IsCode y → FitCode (resolved p) C x constructs first (expr E y)
    fit_code constructs first y h = (h.fit, h.words, h.lifts)

    -- one that may print
    pub record IsAny (y : text.ExprTree) : Type 0 where
      pub sound : Sound p x static false false false a y
      pub lifts : can_lift (expr E y) ≡ true

    printed : (y : text.ExprTree) → expr_faults U y ≡ [] → faults A AsValue y ≡ [] → prints S y ≡ true → IsAny y
    printed (CallOf q (MemberOf m y n) es) names types h = by (receiver S y (statics.static S y)) refl h
      where
        by : (r : Receiver) → receiver S y (statics.static S y) ≡ r → is_the_console r ≡ true → IsAny (CallOf q (MemberOf m y n) es)
        by TheConsole e g =
            let c = console_call q m y n es e names types in
            let callee_is : member_callee S n.text TheConsole ≡ APrint (bytes_eq n.text (codes "WriteLine")) = rw c.1 refl in
            record {
              sound = console_sound p faultless x is_known_there static false false a here q m y n es e c.0 c.1 c.2;
              lifts = ap (λ r. can_lift (called_after E q r (expr E y) n.text es (args E es) (member_callee S n.text r))) e ∙ ap (λ k. can_lift (called_after E q TheConsole (expr E y) n.text es (args E es) k)) callee_is;
            }
        by TheOwner e g = absurd (false≢true g)
        by TheBase e g = absurd (false≢true g)
        by (AClass k) e g = absurd (false≢true g)
        by (AValue t) e g = absurd (false≢true g)
    printed (ParenOf q y) names types h = let r = printed y names types h in record { sound = record { typed = r.sound.typed; valued = r.sound.valued; fit = r.sound.fit; calls = r.sound.calls }; lifts = r.lifts }
    printed y names types h = absurd (false≢true h)

    pub any_of : (y : text.ExprTree) → expr_faults U y ≡ [] → faults A AsValue y ≡ [] → misplaced NoWord (expr E y) ≡ [] → IsAny y
    any_of y names types words = by (prints S y) refl
      where
        by : (b : Bool) → prints S y ≡ b → IsAny y
        by true e = printed y names types e
        by false e =
            let g = clear y names types words e in
            record { sound = code_sound p faultless x is_known_there static false false a here y g.0 names types; lifts = g.1 }

    pub value_of : (w : Want) → a.bound ≡ 0 → (y : text.ExprTree) → expr_faults U y ≡ [] → faults_as A w y ≡ [] → misplaced NoWord (expr E y) ≡ [] → IsValue w y
    value_of w outside y names types words =
        let two = none_left (faults A AsValue y) (wrong T w y) types in
        let c = code_of outside y names two.0 words (silent y names two.0 (or_false (has_no_value T y) (is_unsuited p.classes w (statics.static T y)) (no_fault _ _ two.1)).0) in
        record { code = c; wanted = is_wanted p x static false false false a w y two.0 c.sound two.1 }

    -- arguments of these types
    abbrev pub FitGiven : Arguments → List Ty → Type 0
    FitGiven es ts = Fits (resolved p) C x 0 (args E es) ts × (misplaced_each NoWord (args E es) ≡ []) × (can_lift_all (args E es) ≡ true)

    -- those of a call
    pub arguments_of : a.bound ≡ 0 → (es : Arguments) (ps : List ParamTree) → list_all (λ (q : ParamTree). is_type C (type_id p.classes q.ty)) ps ≡ true → is_wrong_call (count es) (Taking (param_wants p.classes ps)) ≡ false →
        argument_faults A (argument_wants (count es) (Taking (param_wants p.classes ps))) es ≡ [] → arguments_faults U None es ≡ [] → misplaced_each NoWord (args E es) ≡ [] → FitGiven es (map (λ (q : ParamTree). type_id p.classes q.ty) ps)
    arguments_of outside es ps known wrong types names words =
        let size = takes_all p.classes (count es) ps wrong in
        let wanted : argument_faults A (param_wants p.classes ps) es ≡ [] = subst (λ b. argument_faults A (if b then [] else param_wants p.classes ps) es ≡ []) wrong types in
        let g = arguments_clear es ps (all_clear es) size names wanted words in
        let fit = args_fit p faultless x is_known_there static false false a here es ps known size (code_args p faultless x is_known_there static false false a here es g.0) names wanted in
        (subst (λ k. Fits (resolved p) C x k (args E es) (map (λ (q : ParamTree). type_id p.classes q.ty) ps)) outside fit, words, g.1)

    -- those of `base(..)`
    pub base_arguments_of : a.bound ≡ 0 → (es : Arguments) → is_wrong_call (count es) (Taking (base_wants p.classes a.class)) ≡ false → argument_faults A (argument_wants (count es) (Taking (base_wants p.classes a.class))) es ≡ [] → arguments_faults U None es ≡ [] →
        misplaced_each NoWord (args E es) ≡ [] → FitGiven es (param_types_in (constructor_of (resolved p) (above_of (resolved p) x.class)))
    base_arguments_of outside es wrong types names words = by (above p.classes a.class) refl wrong types
      where
        over : above_of (resolved p) x.class ≡ number_or_object (above p.classes a.class)
        over = let c = class_there p.classes a.class here.class in ap (above_of (resolved p)) here.in_class ∙ ap chain.above_of (class_at p a.class c.0 c.1)

        by : (o : Option ℕ) → above p.classes a.class ≡ o → is_wrong_call (count es) (Taking (wants_above p.classes o)) ≡ false → argument_faults A (argument_wants (count es) (Taking (wants_above p.classes o))) es ≡ [] → FitGiven es (param_types_in (constructor_of (resolved p) (above_of (resolved p) x.class)))
        by None e w g =
            let none : param_types_in (constructor_of (resolved p) (above_of (resolved p) x.class)) ≡ [] =
            ap (λ t. param_types_in (constructor_of (resolved p) t)) (over ∙ ap number_or_object e) in
            subst (FitGiven es) (sym none) (arguments_of outside es [] refl w g names words)
        by (Some j) e w g =
            let c = class_there p.classes j (above_within p.classes a.class j e) in
            let has = constructor_has p faultless j c.0 c.1 in
            let types_are : param_types_in (constructor_of (resolved p) (above_of (resolved p) x.class)) ≡ map (λ (q : ParamTree). type_id p.classes q.ty) (statics.constructor_params p.classes j) =
            ap (λ t. param_types_in (constructor_of (resolved p) t)) (over ∙ ap number_or_object e) ∙ has.types in
            subst (FitGiven es) (sym types_are) (arguments_of outside es (statics.constructor_params p.classes j) has.params w g names words)
