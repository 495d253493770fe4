-- Where the words of conditions have no fault and `result` isn't allowed, none stands in a condition of the source without faults.
use Rattle.std.proofs.Common.{◌≡◌, ℕ, ◌+◌, List, [], ◌∷◌, ◌++◌, Bool, true, false, Option, Some, None, refl, sym, ◌∙◌, subst, arith, ⊎_elim}
use Rattle.std.specs.Prelude.{◌&&◌, ◌||◌, not, is_some, option_and_then, codes, if◌then◌else◌}
use Rattle.std.specs.Str.{bytes_eq}
use Rattle.std.proofs.lemmas.Bool.{and_from, or_cases, eqb-true, false≢true, true≢false}
use Rattle.std.proofs.lemmas.Slice.Eq.{bytes_eq-Decides}
use Rattle.ss_core.specs.declared.names.Place.{Place}
use Rattle.ss_core.specs.declared.names.Ty.{Ty}
use Rattle.ss_core.specs.declared.names.Ty.TheVariants as ty
use Rattle.ss_core.specs.Tree.{SameOwner, OwnedAt}
use Rattle.ss_ast.specs.Expressions.{NameTree, Arguments, NoMore, Argument, IffOf, ImpliesOf, BinaryOf, IsOf, AsOf, NegateOf, NotOf, CastOf, MemberOf, ElementOf, CallOf, ResultOf, NameOf, BaseOf, ParenOf, OldOf, NewOf, NewArrayOf, QuantifiedOf}
use Rattle.ss_ast.specs.Expressions as text
use Rattle.ss_ast.specs.Programs.{ProgramTree}
use Rattle.ss_tables.specs.Members.{MethodTree}
use Rattle.ss_tables.specs.Classes.{Declared, field_of, method_of, inherited_method, declared_place}
use Rattle.ss_tables.specs.Types.{class_of}
use Rattle.ss_tables.specs.Words.{is_owner_word, is_state_read, is_state_call, is_state_word, is_print}
use Rattle.ss_tables.specs.Scopes.{Scope, local_named}
use Rattle.ss_tables.specs.Statics.{Receiver, TheConsole, TheOwner, TheBase, AClass, AValue, Callee, AMethod, APrint, AWord, ABase, NoCallee, receiver, member_callee, callee, count}
use Rattle.ss_tables.specs.Statics as statics
use Rattle.ss_typed.specs.Tree.{ExprTree, OwnersOf}
use Rattle.ss_owners_rules.specs.Words.{Allowed, allows_question, allows_old, allows_result, allows_state, unless, misplaced}
use Rattle.ss_resolver_names_rules.specs.Faults.{type_faults}
use Rattle.ss_resolver_names_rules.specs.Expressions.{expr_faults, before_dot, read_faults, called_faults, callee_faults, asked_class, class_argument, arguments_faults}
use Rattle.ss_resolver_types_heads.specs.Wants.{Want, ABool, AnInt, AReference, AnArray, ClassName, known, has_no_value, wrong}
use Rattle.ss_resolver_types_heads.specs.Calls.{ExprContext, Called, Taking, Refused, called_owner, called_member, is_wrong_call, argument_wants, whole_call}
use Rattle.ss_resolver_types_heads.specs.Expressions.{AsValue, BeforeDot, AsCallee, no_class, is_question, condition_faults, is_name, faults, argument_faults}
use Rattle.ss_resolver_rules.specs.declared.known.Known.TheVariants.{BoundName}
use Rattle.ss_resolver_rules.specs.Expressions.{first_class, third_class, state_question, owner_question, called_after, expr, args}
use Rattle.ss_expand_formed.proofs.Facts.{none_left, not_false}
use Rattle.ss_expand_formed.proofs.Fit.{Context}
use Rattle.ss_expand_formed.proofs.ExpressionsScopes.{refusing, expr_context, no_fault, three_left, four_left}
use Rattle.ss_expand_formed.proofs.ExpressionsPlaces.{has_answer, have_answer, At, scope_at, env_at}
use Rattle.ss_expand_formed.proofs.Receivers.{receiver_of, value_faults}
use Rattle.ss_expand_formed.proofs.MemberReads.{not_unless}
use Rattle.ss_expand_formed.proofs.BeforeReads.{before_read}

module _ (p : ProgramTree) (x : Context) (static lacks : Bool) (w : Allowed) (refused : allows_result w ≡ false) where
  abbrev A : At → ExprContext
  A a = expr_context static true lacks (scope_at p a)

  abbrev U : At → Scope
  U a = refusing static false (scope_at p a)

  abbrev T : At → Scope
  T a = refusing static static (scope_at p a)

  abbrev no_place : At
  no_place = record { class = 0; outcome = None; names = []; more_names = []; numbers = []; more_numbers = []; next = 0; bound = 0 }

  -- within a quantifier
  abbrev inside_at : At → NameTree → At
  inside_at a n = record { class = a.class; outcome = a.outcome; names = (n.text, record { ty = Some ty.Int; is_param = false }) ∷ []; more_names = a.names ∷ a.more_names; numbers = (n.text, BoundName a.bound) ∷ []; more_numbers = a.numbers ∷ a.more_numbers; next = a.next; bound = a.bound + 1 }

  abbrev None_in : ExprTree → Type 0
  None_in e = misplaced w e ≡ []

  -- ---- questions

  -- the expression is a bare name
  name_answered : (y : text.ExprTree) → is_name y ≡ true → has_answer false y ≡ true
  name_answered (NameOf q n) h = refl
  name_answered y h = absurd (false≢true h)

  owner_named : (s : Scope) (y : text.ExprTree) → receiver s y (statics.static s y) ≡ TheOwner → has_answer false y ≡ true
  owner_named s (NameOf q n) h = refl
  owner_named s (BaseOf q) h = absurd (let z : ⊥ = cc in z)
  owner_named s y h = absurd (let z : ⊥ = cc in z)

  level_none : (a : At) (q : Place) (t : Option Ty) (o : ExprTree) (n : List ℕ) (es : Arguments) (k : Callee) → is_question k ≡ true → None_in (called_after (env_at p a) q (AValue t) o n es (args (env_at p a) es) k) → None_in o
  level_none a q t o n es (AWord j) h g = (none_left (unless (allows_state w (state_question n (first_class (env_at p a) es))) q) (misplaced w o) g).1
  level_none a q t o n es (AMethod m) h g = absurd (false≢true h)
  level_none a q t o n es (APrint b) h g = absurd (false≢true h)
  level_none a q t o n es ABase h g = absurd (false≢true h)
  level_none a q t o n es NoCallee h g = absurd (false≢true h)

  -- each argument of a question about owners that is asked about
  abbrev Objects : At → Arguments → Type 0
  Objects a NoMore = Unit {0}
  Objects a (Argument z NoMore) = None_in (expr (env_at p a) z)
  Objects a (Argument z (Argument v es)) = None_in (expr (env_at p a) z) × None_in (expr (env_at p a) v)

  objects_none : (a : At) (q : Place) (n : List ℕ) (es : Arguments) → None_in (owner_question (env_at p a) q n es (args (env_at p a) es)) → Objects a es
  objects_none a q n NoMore h = tt
  objects_none a q n (Argument z NoMore) h = (none_left (unless (allows_question w) q) (misplaced w (expr (env_at p a) z)) h).1
  objects_none a q n (Argument z (Argument v es)) h = by (bytes_eq n (codes "Same")) h
    where
      by : (b : Bool) → None_in (if b then OwnersOf q SameOwner (expr (env_at p a) z) (expr (env_at p a) v) else OwnersOf q (OwnedAt (third_class (env_at p a) (Argument z (Argument v es)))) (expr (env_at p a) z) (expr (env_at p a) v)) → None_in (expr (env_at p a) z) × None_in (expr (env_at p a) v)
      by true g = let two = three_left (unless (allows_question w) q) (misplaced w (expr (env_at p a) z)) (misplaced w (expr (env_at p a) v)) g in (two.1, two.2)
      by false g = let two = three_left (unless (allows_question w) q) (misplaced w (expr (env_at p a) z)) (misplaced w (expr (env_at p a) v)) g in (two.1, two.2)

  owner_none : (a : At) (q : Place) (o : ExprTree) (n : List ℕ) (es : Arguments) (k : Callee) → is_question k ≡ true → None_in (called_after (env_at p a) q TheOwner o n es (args (env_at p a) es) k) → Objects a es
  owner_none a q o n es (AWord j) h g = objects_none a q n es g
  owner_none a q o n es (AMethod m) h g = absurd (false≢true h)
  owner_none a q o n es (APrint b) h g = absurd (false≢true h)
  owner_none a q o n es ABase h g = absurd (false≢true h)
  owner_none a q o n es NoCallee h g = absurd (false≢true h)

  -- an argument has no `result` where it has no fault and no word is misplaced
  abbrev Answers : At → Arguments → Type 0
  Answers a NoMore = Unit {0}
  Answers a (Argument z es) = (expr_faults (U a) z ≡ [] → faults (A a) AsValue z ≡ [] → None_in (expr (env_at p a) z) → has_answer false z ≡ true) × Answers a es

  one_name : (a : At) (es : Arguments) → count es ≡ 1 → argument_faults (A a) (ClassName ∷ []) es ≡ [] → have_answer false es ≡ true
  one_name a NoMore n h = absurd (omega arith)
  one_name a (Argument z NoMore) n h = and_from _ _ (name_answered z (not_false _ (no_fault _ _ (none_left _ [] h).0))) refl
  one_name a (Argument z (Argument v es)) n h = absurd (omega arith)

  one_object : (a : At) (es : Arguments) → count es ≡ 1 → Answers a es → arguments_faults (U a) None es ≡ [] → argument_faults (A a) (AReference ∷ []) es ≡ [] → Objects a es → have_answer false es ≡ true
  one_object a NoMore n ih k h o = absurd (omega arith)
  one_object a (Argument z NoMore) n ih k h o = and_from _ _ (ih.0 (none_left (expr_faults (U a) z) [] k).0 (none_left (faults (A a) AsValue z) _ (none_left (faults (A a) AsValue z ++ wrong (T a) AReference z) [] h).0).0 o) refl
  one_object a (Argument z (Argument v es)) n ih k h o = absurd (omega arith)

  two_objects : (a : At) (z v : text.ExprTree) (es : Arguments) (more : List Want) → Answers a (Argument z (Argument v es)) → expr_faults (U a) z ≡ [] → expr_faults (U a) v ≡ [] → argument_faults (A a) (AReference ∷ AReference ∷ more) (Argument z (Argument v es)) ≡ [] → Objects a (Argument z (Argument v es)) →
      (has_answer false z ≡ true) × (has_answer false v ≡ true) × (argument_faults (A a) more es ≡ [])
  two_objects a z v es more ih kz kv h o =
      let one = none_left (faults (A a) AsValue z ++ wrong (T a) AReference z) _ h in
      let two = none_left (faults (A a) AsValue v ++ wrong (T a) AReference v) (argument_faults (A a) more es) one.1 in
      (ih.0 kz (none_left (faults (A a) AsValue z) _ one.0).0 o.0, ih.1.0 kv (none_left (faults (A a) AsValue v) _ two.0).0 o.1, two.1)

  same_objects : (a : At) (es : Arguments) → count es ≡ 2 → Answers a es → arguments_faults (U a) None es ≡ [] → argument_faults (A a) (AReference ∷ AReference ∷ []) es ≡ [] → Objects a es → have_answer false es ≡ true
  same_objects a NoMore n ih k h o = absurd (omega arith)
  same_objects a (Argument z NoMore) n ih k h o = absurd (omega arith)
  same_objects a (Argument z (Argument v NoMore)) n ih k h o =
      let ks = none_left (expr_faults (U a) z) _ k in
      let r = two_objects a z v NoMore [] ih ks.0 (none_left (expr_faults (U a) v) [] ks.1).0 h o in
      and_from _ _ r.0 (and_from _ _ r.1 refl)
  same_objects a (Argument z (Argument v (Argument c es))) n ih k h o = absurd (omega arith)

  at_class : (a : At) (es : Arguments) → count es ≡ 3 → Answers a es → arguments_faults (U a) (Some 2) es ≡ [] → argument_faults (A a) (AReference ∷ AReference ∷ ClassName ∷ []) es ≡ [] → Objects a es → have_answer false es ≡ true
  at_class a NoMore n ih k h o = absurd (omega arith)
  at_class a (Argument z NoMore) n ih k h o = absurd (omega arith)
  at_class a (Argument z (Argument v es)) n ih k h o =
      let ks = none_left (expr_faults (U a) z) _ k in
      let r = two_objects a z v es (ClassName ∷ []) ih ks.0 (none_left (expr_faults (U a) v) _ ks.1).0 h o in
      and_from _ _ r.0 (and_from _ _ r.1 (one_name a es (omega arith) r.2))

  abbrev OwnerAnswers : At → Arguments → List ℕ → Type 0
  OwnerAnswers a es n = is_wrong_call (count es) (called_owner n) ≡ false → argument_faults (A a) (argument_wants (count es) (called_owner n)) es ≡ [] → arguments_faults (U a) (asked_class n TheOwner) es ≡ [] → Objects a es → have_answer false es ≡ true

  owner_answers : (a : At) (es : Arguments) (n : List ℕ) → is_owner_word n ≡ true → Answers a es → OwnerAnswers a es n
  owner_answers a es n word ih =
      ⊎_elim
      (λ two.
      ⊎_elim
      (λ none. subst (OwnerAnswers a es) (sym ((bytes_eq-Decides n (codes "None")).0 none)) (λ g h k o. one_object a es (eqb-true (count es) 1 (not_false _ g)) ih k (subst (λ b. argument_faults (A a) (if b then [] else AReference ∷ []) es ≡ []) g h) o))
      (λ same. subst (OwnerAnswers a es) (sym ((bytes_eq-Decides n (codes "Same")).0 same)) (λ g h k o. same_objects a es (eqb-true (count es) 2 (not_false _ g)) ih k (subst (λ b. argument_faults (A a) (if b then [] else AReference ∷ AReference ∷ []) es ≡ []) g h) o))
      (or_cases (bytes_eq n (codes "None")) (bytes_eq n (codes "Same")) two))
      (λ third. subst (OwnerAnswers a es) (sym ((bytes_eq-Decides n (codes "Is")).0 third)) (λ g h k o. at_class a es (eqb-true (count es) 3 (not_false _ g)) ih k (subst (λ b. argument_faults (A a) (if b then [] else AReference ∷ AReference ∷ ClassName ∷ []) es ≡ []) g h) o))
      (or_cases (bytes_eq n (codes "None") || bytes_eq n (codes "Same")) (bytes_eq n (codes "Is")) word)

  -- a question about a level has the name of a class for its argument
  level_answers : (a : At) (es : Arguments) (b d m : Bool) (other : Called) → is_wrong_call (count es) (if b then Refused else if d then (if m then Taking (ClassName ∷ []) else Refused) else other) ≡ false → d ≡ true →
      argument_faults (A a) (argument_wants (count es) (if b then Refused else if d then (if m then Taking (ClassName ∷ []) else Refused) else other)) es ≡ [] → have_answer false es ≡ true
  level_answers a es true d m other g e h = absurd (true≢false g)
  level_answers a es false false m other g e h = absurd (false≢true e)
  level_answers a es false true false other g e h = absurd (true≢false g)
  level_answers a es false true true other g e h = one_name a es (eqb-true (count es) 1 (not_false _ g)) (subst (λ b. argument_faults (A a) (if b then [] else ClassName ∷ []) es ≡ []) g h)

  question_of : (o : Option Ty) (b d : Bool) (k : Callee) → is_question k ≡ false → is_question (if b then statics.level_callee o else if d then NoCallee else k) ≡ true → b ≡ true
  question_of o true d k h g = refl
  question_of o false true k h g = absurd (false≢true g)
  question_of o false false k h g = absurd (false≢true (sym h ∙ g))

  never_kind : (b : Bool) (m : Option (Declared MethodTree)) → is_question (statics.kind_callee b m) ≡ false
  never_kind b None = refl
  never_kind b (Some m) = by (statics.is_of_kind b m.member)
    where
      by : (d : Bool) → is_question (if d then AMethod m else NoCallee) ≡ false
      by true = refl
      by false = refl

  never_at : (n : List ℕ) (k : Option ℕ) → is_question (statics.method_at p.classes n k) ≡ false
  never_at n None = refl
  never_at n (Some k) = never_kind false (method_of p.classes k n)

  never_bare : (b : Bool) (m : Option (Declared MethodTree)) → is_question (statics.method_callee b m) ≡ false
  never_bare b None = refl
  never_bare b (Some m) = by (b && not (statics.is_of_kind true m.member))
    where
      by : (d : Bool) → is_question (if d then NoCallee else AMethod m) ≡ false
      by true = refl
      by false = refl

  never_if : (b c : Bool) (m : Option (Declared MethodTree)) → is_question (if b then NoCallee else statics.kind_callee c m) ≡ false
  never_if true c m = refl
  never_if false c m = never_kind c m

  never_print : (b d : Bool) → is_question (if b then APrint d else NoCallee) ≡ false
  never_print true d = refl
  never_print false d = refl

  asked_question : (q : Place) (b : Bool) → condition_faults (A no_place) q (not b) ≡ [] → b ≡ true
  asked_question q true h = refl
  asked_question q false h = absurd (let z : ⊥ = cc in z)

  -- an answer of what stands before the dot
  abbrev Answer : At → text.ExprTree → Type 0
  Answer a y = expr_faults (U a) y ≡ [] → faults (A a) AsValue y ≡ [] → None_in (expr (env_at p a) y) → has_answer false y ≡ true

  question_answers : (a : At) (q m : Place) (y : text.ExprTree) (n : NameTree) (es : Arguments) → Answer a y → Answers a es → expr_faults (U a) (CallOf q (MemberOf m y n) es) ≡ [] → faults (A a) AsValue (CallOf q (MemberOf m y n) es) ≡ [] →
      None_in (expr (env_at p a) (CallOf q (MemberOf m y n) es)) → has_answer false (CallOf q (MemberOf m y n) es) ≡ true
  question_answers a q m y n es ih args_ih names types h =
      let four = four_left (faults (A a) AsCallee (MemberOf m y n)) _ _ _ types in
      let three = three_left (faults (A a) BeforeDot y) _ _ four.0 in
      let rt = receiver_of static true lacks (scope_at p a) refl static static (λ e. (e, e)) y three.0 in
      let ru = receiver_of static true lacks (scope_at p a) refl static false (λ e. (e, refl)) y three.0 in
      let both = none_left (callee_faults (U a) (MemberOf m y n) (expr_faults (U a) (MemberOf m y n))) (arguments_faults (U a) (class_argument (U a) (MemberOf m y n)) es) names in
      by (receiver (scope_at p a) y (statics.static (scope_at p a) y)) refl three.0
      (subst (λ r. is_question (member_callee (T a) n.text r) ≡ true) rt (asked_question q (is_question (callee (T a) (MemberOf m y n))) four.1))
      (no_fault _ _ (subst (λ r. whole_call q (count es) (called_member (A a) (count es) (known (T a) y) n.text r) ≡ []) rt four.2))
      (subst (λ r. argument_faults (A a) (argument_wants (count es) (called_member (A a) (count es) (known (T a) y) n.text r)) es ≡ []) rt four.3)
      (subst (λ r. called_faults (U a) n r (before_dot r (expr_faults (U a) y) ++ read_faults (U a) n r) ≡ []) ru both.0)
      (subst (λ r. arguments_faults (U a) (asked_class n.text r) es ≡ []) ru both.1)
      h
    where
      by : (r : Receiver) → receiver (scope_at p a) y (statics.static (scope_at p a) y) ≡ r → faults (A a) BeforeDot y ≡ [] → is_question (member_callee (T a) n.text r) ≡ true →
          is_wrong_call (count es) (called_member (A a) (count es) (known (T a) y) n.text r) ≡ false → argument_faults (A a) (argument_wants (count es) (called_member (A a) (count es) (known (T a) y) n.text r)) es ≡ [] →
          called_faults (U a) n r (before_dot r (expr_faults (U a) y) ++ read_faults (U a) n r) ≡ [] → arguments_faults (U a) (asked_class n.text r) es ≡ [] →
          None_in (called_after (env_at p a) q (receiver (scope_at p a) y (statics.static (scope_at p a) y)) (expr (env_at p a) y) n.text es (args (env_at p a) es) (member_callee (scope_at p a) n.text (receiver (scope_at p a) y (statics.static (scope_at p a) y)))) →
          (has_answer false y && have_answer false es) ≡ true
      by TheConsole e f ask wrong types called names g = absurd (false≢true (sym (never_print (is_print n.text) _) ∙ ask))
      by TheOwner e f ask wrong types called names g =
          let tree = subst (λ r. None_in (called_after (env_at p a) q r (expr (env_at p a) y) n.text es (args (env_at p a) es) (member_callee (scope_at p a) n.text r))) e g in
          let objects = owner_none a q (expr (env_at p a) y) n.text es (member_callee (scope_at p a) n.text TheOwner) ask tree in
          and_from _ _ (owner_named (scope_at p a) y e) (owner_answers a es n.text (not_unless (is_owner_word n.text) n.place called) args_ih wrong types names objects)
      by TheBase e f ask wrong types called names g = absurd (false≢true (sym (never_if (static || is_state_word n.text) false (inherited_method p.classes a.class n.text)) ∙ ask))
      by (AClass j) e f ask wrong types called names g = absurd (false≢true (sym (never_if (is_state_word n.text) true (method_of p.classes j n.text)) ∙ ask))
      by (AValue t) e f ask wrong types called names g =
          let v = value_faults static true lacks (scope_at p a) y t e f in
          let left = none_left (expr_faults (U a) y) (read_faults (U a) n (AValue t)) called in
          let tree = subst (λ r. None_in (called_after (env_at p a) q r (expr (env_at p a) y) n.text es (args (env_at p a) es) (member_callee (scope_at p a) n.text r))) e g in
          let none = level_none a q t (expr (env_at p a) y) n.text es (member_callee (scope_at p a) n.text (AValue t)) ask tree in
          let call = question_of t (is_state_call n.text) (is_state_read n.text) (statics.method_at p.classes n.text (option_and_then declared_place (option_and_then class_of t))) (never_at n.text (option_and_then declared_place (option_and_then class_of t))) ask in
          and_from _ _ (ih left.0 v.0 none) (level_answers a es (is_state_read n.text) (is_state_call n.text) (not (has_no_value (T a) y) && statics.may_have_levels (statics.static (T a) y)) _ wrong call types)

  never_named : (a : At) (n : List ℕ) → is_question (statics.name_callee (T a) n) ≡ false
  never_named a n = by (is_some (local_named (T a) n) || is_some (field_of p.classes a.class n))
    where
      by : (d : Bool) → is_question (if d then NoCallee else statics.method_callee static (method_of p.classes a.class n)) ≡ false
      by true = refl
      by false = never_bare static (method_of p.classes a.class n)

  -- what stands before the dot of what is called, where that is a question
  abbrev AnswerIn : At → text.ExprTree → Type 0
  AnswerIn a (MemberOf m y n) = Answer a y
  AnswerIn a f = Unit {0}

  is_asked : (a : At) (q : Place) (f : text.ExprTree) (es : Arguments) → faults (A a) AsValue (CallOf q f es) ≡ [] → is_question (callee (T a) f) ≡ true
  is_asked a q f es types = asked_question q (is_question (callee (T a) f)) (four_left (faults (A a) AsCallee f) _ _ _ types).1

  call_answers : (a : At) (q : Place) (f : text.ExprTree) (es : Arguments) → AnswerIn a f → Answers a es → is_question (callee (T a) f) ≡ true → Answer a (CallOf q f es)
  call_answers a q (MemberOf m y n) es ih more asks names types h = question_answers a q m y n es ih more names types h
  call_answers a q (NameOf m n) es ih more asks names types h = absurd (false≢true (sym (never_named a n) ∙ asks))
  call_answers a q f es ih more asks names types h = absurd (false≢true asks)

  both : (a : At) (y z : text.ExprTree) (v u : Want) → Answer a y → Answer a z → expr_faults (U a) y ++ expr_faults (U a) z ≡ [] → (faults (A a) AsValue y ++ wrong (T a) v y) ++ (faults (A a) AsValue z ++ wrong (T a) u z) ≡ [] →
      misplaced w (expr (env_at p a) y) ++ misplaced w (expr (env_at p a) z) ≡ [] → (has_answer false y && has_answer false z) ≡ true
  both a y z v u one other names types h =
      let ns = none_left (expr_faults (U a) y) (expr_faults (U a) z) names in
      let ts = none_left (faults (A a) AsValue y ++ wrong (T a) v y) (faults (A a) AsValue z ++ wrong (T a) u z) types in
      let hs = none_left (misplaced w (expr (env_at p a) y)) (misplaced w (expr (env_at p a) z)) h in
      and_from _ _ (one ns.0 (none_left (faults (A a) AsValue y) _ ts.0).0 hs.0) (other ns.1 (none_left (faults (A a) AsValue z) _ ts.1).0 hs.1)

  mutual
    -- no `result` stands in the condition
    pub answered : (a : At) (y : text.ExprTree) → Answer a y
    answered a (ResultOf q) names types h = absurd (let z : unless false q ≡ [] = subst (λ b. unless b q ≡ []) refused h in let e : ⊥ = cc in e)
    answered a (ParenOf q y) names types h = answered a y names types h
    answered a (OldOf q y) names types h = answered a y names (none_left (faults (A a) AsValue y) _ types).0 (none_left (unless (allows_old w) q) (misplaced w (expr (env_at p a) y)) h).1
    answered a (NegateOf q y) names types h = answered a y names (none_left (faults (A a) AsValue y) _ types).0 h
    answered a (NotOf q y) names types h = answered a y names (none_left (faults (A a) AsValue y) _ types).0 h
    answered a (IffOf q y z) names types h = both a y z ABool ABool (answered a y) (answered a z) names types h
    answered a (ImpliesOf q y z) names types h = both a y z ABool ABool (answered a y) (answered a z) names types h
    answered a (ElementOf q y z) names types h = both a y z AnArray AnInt (answered a y) (answered a z) names types h
    answered a (BinaryOf q o y z) names types h =
        let ns = none_left (expr_faults (U a) y) (expr_faults (U a) z) names in
        let ts = three_left (faults (A a) AsValue y) (faults (A a) AsValue z) _ types in
        let hs = none_left (misplaced w (expr (env_at p a) y)) (misplaced w (expr (env_at p a) z)) h in
        and_from _ _ (answered a y ns.0 ts.0 hs.0) (answered a z ns.1 ts.1 hs.1)
    answered a (IsOf q y t) names types h = answered a y (none_left (expr_faults (U a) y) (type_faults p.classes t) names).0 (none_left (faults (A a) AsValue y) _ (none_left (faults (A a) AsValue y ++ wrong (T a) AReference y) (no_class t) types).0).0 h
    answered a (AsOf q y t) names types h = answered a y (none_left (expr_faults (U a) y) (type_faults p.classes t) names).0 (none_left (faults (A a) AsValue y) _ (none_left (faults (A a) AsValue y ++ wrong (T a) AReference y) (no_class t) types).0).0 h
    answered a (CastOf q t y) names types h = answered a y (none_left (type_faults p.classes t) (expr_faults (U a) y) names).1 (none_left (faults (A a) AsValue y) _ (none_left (no_class t) (faults (A a) AsValue y ++ wrong (T a) AReference y) types).1).0 h
    answered a (MemberOf q y n) names types h = let r = before_read p x static true lacks w a q y n names types h in answered a y r.names r.types r.none
    answered a (CallOf q f es) names types h = call_answers a q f es (answer_in a f) (answers a es) (is_asked a q f es types) names types h
    answered a (NewOf q n es) names types h = absurd (let z : ⊥ = cc in z)
    answered a (NewArrayOf q r t y) names types h = absurd (let z : ⊥ = cc in z)
    answered a (QuantifiedOf q r n low high y) names types h =
        let ns = three_left (expr_faults (U a) low) (expr_faults (U a) high) (expr_faults (U (inside_at a n)) y) names in
        let ts = three_left (faults (A a) AsValue low ++ wrong (T a) AnInt low) (faults (A a) AsValue high ++ wrong (T a) AnInt high) _ types in
        let hs = three_left (misplaced w (expr (env_at p a) low)) (misplaced w (expr (env_at p a) high)) (misplaced w (expr (env_at p (inside_at a n)) y)) h in
        and_from _ _ (and_from _ _ (answered a low ns.0 (none_left (faults (A a) AsValue low) _ ts.0).0 hs.0) (answered a high ns.1 (none_left (faults (A a) AsValue high) _ ts.1).0 hs.1))
        (answered (inside_at a n) y ns.2 (none_left (faults (A (inside_at a n)) AsValue y) _ ts.2).0 hs.2)
    answered a y names types h = refl

    answer_in : (a : At) (f : text.ExprTree) → AnswerIn a f
    answer_in a (MemberOf m y n) = answered a y
    answer_in a f = tt

    answers : (a : At) (es : Arguments) → Answers a es
    answers a NoMore = tt
    answers a (Argument z es) = (answered a z, answers a es)
