-- Where no `result` is allowed, none stands in a condition without faults.
use Rattle.std.proofs.Common.{◌≡◌, ℕ, ◌+◌, List, [], ◌∷◌, ◌++◌, Bool, true, false, Option, Some, None, refl, sym, ◌∙◌, ap, subst, arith, ⊎_elim}
use Rattle.std.specs.Prelude.{◌&&◌, ◌||◌, ◌==◌, not, is_some, is_none, option_and_then, codes, if◌then◌else◌}
use Rattle.std.specs.Str.{bytes_eq}
use Rattle.std.proofs.lemmas.Slice.Eq.{bytes_eq-Decides}
use Rattle.std.proofs.lemmas.Bool.{and_from, eqb-true, false≢true, cases_Bool}
use Rattle.ss_core.specs.declared.names.Place.{Place}
use Rattle.ss_core.specs.declared.names.Ty.{Ty}
use Rattle.ss_core.specs.declared.names.Ty.TheVariants as ty
use Rattle.ss_core.specs.Tree.{WordTree, SameOwner, OwnedAt, Unowned}
use Rattle.ss_ast.specs.Expressions.{NameTree, Arguments, NoMore, Argument, IffOf, ImpliesOf, BinaryOf, IsOf, AsOf, NegateOf, NotOf, CastOf, MemberOf, ElementOf, CallOf, NumberOf, TextOf, TruthOf, NullOf, ThisOf, BaseOf, ResultOf, NameOf, ParenOf, OldOf, NewOf, NewArrayOf, QuantifiedOf}
use Rattle.ss_ast.specs.Expressions as text
use Rattle.ss_ast.specs.Programs.{ClassTree, ProgramTree}
use Rattle.ss_tables.specs.Members.{FieldTree, MethodTree, is_static}
use Rattle.ss_tables.specs.Classes.{Declared, is_array_number, declared_place, field_of, method_of, inherited_method}
use Rattle.ss_tables.specs.Types.{class_of}
use Rattle.ss_tables.specs.Words.{is_print, is_owner_word, is_state_read, is_state_call, is_state_word}
use Rattle.ss_tables.specs.Scopes.{Scope, local_named}
use Rattle.ss_tables.specs.Statics.{Receiver, TheConsole, TheOwner, TheBase, AClass, AValue, Callee, AMethod, APrint, AWord, ABase, NoCallee, receiver, count, callee, name_callee, method_callee, member_callee, kind_callee, method_at, may_have_levels, level_callee, is_of_kind}
use Rattle.ss_tables.specs.Statics as statics
use Rattle.ss_typed.specs.Tree.{ExprTree, StateOf, LengthOf, OwnersOf}
use Rattle.ss_typed.specs.Tree as typed
use Rattle.ss_owners_rules.specs.Words.{Allowed, allows_result, allows_old, allows_state, allows_question, unless, misplaced}
use Rattle.ss_resolver_names_rules.specs.Faults.{type_faults}
use Rattle.ss_resolver_names_rules.specs.Expressions.{expr_faults, has_member, before_dot, read_faults, callee_faults, called_faults, arguments_faults, asked_class, class_argument}
use Rattle.ss_resolver_types_heads.specs.Wants.{AnInt, ABool, AReference, AnArray, ClassName, known, wrong}
use Rattle.ss_resolver_types_heads.specs.Calls.{ExprContext, Called, Taking, Refused, Unknown, called, called_member, called_owner, asks_level, is_wrong_call, argument_wants, whole_call}
use Rattle.ss_resolver_types_heads.specs.Expressions.{AsValue, BeforeDot, AsCallee, used_member, is_wrong_read, is_no_read, reads_method, is_method_name, is_question, condition_faults, is_name, argument, faults, argument_faults, no_class}
use Rattle.ss_resolver_rules.specs.declared.known.Known.TheVariants.{BoundName}
use Rattle.ss_resolver_rules.specs.Numbers.{class_in}
use Rattle.ss_resolver_rules.specs.Expressions.{read_field, field_after, state_word, member, third_class, owner_question, called_after, expr, args}
use Rattle.ss_expand_formed.proofs.Facts.{none_left, or_false, not_false}
use Rattle.ss_expand_formed.proofs.Fit.{Context}
use Rattle.ss_expand_formed.proofs.ExpressionsScopes.{refusing, expr_context, no_fault, three_left, four_left}
use Rattle.ss_expand_formed.proofs.ExpressionsPlaces.{has_answer, have_answer, At, scope_at, env_at, static_at}
use Rattle.ss_expand_formed.proofs.Receivers.{receiver_of, value_faults, class_unknown}
use Rattle.ss_expand_formed.proofs.MemberReads.{not_unless}

-- a field of the name, where what is read is no method
field_there : {X Y : Type 0} (f : Option X) (m : Option Y) → (is_none f && is_some m) ≡ false → (is_some f || is_some m) ≡ true → (x : X) × (f ≡ Some x)
field_there (Some x) m h g = (x, refl)
field_there None (Some y) h g = absurd (false≢true (sym h))
field_there None None h g = absurd (false≢true g)

-- what is asked is a word
word_asked : (c : Callee) → is_question c ≡ true → (n : ℕ) × (c ≡ AWord n)
word_asked (AWord n) h = (n, refl)
word_asked (AMethod m) h = absurd (false≢true h)
word_asked (APrint d) h = absurd (false≢true h)
word_asked ABase h = absurd (false≢true h)
word_asked NoCallee h = absurd (false≢true h)

never_kind : (b : Bool) (m : Option (Declared MethodTree)) → is_question (kind_callee b m) ≡ false
never_kind b None = refl
never_kind b (Some m) = by (is_of_kind b m.member)
  where
    by : (d : Bool) → is_question (if d then AMethod m else NoCallee) ≡ false
    by true = refl
    by false = refl

never_method : (b : Bool) (m : Option (Declared MethodTree)) → is_question (method_callee b m) ≡ false
never_method b None = refl
never_method b (Some m) = by (b && not (statics_static m))
  where
    statics_static : Declared MethodTree → Bool
    statics_static d = is_static d.member

    by : (d : Bool) → is_question (if d then NoCallee else AMethod m) ≡ false
    by true = refl
    by false = refl

never_if : (b : Bool) (c : Callee) → is_question c ≡ false → is_question (if b then NoCallee else c) ≡ false
never_if true c h = refl
never_if false c h = h

never_print : (b d : Bool) → is_question (if b then APrint d else NoCallee) ≡ false
never_print true d = refl
never_print false d = refl

never_at : (cs : List ClassTree) (n : List ℕ) (k : Option ℕ) → is_question (method_at cs n k) ≡ false
never_at cs n None = refl
never_at cs n (Some k) = never_kind false (method_of cs k n)

-- a name has no `result`
name_answers : (y : text.ExprTree) → is_name y ≡ true → has_answer false y ≡ true
name_answers (NameOf q n) h = refl
name_answers y h = absurd (false≢true h)

owner_answers : (s : Scope) (y : text.ExprTree) (t : Option Ty) → receiver s y t ≡ TheOwner → has_answer false y ≡ true
owner_answers s (NameOf q n) t h = refl
owner_answers s y t h = absurd (let z : ⊥ = cc in z)

module _ (w : Allowed) where
  -- ---- what a read keeps of what stands before the dot

  kept_behind : (b : Bool) (q : Place) (k : WordTree) (o : ExprTree) → unless b q ++ misplaced w o ≡ [] → misplaced w o ≡ []
  kept_behind b q k o h = (none_left (unless b q) (misplaced w o) h).1

  module _ (p : ProgramTree) (a : At) where
    after_field : (q : Place) (o : ExprTree) (n : List ℕ) (k : Option ℕ) → ((j : ℕ) → k ≡ Some j → (f : Declared FieldTree) × (field_of p.classes j n ≡ Some f)) → misplaced w (field_after (env_at p a) q o n k) ≡ [] → misplaced w o ≡ []
    after_field q o n None there h = h
    after_field q o n (Some j) there h = let f = there j refl in subst (λ (d : Option (Declared FieldTree)). misplaced w (read_field (env_at p a) q o d) ≡ []) f.1 h

    field_named : (n : List ℕ) (t : Option Ty) (j : ℕ) → declared_place (class_in t) ≡ Some j → is_array_number (class_in t) ≡ false → has_member p.classes n (option_and_then class_of t) ≡ true → reads_method p.classes n (option_and_then class_of t) ≡ false →
        (f : Declared FieldTree) × (field_of p.classes j n ≡ Some f)
    field_named n None j e array member method = absurd (let z : ⊥ = cc in z)
    field_named n (Some ty.Int) j e array member method = absurd (let z : ⊥ = cc in z)
    field_named n (Some ty.Bool) j e array member method = absurd (let z : ⊥ = cc in z)
    field_named n (Some ty.Null) j e array member method = absurd (let z : ⊥ = cc in z)
    field_named n (Some (ty.Ref c m)) j e array member method =
        let declares : (is_some (field_of p.classes j n) || is_some (method_of p.classes j n)) ≡ true = ap (λ o. declared_by n o) (sym e) ∙ rw array at member in
        let read : (is_none (field_of p.classes j n) && is_some (method_of p.classes j n)) ≡ false = ap (λ o. is_method_name p.classes n o) (sym e) ∙ method in
        field_there (field_of p.classes j n) (method_of p.classes j n) read declares
      where
        declared_by : List ℕ → Option ℕ → Bool
        declared_by x None = false
        declared_by x (Some k) = is_some (field_of p.classes k x) || is_some (method_of p.classes k x)

    member_keeps : (q : Place) (o : ExprTree) (n : List ℕ) (t : Option Ty) → (is_state_read n ≡ false → has_member p.classes n (option_and_then class_of t) ≡ true) → (is_state_read n ≡ false → reads_method p.classes n (option_and_then class_of t) ≡ false) → misplaced w (member (env_at p a) q o n (class_in t)) ≡ [] → misplaced w o ≡ []
    member_keeps q o n t has none h =
        ⊎_elim
        (λ yes. kept_behind (allows_state w (state_word n)) q (state_word n) o (rw yes at h))
        (λ other.
        let g : misplaced w (if is_array_number (class_in t) then LengthOf q o else field_after (env_at p a) q o n (declared_place (class_in t))) ≡ [] = rw other at h in
        ⊎_elim
        (λ array. rw array at g)
        (λ object. after_field q o n (declared_place (class_in t)) (λ j e. field_named n t j e object (has other) (none other)) (rw object at g))
        (cases_Bool (is_array_number (class_in t))))
        (cases_Bool (is_state_read n))

-- ---- expressions

three_false : (a b c : Bool) → (a || b || c) ≡ false → (a ≡ false) × (b ≡ false) × (c ≡ false)
three_false a b c h = let one = or_false (a || b) c h in let two = or_false a b one.0 in (two.0, two.1, one.1)

module _ (p : ProgramTree) (x : Context) (static lacks : Bool) (w : Allowed) (without : allows_result w ≡ false) where
  abbrev A : At → ExprContext
  A a = expr_context static true lacks (scope_at p a)

  abbrev U : At → Scope
  U a = refusing static false (scope_at p a)

  abbrev T : At → Scope
  T a = refusing static static (scope_at p a)

  abbrev Answers : At → text.ExprTree → Type 0
  Answers a y = expr_faults (U a) y ≡ [] → faults (A a) AsValue y ≡ [] → misplaced w (expr (env_at p a) y) ≡ [] → has_answer false y ≡ true

  -- each argument
  abbrev AllAnswer : At → Arguments → Type 0
  AllAnswer a NoMore = Unit {0}
  AllAnswer a (Argument y es) = Answers a y × AllAnswer a es

  at_T : (a : At) (y : text.ExprTree) → faults (A a) BeforeDot y ≡ [] → receiver (T a) y (statics.static (T a) y) ≡ receiver (scope_at p a) y (statics.static (scope_at p a) y)
  at_T a y h = receiver_of static true lacks (scope_at p a) refl static static (λ e. (e, e)) y h

  at_U : (a : At) (y : text.ExprTree) → faults (A a) BeforeDot y ≡ [] → receiver (U a) y (statics.static (U a) y) ≡ receiver (scope_at p a) y (statics.static (scope_at p a) y)
  at_U a y h = receiver_of static true lacks (scope_at p a) refl static false (λ e. (e, refl)) y h

  -- ---- members

  value_answers : (a : At) (q : Place) (y : text.ExprTree) (n : NameTree) → Answers a y → expr_faults (U a) y ≡ [] → faults (A a) AsValue y ≡ [] → is_no_read p.classes (known (T a) y) n.text ≡ false →
      (is_state_word n.text || has_member p.classes n.text (option_and_then class_of (statics.static (scope_at p a) y))) ≡ true → misplaced w (expr (env_at p a) (MemberOf q y n)) ≡ [] → has_answer false y ≡ true
  value_answers a q y n ih names types read member words =
      let same : statics.static (T a) y ≡ statics.static (scope_at p a) y = static_at p x static lacks false true a y types in
      let t = statics.static (scope_at p a) y in
      ih names types
      (member_keeps w p a q (expr (env_at p a) y) n.text t
      (λ other. has (is_state_read n.text) (is_state_call n.text) _ _ other read member)
      (λ other. ap (λ o. reads_method p.classes n.text (option_and_then class_of o)) (sym same) ∙ unread (is_state_read n.text) (is_state_call n.text) _ _ other read)
      words)
    where
      unread : (b d e f : Bool) → b ≡ false → (if b then false else d || e || f) ≡ false → f ≡ false
      unread true d e f h g = absurd (false≢true (sym h))
      unread false d e f h g = (three_false d e f g).2

      has : (b d e f : Bool) → b ≡ false → (if b then false else d || e || f) ≡ false → (b || d || has_member p.classes n.text (option_and_then class_of (statics.static (scope_at p a) y))) ≡ true → has_member p.classes n.text (option_and_then class_of (statics.static (scope_at p a) y)) ≡ true
      has true d e f h g m = absurd (false≢true (sym h))
      has false d e f h g m = let none = (three_false d e f g).0 in rw none at m

  member_answers : (a : At) (q : Place) (y : text.ExprTree) (n : NameTree) → Answers a y → Answers a (MemberOf q y n)
  member_answers a q y n ih names types words =
      let three = three_left (faults (A a) BeforeDot y) _ _ types in
      let both = none_left (before_dot (receiver (U a) y (statics.static (U a) y)) (expr_faults (U a) y)) (read_faults (U a) n (receiver (U a) y (statics.static (U a) y))) names in
      let rt = at_T a y three.0 in
      let ru = at_U a y three.0 in
      by (receiver (scope_at p a) y (statics.static (scope_at p a) y)) refl three.0
      (no_fault _ _ (subst (λ r. used_member p.classes AsValue q (known (T a) y) n.text r ≡ []) rt three.2))
      (subst (λ r. before_dot r (expr_faults (U a) y) ≡ []) ru both.0)
      (subst (λ r. read_faults (U a) n r ≡ []) ru both.1)
    where
      by : (r : Receiver) → receiver (scope_at p a) y (statics.static (scope_at p a) y) ≡ r → faults (A a) BeforeDot y ≡ [] → is_wrong_read p.classes (known (T a) y) n.text r ≡ false → before_dot r (expr_faults (U a) y) ≡ [] → read_faults (U a) n r ≡ [] → has_answer false y ≡ true
      by TheConsole e f k m z = absurd (false≢true (sym k))
      by TheOwner e f k m z = absurd (false≢true (sym k))
      by TheBase e f k m z = absurd (false≢true (sym k))
      by (AClass j) e f k m z = absurd (class_unknown (U a) y j (at_U a y f ∙ e) m)
      by (AValue t) e f k m z =
          let v = value_faults static true lacks (scope_at p a) y t e f in
          value_answers a q y n ih m v.0 k (subst (λ o. (is_state_word n.text || has_member p.classes n.text (option_and_then class_of o)) ≡ true) v.1 (not_unless _ n.place z)) words

  -- ---- questions

  -- one argument that is a class's name
  class_answers : (a : At) (es : Arguments) → (count es == 1) ≡ true → argument_faults (A a) (ClassName ∷ []) es ≡ [] → have_answer false es ≡ true
  class_answers a NoMore size types = absurd (false≢true size)
  class_answers a (Argument z NoMore) size types = and_from _ _ (name_answers z (not_false (is_name z) (no_fault _ _ (none_left (argument (A a) ClassName z (faults (A a) AsValue z)) [] types).0))) refl
  class_answers a (Argument z (Argument u es)) size types = let e = eqb-true (count es + 1 + 1) 1 size in absurd (omega arith)

  level_asked : (a : At) (es : Arguments) (b c : Bool) → is_wrong_call (count es) (if not b && c then Taking (ClassName ∷ []) else Refused) ≡ false → argument_faults (A a) (argument_wants (count es) (if not b && c then Taking (ClassName ∷ []) else Refused)) es ≡ [] → have_answer false es ≡ true
  level_asked a es true c g h = absurd (false≢true (sym g))
  level_asked a es false false g h = absurd (false≢true (sym g))
  level_asked a es false true g h = class_answers a es (not_false (count es == 1) g) (rw g at h)

  levels_asked : (a : At) (es : Arguments) (v : text.ExprTree) (b d : Bool) (other : Called) → d ≡ true → is_wrong_call (count es) (if b then Refused else if d then asks_level (known (T a) v) else other) ≡ false →
      argument_faults (A a) (argument_wants (count es) (if b then Refused else if d then asks_level (known (T a) v) else other)) es ≡ [] → have_answer false es ≡ true
  levels_asked a es v true d other e g h = absurd (false≢true (sym g))
  levels_asked a es v false true other e g h = level_asked a es (known (T a) v).is_nothing (may_have_levels (known (T a) v).ty) g h
  levels_asked a es v false false other e g h = absurd (false≢true e)

  -- an argument that is a reference
  one_answers : (a : At) (z : text.ExprTree) → Answers a z → expr_faults (U a) z ≡ [] → faults (A a) AsValue z ++ wrong (T a) AReference z ≡ [] → misplaced w (expr (env_at p a) z) ≡ [] → has_answer false z ≡ true
  one_answers a z ih names types words = ih names (none_left (faults (A a) AsValue z) (wrong (T a) AReference z) types).0 words

  owned_words : (a : At) (q : Place) (n : List ℕ) (es : Arguments) (y z : ExprTree) (more : typed.Arguments) → misplaced w (owner_question (env_at p a) q n es (typed.Argument y (typed.Argument z more))) ≡ [] → (misplaced w y ≡ []) × (misplaced w z ≡ [])
  owned_words a q n es y z more h = by (bytes_eq n (codes "Same")) h
    where
      by : (b : Bool) → misplaced w (if b then OwnersOf q SameOwner y z else OwnersOf q (OwnedAt (third_class (env_at p a) es)) y z) ≡ [] → (misplaced w y ≡ []) × (misplaced w z ≡ [])
      by true g = let one = none_left (unless (allows_question w) q ++ misplaced w y) (misplaced w z) g in ((none_left (unless (allows_question w) q) (misplaced w y) one.0).1, one.1)
      by false g = let one = none_left (unless (allows_question w) q ++ misplaced w y) (misplaced w z) g in ((none_left (unless (allows_question w) q) (misplaced w y) one.0).1, one.1)

  -- the questions about owners
  none_owner : (a : At) (q : Place) (n : List ℕ) (es : Arguments) → AllAnswer a es → count es ≡ 1 → arguments_faults (U a) None es ≡ [] → argument_faults (A a) (AReference ∷ []) es ≡ [] → misplaced w (owner_question (env_at p a) q n es (args (env_at p a) es)) ≡ [] → have_answer false es ≡ true
  none_owner a q n NoMore ih size names types words = absurd (omega arith)
  none_owner a q n (Argument z NoMore) ih size names types words =
      and_from _ _ (one_answers a z ih.0 (none_left (expr_faults (U a) z) [] names).0 (none_left (faults (A a) AsValue z ++ wrong (T a) AReference z) [] types).0 (none_left (unless (allows_state w Unowned) q) (misplaced w (expr (env_at p a) z)) words).1) refl
  none_owner a q n (Argument z (Argument u es)) ih size names types words = absurd (omega arith)

  same_owner : (a : At) (q : Place) (n : List ℕ) (es : Arguments) → AllAnswer a es → count es ≡ 2 → arguments_faults (U a) None es ≡ [] → argument_faults (A a) (AReference ∷ AReference ∷ []) es ≡ [] → misplaced w (owner_question (env_at p a) q n es (args (env_at p a) es)) ≡ [] → have_answer false es ≡ true
  same_owner a q n NoMore ih size names types words = absurd (omega arith)
  same_owner a q n (Argument z NoMore) ih size names types words = absurd (omega arith)
  same_owner a q n (Argument z (Argument u NoMore)) ih size names types words =
      let k = owned_words a q n (Argument z (Argument u NoMore)) (expr (env_at p a) z) (expr (env_at p a) u) typed.NoMore words in
      let m = none_left (expr_faults (U a) z) _ names in
      let t = none_left (faults (A a) AsValue z ++ wrong (T a) AReference z) _ types in
      and_from _ _ (one_answers a z ih.0 m.0 t.0 k.0) (and_from _ _ (one_answers a u ih.1.0 (none_left (expr_faults (U a) u) [] m.1).0 (none_left (faults (A a) AsValue u ++ wrong (T a) AReference u) [] t.1).0 k.1) refl)
  same_owner a q n (Argument z (Argument u (Argument v es))) ih size names types words = absurd (omega arith)

  is_owner : (a : At) (q : Place) (n : List ℕ) (es : Arguments) → AllAnswer a es → count es ≡ 3 → arguments_faults (U a) (Some 2) es ≡ [] → argument_faults (A a) (AReference ∷ AReference ∷ ClassName ∷ []) es ≡ [] → misplaced w (owner_question (env_at p a) q n es (args (env_at p a) es)) ≡ [] → have_answer false es ≡ true
  is_owner a q n NoMore ih size names types words = absurd (omega arith)
  is_owner a q n (Argument z NoMore) ih size names types words = absurd (omega arith)
  is_owner a q n (Argument z (Argument u NoMore)) ih size names types words = absurd (omega arith)
  is_owner a q n (Argument z (Argument u (Argument v NoMore))) ih size names types words =
      let k = owned_words a q n (Argument z (Argument u (Argument v NoMore))) (expr (env_at p a) z) (expr (env_at p a) u) (typed.Argument (expr (env_at p a) v) typed.NoMore) words in
      let m = none_left (expr_faults (U a) z) _ names in
      let t = none_left (faults (A a) AsValue z ++ wrong (T a) AReference z) _ types in
      let r = none_left (faults (A a) AsValue u ++ wrong (T a) AReference u) _ t.1 in
      and_from _ _ (one_answers a z ih.0 m.0 t.0 k.0) (and_from _ _ (one_answers a u ih.1.0 (none_left (expr_faults (U a) u) _ m.1).0 r.0 k.1) (class_answers a (Argument v NoMore) refl r.1))
  is_owner a q n (Argument z (Argument u (Argument v (Argument y es)))) ih size names types words = absurd (omega arith)

  counted : (k m : ℕ) → not (k == m) ≡ false → k ≡ m
  counted k m h = eqb-true k m (not_false (k == m) h)

  owner_asked : (a : At) (q : Place) (n : List ℕ) (es : Arguments) → AllAnswer a es → is_owner_word n ≡ true → arguments_faults (U a) (asked_class n TheOwner) es ≡ [] → is_wrong_call (count es) (called_owner n) ≡ false →
      argument_faults (A a) (argument_wants (count es) (called_owner n)) es ≡ [] → misplaced w (owner_question (env_at p a) q n es (args (env_at p a) es)) ≡ [] → have_answer false es ≡ true
  owner_asked a q n es ih word names wrong_call types words =
      by (bytes_eq n (codes "None")) (bytes_eq n (codes "Same")) (bytes_eq n (codes "Is")) refl refl word names wrong_call types
    where
      apart : bytes_eq n (codes "Is") ≡ true → bytes_eq n (codes "None") ≡ true → ⊥
      apart h g = let e : codes "Is" ≡ codes "None" = sym ((bytes_eq-Decides n (codes "Is")).0 h) ∙ (bytes_eq-Decides n (codes "None")).0 g in cc

      apart_same : bytes_eq n (codes "Is") ≡ true → bytes_eq n (codes "Same") ≡ true → ⊥
      apart_same h g = let e : codes "Is" ≡ codes "Same" = sym ((bytes_eq-Decides n (codes "Is")).0 h) ∙ (bytes_eq-Decides n (codes "Same")).0 g in cc

      by : (b d f : Bool) → bytes_eq n (codes "None") ≡ b → bytes_eq n (codes "Same") ≡ d → (b || d || f) ≡ true → arguments_faults (U a) (if bytes_eq n (codes "Is") then Some 2 else None) es ≡ [] →
          is_wrong_call (count es) (if b then Taking (AReference ∷ []) else if d then Taking (AReference ∷ AReference ∷ []) else if bytes_eq n (codes "Is") then Taking (AReference ∷ AReference ∷ ClassName ∷ []) else Unknown) ≡ false →
          argument_faults (A a) (argument_wants (count es) (if b then Taking (AReference ∷ []) else if d then Taking (AReference ∷ AReference ∷ []) else if bytes_eq n (codes "Is") then Taking (AReference ∷ AReference ∷ ClassName ∷ []) else Unknown)) es ≡ [] → have_answer false es ≡ true
      by true d f eb ed h names wrong_call types =
          let no_is : bytes_eq n (codes "Is") ≡ false = ⊎_elim (λ yes. absurd (apart yes eb)) (λ no. no) (cases_Bool (bytes_eq n (codes "Is"))) in
          none_owner a q n es ih (counted (count es) 1 wrong_call) (rw no_is at names) (rw wrong_call at types) words
      by false true f eb ed h names wrong_call types =
          let no_is : bytes_eq n (codes "Is") ≡ false = ⊎_elim (λ yes. absurd (apart_same yes ed)) (λ no. no) (cases_Bool (bytes_eq n (codes "Is"))) in
          same_owner a q n es ih (counted (count es) 2 wrong_call) (rw no_is at names) (rw wrong_call at types) words
      by false false f eb ed h names wrong_call types = last (bytes_eq n (codes "Is")) refl names wrong_call types
        where
          neither : bytes_eq n (codes "None") ≡ false → bytes_eq n (codes "Same") ≡ false → bytes_eq n (codes "Is") ≡ false → (bytes_eq n (codes "None") || bytes_eq n (codes "Same") || bytes_eq n (codes "Is")) ≡ true → ⊥
          neither e1 e2 e3 g = false≢true (rw (e1, e2, e3) at g)

          last : (g : Bool) → bytes_eq n (codes "Is") ≡ g → arguments_faults (U a) (if g then Some 2 else None) es ≡ [] → is_wrong_call (count es) (if g then Taking (AReference ∷ AReference ∷ ClassName ∷ []) else Unknown) ≡ false →
              argument_faults (A a) (argument_wants (count es) (if g then Taking (AReference ∷ AReference ∷ ClassName ∷ []) else Unknown)) es ≡ [] → have_answer false es ≡ true
          last true e names wrong_call types = is_owner a q n es ih (counted (count es) 3 wrong_call) names (rw wrong_call at types) words
          last false e names wrong_call types = absurd (neither eb ed e word)

  never_level : (o : Option Ty) (b d : Bool) (k : Callee) → is_question (if b then level_callee o else if d then NoCallee else k) ≡ true → is_question k ≡ false → b ≡ true
  never_level o true d k h g = refl
  never_level o false true k h g = absurd (false≢true h)
  never_level o false false k h g = absurd (false≢true (sym g ∙ h))

  question_answers : (a : At) (q m : Place) (y : text.ExprTree) (n : NameTree) (es : Arguments) → Answers a y → AllAnswer a es → expr_faults (U a) (CallOf q (MemberOf m y n) es) ≡ [] → faults (A a) AsValue (CallOf q (MemberOf m y n) es) ≡ [] →
      misplaced w (expr (env_at p a) (CallOf q (MemberOf m y n) es)) ≡ [] → is_question (callee (T a) (MemberOf m y n)) ≡ true → has_answer false (CallOf q (MemberOf m y n) es) ≡ true
  question_answers a q m y n es ih rest names types words asks =
      let four = four_left (faults (A a) AsCallee (MemberOf m y n)) _ _ _ types in
      let three = three_left (faults (A a) BeforeDot y) _ _ four.0 in
      let rt = at_T a y three.0 in
      let ru = at_U a y three.0 in
      let both = none_left (callee_faults (U a) (MemberOf m y n) (expr_faults (U a) (MemberOf m y n))) (arguments_faults (U a) (class_argument (U a) (MemberOf m y n)) es) names in
      by (receiver (scope_at p a) y (statics.static (scope_at p a) y)) refl three.0
      (subst (λ r. is_question (member_callee (T a) n.text r) ≡ true) rt asks)
      (no_fault _ _ (subst (λ r. whole_call q (count es) (called_member (A a) (count es) (known (T a) y) n.text r) ≡ []) rt four.2))
      (subst (λ r. argument_faults (A a) (argument_wants (count es) (called_member (A a) (count es) (known (T a) y) n.text r)) es ≡ []) rt four.3)
      (subst (λ r. called_faults (U a) n r (before_dot r (expr_faults (U a) y) ++ read_faults (U a) n r) ≡ []) ru both.0)
      (subst (λ r. arguments_faults (U a) (asked_class n.text r) es ≡ []) ru both.1)
      words
    where
      by : (r : Receiver) → receiver (scope_at p a) y (statics.static (scope_at p a) y) ≡ r → faults (A a) BeforeDot y ≡ [] → is_question (member_callee (T a) n.text r) ≡ true →
          is_wrong_call (count es) (called_member (A a) (count es) (known (T a) y) n.text r) ≡ false → argument_faults (A a) (argument_wants (count es) (called_member (A a) (count es) (known (T a) y) n.text r)) es ≡ [] →
          called_faults (U a) n r (before_dot r (expr_faults (U a) y) ++ read_faults (U a) n r) ≡ [] → arguments_faults (U a) (asked_class n.text r) es ≡ [] →
          misplaced w (expr (env_at p a) (CallOf q (MemberOf m y n) es)) ≡ [] → (has_answer false y && have_answer false es) ≡ true
      by TheConsole e f ask wrong_call types called names k = absurd (false≢true (sym (never_print (is_print n.text) _) ∙ ask))
      by TheBase e f ask wrong_call types called names k = absurd (false≢true (sym (never_if (static || is_state_word n.text) _ (never_kind false (inherited_method p.classes a.class n.text))) ∙ ask))
      by (AClass j) e f ask wrong_call types called names k = absurd (false≢true (sym (never_if (is_state_word n.text) _ (never_kind true (method_of p.classes j n.text))) ∙ ask))
      by TheOwner e f ask wrong_call types called names k =
          let word = not_unless (is_owner_word n.text) n.place called in
          let callee_is : member_callee (scope_at p a) n.text TheOwner ≡ AWord (statics.owner_count n.text) = rw word refl in
          let tree : expr (env_at p a) (CallOf q (MemberOf m y n) es) ≡ owner_question (env_at p a) q n.text es (args (env_at p a) es) =
          ap (λ r. called_after (env_at p a) q r (expr (env_at p a) y) n.text es (args (env_at p a) es) (member_callee (scope_at p a) n.text r)) e
          ∙ ap (called_after (env_at p a) q TheOwner (expr (env_at p a) y) n.text es (args (env_at p a) es)) callee_is in
          and_from _ _ (owner_answers (scope_at p a) y (statics.static (scope_at p a) y) e) (owner_asked a q n.text es rest word names wrong_call types (subst (λ z. misplaced w z ≡ []) tree k))
      by (AValue t) e f ask wrong_call types called names k =
          let v = value_faults static true lacks (scope_at p a) y t e f in
          let left = none_left (expr_faults (U a) y) (read_faults (U a) n (AValue t)) called in
          let level = never_level t (is_state_call n.text) (is_state_read n.text) (method_at p.classes n.text (option_and_then declared_place (option_and_then class_of t))) ask (never_at p.classes n.text (option_and_then declared_place (option_and_then class_of t))) in
          let c = word_asked (member_callee (scope_at p a) n.text (AValue t)) ask in
          let tree : expr (env_at p a) (CallOf q (MemberOf m y n) es) ≡ called_after (env_at p a) q (AValue t) (expr (env_at p a) y) n.text es (args (env_at p a) es) (AWord c.0) =
          ap (λ r. called_after (env_at p a) q r (expr (env_at p a) y) n.text es (args (env_at p a) es) (member_callee (scope_at p a) n.text r)) e
          ∙ ap (called_after (env_at p a) q (AValue t) (expr (env_at p a) y) n.text es (args (env_at p a) es)) c.1 in
          and_from _ _ (ih left.0 v.0 (none_left _ (misplaced w (expr (env_at p a) y)) (subst (λ z. misplaced w z ≡ []) tree k)).1)
          (levels_asked a es y (is_state_read n.text) (is_state_call n.text) _ level wrong_call types)

  asks_true : (a : At) (q : Place) (f : text.ExprTree) → condition_faults (A a) q (not (is_question (callee (T a) f))) ≡ [] → is_question (callee (T a) f) ≡ true
  asks_true a q f h = not_false _ (no_fault _ _ h)

  asked_of : (a : At) (q : Place) (f : text.ExprTree) (es : Arguments) → faults (A a) AsValue (CallOf q f es) ≡ [] → is_question (callee (T a) f) ≡ true
  asked_of a q f es types =
      let wants = argument_wants (count es) (called (A a) (count es) f) in
      asks_true a q f (four_left (faults (A a) AsCallee f) (condition_faults (A a) q (not (is_question (callee (T a) f)))) (whole_call q (count es) (called (A a) (count es) f)) (argument_faults (A a) wants es) types).1

  call_answers : (a : At) (q : Place) (f : text.ExprTree) (es : Arguments) → ((m : Place) (y : text.ExprTree) (n : NameTree) → f ≡ MemberOf m y n → Answers a y) → AllAnswer a es → Answers a (CallOf q f es)
  call_answers a q (MemberOf m y n) es ih rest names types words = question_answers a q m y n es (ih m y n refl) rest names types words (asked_of a q (MemberOf m y n) es types)
  call_answers a q (NameOf m n) es ih rest names types words =
      let hides = is_some (local_named (scope_at p a) n) || is_some (field_of p.classes a.class n) in
      absurd (false≢true (sym (never_if hides (method_callee static (method_of p.classes a.class n)) (never_method static (method_of p.classes a.class n))) ∙ asked_of a q (NameOf m n) es types))
  call_answers a q f es ih rest names types words = absurd (false≢true (asked_of a q f es types))

  abbrev inside : At → NameTree → At
  inside a n = record { class = a.class; outcome = a.outcome; names = (n.text, record { ty = Some ty.Int; is_param = false }) ∷ []; more_names = a.names ∷ a.more_names; numbers = (n.text, BoundName a.bound) ∷ []; more_numbers = a.numbers ∷ a.more_numbers; next = a.next; bound = a.bound + 1 }

  mutual
    pub answers : (a : At) (y : text.ExprTree) → Answers a y
    answers a (ResultOf q) names types words = absurd (let g = rw without at words in let z : ⊥ = cc in z)
    answers a (ParenOf q y) names types words = answers a y names types words
    answers a (OldOf q y) names types words = answers a y names (none_left (faults (A a) AsValue y) _ types).0 (none_left (unless (allows_old w) q) (misplaced w (expr (env_at p a) y)) words).1
    answers a (NegateOf q y) names types words = answers a y names (none_left (faults (A a) AsValue y) _ types).0 words
    answers a (NotOf q y) names types words = answers a y names (none_left (faults (A a) AsValue y) _ types).0 words
    answers a (IsOf q y t) names types words = answers a y (none_left (expr_faults (U a) y) _ names).0 (none_left (faults (A a) AsValue y) _ (none_left (faults (A a) AsValue y ++ wrong (T a) AReference y) (no_class t) types).0).0 words
    answers a (AsOf q y t) names types words = answers a y (none_left (expr_faults (U a) y) _ names).0 (none_left (faults (A a) AsValue y) _ (none_left (faults (A a) AsValue y ++ wrong (T a) AReference y) (no_class t) types).0).0 words
    answers a (CastOf q t y) names types words = answers a y (none_left (type_faults p.classes t) (expr_faults (U a) y) names).1 (none_left (faults (A a) AsValue y) _ (none_left (no_class t) (faults (A a) AsValue y ++ wrong (T a) AReference y) types).1).0 words
    answers a (IffOf q y z) names types words =
        let n = none_left (expr_faults (U a) y) (expr_faults (U a) z) names in
        let t = none_left (faults (A a) AsValue y ++ wrong (T a) ABool y) (faults (A a) AsValue z ++ wrong (T a) ABool z) types in
        let k = none_left (misplaced w (expr (env_at p a) y)) (misplaced w (expr (env_at p a) z)) words in
        and_from _ _ (answers a y n.0 (none_left (faults (A a) AsValue y) _ t.0).0 k.0) (answers a z n.1 (none_left (faults (A a) AsValue z) _ t.1).0 k.1)
    answers a (ImpliesOf q y z) names types words =
        let n = none_left (expr_faults (U a) y) (expr_faults (U a) z) names in
        let t = none_left (faults (A a) AsValue y ++ wrong (T a) ABool y) (faults (A a) AsValue z ++ wrong (T a) ABool z) types in
        let k = none_left (misplaced w (expr (env_at p a) y)) (misplaced w (expr (env_at p a) z)) words in
        and_from _ _ (answers a y n.0 (none_left (faults (A a) AsValue y) _ t.0).0 k.0) (answers a z n.1 (none_left (faults (A a) AsValue z) _ t.1).0 k.1)
    answers a (BinaryOf q o y z) names types words =
        let n = none_left (expr_faults (U a) y) (expr_faults (U a) z) names in
        let t = three_left (faults (A a) AsValue y) (faults (A a) AsValue z) _ types in
        let k = none_left (misplaced w (expr (env_at p a) y)) (misplaced w (expr (env_at p a) z)) words in
        and_from _ _ (answers a y n.0 t.0 k.0) (answers a z n.1 t.1 k.1)
    answers a (ElementOf q y z) names types words =
        let n = none_left (expr_faults (U a) y) (expr_faults (U a) z) names in
        let t = none_left (faults (A a) AsValue y ++ wrong (T a) AnArray y) (faults (A a) AsValue z ++ wrong (T a) AnInt z) types in
        let k = none_left (misplaced w (expr (env_at p a) y)) (misplaced w (expr (env_at p a) z)) words in
        and_from _ _ (answers a y n.0 (none_left (faults (A a) AsValue y) _ t.0).0 k.0) (answers a z n.1 (none_left (faults (A a) AsValue z) _ t.1).0 k.1)
    answers a (MemberOf q y n) names types words = member_answers a q y n (answers a y) names types words
    answers a (CallOf q f es) names types words = call_answers a q f es (callee_answers a f) (all_answer a es) names types words
    answers a (NewOf q n es) names types words = absurd (let z : ⊥ = cc in z)
    answers a (NewArrayOf q r t y) names types words = absurd (let z : ⊥ = cc in z)
    answers a (QuantifiedOf q r n low high y) names types words =
        let m = three_left (expr_faults (U a) low) (expr_faults (U a) high) (expr_faults (U (inside a n)) y) names in
        let t = three_left (faults (A a) AsValue low ++ wrong (T a) AnInt low) (faults (A a) AsValue high ++ wrong (T a) AnInt high) _ types in
        let k = none_left (misplaced w (expr (env_at p a) low) ++ misplaced w (expr (env_at p a) high)) (misplaced w (expr (env_at p (inside a n)) y)) words in
        let k2 = none_left (misplaced w (expr (env_at p a) low)) (misplaced w (expr (env_at p a) high)) k.0 in
        and_from _ _ (and_from _ _ (answers a low m.0 (none_left (faults (A a) AsValue low) _ t.0).0 k2.0) (answers a high m.1 (none_left (faults (A a) AsValue high) _ t.1).0 k2.1))
        (answers (inside a n) y m.2 (none_left (faults (A (inside a n)) AsValue y) _ t.2).0 k.1)
    answers a y names types words = refl

    callee_answers : (a : At) (f : text.ExprTree) (m : Place) (y : text.ExprTree) (n : NameTree) → f ≡ MemberOf m y n → Answers a y
    callee_answers a (MemberOf k z l) m y n e = let same : z ≡ y = cc in subst (Answers a) same (answers a z)
    callee_answers a f m y n e = absurd (let z : ⊥ = cc in z)

    all_answer : (a : At) (es : Arguments) → AllAnswer a es
    all_answer a NoMore = tt
    all_answer a (Argument y es) = (answers a y, all_answer a es)
