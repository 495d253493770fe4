-- What a call after a dot in code without faults means.
use Rattle.std.proofs.Common.{◌≡◌, ℕ, ◌+◌, ◌*◌, ◌<◌, List, [], ◌∷◌, length, Bool, true, false, Option, Some, None, refl, sym, ◌∙◌, ap, subst, arith}
use Rattle.std.specs.Prelude.{◌&&◌, ◌||◌, ◌==◌, not, is_some, codes, if◌then◌else◌}
use Rattle.std.specs.Str.{bytes_eq}
use Rattle.std.proofs.lemmas.Bool.{or_left, ltb-true, false≢true, true≢false}
use Rattle.ss_core.specs.declared.names.Place.{Place}
use Rattle.ss_core.specs.declared.names.Ty.{Ty}
use Rattle.ss_core.specs.declared.names.Ty.TheVariants as ty
use Rattle.ss_ast.specs.Expressions.{NameTree, Arguments, NoMore, Argument, CallOf, MemberOf, NameOf, BaseOf}
use Rattle.ss_ast.specs.Expressions as text
use Rattle.ss_ast.specs.Programs.{ClassTree, ProgramTree}
use Rattle.ss_tables.specs.Members.{FieldTree, MethodTree, is_static}
use Rattle.ss_tables.specs.Classes.{Declared, class_named, field_of, method_of, is_array_number, declared_place}
use Rattle.ss_tables.specs.Types.{class_of}
use Rattle.ss_tables.specs.Words.{is_console, is_owner, is_print, is_state_read, is_state_call, is_state_word, is_length}
use Rattle.ss_tables.specs.Scopes.{Scope, local_named}
use Rattle.ss_tables.specs.Statics.{Receiver, TheConsole, TheOwner, TheBase, AClass, AValue, Callee, AMethod, APrint, AWord, NoCallee, is_member, class_or_value, is_of_kind, member_callee, receiver, count, callee, called_with, call_type, result_type}
use Rattle.ss_tables.specs.Statics as statics
use Rattle.ss_typed.specs.Tree.{NullOf}
use Rattle.ss_resolver_names_rules.specs.Expressions.{declares, has_member, arguments_faults}
use Rattle.ss_resolver_names_rules.specs.Programs.{program_faults}
use Rattle.ss_resolver_types_heads.specs.Wants.{Printable, gives_nothing, has_no_value}
use Rattle.ss_resolver_types_heads.specs.Calls.{ExprContext, Called, Taking, Refused, Unknown, param_wants, called_console, called_on_object, called_on_declared, called_on_class, method_or_field, without_members, argument_wants, is_wrong_call}
use Rattle.ss_resolver_types_heads.specs.Expressions.{argument_faults}
use Rattle.ss_resolver_rules.specs.Expressions.{call_of, method_call, place_or_own, called_after, expr, args}
use Rattle.ss_resolver_rules.specs.Programs.{resolved}
use Rattle.ss_expand_formed.specs.Laws.{core_of}
use Rattle.ss_expand_formed.proofs.Facts.{not_false}
use Rattle.ss_expand_formed.proofs.ChainLaw.{size as size_of}
use Rattle.ss_expand_formed.proofs.Cycles.{named_within}
use Rattle.ss_expand_formed.proofs.Fit.{Context, Fit}
use Rattle.ss_expand_formed.proofs.ExpressionsScopes.{refusing, expr_context}
use Rattle.ss_expand_formed.proofs.Classes.{place_is}
use Rattle.ss_expand_formed.proofs.ExpressionsPlaces.{At, scope_at, env_at, IsKnown, IsPlace, class_of_value, Sound}
use Rattle.ss_expand_formed.proofs.Questions.{Sounds}
use Rattle.ss_expand_formed.proofs.Methods.{method_has}
use Rattle.ss_expand_formed.proofs.CallsSound.{class_there, method_fit, call_is}
use Rattle.ss_expand_formed.proofs.CallCases.{taken}

-- a method that a class has, of the kind that is wanted, is what a call with as many arguments takes
pub record IsMeant (cs : List ClassTree) (kind : Bool) (m : Option (Declared MethodTree)) (c : Called) : Type 0 where
  pub method : Declared MethodTree
  pub is : m ≡ Some method
  pub kind_is : is_of_kind kind method.member ≡ true
  pub takes : c ≡ Taking (param_wants cs method.member.params)

pub meant : (cs : List ClassTree) (kind : Bool) (m : Option (Declared MethodTree)) (f : Option (Declared FieldTree)) (n : ℕ) → is_wrong_call n (method_or_field cs kind m f) ≡ false → (is_some f || is_some m) ≡ true → IsMeant cs kind m (method_or_field cs kind m f)
meant cs kind None None n wrong some = absurd (false≢true some)
meant cs kind None (Some f) n wrong some = absurd (true≢false wrong)
meant cs kind (Some m) f n wrong some = by (is_of_kind kind m.member) refl wrong
  where
    by : (b : Bool) → is_of_kind kind m.member ≡ b → is_wrong_call n (if b then Taking (param_wants cs m.member.params) else Refused) ≡ false → IsMeant cs kind (Some m) (if b then Taking (param_wants cs m.member.params) else Refused)
    by true e g = record { method = m; is = refl; kind_is = e; takes = refl }
    by false e g = absurd (true≢false g)

pub kind_called : (kind : Bool) (o : Option (Declared MethodTree)) (m : Declared MethodTree) → o ≡ Some m → is_of_kind kind m.member ≡ true → statics.kind_callee kind o ≡ AMethod m
kind_called kind o m e h = ap (statics.kind_callee kind) e ∙ (rw h refl)

pub not_static : (m : MethodTree) → is_of_kind false m ≡ true → is_static m ≡ false
not_static m h = by (is_static m) h
  where
    by : (b : Bool) → not b ≡ true → b ≡ false
    by true g = absurd (false≢true g)
    by false g = refl

-- a class that is named before a dot is one of the program
pub named_before : (s : Scope) (y : text.ExprTree) (k : ℕ) → receiver s y (statics.static s y) ≡ AClass k → k < length s.classes
named_before s (NameOf q m) k r = by (is_some (local_named s m)) (is_console m) (is_owner m) (is_member s.classes s.class m) (class_named s.classes m) refl (statics.static s (NameOf q m)) r
  where
    by : (l c o b : Bool) (j : Option ℕ) → class_named s.classes m ≡ j → (v : Option Ty) → (if l then AValue v else if c then TheConsole else if o then TheOwner else if b then AValue v else class_or_value j v) ≡ AClass k → k < length s.classes
    by true c o b j e v h = absurd (let z : ⊥ = cc in z)
    by false true o b j e v h = absurd (let z : ⊥ = cc in z)
    by false false true b j e v h = absurd (let z : ⊥ = cc in z)
    by false false false true j e v h = absurd (let z : ⊥ = cc in z)
    by false false false false None e v h = absurd (let z : ⊥ = cc in z)
    by false false false false (Some i) e v h = let same : i ≡ k = cc in subst (λ z. z < length s.classes) same (named_within s.classes m i e)
named_before s (BaseOf q) k r = absurd (let z : ⊥ = cc in z)
named_before s y k r = absurd (let z : ⊥ = cc in z)

-- what a print takes
pub print_takes : (k : ℕ) (w l : Bool) → (w || l) ≡ true → is_wrong_call k (if w then Taking (Printable ∷ []) else if l then Taking (if k == 0 then [] else Printable ∷ []) else Unknown) ≡ false → (k == 1 || (l && k == 0)) ≡ true
print_takes k true l some wrong = or_left (k == 1) (l && k == 0) (not_false _ wrong)
print_takes k false false some wrong = absurd (false≢true some)
print_takes k false true some wrong = by (k == 0) refl wrong
  where
    by : (b : Bool) → (k == 0) ≡ b → is_wrong_call k (Taking (if b then [] else Printable ∷ [])) ≡ false → (k == 1 || (true && (k == 0))) ≡ true
    by true e g = rw e (either (k == 1))
      where
        either : (c : Bool) → (c || true) ≡ true
        either true = refl
        either false = refl
    by false e g = or_left (k == 1) (true && (k == 0)) (not_false _ g)

module _ (p : ProgramTree) (faultless : program_faults p ≡ []) (x : Context) (is_known : IsKnown p x) (static lacks answer : Bool) (a : At) (here : IsPlace p x static lacks answer a) where
  abbrev A : ExprContext
  A = expr_context static false lacks (scope_at p a)

  abbrev U : Scope
  U = refusing static false (scope_at p a)

  abbrev T : Scope
  T = refusing static static (scope_at p a)

  abbrev Is : text.ExprTree → Type 0
  Is y = Sound p x static lacks answer false a y

  -- ---- `Console`

  pub console_sound : (q m : Place) (y : text.ExprTree) (n : NameTree) (es : Arguments) → receiver (scope_at p a) y (statics.static (scope_at p a) y) ≡ TheConsole → receiver T y (statics.static T y) ≡ TheConsole → is_print n.text ≡ true → is_wrong_call (count es) (called_console (count es) n.text) ≡ false →
      Is (CallOf q (MemberOf m y n) es)
  console_sound q m y n es r rt print wrong =
      let line = bytes_eq n.text (codes "WriteLine") in
      let callee_is : member_callee (scope_at p a) n.text TheConsole ≡ APrint line = rw print refl in
      let here_is : callee (scope_at p a) (MemberOf m y n) ≡ APrint line = ap (member_callee (scope_at p a) n.text) r ∙ callee_is in
      let there_is : callee T (MemberOf m y n) ≡ APrint line = ap (member_callee T n.text) rt ∙ callee_is in
      let takes = print_takes (count es) (bytes_eq n.text (codes "Write")) line print wrong in
      let static_is : statics.static (scope_at p a) (CallOf q (MemberOf m y n) es) ≡ None = ap (λ c. call_type p.classes (called_with (count es) c)) here_is ∙ (rw takes refl) in
      let nothing : has_no_value T (CallOf q (MemberOf m y n) es) ≡ true = ap (λ c. gives_nothing (called_with (count es) c)) there_is ∙ (rw takes refl) in
      let tree : expr (env_at p a) (CallOf q (MemberOf m y n) es) ≡ NullOf q =
      ap (λ k. called_after (env_at p a) q k (expr (env_at p a) y) n.text es (args (env_at p a) es) (member_callee (scope_at p a) n.text k)) r
      ∙ ap (called_after (env_at p a) q TheConsole (expr (env_at p a) y) n.text es (args (env_at p a) es)) callee_is in
      record {
        typed = λ u e. absurd (let z : None ≡ Some u = sym static_is ∙ e in let w : ⊥ = cc in w);
        valued = ap (λ b. is_some (statics.static (scope_at p a) (CallOf q (MemberOf m y n) es)) || b) nothing ∙ either (is_some (statics.static (scope_at p a) (CallOf q (MemberOf m y n) es)));
        fit = subst (Fit (resolved p) (core_of p).classes x a.bound) (sym tree) tt;
        calls = λ c. absurd (false≢true c);
      }
    where
      either : (c : Bool) → (c || true) ≡ true
      either true = refl
      either false = refl

  -- ---- classes

  pub class_sound : (q m : Place) (y : text.ExprTree) (n : NameTree) (es : Arguments) (j : ℕ) → receiver (scope_at p a) y (statics.static (scope_at p a) y) ≡ AClass j → receiver T y (statics.static T y) ≡ AClass j → is_state_word n.text ≡ false → is_member p.classes j n.text ≡ true →
      is_wrong_call (count es) (called_on_class p.classes true j n.text) ≡ false → argument_faults A (argument_wants (count es) (called_on_class p.classes true j n.text)) es ≡ [] → Sounds p x static lacks answer false a es → arguments_faults U None es ≡ [] → Is (CallOf q (MemberOf m y n) es)
  class_sound q m y n es j r rt word member wrong types ih names =
      let l = named_before (scope_at p a) y j r in
      let c = class_there p.classes j l in
      let w = meant p.classes true (method_of p.classes j n.text) (field_of p.classes j n.text) (count es) wrong member in
      let has = method_has p faultless j c.0 c.1 n.text w.method w.is in
      let t = taken p faultless x is_known static lacks answer a here es w.method j has (called_on_class p.classes true j n.text) w.takes wrong types ih names in
      let callee_is : member_callee (scope_at p a) n.text (AClass j) ≡ AMethod w.method = rw word (kind_called true (method_of p.classes j n.text) w.method w.is w.kind_is) in
      let callee_in : member_callee T n.text (AClass j) ≡ AMethod w.method = rw word (kind_called true (method_of p.classes j n.text) w.method w.is w.kind_is) in
      call_is p faultless x is_known static lacks answer a here q (MemberOf m y n) es j (expr (env_at p a) y) w.method has (ap (member_callee (scope_at p a) n.text) r ∙ callee_is) (ap (member_callee T n.text) rt ∙ callee_in) t.0
      (ap (λ k. called_after (env_at p a) q k (expr (env_at p a) y) n.text es (args (env_at p a) es) (member_callee (scope_at p a) n.text k)) r
      ∙ ap (called_after (env_at p a) q (AClass j) (expr (env_at p a) y) n.text es (args (env_at p a) es)) callee_is)
      (method_fit p faultless x is_known static lacks answer a here q j l (expr (env_at p a) y) (args (env_at p a) es) w.method has (λ s. absurd (false≢true (sym s ∙ w.kind_is))) t.1)

  -- ---- values

  place_sound : (q m : Place) (y : text.ExprTree) (n : NameTree) (es : Arguments) (c : ℕ) (nn : Bool) (k : Option ℕ) → declared_place c ≡ k → Is y → statics.static (scope_at p a) y ≡ Some (ty.Ref (record { 0 = c }) nn) →
      receiver (scope_at p a) y (statics.static (scope_at p a) y) ≡ AValue (Some (ty.Ref (record { 0 = c }) nn)) → receiver T y (statics.static T y) ≡ AValue (Some (ty.Ref (record { 0 = c }) nn)) → is_state_call n.text ≡ false → is_state_read n.text ≡ false → declares p.classes n.text k ≡ true →
      is_wrong_call (count es) (called_on_declared p.classes n.text k) ≡ false → argument_faults A (argument_wants (count es) (called_on_declared p.classes n.text k)) es ≡ [] → Sounds p x static lacks answer false a es → arguments_faults U None es ≡ [] → Is (CallOf q (MemberOf m y n) es)
  place_sound q m y n es c nn None e s is r rt call read members wrong types ih names = absurd (false≢true members)
  place_sound q m y n es c nn (Some k) e s is r rt call read members wrong types ih names =
      let o = expr (env_at p a) y in
      let number = place_is c k e in
      let size = size_of p in
      let low = ltb-true c (4 + 2 * length (core_of p).classes) (class_of_value p x is_known static lacks answer a here y c nn (s.typed (ty.Ref (record { 0 = c }) nn) is)) in
      let l : k < length p.classes = omega arith in
      let there = class_there p.classes k l in
      let w = meant p.classes false (method_of p.classes k n.text) (field_of p.classes k n.text) (count es) wrong members in
      let has = method_has p faultless k there.0 there.1 n.text w.method w.is in
      let t = taken p faultless x is_known static lacks answer a here es w.method k has (called_on_class p.classes false k n.text) w.takes wrong types ih names in
      let callee_is : member_callee (scope_at p a) n.text (AValue (Some (ty.Ref (record { 0 = c }) nn))) ≡ AMethod w.method = rw (call, read, e) (kind_called false (method_of p.classes k n.text) w.method w.is w.kind_is) in
      let callee_in : member_callee T n.text (AValue (Some (ty.Ref (record { 0 = c }) nn))) ≡ AMethod w.method = rw (call, read, e) (kind_called false (method_of p.classes k n.text) w.method w.is w.kind_is) in
      let tree_is : call_of (env_at p a) q (AValue (Some (ty.Ref (record { 0 = c }) nn))) o (args (env_at p a) es) w.method ≡ method_call (env_at p a) q k o (args (env_at p a) es) w.method = ap (λ z. method_call (env_at p a) q (place_or_own (env_at p a) z) o (args (env_at p a) es) w.method) e in
      call_is p faultless x is_known static lacks answer a here q (MemberOf m y n) es k o w.method has (ap (member_callee (scope_at p a) n.text) r ∙ callee_is) (ap (member_callee T n.text) rt ∙ callee_in) t.0
      (ap (λ z. called_after (env_at p a) q z o n.text es (args (env_at p a) es) (member_callee (scope_at p a) n.text z)) r
      ∙ ap (called_after (env_at p a) q (AValue (Some (ty.Ref (record { 0 = c }) nn))) o n.text es (args (env_at p a) es)) callee_is ∙ tree_is)
      (method_fit p faultless x is_known static lacks answer a here q k l o (args (env_at p a) es) w.method has (λ z. (s.fit, (nn, s.typed (ty.Ref (record { 0 = c }) nn) is ∙ ap (λ (u : ℕ). Some (ty.Ref (record { 0 = u }) nn)) number))) t.1)

  -- what is called of a value
  pub object_called : (n : List ℕ) (k : ℕ) (v : Called) (c : ℕ) → v ≡ called_on_object p.classes n (Some c) → is_wrong_call k v ≡ false → has_member p.classes n (Some c) ≡ true → (v ≡ called_on_declared p.classes n (declared_place c)) × (declares p.classes n (declared_place c) ≡ true)
  object_called n k v c is wrong member = by (is_array_number c) is member
    where
      by : (b : Bool) → v ≡ (if b then (if is_length n then Refused else Unknown) else called_on_declared p.classes n (declared_place c)) → (if b then is_length n else declares p.classes n (declared_place c)) ≡ true → (v ≡ called_on_declared p.classes n (declared_place c)) × (declares p.classes n (declared_place c) ≡ true)
      by true g h = let refused : v ≡ Refused = g ∙ (rw h refl) in absurd (true≢false (sym (ap (is_wrong_call k) refused) ∙ wrong))
      by false g h = (g, h)

  pub value_by : (q m : Place) (y : text.ExprTree) (n : NameTree) (es : Arguments) (t : Ty) → Is y → statics.static (scope_at p a) y ≡ Some t → receiver (scope_at p a) y (statics.static (scope_at p a) y) ≡ AValue (Some t) → receiver T y (statics.static T y) ≡ AValue (Some t) →
      is_state_call n.text ≡ false → is_state_read n.text ≡ false → without_members false (Some t) ≡ false → has_member p.classes n.text (class_of t) ≡ true → (v : Called) → v ≡ called_on_object p.classes n.text (class_of t) →
      is_wrong_call (count es) v ≡ false → argument_faults A (argument_wants (count es) v) es ≡ [] → Sounds p x static lacks answer false a es → arguments_faults U None es ≡ [] → Is (CallOf q (MemberOf m y n) es)
  value_by q m y n es ty.Int s is r rt call read none member v at wrong types ih names = absurd (true≢false none)
  value_by q m y n es ty.Bool s is r rt call read none member v at wrong types ih names = absurd (true≢false none)
  value_by q m y n es ty.Null s is r rt call read none member v at wrong types ih names = absurd (true≢false none)
  value_by q m y n es (ty.Ref c nn) s is r rt call read none member v at wrong types ih names =
      let o = object_called n.text (count es) v c.0 at wrong member in
      place_sound q m y n es c.0 nn (declared_place c.0) refl s is r rt call read o.1
      (subst (λ z. is_wrong_call (count es) z ≡ false) o.0 wrong) (subst (λ z. argument_faults A (argument_wants (count es) z) es ≡ []) o.0 types) ih names
