-- What stands before the dot of a read without faults of names and types.
use Rattle.std.proofs.Common.{◌≡◌, ℕ, List, [], Bool, true, false, Option, Some, None, refl, sym, ◌∙◌, ap, subst, inr, ◌⊎◌, ⊎_elim}
use Rattle.std.specs.Prelude.{◌&&◌, ◌||◌, is_some, is_none, option_and_then, if◌then◌else◌}
use Rattle.std.proofs.lemmas.Bool.{false≢true, true≢false}
use Rattle.ss_core.specs.declared.names.Place.{Place}
use Rattle.ss_core.specs.declared.names.Ty.{Ty}
use Rattle.ss_core.specs.declared.names.Ty.TheVariants as ty
use Rattle.ss_ast.specs.Expressions.{NameTree, MemberOf}
use Rattle.ss_ast.specs.Expressions as text
use Rattle.ss_ast.specs.Programs.{ProgramTree}
use Rattle.ss_tables.specs.Members.{FieldTree}
use Rattle.ss_tables.specs.Classes.{Declared, field_of, method_of, is_array_number, declared_place}
use Rattle.ss_tables.specs.Types.{class_of}
use Rattle.ss_tables.specs.Words.{is_state_read, is_state_call, is_length}
use Rattle.ss_tables.specs.Scopes.{Scope}
use Rattle.ss_tables.specs.Statics.{Receiver, TheConsole, TheOwner, TheBase, AClass, AValue, receiver}
use Rattle.ss_tables.specs.Statics as statics
use Rattle.ss_typed.specs.Tree.{ExprTree, StateOf, LengthOf}
use Rattle.ss_owners_rules.specs.Words.{Allowed, allows_state, unless, misplaced}
use Rattle.ss_resolver_names_rules.specs.Expressions.{declares, has_member, expr_faults, before_dot, read_faults}
use Rattle.ss_resolver_types_heads.specs.Wants.{known}
use Rattle.ss_resolver_types_heads.specs.Calls.{ExprContext, has_no_members}
use Rattle.ss_resolver_types_heads.specs.Expressions.{AsValue, BeforeDot, used_member, is_wrong_read, is_method_name, reads_method, faults}
use Rattle.ss_resolver_rules.specs.Numbers.{class_in}
use Rattle.ss_resolver_rules.specs.Expressions.{read_field, field_after, state_word, expr}
use Rattle.ss_expand_formed.proofs.Facts.{none_left, or_false}
use Rattle.ss_expand_formed.proofs.Fit.{Context}
use Rattle.ss_expand_formed.proofs.ExpressionsScopes.{refusing, expr_context, no_fault, three_left}
use Rattle.ss_expand_formed.proofs.ExpressionsPlaces.{At, scope_at, env_at, static_at}
use Rattle.ss_expand_formed.proofs.Receivers.{receiver_of, value_faults, class_unknown}
use Rattle.ss_expand_formed.proofs.MemberReads.{not_unless}

module _ (p : ProgramTree) (x : Context) (static condition lacks : Bool) (w : Allowed) where
  abbrev A : At → ExprContext
  A a = expr_context static condition lacks (scope_at p a)

  abbrev U : At → Scope
  U a = refusing static false (scope_at p a)

  abbrev T : At → Scope
  T a = refusing static static (scope_at p a)

  abbrev None_in : ExprTree → Type 0
  None_in e = misplaced w e ≡ []

  field_none : (a : At) (q : Place) (o : ExprTree) (n : List ℕ) (k : Option ℕ) → is_method_name p.classes n k ≡ false → (k ≡ None) ⊎ (declares p.classes n k ≡ true) → None_in (field_after (env_at p a) q o n k) → None_in o
  field_none a q o n None m d h = h
  field_none a q o n (Some k) m d h = by (field_of p.classes k n) m (⊎_elim (λ e. absurd (let z : ⊥ = cc in z)) (λ e. e) d) h
    where
      by : (f : Option (Declared FieldTree)) → (is_none f && is_some (method_of p.classes k n)) ≡ false → (is_some f || is_some (method_of p.classes k n)) ≡ true → None_in (read_field (env_at p a) q o f) → None_in o
      by (Some f) i j g = g
      by None i j g = absurd (false≢true (sym i ∙ j))

  member_none : (a : At) (q : Place) (o : ExprTree) (n : List ℕ) (b : Bool) (t : Option Ty) → is_state_read n ≡ b → (b ≡ false → reads_method p.classes n (option_and_then class_of t) ≡ false) → (b ≡ false → has_member p.classes n (option_and_then class_of t) ≡ true) →
      None_in (if b then StateOf q (state_word n) o else if is_array_number (class_in t) then LengthOf q o else field_after (env_at p a) q o n (declared_place (class_in t))) → None_in o
  member_none a q o n true t e m d h = (none_left (unless (allows_state w (state_word n)) q) (misplaced w o) h).1
  member_none a q o n false None e m d h = h
  member_none a q o n false (Some ty.Int) e m d h = h
  member_none a q o n false (Some ty.Bool) e m d h = h
  member_none a q o n false (Some ty.Null) e m d h = h
  member_none a q o n false (Some (ty.Ref c k)) e m d h = by (is_array_number c.0) (d refl) h
    where
      by : (i : Bool) → (if i then is_length n else declares p.classes n (declared_place c.0)) ≡ true → None_in (if i then LengthOf q o else field_after (env_at p a) q o n (declared_place c.0)) → None_in o
      by true g z = z
      by false g z = field_none a q o n (declared_place c.0) (m refl) (inr g) z

  rest : (b d e : Bool) → (b || d || e) ≡ false → (b ≡ false) × (d ≡ false) × (e ≡ false)
  rest b d e h = let one = or_false (b || d) e h in let two = or_false b d one.0 in (two.0, two.1, one.1)

  -- what stands before the dot of a read has no word misplaced, and is a value without faults
  pub record IsBefore (a : At) (y : text.ExprTree) (n : List ℕ) : Type 0 where
    pub names : expr_faults (U a) y ≡ []
    pub types : faults (A a) AsValue y ≡ []
    pub none : None_in (expr (env_at p a) y)
    pub members : is_state_read n ≡ false → has_no_members (known (T a) y) ≡ false

  value_before : (a : At) (q : Place) (y : text.ExprTree) (n : NameTree) (t : Option Ty) → t ≡ statics.static (scope_at p a) y → expr_faults (U a) y ≡ [] → faults (A a) AsValue y ≡ [] →
      is_wrong_read p.classes (known (T a) y) n.text (AValue t) ≡ false → read_faults (U a) n (AValue t) ≡ [] → None_in (expr (env_at p a) (MemberOf q y n)) → IsBefore a y n.text
  value_before a q y n t is names types read member h =
      let same = static_at p x static lacks false condition a y types in
      record {
        names = names;
        types = types;
        none = member_none a q (expr (env_at p a) y) n.text (is_state_read n.text) (statics.static (scope_at p a) y) refl
            (λ b. ap (λ o. reads_method p.classes n.text (option_and_then class_of o)) (sym same) ∙ (by_read (is_state_read n.text) (is_state_call n.text) (has_no_members (known (T a) y)) (reads_method p.classes n.text (option_and_then class_of (statics.static (T a) y))) b read).1)
            (λ b. ap (λ o. has_member p.classes n.text (option_and_then class_of o)) (sym is) ∙ by_member (is_state_read n.text) (is_state_call n.text) (has_member p.classes n.text (option_and_then class_of t)) b (by_read (is_state_read n.text) (is_state_call n.text) (has_no_members (known (T a) y)) (reads_method p.classes n.text (option_and_then class_of (statics.static (T a) y))) b read).0 (not_unless _ n.place member))
            h;
        members = λ b. by_none (is_state_read n.text) (is_state_call n.text) (has_no_members (known (T a) y)) (reads_method p.classes n.text (option_and_then class_of (statics.static (T a) y))) b read;
      }
    where
      by_read : (b d m r : Bool) → b ≡ false → (if b then false else d || m || r) ≡ false → (d ≡ false) × (r ≡ false)
      by_read true d m r e g = absurd (true≢false e)
      by_read false d m r e g = let z = rest d m r g in (z.0, z.2)

      by_none : (b d m r : Bool) → b ≡ false → (if b then false else d || m || r) ≡ false → m ≡ false
      by_none true d m r e g = absurd (true≢false e)
      by_none false d m r e g = (rest d m r g).1

      by_member : (b d m : Bool) → b ≡ false → d ≡ false → (b || d || m) ≡ true → m ≡ true
      by_member true d m e f g = absurd (true≢false e)
      by_member false true m e f g = absurd (true≢false f)
      by_member false false m e f g = g

  pub before_read : (a : At) (q : Place) (y : text.ExprTree) (n : NameTree) → expr_faults (U a) (MemberOf q y n) ≡ [] → faults (A a) AsValue (MemberOf q y n) ≡ [] → None_in (expr (env_at p a) (MemberOf q y n)) → IsBefore a y n.text
  before_read a q y n names types h =
      let three = three_left (faults (A a) BeforeDot y) _ _ types in
      let both = none_left (before_dot (receiver (U a) y (statics.static (U a) y)) (expr_faults (U a) y)) (read_faults (U a) n (receiver (U a) y (statics.static (U a) y))) names in
      let rt = receiver_of static condition lacks (scope_at p a) refl static static (λ e. (e, e)) y three.0 in
      let ru = receiver_of static condition lacks (scope_at p a) refl static false (λ e. (e, refl)) y three.0 in
      by (receiver (scope_at p a) y (statics.static (scope_at p a) y)) refl ru three.0
      (no_fault _ _ (subst (λ r. used_member p.classes AsValue q (known (T a) y) n.text r ≡ []) rt three.2))
      (subst (λ r. before_dot r (expr_faults (U a) y) ≡ []) ru both.0)
      (subst (λ r. read_faults (U a) n r ≡ []) ru both.1)
    where
      by : (r : Receiver) → receiver (scope_at p a) y (statics.static (scope_at p a) y) ≡ r → receiver (U a) y (statics.static (U a) y) ≡ receiver (scope_at p a) y (statics.static (scope_at p a) y) → faults (A a) BeforeDot y ≡ [] → is_wrong_read p.classes (known (T a) y) n.text r ≡ false →
          before_dot r (expr_faults (U a) y) ≡ [] → read_faults (U a) n r ≡ [] → IsBefore a y n.text
      by TheConsole e u f k m z = absurd (true≢false k)
      by TheOwner e u f k m z = absurd (true≢false k)
      by TheBase e u f k m z = absurd (true≢false k)
      by (AClass j) e u f k m z = absurd (class_unknown (U a) y j (u ∙ e) m)
      by (AValue t) e u f k m z = let v = value_faults static condition lacks (scope_at p a) y t e f in value_before a q y n t v.1 m v.0 k z h
