-- An expression in the numbers of a body has the words that its resolved expression may have there.
use Rattle.std.proofs.Common.{◌≡◌, ℕ, suc, ◌+◌, List, [], ◌++◌, Bool, true, false, Some, refl, sym, ◌∙◌, ap, subst, None}
use Rattle.std.specs.Prelude.{◌||◌, not, slice_get, if◌then◌else◌}
use Rattle.std.proofs.lemmas.Bool.{and_from, or_right, false≢true}
use Rattle.ss_core.specs.declared.names.Place.{Place}
use Rattle.ss_core.specs.declared.names.Ty.{Ty}
use Rattle.ss_core.specs.Tree as core
use Rattle.ss_core.specs.Chain.{IsChain}
use Rattle.ss_core.specs.Tree.{WordTree, Consistent, Committed, New, Level, Packed, Unowned, StateExpr}
use Rattle.ss_typed.specs.Tree.{ExprTree, IntOf, BoolOf, NullOf, ThisOf, LocalOf, ResultOf, BoundOf, IffOf, ImpliesOf, BinaryOf, IsOf, AsOf, NegateOf, NotOf, CastOf, FieldOf, ElementOf, LengthOf, OldOf, QuantifiedOf, StateOf, OwnersOf, NewOf, NewArrayOf, CallOf, StaticOf, BaseOf, TypedTree}
use Rattle.ss_typed.specs.Types.{class_type, type_of}
use Rattle.ss_owners_rules.specs.Words.{Allowed, NoWord, Questions, OfEntry, EveryWord, allows_question, allows_old, allows_result, allows_state, unless, misplaced}
use Rattle.ss_expand_rules.specs.Numbers.{Numbers, number, plain}
use Rattle.ss_expand_rules.specs.Calls.{has_call}
use Rattle.ss_store_rules.specs.Locals.{is_result, everywhere}
use Rattle.ss_store_rules.specs.Types.{Words, in_code, in_requires, in_assert, in_ensures, is_allowed, is_bool}
use Rattle.ss_store_rules.specs.Locals as locals
use Rattle.ss_store_rules.specs.Types as types
use Rattle.ss_expand_formed.proofs.Facts.{none_left, or_false}
use Rattle.ss_expand_formed.proofs.Fit.{Context, Fit}
use Rattle.ss_expand_formed.proofs.Plain.{Reads, Lower, lower_bool, plain_type}

-- the same words in a body
abbrev pub words : Allowed → Words
words NoWord = in_code
words Questions = in_requires
words OfEntry = in_assert
words EveryWord = in_ensures

allowed_if : (b : Bool) (p : Place) → unless b p ≡ [] → b ≡ true
allowed_if true p h = refl
allowed_if false p h = absurd (let x : ⊥ = cc in x)

states_allowed : (w : Allowed) → allows_question w ≡ true → (words w).states ≡ true
states_allowed NoWord h = h
states_allowed Questions h = refl
states_allowed OfEntry h = refl
states_allowed EveryWord h = refl

entry_allowed : (w : Allowed) → allows_old w ≡ true → (words w).entry ≡ true
entry_allowed NoWord h = h
entry_allowed Questions h = h
entry_allowed OfEntry h = refl
entry_allowed EveryWord h = refl

result_allowed : (w : Allowed) → allows_result w ≡ true → (words w).result ≡ true
result_allowed NoWord h = h
result_allowed Questions h = h
result_allowed OfEntry h = h
result_allowed EveryWord h = refl

-- what the context has isn't the result of the body, nor is a bound name
pub record Apart (b : core.BodyTree) (x : Context) (ns : Numbers) : Type 0 where
  pub locals : (y : ℕ) (t : Ty) → slice_get x.locals y ≡ Some t → is_result b (number ns y) ≡ false
  pub this : (t : Ty) → slice_get x.locals 0 ≡ Some t → is_result b 0 ≡ false
  pub bound : (n : ℕ) → is_result b (ns.first_bound + n) ≡ false

module _ (P : TypedTree) (C : List core.ClassTree) (b : core.BodyTree) (x : Context) (ns : Numbers) (apart : Apart b x ns) (w : Allowed) where
  abbrev Allows : ExprTree → Type 0
  Allows e = everywhere (is_allowed b (words w)) (plain ns e) ≡ true

  no_result : (n : ℕ) → is_result b n ≡ false → ((words w).result || not (is_result b n)) ≡ true
  no_result n h = or_right (words w).result (not (is_result b n)) (ap not h)

  state_allowed : (p : Place) (k : WordTree) (e : core.ExprTree) → allows_state w k ≡ true → is_allowed b (words w) (StateExpr p k e) ≡ true
  state_allowed p Consistent e h = states_allowed w h
  state_allowed p Committed e h = states_allowed w h
  state_allowed p New e h = entry_allowed w h
  state_allowed p (Level t) e h = states_allowed w h
  state_allowed p (Packed t) e h = states_allowed w h
  state_allowed p Unowned e h = states_allowed w h

  pub plain_words : (k : ℕ) (e : ExprTree) → Fit P C x k e → has_call e ≡ false → misplaced w e ≡ [] → Allows e
  plain_words k (IntOf p n) f without h = refl
  plain_words k (BoolOf p v) f without h = refl
  plain_words k (NullOf p) f without h = refl
  plain_words k (ThisOf p t) f without h = no_result 0 (apart.this (class_type t true) f)
  plain_words k (LocalOf p y t) f without h = no_result (number ns y) (apart.locals y t f)
  plain_words k (ResultOf p t) f without h = rw (result_allowed w (allowed_if (allows_result w) p h)) refl
  plain_words k (BoundOf p n) f without h = no_result (ns.first_bound + n) (apart.bound n)
  plain_words k (IffOf p a c) f without h =
      let none = or_false (has_call a) (has_call c) without in
      let left = none_left (misplaced w a) (misplaced w c) h in
      and_from _ _ (plain_words k a f.0 none.0 left.0) (plain_words k c f.1 none.1 left.1)
  plain_words k (ImpliesOf p a c) f without h =
      let none = or_false (has_call a) (has_call c) without in
      let left = none_left (misplaced w a) (misplaced w c) h in
      and_from _ _ (plain_words k a f.0 none.0 left.0) (plain_words k c f.1 none.1 left.1)
  plain_words k (BinaryOf p o a c) f without h =
      let none = or_false (has_call a) (has_call c) without in
      let left = none_left (misplaced w a) (misplaced w c) h in
      and_from _ _ (plain_words k a f.0 none.0 left.0) (plain_words k c f.1 none.1 left.1)
  plain_words k (IsOf p e t) f without h = plain_words k e f.0 without h
  plain_words k (AsOf p e t) f without h = plain_words k e f.0 without h
  plain_words k (NegateOf p e) f without h = plain_words k e f.0 without h
  plain_words k (NotOf p e) f without h = plain_words k e f.0 without h
  plain_words k (CastOf p t non_null e) f without h = plain_words k e f.0 without h
  plain_words k (FieldOf p e g t) f without h = plain_words k e f.0 without h
  plain_words k (ElementOf p a i) f without h =
      let none = or_false (has_call a) (has_call i) without in
      let left = none_left (misplaced w a) (misplaced w i) h in
      and_from _ _ (plain_words k a f.0 none.0 left.0) (plain_words k i f.1 none.1 left.1)
  plain_words k (LengthOf p e) f without h = plain_words k e f.0 without h
  plain_words k (OldOf p e) f without h =
      let left = none_left (unless (allows_old w) p) (misplaced w e) h in
      and_from _ _ (entry_allowed w (allowed_if (allows_old w) p left.0)) (plain_words k e f without left.1)
  plain_words k (QuantifiedOf p q name low high e) f without h =
      let none = or_false (has_call low || has_call high) (has_call e) without in
      let two = or_false (has_call low) (has_call high) none.0 in
      let left = none_left (misplaced w low ++ misplaced w high) (misplaced w e) h in
      let first = none_left (misplaced w low) (misplaced w high) left.0 in
      and_from _ _ (and_from _ _ (plain_words k low f.0 two.0 first.0) (plain_words k high f.1 two.1 first.1)) (plain_words (suc k) e f.2 none.1 left.1)
  plain_words k (StateOf p v e) f without h =
      let left = none_left (unless (allows_state w v) p) (misplaced w e) h in
      and_from _ _ (state_allowed p v (plain ns e) (allowed_if (allows_state w v) p left.0)) (plain_words k e f.0 without left.1)
  plain_words k (OwnersOf p v a c) f without h =
      let none = or_false (has_call a) (has_call c) without in
      let left = none_left (unless (allows_question w) p ++ misplaced w a) (misplaced w c) h in
      let first = none_left (unless (allows_question w) p) (misplaced w a) left.0 in
      and_from _ _ (and_from _ _ (states_allowed w (allowed_if (allows_question w) p first.0)) (plain_words k a f.0 none.0 first.1)) (plain_words k c f.1 none.1 left.1)
  plain_words k (NewOf p t es) f without h = absurd (false≢true (sym without))
  plain_words k (NewArrayOf p t e) f without h = absurd (false≢true (sym without))
  plain_words k (CallOf p e m t es) f without h = absurd (false≢true (sym without))
  plain_words k (StaticOf p n t es) f without h = absurd (false≢true (sym without))
  plain_words k (BaseOf p m t es) f without h = absurd (false≢true (sym without))

  -- the type of the expression in the body
  pub typed_in : IsChain C → Reads C x ns (locals.local_types b) → (e : ExprTree) → Fit P C x 0 e → has_call e ≡ false → misplaced w e ≡ [] → Lower C (types.typed C b (words w) (plain ns e)) (type_of e)
  typed_in chain reads e f without h =
      subst (λ z. Lower C (if z then types.type_of C (locals.local_types b) (plain ns e) else None) (type_of e)) (sym (plain_words 0 e f without h)) (plain_type P C x ns (locals.local_types b) chain reads 0 e f without)

  -- a condition
  pub condition_in : IsChain C → Reads C x ns (locals.local_types b) → (e : ExprTree) → Fit P C x 0 e → is_bool (type_of e) ≡ true → has_call e ≡ false → misplaced w e ≡ [] → types.is_condition C b (words w) (plain ns e) ≡ true
  condition_in chain reads e f t without h = lower_bool C (types.typed C b (words w) (plain ns e)) (type_of e) (typed_in chain reads e f without h) ∙ t
