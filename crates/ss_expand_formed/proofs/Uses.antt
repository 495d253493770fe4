-- Where `this` isn't used, elaborated code doesn't use it.
use Rattle.std.proofs.Common.{◌≡◌, ℕ, ◌+◌, ◌<◌, List, [], ◌∷◌, ◌++◌, Bool, true, Option, refl, ◌∙◌, arith, inl, inr, ◌⊎◌, ⊎_elim}
use Rattle.std.specs.Prelude.{◌&&◌, ◌==◌, not}
use Rattle.std.specs.List.{list_all}
use Rattle.std.proofs.lemmas.Bool.{cases_Bool, and_parts, and_from, or_left, or_right, ne_eqb, false≢true}
use Rattle.ss_core.specs.declared.names.Place.{Place}
use Rattle.ss_core.specs.declared.names.Ty.{Ty}
use Rattle.ss_core.specs.declared.names.Ty.TheVariants as ty
use Rattle.ss_core.specs.Tree as core
use Rattle.ss_core.specs.Tree.{NullExpr, LocalExpr, FieldExpr, ElementExpr, LengthExpr, NegateExpr, NotExpr, BinaryExpr, IffExpr, IsExpr, AsExpr, CastExpr, Dispatched, Static, Base, AssignStmt, WriteStmt, NewStmt, NewArrayStmt, CallStmt, IfStmt, CodeTree}
use Rattle.ss_typed.specs.Tree.{ExprTree, IntOf, BoolOf, NullOf, ThisOf, LocalOf, ResultOf, BoundOf, IffOf, ImpliesOf, BinaryOf, IsOf, AsOf, NegateOf, NotOf, CastOf, FieldOf, ElementOf, LengthOf, OldOf, QuantifiedOf, StateOf, OwnersOf, NewOf, NewArrayOf, CallOf, StaticOf, BaseOf, Arguments}
use Rattle.ss_typed.specs.Shapes.{is_this}
use Rattle.ss_delayed_rules.specs.Escapes.{Use, ForFields, NotAtAll, may_read, uses, uses_each}
use Rattle.ss_expand_rules.specs.Numbers.{Numbers, number, plain}
use Rattle.ss_expand_rules.specs.Calls.{has_call}
use Rattle.ss_expand_rules.specs.Simple.{default_of}
use Rattle.ss_store_rules.specs.Admissible as store
use Rattle.ss_store_rules.specs.Construction.{is_without_this, has_this_in_fields, keeps_this_in, only_writes_this}
use Rattle.ss_expand_formed.proofs.Facts.{none_left}
use Rattle.ss_expand_formed.proofs.Choosing.{all_three, three_parts}
use Rattle.ss_expand_formed.proofs.Reading.{locals_pass, args_pass}
use Rattle.ss_expand_formed.proofs.Lifts.{Keeps}

abbrev pub is_other : ℕ → Bool
is_other x = not (x == 0)

-- another local than `this` is meant by another one, and the result, the temporaries and the bound names are others
pub record IsAfterThis (ns : Numbers) : Type 0 where
  pub means : (x : ℕ) → is_other x ≡ true → is_other (number ns x) ≡ true
  pub outcome : 0 < ns.outcome
  pub bound : 0 < ns.first_bound
  pub temporaries : 0 < ns.first_temporary

pub other : (x : ℕ) → 0 < x → is_other x ≡ true
other x l = let no = ne_eqb x 0 (λ e. omega arith) in rw no refl

-- `this` is used so, and no local is `this`
pub record Fine (u : Use) (e : ExprTree) : Type 0 where
  pub unused : uses u e ≡ []
  pub locals : locals_pass is_other e ≡ true

pub record AreFine (u : Use) (es : Arguments) : Type 0 where
  pub unused : uses_each u es ≡ []
  pub locals : args_pass is_other es ≡ true

-- what is so used in the core program
abbrev pub stays : Use → core.ExprTree → Bool
stays ForFields e = has_this_in_fields e
stays NotAtAll e = is_without_this e

-- ---- parts

pub fine : (u : Use) (e : ExprTree) → uses u e ≡ [] → locals_pass is_other e ≡ true → Fine u e
fine u e h g = record { unused = h; locals = g }

pub two_fine : (u : Use) (a b : ExprTree) → uses u a ++ uses u b ≡ [] → (locals_pass is_other a && locals_pass is_other b) ≡ true → Fine u a × Fine u b
two_fine u a b h g =
    let n = none_left (uses u a) (uses u b) h in
    let l = and_parts (locals_pass is_other a) (locals_pass is_other b) g in
    (fine u a n.0 l.0, fine u b n.1 l.1)

-- a field is read of `this`, where that may be, or of what is fine
pub own_or_fine : (u : Use) (p : Place) (e : ExprTree) (f : ℕ) (t : Ty) → Fine u (FieldOf p e f t) → ((may_read u ≡ true) × (is_this e ≡ true)) ⊎ Fine u e
own_or_fine ForFields p e f t h =
    ⊎_elim
    (λ yes. inl (refl, yes))
    (λ no. inr (fine ForFields e (rw no at h.unused) h.locals))
    (cases_Bool (is_this e))
own_or_fine NotAtAll p e f t h = inr (fine NotAtAll e h.unused h.locals)

called_no_this : (e : ExprTree) → has_call e ≡ true → is_this e ≡ true → ⊥
called_no_this (ThisOf p t) c h = false≢true c
called_no_this e c h = false≢true h

this_plain : (ns : Numbers) (e : ExprTree) → is_this e ≡ true → store.is_this (plain ns e) ≡ true
this_plain ns (ThisOf p t) h = refl
this_plain ns e h = absurd (false≢true h)

-- ---- expressions without calls

module _ (ns : Numbers) (n : IsAfterThis ns) where
  without : (e : ExprTree) → uses NotAtAll e ≡ [] → locals_pass is_other e ≡ true → is_without_this (plain ns e) ≡ true
  without (ThisOf p t) h g = absurd (let z : ⊥ = cc in z)
  without (LocalOf p x t) h g = n.means x g
  without (ResultOf p t) h g = other ns.outcome n.outcome
  without (BoundOf p k) h g = let l = n.bound in other (ns.first_bound + k) (omega arith)
  without (IffOf p a b) h g = let u = none_left (uses NotAtAll a) (uses NotAtAll b) h in let l = and_parts (locals_pass is_other a) (locals_pass is_other b) g in and_from _ _ (without a u.0 l.0) (without b u.1 l.1)
  without (ImpliesOf p a b) h g = let u = none_left (uses NotAtAll a) (uses NotAtAll b) h in let l = and_parts (locals_pass is_other a) (locals_pass is_other b) g in and_from _ _ (without a u.0 l.0) (without b u.1 l.1)
  without (BinaryOf p o a b) h g = let u = none_left (uses NotAtAll a) (uses NotAtAll b) h in let l = and_parts (locals_pass is_other a) (locals_pass is_other b) g in and_from _ _ (without a u.0 l.0) (without b u.1 l.1)
  without (ElementOf p a b) h g = let u = none_left (uses NotAtAll a) (uses NotAtAll b) h in let l = and_parts (locals_pass is_other a) (locals_pass is_other b) g in and_from _ _ (without a u.0 l.0) (without b u.1 l.1)
  without (OwnersOf p w a b) h g = let u = none_left (uses NotAtAll a) (uses NotAtAll b) h in let l = and_parts (locals_pass is_other a) (locals_pass is_other b) g in and_from _ _ (without a u.0 l.0) (without b u.1 l.1)
  without (IsOf p e t) h g = without e h g
  without (AsOf p e t) h g = without e h g
  without (NegateOf p e) h g = without e h g
  without (NotOf p e) h g = without e h g
  without (CastOf p t non_null e) h g = without e h g
  without (LengthOf p e) h g = without e h g
  without (OldOf p e) h g = without e h g
  without (StateOf p w e) h g = without e h g
  without (FieldOf p e k t) h g = without e h g
  without (QuantifiedOf p q name low high e) h g =
      let u = none_left (uses NotAtAll low ++ uses NotAtAll high) (uses NotAtAll e) h in
      let v = none_left (uses NotAtAll low) (uses NotAtAll high) u.0 in
      let l = three_parts (locals_pass is_other low) (locals_pass is_other high) (locals_pass is_other e) g in
      all_three _ _ _ (without low v.0 l.0) (without high v.1 l.1) (without e u.1 l.2)
  without (IntOf p k) h g = refl
  without (BoolOf p b) h g = refl
  without (NullOf p) h g = refl
  without (NewOf p t es) h g = refl
  without (NewArrayOf p t e) h g = refl
  without (CallOf p e m t es) h g = refl
  without (StaticOf p k t es) h g = refl
  without (BaseOf p m t es) h g = refl

  in_fields : (e : ExprTree) → uses ForFields e ≡ [] → locals_pass is_other e ≡ true → has_this_in_fields (plain ns e) ≡ true
  in_fields (ThisOf p t) h g = absurd (let z : ⊥ = cc in z)
  in_fields (LocalOf p x t) h g = n.means x g
  in_fields (ResultOf p t) h g = other ns.outcome n.outcome
  in_fields (BoundOf p k) h g = let l = n.bound in other (ns.first_bound + k) (omega arith)
  in_fields (IffOf p a b) h g = let u = none_left (uses ForFields a) (uses ForFields b) h in let l = and_parts (locals_pass is_other a) (locals_pass is_other b) g in and_from _ _ (in_fields a u.0 l.0) (in_fields b u.1 l.1)
  in_fields (ImpliesOf p a b) h g = let u = none_left (uses ForFields a) (uses ForFields b) h in let l = and_parts (locals_pass is_other a) (locals_pass is_other b) g in and_from _ _ (in_fields a u.0 l.0) (in_fields b u.1 l.1)
  in_fields (BinaryOf p o a b) h g = let u = none_left (uses ForFields a) (uses ForFields b) h in let l = and_parts (locals_pass is_other a) (locals_pass is_other b) g in and_from _ _ (in_fields a u.0 l.0) (in_fields b u.1 l.1)
  in_fields (ElementOf p a b) h g = let u = none_left (uses ForFields a) (uses ForFields b) h in let l = and_parts (locals_pass is_other a) (locals_pass is_other b) g in and_from _ _ (in_fields a u.0 l.0) (in_fields b u.1 l.1)
  in_fields (OwnersOf p w a b) h g = let u = none_left (uses ForFields a) (uses ForFields b) h in let l = and_parts (locals_pass is_other a) (locals_pass is_other b) g in and_from _ _ (in_fields a u.0 l.0) (in_fields b u.1 l.1)
  in_fields (IsOf p e t) h g = in_fields e h g
  in_fields (AsOf p e t) h g = in_fields e h g
  in_fields (NegateOf p e) h g = in_fields e h g
  in_fields (NotOf p e) h g = in_fields e h g
  in_fields (CastOf p t non_null e) h g = in_fields e h g
  in_fields (LengthOf p e) h g = in_fields e h g
  in_fields (OldOf p e) h g = in_fields e h g
  in_fields (StateOf p w e) h g = in_fields e h g
  in_fields (FieldOf p e k t) h g =
      ⊎_elim
      (λ yes. or_left (store.is_this (plain ns e)) _ (this_plain ns e yes))
      (λ no. or_right (store.is_this (plain ns e)) _ (in_fields e (rw no at h) g))
      (cases_Bool (is_this e))
  in_fields (QuantifiedOf p q name low high e) h g =
      let u = none_left (uses ForFields low ++ uses ForFields high) (uses ForFields e) h in
      let v = none_left (uses ForFields low) (uses ForFields high) u.0 in
      let l = three_parts (locals_pass is_other low) (locals_pass is_other high) (locals_pass is_other e) g in
      all_three _ _ _ (in_fields low v.0 l.0) (in_fields high v.1 l.1) (in_fields e u.1 l.2)
  in_fields (IntOf p k) h g = refl
  in_fields (BoolOf p b) h g = refl
  in_fields (NullOf p) h g = refl
  in_fields (NewOf p t es) h g = refl
  in_fields (NewArrayOf p t e) h g = refl
  in_fields (CallOf p e m t es) h g = refl
  in_fields (StaticOf p k t es) h g = refl
  in_fields (BaseOf p m t es) h g = refl

  pub plain_stays : (u : Use) (e : ExprTree) → Fine u e → stays u (plain ns e) ≡ true
  plain_stays NotAtAll e h = without e h.unused h.locals
  plain_stays ForFields e h = in_fields e h.unused h.locals

-- ---- larger expressions

two_stay : (u : Use) (f : core.ExprTree → core.ExprTree → core.ExprTree) → ((a b : core.ExprTree) → stays ForFields (f a b) ≡ (stays ForFields a && stays ForFields b)) → ((a b : core.ExprTree) → stays NotAtAll (f a b) ≡ (stays NotAtAll a && stays NotAtAll b)) →
    (a b : core.ExprTree) → stays u a ≡ true → stays u b ≡ true → stays u (f a b) ≡ true
two_stay ForFields f one other a b h g = one a b ∙ and_from _ _ h g
two_stay NotAtAll f one other a b h g = other a b ∙ and_from _ _ h g

one_stays : (u : Use) (f : core.ExprTree → core.ExprTree) → ((a : core.ExprTree) → stays ForFields (f a) ≡ stays ForFields a) → ((a : core.ExprTree) → stays NotAtAll (f a) ≡ stays NotAtAll a) → (a : core.ExprTree) → stays u a ≡ true → stays u (f a) ≡ true
one_stays ForFields f one other a h = one a ∙ h
one_stays NotAtAll f one other a h = other a ∙ h

field_stays : (u : Use) (p : Place) (e : core.ExprTree) (f : ℕ) → stays u e ≡ true → stays u (FieldExpr p e f) ≡ true
field_stays ForFields p e f h = or_right (store.is_this e) _ h
field_stays NotAtAll p e f h = h

local_stays : (u : Use) (p : Place) (x : ℕ) → 0 < x → stays u (LocalExpr p x) ≡ true
local_stays ForFields p x l = other x l
local_stays NotAtAll p x l = other x l

leaf_stays : (u : Use) (e : core.ExprTree) → stays ForFields e ≡ true → stays NotAtAll e ≡ true → stays u e ≡ true
leaf_stays ForFields e h g = h
leaf_stays NotAtAll e h g = g

pub default_stays : (u : Use) (p : Place) (t : Ty) → stays u (default_of p t) ≡ true
default_stays ForFields p ty.Int = refl
default_stays ForFields p ty.Bool = refl
default_stays ForFields p t = refl
default_stays NotAtAll p ty.Int = refl
default_stays NotAtAll p ty.Bool = refl
default_stays NotAtAll p t = refl

-- ---- statements

-- what is asked of the code of a delayed constructor, and of that before `base(..)` in another one of the class t
abbrev pub behaves : Use → ℕ → core.StmtTree → Bool
behaves ForFields t s = keeps_this_in s
behaves NotAtAll t s = only_writes_this t s

assign_behaves : (u : Use) (t : ℕ) (p : Place) (x : ℕ) (e : core.ExprTree) → stays u e ≡ true → behaves u t (AssignStmt p x e) ≡ true
assign_behaves ForFields t p x e h = and_from _ _ (and_from _ _ h refl) refl
assign_behaves NotAtAll t p x e h = and_from _ _ (and_from _ _ h refl) refl

new_behaves : (u : Use) (t : ℕ) (p : Place) (x : Option ℕ) (k : ℕ) (es : List core.ExprTree) → list_all (stays u) es ≡ true → behaves u t (NewStmt p x k es) ≡ true
new_behaves ForFields t p x k es h = and_from _ _ h refl
new_behaves NotAtAll t p x k es h = and_from _ _ h refl

array_behaves : (u : Use) (t : ℕ) (p : Place) (x : Option ℕ) (k : ℕ) (e : core.ExprTree) → stays u e ≡ true → behaves u t (NewArrayStmt p x k e) ≡ true
array_behaves ForFields t p x k e h = and_from _ _ (and_from _ _ h refl) refl
array_behaves NotAtAll t p x k e h = and_from _ _ (and_from _ _ h refl) refl

call_behaves : (u : Use) (t : ℕ) (p : Place) (x : Option ℕ) (e : core.ExprTree) (k m : ℕ) (es : List core.ExprTree) → stays u e ≡ true → list_all (stays u) es ≡ true → behaves u t (CallStmt p x (Dispatched e k m) es) ≡ true
call_behaves ForFields t p x e k m es h g = and_from _ _ (and_from _ _ h g) refl
call_behaves NotAtAll t p x e k m es h g = and_from _ _ (and_from _ _ h g) refl

static_behaves : (u : Use) (t : ℕ) (p : Place) (x : Option ℕ) (k : ℕ) (es : List core.ExprTree) → list_all (stays u) es ≡ true → behaves u t (CallStmt p x (Static k) es) ≡ true
static_behaves ForFields t p x k es h = and_from _ _ h refl
static_behaves NotAtAll t p x k es h = and_from _ _ h refl

if_behaves : (u : Use) (t : ℕ) (p : Place) (e : core.ExprTree) (a b : CodeTree) → stays u e ≡ true → behaves u t (IfStmt p e a b) ≡ true
if_behaves ForFields t p e a b h = and_from _ _ (and_from _ _ h refl) refl
if_behaves NotAtAll t p e a b h = and_from _ _ (and_from _ _ h refl) refl

no_base : (u : Use) (p : Place) (m : ℕ) (t : Option Ty) (es : Arguments) → Fine u (BaseOf p m t es) → ⊥
no_base u p m t es h = let e : p ∷ uses_each u es ≡ [] = h.unused in cc

pub fine_keeps : (u : Use) (t : ℕ) (ns : Numbers) → IsAfterThis ns → Keeps ns (Fine u) (AreFine u) (stays u) (behaves u t)
fine_keeps u t ns n = record {
  iff_parts = λ p a b h. two_fine u a b h.unused h.locals;
  implies_parts = λ p a b h. two_fine u a b h.unused h.locals;
  binary_parts = λ p o a b h. two_fine u a b h.unused h.locals;
  element_parts = λ p a b h. two_fine u a b h.unused h.locals;
  is_part = λ p e k h. fine u e h.unused h.locals;
  as_part = λ p e k h. fine u e h.unused h.locals;
  negate_part = λ p e h. fine u e h.unused h.locals;
  not_part = λ p e h. fine u e h.unused h.locals;
  cast_part = λ p k non_null e h. fine u e h.unused h.locals;
  length_part = λ p e h. fine u e h.unused h.locals;
  field_part = λ p e f k c h. ⊎_elim (λ own. absurd (called_no_this e c own.1)) (λ part. part) (own_or_fine u p e f k h);
  new_parts = λ p k es h. record { unused = h.unused; locals = h.locals };
  array_part = λ p k e h. fine u e h.unused h.locals;
  call_parts = λ p e m k es h.
      let l = none_left (uses u e) (uses_each u es) h.unused in
      let g = and_parts (locals_pass is_other e) (args_pass is_other es) h.locals in
      (fine u e l.0 g.0, record { unused = l.1; locals = g.1 });
  static_parts = λ p k r es h. record { unused = h.unused; locals = h.locals };
  base_parts = λ p m r es h. absurd (no_base u p m r es h);
  argument_parts = λ e es h.
      let l = none_left (uses u e) (uses_each u es) h.unused in
      let g = and_parts (locals_pass is_other e) (args_pass is_other es) h.locals in
      (fine u e l.0 g.0, record { unused = l.1; locals = g.1 });
  plain_passes = plain_stays ns n u;
  temporary_passes = λ p k. let l = n.temporaries in local_stays u p (ns.first_temporary + k) (omega arith);
  null_passes = λ p. leaf_stays u (NullExpr p) refl refl;
  iff_passes = λ p. two_stay u (IffExpr p) (λ a b. refl) (λ a b. refl);
  binary_passes = λ p o. two_stay u (BinaryExpr p o) (λ a b. refl) (λ a b. refl);
  element_passes = λ p. two_stay u (ElementExpr p) (λ a b. refl) (λ a b. refl);
  is_passes = λ p e k. one_stays u (λ x. IsExpr p x k) (λ x. refl) (λ x. refl) e;
  as_passes = λ p e k. one_stays u (λ x. AsExpr p x k) (λ x. refl) (λ x. refl) e;
  negate_passes = λ p. one_stays u (NegateExpr p) (λ x. refl) (λ x. refl);
  not_passes = λ p. one_stays u (NotExpr p) (λ x. refl) (λ x. refl);
  cast_passes = λ p k non_null. one_stays u (CastExpr p k non_null) (λ x. refl) (λ x. refl);
  field_passes = field_stays u;
  length_passes = λ p. one_stays u (LengthExpr p) (λ x. refl) (λ x. refl);
  assign_passes = assign_behaves u t;
  new_passes = new_behaves u t;
  array_passes = array_behaves u t;
  call_passes = call_behaves u t;
  static_passes = static_behaves u t;
  base_passes = λ p q m r given h. absurd (no_base u p m r given h);
  if_passes = if_behaves u t;
}
