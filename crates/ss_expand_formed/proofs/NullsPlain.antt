-- Expressions without calls.
use Rattle.std.proofs.Common.{◌≡◌, ℕ, Bool, true, false, Some, refl, sym, ◌∙◌, ap}
use Rattle.std.specs.Prelude.{not, ◌==◌, ◌&&◌, ◌||◌, if◌then◌else◌}
use Rattle.std.proofs.lemmas.Bool.{and_parts, and_from, or_left, or_right, eq-eqb, eqb-true, false≢true}
use Rattle.ss_core.specs.declared.names.Place.{Place}
use Rattle.ss_core.specs.declared.names.Ty.{Ty}
use Rattle.ss_core.specs.declared.expr.Operator.{Operator}
use Rattle.ss_core.specs.declared.expr.Operator.TheVariants as op
use Rattle.ss_core.specs.Tree as core
use Rattle.ss_core.specs.Types.{is_class_type}
use Rattle.ss_typed.specs.Tree.{ExprTree, NullOf, ThisOf, LocalOf, ResultOf, FieldOf, CastOf, OldOf, NotOf, BinaryOf, IsOf, NewOf, NewArrayOf, CallOf, StaticOf, BaseOf}
use Rattle.ss_paths.specs.Sets.{Set, none, only, either}
use Rattle.ss_paths.specs.Fields as fields
use Rattle.ss_paths.specs.Assigned.{has_field}
use Rattle.ss_typed.specs.Shapes.{is_this}
use Rattle.ss_nonnull_rules.specs.NonNull as source
use Rattle.ss_nonnull_rules.specs.Facts as told
use Rattle.ss_nonnull_rules.specs.Facts.{says, the_local, is_null}
use Rattle.ss_expand_rules.specs.Numbers.{Numbers, number, plain}
use Rattle.ss_expand_rules.specs.Calls.{has_call}
use Rattle.ss_store_rules.specs.Changes.{field_type}
use Rattle.ss_store_rules.specs.Good.{is_non_null}
use Rattle.ss_store_rules.specs.NonNull.{is_non_null_type, Facts, no_facts, both, Known, learned, is_local_number, is_null_literal, compared, operation_facts, site_of, is_this_object, is_never_null}
use Rattle.ss_expand_formed.specs.Fitting.{Frame, local_type, implied, is_own_local, fits, reads_set, Agrees, Covers}
use Rattle.ss_expand_formed.proofs.Truths.{and_more, or_more, of_or}

-- ---- sets of locals

pub not_none : {X : Type 0} (x : ℕ) → none x ≡ true → X
unfolding none
not_none x h = absurd (false≢true h)

pub only_same : (x y : ℕ) → only x y ≡ true → (x == y) ≡ true
unfolding only
only_same x y h = h

pub either_is : (f g : Set) (x : ℕ) → either f g x ≡ true → (f x || g x) ≡ true
unfolding either
either_is f g x h = h

pub implied_true : (a b : Bool) → implied a b ≡ true → a ≡ true → b ≡ true
implied_true true b h i = h
implied_true false b h i = absurd (false≢true i)

-- ---- what a test says

-- the local that an expression says something of
pub local_of : (P : ℕ → Type 0) (e : ExprTree) (x : ℕ) → the_local e x ≡ true → ((p : Place) (y : ℕ) (t : Ty) → e ≡ LocalOf p y t → (y == x) ≡ true → P x) → P x
local_of P (LocalOf p y t) x h f = f p y t refl (only_same y x h)
local_of P e x h f = not_none x h

same_number : (ns : Numbers) (x y : ℕ) → (x == y) ≡ true → (number ns x == number ns y) ≡ true
same_number ns x y h = eq-eqb (number ns x) (number ns y) (ap (number ns) (eqb-true x y h))

local_number : (ns : Numbers) (e : ExprTree) (x : ℕ) → the_local e x ≡ true → is_local_number (plain ns e) (number ns x) ≡ true
local_number ns (LocalOf p y t) x h = same_number ns y x (only_same y x h)
local_number ns e x h = not_none x h

null_literal : (ns : Numbers) (e : ExprTree) → is_null e ≡ true → is_null_literal (plain ns e) ≡ true
null_literal ns (NullOf p) h = refl
null_literal ns e h = absurd (false≢true h)

pub on_set : (b : Bool) (f : Set) (x : ℕ) → (if b then f else none) x ≡ true → (b ≡ true) × (f x ≡ true)
on_set true f x h = (refl, h)
on_set false f x h = not_none x h

compared_plain : (ns : Numbers) (d : Bool) (a b : ExprTree) (x : ℕ) → told.compared d a b x ≡ true → compared d (plain ns a) (plain ns b) (number ns x) ≡ true
compared_plain ns d a b x h =
    let parts = on_set (d && is_null b) (the_local a) x h in
    let front = and_parts d (is_null b) parts.0 in
    and_from _ _ (and_from _ _ front.0 (null_literal ns b front.1)) (local_number ns a x parts.1)

either_plain : (f g : Set) (h k : Facts) (x y : ℕ) → (f x ≡ true → h y ≡ true) → (g x ≡ true → k y ≡ true) → either f g x ≡ true → both h k y ≡ true
either_plain f g h k x y i j e = or_more (f x) (g x) (h y) (k y) i j (either_is f g x e)

and_plain : (v : Bool) (f g : Bool → Set) (h k : Bool → Facts) (x y : ℕ) → (f true x ≡ true → h true y ≡ true) → (g true x ≡ true → k true y ≡ true) →
    (if v then either (f true) (g true) else none) x ≡ true → (if v then both (h true) (k true) else no_facts) y ≡ true
and_plain true f g h k x y i j e = either_plain (f true) (g true) (h true) (k true) x y i j e
and_plain false f g h k x y i j e = not_none x e

or_plain : (v : Bool) (f g : Bool → Set) (h k : Bool → Facts) (x y : ℕ) → (f false x ≡ true → h false y ≡ true) → (g false x ≡ true → k false y ≡ true) →
    (if v then none else either (f false) (g false)) x ≡ true → (if v then no_facts else both (h false) (k false)) y ≡ true
or_plain true f g h k x y i j e = not_none x e
or_plain false f g h k x y i j e = either_plain (f false) (g false) (h false) (k false) x y i j e

operation_plain : (ns : Numbers) (o : Operator) (v : Bool) (a b : ExprTree) (h k : Bool → Facts) (x : ℕ) → ((u : Bool) → says a u x ≡ true → h u (number ns x) ≡ true) → ((u : Bool) → says b u x ≡ true → k u (number ns x) ≡ true) →
    told.operation_says o v a b (says a) (says b) x ≡ true → operation_facts o v (plain ns a) (plain ns b) h k (number ns x) ≡ true
operation_plain ns op.And v a b h k x i j e = and_plain v (says a) (says b) h k x (number ns x) (i true) (j true) e
operation_plain ns op.Or v a b h k x i j e = or_plain v (says a) (says b) h k x (number ns x) (i false) (j false) e
operation_plain ns op.NotEqual v a b h k x i j e = compared_plain ns v a b x e
operation_plain ns op.Equal v a b h k x i j e = compared_plain ns (not v) a b x e
operation_plain ns o v a b h k x i j e = not_none x e

-- a test that stays as it is says what it said
pub plain_says : (ns : Numbers) (l : Known) (e : ExprTree) (v : Bool) (x : ℕ) → says e v x ≡ true → learned l (plain ns e) v (number ns x) ≡ true
plain_says ns l (NotOf p e) v x h = plain_says ns l e (not v) x h
plain_says ns l (BinaryOf p o a b) v x h = operation_plain ns o v a b (learned l (plain ns a)) (learned l (plain ns b)) x (λ u. plain_says ns l a u x) (λ u. plain_says ns l b u x) h
plain_says ns l (IsOf p e t) v x h = let parts = on_set v (the_local e) x h in and_from _ _ parts.0 (local_number ns e x parts.1)
plain_says ns l e v x h = not_none x h

module _ (z : Frame) where
  -- ---- it says it of locals of the body

  the_local_mine : (e : ExprTree) (x : ℕ) → is_own_local z e ≡ true → the_local e x ≡ true → z.mine x ≡ true
  the_local_mine (LocalOf p y t) x f h = ap z.mine (sym (eqb-true y x (only_same y x h))) ∙ f
  the_local_mine e x f h = not_none x h

  compared_mine : (d : Bool) (a b : ExprTree) (x : ℕ) → implied (is_null b) (is_own_local z a) ≡ true → told.compared d a b x ≡ true → z.mine x ≡ true
  compared_mine d a b x f h =
      let parts = on_set (d && is_null b) (the_local a) x h in
      the_local_mine a x (implied_true (is_null b) (is_own_local z a) f (and_parts d (is_null b) parts.0).1) parts.1

  either_mine : (f g : Set) (x : ℕ) (m : Bool) → (f x ≡ true → m ≡ true) → (g x ≡ true → m ≡ true) → either f g x ≡ true → m ≡ true
  either_mine f g x m i j e = of_or (f x) (g x) m i j (either_is f g x e)

  and_mine : (v : Bool) (f g : Bool → Set) (x : ℕ) (m : Bool) → (f true x ≡ true → m ≡ true) → (g true x ≡ true → m ≡ true) → (if v then either (f true) (g true) else none) x ≡ true → m ≡ true
  and_mine true f g x m i j e = either_mine (f true) (g true) x m i j e
  and_mine false f g x m i j e = not_none x e

  or_mine : (v : Bool) (f g : Bool → Set) (x : ℕ) (m : Bool) → (f false x ≡ true → m ≡ true) → (g false x ≡ true → m ≡ true) → (if v then none else either (f false) (g false)) x ≡ true → m ≡ true
  or_mine true f g x m i j e = not_none x e
  or_mine false f g x m i j e = either_mine (f false) (g false) x m i j e

  operation_mine : (o : Operator) (v : Bool) (a b : ExprTree) (x : ℕ) → implied (is_null b) (is_own_local z a) ≡ true → ((u : Bool) → says a u x ≡ true → z.mine x ≡ true) → ((u : Bool) → says b u x ≡ true → z.mine x ≡ true) →
      told.operation_says o v a b (says a) (says b) x ≡ true → z.mine x ≡ true
  operation_mine op.And v a b x f i j e = and_mine v (says a) (says b) x (z.mine x) (i true) (j true) e
  operation_mine op.Or v a b x f i j e = or_mine v (says a) (says b) x (z.mine x) (i false) (j false) e
  operation_mine op.NotEqual v a b x f i j e = compared_mine v a b x f e
  operation_mine op.Equal v a b x f i j e = compared_mine (not v) a b x f e
  operation_mine o v a b x f i j e = not_none x e

  pub says_mine : (e : ExprTree) (v : Bool) (x : ℕ) → fits z e ≡ true → says e v x ≡ true → z.mine x ≡ true
  says_mine (NotOf p e) v x f h = says_mine e (not v) x f h
  says_mine (BinaryOf p o a b) v x f h =
      let both = and_parts (implied (is_null b) (is_own_local z a) && fits z a) (fits z b) f in
      let left = and_parts (implied (is_null b) (is_own_local z a)) (fits z a) both.0 in
      operation_mine o v a b x left.0 (λ u. says_mine a u x left.1) (λ u. says_mine b u x both.1) h
  says_mine (IsOf p e t) v x f h = the_local_mine e x (and_parts (is_own_local z e) (fits z e) f).0 (on_set v (the_local e) x h).1
  says_mine e v x f h = not_none x h

  -- ---- never null

  module _ (agrees : Agrees z) (k : source.Known) (l : Known) (covers : Covers z k l) where
    pub set_field : (e : core.ExprTree) (o : ExprTree) (f : ℕ) → (not z.body.flags.ctor || is_this o && z.fields f || z.free || not (is_this_object e)) ≡ true →
        (not z.context.constructs || not z.context.in_old && (not (is_this o) || has_field z.context.numbers k.fields f)) ≡ true →
        (not z.body.flags.ctor || not false && (not (is_this_object e) || l.fields f)) ≡ true
    set_field e o f reads h = by z.body.flags.ctor agrees.constructs (is_this o) reads h
      where
        ready : (own : Bool) → (own || z.free || not (is_this_object e)) ≡ true → (own ≡ true → l.fields f ≡ true) → (not (is_this_object e) || l.fields f) ≡ true
        ready true h g = or_right _ _ (g refl)
        ready false h g = of_or z.free (not (is_this_object e)) _ (λ free. or_right _ _ (covers.free free f)) (λ other. or_left _ _ other) h

        by : (c : Bool) → z.context.constructs ≡ c → (own : Bool) → (not c || own && z.fields f || z.free || not (is_this_object e)) ≡ true →
            (not z.context.constructs || not z.context.in_old && (not own || has_field z.context.numbers k.fields f)) ≡ true → (not c || not false && (not (is_this_object e) || l.fields f)) ≡ true
        by false i own reads h = refl
        by true i own reads h =
            let there : (not true || not z.context.in_old && (not own || has_field z.context.numbers k.fields f)) ≡ true = ap (λ b. not b || not z.context.in_old && (not own || has_field z.context.numbers k.fields f)) (sym i) ∙ h in
            let set = (and_parts (not z.context.in_old) (not own || has_field z.context.numbers k.fields f) there).1 in
            ready (own && z.fields f) reads (λ g. let both = and_parts own (z.fields f) g in covers.fields f both.1 (ap (λ b. not b || has_field z.context.numbers k.fields f) (sym both.0) ∙ set))

    pub plain_never : (e : ExprTree) → fits z e ≡ true → has_call e ≡ false → source.is_never_null z.context (Some k) e ≡ true → is_never_null (site_of z.program z.body) l false (plain z.numbers e) ≡ true
    plain_never (ThisOf p t) f n h = or_left _ _ f
    plain_never (LocalOf p x t) f n h =
        or_more (fields.is_non_null t) (k.facts x) _ _ (implied_true (fields.is_non_null t) _ (and_parts (implied (fields.is_non_null t) (is_non_null_type (local_type z (number z.numbers x)))) (implied (z.mine x) (is_class_type t)) f).0) (covers.facts x) h
    plain_never (FieldOf p e g t) f n h =
        let one = and_parts (implied (fields.is_non_null t) (is_non_null (field_type z.program.classes g))) (reads_set z e g && fits z e) f in
        let two = and_parts (reads_set z e g) (fits z e) one.1 in
        and_more (fields.is_non_null t) _ _ _ (implied_true (fields.is_non_null t) _ one.0) (set_field (plain z.numbers e) e g two.0) h
    plain_never (CastOf p t non_null e) f n h = h
    plain_never (OldOf p e) f n h = absurd (false≢true f)
    plain_never (ResultOf p t) f n h = absurd (false≢true f)
    plain_never (NewOf p t es) f n h = absurd (false≢true (sym n))
    plain_never (NewArrayOf p t e) f n h = absurd (false≢true (sym n))
    plain_never (CallOf p e m t es) f n h = absurd (false≢true (sym n))
    plain_never (StaticOf p m t es) f n h = absurd (false≢true (sym n))
    plain_never (BaseOf p m t es) f n h = absurd (false≢true (sym n))
    plain_never e f n h = absurd (false≢true h)
