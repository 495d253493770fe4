-- What is known after assignments.
use Rattle.std.proofs.Common.{◌≡◌, ℕ, ◌-◌, [], ◌∷◌, ◌++◌, Bool, true, false, Option, Some, None, refl, sym, ◌∙◌, ap, arith}
use Rattle.std.specs.Prelude.{not, ◌==◌, ◌&&◌, ◌||◌, if◌then◌else◌, is_some, nat_le, nat_lt}
use Rattle.std.proofs.lemmas.Bool.{and_parts, and_from, or_left, or_right, eq-eqb, eqb-true, ne_eqb, leb-true, false≢true}
use Rattle.ss_core.specs.declared.names.Place.{Place}
use Rattle.ss_core.specs.declared.names.Ty.{Ty}
use Rattle.ss_core.specs.declared.names.Ty.TheVariants as ty
use Rattle.ss_core.specs.Tree as core
use Rattle.ss_core.specs.Tree.{LocalExpr, WriteStmt, WriteElementStmt}
use Rattle.ss_core.specs.Chain.{DeclaredField}
use Rattle.ss_core.specs.Types.{is_class_type}
use Rattle.ss_typed.specs.Tree.{ExprTree, ThisOf, LocalOf, FieldOf, CastOf, OldOf, ResultOf, NewOf, NewArrayOf, CallOf, StaticOf, BaseOf}
use Rattle.ss_typed.specs.Types.{type_of}
use Rattle.ss_paths.specs.Sets.{Set, put}
use Rattle.ss_paths.specs.Fields as fields
use Rattle.ss_paths.specs.Fields.{Numbers, is_among}
use Rattle.ss_paths.specs.Assigned.{Assigned, has_field, own_assigned}
use Rattle.ss_typed.specs.Shapes.{is_this}
use Rattle.ss_nonnull_rules.specs.NonNull as source
use Rattle.ss_expand_rules.specs.Numbers.{number}
use Rattle.ss_expand_rules.specs.Lifting as lifting
use Rattle.ss_expand_rules.specs.Lifting.{Lifted, Valued}
use Rattle.ss_expand_rules.specs.Simple.{write_of}
use Rattle.ss_store_rules.specs.Admissible as admissible
use Rattle.ss_store_rules.specs.Changes.{field_type}
use Rattle.ss_store_rules.specs.Good.{is_non_null}
use Rattle.ss_store_rules.specs.NonNull.{Known, is_non_null_type}
use Rattle.ss_expand_formed.proofs.Shape.{Code}
use Rattle.ss_expand_formed.specs.Fitting.{Frame, implied, local_type, fits, is_reference_type, Agrees, Covers}
use Rattle.ss_expand_formed.proofs.NullsPlain.{implied_true}
use Rattle.ss_expand_formed.proofs.Putting.{Runs, runs_nothing, runs_join, runs_one, putting, put_facts, put_runs, put_field}
use Rattle.ss_expand_formed.proofs.Lifted.{never_in, core_never, Lifts}

put_is : (x : ℕ) (b : Bool) (f : Set) (y : ℕ) → put x b f y ≡ true → (if x == y then b else f y) ≡ true
unfolding put
put_is x b f y h = h

by_test : {P : Type 0} (c a b : Bool) → (c ≡ true → a ≡ true → P) → (c ≡ false → b ≡ true → P) → (if c then a else b) ≡ true → P
by_test true a b f g h = f refl h
by_test false a b f g h = g refl h

-- ---- fields of `this`

-- two fields of the class with one place in it are the same
same_field : (n : Numbers) (f g : ℕ) → is_among n f ≡ true → is_among n g ≡ true → (f - n.first == g - n.first) ≡ true → (g == f) ≡ true
same_field n f g h i e =
    let one = leb-true n.first f (and_parts (nat_le n.first f) (nat_lt (f - n.first) n.count) h).0 in
    let two = leb-true n.first g (and_parts (nat_le n.first g) (nat_lt (g - n.first) n.count) i).0 in
    let d = eqb-true (f - n.first) (g - n.first) e in
    eq-eqb g f (omega arith)

-- a field that has its value after an assignment had it before, or it is the one on the left
assigned_has : {P : Type 0} (n : Numbers) (a : Assigned) (o : ExprTree) (f g : ℕ) → (has_field n a g ≡ true → P) → (is_this o ≡ true → (g == f) ≡ true → P) →
    (b : Bool) → (is_this o && is_among n f) ≡ b → has_field n (record a { own = if b then put (f - n.first) true a.own else a.own }) g ≡ true → P
assigned_has n a o f g old new false e h = old h
assigned_has {P = P} n a o f g old new true e h = by (is_among n g) refl h
  where
    by : (c : Bool) → is_among n g ≡ c → (if c then put (f - n.first) true a.own (g - n.first) else a.above) ≡ true → P
    by false i j = old (ap (λ c. if c then a.own (g - n.first) else a.above) i ∙ j)
    by true i j =
        let both = and_parts (is_this o) (is_among n f) e in
        by_test (f - n.first == g - n.first) true (a.own (g - n.first)) (λ c k. new both.0 (same_field n f g both.1 i c)) (λ c k. old (ap (λ c. if c then a.own (g - n.first) else a.above) i ∙ k)) (put_is (f - n.first) true a.own (g - n.first) j)

result_never : (t : Option Ty) → is_reference_type t ≡ false → source.is_non_null_type t ≡ false
result_never None h = refl
result_never (Some ty.Int) h = refl
result_never (Some ty.Bool) h = refl
result_never (Some ty.Null) h = refl
result_never (Some (ty.Ref t non_null)) h = absurd (false≢true (sym h))

module _ (z : Frame) (agrees : Agrees z) where
  -- what runs to its end, with what is known there
  pub record Done (l : Known) (k : source.Known) (xs : Code) : Type 0 where
    pub now : Known
    pub runs : Runs z l xs now
    pub covers : Covers z k now

  pub done_join : (l : Known) (k m : source.Known) (xs ys : Code) → (h : Done l k xs) → Done h.now m ys → Done l m (xs ++ ys)
  done_join l k m xs ys h g = record { now = g.now; runs = runs_join z l h.now g.now xs ys h.runs g.runs; covers = g.covers }

  pub done_nothing : (l : Known) (k : source.Known) → Covers z k l → Done l k []
  done_nothing l k c = record { now = l; runs = runs_nothing z l; covers = c }

  -- ---- values that are no references

  pub value_never : (k : source.Known) (l : Known) → Covers z k l → (e : ExprTree) → fits z e ≡ true → is_reference_type (type_of e) ≡ false → never_in z agrees k e ≡ false
  value_never k l c (ThisOf p t) f h = absurd (false≢true (sym h))
  value_never k l c (LocalOf p x t) f h =
      let kind = (and_parts (implied (fields.is_non_null t) (is_non_null_type (local_type z (number z.numbers x)))) (implied (z.mine x) (is_class_type t)) f).1 in
      by t h (k.facts x) refl (λ i. implied_true (z.mine x) (is_class_type t) kind (c.mine x i))
    where
      by : (t : Ty) → is_class_type t ≡ false → (b : Bool) → k.facts x ≡ b → (b ≡ true → is_class_type t ≡ true) → (fields.is_non_null t || k.facts x) ≡ false
      by ty.Int h false e g = e
      by ty.Bool h false e g = e
      by ty.Null h false e g = e
      by ty.Int h true e g = absurd (false≢true (g refl))
      by ty.Bool h true e g = absurd (false≢true (g refl))
      by ty.Null h true e g = absurd (false≢true (g refl))
      by (ty.Ref u non_null) h b e g = absurd (false≢true (sym h))
  value_never k l c (FieldOf p e g t) f h = by t h
    where
      by : (t : Ty) → is_class_type t ≡ false → (fields.is_non_null t && source.field_is_set z.context (Some k) e g) ≡ false
      by ty.Int h = refl
      by ty.Bool h = refl
      by ty.Null h = refl
      by (ty.Ref u non_null) h = absurd (false≢true (sym h))
  value_never k l c (CastOf p t non_null e) f h = absurd (false≢true (sym h))
  value_never k l c (OldOf p e) f h = absurd (false≢true f)
  value_never k l c (ResultOf p t) f h = absurd (false≢true f)
  value_never k l c (NewOf p t es) f h = absurd (false≢true (sym h))
  value_never k l c (NewArrayOf p t e) f h = absurd (false≢true (sym h))
  value_never k l c (CallOf p e m t es) f h = result_never t h
  value_never k l c (StaticOf p m t es) f h = result_never t h
  value_never k l c (BaseOf p m t es) f h = result_never t h
  value_never k l c e f h = refl

  -- ---- locals

  -- the local x, which is X in the elaboration, is assigned what isn't null, or what may be
  pub into_known : (k : source.Known) (l : Known) (e : ExprTree) (d : Lifted) (p : Place) (x X : ℕ) → number z.numbers x ≡ X → z.locals x ≡ true → Lifts z agrees k l e d → (never_in z agrees k e ≡ true → z.mine x ≡ true) →
      (is_non_null_type (local_type z X) ≡ true → never_in z agrees k e ≡ true) → Done l (record k { facts = put x (never_in z agrees k e) k.facts }) (d.code ++ lifting.put p X d.source ∷ [])
  into_known k l e d p x X is own h mine stand =
      let now = putting z p X d.source h.now in
      record {
        now = now;
        runs = runs_join z l h.now now d.code (lifting.put p X d.source ∷ []) h.runs (put_runs z p X d.source h.now h.enters (λ i. h.never (stand i)));
        covers = record {
          facts = λ y i.
              by_test (x == y) (never_in z agrees k e) (k.facts y)
              (λ same n. put_facts z p X d.source h.now (number z.numbers y) ∙ rw (eq-eqb X (number z.numbers y) (sym is ∙ ap (number z.numbers) (eqb-true x y same))) (h.never n))
              (λ other g. put_facts z p X d.source h.now (number z.numbers y) ∙ rw (differ y (h.covers.mine y g) other) (h.covers.facts y g))
              (put_is x (never_in z agrees k e) k.facts y i);
          mine = λ y i. by_test (x == y) (never_in z agrees k e) (k.facts y) (λ same n. ap z.mine (sym (eqb-true x y same)) ∙ mine n) (λ other g. h.covers.mine y g) (put_is x (never_in z agrees k e) k.facts y i);
          fields = λ f o i. put_field z p X d.source h.now f (h.covers.fields f o i);
          free = λ i f. put_field z p X d.source h.now f (h.covers.free i f);
        };
      }
    where
      differ : (y : ℕ) → z.mine y ≡ true → (x == y) ≡ false → (X == number z.numbers y) ≡ false
      differ y m other = ne_eqb X (number z.numbers y) (λ e. absurd (false≢true (sym other ∙ eq-eqb x y (agrees.apart x y own (agrees.known y m) (is ∙ e)))))

  -- the same where nothing is known of the local
  pub over_known : (k : source.Known) (l : Known) (e : ExprTree) (d : Lifted) (p : Place) (x : ℕ) → z.locals x ≡ true → z.mine x ≡ false → Lifts z agrees k l e d →
      (is_non_null_type (local_type z (number z.numbers x)) ≡ true → never_in z agrees k e ≡ true) → Done l k (d.code ++ lifting.put p (number z.numbers x) d.source ∷ [])
  over_known k l e d p x own none h stand =
      let X = number z.numbers x in
      let now = putting z p X d.source h.now in
      record {
        now = now;
        runs = runs_join z l h.now now d.code (lifting.put p X d.source ∷ []) h.runs (put_runs z p X d.source h.now h.enters (λ i. h.never (stand i)));
        covers = record {
          facts = λ y g. put_facts z p X d.source h.now (number z.numbers y) ∙ rw (differ y (h.covers.mine y g)) (h.covers.facts y g);
          mine = h.covers.mine;
          fields = λ f o i. put_field z p X d.source h.now f (h.covers.fields f o i);
          free = λ i f. put_field z p X d.source h.now f (h.covers.free i f);
        };
      }
    where
      differ : (y : ℕ) → z.mine y ≡ true → (number z.numbers x == number z.numbers y) ≡ false
      differ y m = ne_eqb (number z.numbers x) (number z.numbers y) (λ e. absurd (false≢true (sym none ∙ ap z.mine (agrees.apart x y own (agrees.known y m) e) ∙ m)))

  -- ---- fields

  stands : (u : Ty) (m : Known) (v : core.ExprTree) → (is_non_null u ≡ true → core_never z agrees m v ≡ true) → (not (is_non_null u) || core_never z agrees m v) ≡ true
  stands u m v h = by (is_non_null u) refl
    where
      by : (b : Bool) → is_non_null u ≡ b → (not b || core_never z agrees m v) ≡ true
      by true i = h i
      by false i = refl

  -- a write keeps what is known
  pub write_keeps : (k : source.Known) (l : Known) (p : Place) (o : core.ExprTree) (f : ℕ) (d : Option DeclaredField) (v : core.ExprTree) → Covers z k l → (is_non_null (field_type z.program.classes f) ≡ true → core_never z agrees l v ≡ true) → Done l k (write_of p o f d v)
  write_keeps k l p o f None v c h = done_nothing l k c
  write_keeps k l p o f (Some d) v c h = record {
    now = _;
    runs = runs_one z l _ (WriteStmt p o f d.field.mark d.class v) refl (stands (field_type z.program.classes f) l v h);
    covers = record { facts = c.facts; mine = c.mine; fields = λ g i j. or_left _ _ (c.fields g i j); free = λ i g. or_left _ _ (c.free i g) };
  }

  -- the field of an object is assigned, which is `this` in the elaboration if it is here
  pub write_known : (k : source.Known) (l : Known) (p : Place) (o : ExprTree) (q : core.ExprTree) (f : ℕ) (t : Ty) (d : Option DeclaredField) (v : core.ExprTree) → is_some d ≡ true → (is_this o ≡ true → admissible.is_this q ≡ true) → Covers z k l →
      (is_non_null (field_type z.program.classes f) ≡ true → core_never z agrees l v ≡ true) → Done l (record k { fields = record k.fields { own = own_assigned z.context.numbers (FieldOf p o f t) k.fields.own } }) (write_of p q f d v)
  write_known k l p o q f t None v there this c h = absurd (false≢true there)
  write_known k l p o q f t (Some d) v there this c h = record {
    now = _;
    runs = runs_one z l _ (WriteStmt p q f d.field.mark d.class v) refl (stands (field_type z.program.classes f) l v h);
    covers = record {
      facts = c.facts;
      mine = c.mine;
      fields = λ g i j. assigned_has z.context.numbers k.fields o f g (λ old. or_left _ _ (c.fields g i old)) (λ own same. or_right _ _ (and_from _ _ (this own) same)) (is_this o && is_among z.context.numbers f) refl j;
      free = λ i g. or_left _ _ (c.free i g);
    };
  }
