-- Expressions with calls: what is lifted out of them keeps nulls out, and their values are known as the phase of null knows them.
use Rattle.std.proofs.Common.{◌≡◌, ℕ, ◌+◌, ◌<◌, ◌≤◌, List, [], ◌∷◌, ◌++◌, length, Bool, true, false, Option, Some, None, refl, sym, ◌∙◌, ap, arith}
use Rattle.std.specs.Prelude.{not, ◌==◌, ◌&&◌, ◌||◌, if◌then◌else◌}
use Rattle.std.proofs.lemmas.Bool.{and_parts, and_from, or_left, or_right, eq-eqb, ne_eqb, false≢true}
use Rattle.ss_core.specs.declared.names.Place.{Place}
use Rattle.ss_core.specs.declared.names.Ty.{Ty}
use Rattle.ss_core.specs.declared.names.Ty.TheVariants as ty
use Rattle.ss_core.specs.Tree as core
use Rattle.ss_core.specs.Tree.{LocalExpr, NotExpr, BinaryExpr, IfStmt, NoCode}
use Rattle.ss_core.specs.View.{code_of}
use Rattle.ss_typed.specs.Tree.{ExprTree, ImpliesOf, BinaryOf}
use Rattle.ss_typed.specs.Types.{type_of}
use Rattle.ss_paths.specs.Assigned.{has_field}
use Rattle.ss_nonnull_rules.specs.NonNull as source
use Rattle.ss_nonnull_rules.specs.Facts.{says}
use Rattle.ss_expand_rules.specs.Numbers.{Numbers, number, plain}
use Rattle.ss_expand_rules.specs.Calls.{has_call, is_lazy}
use Rattle.ss_typed.specs.Shapes.{place_of}
use Rattle.ss_expand_rules.specs.Lifting.{Source, Pure, Created, CreatedArray, Called, put, Lifted, Valued, unlifted, next, temporary_type, any_object, in_temporary, valued_from, valued, lifted_of, operand, unary, binary_with, lazily}
use Rattle.ss_store_rules.specs.Good.{is_non_null}
use Rattle.ss_store_rules.specs.Paths.{met}
use Rattle.ss_store_rules.specs.NonNull.{Facts, both, Known, side_facts, learned, tells, known_tested, site_of, is_this_object, is_never_null, at_this_end, side_met, known_met}
use Rattle.ss_expand_formed.specs.Fitting.{Frame, local_type, fits, Agrees, Covers, HasMade}
use Rattle.ss_expand_formed.proofs.Growing.{Begins, begins_append, last_at, valued_from_begins}
use Rattle.ss_expand_formed.proofs.NullsPlain.{plain_says, plain_never}
use Rattle.ss_expand_formed.proofs.Putting.{temporary_nullable, flow, source_says, source_never, source_enters, source_is_this, Runs, runs_nothing, runs_join, runs_one, putting, put_facts, put_sides, put_runs, nullable_local, put_covers}

module _ (z : Frame) (agrees : Agrees z) where
  abbrev pub ns : Numbers
  ns = z.numbers

  abbrev pub at : ℕ → ℕ
  at x = number ns x

  abbrev pub never_in : source.Known → ExprTree → Bool
  never_in k e = source.is_never_null z.context (Some k) e

  abbrev pub core_never : Known → core.ExprTree → Bool
  core_never l e = is_never_null (site_of z.program z.body) l false e

  -- ---- what is said of a value

  -- what the expression is lifted to, where this is known before it
  pub record Lifts (k : source.Known) (l : Known) (e : ExprTree) (d : Lifted) : Type 0 where
    pub now : Known
    pub runs : Runs z l d.code now
    pub covers : Covers z k now
    pub told : (v : Bool) (x : ℕ) → says e v x ≡ true → source_says z now d.source v (at x) ≡ true
    pub never : never_in k e ≡ true → source_never z now d.source ≡ true
    pub enters : source_enters z now d.source ≡ true
    pub other : is_lazy e ≡ true → z.body.flags.ctor ≡ true → source_is_this z d.source ≡ false

  pub record Values (k : source.Known) (l : Known) (e : ExprTree) (v : Valued) : Type 0 where
    pub now : Known
    pub runs : Runs z l v.code now
    pub covers : Covers z k now
    pub told : (u : Bool) (x : ℕ) → says e u x ≡ true → learned now v.value u (at x) ≡ true
    pub never : never_in k e ≡ true → core_never now v.value ≡ true

  -- a temporary made so far, which isn't null
  pub record Held (v : Valued) (now : Known) : Type 0 where
    pub place : Place
    pub local : ℕ
    pub is : v.value ≡ LocalExpr place local
    pub below : local < ns.first_temporary + length v.made
    pub fact : now.facts local ≡ true

  pub record Operands (k : source.Known) (l : Known) (e : ExprTree) (v : Valued) : Type 0 where
    pub values : Values k l e v
    pub held : never_in k e ≡ true → Held v values.now
    pub other : z.body.flags.ctor ≡ true → is_this_object v.value ≡ false

  -- ---- temporaries

  made_one : (ts : List Ty) (t : Ty) → length (ts ++ t ∷ []) ≡ length ts + 1
  made_one [] t = refl
  made_one (u ∷ ts) t = let e = made_one ts t in omega arith

  pub made_before : (ts us : List Ty) → Begins ts us → HasMade z us → HasMade z ts
  made_before ts us h m i t e = m i t (h i t e)

  pub not_this : (x : ℕ) → (z.body.flags.ctor ≡ true → 0 < x) → z.body.flags.ctor ≡ true → (x == 0) ≡ false
  not_this x h c = let l = h c in ne_eqb x 0 (λ e. omega arith)

  pub temporary : (k : source.Known) (l : Known) (e : ExprTree) (p : Place) (t : Ty) (d : Lifted) → Lifts k l e d → HasMade z (d.made ++ t ∷ []) → is_non_null t ≡ false → Operands k l e (in_temporary ns p t d)
  temporary k l e p t d h made null =
      let x = next ns d.made in
      let kind = made (length d.made) t (last_at d.made t) in
      let now = putting z p x d.source h.now in
      let fact : now.facts x ≡ source_never z h.now d.source = put_facts z p x d.source h.now x ∙ rw (eq-eqb x x refl) refl in
      let v = in_temporary ns p t d in
      let size = made_one d.made t in
      record {
        values = record {
          now = now;
          runs = runs_join z l h.now now d.code (put p x d.source ∷ []) h.runs (put_runs z p x d.source h.now h.enters (nullable_local z x t kind null));
          covers = put_covers z agrees p x d.source k h.now (omega arith) h.covers;
          told = λ u y i. ap (λ o. side_facts o (at y)) (put_sides z p x d.source h.now u) ∙ h.told u y i;
          never = λ i. or_right _ _ (fact ∙ h.never i);
        };
        held = λ i. record { place = p; local = x; is = refl; below = omega arith; fact = fact ∙ h.never i };
        other = not_this x (λ c. let l = agrees.after_this c in omega arith);
      }

  pub valued_known : (k : source.Known) (l : Known) (e : ExprTree) (d : Lifted) → Lifts k l e d → HasMade z (valued ns e d).made → Values k l e (valued ns e d)
  valued_known k l e d h made = by d.source refl made
    where
      by : (src : Source) → d.source ≡ src → HasMade z (valued_from ns e d src).made → Values k l e (valued_from ns e d src)
      by (Pure v) is m = record {
        now = h.now;
        runs = h.runs;
        covers = h.covers;
        told = λ u x i. ap (λ s. source_says z h.now s u (at x)) (sym is) ∙ h.told u x i;
        never = λ i. ap (source_never z h.now) (sym is) ∙ h.never i;
      }
      by (Created p t es) is m = (temporary k l e (place_of e) (temporary_type any_object (type_of e)) d h m (temporary_nullable any_object (type_of e))).values
      by (CreatedArray p t n) is m = (temporary k l e (place_of e) (temporary_type any_object (type_of e)) d h m (temporary_nullable any_object (type_of e))).values
      by (Called p callee es) is m = (temporary k l e (place_of e) (temporary_type any_object (type_of e)) d h m (temporary_nullable any_object (type_of e))).values

  lazy_other : (k : source.Known) (l : Known) (e : ExprTree) (d : Lifted) → is_lazy e ≡ true → Lifts k l e d → (z.body.flags.ctor ≡ true → 0 < next ns d.made) → z.body.flags.ctor ≡ true → is_this_object (valued ns e d).value ≡ false
  lazy_other k l e d lazy h low c = by d.source refl
    where
      by : (src : Source) → d.source ≡ src → is_this_object (valued_from ns e d src).value ≡ false
      by (Pure v) is = ap (source_is_this z) (sym is) ∙ h.other lazy c
      by (Created p t es) is = not_this (next ns d.made) low c
      by (CreatedArray p t n) is = not_this (next ns d.made) low c
      by (Called p callee es) is = not_this (next ns d.made) low c

  -- ---- operands

  lazy_never : {X : Type 0} (e : ExprTree) → is_lazy e ≡ true → (k : source.Known) → never_in k e ≡ true → X
  lazy_never (ImpliesOf p a b) lazy k h = absurd (false≢true h)
  lazy_never (BinaryOf p o a b) lazy k h = absurd (false≢true h)
  lazy_never e lazy k h = absurd (false≢true lazy)

  lazy_plain : (e : ExprTree) → is_lazy e ≡ true → is_this_object (plain ns e) ≡ false
  lazy_plain (ImpliesOf p a b) lazy = refl
  lazy_plain (BinaryOf p o a b) lazy = refl
  lazy_plain e lazy = absurd (false≢true lazy)

  plain_lifts : (k : source.Known) (l : Known) (e : ExprTree) (made : List Ty) → Covers z k l → fits z e ≡ true → has_call e ≡ false → Lifts k l e (unlifted (plain ns e) made)
  plain_lifts k l e made h f n = record {
    now = l;
    runs = runs_nothing z l;
    covers = h;
    told = λ v x i. plain_says ns l e v x i;
    never = plain_never z agrees k l h e f n;
    enters = refl;
    other = λ lazy c. lazy_plain e lazy;
  }

  pub lifted_of_known : (k : source.Known) (l : Known) (e : ExprTree) (f : List Ty → Lifted) (made : List Ty) → Covers z k l → fits z e ≡ true → HasMade z (lifted_of ns e f made).made →
      (has_call e ≡ true → HasMade z (f made).made → Lifts k l e (f made)) → Lifts k l e (lifted_of ns e f made)
  lifted_of_known k l e f made h g m rec = by (has_call e) refl m
    where
      by : (b : Bool) → has_call e ≡ b → HasMade z (if b then f made else unlifted (plain ns e) made).made → Lifts k l e (if b then f made else unlifted (plain ns e) made)
      by true i m = rec i m
      by false i m = plain_lifts k l e made h g i

  pub operand_known : (k : source.Known) (l : Known) (t : Ty) (e : ExprTree) (f : List Ty → Lifted) (made : List Ty) → Covers z k l → fits z e ≡ true → HasMade z (operand ns t e f made).made →
      (has_call e ≡ true → HasMade z (f made).made → Lifts k l e (f made)) → Operands k l e (operand ns t e f made)
  operand_known k l t e f made h g m rec = by (is_lazy e && has_call e) refl m
    where
      kind : Ty
      kind = temporary_type t (type_of e)

      by : (b : Bool) → (is_lazy e && has_call e) ≡ b → HasMade z (if b then valued ns e (f made) else in_temporary ns (place_of e) kind (lifted_of ns e f made)).made →
          Operands k l e (if b then valued ns e (f made) else in_temporary ns (place_of e) kind (lifted_of ns e f made))
      by true i m =
          let parts = and_parts (is_lazy e) (has_call e) i in
          let d = rec parts.1 (made_before (f made).made (valued ns e (f made)).made (valued_from_begins ns e (f made) (f made).source) m) in
          record {
            values = valued_known k l e (f made) d m;
            held = λ n. lazy_never e parts.0 k n;
            other = λ c. lazy_other k l e (f made) parts.0 d (λ c. let l = agrees.after_this c in omega arith) c;
          }
      by false i m =
          let d = lifted_of ns e f made in
          temporary k l e (place_of e) kind d (lifted_of_known k l e f made h g (made_before d.made (d.made ++ kind ∷ []) (begins_append d.made (kind ∷ [])) m) rec) m (temporary_nullable t (type_of e))

  -- ---- operations

  pub unary_known : (k : source.Known) (l : Known) (e i : ExprTree) (v : Valued) (f : core.ExprTree → core.ExprTree) → (h : Values k l i v) → ((u : Bool) (x : ℕ) → says e u x ≡ true → learned h.now (f v.value) u (at x) ≡ true) →
      (never_in k e ≡ true → core_never h.now (f v.value) ≡ true) → (is_lazy e ≡ true → z.body.flags.ctor ≡ true → is_this_object (f v.value) ≡ false) → Lifts k l e (unary f v)
  unary_known k l e i v f h told never other = record { now = h.now; runs = h.runs; covers = h.covers; told = told; never = never; enters = refl; other = other }

  pub binary_known : (k : source.Known) (l : Known) (e i j : ExprTree) (a b : Valued) (f : core.ExprTree → core.ExprTree → core.ExprTree) → (h : Values k l i a) → Values k h.now j b →
      ((m : Known) (u : Bool) (x : ℕ) → says e u x ≡ true → learned m (f a.value b.value) u (at x) ≡ true) → ((m : Known) → never_in k e ≡ true → core_never m (f a.value b.value) ≡ true) →
      (is_lazy e ≡ true → z.body.flags.ctor ≡ true → is_this_object (f a.value b.value) ≡ false) → Lifts k l e (binary_with f a b)
  binary_known k l e i j a b f h g told never other = record {
    now = g.now;
    runs = runs_join z l h.now g.now a.code b.code h.runs g.runs;
    covers = g.covers;
    told = told g.now;
    never = never g.now;
    enters = refl;
    other = other;
  }

  -- ---- lazy operations

  -- What is known after `t = a; if (test of t) { t = b; }`, where k is known before it, and `more` where b is evaluated.
  pub record Lazy (k more : source.Known) (l : Known) (b : ExprTree) (v : Bool) (d : Lifted) (x : ℕ) : Type 0 where
    pub now : Known
    pub runs : Runs z l d.code now
    pub covers : Covers z k now
    pub left : (y : ℕ) → more.facts y ≡ true → side_facts (now.sides x v) (at y) ≡ true
    pub right : (y : ℕ) → says b v y ≡ true → side_facts (now.sides x v) (at y) ≡ true

  unless : {X : Type 0} (b : Bool) (o : Option X) → b ≡ true → (if b then None else o) ≡ None
  unless true o h = refl
  unless false o h = absurd (false≢true h)

  met_side : (k l : Known) (x : ℕ) (v : Bool) (f : Facts) → k.sides x v ≡ Some f → l.sides x v ≡ None → side_met (at_this_end k x v) (at_this_end l x v) ≡ Some (both k.facts f)
  met_side k l x v f h i = rw (h, i) refl

  module _ (p : Place) (a b : ExprTree) (v : Bool) (test : core.ExprTree → core.ExprTree) (k more : source.Known) (l : Known) (i : ExprTree) (first : Lifted) (second : List Ty → Lifted)
      (says_so : (m : Known) (e : core.ExprTree) → learned m (test e) true ≡ learned m e v)
      (tells_so : (x : ℕ) → tells (test (LocalExpr p x)) false x (not v) ≡ true)
      (h : Lifts k l i first)
      (gain : (x : ℕ) → more.facts x ≡ true → (k.facts x || says i v x) ≡ true)
      (keep : (x : ℕ) → k.facts x ≡ true → more.facts x ≡ true)
      (own : (x : ℕ) → more.facts x ≡ true → z.mine x ≡ true)
      (same : more.fields ≡ k.fields)
      (made : HasMade z (second (first.made ++ ty.Bool ∷ [])).made)
      (begins : Begins (first.made ++ ty.Bool ∷ []) (second (first.made ++ ty.Bool ∷ [])).made)
      (rec : (m : Known) → Covers z more m → Lifts more m b (second (first.made ++ ty.Bool ∷ []))) where
    abbrev x : ℕ
    x = next ns first.made

    abbrev r : Lifted
    r = second (first.made ++ ty.Bool ∷ [])

    abbrev then_known : Known
    then_known = putting z (place_of a) x first.source h.now

    abbrev taken : Known
    taken = known_tested (test (LocalExpr p x)) true then_known

    abbrev passed : Known
    passed = known_tested (test (LocalExpr p x)) false then_known

    high : ns.first_temporary ≤ x
    high = omega arith

    then_covers : Covers z k then_known
    then_covers = put_covers z agrees (place_of a) x first.source k h.now high h.covers

    tested_says : (y : ℕ) → says i v y ≡ true → learned then_known (test (LocalExpr p x)) true (at y) ≡ true
    tested_says y s = ap (λ f. f (at y)) (says_so then_known (LocalExpr p x)) ∙ ap (λ o. side_facts o (at y)) (put_sides z (place_of a) x first.source h.now v) ∙ h.told v y s

    gained : (y : ℕ) → (one said : Bool) → k.facts y ≡ one → says i v y ≡ said → (one || said) ≡ true → taken.facts (at y) ≡ true
    gained y true said e f g = or_left _ _ (then_covers.facts y e)
    gained y false said e f g = or_right _ _ (tested_says y (f ∙ g))

    taken_covers : Covers z more taken
    taken_covers = record {
      facts = λ y g. gained y (k.facts y) (says i v y) refl refl (gain y g);
      mine = own;
      fields = λ f o g. then_covers.fields f o (ap (λ s. has_field z.context.numbers s f) (sym same) ∙ g);
      free = λ g f. then_covers.free g f;
    }

    inner : Lifts more taken b r
    inner = rec taken taken_covers

    abbrev last : Known
    last = putting z (place_of b) x r.source inner.now

    last_covers : Covers z more last
    last_covers = put_covers z agrees (place_of b) x r.source more inner.now high inner.covers

    kind : local_type z x ≡ Some ty.Bool
    kind = made (length first.made) ty.Bool (begins (length first.made) ty.Bool (last_at first.made ty.Bool))

    abbrev now : Known
    now = known_met last passed

    inside : Runs z taken (r.code ++ put (place_of b) x r.source ∷ []) last
    inside = runs_join z taken inner.now last r.code (put (place_of b) x r.source ∷ []) inner.runs (put_runs z (place_of b) x r.source inner.now inner.enters (nullable_local z x ty.Bool kind refl))

    abbrev branch : core.StmtTree
    branch = IfStmt p (test (LocalExpr p x)) (code_of (r.code ++ put (place_of b) x r.source ∷ [])) NoCode

    branch_runs : Runs z then_known (branch ∷ []) now
    branch_runs = runs_one z then_known now branch (ap (λ o. met (flow z) o (Some passed)) inside.at) (and_from _ _ inside.checked refl)

    front : Runs z l (first.code ++ put (place_of a) x first.source ∷ []) then_known
    front = runs_join z l h.now then_known first.code (put (place_of a) x first.source ∷ []) h.runs (put_runs z (place_of a) x first.source h.now h.enters (nullable_local z x ty.Bool kind refl))

    now_side : now.sides x v ≡ Some (both last.facts (source_says z inner.now r.source v))
    now_side = met_side last passed x v (source_says z inner.now r.source v) (put_sides z (place_of b) x r.source inner.now v) (unless (tells (test (LocalExpr p x)) false x (not v)) (then_known.sides x v) (tells_so x))

    now_covers : Covers z k now
    now_covers = record {
      facts = λ y g. and_from _ _ (last_covers.facts y (keep y g)) (or_left _ _ (then_covers.facts y g));
      mine = then_covers.mine;
      fields = λ f o g. and_from _ _ (last_covers.fields f o (ap (λ s. has_field z.context.numbers s f) same ∙ g)) (then_covers.fields f o g);
      free = λ g f. and_from _ _ (last_covers.free g f) (then_covers.free g f);
    }

    pub lazily_known : Lazy k more l b v (lazily ns p a b test first second) x
    lazily_known = record {
      now = now;
      runs = runs_join z l then_known now (first.code ++ put (place_of a) x first.source ∷ []) (branch ∷ []) front branch_runs;
      covers = now_covers;
      left = λ y g. ap (λ o. side_facts o (at y)) now_side ∙ or_left _ _ (last_covers.facts y g);
      right = λ y g. ap (λ o. side_facts o (at y)) now_side ∙ or_right _ _ (inner.told v y g);
    }
