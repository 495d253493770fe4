-- Operations and arguments with calls in them.
use Rattle.std.proofs.Common.{◌≡◌, ℕ, ◌+◌, ◌<◌, List, [], ◌∷◌, ◌++◌, length, Bool, true, false, Option, Some, None, refl, sym, ◌∙◌, ap, arith}
use Rattle.std.specs.Prelude.{not, ◌==◌, ◌&&◌, ◌||◌, if◌then◌else◌, is_some, nat_le}
use Rattle.std.specs.Bool.{beq}
use Rattle.std.proofs.lemmas.Bool.{and_parts, and_from, or_left, or_right, eq-eqb, false≢true}
use Rattle.ss_core.specs.declared.names.Place.{Place}
use Rattle.ss_core.specs.declared.names.Ty.{Ty}
use Rattle.ss_core.specs.declared.names.Ty.TheVariants as ty
use Rattle.ss_core.specs.declared.expr.Operator.{Operator}
use Rattle.ss_core.specs.declared.expr.Operator.TheVariants as op
use Rattle.ss_core.specs.Tree as core
use Rattle.ss_core.specs.Tree.{LocalExpr, NotExpr, BinaryExpr}
use Rattle.ss_core.specs.View.{code_of}
use Rattle.ss_faults.specs.declared.Fault.{Fault}
use Rattle.ss_typed.specs.Tree.{ExprTree, NullOf, ImpliesOf, BinaryOf, NotOf, Arguments, NoMore, Argument}
use Rattle.ss_typed.specs.Types.{type_of}
use Rattle.ss_paths.specs.Sets.{none, either}
use Rattle.ss_paths.specs.Fields as fields
use Rattle.ss_nonnull_rules.specs.NonNull as source
use Rattle.ss_nonnull_rules.specs.Facts as told
use Rattle.ss_nonnull_rules.specs.Facts.{says, the_local, is_null}
use Rattle.ss_nonnull_rules.specs.Faults.{inside, wanted, handed, null_fault}
use Rattle.ss_expand_rules.specs.Numbers.{plain, plain_arguments}
use Rattle.ss_expand_rules.specs.Calls.{has_call, have_call, is_lazy}
use Rattle.ss_typed.specs.Shapes.{place_of}
use Rattle.ss_expand_rules.specs.Lifting.{Opened, ElaborationContext, Pure, Lifted, Valued, Listed, unlifted, next, any_object, lifted_of, operand, unary, binary, holds, fails, negated, operation, other_types, lifted}
use Rattle.ss_store_rules.specs.Good.{is_non_null}
use Rattle.ss_store_rules.specs.Locals.{types_of, each, targets_only}
use Rattle.ss_store_rules.specs.Paths.{where_reached}
use Rattle.ss_store_rules.specs.NonNull.{Known, side_facts, learned, may_stand, arguments_may_stand, may_enter}
use Rattle.ss_expand_formed.proofs.Facts.{none_left, or_false}
use Rattle.ss_expand_formed.proofs.Shape.{Code}
use Rattle.ss_expand_formed.proofs.Truths.{of_or}
use Rattle.ss_expand_formed.proofs.Kept.{spares, facts_kept}
use Rattle.ss_expand_formed.specs.Fitting.{Frame, elaboration_context, implied, wants_no_more, enters_with, fits, all_fit, Agrees, Covers, HasMade}
use Rattle.ss_expand_formed.proofs.Growing.{begins_append, operand_begins, lifted_of_begins, lifted_begins}
use Rattle.ss_expand_formed.proofs.New.{each_more, spared, too_low}
use Rattle.ss_paths.proofs.Among.{either_left, either_right}
use Rattle.ss_expand_formed.proofs.NullsPlain.{not_none, either_is, implied_true, on_set, local_of, says_mine, plain_says, plain_never}
use Rattle.ss_expand_formed.proofs.Putting.{source_says, source_enters, source_is_this, Runs, runs_nothing}
use Rattle.ss_expand_formed.proofs.Lifted.{ns, at, never_in, core_never, Lifts, Held, made_before, not_this, lifted_of_known, operand_known, unary_known, binary_known, Lazy, lazily_known}

-- ---- what isn't said

pub local_calls : (e : ExprTree) (x : ℕ) → the_local e x ≡ true → has_call e ≡ false
local_calls e x h = local_of (λ y. has_call e ≡ false) e x h (λ p y t i j. ap has_call i)

null_calls : (e : ExprTree) → is_null e ≡ true → has_call e ≡ false
null_calls (NullOf p) h = refl
null_calls e h = absurd (false≢true h)

pub calls_say_nothing : {X : Type 0} (d : Bool) (a b : ExprTree) (x : ℕ) → (has_call a || has_call b) ≡ true → told.compared d a b x ≡ true → X
calls_say_nothing d a b x c h =
    let parts = on_set (d && is_null b) (the_local a) x h in
    let i = local_calls a x parts.1 in
    let j = null_calls b (and_parts d (is_null b) parts.0).1 in
    absurd (false≢true (sym (rw (i, j) refl) ∙ c))

no_fault : (a b n : Bool) (f : Fault) → (if a && b && not n then f ∷ [] else []) ≡ [] → a ≡ true → b ≡ true → n ≡ true
no_fault a b true f h i j = refl
no_fault true true false f h i j = absurd (let x : ⊥ = cc in x)
no_fault true false false f h i j = absurd (false≢true j)
no_fault false b false f h i j = absurd (false≢true i)

-- what the parameters of what is entered want
abbrev pub wants_of : Option core.BodyTree → List Ty
wants_of None = []
wants_of (Some b) = types_of b.params

pub wants_of_entered : (o : Option core.BodyTree) (ts : List Ty) → enters_with o ts ≡ true → wants_no_more (wants_of o) ts ≡ true
wants_of_entered None ts h = refl
wants_of_entered (Some b) ts h = h

pub wants_others : (us ts : List Ty) → wants_no_more us ts ≡ true → wants_no_more (other_types us) (other_types ts) ≡ true
wants_others [] ts h = refl
wants_others (u ∷ us) [] h = absurd (false≢true h)
wants_others (u ∷ us) (t ∷ ts) h = (and_parts (implied (is_non_null u) (fields.is_non_null t)) (wants_no_more us ts) h).1

module _ (z : Frame) (agrees : Agrees z) (os : List Opened) where
  abbrev pub s : ElaborationContext
  s = elaboration_context z os

  -- ---- arguments

  -- several values, of which the parameters want these types
  pub record Lists (k : source.Known) (l : Known) (us : List Ty) (d : Listed) : Type 0 where
    pub now : Known
    pub runs : Runs z l d.code now
    pub covers : Covers z k now
    pub stand : arguments_may_stand z.program z.body now d.values us ≡ true

  pub handed_parts : (k : source.Known) (e : ExprTree) (es : Arguments) (ts : List Ty) → handed z.context (Some k) (Argument e es) ts ≡ [] → (inside z.context (Some k) e ≡ []) × (handed z.context (Some k) es (other_types ts) ≡ [])
  handed_parts k e es [] h = none_left (inside z.context (Some k) e) (handed z.context (Some k) es []) h
  handed_parts k e es (t ∷ ts) h =
      let both = none_left (inside z.context (Some k) e ++ wanted z.context (Some k) e t) (handed z.context (Some k) es ts) h in
      ((none_left (inside z.context (Some k) e) (wanted z.context (Some k) e t) both.0).0, both.1)

  pub wanted_never : (k : source.Known) (e : ExprTree) (t : Ty) → wanted z.context (Some k) e t ≡ [] → fields.is_non_null t ≡ true → is_some (type_of e) ≡ true → never_in z agrees k e ≡ true
  wanted_never k e t h i j = no_fault (fields.is_non_null t) (is_some (type_of e)) (never_in z agrees k e) (null_fault (place_of e)) h i j

  stands_if : (u : Ty) (m : Known) (v : core.ExprTree) → (is_non_null u ≡ true → core_never z agrees m v ≡ true) → may_stand z.program z.body m v u ≡ true
  stands_if u m v h = by (is_non_null u) refl
    where
      by : (b : Bool) → is_non_null u ≡ b → (not b || core_never z agrees m v) ≡ true
      by true i = h i
      by false i = refl

  pub stand_with : (k : source.Known) (e : ExprTree) (es : Arguments) (us ts : List Ty) (m : Known) (v : core.ExprTree) (vs : List core.ExprTree) → (never_in z agrees k e ≡ true → core_never z agrees m v ≡ true) → is_some (type_of e) ≡ true →
      handed z.context (Some k) (Argument e es) ts ≡ [] → wants_no_more us ts ≡ true → arguments_may_stand z.program z.body m vs (other_types us) ≡ true → arguments_may_stand z.program z.body m (v ∷ vs) us ≡ true
  stand_with k e es [] ts m v vs h some i w g = refl
  stand_with k e es (u ∷ us) [] m v vs h some i w g = absurd (false≢true w)
  stand_with k e es (u ∷ us) (t ∷ ts) m v vs h some i w g =
      let both = none_left (inside z.context (Some k) e ++ wanted z.context (Some k) e t) (handed z.context (Some k) es ts) i in
      let free = (none_left (inside z.context (Some k) e) (wanted z.context (Some k) e t) both.0).1 in
      let wants = and_parts (implied (is_non_null u) (fields.is_non_null t)) (wants_no_more us ts) w in
      and_from _ _ (stands_if u m v (λ n. h (wanted_never k e t free (implied_true (is_non_null u) (fields.is_non_null t) wants.0 n) some))) g

  pub plain_stand : (k : source.Known) (l : Known) → Covers z k l → (es : Arguments) → all_fit z es ≡ true → have_call es ≡ false → (us ts : List Ty) → handed z.context (Some k) es ts ≡ [] → wants_no_more us ts ≡ true →
      arguments_may_stand z.program z.body l (plain_arguments (ns z agrees) es) us ≡ true
  plain_stand k l c NoMore f n us ts h w = refl
  plain_stand k l c (Argument e es) f n us ts h w =
      let one = and_parts (is_some (type_of e)) (fits z e && all_fit z es) f in
      let two = and_parts (fits z e) (all_fit z es) one.1 in
      let calls = or_false (has_call e) (have_call es) n in
      stand_with k e es us ts l (plain (ns z agrees) e) (plain_arguments (ns z agrees) es) (plain_never z agrees k l c e two.0 calls.0) one.0 h w
      (plain_stand k l c es two.1 calls.1 (other_types us) (other_types ts) (handed_parts k e es ts h).1 (wants_others us ts w))

  pub may_enter_with : (o : Option core.BodyTree) (m : Known) (vs : List core.ExprTree) → arguments_may_stand z.program z.body m vs (wants_of o) ≡ true → may_enter z.program z.body m vs o ≡ true
  may_enter_with None m vs h = refl
  may_enter_with (Some b) m vs h = h

  -- what is known of a temporary stays known while the next values are made
  pub held_later : (v : Valued) (now later : Known) (xs : Code) → Held z agrees v now → Runs z now xs later → each (targets_only (nat_le ((ns z agrees).first_temporary + length v.made))) (code_of xs) ≡ true → core_never z agrees later v.value ≡ true
  held_later v now later xs h r new =
      let low = (ns z agrees).first_temporary + length v.made in
      let apart = each_more (targets_only (nat_le low)) (spares h.local) (spared (nat_le low) h.local (too_low low h.local h.below)) (code_of xs) new in
      let kept = facts_kept z.program z.body h.local (code_of xs) (Some now) apart h.fact in
      let there : later.facts h.local ≡ true = ap (where_reached (λ (m : Known). m.facts h.local)) (sym r.at) ∙ kept in
      ap (core_never z agrees later) h.is ∙ or_right _ _ there

  -- ---- operations

  pub pair_known : (k : source.Known) (l : Known) (e i j : ExprTree) (f : core.ExprTree → core.ExprTree → core.ExprTree) (made : List Ty) → Covers z k l → fits z i ≡ true → fits z j ≡ true → ((u : Bool) (x : ℕ) → says e u x ≡ true → ⊥) →
      never_in z agrees k e ≡ false → is_lazy e ≡ false → HasMade z (binary f (operand (ns z agrees) any_object i (lifted s i) made) (operand (ns z agrees) any_object j (lifted s j))).made →
      (has_call i ≡ true → HasMade z (lifted s i made).made → Lifts z agrees k l i (lifted s i made)) →
      ((m : Known) (ms : List Ty) → Covers z k m → has_call j ≡ true → HasMade z (lifted s j ms).made → Lifts z agrees k m j (lifted s j ms)) →
      Lifts z agrees k l e (binary f (operand (ns z agrees) any_object i (lifted s i) made) (operand (ns z agrees) any_object j (lifted s j)))
  pair_known k l e i j f made c x y nothing maybe plain m one two =
      let a = operand (ns z agrees) any_object i (lifted s i) made in
      let b = operand (ns z agrees) any_object j (lifted s j) a.made in
      let first = operand_known z agrees k l any_object i (lifted s i) made c x (made_before z agrees a.made b.made (operand_begins (ns z agrees) any_object j (lifted s j) (lifted_begins s j) a.made) m) one in
      let second = operand_known z agrees k first.values.now any_object j (lifted s j) a.made first.values.covers y m (two first.values.now a.made first.values.covers) in
      binary_known z agrees k l e i j a b f first.values second.values (λ n u v h. absurd (nothing u v h)) (λ n h. absurd (false≢true (sym maybe ∙ h))) (λ h g. absurd (false≢true (sym plain ∙ h)))

  -- ---- lazy operations

  lazy_lifts : (k more : source.Known) (l : Known) (e b : ExprTree) (v : Bool) (p : Place) (x : ℕ) (d : Lifted) → d.source ≡ Pure (LocalExpr p x) → (z.body.flags.ctor ≡ true → 0 < x) → (h : Lazy z agrees k more l b v d x) →
      ((u : Bool) (y : ℕ) → says e u y ≡ true → learned h.now (LocalExpr p x) u (at z agrees y) ≡ true) → never_in z agrees k e ≡ false → Lifts z agrees k l e d
  lazy_lifts k more l e b v p x d is low h said maybe = record {
    now = h.now;
    runs = h.runs;
    covers = h.covers;
    told = λ u y i. ap (λ s. source_says z h.now s u (at z agrees y)) is ∙ said u y i;
    never = λ i. absurd (false≢true (sym maybe ∙ i));
    enters = ap (source_enters z h.now) is;
    other = λ i c. ap (source_is_this z) is ∙ not_this z agrees x low c;
  }

  pub negated_known : (k : source.Known) (l : Known) (a : ExprTree) (made : List Ty) → Covers z k l → fits z a ≡ true → HasMade z (negated (ns z agrees) a (lifted s a) made).made →
      (has_call a ≡ true → HasMade z (lifted s a made).made → Lifts z agrees k l a (lifted s a made)) → Lifts z agrees k l (NotOf (place_of a) a) (negated (ns z agrees) a (lifted s a) made)
  negated_known k l a made c f m rec = by (has_call a) refl m
    where
      by : (b : Bool) → has_call a ≡ b → HasMade z (if b then unary (NotExpr (place_of a)) (operand (ns z agrees) ty.Bool a (lifted s a) made) else unlifted (NotExpr (place_of a) (plain (ns z agrees) a)) made).made →
          Lifts z agrees k l (NotOf (place_of a) a) (if b then unary (NotExpr (place_of a)) (operand (ns z agrees) ty.Bool a (lifted s a) made) else unlifted (NotExpr (place_of a) (plain (ns z agrees) a)) made)
      by true i m =
          let v = operand_known z agrees k l ty.Bool a (lifted s a) made c f m rec in
          unary_known z agrees k l (NotOf (place_of a) a) a (operand (ns z agrees) ty.Bool a (lifted s a) made) (NotExpr (place_of a)) v.values (λ u x h. v.values.told (not u) x h) (λ h. absurd (false≢true h)) (λ h g. absurd (false≢true h))
      by false i m = record {
        now = l;
        runs = runs_nothing z l;
        covers = c;
        told = λ u x h. plain_says (ns z agrees) l (NotOf (place_of a) a) u x h;
        never = λ h. absurd (false≢true h);
        enters = refl;
        other = λ h g. absurd (false≢true h);
      }

  abbrev pub Rec : ExprTree → Type 0
  Rec e = (k : source.Known) (l : Known) (made : List Ty) → Covers z k l → inside z.context (Some k) e ≡ [] → has_call e ≡ true → HasMade z (lifted s e made).made → Lifts z agrees k l e (lifted s e made)

  low_next : (made : List Ty) → z.body.flags.ctor ≡ true → 0 < next (ns z agrees) made
  low_next made c = let l = agrees.after_this c in omega arith

  same_local : (x : ℕ) (v : Bool) → (x == x && beq v v) ≡ true
  same_local x true = and_from _ _ (eq-eqb x x refl) refl
  same_local x false = and_from _ _ (eq-eqb x x refl) refl

  own_or : (a : ExprTree) (v : Bool) (k : source.Known) (l : Known) → Covers z k l → fits z a ≡ true → (y : ℕ) → either k.facts (says a v) y ≡ true → z.mine y ≡ true
  own_or a v k l c f y h = of_or (k.facts y) (says a v y) (z.mine y) (c.mine y) (λ q. says_mine z a v y f q) (either_is k.facts (says a v) y h)

  and_known : (p : Place) (a b : ExprTree) (k : source.Known) (l : Known) (made : List Ty) → Covers z k l → fits z a ≡ true → fits z b ≡ true → inside z.context (Some k) a ≡ [] → inside z.context (Some (source.known_tested a true k)) b ≡ [] →
      HasMade z (operation (ns z agrees) p op.And a b (lifted s a) (lifted s b) made).made → Rec a → Rec b → Lifts z agrees k l (BinaryOf p op.And a b) (operation (ns z agrees) p op.And a b (lifted s a) (lifted s b) made)
  and_known p a b k l made c f g i j m one two =
      let more = source.known_tested a true k in
      let first = lifted_of (ns z agrees) a (lifted s a) made in
      let n = first.made ++ ty.Bool ∷ [] in
      let second = lifted_of (ns z agrees) b (lifted s b) in
      let begins = lifted_of_begins (ns z agrees) b (lifted s b) (lifted_begins s b) n in
      let front = lifted_of_known z agrees k l a (lifted s a) made c f (made_before z agrees first.made (second n).made (λ i t e. begins i t (begins_append first.made (ty.Bool ∷ []) i t e)) m) (λ h q. one k l made c i h q) in
      let x = next (ns z agrees) first.made in
      let h : Lazy z agrees k more l b true (operation (ns z agrees) p op.And a b (lifted s a) (lifted s b) made) x =
      lazily_known z agrees p a b true holds k more l a first second (λ n e. refl) (λ y. same_local y false) front (λ y q. either_is k.facts (says a true) y q) (λ y q. either_left k.facts (says a true) y q) (own_or a true k l c f) refl m begins
      (λ q r. lifted_of_known z agrees more q b (lifted s b) n r g m (λ t u. two more q n r j t u)) in
      lazy_lifts k more l (BinaryOf p op.And a b) b true p x (operation (ns z agrees) p op.And a b (lifted s a) (lifted s b) made) refl (low_next first.made) h (said h) refl
    where
      said : {x : ℕ} {d : Lifted} (h : Lazy z agrees k (source.known_tested a true k) l b true d x) (u : Bool) (y : ℕ) → (if u then either (says a true) (says b true) else none) y ≡ true → side_facts (h.now.sides x u) (at z agrees y) ≡ true
      said h true y i = of_or (says a true y) (says b true y) _ (λ q. h.left y (either_right k.facts (says a true) y q)) (λ q. h.right y q) (either_is (says a true) (says b true) y i)
      said h false y i = not_none y i

  or_known : (p : Place) (a b : ExprTree) (k : source.Known) (l : Known) (made : List Ty) → Covers z k l → fits z a ≡ true → fits z b ≡ true → inside z.context (Some k) a ≡ [] → inside z.context (Some (source.known_tested a false k)) b ≡ [] →
      HasMade z (operation (ns z agrees) p op.Or a b (lifted s a) (lifted s b) made).made → Rec a → Rec b → Lifts z agrees k l (BinaryOf p op.Or a b) (operation (ns z agrees) p op.Or a b (lifted s a) (lifted s b) made)
  or_known p a b k l made c f g i j m one two =
      let more = source.known_tested a false k in
      let first = lifted_of (ns z agrees) a (lifted s a) made in
      let n = first.made ++ ty.Bool ∷ [] in
      let second = lifted_of (ns z agrees) b (lifted s b) in
      let begins = lifted_of_begins (ns z agrees) b (lifted s b) (lifted_begins s b) n in
      let front = lifted_of_known z agrees k l a (lifted s a) made c f (made_before z agrees first.made (second n).made (λ i t e. begins i t (begins_append first.made (ty.Bool ∷ []) i t e)) m) (λ h q. one k l made c i h q) in
      let x = next (ns z agrees) first.made in
      let h : Lazy z agrees k more l b false (operation (ns z agrees) p op.Or a b (lifted s a) (lifted s b) made) x =
      lazily_known z agrees p a b false (fails p) k more l a first second (λ n e. refl) (λ y. same_local y true) front (λ y q. either_is k.facts (says a false) y q) (λ y q. either_left k.facts (says a false) y q) (own_or a false k l c f) refl m begins
      (λ q r. lifted_of_known z agrees more q b (lifted s b) n r g m (λ t u. two more q n r j t u)) in
      lazy_lifts k more l (BinaryOf p op.Or a b) b false p x (operation (ns z agrees) p op.Or a b (lifted s a) (lifted s b) made) refl (low_next first.made) h (said h) refl
    where
      said : {x : ℕ} {d : Lifted} (h : Lazy z agrees k (source.known_tested a false k) l b false d x) (u : Bool) (y : ℕ) → (if u then none else either (says a false) (says b false)) y ≡ true → side_facts (h.now.sides x u) (at z agrees y) ≡ true
      said h false y i = of_or (says a false y) (says b false y) _ (λ q. h.left y (either_right k.facts (says a false) y q)) (λ q. h.right y q) (either_is (says a false) (says b false) y i)
      said h true y i = not_none y i

  pub implies_known : (p : Place) (a b : ExprTree) (k : source.Known) (l : Known) (made : List Ty) → Covers z k l → fits z a ≡ true → fits z b ≡ true → inside z.context (Some k) a ≡ [] → inside z.context (Some k) b ≡ [] →
      HasMade z (lifted s (ImpliesOf p a b) made).made → Rec a → Rec b → Lifts z agrees k l (ImpliesOf p a b) (lifted s (ImpliesOf p a b) made)
  implies_known p a b k l made c f g i j m one two =
      let first = negated (ns z agrees) a (lifted s a) made in
      let n = first.made ++ ty.Bool ∷ [] in
      let second = lifted_of (ns z agrees) b (lifted s b) in
      let begins = lifted_of_begins (ns z agrees) b (lifted s b) (lifted_begins s b) n in
      let front = negated_known k l a made c f (made_before z agrees first.made (second n).made (λ i t e. begins i t (begins_append first.made (ty.Bool ∷ []) i t e)) m) (λ h q. one k l made c i h q) in
      let x = next (ns z agrees) first.made in
      let h : Lazy z agrees k k l b false (lifted s (ImpliesOf p a b) made) x =
      lazily_known z agrees p a b false (fails p) k k l (NotOf (place_of a) a) first second (λ n e. refl) (λ y. same_local y true) front (λ y q. or_left _ _ q) (λ y q. q) c.mine refl m begins
      (λ q r. lifted_of_known z agrees k q b (lifted s b) n r g m (λ t u. two k q n r j t u)) in
      lazy_lifts k k l (ImpliesOf p a b) b false p x (lifted s (ImpliesOf p a b) made) refl (low_next first.made) h (λ u y i. not_none y i) refl

  pub operation_known : (p : Place) (o : Operator) (a b : ExprTree) (k : source.Known) (l : Known) (made : List Ty) → Covers z k l → fits z a ≡ true → fits z b ≡ true → inside z.context (Some k) (BinaryOf p o a b) ≡ [] → (has_call a || has_call b) ≡ true →
      HasMade z (operation (ns z agrees) p o a b (lifted s a) (lifted s b) made).made → Rec a → Rec b → Lifts z agrees k l (BinaryOf p o a b) (operation (ns z agrees) p o a b (lifted s a) (lifted s b) made)
  operation_known p op.And a b k l made c f g i h m one two =
      let parts = none_left (inside z.context (Some k) a) (inside z.context (Some (source.known_tested a true k)) b) i in
      and_known p a b k l made c f g parts.0 parts.1 m one two
  operation_known p op.Or a b k l made c f g i h m one two =
      let parts = none_left (inside z.context (Some k) a) (inside z.context (Some (source.known_tested a false k)) b) i in
      or_known p a b k l made c f g parts.0 parts.1 m one two
  operation_known p op.Equal a b k l made c f g i h m one two =
      let parts = none_left (inside z.context (Some k) a) (inside z.context (Some k) b) i in
      pair_known k l (BinaryOf p op.Equal a b) a b (BinaryExpr p op.Equal) made c f g (λ u x e. calls_say_nothing (not u) a b x h e) refl refl m (λ q r. one k l made c parts.0 q r) (λ n ms d q r. two k n ms d parts.1 q r)
  operation_known p op.NotEqual a b k l made c f g i h m one two =
      let parts = none_left (inside z.context (Some k) a) (inside z.context (Some k) b) i in
      pair_known k l (BinaryOf p op.NotEqual a b) a b (BinaryExpr p op.NotEqual) made c f g (λ u x e. calls_say_nothing u a b x h e) refl refl m (λ q r. one k l made c parts.0 q r) (λ n ms d q r. two k n ms d parts.1 q r)
  operation_known p o a b k l made c f g i h m one two =
      let parts = none_left (inside z.context (Some k) a) (inside z.context (Some k) b) i in
      pair_known k l (BinaryOf p o a b) a b (BinaryExpr p o) made c f g (λ u x e. not_none x e) refl refl m (λ q r. one k l made c parts.0 q r) (λ n ms d q r. two k n ms d parts.1 q r)
