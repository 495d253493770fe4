-- The flow of what is known keeps the order of knowledge, and so does what the check asks.
use Rattle.std.proofs.Common.{◌≡◌, ℕ, List, [], ◌∷◌, Bool, true, false, Option, Some, None, refl}
use Rattle.std.specs.Prelude.{not, ◌==◌, ◌&&◌, ◌||◌, if◌then◌else◌, option_map, slice_get}
use Rattle.std.proofs.lemmas.Bool.{and_parts, and_from, false≢true}
use Rattle.ss_core.specs.declared.names.Place.{Place}
use Rattle.ss_core.specs.declared.names.Ty.{Ty}
use Rattle.ss_core.specs.declared.expr.Operator.{Operator}
use Rattle.ss_core.specs.declared.expr.Operator.TheVariants as op
use Rattle.ss_core.specs.Tree.{ExprTree, LocalExpr, NotExpr, BinaryExpr, IsExpr, FieldExpr, CastExpr, OldExpr, CalleeTree, BaseConstructor, StmtTree, AssignStmt, WriteStmt, NewStmt, NewArrayStmt, CallStmt, ReadyStmt, IfStmt, LoopStmt, ReturnStmt, CodeTree, NoCode, Then, BodyTree, CoreTree}
use Rattle.ss_store_rules.specs.Good.{is_non_null}
use Rattle.ss_store_rules.specs.Changes.{field_type}
use Rattle.ss_store_rules.specs.Admissible.{is_this}
use Rattle.ss_store_rules.specs.Locals.{types_of, local_types, assigns}
use Rattle.ss_store_rules.specs.Typed.{constructor_of, callee_of}
use Rattle.ss_store_rules.specs.Paths.{is_literal_true, met, left, behind, at_end, where_reached, at_test, in_body, holds_at, holds_along}
use Rattle.ss_store_rules.specs.NonNull.{Facts, no_facts, both, Known, side_facts, operation_facts, learned, tells, known_tested, Site, site_of, is_non_null_type, is_this_object, is_never_null, may_stand, with_local, says_nothing, with_kept, result_of, is_field_above, with_base, known_after, at_this_end, side_met, known_met, known_head, known_flow, may_stand_at, arguments_may_stand, may_enter, may_return, puts_no_null, null_check}
use Rattle.ss_expand_formed.specs.Order.{Within, SideWithin, AtLeast, AtLeastWhere}
use Rattle.ss_expand_formed.proofs.Truths.{and_more, or_more, or_first, either_more}

-- ---- what a test says

side_facts_more : (a b : Option Facts) → SideWithin a b → Within (side_facts a) (side_facts b)
side_facts_more None None h x i = i
side_facts_more None (Some g) h x i = absurd h
side_facts_more (Some f) None h x i = absurd h
side_facts_more (Some f) (Some g) h x i = h x i

both_more : (f g h k : Facts) → Within f h → Within g k → Within (both f g) (both h k)
both_more f g h k a b x i = or_more (f x) (g x) (h x) (k x) (a x) (b x) i

and_operation : (v : Bool) (f g h k : Bool → Facts) → Within (f true) (h true) → Within (g true) (k true) → Within (if v then both (f true) (g true) else no_facts) (if v then both (h true) (k true) else no_facts)
and_operation true f g h k a b = both_more (f true) (g true) (h true) (k true) a b
and_operation false f g h k a b = λ x i. i

or_operation : (v : Bool) (f g h k : Bool → Facts) → Within (f false) (h false) → Within (g false) (k false) → Within (if v then no_facts else both (f false) (g false)) (if v then no_facts else both (h false) (k false))
or_operation true f g h k a b = λ x i. i
or_operation false f g h k a b = both_more (f false) (g false) (h false) (k false) a b

operation_more : (o : Operator) (v : Bool) (a b : ExprTree) (f g h k : Bool → Facts) → ((u : Bool) → Within (f u) (h u)) → ((u : Bool) → Within (g u) (k u)) → Within (operation_facts o v a b f g) (operation_facts o v a b h k)
operation_more op.And v a b f g h k i j = and_operation v f g h k (i true) (j true)
operation_more op.Or v a b f g h k i j = or_operation v f g h k (i false) (j false)
operation_more op.NotEqual v a b f g h k i j = λ x e. e
operation_more op.Equal v a b f g h k i j = λ x e. e
operation_more o v a b f g h k i j = λ x e. e

module _ (k l : Known) (order : AtLeast k l) where
  pub learned_more : (e : ExprTree) (v : Bool) → Within (learned k e v) (learned l e v)
  learned_more (LocalExpr p x) v = side_facts_more (k.sides x v) (l.sides x v) (order.sides x v)
  learned_more (NotExpr p e) v = learned_more e (not v)
  learned_more (BinaryExpr p o a b) v = operation_more o v a b (learned k a) (learned k b) (learned l a) (learned l b) (learned_more a) (learned_more b)
  learned_more (IsExpr p e t) v = λ x i. i
  learned_more e v = λ x i. i

  unreached_more : (b : Bool) (f g : Option Facts) → SideWithin f g → SideWithin (if b then None else f) (if b then None else g)
  unreached_more true f g h = tt
  unreached_more false f g h = h

  pub tested_more : (e : ExprTree) (v : Bool) → AtLeast (known_tested e v k) (known_tested e v l)
  tested_more e v = record {
    facts = both_more k.facts (learned k e v) l.facts (learned l e v) order.facts (learned_more e v);
    sides = λ x u. unreached_more (tells e v x (not u)) (k.sides x u) (l.sides x u) (order.sides x u);
    fields = order.fields;
  }

  pub never_more : (s : Site) (old : Bool) (e : ExprTree) → is_never_null s k old e ≡ true → is_never_null s l old e ≡ true
  never_more s old (LocalExpr p x) h = or_more (is_non_null_type (slice_get s.locals x)) (k.facts x) _ (l.facts x) (λ i. i) (order.facts x) h
  never_more s old (FieldExpr p e f) h =
      and_more (is_non_null (field_type s.classes f)) (not s.constructs || not old && (not (is_this_object e) || k.fields f)) _ _ (λ i. i)
      (or_more (not s.constructs) (not old && (not (is_this_object e) || k.fields f)) _ _ (λ i. i) (and_more (not old) (not (is_this_object e) || k.fields f) _ _ (λ i. i) (or_more (not (is_this_object e)) (k.fields f) _ _ (λ i. i) (order.fields f)))) h
  never_more s old (CastExpr p t non_null e) h = h
  never_more s old (OldExpr p e) h = never_more s true e h
  never_more s old e h = absurd (false≢true h)

  pub stand_more : (c : CoreTree) (b : BodyTree) (e : ExprTree) (t : Ty) → may_stand c b k e t ≡ true → may_stand c b l e t ≡ true
  stand_more c b e t h = or_more (not (is_non_null t)) (is_never_null (site_of c b) k false e) _ _ (λ i. i) (never_more (site_of c b) false e) h

  pub stand_at_more : (c : CoreTree) (b : BodyTree) (e : ExprTree) (t : Option Ty) → may_stand_at c b k e t ≡ true → may_stand_at c b l e t ≡ true
  stand_at_more c b e None h = refl
  stand_at_more c b e (Some t) h = stand_more c b e t h

  arguments_more : (c : CoreTree) (b : BodyTree) (es : List ExprTree) (ts : List Ty) → arguments_may_stand c b k es ts ≡ true → arguments_may_stand c b l es ts ≡ true
  arguments_more c b [] ts h = refl
  arguments_more c b (e ∷ es) [] h = refl
  arguments_more c b (e ∷ es) (t ∷ ts) h = and_more (may_stand c b k e t) (arguments_may_stand c b k es ts) _ _ (stand_more c b e t) (arguments_more c b es ts) h

  enter_more : (c : CoreTree) (b : BodyTree) (es : List ExprTree) (callee : Option BodyTree) → may_enter c b k es callee ≡ true → may_enter c b l es callee ≡ true
  enter_more c b es None h = refl
  enter_more c b es (Some callee) h = arguments_more c b es (types_of callee.params) h

  return_more : (c : CoreTree) (b : BodyTree) (e : Option ExprTree) → may_return c b k e ≡ true → may_return c b l e ≡ true
  return_more c b None h = refl
  return_more c b (Some e) h = stand_at_more c b e b.result h

  -- what is asked of a statement
  pub asked_more : (c : CoreTree) (b : BodyTree) (s : StmtTree) → puts_no_null c b s k ≡ true → puts_no_null c b s l ≡ true
  asked_more c b (AssignStmt p x e) h = stand_at_more c b e (slice_get (local_types b) x) h
  asked_more c b (WriteStmt p o f m t e) h = stand_more c b e (field_type c.classes f) h
  asked_more c b (NewStmt p x t es) h = enter_more c b es (constructor_of c t) h
  asked_more c b (CallStmt p x callee es) h = and_more (may_enter c b k es (callee_of c b callee)) _ _ _ (enter_more c b es (callee_of c b callee)) (λ i. i) h
  asked_more c b (ReturnStmt p e) h = return_more c b e h
  asked_more c b s h = refl

-- ---- statements

-- a side where the local x is forgotten
without_more : (x : ℕ) (f g : Option Facts) → SideWithin f g → SideWithin (option_map (λ (h : Facts) (z : ℕ). h z && not (x == z)) f) (option_map (λ (h : Facts) (z : ℕ). h z && not (x == z)) g)
without_more x None None h = tt
without_more x None (Some g) h = absurd h
without_more x (Some f) None h = absurd h
without_more x (Some f) (Some g) h = λ z i. and_more (f z) (not (x == z)) (g z) (not (x == z)) (h z) (λ j. j) i

assigned_side : (b : Bool) (f g : Facts) (c d : Option Facts) → Within f g → SideWithin c d → SideWithin (if b then Some f else c) (if b then Some g else d)
assigned_side true f g c d h i = h
assigned_side false f g c d h i = i

module _ (k l : Known) (order : AtLeast k l) where
  local_more : (x : ℕ) (m n : Bool) (f g : Bool → Facts) → (m ≡ true → n ≡ true) → ((v : Bool) → Within (f v) (g v)) → AtLeast (with_local x m f k) (with_local x n g l)
  local_more x m n f g h i = record {
    facts = λ y. either_more (x == y) m (k.facts y) n (l.facts y) h (order.facts y);
    sides = λ y v. assigned_side (x == y) (f v) (g v) _ _ (i v) (without_more x (k.sides y v) (l.sides y v) (order.sides y v));
    fields = order.fields;
  }

  kept_more : (x : Option ℕ) (m : Bool) → AtLeast (with_kept x m k) (with_kept x m l)
  kept_more None m = order
  kept_more (Some x) m = local_more x m m says_nothing says_nothing (λ i. i) (λ v y i. i)

  base_more : (c : CoreTree) (b : BodyTree) (callee : CalleeTree) → AtLeast (with_base c b callee k) (with_base c b callee l)
  base_more c b (BaseConstructor n) = record {
    facts = order.facts;
    sides = order.sides;
    fields = λ f. or_first (k.fields f) (l.fields f) (not b.flags.delayed) (is_field_above c b f) (order.fields f);
  }
  base_more c b callee = order

pub after_more : (c : CoreTree) (b : BodyTree) (s : StmtTree) (k l : Known) → AtLeast k l → AtLeast (known_after c b s k) (known_after c b s l)
after_more c b (AssignStmt p x e) k l order = local_more k l order x _ _ (learned k e) (learned l e) (never_more k l order (site_of c b) false e) (learned_more k l order e)
after_more c b (WriteStmt p o f m t e) k l order = record { facts = order.facts; sides = order.sides; fields = λ g. or_more (k.fields g) (is_this o && g == f) _ _ (order.fields g) (λ i. i) }
after_more c b (NewStmt p x t es) k l order = kept_more k l order x true
after_more c b (NewArrayStmt p x t e) k l order = kept_more k l order x true
after_more c b (CallStmt p x callee es) k l order =
    let m = is_non_null_type (result_of (callee_of c b callee)) in
    base_more (with_kept x m k) (with_kept x m l) (kept_more k l order x m) c b callee
after_more c b (ReadyStmt p) k l order = record { facts = order.facts; sides = order.sides; fields = λ f i. refl }
after_more c b s k l order = order

-- ---- paths

this_end_more : (k l : Known) → AtLeast k l → (f g : Option Facts) → SideWithin f g → SideWithin (option_map (both k.facts) f) (option_map (both l.facts) g)
this_end_more k l order None None h = tt
this_end_more k l order None (Some g) h = absurd h
this_end_more k l order (Some f) None h = absurd h
this_end_more k l order (Some f) (Some g) h = both_more k.facts f l.facts g order.facts h

side_met_more : (a b c d : Option Facts) → SideWithin a c → SideWithin b d → SideWithin (side_met a b) (side_met c d)
side_met_more None b None d h i = i
side_met_more None b (Some c) d h i = absurd h
side_met_more (Some a) b None d h i = absurd h
side_met_more (Some a) None (Some c) None h i = h
side_met_more (Some a) None (Some c) (Some d) h i = absurd i
side_met_more (Some a) (Some b) (Some c) None h i = absurd i
side_met_more (Some a) (Some b) (Some c) (Some d) h i = λ x j. and_more (a x) (b x) (c x) (d x) (h x) (i x) j

pub met_more : (k l m n : Known) → AtLeast k m → AtLeast l n → AtLeast (known_met k l) (known_met m n)
met_more k l m n h i = record {
  facts = λ x j. and_more (k.facts x) (l.facts x) (m.facts x) (n.facts x) (h.facts x) (i.facts x) j;
  sides = λ x v. side_met_more (at_this_end k x v) (at_this_end l x v) (at_this_end m x v) (at_this_end n x v) (this_end_more k m h (k.sides x v) (m.sides x v) (h.sides x v)) (this_end_more l n i (l.sides x v) (n.sides x v) (i.sides x v));
  fields = λ f j. and_more (k.fields f) (l.fields f) (m.fields f) (n.fields f) (h.fields f) (i.fields f) j;
}

forgotten_more : (s : StmtTree) (f g : Option Facts) → SideWithin f g → SideWithin (option_map (λ (h : Facts) (y : ℕ). h y && not (assigns s y)) f) (option_map (λ (h : Facts) (y : ℕ). h y && not (assigns s y)) g)
forgotten_more s None None h = tt
forgotten_more s None (Some g) h = absurd h
forgotten_more s (Some f) None h = absurd h
forgotten_more s (Some f) (Some g) h = λ y i. and_more (f y) (not (assigns s y)) (g y) (not (assigns s y)) (h y) (λ j. j) i

pub head_more : (s : StmtTree) (k l : Known) → AtLeast k l → AtLeast (known_head s k) (known_head s l)
head_more s k l order = record {
  facts = λ x i. and_more (k.facts x) (not (assigns s x)) (l.facts x) (not (assigns s x)) (order.facts x) (λ j. j) i;
  sides = λ x v. assigned_side (assigns s x) no_facts no_facts _ _ (λ y i. i) (forgotten_more s (k.sides x v) (l.sides x v) (order.sides x v));
  fields = order.fields;
}

module _ (c : CoreTree) (b : BodyTree) where
  met_where : (k l m n : Option Known) → AtLeastWhere k m → AtLeastWhere l n → AtLeastWhere (met (known_flow c b) k l) (met (known_flow c b) m n)
  met_where None l None n h i = i
  met_where None l (Some m) n h i = absurd h
  met_where (Some k) l None n h i = absurd h
  met_where (Some k) None (Some m) None h i = h
  met_where (Some k) None (Some m) (Some n) h i = absurd i
  met_where (Some k) (Some l) (Some m) None h i = absurd i
  met_where (Some k) (Some l) (Some m) (Some n) h i = met_more k l m n h i

  tested_where : (e : ExprTree) (v : Bool) (k l : Option Known) → AtLeastWhere k l → AtLeastWhere (option_map (known_tested e v) k) (option_map (known_tested e v) l)
  tested_where e v None None h = tt
  tested_where e v None (Some l) h = absurd h
  tested_where e v (Some k) None h = absurd h
  tested_where e v (Some k) (Some l) h = tested_more k l h e v

  left_if : (b : Bool) (k l : Option Known) → AtLeastWhere k l → AtLeastWhere (if b then None else k) (if b then None else l)
  left_if true k l h = tt
  left_if false k l h = h

  left_where : (e : ExprTree) (k l : Option Known) → AtLeastWhere k l → AtLeastWhere (left (known_flow c b) e k) (left (known_flow c b) e l)
  left_where e k l h = left_if (is_literal_true e) _ _ (tested_where e false k l h)

  mutual
    pub behind_more : (s : StmtTree) (k l : Known) → AtLeast k l → AtLeastWhere (behind (known_flow c b) s k) (behind (known_flow c b) s l)
    behind_more (IfStmt p e x y) k l h =
        met_where (at_end (known_flow c b) x (Some (known_tested e true k))) (at_end (known_flow c b) y (Some (known_tested e false k))) _ _
        (at_end_more x (Some (known_tested e true k)) (Some (known_tested e true l)) (tested_more k l h e true)) (at_end_more y (Some (known_tested e false k)) (Some (known_tested e false l)) (tested_more k l h e false))
    behind_more (LoopStmt p is prelude e body os) k l h =
        let s = LoopStmt p is prelude e body os in
        left_where e _ _ (at_end_more prelude (Some (known_head s k)) (Some (known_head s l)) (head_more s k l h))
    behind_more (ReturnStmt p e) k l h = tt
    behind_more s k l h = after_more c b s k l h

    pub at_end_more : (code : CodeTree) (k l : Option Known) → AtLeastWhere k l → AtLeastWhere (at_end (known_flow c b) code k) (at_end (known_flow c b) code l)
    at_end_more NoCode k l h = h
    at_end_more (Then s code) None None h = tt
    at_end_more (Then s code) None (Some l) h = absurd h
    at_end_more (Then s code) (Some k) None h = absurd h
    at_end_more (Then s code) (Some k) (Some l) h = at_end_more code (behind (known_flow c b) s k) (behind (known_flow c b) s l) (behind_more s k l h)

  -- ---- what is asked along paths

  reached_more : (s : StmtTree) (k l : Option Known) → AtLeastWhere k l → where_reached (puts_no_null c b s) k ≡ true → where_reached (puts_no_null c b s) l ≡ true
  reached_more s None None h i = refl
  reached_more s None (Some l) h i = absurd h
  reached_more s (Some k) None h i = absurd h
  reached_more s (Some k) (Some l) h i = asked_more k l h c b s i

  any_test : (e : ExprTree) (k : Option Known) → where_reached ((null_check c b).test e) k ≡ true
  any_test e None = refl
  any_test e (Some k) = refl

  mutual
    pub holds_at_more : (s : StmtTree) (k l : Known) → AtLeast k l → holds_at (known_flow c b) (null_check c b) s k ≡ true → holds_at (known_flow c b) (null_check c b) s l ≡ true
    holds_at_more (IfStmt p e x y) k l h i =
        let front = and_parts (holds_along (known_flow c b) (null_check c b) x (Some (known_tested e true k))) (holds_along (known_flow c b) (null_check c b) y (Some (known_tested e false k))) i in
        and_from _ _ (holds_more x (Some (known_tested e true k)) (Some (known_tested e true l)) (tested_more k l h e true) front.0) (holds_more y (Some (known_tested e false k)) (Some (known_tested e false l)) (tested_more k l h e false) front.1)
    holds_at_more (LoopStmt p is prelude e body os) k l h i =
        let s = LoopStmt p is prelude e body os in
        let f = known_flow c b in
        let check = null_check c b in
        let front = at_end_more prelude (Some (known_head s k)) (Some (known_head s l)) (head_more s k l h) in
        let inside = tested_where e true (at_test f s prelude k) (at_test f s prelude l) front in
        let tested = at_test f s prelude in
        let turn = λ (m : Known). in_body f e (tested m) in
        let all = and_parts (holds_along f check prelude (Some (known_head s k)) && where_reached (check.test e) (tested k) && holds_along f check body (turn k)) (where_reached (puts_no_null c b s) (at_end f body (turn k))) i in
        let some = and_parts (holds_along f check prelude (Some (known_head s k)) && where_reached (check.test e) (tested k)) (holds_along f check body (turn k)) all.0 in
        let one = and_parts (holds_along f check prelude (Some (known_head s k))) (where_reached (check.test e) (tested k)) some.0 in
        and_from _ _ (and_from _ _ (and_from _ _ (holds_more prelude (Some (known_head s k)) (Some (known_head s l)) (head_more s k l h) one.0) (any_test e (tested l))) (holds_more body (turn k) (turn l) inside some.1))
        (reached_more s _ _ (at_end_more body (turn k) (turn l) inside) all.1)
    holds_at_more s k l h i = asked_more k l h c b s i

    pub holds_more : (code : CodeTree) (k l : Option Known) → AtLeastWhere k l → holds_along (known_flow c b) (null_check c b) code k ≡ true → holds_along (known_flow c b) (null_check c b) code l ≡ true
    holds_more NoCode k l h i = refl
    holds_more (Then s code) None None h i = refl
    holds_more (Then s code) None (Some l) h i = absurd h
    holds_more (Then s code) (Some k) None h i = absurd h
    holds_more (Then s code) (Some k) (Some l) h i =
        let both = and_parts (holds_at (known_flow c b) (null_check c b) s k) (holds_along (known_flow c b) (null_check c b) code (behind (known_flow c b) s k)) i in
        and_from _ _ (holds_at_more s k l h both.0) (holds_more code (behind (known_flow c b) s k) (behind (known_flow c b) s l) (behind_more s k l h) both.1)
