-- The elaborated code of a statement knows at least the fields that the phase of construction knows.
use Rattle.std.proofs.Common.{◌≡◌, ℕ, ◌+◌, ◌-◌, List, [], ◌∷◌, ◌++◌, map, length, Bool, true, false, Option, Some, None, refl, sym, ◌∙◌, ap, subst, arith, ⊎_elim}
use Rattle.std.specs.Prelude.{◌==◌, nat_le, nat_lt, reverse, is_some, option_map, if◌then◌else◌}
use Rattle.std.proofs.lemmas.Bool.{cases_Bool, and_parts, and_from, leb-true, eqb-true, false≢true}
use Rattle.ss_core.specs.declared.names.Place.{Place}
use Rattle.ss_core.specs.declared.names.Ty.{Ty}
use Rattle.ss_core.specs.Tree as core
use Rattle.ss_core.specs.Tree.{BoolExpr, IfStmt, LoopStmt, UnpackStmt, PackStmt, ReturnStmt, NoCode, CodeTree, ExposedTree}
use Rattle.ss_core.specs.View.{code_of}
use Rattle.ss_ast.specs.declared.stmt.AssignOperator.TheVariants as operator
use Rattle.ss_faults.specs.declared.Fault.{Fault}
use Rattle.ss_typed.specs.Tree.{ExprTree, BoolOf, ThisOf, FieldOf, DeclaratorTree, SimpleTree, AssignOf, BaseCallOf, InitTree, DeclareFirst, SimpleFirst, BlockTree, BlockOf, StmtTree, InBlock, DeclareOf, SimpleOf, IfOf, IfElseOf, WhileOf, ForOf, ReturnOf, AssertOf, AssumeOf, ExposeOf, EmptyOf, StmtTrees, NoMore, Before}
use Rattle.ss_typed.specs.Types.{type_of}
use Rattle.ss_paths.specs.Sets.{Set, put, both}
use Rattle.ss_paths.specs.Fields.{Numbers, is_among}
use Rattle.ss_paths.specs.Assigned.{Assigned, assigned_by, assigned_flow}
use Rattle.ss_paths.specs.Paths as source
use Rattle.ss_expand_rules.specs.Program.{field_at}
use Rattle.ss_expand_rules.specs.Numbers.{plain, all_plain}
use Rattle.ss_typed.specs.Shapes.{is_true, place_of}
use Rattle.ss_expand_rules.specs.Lifting.{Opened, ElaborationContext, Valued, next, temporary_type, any_object, in_temporary, right_side, value}
use Rattle.ss_expand_rules.specs.Code.{Coded, nothing, then_code}
use Rattle.ss_expand_rules.specs.Ends.{can_end, block_can_end}
use Rattle.ss_expand_rules.specs.Simple.{declare, simple}
use Rattle.ss_expand_rules.specs.Statements.{exposed, loop_while, begin, advance, pack_of, pack_this, packs, leave_with, result_type, kept_result, leave_value, leave, exposed_class, close, opened, expose_lifted, stmt, block, stmts}
use Rattle.ss_store_rules.specs.Paths.{Check, is_literal_true, met, left, at_end, where_reached, in_body, holds_along}
use Rattle.ss_expand_formed.proofs.Facts.{none_left}
use Rattle.ss_expand_formed.proofs.Ends.{stmt_stops}
use Rattle.ss_expand_formed.proofs.Along.{at_none, holds_none, at_end-append, holds-append}
use Rattle.ss_expand_formed.proofs.Shape.{Code, each-append}
use Rattle.ss_expand_formed.proofs.Choices.{where_chosen}
use Rattle.ss_expand_formed.proofs.Lifts.{temporary_fits, local_fits}
use Rattle.ss_expand_formed.proofs.Free.{Anything, AnyGiven, any_passes}
use Rattle.ss_expand_formed.proofs.Bases.{OnlySimple}
use Rattle.ss_expand_formed.proofs.Mild.{Fields, fields_flow, is_mild, Grows, mild_end, IsOfReturns, any_reached, mild_holds, stops}
use Rattle.ss_expand_formed.proofs.MildCode.{IsMild, all_mild, simple_is_mild, value_is_mild, right_is_mild, declared_is_mild, assignment_adds}

of_both : (x y : Set) (i : ℕ) → both x y i ≡ true → (x i ≡ true) × (y i ≡ true)
unfolding both
of_both x y i e = and_parts (x i) (y i) e

-- some fields have their values from the beginning
module _ (c : core.CoreTree) (b : core.BodyTree) (n : Numbers) (first : Fields) where
  -- what is known in the source is known in the code
  pub record Knows (a : Assigned) (k : Fields) : Type 0 where
    pub own : (i : ℕ) → a.own i ≡ true → k (n.first + i) ≡ true
    pub given : (f : ℕ) → first f ≡ true → k f ≡ true

  abbrev pub KnowsAt : Option Assigned → Option Fields → Type 0
  KnowsAt None k = k ≡ None
  KnowsAt (Some a) None = Unit {0}
  KnowsAt (Some a) (Some k) = Knows a k

  abbrev flow : source.Flow Assigned
  flow = assigned_flow n

  pub more : (a : Assigned) (k l : Fields) → Knows a k → Grows k l → Knows a l
  more a k l h g = record { own = λ i e. g (n.first + i) (h.own i e); given = λ f e. g f (h.given f e) }

  -- where the end isn't reached
  pub unreached : (a : Option Assigned) → KnowsAt a None
  unreached None = refl
  unreached (Some a) = tt

  meets : (a d : Option Assigned) (k l : Option Fields) → KnowsAt a k → KnowsAt d l → KnowsAt (source.met flow a d) (met (fields_flow c b) k l)
  meets None d k l h g = subst (λ x. KnowsAt d (met (fields_flow c b) x l)) (sym h) g
  meets (Some a) None None l h g = subst (KnowsAt (Some a)) (sym g) tt
  meets (Some a) None (Some k) l h g = subst (λ x. KnowsAt (Some a) (met (fields_flow c b) (Some k) x)) (sym g) h
  meets (Some a) (Some d) None None h g = tt
  meets (Some a) (Some d) None (Some l) h g = record { own = λ i e. g.own i (of_both a.own d.own i e).1; given = g.given }
  meets (Some a) (Some d) (Some k) None h g = record { own = λ i e. h.own i (of_both a.own d.own i e).0; given = h.given }
  meets (Some a) (Some d) (Some k) (Some l) h g = record { own = λ i e. let p = of_both a.own d.own i e in and_from _ _ (h.own i p.0) (g.own i p.1); given = λ f e. and_from _ _ (h.given f e) (g.given f e) }

  -- after code that only adds
  pub adds : (a : Assigned) (k : Fields) (xs : Code) → IsMild xs → Knows a k → KnowsAt (Some a) (at_end (fields_flow c b) (code_of xs) (Some k))
  adds a k xs mild h = let r = mild_end c b (code_of xs) k mild in subst (KnowsAt (Some a)) (sym r.is) (more a k r.fields h r.grows)

  pub adds_at : (a : Option Assigned) (k : Option Fields) (xs : Code) → IsMild xs → KnowsAt a k → KnowsAt a (at_end (fields_flow c b) (code_of xs) k)
  adds_at a None xs mild h = subst (KnowsAt a) (sym (at_none (fields_flow c b) (code_of xs))) (unreached a)
  adds_at None (Some k) xs mild h = absurd (let z : ⊥ = cc in z)
  adds_at (Some a) (Some k) xs mild h = adds a k xs mild h

  -- `base(..)` leaves what is known of the class itself
  raised : (a : Assigned) (k : Option Fields) → KnowsAt (Some a) k → KnowsAt (Some (record a { above = true })) k
  raised a None h = tt
  raised a (Some k) h = record { own = h.own; given = h.given }

  -- ---- simple statements

  -- the fields of these numbers are there
  module _ (z : ElaborationContext) (known : (f : ℕ) → is_among n f ≡ true → is_some (field_at z.program f) ≡ true) where
    put_own : (f : ℕ) (own : Set) (k : Fields) → nat_le n.first f ≡ true → k f ≡ true → ((i : ℕ) → own i ≡ true → k (n.first + i) ≡ true) → (i : ℕ) → put (f - n.first) true own i ≡ true → k (n.first + i) ≡ true
    unfolding put
    put_own f own k low has rest i e =
        ⊎_elim
        (λ yes.
        let same = eqb-true (f - n.first) i yes in
        let l = leb-true n.first f low in
        let number : n.first + i ≡ f = omega arith in
        ap k number ∙ has)
        (λ no. rest i (rw no at e))
        (cases_Bool (f - n.first == i))

    abbrev Done : SimpleTree → List Ty → Assigned → Fields → Type 0
    Done x made a k = KnowsAt (Some (assigned_by n x a)) (at_end (fields_flow c b) (code_of (simple z x made).code) (Some k))

    own_done : (q r : Place) (t f : ℕ) (u : Ty) (e : ExprTree) (made : List Ty) (a : Assigned) (k : Fields) → Knows a k → (m : Bool) → is_among n f ≡ m → Done (AssignOf (FieldOf q (ThisOf r t) f u) operator.Set e) made a k
    own_done q r t f u e made a k h true is =
        let x = AssignOf (FieldOf q (ThisOf r t) f u) operator.Set e in
        let l = assignment_adds z c b q r t f u e made k (known f is) in
        let low = (and_parts (nat_le n.first f) (nat_lt (f - n.first) n.count) is).0 in
        let known_own : Knows (record a { own = put (f - n.first) true a.own }) l.fields = record { own = put_own f a.own l.fields low l.has (λ i g. l.grows (n.first + i) (h.own i g)); given = λ g i. l.grows g (h.given g i) } in
        let state : assigned_by n x a ≡ record a { own = put (f - n.first) true a.own } = ap (λ (v : Bool). record a { own = if v then put (f - n.first) true a.own else a.own }) is in
        subst (λ w. KnowsAt (Some w) (at_end (fields_flow c b) (code_of (simple z x made).code) (Some k))) (sym state) (subst (KnowsAt (Some (record a { own = put (f - n.first) true a.own }))) (sym l.is) known_own)
    own_done q r t f u e made a k h false is =
        let x = AssignOf (FieldOf q (ThisOf r t) f u) operator.Set e in
        let state : assigned_by n x a ≡ a = ap (λ (v : Bool). record a { own = if v then put (f - n.first) true a.own else a.own }) is in
        subst (λ w. KnowsAt (Some w) (at_end (fields_flow c b) (code_of (simple z x made).code) (Some k))) (sym state) (adds a k (simple z x made).code (simple_is_mild z x made) h)

    pub done : (x : SimpleTree) (made : List Ty) (a : Assigned) (k : Fields) → Knows a k → Done x made a k
    done (AssignOf (FieldOf q (ThisOf r t) f u) operator.Set e) made a k h = own_done q r t f u e made a k h (is_among n f) refl
    done (AssignOf l operator.Set e) made a k h = adds a k (simple z (AssignOf l operator.Set e) made).code (simple_is_mild z (AssignOf l operator.Set e) made) h
    done (BaseCallOf p es) made a k h = raised a (at_end (fields_flow c b) (code_of (simple z (BaseCallOf p es) made).code) (Some k)) (adds a k (simple z (BaseCallOf p es) made).code (simple_is_mild z (BaseCallOf p es) made) h)
    done x made a k h = adds a k (simple z x made).code (simple_is_mild z x made) h

    -- simple statements one after the other
    pub simples_go : (ss : StmtTrees) (made : List Ty) (a : Assigned) (k : Fields) → OnlySimple ss → Knows a k → KnowsAt (source.at_end flow ss (Some a)) (at_end (fields_flow c b) (code_of (stmts z ss made).code) (Some k))
    simples_go NoMore made a k only h = h
    simples_go (Before (SimpleOf x) ss) made a k only h =
        let one = simple z x made in
        let rest = (stmts z ss one.made).code in
        let d = assigned_by n x a in
        subst (KnowsAt (source.at_end flow ss (Some d))) (sym (at_end-append (fields_flow c b) one.code rest (Some k)))
        (further (at_end (fields_flow c b) (code_of one.code) (Some k)) rest ss d (done x made a k h) (λ l i. simples_go ss one.made d l only.1 i))
      where
        further : (l : Option Fields) (xs : Code) (ss : StmtTrees) (d : Assigned) → KnowsAt (Some d) l → ((m : Fields) → Knows d m → KnowsAt (source.at_end flow ss (Some d)) (at_end (fields_flow c b) (code_of xs) (Some m))) → KnowsAt (source.at_end flow ss (Some d)) (at_end (fields_flow c b) (code_of xs) l)
        further None xs ss d h go = subst (KnowsAt (source.at_end flow ss (Some d))) (sym (at_none (fields_flow c b) (code_of xs))) (unreached (source.at_end flow ss (Some d)))
        further (Some m) xs ss d h go = go m h
    simples_go (Before x ss) made a k only h = absurd only

  -- ---- statements

  -- of a check of what is known at returns alone
  module _ (z : ElaborationContext) (known : (f : ℕ) → is_among n f ≡ true → is_some (field_at z.program f) ≡ true) (check : Check Fields) (asked : IsOfReturns c b check) (fault : Option Assigned → List Fault)
      (complete : (a : Assigned) (k : Fields) → Knows a k → fault (Some a) ≡ [] → (p : Place) (e : Option core.ExprTree) → check.statement (ReturnStmt p e) k ≡ true) where
    abbrev at : List Opened → ElaborationContext
    at os = record z { exposes = os }

    -- the same asked of the source
    abbrev pub ends : source.Check Assigned
    ends = record {
      declared = λ d a. [];
      done = λ s a. [];
      read = λ e a. [];
      returned = λ e a. fault a;
    }

    abbrev Holds : Code → Option Fields → Type 0
    Holds xs k = holds_along (fields_flow c b) check (code_of xs) k ≡ true

    abbrev End : Code → Option Fields → Option Fields
    End xs k = at_end (fields_flow c b) (code_of xs) k

    -- from what is known here the code passes, and after it at least this is known
    abbrev pub Goes : Code → Fields → Option Assigned → Type 0
    Goes xs k a = Holds xs (Some k) × KnowsAt a (End xs (Some k))

    mild_goes : (xs : Code) (a : Assigned) (k : Fields) → IsMild xs → Knows a k → Goes xs k (Some a)
    mild_goes xs a k mild h = (mild_holds c b check asked (code_of xs) (Some k) mild, adds a k xs mild h)

    -- code after code that only adds
    after_mild : (xs ys : Code) (a : Assigned) (k : Fields) (d : Option Assigned) → IsMild xs → Knows a k → ((l : Fields) → Knows a l → Goes ys l d) → Goes (xs ++ ys) k d
    after_mild xs ys a k d mild h rest =
        let r = mild_end c b (code_of xs) k mild in
        let g = rest r.fields (more a k r.fields h r.grows) in
        let there : End xs (Some k) ≡ Some r.fields = r.is in (
          holds-append (fields_flow c b) check xs ys (Some k) (mild_holds c b check asked (code_of xs) (Some k) mild) (subst (Holds ys) (sym there) g.0),
          subst (KnowsAt d) (sym (at_end-append (fields_flow c b) xs ys (Some k) ∙ ap (End ys) there)) g.1,
        )

    -- code that only adds after code
    before_mild : (xs ys : Code) (k : Fields) (d : Option Assigned) → Goes xs k d → IsMild ys → Goes (xs ++ ys) k d
    before_mild xs ys k d h mild = (
      holds-append (fields_flow c b) check xs ys (Some k) h.0 (mild_holds c b check asked (code_of ys) (End xs (Some k)) mild),
      subst (KnowsAt d) (sym (at_end-append (fields_flow c b) xs ys (Some k))) (adds_at d (End xs (Some k)) ys mild h.1),
    )

    no_declared : (ds : List DeclaratorTree) (a : Assigned) → source.all_declared flow ds a ≡ a
    no_declared [] a = refl
    no_declared (d ∷ ds) a = no_declared ds a

    -- ---- `if`

    branch_goes : (p : Place) (e : ExprTree) (os : List Opened) (made : List Ty) (one other : Code) (a : Assigned) (k : Fields) (x y : Option Assigned) → Knows a k → ((l : Fields) → Knows a l → Goes one l x) → ((l : Fields) → Knows a l → Goes other l y) →
        Goes ((value (at os) e made).code ++ IfStmt p (value (at os) e made).value (code_of one) (code_of other) ∷ []) k (source.met flow x y)
    branch_goes p e os made one other a k x y h f g =
        let v = value (at os) e made in
        after_mild v.code (IfStmt p v.value (code_of one) (code_of other) ∷ []) a k (source.met flow x y) (value_is_mild (at os) e made) h
        (λ l i.
        let left_side = f l i in
        let right = g l i in
        (and_from _ _ (and_from _ _ (and_from _ _ (asked.others (IfStmt p v.value (code_of one) (code_of other)) l refl) left_side.0) right.0) (holds_none_end (met (fields_flow c b) (End one (Some l)) (End other (Some l)))), meets x y (End one (Some l)) (End other (Some l)) left_side.1 right.1))
      where
        holds_none_end : (k : Option Fields) → holds_along (fields_flow c b) check NoCode k ≡ true
        holds_none_end k = refl

    -- ---- loops

    test_value : (os : List Opened) (e : ExprTree) (made : List Ty) → is_true e ≡ true → is_literal_true (value (at os) e made).value ≡ true
    test_value os (BoolOf p v) made h = h
    test_value os e made h = absurd (false≢true h)

    loop_goes : (p : Place) (is : List core.ExprTree) (test : core.ExprTree) (os : List Opened) (prelude turn : Code) (always : Bool) (a : Assigned) (k : Fields) → IsMild prelude → (always ≡ true → is_literal_true test ≡ true) → Knows a k → ((l : Fields) → Knows a l → Holds turn (Some l)) →
        Goes (LoopStmt p is (code_of prelude) test (code_of turn) (map exposed os) ∷ []) k (if always then None else Some a)
    loop_goes p is test os prelude turn always a k mild literal h body =
        let s = LoopStmt p is (code_of prelude) test (code_of turn) (map exposed os) in
        let r = mild_end c b (code_of prelude) k mild in
        let inner = more a k r.fields h r.grows in
        let tests : where_reached (check.test test) (End prelude (Some k)) ≡ true = any_reached c b (check.test test) (asked.tests test) (End prelude (Some k)) in
        let inside : in_body (fields_flow c b) test (End prelude (Some k)) ≡ Some r.fields = ap (in_body (fields_flow c b) test) r.is in
        let turns : Holds turn (in_body (fields_flow c b) test (End prelude (Some k))) = subst (Holds turn) (sym inside) (body r.fields inner) in
        let again = any_reached c b (check.statement s) (λ l. asked.others s l refl) (End turn (in_body (fields_flow c b) test (End prelude (Some k)))) in (
          and_from _ _ (and_from _ _ (and_from _ _ (and_from _ _ (and_from _ _ (asked.others s k refl) (mild_holds c b check asked (code_of prelude) (Some k) mild)) tests) turns) again) refl,
          subst (λ x. KnowsAt (if always then None else Some a) (left (fields_flow c b) test x)) (sym r.is) (after_loop always (is_literal_true test) r.fields literal inner),
        )
      where
        after_loop : (v w : Bool) (l : Fields) → (v ≡ true → w ≡ true) → Knows a l → KnowsAt (if v then None else Some a) (if w then None else option_map (λ x. x) (Some l))
        after_loop true w l i j = ap (λ u. if u then None else option_map (λ x. x) (Some l)) (i refl)
        after_loop false true l i j = tt
        after_loop false false l i j = j

    -- ---- returns

    packs_mild : (os : List Opened) → IsMild (map pack_of os)
    packs_mild [] = refl
    packs_mild (o ∷ os) = packs_mild os

    leaving_mild : (os : List Opened) (p : Place) → IsMild (packs (at os) p)
    leaving_mild os p = each-append is_mild (map pack_of (reverse os)) (pack_this (at os) p) (packs_mild (reverse os)) (where_chosen IsMild z.body.flags.ctor (PackStmt p 0 z.body.class ∷ []) [] (λ yes. refl) (λ no. refl))

    return_goes : (xs : Code) (p : Place) (e : Option core.ExprTree) (a : Assigned) (k : Fields) → IsMild xs → Knows a k → fault (Some a) ≡ [] → Goes (xs ++ ReturnStmt p e ∷ []) k None
    return_goes xs p e a k mild h none = after_mild xs (ReturnStmt p e ∷ []) a k None mild h (λ l i. (and_from _ _ (complete a l i none p e) refl, refl))

    leave_with_goes : (os : List Opened) (p : Place) (v : Valued) (a : Assigned) (k : Fields) → IsMild v.code → Knows a k → fault (Some a) ≡ [] → Goes (leave_with (at os) p v).code k None
    leave_with_goes os p v a k mild h none = return_goes (v.code ++ packs (at os) p) p (Some v.value) a k (each-append is_mild v.code (packs (at os) p) mild (leaving_mild os p)) h none

    leave_value_goes : (os : List Opened) (p : Place) (e : ExprTree) (around : List Opened) (made : List Ty) (a : Assigned) (k : Fields) → Knows a k → fault (Some a) ≡ [] → Goes (leave_value (at os) p e around made).code k None
    leave_value_goes os p e [] made a k h none = leave_with_goes os p (value (at os) e made) a k (value_is_mild (at os) e made) h none
    leave_value_goes os p e (o ∷ around) made a k h none =
        let l = right_side (at os) e made in
        leave_with_goes os p (kept_result (at os) e l) a k (local_fits Anything AnyGiven any_passes is_mild (at os) (all_mild z.numbers) (place_of e) (length l.made) (result_type z.body.result) l (right_is_mild (at os) e made)).0 h none

    leave_goes : (os : List Opened) (p : Place) (e : Option ExprTree) (made : List Ty) (a : Assigned) (k : Fields) → Knows a k → fault (Some a) ≡ [] → Goes (leave (at os) p e made).code k None
    leave_goes os p None made a k h none = return_goes (packs (at os) p) p None a k (leaving_mild os p) h none
    leave_goes os p (Some e) made a k h none = leave_value_goes os p e os made a k h none

    ended : (ss : StmtTrees) → source.at_end flow ss None ≡ None
    ended NoMore = refl
    ended (Before x ss) = refl

    -- ---- exposes

    close_goes : (o : Opened) (reaches : Bool) (inside : Coded) (k : Fields) (d : Option Assigned) → Goes inside.code k d → Goes (close o reaches inside).code k d
    close_goes o false inside k d h = h
    close_goes o true inside k d h = before_mild inside.code (pack_of o ∷ []) k d h refl

    expose_goes : (os : List Opened) (p : Place) (e : ExprTree) (t : ℕ) (reaches : Bool) (inner : ElaborationContext → List Ty → Coded) (made : List Ty) (a : Assigned) (k : Fields) (d : Option Assigned) → Knows a k → ((o : Opened) (m : List Ty) (l : Fields) → Knows a l → Goes (inner (at (os ++ o ∷ [])) m).code l d) →
        Goes (expose_lifted (at os) p e t reaches inner (right_side (at os) e made)).code k d
    expose_goes os p e t reaches inner made a k d h f =
        let l = right_side (at os) e made in
        let o = opened p (next z.numbers l.made) t in
        let v = in_temporary z.numbers (place_of e) (temporary_type any_object (type_of e)) l in
        let fit = temporary_fits Anything AnyGiven any_passes is_mild (at os) (all_mild z.numbers) (place_of e) (temporary_type any_object (type_of e)) l (right_is_mild (at os) e made) in
        let inside = inner (at (os ++ o ∷ [])) v.made in
        after_mild (v.code ++ UnpackStmt p (next z.numbers l.made) t ∷ []) (close o reaches inside).code a k d (each-append is_mild v.code (UnpackStmt p (next z.numbers l.made) t ∷ []) fit.0 refl) h
        (λ m i. close_goes o reaches inside m d (f o v.made m i))

    -- ---- statements one after the other

    -- what stands after code is dropped where that doesn't reach its end
    then_goes : (first : Coded) (reaches : Bool) (next : List Ty → Coded) (k : Fields) (d : Option Assigned) (r : Option Assigned) → Goes first.code k d → (reaches ≡ false → End first.code (Some k) ≡ None) → ((a : Assigned) (l : Fields) → d ≡ Some a → Knows a l → Goes (next first.made).code l r) → (d ≡ None → r ≡ None) →
        Goes (then_code first (if reaches then next else nothing)).code k r
    then_goes first reaches next k d r h stops_there f none =
        where_chosen (λ (x : List Ty → Coded). Goes (first.code ++ (x first.made).code) k r) reaches next nothing
        (λ yes. by d (End first.code (Some k)) refl h.1 (λ a. f a) none)
        (λ no.
        let end = stops_there no in
        let same : End (first.code ++ []) (Some k) ≡ None = at_end-append (fields_flow c b) first.code [] (Some k) ∙ end in
        (holds-append (fields_flow c b) check first.code [] (Some k) h.0 refl, subst (KnowsAt r) (sym same) (unreached r)))
      where
        joined : (l : Option Fields) → End first.code (Some k) ≡ l → Holds (next first.made).code l → KnowsAt r (End (next first.made).code l) → Goes (first.code ++ (next first.made).code) k r
        joined l is i j = (
          holds-append (fields_flow c b) check first.code (next first.made).code (Some k) h.0 (subst (Holds (next first.made).code) (sym is) i),
          subst (KnowsAt r) (sym (at_end-append (fields_flow c b) first.code (next first.made).code (Some k) ∙ ap (End (next first.made).code) is)) j,
        )

        by : (d : Option Assigned) (l : Option Fields) → End first.code (Some k) ≡ l → KnowsAt d (End first.code (Some k)) → ((a : Assigned) (m : Fields) → d ≡ Some a → Knows a m → Goes (next first.made).code m r) → (d ≡ None → r ≡ None) → Goes (first.code ++ (next first.made).code) k r
        by d None is i g none = joined None is (holds_none (fields_flow c b) check (code_of (next first.made).code)) (subst (KnowsAt r) (sym (at_none (fields_flow c b) (code_of (next first.made).code))) (unreached r))
        by None (Some l) is i g none = absurd (let e : Some l ≡ None = sym is ∙ i in let y : ⊥ = cc in y)
        by (Some a) (Some l) is i g none = let m = g a l refl (subst (KnowsAt (Some a)) is i) in joined (Some l) is m.0 m.1

    begun_goes : (os : List Opened) (i : Option InitTree) (made : List Ty) (a : Assigned) (k : Fields) → Knows a k → Goes (begin (at os) i made).code k (Some (source.begun flow i a))
    begun_goes os None made a k h = (refl, h)
    begun_goes os (Some (DeclareFirst ds)) made a k h = subst (λ d. Goes (declare (at os) ds made).code k (Some d)) (sym (no_declared ds a)) (mild_goes (declare (at os) ds made).code a k (declared_is_mild (at os) ds made) h)
    begun_goes os (Some (SimpleFirst x)) made a k h = (mild_holds c b check asked (code_of (simple (at os) x made).code) (Some k) (simple_is_mild (at os) x made), done (at os) known x made a k h)

    advance_mild : (os : List Opened) (x : Option SimpleTree) (made : List Ty) → IsMild (advance (at os) x made).code
    advance_mild os None made = refl
    advance_mild os (Some x) made = simple_is_mild (at os) x made

    then_mild : (os : List Opened) (x : Option SimpleTree) (reaches : Bool) (made : List Ty) → IsMild ((if reaches then advance (at os) x else nothing) made).code
    then_mild os x reaches made = where_chosen (λ (g : List Ty → Coded). IsMild (g made).code) reaches (advance (at os) x) nothing (λ yes. advance_mild os x made) (λ no. refl)

    for_goes : (os : List Opened) (p : Place) (is : List ExprTree) (e : Option ExprTree) (turn : List Ty → Coded) (made : List Ty) (a : Assigned) (k : Fields) → Knows a k → ((m : List Ty) (l : Fields) → Knows a l → Holds (turn m).code (Some l)) →
        Goes (loop_while (at os) p is e turn made).code k (source.left flow (source.test_of p e) a)
    for_goes os p is None turn made a k h f = loop_goes p (all_plain z.numbers is) (BoolExpr p true) os [] (turn made).code true a k refl (λ i. refl) h (λ l i. f made l i)
    for_goes os p is (Some e) turn made a k h f =
        let v = value (at os) e made in
        loop_goes p (all_plain z.numbers is) v.value os v.code (turn v.made).code (is_true e) a k (value_is_mild (at os) e made) (λ i. test_value os e made i) h (λ l i. f v.made l i)

    -- code after code whose end is known
    two_goes : (xs ys : Code) (k : Fields) (d : Assigned) (r : Option Assigned) → Goes xs k (Some d) → ((l : Fields) → Knows d l → Goes ys l r) → Goes (xs ++ ys) k r
    two_goes xs ys k d r h f = by (End xs (Some k)) refl h.1
      where
        by : (l : Option Fields) → End xs (Some k) ≡ l → KnowsAt (Some d) (End xs (Some k)) → Goes (xs ++ ys) k r
        by None is i =
            let none : End (xs ++ ys) (Some k) ≡ None = at_end-append (fields_flow c b) xs ys (Some k) ∙ ap (End ys) is ∙ at_none (fields_flow c b) (code_of ys) in (
              holds-append (fields_flow c b) check xs ys (Some k) h.0 (subst (Holds ys) (sym is) (holds_none (fields_flow c b) check (code_of ys))),
              subst (KnowsAt r) (sym none) (unreached r),
            )
        by (Some l) is i =
            let g = f l (subst (KnowsAt (Some d)) is i) in (
              holds-append (fields_flow c b) check xs ys (Some k) h.0 (subst (Holds ys) (sym is) g.0),
              subst (KnowsAt r) (sym (at_end-append (fields_flow c b) xs ys (Some k) ∙ ap (End ys) is)) g.1,
            )

    mutual
      pub stmt_goes : (os : List Opened) (x : StmtTree) (made : List Ty) (a : Assigned) (k : Fields) → Knows a k → source.faults_at flow ends x (Some a) ≡ [] → Goes (stmt (at os) x made).code k (source.behind flow x a)
      stmt_goes os (InBlock d) made a k h none = block_goes os d made a k h none
      stmt_goes os (DeclareOf ds) made a k h none = subst (λ d. Goes (declare (at os) ds made).code k (Some d)) (sym (no_declared ds a)) (mild_goes (declare (at os) ds made).code a k (declared_is_mild (at os) ds made) h)
      stmt_goes os (SimpleOf x) made a k h none = (mild_holds c b check asked (code_of (simple (at os) x made).code) (Some k) (simple_is_mild (at os) x made), done (at os) known x made a k h)
      stmt_goes os (IfOf p e x) made a k h none =
          let v = value (at os) e made in
          branch_goes p e os made (stmt (at os) x v.made).code [] a k (source.behind flow x a) (Some a) h (λ l i. stmt_goes os x v.made a l i none) (λ l i. (refl, i))
      stmt_goes os (IfElseOf p e x y) made a k h none =
          let v = value (at os) e made in
          let one = stmt (at os) x v.made in
          let both = none_left (source.faults_at flow ends x (Some a)) (source.faults_at flow ends y (Some a)) none in
          branch_goes p e os made one.code (stmt (at os) y one.made).code a k (source.behind flow x a) (source.behind flow y a) h (λ l i. stmt_goes os x v.made a l i both.0) (λ l i. stmt_goes os y one.made a l i both.1)
      stmt_goes os (WhileOf p e is x) made a k h none = for_goes os p is (Some e) (stmt (at os) x) made a k h (λ m l i. (stmt_goes os x m a l i none).0)
      stmt_goes os (ForOf p i e step is x) made a k h none =
          let start = begin (at os) i made in
          let d = source.begun flow i a in
          let turn = λ (m : List Ty). then_code (stmt (at os) x m) (if can_end x then advance (at os) step else nothing) in
          let firsts = source.first_faults flow ends i (Some a) in
          let inside = source.faults_at flow ends x (Some d) in
          let body : inside ≡ [] = (none_left (firsts ++ []) inside (none_left ((firsts ++ []) ++ inside) (source.step_faults ends step (source.behind flow x d)) none).0).1 in
          two_goes start.code (loop_while (at os) p is e turn start.made).code k d (source.left flow (source.test_of p e) d) (begun_goes os i made a k h)
          (λ l j. for_goes os p is e turn start.made d l j (λ m n o. holds-append (fields_flow c b) check (stmt (at os) x m).code ((if can_end x then advance (at os) step else nothing) (stmt (at os) x m).made).code (Some n) (stmt_goes os x m d n o body).0 (mild_holds c b check asked (code_of ((if can_end x then advance (at os) step else nothing) (stmt (at os) x m).made).code) (End (stmt (at os) x m).code (Some n)) (then_mild os step (can_end x) (stmt (at os) x m).made))))
      stmt_goes os (ReturnOf p e) made a k h none = leave_goes os p e made a k h none
      stmt_goes os (AssertOf p e) made a k h none = mild_goes (core.AssertStmt p (plain z.numbers e) ∷ []) a k refl h
      stmt_goes os (AssumeOf p e) made a k h none = mild_goes (core.AssumeStmt p (plain z.numbers e) ∷ []) a k refl h
      stmt_goes os (ExposeOf p e t d) made a k h none = expose_goes os p e (exposed_class e t) (block_can_end d) (λ y m. block y d m) made a k (source.after_block flow d a) h (λ o m l i. block_goes (os ++ o ∷ []) d m a l i none)
      stmt_goes os (EmptyOf p) made a k h none = (refl, h)

      pub block_goes : (os : List Opened) (d : BlockTree) (made : List Ty) (a : Assigned) (k : Fields) → Knows a k → source.faults_in flow ends d (Some a) ≡ [] → Goes (block (at os) d made).code k (source.after_block flow d a)
      block_goes os (BlockOf p ss end) made a k h none = stmts_go os ss made a k h none

      pub stmts_go : (os : List Opened) (ss : StmtTrees) (made : List Ty) (a : Assigned) (k : Fields) → Knows a k → source.faults_along flow ends ss (Some a) ≡ [] → Goes (stmts (at os) ss made).code k (source.at_end flow ss (Some a))
      stmts_go os NoMore made a k h none = (refl, h)
      stmts_go os (Before x xs) made a k h none =
          let both = none_left (source.faults_at flow ends x (Some a)) (source.faults_along flow ends xs (source.behind flow x a)) none in
          then_goes (stmt (at os) x made) (can_end x) (stmts (at os) xs) k (source.behind flow x a) (source.at_end flow xs (source.behind flow x a)) (stmt_goes os x made a k h both.0)
          (λ no. stops c b (code_of (stmt (at os) x made).code) (Some k) (stmt_stops (at os) x made no))
          (λ d l is i. subst (λ s. Goes (stmts (at os) xs (stmt (at os) x made).made).code l (source.at_end flow xs s)) (sym is) (stmts_go os xs (stmt (at os) x made).made d l i (subst (λ s. source.faults_along flow ends xs s ≡ []) is both.1)))
          (λ is. ap (source.at_end flow xs) is ∙ ended xs)
