-- Where the parts that are checked are true, all parts are: the others follow from types, and from what is known of null.
use Rattle.std.proofs.Common.{◌≡◌, ℕ, ℤ, pos, List, [], ◌∷◌, ◌++◌, map, length, Bool, true, false, not, ◌&&◌, Option, Some, None, Ok, refl, sym, ◌∙◌, ap, subst, arith}
use Rattle.std.specs.Prelude.{is_some, slice_get, if◌then◌else◌}
use Rattle.std.proofs.lemmas.Bool.{false≢true, and_parts}
use Rattle.ss_core.specs.declared.names.Kind.TheVariants as kind
use Rattle.ss_core.specs.declared.names.Place.{Place}
use Rattle.ss_core.specs.declared.names.Ty.{Ty}
use Rattle.ss_core.specs.declared.names.Ty.TheVariants as ty
use Rattle.ss_core.specs.declared.expr.Operator.{Operator}
use Rattle.ss_core.specs.declared.expr.Operator.TheVariants as op
use Rattle.ss_core.specs.Tree.{ClassTree, WordTree, New, ExprTree, IntExpr, BoolExpr, NullExpr, LocalExpr, FieldExpr, ElementExpr, LengthExpr, NegateExpr, NotExpr, BinaryExpr, ImpliesExpr, IffExpr, IsExpr, AsExpr, CastExpr, OldExpr, QuantifiedExpr, StateExpr, OwnersExpr, DefaultExpr, BodyTree}
use Rattle.ss_core.specs.Chain.{sub, below, is_class, all_fields}
use Rattle.ss_core.proofs.Chains.{sub-below, sub_trans}
use Rattle.ss_store_rules.specs.declared.Value.{Value as ObjectValue}
use Rattle.ss_store_rules.specs.declared.Value.TheVariants as value
use Rattle.ss_store_rules.specs.Numbers.{fits}
use Rattle.ss_store_rules.specs.Changes.{is_array}
use Rattle.ss_store_rules.specs.Good.{has_type}
use Rattle.ss_store_rules.specs.Locals.{is_default, is_local_among, reads_only}
use Rattle.ss_store_rules.specs.Reads.{as_bool, as_int}
use Rattle.ss_store_rules.specs.Types.{is_int, is_bool, is_reference, has_class, class_type, is_word, is_owners_word, operation_type, type_of}
use Rattle.ss_store_rules.specs.NonNull.{Known, Site, is_never_null, known_tested, known_right}
use Rattle.ss_store_rules.specs.Values as run
use Rattle.ss_machine_typed.proofs.Outcomes.{int_typed}
use Rattle.ss_machine_typed.proofs.Sound.{value_sound}
use Rattle.ss_machine_good.specs.Known.{IsNotNull}
use Rattle.ss_machine_good.proofs.Tests.{tested_true}
use Rattle.ss_logic.specs.declared.Sort.TheVariants as sort
use Rattle.ss_logic.specs.Values.{reference, Heap, Value, whole, Structure}
use Rattle.ss_logic.specs.Terms.{Term, Bound, app}
use Rattle.ss_logic.specs.Terms as term
use Rattle.ss_logic.specs.Formulas.{Formula, Forall, neg}
use Rattle.ss_logic.specs.Objects.{objects_of}
use Rattle.ss_logic.specs.Shapes.{number, at_most, allocated}
use Rattle.ss_logic.specs.Express.{or_of, Meant, over, said, Context, at_entry, with_bound, fits_int, out_of_range, meant, not_null, readable, under, index_fits, operation_parts, defined}
use Rattle.ss_logic.specs.Express as express
use Rattle.ss_logic_means.specs.Means.{standing}
use Rattle.ss_logic_means.specs.Scenes.{setting_of, StandsAmong}
use Rattle.ss_logic_means.proofs.Denoting.{T, M, D, R, All, neg_means, All-append, All-parts, under_all, under_back, under_off}
use Rattle.ss_logic_means.proofs.Operations.{truth_denotes}
use Rattle.ss_logic_means.proofs.Classes.{IsReferenceOf, is_null, object_known, not_null_means}
use Rattle.ss_logic_means.proofs.Reading.{object_cast, null_cast}
use Rattle.ss_logic_means.proofs.Quantified.{parts_upto, upto_parts}
use Rattle.ss_logic_means.proofs.Typed as typed
use Rattle.ss_logic_means.proofs.Operands.{three_parts, where_some, int_some, bool_some, reference_some, class_reference, int_or_bool, field_from, elements_from, element_reference, are_operands}
use Rattle.ss_logic_means.proofs.Everywhere.{everywhere_both, reads_plainly}
use Rattle.ss_logic_means.proofs.Standing.{old_stands, more_stands, bound_stands, range_fits, length_more}
use Rattle.ss_logic_means.proofs.Asking.{low_means, high_means}
use Rattle.ss_logic_means.proofs.Translating.{translated}
use Rattle.ss_vcgen_heaps.specs.Parts.{Part, part, with_formula, parts_under, null_part, readable_parts, word_parts, is_upwards, fits_class, cast_part, operation_part, right_parts, parts}
use Rattle.ss_vcgen_safe.specs.Reading.{formulas_of}
use Rattle.ss_vcgen_safe.proofs.Among.{formulas-append, formulas_with}
use Rattle.ss_vcgen_safe.proofs.ValuesOfParts.{value_of_all}
use Rattle.ss_vcgen_safe.proofs.KnownParts.{Sees, sees_old, sees_bound, sees_more, seen_not_null}

-- ---- lists

module _ (cs : List ClassTree) (m : Structure) (e : List Value) where
  abbrev AllOf : List Part → Type 0
  AllOf ps = All cs m e (formulas_of ps)

  halves : (ps qs : List Part) → AllOf (ps ++ qs) → AllOf ps × AllOf qs
  halves ps qs a = All-parts cs m e (formulas_of ps) (formulas_of qs) (subst (λ fs. All cs m e fs) (formulas-append ps qs) a)

  -- parts under a formula, where it is true and where it isn't
  module _ (f : Formula) (b : Bool) (means : M cs m e f b) (ps : List Part) (gs : List Formula) where
    abbrev guarded : Formula → Formula
    guarded g = or_of (neg f ∷ g ∷ [])

    under_enough : (b ≡ true → AllOf ps → All cs m e gs) → AllOf (parts_under f ps) → All cs m e (under f gs)
    under_enough next a = by_truth b refl
      where
        by_truth : (v : Bool) → b ≡ v → All cs m e (under f gs)
        by_truth true is = under_all cs m e f gs (next is (under_back cs m e f (means.1 is) (formulas_of ps) (subst (λ fs. All cs m e fs) (formulas_with guarded ps) a)))
        by_truth false is = under_off cs m e f (λ t. false≢true (sym is ∙ means.0 t)) gs

-- ---- types

reads_of : (among : ℕ → Bool) (x : ExprTree) → reads_plainly among x ≡ true → reads_only among x ≡ true
reads_of among x h =
    everywhere_both (λ y. not (is_default y) && is_local_among among y) (λ y. not (is_default y) && is_local_among among y) (is_local_among among) (λ y p q. (and_parts (not (is_default y)) (is_local_among among y) p).1) x h h

typed_some : (a : Option Ty) → is_some a ≡ true → (t : Ty) × (a ≡ Some t)
typed_some None h = absurd (false≢true h)
typed_some (Some t) h = (t, refl)

never_is_null : (h : Heap) (u : ObjectValue) → IsReferenceOf h u → IsNotNull u → not (is_null u) ≡ true
never_is_null h (value.Obj o) r n = refl
never_is_null h value.Null r n = absurd (n refl)
never_is_null h (value.Int i) r n = absurd r
never_is_null h (value.Bool b) r n = absurd r

-- ---- one expression
module _ (b : BodyTree) (first : List Ty) (constructs : Bool) (among : ℕ → Bool) (m : Structure) (now entry : Heap) where
  abbrev In : Context → List ObjectValue → run.Setting
  In c locals = setting_of m c now entry locals

  abbrev site_of : Context → Site
  site_of c = record { classes = c.classes; locals = first; constructs = constructs }

  module _ (c : Context) (locals : List ObjectValue) (k : Known) (sees : Sees first constructs among k (In c locals) c.types) (e : List Value) (st : StandsAmong among m c now entry locals e) (at : length e ≡ c.bound) where
    abbrev A : List Formula → Type 0
    A fs = All c.classes m e fs

    abbrev P : List Part → Type 0
    P ps = All c.classes m e (formulas_of ps)

    read : (x : ExprTree) → reads_plainly among x ≡ true → is_some (type_of c.classes c.types x) ≡ true → R c.classes m e (defined x c) (meant x c) (run.value_of x (In c locals))
    read x reads is = translated among m now entry x c locals constructs sees.good e st reads is (λ _. at)

    found : (x : ExprTree) → reads_plainly among x ≡ true → is_some (type_of c.classes c.types x) ≡ true → A (defined x c) → (u : ObjectValue) × (run.value_of x (In c locals) ≡ Ok u) × D c.classes m e (meant x c) (standing u)
    found x reads is a = value_of_all c.classes m e (defined x c) (meant x c) (run.value_of x (In c locals)) (read x reads is) a

    -- ---- null

    null_enough : (x : ExprTree) (p : Place) → reads_plainly among x ≡ true → is_reference (type_of c.classes c.types x) ≡ true → A (defined x c) → P (null_part (site_of c) k x c p) → T c.classes m e (not_null (meant x c))
    null_enough x p reads r a h = by_known (is_never_null (site_of c) k c.inside_old x) refl h
      where
        by_known : (v : Bool) → is_never_null (site_of c) k c.inside_old x ≡ v → P (if v then [] else part kind.Null p (not_null (meant x c))) → T c.classes m e (not_null (meant x c))
        by_known false is q = q.0
        by_known true is q =
            let some = reference_some (type_of c.classes c.types x) r in
            let u = found x reads some a in
            let t = typed_some (type_of c.classes c.types x) some in
            let refers = typed.gives_reference m (In c locals) now refl c.types constructs sees.good x r u.0 u.1 in
            (not_null_means c.classes m e now (meant x c) u.0 refers u.2).1 (never_is_null now u.0 refers (seen_not_null b first constructs among k (In c locals) c.types sees x (reads_of among x reads) t.0 t.1 is u.0 u.1))

    readable_enough : (x : ExprTree) (p : Place) → reads_plainly among x ≡ true → is_reference (type_of c.classes c.types x) ≡ true → A (defined x c) → P (readable_parts (site_of c) k x c p) → A (readable c (meant x c))
    readable_enough x p reads r a h =
        let two = halves c.classes m e (null_part (site_of c) k x c p) (if c.inside_old then part kind.Null p (over (meant x c) (allocated c.entry)) else []) h in
        (null_enough x p reads r a two.0, looked c.inside_old two.1)
      where
        looked : (v : Bool) → P (if v then part kind.Null p (over (meant x c) (allocated c.entry)) else []) → A (if v then over (meant x c) (allocated c.entry) ∷ [] else [])
        looked true q = q
        looked false q = q

    word_enough : (w : WordTree) (x : ExprTree) (p : Place) → reads_plainly among x ≡ true → is_reference (type_of c.classes c.types x) ≡ true → A (defined x c) → P (word_parts w (site_of c) k x c p) → A (express.word_parts c w (meant x c))
    word_enough New x p reads r a h = (null_enough x p reads r a h, tt)
    word_enough w x p reads r a h = readable_enough x p reads r a h

    asked_enough : (non_null : Bool) (x : ExprTree) (p : Place) → reads_plainly among x ≡ true → is_reference (type_of c.classes c.types x) ≡ true → A (defined x c) →
        P (if non_null then null_part (site_of c) k x c p else []) → A (if non_null then not_null (meant x c) ∷ [] else [])
    asked_enough true x p reads r a h = (null_enough x p reads r a h, tt)
    asked_enough false x p reads r a h = tt

    -- ---- casts

    -- a value of a type at which every object is of the class t
    upwards : (t : ℕ) (x : Meant) (a : Option Ty) → is_upwards c.classes a t ≡ true → (u : ObjectValue) → ((y : Ty) → a ≡ Some y → has_type c.classes (objects_of c.classes m.table now) y u ≡ true) → D c.classes m e x (standing u) → T c.classes m e (fits_class t x)
    upwards t x None h u has d = absurd (false≢true h)
    upwards t x (Some ty.Int) h u has d = absurd (false≢true h)
    upwards t x (Some ty.Bool) h u has d = absurd (false≢true h)
    upwards t x (Some ty.Null) h value.Null has d = (null_cast c.classes m e now t x d).1 refl
    upwards t x (Some ty.Null) h (value.Obj o) has d = absurd (false≢true (has ty.Null refl))
    upwards t x (Some ty.Null) h (value.Int i) has d = absurd (false≢true (has ty.Null refl))
    upwards t x (Some ty.Null) h (value.Bool i) has d = absurd (false≢true (has ty.Null refl))
    upwards t x (Some (ty.Ref y n)) h value.Null has d = (null_cast c.classes m e now t x d).1 refl
    upwards t x (Some (ty.Ref y n)) h (value.Obj o) has d =
        let held = typed.class_held c.classes m.table now y.0 o (has (ty.Ref y n) refl) in
        let own = m.table.class_of (reference o) in
        let up = sub_trans c.classes sees.good.chain own y.0 t (sym (sub-below c.classes sees.good.beside own y.0) ∙ held.1) h in
        (object_cast c.classes m e now t x o held.0 d).1 (ap (λ z. sub c.classes z.class t) (object_known c.classes m e now o held.0) ∙ up)
    upwards t x (Some (ty.Ref y n)) h (value.Int i) has d = absurd (false≢true (has (ty.Ref y n) refl))
    upwards t x (Some (ty.Ref y n)) h (value.Bool i) has d = absurd (false≢true (has (ty.Ref y n) refl))

    cast_enough : (x : ExprTree) (t : ℕ) (p : Place) → reads_plainly among x ≡ true → is_some (type_of c.classes c.types x) ≡ true → A (defined x c) → P (cast_part x t c p) → T c.classes m e (fits_class t (meant x c))
    cast_enough x t p reads is a h = by_type (is_upwards c.classes (type_of c.classes c.types x) t) refl h
      where
        by_type : (v : Bool) → is_upwards c.classes (type_of c.classes c.types x) t ≡ v → P (if v then [] else part kind.Cast p (fits_class t (meant x c))) → T c.classes m e (fits_class t (meant x c))
        by_type false up q = q.0
        by_type true up q =
            let u = found x reads is a in
            upwards t (meant x c) (type_of c.classes c.types x) up u.0 (λ y is_y. value_sound x (In c locals) c.types constructs sees.good y u.0 is_y u.1) u.2

    -- ---- truth values

    truth_found : (x : ExprTree) → reads_plainly among x ≡ true → is_bool (type_of c.classes c.types x) ≡ true → A (defined x c) → (u : ObjectValue) × (run.value_of x (In c locals) ≡ Ok u) × M c.classes m e (said (meant x c)) (as_bool u)
    truth_found x reads is a =
        let u = found x reads (bool_some (type_of c.classes c.types x) is) a in
        (u.0, u.1, truth_denotes c.classes m e (meant x c) (run.value_of x (In c locals)) (typed.gives_bool m (In c locals) now refl c.types constructs sees.good x is) u.0 u.1 u.2)

    tested_sees : (x : ExprTree) (u : ObjectValue) (v : Bool) → is_bool (type_of c.classes c.types x) ≡ true → run.value_of x (In c locals) ≡ Ok u → as_bool u ≡ v → Sees first constructs among (known_tested x v k) (In c locals) c.types
    tested_sees x u v is has same =
        sees_more b first constructs among k (known_tested x v k) (In c locals) c.types sees
        (tested_true (In c locals) c.types constructs sees.good k sees.known x v (typed.bool_type (type_of c.classes c.types x) is) (u, has, same))

  -- ---- ranges

  abbrev lower_formula : Context → Meant → Formula
  lower_formula c low = neg (over low (λ v. at_most v (Bound c.bound)))

  abbrev upper_formula : Context → Meant → Formula
  upper_formula c high = neg (over high (λ v. at_most (app term.Add (Bound c.bound ∷ number (pos 1) ∷ [])) v))

  -- a number of 32 bits
  int_fits : (c : Context) (locals : List ObjectValue) (k : Known) → Sees first constructs among k (In c locals) c.types → (x : ExprTree) → is_int (type_of c.classes c.types x) ≡ true → (u : ObjectValue) → run.value_of x (In c locals) ≡ Ok u → fits (as_int u) ≡ true
  int_fits c locals k sees x h u is = int_typed c.classes (objects_of c.classes m.table now) u (typed.gives_int m (In c locals) now refl c.types constructs sees.good x h u is)

  -- ---- operations

  -- two expressions x and y, of which the second stands after what is known of the first
  module _ (c : Context) (e : List Value) (ps qs : List Part) (fs gs : List Formula) (one : All c.classes m e (formulas_of ps) → All c.classes m e fs) where
    abbrev B : List Formula → Type 0
    B hs = All c.classes m e hs

    two_enough : (rest : List Part) → (B fs → B (formulas_of qs) → B gs) → B (formulas_of (ps ++ qs ++ rest)) → B ((fs ++ gs) ++ formulas_of rest)
    two_enough rest next a =
        let last = halves c.classes m e (ps ++ qs) rest a in
        let two = halves c.classes m e ps qs last.0 in
        let left = one two.0 in
        All-append c.classes m e (fs ++ gs) (formulas_of rest) (All-append c.classes m e fs gs left (next left two.1)) last.1

    plain_enough : (B fs → B (formulas_of qs) → B gs) → B (formulas_of (ps ++ qs ++ [])) → B (fs ++ gs)
    plain_enough next a =
        let two = halves c.classes m e ps qs (halves c.classes m e (ps ++ qs) [] a).0 in
        let left = one two.0 in
        All-append c.classes m e fs gs left (next left two.1)

    guarded_enough : (f : Formula) → (B fs → B (formulas_of (parts_under f qs)) → B (under f gs)) → B (formulas_of (ps ++ parts_under f qs ++ [])) → B (fs ++ under f gs)
    guarded_enough f next a =
        let two = halves c.classes m e ps (parts_under f qs) (halves c.classes m e (ps ++ parts_under f qs) [] a).0 in
        let left = one two.0 in
        All-append c.classes m e fs (under f gs) left (next left two.1)

  not_false : (v : Bool) → not v ≡ true → v ≡ false
  not_false false h = refl
  not_false true h = absurd (false≢true h)

  module _ (c : Context) (locals : List ObjectValue) (k : Known) (sees : Sees first constructs among k (In c locals) c.types) (e : List Value) (st : StandsAmong among m c now entry locals e) (at : length e ≡ c.bound) (p : Place) (x y : ExprTree) (reads : reads_plainly among x ≡ true)
      (one : is_some (type_of c.classes c.types x) ≡ true → All c.classes m e (formulas_of (parts x (site_of c) k c)) → All c.classes m e (defined x c))
      (other : (l : Known) → Sees first constructs among l (In c locals) c.types → is_some (type_of c.classes c.types y) ≡ true → All c.classes m e (formulas_of (parts y (site_of c) l c)) → All c.classes m e (defined y c)) where
    abbrev Left : Option Ty
    Left = type_of c.classes c.types x

    abbrev Right : Option Ty
    Right = type_of c.classes c.types y

    abbrev IsTyped : Operator → Type 0
    IsTyped o = is_some (operation_type o Left Right) ≡ true

    left : (o : Operator) → IsTyped o → All c.classes m e (formulas_of (parts x (site_of c) k c)) → All c.classes m e (defined x c)
    left o h q = one (are_operands o Left Right h).left q

    right : (o : Operator) → IsTyped o → All c.classes m e (defined x c) → All c.classes m e (formulas_of (parts y (site_of c) k c)) → All c.classes m e (defined y c)
    right o h l q = other k sees (are_operands o Left Right h).right q

    plain : (o : Operator) → IsTyped o → All c.classes m e (formulas_of (parts x (site_of c) k c ++ parts y (site_of c) k c ++ [])) → All c.classes m e (defined x c ++ defined y c)
    plain o h q = plain_enough c e (parts x (site_of c) k c) (parts y (site_of c) k c) (defined x c) (defined y c) (left o h) (right o h) q

    strict : (o : Operator) → IsTyped o → (rest : List Part) → All c.classes m e (formulas_of (parts x (site_of c) k c ++ parts y (site_of c) k c ++ rest)) → All c.classes m e ((defined x c ++ defined y c) ++ formulas_of rest)
    strict o h rest q = two_enough c e (parts x (site_of c) k c) (parts y (site_of c) k c) (defined x c) (defined y c) (left o h) rest (right o h) q

    bools : IsTyped op.And → (is_bool Left ≡ true) × (is_bool Right ≡ true)
    bools h = and_parts (is_bool Left) (is_bool Right) (where_some (is_bool Left && is_bool Right) ty.Bool h)

    -- the right operand is read with what the left one tells
    behind : IsTyped op.And → (v : Bool) (u : ObjectValue) → run.value_of x (In c locals) ≡ Ok u → as_bool u ≡ v → All c.classes m e (formulas_of (parts y (site_of c) (known_tested x v k) c)) → All c.classes m e (defined y c)
    behind h v u has same q = other (known_tested x v k) (tested_sees c locals k sees e st at x u v (bools h).0 has same) (bool_some Right (bools h).1) q

    conjunction : IsTyped op.And → All c.classes m e (formulas_of (parts x (site_of c) k c ++ parts_under (said (meant x c)) (parts y (site_of c) (known_tested x true k) c) ++ [])) → All c.classes m e (defined x c ++ under (said (meant x c)) (defined y c))
    conjunction h q =
        guarded_enough c e (parts x (site_of c) k c) (parts y (site_of c) (known_tested x true k) c) (defined x c) (defined y c) (left op.And h) (said (meant x c)) (λ l r.
        let u = truth_found c locals k sees e st at x reads (bools h).0 l in
        under_enough c.classes m e (said (meant x c)) (as_bool u.0) u.2 (parts y (site_of c) (known_tested x true k) c) (defined y c) (λ so. behind h true u.0 u.1 so) r) q

    disjunction : IsTyped op.And → All c.classes m e (formulas_of (parts x (site_of c) k c ++ parts_under (neg (said (meant x c))) (parts y (site_of c) (known_tested x false k) c) ++ [])) → All c.classes m e (defined x c ++ under (neg (said (meant x c))) (defined y c))
    disjunction h q =
        guarded_enough c e (parts x (site_of c) k c) (parts y (site_of c) (known_tested x false k) c) (defined x c) (defined y c) (left op.And h) (neg (said (meant x c))) (λ l r.
        let u = truth_found c locals k sees e st at x reads (bools h).0 l in
        under_enough c.classes m e (neg (said (meant x c))) (not (as_bool u.0)) (neg_means c.classes m e (said (meant x c)) (as_bool u.0) u.2) (parts y (site_of c) (known_tested x false k) c) (defined y c)
        (λ so. behind h false u.0 u.1 (not_false (as_bool u.0) so)) r) q

    by_operator : (o : Operator) → IsTyped o → All c.classes m e (formulas_of (parts x (site_of c) k c ++ right_parts o (meant x c) (parts y (site_of c) (known_right o x k) c) ++ operation_part o (meant x c) (meant y c) p)) →
        All c.classes m e (operation_parts o (meant x c) (meant y c) (defined x c) (defined y c))
    by_operator op.And h q = conjunction h q
    by_operator op.Or h q = disjunction h q
    by_operator op.Equal h q = plain op.Equal h q
    by_operator op.NotEqual h q = plain op.NotEqual h q
    by_operator op.Less h q = plain op.Less h q
    by_operator op.LessEqual h q = plain op.LessEqual h q
    by_operator op.Greater h q = plain op.Greater h q
    by_operator op.GreaterEqual h q = plain op.GreaterEqual h q
    by_operator op.Add h q = strict op.Add h (operation_part op.Add (meant x c) (meant y c) p) q
    by_operator op.Subtract h q = strict op.Subtract h (operation_part op.Subtract (meant x c) (meant y c) p) q
    by_operator op.Multiply h q = strict op.Multiply h (operation_part op.Multiply (meant x c) (meant y c) p) q
    by_operator op.Divide h q = strict op.Divide h (operation_part op.Divide (meant x c) (meant y c) p) q
    by_operator op.Remainder h q = strict op.Remainder h (operation_part op.Remainder (meant x c) (meant y c) p) q

  -- ---- expressions

  pub enough : (x : ExprTree) (c : Context) (locals : List ObjectValue) (k : Known) → Sees first constructs among k (In c locals) c.types → (e : List Value) → StandsAmong among m c now entry locals e → length e ≡ c.bound →
      reads_plainly among x ≡ true → is_some (type_of c.classes c.types x) ≡ true → All c.classes m e (formulas_of (parts x (site_of c) k c)) → All c.classes m e (defined x c)
  enough (IntExpr p n) c locals k sees e st at reads is a = tt
  enough (BoolExpr p v) c locals k sees e st at reads is a = tt
  enough (NullExpr p) c locals k sees e st at reads is a = tt
  enough (LocalExpr p x) c locals k sees e st at reads is a = tt
  enough (FieldExpr p x f) c locals k sees e st at reads is a =
      let t = type_of c.classes c.types x in
      let d = field_from c.classes t (slice_get (all_fields c.classes) f) is in
      let r = class_reference (λ u. below c.classes u d.0.class) t d.2 in
      let two = halves c.classes m e (parts x (site_of c) k c) (readable_parts (site_of c) k x c p) a in
      let left = enough x c locals k sees e st at reads (reference_some t r) two.0 in
      All-append c.classes m e (defined x c) (readable c (meant x c)) left (readable_enough c locals k sees e st at x p reads r left two.1)
  enough (ElementExpr p x i) c locals k sees e st at reads is a =
      let t = type_of c.classes c.types x in
      let n = type_of c.classes c.types i in
      let types = elements_from c.classes t n is in
      let r = element_reference c.classes t types.1 in
      let each = and_parts (reads_plainly among x) (reads_plainly among i) reads in
      let s = site_of c in
      let fits = halves c.classes m e (parts x s k c ++ parts i s k c ++ readable_parts s k x c p) (part kind.Index p (index_fits (meant x c) (meant i c))) a in
      let there = halves c.classes m e (parts x s k c ++ parts i s k c) (readable_parts s k x c p) fits.0 in
      let two = halves c.classes m e (parts x s k c) (parts i s k c) there.0 in
      let left = enough x c locals k sees e st at each.0 (reference_some t r) two.0 in
      let right = enough i c locals k sees e st at each.1 (int_some n types.0) two.1 in
      All-append c.classes m e (defined x c ++ defined i c ++ readable c (meant x c)) (index_fits (meant x c) (meant i c) ∷ [])
      (All-append c.classes m e (defined x c ++ defined i c) (readable c (meant x c)) (All-append c.classes m e (defined x c) (defined i c) left right) (readable_enough c locals k sees e st at x p each.0 r left there.1)) fits.1
  enough (LengthExpr p x) c locals k sees e st at reads is a =
      let t = type_of c.classes c.types x in
      let r = class_reference (is_array c.classes) t (where_some (has_class (is_array c.classes) t) ty.Int is) in
      let two = halves c.classes m e (parts x (site_of c) k c) (null_part (site_of c) k x c p) a in
      let left = enough x c locals k sees e st at reads (reference_some t r) two.0 in
      All-append c.classes m e (defined x c) (not_null (meant x c) ∷ []) left (null_enough c locals k sees e st at x p reads r left two.1, tt)
  enough (NegateExpr p x) c locals k sees e st at reads is a =
      let t = type_of c.classes c.types x in
      let n = where_some (is_int t) ty.Int is in
      let fits = over (meant x c) (λ v. fits_int (app term.Subtract (number (pos 0) ∷ v ∷ []))) in
      let two = halves c.classes m e (parts x (site_of c) k c) (part kind.Overflow p fits) a in
      All-append c.classes m e (defined x c) (fits ∷ []) (enough x c locals k sees e st at reads (int_some t n) two.0) two.1
  enough (NotExpr p x) c locals k sees e st at reads is a =
      let t = type_of c.classes c.types x in
      enough x c locals k sees e st at reads (bool_some t (where_some (is_bool t) ty.Bool is)) a
  enough (BinaryExpr p o x y) c locals k sees e st at reads is a =
      let each = and_parts (reads_plainly among x) (reads_plainly among y) reads in
      by_operator c locals k sees e st at p x y each.0 (λ typed_left q. enough x c locals k sees e st at each.0 typed_left q) (λ l s typed_right q. enough y c locals l s e st at each.1 typed_right q) o is a
  enough (ImpliesExpr p x y) c locals k sees e st at reads is a =
      let t = type_of c.classes c.types x in
      let r = type_of c.classes c.types y in
      let each = and_parts (reads_plainly among x) (reads_plainly among y) reads in
      let bools = and_parts (is_bool t) (is_bool r) (where_some (is_bool t && is_bool r) ty.Bool is) in
      let f = said (meant x c) in
      let two = halves c.classes m e (parts x (site_of c) k c) (parts_under f (parts y (site_of c) k c)) a in
      let left = enough x c locals k sees e st at each.0 (bool_some t bools.0) two.0 in
      let u = truth_found c locals k sees e st at x each.0 bools.0 left in
      All-append c.classes m e (defined x c) (under f (defined y c)) left
      (under_enough c.classes m e f (as_bool u.0) u.2 (parts y (site_of c) k c) (defined y c) (λ so q. enough y c locals k sees e st at each.1 (bool_some r bools.1) q) two.1)
  enough (IffExpr p x y) c locals k sees e st at reads is a =
      let t = type_of c.classes c.types x in
      let r = type_of c.classes c.types y in
      let each = and_parts (reads_plainly among x) (reads_plainly among y) reads in
      let bools = and_parts (is_bool t) (is_bool r) (where_some (is_bool t && is_bool r) ty.Bool is) in
      let two = halves c.classes m e (parts x (site_of c) k c) (parts y (site_of c) k c) a in
      All-append c.classes m e (defined x c) (defined y c) (enough x c locals k sees e st at each.0 (bool_some t bools.0) two.0) (enough y c locals k sees e st at each.1 (bool_some r bools.1) two.1)
  enough (IsExpr p x t) c locals k sees e st at reads is a =
      let u = type_of c.classes c.types x in
      let r = (and_parts (is_reference u) (is_class c.classes t) (where_some (is_reference u && is_class c.classes t) ty.Bool is)).0 in
      enough x c locals k sees e st at reads (reference_some u r) a
  enough (AsExpr p x t) c locals k sees e st at reads is a =
      let u = type_of c.classes c.types x in
      let r = (and_parts (is_reference u) (is_class c.classes t) (where_some (is_reference u && is_class c.classes t) (class_type t) is)).0 in
      enough x c locals k sees e st at reads (reference_some u r) a
  enough (CastExpr p t non_null x) c locals k sees e st at reads is a =
      let u = type_of c.classes c.types x in
      let r = (and_parts (is_reference u) (is_class c.classes t) (where_some (is_reference u && is_class c.classes t) (class_type t) is)).0 in
      let s = site_of c in
      let asked = if non_null then not_null (meant x c) ∷ [] else [] in
      let fits = halves c.classes m e (parts x s k c ++ (if non_null then null_part s k x c p else [])) (cast_part x t c p) a in
      let two = halves c.classes m e (parts x s k c) (if non_null then null_part s k x c p else []) fits.0 in
      let left = enough x c locals k sees e st at reads (reference_some u r) two.0 in
      All-append c.classes m e (defined x c ++ asked) (fits_class t (meant x c) ∷ []) (All-append c.classes m e (defined x c) asked left (asked_enough c locals k sees e st at non_null x p reads r left two.1))
      (cast_enough c locals k sees e st at x t p reads (reference_some u r) left fits.1, tt)
  enough (OldExpr p x) c locals k sees e st at reads is a =
      enough x (at_entry c) locals k (sees_old b first constructs among k (In c locals) c.types sees) e (old_stands among m now entry c locals e st) at reads is a
  enough (QuantifiedExpr p q name low high x) c locals k sees e st at reads is a =
      let s = In c locals in
      let f = type_of c.classes c.types low in
      let g = type_of c.classes c.types high in
      let t = type_of c.classes (c.types ++ ty.Int ∷ []) x in
      let each = three_parts (reads_plainly among low) (reads_plainly among high) (reads_plainly among x) reads in
      let all = and_parts (is_int f && is_int g) (is_bool t) (where_some (is_int f && is_int g && is_bool t) ty.Bool is) in
      let ints = and_parts (is_int f) (is_int g) all.0 in
      let h = λ (part : Formula). Forall (sort.Whole ∷ []) (or_of (out_of_range c (meant low c) (meant high c) ++ part ∷ [])) in
      let last = halves c.classes m e (parts low (site_of c) k c ++ parts high (site_of c) k c) (map (with_formula h) (parts x (site_of c) k (with_bound c))) a in
      let two = halves c.classes m e (parts low (site_of c) k c) (parts high (site_of c) k c) last.0 in
      let from = enough low c locals k sees e st at each.0 (int_some f ints.0) two.0 in
      let to = enough high c locals k sees e st at each.1 (int_some g ints.1) two.1 in
      let u = found c locals k sees e st at low each.0 (int_some f ints.0) from in
      let w = found c locals k sees e st at high each.1 (int_some g ints.1) to in
      let whole_low = typed.gives_whole m s now refl c.types constructs sees.good low ints.0 in
      let whole_high = typed.gives_whole m s now refl c.types constructs sees.good high ints.1 in
      let read_low = λ (i : ℤ). translated among m now entry low c locals constructs sees.good (e ++ whole i ∷ []) (more_stands among m now entry c locals e st i) each.0 (int_some f ints.0) (λ v. absurd (int_or_bool f ints.0 v)) in
      let read_high = λ (i : ℤ). translated among m now entry high c locals constructs sees.good (e ++ whole i ∷ []) (more_stands among m now entry c locals e st i) each.1 (int_some g ints.1) (λ v. absurd (int_or_bool g ints.1 v)) in
      let lower = low_means m c e at (defined low c) (defined high c) (meant low c) (meant high c) (run.value_of low s) (run.value_of high s) whole_low whole_high
      (read c locals k sees e st at low each.0 (int_some f ints.0)) (read c locals k sees e st at high each.1 (int_some g ints.1)) read_low read_high u.0 u.1 in
      let upper = high_means m c e at (defined low c) (defined high c) (meant low c) (meant high c) (run.value_of low s) (run.value_of high s) whole_low whole_high
      (read c locals k sees e st at low each.0 (int_some f ints.0)) (read c locals k sees e st at high each.1 (int_some g ints.1)) read_low read_high w.0 w.1 in
      All-append c.classes m e (defined low c ++ defined high c) (map h (defined x (with_bound c))) (All-append c.classes m e (defined low c) (defined high c) from to)
      (upto_parts c.classes m e (as_int u.0) (as_int w.0) (lower_formula c (meant low c)) (upper_formula c (meant high c)) lower upper (defined x (with_bound c)) (λ i l r.
      let fit = range_fits (as_int u.0) (as_int w.0) i (int_fits c locals k sees low ints.0 u.0 u.1) (int_fits c locals k sees high ints.1 w.0 w.1) l r in
      enough x (with_bound c) (locals ++ value.Int i ∷ []) k (sees_bound b first constructs among k s c.types sees i fit) (e ++ whole i ∷ []) (bound_stands among m now entry c locals e st i at)
      (let more = length_more e (whole i) in omega (arith, more, at)) each.2 (bool_some t all.1)
      (parts_upto c.classes m e (as_int u.0) (as_int w.0) (lower_formula c (meant low c)) (upper_formula c (meant high c)) lower upper (formulas_of (parts x (site_of c) k (with_bound c)))
      (subst (λ fs. All c.classes m e fs) (formulas_with h (parts x (site_of c) k (with_bound c))) last.1) i l r)))
  enough (StateExpr p w x) c locals k sees e st at reads is a =
      let u = type_of c.classes c.types x in
      let r = (and_parts (is_reference u) (is_word c.classes w) (where_some (is_reference u && is_word c.classes w) ty.Bool is)).0 in
      let two = halves c.classes m e (parts x (site_of c) k c) (word_parts w (site_of c) k x c p) a in
      let left = enough x c locals k sees e st at reads (reference_some u r) two.0 in
      All-append c.classes m e (defined x c) (express.word_parts c w (meant x c)) left (word_enough c locals k sees e st at w x p reads r left two.1)
  enough (OwnersExpr p w x y) c locals k sees e st at reads is a =
      let u = type_of c.classes c.types x in
      let v = type_of c.classes c.types y in
      let each = and_parts (reads_plainly among x) (reads_plainly among y) reads in
      let both = and_parts (is_reference u) (is_reference v) (and_parts (is_reference u && is_reference v) (is_owners_word c.classes w) (where_some (is_reference u && is_reference v && is_owners_word c.classes w) ty.Bool is)).0 in
      let s = site_of c in
      let last = halves c.classes m e (parts x s k c ++ parts y s k c ++ readable_parts s k x c p) (readable_parts s k y c p) a in
      let there = halves c.classes m e (parts x s k c ++ parts y s k c) (readable_parts s k x c p) last.0 in
      let two = halves c.classes m e (parts x s k c) (parts y s k c) there.0 in
      let left = enough x c locals k sees e st at each.0 (reference_some u both.0) two.0 in
      let right = enough y c locals k sees e st at each.1 (reference_some v both.1) two.1 in
      All-append c.classes m e (defined x c ++ defined y c ++ readable c (meant x c)) (readable c (meant y c))
      (All-append c.classes m e (defined x c ++ defined y c) (readable c (meant x c)) (All-append c.classes m e (defined x c) (defined y c) left right) (readable_enough c locals k sees e st at x p each.0 both.0 left there.1))
      (readable_enough c locals k sees e st at y p each.1 both.1 right last.1)
  enough (DefaultExpr p d) c locals k sees e st at reads is a = absurd (false≢true reads)
