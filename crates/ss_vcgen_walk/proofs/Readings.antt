-- Readings of expressions, form by form.
use Rattle.std.proofs.Common.{◌≡◌, ℕ, List, [], ◌++◌, map, Bool, not, refl, sym, ◌∙◌, ap, subst, append_assoc, Result, Ok, Err}
use Rattle.std.specs.Prelude.{IfOk, if◌then◌else◌}
use Rattle.std.proofs.lemmas.List.{append-nil}
use Rattle.ss_core.specs.declared.names.ClassId.{ClassId}
use Rattle.ss_core.specs.declared.names.FieldId.{FieldId}
use Rattle.ss_core.specs.declared.names.Place.{Place}
use Rattle.ss_core.specs.declared.names.Kind.TheVariants as kind
use Rattle.ss_core.specs.declared.expr.Quantifier.{Quantifier}
use Rattle.ss_core.specs.declared.expr.Operator.{Operator}
use Rattle.ss_core.specs.declared.expr.OwnerTest.{OwnerTest}
use Rattle.ss_core.specs.declared.expr.StateWord.{StateWord}
use Rattle.ss_core.specs.declared.expr.StateWord.TheVariants as word
use Rattle.ss_core.specs.Tree.{ExprTree, FieldExpr, ElementExpr, LengthExpr, BinaryExpr, IsExpr, AsExpr, CastExpr, OldExpr, QuantifiedExpr, StateExpr, OwnersExpr}
use Rattle.ss_core.specs.View.{classes, word_tree, owners_tree}
use Rattle.ss_store_rules.specs.NonNull.{is_never_null, known_right}
use Rattle.ss_store_rules.specs.NonNull as rules
use Rattle.ss_store_rules.specs.Types.{type_of, is_bool, element_of}
use Rattle.ss_logic.specs.declared.Sort.{Sort}
use Rattle.ss_logic.specs.Express as spec
use Rattle.ss_terms.specs.declared.forms.FormulaId.{FormulaId}
use Rattle.ss_terms.specs.Forms.{Forms, formulas_at, IsGrown}
use Rattle.ss_terms.proofs.Grown.{IsGrown-then}
use Rattle.ss_vcgen_express.specs.declared.meant.Meant.{Meant}
use Rattle.ss_vcgen_express.specs.declared.context.Context.{Context}
use Rattle.ss_vcgen_express.specs.Marked.{Marked, marked, marked_part, marked_word, with_marked, in_range}
use Rattle.ss_vcgen_express.specs.Numbers.{meant_at, IsMeant, AreFormulas}
use Rattle.ss_vcgen_express.specs.Contexts.{context_at, for_each, quantified_over, IsContext}
use Rattle.ss_vcgen_express.proofs.Grown.{HasMeant-grown}
use Rattle.ss_vcgen_express.proofs.Contexts.{quantified_said-over}
use Rattle.ss_vcgen_heaps.specs.Parts.{is_upwards, fits_class}
use Rattle.ss_vcgen_walk.specs.declared.parts.Part.{Part}
use Rattle.ss_vcgen_walk.specs.declared.null_context.NullContext.{NullContext}
use Rattle.ss_vcgen_walk.specs.declared.singles.Single.{Single}
use Rattle.ss_vcgen_walk.specs.declared.singles.Single.TheVariants as single
use Rattle.ss_vcgen_walk.specs.declared.twos.Two.{Two}
use Rattle.ss_vcgen_walk.specs.declared.twos.Two.TheVariants as two
use Rattle.ss_vcgen_walk.specs.Asked.{asked_null, asked_word}
use Rattle.ss_vcgen_walk.specs.Forms.{single_meant, single_asks, two_meant, two_asks, cast_asks}
use Rattle.ss_vcgen_walk.specs.Parts.{parts_at, HasParts, AreParts}
use Rattle.ss_vcgen_walk.specs.Reading.{Expressed}
use Rattle.ss_vcgen_walk.specs.NullContexts.{type_context_at, known_at, Reads}
use Rattle.ss_vcgen_walk.proofs.Growing.{HasParts-grown}
use Rattle.ss_vcgen_walk.proofs.Composing.{single_after, first_after}

-- an expression with the same tree
pub reads_as : {E : Type 0} (r : Result Meant E) (c : Forms) (ps before : List Part) (s : NullContext) (sc : Context) (t u : ExprTree) → t ≡ u → IfOk r (λ m. Reads c m ps before t s sc) → IfOk r (λ m. Reads c m ps before u s sc)
reads_as r c ps before s sc t u e h = subst (λ (x : ExprTree). IfOk r (λ m. Reads c m ps before x s sc)) e h

-- it has to be checked that the value isn't null
abbrev pub may_be_null : NullContext → Context → ExprTree → Bool
may_be_null s sc t = not (is_never_null (type_context_at s) (known_at s) sc.inside_old t)

module _ {E : Type 0} (r : Result Meant E) (s : NullContext) (sc : Context) (a c : Forms) (m : Meant) (ps qs q : List Part) (t : ExprTree) (g : IsGrown a c) (front : Reads a m ps q t s sc) where
  -- a form with one operand
  abbrev One : Single → Type 0
  One form = IfOk r (λ n. Expressed c n qs (λ b. single_meant form (context_at b sc) (meant_at b m)) (λ b. single_asks form (parts_at b ps) (context_at b sc) (meant_at b m)))

  one_after : (form : Single) → One form → IfOk r (λ n. Expressed c n qs (λ b. single_meant form (context_at b sc) (spec.meant t (context_at b sc))) (λ b. parts_at b q ++ single_asks form (marked t (type_context_at s) (known_at s) (context_at b sc)) (context_at b sc) (spec.meant t (context_at b sc))))
  one_after form h = single_after r form sc a c m ps qs q (λ b. spec.meant t (context_at b sc)) (λ b. marked t (type_context_at s) (known_at s) (context_at b sc)) g front h

  pub reads_is : (k : ClassId) (p : Place) → One (single.Is k) → IfOk r (λ n. Reads c n qs q (IsExpr p t k.0) s sc)
  reads_is k p h = one_after (single.Is k) h

  pub reads_as_class : (k : ClassId) (p : Place) → One (single.As k) → IfOk r (λ n. Reads c n qs q (AsExpr p t k.0) s sc)
  reads_as_class k p h = one_after (single.As k) h

  pub reads_field : (f : FieldId) (p : Place) (checked : Bool) → checked ≡ may_be_null s sc t → One (single.Field p f checked) → IfOk r (λ n. Reads c n qs q (FieldExpr p t f.0) s sc)
  reads_field f p checked e h = one_after (single.Field p f (may_be_null s sc t)) (subst (λ (x : Bool). One (single.Field p f x)) e h)

  pub reads_length : (p : Place) (checked : Bool) → checked ≡ may_be_null s sc t → One (single.Length p checked) → IfOk r (λ n. Reads c n qs q (LengthExpr p t) s sc)
  reads_length p checked e h = one_after (single.Length p (may_be_null s sc t)) (subst (λ (x : Bool). One (single.Length p x)) e h)

  -- a form with a second operand e, which is read where this is known
  abbrev Second : Two → ExprTree → rules.Known → Type 0
  Second form e k = IfOk r (λ n. Expressed c n qs (λ b. two_meant form (context_at b sc) (meant_at b m) (spec.meant e (context_at b sc)))
      (λ b. two_asks form (parts_at b ps) (marked e (type_context_at s) k (context_at b sc)) (context_at b sc) (meant_at b m) (spec.meant e (context_at b sc))))

  pub two_after : (form : Two) (e : ExprTree) (k : rules.Known) → Second form e k →
      IfOk r (λ n. Expressed c n qs (λ b. two_meant form (context_at b sc) (spec.meant t (context_at b sc)) (spec.meant e (context_at b sc)))
      (λ b. parts_at b q ++ two_asks form (marked t (type_context_at s) (known_at s) (context_at b sc)) (marked e (type_context_at s) k (context_at b sc)) (context_at b sc) (spec.meant t (context_at b sc)) (spec.meant e (context_at b sc))))
  two_after form e k h = first_after r form sc a c m ps qs q (λ b. spec.meant t (context_at b sc)) (λ b. spec.meant e (context_at b sc)) (λ b. marked t (type_context_at s) (known_at s) (context_at b sc)) (λ b. marked e (type_context_at s) k (context_at b sc)) g front h

  pub reads_operation : (o : Operator) (p : Place) (e : ExprTree) (bools : Bool) → bools ≡ is_bool (type_of (classes sc.classes.now) sc.types.items t) → Second (two.Operation p o bools) e (known_right o t (known_at s)) →
      IfOk r (λ n. Reads c n qs q (BinaryExpr p o t e) s sc)
  reads_operation o p e bools w h =
      let fits = is_bool (type_of (classes sc.classes.now) sc.types.items t) in
      two_after (two.Operation p o fits) e (known_right o t (known_at s)) (subst (λ (x : Bool). Second (two.Operation p o x) e (known_right o t (known_at s))) w h)

  pub reads_element : (p : Place) (e : ExprTree) (sort : Sort) (checked : Bool) → sort ≡ spec.element_sort (element_of (classes sc.classes.now) (type_of (classes sc.classes.now) sc.types.items t)) → checked ≡ may_be_null s sc t →
      Second (two.Element p sort checked) e (known_at s) → IfOk r (λ n. Reads c n qs q (ElementExpr p t e) s sc)
  reads_element p e sort checked v w h =
      let k = known_at s in
      let of = spec.element_sort (element_of (classes sc.classes.now) (type_of (classes sc.classes.now) sc.types.items t)) in
      two_after (two.Element p of (may_be_null s sc t)) e k (subst (λ (x : Sort). Second (two.Element p x (may_be_null s sc t)) e k) v (subst (λ (x : Bool). Second (two.Element p sort x) e k) w h))

-- what a question asks
pub word_asks : (w : StateWord) (s : NullContext) (sc : Context) (t : ExprTree) (b : Forms) (p : Place) → marked_word (word_tree w) (type_context_at s) (known_at s) t (context_at b sc) p ≡ asked_word (word_tree w) (may_be_null s sc t) (context_at b sc) (spec.meant t (context_at b sc)) p
word_asks word.Consistent s sc t b p = refl
word_asks word.Committed s sc t b p = refl
word_asks word.New s sc t b p = refl
word_asks (word.Level k) s sc t b p = refl
word_asks (word.Packed k) s sc t b p = refl
word_asks word.Unowned s sc t b p = refl

-- an expression without operands
pub reads_alone : {E : Type 0} (r : Result Meant E) (a c : Forms) (ps : List Part) (s : NullContext) (sc : Context) (t u : ExprTree) → t ≡ u → ((b : Forms) → marked t (type_context_at s) (known_at s) (context_at b sc) ≡ []) → IsGrown a c → HasParts a ps →
    IfOk r (λ m. IsMeant c m (λ b. spec.meant t (context_at b sc))) → IfOk r (λ m. Reads c m ps ps u s sc)
reads_alone (Ok m) a c ps s sc t u e none g h is = subst (λ (x : ExprTree). Reads c m ps ps x s sc) e (record {
  meant = is;
  parts = record { has = HasParts-grown g ps h; are = λ b k. sym (append-nil (parts_at b ps)) ∙ ap (λ l. parts_at b ps ++ l) (sym (none b)) };
})
reads_alone (Err z) a c ps s sc t u e none g h is = tt

-- inside `old`
pub reads_old : {E : Type 0} (r : Result Meant E) (c : Forms) (ps q : List Part) (t : ExprTree) (p : Place) (s : NullContext) (inner sc : Context) → ((b : Forms) → context_at b inner ≡ spec.at_entry (context_at b sc)) → IfOk r (λ m. Reads c m ps q t s inner) → IfOk r (λ m. Reads c m ps q (OldExpr p t) s sc)
reads_old (Ok m) c ps q t p s inner sc e h = record {
  meant = record { has = h.meant.has; is = λ b k. h.meant.is b k ∙ ap (spec.meant t) (e b) };
  parts = record { has = h.parts.has; are = λ b k. h.parts.are b k ∙ ap (λ x. parts_at b q ++ marked t (type_context_at s) (known_at s) x) (e b) };
}
reads_old (Err z) c ps q t p s inner sc e h = tt

-- inside a quantifier
pub reads_member : {E : Type 0} (r : Result Meant E) (a c : Forms) (ps q : List Part) (t : ExprTree) (s : NullContext) (inner sc : Context) → IsGrown a c → IsContext a inner (λ b. spec.with_bound (context_at b sc)) → IfOk r (λ m. Reads c m ps q t s inner) →
    IfOk r (λ m. Expressed c m ps (λ b. spec.meant t (spec.with_bound (context_at b sc))) (λ b. parts_at b q ++ marked t (type_context_at s) (known_at s) (spec.with_bound (context_at b sc))))
reads_member (Ok m) a c ps q t s inner sc g e h = record {
  meant = record { has = h.meant.has; is = λ b k. h.meant.is b k ∙ ap (spec.meant t) (e.is b (IsGrown-then a c b g k)) };
  parts = record { has = h.parts.has; are = λ b k. h.parts.are b k ∙ ap (λ x. parts_at b q ++ marked t (type_context_at s) (known_at s) x) (e.is b (IsGrown-then a c b g k)) };
}
reads_member (Err z) a c ps q t s inner sc g e h = tt

-- ---- quantifiers

-- after the bounds, by the member with its parts
pub quantified_after : {E : Type 0} (r : Result Meant E) (q : Quantifier) (sc : Context) (o a d : Forms) (out : List FormulaId) (low high m : Meant) (ps qs list : List Part) (member : Forms → spec.Meant) (members : Forms → List Marked) → IsGrown o a → IsGrown a d →
    AreFormulas o out (λ b. spec.out_of_range (context_at b sc) (meant_at b low) (meant_at b high)) → Expressed a m list member members →
    IfOk r (λ n. Expressed d n qs (λ b. spec.Says (quantified_over q (formulas_at b out) (spec.said (meant_at b m)))) (λ b. parts_at b ps ++ map (with_marked (for_each (formulas_at b out))) (parts_at b list))) →
    IfOk r (λ n. Expressed d n qs (λ b. spec.Says (spec.quantified_said (context_at b sc) q (meant_at b low) (meant_at b high) (spec.said (member b)))) (λ b. parts_at b ps ++ map (with_marked (in_range (context_at b sc) (meant_at b low) (meant_at b high))) (members b)))
quantified_after (Ok n) q sc o a d out low high m ps qs list member members g h os e w = record {
  meant = record {
    has = w.meant.has;
    is = λ b k.
        let k2 = IsGrown-then a d b h k in
        let k1 = IsGrown-then o a b g k2 in
        w.meant.is b k
        ∙ ap (λ l. spec.Says (quantified_over q l (spec.said (meant_at b m)))) (os.are b k1)
        ∙ ap (λ f. spec.Says f) (quantified_said-over (context_at b sc) q (meant_at b low) (meant_at b high) (spec.said (meant_at b m)))
        ∙ ap (λ x. spec.Says (spec.quantified_said (context_at b sc) q (meant_at b low) (meant_at b high) (spec.said x))) (e.meant.is b k2);
  };
  parts = record {
    has = w.parts.has;
    are = λ b k.
        let k2 = IsGrown-then a d b h k in
        let k1 = IsGrown-then o a b g k2 in
        w.parts.are b k
        ∙ ap (λ l. parts_at b ps ++ map (with_marked (for_each l)) (parts_at b list)) (os.are b k1)
        ∙ ap (λ l. parts_at b ps ++ map (with_marked (in_range (context_at b sc) (meant_at b low) (meant_at b high))) l) (e.parts.are b k2);
  };
}
quantified_after (Err z) q sc o a d out low high m ps qs list member members g h os e w = tt

-- the expression, by its bounds
pub reads_quantified : {E : Type 0} (r : Result Meant E) (s : NullContext) (sc : Context) (a1 a2 d : Forms) (x y : Meant) (ps1 ps2 qs before : List Part) (tl th t : ExprTree) (p : Place) (q : Quantifier) (n : List ℕ) → IsGrown a1 a2 → IsGrown a2 d → Reads a1 x ps1 before tl s sc → Reads a2 y ps2 ps1 th s sc →
    IfOk r (λ v. Expressed d v qs (λ b. spec.Says (spec.quantified_said (context_at b sc) q (meant_at b x) (meant_at b y) (spec.said (spec.meant t (spec.with_bound (context_at b sc))))))
    (λ b. parts_at b ps2 ++ map (with_marked (in_range (context_at b sc) (meant_at b x) (meant_at b y))) (marked t (type_context_at s) (known_at s) (spec.with_bound (context_at b sc))))) →
    IfOk r (λ v. Reads d v qs before (QuantifiedExpr p q n tl th t) s sc)
reads_quantified (Ok v) s sc a1 a2 d x y ps1 ps2 qs before tl th t p q n g h l k w = record {
  meant = record {
    has = w.meant.has;
    is = λ b j.
        let j2 = IsGrown-then a2 d b h j in
        let j1 = IsGrown-then a1 a2 b g j2 in
        let f = spec.said (spec.meant t (spec.with_bound (context_at b sc))) in
        w.meant.is b j
        ∙ ap (λ u. spec.Says (spec.quantified_said (context_at b sc) q u (meant_at b y) f)) (l.meant.is b j1)
        ∙ ap (λ u. spec.Says (spec.quantified_said (context_at b sc) q (spec.meant tl (context_at b sc)) u f)) (k.meant.is b j2);
  };
  parts = record {
    has = w.parts.has;
    are = λ b j.
        let j2 = IsGrown-then a2 d b h j in
        let j1 = IsGrown-then a1 a2 b g j2 in
        let c = context_at b sc in
        let ml = marked tl (type_context_at s) (known_at s) c in
        let mh = marked th (type_context_at s) (known_at s) c in
        let mt = marked t (type_context_at s) (known_at s) (spec.with_bound c) in
        let inner = map (with_marked (in_range c (spec.meant tl c) (spec.meant th c))) mt in
        w.parts.are b j
        ∙ ap (λ u. parts_at b ps2 ++ map (with_marked (in_range c u (meant_at b y))) mt) (l.meant.is b j1)
        ∙ ap (λ u. parts_at b ps2 ++ map (with_marked (in_range c (spec.meant tl c) u)) mt) (k.meant.is b j2)
        ∙ ap (λ u. u ++ inner) (k.parts.are b j2 ∙ ap (λ u. u ++ mh) (l.parts.are b j1) ∙ append_assoc (parts_at b before) ml mh)
        ∙ append_assoc (parts_at b before) (ml ++ mh) inner;
  };
}
reads_quantified (Err z) s sc a1 a2 d x y ps1 ps2 qs before tl th t p q n g h l k w = tt

-- ---- casts

pub reads_cast : (s : NullContext) (sc : Context) (a c : Forms) (m : Meant) (ps qs before : List Part) (t : ExprTree) (p : Place) (k : ℕ) (non_null : Bool) → IsGrown a c → Reads a m ps before t s sc →
    AreParts c qs (λ b. cast_asks (type_context_at s) (known_at s) (context_at b sc) p k non_null t (parts_at b ps) (meant_at b m)) → Reads c m qs before (CastExpr p k non_null t) s sc
reads_cast s sc a c m ps qs before t p k non_null g e h = record {
  meant = record { has = HasMeant-grown g m e.meant.has; is = λ b j. e.meant.is b (IsGrown-then a c b g j) };
  parts = record {
    has = h.has;
    are = λ b j.
        let j2 = IsGrown-then a c b g j in
        let d = context_at b sc in
        let mt = marked t (type_context_at s) (known_at s) d in
        let v = spec.meant t d in
        let u = if non_null then asked_null (may_be_null s sc t) v p else [] in
        let w = marked_part kind.Cast p (not (is_upwards d.classes (type_of d.classes d.types t) k)) (fits_class k v) in
        h.are b j
        ∙ ap (λ l. cast_asks (type_context_at s) (known_at s) d p k non_null t l (meant_at b m)) (e.parts.are b j2)
        ∙ ap (cast_asks (type_context_at s) (known_at s) d p k non_null t (parts_at b before ++ mt)) (e.meant.is b j2)
        ∙ ap (λ l. l ++ w) (append_assoc (parts_at b before) mt u)
        ∙ append_assoc (parts_at b before) (mt ++ u) w;
  };
}

-- ---- questions

pub reads_state : {E : Type 0} (r : Result Meant E) (s : NullContext) (sc : Context) (c : Forms) (qs before : List Part) (t : ExprTree) (p : Place) (w : StateWord) (form : Single) → form ≡ single.State p w (may_be_null s sc t) →
    IfOk r (λ n. Expressed c n qs (λ b. single_meant form (context_at b sc) (spec.meant t (context_at b sc))) (λ b. parts_at b before ++ single_asks form (marked t (type_context_at s) (known_at s) (context_at b sc)) (context_at b sc) (spec.meant t (context_at b sc)))) →
    IfOk r (λ n. Reads c n qs before (StateExpr p (word_tree w) t) s sc)
reads_state {E} (Ok n) s sc c qs before t p w form e h =
    let of = λ (f : Single). Expressed c n qs (λ b. single_meant f (context_at b sc) (spec.meant t (context_at b sc))) (λ b. parts_at b before ++ single_asks f (marked t (type_context_at s) (known_at s) (context_at b sc)) (context_at b sc) (spec.meant t (context_at b sc))) in
    let k = subst of e h in
    record {
      meant = record { has = k.meant.has; is = k.meant.is };
      parts = record { has = k.parts.has; are = λ b j. k.parts.are b j ∙ ap (λ l. parts_at b before ++ (marked t (type_context_at s) (known_at s) (context_at b sc) ++ l)) (sym (word_asks w s sc t b p)) };
    }
reads_state (Err z) s sc c qs before t p w form e h = tt

pub reads_owners : {E : Type 0} (r : Result Meant E) (s : NullContext) (sc : Context) (a c : Forms) (m : Meant) (ps qs before : List Part) (t u : ExprTree) (p : Place) (w : OwnerTest) (form : Two) → IsGrown a c → Reads a m ps before t s sc →
    form ≡ two.Owners p w (may_be_null s sc t) (may_be_null s sc u) →
    IfOk r (λ n. Expressed c n qs (λ b. two_meant form (context_at b sc) (meant_at b m) (spec.meant u (context_at b sc)))
    (λ b. two_asks form (parts_at b ps) (marked u (type_context_at s) (known_at s) (context_at b sc)) (context_at b sc) (meant_at b m) (spec.meant u (context_at b sc)))) →
    IfOk r (λ n. Reads c n qs before (OwnersExpr p (owners_tree w) t u) s sc)
reads_owners r s sc a c m ps qs before t u p w form g front e h =
    let of = λ (f : Two). IfOk r (λ n. Expressed c n qs (λ b. two_meant f (context_at b sc) (meant_at b m) (spec.meant u (context_at b sc)))
    (λ b. two_asks f (parts_at b ps) (marked u (type_context_at s) (known_at s) (context_at b sc)) (context_at b sc) (meant_at b m) (spec.meant u (context_at b sc)))) in
    two_after r s sc a c m ps qs before t g front (two.Owners p w (may_be_null s sc t) (may_be_null s sc u)) u (known_at s) (subst of e h)

-- the same tree in other words
pub reads_tree : (c : Forms) (m : Meant) (ps before : List Part) (s : NullContext) (sc : Context) (t u : ExprTree) → t ≡ u → Reads c m ps before t s sc → Reads c m ps before u s sc
reads_tree c m ps before s sc t u e h = subst (λ (x : ExprTree). Reads c m ps before x s sc) e h
