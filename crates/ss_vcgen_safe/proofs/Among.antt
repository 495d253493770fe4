-- Each part that is checked is one of the formulas that say when the expression is defined.
use Rattle.std.proofs.Common.{◌≡◌, ℕ, pos, List, [], ◌∷◌, ◌++◌, map, Bool, true, false, refl, sym, ap, subst}
use Rattle.std.specs.Prelude.{if◌then◌else◌}
use Rattle.std.proofs.lemmas.List.{map-append}
use Rattle.ss_core.specs.declared.names.Kind.{Kind}
use Rattle.ss_core.specs.declared.names.Kind.TheVariants as kind
use Rattle.ss_core.specs.declared.names.Place.{Place}
use Rattle.ss_core.specs.declared.expr.Operator.{Operator}
use Rattle.ss_core.specs.declared.expr.Operator.TheVariants as op
use Rattle.ss_core.specs.Tree.{WordTree, New, ExprTree, IntExpr, BoolExpr, NullExpr, LocalExpr, FieldExpr, ElementExpr, LengthExpr, NegateExpr, NotExpr, BinaryExpr, ImpliesExpr, IffExpr, IsExpr, AsExpr, CastExpr, OldExpr, QuantifiedExpr, StateExpr, OwnersExpr, DefaultExpr}
use Rattle.ss_store_rules.specs.Types.{type_of}
use Rattle.ss_store_rules.specs.NonNull.{Known, Site, is_never_null, known_right}
use Rattle.ss_logic.specs.declared.Sort.TheVariants as sort
use Rattle.ss_logic.specs.Terms.{Term, app}
use Rattle.ss_logic.specs.Terms as term
use Rattle.ss_logic.specs.Formulas.{Formula, Forall, neg}
use Rattle.ss_logic.specs.Shapes.{number, allocated}
use Rattle.ss_logic.specs.Express.{or_of, Meant, over, over_two, said, Context, at_entry, with_bound, fits_int, out_of_range, meant, not_null, readable, under, not_zero, index_fits, operation_parts, defined}
use Rattle.ss_logic.specs.Express as express
use Rattle.ss_vcgen_heaps.specs.Parts.{Part, part, with_formula, parts_under, null_part, readable_parts, word_parts, is_upwards, fits_class, cast_part, operation_part, right_parts, parts}
use Rattle.ss_vcgen_safe.specs.Reading.{formulas_of}

-- ---- formulas of parts

pub formulas-append : (ps qs : List Part) → formulas_of (ps ++ qs) ≡ formulas_of ps ++ formulas_of qs
formulas-append ps qs = map-append (λ (p : Part). p.formula) ps qs

pub formulas_with : (h : Formula → Formula) (ps : List Part) → formulas_of (map (with_formula h) ps) ≡ map h (formulas_of ps)
formulas_with h [] = refl
formulas_with h (p ∷ ps) = ap (λ fs. h p.formula ∷ fs) (formulas_with h ps)

-- ---- what is so of each formula of a list
module _ (P : Formula → Type 0) where
  abbrev pub Each : List Formula → Type 0
  Each [] = Unit {0}
  Each (f ∷ fs) = P f × Each fs

  pub Each-append : (fs gs : List Formula) → Each fs → Each gs → Each (fs ++ gs)
  Each-append [] gs a b = b
  Each-append (f ∷ fs) gs a b = (a.0, Each-append fs gs a.1 b)

  pub Each-parts : (fs gs : List Formula) → Each (fs ++ gs) → Each fs × Each gs
  Each-parts [] gs a = (tt, a)
  Each-parts (f ∷ fs) gs a = let p = Each-parts fs gs a.1 in ((a.0, p.0), p.1)

  pub both : (ps qs : List Part) → Each (formulas_of ps) → Each (formulas_of qs) → Each (formulas_of (ps ++ qs))
  both ps qs a b = subst Each (sym (formulas-append ps qs)) (Each-append (formulas_of ps) (formulas_of qs) a b)

  pub halves : (ps qs : List Part) → Each (formulas_of (ps ++ qs)) → Each (formulas_of ps) × Each (formulas_of qs)
  halves ps qs a = Each-parts (formulas_of ps) (formulas_of qs) (subst Each (formulas-append ps qs) a)

pub Each-map : (P : Formula → Type 0) (h : Formula → Formula) (fs : List Formula) → Each P (map h fs) → Each (λ f. P (h f)) fs
Each-map P h [] a = tt
Each-map P h (f ∷ fs) a = (a.0, Each-map P h fs a.1)

pub map-Each : (P : Formula → Type 0) (h : Formula → Formula) (fs : List Formula) → Each (λ f. P (h f)) fs → Each P (map h fs)
map-Each P h [] a = tt
map-Each P h (f ∷ fs) a = (a.0, map-Each P h fs a.1)

-- under a formula, or over a range
through : (P : Formula → Type 0) (h : Formula → Formula) (ps : List Part) (fs : List Formula) → (Each (λ f. P (h f)) fs → Each (λ f. P (h f)) (formulas_of ps)) → Each P (map h fs) → Each P (formulas_of (map (with_formula h) ps))
through P h ps fs next a = subst (Each P) (sym (formulas_with h ps)) (map-Each P h (formulas_of ps) (next (Each-map P h fs a)))

-- ---- parts that may be left out

module _ (P : Formula → Type 0) where
  unless : (b : Bool) (k : Kind) (p : Place) (f : Formula) → P f → Each P (formulas_of (if b then [] else part k p f))
  unless true k p f h = tt
  unless false k p f h = (h, tt)

  module _ (s : Site) (k : Known) (e : ExprTree) (c : Context) (p : Place) where
    null_among : P (not_null (meant e c)) → Each P (formulas_of (null_part s k e c p))
    null_among h = unless (is_never_null s k c.inside_old e) kind.Null p (not_null (meant e c)) h

    readable_among : Each P (readable c (meant e c)) → Each P (formulas_of (readable_parts s k e c p))
    readable_among h = both P (null_part s k e c p) (if c.inside_old then part kind.Null p (over (meant e c) (allocated c.entry)) else []) (null_among h.0) (looked c.inside_old h.1)
      where
        looked : (b : Bool) → Each P (if b then over (meant e c) (allocated c.entry) ∷ [] else []) → Each P (formulas_of (if b then part kind.Null p (over (meant e c) (allocated c.entry)) else []))
        looked true a = a
        looked false a = a

    word_among : (w : WordTree) → Each P (express.word_parts c w (meant e c)) → Each P (formulas_of (word_parts w s k e c p))
    word_among New h = null_among h.0
    word_among w h = readable_among h

    asked_among : (b : Bool) → Each P (if b then not_null (meant e c) ∷ [] else []) → Each P (formulas_of (if b then null_part s k e c p else []))
    asked_among true h = null_among h.0
    asked_among false h = h

  cast_among : (e : ExprTree) (t : ℕ) (c : Context) (p : Place) → P (fits_class t (meant e c)) → Each P (formulas_of (cast_part e t c p))
  cast_among e t c p h = unless (is_upwards c.classes (type_of c.classes c.types e) t) kind.Cast p (fits_class t (meant e c)) h

-- ---- operations

-- the operation o of two expressions
module _ (P : Formula → Type 0) (x y : Meant) (p : Place) (ps qs : List Part) (fs gs : List Formula) (first : (Q : Formula → Type 0) → Each Q fs → Each Q (formulas_of ps)) (second : (Q : Formula → Type 0) → Each Q gs → Each Q (formulas_of qs)) where
  asked_two : (rest : List Part) → Each P ((fs ++ gs) ++ formulas_of rest) → Each P (formulas_of (ps ++ qs ++ rest))
  asked_two rest a =
      let whole = Each-parts P (fs ++ gs) (formulas_of rest) a in
      let two = Each-parts P fs gs whole.0 in
      both P (ps ++ qs) rest (both P ps qs (first P two.0) (second P two.1)) whole.1

  plain_two : Each P (fs ++ gs) → Each P (formulas_of (ps ++ qs ++ []))
  plain_two a = let two = Each-parts P fs gs a in both P (ps ++ qs) [] (both P ps qs (first P two.0) (second P two.1)) tt

  guarded : (f : Formula) → Each P (fs ++ under f gs) → Each P (formulas_of (ps ++ parts_under f qs ++ []))
  guarded f a =
      let two = Each-parts P fs (under f gs) a in
      let h = λ (g : Formula). or_of (neg f ∷ g ∷ []) in
      both P (ps ++ parts_under f qs) [] (both P ps (parts_under f qs) (first P two.0) (through P h qs gs (second (λ g. P (h g))) two.1)) tt

  operation_among : (o : Operator) → Each P (operation_parts o x y fs gs) → Each P (formulas_of (ps ++ right_parts o x qs ++ operation_part o x y p))
  operation_among op.And a = guarded (said x) a
  operation_among op.Or a = guarded (neg (said x)) a
  operation_among op.Equal a = plain_two a
  operation_among op.NotEqual a = plain_two a
  operation_among op.Less a = plain_two a
  operation_among op.LessEqual a = plain_two a
  operation_among op.Greater a = plain_two a
  operation_among op.GreaterEqual a = plain_two a
  operation_among op.Add a = asked_two (operation_part op.Add x y p) a
  operation_among op.Subtract a = asked_two (operation_part op.Subtract x y p) a
  operation_among op.Multiply a = asked_two (operation_part op.Multiply x y p) a
  operation_among op.Divide a = asked_two (operation_part op.Divide x y p) a
  operation_among op.Remainder a = asked_two (operation_part op.Remainder x y p) a

-- ---- expressions

module _ (s : Site) where
  pub parts_among : (x : ExprTree) (k : Known) (c : Context) (P : Formula → Type 0) → Each P (defined x c) → Each P (formulas_of (parts x s k c))
  parts_among (IntExpr p n) k c P a = tt
  parts_among (BoolExpr p b) k c P a = tt
  parts_among (NullExpr p) k c P a = tt
  parts_among (LocalExpr p x) k c P a = tt
  parts_among (FieldExpr p x f) k c P a =
      let two = Each-parts P (defined x c) (readable c (meant x c)) a in
      both P (parts x s k c) (readable_parts s k x c p) (parts_among x k c P two.0) (readable_among P s k x c p two.1)
  parts_among (ElementExpr p x i) k c P a =
      let fits = Each-parts P (defined x c ++ defined i c ++ readable c (meant x c)) (index_fits (meant x c) (meant i c) ∷ []) a in
      let reads = Each-parts P (defined x c ++ defined i c) (readable c (meant x c)) fits.0 in
      let two = Each-parts P (defined x c) (defined i c) reads.0 in
      both P (parts x s k c ++ parts i s k c ++ readable_parts s k x c p) (part kind.Index p (index_fits (meant x c) (meant i c)))
      (both P (parts x s k c ++ parts i s k c) (readable_parts s k x c p) (both P (parts x s k c) (parts i s k c) (parts_among x k c P two.0) (parts_among i k c P two.1)) (readable_among P s k x c p reads.1)) fits.1
  parts_among (LengthExpr p x) k c P a =
      let two = Each-parts P (defined x c) (not_null (meant x c) ∷ []) a in
      both P (parts x s k c) (null_part s k x c p) (parts_among x k c P two.0) (null_among P s k x c p two.1.0)
  parts_among (NegateExpr p x) k c P a =
      let fits = over (meant x c) (λ v. fits_int (app term.Subtract (number (pos 0) ∷ v ∷ []))) in
      let two = Each-parts P (defined x c) (fits ∷ []) a in
      both P (parts x s k c) (part kind.Overflow p fits) (parts_among x k c P two.0) two.1
  parts_among (NotExpr p x) k c P a = parts_among x k c P a
  parts_among (BinaryExpr p o x y) k c P a =
      operation_among P (meant x c) (meant y c) p (parts x s k c) (parts y s (known_right o x k) c) (defined x c) (defined y c) (λ Q h. parts_among x k c Q h) (λ Q h. parts_among y (known_right o x k) c Q h) o a
  parts_among (ImpliesExpr p x y) k c P a =
      let f = said (meant x c) in
      let two = Each-parts P (defined x c) (under f (defined y c)) a in
      let h = λ (g : Formula). or_of (neg f ∷ g ∷ []) in
      both P (parts x s k c) (parts_under f (parts y s k c)) (parts_among x k c P two.0) (through P h (parts y s k c) (defined y c) (parts_among y k c (λ g. P (h g))) two.1)
  parts_among (IffExpr p x y) k c P a =
      let two = Each-parts P (defined x c) (defined y c) a in
      both P (parts x s k c) (parts y s k c) (parts_among x k c P two.0) (parts_among y k c P two.1)
  parts_among (IsExpr p x t) k c P a = parts_among x k c P a
  parts_among (AsExpr p x t) k c P a = parts_among x k c P a
  parts_among (CastExpr p t non_null x) k c P a =
      let asked = if non_null then not_null (meant x c) ∷ [] else [] in
      let whole = Each-parts P (defined x c ++ asked) (fits_class t (meant x c) ∷ []) a in
      let two = Each-parts P (defined x c) asked whole.0 in
      both P (parts x s k c ++ (if non_null then null_part s k x c p else [])) (cast_part x t c p)
      (both P (parts x s k c) (if non_null then null_part s k x c p else []) (parts_among x k c P two.0) (asked_among P s k x c p non_null two.1)) (cast_among P x t c p whole.1.0)
  parts_among (OldExpr p x) k c P a = parts_among x k (at_entry c) P a
  parts_among (QuantifiedExpr p q name low high x) k c P a =
      let h = λ (f : Formula). Forall (sort.Whole ∷ []) (or_of (out_of_range c (meant low c) (meant high c) ++ f ∷ [])) in
      let whole = Each-parts P (defined low c ++ defined high c) (map h (defined x (with_bound c))) a in
      let two = Each-parts P (defined low c) (defined high c) whole.0 in
      both P (parts low s k c ++ parts high s k c) (map (with_formula h) (parts x s k (with_bound c)))
      (both P (parts low s k c) (parts high s k c) (parts_among low k c P two.0) (parts_among high k c P two.1))
      (through P h (parts x s k (with_bound c)) (defined x (with_bound c)) (parts_among x k (with_bound c) (λ f. P (h f))) whole.1)
  parts_among (StateExpr p w x) k c P a =
      let two = Each-parts P (defined x c) (express.word_parts c w (meant x c)) a in
      both P (parts x s k c) (word_parts w s k x c p) (parts_among x k c P two.0) (word_among P s k x c p w two.1)
  parts_among (OwnersExpr p w x y) k c P a =
      let last = Each-parts P (defined x c ++ defined y c ++ readable c (meant x c)) (readable c (meant y c)) a in
      let reads = Each-parts P (defined x c ++ defined y c) (readable c (meant x c)) last.0 in
      let two = Each-parts P (defined x c) (defined y c) reads.0 in
      both P (parts x s k c ++ parts y s k c ++ readable_parts s k x c p) (readable_parts s k y c p)
      (both P (parts x s k c ++ parts y s k c) (readable_parts s k x c p) (both P (parts x s k c) (parts y s k c) (parts_among x k c P two.0) (parts_among y k c P two.1)) (readable_among P s k x c p reads.1))
      (readable_among P s k y c p last.1)
  parts_among (DefaultExpr p d) k c P a = tt
