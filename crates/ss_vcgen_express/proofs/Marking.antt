-- All the marked parts are those of which `defined` speaks, and the checked ones are the parts.
use Rattle.std.proofs.Common.{◌≡◌, ℕ, pos, List, [], ◌∷◌, ◌++◌, map, Bool, true, false, not, refl, ◌∙◌, ap}
use Rattle.std.specs.Prelude.{if◌then◌else◌}
use Rattle.std.proofs.lemmas.List.{map-append, append-nil}
use Rattle.ss_core.specs.declared.names.Kind.{Kind}
use Rattle.ss_core.specs.declared.names.Kind.TheVariants as kind
use Rattle.ss_core.specs.declared.names.Place.{Place}
use Rattle.ss_core.specs.declared.expr.Operator.{Operator}
use Rattle.ss_core.specs.declared.expr.Operator.TheVariants as op
use Rattle.ss_core.specs.Tree.{WordTree, Consistent, Committed, New, Level, Packed, Unowned, ExprTree, IntExpr, BoolExpr, NullExpr, LocalExpr, FieldExpr, ElementExpr, LengthExpr, NegateExpr, NotExpr, BinaryExpr, ImpliesExpr, IffExpr, IsExpr, AsExpr, CastExpr, OldExpr, QuantifiedExpr, StateExpr, OwnersExpr, DefaultExpr}
use Rattle.ss_store_rules.specs.NonNull.{Known, Site, is_never_null, known_right}
use Rattle.ss_logic.specs.Formulas.{Formula, neg}
use Rattle.ss_logic.specs.Shapes.{number, allocated}
use Rattle.ss_logic.specs.Terms.{app}
use Rattle.ss_logic.specs.Terms as term
use Rattle.ss_store_rules.specs.Types.{type_of}
use Rattle.ss_logic.specs.Express.{or_of, Meant, over, said, Context, at_entry, with_bound, fits_int, meant, not_null, index_fits, readable, under, operation_parts, word_parts, defined}
use Rattle.ss_vcgen_heaps.specs.Parts as heaps
use Rattle.ss_vcgen_heaps.specs.Parts.{Part, part, with_formula, is_upwards, parts_under, null_part, readable_parts, cast_part, operation_part, right_parts, parts}
use Rattle.ss_vcgen_express.specs.Marked.{Marked, marked_part, with_marked, marked_under, marked_null, marked_readable, marked_word, marked_cast, marked_operation, marked_right, in_range, marked, formulas_of, checked_of}

-- ---- lists

of_both : (a b : List Marked) → formulas_of (a ++ b) ≡ formulas_of a ++ formulas_of b
of_both a b = map-append (λ (m : Marked). m.part.formula) a b

if_checked : (t : Bool) (p : Part) (xs ys : List Part) → (if t then p ∷ (xs ++ ys) else xs ++ ys) ≡ (if t then p ∷ xs else xs) ++ ys
if_checked true p xs ys = refl
if_checked false p xs ys = refl

checked_both : (a b : List Marked) → checked_of (a ++ b) ≡ checked_of a ++ checked_of b
checked_both [] b = refl
checked_both (m ∷ a) b = ap (λ l. if m.checked then m.part ∷ l else l) (checked_both a b) ∙ if_checked m.checked m.part (checked_of a) (checked_of b)

of_mapped : (g : Formula → Formula) (ms : List Marked) → formulas_of (map (with_marked g) ms) ≡ map g (formulas_of ms)
of_mapped g [] = refl
of_mapped g (m ∷ ms) = ap (λ l. g m.part.formula ∷ l) (of_mapped g ms)

if_mapped : (g : Formula → Formula) (t : Bool) (p : Part) (xs : List Part) → (if t then with_formula g p ∷ map (with_formula g) xs else map (with_formula g) xs) ≡ map (with_formula g) (if t then p ∷ xs else xs)
if_mapped g true p xs = refl
if_mapped g false p xs = refl

checked_mapped : (g : Formula → Formula) (ms : List Marked) → checked_of (map (with_marked g) ms) ≡ map (with_formula g) (checked_of ms)
checked_mapped g [] = refl
checked_mapped g (m ∷ ms) = ap (λ l. if m.checked then with_formula g m.part ∷ l else l) (checked_mapped g ms) ∙ if_mapped g m.checked m.part (checked_of ms)

-- two lists, one after the other
two : {A : Type 0} {a b c d : List A} → a ≡ b → c ≡ d → a ++ c ≡ b ++ d
two {A} {a} {b} {c} {d} p q = ap (λ l. l ++ c) p ∙ ap (λ l. b ++ l) q

of_two : {xs ys : List Formula} (a b : List Marked) → formulas_of a ≡ xs → formulas_of b ≡ ys → formulas_of (a ++ b) ≡ xs ++ ys
of_two a b p q = of_both a b ∙ two p q

checked_two : {xs ys : List Part} (a b : List Marked) → checked_of a ≡ xs → checked_of b ≡ ys → checked_of (a ++ b) ≡ xs ++ ys
checked_two a b p q = checked_both a b ∙ two p q

of_three : {xs ys zs : List Formula} (a b d : List Marked) → formulas_of a ≡ xs → formulas_of b ≡ ys → formulas_of d ≡ zs → formulas_of ((a ++ b) ++ d) ≡ (xs ++ ys) ++ zs
of_three a b d p q r = of_two (a ++ b) d (of_two a b p q) r

checked_three : {xs ys zs : List Part} (a b d : List Marked) → checked_of a ≡ xs → checked_of b ≡ ys → checked_of d ≡ zs → checked_of ((a ++ b) ++ d) ≡ (xs ++ ys) ++ zs
checked_three a b d p q r = checked_two (a ++ b) d (checked_two a b p q) r

-- ---- single parts

of_if : (t : Bool) (k : Kind) (p : Place) (checked : Bool) (f : Formula) → formulas_of (if t then marked_part k p checked f else []) ≡ (if t then f ∷ [] else [])
of_if true k p checked f = refl
of_if false k p checked f = refl

checked_if : (t : Bool) (k : Kind) (p : Place) (f : Formula) → checked_of (if t then marked_part k p true f else []) ≡ (if t then part k p f else [])
checked_if true k p f = refl
checked_if false k p f = refl

checked_unless : (t : Bool) (k : Kind) (p : Place) (f : Formula) → checked_of (marked_part k p (not t) f) ≡ (if t then [] else part k p f)
checked_unless true k p f = refl
checked_unless false k p f = refl

module _ (s : Site) (k : Known) (e : ExprTree) (c : Context) (p : Place) where
  of_readable : formulas_of (marked_readable s k e c p) ≡ readable c (meant e c)
  of_readable = ap (λ l. not_null (meant e c) ∷ l) (of_if c.inside_old kind.Null p true (over (meant e c) (allocated c.entry)))

  checked_null : checked_of (marked_null s k e c p) ≡ null_part s k e c p
  checked_null = checked_unless (is_never_null s k c.inside_old e) kind.Null p (not_null (meant e c))

  checked_readable : checked_of (marked_readable s k e c p) ≡ readable_parts s k e c p
  checked_readable = checked_two (marked_null s k e c p) (if c.inside_old then marked_part kind.Null p true (over (meant e c) (allocated c.entry)) else []) checked_null (checked_if c.inside_old kind.Null p (over (meant e c) (allocated c.entry)))

  of_word : (w : WordTree) → formulas_of (marked_word w s k e c p) ≡ word_parts c w (meant e c)
  of_word Consistent = of_readable
  of_word Committed = of_readable
  of_word New = refl
  of_word (Level t) = of_readable
  of_word (Packed t) = of_readable
  of_word Unowned = of_readable

  checked_word : (w : WordTree) → checked_of (marked_word w s k e c p) ≡ heaps.word_parts w s k e c p
  checked_word Consistent = checked_readable
  checked_word Committed = checked_readable
  checked_word New = checked_null
  checked_word (Level t) = checked_readable
  checked_word (Packed t) = checked_readable
  checked_word Unowned = checked_readable

  checked_where : (non_null : Bool) → checked_of (if non_null then marked_null s k e c p else []) ≡ (if non_null then null_part s k e c p else [])
  checked_where true = checked_null
  checked_where false = refl

  checked_cast : (t : ℕ) → checked_of (marked_cast e t c p) ≡ cast_part e t c p
  checked_cast t = checked_unless (is_upwards c.classes (type_of c.classes c.types e) t) kind.Cast p (heaps.fits_class t (meant e c))

-- ---- operations

module _ (a b : Meant) (p : Place) (qs : List Marked) where
  of_operation : (o : Operator) (ms : List Marked) → formulas_of ((ms ++ marked_right o a qs) ++ marked_operation o a b p) ≡ operation_parts o a b (formulas_of ms) (formulas_of qs)
  of_operation op.Or ms = ap (λ l. formulas_of l) (append-nil (ms ++ marked_right op.Or a qs)) ∙ of_two ms (marked_right op.Or a qs) refl (of_mapped (λ g. or_of (neg (neg (said a)) ∷ g ∷ [])) qs)
  of_operation op.And ms = ap (λ l. formulas_of l) (append-nil (ms ++ marked_right op.And a qs)) ∙ of_two ms (marked_right op.And a qs) refl (of_mapped (λ g. or_of (neg (said a) ∷ g ∷ [])) qs)
  of_operation op.Equal ms = ap (λ l. formulas_of l) (append-nil (ms ++ qs)) ∙ of_both ms qs
  of_operation op.NotEqual ms = ap (λ l. formulas_of l) (append-nil (ms ++ qs)) ∙ of_both ms qs
  of_operation op.Less ms = ap (λ l. formulas_of l) (append-nil (ms ++ qs)) ∙ of_both ms qs
  of_operation op.LessEqual ms = ap (λ l. formulas_of l) (append-nil (ms ++ qs)) ∙ of_both ms qs
  of_operation op.Greater ms = ap (λ l. formulas_of l) (append-nil (ms ++ qs)) ∙ of_both ms qs
  of_operation op.GreaterEqual ms = ap (λ l. formulas_of l) (append-nil (ms ++ qs)) ∙ of_both ms qs
  of_operation op.Add ms = of_two (ms ++ qs) (marked_operation op.Add a b p) (of_both ms qs) refl
  of_operation op.Subtract ms = of_two (ms ++ qs) (marked_operation op.Subtract a b p) (of_both ms qs) refl
  of_operation op.Multiply ms = of_two (ms ++ qs) (marked_operation op.Multiply a b p) (of_both ms qs) refl
  of_operation op.Divide ms = of_two (ms ++ qs) (marked_operation op.Divide a b p) (of_both ms qs) refl
  of_operation op.Remainder ms = of_two (ms ++ qs) (marked_operation op.Remainder a b p) (of_both ms qs) refl

  checked_right : (o : Operator) → checked_of (marked_right o a qs) ≡ right_parts o a (checked_of qs)
  checked_right op.Or = checked_mapped (λ g. or_of (neg (neg (said a)) ∷ g ∷ [])) qs
  checked_right op.And = checked_mapped (λ g. or_of (neg (said a) ∷ g ∷ [])) qs
  checked_right op.Equal = refl
  checked_right op.NotEqual = refl
  checked_right op.Less = refl
  checked_right op.LessEqual = refl
  checked_right op.Greater = refl
  checked_right op.GreaterEqual = refl
  checked_right op.Add = refl
  checked_right op.Subtract = refl
  checked_right op.Multiply = refl
  checked_right op.Divide = refl
  checked_right op.Remainder = refl

  checked_operation : (o : Operator) → checked_of (marked_operation o a b p) ≡ operation_part o a b p
  checked_operation op.Or = refl
  checked_operation op.And = refl
  checked_operation op.Equal = refl
  checked_operation op.NotEqual = refl
  checked_operation op.Less = refl
  checked_operation op.LessEqual = refl
  checked_operation op.Greater = refl
  checked_operation op.GreaterEqual = refl
  checked_operation op.Add = refl
  checked_operation op.Subtract = refl
  checked_operation op.Multiply = refl
  checked_operation op.Divide = refl
  checked_operation op.Remainder = refl

-- ---- expressions

module _ (s : Site) where
  pub marked_are_defined : (e : ExprTree) (k : Known) (c : Context) → formulas_of (marked e s k c) ≡ defined e c
  marked_are_defined (IntExpr p n) k c = refl
  marked_are_defined (BoolExpr p b) k c = refl
  marked_are_defined (NullExpr p) k c = refl
  marked_are_defined (LocalExpr p x) k c = refl
  marked_are_defined (FieldExpr p e f) k c = of_two (marked e s k c) (marked_readable s k e c p) (marked_are_defined e k c) (of_readable s k e c p)
  marked_are_defined (ElementExpr p a i) k c =
      of_two ((marked a s k c ++ marked i s k c) ++ marked_readable s k a c p) (marked_part kind.Index p true (index_fits (meant a c) (meant i c)))
      (of_three (marked a s k c) (marked i s k c) (marked_readable s k a c p) (marked_are_defined a k c) (marked_are_defined i k c) (of_readable s k a c p)) refl
  marked_are_defined (LengthExpr p e) k c = of_two (marked e s k c) (marked_null s k e c p) (marked_are_defined e k c) refl
  marked_are_defined (NegateExpr p e) k c = of_two (marked e s k c) (marked_part kind.Overflow p true (over (meant e c) (λ x. fits_int (app term.Subtract (number (pos 0) ∷ x ∷ []))))) (marked_are_defined e k c) refl
  marked_are_defined (NotExpr p e) k c = marked_are_defined e k c
  marked_are_defined (BinaryExpr p o a b) k c =
      of_operation (meant a c) (meant b c) p (marked b s (known_right o a k) c) o (marked a s k c)
      ∙ ap (λ ps. operation_parts o (meant a c) (meant b c) ps (formulas_of (marked b s (known_right o a k) c))) (marked_are_defined a k c)
      ∙ ap (operation_parts o (meant a c) (meant b c) (defined a c)) (marked_are_defined b (known_right o a k) c)
  marked_are_defined (ImpliesExpr p a b) k c = of_two (marked a s k c) (marked_under (said (meant a c)) (marked b s k c)) (marked_are_defined a k c) (of_mapped (λ g. or_of (neg (said (meant a c)) ∷ g ∷ [])) (marked b s k c) ∙ ap (under (said (meant a c))) (marked_are_defined b k c))
  marked_are_defined (IffExpr p a b) k c = of_two (marked a s k c) (marked b s k c) (marked_are_defined a k c) (marked_are_defined b k c)
  marked_are_defined (IsExpr p e t) k c = marked_are_defined e k c
  marked_are_defined (AsExpr p e t) k c = marked_are_defined e k c
  marked_are_defined (CastExpr p t non_null e) k c =
      of_three (marked e s k c) (if non_null then marked_null s k e c p else []) (marked_cast e t c p) (marked_are_defined e k c) (of_if non_null kind.Null p (not (is_never_null s k c.inside_old e)) (not_null (meant e c))) refl
  marked_are_defined (OldExpr p e) k c = marked_are_defined e k (at_entry c)
  marked_are_defined (QuantifiedExpr p q name low high e) k c =
      let g = in_range c (meant low c) (meant high c) in
      of_three (marked low s k c) (marked high s k c) (map (with_marked g) (marked e s k (with_bound c))) (marked_are_defined low k c) (marked_are_defined high k c)
      (of_mapped g (marked e s k (with_bound c)) ∙ ap (map g) (marked_are_defined e k (with_bound c)))
  marked_are_defined (StateExpr p w e) k c = of_two (marked e s k c) (marked_word w s k e c p) (marked_are_defined e k c) (of_word s k e c p w)
  marked_are_defined (OwnersExpr p w a b) k c =
      of_two ((marked a s k c ++ marked b s k c) ++ marked_readable s k a c p) (marked_readable s k b c p)
      (of_three (marked a s k c) (marked b s k c) (marked_readable s k a c p) (marked_are_defined a k c) (marked_are_defined b k c) (of_readable s k a c p)) (of_readable s k b c p)
  marked_are_defined (DefaultExpr p d) k c = refl

  pub checked_are_parts : (e : ExprTree) (k : Known) (c : Context) → checked_of (marked e s k c) ≡ parts e s k c
  checked_are_parts (IntExpr p n) k c = refl
  checked_are_parts (BoolExpr p b) k c = refl
  checked_are_parts (NullExpr p) k c = refl
  checked_are_parts (LocalExpr p x) k c = refl
  checked_are_parts (FieldExpr p e f) k c = checked_two (marked e s k c) (marked_readable s k e c p) (checked_are_parts e k c) (checked_readable s k e c p)
  checked_are_parts (ElementExpr p a i) k c =
      checked_two ((marked a s k c ++ marked i s k c) ++ marked_readable s k a c p) (marked_part kind.Index p true (index_fits (meant a c) (meant i c)))
      (checked_three (marked a s k c) (marked i s k c) (marked_readable s k a c p) (checked_are_parts a k c) (checked_are_parts i k c) (checked_readable s k a c p)) refl
  checked_are_parts (LengthExpr p e) k c = checked_two (marked e s k c) (marked_null s k e c p) (checked_are_parts e k c) (checked_null s k e c p)
  checked_are_parts (NegateExpr p e) k c = checked_two (marked e s k c) (marked_part kind.Overflow p true (over (meant e c) (λ x. fits_int (app term.Subtract (number (pos 0) ∷ x ∷ []))))) (checked_are_parts e k c) refl
  checked_are_parts (NotExpr p e) k c = checked_are_parts e k c
  checked_are_parts (BinaryExpr p o a b) k c =
      let qs = marked b s (known_right o a k) c in
      checked_three (marked a s k c) (marked_right o (meant a c) qs) (marked_operation o (meant a c) (meant b c) p) (checked_are_parts a k c)
      (checked_right (meant a c) (meant b c) p qs o ∙ ap (right_parts o (meant a c)) (checked_are_parts b (known_right o a k) c))
      (checked_operation (meant a c) (meant b c) p qs o)
  checked_are_parts (ImpliesExpr p a b) k c = checked_two (marked a s k c) (marked_under (said (meant a c)) (marked b s k c)) (checked_are_parts a k c) (checked_mapped (λ g. or_of (neg (said (meant a c)) ∷ g ∷ [])) (marked b s k c) ∙ ap (parts_under (said (meant a c))) (checked_are_parts b k c))
  checked_are_parts (IffExpr p a b) k c = checked_two (marked a s k c) (marked b s k c) (checked_are_parts a k c) (checked_are_parts b k c)
  checked_are_parts (IsExpr p e t) k c = checked_are_parts e k c
  checked_are_parts (AsExpr p e t) k c = checked_are_parts e k c
  checked_are_parts (CastExpr p t non_null e) k c =
      checked_three (marked e s k c) (if non_null then marked_null s k e c p else []) (marked_cast e t c p) (checked_are_parts e k c) (checked_where s k e c p non_null) (checked_cast s k e c p t)
  checked_are_parts (OldExpr p e) k c = checked_are_parts e k (at_entry c)
  checked_are_parts (QuantifiedExpr p q name low high e) k c =
      let g = in_range c (meant low c) (meant high c) in
      checked_three (marked low s k c) (marked high s k c) (map (with_marked g) (marked e s k (with_bound c))) (checked_are_parts low k c) (checked_are_parts high k c)
      (checked_mapped g (marked e s k (with_bound c)) ∙ ap (map (with_formula g)) (checked_are_parts e k (with_bound c)))
  checked_are_parts (StateExpr p w e) k c = checked_two (marked e s k c) (marked_word w s k e c p) (checked_are_parts e k c) (checked_word s k e c p w)
  checked_are_parts (OwnersExpr p w a b) k c =
      checked_two ((marked a s k c ++ marked b s k c) ++ marked_readable s k a c p) (marked_readable s k b c p)
      (checked_three (marked a s k c) (marked b s k c) (marked_readable s k a c p) (checked_are_parts a k c) (checked_are_parts b k c) (checked_readable s k a c p)) (checked_readable s k b c p)
  checked_are_parts (DefaultExpr p d) k c = refl
