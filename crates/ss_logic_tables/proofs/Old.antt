-- Inside `old` no formula of an expression rests on the store now.
use Rattle.std.proofs.Common.{◌≡◌, ℕ, ◌+◌, pos, List, [], ◌∷◌, ◌++◌, true, ◌&&◌, map, refl, ◌∙◌, ap}
use Rattle.std.specs.Prelude.{flat_map, if◌then◌else◌}
use Rattle.std.proofs.lemmas.Bool.{false≢true, and_parts}
use Rattle.ss_core.specs.declared.names.Ty.{Ty}
use Rattle.ss_core.specs.declared.names.Ty.TheVariants as ty
use Rattle.ss_core.specs.declared.expr.Quantifier.{Quantifier}
use Rattle.ss_core.specs.declared.expr.Quantifier.TheVariants as quantifier
use Rattle.ss_core.specs.Tree.{ClassTree, WordTree, Consistent, Committed, New, Level, Packed, Unowned, OwnersTree, SameOwner, OwnedAt, ExprTree, IntExpr, BoolExpr, NullExpr, LocalExpr, FieldExpr, ElementExpr, LengthExpr, NegateExpr, NotExpr, BinaryExpr, ImpliesExpr, IffExpr, IsExpr, AsExpr, CastExpr, OldExpr, QuantifiedExpr, StateExpr, OwnersExpr, DefaultExpr}
use Rattle.ss_store_rules.specs.Types.{is_bool, element_of, type_of}
use Rattle.ss_logic.specs.declared.Sort.TheVariants as sort
use Rattle.ss_logic.specs.Terms.{Term, Bound, app}
use Rattle.ss_logic.specs.Terms as term
use Rattle.ss_logic.specs.Formulas.{Formula, Forall, neg}
use Rattle.ss_logic.specs.Shapes.{number, null_term, class_term, equal, sub_atom}
use Rattle.ss_logic.specs.Shapes as shape
use Rattle.ss_logic.specs.Express.{or_of, Meant, One, Either, Says, choices, over, over_two, mapped, paired, said, Context, element_sort, is_of, fits_int, word_said, owners_said, same_truths, operated, as_class, out_of_range, quantified_said, meant, not_null, readable, under, index_fits, operation_parts, word_parts, defined}
use Rattle.ss_logic_means.specs.Scenes.{has_no_default}

-- ---- equal arguments

ap2 : {A B C : Type 0} (f : A → B → C) {a a' : A} {b b' : B} → a ≡ a' → b ≡ b' → f a b ≡ f a' b'
ap2 f {a} {a'} {b} {b'} p q = ap (λ x. f x b) p ∙ ap (f a') q

ap3 : {A B C D : Type 0} (f : A → B → C → D) {a a' : A} {b b' : B} {c c' : C} → a ≡ a' → b ≡ b' → c ≡ c' → f a b c ≡ f a' b' c'
ap3 f {a} {a'} {b} {b'} {c} {c'} p q r = ap2 (λ x y. f x y c) p q ∙ ap (f a' b') r

ap4 : {A B C D E : Type 0} (f : A → B → C → D → E) {a a' : A} {b b' : B} {c c' : C} {d d' : D} → a ≡ a' → b ≡ b' → c ≡ c' → d ≡ d' → f a b c d ≡ f a' b' c' d'
ap4 f {a} {a'} {b} {b'} {c} {c'} {d} {d'} p q r s = ap3 (λ x y z. f x y z d) p q r ∙ ap (f a' b' c') s

ap5 : {A B C D E F : Type 0} (f : A → B → C → D → E → F) {a a' : A} {b b' : B} {c c' : C} {d d' : D} {e e' : E} → a ≡ a' → b ≡ b' → c ≡ c' → d ≡ d' → e ≡ e' → f a b c d e ≡ f a' b' c' d' e'
ap5 f {a} {a'} {b} {b'} {c} {c'} {d} {d'} {e} {e'} p q r s t = ap4 (λ x y z w. f x y z w e) p q r s ∙ ap (f a' b' c' d') t

-- ---- contexts inside `old`

module _ (cs : List ClassTree) (entry : Term) where
  abbrev pub Inside : Term → List Ty → List Meant → ℕ → Context
  Inside now tys ls k = record { classes = cs; now = now; entry = entry; inside_old = true; types = tys; locals = ls; bound = k }

  module _ (n r : Term) where
    word_same : (tys : List Ty) (ls : List Meant) (k : ℕ) (w : WordTree) (m : Meant) → over m (word_said (Inside n tys ls k) w) ≡ over m (word_said (Inside r tys ls k) w)
    word_same tys ls k Consistent m = refl
    word_same tys ls k Committed m = refl
    word_same tys ls k New m = refl
    word_same tys ls k (Level t) m = refl
    word_same tys ls k (Packed t) m = refl
    word_same tys ls k Unowned m = refl

    parts_same : (tys : List Ty) (ls : List Meant) (k : ℕ) (w : WordTree) (m : Meant) → word_parts (Inside n tys ls k) w m ≡ word_parts (Inside r tys ls k) w m
    parts_same tys ls k Consistent m = refl
    parts_same tys ls k Committed m = refl
    parts_same tys ls k New m = refl
    parts_same tys ls k (Level t) m = refl
    parts_same tys ls k (Packed t) m = refl
    parts_same tys ls k Unowned m = refl

    owners_same : (tys : List Ty) (ls : List Meant) (k : ℕ) (w : OwnersTree) (a b : Meant) → over_two a b (owners_said (Inside n tys ls k) w) ≡ over_two a b (owners_said (Inside r tys ls k) w)
    owners_same tys ls k SameOwner a b = refl
    owners_same tys ls k (OwnedAt t) a b = refl

    quantified_same : (tys : List Ty) (ls : List Meant) (k : ℕ) (q : Quantifier) (a b : Meant) (f : Formula) → quantified_said (Inside n tys ls k) q a b f ≡ quantified_said (Inside r tys ls k) q a b f
    quantified_same tys ls k quantifier.Forall a b f = refl
    quantified_same tys ls k quantifier.Exists a b f = refl

    abbrev pub Same : ExprTree → List Ty → List Meant → ℕ → Type 0
    Same x tys ls k = (meant x (Inside n tys ls k) ≡ meant x (Inside r tys ls k)) × (defined x (Inside n tys ls k) ≡ defined x (Inside r tys ls k))

    pub old_same : (x : ExprTree) (tys : List Ty) (ls : List Meant) (k : ℕ) → has_no_default x ≡ true → Same x tys ls k
    old_same (IntExpr p i) tys ls k h = (refl, refl)
    old_same (BoolExpr p b) tys ls k h = (refl, refl)
    old_same (NullExpr p) tys ls k h = (refl, refl)
    old_same (LocalExpr p x) tys ls k h = (refl, refl)
    old_same (FieldExpr p e f) tys ls k h =
        let i = old_same e tys ls k h in
        (ap (mapped (λ o. app (term.Field f) (entry ∷ o ∷ []))) i.0, ap2 (λ ps m. ps ++ readable (Inside r tys ls k) m) i.1 i.0)
    old_same (ElementExpr p a b) tys ls k h =
        let both = and_parts (has_no_default a) (has_no_default b) h in
        let i = old_same a tys ls k both.0 in
        let j = old_same b tys ls k both.1 in (
          ap2 (paired (λ x y. app (term.Element (element_sort (element_of cs (type_of cs tys a)))) (entry ∷ x ∷ y ∷ []))) i.0 j.0,
          ap4 (λ ps qs m o. ps ++ qs ++ readable (Inside r tys ls k) m ++ index_fits m o ∷ []) i.1 j.1 i.0 j.0,
        )
    old_same (LengthExpr p e) tys ls k h =
        let i = old_same e tys ls k h in
        (ap (mapped (λ o. app term.Length (o ∷ []))) i.0, ap2 (λ ps m. ps ++ not_null m ∷ []) i.1 i.0)
    old_same (NegateExpr p e) tys ls k h =
        let i = old_same e tys ls k h in (
          ap (mapped (λ x. app term.Subtract (number (pos 0) ∷ x ∷ []))) i.0,
          ap2 (λ ps m. ps ++ over m (λ x. fits_int (app term.Subtract (number (pos 0) ∷ x ∷ []))) ∷ []) i.1 i.0,
        )
    old_same (NotExpr p e) tys ls k h = let i = old_same e tys ls k h in (ap (λ m. Says (neg (said m))) i.0, i.1)
    old_same (BinaryExpr p o a b) tys ls k h =
        let both = and_parts (has_no_default a) (has_no_default b) h in
        let i = old_same a tys ls k both.0 in
        let j = old_same b tys ls k both.1 in
        (ap2 (operated o (is_bool (type_of cs tys a))) i.0 j.0, ap4 (operation_parts o) i.0 j.0 i.1 j.1)
    old_same (ImpliesExpr p a b) tys ls k h =
        let both = and_parts (has_no_default a) (has_no_default b) h in
        let i = old_same a tys ls k both.0 in
        let j = old_same b tys ls k both.1 in
        (ap2 (λ m o. Says (or_of (neg (said m) ∷ said o ∷ []))) i.0 j.0, ap3 (λ ps m qs. ps ++ under (said m) qs) i.1 i.0 j.1)
    old_same (IffExpr p a b) tys ls k h =
        let both = and_parts (has_no_default a) (has_no_default b) h in
        let i = old_same a tys ls k both.0 in
        let j = old_same b tys ls k both.1 in
        (ap2 (λ m o. Says (same_truths m o)) i.0 j.0, ap2 (λ ps qs. ps ++ qs) i.1 j.1)
    old_same (IsExpr p e t) tys ls k h = let i = old_same e tys ls k h in (ap (λ m. Says (over m (is_of t))) i.0, i.1)
    old_same (AsExpr p e t) tys ls k h = let i = old_same e tys ls k h in (ap (λ m. Either (flat_map (as_class t) (choices m))) i.0, i.1)
    old_same (CastExpr p t non_null e) tys ls k h =
        let i = old_same e tys ls k h in
        (i.0, ap2 (λ ps m. ps ++ (if non_null then not_null m ∷ [] else []) ++ over m (λ x. or_of (equal x null_term ∷ sub_atom (shape.type_of x) (class_term t) ∷ [])) ∷ []) i.1 i.0)
    old_same (OldExpr p e) tys ls k h = old_same e tys ls k h
    old_same (QuantifiedExpr p q name low high e) tys ls k h =
        let one = and_parts (has_no_default low && has_no_default high) (has_no_default e) h in
        let two = and_parts (has_no_default low) (has_no_default high) one.0 in
        let i = old_same low tys ls k two.0 in
        let j = old_same high tys ls k two.1 in
        let l = old_same e (tys ++ ty.Int ∷ []) (ls ++ One (Bound k) ∷ []) (k + 1) one.1 in (
          ap Says (ap3 (λ a b m. quantified_said (Inside n tys ls k) q a b (said m)) i.0 j.0 l.0 ∙ quantified_same tys ls k q _ _ _),
          ap5 (λ ps qs a b ts. ps ++ qs ++ map (λ part. Forall (sort.Whole ∷ []) (or_of (out_of_range (Inside r tys ls k) a b ++ part ∷ []))) ts) i.1 j.1 i.0 j.0 l.1,
        )
    old_same (StateExpr p w e) tys ls k h =
        let i = old_same e tys ls k h in (
          ap Says (ap (λ m. over m (word_said (Inside n tys ls k) w)) i.0 ∙ word_same tys ls k w (meant e (Inside r tys ls k))),
          ap2 (λ ps m. ps ++ word_parts (Inside n tys ls k) w m) i.1 i.0 ∙ ap (λ qs. defined e (Inside r tys ls k) ++ qs) (parts_same tys ls k w (meant e (Inside r tys ls k))),
        )
    old_same (OwnersExpr p w a b) tys ls k h =
        let both = and_parts (has_no_default a) (has_no_default b) h in
        let i = old_same a tys ls k both.0 in
        let j = old_same b tys ls k both.1 in (
          ap Says (ap2 (λ m o. over_two m o (owners_said (Inside n tys ls k) w)) i.0 j.0 ∙ owners_same tys ls k w (meant a (Inside r tys ls k)) (meant b (Inside r tys ls k))),
          ap4 (λ ps qs m o. ps ++ qs ++ readable (Inside r tys ls k) m ++ readable (Inside r tys ls k) o) i.1 j.1 i.0 j.0,
        )
    old_same (DefaultExpr p d) tys ls k h = absurd (false≢true h)
