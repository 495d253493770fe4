-- The formulas of the marks that name a part, and the fields one by one.
use Rattle.std.proofs.Common.{◌≡◌, ℕ, zero, suc, ◌+◌, ◌<◌, List, [], ◌∷◌, ◌++◌, length, map, take, get_or, Bool, true, false, if◌then◌else◌, refl, sym, ◌∙◌, ap, subst, arith}
use Rattle.std.proofs.lemmas.List.{take_more}
use Rattle.ss_core.specs.Tree.{ClassTree}
use Rattle.ss_core.specs.Chain.{sub}
use Rattle.ss_store_rules.specs.Changes.{field_class}
use Rattle.ss_logic.specs.Formulas.{Formula}
use Rattle.ss_logic.specs.Frames as logic
use Rattle.ss_logic.specs.Frames.{names_field, names_level, names_elements, all_named, field_kept, fields_kept}
use Rattle.ss_terms.specs.declared.forms.FormulaId.{FormulaId}
use Rattle.ss_terms.specs.Forms.{Forms, IsGrown}
use Rattle.ss_frames.specs.declared.calls.NamedTerm.{NamedTerm}
use Rattle.ss_frames.specs.declared.calls.NamedTerm.TheVariants.{At, All, Upto, Elements}
use Rattle.ss_frames.specs.declared.calls.CallTerms.{CallTerms}
use Rattle.ss_frames.specs.declared.marks.Mark.{Mark}
use Rattle.ss_frames.specs.declared.marks.Part.{Part}
use Rattle.ss_frames.specs.declared.marks.Part.TheVariants as part
use Rattle.ss_frames.specs.Calls.{named_at, call_at, IsMade, AreMade, is_named_at, AreMarks, term_of_mark, AreNamed, names_part, picked}
use Rattle.ss_frames.proofs.Growing.{AreMade-append, AreMade-one, AreMade-grown, AreMade-as, AreMade-then}

abbrev pub names_of : List ClassTree → Part → logic.NamedTerm → List Formula
names_of cs (part.Field f c) = names_field cs f
names_of cs part.Level = names_level
names_of cs part.Elements = names_elements

-- how many names are bound where it may be named
abbrev pub depth : Part → ℕ
depth (part.Field f c) = 1
depth part.Level = 1
depth part.Elements = 2

-- the class beside a field declares it
abbrev pub IsPart : List ClassTree → Part → Type 0
IsPart cs (part.Field f c) = c.0 ≡ field_class cs f
IsPart cs part.Level = Unit {0}
IsPart cs part.Elements = Unit {0}

module _ (cs : List ClassTree) (b : Forms) where
  one_named : (p : Part) → IsPart cs p → (x : NamedTerm) → names_of cs p (named_at b x) ≡ (if names_part cs p x then is_named_at b (depth p) x ∷ [] else [])
  one_named (part.Field f c) is (At g o h) = refl
  one_named (part.Field f c) is (All g o) = refl
  one_named (part.Field f c) is (Upto g o t) = ap (λ n. if sub cs t.0 n then is_named_at b 1 (Upto g o t) ∷ [] else []) (sym is)
  one_named (part.Field f c) is (Elements g a) = refl
  one_named part.Level is (At g o h) = refl
  one_named part.Level is (All g o) = refl
  one_named part.Level is (Upto g o t) = refl
  one_named part.Level is (Elements g a) = refl
  one_named part.Elements is (At g o h) = refl
  one_named part.Elements is (All g o) = refl
  one_named part.Elements is (Upto g o t) = refl
  one_named part.Elements is (Elements g a) = refl

  pick_one : (t : Bool) (f : FormulaId) (x : Formula) (fs : List FormulaId) (xs : List Formula) → IsMade b f x → AreMade b fs xs →
      AreMade b (if t then f ∷ fs else fs) ((if t then x ∷ [] else []) ++ xs)
  pick_one true f x fs xs h k = AreMade-then b f x fs xs h k
  pick_one false f x fs xs h k = k

  picked_marks : (p : Part) → IsPart cs p → (ks : List Mark) → AreMarks b (depth p) ks → AreMade b (picked cs p ks) (all_named (names_of cs p) (map (named_at b) (map term_of_mark ks)))
  picked_marks p is [] h = (tt, refl)
  picked_marks p is (k ∷ ks) h =
      let rest = all_named (names_of cs p) (map (named_at b) (map term_of_mark ks)) in
      subst (λ ys. AreMade b (picked cs p (k ∷ ks)) (ys ++ rest)) (sym (one_named p is k.term))
      (pick_one (names_part cs p k.term) k.formula (is_named_at b (depth p) k.term) (picked cs p ks) rest h.0 (picked_marks p is ks h.1))

  pub picked_made : (p : Part) → IsPart cs p → (m : CallTerms) (ks : List Mark) → AreNamed b (depth p) m ks → AreMade b (picked cs p ks) (all_named (names_of cs p) (call_at b m).named)
  picked_made p is m ks h = subst (λ xs. AreMade b (picked cs p ks) (all_named (names_of cs p) (map (named_at b) xs))) h.terms (picked_marks p is ks h.made)

with_one : (t : Bool) (f : FormulaId) (fs gs hs : List FormulaId) → fs ≡ gs ++ hs → (if t then f ∷ fs else fs) ≡ (if t then f ∷ gs else gs) ++ hs
with_one true f fs gs hs e = ap (λ is. f ∷ is) e
with_one false f fs gs hs e = e

picked-append : (cs : List ClassTree) (p : Part) (ks ls : List Mark) → picked cs p (ks ++ ls) ≡ picked cs p ks ++ picked cs p ls
picked-append cs p [] ls = refl
picked-append cs p (k ∷ ks) ls = with_one (names_part cs p k.term) k.formula (picked cs p (ks ++ ls)) (picked cs p ks) (picked cs p ls) (picked-append cs p ks ls)

-- one more mark
pub picked_next : (cs : List ClassTree) (p : Part) (ks : List Mark) (i : ℕ) (d : Mark) (made after : List FormulaId) (t : Bool) → i < length ks → made ≡ picked cs p (take i ks) → t ≡ names_part cs p (get_or ks i d).term →
    after ≡ (if t then made ++ (get_or ks i d).formula ∷ [] else made) → after ≡ picked cs p (take (i + 1) ks)
picked_next cs p ks i d made after t at was e is =
    let k = get_or ks i d in
    is ∙ joins t made k.formula
    ∙ ap (λ fs. fs ++ (if t then k.formula ∷ [] else [])) was
    ∙ ap (λ u. picked cs p (take i ks) ++ (if u then k.formula ∷ [] else [])) e
    ∙ sym (picked-append cs p (take i ks) (k ∷ []))
    ∙ ap (picked cs p) (sym (take_more ks i d at))
  where
    no_more : (fs : List FormulaId) → fs ≡ fs ++ []
    no_more [] = refl
    no_more (f ∷ fs) = ap (λ gs. f ∷ gs) (no_more fs)

    joins : (u : Bool) (fs : List FormulaId) (f : FormulaId) → (if u then fs ++ f ∷ [] else fs) ≡ fs ++ (if u then f ∷ [] else [])
    joins true fs f = refl
    joins false fs f = no_more fs

fields_kept-more : (cs : List ClassTree) (c : logic.CallTerms) (f n : ℕ) → fields_kept cs c f (suc n) ≡ fields_kept cs c f n ++ field_kept cs c (f + n) ∷ []
fields_kept-more cs c f zero = let e : f ≡ f + 0 = omega arith in ap (λ k. field_kept cs c k ∷ []) e
fields_kept-more cs c f (suc n) =
    let e : f + 1 + n ≡ f + suc n = omega arith in
    ap (λ xs. field_kept cs c f ∷ xs) (fields_kept-more cs c (f + 1) n ∙ ap (λ k. fields_kept cs c (f + 1) n ++ field_kept cs c k ∷ []) e)

pub next_field : (cs : List ClassTree) (c : logic.CallTerms) (a b : Forms) (n : ℕ) (fs after : List FormulaId) (f : FormulaId) → IsGrown a b → AreMade a fs (fields_kept cs c 0 n) → IsMade b f (field_kept cs c n) →
    after ≡ fs ++ f ∷ [] → AreMade b after (fields_kept cs c 0 (n + 1))
next_field cs c a b n fs after f g made one e =
    let z : 0 + n ≡ n = omega arith in
    let more : suc n ≡ n + 1 = omega arith in
    let h = AreMade-append b fs (f ∷ []) (fields_kept cs c 0 n) (field_kept cs c n ∷ []) (AreMade-grown a b g fs _ made) (AreMade-one b f _ one) in
    AreMade-as b (fs ++ f ∷ []) after _ e (h.0, h.1 ∙ ap (λ k. fields_kept cs c 0 n ++ field_kept cs c k ∷ []) (sym z) ∙ sym (fields_kept-more cs c 0 n) ∙ ap (fields_kept cs c 0) more)
