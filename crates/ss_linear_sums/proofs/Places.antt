-- Parts that are added.
use Rattle.std.proofs.Common.{◌≡◌, ℕ, zero, suc, ◌+◌, ◌-◌, ◌<◌, ◌≤◌, ℤ, pos, List, [], ◌∷◌, ◌++◌, length, map, take, drop, set, get_or, Bool, true, false, Option, Some, None, option_and_then, refl, sym, ◌∙◌, ap, subst, add-one, arith, Result, Ok, Err}
use Rattle.std.specs.Prelude.{IfOk}
use Rattle.std.proofs.lemmas.List.{drop_more, drop-map, take_all}
use Rattle.ss_logic.specs.Terms.{Term}
use Rattle.ss_logic.specs.Equal.{same_term}
use Rattle.ss_logic.specs.Sums as sums
use Rattle.ss_logic.specs.Sums.{plus_times}
use Rattle.ss_terms.specs.declared.forms.TermId.{TermId}
use Rattle.ss_terms.specs.Forms.{Forms, term_at, HasTerm, IsGrown}
use Rattle.ss_terms.proofs.Grown.{HasTerm-grown}
use Rattle.ss_linear_sums.specs.declared.forms.Part.{Part}
use Rattle.ss_linear_sums.specs.Linear.{part_at, parts_at, HasParts, Became}
use Rattle.ss_linear_sums.specs.Parts.{AreOthers, no_part, IsPlaceOf, with_coefficient, IsRaised, IsPushed}

pub HasParts-get : (b : Forms) (ps : List Part) (i : ℕ) (d : Part) → i < length ps → HasParts b ps → HasTerm b (get_or ps i d).term
HasParts-get b [] i d l h = absurd (omega (arith, l))
HasParts-get b (p ∷ ps) zero d l h = h.0
HasParts-get b (p ∷ ps) (suc i) d l h = HasParts-get b ps i d (omega (arith, l)) h.1

pub HasParts-set : (b : Forms) (ps : List Part) (i : ℕ) (x : Part) → HasParts b ps → HasTerm b x.term → HasParts b (set ps i x)
HasParts-set b [] i x h t = tt
HasParts-set b (p ∷ ps) zero x h t = (t, h.1)
HasParts-set b (p ∷ ps) (suc i) x h t = (h.0, HasParts-set b ps i x h.1 t)

pub HasParts-append : (b : Forms) (ps qs : List Part) → HasParts b ps → HasParts b qs → HasParts b (ps ++ qs)
HasParts-append b [] qs h k = k
HasParts-append b (p ∷ ps) qs h k = (h.0, HasParts-append b ps qs h.1 k)

others_more : (b : Forms) (t : TermId) (ps : List Part) (i : ℕ) (d : Part) → i < length ps → AreOthers b t (take i ps) → same_term (term_at b (get_or ps i d).term) (term_at b t) ≡ false → AreOthers b t (take (suc i) ps)
others_more b t [] i d l a s = absurd (omega (arith, l))
others_more b t (p ∷ ps) zero d l a s = (s, tt)
others_more b t (p ∷ ps) (suc i) d l a s = (a.0, others_more b t ps i d (omega (arith, l)) a.1 s)

pub AreOthers-more : (b : Forms) (t : TermId) (ps : List Part) (i : ℕ) (d : Part) → i < length ps → AreOthers b t (take i ps) → same_term (term_at b (get_or ps i d).term) (term_at b t) ≡ false → AreOthers b t (take (i + 1) ps)
AreOthers-more b t ps i d l a s = subst (λ k. AreOthers b t (take k ps)) (sym (add-one i)) (others_more b t ps i d l a s)

pub drop_parts : (b : Forms) (ps : List Part) (i : ℕ) (d : Part) → i < length ps → drop i (parts_at b ps) ≡ part_at b (get_or ps i d) ∷ drop (i + 1) (parts_at b ps)
drop_parts b ps i d l = drop-map (part_at b) i ps ∙ ap (map (part_at b)) (drop_more ps i d l) ∙ ap (λ xs. part_at b (get_or ps i d) ∷ xs) (sym (drop-map (part_at b) (i + 1) ps))

module _ (b : Forms) (n : ℤ) (q : Part) where
  abbrev Same : Part → Bool
  Same p = same_term (term_at b p.term) (term_at b q.term)

  abbrev Added : List Part → Option (List (Term × ℤ))
  Added ps = sums.add_part n (part_at b q) (parts_at b ps)

  at_place : (ps : List Part) (i : ℕ) (k : ℤ) → i < length ps → AreOthers b q.term (take i ps) → Same (get_or ps i no_part) ≡ true →
      plus_times (get_or ps i no_part).coefficient n q.coefficient ≡ Some k → Added ps ≡ Some (parts_at b (set ps i (with_coefficient k (get_or ps i no_part))))
  at_place [] i k l a s e = absurd (omega (arith, l))
  at_place (p ∷ ps) zero k l a s e = rw (s, e) refl
  at_place (p ∷ ps) (suc i) k l a s e = rw (a.0, at_place ps i k (omega (arith, l)) a.1 s e) refl

  too_large : (ps : List Part) (i : ℕ) → i < length ps → AreOthers b q.term (take i ps) → Same (get_or ps i no_part) ≡ true →
      plus_times (get_or ps i no_part).coefficient n q.coefficient ≡ None → Added ps ≡ None
  too_large [] i l a s e = absurd (omega (arith, l))
  too_large (p ∷ ps) zero l a s e = rw (s, e) refl
  too_large (p ∷ ps) (suc i) l a s e = rw (a.0, too_large ps i (omega (arith, l)) a.1 s e) refl

  at_end : (ps : List Part) (k : ℤ) → AreOthers b q.term ps → plus_times (pos 0) n q.coefficient ≡ Some k → Added ps ≡ Some (parts_at b (ps ++ with_coefficient k q ∷ []))
  at_end [] k a e = rw e refl
  at_end (p ∷ ps) k a e = rw (a.0, at_end ps k a.1 e) refl

  none_at_end : (ps : List Part) → AreOthers b q.term ps → plus_times (pos 0) n q.coefficient ≡ None → Added ps ≡ None
  none_at_end [] a e = rw e refl
  none_at_end (p ∷ ps) a e = rw (a.0, none_at_end ps a.1 e) refl

  module _ (ps qs : List Part) (h : HasParts b ps) where
    pub raised_has : (i : ℕ) (r : Bool) → i < length ps → IsRaised r i n q.coefficient ps qs → HasParts b qs
    raised_has i true l e = subst (HasParts b) (sym e.2) (HasParts-set b ps i (with_coefficient e.0 (get_or ps i no_part)) h (HasParts-get b ps i no_part l h))
    raised_has i false l e = subst (HasParts b) (sym e.1) h

    pub raised : (i : ℕ) (r : Bool) → IsPlaceOf b q.term ps (Some i) → IsRaised r i n q.coefficient ps qs → Became r (Added ps) (parts_at b qs)
    raised i true p e = at_place ps i e.0 p.0 p.1 p.2 e.1 ∙ ap (λ xs. Some (parts_at b xs)) (sym e.2)
    raised i false p e = too_large ps i p.0 p.1 p.2 e.0

    pub pushed_has : (r : Bool) → HasTerm b q.term → IsPushed r n q ps qs → HasParts b qs
    pushed_has true t e = subst (HasParts b) (sym e.2) (HasParts-append b ps (with_coefficient e.0 q ∷ []) h (t, tt))
    pushed_has false t e = subst (HasParts b) (sym e.1) h

    pub pushed : (r : Bool) → IsPlaceOf b q.term ps None → IsPushed r n q ps qs → Became r (Added ps) (parts_at b qs)
    pushed true p e = at_end ps e.0 p e.1 ∙ ap (λ xs. Some (parts_at b xs)) (sym e.2)
    pushed false p e = none_at_end ps p e.0

-- ---- many parts

module _ (b : Forms) (n : ℤ) (others : List Part) (i : ℕ) (d : Part) (l : i < length others) (ps : List (Term × ℤ)) where
  next_part : sums.add_parts n (drop i (parts_at b others)) ps ≡ option_and_then (λ more. sums.add_parts n (drop (i + 1) (parts_at b others)) more) (sums.add_part n (part_at b (get_or others i d)) ps)
  next_part = ap (λ qs. sums.add_parts n qs ps) (drop_parts b others i d l)

  pub parts_stop : sums.add_part n (part_at b (get_or others i d)) ps ≡ None → sums.add_parts n (drop i (parts_at b others)) ps ≡ None
  parts_stop e = next_part ∙ ap (option_and_then (λ more. sums.add_parts n (drop (i + 1) (parts_at b others)) more)) e

  pub parts_go_on : (rs : List (Term × ℤ)) → sums.add_part n (part_at b (get_or others i d)) ps ≡ Some rs → sums.add_parts n (drop i (parts_at b others)) ps ≡ sums.add_parts n (drop (i + 1) (parts_at b others)) rs
  parts_go_on rs e = next_part ∙ ap (option_and_then (λ more. sums.add_parts n (drop (i + 1) (parts_at b others)) more)) e

pub if_ok : {A E : Type 0} (P Q : A → Type 0) (r : Result A E) → ((x : A) → P x → Q x) → IfOk r P → IfOk r Q
if_ok P Q (Ok x) f h = f x h
if_ok P Q (Err e) f h = tt

pub HasParts-grown : (a b : Forms) → IsGrown a b → (ps : List Part) → HasParts a ps → HasParts b ps
HasParts-grown a b g [] h = tt
HasParts-grown a b g (p ∷ ps) h = (HasTerm-grown a b g p.term h.0, HasParts-grown a b g ps h.1)

pub parts_at-grown : (a b : Forms) → IsGrown a b → (ps : List Part) → HasParts a ps → parts_at b ps ≡ parts_at a ps
parts_at-grown a b g [] h = refl
parts_at-grown a b g (p ∷ ps) h = ap (λ t. (t, p.coefficient) ∷ parts_at b ps) (g.same_terms p.term h.0) ∙ ap (λ xs. part_at a p ∷ xs) (parts_at-grown a b g ps h.1)

pub rest_is : (ps : List Part) → take (length ps - 1) (drop 1 ps) ≡ drop 1 ps
rest_is [] = take_all (length {A = Part} [] - 1) [] (omega arith)
rest_is (p ∷ ps) = take_all (suc (length ps) - 1) ps (omega arith)

pub rest_has : (b : Forms) (ps : List Part) → HasParts b ps → HasParts b (drop 1 ps)
rest_has b [] h = tt
rest_has b (p ∷ ps) h = h.1

pub first_and_rest : (b : Forms) (ps : List Part) (d : Part) → 1 ≤ length ps → sums.sum_term (parts_at b ps) ≡ sums.sum_onto (sums.multiple (part_at b (get_or ps 0 d))) (parts_at b (drop 1 ps))
first_and_rest b [] d h = absurd (omega (arith, h))
first_and_rest b (p ∷ ps) d h = refl
