-- What is made of a call, as the bank grows.
use Rattle.std.proofs.Common.{◌≡◌, ℕ, zero, suc, ◌+◌, ◌<◌, ◌≤◌, List, [], ◌∷◌, ◌++◌, length, map, take, get_or, refl, sym, ◌∙◌, ap, subst, arith}
use Rattle.std.proofs.lemmas.List.{take_more, map_push}
use Rattle.ss_core.specs.declared.names.ClassId.{ClassId}
use Rattle.ss_logic.specs.declared.Sort.TheVariants as sort
use Rattle.ss_logic.specs.Terms.{Term, Element, app}
use Rattle.ss_logic.specs.Shapes.{equal, allocated, ready, group, owner_of}
use Rattle.ss_logic.specs.Formulas.{Formula, And, Or, neg, neg_all, formulas_from, formula_then}
use Rattle.ss_logic.specs.Frames as logic
use Rattle.ss_logic.specs.Frames.{NamesField, NamesAll, NamesUpto, NamesElements, OwnerTerm, is_named, unless, in_group_of, owned_by}
use Rattle.ss_logic.specs.Express.{or_of, and_of}
use Rattle.ss_terms.specs.declared.forms.TermId.{TermId}
use Rattle.ss_terms.specs.declared.forms.FormulaId.{FormulaId}
use Rattle.ss_terms.specs.Forms.{Forms, term_at, formula_at, formulas_at, HasTerm, HasFormula, HasFormulas, AreBelow, IsGrown}
use Rattle.ss_terms.proofs.Grown.{HasTerm-grown, HasTerms-grown, HasFormula-grown, HasFormulas-grown, terms_at-grown, formulas_at-grown}
use Rattle.ss_frames.specs.declared.calls.NamedTerm.{NamedTerm}
use Rattle.ss_frames.specs.declared.calls.NamedTerm.TheVariants.{At, All, Upto, Elements}
use Rattle.ss_frames.specs.declared.calls.CallTerms.{CallTerms}
use Rattle.ss_frames.specs.declared.marks.Mark.{Mark}
use Rattle.ss_frames.specs.Calls.{named_at, owner_at, call_at, guard_of, object_of, HasNamed, HasAllNamed, HasOwned, HasCall, IsTerm, IsMade, AreMade, group_at, owned_at, is_named_at, AreMarks, term_of_mark, AreNamed}

abbrev call_of : Term → Term → List logic.NamedTerm → List Term → List OwnerTerm → List Term → logic.CallTerms
call_of before after named captured owned outside = record { before = before; after = after; named = named; captured = captured; owned = owned; outside = outside }

module _ (a b : Forms) (g : IsGrown a b) where
  pub IsTerm-grown : (t : TermId) (x : Term) → IsTerm a t x → IsTerm b t x
  IsTerm-grown t x h = (HasTerm-grown a b g t h.0, g.same_terms t h.0 ∙ h.1)

  pub IsMade-grown : (f : FormulaId) (x : Formula) → IsMade a f x → IsMade b f x
  IsMade-grown f x h = (HasFormula-grown a b g f h.0, g.same_formulas f h.0 ∙ h.1)

  pub AreMade-grown : (fs : List FormulaId) (xs : List Formula) → AreMade a fs xs → AreMade b fs xs
  AreMade-grown fs xs h = (HasFormulas-grown a b g fs h.0, formulas_at-grown a b g fs h.0 ∙ h.1)

  pub HasNamed-grown : (x : NamedTerm) → HasNamed a x → HasNamed b x
  HasNamed-grown x h = (HasFormula-grown a b g (guard_of x) h.0, HasTerm-grown a b g (object_of x) h.1)

  HasAllNamed-grown : (xs : List NamedTerm) → HasAllNamed a xs → HasAllNamed b xs
  HasAllNamed-grown [] h = tt
  HasAllNamed-grown (x ∷ xs) h = (HasNamed-grown x h.0, HasAllNamed-grown xs h.1)

  HasOwned-grown : (ws : List (TermId × ClassId)) → HasOwned a ws → HasOwned b ws
  HasOwned-grown [] h = tt
  HasOwned-grown (w ∷ ws) h = (HasTerm-grown a b g w.0 h.0, HasOwned-grown ws h.1)

  pub HasCall-grown : (m : CallTerms) → HasCall a m → HasCall b m
  HasCall-grown m h = record {
    before = HasTerm-grown a b g m.before h.before;
    after = HasTerm-grown a b g m.after h.after;
    named = HasAllNamed-grown m.named.items h.named;
    captured = HasTerms-grown a b g m.captured.items h.captured;
    owned = HasOwned-grown m.owned.items h.owned;
    outside = HasTerms-grown a b g m.outside.items h.outside;
  }

  named_at-grown : (x : NamedTerm) → HasNamed a x → named_at b x ≡ named_at a x
  named_at-grown (At f o n) h = ap (λ x. NamesField x (term_at b o) n.0) (g.same_formulas f h.0) ∙ ap (λ x. NamesField (formula_at a f) x n.0) (g.same_terms o h.1)
  named_at-grown (All f o) h = ap (λ x. NamesAll x (term_at b o)) (g.same_formulas f h.0) ∙ ap (NamesAll (formula_at a f)) (g.same_terms o h.1)
  named_at-grown (Upto f o n) h = ap (λ x. NamesUpto x (term_at b o) n.0) (g.same_formulas f h.0) ∙ ap (λ x. NamesUpto (formula_at a f) x n.0) (g.same_terms o h.1)
  named_at-grown (Elements f o) h = ap (λ x. NamesElements x (term_at b o)) (g.same_formulas f h.0) ∙ ap (NamesElements (formula_at a f)) (g.same_terms o h.1)

  all_named_at-grown : (xs : List NamedTerm) → HasAllNamed a xs → map (named_at b) xs ≡ map (named_at a) xs
  all_named_at-grown [] h = refl
  all_named_at-grown (x ∷ xs) h = ap (λ y. y ∷ map (named_at b) xs) (named_at-grown x h.0) ∙ ap (λ ys. named_at a x ∷ ys) (all_named_at-grown xs h.1)

  owners_at-grown : (ws : List (TermId × ClassId)) → HasOwned a ws → map (owner_at b) ws ≡ map (owner_at a) ws
  owners_at-grown [] h = refl
  owners_at-grown (w ∷ ws) h = ap (λ o. record { object = o; class = w.1.0 } ∷ map (owner_at b) ws) (g.same_terms w.0 h.0) ∙ ap (λ ys. owner_at a w ∷ ys) (owners_at-grown ws h.1)

  pub call_at-grown : (m : CallTerms) → HasCall a m → call_at b m ≡ call_at a m
  call_at-grown m h =
      let x = call_at b m in
      let y = call_at a m in
      ap (λ t. call_of t x.after x.named x.captured x.owned x.outside) (g.same_terms m.before h.before)
      ∙ ap (λ t. call_of y.before t x.named x.captured x.owned x.outside) (g.same_terms m.after h.after)
      ∙ ap (λ t. call_of y.before y.after t x.captured x.owned x.outside) (all_named_at-grown m.named.items h.named)
      ∙ ap (λ t. call_of y.before y.after y.named t x.owned x.outside) (terms_at-grown a b g m.captured.items h.captured)
      ∙ ap (λ t. call_of y.before y.after y.named y.captured t x.outside) (owners_at-grown m.owned.items h.owned)
      ∙ ap (λ t. call_of y.before y.after y.named y.captured y.owned t) (terms_at-grown a b g m.outside.items h.outside)

  pub is_named_at-grown : (n : ℕ) (x : NamedTerm) → HasNamed a x → is_named_at b n x ≡ is_named_at a n x
  is_named_at-grown n x h = ap (λ f. is_named n f (term_at b (object_of x))) (g.same_formulas (guard_of x) h.0) ∙ ap (is_named n (formula_at a (guard_of x))) (g.same_terms (object_of x) h.1)

  pub AreMarks-grown : (n : ℕ) (ks : List Mark) → HasAllNamed a (map term_of_mark ks) → AreMarks a n ks → AreMarks b n ks
  AreMarks-grown n [] c h = tt
  AreMarks-grown n (k ∷ ks) c h =
      let one = IsMade-grown k.formula (is_named_at a n k.term) h.0 in
      ((one.0, one.1 ∙ sym (is_named_at-grown n k.term c.0)), AreMarks-grown n ks c.1 h.1)

  pub AreNamed-grown : (n : ℕ) (m : CallTerms) (ks : List Mark) → HasCall a m → AreNamed a n m ks → AreNamed b n m ks
  AreNamed-grown n m ks c h = record { terms = h.terms; made = AreMarks-grown n ks (subst (HasAllNamed a) (sym h.terms) c.named) h.made }

-- ---- lists

AreBelow-append : (n : ℕ) (fs gs : List FormulaId) → AreBelow n fs → AreBelow n gs → AreBelow n (fs ++ gs)
AreBelow-append n [] gs h k = k
AreBelow-append n (f ∷ fs) gs h k = (h.0, AreBelow-append n fs gs h.1 k)

formulas_at-append : (b : Forms) (fs gs : List FormulaId) → formulas_at b (fs ++ gs) ≡ formulas_at b fs ++ formulas_at b gs
formulas_at-append b [] gs = refl
formulas_at-append b (f ∷ fs) gs = ap (λ xs. formula_at b f ∷ xs) (formulas_at-append b fs gs)

pub AreMade-append : (b : Forms) (fs gs : List FormulaId) (xs ys : List Formula) → AreMade b fs xs → AreMade b gs ys → AreMade b (fs ++ gs) (xs ++ ys)
AreMade-append b fs gs xs ys h k =
    (AreBelow-append _ fs gs h.0 k.0, formulas_at-append b fs gs ∙ ap (λ zs. zs ++ formulas_at b gs) h.1 ∙ ap (λ zs. xs ++ zs) k.1)

pub AreMade-one : (b : Forms) (f : FormulaId) (x : Formula) → IsMade b f x → AreMade b (f ∷ []) (x ∷ [])
AreMade-one b f x h = ((h.0, tt), ap (λ y. y ∷ []) h.1)

pub AreMade-then : (b : Forms) (f : FormulaId) (x : Formula) (fs : List FormulaId) (xs : List Formula) → IsMade b f x → AreMade b fs xs → AreMade b (f ∷ fs) (x ∷ xs)
AreMade-then b f x fs xs h k = AreMade-append b (f ∷ []) fs (x ∷ []) xs (AreMade-one b f x h) k

pub AreMade-as : (b : Forms) (fs gs : List FormulaId) (xs : List Formula) → gs ≡ fs → AreMade b fs xs → AreMade b gs xs
AreMade-as b fs gs xs e h = subst (λ ys. AreMade b ys xs) (sym e) h

-- one more is made
pub next_made : {X : Type 0} (P : X → Formula) (b c : Forms) (xs : List X) (i : ℕ) (d x : X) (fs after : List FormulaId) (f : FormulaId) → x ≡ get_or xs i d → i < length xs → IsGrown b c →
    AreMade b fs (map P (take i xs)) → IsMade c f (P x) → after ≡ fs ++ f ∷ [] → AreMade c after (map P (take (i + 1) xs))
next_made P b c xs i d x fs after f is at g made one e =
    let same : map P (take (i + 1) xs) ≡ map P (take i xs) ++ P x ∷ [] =
    ap (map P) (take_more xs i d at) ∙ map_push P (take i xs) (get_or xs i d) ∙ ap (λ y. map P (take i xs) ++ P y ∷ []) (sym is) in
    let h = AreMade-append c fs (f ∷ []) (map P (take i xs)) (P x ∷ []) (AreMade-grown b c g fs _ made) (AreMade-one c f (P x) one) in
    AreMade-as c (fs ++ f ∷ []) after _ e (h.0, h.1 ∙ sym same)

-- the last alone, where there is no other
pub unless_none : (b : Forms) (fs : List FormulaId) (x : Formula) → length fs ≤ 0 → unless (formulas_at b fs) x ≡ x
unless_none b [] x l = refl
unless_none b (f ∷ fs) x l = absurd (omega arith)

pub unless_some : (b : Forms) (fs : List FormulaId) (x : Formula) → 1 ≤ length fs → unless (formulas_at b fs) x ≡ or_of (formulas_at b fs ++ x ∷ [])
unless_some b [] x l = absurd (omega arith)
unless_some b (f ∷ fs) x l = refl

-- one of these, or the last
pub unless_parts : (b : Forms) (parts : List FormulaId) (last : FormulaId) (all : List FormulaId) → HasFormulas b parts → HasFormula b last → all ≡ parts ++ last ∷ [] →
    AreMade b all (formulas_at b parts ++ formula_at b last ∷ [])
unless_parts b parts last all h k e = AreMade-as b (parts ++ last ∷ []) all _ e (AreMade-append b parts (last ∷ []) _ _ (h, refl) (AreMade-one b last _ (k, refl)))

pub unless_says : (b : Forms) (fs gs : List FormulaId) (xs : List Formula) (f : FormulaId) (x : Formula) → AreMade b fs xs → gs ≡ fs → IsMade b f x →
    unless (formulas_at b gs) (formula_at b f) ≡ unless xs x
unless_says b fs gs xs f x h e k = ap (λ ys. unless ys (formula_at b f)) (ap (formulas_at b) e ∙ h.1) ∙ ap (unless xs) k.1

pub group_at-grown : (a b : Forms) → IsGrown a b → (store e : TermId) → HasTerm a store → HasTerm a e → group_at b store e ≡ group_at a store e
group_at-grown a b g store e h k = ap (λ s. in_group_of s (term_at b e)) (g.same_terms store h) ∙ ap (in_group_of (term_at a store)) (g.same_terms e k)

pub owned_at-grown : (a b : Forms) → IsGrown a b → (store : TermId) (w : TermId × ClassId) → HasTerm a store → HasTerm a w.0 → owned_at b store w ≡ owned_at a store w
owned_at-grown a b g store w h k = ap (λ s. owned_by s (owner_at b w)) (g.same_terms store h) ∙ ap (λ o. owned_by (term_at a store) (record { object = o; class = w.1.0 })) (g.same_terms w.0 k)

pub map-map : {X Y Z : Type 0} (f : Y → Z) (g : X → Y) (xs : List X) → map (λ x. f (g x)) xs ≡ map f (map g xs)
map-map f g [] = refl
map-map f g (x ∷ xs) = ap (λ ys. f (g x) ∷ ys) (map-map f g xs)

pub AreMarks-push : (b : Forms) (n : ℕ) (ks : List Mark) (k : Mark) → AreMarks b n ks → IsMade b k.formula (is_named_at b n k.term) → AreMarks b n (ks ++ k ∷ [])
AreMarks-push b n [] k h one = (one, tt)
AreMarks-push b n (j ∷ ks) k h one = (h.0, AreMarks-push b n ks k h.1 one)

HasAllNamed-take : (b : Forms) (i : ℕ) (xs : List NamedTerm) → HasAllNamed b xs → HasAllNamed b (take i xs)
HasAllNamed-take b zero xs h = tt
HasAllNamed-take b (suc i) [] h = tt
HasAllNamed-take b (suc i) (x ∷ xs) h = (h.0, HasAllNamed-take b i xs h.1)

-- the next mark
pub next_marks : (b c : Forms) (n : ℕ) (xs : List NamedTerm) (i : ℕ) (ks : List Mark) → IsGrown b c → HasAllNamed b xs → map term_of_mark ks ≡ take i xs → AreMarks b n ks →
    (k : Mark) → HasNamed b k.term → IsMade c k.formula (is_named_at b n k.term) → AreMarks c n (ks ++ k ∷ [])
next_marks b c n xs i ks g h e made k there one =
    AreMarks-push c n ks k
    (AreMarks-grown b c g n ks (subst (HasAllNamed b) (sym e) (HasAllNamed-take b i xs h)) made)
    (one.0, one.1 ∙ sym (is_named_at-grown b c g n k.term there))

pub next_terms : (xs : List NamedTerm) (i : ℕ) (d : NamedTerm) (ks : List Mark) (k : Mark) → i < length xs → map term_of_mark ks ≡ take i xs → k.term ≡ get_or xs i d →
    map term_of_mark (ks ++ k ∷ []) ≡ take (i + 1) xs
next_terms xs i d ks k at e is = map_push term_of_mark ks k ∙ ap (λ ys. ys ++ k.term ∷ []) e ∙ ap (λ y. take i xs ++ y ∷ []) is ∙ sym (take_more xs i d at)

pub HasAllNamed-get : (b : Forms) (xs : List NamedTerm) (i : ℕ) (d : NamedTerm) → HasAllNamed b xs → i < length xs → HasNamed b (get_or xs i d)
HasAllNamed-get b [] i d h at = absurd (omega arith)
HasAllNamed-get b (x ∷ xs) zero d h at = h.0
HasAllNamed-get b (x ∷ xs) (suc i) d h at = HasAllNamed-get b xs i d h.1 (omega arith)

pub HasOwned-get : (b : Forms) (ws : List (TermId × ClassId)) (i : ℕ) (d : TermId × ClassId) → HasOwned b ws → i < length ws → HasTerm b (get_or ws i d).0
HasOwned-get b [] i d h at = absurd (omega arith)
HasOwned-get b (w ∷ ws) zero d h at = h.0
HasOwned-get b (w ∷ ws) (suc i) d h at = HasOwned-get b ws i d h.1 (omega arith)

-- ---- over another object than the bound name

abbrev pub elements_same : Term → Term → Term → Term → Formula
elements_same s r o i =
    and_of (
    equal (app (Element sort.Rest) (r ∷ o ∷ i ∷ [])) (app (Element sort.Rest) (s ∷ o ∷ i ∷ []))
    ∷ equal (app (Element sort.Whole) (r ∷ o ∷ i ∷ [])) (app (Element sort.Whole) (s ∷ o ∷ i ∷ []))
    ∷ equal (app (Element sort.Truth) (r ∷ o ∷ i ∷ [])) (app (Element sort.Truth) (s ∷ o ∷ i ∷ []))
    ∷ [])

abbrev pub has_grown : Term → Term → Term → Formula
has_grown s r o =
    and_of (
    allocated r o
    ∷ unless (neg (ready s o) ∷ []) (ready r o)
    ∷ unless (group (owner_of s o) ∷ []) (equal (owner_of r o) (owner_of s o))
    ∷ [])

-- ---- negations

neg_all-map : (fs : List Formula) → neg_all (formulas_from fs) ≡ formulas_from (map neg fs)
neg_all-map [] = refl
neg_all-map (f ∷ fs) = ap (formula_then (neg f)) (neg_all-map fs)

pub neg_or : (fs : List Formula) → neg (Or (formulas_from fs)) ≡ And (formulas_from (map neg fs))
neg_or fs = ap And (neg_all-map fs)
