-- When sentences with premises are true.
use Rattle.std.proofs.Common.{◌≡◌, List, [], ◌∷◌, ◌++◌, Bool, true, false, map, refl, ap}
use Rattle.std.specs.Prelude.{if◌then◌else◌}
use Rattle.ss_core.specs.Tree.{ClassTree}
use Rattle.ss_logic.specs.Values.{Value, Structure}
use Rattle.ss_logic.specs.Terms.{Term, value_of}
use Rattle.ss_logic.specs.Formulas.{Formula, formulas_from, True, AllTrue, NoneTrue, Hold, neg}
use Rattle.ss_logic.specs.Equal.{same_term, equal_terms}
use Rattle.ss_logic.proofs.Truth.{not_both, neg_true, not_neg_true}
use Rattle.ss_logic.specs.Shapes.{equal, differ, given, all_of, where_equal, where_different}
use Rattle.ss_logic.specs.Reads.{Look, Looked, TermLooked, AtomLooked, look_at, agreeing, same_over}

module _ (cs : List ClassTree) (m : Structure) where
  abbrev pub T : Formula → Type 0
  T f = True cs m [] f

  abbrev pub V : Term → Value
  V t = value_of cs m [] t

  none_given : (ps : List Formula) (f : Formula) → NoneTrue cs m [] (formulas_from (map neg ps ++ f ∷ [])) → (Hold cs m ps → T f) → ⊥
  none_given [] f n h = n.0 (h tt)
  none_given (p ∷ ps) f n h = none_given ps f n.1 (λ hs. h (not_neg_true cs m [] p n.0, hs))

  pub given_true : (ps : List Formula) (f : Formula) → (Hold cs m ps → T f) → T (given ps f)
  given_true [] f h = h tt
  given_true (p ∷ ps) f h = λ n. none_given (p ∷ ps) f n h

  all_listed : (fs : List Formula) → Hold cs m fs → AllTrue cs m [] (formulas_from fs)
  all_listed [] h = tt
  all_listed (f ∷ fs) h = (h.0, all_listed fs h.1)

  pub all_true : (fs : List Formula) → Hold cs m fs → T (all_of fs)
  all_true [] h = tt
  all_true (f ∷ []) h = h.0
  all_true (f ∷ g ∷ fs) h = all_listed (f ∷ g ∷ fs) h

  pub Hold-append : (xs ys : List Formula) → Hold cs m xs → Hold cs m ys → Hold cs m (xs ++ ys)
  Hold-append [] ys h k = k
  Hold-append (x ∷ xs) ys h k = (h.0, Hold-append xs ys h.1 k)

  pub Hold-parts : (xs ys : List Formula) → Hold cs m (xs ++ ys) → Hold cs m xs × Hold cs m ys
  Hold-parts [] ys h = (tt, h)
  Hold-parts (x ∷ xs) ys h = let p = Hold-parts xs ys h.1 in ((h.0, p.0), p.1)

  equal_here : (b : Bool) (x y : Term) → (b ≡ true → x ≡ y) → Hold cs m (if b then [] else equal x y ∷ []) → V x ≡ V y
  equal_here true x y e h = ap (value_of cs m []) (e refl)
  equal_here false x y e h = h.0

  -- the premise that two terms are equal gives that their values are
  pub equal_values : (x y : Term) → Hold cs m (where_equal x y) → V x ≡ V y
  equal_values x y h = equal_here (same_term x y) x y (equal_terms x y) h

  different_here : (b : Bool) (fs : List Formula) → Hold cs m fs → Hold cs m (if b then [] else fs)
  different_here true fs h = tt
  different_here false fs h = h

  pub different_true : (x y : Term) (sentences : List Formula → List Formula) → Hold cs m (sentences (differ x y ∷ [])) → Hold cs m (where_different x y sentences)
  different_true x y sentences h = different_here (same_term x y) (sentences (differ x y ∷ [])) h

  -- both reads give the same
  abbrev pub SameLooked : Looked → Looked → Type 0
  SameLooked (TermLooked x) (TermLooked y) = V x ≡ V y
  SameLooked (AtomLooked f) (AtomLooked g) = (T f → T g) × (T g → T f)
  SameLooked x y = Unit {0}

  agreeing_true : (ps : List Formula) (x y : Looked) → (Hold cs m ps → SameLooked x y) → Hold cs m (agreeing ps x y)
  agreeing_true ps (TermLooked x) (TermLooked y) h = (given_true ps (equal x y) h, tt)
  agreeing_true ps (AtomLooked f) (AtomLooked g) h = (
    given_true (ps ++ f ∷ []) g (λ k. let p = Hold-parts ps (f ∷ []) k in (h p.0).0 p.1.0),
    (
      given_true (ps ++ neg f ∷ []) (neg g) (λ k. let p = Hold-parts ps (neg f ∷ []) k in neg_true cs m [] g (λ t. not_both cs m [] f ((h p.0).1 t) p.1.0)),
      tt,
    ),
  )
  agreeing_true ps x y h = tt

  pub same_true : (look : Look) (s r : Term) (ps : List Formula) → (Hold cs m ps → SameLooked (look_at look s) (look_at look r)) → Hold cs m (same_over look s r ps)
  same_true look s r ps h = agreeing_true ps (look_at look s) (look_at look r) h
