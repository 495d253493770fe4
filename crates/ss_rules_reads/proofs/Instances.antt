-- What the rule on reads says, by the forms of its arguments.
use Rattle.std.proofs.Common.{◌≡◌, ℕ, ◌<◌, ◌≤◌, List, [], ◌∷◌, ◌++◌, length, Bool, true, false, Option, Some, None, refl, sym, ◌∙◌, ap, arith}
use Rattle.std.specs.Prelude.{◌&&◌, option_map, option_and_then, if◌then◌else◌}
use Rattle.std.proofs.lemmas.List.{map_push}
use Rattle.ss_core.specs.Tree.{ClassTree}
use Rattle.ss_logic.specs.declared.Sort.TheVariants as sort
use Rattle.ss_logic.specs.Terms.{Symbol, Constant, Set, Put, Unpack, Pack, Capture, Join, New, NewArray, MakeReady, Term, App, Bound, term_list, terms_from, is_well_sorted}
use Rattle.ss_logic.specs.Formulas.{Formula}
use Rattle.ss_logic.specs.Shapes.{when, all_of}
use Rattle.ss_logic.specs.Reads.{Look, is_look, look_from, reads_a_store, over_change, read_over, read_moved, read_instance, is_constant_store, without_last, last_of}
use Rattle.ss_terms.specs.declared.forms.TermId.{TermId}
use Rattle.ss_terms.specs.Forms.{Forms, term_at, terms_at, HasTerm, HasTerms}
use Rattle.ss_terms.proofs.Sorted.{list_back}
use Rattle.ss_rules_basic.specs.Looks.{fitting}
use Rattle.ss_rules_reads.specs.Changes.{over_changed}

pub changed_over : (cs : List ClassTree) (look : Look) (f : Symbol) (ts : List Term) → over_changed cs (App f (terms_from ts)) look f ts ≡ over_change cs look f ts
changed_over cs look (Set f) (s ∷ o ∷ v ∷ []) = refl
changed_over cs look Put (s ∷ a ∷ i ∷ v ∷ []) = refl
changed_over cs look (Unpack t) (s ∷ o ∷ []) = refl
changed_over cs look (Pack t) (s ∷ o ∷ []) = refl
changed_over cs look (Capture t) (s ∷ o ∷ e ∷ []) = refl
changed_over cs look Join (s ∷ o ∷ e ∷ []) = refl
changed_over cs look (New t) (s ∷ []) = refl
changed_over cs look (NewArray t) (s ∷ n ∷ []) = refl
changed_over cs look MakeReady (s ∷ o ∷ []) = refl
changed_over cs look f ts = refl

pub many_arguments : (cs : List ClassTree) (after : Term) (look : Look) (f : Symbol) (b : Forms) (ts : List TermId) → 5 ≤ length ts → over_changed cs after look f (terms_at b ts) ≡ None
many_arguments cs after look f b [] h = absurd (omega arith)
many_arguments cs after look f b (t ∷ []) h = absurd (omega arith)
many_arguments cs after look f b (t ∷ u ∷ []) h = absurd (omega arith)
many_arguments cs after look f b (t ∷ u ∷ v ∷ []) h = absurd (omega arith)
many_arguments cs after look f b (t ∷ u ∷ v ∷ w ∷ []) h = absurd (omega arith)
many_arguments cs after look f b (t ∷ u ∷ v ∷ w ∷ x ∷ ts) h = at_five f
  where
    at_five : (g : Symbol) → over_changed cs after look g (terms_at b (t ∷ u ∷ v ∷ w ∷ x ∷ ts)) ≡ None
    at_five (Set k) = refl
    at_five g = refl

-- a store that the function makes of these arguments
pub over_app : (cs : List ClassTree) (look : Look) (s : Term) (f : Symbol) (ts : List Term) → s ≡ App f (terms_from ts) → reads_a_store look ≡ true → is_look cs look ≡ true → is_well_sorted cs [] s ≡ true →
    option_map all_of (over_changed cs s look f ts) ≡ read_over cs s (Some look)
over_app cs look s f ts e reads fits sorted =
    ap (λ x. option_map all_of (over_changed cs x look f ts)) e
    ∙ ap (option_map all_of) (changed_over cs look f ts)
    ∙ ap (λ xs. option_map all_of (over_change cs look f xs)) (sym (list_back ts))
    ∙ sym (given_true (reads_a_store look) (is_look cs look) (is_well_sorted cs [] (App f (terms_from ts))) (option_map all_of (over_change cs look f (term_list (terms_from ts)))) reads fits (sym (ap (is_well_sorted cs []) e) ∙ sorted))
    ∙ ap (λ x. read_over cs x (Some look)) (sym e)
  where
    given_true : (a b c : Bool) (o : Option Formula) → a ≡ true → b ≡ true → c ≡ true → (if a && b && c then o else None) ≡ o
    given_true a b c o p q r = rw (p, q, r) refl

pub over_unread : (cs : List ClassTree) (look : Look) (s : Term) → reads_a_store look ≡ false → read_over cs s (Some look) ≡ None
over_unread cs look (Bound k) h = refl
over_unread cs look (App f ts) h = rw h refl

pub over_unsorted : (cs : List ClassTree) (look : Look) (s : Term) → is_well_sorted cs [] s ≡ false → read_over cs s (Some look) ≡ None
over_unsorted cs look (Bound k) h = refl
over_unsorted cs look (App f ts) h = both (reads_a_store look) (is_look cs look) (is_well_sorted cs [] (App f ts)) (option_map all_of (over_change cs look f (term_list ts))) h
  where
    both : (a b c : Bool) (o : Option Formula) → c ≡ false → (if a && b && c then o else None) ≡ None
    both true true c o h = rw h refl
    both true false c o h = refl
    both false b c o h = refl

-- only reads that fit count
fits_over : (cs : List ClassTree) (s : Term) (o : Option Look) → read_over cs s (fitting cs o) ≡ read_over cs s o
fits_over cs (Bound k) None = refl
fits_over cs (App f ts) None = refl
fits_over cs (Bound k) (Some look) = refl
fits_over cs (App f ts) (Some look) = test (is_look cs look) refl
  where
    test : (t : Bool) → is_look cs look ≡ t → read_over cs (App f ts) (when (is_look cs look) look) ≡ read_over cs (App f ts) (Some look)
    test true e = ap (λ b. read_over cs (App f ts) (when b look)) e
    test false e = ap (λ b. read_over cs (App f ts) (when b look)) e ∙ sym (unfit (reads_a_store look) (is_look cs look) (is_well_sorted cs [] (App f ts)) (option_map all_of (over_change cs look f (term_list ts))) e)
      where
        unfit : (a b c : Bool) (o : Option Formula) → b ≡ false → (if a && b && c then o else None) ≡ None
        unfit true b c o h = rw h refl
        unfit false b c o h = refl

fits_moved : (cs : List ClassTree) (s t : Term) (o : Option Look) → read_moved cs s t (fitting cs o) ≡ read_moved cs s t o
fits_moved cs s t None = refl
fits_moved cs s t (Some look) = test (is_look cs look) refl
  where
    test : (b : Bool) → is_look cs look ≡ b → read_moved cs s t (when (is_look cs look) look) ≡ read_moved cs s t (Some look)
    test true e = ap (λ b. read_moved cs s t (when b look)) e
    test false e = ap (λ b. read_moved cs s t (when b look)) e ∙ sym (unread (reads_a_store look) (is_look cs look) _ _ e)
      where
        unread : (a b d : Bool) (x : Formula) → b ≡ false → when (a && b && d) x ≡ None
        unread true b d x h = rw h refl
        unread false b d x h = refl

-- where the read fits, so it is
pub over_fit : (cs : List ClassTree) (s : Term) (o : Option Look) (l : Look) → fitting cs o ≡ Some l → read_over cs s (Some l) ≡ read_over cs s o
over_fit cs s o l e = ap (read_over cs s) (sym e) ∙ fits_over cs s o

pub over_none : (cs : List ClassTree) (s : Term) (o : Option Look) → fitting cs o ≡ None → read_over cs s o ≡ None
over_none cs s o e = sym (fits_over cs s o) ∙ ap (read_over cs s) e ∙ nothing s
  where
    nothing : (x : Term) → read_over cs x None ≡ None
    nothing (Bound k) = refl
    nothing (App f ts) = refl

pub moved_fit : (cs : List ClassTree) (s t : Term) (o : Option Look) (l : Look) → fitting cs o ≡ Some l → read_moved cs s t (Some l) ≡ read_moved cs s t o
moved_fit cs s t o l e = ap (read_moved cs s t) (sym e) ∙ fits_moved cs s t o

pub moved_none : (cs : List ClassTree) (s t : Term) (o : Option Look) → fitting cs o ≡ None → read_moved cs s t o ≡ None
moved_none cs s t o e = sym (fits_moved cs s t o) ∙ ap (read_moved cs s t) e

-- the read of a look that fits does fit
pub look_fits : (cs : List ClassTree) (o : Option Look) (l : Look) → fitting cs o ≡ Some l → is_look cs l ≡ true
look_fits cs None l e = cc
look_fits cs (Some k) l e = test (is_look cs k) refl
  where
    test : (b : Bool) → is_look cs k ≡ b → is_look cs l ≡ true
    test true h = let same : Some k ≡ Some l = ap (λ b. when b k) (sym h) ∙ e in let one : k ≡ l = cc in ap (is_look cs) (sym one) ∙ h
    test false h = let none : None ≡ Some l = ap (λ b. when b k) (sym h) ∙ e in cc

-- ---- the last argument

pub last_pushed : (ts : List Term) (t : Term) → last_of (ts ++ t ∷ []) ≡ Some t
last_pushed [] t = refl
last_pushed (u ∷ []) t = refl
last_pushed (u ∷ v ∷ ts) t = last_pushed (v ∷ ts) t

pub front_pushed : (ts : List Term) (t : Term) → without_last (ts ++ t ∷ []) ≡ ts
front_pushed [] t = refl
front_pushed (u ∷ []) t = refl
front_pushed (u ∷ v ∷ ts) t = ap (λ us. u ∷ us) (front_pushed (v ∷ ts) t)

pub HasTerms-front : (b : Forms) (ts : List TermId) (t : TermId) → HasTerms b (ts ++ t ∷ []) → HasTerms b ts
HasTerms-front b [] t h = tt
HasTerms-front b (u ∷ ts) t h = (h.0, HasTerms-front b ts t h.1)

pub HasTerms-last : (b : Forms) (ts : List TermId) (t : TermId) → HasTerms b (ts ++ t ∷ []) → HasTerm b t
HasTerms-last b [] t h = h.0
HasTerms-last b (u ∷ ts) t h = HasTerms-last b ts t h.1

-- the rule over a constant store
abbrev pub moved_by : List ClassTree → Term → Term → List Term → Option Formula
moved_by cs s kind us = option_and_then (λ u. read_moved cs s u (look_from kind (without_last us))) (last_of us)

module _ (cs : List ClassTree) (b : Forms) (s kind : Term) (ts front : List TermId) (t : TermId) (e : ts ≡ front ++ t ∷ []) where
  moved_pushed : moved_by cs s kind (terms_at b ts) ≡ read_moved cs s (term_at b t) (look_from kind (terms_at b front))
  moved_pushed =
      ap (moved_by cs s kind) (ap (terms_at b) e ∙ map_push (term_at b) front t)
      ∙ ap (option_and_then (λ u. read_moved cs s u (look_from kind (without_last (terms_at b front ++ term_at b t ∷ []))))) (last_pushed (terms_at b front) (term_at b t))
      ∙ ap (λ us. read_moved cs s (term_at b t) (look_from kind us)) (front_pushed (terms_at b front) (term_at b t))

  pub moved_named : (l : Look) → fitting cs (look_from kind (terms_at b front)) ≡ Some l → read_moved cs s (term_at b t) (Some l) ≡ moved_by cs s kind (terms_at b ts)
  moved_named l h = moved_fit cs s (term_at b t) (look_from kind (terms_at b front)) l h ∙ sym moved_pushed

  pub moved_unnamed : fitting cs (look_from kind (terms_at b front)) ≡ None → moved_by cs s kind (terms_at b ts) ≡ None
  moved_unnamed h = moved_pushed ∙ moved_none cs s (term_at b t) (look_from kind (terms_at b front)) h

-- ---- few arguments

pub no_constant : (b : Forms) (k : ℕ) (ts : List TermId) → 1 ≤ length ts → false ≡ is_constant_store (App (Constant sort.Store k) (terms_from (terms_at b ts)))
no_constant b k [] h = absurd (omega arith)
no_constant b k (t ∷ ts) h = refl

pub few_arguments : (cs : List ClassTree) (b : Forms) (ts : List TermId) → length ts < 2 → read_instance cs (terms_at b ts) ≡ None
few_arguments cs b [] h = refl
few_arguments cs b (t ∷ []) h = refl
few_arguments cs b (t ∷ u ∷ ts) h = absurd (omega arith)
