-- How a case goes on: by a fact, the open part of an `or`, one side of a cut, or a choice.
use Rattle.std.proofs.Common.{◌≡◌, ℕ, zero, suc, List, [], ◌∷◌, ◌++◌, length, Some, true, refl, sym, ◌∙◌, ap, subst, append_assoc}
use Rattle.std.specs.Prelude.{slice_get, ◌==◌, ◌&&◌}
use Rattle.ss_core.specs.Tree.{ClassTree}
use Rattle.ss_logic.specs.declared.Sort.{Sort}
use Rattle.ss_logic.specs.Terms.{Term}
use Rattle.ss_logic.specs.Formulas.{Formula, Formulas, Or, Forall, Exists, formula_list, formulas_from, is_well_formed, neg, put}
use Rattle.std.proofs.lemmas.Bool.{or_left}
use Rattle.ss_logic.specs.Equal.{same_formula_equal}
use Rattle.ss_logic_means.specs.Steps.{Line, Split, Cut, Case, Clash, count_of, is_cut, is_opposed, is_clash, is_absurd, fact_of, chosen}
use Rattle.ss_search_clashes.specs.Closing.{Closes, cases_in_turn, CloseEach}
use Rattle.ss_search_clashes.specs.Leading.{Leads}
use Rattle.ss_search_clashes.proofs.Closing.{closes_fact, closes_split, closes_cut, closes_clash}

nothing_after : {A : Type 0} (xs : List A) → xs ++ [] ≡ xs
nothing_after [] = refl
nothing_after (x ∷ xs) = ap (λ ys. x ∷ ys) (nothing_after xs)

-- cases in turn, some and then others
in_turn_append : (one two : List (List Line)) → cases_in_turn (one ++ two) ≡ cases_in_turn one ++ cases_in_turn two
in_turn_append [] two = refl
in_turn_append (lines ∷ one) two = ap (λ r. Case ∷ lines ++ r) (in_turn_append one two) ∙ ap (λ r. Case ∷ r) (sym (append_assoc lines (cases_in_turn one) (cases_in_turn two)))

pub at_front : {A : Type 0} (xs ys : List A) (i : ℕ) (x : A) → slice_get xs i ≡ Some x → slice_get (xs ++ ys) i ≡ Some x
at_front [] ys i x e = cc
at_front (z ∷ xs) ys zero x e = e
at_front (z ∷ xs) ys (suc i) x e = at_front xs ys i x e

pub at_end : {A : Type 0} (xs : List A) (x : A) → slice_get (xs ++ x ∷ []) (length xs) ≡ Some x
at_end [] x = refl
at_end (z ∷ xs) x = at_end xs x

module _ (cs : List ClassTree) (premises : List Formula) (goal : Formula) where
  pub stays : (known : List Formula) → Leads cs premises goal known [] known []
  stays known = record { closes = λ lines c. subst (Closes cs premises goal known) (sym (nothing_after lines)) c }

  pub goes_on : (start middle known : List Formula) (before before' behind after' : List Line) → Leads cs premises goal start before middle behind →
      Leads cs premises goal middle before' known after' → Leads cs premises goal start (before ++ before') known (after' ++ behind)
  goes_on start middle known before before' behind after' one two = record {
    closes = λ lines c. subst (Closes cs premises goal start)
        (ap (λ r. before ++ r) (append_assoc before' (lines ++ after') behind ∙ ap (λ r. before' ++ r) (append_assoc lines after' behind)) ∙ sym (append_assoc before before' (lines ++ (after' ++ behind))))
        (one.closes (before' ++ (lines ++ after')) (two.closes lines c));
  }

  -- one more fact
  pub by_fact : (known : List Formula) (line : Line) (f : Formula) → fact_of cs premises goal known line ≡ Some f → is_well_formed cs [] f ≡ true →
      Leads cs premises goal known (line ∷ []) (known ++ f ∷ []) []
  by_fact known line f is formed = record { closes = λ lines c. subst (λ r. Closes cs premises goal known (line ∷ r)) (sym (nothing_after lines)) (closes_fact cs premises goal known line f lines is formed c) }

  -- each of some formulas has lines that close its case, then so has one, then others
  close_all : (known one : List Formula) (f : Formula) (two : List Formula) (before : List (List Line)) (lines : List Line) (behind : List (List Line)) →
      CloseEach cs premises goal known one before → Closes cs premises goal (known ++ f ∷ []) lines → CloseEach cs premises goal known two behind →
      CloseEach cs premises goal known (one ++ f ∷ two) (before ++ lines ∷ behind)
  close_all known [] f two [] lines behind a c b = (c, b)
  close_all known [] f two (l ∷ before) lines behind a c b = absurd a
  close_all known (g ∷ one) f two [] lines behind a c b = absurd a
  close_all known (g ∷ one) f two (l ∷ before) lines behind a c b = (a.0, close_all known one f two before lines behind a.1 c b)

  -- of a known `or` one part, where each other one has lines that close its case
  pub by_part : (known : List Formula) (i : ℕ) (fs : Formulas) (one : List Formula) (f : Formula) (two : List Formula) (before behind : List (List Line)) →
      slice_get known i ≡ Some (Or fs) → formula_list fs ≡ one ++ f ∷ two → CloseEach cs premises goal known one before → CloseEach cs premises goal known two behind →
      Leads cs premises goal known (Split i (count_of fs) ∷ (cases_in_turn before ++ (Case ∷ []))) (known ++ f ∷ []) (cases_in_turn behind)
  by_part known i fs one f two before behind is parts a b = record {
    closes = λ lines c. subst (λ r. Closes cs premises goal known (Split i (count_of fs) ∷ r))
        (in_turn_append before (lines ∷ behind) ∙ sym (append_assoc (cases_in_turn before) (Case ∷ []) (lines ++ cases_in_turn behind)))
        (closes_split cs premises goal known i fs (before ++ lines ∷ behind) is
        (subst (λ gs. CloseEach cs premises goal known gs (before ++ lines ∷ behind)) (sym parts) (close_all known one f two before lines behind a c b)));
  }

  -- a formula, where its negation is closed
  pub by_cut : (known : List Formula) (f : Formula) (closed : List Line) → is_cut f ≡ true → is_well_formed cs [] f ≡ true → Closes cs premises goal (known ++ neg f ∷ []) closed →
      Leads cs premises goal known (Cut f ∷ Case ∷ []) (known ++ f ∷ []) (Case ∷ closed)
  by_cut known f closed cut formed c = record {
    closes = λ lines d. subst (λ r. Closes cs premises goal known (Cut f ∷ Case ∷ lines ++ Case ∷ r)) (nothing_after closed) (closes_cut cs premises goal known f lines closed cut formed d c);
  }

  -- its negation, where it is closed
  pub by_denial : (known : List Formula) (f : Formula) (closed : List Line) → is_cut f ≡ true → is_well_formed cs [] f ≡ true → Closes cs premises goal (known ++ f ∷ []) closed →
      Leads cs premises goal known (Cut f ∷ Case ∷ (closed ++ (Case ∷ []))) (known ++ neg f ∷ []) []
  by_denial known f closed cut formed c = record {
    closes = λ lines d. subst (λ r. Closes cs premises goal known (Cut f ∷ Case ∷ r)) (sym (append_assoc closed (Case ∷ []) (lines ++ []))) (closes_cut cs premises goal known f closed lines cut formed c d);
  }

  -- Of a choice the constants, where it is known that there is something of the kind.
  pub by_choice : (known : List Formula) (i c : ℕ) (ss : List Sort) (f : Formula) (ts : List Term) → slice_get known i ≡ Some (Exists ss f) → slice_get known c ≡ Some (chosen ss f ts) →
      Leads cs premises goal known (Split c 2 ∷ Case ∷ Clash i (length known) ∷ Case ∷ []) (known ++ put ts f ∷ []) []
  by_choice known i c ss f ts is choice = by_part known c (formulas_from (Forall ss (neg f) ∷ put ts f ∷ [])) (Forall ss (neg f) ∷ []) (put ts f) [] ((Clash i (length known) ∷ []) ∷ []) [] choice refl (closed, tt) tt
    where
      none : Formula
      none = Forall ss (neg f)

      closed : Closes cs premises goal (known ++ none ∷ []) (Clash i (length known) ∷ [])
      closed = closes_clash cs premises goal (known ++ none ∷ []) i (length known)
          (ap (λ o. is_clash i (length known) o (slice_get (known ++ none ∷ []) (length known))) (at_front known (none ∷ []) i (Exists ss f) is)
          ∙ ap (is_clash i (length known) (Some (Exists ss f))) (at_end known none)
          ∙ or_left (is_opposed (Exists ss f) none) ((i == length known) && is_absurd (Exists ss f)) (same_formula_equal (neg (Exists ss f)) none refl))
