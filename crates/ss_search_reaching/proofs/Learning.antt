-- One more formula is reached, and stands among the facts.
use Rattle.std.proofs.Common.{◌≡◌, ℕ, Result, Ok, Err, List, [], ◌∷◌, ◌++◌, length, map, take, Some, None, refl, sym, ◌∙◌, ap, subst, inl, inr, ⊎_elim, arith}
use Rattle.std.specs.Prelude.{slice_get, OnOk}
use Rattle.std.proofs.lemmas.List.{length-map, length_push, map_push}
use Rattle.ss_core.specs.Tree.{ClassTree}
use Rattle.ss_logic.specs.Formulas.{Formula, Or, formulas_from, is_well_formed, neg}
use Rattle.ss_logic.specs.Shapes.{equal}
use Rattle.ss_terms.specs.declared.forms.FormulaId.{FormulaId}
use Rattle.ss_terms.specs.Forms.{Forms, term_at, formula_at}
use Rattle.ss_equality_rules.specs.declared.Merge.{Merge}
use Rattle.ss_search_procedure_rules.specs.Closed.{is_basic}
use Rattle.ss_search_clashes.specs.Said.{IsKnown, AreKnown}
use Rattle.ss_search_path.specs.declared.path.Path.{Path}
use Rattle.ss_search_path.specs.Paths.{known_on}
use Rattle.ss_search_path.proofs.Going.{goes_nowhere, goes_through}
use Rattle.ss_search_reached.specs.Known.{known_in, AreOfNames, IsReached, AreMergesWith, Remembers}
use Rattle.ss_search_reached.specs.Following as following
use Rattle.ss_search_reached.proofs.Fronts.{front_itself, front_trans, front_push}
use Rattle.ss_search_reached.proofs.Names.{is_bound}
use Rattle.ss_search_reached.proofs.Remembering.{remembers_itself, remembers_more}
use Rattle.ss_search_reached.proofs.Spread.{grows_itself, grows_on, grows_add}
use Rattle.ss_search_reached.proofs.Turns.{no_shorter}
use Rattle.ss_search_path.specs.declared.standing.Given.{Given}
use Rattle.ss_search_path.specs.declared.standing.Standing.{Standing}
use Rattle.ss_search_path.specs.declared.standing.Standing.TheVariants.{Fact, Guarded}
use Rattle.ss_search_path.specs.Standing.{AreChosen, Stands, AreStanding}
use Rattle.ss_search_path.proofs.StandingFacts.{basic_fact, one_more_stands}
use Rattle.ss_search_reaching.specs.declared.reaching.Reaching.{Reaching}
use Rattle.ss_search_reaching.specs.Reaching.{place_of, facts_of, reached_of, IsReaching, Shows, Grows, ReachesFrom}

-- two clauses together
pub ok_both : {A E P Q R : Type 0} (r : Result A E) → (P → Q → R) → OnOk r P → OnOk r Q → OnOk r R
ok_both (Ok x) f h k = f h k
ok_both (Err z) f h k = tt

-- ---- growth

pub nothing_grows : (g : Given) (r : Reaching) → IsReaching g r → Grows g r r
nothing_grows g r h = record {
  state = h;
  reached = grows_itself g.bank.now r.reached h.reached;
  standings = front_itself r.standings.items;
  merges = remembers_itself g.bank.now r.reached h.reached;
  facts = front_itself r.path.known.items;
}

pub grows_more : (g : Given) (x y z : Reaching) → Grows g x y → Grows g y z → Grows g x z
grows_more g x y z one two = record {
  state = two.state;
  reached = grows_on g.bank.now x.reached y.reached z.reached one.reached two.reached;
  standings = front_trans x.standings.items y.standings.items z.standings.items one.standings two.standings;
  merges = remembers_more g.bank.now x.reached y.reached z.reached one.state.reached (no_shorter g.bank.now x.reached y.reached one.reached) one.merges two.merges;
  facts = front_trans x.path.known.items y.path.known.items z.path.known.items one.facts two.facts;
}

pub reaches_itself : (g : Given) (r : Reaching) → ReachesFrom g r r
reaches_itself g r cs premises goal h = record { shows = h; goes_on = goes_nowhere cs premises goal g.bank.now r.path r.path (record { before = refl; behind = refl; known = refl }) }

pub reaches_more : (g : Given) (x y z : Reaching) → ReachesFrom g x y → ReachesFrom g y z → ReachesFrom g x z
reaches_more g x y z one two cs premises goal h =
    let a = one cs premises goal h in
    let b = two cs premises goal a.shows in
    record { shows = b.shows; goes_on = goes_through cs premises goal g.bank.now x.path y.path z.path a.goes_on b.goes_on }

-- ---- merges of names are no equalities of facts

pub names_known : (cs : List ClassTree) (b : Forms) (ms : List Merge) (facts : List Formula) → AreOfNames b ms → AreKnown cs b ms (length facts) facts
names_known cs b ms facts h = record {
  many = refl;
  merges = λ k m at.
      let both = h k m at in
      let left = is_bound (term_at b m.left) both.0 in
      let right = is_bound (term_at b m.right) both.1 in
      inr (record { left = left.0; right = right.0; is_left = left.1; is_right = right.1 });
}

-- ---- nothing is reached yet

module _ (g : Given) (r : Reaching) (nothing : reached_of g r ≡ []) (standings : r.standings.items ≡ []) where
  pub new_state : IsReached g.bank.now r.reached → r.places.items ≡ [] → IsReaching g r
  new_state reached places = record {
    reached = reached;
    long =
        let none : length r.standings.items ≡ 0 = ap length standings in
        let also : length (reached_of g r) ≡ 0 = ap length nothing in
        omega (arith, none, also, length-map r.reached.known.items (formula_at g.bank.now));
    places = places ∙ ap (map place_of) (sym standings);
  }

  pub new_shows : AreOfNames g.bank.now r.reached.congruence.merges → (cs : List ClassTree) → AreChosen cs g (facts_of g r) → Shows cs g r
  new_shows names cs chosen = record {
    standing = record { chosen = chosen; each = λ k f s at there. absurd (none k f at) };
    merges = names_known cs g.bank.now r.reached.congruence.merges (facts_of g r) names;
  }
    where
      none : (k : ℕ) (f : Formula) → slice_get (reached_of g r) k ≡ Some f → ⊥
      none k f at = let no : None ≡ Some f = ap (λ (fs : List Formula). slice_get fs k) (sym nothing) ∙ at in cc

-- ---- an equality that stands is known

merge_at : (cs : List ClassTree) (g : Given) (facts : List Formula) (s : Standing) (f : Formula) (m : Merge) → Stands cs g facts s f → f ≡ equal (term_at g.bank.now m.left) (term_at g.bank.now m.right) → m.because ≡ place_of s → IsKnown cs g.bank.now facts m
merge_at cs g facts (Fact place from) f m h is because =
    let at = basic_fact cs g facts place from f (ap is_basic is) h in
    record { at = ap (slice_get facts) because ∙ at.0 ∙ ap (λ (x : Formula). Some x) is; formed = ap (is_well_formed cs []) (sym is) ∙ at.1 }
merge_at cs g facts (Guarded origin) f m h is because =
    let both : Or (formulas_from (neg h.guarded.guard ∷ h.guarded.body ∷ [])) ≡ equal (term_at g.bank.now m.left) (term_at g.bank.now m.right) = sym h.guarded.is ∙ is in
    cc

-- ---- one formula more

pub is_longer : (g : Given) (old new : Reaching) (f : Formula) → reached_of g new ≡ reached_of g old ++ f ∷ [] → length new.reached.known.items ≡ length old.reached.known.items → ⊥
is_longer g old new f more long =
    let e = ap length more in
    omega (arith, long, e, length_push (reached_of g old) f, length-map old.reached.known.items (formula_at g.bank.now), length-map new.reached.known.items (formula_at g.bank.now))

module _ (g : Given) (old new : Reaching) (f : FormulaId) (s : Standing) (place : ℕ) (state : IsReaching g old) (path : new.path ≡ old.path) (place_is : place ≡ place_of s)
    (reached : IsReached g.bank.now new.reached) (numbers : new.reached.known.items ≡ old.reached.known.items ++ f ∷ []) (known : known_in g.bank.now new.reached ≡ known_in g.bank.now old.reached ++ formula_at g.bank.now f ∷ [])
    (standings : new.standings.items ≡ old.standings.items ++ s ∷ []) (places : new.places.items ≡ old.places.items ++ place ∷ []) where
  pub learnt_state : IsReaching g new
  learnt_state = record {
    reached = reached;
    long = ap length standings ∙ more_long ∙ sym (ap length numbers);
    places = places ∙ ap (λ ns. ns ++ place ∷ []) state.places ∙ ap (λ (n : ℕ). map place_of old.standings.items ++ n ∷ []) place_is ∙ sym (map_push place_of old.standings.items s) ∙ ap (map place_of) (sym standings);
  }
    where
      more_long : length (old.standings.items ++ s ∷ []) ≡ length (old.reached.known.items ++ f ∷ [])
      more_long = let l = state.long in omega (arith, l, length_push old.standings.items s, length_push old.reached.known.items f)

  pub learnt_grows : following.Occur (reached_of g old) (formula_at g.bank.now f ∷ []) → Remembers old.reached new.reached → Grows g old new
  learnt_grows occurs remembers = record {
    state = learnt_state;
    reached = grows_add g.bank.now old.reached new.reached (formula_at g.bank.now f) reached known occurs;
    standings = front_push old.standings.items new.standings.items (s ∷ []) standings;
    merges = remembers;
    facts = ap (λ (p : Path). take (length old.path.known.items) p.known.items) path ∙ front_itself old.path.known.items;
  }

  pub learnt_shows : AreMergesWith g.bank.now (formula_at g.bank.now f) place old.reached.congruence.merges new.reached.congruence.merges → (cs : List ClassTree) → Shows cs g old → Stands cs g (facts_of g old) s (formula_at g.bank.now f) → Shows cs g new
  learnt_shows reasons cs h stands = record {
    standing = subst (λ (fs : List Formula). AreStanding cs g fs (reached_of g new) new.standings.items) facts_are
        (subst (λ (fs : List Formula). AreStanding cs g (facts_of g old) fs new.standings.items) (sym known)
        (subst (AreStanding cs g (facts_of g old) (reached_of g old ++ formula_at g.bank.now f ∷ [])) (sym standings)
        (one_more_stands cs g (facts_of g old) (reached_of g old) old.standings.items (formula_at g.bank.now f) s (state.long ∙ sym (length-map old.reached.known.items (formula_at g.bank.now))) h.standing stands)));
    merges = subst (λ (fs : List Formula). AreKnown cs g.bank.now new.reached.congruence.merges (length fs) fs) facts_are (record {
      many = refl;
      merges = λ k m at. ⊎_elim
          (λ before. h.merges.merges k m before)
          (λ last. inl (merge_at cs g (facts_of g old) s (formula_at g.bank.now f) m stands last.1 (last.0 ∙ place_is)))
          (reasons k m at);
    });
  }
    where
      facts_are : facts_of g old ≡ facts_of g new
      facts_are = ap (known_on g.bank.now) (sym path)
