-- What is written stays right with each equality, and closes a case at the end.
use Rattle.std.proofs.Common.{◌≡◌, ℕ, ◌+◌, ◌<◌, ◌≤◌, List, [], ◌∷◌, ◌++◌, length, get_or, take, Bool, true, false, Option, Some, None, refl, sym, ◌∙◌, ap, subst, append_assoc, inl, inr, ⊎_elim, arith}
use Rattle.std.specs.Prelude.{slice_get, slice_index, nat_lt}
use Rattle.std.specs.Option.{option_map}
use Rattle.std.proofs.lemmas.Bool.{ltb-true, lt-ltb, false≢true}
use Rattle.std.proofs.lemmas.Option.{slice_get_within, slice_get-map, slice_get-get_or}
use Rattle.std.proofs.lemmas.List.{length-append, length-map, map-append, take_more, take_all, get_or_append_left, get_or_push}
use Rattle.ss_core.specs.Tree.{ClassTree}
use Rattle.ss_logic.specs.Formulas.{Formula}
use Rattle.ss_logic_means.specs.Sorts.{AreWellFormed}
use Rattle.ss_logic_means.specs.Steps as tree
use Rattle.ss_terms.specs.declared.forms.TermId.{TermId}
use Rattle.ss_terms.specs.declared.forms.FormulaId.{FormulaId}
use Rattle.ss_terms.specs.Forms.{Forms, term_at, formula_at, formulas_at}
use Rattle.ss_deriv.specs.declared.line.Line.{Line}
use Rattle.ss_deriv.specs.Lines.{line_of, lines_of}
use Rattle.ss_linear_rules.specs.Two.{Refute}
use Rattle.ss_linear.specs.Contradictions.{equality_at, equalities_at, Pairs}
use Rattle.ss_equality_rules.specs.declared.Merge.{Merge}
use Rattle.ss_equality_rules.specs.Equal.{Equations, IsEqual}
use Rattle.ss_search_clashes.specs.Closing.{Closes}
use Rattle.ss_search_clashes.specs.Leading.{Leads}
use Rattle.ss_search_clashes.proofs.Leading.{goes_on, at_front, at_end}
use Rattle.ss_search_clashes.specs.Said.{facts_said, AreKnown}
use Rattle.ss_search_clashes.proofs.Lists.{nothing_after, one_there}
use Rattle.ss_search_clashes.proofs.Lines.{behind_first, no_line}
use Rattle.ss_search_clashes.proofs.Places.{known_long}
use Rattle.ss_search_clashes.proofs.Sorts.{formed_parts}
use Rattle.ss_search_whole_sums.specs.Summing.{Sums, uses, StandAt, CloseBySums}
use Rattle.ss_search_whole_sums.proofs.Sums.{in_front}
use Rattle.ss_search_whole_sums.specs.Contradicting.{ArePairsEqual, Adds, AddsUsed, AreWritten, CloseWith, AreAtPlaces, CloseFacts}

-- ---- lists of formulas

front_formed : (cs : List ClassTree) (fs gs : List Formula) → AreWellFormed cs [] (fs ++ gs) → AreWellFormed cs [] fs
front_formed cs [] gs h = tt
front_formed cs (f ∷ fs) gs h = (h.0, front_formed cs fs gs h.1)

after_formed : (cs : List ClassTree) (fs gs : List Formula) → AreWellFormed cs [] (fs ++ gs) → AreWellFormed cs [] gs
after_formed cs [] gs h = h
after_formed cs (f ∷ fs) gs h = after_formed cs fs gs h.1

-- one more fact, and its place
stand_more : (known more facts : List Formula) (own : List ℕ) (ss : Sums) (f : Formula) (place : ℕ) → StandAt known facts own ss → (uses ss (length own) ≡ true → slice_get (known ++ more) place ≡ Some f) →
    StandAt (known ++ more) (facts ++ f ∷ []) (own ++ place ∷ []) ss
stand_more known more facts own ss f place h at = record {
  long = let a = length-append own (place ∷ []) in let c = length-append facts (f ∷ []) in omega (arith, a, c, h.long);
  at = λ i g u e. by i g (nat_lt i (length facts)) refl u e;
}
  where
    last : (i : ℕ) (g : Formula) → length facts ≤ i → uses ss i ≡ true → slice_get (facts ++ f ∷ []) i ≡ Some g → slice_get (known ++ more) (slice_index (own ++ place ∷ []) i) ≡ Some g
    last i g past u e =
        let within = slice_get_within (facts ++ f ∷ []) i g e in
        let long = length-append facts (f ∷ []) in
        let here : i ≡ length own = omega (arith, within, long, past, h.long) in
        let there : i ≡ length facts = omega (arith, within, long, past) in
        let same : f ≡ g = one_there (facts ++ f ∷ []) (length facts) f g (at_end facts f) (subst (λ (k : ℕ). slice_get (facts ++ f ∷ []) k ≡ Some g) there e) in
        let index : slice_index (own ++ place ∷ []) i ≡ place = get_or_push own place 0 i (sym here) in
        ap (slice_get (known ++ more)) index ∙ at (subst (λ (k : ℕ). uses ss k ≡ true) here u) ∙ ap Some same

    by : (i : ℕ) (g : Formula) (v : Bool) → nat_lt i (length facts) ≡ v → uses ss i ≡ true → slice_get (facts ++ f ∷ []) i ≡ Some g → slice_get (known ++ more) (slice_index (own ++ place ∷ []) i) ≡ Some g
    by i g true l u e =
        let below : i < length facts = ltb-true i (length facts) l in
        ap (slice_get (known ++ more)) (get_or_append_left own (place ∷ []) 0 i (omega (arith, below, h.long)))
        ∙ at_front known more (slice_index own i) g (h.at i g u (in_front facts (f ∷ []) i g below e))
    by i g false l u e =
        let no : (i < length facts → ⊥) = λ k. false≢true (sym l ∙ lt-ltb i (length facts) k) in
        last i g (omega (arith, no)) u e

module _ (b : Forms) (ms : List Merge) (count : ℕ) (ss : Sums) (places : List ℕ) where
  abbrev Written : Pairs → List ℕ → List Line → Type 0
  Written ps own lines = AreWritten b ms count ss places ps own lines

  -- what the lines make known
  abbrev said : List Line → List Formula
  said lines = facts_said (lines_of b lines)

  pub begun : (own : List ℕ) (lines : List Line) → own ≡ places → lines ≡ [] → Written [] own lines
  begun own lines is none = subst (λ (ls : List Line). Written [] own ls) (sym none) (subst (λ (os : List ℕ). Written [] os []) (sym is) first)
    where
      first : Written [] places []
      first = record {
        leads = λ cs premises goal known are formed. no_line cs premises goal known;
        stand = λ known facts many at. subst (λ (fs : List Formula). StandAt fs (facts ++ []) places ss) (sym (nothing_after known)) (subst (λ (fs : List Formula). StandAt known fs places ss) (sym (nothing_after facts)) at);
        long = let z : length places ≡ length places + length {A = TermId × TermId} [] = omega arith in z;
      }

  module _ (ps : Pairs) (p : TermId × TermId) (old : List Line) (before : List ℕ) (w : Written ps before old) where
    all_said : equalities_at b (ps ++ p ∷ []) ≡ equalities_at b ps ++ equality_at b p ∷ []
    all_said = map-append (equality_at b) ps (p ∷ [])

    all_facts : (facts : List Formula) → (facts ++ equalities_at b ps) ++ equality_at b p ∷ [] ≡ facts ++ equalities_at b (ps ++ p ∷ [])
    all_facts facts = append_assoc facts (equalities_at b ps) (equality_at b p ∷ []) ∙ ap (λ fs. facts ++ fs) (sym all_said)

    longer : (place : ℕ) → length (before ++ place ∷ []) ≡ length places + length (ps ++ p ∷ [])
    longer place = let a = length-append before (place ∷ []) in let c = length-append ps (p ∷ []) in omega (arith, a, c, w.long)

    passed : (place : ℕ) → uses ss (length before) ≡ false → Written (ps ++ p ∷ []) (before ++ place ∷ []) old
    passed place none = record {
      leads = λ cs premises goal known are formed. w.leads cs premises goal known are (front_formed cs (equalities_at b ps) (equality_at b p ∷ []) (subst (λ (fs : List Formula). AreWellFormed cs [] fs) all_said formed));
      stand = λ known facts many at.
          subst (λ (fs : List Formula). StandAt (known ++ said old) fs (before ++ place ∷ []) ss) (all_facts facts)
          (subst (λ (ks : List Formula). StandAt ks ((facts ++ equalities_at b ps) ++ equality_at b p ∷ []) (before ++ place ∷ []) ss) (nothing_after (known ++ said old))
          (stand_more (known ++ said old) [] (facts ++ equalities_at b ps) before ss (equality_at b p) place (w.stand known facts many at) (λ u. absurd (false≢true (sym none ∙ u)))));
      long = longer place;
    }

    module _ (new : List Line) (after : List ℕ) (a : Adds b ms count p old new before after) where
      lines_new : lines_of b new ≡ lines_of b old ++ lines_of b a.more
      lines_new = ap (lines_of b) a.lines ∙ map-append (line_of b) old a.more

      known_new : (known : List Formula) → (known ++ said old) ++ said a.more ≡ known ++ said new
      known_new known = sym (ap (λ ls. known ++ facts_said ls) lines_new ∙ behind_first known (lines_of b old) (lines_of b a.more))

      known_there : (cs : List ClassTree) (known : List Formula) → AreKnown cs b ms count known → AreKnown cs b ms (count + length old) (known ++ said old)
      known_there cs known are = record {
        many = known_long b known old ∙ ap (λ n. n + length old) are.many;
        merges = λ k m at. ⊎_elim (λ is. inl (record { at = at_front known (said old) m.because _ is.at; formed = is.formed })) (λ names. inr names) (are.merges k m at);
      }

      leads_on : (cs : List ClassTree) (premises : List Formula) (goal : Formula) (known : List Formula) → AreKnown cs b ms count known → AreWellFormed cs [] (equalities_at b (ps ++ p ∷ [])) → Leads cs premises goal known (lines_of b new) (known ++ said new) []
      leads_on cs premises goal known are formed =
          let all = subst (λ (fs : List Formula). AreWellFormed cs [] fs) all_said formed in
          let last = after_formed cs (equalities_at b ps) (equality_at b p ∷ []) all in
          subst (λ (ls : List tree.Line). Leads cs premises goal known ls (known ++ said new) []) (sym lines_new)
          (subst (λ (fs : List Formula). Leads cs premises goal known (lines_of b old ++ lines_of b a.more) fs []) (known_new known)
          (goes_on cs premises goal known (known ++ said old) ((known ++ said old) ++ said a.more) (lines_of b old) (lines_of b a.more) [] []
          (w.leads cs premises goal known are (front_formed cs (equalities_at b ps) (equality_at b p ∷ []) all))
          (a.shown.leads cs premises goal (known ++ said old) (known_there cs known are) (formed_parts cs (term_at b p.0) (term_at b p.1) last.0).1)))

      stands_on : (known facts : List Formula) → length known ≡ count → StandAt known facts places ss → StandAt (known ++ said new) (facts ++ equalities_at b (ps ++ p ∷ [])) (before ++ a.place ∷ []) ss
      stands_on known facts many at =
          subst (λ (fs : List Formula). StandAt (known ++ said new) fs (before ++ a.place ∷ []) ss) (all_facts facts)
          (subst (λ (ks : List Formula). StandAt ks ((facts ++ equalities_at b ps) ++ equality_at b p ∷ []) (before ++ a.place ∷ []) ss) (known_new known)
          (stand_more (known ++ said old) (said a.more) (facts ++ equalities_at b ps) before ss (equality_at b p) a.place (w.stand known facts many at)
          (λ u. a.shown.at (known ++ said old) (known_long b known old ∙ ap (λ n. n + length old) many))))

      added : Written (ps ++ p ∷ []) after new
      added = subst (λ (os : List ℕ). Written (ps ++ p ∷ []) os new) (sym a.places) (record { leads = leads_on; stand = stands_on; long = longer a.place })

    written_one : (new : List Line) (after : List ℕ) → AddsUsed b ms count ss p old new before after → Written (ps ++ p ∷ []) after new
    written_one new after a = by (uses ss (length before)) refl
      where
        by : (v : Bool) → uses ss (length before) ≡ v → Written (ps ++ p ∷ []) after new
        by true u = added new after (a.used u)
        by false u =
            let h = a.unused u in
            subst (λ (ls : List Line). Written (ps ++ p ∷ []) after ls) (sym h.0) (subst (λ (os : List ℕ). Written (ps ++ p ∷ []) os old) (sym h.1.1) (passed h.1.0 u))

  pub written_more : (ps : Pairs) (i : ℕ) (d : TermId × TermId) (old new : List Line) (before after : List ℕ) → i < length ps → Written (take i ps) before old → AddsUsed b ms count ss (get_or ps i d) old new before after → Written (take (i + 1) ps) after new
  written_more ps i d old new before after l w a = subst (λ (qs : Pairs). Written qs after new) (sym (take_more ps i d l)) (written_one (take i ps) (get_or ps i d) old before w new after a)

  pub written_all : (ps : Pairs) (i : ℕ) (own : List ℕ) (lines : List Line) → length ps ≤ i → Written (take i ps) own lines → Written ps own lines
  written_all ps i own lines l w = subst (λ (qs : Pairs). Written qs own lines) (take_all i ps l) w

  pub closes_with : (ps : Pairs) (own : List ℕ) (lines closing new : List Line) (n : ℕ) → Written ps own lines → n ≡ count + length lines → CloseBySums own n ss closing → new ≡ lines ++ closing → CloseWith b ms count places ps ss new
  closes_with ps own lines closing new n w long close is = record {
    closes = λ cs premises goal known facts are at formed h.
        let c = close.closes b cs premises goal (known ++ said lines) (facts ++ equalities_at b ps) (known_long b known lines ∙ ap (λ k. k + length lines) are.many ∙ sym long) (w.stand known facts are.many at) formed h in
        let leads = w.leads cs premises goal known are (after_formed cs facts (equalities_at b ps) formed) in
        subst (λ (ls : List tree.Line). Closes cs premises goal known ls)
        (ap (λ ls. lines_of b lines ++ ls) (nothing_after (lines_of b closing)) ∙ sym (map-append (line_of b) lines closing) ∙ ap (lines_of b) (sym is))
        (leads.closes (lines_of b closing) c);
  }

-- ---- one pair

pub equal_pair : (c : Equations) (ps : Pairs) (i : ℕ) (d : TermId × TermId) → ArePairsEqual c ps → i < length ps → IsEqual c.terms c.merges (get_or ps i d).0.0 (get_or ps i d).1.0
equal_pair c ps i d h l = h.equal i (get_or ps i d) (slice_get-get_or ps i d l)

-- ---- whether the equality is used

module _ (b : Forms) (ms : List Merge) (count : ℕ) (ss : Sums) (p : TermId × TermId) (old new : List Line) (before after : List ℕ) (u : Bool) (is : u ≡ uses ss (length before)) where
  pub adds_used : u ≡ true → Adds b ms count p old new before after → AddsUsed b ms count ss p old new before after
  adds_used t a = record { used = λ h. a; unused = λ h. absurd (false≢true (sym h ∙ sym is ∙ t)) }

  pub adds_unused : u ≡ false → new ≡ old → (place : ℕ) → after ≡ before ++ place ∷ [] → AddsUsed b ms count ss p old new before after
  adds_unused f same place e = record { used = λ h. absurd (false≢true (sym f ∙ is ∙ h)); unused = λ h. (same, (place, e)) }

-- ---- facts by their numbers

pub stand_all : (b : Forms) (known : List Formula) (facts : List FormulaId) (places : List ℕ) → length places ≡ length facts →
    ((i place : ℕ) (f : FormulaId) → slice_get facts i ≡ Some f → slice_get places i ≡ Some place → slice_get known place ≡ Some (formula_at b f)) → AreAtPlaces b known facts places
stand_all b known facts places long there ss = record {
  long = long ∙ sym (length-map facts (formula_at b));
  at = λ i f u e. by i f (slice_get facts i) refl (sym (slice_get-map (formula_at b) facts i) ∙ e);
}
  where
    by : (i : ℕ) (f : Formula) (o : Option FormulaId) → slice_get facts i ≡ o → option_map (formula_at b) o ≡ Some f → slice_get known (slice_index places i) ≡ Some f
    by i f None at e = absurd (let no : ⊥ = cc in no)
    by i f (Some g) at e =
        let within = slice_get_within facts i g at in
        let same : formula_at b g ≡ f = cc in
        there i (slice_index places i) g at (slice_get-get_or places i 0 (omega (arith, within, long))) ∙ ap Some same

pub closes_facts : (cs : List ClassTree) (b : Forms) (ms : List Merge) (count : ℕ) (facts : List FormulaId) (places : List ℕ) (ps : Pairs) (ss : Sums) (lines : List Line) →
    Refute cs (formulas_at b facts ++ equalities_at b ps) ss → CloseWith b ms count places ps ss lines → CloseFacts cs b ms count facts places ps lines
closes_facts cs b ms count facts places ps ss lines h close = record {
  closes = λ premises goal known are at formed. close.closes cs premises goal known (formulas_at b facts) are (at ss) formed h;
}
