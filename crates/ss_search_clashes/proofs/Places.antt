-- The lines of the joins that are needed, one join after the other.
use Rattle.std.proofs.Common.{◌≡◌, ℕ, zero, suc, ◌+◌, ◌<◌, ◌≤◌, List, [], ◌∷◌, ◌++◌, length, take, map, Bool, true, false, Option, Some, None, refl, sym, ◌∙◌, ap, subst, ⊎_elim, append_assoc, length-append, zero-add, add-one, arith}
use Rattle.std.specs.Prelude.{slice_get, slice_index, option_map, Result, Ok, Err, IfOk, OnOk}
use Rattle.std.proofs.lemmas.List.{length-map}
use Rattle.std.proofs.lemmas.Option.{slice_get_within, slice_get-get_or}
use Rattle.ss_core.specs.Tree.{ClassTree}
use Rattle.ss_logic.specs.Terms.{Term, App, terms_from, is_well_sorted}
use Rattle.ss_logic.specs.Formulas.{Formula}
use Rattle.ss_logic.specs.Equal.{same_term}
use Rattle.ss_logic.specs.Shapes.{equal}
use Rattle.ss_logic_means.specs.Steps as tree
use Rattle.ss_logic_means.specs.Steps.{Chain, Cong, is_joined, is_congruent, are_exchanged}
use Rattle.ss_terms.specs.declared.forms.TermId.{TermId}
use Rattle.ss_terms.specs.declared.forms.Symbol.{Symbol}
use Rattle.ss_terms.specs.Forms.{Forms, TermShape, AppShape, term_at, symbol_of}
use Rattle.ss_terms.specs.Bank.{number}
use Rattle.ss_terms.specs.Apart.{AreApart}
use Rattle.ss_deriv.specs.declared.line.Line.{Line}
use Rattle.ss_deriv.specs.Lines.{line_of, lines_of}
use Rattle.ss_equality_rules.specs.declared.Merge.{Merge}
use Rattle.ss_equality_rules.specs.declared.Join.{Join}
use Rattle.ss_equality_rules.specs.Equal.{AreFormsOf}
use Rattle.ss_equality_rules.specs.Names.{Has, name, IsLog}
use Rattle.ss_equality_rules.specs.Whole.{IsMergeOf, IsCause, AreCaused, numbers}
use Rattle.ss_equality_rules.proofs.Lists.{pushed}
use Rattle.ss_equality_rules.proofs.Names.{name_next, renamed_from, renamed_other, stays_equal}
use Rattle.ss_search_clashes.proofs.Leading.{at_front}
use Rattle.ss_search_clashes.specs.Ways.{way, ArePaired}
use Rattle.ss_search_clashes.specs.Needed.{IsCongruence, AreClosed}
use Rattle.ss_search_clashes.specs.Said.{fact_said, facts_said, AreKnown}
use Rattle.ss_search_clashes.specs.Placed.{places_of, chain_between, chains, AddsChains, IsPlaced, AreSorted, ArePlaced}
use Rattle.ss_search_clashes.proofs.Lists.{nothing_after, one_there, has_pair, pairs_next, pairs_all}
use Rattle.ss_search_clashes.proofs.Going.{gone_way}
use Rattle.ss_search_clashes.proofs.Marks.{cause_of, paired_of, ways_before}
use Rattle.ss_search_clashes.proofs.Sorts.{formed_equal, unsorted, merges_alike, alike_named, handed_down}
use Rattle.ss_search_clashes.proofs.Walks.{walk_gone, joined_by, joined_back, joined_more}
use Rattle.ss_search_clashes.proofs.Lines.{at_behind, behind_first, last_fact, CanChain, cong_fact, Lead, one_more, no_line, chains_lead, AreFrom, between_same, between_other, chains_exchange, congruent_lists}
use Rattle.ss_search_clashes.proofs.Arguments.{one_number, inside}

-- ---- lines that are added

pub numbers_append : (from m n : ℕ) → numbers from (m + n) ≡ numbers from m ++ numbers (from + m) n
unfolding numbers
numbers_append from zero n = ap (numbers from) (zero-add n) ∙ ap (λ k. numbers k n) (let z : from ≡ from + 0 = omega arith in z)
numbers_append from (suc m) n =
    ap (numbers from) (let z : suc m + n ≡ suc (m + n) = omega arith in z)
    ∙ ap (λ ks. from ∷ ks) (numbers_append (suc from) m n ∙ ap (λ k. numbers (suc from) m ++ numbers k n) (let z : suc from + m ≡ from + suc m = omega arith in z))

pub numbers_one : (from : ℕ) → numbers from 1 ≡ from ∷ []
unfolding numbers
numbers_one from = refl

pub numbers_zero : (from : ℕ) → numbers from 0 ≡ []
unfolding numbers
numbers_zero from = refl

module _ (b : Forms) where
  lines_long : (lines : List Line) → length (lines_of b lines) ≡ length lines
  lines_long lines = length-map lines (line_of b)

  pub longer : (old new : List Line) (added : List tree.Line) → lines_of b new ≡ lines_of b old ++ added → length new ≡ length old + length added
  longer old new added e = sym (lines_long new) ∙ ap length e ∙ length-append (lines_of b old) added ∙ ap (λ n. n + length added) (lines_long old)

  pub adds_none : (known : ℕ) (old new : List Line) (places : List ℕ) → new ≡ old → AddsChains b [] known old new places places
  adds_none known old new places e = record {
    lines = ap (lines_of b) e ∙ sym (nothing_after (lines_of b old));
    places = sym (ap (λ ks. places ++ ks) (numbers_zero (known + length old)) ∙ nothing_after places);
  }

  pub adds_one : (line : tree.Line) (known : ℕ) (old new : List Line) (places places' : List ℕ) (place : ℕ) → lines_of b new ≡ lines_of b old ++ line ∷ [] → place ≡ known + length old → places' ≡ places ++ place ∷ [] →
      AddsChains b (line ∷ []) known old new places places'
  adds_one line known old new places places' place e p q = record {
    lines = e;
    places = q ∙ ap (λ k. places ++ k ∷ []) p ∙ ap (λ ks. places ++ ks) (sym (numbers_one (known + length old)));
  }

  pub adds_more : (one two : List tree.Line) (known : ℕ) (first mid last : List Line) (ps qs rs : List ℕ) → AddsChains b one known first mid ps qs → AddsChains b two known mid last qs rs → AddsChains b (one ++ two) known first last ps rs
  adds_more one two known first mid last ps qs rs x y = record {
    lines = y.lines ∙ ap (λ ls. ls ++ two) x.lines ∙ append_assoc (lines_of b first) one two;
    places =
        let long = longer first mid one x.lines in
        y.places ∙ ap (λ ks. ks ++ numbers (known + length mid) (length two)) x.places
        ∙ append_assoc ps (numbers (known + length first) (length one)) (numbers (known + length mid) (length two))
        ∙ ap (λ k. ps ++ (numbers (known + length first) (length one) ++ numbers k (length two))) (let z : known + length mid ≡ known + length first + length one = omega (arith, long) in z)
        ∙ ap (λ ks. ps ++ ks) (sym (numbers_append (known + length first) (length one) (length two)))
        ∙ ap (λ n. ps ++ numbers (known + length first) n) (sym (length-append one two));
  }

  -- lines on arguments, one pair after the other
  module _ (es : List Join) (places : List ℕ) where
    pub adds_same : (known : ℕ) (old new : List Line) (before after : List ℕ) (x y : TermId) → same_term (term_at b x) (term_at b y) ≡ true → new ≡ old → after ≡ before → AddsChains b (chain_between b es places x y) known old new before after
    adds_same known old new before after x y same e f =
        subst (λ ls. AddsChains b ls known old new before after) (sym (between_same b es places x y same)) (subst (λ ks. AddsChains b [] known old new before ks) (sym f) (adds_none known old new before e))

    pub adds_other : (known : ℕ) (old new : List Line) (before after : List ℕ) (place : ℕ) (x y : TermId) → same_term (term_at b x) (term_at b y) ≡ false →
        lines_of b new ≡ lines_of b old ++ Chain (term_at b x) (term_at b y) (places_of places (way es x.0 y.0)) ∷ [] → place ≡ known + length old → after ≡ before ++ place ∷ [] → AddsChains b (chain_between b es places x y) known old new before after
    adds_other known old new before after place x y other e p q =
        subst (λ ls. AddsChains b ls known old new before after) (sym (between_other b es places x y other)) (adds_one (Chain (term_at b x) (term_at b y) (places_of places (way es x.0 y.0))) known old new before after place e p q)

    pub adds_next : (xs ys : List TermId) (i : ℕ) (x y : TermId) (known : ℕ) (first mid last : List Line) (ps qs rs : List ℕ) → slice_get xs i ≡ Some x → slice_get ys i ≡ Some y → AddsChains b (chains b es places (take i xs) (take i ys)) known first mid ps qs →
        AddsChains b (chain_between b es places x y) known mid last qs rs → AddsChains b (chains b es places (take (i + 1) xs) (take (i + 1) ys)) known first last ps rs
    adds_next xs ys i x y known first mid last ps qs rs at_x at_y one two =
        subst (λ ls. AddsChains b ls known first last ps rs) (sym (ap (λ n. chains b es places (take n xs) (take n ys)) (add-one i) ∙ pairs_next (chain_between b es places) i xs ys x y at_x at_y))
        (adds_more (chains b es places (take i xs) (take i ys)) (chain_between b es places x y) known first mid last ps qs rs one two)

    pub adds_all : (xs ys : List TermId) (n known : ℕ) (old new : List Line) (before after : List ℕ) → length xs ≤ n → length xs ≡ length ys → AddsChains b (chains b es places (take n xs) (take n ys)) known old new before after → AddsChains b (chains b es places xs ys) known old new before after
    adds_all xs ys n known old new before after l long added = subst (λ ls. AddsChains b ls known old new before after) (pairs_all (chain_between b es places) xs ys n l long) added

  -- more lines, and what was known stays known
  pub grown : (known : List Formula) (old new : List Line) (added : List tree.Line) → lines_of b new ≡ lines_of b old ++ added → known ++ facts_said (lines_of b new) ≡ (known ++ facts_said (lines_of b old)) ++ facts_said added
  grown known old new added e = ap (λ ls. known ++ facts_said ls) e ∙ behind_first known (lines_of b old) added

  pub known_long : (known : List Formula) (lines : List Line) → length (known ++ facts_said (lines_of b lines)) ≡ length known + length lines
  known_long known lines = length-append known (facts_said (lines_of b lines)) ∙ ap (λ n. length known + n) (length-map (lines_of b lines) fact_said ∙ lines_long lines)

  -- the fact of a last line
  pub fact_at_last : (known : List Formula) (old new : List Line) (added : List tree.Line) (line : tree.Line) (place : ℕ) → lines_of b new ≡ (lines_of b old ++ added) ++ line ∷ [] → place ≡ length known + (length old + length added) →
      slice_get (known ++ facts_said (lines_of b new)) place ≡ Some (fact_said line)
  fact_at_last known old new added line place e p =
      ap (λ ls. slice_get (known ++ facts_said ls) place) e
      ∙ ap (slice_get (known ++ facts_said ((lines_of b old ++ added) ++ line ∷ []))) (p ∙ ap (λ n. length known + n) (sym (length-append (lines_of b old) added ∙ ap (λ n. n + length added) (lines_long old))))
      ∙ last_fact known (lines_of b old ++ added) line

-- ---- a place more

module _ (b : Forms) (apart : AreApart b) (fs : List TermShape) (forms : AreFormsOf b fs) (ms : List Merge) (terms : ℕ) (es : List Join) (log : IsLog terms es) (caused : AreCaused fs ms es) (count : ℕ) where
  abbrev At : ℕ → Term
  At j = term_at b (number j)

  index_there : (places : List ℕ) (j : ℕ) → j < length places → slice_get places j ≡ Some (slice_index places j)
  index_there places j l = slice_get-get_or places j 0 l

  module _ (marks : List Bool) where
    -- where the joins of the way between two terms are needed and have their places
    pub can_chain : (cs : List ClassTree) (known : List Formula) → AreKnown cs b ms count known → AreSorted cs b es marks → (places : List ℕ) (lines : List Line) → ArePlaced b ms es count marks places lines → (x y : TermId) → name es x.0 ≡ name es y.0 →
        ((j : ℕ) → Has (way es x.0 y.0) j → (slice_get marks j ≡ Some true) × (j < length places)) → is_well_sorted cs [] (term_at b x) ≡ true → CanChain cs b es places (known ++ facts_said (lines_of b lines)) x y
    can_chain cs known are all_sorted places lines placed x y same there sorted =
        let alike = alike_named cs b fs ms forms (merges_alike cs b ms count known are) terms es log caused x.0 y.0 same in
        record {
          path = walk_gone At es (known ++ facts_said (lines_of b lines)) (slice_index places) x.0 (way es x.0 y.0) y.0
              (λ j h e at. placed.placed cs known are all_sorted j (slice_index places j) e at (there j h).0 (index_there places j (there j h).1))
              (gone_way terms es log x.0 y.0 same);
          formed = formed_equal cs (term_at b x) (term_at b y) alike.sort sorted (sym alike.sorted ∙ sorted);
        }

    -- the place of one more join
    one_more_place : (places : List ℕ) (place : ℕ) (old new : List Line) (added : List tree.Line) → lines_of b new ≡ lines_of b old ++ added → ArePlaced b ms es count marks places old →
        ((cs : List ClassTree) (premises : List Formula) (goal : Formula) (known : List Formula) → AreKnown cs b ms count known → AreSorted cs b es marks → Lead cs premises goal known (lines_of b new)) →
        ((cs : List ClassTree) (known : List Formula) → AreKnown cs b ms count known → AreSorted cs b es marks → (e : Join) → slice_get es (length places) ≡ Some e → slice_get marks (length places) ≡ Some true → is_joined (At e.left) (At e.right) (slice_get (known ++ facts_said (lines_of b new)) place) ≡ true) →
        ArePlaced b ms es count marks (places ++ place ∷ []) new
    one_more_place places place old new added more before lead there = record {
      leads = lead;
      placed = λ cs known are sorted j p e at marked h. ⊎_elim
          (λ o. ap (λ gs. is_joined (At e.left) (At e.right) (slice_get gs p)) (grown b known old new added more)
          ∙ joined_more (At e.left) (At e.right) (known ++ facts_said (lines_of b old)) (facts_said added) p (before.placed cs known are sorted j p e at marked o))
          (λ n. ap (λ q. is_joined (At e.left) (At e.right) (slice_get (known ++ facts_said (lines_of b new)) q)) (sym n.1)
          ∙ there cs known are sorted e (ap (slice_get es) (sym n.0) ∙ at) (ap (slice_get marks) (sym n.0) ∙ marked))
          (pushed places place p j h);
    }

    -- any place will do for a join that isn't needed
    pub place_of_none : (places : List ℕ) (place : ℕ) (old new : List Line) → new ≡ old → ArePlaced b ms es count marks places old → (slice_get marks (length places) ≡ Some true → ⊥) → ArePlaced b ms es count marks (places ++ place ∷ []) new
    place_of_none places place old new same before none =
        one_more_place places place old new [] (ap (lines_of b) same ∙ sym (nothing_after (lines_of b old))) before
        (λ cs premises goal known are sorted. subst (λ ls. Lead cs premises goal known (lines_of b ls)) (sym same) (before.leads cs premises goal known are sorted))
        (λ cs known are sorted e at marked. absurd (none marked))

    -- the merge of a needed join is of well sorted terms: no names
    known_merge : (cs : List ClassTree) (known : List Formula) → AreKnown cs b ms count known → AreSorted cs b es marks → (j : ℕ) (e : Join) (k : ℕ) → slice_get es j ≡ Some e → slice_get marks j ≡ Some true → (c : IsMergeOf ms e.left e.right k) →
        slice_get known c.merge.because ≡ Some (equal (term_at b c.merge.left) (term_at b c.merge.right))
    known_merge cs known are sorted j e k at marked c = ⊎_elim
        (λ is. is.at)
        (λ names. absurd (⊎_elim
        (λ s. unsorted cs (At e.left) names.left (ap At (sym s.0) ∙ names.is_left) (sorted.left j e at marked))
        (λ s. unsorted cs (At e.left) names.right (ap At (sym s.1) ∙ names.is_right) (sorted.left j e at marked))
        c.sides))
        (are.merges k c.merge c.at)

    -- that of a merge is known
    place_of_merge : (places : List ℕ) (place : ℕ) (old new : List Line) (e : Join) (k : ℕ) → slice_get es (length places) ≡ Some e → IsMergeOf ms e.left e.right k → ((m : Merge) → slice_get ms k ≡ Some m → (lines_of b new ≡ lines_of b old) × (place ≡ m.because)) →
        ArePlaced b ms es count marks places old → ArePlaced b ms es count marks (places ++ place ∷ []) new
    place_of_merge places place old new e k at_e c by before =
        let w = by c.merge c.at in
        one_more_place places place old new [] (w.0 ∙ sym (nothing_after (lines_of b old))) before
        (λ cs premises goal known are sorted. subst (λ ls. Lead cs premises goal known ls) (sym w.0) (before.leads cs premises goal known are sorted))
        (λ cs known are sorted d at marked. subst (λ z. is_joined (At z.left) (At z.right) (slice_get (known ++ facts_said (lines_of b new)) place) ≡ true) (one_there es (length places) e d at_e at)
        (ap (λ q. is_joined (At e.left) (At e.right) (slice_get (known ++ facts_said (lines_of b new)) q)) w.1
        ∙ ap (is_joined (At e.left) (At e.right)) (at_front known (facts_said (lines_of b new)) c.merge.because (equal (term_at b c.merge.left) (term_at b c.merge.right)) (known_merge cs known are sorted (length places) e k at_e marked c))
        ∙ ⊎_elim
        (λ s. ap (λ l. is_joined (At e.left) (At e.right) (Some (equal (At l) (At c.merge.right.0)))) s.0 ∙ ap (λ r. is_joined (At e.left) (At e.right) (Some (equal (At e.left) (At r)))) s.1 ∙ joined_by (At e.left) (At e.right))
        (λ s. ap (λ l. is_joined (At e.left) (At e.right) (Some (equal (At l) (At c.merge.right.0)))) s.0 ∙ ap (λ r. is_joined (At e.left) (At e.right) (Some (equal (At e.right) (At r)))) s.1 ∙ joined_back (At e.left) (At e.right))
        c.sides))

    module _ (closed : AreClosed fs es 0 marks) (places : List ℕ) (old : List Line) (before : ArePlaced b ms es count marks places old) (e : Join) (at : slice_get es (length places) ≡ Some e) where
      module _ (marked : slice_get marks (length places) ≡ Some true) (xs ys : List TermId) (is : IsCongruence fs e xs ys) where
        left_is : At e.left ≡ App (symbol_of is.function) (terms_from (map (term_at b) xs))
        left_is = forms.built e.left (AppShape is.function xs) is.left

        right_is : At e.right ≡ App (symbol_of is.function) (terms_from (map (term_at b) ys))
        right_is = forms.built e.right (AppShape is.function ys) is.right

        paired : ArePaired es xs ys
        paired = paired_of terms es log fs ms caused (length places) e at xs ys is

        left_below : e.left < length b.terms
        left_below = inside b fs forms e.left (AppShape is.function xs) is.left

        right_below : e.right < length b.terms
        right_below = inside b fs forms e.right (AppShape is.function ys) is.right

        differ : At e.left ≡ At e.right → ⊥
        differ same =
            let one = ap (λ (t : TermId). t.0) (one_number b apart (number e.left) (number e.right) left_below right_below same) in
            let join = log.joins (length places) e at in
            join.apart (sym join.left ∙ ap (name (take (length places) es)) one ∙ join.right)

        -- a term without arguments is the same one
        some_arguments : map (term_at b) xs ≡ [] → ⊥
        some_arguments none = differ (left_is ∙ ap (λ ts. App (symbol_of is.function) (terms_from ts)) (none ∙ sym (as_many xs ys paired.long none)) ∙ sym right_is)
          where
            as_many : (us vs : List TermId) → length us ≡ length vs → map (term_at b) us ≡ [] → map (term_at b) vs ≡ []
            as_many [] [] l n = refl
            as_many [] (v ∷ vs) l n = absurd (omega (arith, l))
            as_many (u ∷ us) vs l n = cc

        same_class : name es e.left ≡ name es e.right
        same_class =
            let join = log.joins (length places) e at in
            stays_equal es (suc (length places)) e.left e.right
            (name_next es (length places) e at e.left ∙ renamed_from e (name (take (length places) es) e.left) join.left
            ∙ sym (name_next es (length places) e at e.right ∙ renamed_other e (name (take (length places) es) e.right) (λ f. join.apart (sym f ∙ join.right)) ∙ join.right))

        abbrev Chains : List tree.Line
        Chains = chains b es places xs ys

        abbrev Last : tree.Line
        Last = Cong (At e.left) (At e.right) (numbers (count + length old) (length (chains b es places xs ys)))

        module _ (cs : List ClassTree) (premises : List Formula) (goal : Formula) (known : List Formula) (are : AreKnown cs b ms count known) (sorted : AreSorted cs b es marks) where
          left_sorted : is_well_sorted cs [] (At e.left) ≡ true
          left_sorted = sorted.left (length places) e at marked

          chainable : (i : ℕ) (x y : TermId) → slice_get xs i ≡ Some x → slice_get ys i ≡ Some y → CanChain cs b es places (known ++ facts_said (lines_of b old)) x y
          chainable i x y p q = can_chain cs known are sorted places old before x y (paired.same i x y p q)
              (λ k h. let there = has_pair (λ u v. way es u.0 v.0) i xs ys x y k p q h in (
                closed.arguments (length places) e (omega arith) at marked xs ys is k there,
                ways_before terms es log fs ms caused (length places) e at xs ys is k there,
              ))
              ((handed_down cs b fs ms forms (merges_alike cs b ms count known are) terms es log caused).arguments e.left is.function xs is.left left_sorted x (record { at = i; is = p }))

          chains_first : Lead cs premises goal known (lines_of b old ++ chains b es places xs ys)
          chains_first = chains_lead cs premises goal known b es places (lines_of b old) xs ys (before.leads cs premises goal known are sorted) chainable

          abbrev Behind : List Formula
          Behind = known ++ facts_said (lines_of b old ++ chains b es places xs ys)

          facts_there : AreFrom (known ++ facts_said (lines_of b old ++ chains b es places xs ys)) (count + length old) (chains b es places xs ys)
          facts_there i f at_f =
              ap (λ gs. slice_get gs (count + length old + i)) (behind_first known (lines_of b old) (chains b es places xs ys))
              ∙ ap (λ n. slice_get ((known ++ facts_said (lines_of b old)) ++ facts_said (chains b es places xs ys)) (n + i)) (sym (known_long b known old ∙ ap (λ n. n + length old) are.many))
              ∙ at_behind (known ++ facts_said (lines_of b old)) (facts_said (chains b es places xs ys)) i ∙ at_f

          congruent : is_congruent Behind (numbers (count + length old) (length (chains b es places xs ys))) (At e.left) (At e.right) ≡ true
          congruent =
              ap (λ t. is_congruent Behind (numbers (count + length old) (length (chains b es places xs ys))) t (At e.right)) left_is
              ∙ ap (is_congruent Behind (numbers (count + length old) (length (chains b es places xs ys))) (App (symbol_of is.function) (terms_from (map (term_at b) xs)))) right_is
              ∙ congruent_lists Behind (numbers (count + length old) (length (chains b es places xs ys))) (symbol_of is.function) (map (term_at b) xs) (map (term_at b) ys) some_arguments
              (chains_exchange b es places Behind (count + length old) xs ys paired.long facts_there)

          congruence_leads : Lead cs premises goal known ((lines_of b old ++ chains b es places xs ys) ++ Last ∷ [])
          congruence_leads =
              let alike = alike_named cs b fs ms forms (merges_alike cs b ms count known are) terms es log caused e.left e.right same_class in
              one_more cs premises goal known (lines_of b old ++ chains b es places xs ys) Last chains_first
              (cong_fact cs premises goal Behind (At e.left) (At e.right) (numbers (count + length old) (length (chains b es places xs ys))) congruent)
              (formed_equal cs (At e.left) (At e.right) alike.sort left_sorted (sym alike.sorted ∙ left_sorted))

        -- that of a join by congruence is known by its lines
        place_of_congruence : (place : ℕ) (new : List Line) → lines_of b new ≡ (lines_of b old ++ chains b es places xs ys) ++ Last ∷ [] → place ≡ count + (length old + length (chains b es places xs ys)) → ArePlaced b ms es count marks (places ++ place ∷ []) new
        place_of_congruence place new lines_are place_is =
            one_more_place places place old new (chains b es places xs ys ++ Last ∷ []) (lines_are ∙ append_assoc (lines_of b old) (chains b es places xs ys) (Last ∷ [])) before
            (λ cs premises goal known are sorted. subst (λ ls. Lead cs premises goal known ls) (sym lines_are) (congruence_leads cs premises goal known are sorted))
            (λ cs known are sorted d at_d marked_d. subst (λ z. is_joined (At z.left) (At z.right) (slice_get (known ++ facts_said (lines_of b new)) place) ≡ true) (one_there es (length places) e d at at_d)
            (ap (is_joined (At e.left) (At e.right)) (fact_at_last b known old new (chains b es places xs ys) Last place lines_are (place_is ∙ ap (λ n. n + (length old + length (chains b es places xs ys))) (sym are.many)))
            ∙ joined_by (At e.left) (At e.right)))

      pub place_of_join : slice_get marks (length places) ≡ Some true → (place : ℕ) (new : List Line) → IsPlaced b fs ms es places count e old new place → ArePlaced b ms es count marks (places ++ place ∷ []) new
      place_of_join marked place new is = by e.why refl (caused.cause (length places) e at)
        where
          by : (why : Option ℕ) → e.why ≡ why → IsCause fs ms (take (length places) es) e.left e.right e.why → ArePlaced b ms es count marks (places ++ place ∷ []) new
          by (Some k) why c = place_of_merge places place old new e k at (subst (IsCause fs ms (take (length places) es) e.left e.right) why c) (λ m at_m. is.by_merge k m why at_m) before
          by None why c =
              let a = cause_of terms es log fs ms caused (length places) e at why in
              let of : IsCongruence fs e a.lefts a.rights = record { function = a.function; why = why; left = a.left; right = a.right } in
              let w = is.by_arguments a.lefts a.rights of in
              place_of_congruence marked a.lefts a.rights of place new w.0 w.1

-- no place yet
pub no_place : (b : Forms) (ms : List Merge) (es : List Join) (count : ℕ) (marks : List Bool) (lines : List Line) (places : List ℕ) → lines ≡ [] → places ≡ [] → ArePlaced b ms es count marks places lines
no_place b ms es count marks lines places none empty = record {
  leads = λ cs premises goal known are sorted. subst (λ ls. Lead cs premises goal known (lines_of b ls)) (sym none) (no_line cs premises goal known);
  placed = λ cs known are sorted j place e at marked h. absurd (let inside = slice_get_within places j place h in omega (arith, inside, ap length empty));
}

-- ---- what the calls give

-- where there is a value, two facts of it
pub then_both : {T E : Type 0} (r : Result T E) (P R : T → Type 0) {Q : Type 0} → IfOk r P → OnOk r Q → ((x : T) → P x → Q → R x) → IfOk r R
then_both (Ok x) P R p q f = f x p q
then_both (Err e) P R p q f = tt

module _ (b : Forms) (fs : List TermShape) (ms : List Merge) (es : List Join) (places : List ℕ) (known : ℕ) where
  -- the place of a merge's equality
  pub placed_merge : (e : Join) (old new : List Line) (k place : ℕ) → e.why ≡ Some k → new ≡ old → option_map (λ m. m.because) (slice_get ms k) ≡ Some place → IsPlaced b fs ms es places known e old new place
  placed_merge e old new k place why same because = record {
    by_merge = λ j m why_j at. (ap (lines_of b) same, one j m (let both : Some k ≡ Some j = sym why ∙ why_j in let is : k ≡ j = cc in is) at);
    by_arguments = λ xs ys is. absurd (not_both is.why);
  }
    where
      one : (j : ℕ) (m : Merge) → k ≡ j → slice_get ms j ≡ Some m → place ≡ m.because
      one j m is at = let both : Some place ≡ Some m.because = sym because ∙ ap (option_map (λ m. m.because)) (ap (slice_get ms) is ∙ at) in cc

      not_both : e.why ≡ None → ⊥
      not_both none = let both : ◌≡◌ {A = Option ℕ} (Some k) None = sym why ∙ none in cc

  -- the place of the last line of a join by congruence
  pub placed_congruence : (e : Join) (old mid new : List Line) (us vs xs ys : List TermId) (equalities : List ℕ) (place : ℕ) → IsCongruence fs e xs ys → us ≡ xs → vs ≡ ys → AddsChains b (chains b es places us vs) known old mid [] equalities →
      lines_of b new ≡ lines_of b mid ++ Cong (term_at b (number e.left)) (term_at b (number e.right)) equalities ∷ [] → place ≡ known + length mid → IsPlaced b fs ms es places known e old new place
  placed_congruence e old mid new us vs xs ys equalities place is lefts rights added lines_are place_is = record {
    by_merge = λ k m why at. absurd (not_both k why);
    by_arguments = λ ps qs other.
        let left : us ≡ ps = lefts ∙ one e.left xs ps is.function other.function is.left other.left in
        let right : vs ≡ qs = rights ∙ one e.right ys qs is.function other.function is.right other.right in
        let same : chains b es places us vs ≡ chains b es places ps qs = ap (λ zs. chains b es places zs vs) left ∙ ap (chains b es places ps) right in
        subst (λ cs. (lines_of b new ≡ (lines_of b old ++ cs) ++ Cong (term_at b (number e.left)) (term_at b (number e.right)) (numbers (known + length old) (length cs)) ∷ []) × (place ≡ known + (length old + length cs))) same (
          lines_are ∙ ap (λ ls. ls ++ Cong (term_at b (number e.left)) (term_at b (number e.right)) equalities ∷ []) added.lines
              ∙ ap (λ js. (lines_of b old ++ chains b es places us vs) ++ Cong (term_at b (number e.left)) (term_at b (number e.right)) js ∷ []) added.places,
          place_is ∙ ap (λ n. known + n) (longer b old mid (chains b es places us vs) added.lines),
        );
  }
    where
      not_both : (k : ℕ) → e.why ≡ Some k → ⊥
      not_both k why = let both : ◌≡◌ {A = Option ℕ} (Some k) None = sym why ∙ is.why in cc

      one : (t : ℕ) (ps qs : List TermId) (f g : Symbol) → slice_get fs t ≡ Some (AppShape f ps) → slice_get fs t ≡ Some (AppShape g qs) → ps ≡ qs
      one t ps qs f g p q = let same : AppShape f ps ≡ AppShape g qs = one_there fs t (AppShape f ps) (AppShape g qs) p q in cc
