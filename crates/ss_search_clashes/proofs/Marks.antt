-- The joins that are marked.
use Rattle.std.proofs.Common.{◌≡◌, ℕ, ◌+◌, ◌-◌, ◌<◌, ◌≤◌, List, [], ◌∷◌, ◌++◌, length, take, set, Bool, true, false, Option, Some, None, sym, ◌∙◌, ap, subst, inl, inr, ⊎_elim, add-one, arith}
use Rattle.std.specs.Prelude.{slice_get}
use Rattle.std.proofs.lemmas.Bool.{cases_eq}
use Rattle.std.proofs.lemmas.List.{take_all}
use Rattle.std.proofs.lemmas.Option.{slice_get_within}
use Rattle.ss_terms.specs.declared.forms.TermId.{TermId}
use Rattle.ss_terms.specs.declared.forms.Symbol.{Symbol}
use Rattle.ss_terms.specs.Forms.{TermShape, AppShape}
use Rattle.ss_equality_rules.specs.declared.Merge.{Merge}
use Rattle.ss_equality_rules.specs.declared.Join.{Join}
use Rattle.ss_equality_rules.specs.Names.{Has, name, named, IsLog}
use Rattle.ss_equality_rules.specs.Whole.{AreCongruent, IsMergeOf, IsCause, AreCaused}
use Rattle.ss_equality_rules.proofs.Lists.{there, take_next, has_left, has_right, has_pushed, has_none, maps_length, maps_at}
use Rattle.ss_equality_rules.proofs.Names.{stays_equal, whole_log}
use Rattle.ss_equality_rules.proofs.Equal.{names_of}
use Rattle.ss_search_clashes.specs.Ways.{way, ways, ArePaired}
use Rattle.ss_search_clashes.specs.Needed.{Marks, IsCongruence, MarksJoin, IsHandedDown, AreNeeded}
use Rattle.ss_search_clashes.proofs.Lists.{one_there, has_append, of_pair, pairs_next, pairs_all}
use Rattle.ss_search_clashes.proofs.Ending.{set_here, set_there}
use Rattle.ss_search_clashes.proofs.Going.{way_whole, way_below, way_class}

-- ---- marks

pub marks_none : (marks : List Bool) → Marks [] marks marks
marks_none marks = record { marked = λ j h. absurd (has_none j h); kept = λ j h. h; only = λ j h. inr h }

pub marks_append : (js ks : List ℕ) (old mid new : List Bool) → Marks js old mid → Marks ks mid new → Marks (js ++ ks) old new
marks_append js ks old mid new a b = record {
  marked = λ j h. ⊎_elim (λ l. b.kept j (a.marked j l)) (λ r. b.marked j r) (has_append js ks j h);
  kept = λ j h. b.kept j (a.kept j h);
  only = λ j h. ⊎_elim
      (λ r. inl (has_right js ks j r))
      (λ m. ⊎_elim (λ l. inl (has_left js ks j l)) (λ o. inr o) (a.only j m))
      (b.only j h);
}

marks_set : (old : List Bool) (j : ℕ) → j < length old → Marks (j ∷ []) old (set old j true)
marks_set old j l = record {
  marked = λ k h. ap (slice_get (set old j true)) (sym (is k h)) ∙ set_here old j true l;
  kept = λ k h. ⊎_elim
      (λ same. ap (slice_get (set old j true)) (sym same) ∙ set_here old j true l)
      (λ other. set_there old j true k other ∙ h)
      (cases_eq j k);
  only = λ k h. ⊎_elim
      (λ same. inl (record { at = 0; is = ap Some same }))
      (λ other. inr (sym (set_there old j true k other) ∙ h))
      (cases_eq j k);
}
  where
    is : (k : ℕ) → Has (j ∷ []) k → j ≡ k
    is k h = ⊎_elim (λ none. absurd (has_none k none)) (λ s. s) (has_pushed [] j k h)

-- what isn't marked
pub unmarked : (marks : List Bool) (j : ℕ) (r : Bool) → slice_get marks j ≡ Some r → r ≡ false → slice_get marks j ≡ Some true → ⊥
unmarked marks j r at is h = let both : Some r ≡ Some true = sym at ∙ h in cc

pub why_not : (e : Join) (k : ℕ) → e.why ≡ Some k → e.why ≡ None → ⊥
why_not e k why none = let both : ◌≡◌ {A = Option ℕ} (Some k) None = sym why ∙ none in cc

-- one more of a list is marked
pub marks_next : (js : List ℕ) (i j : ℕ) (old mid : List Bool) → slice_get js i ≡ Some j → j < length mid → Marks (take i js) old mid → Marks (take (i + 1) js) old (set mid j true)
marks_next js i j old mid at l a =
    subst (λ ks. Marks ks old (set mid j true)) (sym (ap (λ n. take n js) (add-one i) ∙ take_next js i j at)) (marks_append (take i js) (j ∷ []) old mid (set mid j true) a (marks_set mid j l))

-- all of a list are
pub marks_all : (js : List ℕ) (n : ℕ) (old new : List Bool) → length js ≤ n → Marks (take n js) old new → Marks js old new
marks_all js n old new l m = subst (λ ks. Marks ks old new) (take_all n js l) m

-- ---- ways

module _ (es : List Join) (xs ys : List TermId) where
  pub ways_next : (i : ℕ) (x y : TermId) (old mid new : List Bool) → slice_get xs i ≡ Some x → slice_get ys i ≡ Some y → Marks (ways es (take i xs) (take i ys)) old mid → Marks (way es x.0 y.0) mid new → Marks (ways es (take (i + 1) xs) (take (i + 1) ys)) old new
  ways_next i x y old mid new at_x at_y a b =
      subst (λ js. Marks js old new) (sym (ap (λ n. ways es (take n xs) (take n ys)) (add-one i) ∙ pairs_next (λ u v. way es u.0 v.0) i xs ys x y at_x at_y))
      (marks_append (ways es (take i xs) (take i ys)) (way es x.0 y.0) old mid new a b)

  pub ways_all : (n : ℕ) (old new : List Bool) → length xs ≤ n → length xs ≡ length ys → Marks (ways es (take n xs) (take n ys)) old new → Marks (ways es xs ys) old new
  ways_all n old new l long m = subst (λ js. Marks js old new) (pairs_all (λ u v. way es u.0 v.0) xs ys n l long) m

module _ (terms : ℕ) (es : List Join) (log : IsLog terms es) where
  pub way_inside : (x y j : ℕ) → name es x ≡ name es y → Has (way es x y) j → j < length es
  way_inside x y j h k = way_below terms es log (length es) (omega arith) x y j (whole_log es x ∙ h ∙ sym (whole_log es y)) k

  pub ways_inside : (xs ys : List TermId) → ArePaired es xs ys → (j : ℕ) → Has (ways es xs ys) j → j < length es
  ways_inside xs ys paired j h =
      let p = of_pair (λ x y. way es x.0 y.0) xs ys j h in
      way_inside p.left.0 p.right.0 j (paired.same p.at p.left p.right p.at_left p.at_right) p.has

  -- what is handed down from a term passes at the joins of its ways
  handed_on : (fs : List TermShape) (p : ℕ → Bool) → IsHandedDown fs es p → (xs ys : List TermId) → ArePaired es xs ys → ((x : TermId) → Has xs x → p x.0 ≡ true) → (j : ℕ) (e : Join) → slice_get es j ≡ Some e → Has (ways es xs ys) j → p e.left ≡ true
  handed_on fs p handed xs ys paired all j e at h =
      let q = of_pair (λ x y. way es x.0 y.0) xs ys j h in
      let same = paired.same q.at q.left q.right q.at_left q.at_right in
      let class : name es e.left ≡ name es q.left.0 =
      sym (whole_log es e.left) ∙ way_class terms es log (length es) (omega arith) q.left.0 q.right.0 j e (whole_log es q.left.0 ∙ same ∙ sym (whole_log es q.right.0)) q.has at ∙ whole_log es q.left.0 in
      handed.classes q.left.0 e.left (sym class) (all q.left (record { at = q.at; is = q.at_left }))

  module _ (fs : List TermShape) (ms : List Merge) (caused : AreCaused fs ms es) where
    -- the arguments of a join by congruence are in one class before it, one by one
    pub record ArePairedBefore (j : ℕ) (xs ys : List TermId) : Type 0 where
      pub long : length xs ≡ length ys
      pub same : (i : ℕ) (x y : TermId) → slice_get xs i ≡ Some x → slice_get ys i ≡ Some y → name (take j es) x.0 ≡ name (take j es) y.0

    pub cause_of : (j : ℕ) (e : Join) → slice_get es j ≡ Some e → e.why ≡ None → AreCongruent fs (take j es) e.left e.right
    cause_of j e at why = subst (IsCause fs ms (take j es) e.left e.right) why (caused.cause j e at)

    -- the merge of a join is one of the merges
    pub merge_inside : (j k : ℕ) (e : Join) → slice_get es j ≡ Some e → e.why ≡ Some k → k < length ms
    merge_inside j k e at why = by k (subst (IsCause fs ms (take j es) e.left e.right) why (caused.cause j e at))
      where
        by : (k : ℕ) → IsMergeOf ms e.left e.right k → k < length ms
        by k c = slice_get_within ms k c.merge c.at

    -- a join by congruence, and its arguments
    pub congruence_of : (j : ℕ) (e : Join) → slice_get es j ≡ Some e → e.why ≡ None → (xs : List TermId) × (ys : List TermId) × IsCongruence fs e xs ys
    congruence_of j e at why = let c = cause_of j e at why in (c.lefts, c.rights, record { function = c.function; why = why; left = c.left; right = c.right })

    pub paired_before : (j : ℕ) (e : Join) → slice_get es j ≡ Some e → (xs ys : List TermId) → IsCongruence fs e xs ys → ArePairedBefore j xs ys
    paired_before j e at xs ys is =
        let c = cause_of j e at is.why in
        let lefts : c.lefts ≡ xs = arguments_are e.left c.function is.function c.lefts xs c.left is.left in
        let rights : c.rights ≡ ys = arguments_are e.right c.function is.function c.rights ys c.right is.right in
        subst (λ us. ArePairedBefore j us ys) lefts (subst (λ us. ArePairedBefore j c.lefts us) rights (record {
          long = maps_length (named (take j es)) c.lefts c.rights c.same;
          same = λ i x y p q. names_of (take j es) x y (maps_at (named (take j es)) c.lefts c.rights c.same i x y p q);
        }))
      where
        arguments_are : (t : ℕ) (f g : Symbol) (us vs : List TermId) → slice_get fs t ≡ Some (AppShape f us) → slice_get fs t ≡ Some (AppShape g vs) → us ≡ vs
        arguments_are t f g us vs p q = let same : AppShape f us ≡ AppShape g vs = one_there fs t (AppShape f us) (AppShape g vs) p q in cc

    pub paired_of : (j : ℕ) (e : Join) → slice_get es j ≡ Some e → (xs ys : List TermId) → IsCongruence fs e xs ys → ArePaired es xs ys
    paired_of j e at xs ys is =
        let p = paired_before j e at xs ys is in
        record { long = p.long; same = λ i x y a c. stays_equal es j x.0 y.0 (p.same i x y a c) }

    -- the ways between them have earlier joins alone
    pub ways_before : (j : ℕ) (e : Join) → slice_get es j ≡ Some e → (xs ys : List TermId) → IsCongruence fs e xs ys → (i : ℕ) → Has (ways es xs ys) i → i < j
    ways_before j e at xs ys is i h =
        let p = paired_before j e at xs ys is in
        let inside : j < length es = slice_get_within es j e at in
        let q = of_pair (λ x y. way es x.0 y.0) xs ys i h in
        let same = p.same q.at q.left q.right q.at_left q.at_right in
        way_below terms es log j (omega (arith, inside)) q.left.0 q.right.0 i same (subst (λ js. Has js i) (way_whole es j q.left.0 q.right.0 (omega (arith, inside)) same) q.has)

    -- ---- what is needed

    module _ (xs ys : List TermId) (paired : ArePaired es xs ys) where
      -- at first the ways between the terms
      pub needed_first : (none marks : List Bool) → ((j : ℕ) → slice_get none j ≡ Some true → ⊥) → Marks (ways es xs ys) none marks → AreNeeded fs es xs ys (length es) marks
      needed_first none marks empty m = record {
        ways = m.marked;
        closed = record { arguments = λ i e l at. absurd (let inside = slice_get_within es i e at in omega (arith, inside, l)) };
        passing = λ p handed all i e at k. ⊎_elim
            (λ h. handed_on fs p handed xs ys paired all i e at h)
            (λ o. absurd (empty i o))
            (m.only i k);
      }

      pub needed_next : (j : ℕ) (e : Join) → slice_get es j ≡ Some e → (old new : List Bool) → AreNeeded fs es xs ys (j + 1) old → MarksJoin fs es j e old new → AreNeeded fs es xs ys j new
      needed_next j e at old new before m = record {
        ways = λ i h. m.marks.kept i (before.ways i h);
        closed = record {
          arguments = λ i d l at_d k us vs is q h. ⊎_elim
              (λ more. absurd (let n = m.no_more i more in let low = ways_before j e at n.1.0 n.1.1 n.1.2 i n.1.3 in omega (arith, low, l)))
              (λ o. ⊎_elim
              (λ same. m.marks.marked q (m.enough (ap (slice_get old) same ∙ o) us vs (subst (λ z. IsCongruence fs z us vs) (one_there es j d e (ap (slice_get es) same ∙ at_d) at) is) q h))
              (λ other. m.marks.kept q (before.closed.arguments i d (omega (arith, l, other)) at_d o us vs is q h))
              (cases_eq j i))
              (m.marks.only i k);
        };
        passing = λ p handed all i d at_d k. ⊎_elim
            (λ more. let n = m.no_more i more in
            let left_passes = before.passing p handed all j e at n.0 in
            handed_on fs p handed n.1.0 n.1.1 (paired_of j e at n.1.0 n.1.1 n.1.2) (λ x h. handed.arguments e.left n.1.2.function n.1.0 n.1.2.left left_passes x h) i d at_d n.1.3)
            (λ o. before.passing p handed all i d at_d o)
            (m.marks.only i k);
      }

      -- the join before
      pub needed_before : (n : ℕ) (old new : List Bool) → 0 < n → n ≤ length es → AreNeeded fs es xs ys n old → ((e : Join) → slice_get es (n - 1) ≡ Some e → MarksJoin fs es (n - 1) e old new) → AreNeeded fs es xs ys (n - 1) new
      needed_before n old new some l before m =
          let here = there es (n - 1) (omega (arith, some, l)) in
          let next : n ≡ (n - 1) + 1 = omega (arith, some) in
          needed_next (n - 1) here.0 here.1 old new (subst (λ i. AreNeeded fs es xs ys i old) next before) (m here.0 here.1)

    -- a join that isn't marked, and one of a merge, need nothing
    marks_nothing : (j : ℕ) (e : Join) (old : List Bool) → (slice_get old j ≡ Some true → (us vs : List TermId) → IsCongruence fs e us vs → ⊥) → MarksJoin fs es j e old old
    marks_nothing j e old none = record {
      joins = [];
      marks = marks_none old;
      enough = λ h us vs is. absurd (none h us vs is);
      no_more = λ i h. absurd (has_none i h);
    }

    pub marks_unmarked : (j : ℕ) (e : Join) (old new : List Bool) → new ≡ old → (slice_get old j ≡ Some true → ⊥) → MarksJoin fs es j e old new
    marks_unmarked j e old new same none = subst (MarksJoin fs es j e old) (sym same) (marks_nothing j e old (λ h us vs is. none h))

    pub marks_merge : (j : ℕ) (e : Join) (old new : List Bool) → new ≡ old → (e.why ≡ None → ⊥) → MarksJoin fs es j e old new
    marks_merge j e old new same none = subst (MarksJoin fs es j e old) (sym same) (marks_nothing j e old (λ h us vs is. none is.why))

    -- a join by congruence needs the ways between its arguments
    pub marks_arguments : (j : ℕ) (e : Join) (xs ys us vs : List TermId) (old new : List Bool) → slice_get old j ≡ Some true → IsCongruence fs e xs ys → us ≡ xs → vs ≡ ys → Marks (ways es us vs) old new → MarksJoin fs es j e old new
    marks_arguments j e xs ys us vs old new marked is lefts rights m = record {
      joins = ways es xs ys;
      marks = subst (λ zs. Marks (ways es zs ys) old new) lefts (subst (λ zs. Marks (ways es us zs) old new) rights m);
      enough = λ h ps qs other i k. subst (λ zs. Has (ways es zs ys) i) (one e.left ps xs other.function is.function other.left is.left) (subst (λ zs. Has (ways es ps zs) i) (one e.right qs ys other.function is.function other.right is.right) k);
      no_more = λ i k. (marked, (xs, ys, is, k));
    }
      where
        one : (t : ℕ) (ps qs : List TermId) (f g : Symbol) → slice_get fs t ≡ Some (AppShape f ps) → slice_get fs t ≡ Some (AppShape g qs) → ps ≡ qs
        one t ps qs f g p q = let same : AppShape f ps ≡ AppShape g qs = one_there fs t (AppShape f ps) (AppShape g qs) p q in cc
