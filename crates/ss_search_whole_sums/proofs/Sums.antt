-- Sums give the same where their facts stand at other places, and their lines close a case.
use Rattle.std.proofs.Common.{◌≡◌, ℕ, zero, suc, ◌+◌, ◌-◌, ◌==◌, ◌<◌, ◌≤◌, ℤ, pos, negsuc, ◌<ℤ◌, List, [], ◌∷◌, ◌++◌, length, get_or, take, map, Bool, true, false, ◌&&◌, ◌||◌, Some, None, option_and_then, refl, sym, ◌∙◌, ap, subst, append_assoc, arith}
use Rattle.std.specs.Prelude.{nat_lt, slice_get, slice_index, if◌then◌else◌}
use Rattle.std.specs.List.{list_any}
use Rattle.std.specs.Int.{is_positive}
use Rattle.std.proofs.lemmas.Bool.{or_left, or_right, and_from, eq-eqb, ltb-true, lt-ltb, false≢true}
use Rattle.std.proofs.lemmas.List.{length-append, map_push, take_more, take_all}
use Rattle.std.proofs.lemmas.List.Folds.{list_any_at, list_any_more}
use Rattle.std.proofs.lemmas.Int.{ints}
use Rattle.ss_core.specs.Tree.{ClassTree}
use Rattle.ss_logic.specs.Formulas.{Formula}
use Rattle.ss_logic.specs.Shapes.{number, at_most}
use Rattle.ss_logic.proofs.Options.{and_then_some, if_some}
use Rattle.ss_logic_means.specs.Sorts.{AreWellFormed}
use Rattle.ss_logic_means.proofs.Sorting.{more_formed}
use Rattle.ss_logic.specs.Sums.{LinearSum, number_sum, sum_fact_of, add_weighted, weighted, bounded, sum_of}
use Rattle.ss_logic_means.specs.Steps as tree
use Rattle.ss_logic_means.specs.Steps.{is_absurd, is_opposed, is_clash}
use Rattle.ss_logic_means.proofs.Summing.{sum_formed}
use Rattle.ss_linear_rules.specs.Two.{IsFalse, Refute}
use Rattle.ss_terms.specs.Forms.{Forms}
use Rattle.ss_deriv.specs.declared.line.Line.{Line}
use Rattle.ss_deriv.specs.declared.line.Line.TheVariants as line
use Rattle.ss_deriv.specs.declared.line.Sum.{Sum}
use Rattle.ss_deriv.specs.Lines.{line_of, lines_of}
use Rattle.ss_linear.specs.Contradictions.{summed, sums_of}
use Rattle.ss_search_clashes.specs.Closing.{Closes}
use Rattle.ss_search_clashes.proofs.Closing.{closes_fact, closes_clash}
use Rattle.ss_search_clashes.proofs.Leading.{at_front, at_end}
use Rattle.ss_search_whole_sums.specs.Summing.{Sums, uses, moved, moved_part, sum_line, StandAt, CloseBySums}

-- ---- places

pub in_front : {A : Type 0} (xs ys : List A) (i : ℕ) (x : A) → i < length xs → slice_get (xs ++ ys) i ≡ Some x → slice_get xs i ≡ Some x
in_front [] ys i x l e = absurd (omega (arith, l))
in_front (z ∷ xs) ys zero x l e = e
in_front (z ∷ xs) ys (suc i) x l e = in_front xs ys i x (omega (arith, l)) e

in_back : {A : Type 0} (xs ys : List A) (i k : ℕ) (x : A) → i ≡ length xs + k → slice_get (xs ++ ys) i ≡ Some x → slice_get ys k ≡ Some x
in_back [] ys i k x is e = let same : i ≡ k = omega (arith, is) in subst (λ (n : ℕ). slice_get ys n ≡ Some x) same e
in_back (z ∷ xs) ys zero k x is e = absurd (omega (arith, is))
in_back (z ∷ xs) ys (suc i) k x is e = in_back xs ys i k x (omega (arith, is)) e

at_back : {A : Type 0} (xs ys : List A) (i k : ℕ) (x : A) → i ≡ length xs + k → slice_get ys k ≡ Some x → slice_get (xs ++ ys) i ≡ Some x
at_back [] ys i k x is e = let same : k ≡ i = omega (arith, is) in subst (λ (n : ℕ). slice_get ys n ≡ Some x) same e
at_back (z ∷ xs) ys zero k x is e = absurd (omega (arith, is))
at_back (z ∷ xs) ys (suc i) k x is e = at_back xs ys i k x (omega (arith, is)) e

not_below : (a b : ℕ) → nat_lt a b ≡ false → b ≤ a
not_below a b e = let no : (a < b → ⊥) = λ l. false≢true (sym e ∙ lt-ltb a b l) in omega (arith, no)

-- ---- what is false

below_zero : (k : ℤ) → k <ℤ pos 0 → is_absurd (at_most (number (pos 0)) (number k)) ≡ true
below_zero (pos n) l = absurd (omega (arith, ints, l))
below_zero (negsuc n) l = refl

false_is_absurd : (f : Formula) → IsFalse f → is_absurd f ≡ true
false_is_absurd f h = ap is_absurd h.1 ∙ below_zero h.0 h.2

false_clashes : (known : List Formula) (q : ℕ) (f : Formula) → slice_get known q ≡ Some f → IsFalse f → is_clash q q (slice_get known q) (slice_get known q) ≡ true
false_clashes known q f at h =
    ap (λ o. is_clash q q o o) at
    ∙ or_right (is_opposed f f) (q == q && is_absurd f) (and_from (q == q) (is_absurd f) (eq-eqb q q refl) (false_is_absurd f h))

module _ (cs : List ClassTree) (facts known : List Formula) (places : List ℕ) (count : ℕ) (many : length known ≡ count) (long : length places ≡ length facts) where
  -- ---- the same sums

  -- a fact stands at its place
  abbrev Stands : ℕ → Type 0
  Stands i = (f : Formula) → slice_get facts i ≡ Some f → slice_get known (slice_index places i) ≡ Some f

  found : (rs : List Formula) (i : ℕ) (f : Formula) → Stands i → slice_get (facts ++ rs) i ≡ Some f → slice_get (known ++ rs) (moved places count i) ≡ Some f
  found rs i f at e = by (nat_lt i (length places)) refl
    where
      by : (v : Bool) → nat_lt i (length places) ≡ v → slice_get (known ++ rs) (if v then slice_index places i else count + (i - length places)) ≡ Some f
      by true l =
          let below : i < length places = ltb-true i (length places) l in
          at_front known rs (slice_index places i) f (at f (in_front facts rs i f (omega (arith, below, long)) e))
      by false l =
          let past : length places ≤ i = not_below i (length places) l in
          at_back known rs (count + (i - length places)) (i - length places) f (omega (arith, many))
          (in_back facts rs i (i - length places) f (omega (arith, past, long)) e)

  abbrev part : ℕ × ℤ → ℕ × ℤ
  part p = moved_part places count p

  weighted_same : (rs : List Formula) (a : LinearSum) (ps : List (ℕ × ℤ)) (b : LinearSum) → ((i : ℕ) → list_any (λ p. p.0 == i) ps ≡ true → Stands i) → weighted cs (facts ++ rs) a ps ≡ Some b → weighted cs (known ++ rs) a (map part ps) ≡ Some b
  weighted_same rs a [] b at e = e
  weighted_same rs a (p ∷ ps) b at e =
      let q = and_then_some (λ fact. option_and_then (λ c. weighted cs (facts ++ rs) c ps) (add_weighted p.1 a fact)) (option_and_then (sum_fact_of cs) (slice_get (facts ++ rs) p.0)) b e in
      let f = and_then_some (sum_fact_of cs) (slice_get (facts ++ rs) p.0) q.0 q.1 in
      let c = and_then_some (λ c. weighted cs (facts ++ rs) c ps) (add_weighted p.1 a q.0) b q.2 in
      let here : list_any (λ x. x.0 == p.0) (p ∷ ps) ≡ true = or_left (p.0 == p.0) (list_any (λ x. x.0 == p.0) ps) (eq-eqb p.0 p.0 refl) in
      ap (λ o. option_and_then (λ fact. option_and_then (λ s. weighted cs (known ++ rs) s (map part ps)) (add_weighted p.1 a fact)) (option_and_then (sum_fact_of cs) o)) (found rs p.0 f.0 (at p.0 here) f.1)
      ∙ ap (option_and_then (λ fact. option_and_then (λ s. weighted cs (known ++ rs) s (map part ps)) (add_weighted p.1 a fact))) f.2
      ∙ ap (option_and_then (λ s. weighted cs (known ++ rs) s (map part ps))) c.1
      ∙ weighted_same rs c.0 ps b (λ i u. at i (or_right (p.0 == i) (list_any (λ x. x.0 == i) ps) u)) c.2

  sum_same : (rs : List Formula) (d : ℤ) (ps : List (ℕ × ℤ)) (f : Formula) → ((i : ℕ) → list_any (λ p. p.0 == i) ps ≡ true → Stands i) → sum_of cs (facts ++ rs) d ps ≡ Some f → sum_of cs (known ++ rs) d (map part ps) ≡ Some f
  sum_same rs d ps f at e =
      let p = if_some (is_positive d) (option_and_then (bounded d) (weighted cs (facts ++ rs) (number_sum (pos 0)) ps)) f e in
      let q = and_then_some (bounded d) (weighted cs (facts ++ rs) (number_sum (pos 0)) ps) f p.1 in
      ap (λ t. if t then option_and_then (bounded d) (weighted cs (known ++ rs) (number_sum (pos 0)) (map part ps)) else None) p.0
      ∙ ap (option_and_then (bounded d)) (weighted_same rs (number_sum (pos 0)) ps q.0 at q.1)
      ∙ q.2

  -- ---- the lines

  module _ (premises : List Formula) (goal : Formula) (formed : AreWellFormed cs [] facts) where
    -- the lines of these sums, and the clash
    abbrev all_lines : Sums → ℕ → List tree.Line
    all_lines ss q = map (sum_line places count) ss ++ tree.Clash q q ∷ []

    one_more : (rs : List Formula) (s : ℤ × List (ℕ × ℤ)) (f : Formula) (lines : List tree.Line) → AreWellFormed cs [] rs → ((i : ℕ) → list_any (λ p. p.0 == i) s.1 ≡ true → Stands i) → sum_of cs (facts ++ rs) s.0 s.1 ≡ Some f →
        Closes cs premises goal ((known ++ rs) ++ f ∷ []) lines → Closes cs premises goal (known ++ rs) (sum_line places count s ∷ lines)
    one_more rs s f lines well at e c =
        closes_fact cs premises goal (known ++ rs) (sum_line places count s) f lines (sum_same rs s.0 s.1 f at e)
        (sum_formed cs (facts ++ rs) s.0 s.1 f (more_formed cs [] facts rs formed well) e) c

    closed : (s : ℤ × List (ℕ × ℤ)) (ss : Sums) (rs : List Formula) (q : ℕ) → AreWellFormed cs [] rs → ((i : ℕ) → uses (s ∷ ss) i ≡ true → Stands i) → q ≡ count + (length rs + length ss) → Refute cs (facts ++ rs) (s ∷ ss) →
        Closes cs premises goal (known ++ rs) (all_lines (s ∷ ss) q)
    closed s [] rs q well at is h =
        let last : length (known ++ rs) ≡ q = let l = length-append known rs in omega (arith, l, many, is) in
        one_more rs s h.0 (tree.Clash q q ∷ []) well (λ i u. at i (or_left (list_any (λ p. p.0 == i) s.1) false u)) h.1
        (closes_clash cs premises goal ((known ++ rs) ++ h.0 ∷ []) q q
        (false_clashes ((known ++ rs) ++ h.0 ∷ []) q h.0 (subst (λ (n : ℕ). slice_get ((known ++ rs) ++ h.0 ∷ []) n ≡ Some h.0) last (at_end (known ++ rs) h.0)) h.2))
    closed s (r ∷ ss) rs q well at is h =
        let next : q ≡ count + (length (rs ++ h.0 ∷ []) + length ss) = let l = length-append rs (h.0 ∷ []) in omega (arith, l, is) in
        let formed_next = sum_formed cs (facts ++ rs) s.0 s.1 h.0 (more_formed cs [] facts rs formed well) h.1 in
        one_more rs s h.0 (all_lines (r ∷ ss) q) well (λ i u. at i (or_left (list_any (λ p. p.0 == i) s.1) (uses (r ∷ ss) i) u)) h.1
        (subst (λ (ks : List Formula). Closes cs premises goal ks (all_lines (r ∷ ss) q)) (sym (append_assoc known rs (h.0 ∷ [])))
        (closed r ss (rs ++ h.0 ∷ []) q (more_formed cs [] rs (h.0 ∷ []) well (formed_next, tt)) (λ i u. at i (or_right (list_any (λ p. p.0 == i) s.1) (uses (r ∷ ss) i) u)) next
        (subst (λ (ks : List Formula). Refute cs ks (r ∷ ss)) (append_assoc facts rs (h.0 ∷ [])) h.2)))

none_after : {A : Type 0} (xs : List A) → xs ++ [] ≡ xs
none_after [] = refl
none_after (x ∷ xs) = ap (λ ys. x ∷ ys) (none_after xs)

closed_all : (cs : List ClassTree) (premises : List Formula) (goal : Formula) (facts known : List Formula) (places : List ℕ) (count : ℕ) (ss : Sums) (q : ℕ) → length known ≡ count → StandAt known facts places ss → AreWellFormed cs [] facts → q ≡ count + (length ss - 1) → Refute cs facts ss →
    Closes cs premises goal known (map (sum_line places count) ss ++ tree.Clash q q ∷ [])
closed_all cs premises goal facts known places count [] q many at formed is h = absurd h
closed_all cs premises goal facts known places count (s ∷ ss) q many at formed is h =
    subst (λ (ks : List Formula). Closes cs premises goal ks (map (sum_line places count) (s ∷ ss) ++ tree.Clash q q ∷ [])) (none_after known)
    (closed cs facts known places count many at.long premises goal formed s ss [] q tt (λ i u f e. at.at i f u e) (omega (arith, is))
    (subst (λ (ks : List Formula). Refute cs ks (s ∷ ss)) (sym (none_after facts)) h))

length_sums : (sums : List Sum) → length (sums_of sums) ≡ length sums
length_sums [] = refl
length_sums (s ∷ sums) = ap suc (length_sums sums)

pub sums_close : (places : List ℕ) (count : ℕ) (sums : List Sum) (old new : List Line) (last : ℕ) → ((b : Forms) → lines_of b old ≡ map (sum_line places count) (sums_of sums)) → new ≡ old ++ line.Clash last last ∷ [] → last ≡ count + (length sums - 1) → CloseBySums places count (sums_of sums) new
sums_close places count sums old new last lines is place = record {
  closes = λ b cs premises goal known facts many at formed h.
      let all : lines_of b new ≡ map (sum_line places count) (sums_of sums) ++ tree.Clash last last ∷ [] =
      ap (lines_of b) is ∙ map_push (line_of b) old (line.Clash last last) ∙ ap (λ ls. ls ++ tree.Clash last last ∷ []) (lines b) in
      subst (λ (ls : List tree.Line). Closes cs premises goal known ls) (sym all)
      (closed_all cs premises goal facts known places count (sums_of sums) last many at formed (place ∙ ap (λ n. count + (n - 1)) (sym (length_sums sums))) h);
}

-- ---- which places are used

abbrev has : ℕ → Sum → Bool
has place s = list_any (λ p. p.0 == place) s.parts.items

pub uses_is : (sums : List Sum) (place : ℕ) → uses (sums_of sums) place ≡ list_any (has place) sums
uses_is [] place = refl
uses_is (s ∷ sums) place = ap (λ v. has place s || v) (uses_is sums place)

pub uses_here : (sums : List Sum) (place i : ℕ) (d : Sum) (found : Bool) → i < length sums → found ≡ has place (get_or sums i d) → found ≡ true → true ≡ uses (sums_of sums) place
uses_here sums place i d found l is e = sym (uses_is sums place ∙ list_any_at (has place) sums i d l (sym is ∙ e))

pub uses_more : (sums : List Sum) (place i : ℕ) (d : Sum) (found : Bool) → i < length sums → list_any (has place) (take i sums) ≡ false → found ≡ has place (get_or sums i d) → found ≡ false → list_any (has place) (take (i + 1) sums) ≡ false
uses_more sums place i d found l h is e = list_any_more (has place) sums i d l ∙ ap (λ v. v || has place (get_or sums i d)) h ∙ sym is ∙ e

pub uses_none : (sums : List Sum) (place i : ℕ) → length sums ≤ i → list_any (has place) (take i sums) ≡ false → false ≡ uses (sums_of sums) place
uses_none sums place i l h = sym (uses_is sums place ∙ ap (list_any (has place)) (sym (take_all i sums l)) ∙ h)

-- ---- one line more

pub line_more : (b : Forms) (places : List ℕ) (count : ℕ) (sums : List Sum) (i : ℕ) (d : Sum) (old new : List Line) (l : Line) → i < length sums → lines_of b old ≡ map (sum_line places count) (sums_of (take i sums)) → new ≡ old ++ l ∷ [] → line_of b l ≡ sum_line places count (summed (get_or sums i d)) →
    lines_of b new ≡ map (sum_line places count) (sums_of (take (i + 1) sums))
line_more b places count sums i d old new l at h is e =
    ap (lines_of b) is ∙ map_push (line_of b) old l
    ∙ ap (λ ls. ls ++ line_of b l ∷ []) h
    ∙ ap (λ x. map (sum_line places count) (sums_of (take i sums)) ++ x ∷ []) e
    ∙ sym (ap (λ ss. map (sum_line places count) (sums_of ss)) (take_more sums i d at) ∙ ap (map (sum_line places count)) (map_push summed (take i sums) (get_or sums i d)) ∙ map_push (sum_line places count) (sums_of (take i sums)) (summed (get_or sums i d)))

pub line_all : (b : Forms) (places : List ℕ) (count : ℕ) (sums : List Sum) (i : ℕ) (lines : List Line) → length sums ≤ i → lines_of b lines ≡ map (sum_line places count) (sums_of (take i sums)) → lines_of b lines ≡ map (sum_line places count) (sums_of sums)
line_all b places count sums i lines l h = h ∙ ap (λ ss. map (sum_line places count) (sums_of ss)) (take_all i sums l)
