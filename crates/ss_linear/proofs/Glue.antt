-- What is read of facts.
use Rattle.std.proofs.Common.{◌≡◌, ℕ, zero, suc, ◌+◌, ◌<◌, ◌≤◌, ℤ, pos, negsuc, ◌+ℤ◌, ◌-ℤ◌, ◌*ℤ◌, List, [], ◌∷◌, ◌++◌, length, get_or, take, map, Bool, true, false, ◌&&◌, ◌||◌, Option, Some, None, refl, sym, ◌∙◌, ap, subst, append_assoc, arith}
use Rattle.std.specs.Prelude.{if◌then◌else◌, IfSome}
use Rattle.std.specs.List.{All}
use Rattle.std.proofs.lemmas.Int.{ints}
use Rattle.std.proofs.lemmas.List.{take_more}
use Rattle.std.proofs.lemmas.List.Elements.{All-append}
use borrow.Author.Differences.{product_is}
use Rattle.ss_core.specs.Tree.{ClassTree}
use Rattle.ss_logic.specs.Terms.{Term}
use Rattle.ss_logic.specs.Formulas.{Formula}
use Rattle.ss_logic.specs.Equal.{same_term}
use Rattle.ss_logic.specs.Sums as sums
use Rattle.ss_logic.specs.Sums.{is_zero, sum_fact_of}
use Rattle.ss_logic.proofs.NumbersInSums.{zero_is}
use Rattle.ss_terms.specs.declared.forms.FormulaId.{FormulaId}
use Rattle.ss_terms.specs.declared.forms.TermId.{TermId}
use Rattle.ss_terms.specs.Forms.{Forms, term_at, formula_at, formulas_at, HasTerm, HasFormula, HasFormulas, AreBelow}
use Rattle.ss_linear_sums.specs.declared.forms.Part.{Part}
use Rattle.ss_linear_sums.specs.declared.forms.SumFact.{SumFact}
use Rattle.ss_linear_sums.specs.Linear as linear
use Rattle.ss_linear_sums.specs.Linear.{HasParts, IsFactOf}
use Rattle.ss_linear_rules.specs.Two.{is_one, is_less_one, parts_left, are_opposite, is_difference, fact_at}
use Rattle.ss_linear_rules.specs.Few.{AreZero, one_at}
use Rattle.ss_linear_rules.specs.Valued.{parts_at}
use Rattle.ss_linear_rules.specs.Nodes.{end_value}
use Rattle.ss_linear.specs.Contradictions.{equality_at, equalities_at, HasPairs, HaveParts, AreEnds}
use Rattle.ss_linear.specs.Results.{AreFacts}
use Rattle.ss_linear.specs.declared.ends.Ends.{Ends}

pub mapped_more : {A B : Type 0} (f : A → B) (xs : List A) (i : ℕ) (d : A) → i < length xs → map f (take (i + 1) xs) ≡ map f (take i xs) ++ f (get_or xs i d) ∷ []
mapped_more f xs i d l = ap (map f) (take_more xs i d l) ∙ pushed f (take i xs) (get_or xs i d)
  where
    pushed : {A B : Type 0} (f : A → B) (xs : List A) (x : A) → map f (xs ++ x ∷ []) ≡ map f xs ++ f x ∷ []
    pushed f [] x = refl
    pushed f (y ∷ xs) x = ap (λ r. f y ∷ r) (pushed f xs x)

pub empty_is : {A : Type 0} (xs : List A) → length xs < 1 → xs ≡ []
empty_is [] l = refl
empty_is (x ∷ xs) l = absurd (omega arith)

-- ---- facts

pub facts_pushed : (cs : List ClassTree) (b : Forms) (known : List Formula) (vs ws : List (Option SumFact)) (f : Formula) (v : Option SumFact) → ws ≡ vs ++ v ∷ [] → AreFacts cs b known vs → IsFactOf b v (sum_fact_of cs f) → AreFacts cs b (known ++ f ∷ []) ws
facts_pushed cs b known vs ws f v is h k = subst (λ (xs : List (Option SumFact)). AreFacts cs b (known ++ f ∷ []) xs) (sym is) (pushed known vs h)
  where
    pushed : (known : List Formula) (vs : List (Option SumFact)) → AreFacts cs b known vs → AreFacts cs b (known ++ f ∷ []) (vs ++ v ∷ [])
    pushed [] [] h = (k, tt)
    pushed [] (v ∷ vs) h = absurd h
    pushed (f ∷ known) [] h = absurd h
    pushed (f ∷ known) (v ∷ vs) h = (h.0, pushed known vs h.1)

pub read_more : (cs : List ClassTree) (b : Forms) (fs : List FormulaId) (i : ℕ) (d : FormulaId) (vs ws : List (Option SumFact)) (v : Option SumFact) → i < length fs → ws ≡ vs ++ v ∷ [] → AreFacts cs b (formulas_at b (take i fs)) vs → IsFactOf b v (sum_fact_of cs (formula_at b (get_or fs i d))) → AreFacts cs b (formulas_at b (take (i + 1) fs)) ws
read_more cs b fs i d vs ws v l is h k =
    subst (λ (gs : List Formula). AreFacts cs b gs ws) (sym (mapped_more (formula_at b) fs i d l)) (facts_pushed cs b (formulas_at b (take i fs)) vs ws (formula_at b (get_or fs i d)) v is h k)

pub equal_more : (cs : List ClassTree) (b : Forms) (known : List Formula) (es : List (TermId × TermId)) (i : ℕ) (d : TermId × TermId) (vs ws : List (Option SumFact)) (v : Option SumFact) → i < length es → ws ≡ vs ++ v ∷ [] → AreFacts cs b (known ++ equalities_at b (take i es)) vs → IsFactOf b v (sum_fact_of cs (equality_at b (get_or es i d))) → AreFacts cs b (known ++ equalities_at b (take (i + 1) es)) ws
equal_more cs b known es i d vs ws v l is h k =
    subst (λ (gs : List Formula). AreFacts cs b gs ws)
    (append_assoc known (equalities_at b (take i es)) (equality_at b (get_or es i d) ∷ []) ∙ ap (λ r. known ++ r) (sym (mapped_more (equality_at b) es i d l)))
    (facts_pushed cs b (known ++ equalities_at b (take i es)) vs ws (equality_at b (get_or es i d)) v is h k)

-- the bank has the terms of each pair
pub has_pair : (b : Forms) (es : List (TermId × TermId)) (i : ℕ) (d : TermId × TermId) → HasPairs b es → i < length es → HasTerm b (get_or es i d).0 × HasTerm b (get_or es i d).1
has_pair b [] i d h l = absurd (omega arith)
has_pair b (e ∷ es) zero d h l = h.0
has_pair b (e ∷ es) (suc i) d h l = has_pair b es i d h.1 (omega arith)

all_one : {X : Type 0} (P : X → Type 0) (x : X) → P x → All P (x ∷ [])
all_one P x h zero d l = h
all_one P x h (suc k) d l = absurd (omega arith)

pub have_more : (b : Forms) (vs ws : List (Option SumFact)) (v : Option SumFact) → ws ≡ vs ++ v ∷ [] → HaveParts b vs → IfSome v (λ f. HasParts b f.sum.parts.items) → HaveParts b ws
have_more b vs ws v is h k =
    let P : Option SumFact → Type 0 = λ o. IfSome o (λ f. HasParts b f.sum.parts.items) in
    subst (λ (xs : List (Option SumFact)). HaveParts b xs) (sym is) (All-append P vs (v ∷ []) h (all_one P v k))

have_formula : (n : ℕ) (fs : List FormulaId) (i : ℕ) (d : FormulaId) → AreBelow n fs → i < length fs → (get_or fs i d).0 < n
have_formula n [] i d h l = absurd (omega arith)
have_formula n (f ∷ fs) zero d h l = h.0
have_formula n (f ∷ fs) (suc i) d h l = have_formula n fs i d h.1 (omega arith)

pub has_formula_at : (b : Forms) (fs : List FormulaId) (i : ℕ) (d : FormulaId) → HasFormulas b fs → i < length fs → HasFormula b (get_or fs i d)
has_formula_at b fs i d h l = have_formula _ fs i d h l

-- what is read at a place is what the known formula there says
pub fact_read : (cs : List ClassTree) (b : Forms) (known : List Formula) (vs : List (Option SumFact)) (i : ℕ) (d : Option SumFact) → AreFacts cs b known vs → i < length vs → IsFactOf b (get_or vs i d) (fact_at cs known i)
fact_read cs b [] [] i d h l = absurd (omega arith)
fact_read cs b [] (v ∷ vs) i d h l = absurd h
fact_read cs b (f ∷ known) [] i d h l = absurd h
fact_read cs b (f ∷ known) (v ∷ vs) zero d h l = h.0
fact_read cs b (f ∷ known) (v ∷ vs) (suc i) d h l = fact_read cs b known vs i d h.1 (omega arith)

-- past those there is none
pub fact_past : (cs : List ClassTree) (b : Forms) (known : List Formula) (vs : List (Option SumFact)) (i : ℕ) → AreFacts cs b known vs → length vs ≤ i → fact_at cs known i ≡ None
fact_past cs b [] [] i h l = refl
fact_past cs b [] (v ∷ vs) i h l = absurd h
fact_past cs b (f ∷ known) [] i h l = absurd h
fact_past cs b (f ∷ known) (v ∷ vs) zero h l = absurd (omega arith)
fact_past cs b (f ∷ known) (v ∷ vs) (suc i) h l = fact_past cs b known vs i h.1 (omega arith)

pub facts_length : (cs : List ClassTree) (b : Forms) (known : List Formula) (vs : List (Option SumFact)) → AreFacts cs b known vs → length vs ≡ length known
facts_length cs b [] [] h = refl
facts_length cs b [] (v ∷ vs) h = absurd h
facts_length cs b (f ∷ known) [] h = absurd h
facts_length cs b (f ∷ known) (v ∷ vs) h = ap suc (facts_length cs b known vs h.1)

-- ---- parts

pub have_part : (b : Forms) (ps : List Part) (i : ℕ) (d : Part) → HasParts b ps → i < length ps → HasParts b (get_or ps i d ∷ [])
have_part b [] i d h l = absurd (omega arith)
have_part b (p ∷ ps) zero d h l = (h.0, tt)
have_part b (p ∷ ps) (suc i) d h l = have_part b ps i d h.1 (omega arith)

left_pushed : (xs : List (Term × ℤ)) (p : Term × ℤ) → parts_left (xs ++ p ∷ []) ≡ parts_left xs ++ parts_left (p ∷ [])
left_pushed [] p = refl
left_pushed (x ∷ xs) p = by_test (is_zero x.1) (left_pushed xs p)
  where
    by_test : (c : Bool) → parts_left (xs ++ p ∷ []) ≡ parts_left xs ++ parts_left (p ∷ []) → (if c then parts_left (xs ++ p ∷ []) else x ∷ parts_left (xs ++ p ∷ [])) ≡ (if c then parts_left xs else x ∷ parts_left xs) ++ parts_left (p ∷ [])
    by_test true h = h
    by_test false h = ap (λ r. x ∷ r) h

pub left_more : (b : Forms) (ps : List Part) (i : ℕ) (d : Part) (old new : List Part) → i < length ps → linear.parts_at b old ≡ parts_left (linear.parts_at b (take i ps)) → linear.parts_at b new ≡ linear.parts_at b old ++ parts_left (linear.parts_at b (get_or ps i d ∷ [])) → linear.parts_at b new ≡ parts_left (linear.parts_at b (take (i + 1) ps))
left_more b ps i d old new l h k =
    k ∙ ap (λ r. r ++ parts_left (linear.parts_at b (get_or ps i d ∷ []))) h
    ∙ sym (ap parts_left (mapped_more (linear.part_at b) ps i d l) ∙ left_pushed (linear.parts_at b (take i ps)) (linear.part_at b (get_or ps i d)))

value_pushed : (v : Term → ℤ) (xs : List (Term × ℤ)) (p : Term × ℤ) → parts_at v (xs ++ p ∷ []) ≡ parts_at v xs +ℤ parts_at v (p ∷ [])
value_pushed v [] p = omega (arith, ints)
value_pushed v (x ∷ xs) p = let h = value_pushed v xs p in omega (arith, ints)

pub value_more : (b : Forms) (v : Term → ℤ) (ps : List Part) (i : ℕ) (d : Part) (old new : ℤ) → i < length ps → old ≡ parts_at v (linear.parts_at b (take i ps)) → new ≡ old +ℤ parts_at v (linear.parts_at b (get_or ps i d ∷ [])) → new ≡ parts_at v (linear.parts_at b (take (i + 1) ps))
value_more b v ps i d old new l h k =
    let e : parts_at v (linear.parts_at b (take (i + 1) ps)) ≡ parts_at v (linear.parts_at b (take i ps)) +ℤ parts_at v (linear.parts_at b (get_or ps i d ∷ [])) = ap (parts_at v) (mapped_more (linear.part_at b) ps i d l) ∙ value_pushed v (linear.parts_at b (take i ps)) (linear.part_at b (get_or ps i d)) in
    omega (arith, ints)

-- what a part comes to is added
pub part_value : (b : Forms) (v : Term → ℤ) (p : Part) (r : Option ℤ) (sum number : ℤ) → number ≡ v (term_at b p.term) → IfSome r (λ z. z ≡ sum +ℤ (p.coefficient *ℤ number)) → IfSome r (λ z. z ≡ sum +ℤ parts_at v (linear.parts_at b (p ∷ [])))
part_value b v p None sum number e h = tt
part_value b v p (Some z) sum number e h =
    let k : z ≡ sum +ℤ (p.coefficient *ℤ v (term_at b p.term)) = h ∙ ap (λ x. sum +ℤ (p.coefficient *ℤ x)) e in
    let all : z ≡ sum +ℤ ((p.coefficient *ℤ v (term_at b p.term)) +ℤ pos 0) = omega (arith, ints) in
    all

zero_pushed : (xs : List (Term × ℤ)) (p : Term × ℤ) → AreZero xs → is_zero p.1 ≡ true → AreZero (xs ++ p ∷ [])
zero_pushed [] p h z = (z, tt)
zero_pushed (x ∷ xs) p h z = (h.0, zero_pushed xs p h.1 z)

pub zero_more : (b : Forms) (ps : List Part) (i : ℕ) (d : Part) → i < length ps → AreZero (linear.parts_at b (take i ps)) → is_zero (get_or ps i d).coefficient ≡ true → AreZero (linear.parts_at b (take (i + 1) ps))
zero_more b ps i d l h z =
    subst (λ (qs : List (Term × ℤ)). AreZero qs) (sym (mapped_more (linear.part_at b) ps i d l)) (zero_pushed (linear.parts_at b (take i ps)) (linear.part_at b (get_or ps i d)) h z)

pub zero_there : (b : Forms) (ps : List Part) (i : ℕ) (d : Part) → i < length ps → AreZero (linear.parts_at b ps) → is_zero (get_or ps i d).coefficient ≡ true
zero_there b [] i d l h = absurd (omega arith)
zero_there b (p ∷ ps) zero d l h = h.0
zero_there b (p ∷ ps) (suc i) d l h = zero_there b ps i d (omega arith) h.1

pub left_value : (v : Term → ℤ) (ps : List (Term × ℤ)) → parts_at v (parts_left ps) ≡ parts_at v ps
left_value v [] = refl
left_value v (p ∷ ps) = by_test (is_zero p.1) refl (left_value v ps)
  where
    by_test : (c : Bool) → is_zero p.1 ≡ c → parts_at v (parts_left ps) ≡ parts_at v ps → parts_at v (if c then parts_left ps else p ∷ parts_left ps) ≡ (p.1 *ℤ v p.0) +ℤ parts_at v ps
    by_test true e h =
        let z : p.1 *ℤ v p.0 ≡ pos 0 = ap (λ y. y *ℤ v p.0) (zero_is p.1 e) ∙ omega (arith, ints, product_is (pos 0) (v p.0)) in
        omega (arith, ints)
    by_test false e h = ap (λ r. (p.1 *ℤ v p.0) +ℤ r) h

-- the value of a part at a term
pub own_part : (b : Forms) (p : Part) (t : Term) → same_term (term_at b p.term) t ≡ true → parts_at (one_at t) (linear.parts_at b (p ∷ [])) ≡ p.coefficient
own_part b p t e = ap (λ c. (p.coefficient *ℤ (if c then pos 1 else pos 0)) +ℤ pos 0) e ∙ omega (arith, ints, product_is p.coefficient (pos 1))

pub other_part : (b : Forms) (p : Part) (t : Term) → same_term (term_at b p.term) t ≡ false → parts_at (one_at t) (linear.parts_at b (p ∷ [])) ≡ pos 0
other_part b p t e = ap (λ c. (p.coefficient *ℤ (if c then pos 1 else pos 0)) +ℤ pos 0) e ∙ omega (arith, ints, product_is p.coefficient (pos 0))

-- ---- differences

pub plus_value : (v : Term → ℤ) (t : Term) (z : ℤ) → z ≡ pos 1 → parts_at v ((t, z) ∷ []) ≡ end_value v (Some t) -ℤ end_value v None
plus_value v t z e = ap (λ y. (y *ℤ v t) +ℤ pos 0) e ∙ omega (arith, ints, product_is (pos 1) (v t))

pub minus_value : (v : Term → ℤ) (t : Term) (z : ℤ) → z ≡ negsuc 0 → parts_at v ((t, z) ∷ []) ≡ end_value v None -ℤ end_value v (Some t)
minus_value v t z e = ap (λ y. (y *ℤ v t) +ℤ pos 0) e ∙ omega (arith, ints, product_is (negsuc 0) (v t))

pub two_value : (v : Term → ℤ) (t u : Term) (y z : ℤ) → y ≡ pos 1 → z ≡ negsuc 0 → parts_at v ((t, y) ∷ (u, z) ∷ []) ≡ v t -ℤ v u
two_value v t u y z e f = ap (λ x. (x *ℤ v t) +ℤ ((z *ℤ v u) +ℤ pos 0)) e ∙ ap (λ x. (pos 1 *ℤ v t) +ℤ ((x *ℤ v u) +ℤ pos 0)) f ∙ omega (arith, ints, product_is (pos 1) (v t), product_is (negsuc 0) (v u))

or_right : (a b : Bool) → b ≡ true → (a || b) ≡ true
or_right true b e = refl
or_right false b e = e

and_turned : (a b : Bool) → (a && b) ≡ true → (b && a) ≡ true
and_turned true true h = refl
and_turned true false h = h
and_turned false b h = let no : ⊥ = cc in absurd no

-- two parts in the other order
pub flipped : (b : Forms) (p q : Part) (r : Option Ends) → IfSome r (λ e. ((is_one q.coefficient && is_less_one p.coefficient) ≡ true) × AreEnds b (linear.parts_at b (q ∷ p ∷ [])) e) → IfSome r (λ e. (are_opposite (linear.parts_at b (p ∷ q ∷ [])) ≡ true) × AreEnds b (linear.parts_at b (p ∷ q ∷ [])) e)
flipped b p q None h = tt
flipped b p q (Some e) h = (
  or_right (is_one p.coefficient && is_less_one q.coefficient) (is_less_one p.coefficient && is_one q.coefficient) (and_turned (is_one q.coefficient) (is_less_one p.coefficient) h.0),
  record {
    plus = h.1.plus;
    minus = h.1.minus;
    value = λ v. let e = h.1.value v in omega (arith, ints);
  },
)

-- the ends of the parts that count are those of all
pub ends_left : (b : Forms) (ps : List Part) (e : Ends) → AreEnds b (parts_left (linear.parts_at b ps)) e → AreEnds b (linear.parts_at b ps) e
ends_left b ps e h = record { plus = h.plus; minus = h.minus; value = λ v. sym (left_value v (linear.parts_at b ps)) ∙ h.value v }

pub both_true : (a b : Bool) → a ≡ true → b ≡ true → (a && b) ≡ true
both_true true b e f = f
both_true false b e f = e

pub first_false : (a b : Bool) → a ≡ false → (a && b) ≡ false
first_false true b e = let no : ⊥ = cc in absurd no
first_false false b e = refl

pub second_false : (a b : Bool) → b ≡ false → (a && b) ≡ false
second_false true b e = e
second_false false b e = refl

pub parts_pushed : (b : Forms) (xs : List Part) (p : Part) → HasParts b xs → HasParts b (p ∷ []) → HasParts b (xs ++ p ∷ [])
parts_pushed b [] p h k = k
parts_pushed b (x ∷ xs) p h k = (h.0, parts_pushed b xs p h.1 k)

pub and_right : (a b : Bool) → (a && b) ≡ true → b ≡ true
and_right true b h = h
and_right false b h = let no : ⊥ = cc in absurd no

pub some_ends : (b : Forms) (r : Option Ends) (all left : List Part) (small : Bool) → small ≡ true → linear.parts_at b left ≡ parts_left (linear.parts_at b all) → IfSome r (λ e. (are_opposite (linear.parts_at b left) ≡ true) × AreEnds b (linear.parts_at b left) e) → IfSome r (λ e. ((are_opposite (parts_left (linear.parts_at b all)) && small) ≡ true) × AreEnds b (linear.parts_at b all) e)
some_ends b None all left small s is h = tt
some_ends b (Some e) all left small s is h = (
  both_true (are_opposite (parts_left (linear.parts_at b all))) small (ap are_opposite (sym is) ∙ h.0) s,
  ends_left b all e (subst (λ (ps : List (Term × ℤ)). AreEnds b ps e) is h.1),
)

pub no_difference : (o : Option sums.SumFact) (x y : sums.SumFact) → o ≡ Some x → o ≡ Some y → is_difference x ≡ false → is_difference y ≡ true → ⊥
no_difference o x y e f a b =
    let same : x ≡ y = cc in
    let g : is_difference x ≡ is_difference y = ap is_difference same in
    cc
