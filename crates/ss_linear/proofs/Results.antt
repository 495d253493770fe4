-- What a weighted sum gives, read as a fact again.
use Rattle.std.proofs.Common.{◌≡◌, ℕ, ◌+◌, ◌<◌, ◌≤◌, ◌^◌, ℤ, pos, negsuc, neg_ℤ, ◌+ℤ◌, ◌*ℤ◌, FitsSigned, List, [], ◌∷◌, ◌++◌, length, get_or, take, drop, Bool, true, false, Option, Some, None, option_and_then, refl, sym, ◌∙◌, ap, subst, append_assoc, arith}
use Rattle.std.specs.Prelude.{if◌then◌else◌, IfNone, IfOk, Result, Ok, Err}
use Rattle.std.specs.Int.{int_div_euclid, int_rem_euclid, is_positive, w128}
use Rattle.std.proofs.lemmas.Int.{ints}
use Rattle.std.proofs.lemmas.Bool.{lt-ltb}
use Rattle.std.proofs.lemmas.List.{append-nil, map-append, drop_more, drop_all}
use borrow.Author.Differences.{product_is}
use Rattle.ss_core.specs.Tree.{ClassTree}
use Rattle.ss_logic.specs.Terms.{Add, Term, app}
use Rattle.ss_logic.specs.Formulas.{Formula}
use Rattle.ss_logic.specs.Equal.{same_term, equal_terms}
use Rattle.ss_logic.specs.Shapes.{when, number, at_most}
use Rattle.ss_logic.specs.Sums.{is_within, is_zero, checked, plus_times, LinearSum, number_sum, term_sum, add_part, add_parts, sum_times, linear, SumFact, sum_fact, sum_fact_of, weighted, divided, multiple, sum_onto, sum_term, bounded, sum_of}
use Rattle.ss_logic.proofs.NumbersInSums.{one_times, times_zero, zero_sum}
use Rattle.ss_terms.specs.declared.forms.TermId.{TermId}
use Rattle.ss_terms.specs.Forms.{Forms, term_at}
use Rattle.ss_deriv.specs.declared.line.Sum.{Sum as Told}
use Rattle.ss_linear_sums.specs.declared.forms.Part.{Part}
use Rattle.ss_linear_sums.specs.declared.forms.LinearSum.{LinearSum as Sum}
use Rattle.ss_linear_sums.specs.declared.forms.SumFact.{SumFact as Read}
use Rattle.ss_linear_sums.specs.Linear.{part_at, parts_at, sum_at as sum_of_bank, fact_at as read_as, HasParts, Became}
use Rattle.ss_linear_sums.specs.Parts.{with_coefficient}
use Rattle.ss_linear_sums.specs.Weighted.{divided_part}
use Rattle.ss_linear_rules.specs.Two.{is_one, Refute}
use Rattle.ss_linear.specs.Contradictions.{IsContradiction, summed, sums_of}
use Rattle.ss_linear.specs.Results.{AreOthers, IsNext, AreNext, IsResult}
use Rattle.ss_linear.proofs.Glue.{mapped_more}
use Rattle.ss_linear_rules.proofs.Cancelling.{one_is}

pub none_then : {X E A B : Type 0} (r : Result (Option X) E) → (A → B) → IfOk r (λ o. IfNone o A) → IfOk r (λ o. IfNone o B)
none_then (Ok (Some x)) f h = tt
none_then (Ok None) f h = f h
none_then (Err e) f h = tt

kept : (c : ℤ) → is_within c ≡ true → checked c ≡ Some c
kept c h = ap (λ b. when b c) h

times_own : (c : ℤ) → c *ℤ pos 1 ≡ c
times_own c = omega (arith, ints, product_is c (pos 1))

scaled : (n b c : ℤ) → n *ℤ b ≡ c → is_within c ≡ true → plus_times (pos 0) n b ≡ Some c
scaled n b c e h =
    ap (λ z. option_and_then (λ x. checked (pos 0 +ℤ x)) (checked z)) e
    ∙ ap (λ o. option_and_then (λ x. checked (pos 0 +ℤ x)) o) (kept c h)
    ∙ ap checked (zero_sum c) ∙ kept c h

-- ---- a part as a term

multiple_is : (t : Term) (c : ℤ) → linear t ≡ Some (term_sum t) → is_within c ≡ true → linear (multiple (t, c)) ≡ Some (record { parts = (t, c) ∷ []; constant = pos 0 })
multiple_is t c alone h =
    ap (λ o. sum_times (Some (number_sum (pos 0))) c o) alone
    ∙ ap (λ o. option_and_then (λ ps. option_and_then (λ k. Some (record { parts = ps; constant = k })) (plus_times (pos 0) c (pos 0))) (option_and_then (λ more. add_parts c [] more) (option_and_then (λ k. Some ((t, k) ∷ [])) o))) (scaled c (pos 1) c (times_own c) h)
    ∙ ap (λ o. option_and_then (λ k. Some (record { parts = (t, c) ∷ []; constant = k })) o) (scaled c (pos 0) (pos 0) (times_zero c) refl)

added : (t : Term) (c : ℤ) (qs : List (Term × ℤ)) → AreOthers t qs → is_within c ≡ true → add_part (pos 1) (t, c) qs ≡ Some (qs ++ (t, c) ∷ [])
added t c [] o h = ap (λ o. option_and_then (λ k. Some ((t, k) ∷ [])) o) (scaled (pos 1) c c (one_times c) h)
added t c (q ∷ qs) o h =
    ap (λ b. if b then option_and_then (λ k. Some ((q.0, k) ∷ qs)) (plus_times q.1 (pos 1) c) else option_and_then (λ rest. Some (q ∷ rest)) (add_part (pos 1) (t, c) qs)) o.0
    ∙ ap (λ o. option_and_then (λ rest. Some (q ∷ rest)) o) (added t c qs o.1 h)

plus : (x : Term) (qs : List (Term × ℤ)) (p : Term × ℤ) → linear x ≡ Some (record { parts = qs; constant = pos 0 }) → IsNext qs p →
    linear (app Add (x ∷ multiple p ∷ [])) ≡ Some (record { parts = qs ++ p ∷ []; constant = pos 0 })
plus x qs p e h =
    ap (λ o. sum_times o (pos 1) (linear (multiple p))) e
    ∙ ap (λ o. sum_times (Some (record { parts = qs; constant = pos 0 })) (pos 1) o) (multiple_is p.0 p.1 h.0 h.1)
    ∙ ap (λ o. option_and_then (λ ps. option_and_then (λ k. Some (record { parts = ps; constant = k })) (plus_times (pos 0) (pos 1) (pos 0))) (option_and_then (λ more. add_parts (pos 1) [] more) o)) (added p.0 p.1 qs h.2 h.1)

onto : (x : Term) (qs ps : List (Term × ℤ)) → linear x ≡ Some (record { parts = qs; constant = pos 0 }) → AreNext qs ps → linear (sum_onto x ps) ≡ Some (record { parts = qs ++ ps; constant = pos 0 })
onto x qs [] e h = e ∙ ap (λ rs. Some (record { parts = rs; constant = pos 0 })) (sym (append-nil qs))
onto x qs (p ∷ ps) e h =
    onto (app Add (x ∷ multiple p ∷ [])) (qs ++ p ∷ []) ps (plus x qs p e h.0) h.1
    ∙ ap (λ rs. Some (record { parts = rs; constant = pos 0 })) (append_assoc qs (p ∷ []) ps)

-- parts as a term are these parts
pub term_is : (ps : List (Term × ℤ)) → AreNext [] ps → linear (sum_term ps) ≡ Some (record { parts = ps; constant = pos 0 })
term_is [] h = refl
term_is (p ∷ ps) h = onto (multiple p) (p ∷ []) ps (multiple_is p.0 p.1 h.0.0 h.0.1) h.1

-- that parts are at most a number says that they are, less the number, at most 0
pub said_again : (cs : List ClassTree) (ps : List (Term × ℤ)) (k : ℤ) → AreNext [] ps → is_within (neg_ℤ k) ≡ true →
    sum_fact_of cs (at_most (sum_term ps) (number k)) ≡ Some (record { is_equality = false; sum = record { parts = ps; constant = neg_ℤ k } })
said_again cs ps k h within =
    ap (λ o. sum_fact false (sum_times o (negsuc 0) (Some (number_sum k)))) (term_is ps h)
    ∙ ap (λ o. option_and_then (λ a. Some (record { is_equality = false; sum = a })) (option_and_then (λ c. Some (record { parts = ps; constant = c })) o)) (scaled (negsuc 0) k (neg_ℤ k) (less_is k) within)
  where
    less_is : (k : ℤ) → negsuc 0 *ℤ k ≡ neg_ℤ k
    less_is k = omega (arith, ints, product_is (negsuc 0) k)

-- what the sum gives
pub gives : (d : ℤ) (a : LinearSum) (ps : List (Term × ℤ)) → divided d a.parts ≡ Some ps → is_within (neg_ℤ a.constant) ≡ true → bounded d a ≡ Some (at_most (sum_term ps) (number (int_div_euclid (neg_ℤ a.constant) d)))
gives d a ps e within =
    ap (λ o. option_and_then (λ k. option_and_then (λ qs. Some (at_most (sum_term qs) (number (int_div_euclid k d)))) (divided d a.parts)) o) (kept (neg_ℤ a.constant) within)
    ∙ ap (λ o. option_and_then (λ qs. Some (at_most (sum_term qs) (number (int_div_euclid (neg_ℤ a.constant) d)))) o) e

-- ---- sums one after the other

pub refute_more : (cs : List ClassTree) (known : List Formula) (s : ℤ × List (ℕ × ℤ)) (ss : List (ℤ × List (ℕ × ℤ))) (f : Formula) → sum_of cs known s.0 s.1 ≡ Some f → Refute cs (known ++ f ∷ []) ss → Refute cs known (s ∷ ss)
refute_more cs known s [] f e h = absurd h
refute_more cs known s (r ∷ ss) f e h = (f, e, h)

-- one more part after others
next_after : (before ps : List (Term × ℤ)) (p : Term × ℤ) → AreNext before ps → IsNext (before ++ ps) p → AreNext before (ps ++ p ∷ [])
next_after before [] p h k = (subst (λ rs. IsNext rs p) (append-nil before) k, tt)
next_after before (q ∷ ps) p h k = (h.0, next_after (before ++ q ∷ []) ps p h.1 (subst (λ rs. IsNext rs p) (sym (append_assoc before (q ∷ []) ps)) k))

pub next_pushed : (ps : List (Term × ℤ)) (p : Term × ℤ) → AreNext [] ps → IsNext ps p → AreNext [] (ps ++ p ∷ [])
next_pushed ps p h k = next_after [] ps p h k

-- ---- what the functions give

pub became : {A B E : Type 0} (r : Result Bool E) (o : Option A) (x : A) (g : A → Option B) (n : B) → o ≡ Some x → IfOk r (λ yes. Became yes (g x) n) → IfOk r (λ yes. Became yes (option_and_then g o) n)
became r o x g n e h = subst (λ p. IfOk r (λ yes. Became yes (option_and_then g p) n)) (sym e) h

pub mapped_ok : {E : Type 0} (r : Result Bool E) (P Q : Bool → Type 0) → ((b : Bool) → P b → Q b) → IfOk r P → IfOk r Q
mapped_ok (Ok b) P Q f h = f b h
mapped_ok (Err e) P Q f h = tt

pub if_none : {X E : Type 0} (r : Result (Option X) E) (P : Type 0) → P → IfOk r (λ o. IfNone o P)
if_none (Ok None) P p = p
if_none (Ok (Some x)) P p = tt
if_none (Err e) P p = tt

pub once : (b : Forms) (p : Part) (t : TermId) → is_one p.coefficient ≡ true → same_term (term_at b p.term) (term_at b t) ≡ true → part_at b p ≡ (term_at b t, pos 1)
once b p t o s = ap (λ x. (x, p.coefficient)) (equal_terms (term_at b p.term) (term_at b t) s) ∙ ap (λ z. (term_at b t, z)) (one_is p.coefficient o)

pub only : (b : Forms) (p : Part) (rest : List Part) (q : Term × ℤ) → rest ≡ [] → part_at b p ≡ q → parts_at b (p ∷ rest) ≡ q ∷ []
only b p rest q e h = ap (λ ps. part_at b p ∷ parts_at b ps) e ∙ ap (λ x. x ∷ []) h

pub when_some : (t : Bool) (v q : ℤ) → Some q ≡ when t v → (t ≡ true) × (q ≡ v)
when_some true v q e = (refl, let same : q ≡ v = cc in same)
when_some false v q e = let never : ⊥ = cc in absurd never

-- a sum of a term alone
pub alone : (b : Forms) (s : Sum) (t : TermId) (a : Option LinearSum) → a ≡ Some (sum_of_bank b s) → s.constant ≡ pos 0 → parts_at b s.parts.items ≡ (term_at b t, pos 1) ∷ [] → a ≡ Some (term_sum (term_at b t))
alone b s t a e z p = let same : sum_of_bank b s ≡ term_sum (term_at b t) = cc in e ∙ ap Some same

others_pushed : (t : Term) (xs : List (Term × ℤ)) (p : Term × ℤ) → AreOthers t xs → same_term p.0 t ≡ false → AreOthers t (xs ++ p ∷ [])
others_pushed t [] p h e = (e, tt)
others_pushed t (x ∷ xs) p h e = (h.0, others_pushed t xs p h.1 e)

pub others_more : (b : Forms) (t : Term) (ps : List Part) (i : ℕ) (d : Part) → i < length ps → AreOthers t (parts_at b (take i ps)) → same_term (term_at b (get_or ps i d).term) t ≡ false → AreOthers t (parts_at b (take (i + 1) ps))
others_more b t ps i d l h e =
    subst (λ (qs : List (Term × ℤ)). AreOthers t qs) (sym (mapped_more (part_at b) ps i d l)) (others_pushed t (parts_at b (take i ps)) (part_at b (get_or ps i d)) h e)

pub pushed_parts : (b : Forms) (old new : List Part) (p : Part) → new ≡ old ++ p ∷ [] → parts_at b new ≡ parts_at b old ++ part_at b p ∷ []
pushed_parts b old new p e = ap (parts_at b) e ∙ map-append (part_at b) old (p ∷ [])

pub fits_within : (z : ℤ) → FitsSigned w128 z → is_within z ≡ true
fits_within (pos n) f = lt-ltb n (2 ^ 127) (omega (arith, ints, f))
fits_within (negsuc n) f = lt-ltb n (2 ^ 127) (omega (arith, ints, f))

-- a part that is divided
pub divided_on : (d : ℤ) (p : Part) (q : ℤ) → is_zero p.coefficient ≡ false → Some q ≡ when (is_zero (int_rem_euclid p.coefficient d)) (int_div_euclid p.coefficient d) → divided_part d p ≡ Some (with_coefficient q p ∷ [])
divided_on d p q n o =
    let w = when_some (is_zero (int_rem_euclid p.coefficient d)) (int_div_euclid p.coefficient d) q o in
    ap (λ b. if b then Some [] else if is_zero (int_rem_euclid p.coefficient d) then Some (with_coefficient (int_div_euclid p.coefficient d) p ∷ []) else None) n
    ∙ ap (λ b. if b then Some (with_coefficient (int_div_euclid p.coefficient d) p ∷ []) else None) w.0
    ∙ ap (λ z. Some (with_coefficient z p ∷ [])) (sym w.1)

pub divided_off : (d : ℤ) (p : Part) → is_zero p.coefficient ≡ true → divided_part d p ≡ Some []
divided_off d p n = ap (λ b. if b then Some [] else if is_zero (int_rem_euclid p.coefficient d) then Some (with_coefficient (int_div_euclid p.coefficient d) p ∷ []) else None) n

abbrev fact_with : Bool → List (Term × ℤ) → ℤ → SumFact
fact_with is_equality ps k = record { is_equality = is_equality; sum = record { parts = ps; constant = k } }

said_so : (cs : List ClassTree) (b : Forms) (d : ℤ) (s : Sum) (most constant : ℤ) (ps : List Part) → Some most ≡ checked (neg_ℤ s.constant) → Some constant ≡ checked (neg_ℤ (int_div_euclid most d)) →
    AreNext [] (parts_at b ps) → divided d (parts_at b s.parts.items) ≡ Some (parts_at b ps) →
    (f : Formula) × (bounded d (sum_of_bank b s) ≡ Some f) × (sum_fact_of cs f ≡ Some (record { is_equality = false; sum = record { parts = parts_at b ps; constant = constant } }))
said_so cs b d s most constant ps em ec next e =
    let m = when_some (is_within (neg_ℤ s.constant)) (neg_ℤ s.constant) most em in
    let k = when_some (is_within (neg_ℤ (int_div_euclid most d))) (neg_ℤ (int_div_euclid most d)) constant ec in (
      at_most (sum_term (parts_at b ps)) (number (int_div_euclid most d)),
      gives d (sum_of_bank b s) (parts_at b ps) e m.0 ∙ ap (λ z. Some (at_most (sum_term (parts_at b ps)) (number (int_div_euclid z d)))) (sym m.1),
      said_again cs (parts_at b ps) (int_div_euclid most d) next k.0 ∙ ap (λ z. Some (record { is_equality = false; sum = record { parts = parts_at b ps; constant = z } })) (sym k.1),
    )

pub result_is : (cs : List ClassTree) (b : Forms) (d : ℤ) (s : Sum) (most constant : ℤ) (ps : List Part) (fact : Read) → Some most ≡ checked (neg_ℤ s.constant) → Some constant ≡ checked (neg_ℤ (int_div_euclid most d)) →
    AreNext [] (parts_at b ps) → divided d (parts_at b s.parts.items) ≡ Some (parts_at b ps) → HasParts b ps → fact.is_equality ≡ false → fact.sum.parts.items ≡ ps → fact.sum.constant ≡ constant → IsResult cs b (bounded d (sum_of_bank b s)) (Some fact)
result_is cs b d s most constant ps fact em ec next e has fe fp fc =
    let h = said_so cs b d s most constant ps em ec next e in
    let parts : parts_at b fact.sum.parts.items ≡ parts_at b ps = ap (parts_at b) fp in
    let same : read_as b fact ≡ fact_with false (parts_at b ps) constant = ap (λ x. fact_with x (parts_at b fact.sum.parts.items) fact.sum.constant) fe ∙ ap (λ xs. fact_with false xs fact.sum.constant) parts ∙ ap (λ k. fact_with false (parts_at b ps) k) fc in
    let result : (f : Formula) × (bounded d (sum_of_bank b s) ≡ Some f) × (sum_fact_of cs f ≡ Some (read_as b fact)) = (h.0, h.1, h.2 ∙ ap Some (sym same)) in
    (subst (λ (xs : List Part). HasParts b xs) (sym fp) has, result)

pub summed_is : (cs : List ClassTree) (known : List Formula) (d : ℤ) (ps : List (ℕ × ℤ)) (a : LinearSum) → is_positive d ≡ true → weighted cs known (number_sum (pos 0)) ps ≡ Some a → sum_of cs known d ps ≡ bounded d a
summed_is cs known d ps a p e = ap (λ b. if b then option_and_then (bounded d) (weighted cs known (number_sum (pos 0)) ps) else None) p ∙ ap (λ o. option_and_then (bounded d) o) e

pub end_step : (cs : List ClassTree) (ss : List Told) (i : ℕ) (s : Told) → i < length ss → s ≡ get_or ss i s → (now : List Formula) (f : Formula) → sum_of cs now s.divisor s.parts.items ≡ Some f → Refute cs (now ++ f ∷ []) (sums_of (drop (i + 1) ss)) → Refute cs now (sums_of (drop i ss))
end_step cs ss i s l is now f e h =
    subst (λ (xs : List Told). Refute cs now (sums_of xs)) (sym (drop_more ss i s l))
    (refute_more cs now (summed (get_or ss i s)) (sums_of (drop (i + 1) ss)) f (subst (λ (x : Told). sum_of cs now x.divisor x.parts.items ≡ Some f) is e) h)

pub end_last : (cs : List ClassTree) (ss : List Told) (i : ℕ) (s : Told) → i < length ss → length ss ≤ i + 1 → s ≡ get_or ss i s → (now : List Formula) → (s.divisor ≡ pos 1) × IsContradiction cs now s.parts.items → Refute cs now (sums_of (drop i ss))
end_last cs ss i s l last is now h =
    subst (λ (xs : List Told). Refute cs now (sums_of xs)) (sym (drop_more ss i s l ∙ ap (λ xs. get_or ss i s ∷ xs) (drop_all (i + 1) ss last)))
    (subst (λ (x : Told). Refute cs now (summed x ∷ [])) is (subst (λ (z : ℤ). Refute cs now ((z, s.parts.items) ∷ [])) (sym h.0) h.1))
