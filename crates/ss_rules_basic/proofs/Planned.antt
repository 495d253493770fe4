-- What is made of plans and clauses, as the bank grows.
use Rattle.std.proofs.Common.{◌≡◌, ℕ, zero, suc, ◌+◌, ◌<◌, List, [], ◌∷◌, ◌++◌, length, map, take, drop, get_or, true, false, refl, sym, ◌∙◌, ap, subst, arith}
use Rattle.std.proofs.lemmas.List.{take_more, drop_more, map_push, length-append}
use Rattle.ss_logic.specs.Terms.{Term, app, terms_from}
use Rattle.ss_logic.specs.Formulas.{IsGroup, Formula, Literal}
use Rattle.ss_logic.specs.Shapes.{given}
use Rattle.ss_terms.specs.declared.forms.TermId.{TermId}
use Rattle.ss_terms.specs.Forms.{Forms, no_term, symbol_of, predicate_of, term_at, terms_at, HasTerm, HasTerms, AreTermsBelow, IsGrown}
use Rattle.ss_terms.proofs.Grown.{HasTerms-grown, terms_at-grown, HasTerm-grown}
use Rattle.ss_terms.proofs.Tested.{AreTermsBelow-get}
use Rattle.ss_rules_basic.specs.declared.facts.Fact.{Fact}
use Rattle.ss_rules_basic.specs.declared.sentences.Sentence.{Sentence}
use Rattle.ss_rules_basic.specs.Facts.{fact_at, sentence_at, HasFact, HasFacts, HasSentence, HasSentences}
use Rattle.ss_rules_basic.specs.declared.plans.Slot.{Slot}
use Rattle.ss_rules_basic.specs.declared.plans.Slot.TheVariants.{Known, Made}
use Rattle.ss_rules_basic.specs.declared.plans.Plan.{Plan}
use Rattle.ss_rules_basic.specs.declared.plans.Plan.TheVariants.{Leaf, One, Two, Three}
use Rattle.ss_rules_basic.specs.declared.clauses.Claim.{Claim}
use Rattle.ss_rules_basic.specs.declared.clauses.Claim.TheVariants.{Is, Not, Group, NoGroup}
use Rattle.ss_rules_basic.specs.declared.clauses.Clause.{Clause}
use Rattle.ss_rules_basic.specs.Plans.{slot_value, slot_id, plan_at, planned, claim_at, clause_at, fact_of, premises_of, conclusion_of, HasSlot, HasPlan, HasPlans, HasClaim, HasClaims, HasClause, HasClauses}

pub AreTermsBelow-push : (n : ℕ) (ts : List TermId) (t : TermId) → AreTermsBelow n ts → t.0 < n → AreTermsBelow n (ts ++ t ∷ [])
AreTermsBelow-push n [] t h at = (at, tt)
AreTermsBelow-push n (u ∷ ts) t h at = (h.0, AreTermsBelow-push n ts t h.1 at)

get_or-map : (b : Forms) (ts : List TermId) (i : ℕ) (d : TermId) → i < length ts → term_at b (get_or ts i d) ≡ get_or (terms_at b ts) i no_term
get_or-map b [] i d h = absurd (omega arith)
get_or-map b (t ∷ ts) zero d h = refl
get_or-map b (t ∷ ts) (suc i) d h = get_or-map b ts i d (omega arith)

-- ---- a slot, by its number

module _ (b : Forms) (made : List TermId) (there : HasTerms b made) where
  abbrev at_slot : Slot → Term
  at_slot = slot_value (term_at b) (terms_at b made)

  pub slot_has : (x : Slot) → HasSlot b (length made) x → HasTerm b (slot_id made x)
  slot_has (Known t) h = h
  slot_has (Made k) h = AreTermsBelow-get (length b.terms) made k (record { 0 = 0 }) there h

  pub slot_says : (x : Slot) → HasSlot b (length made) x → term_at b (slot_id made x) ≡ at_slot x
  slot_says (Known t) h = refl
  slot_says (Made k) h = get_or-map b made k (record { 0 = 0 }) h

  pub claim_has : (c : Claim) → HasClaim b (length made) c → HasFact b (fact_of made c)
  claim_has (Is p x y) h = (slot_has x h.0, (slot_has y h.1, tt))
  claim_has (Not p x y) h = (slot_has x h.0, (slot_has y h.1, tt))
  claim_has (Group x) h = (slot_has x h, tt)
  claim_has (NoGroup x) h = (slot_has x h, tt)

  pub claim_says : (c : Claim) → HasClaim b (length made) c → fact_at b (fact_of made c) ≡ claim_at at_slot c
  claim_says (Is p x y) h = ap (λ t. Literal true (predicate_of p) (terms_from (t ∷ term_at b (slot_id made y) ∷ []))) (slot_says x h.0) ∙ ap (λ t. Literal true (predicate_of p) (terms_from (at_slot x ∷ t ∷ []))) (slot_says y h.1)
  claim_says (Not p x y) h = ap (λ t. Literal false (predicate_of p) (terms_from (t ∷ term_at b (slot_id made y) ∷ []))) (slot_says x h.0) ∙ ap (λ t. Literal false (predicate_of p) (terms_from (at_slot x ∷ t ∷ []))) (slot_says y h.1)
  claim_says (Group x) h = ap (λ t. Literal true IsGroup (terms_from (t ∷ []))) (slot_says x h)
  claim_says (NoGroup x) h = ap (λ t. Literal false IsGroup (terms_from (t ∷ []))) (slot_says x h)

  claims_have : (cs : List Claim) → HasClaims b (length made) cs → HasFacts b (map (fact_of made) cs)
  claims_have [] h = tt
  claims_have (c ∷ cs) h = (claim_has c h.0, claims_have cs h.1)

  claims_say : (cs : List Claim) → HasClaims b (length made) cs → map (fact_at b) (map (fact_of made) cs) ≡ map (claim_at at_slot) cs
  claims_say [] h = refl
  claims_say (c ∷ cs) h = ap (λ f. f ∷ map (fact_at b) (map (fact_of made) cs)) (claim_says c h.0) ∙ ap (λ fs. claim_at at_slot c ∷ fs) (claims_say cs h.1)

  module _ (s : Sentence) (c : Clause) (p : s.premises.items ≡ map (fact_of made) (premises_of c)) (q : s.conclusion ≡ fact_of made (conclusion_of c)) where
    pub clause_has : HasClause b (length made) c → HasSentence b s
    clause_has h = (subst (HasFacts b) (sym p) (claims_have (premises_of c) h.0), subst (HasFact b) (sym q) (claim_has (conclusion_of c) h.1))

    pub clause_says : HasClause b (length made) c → sentence_at b s ≡ clause_at at_slot c
    clause_says h =
        ap (λ fs. given (map (fact_at b) fs) (fact_at b s.conclusion)) p
        ∙ ap (λ fs. given fs (fact_at b s.conclusion)) (claims_say (premises_of c) h.0)
        ∙ ap (λ f. given (map (claim_at at_slot) (premises_of c)) (fact_at b f)) q
        ∙ ap (given (map (claim_at at_slot) (premises_of c))) (claim_says (conclusion_of c) h.1)

-- ---- a slot, as the bank grows

module _ (a b : Forms) (g : IsGrown a b) (n : ℕ) where
  HasSlot-grown : (x : Slot) → HasSlot a n x → HasSlot b n x
  HasSlot-grown (Known t) h = HasTerm-grown a b g t h
  HasSlot-grown (Made k) h = h

  pub HasPlan-grown : (p : Plan) → HasPlan a n p → HasPlan b n p
  HasPlan-grown (Leaf f) h = tt
  HasPlan-grown (One f x) h = HasSlot-grown x h
  HasPlan-grown (Two f x y) h = (HasSlot-grown x h.0, HasSlot-grown y h.1)
  HasPlan-grown (Three f x y z) h = (HasSlot-grown x h.0, HasSlot-grown y h.1, HasSlot-grown z h.2)

  HasClaim-grown : (c : Claim) → HasClaim a n c → HasClaim b n c
  HasClaim-grown (Is p x y) h = (HasSlot-grown x h.0, HasSlot-grown y h.1)
  HasClaim-grown (Not p x y) h = (HasSlot-grown x h.0, HasSlot-grown y h.1)
  HasClaim-grown (Group x) h = HasSlot-grown x h
  HasClaim-grown (NoGroup x) h = HasSlot-grown x h

  HasClaims-grown : (cs : List Claim) → HasClaims a n cs → HasClaims b n cs
  HasClaims-grown [] h = tt
  HasClaims-grown (c ∷ cs) h = (HasClaim-grown c h.0, HasClaims-grown cs h.1)

  pub HasClauses-grown : (cs : List Clause) → HasClauses a n cs → HasClauses b n cs
  HasClauses-grown [] h = tt
  HasClauses-grown (c ∷ cs) h = ((HasClaims-grown (premises_of c) h.0.0, HasClaim-grown (conclusion_of c) h.0.1), HasClauses-grown cs h.1)

  module _ (m : List Term) where
    slot_value-grown : (x : Slot) → HasSlot a n x → slot_value (term_at b) m x ≡ slot_value (term_at a) m x
    slot_value-grown (Known t) h = g.same_terms t h
    slot_value-grown (Made k) h = refl

    pub plan_at-grown : (p : Plan) → HasPlan a n p → plan_at (slot_value (term_at b) m) p ≡ plan_at (slot_value (term_at a) m) p
    plan_at-grown (Leaf f) h = refl
    plan_at-grown (One f x) h = ap (λ t. app (symbol_of f) (t ∷ [])) (slot_value-grown x h)
    plan_at-grown (Two f x y) h =
        ap (λ t. app (symbol_of f) (t ∷ slot_value (term_at b) m y ∷ [])) (slot_value-grown x h.0)
        ∙ ap (λ t. app (symbol_of f) (slot_value (term_at a) m x ∷ t ∷ [])) (slot_value-grown y h.1)
    plan_at-grown (Three f x y z) h =
        ap (λ t. app (symbol_of f) (t ∷ slot_value (term_at b) m y ∷ slot_value (term_at b) m z ∷ [])) (slot_value-grown x h.0)
        ∙ ap (λ t. app (symbol_of f) (slot_value (term_at a) m x ∷ t ∷ slot_value (term_at b) m z ∷ [])) (slot_value-grown y h.1)
        ∙ ap (λ t. app (symbol_of f) (slot_value (term_at a) m x ∷ slot_value (term_at a) m y ∷ t ∷ [])) (slot_value-grown z h.2)

    claim_at-grown : (c : Claim) → HasClaim a n c → claim_at (slot_value (term_at b) m) c ≡ claim_at (slot_value (term_at a) m) c
    claim_at-grown (Is p x y) h =
        ap (λ t. Literal true (predicate_of p) (terms_from (t ∷ slot_value (term_at b) m y ∷ []))) (slot_value-grown x h.0)
        ∙ ap (λ t. Literal true (predicate_of p) (terms_from (slot_value (term_at a) m x ∷ t ∷ []))) (slot_value-grown y h.1)
    claim_at-grown (Not p x y) h =
        ap (λ t. Literal false (predicate_of p) (terms_from (t ∷ slot_value (term_at b) m y ∷ []))) (slot_value-grown x h.0)
        ∙ ap (λ t. Literal false (predicate_of p) (terms_from (slot_value (term_at a) m x ∷ t ∷ []))) (slot_value-grown y h.1)
    claim_at-grown (Group x) h = ap (λ t. Literal true IsGroup (terms_from (t ∷ []))) (slot_value-grown x h)
    claim_at-grown (NoGroup x) h = ap (λ t. Literal false IsGroup (terms_from (t ∷ []))) (slot_value-grown x h)

    claims_at-grown : (cs : List Claim) → HasClaims a n cs → map (claim_at (slot_value (term_at b) m)) cs ≡ map (claim_at (slot_value (term_at a) m)) cs
    claims_at-grown [] h = refl
    claims_at-grown (c ∷ cs) h =
        ap (λ f. f ∷ map (claim_at (slot_value (term_at b) m)) cs) (claim_at-grown c h.0) ∙ ap (λ fs. claim_at (slot_value (term_at a) m) c ∷ fs) (claims_at-grown cs h.1)

    clause_at-grown : (c : Clause) → HasClause a n c → clause_at (slot_value (term_at b) m) c ≡ clause_at (slot_value (term_at a) m) c
    clause_at-grown c h =
        ap (λ fs. given fs (claim_at (slot_value (term_at b) m) (conclusion_of c))) (claims_at-grown (premises_of c) h.0)
        ∙ ap (given (map (claim_at (slot_value (term_at a) m)) (premises_of c))) (claim_at-grown (conclusion_of c) h.1)

    pub clauses_at-grown : (cs : List Clause) → HasClauses a n cs → map (clause_at (slot_value (term_at b) m)) cs ≡ map (clause_at (slot_value (term_at a) m)) cs
    clauses_at-grown [] h = refl
    clauses_at-grown (c ∷ cs) h =
        ap (λ f. f ∷ map (clause_at (slot_value (term_at b) m)) cs) (clause_at-grown c h.0) ∙ ap (λ fs. clause_at (slot_value (term_at a) m) c ∷ fs) (clauses_at-grown cs h.1)

-- ---- the loop over plans

pub length-terms_at : (b : Forms) (ts : List TermId) → length (terms_at b ts) ≡ length ts
length-terms_at b [] = refl
length-terms_at b (t ∷ ts) = ap suc (length-terms_at b ts)

pub length-planned : (look : TermId → Term) (made : List Term) (ps : List Plan) → length (planned look made ps) ≡ length made + length ps
length-planned look made [] = omega arith
length-planned look made (p ∷ ps) = length-planned look (made ++ plan_at (slot_value look made) p ∷ []) ps ∙ omega (arith, length-append made (plan_at (slot_value look made) p ∷ []))

-- one more plan of a list
module _ (a : Forms) (ps : List Plan) (i : ℕ) (d : Plan) (at : i < length ps) where
  pub plan_here : (n : ℕ) → HasPlans a n (drop i ps) → HasPlan a n (get_or ps i d) × HasPlans a (n + 1) (drop (i + 1) ps)
  plan_here n h = let q : HasPlans a n (get_or ps i d ∷ drop (i + 1) ps) = subst (HasPlans a n) (drop_more ps i d at) h in (q.0, q.1)

  planned_next : (m all : List Term) → planned (term_at a) m (drop i ps) ≡ all → planned (term_at a) (m ++ plan_at (slot_value (term_at a) m) (get_or ps i d) ∷ []) (drop (i + 1) ps) ≡ all
  planned_next m all e = sym (ap (planned (term_at a) m) (drop_more ps i d at)) ∙ e

  module _ (b c : Forms) (g : IsGrown a b) (k : IsGrown b c) (made after : List TermId) (t : TermId) (there : HasTerms b made) (e : after ≡ made ++ t ∷ []) (has : HasPlans a (length made) (drop i ps)) where
    pub has_rest : HasPlans a (length after) (drop (i + 1) ps)
    has_rest = subst (λ n. HasPlans a n (drop (i + 1) ps)) (sym (ap length e ∙ length-append made (t ∷ []))) (plan_here (length made) has).1

    pub rest_planned : (all : List Term) → planned (term_at a) (terms_at b made) (drop i ps) ≡ all →
        term_at c t ≡ plan_at (slot_value (term_at b) (terms_at b made)) (get_or ps i d) → planned (term_at a) (terms_at c after) (drop (i + 1) ps) ≡ all
    rest_planned all was is =
        ap (λ ts. planned (term_at a) ts (drop (i + 1) ps))
        (ap (terms_at c) e
        ∙ map_push (term_at c) made t
        ∙ ap (λ ts. ts ++ term_at c t ∷ []) (terms_at-grown b c k made there)
        ∙ ap (λ x. terms_at b made ++ x ∷ []) (is ∙ plan_at-grown a b g (length made) (terms_at b made) (get_or ps i d) (plan_here (length made) has).0))
        ∙ planned_next (terms_at b made) all was

    pub there_after : IsGrown b c → HasTerm c t → HasTerms c after
    there_after k' at' = subst (HasTerms c) (sym e) (AreTermsBelow-push (length c.terms) made t (HasTerms-grown b c k' made there) at')

    pub plan_has : HasPlan b (length made) (get_or ps i d)
    plan_has = HasPlan-grown a b g (length made) (get_or ps i d) (plan_here (length made) has).0

-- ---- the loops over claims and clauses

pub map_next : {A B : Type 0} (f : A → B) (xs : List A) (i : ℕ) (d : A) (y : B) (before after : List B) → i < length xs → y ≡ f (get_or xs i d) → after ≡ before ++ y ∷ [] →
    before ≡ map f (take i xs) → after ≡ map f (take (i + 1) xs)
map_next f xs i d y before after at e made was =
    made
    ∙ ap (λ ys. ys ++ y ∷ []) was
    ∙ ap (λ z. map f (take i xs) ++ z ∷ []) e
    ∙ sym (map_push f (take i xs) (get_or xs i d))
    ∙ ap (map f) (sym (take_more xs i d at))

HasClauses-get : (b : Forms) (n : ℕ) (cs : List Clause) (i : ℕ) (d : Clause) → HasClauses b n cs → i < length cs → HasClause b n (get_or cs i d)
HasClauses-get b n [] i d h at = absurd (omega arith)
HasClauses-get b n (c ∷ cs) zero d h at = h.0
HasClauses-get b n (c ∷ cs) (suc i) d h at = HasClauses-get b n cs i d h.1 (omega arith)

HasSentences-push : (b : Forms) (ss : List Sentence) (s : Sentence) → HasSentences b ss → HasSentence b s → HasSentences b (ss ++ s ∷ [])
HasSentences-push b [] s h k = (k, tt)
HasSentences-push b (r ∷ ss) s h k = (h.0, HasSentences-push b ss s h.1 k)

-- one more clause of a list
module _ (made : List TermId) (cs : List Clause) (i : ℕ) (d : Clause) (at : i < length cs) (s : Sentence)
    (p : s.premises.items ≡ map (fact_of made) (premises_of (get_or cs i d))) (q : s.conclusion ≡ fact_of made (conclusion_of (get_or cs i d))) (ss after : List Sentence) (e : after ≡ ss ++ s ∷ []) where
  pub has_next : (b : Forms) → HasTerms b made → HasClauses b (length made) cs → HasSentences b ss → HasSentences b after
  has_next b there h before =
      subst (HasSentences b) (sym e) (HasSentences-push b ss s before (clause_has b made there s (get_or cs i d) p q (HasClauses-get b (length made) cs i d h at)))

  pub says_next : (b : Forms) → HasTerms b made → HasClauses b (length made) cs → map (sentence_at b) ss ≡ map (clause_at (slot_value (term_at b) (terms_at b made))) (take i cs) →
      map (sentence_at b) after ≡ map (clause_at (slot_value (term_at b) (terms_at b made))) (take (i + 1) cs)
  says_next b there h before =
      map_next (clause_at (slot_value (term_at b) (terms_at b made))) cs i d (sentence_at b s) (map (sentence_at b) ss) (map (sentence_at b) after) at
      (clause_says b made there s (get_or cs i d) p q (HasClauses-get b (length made) cs i d h at)) (ap (map (sentence_at b)) e ∙ map_push (sentence_at b) ss s) before

-- ---- plans and then clauses

module _ (a b : Forms) (g : IsGrown a b) (ps : List Plan) (made : List TermId) (e : terms_at b made ≡ planned (term_at a) [] ps) (cs : List Clause) (h : HasClauses a (length ps) cs) where
  count : length made ≡ length ps
  count = omega (arith, length-terms_at b made, ap length e, length-planned (term_at a) [] ps)

  pub clauses_there : HasClauses b (length made) cs
  clauses_there = subst (λ n. HasClauses b n cs) (sym count) (HasClauses-grown a b g (length ps) cs h)

  pub clauses_say : map (clause_at (slot_value (term_at b) (terms_at b made))) cs ≡ map (clause_at (slot_value (term_at a) (planned (term_at a) [] ps))) cs
  clauses_say = ap (λ m. map (clause_at (slot_value (term_at b) m)) cs) e ∙ clauses_at-grown a b g (length ps) (planned (term_at a) [] ps) cs h
