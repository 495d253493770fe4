-- Of which decisions one side is known.
use Rattle.std.proofs.Common.{◌≡◌, ℕ, zero, suc, ◌+◌, ◌<◌, ◌≤◌, List, [], ◌∷◌, length, get_or, Some, true, refl, sym, subst, inl, inr, ◌⊎◌, ⊎_elim, arith, Result}
use Rattle.std.specs.Prelude.{IfOk, slice_get}
use Rattle.std.specs.List.{Contains}
use Rattle.std.proofs.lemmas.List.{take_all}
use Rattle.std.proofs.lemmas.List.Elements.{Contains-append_cases}
use Rattle.std.proofs.lemmas.Result.{IfOk-weaker}
use Rattle.std.proofs.lemmas.Option.{get_or_from_slice_get, slice_get_within, slice_get-get_or}
use Rattle.ss_logic.specs.Formulas.{Formula, Formulas, Literal, And, Or, Forall, Exists, no_formulas, formula_then, neg}
use Rattle.ss_logic_countermodels.specs.Refuting.{told_in, all_told_in}
use Rattle.ss_terms.specs.declared.forms.FormulaId.{FormulaId}
use Rattle.ss_terms.specs.Forms.{formula_at, formulas_at}
use Rattle.ss_deriv.specs.declared.line.Line.{Line}
use Rattle.ss_logic.specs.Includes.{Includes}
use Rattle.ss_search_procedure_rules.specs.Closed.{IsTotal}
use Rattle.ss_logic.proofs.Lists.{contains_head, contains_cons, contains_none, contains_split}
use Rattle.ss_search_procedure_rules.proofs.Occurring.{from_collected, to_collected}
use Rattle.ss_search_reaching.specs.declared.reaching.Reaching.{Reaching}
use Rattle.ss_search_procedure.specs.declared.setting.Settling.{Settling}
use Rattle.ss_search_procedure.specs.declared.total.Decided.{Decided}
use Rattle.ss_search_procedure.specs.declared.total.Decided.TheVariants as decided
use Rattle.ss_search_procedure.specs.Decisions.{bank_of, settled_ones, decisions_of, first_decisions, reached_in, IsSetting, IsState, IsAmong, AreDecided, IsNext}
use Rattle.ss_search_procedure.specs.Answers.{IfLines}
use Rattle.ss_search_procedure.proofs.Going.{among_negation}
use Rattle.ss_search_procedure.proofs.Tried.{one_more}

-- ---- lines

if_lines : (P Q : List Line → Type 0) → ((lines : List Line) → P lines → Q lines) → (d : Decided) → IfLines P d → IfLines Q d
if_lines P Q f (decided.Model m) h = tt
if_lines P Q f (decided.Closed lines) h = f lines.items h

pub lines_then : {E : Type 0} (r : Result Decided E) (P Q : List Line → Type 0) → ((lines : List Line) → P lines → Q lines) → IfOk r (IfLines P) → IfOk r (IfLines Q)
lines_then r P Q f h = IfOk-weaker r (IfLines P) (IfLines Q) (if_lines P Q f) h

-- ---- what is told in what is told is that itself

abbrev IsAlone : Formula → Type 0
IsAlone p = (x : Formula) → Contains (told_in p) x → p ≡ x

single : {A : Type 0} (x y : A) → Contains (x ∷ []) y → x ≡ y
single x y h = ⊎_elim (λ e. e) (λ k. absurd (contains_none y k)) (contains_split x [] y h)

mutual
  told_alone : (f p : Formula) → Contains (told_in f) p → IsAlone p
  told_alone (Literal sign q ts) p h = subst IsAlone (single (Literal true q ts) p h) (λ x k. single (Literal true q ts) x k)
  told_alone (And fs) p h = all_told_alone fs p h
  told_alone (Or fs) p h = all_told_alone fs p h
  told_alone (Forall ss f) p h = subst IsAlone (single (Forall ss f) p h) (λ x k. single (Forall ss f) x k)
  told_alone (Exists ss f) p h = subst IsAlone (single (Forall ss (neg f)) p h) (λ x k. single (Forall ss (neg f)) x k)

  all_told_alone : (fs : Formulas) (p : Formula) → Contains (all_told_in fs) p → IsAlone p
  all_told_alone no_formulas p h = absurd (contains_none p h)
  all_told_alone (formula_then f fs) p h = ⊎_elim (λ a. told_alone f p a) (λ b. all_told_alone fs p b) (Contains-append_cases (told_in f) (all_told_in fs) p h)

module _ (s : Settling) where
  there_at : (fs : List FormulaId) (i : ℕ) (d : FormulaId) → i < length fs → Contains (formulas_at (bank_of s) fs) (formula_at (bank_of s) (get_or fs i d))
  there_at [] i d h = absurd (omega (arith, h))
  there_at (f ∷ fs) zero d h = contains_head (formula_at (bank_of s) f) (formulas_at (bank_of s) fs)
  there_at (f ∷ fs) (suc i) d h = contains_cons (formula_at (bank_of s) f) (formulas_at (bank_of s) fs) (formula_at (bank_of s) (get_or fs i d)) (there_at fs i d (omega (arith, h)))

  pub chosen_at : (i : ℕ) (d : FormulaId) → i < length s.decisions.now → Contains (decisions_of s) (formula_at (bank_of s) (get_or s.decisions.now i d))
  chosen_at i d h = there_at s.decisions.now i d h

  pub settled_at : (i : ℕ) (d : FormulaId) → i < length s.formulas.now → Contains (settled_ones s) (formula_at (bank_of s) (get_or s.formulas.now i d))
  settled_at i d h = there_at s.formulas.now i d h

  pub none_decided : (known : List Formula) → AreDecided known (first_decisions s 0)
  none_decided known p c = absurd (contains_none p c)

  pub all_decided : (known : List Formula) (n : ℕ) → length s.decisions.now ≤ n → AreDecided known (first_decisions s n) → AreDecided known (decisions_of s)
  all_decided known n h d = subst (λ fs. AreDecided known (formulas_at (bank_of s) fs)) (take_all n s.decisions.now h) d

  pub choice_among : IsSetting s → (p : Formula) → Contains (decisions_of s) p → IsAmong s p
  choice_among h p c = record {
    told = λ x t.
        let r = from_collected told_in (settled_ones s) p (subst (λ fs. Contains fs p) h.decisions c) in
        subst (Contains (decisions_of s)) (told_alone r.0 p r.2 x t) c;
  }

  pub decided_total : (r : Reaching) → IsState s r → AreDecided (reached_in s r) (decisions_of s) → IsTotal (reached_in s r)
  decided_total r h d p o = d p (h.decisions p o)

  pub decided_in_more : (known more ps : List Formula) → Includes more known → AreDecided known ps → AreDecided more ps
  decided_in_more known more ps i d p c = ⊎_elim (λ k. inl (i p k)) (λ k. inr (i (neg p) k)) (d p c)

  -- the next decision is decided too
  pub one_more_decided : (known : List Formula) (n : ℕ) (f : Formula) → IsNext s n f → AreDecided known (first_decisions s n) → Contains known f → AreDecided known (first_decisions s (n + 1))
  one_more_decided known n f next d c =
      one_more (bank_of s) (λ p. Contains known p ⊎ Contains known (neg p)) s.decisions.now n next.0 (slice_get_within s.decisions.now n next.0 next.1) d
      (subst (λ q. Contains known (formula_at (bank_of s) q) ⊎ Contains known (neg (formula_at (bank_of s) q))) (sym (get_or_from_slice_get s.decisions.now n next.0 next.0 next.1))
      (⊎_elim (λ e. inl (subst (Contains known) e c)) (λ e. inr (subst (Contains known) e c)) next.2))

  -- ---- the next decision

  next_is : (n : ℕ) → n < length s.decisions.now → slice_get s.decisions.now n ≡ Some (get_or s.decisions.now n (record { 0 = 0 }))
  next_is n h = slice_get-get_or s.decisions.now n (record { 0 = 0 }) h

  pub next_chosen : (n : ℕ) → n < length s.decisions.now → IsNext s n (formula_at (bank_of s) (get_or s.decisions.now n (record { 0 = 0 })))
  next_chosen n h = (get_or s.decisions.now n (record { 0 = 0 }), next_is n h, inl refl)

  pub next_negation : (n : ℕ) → n < length s.decisions.now → (f : Formula) → f ≡ neg (formula_at (bank_of s) (get_or s.decisions.now n (record { 0 = 0 }))) → IsNext s n f
  next_negation n h f e = (get_or s.decisions.now n (record { 0 = 0 }), next_is n h, inr e)

  pub side_decided : (known : List Formula) (n : ℕ) → n < length s.decisions.now →
      Contains known (formula_at (bank_of s) (get_or s.decisions.now n (record { 0 = 0 }))) ⊎ Contains known (neg (formula_at (bank_of s) (get_or s.decisions.now n (record { 0 = 0 })))) →
      AreDecided known (first_decisions s n) → AreDecided known (first_decisions s (n + 1))
  side_decided known n h c d = ⊎_elim
      (λ k. one_more_decided known n (formula_at (bank_of s) (get_or s.decisions.now n (record { 0 = 0 }))) (next_chosen n h) d k)
      (λ k. one_more_decided known n (neg (formula_at (bank_of s) (get_or s.decisions.now n (record { 0 = 0 })))) (next_negation n h (neg (formula_at (bank_of s) (get_or s.decisions.now n (record { 0 = 0 })))) refl) d k)
      c

  pub next_among : IsSetting s → (n : ℕ) (f : Formula) → IsNext s n f → IsAmong s f
  next_among h n f next =
      let within = slice_get_within s.decisions.now n next.0 next.1 in
      let there = subst (λ q. Contains (decisions_of s) (formula_at (bank_of s) q)) (get_or_from_slice_get s.decisions.now n next.0 (record { 0 = 0 }) next.1) (chosen_at n (record { 0 = 0 }) within) in
      let among = choice_among h (formula_at (bank_of s) next.0) there in
      ⊎_elim (λ e. subst (IsAmong s) (sym e) among) (λ e. among_negation s (formula_at (bank_of s) next.0) f e among) next.2

  -- ---- the formulas that are settled

  pub settled_among : IsSetting s → (f : Formula) → Contains (settled_ones s) f → IsAmong s f
  settled_among h f c = record { told = λ p t. subst (λ fs. Contains fs p) (sym h.decisions) (to_collected told_in (settled_ones s) f p c t) }
