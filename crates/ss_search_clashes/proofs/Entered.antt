-- Values are entered at their classes one after the other.
use Rattle.std.proofs.Common.{◌≡◌, ◌≢◌, ℕ, ◌+◌, ◌≤◌, List, [], length, true, false, Option, Some, None, refl, sym, ◌∙◌, ap, subst, ◌⊎◌, ⊎_elim, Result, Ok, Err, arith}
use Rattle.std.specs.Prelude.{IfOk, OnOk}
use Rattle.std.proofs.lemmas.Bool.{true≢false, cases_lt}
use Rattle.ss_logic_means.specs.Steps.{is_value}
use Rattle.ss_terms.specs.declared.forms.TermId.{TermId}
use Rattle.ss_terms.specs.Forms.{Forms, term_at, HasTerm}
use Rattle.ss_terms.specs.Bank.{number}
use Rattle.ss_terms.proofs.Same.{term_id}
use Rattle.ss_equality_rules.specs.Equal.{class_number}
use Rattle.ss_search_procedure_rules.specs.Clashes.{Classing}
use Rattle.ss_search_clashes.specs.declared.signatures.Said.{Said}
use Rattle.ss_search_clashes.specs.Numbered.{IsClassing, AreValuesApart}
use Rattle.ss_search_clashes.specs.Says.{ValueKey, Sayings, said_of, IsStep}
use Rattle.ss_search_clashes.specs.Values.{IsEntered, AreEntered, AreOneClass}

-- ---- results

pub both_ok : {T E S : Type 0} (r : Result T E) (P Q : T → Type 0) → OnOk r S → IfOk r P → (S → (x : T) → P x → Q x) → IfOk r Q
both_ok (Ok x) P Q s h f = f s x h
both_ok (Err e) P Q s h f = tt

-- ---- one more term

module _ (b : Forms) (classes : List ℕ) where
  pub none_entered : (gs : Sayings) → gs ≡ [] → AreEntered b classes 0 gs
  none_entered gs e = subst (AreEntered b classes 0) (sym e) (record {
    all = λ t h v. absurd (omega (arith, h));
    there = λ n s h. absurd (nothing n s h);
    values = λ n s h. absurd (nothing n s h);
    right = λ n s h. absurd (nothing n s h);
  })
    where
      nothing : (n : ℕ) (s : Said) → said_of [] (ValueKey n) ≡ Some s → ⊥
      nothing n s h = let no : ◌≡◌ {A = Option Said} None (Some s) = h in cc

  module _ (t : TermId) (old new : Sayings) (entered : AreEntered b classes t.0 old) where
    pub passed_over : is_value (term_at b t) ≡ false → AreEntered b classes (t.0 + 1) old
    passed_over e = record {
      all = λ s h v. ⊎_elim (λ l. entered.all s l v) (λ g. absurd (true≢false (sym v ∙ ap (λ x. is_value (term_at b x)) (term_id s t (omega (arith, h, g))) ∙ e))) (cases_lt s.0 t.0);
      there = entered.there;
      values = entered.values;
      right = entered.right;
    }

    pub one_entered : HasTerm b t → is_value (term_at b t) ≡ true → IsStep old new (ValueKey (class_number classes t)) (record { place = t.0; holds = true }) → IsEntered new (class_number classes t) t.0 → AreEntered b classes (t.0 + 1) new
    one_entered h v step is = record {
      all = λ s l u. ⊎_elim
          (λ before. let r = entered.all s before u in (r.0, step.kept (ValueKey (class_number classes s)) r.0 r.1, r.2))
          (λ g. subst (λ (x : TermId). IsEntered new (class_number classes x) x.0) (term_id t s (omega (arith, l, g))) is)
          (cases_lt s.0 t.0);
      there = λ n s e. old_or_new (λ n s. HasTerm b (number s.place)) n s entered.there h e;
      values = λ n s e. old_or_new (λ n s. is_value (term_at b (number s.place)) ≡ true) n s entered.values v e;
      right = λ n s e. old_or_new (λ n s. class_number classes (number s.place) ≡ n) n s entered.right refl e;
    }
      where
        old_or_new : (P : ℕ → Said → Type 0) (n : ℕ) (s : Said) → ((n : ℕ) (s : Said) → said_of old (ValueKey n) ≡ Some s → P n s) → P (class_number classes t) (record { place = t.0; holds = true }) → said_of new (ValueKey n) ≡ Some s → P n s
        old_or_new P n s before here e = ⊎_elim
            (λ l. before n s l)
            (λ r.
            let keys : ValueKey (class_number classes t) ≡ ValueKey n = r.0 in
            let same : class_number classes t ≡ n = cc in
            subst (P n) r.1 (subst (λ x. P x (record { place = t.0; holds = true })) same here))
            (step.more (ValueKey n) s e)

    pub two_values : (class : Classing) → IsClassing b classes class → HasTerm b t → is_value (term_at b t) ≡ true → (s : TermId) → s.0 ≢ t.0 → IsEntered old (class_number classes t) s.0 → AreOneClass b class s t
    two_values class c h v s n (said, is, place) =
        let e : number said.place ≡ s = term_id (number said.place) s place in
        let there : HasTerm b s = subst (HasTerm b) e (entered.there (class_number classes t) said is) in
        record {
          left = there;
          right = h;
          left_value = subst (λ x. is_value (term_at b x) ≡ true) e (entered.values (class_number classes t) said is);
          right_value = v;
          same = c.at s there ∙ subst (λ x. class_number classes x ≡ class_number classes t) e (entered.right (class_number classes t) said is) ∙ sym (c.at t h);
          apart = n;
        }

  pub all_apart : (class : Classing) → IsClassing b classes class → (n : ℕ) (gs : Sayings) → length b.terms ≤ n → AreEntered b classes n gs → AreValuesApart b class
  all_apart class c n gs l entered s t hs ht vs vt e =
      let x = entered.all s (omega (arith, hs, l)) vs in
      let y = entered.all t (omega (arith, ht, l)) vt in
      let numbers : class_number classes s ≡ class_number classes t = sym (c.at s hs) ∙ e ∙ c.at t ht in
      let both : Some x.0 ≡ Some y.0 = sym x.1 ∙ ap (λ k. said_of gs (ValueKey k)) numbers ∙ y.1 in
      let same : x.0 ≡ y.0 = cc in
      sym x.2 ∙ ap (λ (z : Said). z.place) same ∙ y.2
