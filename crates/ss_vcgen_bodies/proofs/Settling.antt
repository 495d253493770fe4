-- Arguments, one after the other.
use Rattle.std.proofs.Common.{◌≡◌, ℕ, ◌+◌, ◌<◌, ◌≤◌, List, [], ◌∷◌, ◌++◌, length, drop, get_or, refl, sym, ap, ◌∙◌, append_assoc}
use Rattle.std.proofs.lemmas.List.{append-nil, map_push, drop_more, drop_all}
use Rattle.ss_core.specs.declared.expr.Expr.{Expr}
use Rattle.ss_core.specs.View.{expr, exprs}
use Rattle.ss_core.specs.Tree.{ExprTree}
use Rattle.ss_logic.specs.Express.{One}
use Rattle.ss_terms.specs.declared.forms.TermId.{TermId}
use Rattle.ss_terms.specs.Forms.{Forms, term_at, HasTerms, IsGrown}
use Rattle.ss_terms.proofs.Grown.{IsGrown-then, HasTerms-grown}
use Rattle.ss_terms.proofs.Longer.{HasTerms-push}
use Rattle.ss_vcgen_heaps.specs.Positions.{Walk, meant_at, settled, term_for}
use Rattle.ss_vcgen_heaps.specs.Obligations.{settle_all, arguments_settled}
use Rattle.ss_vcgen_express.specs.Numbers.{IsTerm}
use Rattle.ss_vcgen_builder.specs.declared.builder.Builder.{Builder}
use Rattle.ss_vcgen_builder.specs.Builder.{position_at, IsFine, Becomes}
use Rattle.ss_vcgen_contracts.specs.Views.{ones_at, AreOnes}
use Rattle.ss_vcgen_bodies.specs.CallWords.{argument_sort}
use Rattle.ss_vcgen_statements.proofs.Steps.{Along, none_along, along_on, all_along}

module _ (s : Builder) (w : Forms → Walk) (es : List ExprTree) where
  -- the arguments before `rest` have these terms
  pub record Settled (t : Builder) (terms : List TermId) (rest : List ExprTree) : Type 0 where
    pub along : Along s t (λ b k. settle_all (w b) es k) (λ b k. settle_all (w b) rest k)
    pub has : HasTerms t.bank terms
    pub are : (b : Forms) → IsGrown t.bank b → ones_at b terms ++ arguments_settled (w b) rest (position_at b t) ≡ arguments_settled (w b) es (position_at b s)

  pub none_settled : IsFine s → Settled s [] es
  none_settled fine = record { along = none_along s (λ b k. settle_all (w b) es k) fine; has = tt; are = λ b k. refl }

  pub settled_on : (t u : Builder) (terms after : List TermId) (x : TermId) (e : ExprTree) (rest : List ExprTree) → Settled t terms (e ∷ rest) →
      Becomes t u (λ b. settled (meant_at (w b) e (position_at b t)) (argument_sort (w b) e) (position_at b t)) →
      IsTerm u.bank x (λ b. term_for (argument_sort (w b) e) (meant_at (w b) e (position_at b t)) (position_at b t)) → after ≡ terms ++ x ∷ [] → Settled u after rest
  settled_on t u terms after x e rest a q is more =
      let next = λ (b : Forms). settled (meant_at (w b) e (position_at b t)) (argument_sort (w b) e) (position_at b t) in
      let own = λ (b : Forms). term_for (argument_sort (w b) e) (meant_at (w b) e (position_at b t)) (position_at b t) in
      record {
        along = along_on s t u (λ b k. settle_all (w b) es k) (λ b k. settle_all (w b) (e ∷ rest) k) (λ b k. settle_all (w b) rest k) next a.along q (λ b k. refl);
        has = rw more (HasTerms-push u.bank terms x (HasTerms-grown t.bank u.bank q.grown terms a.has) is.has);
        are = λ b k.
            ap (λ ts. ones_at b ts ++ arguments_settled (w b) rest (position_at b u)) more
            ∙ ap (λ ms. ms ++ arguments_settled (w b) rest (position_at b u)) (map_push (λ t. One (term_at b t)) terms x)
            ∙ append_assoc (ones_at b terms) (One (term_at b x) ∷ []) (arguments_settled (w b) rest (position_at b u))
            ∙ ap (λ y. ones_at b terms ++ One y ∷ arguments_settled (w b) rest (position_at b u)) (is.is b k)
            ∙ ap (λ p. ones_at b terms ++ One (own b) ∷ arguments_settled (w b) rest p) (q.is b k)
            ∙ a.are b (IsGrown-then t.bank u.bank b q.grown k);
      }

  pub all_settled : (t : Builder) (terms : List TermId) → Settled t terms [] → Becomes s t (λ b. settle_all (w b) es (position_at b s))
  all_settled t terms a = all_along s t (λ b k. settle_all (w b) es k) (λ b k. settle_all (w b) [] k) (λ b k. refl) a.along

  pub settled_ones : (t : Builder) (terms : List TermId) → Settled t terms [] → AreOnes t.bank terms (λ b. arguments_settled (w b) es (position_at b s))
  settled_ones t terms a = record { has = a.has; are = λ b k. sym (append-nil (ones_at b terms)) ∙ a.are b k }

-- what is left of a list begins with its next one
pub rest_at : (es : List Expr) (i : ℕ) (e : Expr) → i < length es → e ≡ get_or es i e → exprs (drop i es) ≡ expr e ∷ exprs (drop (i + 1) es)
rest_at es i e at is = ap exprs (drop_more es i e at) ∙ ap (λ x. expr x ∷ exprs (drop (i + 1) es)) (sym is)

pub none_left : (i : ℕ) (es : List Expr) → length es ≤ i → exprs (drop i es) ≡ []
none_left i es h = ap exprs (drop_all i es h)
