-- Chains, by what they join.
use Rattle.std.proofs.Common.{◌≡◌, ◌*◌, List, [], ◌∷◌, ◌++◌, length, refl, sym, ◌∙◌, ap, arith, Vec, Global, Result, Ok, Err}
use Rattle.std.specs.Prelude.{IfOk}
use Rattle.std.proofs.lemmas.List.{map_push}
use Rattle.ss_logic.specs.Formulas.{Formula, Literal, And, Or, Forall, Exists, formulas_from, formula_list}
use Rattle.ss_logic.specs.Express as spec
use Rattle.ss_terms.specs.Lists.{SmallVec}
use Rattle.ss_terms.specs.declared.forms.FormulaId.{FormulaId}
use Rattle.ss_terms.specs.declared.forms.Formula.TheVariants as form
use Rattle.ss_terms.specs.declared.forms.Formula.{Formula as Form}
use Rattle.ss_terms.specs.Forms.{Forms, formula_at, formulas_at, HasFormula, HasFormulas, IsFormulaForm, IsGrown}
use Rattle.ss_terms.proofs.Trees.{AreBelow-more}
use Rattle.ss_terms.proofs.Grown.{IsGrown-then, HasFormula-grown, formulas_at-grown}
use Rattle.ss_vcgen_express.specs.declared.meant.Meant.{Meant}
use Rattle.ss_vcgen_express.specs.declared.meant.Meant.TheVariants as meant
use Rattle.ss_vcgen_express.specs.Numbers.{meant_at, HasMeant, IsFormula, AreFormulas, IsMeant}
use Rattle.ss_vcgen_express.specs.Chains.{conjuncts, disjuncts}
use Rattle.ss_terms.proofs.Longer.{HasFormulas-push}

list_back : (fs : List Formula) → formula_list (formulas_from fs) ≡ fs
list_back [] = refl
list_back (f ∷ fs) = ap (λ gs. f ∷ gs) (list_back fs)

-- the parts of an `and` or an `or` that the bank has
module _ (b : Forms) (f : FormulaId) (n : Form) (parts : SmallVec FormulaId) (node : IsFormulaForm b f n) (within : HasFormula b f) where
  pub and_within : n ≡ form.And parts → HasFormulas b parts.items
  and_within is = AreBelow-more f.0 (length b.formulas * 2) (omega arith) parts.items (rw is at node.below)

  pub and_parts : n ≡ form.And parts → formulas_at b parts.items ≡ conjuncts (formula_at b f)
  and_parts is = rw (node.built, is, list_back (formulas_at b parts.items)) refl

  pub or_within : n ≡ form.Or parts → HasFormulas b parts.items
  or_within is = AreBelow-more f.0 (length b.formulas * 2) (omega arith) parts.items (rw is at node.below)

  pub or_parts : n ≡ form.Or parts → formulas_at b parts.items ≡ disjuncts (formula_at b f)
  or_parts is = rw (node.built, is, list_back (formulas_at b parts.items)) refl

and_more-is : (f g : Formula) → spec.and_more f g ≡ spec.and_of (conjuncts f ++ g ∷ [])
and_more-is (Literal holds p ts) g = refl
and_more-is (And fs) g = refl
and_more-is (Or fs) g = refl
and_more-is (Forall ss f) g = refl
and_more-is (Exists ss f) g = refl

or_more-is : (f g : Formula) → spec.or_more f g ≡ spec.or_of (disjuncts f ++ g ∷ [])
or_more-is (Literal holds p ts) g = refl
or_more-is (And fs) g = refl
or_more-is (Or fs) g = refl
or_more-is (Forall ss f) g = refl
or_more-is (Exists ss f) g = refl

-- the parts of a formula that was made, in each larger bank
pub parts_are : {E : Type 0} (r : Result (Vec FormulaId Global) E) (a : Forms) (f : FormulaId) (says : Forms → Formula) (op : Formula → List Formula) → IsFormula a f says → IfOk r (λ v. HasFormulas a v.items) →
    IfOk r (λ v. formulas_at a v.items ≡ op (formula_at a f)) → IfOk r (λ v. AreFormulas a v.items (λ b. op (says b)))
parts_are (Ok v) a f says op is h e = record { has = h; are = λ b k. formulas_at-grown a b k v.items h ∙ e ∙ ap op (sym (k.same_formulas f is.has) ∙ is.is b k) }
parts_are (Err z) a f says op is h e = tt

-- those of a chain are its own
pub all_parts : (a : Forms) (x : Meant) (fs : Vec FormulaId Global) → x ≡ meant.All fs → HasMeant a x → AreFormulas a fs.items (λ b. conjuncts (spec.said (meant_at b x)))
all_parts a x fs is h = record { has = rw is at h; are = λ b k. rw is (sym (list_back (formulas_at b fs.items))) }

pub any_parts : (a : Forms) (x : Meant) (fs : Vec FormulaId Global) → x ≡ meant.Any fs → HasMeant a x → AreFormulas a fs.items (λ b. disjuncts (spec.said (meant_at b x)))
any_parts a x fs is h = record { has = rw is at h; are = λ b k. rw is (sym (list_back (formulas_at b fs.items))) }

-- one more after the parts
module _ (a c : Forms) (grown : IsGrown a c) (x y : Forms → Formula) (v w : Vec FormulaId Global) (f : FormulaId) (last : IsFormula a f y) (pushed : w.items ≡ v.items ++ f ∷ []) where
  has_more : HasFormulas c v.items → HasFormulas c w.items
  has_more h = rw pushed (HasFormulas-push c v.items f h (HasFormula-grown a c grown f last.has))

  are_more : (op : Formula → List Formula) → AreFormulas c v.items (λ b. op (x b)) → (b : Forms) → IsGrown c b → formulas_at b w.items ≡ op (x b) ++ y b ∷ []
  are_more op h b k =
      ap (formulas_at b) pushed
      ∙ map_push (formula_at b) v.items f
      ∙ ap (λ l. l ++ formula_at b f ∷ []) (h.are b k)
      ∙ ap (λ z. op (x b) ++ z ∷ []) (last.is b (IsGrown-then a c b grown k))

  pub all_more : AreFormulas c v.items (λ b. conjuncts (x b)) → IsMeant c (meant.All w) (λ b. spec.Says (spec.and_more (x b) (y b)))
  all_more h = record { has = has_more h.has; is = λ b k. ap (λ l. spec.Says (spec.and_of l)) (are_more conjuncts h b k) ∙ ap (λ z. spec.Says z) (sym (and_more-is (x b) (y b))) }

  pub any_more : AreFormulas c v.items (λ b. disjuncts (x b)) → IsMeant c (meant.Any w) (λ b. spec.Says (spec.or_more (x b) (y b)))
  any_more h = record { has = has_more h.has; is = λ b k. ap (λ l. spec.Says (spec.or_of l)) (are_more disjuncts h b k) ∙ ap (λ z. spec.Says z) (sym (or_more-is (x b) (y b))) }
