-- What the rules say is true in every structure, or wherever the store is good.
use Rattle.std.proofs.Common.{◌≡◌, List, [], ◌∷◌, true, false, Option, Some, None, Result, Ok, Err, refl, sym, subst}
use Rattle.std.specs.Prelude.{IfOk, IfSome}
use Rattle.ss_core.specs.Tree.{ClassTree}
use Rattle.ss_core.specs.Chain.{IsChain, NoAlso}
use Rattle.ss_logic.specs.Values.{Structure}
use Rattle.ss_logic.specs.Terms.{Term}
use Rattle.ss_logic.specs.Formulas.{Good, Formula, True, IsValid, atom}
use Rattle.ss_logic.specs.declared.RuleName.TheVariants as every
use Rattle.ss_logic.specs.declared.GoodRule.TheVariants as good
use Rattle.ss_logic.specs.GoodRules.{good_instance_of}
use Rattle.ss_logic.proofs.Ruling.{instance_of_true}
use Rattle.ss_logic.proofs.Goods.{good_instance_true}
use Rattle.ss_logic.specs.Invariants.{invariants_of}
use Rattle.ss_logic_means.specs.Scenes.{AreInvariants}
use Rattle.ss_logic_means.proofs.Invariants.{invariants_true}
use Rattle.ss_terms.specs.declared.forms.FormulaId.{FormulaId}
use Rattle.ss_terms.specs.Forms.{Forms, formula_at, IsFormulaNumber}
use Rattle.ss_rules.specs.declared.names.RuleName.{RuleName}
use Rattle.ss_rules.specs.declared.names.RuleName.TheVariants as rule
use Rattle.ss_rules.specs.Instances.{of_store, sentence_of, is_everywhere, store_is_good}

pub everywhere_valid : (cs : List ClassTree) (name : RuleName) (ts : List Term) → is_everywhere name ≡ true → IsChain cs → NoAlso cs → (f : Formula) → sentence_of cs name ts ≡ Some f → IsValid cs [] f
everywhere_valid cs rule.Read ts is chain none f e m h = instance_of_true cs m chain none every.Read ts f e
everywhere_valid cs rule.Fresh ts is chain none f e m h = instance_of_true cs m chain none every.Fresh ts f e
everywhere_valid cs rule.Class ts is chain none f e m h = instance_of_true cs m chain none every.Class ts f e
everywhere_valid cs rule.Split ts is chain none f e m h = instance_of_true cs m chain none every.Split ts f e
everywhere_valid cs rule.Apart ts is chain none f e m h = instance_of_true cs m chain none every.Apart ts f e
everywhere_valid cs rule.Quorem ts is chain none f e m h = instance_of_true cs m chain none every.Quorem ts f e
everywhere_valid cs rule.Bool ts is chain none f e m h = instance_of_true cs m chain none every.Bool ts f e
everywhere_valid cs name ts is chain none f e m h = absurd (let no : ⊥ = cc in no)

of_store_valid : (cs : List ClassTree) (sentence : Term → List Term → Option Formula) →
    ((m : Structure) (s : Term) (ts : List Term) (f : Formula) → sentence s ts ≡ Some f → True cs m [] (atom Good (s ∷ [])) → True cs m [] f) →
    (ts : List Term) (f : Formula) → of_store sentence ts ≡ Some f → IsValid cs (store_is_good ts) f
of_store_valid cs sentence follows [] f e m h = absurd (let no : ⊥ = cc in no)
of_store_valid cs sentence follows (s ∷ ts) f e m h = follows m s ts f e h.0

pub in_good_stores_valid : (cs : List ClassTree) (name : RuleName) (ts : List Term) → is_everywhere name ≡ false → IsChain cs → NoAlso cs → AreInvariants cs → (f : Formula) → sentence_of cs name ts ≡ Some f → IsValid cs (store_is_good ts) f
in_good_stores_valid cs rule.Invariants ts is chain none are f e = of_store_valid cs (invariants_of cs) (λ m s us g same there. invariants_true cs chain none are m s g us same there) ts f e
in_good_stores_valid cs rule.Full ts is chain none are f e = of_store_valid cs (good_instance_of cs good.Full) (λ m s us g same there. good_instance_true cs none m good.Full s us g same there) ts f e
in_good_stores_valid cs rule.Owned ts is chain none are f e = of_store_valid cs (good_instance_of cs good.Owned) (λ m s us g same there. good_instance_true cs none m good.Owned s us g same there) ts f e
in_good_stores_valid cs rule.Marks ts is chain none are f e = of_store_valid cs (good_instance_of cs good.Marks) (λ m s us g same there. good_instance_true cs none m good.Marks s us g same there) ts f e
in_good_stores_valid cs rule.Typed ts is chain none are f e = of_store_valid cs (good_instance_of cs good.Typed) (λ m s us g same there. good_instance_true cs none m good.Typed s us g same there) ts f e
in_good_stores_valid cs rule.Ready ts is chain none are f e = of_store_valid cs (good_instance_of cs good.Ready) (λ m s us g same there. good_instance_true cs none m good.Ready s us g same there) ts f e
in_good_stores_valid cs name ts is chain none are f e = absurd (let no : ⊥ = cc in no)

-- what is so of the formula, where there is one, is so of the formula that its number stands for
of_number : (b : Forms) (P : Formula → Type 0) (p : Option Formula) (o : Option FormulaId) → IsFormulaNumber b p o → ((f : Formula) → p ≡ Some f → P f) → IfSome o (λ f. P (formula_at b f))
of_number b P None None h k = tt
of_number b P None (Some x) h k = absurd (let no : ⊥ = cc in no)
of_number b P (Some y) None h k = absurd (let e = h.1 in let no : ⊥ = cc in no)
of_number b P (Some y) (Some x) h k =
    let e = h.1 in
    let same : x ≡ h.0 = cc in
    subst (λ z. P (formula_at b z)) (sym same) (subst P (sym h.3) (k y refl))

pub of_result : {E : Type 0} (b : Forms) (P : Formula → Type 0) (p : Option Formula) (r : Result (Option FormulaId) E) → IfOk r (λ o. IsFormulaNumber b p o) → ((f : Formula) → p ≡ Some f → P f) → IfOk r (λ o. IfSome o (λ f. P (formula_at b f)))
of_result b P p (Ok o) h k = of_number b P p o h k
of_result b P p (Err e) h k = tt
