-- Instances made in a bank, and lists that they are added to.
use Rattle.std.proofs.Common.{◌≡◌, ℕ, ◌+◌, ◌<◌, List, [], ◌∷◌, ◌++◌, length, take, get_or, refl, sym, ◌∙◌, ap, subst, Result, Ok, Err, Option, Some, None}
use Rattle.std.specs.Prelude.{IfOk, IfSome, OnOk, option_map}
use Rattle.std.proofs.lemmas.List.{map_push, take_more}
use Rattle.std.proofs.lemmas.List.Elements.{filter_map-append}
use Rattle.ss_core.specs.Tree.{ClassTree}
use Rattle.ss_logic.specs.Formulas.{Formula}
use Rattle.ss_logic.specs.Asked as spec
use Rattle.ss_logic.specs.Asked.{said, all_said}
use Rattle.ss_logic.specs.Occurring.{with_formulas}
use Rattle.ss_terms.specs.declared.forms.TermId.{TermId}
use Rattle.ss_terms.specs.declared.forms.FormulaId.{FormulaId}
use Rattle.ss_terms.specs.Forms.{Forms, term_at, terms_at, formula_at, HasTerm, HasTerms, HasFormula, IsFormulaNumber, IsGrown}
use Rattle.ss_terms.proofs.Grown.{HasTerms-grown, terms_at-grown}
use Rattle.ss_terms_puts.proofs.Putting.{AreTermsBelow-push}
use Rattle.ss_rules_asked.specs.declared.asked.Argument.{Argument}
use Rattle.ss_rules_asked.specs.declared.asked.Asked.{Asked}
use Rattle.ss_rules_asked.specs.Numbers.{argument_at, arguments_at, asked_at, asked_in, HasArguments, HasAsked}
use Rattle.ss_rules_asked.proofs.Grown.{argument_at-grown, HasArguments-get, asked_at-grown, HasAsked-get}
use Rattle.ss_rules_occurring.specs.declared.found.FormulaList.{FormulaList}
use Rattle.ss_rules_occurring.specs.Found.{formulas_of, Holds, HasFound}
use Rattle.ss_rules_occurring.proofs.Growing.{formulas_of-grown}
use Rattle.ss_rules_occurring.proofs.Sought.{with_formulas-append}
use Rattle.ss_rules.specs.Said.{with_said}

-- ---- one more argument

pub arguments_next : (a b c : Forms) (xs : List Argument) (ts more : List TermId) (i : ℕ) (d : Argument) (t : TermId) → IsGrown a b → IsGrown b c → HasArguments a xs → i < length xs → more ≡ ts ++ t ∷ [] →
    HasTerms b ts → terms_at b ts ≡ arguments_at a (take i xs) → term_at c t ≡ argument_at b (get_or xs i d) → terms_at c more ≡ arguments_at a (take (i + 1) xs)
arguments_next a b c xs ts more i d t g k h within e has are is =
    ap (terms_at c) e
    ∙ map_push (term_at c) ts t
    ∙ ap (λ us. us ++ term_at c t ∷ []) (terms_at-grown b c k ts has ∙ are)
    ∙ ap (λ u. arguments_at a (take i xs) ++ u ∷ []) (is ∙ argument_at-grown a b g (get_or xs i d) (HasArguments-get a xs i d h within))
    ∙ sym (map_push (argument_at a) (take i xs) (get_or xs i d))
    ∙ ap (arguments_at a) (sym (take_more xs i d within))

pub terms_pushed : (b c : Forms) (ts more : List TermId) (t : TermId) → IsGrown b c → more ≡ ts ++ t ∷ [] → HasTerms b ts → HasTerm c t → HasTerms c more
terms_pushed b c ts more t g e has at = subst (HasTerms c) (sym e) (AreTermsBelow-push (length c.terms) ts t (HasTerms-grown b c g ts has) at)

-- ---- an instance

pub number_is : (b : Forms) (o : Option Formula) (r : Option FormulaId) → IsFormulaNumber b o r → option_map (formula_at b) r ≡ o
number_is b None r h = ap (option_map (formula_at b)) h
number_is b (Some x) r (f, e, has, is) = ap (option_map (formula_at b)) e ∙ ap Some is

pub number_has : (b : Forms) (o : Option Formula) (r : Option FormulaId) → IsFormulaNumber b o r → IfSome r (HasFormula b)
number_has b None r h = subst (λ x. IfSome x (HasFormula b)) (sym h) tt
number_has b (Some x) r (f, e, has, is) = subst (λ y. IfSome y (HasFormula b)) (sym e) has

pub ok_number : {E : Type 0} (r : Result (Option FormulaId) E) (b : Forms) (x y : Option Formula) → x ≡ y → IfOk r (IsFormulaNumber b x) → IfOk r (IsFormulaNumber b y)
ok_number (Ok o) b x y e h = subst (λ z. IsFormulaNumber b z o) e h
ok_number (Err z) b x y e h = tt

-- ---- one more instance

pub ok_holds_in : {A E : Type 0} (r : Result A E) (a b c : Forms) (start s : FormulaList) (o x : Option Formula) → IsGrown a b → HasFound a start → o ≡ x → OnOk r (Holds c s (with_said (formulas_of b start) o)) → OnOk r (Holds c s (with_said (formulas_of a start) x))
ok_holds_in (Ok u) a b c start s o x g h e k = record { marked = k.marked; has = k.has; are = k.are ∙ ap (λ fs. with_said fs o) (formulas_of-grown a b start g h) ∙ ap (with_said (formulas_of a start)) e }
ok_holds_in (Err z) a b c start s o x g h e k = tt

one_said : (cs : List ClassTree) (fs : List Formula) (x : spec.Asked) (o : Option Formula) → said cs x ≡ o → with_formulas fs (all_said cs (x ∷ [])) ≡ with_said fs o
one_said cs fs x None e = rw e refl
one_said cs fs x (Some f) e = rw e refl

with_all_said : (cs : List ClassTree) (fs : List Formula) (xs : List spec.Asked) (x : spec.Asked) → with_formulas fs (all_said cs (xs ++ x ∷ [])) ≡ with_said (with_formulas fs (all_said cs xs)) (said cs x)
with_all_said cs fs xs x =
    ap (with_formulas fs) (filter_map-append (said cs) xs (x ∷ []))
    ∙ with_formulas-append fs (all_said cs xs) (all_said cs (x ∷ []))
    ∙ one_said cs (with_formulas fs (all_said cs xs)) x (said cs x) refl

-- ---- one more of a list

pub said_next : (cs : List ClassTree) (a b c : Forms) (start : List Formula) (s after : FormulaList) (xs : List Asked) (i : ℕ) (d : Asked) → IsGrown a b → HasAsked a xs → i < length xs →
    Holds b s (with_formulas start (all_said cs (asked_in a (take i xs)))) → Holds c after (with_said (formulas_of b s) (said cs (asked_at b (get_or xs i d)))) →
    Holds c after (with_formulas start (all_said cs (asked_in a (take (i + 1) xs))))
said_next cs a b c start s after xs i d g h within before next =
    let at = HasAsked-get a xs i d h within in
    subst (Holds c after)
    (ap (λ fs. with_said fs (said cs (asked_at b (get_or xs i d)))) before.are
    ∙ ap (λ x. with_said (with_formulas start (all_said cs (asked_in a (take i xs)))) (said cs x)) (asked_at-grown a b g (get_or xs i d) at.0 at.1)
    ∙ sym (with_all_said cs start (asked_in a (take i xs)) (asked_at a (get_or xs i d)))
    ∙ ap (λ ys. with_formulas start (all_said cs ys)) (sym (map_push (asked_at a) (take i xs) (get_or xs i d)) ∙ ap (asked_in a) (sym (take_more xs i d within))))
    next
