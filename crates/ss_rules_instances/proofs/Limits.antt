-- A program within the limits has few fields; and instances by their numbers.
use Rattle.std.proofs.Common.{◌≡◌, ℕ, suc, ◌+◌, ◌*◌, ◌^◌, ◌≤◌, List, [], ◌∷◌, length, Option, Some, None, Result, Ok, Err, refl, sym, ◌∙◌, ap, subst, arith}
use Rattle.std.specs.Prelude.{slice_get, sum_by, ◌==◌, if◌then◌else◌, IfOk}
use Rattle.std.proofs.lemmas.List.Sums.{sum_by-cons}
use Rattle.std.proofs.lemmas.List.{length-append}
use Rattle.ss_core.specs.Tree.{ClassTree, FieldTree}
use Rattle.ss_core.specs.Chain.{declared, above, levels, levels_from, most_levels, fields_of, field_count, all_fields, fields_from, fields_of_class, IsWithinLimits}
use Rattle.ss_core.proofs.Declared.{declared_at}
use Rattle.ss_logic.specs.Formulas.{Formula}
use Rattle.ss_terms.specs.declared.forms.FormulaId.{FormulaId}
use Rattle.ss_terms.specs.Forms.{Forms, IsFormulaNumber}
use Rattle.ss_terms.specs.Numbered.{IsNumberOf}

first_fields : (f : ℕ → ℕ) (t : ℕ) (ts : List ℕ) → f t ≤ sum_by f (t ∷ ts)
first_fields f t ts = let sum = sum_by-cons f t ts in omega arith

-- the fields that the class declares are among those of its objects
own_fields : (cs : List ClassTree) (t : ℕ) → length (fields_of (declared cs t)) ≤ field_count cs t
unfolding field_count levels most_levels
own_fields cs t = first_fields (λ level. length (fields_of (declared cs level))) t (if t == 0 then [] else levels_from cs 63 (above cs t))

declared_fields : (t : ℕ) (fs : List FieldTree) → length (fields_of_class t fs) ≡ length fs
declared_fields t [] = refl
declared_fields t (f ∷ fs) = ap suc (declared_fields t fs)

fields_bounded : (n t : ℕ) (cs : List ClassTree) → ((k : ℕ) (c : ClassTree) → slice_get cs k ≡ Some c → length c.fields ≤ n) → length (fields_from t cs) ≤ length cs * n
fields_bounded n t [] h = omega arith
fields_bounded n t (c ∷ cs) h =
    let here : length c.fields ≤ n = h 0 c refl in
    let rest = fields_bounded n (t + 2) cs (λ k d e. h (suc k) d e) in
    let own = declared_fields t c.fields in
    let whole = length-append (fields_of_class t c.fields) (fields_from (t + 2) cs) in
    omega (arith, here, rest, own, whole)

pub few_fields : (cs : List ClassTree) → IsWithinLimits cs → length (all_fields cs) ≤ 2 ^ 32
few_fields cs w =
    let each : (k : ℕ) (c : ClassTree) → slice_get cs k ≡ Some c → length c.fields ≤ 1024 = λ k c e.
    let own = own_fields cs (4 + 2 * k) in
    let most = w.fields (4 + 2 * k) in
    let same = ap (λ o. length (fields_of o)) (declared_at cs k ∙ e) in
    omega (arith, own, most, same) in
    let all = fields_bounded 1024 4 cs each in
    let few = w.classes in
    omega (arith, all, few)

numbered_as : (b : Forms) (o : Option FormulaId) (f : Option Formula) → IsNumberOf b o f → IsFormulaNumber b f o
numbered_as b None f h = subst (λ x. IsFormulaNumber b x None) (sym h) refl
numbered_as b (Some x) f h = subst (λ y. IsFormulaNumber b y (Some x)) (sym h.1) (x, refl, h.0, refl)

pub by_number : {E : Type 0} (b : Forms) (f : Option Formula) (r : Result (Option FormulaId) E) → IfOk r (λ o. IsNumberOf b o f) → IfOk r (λ o. IsFormulaNumber b f o)
by_number b f (Ok o) h = numbered_as b o f h
by_number b f (Err e) h = tt
