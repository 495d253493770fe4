-- What a call leaves, in the order in which the code does it.
use Rattle.std.proofs.Common.{◌≡◌, List, [], ◌∷◌, map, Bool, true, false, refl, sym, ap, ◌∙◌, Option, Some, None}
use Rattle.std.specs.Prelude.{if◌then◌else◌}
use Rattle.ss_core.specs.declared.names.Ty.{Ty}
use Rattle.ss_core.specs.Tree.{BodyTree}
use Rattle.ss_logic.specs.declared.Sort.TheVariants as sort
use Rattle.ss_logic.specs.Terms.{Term}
use Rattle.ss_logic.specs.Formulas.{Formula}
use Rattle.ss_logic.specs.Express.{Meant, One}
use Rattle.ss_terms.specs.declared.forms.TermId.{TermId}
use Rattle.ss_terms.specs.Forms.{Forms, term_at, terms_at}
use Rattle.ss_vcgen_heaps.specs.Positions.{Position, Walk, good, assume, assume_all, set_store, new_term, with_new}
use Rattle.ss_vcgen_heaps.specs.Contracts.{contract_context, conditions}
use Rattle.ss_vcgen_heaps.specs.Obligations.{classes_of, result_term, with_result, assume_result, returned}
use Rattle.ss_vcgen_contracts.specs.declared.contract.Contract.{Contract}
use Rattle.ss_vcgen_contracts.specs.Views.{contract_of, ones_at}
use Rattle.ss_core.specs.View.{body}
use Rattle.ss_vcgen_heaps.specs.Contracts.{seen}
use Rattle.ss_vcgen_bodies.specs.CallWords.{result_said, changes_assumed, promises_assumed}
use Rattle.ss_vcgen_statements.proofs.InContexts.{IsAlike, alike}

pub assumed_alike : (fs : List Formula) (k : Position) → IsAlike (assume_all fs k) k
assumed_alike [] k = alike k
assumed_alike (f ∷ fs) k = let h = assumed_alike fs (assume f k) in record { locals = h.locals; store = h.store; known = h.known; guard = h.guard }

result_is : (t : Option Ty) (rs : List Term) (k : Position) → assume_all (result_said t k.store rs) k ≡ assume_result t rs k
result_is (Some t) (r ∷ rs) k = refl
result_is (Some t) [] k = refl
result_is None rs k = refl

pub ones_of : (b : Forms) (ts : List TermId) → ones_at b ts ≡ map One (terms_at b ts)
ones_of b [] = refl
ones_of b (t ∷ ts) = ap (λ ms. One (term_at b t) ∷ ms) (ones_of b ts)

-- a contract is of the body's own result
pub contract_result : (c : Contract) → (contract_of c).result ≡ c.body.now.result
contract_result c = if_seen c.seen
  where
    if_seen : (v : Bool) → (if v then seen (body c.body.now) else body c.body.now).result ≡ c.body.now.result
    if_seen true = refl
    if_seen false = refl

pub returned_at : (w : Walk) (callee : BodyTree) (arguments : List Meant) (k : Position) →
    promises_assumed (classes_of w) callee callee.result k.store arguments (result_term callee.result (with_new sort.Store k))
    (changes_assumed (classes_of w) callee k.store arguments (set_store (new_term sort.Store k) (with_result callee.result (with_new sort.Store k)))) ≡ returned w callee arguments k
returned_at w callee arguments k =
    let rs = result_term callee.result (with_new sort.Store k) in
    let z = new_term sort.Store k in
    let called = changes_assumed (classes_of w) callee k.store arguments (set_store z (with_result callee.result (with_new sort.Store k))) in
    let fs = conditions callee.exit (contract_context (classes_of w) callee z k.store arguments (map One rs)) in
    let x = assume_all fs (assume (good z) called) in
    ap (λ s. assume_all (result_said callee.result s rs) x) (sym (assumed_alike fs (assume (good z) called)).store) ∙ result_is callee.result rs x
