-- What the invariants look at after a change.
use Rattle.std.proofs.Common.{◌≡◌, ℕ, List, [], ◌∷◌, ◌++◌, length, Bool, true, false, Some, refl, sym, ◌∙◌, ap, subst, arith, le_of_eq}
use Rattle.std.specs.Prelude.{slice_get}
use Rattle.std.proofs.lemmas.Option.{slice_get_within}
use Rattle.ss_core.specs.Tree.{ClassTree}
use Rattle.ss_core.specs.Chain.{below, IsChain}
use Rattle.ss_core.proofs.Chains.{below_trans}
use Rattle.ss_store_rules.specs.Store.{Object, slot_value, field_value}
use Rattle.ss_store_rules.specs.Changes.{packed, changed, field_class}
use Rattle.ss_store_rules.specs.Good.{Inside, Direct, Deeper, LooksSame, Invariants, IsGood}
use Rattle.ss_store_rules.proofs.Objects.{was, same_object, length-changed, length-pushed, old_below}

-- a change that leaves classes and values
pub record KeepsValues (f : ℕ → Object → Object) : Type 0 where
  pub class : (q : ℕ) (x : Object) → (f q x).class ≡ x.class
  pub fields : (q : ℕ) (x : Object) → (f q x).fields ≡ x.fields
  pub elements : (q : ℕ) (x : Object) → (f q x).elements ≡ x.elements

-- What is kept of the objects of before, from q on to what they become.
pub LooksSame-changed : (cs : List ClassTree) (f : ℕ → Object → Object) (s : List Object) (o t : ℕ) →
    ((q : ℕ) (x : Object) → (f q x).class ≡ x.class) → ((q : ℕ) (x : Object) → length (f q x).elements ≡ length x.elements) →
    ((x : Object) (g : ℕ) → slice_get s o ≡ Some x → below cs t (field_class cs g) ≡ true → field_value x g ≡ field_value (f o x) g) →
    ((q : ℕ) (x : Object) → Inside cs s o t q → slice_get s q ≡ Some x → (x.fields ≡ (f q x).fields) × (x.elements ≡ (f q x).elements)) →
    LooksSame cs s (changed f s) o t
LooksSame-changed cs f s o t class size own inside = record {
  allocated = le_of_eq (sym (length-changed f s));
  class = λ q x x' e e'. let w = was f s q x' e' in let same = same_object s q x w.0 e w.1 in ap (λ y. y.class) same ∙ sym (class q w.0) ∙ ap (λ y. y.class) w.2;
  size = λ q x x' e e'. let w = was f s q x' e' in let same = same_object s q x w.0 e w.1 in ap (λ y. length y.elements) same ∙ sym (size q w.0) ∙ ap (λ y. length y.elements) w.2;
  own = λ x x' g e e' b. let w = was f s o x' e' in let same = same_object s o x w.0 e w.1 in ap (λ y. field_value y g) same ∙ own w.0 g w.1 b ∙ ap (λ y. field_value y g) w.2;
  inside = λ q x x' i e e'.
      let w = was f s q x' e' in
      let same = same_object s q x w.0 e w.1 in
      let kept = inside q w.0 i w.1 in
      (ap (λ y. y.fields) same ∙ kept.0 ∙ ap (λ y. y.fields) w.2, ap (λ y. y.elements) same ∙ kept.1 ∙ ap (λ y. y.elements) w.2);
}

pub LooksSame-kept : (cs : List ClassTree) (f : ℕ → Object → Object) → KeepsValues f → (s : List Object) (o t : ℕ) → LooksSame cs s (changed f s) o t
LooksSame-kept cs f k s o t =
    LooksSame-changed cs f s o t k.class (λ q x. ap length (k.elements q x)) (λ x g _ _. ap (λ y. slot_value y g) (sym (k.fields o x))) (λ q x _ _. (sym (k.fields q x), sym (k.elements q x)))

pub LooksSame-pushed : (cs : List ClassTree) (s : List Object) (z : Object) (o t : ℕ) → LooksSame cs s (s ++ z ∷ []) o t
LooksSame-pushed cs s z o t = record {
  allocated = let l = length-pushed s z in omega (arith, l);
  class = λ q x x' e e'. ap (λ y. y.class) (same q x x' e e');
  size = λ q x x' e e'. ap (λ y. length y.elements) (same q x x' e e');
  own = λ x x' g e e' b. ap (λ y. field_value y g) (same o x x' e e');
  inside = λ q x x' i e e'. (ap (λ y. y.fields) (same q x x' e e'), ap (λ y. y.elements) (same q x x' e e'));
}
  where
    same : (q : ℕ) (x x' : Object) → slice_get s q ≡ Some x → slice_get (s ++ z ∷ []) q ≡ Some x' → x ≡ x'
    same q x x' e e' = same_object s q x x' e (old_below s z q x' (slice_get_within s q x e) e')

-- what is inside a level at which an object is packed is committed
pub inside_committed : (cs : List ClassTree) → IsChain cs → (holds : Invariants) (s : List Object) → IsGood cs holds s → (p u : ℕ) (y : Object) → slice_get s p ≡ Some y → packed cs y u ≡ true →
    {q : ℕ} → Inside cs s p u q → (x : Object) → slice_get s q ≡ Some x → x.committed ≡ true
inside_committed cs h holds s good p u y ey packed_ (Direct {q = q} {u = level} {x = x'} e own below_) x ex =
    let same : x' ≡ x = same_object s q x' x e ex in
    let c = (good q x' e).owned p level own y ey in
    subst (λ z. z.committed ≡ true) same (c ∙ below_trans cs h y.level u level packed_ below_)
inside_committed cs h holds s good p u y ey packed_ (Deeper {q = q} {r = r} {u = level} {x = x'} {y = z} within ez has e own) x ex =
    let same : x' ≡ x = same_object s q x' x e ex in
    let z_full : z.level ≡ z.class = (good r z ez).full (inside_committed cs h holds s good p u y ey packed_ within z ez) in
    let c = (good q x' e).owned r level own z ez in
    subst (λ w. w.committed ≡ true) same (c ∙ subst (λ l. below cs l level ≡ true) (sym z_full) has)

-- an object that isn't packed at a level of its class isn't committed
pub not_committed : (cs : List ClassTree) (holds : Invariants) (s : List Object) → IsGood cs holds s → (o t : ℕ) (x : Object) → slice_get s o ≡ Some x → packed cs x t ≡ false → below cs x.class t ≡ true → (b : Bool) → x.committed ≡ b → b ≡ false
not_committed cs holds s good o t x ex unpacked_ has false c = refl
not_committed cs holds s good o t x ex unpacked_ has true c = sym has ∙ ap (λ l. below cs l t) (sym ((good o x ex).full c)) ∙ unpacked_
