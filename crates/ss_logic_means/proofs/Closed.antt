-- Contexts of terms without bound names.
use Rattle.std.proofs.Common.{◌≡◌, ℕ, zero, suc, List, [], ◌∷◌, ◌++◌, length, map, Some, refl, sym, ◌∙◌, ap, subst}
use Rattle.std.specs.Prelude.{slice_get}
use Rattle.ss_core.specs.Tree.{ClassTree}
use Rattle.ss_store_rules.specs.declared.Value.{Value as ObjectValue}
use Rattle.ss_logic.specs.Values.{Heap, Value, Structure}
use Rattle.ss_logic.specs.Terms.{Term}
use Rattle.ss_logic.proofs.Truth.{closed_value}
use Rattle.ss_logic.specs.Express.{One, Context, choices, meant_or_null, local_meant}
use Rattle.ss_logic_means.specs.Means.{standing}
use Rattle.ss_logic_means.specs.Scenes.{HaveValues, IsStoreTerm, Stands, Stay}
use Rattle.ss_logic_means.proofs.Denoting.{D, one_denotes}

module _ (cs : List ClassTree) (m : Structure) where
  value_at : (ts : List Term) (vs : List ObjectValue) → HaveValues cs m ts vs → (x : ℕ) (v : ObjectValue) → slice_get vs x ≡ Some v → (e : List Value) → D cs m e (meant_or_null (slice_get (map One ts) x)) (standing v)
  value_at [] [] h x v is e = absurd (let no : ⊥ = cc in no)
  value_at [] (w ∷ vs) h x v is e = absurd h
  value_at (t ∷ ts) [] h x v is e = absurd h
  value_at (t ∷ ts) (w ∷ vs) h zero v is e =
      let same : w ≡ v = cc in
      subst (λ u. D cs m e (One t) (standing u)) same (one_denotes cs m e t (standing w) (closed_value cs m e t h.0 ∙ h.1))
  value_at (t ∷ ts) (w ∷ vs) h (suc x) v is e = value_at ts vs h.2 x v is e

  same_count : (ts : List Term) (vs : List ObjectValue) → HaveValues cs m ts vs → length (map One ts) ≡ length vs
  same_count [] [] h = refl
  same_count [] (w ∷ vs) h = absurd h
  same_count (t ∷ ts) [] h = absurd h
  same_count (t ∷ ts) (w ∷ vs) h = ap suc (same_count ts vs h.2)

  stay_at : (ts : List Term) (vs : List ObjectValue) → HaveValues cs m ts vs → (x : ℕ) (e : List Value) → Stay cs m e (choices (meant_or_null (slice_get (map One ts) x)))
  stay_at [] vs h x e = (λ more. refl, tt)
  stay_at (t ∷ ts) [] h x e = absurd h
  stay_at (t ∷ ts) (w ∷ vs) h zero e = (λ more. closed_value cs m (e ++ more) t h.0 ∙ sym (closed_value cs m e t h.0), tt)
  stay_at (t ∷ ts) (w ∷ vs) h (suc x) e = stay_at ts vs h.2 x e

pub closed_stands : (m : Structure) (c : Context) (now entry : Heap) (ts : List Term) (vs : List ObjectValue) → IsStoreTerm c.classes m c.now now → IsStoreTerm c.classes m c.entry entry → c.locals ≡ map One ts → HaveValues c.classes m ts vs → Stands m c now entry vs []
closed_stands m c now entry ts vs n s is h = record {
  now = λ more. closed_value c.classes m more c.now n.0 ∙ n.1;
  entry = λ more. closed_value c.classes m more c.entry s.0 ∙ s.1;
  count = ap length is ∙ same_count c.classes m ts vs h;
  locals = λ x v there more. subst (λ ls. D c.classes m more (meant_or_null (slice_get ls x)) (standing v)) (sym is) (value_at c.classes m ts vs h x v there more);
}

pub closed_stay : (m : Structure) (c : Context) (ts : List Term) (vs : List ObjectValue) → c.locals ≡ map One ts → HaveValues c.classes m ts vs → (x : ℕ) → Stay c.classes m [] (choices (local_meant c x))
closed_stay m c ts vs is h x = subst (λ ls. Stay c.classes m [] (choices (meant_or_null (slice_get ls x)))) (sym is) (stay_at c.classes m ts vs h x [])
