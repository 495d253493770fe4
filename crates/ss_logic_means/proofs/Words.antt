-- Whether an object is new, and whether its owner is a group.
use Rattle.std.proofs.Common.{◌≡◌, ℕ, List, [], ◌∷◌, ◌++◌, true, not, refl, sym, ◌∙◌, ap, subst}
use Rattle.std.specs.Prelude.{nat_lt}
use Rattle.std.proofs.lemmas.Bool.{false≢true}
use Rattle.ss_core.specs.declared.names.Place.{Place}
use Rattle.ss_core.specs.Tree.{ClassTree}
use Rattle.ss_store_rules.specs.declared.Value.{Value as ObjectValue}
use Rattle.ss_store_rules.specs.declared.Value.TheVariants as value
use Rattle.ss_store_rules.specs.Numbers.{Outcome}
use Rattle.ss_store_rules.specs.Reads as reads
use Rattle.ss_store_rules.specs.Reads.{object_at}
use Rattle.ss_store_rules.specs.Values as run
use Rattle.ss_logic.specs.Values.{reference, class_name, group_number, owner_pair, Thing, Heap, Value, thing, store, is_group, as_thing, as_store, Structure}
use Rattle.ss_logic.specs.Terms.{Term}
use Rattle.ss_logic.specs.Formulas.{Formula, neg}
use Rattle.ss_logic.specs.Objects.{owner_of_thing, objects_of}
use Rattle.ss_logic.proofs.Tabled.{count}
use Rattle.ss_logic.specs.Shapes.{owner_of, allocated, group}
use Rattle.ss_logic.specs.Express.{Meant, Says, over, not_null}
use Rattle.ss_logic_means.specs.Means.{standing}
use Rattle.ss_logic_means.proofs.Denoting.{V, M, D, R, neg_means, says_denotes, over_means, reads_then}
use Rattle.ss_logic_means.proofs.Operations.{Gives}
use Rattle.ss_logic_means.proofs.Classes.{IsReferenceOf, object_known, not_null_means}
use Rattle.ss_logic_means.proofs.States.{allocated_means}

group_owner : (next : ℕ) (w : Thing) → is_group w ≡ reads.is_group (owner_of_thing next w)
group_owner next (group_number g) = refl
group_owner next (owner_pair (reference o) (class_name t)) = refl
group_owner next w = refl

-- the owner of an object is a group
pub unowned_means : (cs : List ClassTree) (m : Structure) (e : List Value) (h : Heap) (s : Term) → V cs m e s ≡ store h → (t : Term) (o : ℕ) → nat_lt o h.next ≡ true → V cs m e t ≡ thing (reference o) →
    M cs m e (group (owner_of s t)) (reads.is_group (object_at (objects_of cs m.table h) o).owner)
unowned_means cs m e h s is_store t o l p =
    let same : is_group ((as_store (V cs m e s)).at (as_thing (V cs m e t))).owner ≡ reads.is_group (object_at (objects_of cs m.table h) o).owner =
    ap (λ v. is_group ((as_store v).at (as_thing (V cs m e t))).owner) is_store ∙ ap (λ v. is_group (h.at (as_thing v)).owner) p
    ∙ group_owner h.next (h.at (reference o)).owner ∙ ap (λ x. reads.is_group x.owner) (sym (object_known cs m e h o l)) in
    (λ q. sym same ∙ q, λ q. same ∙ q)

-- an object is new where it wasn't allocated at the entry
module _ (cs : List ClassTree) (m : Structure) (e : List Value) (now entry : Heap) (s0 : Term) (is_entry : V cs m e s0 ≡ store entry) where
  new_means : (t : Term) (o : ℕ) → V cs m e t ≡ thing (reference o) → M cs m e (neg (allocated s0 t)) (not (reads.is_allocated (objects_of cs m.table entry) o))
  new_means t o p =
      let same : nat_lt o entry.next ≡ reads.is_allocated (objects_of cs m.table entry) o = ap (λ n. nat_lt o n) (sym (count cs m.table entry)) in
      neg_means cs m e (allocated s0 t) (reads.is_allocated (objects_of cs m.table entry) o) (subst (λ b. M cs m e (allocated s0 t) b) same (allocated_means cs m e entry s0 is_entry t o p))

  abbrev pub new_value : Place → ObjectValue → Outcome
  new_value p v = run.and_then (run.object_of p v) (λ o. run.truth (not (reads.is_allocated (objects_of cs m.table entry) o)))

  new_rest : (p : Place) (x : Meant) (u : ObjectValue) → IsReferenceOf now u → D cs m e x (standing u) → R cs m e (not_null x ∷ []) (Says (over x (λ t. neg (allocated s0 t)))) (new_value p u)
  new_rest p x (value.Obj o) l d = (
    ((not_null_means cs m e now x (value.Obj o) l d).1 refl, tt),
    says_denotes cs m e (over x (λ t. neg (allocated s0 t))) (not (reads.is_allocated (objects_of cs m.table entry) o))
        (over_means cs m e x (λ t. neg (allocated s0 t)) (thing (reference o)) (not (reads.is_allocated (objects_of cs m.table entry) o)) d (λ t q. new_means t o q)),
  )
  new_rest p x value.Null l d = λ a. false≢true ((not_null_means cs m e now x value.Null l d).0 a.0)
  new_rest p x (value.Int n) l d = absurd l
  new_rest p x (value.Bool b) l d = absurd l

  pub new_reads : (p : Place) (ps : List Formula) (x : Meant) (r : Outcome) → Gives (IsReferenceOf now) r → R cs m e ps x r → R cs m e (ps ++ not_null x ∷ []) (Says (over x (λ t. neg (allocated s0 t)))) (run.and_then r (new_value p))
  new_reads p ps x r g rx = reads_then cs m e ps (not_null x ∷ []) x (Says (over x (λ t. neg (allocated s0 t)))) r (new_value p) rx (λ u is d. new_rest p x u (g u is) d)
