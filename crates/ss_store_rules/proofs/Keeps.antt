-- Each change of a store keeps it good, for every program whose invariants are admissible.
use Rattle.std.specs.Prelude.{slice_get, Result, Ok}
use Rattle.std.proofs.Common.{◌≡◌, ℕ, ℤ, List, true, false, Some, sym, subst}
use Rattle.ss_core.specs.Tree.{ClassTree}
use Rattle.ss_core.specs.Chain.{is_declared}
use Rattle.ss_store_rules.specs.declared.Value.{Value}
use Rattle.ss_store_rules.specs.declared.Refused.{Refused}
use Rattle.ss_store_rules.specs.Store.{Object}
use Rattle.ss_store_rules.specs.Numbers.{fits}
use Rattle.ss_store_rules.specs.Changes.{is_array, field_class, IsChange, unpack_of, pack_of, capture_of, join_of, write_of, write_element_of, new_object_of, new_array_of, ready_of}
use Rattle.ss_store_rules.specs.Good.{IsReady, IsGood}
use Rattle.ss_store_rules.specs.Admissible.{invariants_hold}
use Rattle.ss_store_rules.specs.Keeps.{Keeps, IsOf, MayStandIn, IsElement, IsUnpacked, HasItsFields}
use Rattle.ss_store_rules.proofs.Admissible.{IsLocal-invariants, IsFree-invariants}
use Rattle.ss_store_rules.proofs.StaysGood.{IsGood-unpack, IsGood-pack, IsGood-capture, IsGood-join, IsGood-write, IsGood-write_element, IsGood-new_object, IsGood-new_array, IsGood-ready}

module _ (cs : List ClassTree) (s s' : List Object) where
  pub Keeps-same : s' ≡ s → Keeps cs s s'
  Keeps-same same chain admissible good = subst (IsGood cs (invariants_hold cs)) (sym same) good

  module _ (r : Result (Unit {0}) Refused) where
    pub Keeps-unpack : (v : Value) (t : ℕ) → IsChange s s' r (unpack_of cs s v t) → is_declared cs t ≡ true → Keeps cs s s'
    Keeps-unpack v t is declared chain admissible good = IsGood-unpack cs chain (invariants_hold cs) (IsLocal-invariants cs admissible) s good v t declared r s' is

    pub Keeps-pack : (v : Value) (t : ℕ) → IsChange s s' r (pack_of cs (invariants_hold cs) s v t) → is_declared cs t ≡ true → IsOf cs s v t → Keeps cs s s'
    Keeps-pack v t is declared has chain admissible good = IsGood-pack cs chain (invariants_hold cs) (IsLocal-invariants cs admissible) s good v t declared has r s' is

    pub Keeps-capture : (o t e : ℕ) → IsChange s s' r (capture_of s o t e) → (x : Object) → IsUnpacked cs s o t x → Keeps cs s s'
    Keeps-capture o t e is x free chain admissible good = IsGood-capture cs chain (invariants_hold cs) (IsLocal-invariants cs admissible) s good o t e x free.0 free.1 r s' is

    pub Keeps-join : (o e : ℕ) → IsChange s s' r (join_of s o e) → (x : Object) → slice_get s o ≡ Some x → x.committed ≡ false → Keeps cs s s'
    Keeps-join o e is x ex uncommitted chain admissible good = IsGood-join cs chain (invariants_hold cs) (IsLocal-invariants cs admissible) s good o e x ex uncommitted r s' is

    pub Keeps-write : (w : Value) (f : ℕ) (v : Value) → IsChange s s' r (write_of cs s w f v) → IsOf cs s w (field_class cs f) → MayStandIn cs s f v → Keeps cs s s'
    Keeps-write w f v is has may chain admissible good = IsGood-write cs chain (invariants_hold cs) (IsLocal-invariants cs admissible) s good w f v has may.typed may.ready may.non_null r s' is

    pub Keeps-write_element : (a : Value) (i : ℤ) (v : Value) → IsChange s s' r (write_element_of s a i v) → IsElement cs s a v → IsReady s v → Keeps cs s s'
    Keeps-write_element a i v is typed ready chain admissible good = IsGood-write_element cs chain (invariants_hold cs) (IsLocal-invariants cs admissible) s good a i v typed ready r s' is

  pub Keeps-new_object : (c : ℕ) → s' ≡ new_object_of cs s c → is_declared cs c ≡ true → Keeps cs s s'
  Keeps-new_object c same declared chain admissible good =
      subst (IsGood cs (invariants_hold cs)) (sym same) (IsGood-new_object cs chain (invariants_hold cs) (IsLocal-invariants cs admissible) s good (IsFree-invariants cs) c declared)

  pub Keeps-new_array : (t : ℕ) (n : ℤ) → new_array_of s t n ≡ Ok s' → fits n ≡ true → is_array cs t ≡ true → Keeps cs s s'
  Keeps-new_array t n is short array chain admissible good =
      IsGood-new_array cs chain (invariants_hold cs) (IsLocal-invariants cs admissible) s good (IsFree-invariants cs) t array n short s' is

  pub Keeps-ready : (o : ℕ) → s' ≡ ready_of s o → HasItsFields cs s o → Keeps cs s s'
  Keeps-ready o same whole chain admissible good =
      subst (IsGood cs (invariants_hold cs)) (sym same) (IsGood-ready cs chain (invariants_hold cs) (IsLocal-invariants cs admissible) s good o whole)
