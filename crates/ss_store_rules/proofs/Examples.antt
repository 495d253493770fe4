-- Changes of small stores, computed.
use Rattle.std.proofs.Common.{◌≡◌, ℕ, zero, suc, ◌+◌, ◌*◌, pos, negsuc, refl, sym, subst, List, [], ◌∷◌, Bool, true, false, Some, Ok, Err}
use Rattle.std.specs.Prelude.{slice_get}
use Rattle.ss_core.specs.declared.names.Kind.TheVariants as kind
use Rattle.ss_core.specs.declared.names.Mark.TheVariants as mark
use Rattle.ss_core.specs.declared.names.Ty.TheVariants as ty
use Rattle.ss_core.specs.Tree.{ClassTree}
use Rattle.ss_core.specs.Chain.{levels, most_levels, below, IsChain}
use Rattle.ss_core.proofs.Chains.{ends_if_declared}
use Rattle.ss_store_rules.specs.declared.Value.{Value}
use Rattle.ss_store_rules.specs.declared.Value.TheVariants as value
use Rattle.ss_store_rules.specs.declared.Owner.{Owner}
use Rattle.ss_store_rules.specs.declared.Owner.TheVariants as owner
use Rattle.ss_store_rules.specs.Store.{Object}
use Rattle.ss_store_rules.specs.Good.{IsGood}
use Rattle.ss_store_rules.proofs.StaysGood.{IsGood-empty, IsGood-new_object, IsGood-pack}
use Rattle.ss_store_rules.specs.Changes.{owned_by, unpack_of, pack_of, write_of, write_element_of, capture_of, join_of, new_object, new_object_of, new_array_of, ready_of}

-- class 4 has an int and two fields for objects of class 6, one of them owned; class 6 is below it and has a peer
classes : List ClassTree
classes =
    record {
      name = [];
      above = 0;
      also = [];
      fields = record { name = []; ty = ty.Int; mark = mark.Plain } ∷ record { name = []; ty = ty.Ref (record { 0 = 6 }) false; mark = mark.Rep } ∷ [];
      invariants = [];
      table = [];
    }
    ∷ record {
      name = [];
      above = 4;
      also = [];
      fields = record { name = []; ty = ty.Ref (record { 0 = 6 }) false; mark = mark.Peer } ∷ [];
      invariants = [];
      table = [];
    }
    ∷ []

holds : List Object → ℕ → ℕ → Bool
holds s o t = true

-- an object of class 4 at this level, with this second field
part : Value → ℕ → Bool → Owner → Object
part v level committed w = record {
  class = 4;
  fields = record { field = 0; content = value.Int (pos 0) } ∷ record { field = 1; content = v } ∷ [];
  elements = [];
  level = level;
  committed = committed;
  owner = w;
  ready = false;
}

-- an object of class 6 with this peer
node : Value → ℕ → Bool → Owner → Object
node v level committed w = record {
  class = 6;
  fields = record { field = 0; content = value.Int (pos 0) } ∷ record { field = 1; content = value.Null } ∷ record { field = 2; content = v } ∷ [];
  elements = [];
  level = level;
  committed = committed;
  owner = w;
  ready = false;
}

-- ---- one object

new_one : new_object_of classes [] 4 ≡ part value.Null 0 false (owner.Group 0) ∷ []
unfolding classes part levels most_levels
new_one = refl

packs : pack_of classes holds (part value.Null 0 false (owner.Group 0) ∷ []) (value.Obj 0) 4 ≡ Ok (part value.Null 4 false (owner.Group 0) ∷ [])
unfolding classes holds part
packs = refl

packs_once : pack_of classes holds (part value.Null 4 false (owner.Group 0) ∷ []) (value.Obj 0) 4 ≡ Err kind.PackLevel
unfolding classes part
packs_once = refl

no_write : write_of classes (part value.Null 4 false (owner.Group 0) ∷ []) (value.Obj 0) 0 (value.Int (pos 1)) ≡ Err kind.WriteLevel
unfolding classes part below levels most_levels
no_write = refl

unpacks : unpack_of classes (part value.Null 4 false (owner.Group 0) ∷ []) (value.Obj 0) 4 ≡ Ok (part value.Null 0 false (owner.Group 0) ∷ [])
unfolding classes part
unpacks = refl

unpacks_once : unpack_of classes (part value.Null 0 false (owner.Group 0) ∷ []) (value.Obj 0) 4 ≡ Err kind.UnpackLevel
unfolding classes part
unpacks_once = refl

no_unpack_of_null : unpack_of classes (part value.Null 4 false (owner.Group 0) ∷ []) value.Null 4 ≡ Err kind.Null
no_unpack_of_null = refl

-- the fields of the class come before those of the class above
new_node : new_object_of classes [] 6 ≡ node value.Null 0 false (owner.Group 0) ∷ []
unfolding classes node levels most_levels
new_node = refl

-- ---- owners

-- a write of the rep field captures the whole group
captures : write_of classes (part value.Null 0 false (owner.Group 0) ∷ node value.Null 6 false (owner.Group 1) ∷ node (value.Obj 1) 6 false (owner.Group 1) ∷ []) (value.Obj 0) 1 (value.Obj 2)
    ≡ Ok (part (value.Obj 2) 0 false (owner.Group 0) ∷ node value.Null 6 false (owned_by 0 4) ∷ node (value.Obj 1) 6 false (owned_by 0 4) ∷ [])
unfolding classes part node below levels most_levels
captures = refl

-- what another object owns isn't captured
no_capture : capture_of (part value.Null 0 false (owner.Group 0) ∷ part (value.Obj 2) 0 false (owner.Group 1) ∷ node value.Null 6 false (owned_by 1 4) ∷ []) 0 4 2 ≡ Err kind.RepOwner
unfolding part node
no_capture = refl

-- what is owned is committed with its owner
commits : pack_of classes holds (part (value.Obj 1) 0 false (owner.Group 0) ∷ node value.Null 6 false (owned_by 0 4) ∷ []) (value.Obj 0) 4
    ≡ Ok (part (value.Obj 1) 4 false (owner.Group 0) ∷ node value.Null 6 true (owned_by 0 4) ∷ [])
unfolding classes holds part node
commits = refl

-- it is to be at its full level
no_pack : pack_of classes holds (part (value.Obj 1) 0 false (owner.Group 0) ∷ node value.Null 4 false (owned_by 0 4) ∷ []) (value.Obj 0) 4 ≡ Err kind.PackOwned
unfolding classes holds part node
no_pack = refl

no_unpack : unpack_of classes (part (value.Obj 1) 4 false (owner.Group 0) ∷ node value.Null 6 true (owned_by 0 4) ∷ []) (value.Obj 1) 6 ≡ Err kind.UnpackCommitted
unfolding classes part node
no_unpack = refl

-- the group of the written object gets the owner of the value where that isn't committed
joins : join_of (part (value.Obj 1) 0 false (owner.Group 0) ∷ node value.Null 6 false (owned_by 0 4) ∷ node value.Null 0 false (owner.Group 2) ∷ []) 2 1
    ≡ Ok (part (value.Obj 1) 0 false (owner.Group 0) ∷ node value.Null 6 false (owned_by 0 4) ∷ node value.Null 0 false (owned_by 0 4) ∷ [])
unfolding part node
joins = refl

no_join : join_of (part (value.Obj 1) 4 false (owner.Group 0) ∷ node value.Null 6 true (owned_by 0 4) ∷ node value.Null 0 false (owner.Group 2) ∷ []) 2 1 ≡ Err kind.PeerOwner
unfolding part node
no_join = refl

-- ---- arrays

-- an array of class 5, with elements of class 4
array : List Value → Object
array es = record {
  class = 5;
  fields = [];
  elements = es;
  level = 5;
  committed = false;
  owner = owner.Group 0;
  ready = true;
}

new_pair : new_array_of [] 5 (pos 2) ≡ Ok (array (value.Null ∷ value.Null ∷ []) ∷ [])
unfolding array
new_pair = refl

no_length : new_array_of [] 5 (negsuc 0) ≡ Err kind.NegativeLength
no_length = refl

writes : write_element_of (array (value.Null ∷ value.Null ∷ []) ∷ []) (value.Obj 0) (pos 1) (value.Obj 3) ≡ Ok (array (value.Null ∷ value.Obj 3 ∷ []) ∷ [])
unfolding array
writes = refl

no_index : write_element_of (array (value.Null ∷ value.Null ∷ []) ∷ []) (value.Obj 0) (pos 2) value.Null ≡ Err kind.Index
unfolding array
no_index = refl

no_negative_index : write_element_of (array (value.Null ∷ []) ∷ []) (value.Obj 0) (negsuc 0) value.Null ≡ Err kind.Index
unfolding array
no_negative_index = refl

-- ---- ready

readies : ready_of (array [] ∷ []) 0 ≡ array [] ∷ []
unfolding array
readies = refl

-- ---- good stores

ends_at : (k : ℕ) (c : ClassTree) → slice_get classes k ≡ Some c → below classes (4 + 2 * k) 0 ≡ true
unfolding classes below levels most_levels
ends_at zero c e = refl
ends_at (suc zero) c e = refl
ends_at (suc (suc k)) c e = cc

chain : IsChain classes
unfolding classes
chain = record {
  numbers = refl;
  ends = ends_if_declared classes ends_at;
}

same_holds : (s s' : List Object) (o t : ℕ) → holds s o t ≡ holds s' o t
unfolding holds
same_holds s s' o t = refl

good_new : IsGood classes holds (new_object_of classes [] 4)
unfolding classes holds
good_new = IsGood-new_object classes chain holds (λ s s' o t l g same. same_holds s s' o t) [] (IsGood-empty classes holds) (λ s o t u. refl) 4 refl

new_class : (o : ℕ) (x : Object) → value.Obj 0 ≡ value.Obj o → slice_get (new_object_of classes [] 4) o ≡ Some x → below classes x.class 4 ≡ true
unfolding classes below levels most_levels
new_class o x at e =
    let first : 0 ≡ o = cc in
    let e' : Some (new_object classes 4 0) ≡ Some x = subst (λ n. slice_get (new_object_of classes [] 4) n ≡ Some x) (sym first) e in
    let same : new_object classes 4 0 ≡ x = cc in
    subst (λ y. below classes y.class 4 ≡ true) same refl

good_packed : IsGood classes holds (part value.Null 4 false (owner.Group 0) ∷ [])
unfolding classes
good_packed =
    IsGood-pack classes chain holds (λ s s' o t l g same. same_holds s s' o t) (new_object_of classes [] 4) good_new (value.Obj 0) 4 refl new_class (Ok tt) (part value.Null 4 false (owner.Group 0) ∷ [])
    (subst (λ s. pack_of classes holds s (value.Obj 0) 4 ≡ Ok (part value.Null 4 false (owner.Group 0) ∷ [])) (sym new_one) packs)
