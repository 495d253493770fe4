-- What a step of a run may do to the store.
use Rattle.std.specs.Prelude.{◌≡◌, ℕ, ℤ, List, Ok}
use Rattle.ss_core.specs.Tree.{ClassTree}
use Rattle.ss_store_rules.specs.declared.Value.{Value}
use Rattle.ss_store_rules.specs.Store.{Object}
use Rattle.ss_store_rules.specs.Good.{Invariants}
use Rattle.ss_store_rules.specs.Changes.{unpack_of, pack_of, write_of, write_element_of, new_object_of, new_array_of, ready_of}

-- one change, whose checks hold
pub data IsChanged (cs : List ClassTree) (holds : Invariants) (s s' : List Object) : Type 0 where
  Unpack : (v : Value) (t : ℕ) → unpack_of cs s v t ≡ Ok s' → IsChanged cs holds s s'
  Pack : (v : Value) (t : ℕ) → pack_of cs holds s v t ≡ Ok s' → IsChanged cs holds s s'
  Write : (w : Value) (f : ℕ) (v : Value) → write_of cs s w f v ≡ Ok s' → IsChanged cs holds s s'
  WriteElement : (a : Value) (i : ℤ) (v : Value) → write_element_of s a i v ≡ Ok s' → IsChanged cs holds s s'
  NewObject : (t : ℕ) → s' ≡ new_object_of cs s t → IsChanged cs holds s s'
  NewArray : (t : ℕ) (n : ℤ) → new_array_of s t n ≡ Ok s' → IsChanged cs holds s s'
  Ready : (o : ℕ) → s' ≡ ready_of s o → IsChanged cs holds s s'
