-- Each change of a store leaves it older.
use Rattle.std.proofs.Common.{List, sym, subst}
use Rattle.ss_core.specs.Tree.{ClassTree}
use Rattle.ss_store_rules.specs.Store.{Object}
use Rattle.ss_store_rules.specs.Good.{Invariants}
use Rattle.ss_machine_typed.specs.Older.{IsOlder}
use Rattle.ss_machine_typed.specs.Changes.{IsChanged, Unpack, Pack, Write, WriteElement, NewObject, NewArray, Ready}
use Rattle.ss_machine_typed.proofs.Older.{older_unpack, older_pack, older_write, older_write_element, older_new_object, older_new_array, older_ready}

pub older_change : (cs : List ClassTree) (holds : Invariants) (s s' : List Object) → IsChanged cs holds s s' → IsOlder s s'
older_change cs holds s s' (Unpack v t h) = older_unpack cs s v t s' h
older_change cs holds s s' (Pack v t h) = older_pack cs holds s v t s' h
older_change cs holds s s' (Write w f v h) = older_write cs s w f v s' h
older_change cs holds s s' (WriteElement a i v h) = older_write_element s a i v s' h
older_change cs holds s s' (NewObject t h) = subst (IsOlder s) (sym h) (older_new_object cs s t)
older_change cs holds s s' (NewArray t n h) = older_new_array s t n s' h
older_change cs holds s s' (Ready o h) = subst (IsOlder s) (sym h) (older_ready s o)
