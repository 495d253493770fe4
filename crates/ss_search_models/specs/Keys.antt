-- What signatures stand for, and what was given to them.
use Rattle.std.specs.Prelude.{◌≡◌, ℕ, ◌==◌, List, [], ◌∷◌, map, Bool, false, ◌&&◌, Option, Some, None, if◌then◌else◌}
use Rattle.ss_logic.specs.Terms.{Symbol}
use Rattle.ss_logic.specs.Formulas.{Predicate}
use Rattle.ss_logic.specs.Equal.{same_symbol, same_predicate}
use Rattle.ss_logic_countermodels.specs.Refuting.{same_classes}
use Rattle.ss_terms.specs.Forms.{symbol_of, predicate_of}
use Rattle.ss_search_models.specs.declared.signatures.Signature.{Signature}
use Rattle.ss_search_models.specs.declared.signatures.Signature.TheVariants as signature
use Rattle.ss_search_models.specs.declared.signatures.Given.{Given}

pub data Key : Type 0 where
  FunctionKey : Symbol → List ℕ → Key
  AtomKey : Predicate → List ℕ → Key
  ValueKey : ℕ → Key

abbrev pub key_of : Signature → Key
key_of (signature.Function f ns) = FunctionKey (symbol_of f) ns.items
key_of (signature.Atom p ns) = AtomKey (predicate_of p) ns.items
key_of (signature.Value n) = ValueKey n

abbrev pub same_key : Key → Key → Bool
same_key (FunctionKey f ns) (FunctionKey g ks) = same_symbol f g && same_classes ns ks
same_key (AtomKey p ns) (AtomKey q ks) = same_predicate p q && same_classes ns ks
same_key (ValueKey n) (ValueKey k) = n == k
same_key x y = false

abbrev pub Givens : Type 0
Givens = List (Key × Given)

abbrev pub keyed : Signature × Given → Key × Given
keyed e = (key_of e.0, e.1)

abbrev pub givens_in : List (Signature × Given) → Givens
givens_in es = map keyed es

abbrev pub given_to : Givens → Key → Option Given
given_to [] k = None
given_to (e ∷ es) k = if same_key k e.0 then Some e.1 else given_to es k

-- what was given stays
abbrev pub Keeps : Givens → Givens → Type 0
Keeps old new = (k : Key) (g : Given) → given_to old k ≡ Some g → given_to new k ≡ Some g
