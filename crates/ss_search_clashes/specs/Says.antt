-- What formulas say of atoms at classes and of quantified formulas.
use Rattle.std.specs.Prelude.{◌≡◌, ℕ, ◌==◌, List, [], ◌∷◌, ◌⊎◌, map, Bool, true, false, ◌&&◌, Option, Some, None, if◌then◌else◌}
use Rattle.ss_logic.specs.Formulas.{Predicate, Formula, Literal, And, Or, Forall, Exists, neg}
use Rattle.ss_logic.specs.Equal.{same_predicate}
use Rattle.ss_logic_countermodels.specs.Refuting.{same_classes}
use Rattle.ss_terms.specs.declared.forms.FormulaId.{FormulaId}
use Rattle.ss_terms.specs.Forms.{Forms, predicate_of, formula_at, HasFormula}
use Rattle.ss_search_procedure_rules.specs.Clashes.{Classing, classes_in}
use Rattle.ss_search_clashes.specs.declared.signatures.Signature.{Signature}
use Rattle.ss_search_clashes.specs.declared.signatures.Signature.TheVariants as signature
use Rattle.ss_search_clashes.specs.declared.signatures.Said.{Said}

-- an atom at these classes of its arguments, a quantified formula by the number of its `forall`, or a class of values
pub data Key : Type 0 where
  AtomKey : Predicate → List ℕ → Key
  QuantifiedKey : ℕ → Key
  ValueKey : ℕ → Key

abbrev pub key_of : Signature → Key
key_of (signature.Atom p ns) = AtomKey (predicate_of p) ns.items
key_of (signature.Quantified n) = QuantifiedKey n
key_of (signature.Value n) = ValueKey n

abbrev pub same_key : Key → Key → Bool
same_key (AtomKey p ns) (AtomKey q ks) = same_predicate p q && same_classes ns ks
same_key (QuantifiedKey n) (QuantifiedKey k) = n == k
same_key (ValueKey n) (ValueKey k) = n == k
same_key x y = false

-- the formula says of this that it holds, or that it doesn't
abbrev pub Says : Forms → Classing → Formula → Key → Bool → Type 0
Says b class (Literal sign p ts) k holds = (k ≡ AtomKey p (classes_in class ts)) × (holds ≡ sign)
Says b class (And fs) k holds = ⊥
Says b class (Or fs) k holds = ⊥
Says b class (Forall ss f) k holds = (n : FormulaId) × HasFormula b n × (formula_at b n ≡ Forall ss f) × (k ≡ QuantifiedKey n.0) × (holds ≡ true)
Says b class (Exists ss f) k holds = (n : FormulaId) × HasFormula b n × (formula_at b n ≡ neg (Exists ss f)) × (k ≡ QuantifiedKey n.0) × (holds ≡ false)

-- ---- what was said

abbrev pub Sayings : Type 0
Sayings = List (Key × Said)

abbrev pub keyed : Signature × Said → Key × Said
keyed e = (key_of e.0, e.1)

abbrev pub sayings_in : List (Signature × Said) → Sayings
sayings_in es = map keyed es

abbrev pub said_of : Sayings → Key → Option Said
said_of [] k = None
said_of (e ∷ es) k = if same_key k e.0 then Some e.1 else said_of es k

-- it was said, somewhere
abbrev pub IsSaid : Sayings → Key → Bool → Type 0
IsSaid gs k holds = (i : ℕ) × (said_of gs k ≡ Some (record { place = i; holds = holds }))

-- at most this was said more
pub record IsStep (old new : Sayings) (k : Key) (said : Said) : Type 0 where
  pub kept : (x : Key) (s : Said) → said_of old x ≡ Some s → said_of new x ≡ Some s
  pub more : (x : Key) (s : Said) → said_of new x ≡ Some s → (said_of old x ≡ Some s) ⊎ ((k ≡ x) × (said ≡ s))
