-- The context of a body: a constant for each of its locals, and what values a structure gives these.
use Rattle.std.specs.Prelude.{◌≡◌, ℕ, ◌+◌, List, [], ◌∷◌, map, false}
use Rattle.ss_core.specs.declared.names.Ty.{Ty}
use Rattle.ss_core.specs.Tree.{ClassTree, BodyTree}
use Rattle.ss_store_rules.specs.declared.Value.{Value as ObjectValue}
use Rattle.ss_store_rules.specs.Locals.{local_types}
use Rattle.ss_logic.specs.Values.{Structure}
use Rattle.ss_logic.specs.Terms.{Constant, Term, app, sort_of_type, constant_value}
use Rattle.ss_logic.specs.Express.{One, Context}
use Rattle.ss_logic_means.specs.Means.{standing}

-- a constant for each of these types, of its sort, with numbers from this one on
abbrev pub constants_from : ℕ → List Ty → List Term
constants_from k [] = []
constants_from k (t ∷ ts) = app (Constant (sort_of_type t) k) [] ∷ constants_from (k + 1) ts

-- where a condition of the body stands between these stores: each local is the constant with its number
abbrev pub body_context : List ClassTree → BodyTree → Term → Term → Context
body_context cs b now entry = record {
  classes = cs;
  now = now;
  entry = entry;
  inside_old = false;
  types = local_types b;
  locals = map One (constants_from 0 (local_types b));
  bound = 0;
}

-- the structure gives those constants these values
abbrev pub GivesFrom : Structure → ℕ → List Ty → List ObjectValue → Type 0
GivesFrom m k [] [] = Unit {0}
GivesFrom m k [] (v ∷ vs) = ⊥
GivesFrom m k (t ∷ ts) [] = ⊥
GivesFrom m k (t ∷ ts) (v ∷ vs) = (constant_value m (sort_of_type t) k ≡ standing v) × GivesFrom m (k + 1) ts vs
