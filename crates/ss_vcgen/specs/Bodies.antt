-- Bodies, one after the other.
use Rattle.std.specs.Prelude.{◌≡◌, ℕ, ◌+◌, List, [], ◌∷◌, ◌++◌, map, length, take, Option, Some, None, is_some, if◌then◌else◌}
use Rattle.ss_core.specs.declared.names.Ty.{Ty}
use Rattle.ss_core.specs.Tree.{BodyTree}
use Rattle.ss_store_rules.specs.Locals.{argument_types}
use Rattle.ss_store_rules.specs.NonNull.{known_at_entry}
use Rattle.ss_logic.specs.Terms.{Term}
use Rattle.ss_logic.specs.Formulas.{Formula}
use Rattle.ss_logic.specs.Express.{element_sort}
use Rattle.ss_terms.specs.Forms.{Forms, IsGrown}
use Rattle.ss_vcgen_heaps.specs.Positions.{Position, Walk, Counters, Always, good, assume_all, new_term, with_new}
use Rattle.ss_vcgen_heaps.specs.Obligations.{argument_types_from, behind_all, enter_arguments}
use Rattle.ss_vcgen_builder.specs.declared.builder.Builder.{Builder}
use Rattle.ss_vcgen_builder.specs.Builder.{position_at, IsFine}
use Rattle.ss_vcgen_bodies.specs.Words.{entries_said}

-- nothing is known of the body
abbrev pub blank : BodyTree → Term → Counters → Position
blank b s n = record {
  locals = [];
  store = s;
  guard = Always;
  known = known_at_entry b;
  next = n;
  premises = [];
  listed = [];
}

-- The old builder has become the new one, which stands for this position. The whole trail of before stays, and the premises begin after it.
pub record Begins (old new : Builder) (says : Forms → Position) : Type 0 where
  pub fine : IsFine new
  pub grown : IsGrown old.bank new.bank
  pub is : (b : Forms) → IsGrown new.bank b → position_at b new ≡ says b
  pub first : new.first ≡ length old.trail.items
  pub before : take (length old.trail.items) new.trail.items ≡ old.trail.items

-- an argument is a new constant
abbrev pub argument_entered : Ty → Position → Position
argument_entered t k = record (with_new (element_sort (Some t)) k) { locals = k.locals ++ Some (new_term (element_sort (Some t)) k) ∷ [] }

-- the other locals have no values, nor has the result
abbrev pub locals_entered : BodyTree → Position → Position
locals_entered b k = record k { locals = k.locals ++ map (λ l. None) b.locals }

abbrev pub result_entered : Option Ty → Position → Position
result_entered r k = record k { locals = k.locals ++ (if is_some r then None ∷ [] else []) }

abbrev pub entered : BodyTree → Position → Position
entered b k = result_entered b.result (locals_entered b (enter_arguments (argument_types b) k))

-- what is known at the entry
abbrev pub entry_formulas : Walk → List Ty → Position → List Formula
entry_formulas w ts k = good k.store ∷ argument_types_from w k.store 0 ts k.locals ++ entries_said w k

abbrev pub entry_known : Walk → List Ty → Position → Position
entry_known w ts k = assume_all (entry_formulas w ts k) k

-- from a position of which nothing is known to after the code
abbrev pub filled : Walk → Position → Position
filled w k = behind_all w w.body.code (entry_known w (argument_types w.body) (entered w.body k))
