-- Formed core programs.
use Rattle.std.specs.Prelude.{◌≡◌, ℕ, List, [], ◌∷◌, count_by, Bool, true, false, not, ◌==◌, ◌&&◌, ◌||◌, Some, None, is_none, option_to_list}
use Rattle.std.specs.List.{list_all}
use Rattle.ss_core.specs.declared.names.Ty.{Ty}
use Rattle.ss_core.specs.declared.names.Ty.TheVariants as ty
use Rattle.ss_core.specs.Tree.{LocalTree, BodyTree, CoreTree}
use Rattle.ss_core.specs.Chain.{is_declared, IsChain, NoAlso, IsWithinLimits}
use Rattle.ss_store_rules.specs.Admissible.{invariants, AreAdmissible}
use Rattle.ss_store_rules.specs.Locals.{is_variable, each, targets_only}
use Rattle.ss_store_rules.specs.Typed.{are_declared, is_field, is_local, is_constructor_of, body_at, is_typed, has_exposable, is_entry, is_exit, is_named, is_invariant}
use Rattle.ss_store_rules.specs.Paths.{reaches_end}
use Rattle.ss_store_rules.specs.Assigned.{reads_what_is_assigned, names_its_exposes}
use Rattle.ss_store_rules.specs.NonNull.{keeps_nulls_out}
use Rattle.ss_store_rules.specs.Construction.{requires_nothing_of_this, starts_in_order, has_opening, if_delayed, has_delayed_base, keeps_this_in, packs_at_returns, returns_with_fields, if_undelayed, writes_this_first, is_ready_with_fields}
use Rattle.ss_store_rules.specs.Tables.{AreTables}

-- a constructor has a `this` and no result, and constructors alone are delayed
abbrev pub has_flags : BodyTree → Bool
has_flags b = (not b.flags.ctor || not b.flags.is_static && is_none b.result) && (not b.flags.delayed || b.flags.ctor)

pub record IsFormedBody (c : CoreTree) (b : BodyTree) : Type 0 where
  -- it is of a declared class
  pub class : is_declared c.classes b.class ≡ true
  pub flags : has_flags b ≡ true
  -- its locals have types of the table, and none has that of null
  pub params : list_all (is_local c.classes) b.params ≡ true
  pub locals : list_all (is_local c.classes) b.locals ≡ true
  pub result : are_declared c.classes (option_to_list b.result) ≡ true
  -- its contract, over its arguments and its result
  pub entry : list_all (is_entry c.classes b) b.entry ≡ true
  pub exit : list_all (is_exit c.classes b) b.exit ≡ true
  pub named : list_all (is_named c.classes b) b.named ≡ true
  -- its statements have their types
  pub typed : each (is_typed c b) b.code ≡ true
  -- what is unpacked from a declared class, packed as one, or named by a loop as exposed at one, is of that class or below
  pub exposed : each (has_exposable c.classes b) b.code ≡ true
  -- neither an argument nor the result is assigned
  pub targets : each (targets_only (is_variable b)) b.code ≡ true
  -- its end can't be reached
  pub returns : reaches_end b.code ≡ false
  -- no local is read before it is assigned
  pub assigned : reads_what_is_assigned b ≡ true
  -- each expose that a loop names encloses it
  pub exposes : names_its_exposes b ≡ true
  -- no value that may be null goes where none is wanted
  pub nulls : keeps_nulls_out c b ≡ true
  -- a written condition at entry says nothing of the `this` of a constructor
  pub requires_of_this : requires_nothing_of_this b ≡ true
  -- where `base(..)` and `ready this` stand, and what stands before them
  pub order : starts_in_order c b ≡ true
  pub opening : has_opening c b ≡ true
  -- the constructor above a delayed one is delayed
  pub delayed_base : if_delayed b (has_delayed_base c b) ≡ true
  -- the `this` of a delayed constructor doesn't get out
  pub delayed_this : if_delayed b (each keeps_this_in b.code) ≡ true
  -- it is packed only directly before a return
  pub delayed_pack : if_delayed b (packs_at_returns b.class b.code) ≡ true
  -- and has the fields of its class and of those above it there
  pub delayed_fields : if_delayed b (returns_with_fields c b) ≡ true
  -- one that isn't delayed first gives its `this` the fields of the class
  pub undelayed_this : if_undelayed b (writes_this_first b) ≡ true
  pub undelayed_fields : if_undelayed b (is_ready_with_fields c b) ≡ true

abbrev pub is_int_array : Ty → Bool
is_int_array (ty.Ref t non_null) = t.0 == 1
is_int_array t = false

-- Main has no parameter, or one for the array of the input
abbrev pub are_main_params : List LocalTree → Bool
are_main_params [] = true
are_main_params (l ∷ []) = is_int_array l.ty
are_main_params (l ∷ m ∷ ls) = false

pub record IsMain (b : BodyTree) : Type 0 where
  pub static : b.flags.is_static ≡ true
  pub params : are_main_params b.params ≡ true
  pub result : b.result ≡ None

pub record IsFormed (c : CoreTree) : Type 0 where
  -- the classes above a class are in range and end in `object`
  pub chain : IsChain c.classes
  -- no type stands beside the classes above
  pub beside : NoAlso c.classes
  -- there are not too many classes, nor fields of one object
  pub limits : IsWithinLimits c.classes
  -- fields are never of the type of null, and those of references alone are marked
  pub fields : list_all (λ t. list_all (is_field c.classes) t.fields) c.classes ≡ true
  -- invariants are truth values over `this`, and speak of what it has and owns
  pub invariants : (t : ℕ) → list_all (is_invariant c.classes t) (invariants c.classes t) ≡ true
  pub admissible : AreAdmissible c.classes
  -- each class has one constructor, and its table of methods
  pub constructors : (t : ℕ) → is_declared c.classes t ≡ true → count_by (is_constructor_of t) c.bodies ≡ 1
  pub tables : AreTables c
  pub bodies : (n : ℕ) (b : BodyTree) → body_at c n ≡ Some b → IsFormedBody c b
  -- the number of Main is that of a body
  pub main : (b : BodyTree) × (body_at c c.main ≡ Some b) × IsMain b
