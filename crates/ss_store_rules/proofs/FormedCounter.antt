-- A program with an invariant, a class below its class, a wrapper and calls, as a source of a few lines becomes one: each body is formed.
use Rattle.std.proofs.Common.{◌≡◌, refl, ℕ, List, [], ◌∷◌, true, false, Some, None}
use Rattle.std.specs.Prelude.{pos}
use Rattle.std.specs.List.{list_all}
use Rattle.ss_core.specs.declared.names.Place.{Place}
use Rattle.ss_core.specs.declared.names.Mark.TheVariants as mark
use Rattle.ss_core.specs.declared.names.Ty.{Ty}
use Rattle.ss_core.specs.declared.names.Ty.TheVariants as ty
use Rattle.ss_core.specs.declared.expr.Operator.TheVariants as op
use Rattle.ss_core.specs.Tree.{ClassTree, FieldTree, LocalTree, AtLevel, Unpacked, ThisUnowned, Defaults, OwnedFull, ExprTree, IntExpr, LocalExpr, FieldExpr, BinaryExpr, OldExpr, DefaultExpr, Dispatched, Base, BaseConstructor, AssignStmt, WriteStmt, NewStmt, CallStmt, UnpackStmt, PackStmt, PrintStmt, ReturnStmt, CodeTree, NoCode, Then, UptoOf, BodyTree, CoreTree}
use Rattle.ss_core.specs.Chain.{sub, below, levels, most_levels}
use Rattle.ss_store_rules.specs.Admissible.{is_admissible, invariants}
use Rattle.ss_store_rules.specs.Typed.{is_invariant}
use Rattle.ss_store_rules.specs.Tables.{StandsFor}
use Rattle.ss_store_rules.specs.Formed.{IsFormedBody}
use Rattle.ss_store_rules.specs.Admitted.{admitted}

abbrev at : Place
at = record { line = 1; column = 1 }

abbrev this : ExprTree
this = LocalExpr at 0

abbrev number : ℕ → ExprTree
number n = IntExpr at (pos n)

-- the field 0 of an expression
abbrev n_of : ExprTree → ExprTree
n_of e = FieldExpr at e 0

abbrev never_null : ℕ → Ty
never_null t = ty.Ref (record { 0 = t }) true

-- ---- classes: 4 with the field 0 and an invariant, 6 below it with the field 1, and 8 with Main. Names are left out.

abbrev a_class : ℕ → List FieldTree → List ExprTree → ℕ → ClassTree
a_class up fs es method = record {
  name = [];
  above = up;
  also = [];
  fields = fs;
  invariants = es;
  table = record { name = []; body = method } ∷ [];
}

abbrev an_int : FieldTree
an_int = record { name = []; ty = ty.Int; mark = mark.Plain }

abbrev is_not_negative : ExprTree
is_not_negative = BinaryExpr at op.LessEqual (number 0) (n_of this)

abbrev classes : List ClassTree
classes = a_class 0 (an_int ∷ []) (is_not_negative ∷ []) 1 ∷ a_class 4 (an_int ∷ []) [] 3 ∷ a_class 0 [] [] 5 ∷ []

-- ---- bodies

abbrev a_local : Ty → LocalTree
a_local t = record { name = []; ty = t; captured = false }

abbrev return : CodeTree
return = Then (ReturnStmt at None) NoCode

-- a constructor has the default contract, and ensures that n is 0
abbrev a_constructor : ℕ → List ExprTree → CodeTree → BodyTree
a_constructor t ensures_written code = record {
  class = t;
  name = [];
  params = [];
  locals = [];
  result = None;
  entry = DefaultExpr at Unpacked ∷ DefaultExpr at ThisUnowned ∷ DefaultExpr at (Defaults t) ∷ DefaultExpr at (OwnedFull t) ∷ [];
  exit = DefaultExpr at (AtLevel t) ∷ ensures_written;
  named = UptoOf this t ∷ [];
  flags = record {
    is_static = false;
    pure = false;
    ctor = true;
    delayed = true;
    wrapper = false;
  };
  code = code;
  place = at;
}

abbrev n_is_0 : ExprTree
n_is_0 = BinaryExpr at op.Equal (n_of this) (number 0)

abbrev constructor_of_4 : BodyTree
constructor_of_4 = a_constructor 4 (n_is_0 ∷ []) (Then (WriteStmt at this 0 mark.Plain 4 (number 0)) (Then (PackStmt at 0 4) return))

abbrev constructor_of_6 : BodyTree
constructor_of_6 = a_constructor 6 (n_is_0 ∷ []) (Then (CallStmt at None (BaseConstructor 0) []) (Then (WriteStmt at this 1 mark.Plain 6 (number 0)) (Then (PackStmt at 0 6) return)))

abbrev constructor_of_8 : BodyTree
constructor_of_8 = a_constructor 8 [] (Then (PackStmt at 0 8) return)

-- Inc requires n < 1000 and ensures n == old(n) + 1; it has one local for the object that it exposes
abbrev inc : ℕ → CodeTree → BodyTree
inc t inside = record {
  class = t;
  name = [];
  params = [];
  locals = a_local (never_null t) ∷ [];
  result = None;
  entry = DefaultExpr at (AtLevel t) ∷ BinaryExpr at op.Less (n_of this) (number 1000) ∷ [];
  exit = DefaultExpr at (AtLevel t) ∷ BinaryExpr at op.Equal (n_of this) (BinaryExpr at op.Add (OldExpr at (n_of this)) (number 1)) ∷ [];
  named = UptoOf this t ∷ [];
  flags = record {
    is_static = false;
    pure = false;
    ctor = false;
    delayed = false;
    wrapper = false;
  };
  code = Then (AssignStmt at 1 this) (Then (UnpackStmt at 1 t) inside);
  place = at;
}

abbrev inc_of_4 : BodyTree
inc_of_4 = inc 4 (Then (WriteStmt at this 0 mark.Plain 4 (BinaryExpr at op.Add (n_of this) (number 1))) (Then (PackStmt at 1 4) return))

-- the wrapper
abbrev inc_of_6 : BodyTree
inc_of_6 = inc 6 (Then (CallStmt at None (Base 1) []) (Then (PackStmt at 1 6) return))

-- c = new C(); c.Inc(); print c.n
abbrev main : BodyTree
main = record {
  class = 8;
  name = [];
  params = [];
  locals = a_local (never_null 6) ∷ [];
  result = None;
  entry = [];
  exit = [];
  named = [];
  flags = record {
    is_static = true;
    pure = false;
    ctor = false;
    delayed = false;
    wrapper = false;
  };
  code = Then (NewStmt at (Some 0) 6 []) (Then (CallStmt at None (Dispatched (LocalExpr at 0) 6 0) []) (Then (PrintStmt at (Some (n_of (LocalExpr at 0))) true) return));
  place = at;
}

abbrev program : CoreTree
program = record {
  classes = classes;
  bodies = constructor_of_4 ∷ inc_of_4 ∷ constructor_of_6 ∷ inc_of_6 ∷ constructor_of_8 ∷ main ∷ [];
  main = 5;
}

-- ---- each is formed

formed_constructor_of_4 : IsFormedBody program constructor_of_4
unfolding sub below levels most_levels
formed_constructor_of_4 = record {
  class = refl;
  flags = refl;
  params = refl;
  locals = refl;
  result = refl;
  entry = refl;
  exit = refl;
  named = refl;
  typed = refl;
  exposed = refl;
  targets = refl;
  returns = refl;
  assigned = refl;
  exposes = refl;
  nulls = refl;
  requires_of_this = refl;
  order = refl;
  opening = refl;
  delayed_base = refl;
  delayed_this = refl;
  delayed_pack = refl;
  delayed_fields = refl;
  undelayed_this = refl;
  undelayed_fields = refl;
}

formed_inc_of_4 : IsFormedBody program inc_of_4
unfolding sub below levels most_levels
formed_inc_of_4 = record {
  class = refl;
  flags = refl;
  params = refl;
  locals = refl;
  result = refl;
  entry = refl;
  exit = refl;
  named = refl;
  typed = refl;
  exposed = refl;
  targets = refl;
  returns = refl;
  assigned = refl;
  exposes = refl;
  nulls = refl;
  requires_of_this = refl;
  order = refl;
  opening = refl;
  delayed_base = refl;
  delayed_this = refl;
  delayed_pack = refl;
  delayed_fields = refl;
  undelayed_this = refl;
  undelayed_fields = refl;
}

formed_constructor_of_6 : IsFormedBody program constructor_of_6
unfolding sub below levels most_levels
formed_constructor_of_6 = record {
  class = refl;
  flags = refl;
  params = refl;
  locals = refl;
  result = refl;
  entry = refl;
  exit = refl;
  named = refl;
  typed = refl;
  exposed = refl;
  targets = refl;
  returns = refl;
  assigned = refl;
  exposes = refl;
  nulls = refl;
  requires_of_this = refl;
  order = refl;
  opening = refl;
  delayed_base = refl;
  delayed_this = refl;
  delayed_pack = refl;
  delayed_fields = refl;
  undelayed_this = refl;
  undelayed_fields = refl;
}

formed_inc_of_6 : IsFormedBody program inc_of_6
unfolding sub below levels most_levels
formed_inc_of_6 = record {
  class = refl;
  flags = refl;
  params = refl;
  locals = refl;
  result = refl;
  entry = refl;
  exit = refl;
  named = refl;
  typed = refl;
  exposed = refl;
  targets = refl;
  returns = refl;
  assigned = refl;
  exposes = refl;
  nulls = refl;
  requires_of_this = refl;
  order = refl;
  opening = refl;
  delayed_base = refl;
  delayed_this = refl;
  delayed_pack = refl;
  delayed_fields = refl;
  undelayed_this = refl;
  undelayed_fields = refl;
}

formed_constructor_of_8 : IsFormedBody program constructor_of_8
unfolding sub below levels most_levels
formed_constructor_of_8 = record {
  class = refl;
  flags = refl;
  params = refl;
  locals = refl;
  result = refl;
  entry = refl;
  exit = refl;
  named = refl;
  typed = refl;
  exposed = refl;
  targets = refl;
  returns = refl;
  assigned = refl;
  exposes = refl;
  nulls = refl;
  requires_of_this = refl;
  order = refl;
  opening = refl;
  delayed_base = refl;
  delayed_this = refl;
  delayed_pack = refl;
  delayed_fields = refl;
  undelayed_this = refl;
  undelayed_fields = refl;
}

formed_main : IsFormedBody program main
unfolding sub below levels most_levels
formed_main = record {
  class = refl;
  flags = refl;
  params = refl;
  locals = refl;
  result = refl;
  entry = refl;
  exit = refl;
  named = refl;
  typed = refl;
  exposed = refl;
  targets = refl;
  returns = refl;
  assigned = refl;
  exposes = refl;
  nulls = refl;
  requires_of_this = refl;
  order = refl;
  opening = refl;
  delayed_base = refl;
  delayed_this = refl;
  delayed_pack = refl;
  delayed_fields = refl;
  undelayed_this = refl;
  undelayed_fields = refl;
}

the_wrapper_stands_for_its_method : StandsFor inc_of_4 inc_of_6
the_wrapper_stands_for_its_method = record {
  params = refl;
  captured = refl;
  result = refl;
  static = refl;
  pure = refl;
  entry = refl;
  named = refl;
  more = [];
  exit = refl;
}

the_invariant : list_all (is_invariant classes 4) (invariants classes 4) ≡ true
unfolding below levels most_levels
the_invariant = refl

the_invariant_is_admissible : list_all (is_admissible classes 4) (invariants classes 4) ≡ true
unfolding below levels most_levels
the_invariant_is_admissible = refl

the_empty_input : admitted program [] ≡ true
the_empty_input = refl
