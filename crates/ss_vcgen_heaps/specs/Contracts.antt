-- Contracts as formulas: of a body, at its entry and where it is left, and as its callers see it.
use Rattle.std.specs.Prelude.{ℕ, List, [], ◌∷◌, ◌++◌, map, flat_map, length, drop, Bool, true, false, not, ◌&&◌, ◌==◌, Option, Some, None, option_map, option_to_list, if◌then◌else◌}
use Rattle.ss_core.specs.declared.names.Ty.{Ty}
use Rattle.ss_core.specs.declared.names.Ty.TheVariants as ty
use Rattle.ss_core.specs.Tree.{ClassTree, DefaultTree, AtLevel, ConsistentArgument, ExprTree, DefaultExpr, CalleeTree, Dispatched, Static, Base, BaseConstructor, LocalTree, NamedTree, FieldOf, AllOf, ElementsOf, UptoOf, BodyTree, CoreTree}
use Rattle.ss_core.specs.Chain.{levels}
use Rattle.ss_store_rules.specs.Locals.{types_of, this_types, local_types}
use Rattle.ss_store_rules.specs.Typed.{callee_of}
use Rattle.ss_logic.specs.Terms.{Term, sort_of_type}
use Rattle.ss_logic.specs.Formulas.{Formula}
use Rattle.ss_logic.specs.Shapes.{null_term, class_term, equal, differ, sub_atom, allocated, ready}
use Rattle.ss_logic.specs.Shapes as shape
use Rattle.ss_logic.specs.Express.{and_of, or_of, Choice, Meant, One, Either, Says, Context, meant, defined, not_null, default_of_sort, fits_int, holds_formula, local_meant}
use Rattle.ss_logic.specs.Frames.{NamedTerm, NamesField, NamesAll, NamesUpto, NamesElements, OwnerTerm, CallTerms}
use Rattle.ss_machine_rules.specs.Frame.{subject_of}

-- ---- types

-- an object of the class, which is there, and ready where that is asked
abbrev pub is_object : Bool → Term → ℕ → Term → List Formula
is_object asks_ready s t x = sub_atom (shape.type_of x) (class_term t) ∷ allocated s x ∷ (if asks_ready then ready s x ∷ [] else [])

-- The value is of the type, in the store. Of a truth value there is nothing to say.
abbrev pub is_of_type : Bool → Term → Ty → Term → List Formula
is_of_type asks_ready s ty.Int x = fits_int x ∷ []
is_of_type asks_ready s ty.Bool x = []
is_of_type asks_ready s ty.Null x = equal x null_term ∷ []
is_of_type asks_ready s (ty.Ref t non_null) x =
    if non_null then and_of (differ x null_term ∷ is_object asks_ready s t.0 x) ∷ []
    else or_of (equal x null_term ∷ and_of (is_object asks_ready s t.0 x) ∷ []) ∷ []

-- ---- where a contract stands

-- what locals of these types mean at an entry: the defaults of the types
abbrev pub defaults_meant : List Ty → List Meant
defaults_meant ts = map (λ t. One (default_of_sort (sort_of_type t))) ts

-- The conditions of a body between these stores, where its arguments and its result mean this. The other locals are as at an entry.
abbrev pub contract_context : List ClassTree → BodyTree → Term → Term → List Meant → List Meant → Context
contract_context cs b now entry arguments result = record {
  classes = cs;
  now = now;
  entry = entry;
  inside_old = false;
  types = local_types b;
  locals = arguments ++ defaults_meant (types_of b.locals) ++ result;
  bound = 0;
}

-- the result before there is one
abbrev pub no_result : BodyTree → List Meant
no_result b = defaults_meant (option_to_list b.result)

abbrev pub conditions : List ExprTree → Context → List Formula
conditions es c = map (λ e. holds_formula e c) es

-- ---- what may change

abbrev pub named_term : NamedTree → Formula → Term → NamedTerm
named_term (FieldOf e f) guard o = NamesField guard o f
named_term (AllOf e) guard o = NamesAll guard o
named_term (ElementsOf e) guard a = NamesElements guard a
named_term (UptoOf e t) guard o = NamesUpto guard o t

-- it names something where its expression has a value that isn't null
abbrev pub naming_parts : ExprTree → Context → List Formula
naming_parts e c = defined e c ++ not_null (meant e c) ∷ []

abbrev pub named_as : NamedTree → List Formula → Meant → List NamedTerm
named_as n guards (One t) = named_term n (and_of guards) t ∷ []
named_as n guards (Either xs) = map (λ x. named_term n (and_of (guards ++ x.condition ∷ [])) x.value) xs
named_as n guards (Says f) = []

-- what the `modifies` clause names, as it was at the entry
abbrev pub named_terms : List NamedTree → Context → List NamedTerm
named_terms ns c = flat_map (λ n. named_as n (naming_parts (subject_of n) c) (meant (subject_of n) c)) ns

abbrev pub term_of_one : Meant → List Term
term_of_one (One t) = t ∷ []
term_of_one (Either xs) = []
term_of_one (Says f) = []

-- the captured ones among the arguments for these parameters
abbrev pub captured_terms : List LocalTree → List Meant → List Term
captured_terms [] ms = []
captured_terms (p ∷ ps) [] = []
captured_terms (p ∷ ps) (m ∷ ms) = if p.captured then term_of_one m ++ captured_terms ps ms else captured_terms ps ms

abbrev pub pairs_of : List ClassTree → ℕ → Term → List OwnerTerm
pairs_of cs t o = map (λ u. record { object = o; class = u }) (levels cs t)

-- a constructor owns what its object owns at its class and those above
abbrev pub owned_terms : List ClassTree → BodyTree → Context → List OwnerTerm
owned_terms cs b c = if b.flags.ctor then flat_map (pairs_of cs b.class) (term_of_one (local_meant c 0)) else []

-- What a body may change between its entry and a later store, where its arguments mean this.
abbrev pub frame_terms : List ClassTree → BodyTree → Term → Term → List Meant → List Term → CallTerms
frame_terms cs b before after arguments outside =
    let c = record (contract_context cs b before before arguments (no_result b)) { inside_old = true } in
    record {
      before = before;
      after = after;
      named = named_terms b.named c;
      captured = captured_terms b.params (drop (length (this_types b)) arguments);
      owned = owned_terms cs b c;
      outside = outside;
    }

-- ---- what a caller sees

-- the level of its class is that of the object's own class
abbrev pub seen_condition : ExprTree → ExprTree
seen_condition (DefaultExpr p (AtLevel t)) = DefaultExpr p (ConsistentArgument 0)
seen_condition e = e

-- `this.*` may be all of the object
abbrev pub seen_name : NamedTree → NamedTree
seen_name (UptoOf e t) = AllOf e
seen_name n = n

-- a method that is dispatched on the object's own class
abbrev pub seen : BodyTree → BodyTree
seen b = record b { entry = map seen_condition b.entry; exit = map seen_condition b.exit; named = map seen_name b.named }

-- the contract by which a call in the text of b goes
abbrev pub called : CoreTree → BodyTree → CalleeTree → Option BodyTree
called c b (Dispatched e t m) = option_map seen (callee_of c b (Dispatched e t m))
called c b (Static n) = callee_of c b (Static n)
called c b (Base n) = callee_of c b (Base n)
called c b (BaseConstructor n) = callee_of c b (BaseConstructor n)
