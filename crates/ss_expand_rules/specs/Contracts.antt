-- Contracts: the default contract first, and then what is written and inherited.
use Rattle.std.specs.Prelude.{ℕ, ◌+◌, List, [], ◌∷◌, ◌++◌, map, reverse, filter_map, flat_map, Bool, true, false, not, ◌&&◌, ◌||◌, if◌then◌else◌, Option, Some, None}
use Rattle.ss_core.specs.declared.names.Place.{Place}
use Rattle.ss_core.specs.Tree as core
use Rattle.ss_core.specs.Tree.{DefaultTree, AtLevel, Unpacked, ThisUnowned, Defaults, OwnedFull, Full, ConsistentArgument, FullArgument, Captured, LocalExpr, DefaultExpr, NamedTree, UptoOf}
use Rattle.ss_core.specs.Chain.{levels}
use Rattle.ss_core.specs.Types.{is_class_type}
use Rattle.ss_typed.specs.Tree.{ExprTree, ParamTree, ModifiedTree, OneOf, AllOf, ElementsOf, BodyTree, TypedTree}
use Rattle.ss_expand_rules.specs.Program.{is_declared_by, method_at}
use Rattle.ss_expand_rules.specs.Numbers.{Numbers, plain, all_plain}
use Rattle.ss_typed.specs.Shapes.{is_this}

-- ---- default contracts

-- at entry, of `this` of a body of the class t
abbrev pub of_this_at_entry : BodyTree → ℕ → List DefaultTree
of_this_at_entry b t =
    if b.flags.is_static then []
    else if b.flags.ctor then Unpacked ∷ ThisUnowned ∷ Defaults t ∷ OwnedFull t ∷ []
    else if b.flags.pure then Full ∷ []
    else AtLevel t ∷ []

-- of the reference argument x
abbrev pub of_argument : BodyTree → ℕ → DefaultTree
of_argument b x = if b.flags.pure then FullArgument x else ConsistentArgument x

abbrev pub where_asked : Bool → DefaultTree → List DefaultTree
where_asked asked d = if asked then d ∷ [] else []

-- Capture condition: that of a captured parameter stands after its argument's own, whatever else the method is marked.
abbrev pub of_param : BodyTree → ℕ → ParamTree → List DefaultTree
of_param b x q =
    where_asked (is_class_type q.ty && not b.flags.no_default_contract) (of_argument b x) ++ where_asked q.captured (Captured x (not b.flags.is_static))

-- of these parameters, of which the first has the number x
abbrev pub of_params : BodyTree → ℕ → List ParamTree → List DefaultTree
of_params b x [] = []
of_params b x (q ∷ qs) = of_param b x q ++ of_params b (x + 1) qs

-- the number of the first parameter
abbrev pub first_param : BodyTree → ℕ
first_param b = if b.flags.is_static then 0 else 1

abbrev pub default_entry : BodyTree → ℕ → List DefaultTree
default_entry b t = (if b.flags.no_default_contract then [] else of_this_at_entry b t) ++ of_params b (first_param b) b.params

-- a pure method and a static one promise nothing by default
abbrev pub default_exit : BodyTree → ℕ → List DefaultTree
default_exit b t = if b.flags.no_default_contract || b.flags.pure || b.flags.is_static then [] else AtLevel t ∷ []

abbrev pub conditions : Place → List DefaultTree → List core.ExprTree
conditions p ds = map (DefaultExpr p) ds

-- ---- inherited contracts. They name parameters by their numbers, so they fit each body that stands for the method.

abbrev pub where_declared : ℕ → Option BodyTree → Option BodyTree
where_declared t None = None
where_declared t (Some b) = if is_declared_by t (Some b) then Some b else None

-- what the class declares at place m of its table
abbrev pub declared_at : TypedTree → ℕ → ℕ → Option BodyTree
declared_at p m t = where_declared t (method_at p t m)

-- the method at place m of the table of the class t as that class and those above it declare it, from the topmost down
abbrev pub declarations : TypedTree → ℕ → ℕ → List BodyTree
declarations p t m = reverse (filter_map (declared_at p m) (levels p.classes t))

abbrev pub entry_of_first : List BodyTree → List ExprTree
entry_of_first [] = []
entry_of_first (b ∷ bs) = b.entry

abbrev pub modifies_of_first : List BodyTree → Option (List ModifiedTree)
modifies_of_first [] = None
modifies_of_first (b ∷ bs) = b.modifies

abbrev pub all_exits : List BodyTree → List ExprTree
all_exits bs = flat_map (λ (b : BodyTree). b.exit) bs

-- ---- what a body may change

-- `this.*` as a body of the class t knows it
abbrev pub named : Numbers → ℕ → ModifiedTree → NamedTree
named ns t (OneOf e f) = core.FieldOf (plain ns e) f
named ns t (AllOf e) = if is_this e then UptoOf (plain ns e) t else core.AllOf (plain ns e)
named ns t (ElementsOf e) = core.ElementsOf (plain ns e)

abbrev pub this_upto : Place → ℕ → List NamedTree
this_upto p t = UptoOf (LocalExpr p 0) t ∷ []

abbrev pub written_terms : Numbers → ℕ → Option (List ModifiedTree) → List NamedTree
written_terms ns t None = []
written_terms ns t (Some ms) = map (named ns t) ms

abbrev pub terms_of_method : Numbers → Place → BodyTree → ℕ → Option (List ModifiedTree) → List NamedTree
terms_of_method ns p b t None = if b.flags.is_static then [] else this_upto p t
terms_of_method ns p b t (Some ms) = map (named ns t) ms

-- a pure method changes nothing, a constructor at least its object, and without a written clause an instance method its own
abbrev pub terms : Numbers → Place → BodyTree → ℕ → Option (List ModifiedTree) → List NamedTree
terms ns p b t ms =
    if b.flags.pure then []
    else if b.flags.ctor then this_upto p t ++ written_terms ns t ms
    else terms_of_method ns p b t ms

-- ---- the contract of a body of the class t that stands for b, whose method has these declarations

abbrev pub entry_conditions : Numbers → Place → BodyTree → ℕ → List BodyTree → List core.ExprTree
entry_conditions ns p b t bs = conditions p (default_entry b t) ++ all_plain ns (entry_of_first bs)

-- of an override those of what it overrides stand before its own
abbrev pub exit_conditions : Numbers → Place → BodyTree → ℕ → List BodyTree → List core.ExprTree
exit_conditions ns p b t bs = conditions p (default_exit b t) ++ all_plain ns (all_exits bs)

abbrev pub named_terms : Numbers → Place → BodyTree → ℕ → List BodyTree → List NamedTree
named_terms ns p b t bs = terms ns p b t (modifies_of_first bs)
