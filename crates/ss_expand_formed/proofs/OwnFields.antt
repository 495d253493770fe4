-- What a constructor assigns before `base(..)` are fields of its class.
use Rattle.std.proofs.Common.{◌≡◌, ℕ, zero, suc, ◌+◌, ◌*◌, ◌<◌, List, [], ◌∷◌, ◌++◌, length, map, take, Bool, true, false, Option, Some, None, refl, sym, ◌∙◌, ap, subst, arith, ⊎_elim}
use Rattle.std.specs.Prelude.{◌&&◌, ◌||◌, slice_get, sum_by, is_some, if◌then◌else◌}
use Rattle.std.specs.List.{position_or_len}
use Rattle.std.specs.Str.{bytes_eq}
use Rattle.std.proofs.lemmas.Slice.Eq.{bytes_eq-Decides}
use Rattle.std.proofs.lemmas.Bool.{cases_Bool, and_from, eq-eqb, false≢true}
use Rattle.std.proofs.lemmas.List.{length-map}
use Rattle.std.proofs.lemmas.List.Folds.{find_at}
use Rattle.std.proofs.lemmas.List.Sums.{sum_by-cons}
use Rattle.std.proofs.lemmas.Option.{same_Some}
use Rattle.std.specs.Option.{option_or}
use Rattle.ss_core.specs.declared.names.Place.{Place}
use Rattle.ss_core.specs.Tree as core
use Rattle.ss_core.specs.Chain.{DeclaredField, in_class}
use Rattle.ss_ast.specs.Programs.{ParamTree, ClassTree, ProgramTree}
use Rattle.ss_tables.specs.Members.{FieldTree, fields_in, field_in}
use Rattle.ss_tables.specs.Classes.{declared_in, members_in, members_at, chain_from, first_field, field_of, above}
use Rattle.ss_tables.specs.Scopes.{Scope, Locals, local_named, class_scope, param_scope, enter}
use Rattle.ss_tables.specs.Named.{named_in, with_named}
use Rattle.ss_tables.specs.Scopes as scopes
use Rattle.ss_typed.specs.Tree.{ExprTree, ThisOf, FieldOf, SimpleTree, AssignOf, StepOf, StmtTree, SimpleOf, StmtTrees, NoMore, Before, MembersTree, TypedTree}
use Rattle.ss_typed.specs.Tree as typed
use Rattle.ss_resolver_rules.specs.Numbers.{field_count, field_place, field_id}
use Rattle.ss_resolver_rules.specs.Names.{Known_names, Env, known, class_env, declare_param, declare_params}
use Rattle.ss_resolver_rules.specs.declared.known.Known.{Known}
use Rattle.ss_resolver_rules.specs.declared.known.Known.TheVariants.{Variable}
use Rattle.ss_resolver_rules.specs.Names as names
use Rattle.ss_resolver_rules.specs.Expressions.{this, read_field}
use Rattle.ss_resolver_rules.specs.Programs.{class, field, each, field_member, resolved}
use Rattle.ss_expand_rules.specs.Program.{field_at}
use Rattle.ss_typed.specs.Shapes.{is_this}
use Rattle.ss_paths.specs.Fields as paths
use Rattle.ss_paths.specs.Fields.{field_numbers}
use Rattle.ss_typed.specs.Lookups.{class_place}
use Rattle.ss_expand_rules.specs.Constructors.{initialize, initializers_from, initializers_in, initializers}
use Rattle.ss_expand_formed.proofs.AdmissibleClasses as classes
use Rattle.ss_expand_formed.proofs.Searching.{place_found, any_at}
use Rattle.ss_expand_formed.proofs.Places.{members_at as members_there}
use Rattle.ss_expand_formed.proofs.Numbering.{is_declared_in}

-- ---- assignments of fields of a class

abbrev pub own_target : TypedTree → ℕ → ExprTree → Bool
own_target p t (FieldOf q o f u) = is_this o && is_declared_in t (field_at p f)
own_target p t e = false

-- an assignment of a field of `this` that the class t declares
abbrev pub is_own : TypedTree → ℕ → SimpleTree → Bool
is_own p t (AssignOf l o e) = own_target p t l
is_own p t (StepOf l o) = own_target p t l
is_own p t x = false

abbrev pub OnlyOwn : TypedTree → ℕ → StmtTrees → Type 0
OnlyOwn p t NoMore = Unit {0}
OnlyOwn p t (Before (SimpleOf x) ss) = (is_own p t x ≡ true) × OnlyOwn p t ss
OnlyOwn p t (Before s ss) = ⊥

-- ---- fields by number

module _ (p : ProgramTree) where
  abbrev q : TypedTree
  q = resolved p

  -- a field of a class by its place
  pub own_at : (k : ℕ) (c : ClassTree) → slice_get p.classes k ≡ Some c → (i : ℕ) (g : FieldTree) → slice_get (fields_in c.members) i ≡ Some g → field_at q (sum_by field_count (take k p.classes) + i) ≡ Some (in_class (4 + 2 * k) (field p.classes g))
  own_at k c at i g e = ap (λ fs. slice_get fs (sum_by field_count (take k p.classes) + i)) (sym (classes.fields_stay p)) ∙ classes.field_at p k c at i g e

  is_declared : (k : ℕ) (c : ClassTree) → slice_get p.classes k ≡ Some c → (i : ℕ) (g : FieldTree) → slice_get (fields_in c.members) i ≡ Some g → is_declared_in (4 + 2 * k) (field_at q (sum_by field_count (take k p.classes) + i)) ≡ true
  is_declared k c at i g e = ap (is_declared_in (4 + 2 * k)) (own_at k c at i g e) ∙ eq-eqb (4 + 2 * k) (4 + 2 * k) refl

  -- ---- beginnings of fields

  counts : (all : List ClassTree) (j : ℕ) (cs : List ClassTree) (k : ℕ) → sum_by paths.field_count (take k (each (class all) j cs)) ≡ sum_by field_count (take k cs)
  counts all j [] zero = refl
  counts all j [] (suc k) = refl
  counts all j (x ∷ cs) zero = refl
  counts all j (x ∷ cs) (suc k) =
      let one = sum_by-cons paths.field_count (class all j x) (take k (each (class all) (j + 1) cs)) in
      let other = sum_by-cons field_count x (take k cs) in
      let size : length (class all j x).fields ≡ field_count x = length-map (fields_in x.members) (field all) in
      let rest = counts all (j + 1) cs k in
      omega arith

  -- the number of the first field of a class
  pub first_number : (k : ℕ) → (field_numbers q (4 + 2 * k)).first ≡ sum_by field_count (take k p.classes)
  first_number k =
      let place : class_place (4 + 2 * k) ≡ k = omega arith in
      ap (λ i. sum_by paths.field_count (take i q.classes)) place ∙ counts p.classes 0 p.classes k

  module _ (k : ℕ) (c : ClassTree) (at : slice_get p.classes k ≡ Some c) where
    abbrev t : ℕ
    t = 4 + 2 * k

    abbrev begin : ℕ
    begin = sum_by field_count (take k p.classes)

    abbrev made : FieldTree → typed.FieldTree
    made f = field_member (class_env p.classes k) f

    initialize_own : (f : ℕ) (m : typed.FieldTree) (e : Option ExprTree) (d : Option DeclaredField) → field_at q f ≡ d → is_declared_in t (field_at q f) ≡ true → (more : StmtTrees) → OnlyOwn q t more → OnlyOwn q t (initialize t f m e d more)
    initialize_own f m None d is own more h = h
    initialize_own f m (Some e) None is own more h = h
    initialize_own f m (Some e) (Some d) is own more h = (own, h)

    -- from a place of the class on
    from_own : (i f : ℕ) (gs : List FieldTree) → f ≡ begin + i → ((j : ℕ) (g : FieldTree) → slice_get gs j ≡ Some g → slice_get (fields_in c.members) (i + j) ≡ Some g) → OnlyOwn q t (initializers_from q t f (map made gs))
    from_own i f [] is there = tt
    from_own i f (g ∷ gs) is there =
        let here : i + 0 ≡ i = omega arith in
        let mine : slice_get (fields_in c.members) i ≡ Some g = subst (λ x. slice_get (fields_in c.members) x ≡ Some g) here (there 0 g refl) in
        let own : is_declared_in t (field_at q f) ≡ true = subst (λ x. is_declared_in t (field_at q x) ≡ true) (sym is) (is_declared k c at i g mine) in
        initialize_own f (made g) (made g).initial (field_at q f) refl own (initializers_from q t (f + 1) (map made gs))
        (from_own (i + 1) (f + 1) gs (omega arith) (λ j x e. let next : i + suc j ≡ i + 1 + j = omega arith in subst (λ y. slice_get (fields_in c.members) y ≡ Some x) next (there (suc j) x e)))

    all_own : (gs : List FieldTree) → fields_in c.members ≡ gs → OnlyOwn q t (initializers_from q t (field_numbers q t).first (map made gs))
    all_own gs is =
        let start : begin + 0 ≡ begin = omega arith in
        from_own 0 (field_numbers q t).first gs (first_number k ∙ sym start) (λ j x e. let z : 0 + j ≡ j = omega arith in rw z (ap (λ fs. slice_get fs j) is ∙ e))

    pub initializers_own : OnlyOwn q t (initializers q t)
    initializers_own = subst (λ m. OnlyOwn q t (initializers_in q t m)) (sym (members_there p k c at)) (all_own (fields_in c.members) refl)

-- ---- names of fields

-- where no local has a name, none is known by it
abbrev pub SameNames : Known_names → Locals → Type 0
SameNames ks ls = (n : List ℕ) → is_some (named_in ks n) ≡ is_some (named_in ls n)

known_end : (ks : Known_names) (m : List ℕ) (k : Known) (n : List ℕ) → is_some (named_in (ks ++ (m, k) ∷ []) n) ≡ (is_some (named_in ks n) || bytes_eq n m)
known_end [] m k n = by (bytes_eq n m)
  where
    by : (b : Bool) → is_some (if b then Some k else None) ≡ b
    by true = refl
    by false = refl
known_end (x ∷ ks) m k n = by (known_end ks m k n) (bytes_eq n x.0)
  where
    by : is_some (named_in (ks ++ (m, k) ∷ []) n) ≡ (is_some (named_in ks n) || bytes_eq n m) → (b : Bool) → is_some (if b then Some x.1 else named_in (ks ++ (m, k) ∷ []) n) ≡ (is_some (if b then Some x.1 else named_in ks n) || bytes_eq n m)
    by rest true = refl
    by rest false = rest

local_end : (ls : Locals) (m : List ℕ) (l : scopes.Local) (n : List ℕ) → is_some (named_in (ls ++ (m, l) ∷ []) n) ≡ (is_some (named_in ls n) || bytes_eq n m)
local_end [] m l n = by (bytes_eq n m)
  where
    by : (b : Bool) → is_some (if b then Some l else None) ≡ b
    by true = refl
    by false = refl
local_end (x ∷ ls) m l n = by (local_end ls m l n) (bytes_eq n x.0)
  where
    by : is_some (named_in (ls ++ (m, l) ∷ []) n) ≡ (is_some (named_in ls n) || bytes_eq n m) → (b : Bool) → is_some (if b then Some x.1 else named_in (ls ++ (m, l) ∷ []) n) ≡ (is_some (if b then Some x.1 else named_in ls n) || bytes_eq n m)
    by rest true = refl
    by rest false = rest

one_more : (ks : Known_names) (ls : Locals) (m : List ℕ) (k : Known) (l : scopes.Local) → SameNames ks ls → SameNames (with_named ks m k) (with_named ls m l)
one_more ks ls m k l h n =
    ⊎_elim
    (λ (yes : is_some (named_in ks m) ≡ true). let too : is_some (named_in ls m) ≡ true = sym (h m) ∙ yes in rw (yes, too) (h n))
    (λ (other : is_some (named_in ks m) ≡ false). let too : is_some (named_in ls m) ≡ false = sym (h m) ∙ other in rw (other, too) (known_end ks m k n ∙ ap (λ b. b || bytes_eq n m) (h n) ∙ sym (local_end ls m l n)))
    (cases_Bool (is_some (named_in ks m)))

-- the parameters of a constructor
pub record Agree (e : Env) (s : Scope) : Type 0 where
  pub scope : e.scope ≡ s
  pub inner : SameNames e.inner s.inner
  pub around : e.outer ≡ []
  pub outside : s.outer ≡ []

pub params_agree : (e : Env) (s : Scope) (ps : List ParamTree) → Agree e s → Agree (declare_params e ps) (scopes.declare_params s ps)
params_agree e s [] h = h
params_agree e s (x ∷ ps) h =
    params_agree (declare_param e x) (scopes.declare_params s (x ∷ [])) ps
    (record { scope = ap (λ z. scopes.declare_params z (x ∷ [])) h.scope; inner = one_more e.inner s.inner x.name.text _ _ h.inner; around = h.around; outside = h.outside })

pub none_known : (e : Env) (s : Scope) (n : List ℕ) → Agree e s → local_named (enter s) n ≡ None → known (names.enter e) n ≡ None
none_known e s n h none =
    let same = h.inner n in
    let here : named_in s.inner n ≡ None = alone (named_in s.inner n) (rw h.outside at none) in
    let nothing : named_in e.inner n ≡ None = none_of (named_in e.inner n) (same ∙ ap is_some here) in
    rw (h.around, nothing) refl
  where
    alone : (o : Option scopes.Local) → option_or None (option_or o None) ≡ None → o ≡ None
    alone None i = refl
    alone (Some x) i = absurd (let z : ⊥ = cc in z)

    none_of : (o : Option Known) → is_some o ≡ false → o ≡ None
    none_of None i = refl
    none_of (Some x) i = absurd (false≢true (sym i))

-- ---- the statements with which a block begins

module _ (p : ProgramTree) (k : ℕ) (c : ClassTree) (at : slice_get p.classes k ≡ Some c) where
  -- a field of the class is found first
  found_first : (n : List ℕ) (f : FieldTree) → field_in (members_at p.classes k) n ≡ Some f → field_of p.classes k n ≡ Some (record { class = k; member = f })
  found_first n f h = by (length p.classes) (within p.classes k c at)
    where
      within : (cs : List ClassTree) (i : ℕ) (d : ClassTree) → slice_get cs i ≡ Some d → 0 < length cs
      within [] i d e = absurd (let z : ⊥ = cc in z)
      within (x ∷ cs) i d e = omega arith

      by : (m : ℕ) → 0 < m → first_field p.classes n (chain_from p.classes m (Some k)) ≡ Some (record { class = k; member = f })
      by zero l = absurd (omega arith)
      by (suc m) l = ap (λ o. option_or (declared_in k o) (first_field p.classes n (chain_from p.classes m (above p.classes k)))) h

  -- its number is that of one of the class
  name_own : (n : List ℕ) (f : FieldTree) → field_in (members_at p.classes k) n ≡ Some f → is_declared_in (4 + 2 * k) (field_at (resolved p) (field_id p.classes k f.name.text)) ≡ true
  name_own n f h =
      let ms = members_at p.classes k in
      let there : slice_get (fields_in ms) (position_or_len (λ (g : FieldTree). bytes_eq n g.name.text) (fields_in ms)) ≡ Some f = sym (find_at (λ (g : FieldTree). bytes_eq n g.name.text) (fields_in ms)) ∙ h in
      let listed = any_at (λ (g : FieldTree). bytes_eq f.name.text g.name.text) (fields_in ms) _ f there ((bytes_eq-Decides f.name.text f.name.text).1 refl) in
      let r = place_found (λ (g : FieldTree). bytes_eq f.name.text g.name.text) (fields_in ms) listed in
      let own : slice_get (fields_in c.members) (field_place ms f.name.text) ≡ Some r.it = ap (λ o. slice_get (fields_in (members_in o)) (field_place ms f.name.text)) (sym at) ∙ r.there in
      is_declared p k c at (field_place ms f.name.text) r.it own

  -- what is read of `this`
  pub read_own : (e : Env) → e.scope.classes ≡ p.classes → (q : Place) (o : ExprTree) (n : List ℕ) → is_this o ≡ true → (f : Option FieldTree) → field_in (members_at p.classes k) n ≡ f → is_some f ≡ true → own_target (resolved p) (4 + 2 * k) (read_field e q o (field_of p.classes k n)) ≡ true
  read_own e same q o n this None is h = absurd (false≢true h)
  read_own e same q o n this (Some f) is h =
      let found = found_first n f is in
      let own : is_declared_in (4 + 2 * k) (field_at (resolved p) (field_id e.scope.classes k f.name.text)) ≡ true = subst (λ cs. is_declared_in (4 + 2 * k) (field_at (resolved p) (field_id cs k f.name.text)) ≡ true) (sym same) (name_own n f is) in
      subst (λ d. own_target (resolved p) (4 + 2 * k) (read_field e q o d) ≡ true) (sym found) (and_from _ _ this own)
