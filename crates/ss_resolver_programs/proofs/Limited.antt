-- A program without faults of names is within the limits.
use Rattle.std.proofs.Common.{ℕ, zero, suc, ◌≡◌, ◌+◌, ◌-◌, ◌*◌, ◌≤◌, Bool, true, false, List, [], ◌∷◌, ◌++◌, length, map, drop, None, refl, sym, ◌∙◌, arith}
use Rattle.std.specs.Prelude.{sum_by, nat_lt, ◌==◌, if◌then◌else◌}
use Rattle.std.proofs.lemmas.Bool.{ltb-true}
use Rattle.std.proofs.lemmas.List.Sums.{sum_by-cons}
use Rattle.std.proofs.lemmas.List.{length-map}
use Rattle.ss_core.specs.declared.names.Place.{Place}
use Rattle.ss_ast.specs.Expressions.{NameTree}
use Rattle.ss_ast.specs.Programs.{ClassTree, ProgramTree}
use Rattle.ss_tables.specs.Members.{FieldTree, MethodTree, ConstructorTree, fields_in, methods_in, constructors_in}
use Rattle.ss_tables.specs.Scopes.{class_scope}
use Rattle.ss_faults.specs.declared.Fault.{Fault}
use Rattle.ss_faults.specs.First.{first_fault}
use Rattle.ss_core.specs.declared.rules.Rule.{Rule}
use Rattle.ss_core.specs.declared.rules.Rule.TheVariants as rule
use Rattle.ss_resolver_names_rules.specs.Faults.{fault, unless, twice_among}
use Rattle.ss_resolver_names_rules.specs.Members.{member_names, faults_at, constructor_faults, override_faults, members_faults}
use Rattle.ss_resolver_names_rules.specs.Programs.{most_classes, most_fields, most_methods, depth_faults, above_faults, field_limit_faults, ends, inherited_fields, fields_faults, methods_faults, bodies_faults, class_faults_of, classes_faults, class_names, mains_in, program_faults, first_name_fault}
use Rattle.ss_resolver_rules.specs.Numbers.{field_count, body_count}
use Rattle.ss_resolver_tables.specs.Limits.{IsWithinLimits}

-- ---- lists of faults that are empty

front_empty : {X : Type 0} (xs ys : List X) → xs ++ ys ≡ [] → xs ≡ []
front_empty [] ys h = refl
front_empty (x ∷ xs) ys h = absurd cc

back_empty : {X : Type 0} (xs ys : List X) → xs ++ ys ≡ [] → ys ≡ []
back_empty [] ys h = h
back_empty (x ∷ xs) ys h = absurd cc

none_first : (fs : List Fault) → first_fault fs ≡ None → fs ≡ []
none_first [] h = refl
none_first (f ∷ fs) h = absurd cc

no_names : (r : Rule) (ns : List NameTree) → faults_at r ns ≡ [] → length ns ≡ 0
no_names r [] h = refl
no_names r (n ∷ ns) h = absurd cc

dropped : {X : Type 0} (n : ℕ) (xs : List X) → length (drop n xs) ≡ 0 → length xs ≤ n
dropped n [] h = omega arith
dropped zero (x ∷ xs) h = omega (arith, h)
dropped (suc n) (x ∷ xs) h = let r = dropped n xs h in omega arith

-- ---- a class

tested : (b : Bool) (r : Rule) (p : Place) → (if b then [] else fault r p) ≡ [] → b ≡ true
tested true r p h = refl
tested false r p h = absurd cc

few_left : (before : ℕ) (fs : List FieldTree) → field_limit_faults before fs ≡ [] → length fs ≤ 1024 - before
unfolding most_fields
few_left before [] h = omega arith
few_left before (f ∷ fs) h =
    let first = front_empty (if nat_lt before most_fields then [] else fault rule.Limit f.name.place) (field_limit_faults (before + 1) fs) h in
    let rest = few_left (before + 1) fs (back_empty (if nat_lt before most_fields then [] else fault rule.Limit f.name.place) (field_limit_faults (before + 1) fs) h) in
    let is = ltb-true before 1024 (tested (nat_lt before most_fields) rule.Limit f.name.place first) in
    omega (arith, rest, is)

few_fields : (cs : List ClassTree) (k : ℕ) (c : ClassTree) → fields_faults cs k c ≡ [] → field_count c ≤ 1024
few_fields cs k c h = let n = few_left (if ends cs k then inherited_fields cs k else 0) (fields_in c.members) h in omega (arith, n)

few_methods : (ms : List MethodTree) → methods_faults ms ≡ [] → length ms ≤ 1024
unfolding most_methods
few_methods ms h =
    dropped 1024 ms (sym (length-map (drop 1024 ms) (λ (m : MethodTree). m.name)) ∙ no_names rule.Limit (map (λ (m : MethodTree). m.name) (drop 1024 ms)) h)

one_constructor : (ds : List ConstructorTree) → constructor_faults ds ≡ [] → length ds ≤ 1
one_constructor [] h = omega arith
one_constructor (d ∷ ds) h =
    let n = sym (length-map ds (λ (x : ConstructorTree). x.name)) ∙ no_names rule.Twice (map (λ (x : ConstructorTree). x.name) ds) h in
    omega (arith, n)

record Few (c : ClassTree) : Type 0 where
  fields : field_count c ≤ 1024
  bodies : body_count c ≤ 1025

few : (cs : List ClassTree) (k : ℕ) (c : ClassTree) → class_faults_of cs k c ≡ [] → Few c
few cs k c h =
    let depth = depth_faults cs k c in
    let above = above_faults cs k c.above in
    let twice = twice_among [] (member_names c.members) in
    let constructors = constructor_faults (constructors_in c.members) in
    let fields = fields_faults cs k c in
    let methods = methods_faults (methods_in c.members) in
    let overrides = override_faults cs k (methods_in c.members) in
    let members = members_faults (class_scope cs k) c.members in
    let to_members = front_empty (depth ++ above ++ twice ++ constructors ++ fields ++ methods ++ overrides ++ members) (bodies_faults cs k c) h in
    let to_overrides = front_empty (depth ++ above ++ twice ++ constructors ++ fields ++ methods ++ overrides) members to_members in
    let to_methods = front_empty (depth ++ above ++ twice ++ constructors ++ fields ++ methods) overrides to_overrides in
    let to_fields = front_empty (depth ++ above ++ twice ++ constructors ++ fields) methods to_methods in
    let to_constructors = front_empty (depth ++ above ++ twice ++ constructors) fields to_fields in
    let m = few_methods (methods_in c.members) (back_empty (depth ++ above ++ twice ++ constructors ++ fields) methods to_methods) in
    let f = few_fields cs k c (back_empty (depth ++ above ++ twice ++ constructors) fields to_fields) in
    let o = one_constructor (constructors_in c.members) (back_empty (depth ++ above ++ twice) constructors to_constructors) in
    record { fields = f; bodies = omega (arith, m, o) }

-- ---- classes

sum_of_fields : (all : List ClassTree) (k : ℕ) (cs : List ClassTree) → classes_faults all k cs ≡ [] → sum_by field_count cs ≤ 1024 * length cs
sum_of_fields all k [] h = omega arith
sum_of_fields all k (c ∷ cs) h =
    let one = (few all k c (front_empty (class_faults_of all k c) (classes_faults all (k + 1) cs) h)).fields in
    let rest = sum_of_fields all (k + 1) cs (back_empty (class_faults_of all k c) (classes_faults all (k + 1) cs) h) in
    let both = sum_by-cons field_count c cs in
    omega (arith, both, one, rest)

sum_of_bodies : (all : List ClassTree) (k : ℕ) (cs : List ClassTree) → classes_faults all k cs ≡ [] → sum_by body_count cs ≤ 1025 * length cs
sum_of_bodies all k [] h = omega arith
sum_of_bodies all k (c ∷ cs) h =
    let one = (few all k c (front_empty (class_faults_of all k c) (classes_faults all (k + 1) cs) h)).bodies in
    let rest = sum_of_bodies all (k + 1) cs (back_empty (class_faults_of all k c) (classes_faults all (k + 1) cs) h) in
    let both = sum_by-cons body_count c cs in
    omega (arith, both, one, rest)

few_classes : (cs : List ClassTree) → faults_at rule.Limit (drop most_classes (class_names cs)) ≡ [] → length cs ≤ 4096
unfolding most_classes
few_classes cs h =
    let n = dropped 4096 (class_names cs) (no_names rule.Limit (drop 4096 (class_names cs)) h) in
    omega (arith, n, length-map cs (λ (c : ClassTree). c.name))

-- ---- programs

pub within_limits : (p : ProgramTree) → first_name_fault p ≡ None → IsWithinLimits p.classes
within_limits p h =
    let cs = p.classes in
    let twice = twice_among [] (class_names cs) in
    let limit = faults_at rule.Limit (drop most_classes (class_names cs)) in
    let within = classes_faults cs 0 cs in
    let all = none_first (program_faults p) h in
    let to_classes = front_empty (twice ++ limit ++ within) (unless (mains_in cs == 1) (fault rule.NoMain p.last)) all in
    let to_limit = front_empty (twice ++ limit) within to_classes in
    let classes = back_empty (twice ++ limit) within to_classes in
    let n = few_classes cs (back_empty twice limit to_limit) in
    let fields = sum_of_fields cs 0 cs classes in
    let bodies = sum_of_bodies cs 0 cs classes in
    record { classes = n; fields = omega (arith, fields, n); bodies = omega (arith, bodies, n) }
