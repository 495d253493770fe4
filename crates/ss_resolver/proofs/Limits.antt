-- A program without a fault of names has few classes.
use Rattle.std.specs.Prelude.{◌==◌}
use Rattle.std.specs.Option.{option_or}
use Rattle.std.proofs.Common.{◌≡◌, ◌≤◌, ◌+◌, ℕ, zero, suc, List, [], ◌∷◌, ◌++◌, length, drop, Option, Some, None, refl, sym, ap, ◌∙◌, subst, arith}
use Rattle.std.proofs.lemmas.List.{length-map}
use Rattle.ss_ast.specs.Expressions.{NameTree}
use Rattle.ss_ast.specs.Programs.{ClassTree, ProgramTree}
use Rattle.ss_faults.specs.declared.Fault.{Fault}
use Rattle.ss_faults.specs.First as faults
use Rattle.ss_core.specs.declared.rules.Rule.TheVariants as rule
use Rattle.ss_resolver_names_rules.specs.Faults.{unless, fault, twice_among}
use Rattle.ss_resolver_names_rules.specs.Members.{faults_at}
use Rattle.ss_resolver_names_rules.specs.Programs.{first_name_fault, program_faults, classes_faults, class_names, mains_in, most_classes}
use Rattle.ss_resolver_types_expressions.specs.Programs.{first_type_fault}
use Rattle.ss_resolver_rules.specs.Programs.{resolved, each, class}
use Rattle.ss_expand_programs.specs.Limits.{HasFewClasses}
use Rattle.ss_resolver_limits.specs.Limits.{first_limit_fault}
use Rattle.ss_resolver.specs.Phases.{source_fault, resolve_fault}

no_faults : (fs : List Fault) → faults.first_fault fs ≡ None → fs ≡ []
no_faults [] h = refl
no_faults (f ∷ fs) h = absurd (let e : Some (faults.earlier f (faults.first_fault fs)) ≡ None = h in cc)

front_empty : {X : Type 0} (xs ys : List X) → xs ++ ys ≡ [] → xs ≡ []
front_empty [] ys h = refl
front_empty (x ∷ xs) ys h = absurd (let e : x ∷ (xs ++ ys) ≡ [] = h in cc)

back_empty : {X : Type 0} (xs ys : List X) → xs ++ ys ≡ [] → ys ≡ []
back_empty [] ys h = h
back_empty (x ∷ xs) ys h = absurd (let e : x ∷ (xs ++ ys) ≡ [] = h in cc)

drop_empty : {X : Type 0} (xs : List X) (n : ℕ) → drop n xs ≡ [] → length xs ≤ n
drop_empty [] n h = omega arith
drop_empty (x ∷ xs) zero h = absurd (let e : x ∷ xs ≡ [] = h in cc)
drop_empty (x ∷ xs) (suc n) h = let l = drop_empty xs n h in omega (arith, l)

each_length : {A : Type 0} (f : ℕ → ClassTree → A) (k : ℕ) (cs : List ClassTree) → length (each f k cs) ≡ length cs
each_length f k [] = refl
each_length f k (c ∷ cs) = ap suc (each_length f (k + 1) cs)

limit_faults : (ns : List NameTree) → faults_at rule.Limit ns ≡ [] → ns ≡ []
limit_faults [] h = refl
limit_faults (n ∷ ns) h = absurd (let e : fault rule.Limit n.place ++ faults_at rule.Limit ns ≡ [] = h in cc)

few : (ns : List NameTree) → length ns ≤ most_classes → length ns ≤ 4096
unfolding most_classes
few ns h = h

-- what the names have no fault of has few classes
few_classes : (p : ProgramTree) → first_name_fault p ≡ None → HasFewClasses (resolved p)
few_classes p h =
    let names = class_names p.classes in
    let all = no_faults (program_faults p) h in
    let limit = faults_at rule.Limit (drop most_classes names) in
    let twice = twice_among [] names in
    let classes = classes_faults p.classes 0 p.classes in
    let mains = unless (mains_in p.classes == 1) (fault rule.NoMain p.last) in
    let first = front_empty (twice ++ limit) classes (front_empty (twice ++ limit ++ classes) mains all) in
    let none = limit_faults (drop most_classes names) (back_empty twice limit first) in
    let l = few names (drop_empty names most_classes none) in
    let written = length-map p.classes (λ (c : ClassTree). c.name) in
    let made = each_length (class p.classes) 0 p.classes in
    subst (λ n. n ≤ 4096) (written ∙ sym made) l

-- where one of two comes first, and there is none, there is none of the first
pub first_none : {A : Type 0} (o p : Option A) → option_or o p ≡ None → o ≡ None
first_none None p h = refl
first_none (Some a) p h = absurd (let e : Some a ≡ None = h in cc)

pub second_none : {A : Type 0} (o p : Option A) → option_or o p ≡ None → p ≡ None
second_none None p h = h
second_none (Some a) p h = absurd (let e : Some a ≡ None = h in cc)

pub faultless_few : (p : ProgramTree) → source_fault p ≡ None → HasFewClasses (resolved p)
faultless_few p h = few_classes p (first_none (first_name_fault p) (first_type_fault p) h)

pub resolved_few : (p : ProgramTree) → resolve_fault p ≡ None → HasFewClasses (resolved p)
resolved_few p h = faultless_few p (first_none (source_fault p) (first_limit_fault (resolved p)) h)
