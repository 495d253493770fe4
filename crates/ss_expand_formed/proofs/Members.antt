-- What a class without faults of names keeps.
use Rattle.std.proofs.Common.{◌≡◌, ℕ, ◌+◌, List, [], ◌++◌, Some, subst, arith}
use Rattle.std.specs.Prelude.{slice_get}
use Rattle.ss_ast.specs.Programs.{ClassTree, ProgramTree}
use Rattle.ss_tables.specs.Members.{methods_in, constructors_in}
use Rattle.ss_tables.specs.Scopes.{class_scope}
use Rattle.ss_resolver_names_rules.specs.Faults.{twice_among}
use Rattle.ss_resolver_names_rules.specs.Members.{member_names, constructor_faults, override_faults, members_faults}
use Rattle.ss_resolver_names_rules.specs.Programs.{depth_faults, above_faults, fields_faults, methods_faults, bodies_faults, class_faults_of, program_faults}
use Rattle.ss_expand_formed.proofs.Facts.{none_left}
use Rattle.ss_expand_formed.proofs.MainBody.{class_faultless, mains_one}

pub record ClassFaultless (all : List ClassTree) (k : ℕ) (c : ClassTree) : Type 0 where
  pub twice : twice_among [] (member_names c.members) ≡ []
  pub overrides : override_faults all k (methods_in c.members) ≡ []

parts_of : (all : List ClassTree) (k : ℕ) (c : ClassTree) → class_faults_of all k c ≡ [] → ClassFaultless all k c
parts_of all k c h =
    let one = depth_faults all k c ++ above_faults all k c.above in
    let two = one ++ twice_among [] (member_names c.members) in
    let three = two ++ constructor_faults (constructors_in c.members) in
    let four = three ++ fields_faults all k c in
    let five = four ++ methods_faults (methods_in c.members) in
    let six = five ++ override_faults all k (methods_in c.members) in
    let seven = six ++ members_faults (class_scope all k) c.members in
    let h7 = (none_left seven (bodies_faults all k c) h).0 in
    let h6 = (none_left six (members_faults (class_scope all k) c.members) h7).0 in
    let h5 = none_left five (override_faults all k (methods_in c.members)) h6 in
    let h4 = (none_left four (methods_faults (methods_in c.members)) h5.0).0 in
    let h3 = (none_left three (fields_faults all k c) h4).0 in
    let h2 = (none_left two (constructor_faults (constructors_in c.members)) h3).0 in
    record { twice = (none_left one (twice_among [] (member_names c.members)) h2).1; overrides = h5.1 }

pub class_parts : (p : ProgramTree) → program_faults p ≡ [] → (k : ℕ) (c : ClassTree) → slice_get p.classes k ≡ Some c → ClassFaultless p.classes k c
class_parts p h k c there =
    let z : 0 + k ≡ k = omega arith in
    parts_of p.classes k c (subst (λ n. class_faults_of p.classes n c ≡ []) z (class_faultless p.classes 0 p.classes k c (mains_one p h).1 there))
