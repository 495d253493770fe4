-- An elaborated program has not too many classes, nor fields of one object.
use Rattle.std.proofs.Common.{◌≡◌, ◌≢◌, ℕ, zero, suc, ◌+◌, ◌-◌, ◌*◌, ◌<◌, ◌≤◌, List, [], ◌∷◌, ◌++◌, length, Option, Some, None, refl, sym, ◌∙◌, ap, subst, arith, ⊎_elim}
use Rattle.std.specs.Prelude.{nat_lt, slice_get, sum_by, drop, option_and_then, ◌==◌, if◌then◌else◌}
use Rattle.std.proofs.lemmas.Bool.{cases_Bool, ltb-true}
use Rattle.std.proofs.lemmas.List.{length-map}
use Rattle.std.proofs.lemmas.List.Sums.{sum_by-cons}
use Rattle.ss_core.specs.Tree as core
use Rattle.ss_core.specs.Chain as chain
use Rattle.ss_core.specs.Chain.{declared, levels, fields_of, field_count, IsWithinLimits}
use Rattle.ss_core.proofs.Chains.{levels_object, levels_up, induct_up}
use Rattle.ss_core.proofs.Declared.{declared_at, declared_place}
use Rattle.ss_ast.specs.Expressions.{NameTree}
use Rattle.ss_ast.specs.Programs.{ClassTree, ProgramTree}
use Rattle.ss_tables.specs.Members.{FieldTree, fields_in, methods_in, constructors_in}
use Rattle.ss_tables.specs.Classes.{members_in, members_at, above, steps_above, chain_from}
use Rattle.ss_tables.specs.Scopes.{class_scope}
use Rattle.std.proofs.lemmas.Option.{slice_get_within}
use Rattle.ss_core.specs.declared.rules.Rule.TheVariants as rule
use Rattle.ss_resolver_names_rules.specs.Faults.{fault, unless, twice_among}
use Rattle.ss_resolver_names_rules.specs.Members.{member_names, faults_at, constructor_faults, override_faults, members_faults}
use Rattle.ss_resolver_names_rules.specs.Programs.{most_classes, most_fields, inherited_fields, depth_faults, above_faults, field_limit_faults, fields_faults, methods_faults, bodies_faults, class_faults_of, classes_faults, class_names, mains_in, program_faults}
use Rattle.ss_resolver_rules.specs.Numbers.{number_or_object}
use Rattle.ss_resolver_rules.specs.Programs.{field}
use Rattle.ss_expand_formed.specs.Laws.{core_of}
use Rattle.ss_expand_formed.proofs.Facts.{none_left}
use Rattle.ss_expand_formed.proofs.MainBody.{class_faultless, mains_one}
use Rattle.ss_expand_formed.proofs.Cycles.{above_within, steps_more, walks_end}
use Rattle.ss_expand_formed.proofs.ChainLaw.{written_at, size, there_at, no_cycles, up, has_chain}

-- ---- classes

nothing_named : (ns : List NameTree) → faults_at rule.Limit ns ≡ [] → ns ≡ []
nothing_named [] h = refl
nothing_named (n ∷ ns) h = absurd (let bad : fault rule.Limit n.place ++ faults_at rule.Limit ns ≡ [] = h in let z : ⊥ = cc in z)

few : {X : Type 0} (n : ℕ) (xs : List X) → drop n xs ≡ [] → length xs ≤ n
few n [] h = omega arith
few zero (x ∷ xs) h = absurd (let bad : x ∷ xs ≡ [] = h in let z : ⊥ = cc in z)
few (suc n) (x ∷ xs) h = let l = few n xs h in omega arith

few_classes : (p : ProgramTree) → program_faults p ≡ [] → length p.classes ≤ 4096
unfolding most_classes
few_classes p h =
    let names = class_names p.classes in
    let one = twice_among [] names ++ faults_at rule.Limit (drop most_classes names) in
    let both = none_left (one ++ classes_faults p.classes 0 p.classes) (unless (mains_in p.classes == 1) (fault rule.NoMain p.last)) h in
    let first = none_left one (classes_faults p.classes 0 p.classes) both.0 in
    let limit = none_left (twice_among [] names) (faults_at rule.Limit (drop most_classes names)) first.0 in
    let l = few 4096 names (nothing_named (drop most_classes names) limit.1) in
    let n = length-map p.classes (λ (c : ClassTree). c.name) in
    omega arith

-- ---- fields

tree_at : (cs : List ClassTree) (k : ℕ) → k < length cs → (c : ClassTree) × (slice_get cs k ≡ Some c)
tree_at [] k l = absurd (omega arith)
tree_at (c ∷ cs) zero l = (c, refl)
tree_at (c ∷ cs) (suc k) l = tree_at cs k (omega arith)

fields_none : (all : List ClassTree) (k : ℕ) (c : ClassTree) → class_faults_of all k c ≡ [] → fields_faults all k c ≡ []
fields_none all k c h =
    let one = depth_faults all k c ++ above_faults all k c.above in
    let two = one ++ twice_among [] (member_names c.members) in
    let three = two ++ constructor_faults (constructors_in c.members) in
    let four = three ++ fields_faults all k c in
    let five = four ++ methods_faults (methods_in c.members) in
    let six = five ++ override_faults all k (methods_in c.members) in
    let seven = six ++ members_faults (class_scope all k) c.members in
    let h7 = (none_left seven (bodies_faults all k c) h).0 in
    let h6 = (none_left six (members_faults (class_scope all k) c.members) h7).0 in
    let h5 = (none_left five (override_faults all k (methods_in c.members)) h6).0 in
    let h4 = (none_left four (methods_faults (methods_in c.members)) h5).0 in
    (none_left three (fields_faults all k c) h4).1

few_left : (before : ℕ) (fs : List FieldTree) → field_limit_faults before fs ≡ [] → length fs ≤ 1024 - before
unfolding most_fields
few_left before [] h = omega arith
few_left before (f ∷ fs) h =
    let both = none_left (if nat_lt before most_fields then [] else fault rule.Limit f.name.place) (field_limit_faults (before + 1) fs) h in
    let rest = few_left (before + 1) fs both.1 in
    ⊎_elim
    (λ yes. let l = ltb-true before 1024 yes in omega arith)
    (λ other. absurd (let bad : fault rule.Limit f.name.place ≡ [] = rw other at both.0 in let z : ⊥ = cc in z))
    (cases_Bool (nat_lt before most_fields))

own : List core.ClassTree → ℕ → ℕ
own cs t = length (fields_of (declared cs t))

count_object : (cs : List core.ClassTree) → field_count cs 0 ≡ 0
unfolding field_count
count_object cs = ap (sum_by (λ level. length (fields_of (declared cs level)))) (levels_object cs)

module _ (p : ProgramTree) (faultless : program_faults p ≡ []) where
  count_up : (t : ℕ) → t ≢ 0 → field_count (core_of p).classes t ≡ own (core_of p).classes t + field_count (core_of p).classes (chain.above (core_of p).classes t)
  unfolding field_count own
  count_up t nz =
      let cs = (core_of p).classes in
      ap (sum_by (λ level. length (fields_of (declared cs level)))) (levels_up cs (has_chain p faultless) t nz)
      ∙ sum_by-cons (λ level. length (fields_of (declared cs level))) t (levels cs (chain.above cs t))

  own_written : (k : ℕ) (c : ClassTree) → slice_get p.classes k ≡ Some c → own (core_of p).classes (4 + 2 * k) ≡ length (fields_in c.members)
  unfolding own
  own_written k c at =
      let l = slice_get_within p.classes k c at in
      let y = there_at p k l in
      let w = written_at p k y.0 y.1 in
      ap (λ o. length (fields_of o)) (declared_at (core_of p).classes k ∙ y.1) ∙ ap length w.fields ∙ length-map (fields_in w.tree.members) (field p.classes) ∙ ap (λ (o : Option ClassTree). length (fields_in (members_in o))) (sym w.there ∙ at)

  -- the fields of the classes along a chain
  along : (n : ℕ) (o : Option ℕ) → ((k : ℕ) → o ≡ Some k → k < length p.classes) → steps_above p.classes n o ≡ None →
      sum_by (λ j. length (fields_in (members_at p.classes j))) (chain_from p.classes n o) ≡ field_count (core_of p).classes (number_or_object o)
  along zero None within h = sym (count_object (core_of p).classes)
  along zero (Some k) within h = absurd (let z : ⊥ = cc in z)
  along (suc n) None within h = sym (count_object (core_of p).classes)
  along (suc n) (Some k) within h =
      let l = within k refl in
      let nz : 4 + 2 * k ≢ 0 = omega arith in
      let rest = along n (above p.classes k) (λ j e. above_within p.classes k j e) h in
      let c = tree_at p.classes k l in
      let mine : length (fields_in (members_at p.classes k)) ≡ own (core_of p).classes (4 + 2 * k) = ap (λ (o : Option ClassTree). length (fields_in (members_in o))) c.1 ∙ sym (own_written k c.0 c.1) in
      sum_by-cons (λ j. length (fields_in (members_at p.classes j))) k (chain_from p.classes n (above p.classes k))
      ∙ ap (λ a. a + sum_by (λ j. length (fields_in (members_at p.classes j))) (chain_from p.classes n (above p.classes k))) mine
      ∙ ap (λ b. own (core_of p).classes (4 + 2 * k) + b) (rest ∙ ap (field_count (core_of p).classes) (sym (up p faultless k l)))
      ∙ sym (count_up (4 + 2 * k) nz)

  few_of_class : (k : ℕ) (c : ClassTree) → slice_get p.classes k ≡ Some c → field_count (core_of p).classes (chain.above (core_of p).classes (4 + 2 * k)) ≤ 1024 → field_count (core_of p).classes (4 + 2 * k) ≤ 1024
  few_of_class k c at more =
      let l = slice_get_within p.classes k c at in
      let nz : 4 + 2 * k ≢ 0 = omega arith in
      let zero_more : 0 + k ≡ k = omega arith in
      let none = fields_none p.classes k c (subst (λ n. class_faults_of p.classes n c ≡ []) zero_more (class_faultless p.classes 0 p.classes k c (mains_one p faultless).1 at)) in
      let last = walks_end p.classes (no_cycles p faultless) k l in
      let further : steps_above p.classes (length p.classes) (above p.classes k) ≡ None = steps_more p.classes (length p.classes) (Some k) ∙ ap (option_and_then (above p.classes)) last in
      let inherited : inherited_fields p.classes k ≡ field_count (core_of p).classes (chain.above (core_of p).classes (4 + 2 * k)) =
      along (length p.classes) (above p.classes k) (λ j e. above_within p.classes k j e) further ∙ ap (field_count (core_of p).classes) (sym (up p faultless k l)) in
      let limit : field_limit_faults (inherited_fields p.classes k) (fields_in c.members) ≡ [] = rw last at none in
      let left = few_left (inherited_fields p.classes k) (fields_in c.members) limit in
      let whole = count_up (4 + 2 * k) nz in
      let mine = own_written k c at in
      omega arith

  own_none : (u : ℕ) → declared (core_of p).classes u ≡ None → own (core_of p).classes u ≡ 0
  unfolding own
  own_none u e = ap (λ o. length (fields_of o)) e

  few_fields : (t : ℕ) → field_count (core_of p).classes t ≤ 1024
  few_fields t =
      induct_up (core_of p).classes (has_chain p faultless) (λ u. field_count (core_of p).classes u ≤ 1024)
      (let z = count_object (core_of p).classes in omega arith)
      (λ u nz more. look u nz more (declared (core_of p).classes u) refl)
      t
    where
      look : (u : ℕ) → u ≢ 0 → field_count (core_of p).classes (chain.above (core_of p).classes u) ≤ 1024 → (o : Option core.ClassTree) → declared (core_of p).classes u ≡ o → field_count (core_of p).classes u ≤ 1024
      look u nz more None e =
          let whole = count_up u nz in
          let none = own_none u e in
          omega arith
      look u nz more (Some y) e =
          let at = declared_place (core_of p).classes u y e in
          let w = written_at p at.0 y at.2 in
          subst (λ v. field_count (core_of p).classes v ≤ 1024) (sym at.1) (few_of_class at.0 w.tree w.there (subst (λ v. field_count (core_of p).classes (chain.above (core_of p).classes v) ≤ 1024) at.1 more))

  pub has_limits : IsWithinLimits (core_of p).classes
  has_limits = record { classes = (let s = size p in let l = few_classes p faultless in omega arith); fields = few_fields }
