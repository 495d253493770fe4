-- The levels of a class in a resolved program, and what is declared along them.
use Rattle.std.proofs.Common.{◌≡◌, ◌≢◌, ℕ, zero, suc, ◌+◌, ◌*◌, ◌<◌, List, [], ◌∷◌, ◌++◌, length, Option, Some, None, refl, sym, ◌∙◌, ap, arith}
use Rattle.std.specs.Prelude.{◌==◌, reverse, filter_map, if◌then◌else◌}
use Rattle.std.specs.List.{cons_option}
use Rattle.std.proofs.lemmas.List.{reverse-append}
use Rattle.ss_core.specs.Tree as core
use Rattle.ss_core.specs.Chain as chain
use Rattle.ss_core.specs.Chain.{declared, levels_from, most_levels, levels, below}
use Rattle.ss_core.proofs.Chains.{levels_object, levels_up}
use Rattle.ss_core.proofs.Declared.{declared_at, declared_place, above_undeclared}
use Rattle.ss_ast.specs.Programs.{ProgramTree}
use Rattle.ss_tables.specs.Classes.{above}
use Rattle.ss_typed.specs.Tree.{BodyTree}
use Rattle.ss_resolver_names_rules.specs.Programs.{program_faults}
use Rattle.ss_resolver_rules.specs.Numbers.{number_or_object}
use Rattle.ss_resolver_rules.specs.Programs.{resolved}
use Rattle.ss_expand_rules.specs.Contracts.{declared_at as declares, declarations}
use Rattle.ss_expand_formed.specs.Laws.{core_of}
use Rattle.ss_expand_formed.proofs.Places.{source_of, class_at}
use Rattle.ss_expand_formed.proofs.ChainLaw.{written_at, there_at, up, has_chain}
use Rattle.std.proofs.lemmas.Option.{slice_get_within}

-- ---- levels

levels_same : (cs ds : List core.ClassTree) → ((t : ℕ) → chain.above cs t ≡ chain.above ds t) → (n t : ℕ) → levels_from cs n t ≡ levels_from ds n t
levels_same cs ds same zero t = refl
levels_same cs ds same (suc n) t = ap (λ ls. t ∷ (if t == 0 then [] else ls)) (levels_same cs ds same n (chain.above cs t) ∙ ap (levels_from ds n) (same t))

-- so are the levels
pub levels_alike : (cs ds : List core.ClassTree) → ((t : ℕ) → chain.above cs t ≡ chain.above ds t) → (t : ℕ) → levels cs t ≡ levels ds t
unfolding levels most_levels
levels_alike cs ds same t = levels_same cs ds same 64 t

-- ---- declarations

-- what a class has besides what those above it declare
abbrev pub declared_last : Option BodyTree → List BodyTree
declared_last None = []
declared_last (Some b) = b ∷ []

reversed : (o : Option BodyTree) (bs : List BodyTree) → reverse (cons_option o bs) ≡ reverse bs ++ declared_last o
reversed None bs = append_none (reverse bs)
  where
    append_none : (xs : List BodyTree) → xs ≡ xs ++ []
    append_none [] = refl
    append_none (x ∷ xs) = ap (λ ys. x ∷ ys) (append_none xs)
reversed (Some b) bs = reverse-append (b ∷ []) bs

-- nothing is declared where no class is
pub declarations_of_object : (p : ProgramTree) (m : ℕ) → declarations (resolved p) 0 m ≡ []
declarations_of_object p m = ap (λ ls. reverse (filter_map (declares (resolved p) m) ls)) (levels_object (resolved p).classes)

module _ (p : ProgramTree) (faultless : program_faults p ≡ []) where
  pub above_at : (k : ℕ) → k < length p.classes → chain.above (resolved p).classes (4 + 2 * k) ≡ number_or_object (above p.classes k)
  above_at k l =
      let y = there_at p k l in
      let w = written_at p k y.0 y.1 in
      ap chain.above_of (class_at p k w.tree w.there)

  -- the class above stays in the elaboration
  pub above_stays : (t : ℕ) → chain.above (resolved p).classes t ≡ chain.above (core_of p).classes t
  above_stays t = look (declared (core_of p).classes t) refl
    where
      none : (o : Option core.ClassTree) → declared (resolved p).classes t ≡ o → declared (core_of p).classes t ≡ None → chain.above (resolved p).classes t ≡ 0
      none None e h = above_undeclared (resolved p).classes t e
      none (Some c) e h =
          let s = source_of p t c e in
          let y = there_at p s.place (slice_get_within p.classes s.place s.tree s.there) in
          let there : declared (core_of p).classes t ≡ Some y.0 = ap (declared (core_of p).classes) s.number ∙ declared_at (core_of p).classes s.place ∙ y.1 in
          absurd (let bad : Some y.0 ≡ None = sym there ∙ h in let z : ⊥ = cc in z)

      look : (o : Option core.ClassTree) → declared (core_of p).classes t ≡ o → chain.above (resolved p).classes t ≡ chain.above (core_of p).classes t
      look None e = none (declared (resolved p).classes t) refl e ∙ sym (above_undeclared (core_of p).classes t e)
      look (Some y) e =
          let at = declared_place (core_of p).classes t y e in
          let w = written_at p at.0 y at.2 in
          let l = slice_get_within p.classes at.0 w.tree w.there in
          ap (chain.above (resolved p).classes) at.1 ∙ above_at at.0 l ∙ sym (up p faultless at.0 l) ∙ sym (ap (chain.above (core_of p).classes) at.1)

  level_step : (k : ℕ) → k < length p.classes → levels (resolved p).classes (4 + 2 * k) ≡ (4 + 2 * k) ∷ levels (resolved p).classes (number_or_object (above p.classes k))
  level_step k l =
      let nz : 4 + 2 * k ≢ 0 = omega arith in
      let alike = levels_alike (resolved p).classes (core_of p).classes above_stays in
      alike (4 + 2 * k)
      ∙ levels_up (core_of p).classes (has_chain p faultless) (4 + 2 * k) nz
      ∙ ap (λ ls. (4 + 2 * k) ∷ ls) (ap (levels (core_of p).classes) (up p faultless k l) ∙ sym (alike (number_or_object (above p.classes k))))

  -- from the topmost class down
  pub declarations_step : (k m : ℕ) → k < length p.classes → declarations (resolved p) (4 + 2 * k) m ≡ declarations (resolved p) (number_or_object (above p.classes k)) m ++ declared_last (declares (resolved p) m (4 + 2 * k))
  declarations_step k m l =
      ap (λ ls. reverse (filter_map (declares (resolved p) m) ls)) (level_step k l)
      ∙ reversed (declares (resolved p) m (4 + 2 * k)) (filter_map (declares (resolved p) m) (levels (resolved p).classes (number_or_object (above p.classes k))))
