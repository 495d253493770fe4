-- Lines that derive a goal have the shape of a derivation.
use Rattle.std.proofs.Common.{◌≡◌, ◌*◌, List, [], ◌∷◌, ◌++◌, length, map, reverse, Bool, true, false, cond, Option, Some, None, option_and_then, refl, sym, ◌∙◌, ap, subst, append_assoc}
use Rattle.std.specs.Prelude.{IsSome}
use Rattle.std.proofs.lemmas.List.{map-append, reverse-append, reverse-reverse}
use Rattle.ss_core.specs.Tree.{ClassTree}
use Rattle.ss_logic.specs.Formulas.{Formula}
use Rattle.ss_logic.proofs.Options.{and_then_some}
use Rattle.ss_logic_means.specs.Steps.{State, Open, Between, Nowhere, step, run, Derives}
use Rattle.ss_terms.specs.Forms.{Forms}
use Rattle.ss_deriv.specs.declared.line.Line.{Line}
use Rattle.ss_deriv.specs.declared.line.Line.TheVariants.{Premise, Denied, Part, Split, Cut, Inst, Choose, Rule, Good, Invariants, Chain, Cong, Swap, Sum, Clash, Case}
use Rattle.ss_deriv.specs.Lines.{is_within, line_in, line_of, lines_of}
use Rattle.ss_deriv.specs.Shape.{Turn, turn_of, Place, InCase, after, after_all, place_after, IsBegun, IsShaped}
use Rattle.ss_deriv.specs.Trees.{turn}
use Rattle.ss_deriv.proofs.Shaped.{Derives-ends}
use Rattle.ss_search_clashes.specs.Closing.{Closes}
use Rattle.ss_search_path.specs.declared.path.Path.{Path}
use Rattle.ss_search_path.specs.Paths.{known_on, IsPath}
use Rattle.ss_search_path.proofs.Lines.{lines_append}

-- ---- first lines

after_both : (place : Place) (ts us : List Turn) → after_all place (ts ++ us) ≡ option_and_then (λ p. after_all p us) (after_all place ts)
after_both place [] us = refl
after_both place (t ∷ ts) us = by (after place t) (λ p. after_both p ts us)
  where
    by : (o : Option Place) → ((p : Place) → after_all p (ts ++ us) ≡ option_and_then (λ q. after_all q us) (after_all p ts)) →
        option_and_then (λ p. after_all p (ts ++ us)) o ≡ option_and_then (λ q. after_all q us) (option_and_then (λ p. after_all p ts) o)
    by None ih = refl
    by (Some p) ih = ih p

-- the first lines of a derivation that is begun begin one
pub begun_front : (xs ys : List Line) → IsBegun (xs ++ ys) → IsBegun xs
begun_front xs ys h = by (place_after xs) (subst IsSome (ap (after_all (InCase 0)) (map-append turn_of xs ys) ∙ after_both (InCase 0) (map turn_of xs) (map turn_of ys)) h)
  where
    by : (o : Option Place) → IsSome (option_and_then (λ p. after_all p (map turn_of ys)) o) → IsSome o
    by None k = k
    by (Some p) k = refl

pub shaped_begun : (xs : List Line) → IsShaped xs → IsBegun xs
shaped_begun xs h = subst IsSome (sym h) refl

-- where more lines follow, one that comes next begins a derivation too
pub line_begins : (drafted rest all : List Line) (line : Line) → (drafted ++ line ∷ []) ++ reverse rest ≡ all → IsBegun all → IsBegun (drafted ++ line ∷ [])
line_begins drafted rest all line whole h = begun_front (drafted ++ line ∷ []) (reverse rest) (subst IsBegun (sym whole) h)

pub begun_from_none : (none xs : List Line) → none ≡ [] → IsShaped xs → IsBegun (none ++ xs)
begun_from_none none xs empty h = subst (λ d. IsBegun (d ++ xs)) (sym empty) (shaped_begun xs h)

pub all_from_none : (none xs now : List Line) → none ≡ [] → now ≡ none ++ xs → now ≡ xs
all_from_none none xs now empty e = e ∙ ap (λ d. d ++ xs) empty

pub next_line : (drafted rest rest' all : List Line) (line : Line) → drafted ++ reverse rest ≡ all → rest ≡ rest' ++ line ∷ [] → (drafted ++ line ∷ []) ++ reverse rest' ≡ all
next_line drafted rest rest' all line h e = append_assoc drafted (line ∷ []) (reverse rest') ∙ ap (λ xs. drafted ++ xs) (sym (ap reverse e ∙ reverse-append rest' (line ∷ []))) ∙ h

pub whole_turned : (before closing behind : List Line) → reverse ((behind ++ reverse closing) ++ reverse before) ≡ (before ++ closing) ++ reverse behind
whole_turned before closing behind =
    reverse-append (behind ++ reverse closing) (reverse before)
    ∙ ap (λ xs. xs ++ reverse (behind ++ reverse closing)) (reverse-reverse before)
    ∙ ap (λ xs. before ++ xs) (reverse-append behind (reverse closing) ∙ ap (λ xs. xs ++ reverse behind) (reverse-reverse closing))
    ∙ sym (append_assoc before closing (reverse behind))

-- ---- what is derived

module _ (cs : List ClassTree) (premises : List Formula) (goal : Formula) (b : Forms) where
  nowhere : {P : Type 0} (state next : State) → step cs premises goal state Nowhere ≡ Some next → P
  nowhere (Open known waiting) next e = cc
  nowhere (Between []) next e = cc
  nowhere (Between (known ∷ waiting)) next e = cc

  turns_in : (line : Line) → turn (line_in b line) ≡ turn_of line
  turns_in (Premise i) = refl
  turns_in Denied = refl
  turns_in (Part i j) = refl
  turns_in (Split i k) = refl
  turns_in (Cut f) = refl
  turns_in (Inst i ts) = refl
  turns_in (Choose f ts) = refl
  turns_in (Rule name ts) = refl
  turns_in (Good name i ts) = refl
  turns_in (Invariants i ts) = refl
  turns_in (Chain x y is) = refl
  turns_in (Cong x y is) = refl
  turns_in (Swap i f js) = refl
  turns_in (Sum s) = refl
  turns_in (Clash i j) = refl
  turns_in Case = refl

  line_turns : (line : Line) (state next : State) → step cs premises goal state (line_of b line) ≡ Some next → turn (line_of b line) ≡ turn_of line
  line_turns line state next e = by (is_within (length b.terms) (length b.formulas * 2) line) e
    where
      by : (t : Bool) → step cs premises goal state (cond t (line_in b line) Nowhere) ≡ Some next → turn (cond t (line_in b line) Nowhere) ≡ turn_of line
      by true h = turns_in line
      by false h = nowhere state next h

  turns_kept : (lines : List Line) (state last : State) → run cs premises goal state (lines_of b lines) ≡ Some last → map turn (lines_of b lines) ≡ map turn_of lines
  turns_kept [] state last e = refl
  turns_kept (line ∷ lines) state last e =
      let p = and_then_some (λ next. run cs premises goal next (lines_of b lines)) (step cs premises goal state (line_of b line)) last e in
      ap (λ t. t ∷ map turn (lines_of b lines)) (line_turns line state p.0 p.1) ∙ ap (λ ts. turn_of line ∷ ts) (turns_kept lines p.0 last p.2)

  pub derives_shaped : (lines : List Line) → Derives cs premises goal (lines_of b lines) → IsShaped lines
  derives_shaped lines d = sym (ap (after_all (InCase 0)) (turns_kept lines (Open [] []) (Between []) d)) ∙ Derives-ends cs premises goal (lines_of b lines) d

  pub path_derives : (p : Path) (closing lines : List Line) → IsPath cs premises goal b [] p → Closes cs premises goal (known_on b p) (lines_of b closing) → lines ≡ (p.before.items ++ closing) ++ reverse p.behind.items →
      Derives cs premises goal (lines_of b lines)
  path_derives p closing lines path closes is =
      subst (Closes cs premises goal [])
      (sym (ap (lines_of b) (is ∙ append_assoc p.before.items closing (reverse p.behind.items)) ∙ lines_append b p.before.items (closing ++ reverse p.behind.items) ∙ ap (λ ls. lines_of b p.before.items ++ ls) (lines_append b closing (reverse p.behind.items))))
      (path.closes (lines_of b closing) closes)
