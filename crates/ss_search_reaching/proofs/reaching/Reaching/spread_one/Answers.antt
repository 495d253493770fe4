use Rattle.std.proofs.Common.{ℕ, List, length, refl, sym, ◌∙◌, ap, subst, arith}
use Rattle.std.specs.Prelude.{slice_get}
use Rattle.std.specs.List.{Contains}
use Rattle.std.proofs.lemmas.List.{get_or_read}
use Rattle.std.proofs.lemmas.Option.{slice_get_read}
use Rattle.ss_terms.specs.declared.forms.FormulaId.{FormulaId}
use Rattle.ss_terms.specs.Forms.{formula_at, formulas_at, HasFormula, HasFormulas}
use Rattle.ss_terms.proofs.Tested.{AreBelow-get}
use Rattle.ss_logic.specs.Includes.{Includes}
use Rattle.ss_logic.proofs.Lists.{map_to}
use Rattle.ss_search_reached.specs.Following.{Occur, IsSpread}
use Rattle.ss_search_reached.proofs.Lists.{contains_get, below_parts}
use Rattle.ss_search_reached.proofs.Names.{ok_then}
use Rattle.ss_search_reached.proofs.Spread.{and_occur, and_spread, other_spread}
use Rattle.ss_search_path.specs.Standing.{IsOpenedFact}
use Rattle.ss_search_path.proofs.StandingFacts.{some_same}
use Rattle.ss_search_reaching.specs.Refuting.{and_of}
use Rattle.ss_search_reaching.specs.Reaching.{place_of, facts_of, reached_of}
use Rattle.ss_search_reaching.proofs.Learning.{nothing_grows, reaches_itself}
use Rattle.ss_search_reaching.proofs.Spread.{and_reaches}
use Rattle.ss_search_reaching.proofs.reaching.Reaching.spread_one.Goals as goal

pub formula_node-requires : goal.formula_node-requires
formula_node-requires c =
    let known = c.args.self.now.reached.known in
    let d : FormulaId = record { 0 = 0 } in
    let f_is = get_or_read known.items c.args.at c.index-f.result.now c.requires.at c.index-f.ensures d in
    subst (HasFormula c.args.given.now.bank.now) (sym f_is) (AreBelow-get _ known.items c.args.at d c.requires.state.reached.has c.requires.at)

pub spread_and-requires-clause-formulas : goal.spread_and-requires-clause-formulas
spread_and-requires-clause-formulas c =
    let b = c.args.given.now.bank.now in
    let known = c.args.self.now.reached.known in
    let d : FormulaId = record { 0 = 0 } in
    let f_is = get_or_read known.items c.args.at c.index-f.result.now c.requires.at c.index-f.ensures d in
    let has = subst (HasFormula b) (sym f_is) (AreBelow-get _ known.items c.args.at d c.requires.state.reached.has c.requires.at) in
    subst (HasFormulas b) (sym c.deref.ensures.value) (below_parts b c.index-f.result.now c.in-And.parts.items has (rw c.in-And.is at c.formula_node.ensures).below)

pub spread_and-requires-clause-occur : goal.spread_and-requires-clause-occur
spread_and-requires-clause-occur c =
    let b = c.args.given.now.bank.now in
    let r = c.args.self.now in
    let known = r.reached.known in
    let d : FormulaId = record { 0 = 0 } in
    let f_is = get_or_read known.items c.args.at c.index-f.result.now c.requires.at c.index-f.ensures d in
    let there = subst (λ (g : FormulaId). Contains (reached_of c.args.given.now r) (formula_at b g)) (sym f_is) (map_to (formula_at b) known.items _ (contains_get known.items c.args.at d c.requires.at)) in
    subst (λ (gs : List FormulaId). Occur (reached_of c.args.given.now r) (formulas_at b gs)) (sym c.deref.ensures.value)
    (and_occur b (reached_of c.args.given.now r) c.index-f.result.now c.in-And.parts.items (rw c.in-And.is at c.formula_node.ensures).built there)

pub returns-in-And-clause-spread : goal.returns-in-And-clause-spread
returns-in-And-clause-spread c =
    let g = c.args.given.now in
    let b = g.bank.now in
    let known = c.args.self.now.reached.known in
    let new = c.spread_and.new.self in
    let x = c.index-f.result.now in
    let x_at = slice_get_read known.items (length known.items) c.args.at x refl c.requires.at c.index-f.ensures in
    ok_then c.spread_and.result (λ all f at. subst (λ (h : FormulaId). IsSpread (reached_of g new) (formula_at b h)) (some_same (slice_get known.items c.args.at) x f x_at at)
    (and_spread b (reached_of g new) x c.in-And.parts.items (rw c.in-And.is at c.formula_node.ensures).built (subst (λ (fs : List FormulaId). Includes (reached_of g new) (formulas_at b fs)) c.deref.ensures.value all))) c.spread_and.ensures.known

pub returns-in-And-clause-reaches : goal.returns-in-And-clause-reaches
returns-in-And-clause-reaches c =
    let g = c.args.given.now in
    let b = g.bank.now in
    let old = c.args.self.now in
    let known = old.reached.known in
    let new = c.spread_and.new.self in
    let x = c.index-f.result.now in
    let s = c.index.result.now in
    let fs = c.deref.result.now in
    let p = c.place_and_start-place in
    let x_at = slice_get_read known.items (length known.items) c.args.at x refl c.requires.at c.index-f.ensures in
    let s_at = slice_get_read old.standings.items (length old.standings.items) c.args.at s refl (omega (arith, c.requires.at, c.requires.state.long)) c.index.ensures in
    ok_then c.spread_and.result (λ h. and_reaches g old new c.args.at x s fs x_at s_at ((rw c.in-And.is at c.formula_node.ensures).built ∙ ap (and_of b) (sym c.deref.ensures.value))
    (λ cs premises goal shows fact. h cs premises goal shows
    (subst (λ (n : ℕ). IsOpenedFact cs g (facts_of g old) n p.result.1 (and_of b fs)) (sym p.ensures.place)
    (subst (λ (n : ℕ). IsOpenedFact cs g (facts_of g old) (place_of s) n (and_of b fs)) (sym p.ensures.start) fact)))) c.spread_and.ensures.reaches

pub returns-in-Or-clause-grows : goal.returns-in-Or-clause-grows
returns-in-Or-clause-grows c = nothing_grows c.args.given.now c.args.self.now c.requires.state

pub returns-in-Or-clause-spread : goal.returns-in-Or-clause-spread
returns-in-Or-clause-spread c = λ f at.
    let g = c.args.given.now in
    let b = g.bank.now in
    let known = c.args.self.now.reached.known in
    let x = c.index-f.result.now in
    let x_at = slice_get_read known.items (length known.items) c.args.at x refl c.requires.at c.index-f.ensures in
    other_spread (reached_of g c.args.self.now) (formula_at b f) _ (ap (formula_at b) (some_same (slice_get known.items c.args.at) f x at x_at) ∙ (rw c.in-Or.is at c.formula_node.ensures).built) refl

pub returns-in-Or-clause-reaches : goal.returns-in-Or-clause-reaches
returns-in-Or-clause-reaches c = reaches_itself c.args.given.now c.args.self.now

pub returns-in-Literal-clause-grows : goal.returns-in-Literal-clause-grows
returns-in-Literal-clause-grows c = nothing_grows c.args.given.now c.args.self.now c.requires.state

pub returns-in-Literal-clause-spread : goal.returns-in-Literal-clause-spread
returns-in-Literal-clause-spread c = λ f at.
    let g = c.args.given.now in
    let b = g.bank.now in
    let known = c.args.self.now.reached.known in
    let x = c.index-f.result.now in
    let x_at = slice_get_read known.items (length known.items) c.args.at x refl c.requires.at c.index-f.ensures in
    other_spread (reached_of g c.args.self.now) (formula_at b f) _ (ap (formula_at b) (some_same (slice_get known.items c.args.at) f x at x_at) ∙ (rw c.in-Literal.is at c.formula_node.ensures).built) refl

pub returns-in-Literal-clause-reaches : goal.returns-in-Literal-clause-reaches
returns-in-Literal-clause-reaches c = reaches_itself c.args.given.now c.args.self.now

pub returns-in-Forall-clause-grows : goal.returns-in-Forall-clause-grows
returns-in-Forall-clause-grows c = nothing_grows c.args.given.now c.args.self.now c.requires.state

pub returns-in-Forall-clause-spread : goal.returns-in-Forall-clause-spread
returns-in-Forall-clause-spread c = λ f at.
    let g = c.args.given.now in
    let b = g.bank.now in
    let known = c.args.self.now.reached.known in
    let x = c.index-f.result.now in
    let x_at = slice_get_read known.items (length known.items) c.args.at x refl c.requires.at c.index-f.ensures in
    other_spread (reached_of g c.args.self.now) (formula_at b f) _ (ap (formula_at b) (some_same (slice_get known.items c.args.at) f x at x_at) ∙ (rw c.in-Forall.is at c.formula_node.ensures).built) refl

pub returns-in-Forall-clause-reaches : goal.returns-in-Forall-clause-reaches
returns-in-Forall-clause-reaches c = reaches_itself c.args.given.now c.args.self.now

pub returns-in-Exists-clause-grows : goal.returns-in-Exists-clause-grows
returns-in-Exists-clause-grows c = nothing_grows c.args.given.now c.args.self.now c.requires.state

pub returns-in-Exists-clause-spread : goal.returns-in-Exists-clause-spread
returns-in-Exists-clause-spread c = λ f at.
    let g = c.args.given.now in
    let b = g.bank.now in
    let known = c.args.self.now.reached.known in
    let x = c.index-f.result.now in
    let x_at = slice_get_read known.items (length known.items) c.args.at x refl c.requires.at c.index-f.ensures in
    other_spread (reached_of g c.args.self.now) (formula_at b f) _ (ap (formula_at b) (some_same (slice_get known.items c.args.at) f x at x_at) ∙ (rw c.in-Exists.is at c.formula_node.ensures).built) refl

pub returns-in-Exists-clause-reaches : goal.returns-in-Exists-clause-reaches
returns-in-Exists-clause-reaches c = reaches_itself c.args.given.now c.args.self.now
