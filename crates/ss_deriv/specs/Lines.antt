-- The lines that numbers of a bank stand for.
use Rattle.std.specs.Prelude.{ℕ, ◌*◌, List, length, map, Bool, true, ◌&&◌, nat_lt, if◌then◌else◌}
use Rattle.std.specs.List.{list_all}
use Rattle.ss_logic_means.specs.Steps as tree
use Rattle.ss_terms.specs.declared.forms.TermId.{TermId}
use Rattle.ss_terms.specs.Forms.{Forms, term_at, terms_at, formula_at}
use Rattle.ss_deriv.specs.declared.line.Line.{Line}
use Rattle.ss_deriv.specs.declared.line.Line.TheVariants.{Premise, Denied, Part, Split, Cut, Inst, Choose, Rule, Good, Invariants, Chain, Cong, Swap, Sum, Clash, Case}

-- the terms have numbers below this one
abbrev pub all_below : ℕ → List TermId → Bool
all_below n ts = list_all (λ t. nat_lt t.0 n) ts

-- the line names terms and formulas below these numbers
abbrev pub is_within : ℕ → ℕ → Line → Bool
is_within terms formulas (Premise i) = true
is_within terms formulas Denied = true
is_within terms formulas (Part i j) = true
is_within terms formulas (Split i k) = true
is_within terms formulas (Cut f) = nat_lt f.0 formulas
is_within terms formulas (Inst i ts) = all_below terms ts.items
is_within terms formulas (Choose f ts) = nat_lt f.0 formulas && all_below terms ts.items
is_within terms formulas (Rule name ts) = all_below terms ts.items
is_within terms formulas (Good name i ts) = all_below terms ts.items
is_within terms formulas (Invariants i ts) = all_below terms ts.items
is_within terms formulas (Chain x y is) = nat_lt x.0 terms && nat_lt y.0 terms
is_within terms formulas (Cong x y is) = nat_lt x.0 terms && nat_lt y.0 terms
is_within terms formulas (Swap i f js) = nat_lt f.0 formulas
is_within terms formulas (Sum s) = true
is_within terms formulas (Clash i j) = true
is_within terms formulas Case = true

-- the line that numbers of the bank stand for
abbrev pub line_in : Forms → Line → tree.Line
line_in b (Premise i) = tree.Premise i
line_in b Denied = tree.Denied
line_in b (Part i j) = tree.Part i j
line_in b (Split i k) = tree.Split i k
line_in b (Cut f) = tree.Cut (formula_at b f)
line_in b (Inst i ts) = tree.Inst i (terms_at b ts.items)
line_in b (Choose f ts) = tree.Choose (formula_at b f) (terms_at b ts.items)
line_in b (Rule name ts) = tree.Rule name (terms_at b ts.items)
line_in b (Good name i ts) = tree.GoodLine name i (terms_at b ts.items)
line_in b (Invariants i ts) = tree.InvariantsLine i (terms_at b ts.items)
line_in b (Chain x y is) = tree.Chain (term_at b x) (term_at b y) is.items
line_in b (Cong x y is) = tree.Cong (term_at b x) (term_at b y) is.items
line_in b (Swap i f js) = tree.Swap i (formula_at b f) js.items
line_in b (Sum s) = tree.Sum s.divisor s.parts.items
line_in b (Clash i j) = tree.Clash i j
line_in b Case = tree.Case

-- the line, or `Nowhere` where it names what the bank doesn't have
abbrev pub line_of : Forms → Line → tree.Line
line_of b line = if is_within (length b.terms) (length b.formulas * 2) line then line_in b line else tree.Nowhere

-- the derivation that lines over numbers of the bank stand for
abbrev pub lines_of : Forms → List Line → List tree.Line
lines_of b lines = map (line_of b) lines
