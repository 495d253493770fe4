-- Splits that aren't enough.
use Rattle.std.proofs.Common.{◌≡◌, ℕ, zero, suc, ◌*◌, ◌^◌, ◌<◌, ◌≤◌, List, length, ap, sym, ◌∙◌, subst, ⊎_elim, arith}
use Rattle.std.proofs.lemmas.List.{length-map}
use Rattle.std.proofs.Math.Nat.{eq-or-lt_of_le}
use Rattle.ss_core.specs.Tree.{ClassTree}
use Rattle.ss_logic.specs.Formulas.{Formula}
use Rattle.ss_logic_countermodels.specs.Refuting.{told}
use Rattle.ss_logic.specs.Includes.{Includes}
use Rattle.ss_search_procedure_rules.specs.Closed.{Closed, at_once, StaysOpen, AreEnough}
use Rattle.ss_search_procedure_rules.proofs.Open.{closed_deeper, open_isn't_closed}
use Rattle.ss_logic_countermodels.specs.declared.Countermodel.{Countermodel}
use Rattle.ss_terms.specs.Forms.{formula_at}
use Rattle.ss_search_procedure.specs.declared.settling.Settled.{Settled}
use Rattle.ss_search_procedure.specs.declared.settling.Settled.TheVariants as settled
use Rattle.ss_search_procedure.specs.declared.setting.Settling.{Settling}
use Rattle.ss_search_procedure.specs.Decisions.{bank_of, settled_ones, IsSetting}
use Rattle.ss_search_procedure.specs.Answers.{IfCountered}

closed_to : (cs : List ClassTree) (fs : List Formula) (d depth : ℕ) → d ≤ depth → Closed cs d fs → Closed cs depth fs
closed_to cs fs d zero h c = let e : d ≡ 0 = omega (arith, h) in subst (λ n. Closed cs n fs) e c
closed_to cs fs d (suc depth) h c = ⊎_elim
    (λ (e : d ≡ suc depth). subst (λ n. Closed cs n fs) e c)
    (λ (l : d < suc depth). closed_deeper cs depth fs (closed_to cs fs d depth (omega (arith, l)) c))
    (eq-or-lt_of_le h)

pub not_enough : (cs : List ClassTree) (fs reached : List Formula) (limit depth : ℕ) → StaysOpen cs depth reached → Includes reached fs →
    ((d : ℕ) → (2 * length (told fs)) ^ (2 * d) ≤ limit → d ≤ depth) → (2 ^ length (told fs) ≤ limit → ⊥) → AreEnough cs fs limit → ⊥
not_enough cs fs reached limit depth stays i few many enough = ⊎_elim
    (λ n. open_isn't_closed cs depth reached stays fs i (at_once n))
    (λ r. ⊎_elim (λ k. open_isn't_closed cs depth reached stays fs i (closed_to cs fs k.0 depth (few k.0 k.3) k.2)) many r)
    enough

-- ---- what is settled

-- there are as many decisions as are told
pub as_many : (s : Settling) → IsSetting s → length s.decisions.now ≡ length (told (settled_ones s))
as_many s h = sym (length-map s.decisions.now (formula_at (bank_of s))) ∙ ap length h.decisions

pub nothing_countered : (P : Countermodel → Type 0) (x : Settled) → IfCountered (λ m. ⊥) x → IfCountered P x
nothing_countered P (settled.Closed d) h = tt
nothing_countered P (settled.Countered m) h = absurd h
nothing_countered P settled.Spent h = tt
