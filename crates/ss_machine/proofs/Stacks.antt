-- What stands after blocks, of which the last comes first.
use Rattle.std.proofs.Common.{◌≡◌, ◌<◌, List, [], ◌∷◌, ◌++◌, length, refl, ap, sym, ◌∙◌, arith, append_assoc}
use Rattle.std.proofs.lemmas.List.{append-nil}
use Rattle.ss_core.specs.declared.stmt.Stmt.{Stmt}
use Rattle.ss_core.specs.View.{block}
use Rattle.ss_machine_rules.specs.States.{Due, dues}
use Rattle.ss_machine.specs.declared.frame.Behind.{Behind}
use Rattle.ss_machine.specs.Frames.{dues_after, left_after}

pub left_push : (ps : List Behind) (p : Behind) → left_after (ps ++ p ∷ []) ≡ dues_after p ++ left_after ps
left_push [] p = sym (append-nil (dues_after p))
left_push (q ∷ ps) p = ap (λ (l : List Due). l ++ dues_after q) (left_push ps p) ∙ append_assoc (dues_after p) (left_after ps) (dues_after q)

-- a block at its end is left
pub leave_block : (code : List Stmt) (later ps : List Behind) (p : Behind) → length code < 1 → later ≡ ps ++ p ∷ [] → dues (block code) ++ left_after later ≡ dues_after p ++ left_after ps
leave_block [] later ps p lt e = ap left_after e ∙ left_push ps p
leave_block (s ∷ code) later ps p lt e = absurd (omega (arith, lt))

pub nothing_left : (code : List Stmt) (ds : List Due) → length code < 1 → ds ≡ dues (block code) ++ ds
nothing_left [] ds lt = refl
nothing_left (s ∷ code) ds lt = absurd (omega (arith, lt))
