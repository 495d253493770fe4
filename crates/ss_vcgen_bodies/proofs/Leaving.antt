-- What the frame condition of a body reads of a position.
use Rattle.std.proofs.Common.{◌≡◌, List, Option, ap, ◌∙◌}
use Rattle.ss_logic.specs.Terms.{Term}
use Rattle.ss_vcgen_heaps.specs.Positions.{Position, Walk}
use Rattle.ss_vcgen_heaps.specs.Obligations.{frame_formula}
use Rattle.ss_vcgen_statements.proofs.InContexts.{IsAlike}

pub frame_alike : (w : Walk) (outside : List Term) (k l : Position) → IsAlike k l → frame_formula w outside k ≡ frame_formula w outside l
frame_alike w outside k l h =
    ap (λ (ls : List (Option Term)). frame_formula w outside (record k { locals = ls })) h.locals
    ∙ ap (λ (z : Term). frame_formula w outside (record k { locals = l.locals; store = z })) h.store
