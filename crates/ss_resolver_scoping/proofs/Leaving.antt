-- A scope that was entered is left again.
use Rattle.std.proofs.Common.{◌≡◌, ◌∷◌, refl, ap, ◌∙◌}
use Rattle.ss_tables.specs.Named.{Scoped, entered, left}

pub left_again : {A : Type 0} (m n : Scoped A) → m.outer ≡ n.inner ∷ n.outer → left m ≡ n
left_again m n e = rw e refl

-- a scope that was entered, and in which the innermost scope alone changed
pub left_entered : {A : Type 0} (l l1 l2 l3 : Scoped A) → l1 ≡ entered l → l2.outer ≡ l1.outer → l3 ≡ left l2 → l3 ≡ l
left_entered {A} l l1 l2 l3 e o h = h ∙ left_again l2 l (o ∙ ap (λ (n : Scoped A). n.outer) e)
