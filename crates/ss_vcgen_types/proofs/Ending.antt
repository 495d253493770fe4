-- What is false of an operand, and of all with links or steps after it.
use Rattle.std.proofs.Common.{◌≡◌, ℕ, zero, suc, ◌+◌, ◌<◌, Bool, true, false, List, [], ◌∷◌, ◌++◌, length, take, drop, get_or, refl, sym, ap, ◌∙◌}
use Rattle.std.specs.Prelude.{◌&&◌}
use Rattle.ss_core.specs.declared.names.Place.{Place}
use Rattle.ss_core.specs.declared.expr.Link.{Link}
use Rattle.ss_core.specs.declared.expr.Step.{Step}
use Rattle.ss_core.specs.declared.expr.Expr.TheOpen as shape
use Rattle.ss_core.specs.declared.expr.Expr.TheOpen.{Link-F, Step-F}
use Rattle.ss_core.specs.Tree.{ExprTree, BodyTree}
use Rattle.ss_core.specs.View.{Behind, link_step, step_step}
use Rattle.ss_core.specs.Parts.{link_after, step_after, chain_front, path_front}
use Rattle.ss_store_rules.specs.Locals.{everywhere}
use Rattle.ss_store_rules.specs.NonNull.{is_this_object}
use Rattle.ss_store_rules.specs.Types.{is_allowed, in_code}
use Rattle.ss_vcgen_types.proofs.Grouping.{link_shape, step_shape}
use Rattle.ss_vcgen_types.proofs.Walking.{from_here}

-- what is false of an operand is false after it
abbrev pub LinksKeep : (ExprTree → Bool) → Type 0
LinksKeep f = (l : Link) (p : Place) (t : ExprTree) → f t ≡ false → f (link_after l p t) ≡ false

abbrev pub StepsKeep : (ExprTree → Bool) → Type 0
StepsKeep f = (s : Step) (p : Place) (t : ExprTree) → f t ≡ false → f (step_after s p t) ≡ false

chain_false : (f : ExprTree → Bool) → LinksKeep f → (p : Place) (t : ExprTree) (ls : List Link) → f t ≡ false → f (chain_front p t ls) ≡ false
chain_false f keep p t [] h = h
chain_false f keep p t (l ∷ ls) h = chain_false f keep p (link_after l p t) ls (keep l p t h)

path_false : (f : ExprTree → Bool) → StepsKeep f → (p : Place) (t : ExprTree) (ls : List Step) → f t ≡ false → f (path_front p t ls) ≡ false
path_false f keep p t [] h = h
path_false f keep p t (l ∷ ls) h = path_false f keep p (step_after l p t) ls (keep l p t h)

chain_append : (p : Place) (e : ExprTree) (ls ms : List Link) → chain_front p e (ls ++ ms) ≡ chain_front p (chain_front p e ls) ms
chain_append p e [] ms = refl
chain_append p e (l ∷ ls) ms = chain_append p (link_after l p e) ls ms

path_append : (p : Place) (e : ExprTree) (ls ms : List Step) → path_front p e (ls ++ ms) ≡ path_front p (path_front p e ls) ms
path_append p e [] ms = refl
path_append p e (l ∷ ls) ms = path_append p (step_after l p e) ls ms

parted : {X : Type 0} (xs : List X) (i : ℕ) → take i xs ++ drop i xs ≡ xs
parted xs i = take_drop xs i
  where
    take_drop : {X : Type 0} (xs : List X) (i : ℕ) → take i xs ++ drop i xs ≡ xs
    take_drop [] zero = refl
    take_drop [] (suc i) = refl
    take_drop (x ∷ xs) zero = refl
    take_drop (x ∷ xs) (suc i) = ap (λ ys. x ∷ ys) (take_drop xs i)

-- with one link of which it is false the whole is so
pub chain_ends : (f : ExprTree → Bool) → LinksKeep f → (p : Place) (e : ExprTree) (ls : List Link) (i : ℕ) (x : Link) → i < length ls → x ≡ get_or ls i x → f (link_after x p (chain_front p e (take i ls))) ≡ false → f (chain_front p e ls) ≡ false
chain_ends f keep p e ls i x lt is h =
    ap (λ ms. f (chain_front p e ms)) (sym (parted ls i) ∙ ap (λ ms. take i ls ++ ms) (from_here ls i x lt is))
    ∙ ap f (chain_append p e (take i ls) (x ∷ drop (i + 1) ls))
    ∙ chain_false f keep p (link_after x p (chain_front p e (take i ls))) (drop (i + 1) ls) h

pub path_ends : (f : ExprTree → Bool) → StepsKeep f → (p : Place) (e : ExprTree) (ls : List Step) (i : ℕ) (x : Step) → i < length ls → x ≡ get_or ls i x → f (step_after x p (path_front p e (take i ls))) ≡ false → f (path_front p e ls) ≡ false
path_ends f keep p e ls i x lt is h =
    ap (λ ms. f (path_front p e ms)) (sym (parted ls i) ∙ ap (λ ms. take i ls ++ ms) (from_here ls i x lt is))
    ∙ ap f (path_append p e (take i ls) (x ∷ drop (i + 1) ls))
    ∙ path_false f keep p (step_after x p (path_front p e (take i ls))) (drop (i + 1) ls) h

-- ---- `this`, and what may stand in code

this_kept : (l : Link-F ExprTree Behind Behind) (p : Place) (t : ExprTree) → is_this_object t ≡ false → is_this_object (link_step l p t) ≡ false
this_kept (shape.Operation o b) p t h = refl
this_kept (shape.Is c) p t h = refl
this_kept (shape.As c) p t h = h

pub this_links : LinksKeep is_this_object
this_links l p t h = ap (λ (b : Behind). is_this_object (b p t)) (link_shape l).is ∙ this_kept (link_shape l).shape p t h

code_kept : (b : BodyTree) (l : Link-F ExprTree Behind Behind) (p : Place) (t : ExprTree) → everywhere (is_allowed b in_code) t ≡ false → everywhere (is_allowed b in_code) (link_step l p t) ≡ false
code_kept b (shape.Operation o a) p t h = ap (λ x. x && everywhere (is_allowed b in_code) a) h
code_kept b (shape.Is c) p t h = h
code_kept b (shape.As c) p t h = h

pub code_links : (b : BodyTree) → LinksKeep (everywhere (is_allowed b in_code))
code_links b l p t h = ap (λ (g : Behind). everywhere (is_allowed b in_code) (g p t)) (link_shape l).is ∙ code_kept b (link_shape l).shape p t h

steps_kept : (b : BodyTree) (l : Step-F ExprTree Behind Behind) (p : Place) (t : ExprTree) → everywhere (is_allowed b in_code) t ≡ false → everywhere (is_allowed b in_code) (step_step l p t) ≡ false
steps_kept b (shape.Field f) p t h = h
steps_kept b (shape.Element i) p t h = ap (λ x. x && everywhere (is_allowed b in_code) i) h
steps_kept b shape.Length p t h = h

pub code_steps : (b : BodyTree) → StepsKeep (everywhere (is_allowed b in_code))
code_steps b l p t h = ap (λ (g : Behind). everywhere (is_allowed b in_code) (g p t)) (step_shape l).is ∙ steps_kept b (step_shape l).shape p t h

pub and_false : (b : Bool) → (b && false) ≡ false
and_false true = refl
and_false false = refl

pub and_true : (b : Bool) → (b && true) ≡ b
and_true true = refl
and_true false = refl
