-- What is chosen by a truth value, and what holds of each statement of code.
use Rattle.std.proofs.Common.{◌≡◌, Bool, true, false, refl}
use Rattle.std.specs.Prelude.{◌&&◌, if◌then◌else◌}
use Rattle.std.proofs.lemmas.Bool.{and_parts, and_from}
use Rattle.ss_core.specs.Tree as core
use Rattle.ss_core.specs.Tree.{IfStmt, LoopStmt, CodeTree, NoCode, Then}
use Rattle.ss_store_rules.specs.Locals.{each, each_inside}

-- what holds of both sides, of each where it is chosen
pub where_chosen : {X : Type 0} (P : X → Type 0) (b : Bool) (x y : X) → (b ≡ true → P x) → (b ≡ false → P y) → P (if b then x else y)
where_chosen P true x y h g = h refl
where_chosen P false x y h g = g refl

module _ (f g : core.StmtTree → Bool) (more : (s : core.StmtTree) → f s ≡ true → g s ≡ true) where
  mutual
    pub inside_more : (s : core.StmtTree) → each_inside f s ≡ true → each_inside g s ≡ true
    inside_more (IfStmt p e a b) h =
        let front = and_parts (f (IfStmt p e a b) && each f a) (each f b) h in
        let two = and_parts (f (IfStmt p e a b)) (each f a) front.0 in
        and_from _ _ (and_from _ _ (more (IfStmt p e a b) two.0) (each_more a two.1)) (each_more b front.1)
    inside_more (LoopStmt p invariants prelude e body exposes) h =
        let s = LoopStmt p invariants prelude e body exposes in
        let front = and_parts (f s && each f prelude) (each f body) h in
        let two = and_parts (f s) (each f prelude) front.0 in
        and_from _ _ (and_from _ _ (more s two.0) (each_more prelude two.1)) (each_more body front.1)
    inside_more s h = more s h

    pub each_more : (code : CodeTree) → each f code ≡ true → each g code ≡ true
    each_more NoCode h = refl
    each_more (Then s code) h = let both = and_parts (each_inside f s) (each f code) h in and_from _ _ (inside_more s both.0) (each_more code both.1)
