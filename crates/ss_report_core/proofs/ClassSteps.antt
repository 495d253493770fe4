-- The texts of classes, one by one.
use Rattle.std.proofs.Common.{◌≡◌, ℕ, ◌+◌, ◌*◌, ◌<◌, List, ◌∷◌, ◌++◌, map, drop, length, get_or, ap, sym, ◌∙◌, append_assoc, Bor}
use Rattle.std.proofs.lemmas.Option.{slice_get_read}
use Rattle.std.specs.Global.{Vec}
use Rattle.ss_core.specs.declared.body.Body.{Body}
use Rattle.ss_core.specs.declared.class.Class.{Class}
use Rattle.ss_core.specs.Tree.{ClassTree, BodyTree, CoreTree}
use Rattle.ss_core.specs.View.{class_of}
use Rattle.ss_report_core.specs.Text.{bodies_of, classes_from}
use Rattle.ss_report_core.specs.Groups.{trees, group_at, AreGroups, class_with}
use Rattle.ss_report_core.proofs.Written.{map_drop}

class_step : (c : CoreTree) (k : ℕ) (d : ClassTree) (ds all : List ClassTree) (group : List BodyTree) (out more whole : List ℕ) → all ≡ d ∷ ds → group ≡ bodies_of (4 + 2 * k) c.bodies → more ≡ out ++ class_with c d group → out ++ classes_from c k all ≡ whole
    → more ++ classes_from c (k + 1) ds ≡ whole
class_step c k d ds all group out more whole is_all is_group is_more before =
    let rest = classes_from c (k + 1) ds in
    ap (λ o. o ++ rest) is_more
    ∙ append_assoc out (class_with c d group) rest
    ∙ ap (λ (g : List BodyTree). out ++ (class_with c d g ++ rest)) is_group
    ∙ ap (λ (ds : List ClassTree). out ++ classes_from c k ds) (sym is_all)
    ∙ before

-- the group at the place of a class has its bodies
group_is : (count : ℕ) (bs : List BodyTree) (gs : List (Vec (Bor Body))) (k : ℕ) (g : Vec (Bor Body)) → AreGroups count bs gs → k < count → g ≡ get_or gs k g → trees g.items ≡ bodies_of (4 + 2 * k) bs
group_is count bs gs k g are inside is = ap group_at (sym (slice_get_read gs count k g (sym are.places) inside is)) ∙ are.each k inside

-- one more class is written
pub class_written : (c : CoreTree) (k : ℕ) (ds : List Class) (d : Class) (gs : List (Vec (Bor Body))) (g : Vec (Bor Body)) (bs : List (Bor Body)) (out more whole : List ℕ)
    → AreGroups (length ds) c.bodies gs → k < length ds → d ≡ get_or ds k d → g ≡ get_or gs k g → bs ≡ g.items
    → more ≡ out ++ class_with c (class_of d) (trees bs)
    → out ++ classes_from c k (map class_of (drop k ds)) ≡ whole
    → more ++ classes_from c (k + 1) (map class_of (drop (k + 1) ds)) ≡ whole
class_written c k ds d gs g bs out more whole are inside d_is g_is bs_is is_more before =
    class_step c k (class_of d) (map class_of (drop (k + 1) ds)) (map class_of (drop k ds)) (trees bs) out more whole
    (map_drop class_of ds k d inside d_is)
    (ap trees bs_is ∙ group_is (length ds) c.bodies gs k g are inside g_is)
    is_more before
