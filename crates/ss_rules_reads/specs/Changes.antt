-- What reads give over changed stores, by the store.
use Rattle.std.specs.Prelude.{ℕ, List, [], ◌∷◌, ◌++◌, Option, Some, None}
use Rattle.ss_core.specs.Tree.{ClassTree}
use Rattle.ss_logic.specs.declared.Sort.{Sort}
use Rattle.ss_logic.specs.Terms.{Symbol, Element, Set, Put, Unpack, Pack, Capture, Join, New, NewArray, MakeReady, Term, app}
use Rattle.ss_logic.specs.Formulas.{Formula, neg}
use Rattle.ss_logic.specs.Shapes.{equal, committed, given, where_equal, where_different}
use Rattle.ss_logic.specs.Reads.{Look, ElementLook, owned_at, same_over, over_set, over_put, over_unpack, over_pack, over_capture, over_join, over_new, over_ready}

-- an element, where one of its sort was put
abbrev pub element_placed : Term → Term → Term → Term → Term → Sort → Term → Term → List Formula
element_placed after s a i v r b j =
    given (where_equal b a ++ where_equal j i) (equal (app (Element r) (after ∷ b ∷ j ∷ [])) v)
    ∷ where_different b a (same_over (ElementLook r b j) after s) ++ where_different j i (same_over (ElementLook r b j) after s)

-- whether p is committed, where o was unpacked from the class t
abbrev pub cleared : Term → ℕ → Term → Term → Term → List Formula
cleared after t s o p =
    given (owned_at s p o t ∷ []) (neg (committed after p))
    ∷ given (neg (owned_at s p o t) ∷ committed s p ∷ []) (committed after p)
    ∷ given (neg (committed s p) ∷ []) (neg (committed after p))
    ∷ []

-- what the read gives over the store `after`, which this change makes of these arguments
abbrev pub over_changed : List ClassTree → Term → Look → Symbol → List Term → Option (List Formula)
over_changed cs after look (Set f) (s ∷ o ∷ v ∷ []) = Some (over_set after f s o v look)
over_changed cs after look Put (s ∷ a ∷ i ∷ v ∷ []) = Some (over_put cs after s a i v look)
over_changed cs after look (Unpack t) (s ∷ o ∷ []) = Some (over_unpack cs after t s o look)
over_changed cs after look (Pack t) (s ∷ o ∷ []) = Some (over_pack after t s o look)
over_changed cs after look (Capture t) (s ∷ o ∷ e ∷ []) = Some (over_capture after t s o e look)
over_changed cs after look Join (s ∷ o ∷ e ∷ []) = Some (over_join after s o e look)
over_changed cs after look (New t) (s ∷ []) = Some (over_new cs after 0 neg s look)
over_changed cs after look (NewArray t) (s ∷ n ∷ []) = Some (over_new cs after t (λ f. f) s look)
over_changed cs after look MakeReady (s ∷ o ∷ []) = Some (over_ready after s o look)
over_changed cs after look f ts = None
