-- Where lines lead with one line more.
use Rattle.std.proofs.Common.{◌≡◌, List, [], ◌∷◌, ◌++◌, map, Option, Some, None, refl, ◌∙◌, ap, option_and_then}
use Rattle.std.proofs.lemmas.List.{map_push}
use Rattle.ss_deriv.specs.declared.line.Line.{Line}
use Rattle.ss_deriv.specs.Shape.{Turn, turn_of, Place, InCase, after, after_all, place_after}

none_more : (o : Option Place) → option_and_then (λ p. Some p) o ≡ o
none_more None = refl
none_more (Some p) = refl

after_all-push : (place : Place) (turns : List Turn) (t : Turn) → after_all place (turns ++ t ∷ []) ≡ option_and_then (λ p. after p t) (after_all place turns)
after_all-push place [] t = none_more (after place t)
after_all-push place (u ∷ us) t = by_place (after place u) (λ p. after_all-push p us t)
  where
    by_place : (o : Option Place) → ((p : Place) → after_all p (us ++ t ∷ []) ≡ option_and_then (λ q. after q t) (after_all p us)) →
        option_and_then (λ p. after_all p (us ++ t ∷ [])) o ≡ option_and_then (λ q. after q t) (option_and_then (λ p. after_all p us) o)
    by_place None ih = refl
    by_place (Some p) ih = ih p

pub place_after-push : (lines : List Line) (line : Line) (p : Place) → place_after lines ≡ Some p → place_after (lines ++ line ∷ []) ≡ after p (turn_of line)
place_after-push lines line p e =
    ap (after_all (InCase 0)) (map_push turn_of lines line) ∙ after_all-push (InCase 0) (map turn_of lines) (turn_of line) ∙ ap (option_and_then (λ q. after q (turn_of line))) e
