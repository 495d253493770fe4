-- The ground form: a list of instances by rounds.
use Rattle.std.specs.Prelude.{ℕ, zero, suc, List, [], ◌∷◌, length, reverse, not, ◌==◌, nat_le, Option, Some, None, option_and_then, if◌then◌else◌}
use Rattle.ss_core.specs.Tree.{ClassTree}
use Rattle.ss_logic.specs.Formulas.{Formula}
use Rattle.ss_logic.specs.Occurring.{atoms, terms, quantified, with_formulas}
use Rattle.ss_logic.specs.Opened.{start}
use Rattle.ss_logic.specs.Asked.{all_said, asked_to_close, asked_first}
use Rattle.ss_logic.specs.Matching.{forall_instances}

-- ---- closing: the instances at the terms of a list

abbrev pub due : List ClassTree → List Formula → List Formula
due cs fs = all_said cs (asked_to_close cs (atoms fs) (terms fs))

-- what is done with a longer list than there was; it stays where it isn't longer. None where it has more than `limit` formulas.
abbrev pub if_more : ℕ → List Formula → (List Formula → Option (List Formula)) → List Formula → Option (List Formula)
if_more limit fs next more = if not (nat_le (length more) limit) then None else if length more == length fs then Some more else next more

-- the list with what is due, again until nothing is new, in n steps
abbrev pub closed_from : List ClassTree → ℕ → ℕ → List Formula → Option (List Formula)
closed_from cs limit zero fs = None
closed_from cs limit (suc n) fs = if_more limit fs (closed_from cs limit n) (with_formulas fs (due cs fs))

-- Each step but the last adds a formula, so a list that isn't empty is closed after `limit` steps or has more formulas.
abbrev pub closed : List ClassTree → ℕ → List Formula → Option (List Formula)
closed cs limit fs = closed_from cs limit limit fs

-- ---- a round

-- first the rules on good stores and numbers
abbrev pub first_step : List ClassTree → List Formula → List Formula
first_step cs fs = all_said cs (asked_first cs (atoms fs) (terms fs))

-- then each of these quantified formulas, after each of which the list is closed
abbrev pub foralls_step : List ClassTree → ℕ → List Formula → List Formula → Option (List Formula)
foralls_step cs limit [] fs = Some fs
foralls_step cs limit (f ∷ others) fs = option_and_then (foralls_step cs limit others) (closed cs limit (with_formulas fs (forall_instances fs f)))

-- from the last to the first of those that stood there when the round began
abbrev pub round : List ClassTree → ℕ → List Formula → Option (List Formula)
round cs limit fs = option_and_then (foralls_step cs limit (reverse (quantified fs))) (closed cs limit (with_formulas fs (first_step cs fs)))

abbrev pub rounds_of : List ClassTree → ℕ → ℕ → List Formula → Option (List Formula)
rounds_of cs limit zero fs = Some fs
rounds_of cs limit (suc n) fs = option_and_then (rounds_of cs limit n) (round cs limit fs)

-- The ground form of an obligation, after this many rounds; none where it has more than `limit` formulas.
abbrev pub ground_form : List ClassTree → List Formula → Formula → ℕ → ℕ → Option (List Formula)
ground_form cs premises goal rounds limit = option_and_then (rounds_of cs limit rounds) (closed cs limit (with_formulas [] (start premises goal)))
