-- Whether `this` is ready stays so along paths.
use Rattle.std.proofs.Common.{◌≡◌, Bool, true, Option, Some, None, refl, subst}
use Rattle.std.proofs.lemmas.Bool.{and_parts, and_from, or_left}
use Rattle.ss_core.specs.Tree.{CoreTree}
use Rattle.ss_store_rules.specs.Values.{Setting}
use Rattle.ss_store_rules.specs.Paths.{Check, in_body}
use Rattle.ss_machine_good.specs.Flows.{Loop, known_at_test, known_at_end, IsSound}
use Rattle.ss_machine_good.specs.Checks.{ready_flow, makes_ready, IsThisReady}
use Rattle.ss_machine_good.proofs.Along.{Where, IsEnough, end_where}

abbrev anything : Check Bool
anything = record { statement = λ s r. true; test = λ e r. true }

-- what is ready stays so
stays : (c : CoreTree) (k : Bool) → IsEnough (ready_flow c) anything (λ r. k ≡ true → r ≡ true)
stays c k = record {
  after = λ s r h e. or_left r (makes_ready c s) (h e);
  tested = λ e v r h. h;
  meet = λ q r h g e. and_from q r (h e) (g e);
  head = λ s r h. h;
  statement = λ s r h. refl;
  test = λ e r. refl;
}

body_stays : (c : CoreTree) (k : Bool) (l : Loop) (o : Option Bool) → Where (λ r. k ≡ true → r ≡ true) o → Where (λ r. k ≡ true → r ≡ true) (in_body (ready_flow c) l.test o)
body_stays c k l None h = tt
body_stays c k l (Some r) h = h

again_ready : (c : CoreTree) (constructs : Bool) (l : Loop) (k m : Bool) (x : Setting) → known_at_end (ready_flow c) l k ≡ Some m → IsThisReady constructs m x → IsThisReady constructs k x
again_ready c constructs l k m x is so =
    let Enough = λ (r : Bool). k ≡ true → r ≡ true in
    let at = end_where (ready_flow c) anything Enough (stays c k) l.prelude (Some k) (λ e. e) in
    let end = end_where (ready_flow c) anything Enough (stays c k) l.body (in_body (ready_flow c) l.test (known_at_test (ready_flow c) l k)) (body_stays c k l (known_at_test (ready_flow c) l k) at) in
    let grows : k ≡ true → m ≡ true = subst (Where Enough) is end in
    λ ctor ready. so ctor (grows ready)

pub ready_sound : (c : CoreTree) (d : Check Bool) (constructs : Bool) → IsSound (ready_flow c) d (IsThisReady constructs)
ready_sound c d constructs = record {
  meet_one = λ q r x so ctor h. so ctor (and_parts q r h).0;
  meet_other = λ q r x so ctor h. so ctor (and_parts q r h).1;
  head = λ l k x checked so. so;
  again = λ l k m x checked is so. again_ready c constructs l k m x is so;
}
