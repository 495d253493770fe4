-- Two functions of the code that stand for one are one, and so with predicates.
use Rattle.std.proofs.Common.{◌≡◌, refl, sym, ◌∙◌, ap}
use Rattle.ss_logic.specs.Terms as tree
use Rattle.ss_logic.specs.Formulas as logic
use Rattle.ss_terms.specs.declared.forms.Symbol.{Symbol}
use Rattle.ss_terms.specs.declared.forms.Symbol.TheVariants as symbol
use Rattle.ss_terms.specs.declared.forms.Predicate.{Predicate}
use Rattle.ss_terms.specs.declared.forms.Predicate.TheVariants as predicate
use Rattle.ss_terms.specs.Forms.{symbol_of, predicate_of}

abbrev symbol_from : tree.Symbol → Symbol
symbol_from (tree.Number n) = symbol.Number n
symbol_from (tree.Fixed b) = symbol.Fixed b
symbol_from tree.Null = symbol.Null
symbol_from (tree.ClassName t) = symbol.ClassName t
symbol_from (tree.Constant s k) = symbol.Constant s k
symbol_from tree.Add = symbol.Add
symbol_from tree.Subtract = symbol.Subtract
symbol_from tree.Multiply = symbol.Multiply
symbol_from tree.Quotient = symbol.Quotient
symbol_from tree.Remainder = symbol.Remainder
symbol_from (tree.Field f) = symbol.Field f
symbol_from (tree.Element s) = symbol.Element s
symbol_from tree.Length = symbol.Length
symbol_from tree.TypeOf = symbol.TypeOf
symbol_from tree.Level = symbol.Level
symbol_from tree.Owner = symbol.Owner
symbol_from tree.Pair = symbol.Pair
symbol_from tree.Next = symbol.Next
symbol_from (tree.Set f) = symbol.Set f
symbol_from tree.Put = symbol.Put
symbol_from (tree.Unpack t) = symbol.Unpack t
symbol_from (tree.Pack t) = symbol.Pack t
symbol_from (tree.Capture t) = symbol.Capture t
symbol_from tree.Join = symbol.Join
symbol_from (tree.New t) = symbol.New t
symbol_from (tree.NewArray t) = symbol.NewArray t
symbol_from tree.MakeReady = symbol.MakeReady

symbol_there_and_back : (f : Symbol) → symbol_from (symbol_of f) ≡ f
symbol_there_and_back (symbol.Number n) = refl
symbol_there_and_back (symbol.Fixed b) = refl
symbol_there_and_back symbol.Null = refl
symbol_there_and_back (symbol.ClassName t) = refl
symbol_there_and_back (symbol.Constant s k) = refl
symbol_there_and_back symbol.Add = refl
symbol_there_and_back symbol.Subtract = refl
symbol_there_and_back symbol.Multiply = refl
symbol_there_and_back symbol.Quotient = refl
symbol_there_and_back symbol.Remainder = refl
symbol_there_and_back (symbol.Field f) = refl
symbol_there_and_back (symbol.Element s) = refl
symbol_there_and_back symbol.Length = refl
symbol_there_and_back symbol.TypeOf = refl
symbol_there_and_back symbol.Level = refl
symbol_there_and_back symbol.Owner = refl
symbol_there_and_back symbol.Pair = refl
symbol_there_and_back symbol.Next = refl
symbol_there_and_back (symbol.Set f) = refl
symbol_there_and_back symbol.Put = refl
symbol_there_and_back (symbol.Unpack t) = refl
symbol_there_and_back (symbol.Pack t) = refl
symbol_there_and_back (symbol.Capture t) = refl
symbol_there_and_back symbol.Join = refl
symbol_there_and_back (symbol.New t) = refl
symbol_there_and_back (symbol.NewArray t) = refl
symbol_there_and_back symbol.MakeReady = refl

pub symbols_differ : (f g : Symbol) → symbol_of f ≡ symbol_of g → f ≡ g
symbols_differ f g e = sym (symbol_there_and_back f) ∙ ap symbol_from e ∙ symbol_there_and_back g

abbrev predicate_from : logic.Predicate → Predicate
predicate_from logic.Equal = predicate.Equal
predicate_from logic.AtMost = predicate.AtMost
predicate_from logic.Sub = predicate.Sub
predicate_from logic.Allocated = predicate.Allocated
predicate_from logic.Committed = predicate.Committed
predicate_from logic.Ready = predicate.Ready
predicate_from logic.IsGroup = predicate.IsGroup
predicate_from logic.Good = predicate.Good

predicate_there_and_back : (p : Predicate) → predicate_from (predicate_of p) ≡ p
predicate_there_and_back predicate.Equal = refl
predicate_there_and_back predicate.AtMost = refl
predicate_there_and_back predicate.Sub = refl
predicate_there_and_back predicate.Allocated = refl
predicate_there_and_back predicate.Committed = refl
predicate_there_and_back predicate.Ready = refl
predicate_there_and_back predicate.IsGroup = refl
predicate_there_and_back predicate.Good = refl

pub predicates_differ : (p q : Predicate) → predicate_of p ≡ predicate_of q → p ≡ q
predicates_differ p q e = sym (predicate_there_and_back p) ∙ ap predicate_from e ∙ predicate_there_and_back q
