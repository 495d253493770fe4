-- What the values of the code stand for.
use Rattle.std.specs.Prelude.{◌≡◌, ◌≤◌, ℕ, ℤ, length, drop, Bool, true, false, List, map, Option, Some, None, is_some}
use Rattle.std.specs.List.{list_all}
use Rattle.std.specs.Borrow.{Bor}
use Rattle.ss_top_words.specs.declared.Asked.{Asked}
use Rattle.ss_top_words.specs.declared.Command.{Command}
use Rattle.ss_top_words.specs.declared.options.Options.{Options}
use Rattle.ss_top_words.specs.declared.options.Taken.{Taken}
use Rattle.ss_top_words.specs.declared.options.Taken.TheVariants as taken
use Rattle.ss_top_words.specs.declared.reading.Reading.{Reading}
use Rattle.ss_top_words.specs.declared.sketch.Sketch.{Sketch}
use Rattle.ss_top_words.specs.Numbers.{whole}
use Rattle.ss_top_words.specs.Words as meaning

-- the bytes of words
abbrev pub texts_of : List (Bor (List ℕ)) → List (List ℕ)
texts_of words = map (λ w. w.now) words

abbrev pub options_of : Options → meaning.Options
options_of o = record {
  steps = o.steps;
  rounds = o.rounds;
  splits = o.splits;
  instances = o.instances;
  unverified = o.unverified;
  wants = o.wants;
  ended = o.ended;
}

abbrev pub taken_of : Taken → meaning.Taken
taken_of taken.Positional = meaning.Positional
taken_of (taken.TakenAs o) = meaning.TakenAs (options_of o)
taken_of taken.Refused = meaning.Refused

abbrev pub reading_of : Reading → meaning.Reading
reading_of r = record { positional = texts_of r.positional.items; options = options_of r.options }

abbrev pub asked_of : Asked → meaning.Asked
asked_of a = record {
  command = a.command;
  file = a.file.now;
  limits = a.limits;
  steps = a.steps;
  input = a.input.items;
}

-- whether it could be read, and what has been said then
abbrev pub IsRead : Bool → meaning.Reading → Option meaning.Reading → Type 0
IsRead true r found = found ≡ Some r
IsRead false r found = found ≡ None

-- whether all are numbers, and those that are there then
abbrev pub IsPushed : Bool → List ℤ → Option (List ℤ) → Type 0
IsPushed true numbers found = found ≡ Some numbers
IsPushed false numbers found = found ≡ None

-- the input of what is asked isn't too long
abbrev pub IsShort : Option Asked → Type 0
IsShort None = Unit {0}
IsShort (Some a) = length a.input.items ≤ meaning.most_numbers

-- ---- what words ask for, without keeping what they name

abbrev pub is_number : List ℕ → Bool
is_number word = is_some (whole word)

-- the options, how many words are positional, and whether all after the first are numbers
pub record IsSketchOf (s : Sketch) (r : meaning.Reading) : Type 0 where
  pub options : options_of s.options ≡ r.options
  pub count : s.count ≡ length r.positional
  pub numbers : s.numbers ≡ list_all is_number (drop 1 r.positional)

-- whether the words could be read, and a sketch of what they have said then
abbrev pub IsSketched : Option Sketch → Option meaning.Reading → Type 0
IsSketched None found = found ≡ None
IsSketched (Some s) found = (r : meaning.Reading) × (found ≡ Some r) × IsSketchOf s r

-- whether the command has with them what it wants
abbrev pub AsksFor : Command → meaning.Reading → Bool → Type 0
AsksFor c r b = b ≡ is_some (meaning.complete (Some c) (Some r))
