-- The line of a source that is shown beside a message, and the mark below it.
use Rattle.std.specs.Prelude.{ℕ, zero, suc, ◌-◌, ◌==◌, ◌&&◌, ◌||◌, nat_le, nat_lt, Bool, List, [], ◌∷◌, ◌++◌, length, map, take, drop, replicate, codes, if◌then◌else◌}
use Rattle.ss_core.specs.declared.names.Place.{Place}
use Rattle.ss_lexer.specs.Reading.{without_mark}

-- whether a line ends here: at a line feed, or at a carriage return with a line feed or nothing behind it
abbrev pub ends_line : ℕ → List ℕ → Bool
ends_line b [] = (b == 10) || (b == 13)
ends_line b (c ∷ cs) = (b == 10) || ((b == 13) && (c == 10))

-- how many bytes stand before the first line end
abbrev pub line_length : List ℕ → ℕ
line_length [] = 0
line_length (b ∷ bs) = if ends_line b bs then 0 else suc (line_length bs)

abbrev pub first_line : List ℕ → List ℕ
first_line bytes = take (line_length bytes) bytes

-- what stands after the first line feed
abbrev pub after_line : List ℕ → List ℕ
after_line [] = []
after_line (b ∷ bs) = if b == 10 then bs else after_line bs

-- what stands after so many lines
abbrev pub after_lines : ℕ → List ℕ → List ℕ
after_lines zero bytes = bytes
after_lines (suc n) bytes = after_lines n (after_line bytes)

-- the line of a place in a source
abbrev pub line_at : List ℕ → Place → List ℕ
line_at source at = first_line (after_lines (at.line - 1) (without_mark source))

-- of a long line a part is shown: how many bytes before it aren't
abbrev pub hidden : ℕ → ℕ
hidden column = if nat_le column 80 then 0 else column - 40

-- what is shown of a line, at most 120 bytes
abbrev pub part_at : List ℕ → ℕ → List ℕ
part_at line column = take 120 (drop (hidden column) line)

-- a byte as it is shown: a tab is a blank, and each other one that ASCII has no form for is `?`
abbrev pub shown : ℕ → ℕ
shown b = if b == 9 then 32 else if nat_lt b 32 || nat_lt 126 b then 63 else b

-- a mark after so many blanks
abbrev pub mark : ℕ → List ℕ
mark blanks = replicate blanks 32 ++ codes "^\n"

-- a part of a line, and below it a mark; nothing where the part is empty
abbrev pub marked : List ℕ → ℕ → List ℕ
marked part blanks = if length part == 0 then [] else map shown part ++ codes "\n" ++ mark blanks

-- the line of a place, and below it a mark under the place
abbrev pub pointed : List ℕ → Place → List ℕ
pointed source at = marked (part_at (line_at source at) at.column) (at.column - 1 - hidden at.column)
