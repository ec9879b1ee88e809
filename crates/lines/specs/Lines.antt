-- 01, "Trace player": the text that the program prints, in ASCII.
use Rattle.std.specs.Prelude.{ℕ, zero, suc, ◌+◌, ◌-◌, ◌/◌, ◌%◌, cond, List, [], ◌∷◌, ◌++◌, ltb}
use Rattle.steps.specs.declared.Answer.{Answer}
use Rattle.steps.specs.Answers.{number_of, value_of}
use Rattle.lines.specs.declared.Reason.{Reason}
use Rattle.lines.specs.declared.Reason.TheVariants.{End, Limit, Torn, Bad}

abbrev pub space : ℕ
space = 0x20

abbrev pub newline : ℕ
newline = 0x0a

-- a digit below 16, lowercase: "0" is 30h and "a" is 61h
unfoldable pub digit_of : ℕ → ℕ
digit_of d = cond (ltb d 10) (0x30 + d) (0x61 + (d - 10))

-- a number of at most count digits in decimal, with no zeros in front
unfoldable pub decimal_of : ℕ → ℕ → List ℕ
decimal_of zero n = []
decimal_of (suc count) n = cond (ltb n 10) (digit_of n ∷ []) (decimal_of count (n / 10) ++ digit_of (n % 10) ∷ [])

-- the last count hex digits of a number
unfoldable pub hex_of : ℕ → ℕ → List ℕ
hex_of zero v = []
hex_of (suc count) v = hex_of count (v / 16) ++ digit_of (v % 16) ∷ []

-- a record's line: the answer's number, which has at most three digits, a space, eight hex digits of its value
unfoldable pub line_of : ℕ → ℕ → List ℕ
line_of number value = decimal_of 3 number ++ space ∷ hex_of 8 value ++ newline ∷ []

-- the lines of some answers, one after the other
unfoldable pub lines_of : List Answer → List ℕ
lines_of [] = []
lines_of (a ∷ rest) = line_of (number_of a) (value_of a) ++ lines_of rest

-- the word for the reason to stop, and a newline
abbrev pub word_of : Reason → List ℕ
word_of End = 0x65 ∷ 0x6e ∷ 0x64 ∷ newline ∷ []
word_of Limit = 0x6c ∷ 0x69 ∷ 0x6d ∷ 0x69 ∷ 0x74 ∷ newline ∷ []
word_of Torn = 0x74 ∷ 0x6f ∷ 0x72 ∷ 0x6e ∷ newline ∷ []
word_of Bad = 0x62 ∷ 0x61 ∷ 0x64 ∷ newline ∷ []

-- all the lines, and then the reason
abbrev pub text_of : List Answer → Reason → List ℕ
text_of answers reason = lines_of answers ++ word_of reason

-- what is printed for an input that is too long
abbrev pub long_text : List ℕ
long_text = 0x6c ∷ 0x6f ∷ 0x6e ∷ 0x67 ∷ newline ∷ []
