-- What is printed in answer to a line.
use Rattle.std.specs.Prelude.{◌≡◌, ℕ, Bool, true, false, ◌⊎◌, List, [], ◌++◌, Ok, Err, string_bytes, codes, Result, String}
use Rattle.bench.specs.declared.wrong.Wrong.{Wrong}
use Rattle.bench.specs.declared.wrong.Wrong.TheVariants.{Memory}
use Rattle.bench.specs.Asked.{Ask}
use Rattle.bench.specs.Replied as bench
use Rattle.bench.specs.Worded.{error_line}

-- the lines of help
unfoldable pub help_lines : List ℕ
help_lines =
    codes "digest HEX         SHA-256 of the bytes\n"
    ++ (codes "hmac KEY HEX       HMAC-SHA-256 of the bytes under the key\n"
    ++ (codes "tag TOKEN SUB HEX  the first 16 bytes of the HMAC under the token, of SUB and then the bytes\n"
    ++ (codes "read HEX           the verdict on a message, and the place where it breaks\n"
    ++ (codes "explain HEX        the items of a message up to where it breaks, then the line of read\n"
    ++ codes "help               these lines\n"))))

-- what a step prints
abbrev pub Replied : Ask → List ℕ → Type 0
Replied ask shown = bench.Replied help_lines ask shown

-- what the step that was asked for prints, or the line of what is wrong
abbrev pub Due : Result Ask Wrong → List ℕ → Type 0
Due (Ok ask) shown = Replied ask shown
Due (Err w) shown = shown ≡ error_line w

-- a line was carried out, or is wrong, or memory ran out
abbrev pub Ran : {Z : Type 0} → Result Ask Wrong → Result (String Z) Wrong → Type 0
Ran due (Ok s) = Due due (string_bytes s)
Ran due (Err w) = (due ≡ Err w) ⊎ (w ≡ Memory)

-- what is printed in answer to a line: nothing where it is skipped; otherwise what is due, unless memory ran out
abbrev pub Printed : Bool → Result Ask Wrong → List ℕ → Type 0
Printed true due shown = shown ≡ []
Printed false due shown = Due due shown ⊎ (shown ≡ error_line Memory)
