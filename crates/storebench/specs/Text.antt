-- The lines that the steps over a store print.
use Rattle.std.specs.Prelude.{ℕ, ◌+◌, Bool, true, false, List, [], ◌∷◌, ◌++◌, length, Ok, Err, codes, decimal, Result}
use Rattle.credential.specs.Rec.{Rec}
use Rattle.image.specs.declared.opening.Refusal.{Refusal}
use Rattle.image.specs.Opening.{code, place_of}
use Rattle.lines.specs.Hex.{encoded}
use Rattle.storebench.specs.declared.adding.AddError.{AddError}
use Rattle.storebench.specs.declared.adding.AddError.TheVariants.{Full, OutsideLimits}

-- how many records there are, of how many there can be
abbrev pub fill_text : ℕ → ℕ → List ℕ
fill_text count capacity = decimal count ++ (codes " of " ++ decimal capacity)

-- the same at the end of a line
abbrev pub of_line : ℕ → ℕ → List ℕ
of_line count capacity = fill_text count capacity ++ codes "\n"

-- the line of an opening
abbrev pub open_line : Result (ℕ × ℕ) Refusal → List ℕ
open_line (Ok fill) = codes "open: 0x00 place 0, " ++ of_line fill.0 fill.1
open_line (Err why) = codes "open: 0x" ++ (encoded (code why ∷ []) ++ (codes " place " ++ (decimal (place_of why) ++ codes "\n")))

-- why a record is not added
abbrev pub refusal_word : AddError → List ℕ
refusal_word Full = codes "no"
refusal_word OutsideLimits = codes "0x02"

-- the line of adding a record
abbrev pub add_line : Result (Unit {0}) AddError → List ℕ
add_line (Ok done) = codes "add: yes\n"
add_line (Err Full) = codes "add: no\n"
add_line (Err OutsideLimits) = codes "add: 0x02\n"

-- the line of removing a record
abbrev pub remove_line : Bool → List ℕ
remove_line true = codes "remove: yes\n"
remove_line false = codes "remove: no\n"

-- a word behind a space
abbrev pub word : List ℕ → List ℕ
word bs = codes " " ++ encoded bs

-- the line of the record at a place
unfoldable pub record_line : ℕ → Rec → List ℕ
record_line place r =
    codes "record " ++ (decimal place ++ (codes ": " ++ (decimal r.cred_protect ++ (word r.rp_id ++ (word r.user_id ++
    (word r.name ++ (word r.display_name ++ (word r.credential_id ++ (word r.x ++ (word r.y ++ codes "\n"))))))))))

-- the lines of records, the first of which is at a place
unfoldable pub record_lines : ℕ → List Rec → List ℕ
record_lines place [] = []
record_lines place (r ∷ rs) = record_line place r ++ record_lines (place + 1) rs

-- the records of a store and how full it is
unfoldable pub list_text : List Rec → ℕ → List ℕ
list_text rs capacity = record_lines 0 rs ++ (codes "list: " ++ of_line (length rs) capacity)
