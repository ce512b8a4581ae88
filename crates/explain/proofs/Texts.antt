-- Facts on printed text, over plain lists.
use Rattle.std.proofs.Common.{◌≡◌, ℕ, zero, suc, ◌<◌, ◌≤◌, true, List, [], ◌∷◌, ◌++◌, length, take, get_or, Ok, sym, refl, ap, ◌∙◌, append_assoc, arith}
use Rattle.std.specs.List.{flat_map}
use Rattle.std.specs.Str.{IsAscii}
use Rattle.std.proofs.lemmas.Bool.Decides.{nat_tests}
use Rattle.std.proofs.lemmas.Grind.{flat_map-append}
use Rattle.std.proofs.lemmas.List.{get_or-take, length-take-le}
use Rattle.std.proofs.lemmas.List.Concat.{flat_map-cons}
use Rattle.cbor.specs.Meaning.{meant}
use Rattle.cbor.specs.Reader.{Found, read_at}
use Rattle.explain.specs.declared.items.Entry.{Entry}
use Rattle.explain.specs.Outlined.{Chain}
use Rattle.explain.specs.Shown.{is_plain, character, item_line, found_line, entry_line}

-- the line of an entry whose item is the one that is read at its place
pub entry_found : (message : List ℕ) (e : Entry) (f : Found) → read_at message e.place ≡ Ok f → meant e.item ≡ f.said → item_line e.place e.level (meant e.item) ≡ entry_line message e
unfolding entry_line
entry_found message e f r h = ap (item_line e.place e.level) h ∙ sym (ap (found_line e.place e.level) r)

-- the lines of entries that lie one behind the other
pub entries_found : (message : List ℕ) (from to : ℕ) (es : List Entry) → Chain message from es to → flat_map (λ e. item_line e.place e.level (meant e.item)) es ≡ flat_map (entry_line message) es
entries_found message from to [] c = refl
entries_found message from to (e ∷ es) c =
    let one = entry_found message e c.1 (ap (read_at message) c.0 ∙ c.2) c.3 in
    ap (λ l. l ++ flat_map (λ d. item_line d.place d.level (meant d.item)) es) one ∙ ap (λ l. entry_line message e ++ l) (entries_found message c.1.end to es c.4)

-- a plain byte is ASCII, and its own character
plain_small : (b : ℕ) → is_plain b ≡ true → b < 128
plain_small b e = grind (arith, nat_tests)

plain_character : (b : ℕ) → is_plain b ≡ true → character b ≡ b ∷ []
plain_character b e = rw e refl

abbrev pub IsPlain : List ℕ → Type 0
IsPlain bs = (i : ℕ) → i < length bs → is_plain (get_or bs i 0) ≡ true

pub plain_ascii : (bs : List ℕ) → IsPlain bs → IsAscii bs
plain_ascii [] h i = omega arith
plain_ascii (b ∷ bs) h zero = plain_small b (h 0 (omega arith))
plain_ascii (b ∷ bs) h (suc i) = plain_ascii bs (λ k lt. h (suc k) (omega (arith, lt))) i

plain_shown : (bs : List ℕ) → IsPlain bs → flat_map character bs ≡ bs
plain_shown [] h = refl
plain_shown (b ∷ bs) h =
    flat_map-cons character b bs ∙ ap (λ c. c ++ flat_map character bs) (plain_character b (h 0 (omega arith)))
    ∙ ap (λ t. b ∷ t) (plain_shown bs (λ k lt. h (suc k) (omega (arith, lt))))

-- the bytes at the front that are plain
pub front_plain : (bs run : List ℕ) (n : ℕ) → run ≡ take n bs → n ≤ length bs → ((i : ℕ) → i < n → is_plain (get_or bs i 0) ≡ true) → IsPlain run
front_plain bs run n is le h i lt =
    let few : length run ≡ n = ap length is ∙ length-take-le n bs le in
    let low : i < n = omega (arith, lt, few) in
    ap (λ xs. is_plain (get_or xs i 0)) is ∙ ap is_plain (get_or-take n bs i 0 low) ∙ h i low

-- plain bytes, and then one byte or none, have been shown
pub piece_shown : (done run next behind rest whole : List ℕ) → rest ≡ run ++ (next ++ behind) → IsPlain run → done ++ flat_map character rest ≡ whole → ((done ++ run) ++ flat_map character next) ++ flat_map character behind ≡ whole
piece_shown done run next behind rest whole parts plain e =
    let shown : run ++ (flat_map character next ++ flat_map character behind) ≡ flat_map character rest =
    ap (λ t. t ++ (flat_map character next ++ flat_map character behind)) (sym (plain_shown run plain))
    ∙ ap (λ t. flat_map character run ++ t) (sym (flat_map-append character next behind))
    ∙ sym (flat_map-append character run (next ++ behind))
    ∙ ap (flat_map character) (sym parts) in
    append_assoc (done ++ run) (flat_map character next) (flat_map character behind)
    ∙ append_assoc done run (flat_map character next ++ flat_map character behind)
    ∙ ap (λ t. done ++ t) shown
    ∙ e
