-- Facts on printed text, over plain lists.
use Rattle.std.proofs.Common.{◌≡◌, ℕ, ◌+◌, ◌<◌, ◌≤◌, List, ◌++◌, length, get_or, drop, codes, sym, refl, ap, ◌∙◌, append_assoc, append-nil}
use Rattle.std.proofs.lemmas.List.{drop_more, drop_all}
use Rattle.credential.specs.Rec.{Rec}
use Rattle.storebench.specs.Text.{record_line, record_lines, list_text, of_line}

-- the line of one record more has been written
pub lines_more :
    (t u whole : List ℕ) (rs : List Rec) (r d : Rec) (i : ℕ)
    → i < length rs → r ≡ get_or rs i d → u ≡ t ++ record_line i r → t ++ record_lines i (drop i rs) ≡ whole → u ++ record_lines (i + 1) (drop (i + 1) rs) ≡ whole
unfolding record_lines
lines_more t u whole rs r d i h at is inv =
    rw (is, at) (append_assoc t (record_line i (get_or rs i d)) (record_lines (i + 1) (drop (i + 1) rs)) ∙ sym (ap (λ l. t ++ record_lines i l) (drop_more rs i d h)) ∙ inv)

-- all lines have been written, and the last
pub lines_all :
    (t u last made : List ℕ) (rs : List Rec) (count capacity most i : ℕ)
    → length rs ≤ i → t ++ record_lines i (drop i rs) ≡ record_lines 0 rs → count ≡ length rs → capacity ≡ most
    → last ≡ made → made ≡ codes "list: " ++ of_line count capacity → u ≡ t ++ last → u ≡ list_text rs most
unfolding record_lines list_text
lines_all t u last made rs count capacity most i h inv listed room same is e =
    let all : t ≡ record_lines 0 rs = sym (append-nil t) ∙ (rw (drop_all i rs h) at inv) in
    rw (e, same, is, all, listed, room) refl
