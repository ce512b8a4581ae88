-- Lists of records within their limits, and where the entries of a table lead.
use Rattle.std.proofs.Common.{◌≡◌, ℕ, suc, true, List, [], ◌∷◌, ◌++◌, map, take, drop, sym, refl, ap, ◌∙◌, arith}
use Rattle.std.specs.List.{remove, AllByRecursion as All}
use Rattle.std.proofs.ByRecursion.{All-push, All-append, All-take, All-drop}
use Rattle.std.proofs.lemmas.List.{append-nil, append_assoc, map-append, take-map, drop-map}
use Rattle.credential.specs.Rec.{Rec, is_within}
use Rattle.credential.specs.Slot.{Entry, put}
use Rattle.image.specs.declared.kind.Kind.TheVariants.{Table}
use Rattle.image.specs.Laws.{Leads, done, came, went}

-- every record is within its limits
abbrev pub Within : List Rec → Type 0
Within rs = All (λ r. is_within r ≡ true) rs

pub within_removed : (rs : List Rec) (place : ℕ) → Within rs → Within (remove rs place)
within_removed rs place h = All-append _ _ _ (All-take _ place rs h) (All-drop _ (suc place) rs h)

pub within_push : (rs : List Rec) (r : Rec) → Within rs → is_within r ≡ true → Within (rs ++ r ∷ [])
within_push rs r h w = All-push (λ r. is_within r ≡ true) rs r h w

-- the entries of a table are its records
pub leads_table : {capacity : ℕ} {a b : List Rec} {es : List Entry} → Leads Table capacity a es b → (rs : List Rec) × (es ≡ map put rs) × (b ≡ a ++ rs)
leads_table {a = a} done = ([], refl, sym (append-nil a))
leads_table {a = a} (came {r = r} lt w h) =
    let k = leads_table h in
    (r ∷ k.0, ap (λ l. put r ∷ l) k.1, k.2 ∙ append_assoc a (r ∷ []) k.0)
leads_table (went log lt h) = let z : ◌≡◌ {A = ℕ} 0 1 = cc in absurd (omega arith)

-- a list without the element at a place, seen through a function
pub map_removed : {X Y : Type 0} (f : X → Y) (xs : List X) (place : ℕ) → remove (map f xs) place ≡ map f (remove xs place)
map_removed f xs place =
    ap (λ l. l ++ drop (suc place) (map f xs)) (take-map f place xs)
    ∙ ap (λ l. map f (take place xs) ++ l) (drop-map f (suc place) xs)
    ∙ sym (map-append f (take place xs) (drop (suc place) xs))
