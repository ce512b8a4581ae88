-- An item that was read from the front of some bytes.
use Rattle.std.proofs.Common.{◌≡◌, ℕ, ◌/◌, ◌%◌, ◌<◌, ◌≤◌, List, [], ◌∷◌, length, take, drop, IfSome, Some, None, Option, sym, refl, ap, ◌∙◌, arith, length-drop, length-take}
use Rattle.std.specs.Option.{option_map}
use Rattle.cbor.specs.Steps.{given}
use Rattle.cbor.specs.Head.{argument}
use Rattle.cbor.specs.declared.reading.Token as code
use Rattle.cbor.specs.Meaning.{meant}
use Rattle.cbor.specs.Unread.{token_told, token_of}
use Rattle.cbor.specs.Reader.{Said, Token, by_major, string_size, token}
use Rattle.cbor.proofs.Strings.{argument_within, string_within}

-- what was read is an item of the definitions, with its bytes and those behind them
pub record Has (us : List ℕ) (o : Option Token) (said : Said) (spelled behind : List ℕ) : Type 0 where
  pub found : Token
  pub is : o ≡ Some found
  pub said_is : found.said ≡ said
  pub spelled_is : take found.size us ≡ spelled
  pub behind_is : drop found.size us ≡ behind

has : (us : List ℕ) (o : Option Token) (said : Said) (spelled behind : List ℕ) → Some (said, spelled, behind) ≡ option_map (token_of us) o → Has us o said spelled behind
has us None said spelled behind e = cc
has us (Some t) said spelled behind e =
    let q : ◌≡◌ {A = Said × List ℕ × List ℕ} (said, spelled, behind) (token_of us t) = cc in
    record { found = t; is = refl; said_is = sym (ap (λ p. p.0) q); spelled_is = sym (ap (λ p. p.1) q); behind_is = sym (ap (λ p. p.2) q) }

lacks : (us : List ℕ) (o : Option Token) → None ≡ option_map (token_of us) o → o ≡ None
lacks us None e = refl
lacks us (Some t) e = cc

-- by what the code answers
module _ (us : List ℕ) (o : Option Token) (r : Option code.Token) (e : option_map token_told r ≡ option_map (token_of us) o) where
  pub read_some : (t : code.Token) → r ≡ Some t → Has us o (meant t.item) t.spelled.now t.behind.now
  read_some t is = has us o (meant t.item) t.spelled.now t.behind.now (sym (ap (option_map token_told) is) ∙ e)

  pub read_none : r ≡ None → o ≡ None
  read_none is = lacks us o (sym (ap (option_map token_told) is) ∙ e)

if_given : {A B : Type 0} (P : A → Type 0) (Q : B → Type 0) (o : Option A) (go : A → Option B) → IfSome o P → ((a : A) → P a → IfSome (go a) Q) → IfSome (given o go) Q
unfolding given
if_given P Q None go h k = tt
if_given P Q (Some a) go h k = k a h

-- an item takes at least one of the bytes, and no more than there are
token_within : (us : List ℕ) → IfSome (token us) (λ t. (0 < t.size) × (t.size ≤ length us))
unfolding token
token_within [] = tt
token_within (b ∷ bs) =
    if_given (λ a. a.width ≤ length bs) _ (argument (b % 32) bs) _ (argument_within (b % 32) bs) (λ a l.
    if_given (λ s. string_size s ≤ length (drop a.width bs)) _ (by_major (b / 32) (b % 32) a.value (drop a.width bs)) _ (string_within (b / 32) (b % 32) a.value (drop a.width bs)) (λ s m.
    (omega arith, omega (arith, length-drop a.width bs))))

pub token_size : (us : List ℕ) (t : Token) → token us ≡ Some t → (0 < t.size) × (t.size ≤ length us)
token_size us t e = rw e at (token_within us)

pub spelled_some : (us : List ℕ) (said : Said) (spelled behind : List ℕ) → Has us (token us) said spelled behind → 0 < length spelled
spelled_some us said spelled behind h =
    let size = token_size us h.found h.is in
    let e = ap length h.spelled_is in
    omega (arith, length-take h.found.size us)

-- what lies behind an item is shorter than what it was read from
pub behind_less : (us : List ℕ) (said : Said) (spelled behind : List ℕ) → Has us (token us) said spelled behind → length behind < length us
behind_less us said spelled behind h =
    let size = token_size us h.found h.is in
    let e = ap length h.behind_is in
    omega (arith, length-drop h.found.size us)

pub behind_short : (us : List ℕ) (o : Option Token) (said : Said) (spelled behind : List ℕ) → Has us o said spelled behind → length behind ≤ length us
behind_short us o said spelled behind h = let e = ap length h.behind_is in omega (arith, length-drop h.found.size us)
