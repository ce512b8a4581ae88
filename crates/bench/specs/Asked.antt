-- The step that a line asks for.
use Rattle.std.specs.Prelude.{ℕ, List, [], ◌∷◌, Ok, Err, vec_items, codes, Option, Result}
use Rattle.std.specs.Option.{ok_or}
use Rattle.bench.specs.declared.parsing.Name.{Name}
use Rattle.bench.specs.declared.parsing.Name.TheVariants as name
use Rattle.bench.specs.declared.step.Step.{Step}
use Rattle.bench.specs.declared.step.Step.TheVariants as code
use Rattle.bench.specs.declared.wrong.Wrong.{Wrong}
use Rattle.bench.specs.declared.wrong.Wrong.TheVariants as wrong
use Rattle.bench.specs.Answered.{and_then}
use Rattle.bench.specs.Named.{named}
use Rattle.bench.specs.Values.{headed, single, ended, spelled, byte}

-- a step with its values
pub data Ask : Type 0 where
  digest : List ℕ → Ask
  hmac : List ℕ → List ℕ → Ask
  tag : List ℕ → ℕ → List ℕ → Ask
  read : List ℕ → Ask
  explain : List ℕ → Ask
  help : Ask

-- what a parsed step asks
abbrev pub meant : Step → Ask
meant (code.Digest message) = digest (vec_items message)
meant (code.Hmac key message) = hmac (vec_items key) (vec_items message)
meant (code.Tag token sub params) = tag (vec_items token) sub (vec_items params)
meant (code.Read message) = read (vec_items message)
meant (code.Explain message) = explain (vec_items message)
meant code.Help = help

-- the values of hmac: a key and a message
abbrev pub hmac_of : List (List ℕ) → Result Ask Wrong
hmac_of ws =
    and_then (headed ws) (λ k. and_then (single k.1) (λ m.
    and_then (spelled k.0) (λ key. and_then (spelled m) (λ message. Ok (hmac key message)))))

-- the values of tag: a token, a sub command and raw parameters
abbrev pub tag_of : List (List ℕ) → Result Ask Wrong
tag_of ws =
    and_then (headed ws) (λ t. and_then (headed t.1) (λ s. and_then (single s.1) (λ p.
    and_then (spelled t.0) (λ token. and_then (byte s.0 wrong.Sub) (λ sub. and_then (spelled p) (λ params. Ok (tag token sub params)))))))

-- the one value of a step that takes bytes
abbrev pub bytes_of : List (List ℕ) → Result (List ℕ) Wrong
bytes_of ws = and_then (single ws) spelled

-- the word of each name
abbrev pub word_of : Name → List ℕ
word_of name.Digest = codes "digest"
word_of name.Hmac = codes "hmac"
word_of name.Tag = codes "tag"
word_of name.Read = codes "read"
word_of name.Explain = codes "explain"
word_of name.Help = codes "help"

-- all names
abbrev pub names : List Name
names = name.Digest ∷ name.Hmac ∷ name.Tag ∷ name.Read ∷ name.Explain ∷ name.Help ∷ []

-- the step that a word names, if it names one
abbrev pub name_of : List ℕ → Option Name
name_of word = named word_of names word

-- the words that follow the name of a step, read as its values; help takes none
abbrev pub values_of : Name → List (List ℕ) → Result Ask Wrong
values_of name.Digest ws = and_then (bytes_of ws) (λ m. Ok (digest m))
values_of name.Hmac ws = hmac_of ws
values_of name.Tag ws = tag_of ws
values_of name.Read ws = and_then (bytes_of ws) (λ m. Ok (read m))
values_of name.Explain ws = and_then (bytes_of ws) (λ m. Ok (explain m))
values_of name.Help ws = and_then (ended ws) (λ none. Ok help)

-- what the words of a line ask for
abbrev pub asked : List (List ℕ) → Result Ask Wrong
asked [] = Err wrong.Step
asked (w ∷ ws) = and_then (ok_or (name_of w) wrong.Step) (λ n. values_of n ws)
