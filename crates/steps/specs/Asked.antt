-- The step that a line asks for.
use Rattle.std.specs.Prelude.{ℕ, List, [], ◌∷◌, Some, None, Ok, Err, vec_items, codes, Option, Result}
use Rattle.credential.specs.Rec.{Rec}
use Rattle.image.specs.declared.kind.Kind.{Kind}
use Rattle.bench.specs.declared.wrong.Wrong.{Wrong}
use Rattle.bench.specs.declared.wrong.Wrong.TheVariants as wrong
use Rattle.bench.specs.declared.parsing.Name as bench
use Rattle.bench.specs.Answered.{and_then}
use Rattle.bench.specs.Asked as plain
use Rattle.bench.specs.Named.{named}
use Rattle.bench.specs.Values.{headed, single, ended, spelled, number}
use Rattle.steps.specs.declared.parsing.Name.{Name}
use Rattle.steps.specs.declared.parsing.Name.TheVariants as name
use Rattle.steps.specs.declared.step.Parts.{Parts}
use Rattle.steps.specs.declared.step.Step.{Step}
use Rattle.steps.specs.declared.step.Step.TheVariants.{Plain, Store}
use Rattle.steps.specs.declared.step.StoreStep.{StoreStep}
use Rattle.steps.specs.declared.step.StoreStep.TheVariants as code
use Rattle.steps.specs.Eight.{eight, recorded}
use Rattle.steps.specs.Kinds.{kinded}

-- a step over a store, with its values
pub data StoreAsk : Type 0 where
  blank : Kind → ℕ → StoreAsk
  opening : Kind → List ℕ → StoreAsk
  add : Rec → StoreAsk
  remove : ℕ → StoreAsk
  list : StoreAsk
  image : StoreAsk

-- the record that parts ask for
abbrev pub whole : Parts → Rec
whole p = record {
  rp_id = vec_items p.rp_id;
  user_id = vec_items p.user_id;
  name = vec_items p.name;
  display_name = vec_items p.display_name;
  credential_id = vec_items p.credential_id;
  x = vec_items p.x;
  y = vec_items p.y;
  cred_protect = p.protect;
}

-- what a parsed step over a store asks
abbrev pub store_meant : StoreStep → StoreAsk
store_meant (code.Blank kind slots) = blank kind slots
store_meant (code.Open kind im) = opening kind (vec_items im)
store_meant (code.Add parts) = add (whole parts)
store_meant (code.Remove place) = remove place
store_meant code.List = list
store_meant code.Image = image

-- the values of blank: a kind and a number of slots
abbrev pub blank_of : List (List ℕ) → Result StoreAsk Wrong
blank_of ws =
    and_then (headed ws) (λ k. and_then (single k.1) (λ n.
    and_then (kinded k.0) (λ kind. and_then (number n wrong.Slots) (λ slots. Ok (blank kind slots)))))

-- the values of open: a kind and an image
abbrev pub open_of : List (List ℕ) → Result StoreAsk Wrong
open_of ws =
    and_then (headed ws) (λ k. and_then (single k.1) (λ i.
    and_then (kinded k.0) (λ kind. and_then (spelled i) (λ im. Ok (opening kind im)))))

-- the value of remove: a place
abbrev pub remove_of : List (List ℕ) → Result StoreAsk Wrong
remove_of ws = and_then (single ws) (λ i. and_then (number i wrong.Place) (λ place. Ok (remove place)))

-- the values of add: the parts of a record
abbrev pub add_of : List (List ℕ) → Result StoreAsk Wrong
add_of ws = and_then (eight ws) (λ w. and_then (recorded w) (λ r. Ok (add r)))

-- the word of each name
abbrev pub word_of : Name → List ℕ
word_of name.Blank = codes "blank"
word_of name.Open = codes "open"
word_of name.Add = codes "add"
word_of name.Remove = codes "remove"
word_of name.List = codes "list"
word_of name.Image = codes "image"

-- all names
abbrev pub names : List Name
names = name.Blank ∷ name.Open ∷ name.Add ∷ name.Remove ∷ name.List ∷ name.Image ∷ []

-- the step over a store that a word names, if it names one
abbrev pub name_of : List ℕ → Option Name
name_of word = named word_of names word

-- the words that follow the name of a step, read as its values; list and image take none
abbrev pub values_of : Name → List (List ℕ) → Result StoreAsk Wrong
values_of name.Blank ws = blank_of ws
values_of name.Open ws = open_of ws
values_of name.Add ws = add_of ws
values_of name.Remove ws = remove_of ws
values_of name.List ws = and_then (ended ws) (λ none. Ok list)
values_of name.Image ws = and_then (ended ws) (λ none. Ok image)

-- a step with its values: one that every bench has, or one over a store
pub data Ask : Type 0 where
  plain_ask : plain.Ask → Ask
  store_ask : StoreAsk → Ask

-- what a parsed step asks
abbrev pub meant : Step → Ask
meant (Plain step) = plain_ask (plain.meant step)
meant (Store step) = store_ask (store_meant step)

-- what the words behind a first word ask for, by the steps that it may name
abbrev pub asked_by : Option bench.Name → Option Name → List (List ℕ) → Result Ask Wrong
asked_by (Some plain_name) other ws = and_then (plain.values_of plain_name ws) (λ a. Ok (plain_ask a))
asked_by None (Some over) ws = and_then (values_of over ws) (λ a. Ok (store_ask a))
asked_by None None ws = Err wrong.Step

-- what the words of a line ask for
abbrev pub asked : List (List ℕ) → Result Ask Wrong
asked [] = Err wrong.Step
asked (w ∷ ws) = asked_by (plain.name_of w) (name_of w) ws
