-- The words of add, read as the parts of a record.
use Rattle.std.specs.Prelude.{ℕ, List, Ok, Err, Result}
use Rattle.credential.specs.Rec.{Rec}
use Rattle.steps.specs.declared.adding.PartWords.{PartWords}
use Rattle.bench.specs.declared.wrong.Wrong.{Wrong}
use Rattle.bench.specs.declared.wrong.Wrong.TheVariants as wrong
use Rattle.bench.specs.Answered.{and_then}
use Rattle.bench.specs.Values.{headed, single, spelled, byte}

-- the words of add, one for each part of a record
pub record Eight : Type 0 where
  pub protect : List ℕ
  pub rp_id : List ℕ
  pub user_id : List ℕ
  pub name : List ℕ
  pub display_name : List ℕ
  pub credential_id : List ℕ
  pub x : List ℕ
  pub y : List ℕ

-- eight words, and no more
unfoldable pub eight : List (List ℕ) → Result Eight Wrong
eight ws =
    and_then (headed ws) (λ a. and_then (headed a.1) (λ b. and_then (headed b.1) (λ c. and_then (headed c.1) (λ d.
    and_then (headed d.1) (λ e. and_then (headed e.1) (λ f. and_then (headed f.1) (λ g. and_then (single g.1) (λ h.
    Ok (record { protect = a.0; rp_id = b.0; user_id = c.0; name = d.0; display_name = e.0; credential_id = f.0; x = g.0; y = h })))))))))

-- the record that words spell
unfoldable pub recorded : Eight → Result Rec Wrong
recorded w =
    and_then (byte w.protect wrong.Protect) (λ protect. and_then (spelled w.rp_id) (λ rp. and_then (spelled w.user_id) (λ user.
    and_then (spelled w.name) (λ name. and_then (spelled w.display_name) (λ display. and_then (spelled w.credential_id) (λ id.
    and_then (spelled w.x) (λ x. and_then (spelled w.y) (λ y.
    Ok (record { rp_id = rp; user_id = user; name = name; display_name = display; credential_id = id; x = x; y = y; cred_protect = protect })))))))))

-- the words that the code holds
abbrev pub eight_of : PartWords → Eight
eight_of w = record {
  protect = w.protect.now;
  rp_id = w.rp_id.now;
  user_id = w.user_id.now;
  name = w.name.now;
  display_name = w.display_name.now;
  credential_id = w.credential_id.now;
  x = w.x.now;
  y = w.y.now;
}

-- an answer of eight words, by what they are
abbrev pub told_eight : Result PartWords Wrong → Result Eight Wrong
told_eight (Ok w) = Ok (eight_of w)
told_eight (Err e) = Err e
