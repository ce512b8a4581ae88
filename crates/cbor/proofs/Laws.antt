-- The laws of canonical reading, of a whole message.
use Rattle.std.proofs.Common.{◌≡◌, ℕ, suc, ◌+◌, ◌-◌, ◌<◌, ◌≤◌, List, [], ◌∷◌, ◌++◌, length, get_or, take, drop, Ok, Err, Result, sym, refl, ap, ◌∙◌, subst, ⊎_elim, append-nil, arith, length-append, length-drop, take-append-drop, length-take}
use Rattle.std.proofs.lemmas.List.{drop-take, take_at}
use Rattle.std.proofs.lemmas.Bool.{cases_lt}
use Rattle.cbor.specs.Steps.{and_then}
use Rattle.cbor.specs.Reader.{item, deepest, ended, whole, placed, checked}
use Rattle.cbor.specs.Grammar.{encode}
use Rattle.cbor.proofs.Shortest.{Bytes}
use Rattle.cbor.specs.Laws.{Exactly, First}
use Rattle.cbor.proofs.Exact.{then_ok, item_reads}
use Rattle.cbor.proofs.Faults.{leftover, Behind, whole_shrinks, whole_faults}

-- what a slice of bytes holds are bytes
pub bytes_from : (bs : List ℕ) → ((i : ℕ) → get_or bs i 0 < 256) → Bytes bs
bytes_from [] h = tt
bytes_from (b ∷ bs) h = (h 0, bytes_from bs (λ i. h (suc i)))

placed_ok : (s : List ℕ) (r : Result (List ℕ) (List ℕ)) (end : ℕ) → placed s r ≡ Ok end → (rest : List ℕ) × (r ≡ Ok rest)
unfolding placed
placed_ok s (Ok rest) end e = (rest, refl)
placed_ok s (Err rest) end e = cc

pub placed_err : (s : List ℕ) (r : Result (List ℕ) (List ℕ)) (p : ℕ) → placed s r ≡ Err p → (rest : List ℕ) × (r ≡ Err rest) × (p ≡ length s - length rest)
unfolding placed
placed_err s (Ok rest) p e = cc
placed_err s (Err rest) p e = (rest, refl, cc)

ended_ok : (us rest : List ℕ) → ended us ≡ Ok rest → us ≡ []
unfolding ended
ended_ok [] rest e = refl
ended_ok (b ∷ bs) rest e = cc

pub exactly : (message : List ℕ) (start : ℕ) → Bytes (drop start message) → Exactly message start
unfolding checked whole and_then placed ended
exactly message start each =
    record {
      sound = λ end e.
          let r = placed_ok message (whole (drop start message)) end e in
          let h = then_ok (item deepest (drop start message)) ended r.0 r.1 in
          let v = (item_reads deepest).sound (drop start message) h.0 each h.1 in
          (v.0, v.1, v.2 ∙ ap (λ l. encode deepest v.0 ++ l) (ended_ok h.0 r.0 h.2) ∙ append-nil (encode deepest v.0));
      complete = λ v fine e.
          let read : item deepest (drop start message) ≡ Ok [] = ap (item deepest) (e ∙ sym (append-nil (encode deepest v))) ∙ (item_reads deepest).complete v fine [] in
          rw read (ap Ok (omega arith));
    }

-- what stands between two places is the same in two messages that begin alike
alike : (message other : List ℕ) (start n : ℕ) → take (start + n) other ≡ take (start + n) message → take n (drop start other) ≡ take n (drop start message)
alike message other start n e = sym (drop-take start n other) ∙ ap (drop start) e ∙ drop-take start n message

-- a fault of a message, and one of another that begins with the same bytes up to it
module _ (message other : List ℕ) (start p q : ℕ) (ws zs : List ℕ) (same : take p other ≡ take p message) (p-is : p ≡ length message - length ws) (q-is : q ≡ length other - length zs) (b : Behind whole (drop start message) ws) (other-is : whole (drop start other) ≡ Err zs) where
  long : p ≤ length other
  long = let k = ap length same in omega (arith, length-take p other, length-take p message)

  split : length message - start ≡ length b.0 + length ws
  split = sym (length-drop start message) ∙ ap length b.1 ∙ length-append b.0 ws

  beyond : length message < start → p ≤ q
  beyond l =
      let s : length zs ≤ length (drop start other) = subst (λ r. leftover r ≤ length (drop start other)) other-is (whole_shrinks (drop start other)) in
      omega (arith, length-drop start other, split, long)

  within : start ≤ length message → p ≤ q
  within l =
      let n = length b.0 in
      let place : p ≡ start + n = omega (arith, split) in
      let front : take n (drop start other) ≡ b.0 = alike message other start n (subst (λ k. take k other ≡ take k message) place same) ∙ ap (take n) b.1 ∙ take_at b.0 ws n refl in
      let whole-other : drop start other ≡ b.0 ++ drop n (drop start other) = sym (take-append-drop n (drop start other)) ∙ ap (λ r. r ++ drop n (drop start other)) front in
      let s : length zs ≤ length (drop n (drop start other)) = subst (λ r. leftover r ≤ length (drop n (drop start other))) (ap whole (sym whole-other) ∙ other-is) (b.2 (drop n (drop start other))) in
      omega (arith, length-drop n (drop start other), length-drop start other, long)

  pub not-before : p ≤ q
  not-before = ⊎_elim beyond within (cases_lt (length message) start)

pub first : (message : List ℕ) (start : ℕ) → Bytes (drop start message) → First message start
unfolding checked
first message start each p e other same q f =
    let r = placed_err message (whole (drop start message)) p e in
    let g = placed_err other (whole (drop start other)) q f in
    not-before message other start p q r.0 g.0 same r.2 g.2 (whole_faults (drop start message) r.0 each r.1) g.1
