use Rattle.std.proofs.Common.{◌≡◌, ℕ, ◌+◌, ◌<◌, List, length, drop, Some, Ok, Option, Result, Bor, sym, ap, ◌∙◌, arith}
use Rattle.std.specs.declared.iter.Enumerate.{Enumerate}
use Rattle.std.specs.declared.slice.ChunksExact.{ChunksExact}
use Rattle.std.specs.Iterator.Adapters.{enumerate_source, enumerate_count, enumerate_steps}
use Rattle.std.specs.Slice.Iter.{chunks_exact_size, chunks_exact_steps}
use Rattle.std.proofs.lemmas.Result.{err_from_is_err_and}
use Rattle.credential.specs.Slot.{content_of}
use Rattle.image.specs.declared.kind.Kind.{Kind}
use Rattle.image.specs.declared.opening.Refusal.{Refusal}
use Rattle.image.specs.Cut.{cells, GivesSlots}
use Rattle.image.specs.Kinds.{room}
use Rattle.image.specs.Opening.{unused, entries, at_slot, counts}
use Rattle.image.specs.Scan.{verdict_of}
use Rattle.image.proofs.Chunks.{gives_more, gives_no_more}
use Rattle.image.proofs.Leading.{counts-tally}
use Rattle.image.proofs.Tally.{tally, tally-slot, tally-end, by_verdict}
use Rattle.image.proofs.opening.scan.Goals as goal
use Rattle.image.proofs.opening.scan.Goals.{After-judge}

-- what is left gives the answer, so its answer is the whole's
whole_is :
    (kind : Kind) (ss : List (List ℕ)) (slots capacity k count : ℕ) (r : Result (ℕ × ℕ) Refusal) → slots ≡ length ss → capacity ≡ room kind slots
    → tally k count (at_slot (entries kind capacity k count (drop k ss))) ≡ tally 0 0 (at_slot (entries kind capacity 0 0 ss))
    → tally k count (at_slot (entries kind capacity k count (drop k ss))) ≡ r → r ≡ counts (at_slot (entries kind (room kind (length ss)) 0 0 ss))
whole_is kind ss slots capacity k count r many is inv e =
    let at : capacity ≡ room kind (length ss) = is ∙ ap (room kind) many in
    sym e ∙ inv ∙ sym (counts-tally kind capacity ss) ∙ ap (λ n. counts (at_slot (entries kind n 0 0 ss))) at

-- the slot that came is the one at its place, and what is left is what its verdict says
record Turn (kind : Kind) (capacity count : ℕ) (ss : List (List ℕ)) (it next : Enumerate (ChunksExact ℕ)) (k : ℕ) (v : Result (Option ℕ) Refusal) : Type 0 where
  at : enumerate_count it ≡ k
  within : k < length ss
  on : enumerate_count next ≡ k + 1
  size : chunks_exact_size (enumerate_source next) ≡ chunks_exact_size (enumerate_source it)
  gives : GivesSlots (enumerate_source next) (drop (k + 1) ss)
  left : tally k count (at_slot (entries kind capacity k count (drop k ss)))
      ≡ by_verdict v (tally k count (at_slot (unused (k + 1) (drop (k + 1) ss)))) (λ n. tally (k + 1) n (at_slot (entries kind capacity (k + 1) n (drop (k + 1) ss))))

turn :
    (kind : Kind) (capacity count : ℕ) (ss : List (List ℕ)) (it next : Enumerate (ChunksExact ℕ)) (k : ℕ) (slot : Bor (List ℕ)) (v : Result (Option ℕ) Refusal)
    → GivesSlots (enumerate_source it) (drop (enumerate_count it) ss) → enumerate_steps chunks_exact_steps it (Some (k, slot)) next
    → v ≡ verdict_of kind capacity count k (content_of slot.now) → Turn kind capacity count ss it next k v
turn kind capacity count ss it next k slot v gives step is =
    let g = gives_more ss (enumerate_count it) (enumerate_source it) (enumerate_source next) slot gives step.0 in
    let at : enumerate_count it ≡ k = sym step.1 in
    record {
      at = at;
      within = rw at at g.0;
      on = step.2 ∙ ap (λ n. n + 1) at;
      size = step.0.0;
      gives = rw at at g.2;
      left = tally-slot kind capacity k count v slot.now ss (rw at at g.0) (rw at at g.1) is;
    }

-- the turn of the loop, whatever the verdict
turn_of :
    (c : goal.After-judge) (v : Result (Option ℕ) Refusal) → v ≡ verdict_of c.args.kind c.capacity-capacity.result c.loop-k.listed c.in-Some.k (content_of c.in-Some.slot.now)
    → Turn c.args.kind c.capacity-capacity.result c.loop-k.listed (cells c.args.image.now) c.loop-k.k-iterator c.next.new.self c.in-Some.k v
turn_of c v is =
    turn c.args.kind _ c.loop-k.listed (cells c.args.image.now) c.loop-k.k-iterator c.next.new.self c.in-Some.k c.in-Some.slot v c.loop-k.invariant.gives c.in-Some.ensures.steps is

-- what is left from this slot on gives the answer
answer_of :
    (c : goal.After-judge) {r : Result (ℕ × ℕ) Refusal} → enumerate_count c.loop-k.k-iterator ≡ c.in-Some.k
    → tally c.in-Some.k c.loop-k.listed (at_slot (entries c.args.kind c.capacity-capacity.result c.in-Some.k c.loop-k.listed (drop c.in-Some.k (cells c.args.image.now)))) ≡ r
    → r ≡ counts (at_slot (entries c.args.kind (room c.args.kind (length (cells c.args.image.now))) 0 0 (cells c.args.image.now)))
answer_of c at left =
    whole_is c.args.kind _ _ _ c.in-Some.k c.loop-k.listed _ c.len.ensures.answer c.capacity-capacity.ensures.answer (rw at at c.loop-k.invariant.left) left

pub returns-in_err-next : goal.returns-in_err-next
returns-in_err-next c =
    let p = err_from_is_err_and c.from_residual.result c.from_residual.ensures.1 in
    let t = turn_of (goal.at.returns-in_err-next c).After-judge _ c.in_err-next.ensures in
    rw (p.1, p.2) (answer_of (goal.at.returns-in_err-next c).After-judge t.at t.left)

pub loop-k-preserved : goal.loop-k-preserved
loop-k-preserved c =
    let is = sym (ap Ok c.in-Some-2.is) ∙ c.in_ok-next.ensures in
    let t = turn_of (goal.at.loop-k-preserved c).After-judge _ is in
    record {
      size = t.size ∙ c.loop-k.invariant.size;
      within = rw t.on (omega (arith, t.within));
      gives = rw t.on t.gives;
      left = rw t.on (sym t.left ∙ (rw t.at at c.loop-k.invariant.left));
    }

pub returns-in-Some-first_used : goal.returns-in-Some-first_used
returns-in-Some-first_used c =
    let is = sym (ap Ok c.in-None-2.is) ∙ c.in_ok-next.ensures in
    let t = turn_of (goal.at.returns-in-Some-first_used c).After-judge _ is in
    answer_of (goal.at.returns-in-Some-first_used c).After-judge t.at
    (t.left ∙ ap (λ u. tally c.in-Some.k c.loop-k.listed (at_slot u)) (sym c.in-Some-first_used.ensures))

pub returns-in-None-2 : goal.returns-in-None-2
returns-in-None-2 c =
    let is = sym (ap Ok c.in-None-2.is) ∙ c.in_ok-next.ensures in
    let t = turn_of (goal.at.returns-in-None-2 c).After-judge _ is in
    let none : c.in-Some.k + 0 ≡ c.in-Some.k = omega arith in
    answer_of (goal.at.returns-in-None-2 c).After-judge t.at
    (t.left ∙ ap (λ u. tally c.in-Some.k c.loop-k.listed (at_slot u)) (sym c.in_default.ensures) ∙ ap (λ u. Ok (u, c.loop-k.listed)) none)

pub returns : goal.returns
returns c =
    let ss = cells c.args.image.now in
    let k = enumerate_count c.loop-k.k-iterator in
    let end = gives_no_more ss k _ _ c.loop-k.invariant.gives c.in-None.ensures.steps.0 in
    let all : k ≡ c.len-2.result = omega (arith, c.loop-k.invariant.within, c.len-2.ensures.answer) in
    whole_is c.args.kind ss _ _ k c.loop-k.listed _ c.len.ensures.answer c.capacity-capacity.ensures.answer c.loop-k.invariant.left
    (tally-end c.args.kind _ k c.loop-k.listed ss end ∙ ap (λ u. Ok (u, c.loop-k.listed)) all)
