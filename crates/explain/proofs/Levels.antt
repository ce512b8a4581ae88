-- Facts on outlines, over plain lists.
use Rattle.std.proofs.Common.{◌≡◌, ℕ, ◌-◌, ◌<◌, ◌≤◌, List, [], ◌∷◌, ◌++◌, reverse, length, Ok, sym, refl, ap, ◌∙◌, subst, arith}
use Rattle.std.specs.List.{AllByRecursion}
use Rattle.std.proofs.slice.Lists.{all_by_recursion_push}
use Rattle.std.proofs.lemmas.List.{length-reverse, map_push, reverse-append}
use Rattle.std.proofs.lemmas.Bool.{lt-ltb, le-ltb}
use Rattle.explain.specs.declared.items.Entry.{Entry}
use Rattle.cbor.specs.Meaning.{meant}
use Rattle.cbor.specs.Reader.{Found, read_at}
use Rattle.explain.specs.Outlined.{Rising, Outlined, Chain, held, insides, levels, entered_all, entered, finished}

rising_more : (es : List Entry) (e : Entry) → Rising es → AllByRecursion (λ f. f.place < e.place) es → Rising (es ++ e ∷ [])
rising_more [] e r b = tt
rising_more (x ∷ []) e r b = (b.0, tt)
rising_more (x ∷ y ∷ es) e r b = (r.0, rising_more (y ∷ es) e r.1 b.1)

pub outlined_none : (es : List Entry) (stop : ℕ) → es ≡ [] → Outlined es stop
unfolding levels
outlined_none [] stop e = record { rising = tt; before = tt; shallow = tt; nested = refl }
outlined_none (x ∷ es) stop e = absurd (let z : ◌≡◌ {A = ℕ} 0 1 = cc in omega arith)

levels_more : (outer ns : List ℕ) (n : ℕ) → levels outer (ns ++ n ∷ []) ≡ levels outer ns ++ length (entered_all outer ns) ∷ []
unfolding levels entered_all
levels_more outer [] n = refl
levels_more outer (m ∷ ns) n = ap (λ l. length outer ∷ l) (levels_more (entered m outer) ns n)

entered_more : (outer ns : List ℕ) (n : ℕ) → entered_all outer (ns ++ n ∷ []) ≡ entered n (entered_all outer ns)
unfolding entered_all
entered_more outer [] n = refl
entered_more outer (m ∷ ns) n = entered_more (entered m outer) ns n

pub entered_first : (es : List Entry) (s : List ℕ) → es ≡ [] → s ≡ [] → entered_all [] (insides es) ≡ reverse s
unfolding entered_all
entered_first es s e f = rw (e, f) refl

pub entered-next : (es fs : List Entry) (e : Entry) (s t : List ℕ) → fs ≡ es ++ e ∷ [] → reverse t ≡ entered (held (meant e.item)) (reverse s) → entered_all [] (insides es) ≡ reverse s → entered_all [] (insides fs) ≡ reverse t
entered-next es fs e s t is step inv =
    ap (λ l. entered_all [] (insides l)) is ∙ ap (entered_all []) (map_push (λ f. held (meant f.item)) es e) ∙ entered_more [] (insides es) (held (meant e.item)) ∙ ap (entered (held (meant e.item))) inv ∙ sym step

before_later : (es : List Entry) (at stop : ℕ) → at ≤ stop → AllByRecursion (λ e. e.place < at) es → AllByRecursion (λ e. e.place < stop) es
before_later [] at stop h b = tt
before_later (e ∷ es) at stop h b = (omega (arith, b.0), before_later es at stop h b.1)

-- an entry more, at the place that bounds those before it
pub outlined_more : (es fs : List Entry) (e : Entry) (s : List ℕ) (stop : ℕ) → fs ≡ es ++ e ∷ [] → e.level ≡ length s → e.level ≤ 4 → e.place < stop → entered_all [] (insides es) ≡ reverse s → Outlined es e.place → Outlined fs stop
outlined_more es fs e s stop is at low lt open-then o =
    let level : length (entered_all [] (insides es)) ≡ e.level = ap length open-then ∙ length-reverse s ∙ sym at in
    subst (λ l. Outlined l stop) (sym is) (record {
      rising = rising_more es e o.rising o.before;
      before = all_by_recursion_push (λ f. f.place < stop) es e (before_later es e.place stop (omega arith) o.before) lt;
      shallow = all_by_recursion_push (λ f. f.level ≤ 4) es e o.shallow low;
      nested =
          map_push (λ f. f.level) es e ∙ ap (λ l. l ++ e.level ∷ []) o.nested ∙ ap (λ n. levels [] (insides es) ++ n ∷ []) (sym level)
          ∙ sym (levels_more [] (insides es) (held (meant e.item))) ∙ sym (ap (levels []) (map_push (λ f. held (meant f.item)) es e));
    })

-- a container is opened
pub opened : (s t : List ℕ) (n : ℕ) → 0 < n → t ≡ s ++ n ∷ [] → reverse t ≡ entered n (reverse s)
unfolding entered
opened s t n h e = rw (lt-ltb 0 n h) (ap reverse e ∙ reverse-append s (n ∷ []))

pub entered_none : (n : ℕ) (s : List ℕ) → n ≤ 0 → entered n s ≡ finished s
unfolding entered
entered_none n s h = rw (le-ltb 0 n h) refl

-- the innermost container awaits one item less
pub awaits_less : (s t u : List ℕ) (n : ℕ) → 1 < n → s ≡ t ++ n ∷ [] → u ≡ t ++ (n - 1) ∷ [] → reverse u ≡ finished (reverse s)
unfolding finished
awaits_less s t u n h e f =
    ap reverse f ∙ reverse-append t ((n - 1) ∷ []) ∙ sym (ap finished (ap reverse e ∙ reverse-append t (n ∷ [])) ∙ (rw (lt-ltb 1 n h) refl))

-- the innermost container is complete
pub awaits_none : (s t : List ℕ) (n : ℕ) → n ≤ 1 → s ≡ t ++ n ∷ [] → finished (reverse t) ≡ finished (reverse s)
unfolding finished
awaits_none s t n h e = sym (ap finished (ap reverse e ∙ reverse-append t (n ∷ [])) ∙ (rw (le-ltb 1 n h) refl))

pub finished_none : (s t : List ℕ) → s ≡ [] → t ≡ [] → reverse t ≡ finished (reverse s)
unfolding finished
finished_none s t e f = rw (e, f) refl

-- one item more, right behind the others
chain_snoc : (message : List ℕ) (from : ℕ) (es : List Entry) (e : Entry) (f : Found) → Chain message from es e.place → read_at message e.place ≡ Ok f → meant e.item ≡ f.said → Chain message from (es ++ e ∷ []) f.end
chain_snoc message from [] e f c r h = (sym c, f, ap (read_at message) c ∙ r, h, refl)
chain_snoc message from (x ∷ es) e f c r h = (c.0, c.1, c.2, c.3, chain_snoc message c.1.end es e f c.4 r h)

pub chain_none : (message : List ℕ) (es : List Entry) (at : ℕ) → es ≡ [] → Chain message at es at
chain_none message es at e = rw e refl

pub chain_more : (message : List ℕ) (from : ℕ) (es fs : List Entry) (e : Entry) (f : Found) → fs ≡ es ++ e ∷ [] → Chain message from es e.place → Ok f ≡ read_at message e.place → meant e.item ≡ f.said → Chain message from fs f.end
chain_more message from es fs e f is c r h = subst (λ l. Chain message from l f.end) (sym is) (chain_snoc message from es e f c (sym r) h)

-- more than four containers are open
pub too_deep : (outer s : List ℕ) (n : ℕ) → outer ≡ reverse s → n ≡ length s → 4 < n → 4 < length outer
too_deep outer s n e l h = let r = ap length e ∙ length-reverse s in omega arith
