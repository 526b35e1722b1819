-- Each turn of the loop, and the states at its end.
use Rattle.std.proofs.Common.{◌≡◌, ◌+◌, ◌-◌, ◌<◌, ◌≤◌, inl, inr, ℕ, List, [], ◌∷◌, ◌++◌, drop, get_or, length, reverse, sym, ◌∙◌, ap, subst, arith}
use Rattle.std.specs.Prelude.{slice_index}
use Rattle.std.proofs.lemmas.Bool.{cases_lt}
use Rattle.std.proofs.lemmas.List.{drop_more, get_or_append_left, get_or_push, length_push, reverse-append}
use Rattle.aho_core.specs.Patterns.{Patterns}
use Rattle.aho_core.specs.declared.search.Anchored.TheVariants.{No}
use Rattle.aho_backward.proofs.walk_back.walk_back.Goals as goal

-- one byte more, from behind
walked-more : (bytes : List ℕ) (count : ℕ) → count < length bytes → reverse (drop (length bytes - (count + 1)) bytes) ≡ reverse (drop (length bytes - count) bytes) ++ get_or bytes (length bytes - 1 - count) 0 ∷ []
walked-more bytes count lt =
    let i = length bytes - 1 - count in
    let here : length bytes - (count + 1) ≡ i = omega arith in
    let next : i + 1 ≡ length bytes - count = omega arith in
    ap (λ (k : ℕ). reverse (drop k bytes)) here
    ∙ ap reverse (drop_more bytes i 0 (omega arith))
    ∙ reverse-append (get_or bytes i 0 ∷ []) (drop (i + 1) bytes)
    ∙ ap (λ (k : ℕ). reverse (drop k bytes) ++ get_or bytes i 0 ∷ []) next

-- what holds of each state at its place holds of one more
each-more : (Holds : ℕ → ℕ → Type 0) (states longer : List ℕ) (y n count : ℕ) → longer ≡ states ++ y ∷ [] → length states ≡ count → count < n → Holds (n - (count + 1)) y
    → ((place : ℕ) → n - count ≤ place → place < n → Holds place (slice_index states (n - 1 - place)))
    → (place : ℕ) → n - (count + 1) ≤ place → place < n → Holds place (slice_index longer (n - 1 - place))
each-more Holds states longer y n count is long below last before place from to =
    subst (λ (xs : List ℕ). Holds place (slice_index xs (n - 1 - place))) (sym is) (elim (cases_lt place (n - count)) [
      | inl new ↦
          (let there : n - (count + 1) ≡ place = omega arith in
          subst (Holds place) (sym (get_or_push states y 0 (n - 1 - place) (omega arith))) (subst (λ (k : ℕ). Holds k y) there last))
      | inr old ↦ subst (Holds place) (sym (get_or_append_left states (y ∷ []) 0 (n - 1 - place) (omega arith))) (before place old to)
    ])

pub loop-count-preserved : goal.loop-count-preserved
loop-count-preserved g c =
    let inv = c.loop-count.invariant in
    let a = g.W.Of.Automaton in
    let automaton = g.W.Walk.of c.args.walk.now in
    let bytes = c.args.bytes.now in
    let n = length bytes in
    let count = c.loop-count.count in
    let items = c.in_ok-push.ensures.items in
    let states = c.loop-count.states.items in
    let held : (q : Patterns) → a.is_of automaton q → a.held automaton q No (reverse (drop (n - (count + 1)) bytes)) c.step-sid.result =
    λ q of.
    subst (λ (w : List ℕ). a.held automaton q No w c.step-sid.result) (sym (walked-more bytes count (omega arith)))
    ((rw inv.same at c.step-sid.ensures.goes_on) q of (reverse (drop (n - count) bytes)) (inv.held q of)) in
    let valid = rw inv.same at c.step-sid.ensures.valid in
    record {
      same = c.step-sid.ensures.same ∙ inv.same;
      valid = valid;
      paid = omega (arith, rw inv.same at c.step-sid.ensures.cost, inv.paid);
      held = held;
      long = ap length items ∙ length_push states c.step-sid.result ∙ ap (λ (k : ℕ). k + 1) inv.long;
      each_valid = each-more (λ _ sid. a.valid automaton sid) states c.push.new.self.items c.step-sid.result n count items inv.long (omega arith) valid inv.each_valid;
      each_held = λ q of. each-more (λ place sid. a.held automaton q No (reverse (drop place bytes)) sid) states c.push.new.self.items c.step-sid.result n count items inv.long (omega arith) (held q of) (inv.each_held q of);
    }

pub returns-clause-held : goal.returns-clause-held
returns-clause-held g c =
    let inv = c.loop-count.invariant in
    let a = g.W.Of.Automaton in
    let automaton = g.W.Walk.of c.args.walk.now in
    let bytes = c.args.bytes.now in
    let states = c.loop-count.states.items in
    let long : length states ≡ length bytes = omega (arith, inv.long) in
    record {
      one_each = long;
      valid = λ place lt. subst (λ (n : ℕ). a.valid automaton (slice_index states (n - 1 - place))) (sym long) (inv.each_valid place (omega arith) lt);
      held = λ q of place lt. subst (λ (n : ℕ). a.held automaton q No (reverse (drop place bytes)) (slice_index states (n - 1 - place))) (sym long) (inv.each_held q of place (omega arith) lt);
    }
