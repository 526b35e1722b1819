-- Where nothing that occurs begins in the first of some bytes, whatever follows them, these leave no trace in the words' state.
use Rattle.std.proofs.Common.{◌≡◌, ℕ, ◌+◌, ◌-◌, ◌≤◌, inl, inr, false, List, [], ◌∷◌, ◌++◌, length, drop, refl, sym, ◌∙◌, ap, subst, arith, append-nil, length-append}
use Rattle.std.specs.Prelude.{slice_range}
use Rattle.std.proofs.lemmas.Bool.{cases_Bool}
use Rattle.std.proofs.lemmas.List.{drop-map, drop_at, map-append}
use Rattle.aho_core.specs.Bytes.{folded, folded_word}
use Rattle.aho_core.specs.Failure.{is_cut, state_after}
use Rattle.aho_core.specs.Held.{held_after}
use Rattle.aho_core.specs.Occurrence.{Occurrence}
use Rattle.aho_core.specs.Occurs.{Occurs}
use Rattle.aho_core.specs.Patterns.{Patterns, pattern_at}
use Rattle.aho_core.specs.Trie.{is_node, pattern_word}
use Rattle.aho_core.specs.declared.search.Anchored.TheVariants.{No}
use Rattle.aho_laws.proofs.Begins.{begins_trans}
use Rattle.aho_laws.proofs.Kept.{is_cut-true, is_node-true}
use Rattle.aho_laws.proofs.SpanTexts.{Occurs-moved}
use Rattle.aho_laws.proofs.Stands.{Stands, length-folded, stands_at, to_occurs}
use Rattle.aho_laws.proofs.StepLaw.{state-shorter}
use Rattle.aho_automaton.proofs.Places.{length_part, part_join}
use Rattle.aho_stream.specs.After.{NothingBegins}
use Rattle.aho_stream.proofs.GivenBytes.{part_with_more}

module _ (p : Patterns) where
  -- whatever bytes follow a word, what stands in all starts behind its first so many bytes
  abbrev StandsBehind : ℕ → List ℕ → Type 0
  StandsBehind count word = (more : List ℕ) (m : Occurrence) → Stands p No (word ++ folded_word p more) m → count ≤ m.start

  -- a word at whose first byte nothing starts is no node, since a pattern that it begins would start there
  no_node : (x : ℕ) (word : List ℕ) → StandsBehind 1 (x ∷ word) → is_node p (x ∷ word) ≡ false
  unfolding pattern_word
  no_node x word behind = elim (cases_Bool (is_node p (x ∷ word))) [
    | inl node ↦
        (let (k, below, kept, (rest, whole)) = is_node-true p x word node in
        let count = length (x ∷ word) in
        let more = drop count (pattern_at p k) in
        let left : folded_word p more ≡ rest = sym (drop-map (folded p) count (pattern_at p k)) ∙ ap (drop count) (sym whole) ∙ drop_at (x ∷ word) rest count refl in
        let same : (x ∷ word) ++ folded_word p more ≡ pattern_word p k = ap (λ (t : List ℕ). (x ∷ word) ++ t) left ∙ whole in
        absurd (omega (
          arith,
          behind more _ (stands_at p No ((x ∷ word) ++ folded_word p more) [] ((x ∷ word) ++ folded_word p more) k (length (pattern_word p k)) refl (λ y. refl) below
              ([], append-nil (pattern_word p k) ∙ sym same) (omega arith)),
        )))
    | inr other ↦ other
  ]

  -- nor is it cut
  no_cut : (x : ℕ) (word : List ℕ) → StandsBehind 1 (x ∷ word) → is_cut p (x ∷ word) ≡ false
  no_cut x word behind = elim (cases_Bool (is_cut p (x ∷ word))) [
    | inl cut ↦
        (let (k, below, begins) = (is_cut-true p (x ∷ word) cut).1 in
        let all = (x ∷ word) ++ folded_word p [] in
        absurd (omega (arith, behind [] _ (stands_at p No all [] all k (length (pattern_word p k)) refl (λ y. refl) below (begins_trans (pattern_word p k) (x ∷ word) all begins (folded_word p [], refl)) (omega arith)))))
    | inr other ↦ other
  ]

  -- what stands in a word stands one byte farther on behind one byte
  stands_on : (x : ℕ) (word : List ℕ) (m : Occurrence) → Stands p No word m → Stands p No (x ∷ word) (record { pattern = m.pattern; start = m.start + 1; end = m.end + 1 })
  stands_on x word m o = record {
    below = o.below;
    front = x ∷ o.front;
    rest = o.rest;
    parts = ap (λ (t : List ℕ). x ∷ t) o.parts;
    start = omega (arith, o.start);
    end = omega (arith, o.end);
    at = λ y. cc;
  }

  state_behind : (front word : List ℕ) → StandsBehind (length front) (front ++ word) → state_after p (front ++ word) ≡ state_after p word
  state_behind [] word behind = refl
  state_behind (x ∷ front) word behind =
      let first : StandsBehind 1 (x ∷ (front ++ word)) = λ more m o. omega (arith, behind more m o) in
      state-shorter p x (front ++ word) (no_node x (front ++ word) first) (no_cut x (front ++ word) first)
      ∙ state_behind front word (λ more m o. omega (arith, behind more _ (stands_on x _ m o)))

  held_behind : (front word : List ℕ)
      → ((more : List ℕ) (m : Occurrence) → Occurs p No ((front ++ word) ++ more) 0 (length ((front ++ word) ++ more)) m → length front ≤ m.start)
      → held_after p No (front ++ word) ≡ held_after p No word
  held_behind front word behind =
      let folds : folded_word p (front ++ word) ≡ folded_word p front ++ folded_word p word = map-append (folded p) front word in
      ap (state_after p) folds
      ∙ state_behind (folded_word p front) (folded_word p word)
      (λ more m o. omega (
        arith,
        length-folded p front,
        behind more m
            (to_occurs p No ((front ++ word) ++ more) m (subst (λ (w : List ℕ). Stands p No w m) (ap (λ (t : List ℕ). t ++ folded_word p more) (sym folds) ∙ sym (map-append (folded p) (front ++ word) more)) o)),
      ))

  -- so the state that is held after these bytes is that after the last of them
  pub held_apart : (given : List ℕ) (from origin : ℕ) → from ≤ origin → origin ≤ length given → NothingBegins p given from origin
      → held_after p No (slice_range given from (length given)) ≡ held_after p No (slice_range given origin (length given))
  held_apart given from origin before within apart =
      let end = length given in
      let front = slice_range given from origin in
      let word = slice_range given origin end in
      let joined : slice_range given from end ≡ front ++ word = part_join given from origin end before within in
      ap (held_after p No) joined
      ∙ held_behind front word
      (λ more m o.
      let all = given ++ more in
      let same : (front ++ word) ++ more ≡ slice_range all from (length all) = ap (λ (t : List ℕ). t ++ more) (sym joined) ∙ sym (part_with_more given more from (omega (arith, before, within))) in
      let here : Occurs p No (slice_range all from (length all)) 0 (length (slice_range all from (length all))) m = subst (λ (w : List ℕ). Occurs p No w 0 (length w) m) same o in
      let long : length (slice_range all from (length all)) ≡ length all - from = length_part all from (length all) (omega arith) in
      let reach : from + length (slice_range all from (length all)) ≡ length all = omega (arith, long, before, within, length-append given more) in
      let there = Occurs-moved p all from (length all) 0 (length (slice_range all from (length all))) m (omega (arith, reach)) here in
      omega (arith, length_part given from origin within, before, apart more _ (record { numbered = there.numbered; after_start = omega arith; before_end = omega (arith, there.before_end, reach); sized = there.sized; same = there.same; admitted = λ y. cc })))
