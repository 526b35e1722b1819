-- How far a state reaches back: what ends behind the bytes that were walked begins among the last, which begin a pattern.
use Rattle.std.proofs.Common.{◌≡◌, ℕ, ◌+◌, ◌-◌, ◌<◌, ◌≤◌, inl, inr, true, false, List, [], ◌∷◌, ◌++◌, length, drop, max, refl, sym, ◌∙◌, ap, subst, arith, length-append}
use Rattle.std.specs.Prelude.{Option, Some, None, slice_range}
use Rattle.std.proofs.lemmas.Bool.{cases_lt}
use Rattle.std.proofs.lemmas.List.{drop_at, map-append}
use Rattle.aho_core.specs.Bytes.{folded, folded_word}
use Rattle.aho_core.specs.Failure.{is_leftmost}
use Rattle.aho_core.specs.Held.{held_after}
use Rattle.aho_core.specs.Occurrence.{Occurrence}
use Rattle.aho_core.specs.Occurs.{Occurs}
use Rattle.aho_core.specs.Overlapping.{begins_some}
use Rattle.aho_core.specs.Patterns.{Patterns}
use Rattle.aho_core.specs.Step.{depth_of}
use Rattle.aho_core.specs.Trie.{is_node}
use Rattle.aho_core.specs.declared.search.Anchored.TheVariants.{No}
use Rattle.aho_core.specs.declared.search.MatchKind.TheVariants.{Standard}
use Rattle.aho_laws.proofs.EndingLists.{is_node-begins_some}
use Rattle.aho_laws.proofs.Stands.{Stands, from_occurs, length-folded}
use Rattle.aho_laws.proofs.Starts.{live_start}
use Rattle.aho_laws.proofs.StepLaw.{dead_leftmost, state-is_node}
use Rattle.aho_automaton.specs.declared.automaton.Automaton.{Ghosts as Automata}
use Rattle.aho_automaton.proofs.Places.{into_part, length_part, moved_back, part_join, part_of_part}
use Rattle.aho_cover.specs.Counting.{Output}
use Rattle.aho_cover.specs.Covers.{MayGoOn}
use Rattle.aho_cover.specs.Pieces.{PieceRule}
use Rattle.aho_cover.specs.Steps.{CoversOn}
use Rattle.aho_cover.specs.Walks.{StandsIn}
use Rattle.aho_cover.specs.declared.progress.CoverProgress.{CoverProgress}

module _ (p : Patterns) (standard : p.kind ≡ Standard) where
  -- after a word, what ends later begins no further back than the word's own state is long
  back-by_state : (w v : List ℕ) (n : Occurrence) (state : Option (List ℕ)) → held_after p No w ≡ state → Occurs p No (w ++ v) 0 (length (w ++ v)) n → length w < n.end → length w ≤ n.start + depth_of state
  back-by_state w v n None e o past =
      let clash : true ≡ false = sym (dead_leftmost p (folded_word p w) e) ∙ ap is_leftmost standard in
      cc
  back-by_state w v n (Some u) e o past =
      let t = live_start p (folded_word p w) u e in
      let stands : Stands p No (folded_word p w ++ folded_word p v) n = subst (λ (z : List ℕ). Stands p No z n) (map-append (folded p) w v) (from_occurs p No (w ++ v) n o) in
      let whole : length (folded_word p w) ≡ length t.0 + length u = ap length t.1 ∙ length-append t.0 u in
      omega (arith, t.2 (folded_word p v) n stands (omega (arith, past, length-folded p w)), whole, length-folded p w)

  -- a word whose bytes are those of a node begins a pattern
  begins-node : (word u : List ℕ) → folded_word p word ≡ u → is_node p u ≡ true → 0 < length word → begins_some p word ≡ true
  begins-node [] u same node some = absurd (omega (arith, some))
  begins-node (x ∷ w) u same node some = sym (is_node-begins_some p (ap is_leftmost standard) x w) ∙ ap (is_node p) same ∙ node

  -- and those last bytes of a text begin a pattern that are as many as the state's word has
  goes-on : (text : List ℕ) (origin at : ℕ) (state : Option (List ℕ)) → origin ≤ length text → held_after p No (slice_range text origin (length text)) ≡ state → at < length text → length text ≤ at + depth_of state → MayGoOn p text at
  goes-on text origin at None within e before near = absurd (omega (arith, before, near))
  goes-on text origin at (Some u) within e before near =
      let end = length text in
      let word = slice_range text origin end in
      let t = live_start p (folded_word p word) u e in
      let whole : length (folded_word p word) ≡ length t.0 + length u = ap length t.1 ∙ length-append t.0 u in
      let size : length word ≡ end - origin = length_part text origin end (omega arith) in
      let sized : length t.0 + length u ≡ end - origin = omega (arith, whole, size, length-folded p word) in
      let from : ℕ = origin + length t.0 in
      let front = slice_range text origin from in
      let last = slice_range text from end in
      let split : word ≡ front ++ last = part_join text origin from end (omega arith) (omega (arith, sized, within)) in
      let short : length (folded_word p front) ≡ length t.0 = omega (arith, length-folded p front, length_part text origin from (omega (arith, sized, within))) in
      let same : folded_word p last ≡ u =
      sym (drop_at (folded_word p front) (folded_word p last) (length t.0) short)
      ∙ ap (drop (length t.0)) (sym (map-append (folded p) front last) ∙ ap (folded_word p) (sym split) ∙ t.1)
      ∙ drop_at t.0 u (length t.0) (omega arith) in
      let long : length last ≡ end - from = length_part text from end (omega arith) in
      (from, omega (arith, sized, near, within), begins-node last u same (state-is_node p (folded_word p word) u e) (omega (arith, long, sized, near, before, within)))

module _ {A : Type 0} (G : Automata A) (a : A) (p : Patterns) (haystack : List ℕ) (standard : p.kind ≡ Standard) (reaches : (word : List ℕ) (sid : ℕ) → G.held a p No word sid → G.reach a sid ≡ depth_of (held_after p No word)) where
  -- where a state is held, what ends later begins no further back than it reaches
  pub clear-back : (at sid : ℕ) → StandsIn G a p haystack sid at → (m : Occurrence) → Occurs p No haystack 0 (length haystack) m → at < m.end → at ≤ m.start + G.reach a sid
  clear-back at sid s m occurs ends = elim (cases_lt m.start s.origin) [
    | inl early ↦ absurd (omega (arith, s.apart m occurs early, s.before_place, ends))
    | inr late ↦
        (let end = length haystack in
        let word = slice_range haystack s.origin at in
        let rest = slice_range haystack at end in
        let here : Occurs p No haystack s.origin end m = record { numbered = occurs.numbered; after_start = late; before_end = occurs.before_end; sized = occurs.sized; same = occurs.same; admitted = λ e. cc } in
        let long : length (slice_range haystack s.origin end) ≡ end - s.origin = length_part haystack s.origin end (omega arith) in
        let there = subst (λ (x : ℕ). Occurs p No (slice_range haystack s.origin end) 0 x (moved_back s.origin m)) (sym long) (into_part p No haystack s.origin end m here) in
        let joined = subst (λ (w : List ℕ). Occurs p No w 0 (length w) (moved_back s.origin m)) (part_join haystack s.origin at end s.before_place s.in_span) there in
        let size : length word ≡ at - s.origin = length_part haystack s.origin at s.in_span in
        let back = back-by_state p standard word rest (moved_back s.origin m) (held_after p No word) refl joined (omega (arith, size, late, ends, s.before_place)) in
        omega (arith, back, reaches word sid s.is_held, size, late, s.before_place))
  ]

  -- so a cover may know of that place
  pub looked-back : (rule : PieceRule) (s : CoverProgress) (at since : ℕ) (written : Output) → CoversOn G a rule s at p haystack written → since ≡ max s.since (at - G.reach a s.sid) → CoversOn G a rule (record s { since = since }) at p haystack written
  looked-back rule s at since written covers is =
      let has = covers.covered in
      record {
        of = covers.of;
        is_held = covers.is_held;
        covered = record {
          given = record { within = has.given.within; last = has.given.last; whole = has.given.whole };
          walked_within = has.walked_within;
          far = has.far;
          since_clear = λ m occurs later. omega (arith, has.since_clear m occurs later, clear-back at s.sid covers.is_held m occurs later, is);
          runs = has.runs;
          settled = has.settled;
          before = has.before;
          clear = has.clear;
          fed_clear = has.fed_clear;
          written_is = has.written_is;
        };
      }

  -- each of the last bytes over which it reaches back is among some that begin a pattern
  pub may-go_on : (at sid place : ℕ) → StandsIn G a p haystack sid place → at < place → place ≤ at + G.reach a sid → MayGoOn p (slice_range haystack 0 place) at
  may-go_on at sid place s before near =
      let text = slice_range haystack 0 place in
      let word = slice_range haystack s.origin place in
      let long : length text ≡ place = omega (arith, length_part haystack 0 place s.in_span) in
      let part : slice_range text s.origin (length text) ≡ word = ap (slice_range text s.origin) long ∙ part_of_part haystack 0 place s.origin place s.origin place (omega arith) (omega arith) s.before_place (omega arith) in
      goes-on p standard text s.origin at (held_after p No word) (omega (arith, s.before_place, long)) (ap (held_after p No) part) (omega (arith, before, long)) (omega (arith, near, long, reaches word sid s.is_held))
