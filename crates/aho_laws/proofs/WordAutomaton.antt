-- The word automaton has the laws.
use Rattle.std.proofs.Common.{◌≡◌, ◌≢◌, inl, inr, ℕ, zero, suc, ◌+◌, ◌-◌, ◌<◌, ◌≤◌, true, false, cond, List, [], ◌∷◌, ◌++◌, length, map, eqb, refl, sym, ◌∙◌, ap, subst, arith, length-append}
use Rattle.std.specs.Prelude.{Option, Some, None, is_none, slice_index}
use Rattle.std.specs.List.{All}
use Rattle.std.proofs.lemmas.Bool.{cases_Bool, cases_lt, cond-true, cond-false, eq-eqb, ne_eqb}
use Rattle.std.proofs.lemmas.List.{append-nil, length_push, map_push, map-append, length-map, get_or-map}
use Rattle.std.proofs.lemmas.List.Elements.{All-nil, All-weaker, All-head}
use Rattle.aho_core.specs.declared.search.Anchored.{Anchored}
use Rattle.aho_core.specs.declared.search.Anchored.TheVariants.{No, Yes}
use Rattle.aho_core.specs.declared.search.MatchKind.{MatchKind}
use Rattle.aho_core.specs.declared.search.MatchKind.TheVariants.{Standard, LeftmostFirst, LeftmostLongest}
use Rattle.aho_laws.proofs.Begins.{begins_length}
use Rattle.aho_laws.proofs.ByLinks.{matches-root}
use Rattle.aho_laws.proofs.Kept.{other_than_standard, own-first, own-not_node, is_node-true, is_cut-true}
use Rattle.aho_laws.proofs.StepLaw.{state-is_node, dead_leftmost}
use Rattle.aho_laws.proofs.Stands.{Stands, BestIn, length-pattern_word, length-folded, best_in, best_after, stands_more, stands_less, stands_at, before_later, best_starts}
use Rattle.aho_laws.proofs.Fronts.{front_of, front_anchored, dead_front}
use Rattle.aho_laws.proofs.Leftmost.{told_at, best_further, past_number, past_none}
use Rattle.aho_laws.proofs.Listed.{IsShorter, FitsWord, matches-fit, matches_of-state_after, matches-own_first}
use Rattle.aho_laws.proofs.Standard.{told_ending, best_at_start, standard_further, standard_anchored}
use Rattle.aho_laws.proofs.EndingLists.{held-patterns_ending, anchored-lists, is_none-held_after}
use Rattle.aho_laws.proofs.Starts.{start_half}
use Rattle.aho_laws.proofs.LiteralReadings.{live-occurrences}
use Rattle.aho_core.specs.Bytes.{folded, folded_word}
use Rattle.aho_core.specs.Failure.{is_leftmost, state_after}
use Rattle.aho_core.specs.Held.{held_after, is_root}
use Rattle.aho_core.specs.Laws.{BestAfter, Fits, Reads, better, first_of_two, longest, told}
use Rattle.aho_core.specs.MatchList.{leftmost_matches, matches_of, matches_of_word, own_matches, suffix_matches}
use Rattle.aho_core.specs.Occurrence.{Occurrence}
use Rattle.aho_core.specs.Patterns.{Patterns}
use Rattle.aho_core.specs.Trie.{is_node, pattern_word}

-- which of two the kinds take
better_leftmost : (kind : MatchKind) (r t : Option Occurrence) → is_leftmost kind ≡ true → better kind r t ≡ first_of_two t r
better_leftmost Standard r t h = cc
better_leftmost LeftmostFirst r t h = refl
better_leftmost LeftmostLongest r t h = refl

better_standard : (kind : MatchKind) (r t : Option Occurrence) → is_leftmost kind ≡ false → better kind r t ≡ first_of_two r t
better_standard Standard r t h = refl
better_standard LeftmostFirst r t h = cc
better_standard LeftmostLongest r t h = cc

-- no length is above the greatest
longest_bound : (ns : List ℕ) (k : ℕ) → k < length ns → slice_index ns k ≤ longest ns
longest_bound [] k lt = absurd (omega arith)
longest_bound (n ∷ ns) zero lt = omega arith
longest_bound (n ∷ ns) (suc k) lt = omega (arith, longest_bound ns k (omega arith))

module _ (p : Patterns) where
  -- the lengths of the patterns
  abbrev lengths : List ℕ
  lengths = map length p.words

  -- the length of a pattern, by its word
  length_of : (k : ℕ) → k < length p.words → slice_index lengths k ≡ length (pattern_word p k)
  length_of k lt = get_or-map length p.words k [] 0 lt ∙ sym (length-pattern_word p k)

  -- what fits the word fits by the lengths
  fits : (list : List ℕ) (n : ℕ) → All (FitsWord p n) list → Fits lengths n list
  fits list n h = All-weaker (FitsWord p n) (λ k. (k < length lengths) × (slice_index lengths k ≤ n)) (λ k f. (omega (arith, f.0, length-map p.words length), omega (arith, f.1, length_of k f.0))) list h

  -- what a list tells, by the words
  told_unanchored : (list : List ℕ) (n : ℕ) → All (FitsWord p n) list → told lengths No 0 n list ≡ told_ending p n list
  told_unanchored [] n h = refl
  told_unanchored (k ∷ ks) n h =
      let f = All-head (FitsWord p n) k ks h in
      ap (λ (s : ℕ). Some (record { pattern = k; start = n - s; end = n })) (length_of k f.0)

  -- leftmost: what the own patterns of the front tell
  told_front : (pre v own : List ℕ) (n : ℕ) → own_matches p v ≡ own → n ≡ length pre + length v → told lengths No 0 n own ≡ told_at pre n own
  told_front pre v [] n e long = refl
  told_front pre v (k ∷ ks) n e long =
      let first = own-first p v k ks e in
      ap (λ (s : ℕ). Some (record { pattern = k; start = s; end = n })) (omega (arith, length_of k first.0, ap length first.2))

  -- anchored: patterns shorter than what was read tell nothing
  told_shorter : (list : List ℕ) (n : ℕ) → All (IsShorter p n) list → told lengths Yes 0 n list ≡ None
  told_shorter [] n h = refl
  told_shorter (k ∷ ks) n h =
      let f = All-head (IsShorter p n) k ks h in
      cond-false (eqb (slice_index lengths k) (n - 0)) (Some (record { pattern = k; start = n - slice_index lengths k; end = n })) None
      (ne_eqb (slice_index lengths k) (n - 0) (λ e. omega (arith, f.1, length_of k f.0)))

  -- so the first of the own patterns alone
  told_anchored : (v own rest : List ℕ) (n : ℕ) → own_matches p v ≡ own → n ≡ length v → All (IsShorter p n) rest → told lengths Yes 0 n (own ++ rest) ≡ told_at [] n own
  told_anchored v [] rest n e long h = told_shorter rest n h
  told_anchored v (k ∷ ks) rest n e long h =
      let first = own-first p v k ks e in
      let size : slice_index lengths k ≡ n = omega (arith, length_of k first.0, ap length first.2) in
      cond-true (eqb (slice_index lengths k) (n - 0)) (Some (record { pattern = k; start = n - slice_index lengths k; end = n })) None
      (eq-eqb (slice_index lengths k) (n - 0) (omega arith))
      ∙ ap (λ (s : ℕ). Some (record { pattern = k; start = s; end = n })) (omega arith)

  -- what the state of an anchored search lists
  anchored_list : (v : List ℕ) → (rest : List ℕ) × (matches_of p (cond (is_node p v) (Some v) None) ≡ own_matches p v ++ rest) × All (IsShorter p (length v)) rest
  anchored_list v =
      elim (cases_Bool (is_node p v)) [
        | inl node ↦ (let t = matches-own_first p v in (t.0, ap (matches_of p) (cond-true (is_node p v) (Some v) None node) ∙ t.1, t.2))
        | inr other ↦ (
          [],
          ap (matches_of p) (cond-false (is_node p v) (Some v) None other) ∙ sym (append-nil (own_matches p v) ∙ own-not_node p v other),
          All-nil (IsShorter p (length v)),
        )
      ]

  -- and this is what the held state tells
  told_held_anchored : (v : List ℕ) (n : ℕ) → n ≡ length v → told lengths Yes 0 n (matches_of p (cond (is_node p v) (Some v) None)) ≡ told_at [] n (own_matches p v)
  told_held_anchored v n long =
      let t = anchored_list v in
      ap (told lengths Yes 0 n) t.1 ∙ told_anchored v (own_matches p v) t.0 n refl long (subst (λ (i : ℕ). All (IsShorter p i) t.0) (sym long) t.2)

  -- listed
  anchored_fits : (v : List ℕ) → All (FitsWord p (length v)) (matches_of p (cond (is_node p v) (Some v) None))
  anchored_fits v =
      elim (cases_Bool (is_node p v)) [
        | inl node ↦ subst (λ (s : Option (List ℕ)). All (FitsWord p (length v)) (matches_of p s)) (sym (cond-true (is_node p v) (Some v) None node)) (matches-fit p v (length v) (omega arith))
        | inr other ↦ subst (λ (s : Option (List ℕ)). All (FitsWord p (length v)) (matches_of p s)) (sym (cond-false (is_node p v) (Some v) None other)) (All-nil (FitsWord p (length v)))
      ]

  -- the state of an unanchored search
  state_fits : (v : List ℕ) → All (FitsWord p (length v)) (matches_of p (state_after p v))
  state_fits v = subst (All (FitsWord p (length v))) (sym (matches_of-state_after p v)) (matches-fit p v (length v) (omega arith))

  -- both
  held_fits : (anchored : Anchored) (w : List ℕ) → Fits lengths (length w) (matches_of p (held_after p anchored w))
  held_fits No w = subst (λ (n : ℕ). Fits lengths n (matches_of p (held_after p No w))) (length-folded p w) (fits (matches_of p (held_after p No w)) (length (folded_word p w)) (state_fits (folded_word p w)))
  held_fits Yes w = subst (λ (n : ℕ). Fits lengths n (matches_of p (held_after p Yes w))) (length-folded p w) (fits (matches_of p (held_after p Yes w)) (length (folded_word p w)) (anchored_fits (folded_word p w)))

  -- at the start
  own_of_empty : matches_of_word p [] ≡ own_matches p []
  own_of_empty = matches-root p

  -- what the start tells: the first empty pattern
  start_tells : (anchored : Anchored) → told lengths anchored 0 0 (matches_of p (held_after p anchored [])) ≡ told_at [] 0 (own_matches p [])
  start_tells No = ap (told lengths No 0 0) own_of_empty ∙ told_front [] [] (own_matches p []) 0 refl refl
  start_tells Yes = told_held_anchored [] 0 refl

  -- one byte more, unanchored
  unanchored_further : (w z : List ℕ) (x : ℕ) (r : Option Occurrence) → z ≡ w ++ x ∷ [] → BestIn p No w r → BestIn p No z (better p.kind r (told lengths No 0 (length z) (matches_of p (state_after p z))))
  unanchored_further w z x r more best =
      elim (cases_Bool (is_leftmost p.kind)) [
        | inl leftmost ↦
            (let t = front_of p leftmost z in
            let list : matches_of p (state_after p z) ≡ own_matches p t.1 = matches_of-state_after p z ∙ cond-true (is_leftmost p.kind) (leftmost_matches p z) (suffix_matches p z) leftmost ∙ t.3 in
            let tells : told lengths No 0 (length z) (matches_of p (state_after p z)) ≡ told_at t.0 (length z) (own_matches p t.1) =
            ap (told lengths No 0 (length z)) list ∙ told_front t.0 t.1 (own_matches p t.1) (length z) refl (ap length t.2.parts ∙ length-append t.0 t.1) in
            subst (BestIn p No z) (sym (ap (better p.kind r) tells ∙ better_leftmost p.kind r (told_at t.0 (length z) (own_matches p t.1)) leftmost))
            (best_further p No z w t.0 t.1 x r leftmost more t.2 best))
        | inr standard ↦
            (let list : matches_of p (state_after p z) ≡ suffix_matches p z = matches_of-state_after p z ∙ cond-false (is_leftmost p.kind) (leftmost_matches p z) (suffix_matches p z) standard in
            let tells : told lengths No 0 (length z) (matches_of p (state_after p z)) ≡ told_ending p (length z) (suffix_matches p z) =
            told_unanchored (matches_of p (state_after p z)) (length z) (state_fits z) ∙ ap (told_ending p (length z)) list in
            subst (BestIn p No z) (sym (ap (better p.kind r) tells ∙ better_standard p.kind r (told_ending p (length z) (suffix_matches p z)) standard))
            (standard_further p standard z w x r more best))
      ]

  -- and anchored
  anchored_further : (w z : List ℕ) (x : ℕ) (r : Option Occurrence) → z ≡ w ++ x ∷ [] → BestIn p Yes w r
      → BestIn p Yes z (better p.kind r (told lengths Yes 0 (length z) (matches_of p (cond (is_node p z) (Some z) None))))
  anchored_further w z x r more best =
      let tells = told_held_anchored z (length z) refl in
      let t = told_at [] (length z) (own_matches p z) in
      elim (cases_Bool (is_leftmost p.kind)) [
        | inl leftmost ↦
            subst (BestIn p Yes z) (sym (ap (better p.kind r) tells ∙ better_leftmost p.kind r t leftmost))
            (best_further p Yes z w [] z x r leftmost more (front_anchored p leftmost z) best)
        | inr standard ↦
            subst (BestIn p Yes z) (sym (ap (better p.kind r) tells ∙ better_standard p.kind r t standard))
            (standard_anchored p standard z w x r more best)
      ]

  -- both, by the bytes that were read
  further : (anchored : Anchored) (w : List ℕ) (x : ℕ) (r : Option Occurrence) → BestIn p anchored (folded_word p w) r
      → BestIn p anchored (folded_word p (w ++ x ∷ [])) (better p.kind r (told lengths anchored 0 (length w + 1) (matches_of p (held_after p anchored (w ++ x ∷ [])))))
  further No w x r best =
      subst (λ (n : ℕ). BestIn p No (folded_word p (w ++ x ∷ [])) (better p.kind r (told lengths No 0 n (matches_of p (held_after p No (w ++ x ∷ [])))))) (length-folded p (w ++ x ∷ []) ∙ length_push w x)
      (unanchored_further (folded_word p w) (folded_word p (w ++ x ∷ [])) (folded p x) r (map_push (folded p) w x) best)
  further Yes w x r best =
      subst (λ (n : ℕ). BestIn p Yes (folded_word p (w ++ x ∷ [])) (better p.kind r (told lengths Yes 0 n (matches_of p (held_after p Yes (w ++ x ∷ [])))))) (length-folded p (w ++ x ∷ []) ∙ length_push w x)
      (anchored_further (folded_word p w) (folded_word p (w ++ x ∷ [])) (folded p x) r (map_push (folded p) w x) best)

  -- a leftmost kind that is not dead is near a match's start: the state's word is a node, so no longer than the longest
  -- pattern
  pub length-node : (u : List ℕ) → is_node p u ≡ true → length u ≤ longest lengths
  length-node [] node = omega arith
  length-node (x ∷ u) node =
      let t = is_node-true p x u node in
      omega (arith, begins_length (x ∷ u) (pattern_word p t.0) t.3, length_of t.0 t.1, longest_bound lengths t.0 (omega (arith, t.1, length-map p.words length)))

  -- so what was read since the match's start is no longer than that
  is_near : (w : List ℕ) (s : Option (List ℕ)) (m : Occurrence) → p.kind ≢ Standard → s ≡ held_after p No w → is_none s ≡ false → BestAfter p No w (Some m) → length w ≤ m.start + longest lengths
  is_near w None m other e alive best = cc
  is_near w (Some u) m other e alive best =
      let leftmost = other_than_standard p.kind other in
      let stands = (best_in p No w (Some m) best).0 in
      omega (arith, live-occurrences p (folded_word p w) u m leftmost (sym e) stands, length-folded p w, length-node u (state-is_node p (folded_word p w) u (sym e)))

  -- the word of an anchored state that is not dead is a node
  anchored_is_near : (w : List ℕ) (s : Option (List ℕ)) → s ≡ held_after p Yes w → is_none s ≡ false → length w ≤ longest lengths
  anchored_is_near w s e alive =
      elim (cases_Bool (is_node p (folded_word p w))) [
        | inl node ↦ omega (arith, length-node (folded_word p w) node, length-folded p w)
        | inr other ↦ (let none : s ≡ None = e ∙ cond-false (is_node p (folded_word p w)) (Some (folded_word p w)) None other in cc)
      ]

  -- a dead state keeps the best
  unanchored_keeps : (w y : List ℕ) (r : Option Occurrence) → state_after p w ≡ None → BestIn p No w r → BestIn p No (w ++ y) r
  unanchored_keeps w y r e best =
      let leftmost : is_leftmost p.kind ≡ true = dead_leftmost p w e in
      let t = dead_front p leftmost w e in
      let c = (is_cut-true p t.1 t.3).1 in
      let there : Occurrence = record { pattern = c.0; start = length t.0; end = length t.0 + length (pattern_word p c.0) } in
      let stands : Stands p No w there = stands_at p No w t.0 t.1 c.0 (length t.0 + length (pattern_word p c.0)) t.2 (λ y. cc) c.1 c.2 refl in
      by_best r best leftmost t.0 t.1 t.2 t.4 (λ n o. t.5 y n o) there stands refl
    where
      by_best : (r : Option Occurrence) → BestIn p No w r → is_leftmost p.kind ≡ true → (pre v : List ℕ) → w ≡ pre ++ v → is_node p v ≡ false → ((n : Occurrence) → Stands p No (w ++ y) n → length pre ≤ n.start)
          → (there : Occurrence) → Stands p No w there → there.start ≡ length pre → BestIn p No (w ++ y) r
      by_best None best leftmost pre v parts other first there stands start = λ n o. best there stands
      by_best (Some m) best leftmost pre v parts other first there stands start =
          let more : Stands p No (w ++ y) m = stands_more p No (w ++ y) w y m refl best.0 in
          let here : m.start ≡ length pre = omega (arith, first m more, best_starts p.kind m there leftmost (best.1 there stands)) in (
            more,
            λ n o. elim (cases_lt (length w) n.end) [
              | inr within ↦ best.1 n (stands_less p No (w ++ y) w y n refl within o)
              | inl past ↦
                  elim (cases_lt m.start n.start) [
                    | inl later ↦ inr (before_later p.kind m n leftmost later)
                    | inr same ↦ inr (past_number p No w y pre v parts other (λ z. cc) m n best here o (omega (arith, first n o)) past)
                  ]
            ],
          )

  -- anchored: dead is what is no node
  anchored_keeps : (w y : List ℕ) (r : Option Occurrence) → is_node p w ≡ false → BestIn p Yes w r → BestIn p Yes (w ++ y) r
  anchored_keeps w y None other best =
      λ n o. elim (cases_lt (length w) n.end) [
        | inr within ↦ best n (stands_less p Yes (w ++ y) w y n refl within o)
        | inl past ↦ past_none p Yes w y [] w refl other (λ z. refl) n best o (o.at refl) past
      ]
  anchored_keeps w y (Some m) other best = (
    stands_more p Yes (w ++ y) w y m refl best.0,
    λ n o. elim (cases_lt (length w) n.end) [
      | inr within ↦ best.1 n (stands_less p Yes (w ++ y) w y n refl within o)
      | inl past ↦ inr (past_number p Yes w y [] w refl other (λ z. refl) m n best (best.0.at refl) o (o.at refl) past)
    ],
  )

  -- an anchored state is dead where the word is no node
  not_a_node : (w : List ℕ) → None ≡ cond (is_node p w) (Some w) None → is_node p w ≡ false
  not_a_node w e = elim (cases_Bool (is_node p w)) [ inl node ↦ (let clash : None ≡ Some w = e ∙ cond-true (is_node p w) (Some w) None node in cc) | inr other ↦ other ]

  -- both, by the bytes that were read
  keeps : (anchored : Anchored) (w v : List ℕ) (s : Option (List ℕ)) (r : Option Occurrence) → s ≡ held_after p anchored w → is_none s ≡ true → BestIn p anchored (folded_word p w) r → BestIn p anchored (folded_word p (w ++ v)) r
  keeps anchored w v (Some u) r e dead best = cc
  keeps No w v None r e dead best = subst (λ (z : List ℕ). BestIn p No z r) (sym (map-append (folded p) w v)) (unanchored_keeps (folded_word p w) (folded_word p v) r (sym e) best)
  keeps Yes w v None r e dead best = subst (λ (z : List ℕ). BestIn p Yes z r) (sym (map-append (folded p) w v)) (anchored_keeps (folded_word p w) (folded_word p v) r (not_a_node (folded_word p w) e) best)

  -- a dead state lists nothing
  dead_lists : (s : Option (List ℕ)) → is_none s ≡ true → matches_of p s ≡ []
  dead_lists None h = refl
  dead_lists (Some u) h = cc

  -- the root is the empty word
  root_is : (s : Option (List ℕ)) → is_root s ≡ true → s ≡ Some []
  root_is None h = cc
  root_is (Some []) h = refl
  root_is (Some (x ∷ u)) h = cc

  -- the laws
  pub word_automaton : Reads p p.kind (map length p.words) (λ anchored w s. s ≡ held_after p anchored w) (matches_of p) is_none is_root
  word_automaton = record {
    kind_is = refl;
    lengths_are = refl;
    listed = λ anchored w s e. subst (λ (t : Option (List ℕ)). Fits lengths (length w) (matches_of p t)) (sym e) (held_fits anchored w);
    at_start = λ anchored s e. best_after p anchored [] (told lengths anchored 0 0 (matches_of p s)) (subst (BestIn p anchored []) (sym (ap (λ (t : Option (List ℕ)). told lengths anchored 0 0 (matches_of p t)) e ∙ start_tells anchored)) (best_at_start p anchored));
    after_byte = λ anchored w x s r e best.
        best_after p anchored (w ++ x ∷ []) (better p.kind r (told lengths anchored 0 (length w + 1) (matches_of p s)))
        (subst (λ (t : Option (List ℕ)). BestIn p anchored (folded_word p (w ++ x ∷ [])) (better p.kind r (told lengths anchored 0 (length w + 1) (matches_of p t)))) (sym e) (further anchored w x r (best_in p anchored w r best)));
    dead_lists_none = dead_lists;
    near = is_near;
    anchored_near = anchored_is_near;
    dead_keeps = λ anchored w v s r e dead best. best_after p anchored (w ++ v) r (keeps anchored w v s r e dead (best_in p anchored w r best));
    dead_is = λ w s other e. ap is_none e;
    lists = λ w s is e. ap (matches_of p) e ∙ held-patterns_ending p (ap is_leftmost is) w;
    anchored_lists = λ w s is e alive. ap (matches_of p) e ∙ anchored-lists p (ap is_leftmost is) w (sym (ap is_none e) ∙ alive) ∙ held-patterns_ending p (ap is_leftmost is) w;
    anchored_dead = λ x w s is e. ap is_none e ∙ is_none-held_after p (ap is_leftmost is) x w;
    start_again = λ w s e h. root_is s h;
    start_apart = λ w v s m e h o past. start_half p w v m (sym e ∙ root_is s h) o past;
  }
